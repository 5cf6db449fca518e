use Rattle.std.proofs.Common.{sym, ◌∙◌}
use Rattle.unit_checks.specs.Repeats.{names_at}
use Rattle.unit_checks.proofs.Twice.{found, none_kept}
use Rattle.unit_checks.proofs.name_lists.distinct.Goals as goal

pub returns-then-contains : goal.returns-then-contains
returns-then-contains c = none_kept (names_at c.args.names.now) (
    found c.args.names.now c.last_first.at c.index-names-at.result c.last_first.seen c.last_first-test.true c.last_first.invariant.within c.index-names-at.is c.last_first.invariant.seen
    (sym c.contains.ensures ∙ c.if-contains.true))
