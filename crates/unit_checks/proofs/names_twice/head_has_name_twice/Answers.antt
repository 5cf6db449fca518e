use Rattle.std.proofs.Common.{ap, sym, ◌∙◌}
use Rattle.scopes.specs.Scopes.{declared_in}
use Rattle.unit_checks.specs.Repeats.{names_at}
use Rattle.unit_checks.proofs.Twice.{twice_here, once_here}
use Rattle.unit_checks.proofs.names_twice.head_has_name_twice.Goals as goal

pub returns-in-None : goal.returns-in-None
returns-in-None c =
    twice_here (declared_in c.args.declared.now) (names_at c.as_slice.result.now) (ap names_at c.as_slice.ensures ∙ c.in_ok-names.ensures) (sym c.in-None.is ∙ c.in_ok-distinct.ensures)

pub returns : goal.returns
returns c =
    once_here (declared_in c.args.declared.now) (names_at c.as_slice.result.now) c.in-Some.field-0 (ap names_at c.as_slice.ensures ∙ c.in_ok-names.ensures) (sym c.in-Some.is ∙ c.in_ok-distinct.ensures)
