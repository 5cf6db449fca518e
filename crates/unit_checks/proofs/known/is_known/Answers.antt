use Rattle.std.proofs.Common.{sym, ◌∙◌}
use Rattle.unit_checks.proofs.Lists.{known_before}
use Rattle.unit_checks.proofs.known.is_known.Goals as goal

pub returns-in-Before : goal.returns-in-Before
returns-in-Before c = rw c.in-Before.is (c.contains.ensures ∙ sym (known_before c.in-Before.names.now c.args.name.now.bytes))
