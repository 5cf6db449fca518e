use Rattle.scopes.specs.Scopes.{declared_in}
use Rattle.unit_checks.proofs.RangeLines.{bad_is}
use Rattle.unit_checks.proofs.ranges.head_has_bad_range.Goals as goal

pub returns : goal.returns
returns c = bad_is (declared_in c.args.declared.now).ranges (declared_in c.args.declared.now).params c.in_ok-name_each.field-0 c.are_ranges.result c.are_ranges.ensures c.if-not-are_ranges.false c.in_ok-name_each.ensures
