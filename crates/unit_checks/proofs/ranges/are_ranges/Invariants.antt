use Rattle.std.proofs.Common.{◌≡◌, ◌&&◌, Bool, ℤ, drop}
use Rattle.std.specs.List.{list_all}
use Rattle.c_tree.specs.Plain.{Word}
use Rattle.acceptance.specs.Head.{is_range}
use Rattle.acceptance.specs.Items.{is_int}
use Rattle.scopes.specs.Scopes.{declared_in}
use Rattle.unit_checks.specs.Repeats.{plain_lines}
use Rattle.unit_checks.proofs.ranges.are_ranges.Given as goal

abbrev pub invariant-loop-name : goal.invariant-loop-name
invariant-loop-name l =
    let fits : Word × ℤ × ℤ → Bool = λ r. is_int (declared_in l.declared).params r.0 && is_range (r.1, r.2) in
    list_all fits (plain_lines l.name-items) ≡ list_all fits (plain_lines (drop l.name-index l.name-items))
