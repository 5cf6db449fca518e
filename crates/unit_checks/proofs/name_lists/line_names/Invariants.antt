use Rattle.std.proofs.Common.{◌≡◌, ◌++◌, drop}
use Rattle.unit_checks.specs.Repeats.{names_at, names_of_lines, plain_lines}
use Rattle.unit_checks.proofs.name_lists.line_names.Given as goal

abbrev pub invariant-loop-name : goal.invariant-loop-name
invariant-loop-name l = names_at l.names ++ names_of_lines (plain_lines (drop l.name-index l.lines)) ≡ names_of_lines (plain_lines l.lines)
