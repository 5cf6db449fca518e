use Rattle.std.proofs.Common.{◌≡◌, ◌+◌, ◌≤◌, length}
use Rattle.std.specs.Str.Lines.{lines}
use Rattle.data_file.specs.Conditions.{names_in}
use Rattle.data_file.specs.Reading as spec
use Rattle.data_file.proofs.lines.read_inputs.Given as goal

abbrev pub invariant-loop-rest : goal.invariant-loop-rest
invariant-loop-rest l = record {
  read : spec.with_lines (length l.f.ints) (names_in l.f) l.slots.items l.number (lines l.rest) ≡ spec.with_lines (length l.f.ints) (names_in l.f) (spec.no_rows l.f) 0 (lines l.text);
  counted : l.number + length (lines l.rest) ≡ length (lines l.text);
  room : l.number + length l.rest ≤ length l.text;
}

abbrev pub decreases-loop-rest : goal.decreases-loop-rest
decreases-loop-rest l = length l.rest
