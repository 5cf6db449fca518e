use Rattle.std.proofs.Common.{◌≡◌, ◌+◌, ◌^◌}
use Rattle.c_printer.specs.Powers.{all_digits}
use Rattle.c_printer.proofs.power.index_bit.Given as goal

abbrev pub invariant-loop-doubling : goal.invariant-loop-doubling
invariant-loop-doubling l = l.digits.items ≡ all_digits (2 ^ (16 + l._doubling))
