use Rattle.std.proofs.Common.{vec_len}
use Rattle.c_printer.specs.Powers.{digits_text}
use Rattle.text_writer.specs.Written.{fixed, left_to_add}
use Rattle.c_printer.proofs.text.put_digits.Given as goal

abbrev pub invariant-loop-digit : goal.invariant-loop-digit
invariant-loop-digit l = left_to_add l.fn.out l.out (fixed (digits_text l.fn.digits.items)) (fixed (digits_text l.digits.items))

abbrev pub decreases-loop-digit : goal.decreases-loop-digit
decreases-loop-digit l = vec_len l.digits
