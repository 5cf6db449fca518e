use Rattle.std.proofs.Common.{◌+◌, ◌^◌, ◌++◌, ◌∙◌, ap}
use Rattle.c_printer.specs.Powers.{digits_text}
use Rattle.c_printer.proofs.Powers.{text_is}
use Rattle.text_writer.proofs.Writes.{same_adds}
use Rattle.c_printer.proofs.text.put_index_bit.Goals as goal

pub returns-in-Ok : goal.returns-in-Ok
returns-in-Ok c =
    same_adds c.args.out.now c.put_digits.new.out _ _ c.put_digits.ensures
    (λ rest. ap (λ t. t ++ rest) (ap digits_text c.in-Ok.ensures ∙ text_is (2 ^ (16 + c.args.array))))
