use Rattle.std.proofs.Common.{◌∙◌, ap}
use Rattle.c_printer.specs.Powers.{twice}
use Rattle.c_printer.proofs.Powers.{first_digits, twice_power}
use Rattle.c_printer.proofs.power.index_bit.Goals as goal

pub loop-doubling-init : goal.loop-doubling-init
loop-doubling-init c = c.in_ok-digits.ensures.items ∙ first_digits

pub loop-doubling-preserved : goal.loop-doubling-preserved
loop-doubling-preserved c =
    c.in_ok-digits-2.ensures ∙ ap (twice 0 0) (c.as_slice.ensures.value ∙ c.loop-doubling.invariant) ∙ twice_power 16 c.loop-doubling._doubling
