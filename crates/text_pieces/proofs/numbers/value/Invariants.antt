use Rattle.std.proofs.Common.{◌≡◌, ◌<◌, ◌^◌, drop}
use Rattle.std.specs.Str.Parse.{digits_value, digits_value_after}
use Rattle.text_pieces.proofs.numbers.value.Given as goal

abbrev pub invariant-digits : goal.invariant-digits
invariant-digits l = (digits_value_after l.base l.value (drop l.b-index l.digits) ≡ digits_value l.base l.digits) × (l.value < 2 ^ 64)
