use Rattle.std.proofs.Common.{◌≡◌, ◌≤◌, ◌++◌, drop}
use Rattle.c_printer.specs.Powers as powers
use Rattle.c_printer.proofs.power.twice.Given as goal

abbrev pub invariant-loop-digit : goal.invariant-loop-digit
invariant-loop-digit l = (l.carry ≤ 56) × (l.doubled.items ++ powers.twice l.digit-index l.carry (drop l.digit-index l.digits) ≡ powers.twice 0 0 l.digits)
