use Rattle.std.proofs.Common.{◌≡◌, length}
use Rattle.sites.specs.Variables.{is_increasing_from}
use Rattle.sites.proofs.variables.is_increasing.Given as goal

abbrev pub invariant-loop-left : goal.invariant-loop-left
invariant-loop-left l = is_increasing_from 1 l.fn.numbers ≡ is_increasing_from l.least l.left

abbrev pub decreases-loop-left : goal.decreases-loop-left
decreases-loop-left l = length l.left
