use Rattle.std.proofs.Common.{◌≡◌, length}
use Rattle.fault_plan.specs.Meaning.{visible_lines}
use Rattle.fault_plan.proofs.lines.first_visible.Given as goal

abbrev pub invariant-loop-rest : goal.invariant-loop-rest
invariant-loop-rest l = visible_lines l.rest ≡ visible_lines l.text

abbrev pub decreases-loop-rest : goal.decreases-loop-rest
decreases-loop-rest l = length l.rest
