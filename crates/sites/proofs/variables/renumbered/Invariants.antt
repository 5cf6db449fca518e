use Rattle.std.proofs.Common.{◌≡◌, ◌++◌, drop}
use Rattle.sites.specs.Variables as spec
use Rattle.sites.proofs.variables.renumbered.Given as goal

abbrev pub invariant-loop-i : goal.invariant-loop-i
invariant-loop-i l = l.out ++ spec.renumbered l.numbers (drop l.i-index l.terms) ≡ spec.renumbered l.numbers l.terms
