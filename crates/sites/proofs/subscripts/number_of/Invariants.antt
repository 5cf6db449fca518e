use Rattle.std.proofs.Common.{◌≡◌, ◌+◌, ℕ, drop}
use Rattle.std.specs.List.{slice_get}
use Rattle.c_tree.specs.Names.{words}
use Rattle.sites.proofs.subscripts.number_of.Given as goal

abbrev pub invariant-loop-other : goal.invariant-loop-other
invariant-loop-other l = (j : ℕ) → slice_get (words l.arrays) (l.number + j) ≡ slice_get (words (drop l.other-index l.arrays)) j
