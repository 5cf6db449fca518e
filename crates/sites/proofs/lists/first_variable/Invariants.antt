use Rattle.std.proofs.Common.{◌≡◌, ◌+◌, suc, length, drop, map}
use Rattle.c_tree.specs.Names.{ints_in}
use Rattle.c_tree.specs.Trees.{param}
use Rattle.sites.proofs.lists.first_variable.Given as goal

abbrev pub invariant-loop-p : goal.invariant-loop-p
invariant-loop-p l = l.number + length (ints_in (map param (drop l.p-index l.params))) ≡ suc (length (ints_in (map param l.params)))
