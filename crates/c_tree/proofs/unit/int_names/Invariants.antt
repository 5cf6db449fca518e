use Rattle.std.proofs.Common.{◌≡◌, ◌++◌, drop, map}
use Rattle.c_tree.specs.Names.{ints_in, words}
use Rattle.c_tree.specs.Trees.{param}
use Rattle.c_tree.proofs.unit.int_names.Given as goal

abbrev pub invariant-loop-p : goal.invariant-loop-p
invariant-loop-p l = words l.names ++ ints_in (map param (drop l.p-index l.params)) ≡ ints_in (map param l.params)
