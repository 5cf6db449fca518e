use Rattle.std.proofs.Common.{◌≡◌, ◌++◌, drop, map}
use Rattle.c_tree.specs.Names.{arrays_in, words}
use Rattle.c_tree.specs.Trees.{param}
use Rattle.c_tree.proofs.unit.array_names.Given as goal

abbrev pub invariant-loop-p : goal.invariant-loop-p
invariant-loop-p l = words l.names ++ arrays_in (map param (drop l.p-index l.params)) ≡ arrays_in (map param l.params)
