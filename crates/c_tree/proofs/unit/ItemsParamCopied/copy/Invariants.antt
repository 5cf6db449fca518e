use Rattle.std.proofs.Common.{◌≡◌, map, take}
use Rattle.c_tree.specs.Trees.{param}
use Rattle.c_tree.proofs.unit.ItemsParamCopied.copy.Given as goal

abbrev pub invariant-loop-p : goal.invariant-loop-p
invariant-loop-p l = map param l.copies ≡ map param (take l.p-index l.p-items)
