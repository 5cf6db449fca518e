use Rattle.std.proofs.Common.{◌≡◌, [], map, drop}
use Rattle.c_tree.specs.Plain.{int_param}
use Rattle.c_tree.specs.Trees.{param}
use Rattle.acceptance.specs.Head.{extents_known}
use Rattle.unit_checks.proofs.known.extents_known.Given as goal

abbrev pub invariant-loop-p : goal.invariant-loop-p
invariant-loop-p l = extents_known [] (map param l.params) ≡ extents_known (map int_param l.before) (map param (drop l.p-index l.params))
