use Rattle.std.proofs.Common.{◌≡◌, map, drop}
use Rattle.c_tree.specs.Trees.{param}
use Rattle.acceptance.specs.Printed.{extents_signed}
use Rattle.unit_checks.specs.Places.{names_in}
use Rattle.unit_checks.proofs.wrong_kinds.extents_signed.Given as goal

abbrev pub invariant-loop-p : goal.invariant-loop-p
invariant-loop-p l = extents_signed (names_in l.place) (map param l.params) ≡ extents_signed (names_in l.place) (map param (drop l.p-index l.params))
