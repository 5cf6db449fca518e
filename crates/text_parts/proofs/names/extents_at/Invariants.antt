use Rattle.std.proofs.Common.{◌≡◌, map, drop}
use Rattle.c_tree.specs.Trees.{param}
use Rattle.instrumentation.specs.Guarded.{arrays_with_extents}
use Rattle.text_parts.specs.Extents.{declared_extents}
use Rattle.text_parts.proofs.names.extents_at.Given as goal

abbrev pub invariant-loop-p : goal.invariant-loop-p
invariant-loop-p l = declared_extents (arrays_with_extents (map param (drop l.p-index l.params))) l.left ≡ declared_extents (arrays_with_extents (map param l.params)) l.array
