use Rattle.std.proofs.Common.{◌≡◌, ◌++◌, map, drop}
use Rattle.c_tree.specs.Trees.{expr, exprs}
use Rattle.instrumentation.specs.Passes.{coordinates_from}
use Rattle.text_parts.proofs.Lists.{expressions_of}
use Rattle.unit_builder.proofs.pieces.coordinates.Given as goal

abbrev pub invariant-loop-dimension : goal.invariant-loop-dimension
invariant-loop-dimension l =
    map expr l.cell ++ expressions_of (coordinates_from l.dimension (exprs (drop l.dimension l.extents))) ≡ expressions_of (coordinates_from 0 (exprs l.extents))
