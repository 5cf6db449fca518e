use Rattle.std.proofs.Common.{◌≡◌, [], drop, arith}
use Rattle.std.proofs.lemmas.List.{drop_all}
use Rattle.c_tree.specs.Trees.{exprs}
use Rattle.instrumentation.specs.Passes.{coordinates_from}
use Rattle.text_parts.proofs.Lists.{ends_expressions}
use Rattle.unit_builder.proofs.pieces.coordinates.Goals as goal

pub returns : goal.returns
returns c =
    let extents = c.args.extents.now in
    let none_left : drop c.loop-dimension.dimension extents ≡ [] = drop_all c.loop-dimension.dimension extents (omega arith) in
    ends_expressions c.loop-dimension.cell (coordinates_from 0 (exprs extents)) (rw none_left at c.loop-dimension.invariant)
