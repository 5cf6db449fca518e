use Rattle.std.proofs.Common.{◌≡◌, ◌++◌, map, drop}
use Rattle.c_tree.specs.Trees.{expr, exprs}
use Rattle.instrumentation.specs.Passes.{coordinates_from}
use Rattle.instrumentation.specs.Tables.{words_from}
use Rattle.text_parts.proofs.cells.coordinate_words.Given as goal

abbrev pub invariant-loop-dimension : goal.invariant-loop-dimension
invariant-loop-dimension l =
    map expr l.words ++ words_from (coordinates_from l.dimension (exprs (drop l.dimension l.extents))) ≡ words_from (coordinates_from 0 (exprs l.extents))
