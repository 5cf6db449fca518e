use Rattle.std.proofs.Common.{◌≡◌, ◌++◌, map, drop}
use Rattle.c_tree.specs.Trees.{expr, exprs}
use Rattle.instrumentation.specs.Tables.{words_at}
use Rattle.text_parts.specs.Around.{names_of}
use Rattle.text_parts.proofs.cells.words_at.Given as goal

abbrev pub invariant-loop-dimension : goal.invariant-loop-dimension
invariant-loop-dimension l =
    map expr l.words ++ words_at (names_of l.loops) l.dimension (exprs (drop l.dimension l.at)) ≡ words_at (names_of l.loops) 0 (exprs l.at)
