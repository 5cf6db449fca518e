use Rattle.std.proofs.Common.{◌≡◌, ◌++◌, map, drop}
use Rattle.c_tree.specs.Trees.{exprs, stmt}
use Rattle.instrumentation.specs.Tables.{index_words}
use Rattle.text_parts.specs.Around.{names_of}
use Rattle.table_builder.proofs.walks.add_index_words.Given as goal

abbrev pub invariant-loop-dimension : goal.invariant-loop-dimension
invariant-loop-dimension l =
    map stmt l.out ++ index_words (names_of l.loops) l.dimension (exprs (drop l.dimension l.at)) ≡ map stmt l.fn.out ++ index_words (names_of l.loops) 0 (exprs l.at)
