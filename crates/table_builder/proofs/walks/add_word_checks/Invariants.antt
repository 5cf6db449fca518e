use Rattle.std.proofs.Common.{◌≡◌, ◌++◌, map, drop}
use Rattle.c_tree.specs.Trees.{exprs, stmt}
use Rattle.instrumentation.specs.Tables.{word_checks}
use Rattle.table_builder.proofs.walks.add_word_checks.Given as goal

abbrev pub invariant-loop-dimension : goal.invariant-loop-dimension
invariant-loop-dimension l =
    map stmt l.out ++ word_checks l.array l.dimension (exprs (drop l.dimension l.at)) (exprs (drop l.dimension l.extents)) ≡ map stmt l.fn.out ++ word_checks l.array 0 (exprs l.at) (exprs l.extents)
