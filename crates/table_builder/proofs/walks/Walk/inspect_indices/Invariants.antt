use Rattle.std.proofs.Common.{◌≡◌, ◌++◌, map, drop}
use Rattle.c_tree.specs.Trees.{exprs, stmt}
use Rattle.instrumentation.specs.Tables.{inspect_indices}
use Rattle.text_parts.specs.Around.{names_of}
use Rattle.text_parts.specs.Numbered.{numbers}
use Rattle.table_builder.proofs.walks.Walk.inspect_indices.Given as goal

abbrev pub invariant-loop-e : goal.invariant-loop-e
invariant-loop-e l =
    map stmt l.out ++ inspect_indices (numbers l.self.params.now) l.self.array (exprs l.self.extents.now) (names_of l.loops) (exprs (drop l.e-index l.e-items))
    ≡ map stmt l.fn.out ++ inspect_indices (numbers l.self.params.now) l.self.array (exprs l.self.extents.now) (names_of l.loops) (exprs l.e-items)
