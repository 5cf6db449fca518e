use Rattle.std.proofs.Common.{◌≡◌, ◌++◌, map, drop}
use Rattle.c_tree.specs.Trees.{exprs, stmt}
use Rattle.instrumentation.specs.Passes.{count_indices}
use Rattle.text_parts.specs.Around.{names_of}
use Rattle.pass_builder.specs.Counted.{target_of}
use Rattle.text_parts.specs.Numbered.{numbers}
use Rattle.pass_builder.proofs.passes.Pass.index_reads.Given as goal

abbrev pub invariant-loop-e : goal.invariant-loop-e
invariant-loop-e l =
    map stmt l.out ++ count_indices (numbers l.self.params.now) (target_of l.self) (names_of l.loops) (exprs (drop l.e-index l.e-items))
    ≡ map stmt l.fn.out ++ count_indices (numbers l.self.params.now) (target_of l.self) (names_of l.loops) (exprs l.e-items)
