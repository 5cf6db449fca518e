use Rattle.std.proofs.Common.{◌≡◌, ◌+◌, ◌++◌, map, drop}
use Rattle.c_tree.specs.Trees.{exprs, stmt}
use Rattle.instrumentation.specs.Body.{index_checks}
use Rattle.instrumentation.specs.Subscripts.{indices_in}
use Rattle.body_builder.proofs.body.add_index_checks.Given as goal

abbrev pub invariant-loop-dimension : goal.invariant-loop-dimension
invariant-loop-dimension l = record {
  next : l.next + indices_in (exprs (drop l.dimension l.at)) ≡ l.first + indices_in (exprs l.at);
  rest : map stmt l.out ++ index_checks l.array (exprs (drop l.dimension l.at)) (exprs (drop l.dimension l.extents)) l.next ≡ map stmt l.fn.out ++ index_checks l.array (exprs l.at) (exprs l.extents) l.first;
}
