use Rattle.std.proofs.Common.{◌≡◌, ◌+◌, ◌++◌, map, drop}
use Rattle.c_tree.specs.Trees.{exprs, stmt}
use Rattle.instrumentation.specs.Body.{index_loads}
use Rattle.instrumentation.specs.Subscripts.{indices_in}
use Rattle.text_parts.specs.Numbered.{numbers}
use Rattle.body_builder.proofs.body.Loads.load_indices.Given as goal

abbrev pub invariant-loop-e : goal.invariant-loop-e
invariant-loop-e l = record {
  next : l.self.next + indices_in (exprs (drop l.e-index l.e-items)) ≡ l.fn.self.next + indices_in (exprs l.e-items);
  rest : map stmt l.self.out ++ index_loads (numbers l.params) (exprs (drop l.e-index l.e-items)) l.self.next ≡ map stmt l.fn.self.out ++ index_loads (numbers l.params) (exprs l.e-items) l.fn.self.next;
}
