use Rattle.std.proofs.Common.{◌≡◌, ◌+◌, ◌++◌, map, drop}
use Rattle.c_tree.specs.Trees.{expr, exprs}
use Rattle.instrumentation.specs.Body.{by_words}
use Rattle.instrumentation.specs.Subscripts.{indices_in}
use Rattle.text_parts.proofs.Lists.{expressions_of}
use Rattle.body_builder.proofs.body.by_words.Given as goal

abbrev pub invariant-loop-e : goal.invariant-loop-e
invariant-loop-e l = record {
  next : l.next + indices_in (exprs (drop l.e-index l.e-items)) ≡ l.first + indices_in (exprs l.e-items);
  rest : map expr l.made ++ expressions_of (by_words (exprs (drop l.e-index l.e-items)) l.next) ≡ expressions_of (by_words (exprs l.e-items) l.first);
}
