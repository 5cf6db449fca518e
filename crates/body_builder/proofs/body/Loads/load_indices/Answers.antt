use Rattle.std.proofs.Common.{◌+◌, ◌++◌, drop, map, sym, ap, ◌∙◌}
use Rattle.c_tree.specs.Plain.{PlainExprs}
use Rattle.c_tree.specs.Trees.{exprs, stmt}
use Rattle.instrumentation.specs.Body.{index_loads}
use Rattle.instrumentation.specs.Subscripts.{indices_in}
use Rattle.text_parts.specs.Numbered.{numbers}
use Rattle.body_builder.proofs.Fronts.{expressions_left}
use Rattle.body_builder.proofs.body.Loads.load_indices.Goals as goal

pub loop-e-preserved : goal.loop-e-preserved
loop-e-preserved c =
    let items = c.as_slice-e-items.result.now in
    let left : PlainExprs = exprs (drop (c.loop-e.e-index + 1) items) in
    let here = expressions_left items c.loop-e.e-index c.e-item.result c.loop-e-test.true c.e-item.is in
    record {
      next = c.in_ok-load_index.ensures.next left ∙ ap (λ (es : PlainExprs). c.loop-e.self.next + indices_in es) (sym here) ∙ c.loop-e.invariant.next;
      rest = c.in_ok-load_index.ensures.loads left ∙ ap (λ (es : PlainExprs). map stmt c.loop-e.self.out ++ index_loads (numbers c.args.params.now) es c.loop-e.self.next) (sym here) ∙ c.loop-e.invariant.rest;
    }
