use Rattle.std.proofs.Common.{◌+◌, ◌<◌, ◌^◌, [], drop, length, ap, ◌∙◌, sym, subst, List}
use Rattle.std.proofs.lemmas.Result.{err_from_is_err_and}
use Rattle.c_tree.specs.Plain.{Word}
use Rattle.c_tree.specs.Trees.{stmt, stmts}
use Rattle.acceptance.specs.Items.{Item, items_all, tables_after}
use Rattle.kernel_check.specs.Conditions.{excess}
use Rattle.kernel_check.specs.Items.{inner}
use Rattle.kernel_check.specs.Scans.{scan}
use Rattle.scopes.specs.Scopes.{declared_in}
use Rattle.kernel_check.proofs.Flat.{flat_here, items_here}
use Rattle.kernel_check.proofs.Walks.{list_err, list_ok}
use Rattle.kernel_check.proofs.top.walked.Goals as goal

pub returns-in_err-next : goal.returns-in_err-next
returns-in_err-next c room =
    let p = err_from_is_err_and c.from_residual.result c.from_residual.ensures.1 in
    let f = excess c.args.check (declared_in c.args.declared.now) in
    let ts = c.loop-s.tables in
    let xs = c.as_slice-s-items.result.now in
    let k = c.loop-s.s-index in
    let flat = flat_here xs k c.s-item.result c.loop-s-test.true c.s-item.is c.loop-s.invariant.0 in
    let split = items_here xs k c.s-item.result c.loop-s-test.true c.s-item.is ts flat.0 in
    let same = ap (λ l. items_all (stmts l) [] []) c.as_slice-s-items.ensures in
    let g = c.loop-s.invariant.1 (subst (λ (l : List Item). 1 + length l < 2 ^ 31) (sym same) room) in
    rw (p.1, p.2) (list_err f c.loop-s.next (inner (stmt c.s-item.result) [] ts) (items_all (stmts (drop (k + 1) xs)) [] (tables_after (stmt c.s-item.result) ts))
    (subst (λ (l : List Item). c.loop-s.next + length l < 2 ^ 31) split g.0) _ c.in_err-next.field-0.0
    (ap (scan f 1) (sym same) ∙ g.1 ∙ ap (scan f c.loop-s.next) split) c.in_err-next.ensures)

pub loop-s-preserved : goal.loop-s-preserved
loop-s-preserved c =
    let f = excess c.args.check (declared_in c.args.declared.now) in
    let ts = c.loop-s.tables in
    let xs = c.as_slice-s-items.result.now in
    let k = c.loop-s.s-index in
    let flat = flat_here xs k c.s-item.result c.loop-s-test.true c.s-item.is c.loop-s.invariant.0 in
    let split = items_here xs k c.s-item.result c.loop-s-test.true c.s-item.is ts flat.0 in (
      flat.1,
      λ room.
          let g = c.loop-s.invariant.1 room in
          let moved = ap (λ (ws : List Word). items_all (stmts (drop (k + 1) xs)) [] ws) (sym c.in_ok-noted.ensures) in
          let more = list_ok f c.loop-s.next (inner (stmt c.s-item.result) [] ts) (items_all (stmts (drop (k + 1) xs)) [] (tables_after (stmt c.s-item.result) ts))
          (subst (λ (l : List Item). c.loop-s.next + length l < 2 ^ 31) split g.0) _ c.in_ok-next.next
          (g.1 ∙ ap (scan f c.loop-s.next) split) c.in_ok-next.ensures in
          (subst (λ (l : List Item). c.in_ok-next.next + length l < 2 ^ 31) moved more.0, more.1 ∙ ap (scan f c.in_ok-next.next) moved),
    )
