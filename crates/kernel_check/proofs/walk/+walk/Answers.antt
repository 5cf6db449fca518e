use Rattle.std.proofs.Common.{◌+◌, ◌<◌, ◌^◌, drop, length, ap, ◌∙◌, sym, subst, List}
use Rattle.std.proofs.lemmas.Result.{err_from_is_err_and}
use Rattle.c_tree.specs.Trees.{expr, stmt, stmts, tests}
use Rattle.acceptance.specs.Items.{Item}
use Rattle.kernel_check.specs.Conditions.{excess}
use Rattle.kernel_check.specs.Items.{inner, inner_all}
use Rattle.kernel_check.specs.Scans.{scan}
use Rattle.scopes.specs.Scopes.{declared_in, loops_in}
use Rattle.kernel_check.proofs.Walks.{stmt_if, stmt_for, if_err, if_ok, for_walked, list_err, list_ok, inner_next}
use Rattle.kernel_check.proofs.walk.+walk.Goals as goal

pub first_in-returns-in_err-next-in-If : goal.first_in-returns-in_err-next-in-If
first_in-returns-in_err-next-in-If t c =
    let p = err_from_is_err_and c.from_residual-in_err-next-in-If.result c.from_residual-in_err-next-in-If.ensures.1 in
    rw (p.1, p.2) (if_err (excess c.args.check (declared_in c.args.sc.now.declared.now)) c.args.at _ (stmt c.args.s.now) (loops_in c.args.sc.now.around.now) c.args.sc.now.tables.now
    c.after-in-If.ensures c.in_ok-met_at-in-If.ensures (tests c.in-If.tests) (stmts c.in-If.then) (stmts c.in-If.other)
    (stmt_if c.args.s.now c.in-If.tests c.in-If.then c.in-If.other c.in-If.is) c.in_err-next-in-If.field-0.0 c.in_err-next-in-If.ensures)

pub first_in-returns-in_ok-met_at-in-For : goal.first_in-returns-in_ok-met_at-in-For
first_in-returns-in_ok-met_at-in-For t c =
    for_walked (excess c.args.check (declared_in c.args.sc.now.declared.now)) c.args.at _ (stmt c.args.s.now) (loops_in c.args.sc.now.around.now) c.args.sc.now.tables.now
    c.after.ensures c.in_ok-met_at-in-For.ensures c.in-For.var.bytes (expr c.in-For.lo) c.in-For.rel (expr c.in-For.hi) (stmts c.in-For.body)
    (stmt_for c.args.s.now c.in-For.var c.in-For.lo c.in-For.rel c.in-For.hi c.in-For.body c.in-For.is) c.first_in_all.result c.first_in_all.ensures

pub first_in-returns-in_ok-next-in-If : goal.first_in-returns-in_ok-next-in-If
first_in-returns-in_ok-next-in-If t c =
    if_ok (excess c.args.check (declared_in c.args.sc.now.declared.now)) c.args.at _ (stmt c.args.s.now) (loops_in c.args.sc.now.around.now) c.args.sc.now.tables.now
    c.after-in-If.ensures c.in_ok-met_at-in-If.ensures (tests c.in-If.tests) (stmts c.in-If.then) (stmts c.in-If.other)
    (stmt_if c.args.s.now c.in-If.tests c.in-If.then c.in-If.other c.in-If.is) c.in_ok-next-in-If.next c.first_in_all-in-If-2.result c.in_ok-next-in-If.ensures c.first_in_all-in-If-2.ensures

pub first_in_all-returns-in_err-next : goal.first_in_all-returns-in_err-next
first_in_all-returns-in_err-next t c room =
    let p = err_from_is_err_and c.from_residual.result c.from_residual.ensures.1 in
    let f = excess c.args.check (declared_in c.args.sc.now.declared.now) in
    let ls = loops_in c.args.sc.now.around.now in
    let ts = c.args.sc.now.tables.now in
    let xs = c.as_slice-s-items.result.now in
    let split = inner_next xs c.loop-s.s-index c.s-item.result ls ts c.loop-s-test.true c.s-item.is in
    let same = ap (λ l. inner_all (stmts l) ls ts) c.as_slice-s-items.ensures in
    let g = c.loop-s.invariant (subst (λ (l : List Item). c.args.at + length l < 2 ^ 31) (sym same) room) in
    rw (p.1, p.2) (list_err f c.loop-s.next (inner (stmt c.s-item.result) ls ts) (inner_all (stmts (drop (c.loop-s.s-index + 1) xs)) ls ts)
    (subst (λ (l : List Item). c.loop-s.next + length l < 2 ^ 31) split g.0) _ c.in_err-next.field-0.0
    (ap (scan f c.args.at) (sym same) ∙ g.1 ∙ ap (scan f c.loop-s.next) split) c.in_err-next.ensures)

pub first_in_all-loop-s-preserved : goal.first_in_all-loop-s-preserved
first_in_all-loop-s-preserved t c room =
    let f = excess c.args.check (declared_in c.args.sc.now.declared.now) in
    let ls = loops_in c.args.sc.now.around.now in
    let ts = c.args.sc.now.tables.now in
    let xs = c.as_slice-s-items.result.now in
    let split = inner_next xs c.loop-s.s-index c.s-item.result ls ts c.loop-s-test.true c.s-item.is in
    let g = c.loop-s.invariant room in
    list_ok f c.loop-s.next (inner (stmt c.s-item.result) ls ts) (inner_all (stmts (drop (c.loop-s.s-index + 1) xs)) ls ts)
    (subst (λ (l : List Item). c.loop-s.next + length l < 2 ^ 31) split g.0) _ c.in_ok-next.next
    (g.1 ∙ ap (scan f c.loop-s.next) split) c.in_ok-next.ensures
