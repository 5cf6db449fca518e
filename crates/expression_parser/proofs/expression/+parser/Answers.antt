use Rattle.std.proofs.Common.{rules, arith, ◌≡◌, ℕ, List, length, ◌+◌, ◌-◌, Option, Some, None, ap, sym, ◌∙◌}
use Rattle.std.proofs.lemmas.Grind.{common_steps}
use Rattle.c_tree.specs.Plain.{PlainExpr, PlainExprs}
use Rattle.c_tree.specs.Trees as t
use Rattle.c_tree.proofs.Equations.{expr-Cast}
use Rattle.c_tree.specs.Grammar.Lexemes.{Lexeme}
use Rattle.expression_parser.specs.Terminals.{all_seen}
use Rattle.c_tree.specs.declared.symbol.Symbol.TheVariants as s
use Rattle.grammar_reading.specs.Reading.{expr, lower, climb, cells, closes, close, expect, grouped_by}
use Rattle.grammar_reading.proofs.Complete.{expr_at}
use Rattle.grammar_reading.proofs.Reaches.{lower_is, deep}
use Rattle.expression_parser.proofs.Turns.{one_more, no_more}
use Rattle.expression_parser.proofs.RowLemmas.{behind, last_turn, next_turn, present}
use denote.Param.Weighed.{at_most}
use Rattle.expression_parser.proofs.expression.+parser.Goals as goal

pub climb-returns-in_default : goal.climb-returns-in_default
unfolding climb
climb-returns-in_default w c =
    let e = one_more (λ (n : ℕ). climb c.args.c (expr c.args.c c.args.depth) c.args.low n (t.expr c.loop-turn.left.tree.value) (all_seen c.args.text.now c.loop-turn.rest.now)) _ c.loop-turn._turn c.loop-turn-test.true c.loop-turn.invariant in
    first_of (search rules, grind (arith, common_steps))

pub climb-returns-then-level-low : goal.climb-returns-then-level-low
unfolding climb
climb-returns-then-level-low w c =
    let e = one_more (λ (n : ℕ). climb c.args.c (expr c.args.c c.args.depth) c.args.low n (t.expr c.loop-turn.left.tree.value) (all_seen c.args.text.now c.loop-turn.rest.now)) _ c.loop-turn._turn c.loop-turn-test.true c.loop-turn.invariant in
    first_of (search rules, grind (arith, common_steps))

pub climb-returns-in_err-right : goal.climb-returns-in_err-right
unfolding climb
climb-returns-in_err-right w c =
    let e = one_more (λ (n : ℕ). climb c.args.c (expr c.args.c c.args.depth) c.args.low n (t.expr c.loop-turn.left.tree.value) (all_seen c.args.text.now c.loop-turn.rest.now)) _ c.loop-turn._turn c.loop-turn-test.true c.loop-turn.invariant in
    first_of (search rules, grind (arith, common_steps))

pub climb-returns-in_err-whole : goal.climb-returns-in_err-whole
unfolding climb
climb-returns-in_err-whole w c =
    let e = one_more (λ (n : ℕ). climb c.args.c (expr c.args.c c.args.depth) c.args.low n (t.expr c.loop-turn.left.tree.value) (all_seen c.args.text.now c.loop-turn.rest.now)) _ c.loop-turn._turn c.loop-turn-test.true c.loop-turn.invariant in
    first_of (search rules, grind (arith, common_steps))

pub climb-loop-turn-preserved : goal.climb-loop-turn-preserved
unfolding climb
climb-loop-turn-preserved w c =
    let e = one_more (λ (n : ℕ). climb c.args.c (expr c.args.c c.args.depth) c.args.low n (t.expr c.loop-turn.left.tree.value) (all_seen c.args.text.now c.loop-turn.rest.now)) _ c.loop-turn._turn c.loop-turn-test.true c.loop-turn.invariant in
    first_of (search rules, grind (arith, common_steps))

pub climb-returns : goal.climb-returns
unfolding climb
climb-returns w c =
    let e = no_more (λ (n : ℕ). climb c.args.c (expr c.args.c c.args.depth) c.args.low n (t.expr c.loop-turn.left.tree.value) (all_seen c.args.text.now c.loop-turn.rest.now)) _ c.loop-turn._turn c.loop-turn-test.false c.loop-turn.invariant in
    first_of (search rules, grind (arith, common_steps))

pub cells-returns-in_err-u : goal.cells-returns-in_err-u
unfolding cells
cells-returns-in_err-u w c =
    let e = one_more (λ (n : ℕ). behind (t.exprs c.loop-turn.row.trees) (cells c.args.c (expr c.args.c c.args.depth) n (all_seen c.args.text.now c.loop-turn.rest.now))) _ c.loop-turn._turn c.loop-turn-test.true c.loop-turn.invariant in
    first_of (search rules, grind (arith, common_steps))

pub cells-returns-then-is_none : goal.cells-returns-then-is_none
cells-returns-then-is_none w c =
    let e = one_more (λ (n : ℕ). behind (t.exprs c.loop-turn.row.trees) (cells c.args.c (expr c.args.c c.args.depth) n (all_seen c.args.text.now c.loop-turn.rest.now))) _ c.loop-turn._turn c.loop-turn-test.true c.loop-turn.invariant in
    let stop : expect s.OpenBracket (all_seen c.args.text.now c.in_ok-u.behind.now) ≡ None = first_of (search rules, grind (arith, common_steps)) in
    let turn = last_turn c.args.c (expr c.args.c c.args.depth) (c.args.c.turns - (c.loop-turn._turn + 1)) (t.exprs c.loop-turn.row.trees) (t.expr c.in_ok-u.u.tree.value) (all_seen c.args.text.now c.loop-turn.rest.now) (all_seen c.args.text.now c.in_ok-u.behind.now) c.in_ok-u.ensures stop in
    e ∙ turn ∙ ap (λ (us : PlainExprs). Some (us, all_seen c.args.text.now c.in_ok-u.behind.now)) (sym c.in_ok-row.ensures)

pub cells-loop-turn-preserved : goal.cells-loop-turn-preserved
cells-loop-turn-preserved w c =
    let e = one_more (λ (n : ℕ). behind (t.exprs c.loop-turn.row.trees) (cells c.args.c (expr c.args.c c.args.depth) n (all_seen c.args.text.now c.loop-turn.rest.now))) _ c.loop-turn._turn c.loop-turn-test.true c.loop-turn.invariant in
    let goes : (inside : List Lexeme) × (expect s.OpenBracket (all_seen c.args.text.now c.in_ok-u.behind.now) ≡ Some inside) = present _ _ _ c.after.ensures.value _ c.is_none.ensures c.if-is_none.false in
    let turn = next_turn c.args.c (expr c.args.c c.args.depth) (c.args.c.turns - (c.loop-turn._turn + 1)) (t.exprs c.loop-turn.row.trees) (t.expr c.in_ok-u.u.tree.value) (all_seen c.args.text.now c.loop-turn.rest.now) (all_seen c.args.text.now c.in_ok-u.behind.now) goes.0 c.in_ok-u.ensures goes.1 in
    e ∙ turn ∙ ap (λ (us : PlainExprs). behind us (cells c.args.c (expr c.args.c c.args.depth) (c.args.c.turns - (c.loop-turn._turn + 1)) (all_seen c.args.text.now c.in_ok-u.behind.now))) (sym c.in_ok-row.ensures)

pub cells-returns : goal.cells-returns
unfolding cells
cells-returns w c =
    let e = no_more (λ (n : ℕ). behind (t.exprs c.loop-turn.row.trees) (cells c.args.c (expr c.args.c c.args.depth) n (all_seen c.args.text.now c.loop-turn.rest.now))) _ c.loop-turn._turn c.loop-turn-test.false c.loop-turn.invariant in
    first_of (search rules, grind (arith, common_steps))

pub closes-returns-in_err-whole : goal.closes-returns-in_err-whole
unfolding closes
closes-returns-in_err-whole w c =
    let e = one_more (λ (n : ℕ). closes c.args.c (expr c.args.c c.args.depth) n (t.expr c.loop-turn.left.tree.value) (all_seen c.args.text.now c.loop-turn.rest.now)) _ c.loop-turn._turn c.loop-turn-test.true c.loop-turn.invariant in
    first_of (search rules, grind (arith, common_steps))

pub closes-loop-turn-preserved : goal.closes-loop-turn-preserved
unfolding closes
closes-loop-turn-preserved w c =
    let e = one_more (λ (n : ℕ). closes c.args.c (expr c.args.c c.args.depth) n (t.expr c.loop-turn.left.tree.value) (all_seen c.args.text.now c.loop-turn.rest.now)) _ c.loop-turn._turn c.loop-turn-test.true c.loop-turn.invariant in
    first_of (search rules, grind (arith, common_steps))

pub closes-returns : goal.closes-returns
unfolding closes
closes-returns w c =
    let e = no_more (λ (n : ℕ). closes c.args.c (expr c.args.c c.args.depth) n (t.expr c.loop-turn.left.tree.value) (all_seen c.args.text.now c.loop-turn.rest.now)) _ c.loop-turn._turn c.loop-turn-test.false c.loop-turn.invariant in
    first_of (search rules, grind (arith, common_steps))

pub expression-returns-in_err-first : goal.expression-returns-in_err-first
expression-returns-in_err-first w c =
    let e = expr_at c.args.c c.args.depth c.args.low (all_seen c.args.text.now c.args.ts.now) c.opens-count.result.0 (all_seen c.args.text.now c.opens-count.result.1.now) (omega arith) c.opens-count.ensures.count c.opens-count.ensures.inside in
    first_of (search rules, grind (arith, common_steps))

pub expression-returns-in_err-left : goal.expression-returns-in_err-left
expression-returns-in_err-left w c =
    let e = expr_at c.args.c c.args.depth c.args.low (all_seen c.args.text.now c.args.ts.now) c.opens-count.result.0 (all_seen c.args.text.now c.opens-count.result.1.now) (omega arith) c.opens-count.ensures.count c.opens-count.ensures.inside in
    first_of (search rules, grind (arith, common_steps))

pub expression-returns : goal.expression-returns
expression-returns w c =
    let e = expr_at c.args.c c.args.depth c.args.low (all_seen c.args.text.now c.args.ts.now) c.opens-count.result.0 (all_seen c.args.text.now c.opens-count.result.1.now) (omega arith) c.opens-count.ensures.count c.opens-count.ensures.inside in
    first_of (search rules, grind (arith, common_steps))

pub grouped-lone-requires : goal.grouped-lone-requires
grouped-lone-requires w c = (search (rules, at_most), deep c.args.c c.args.depth 4 (all_seen c.args.text.now c.args.ts.now) _ c.in_ok-a.ensures)

pub lone-returns : goal.lone-returns
lone-returns w c =
    let e = lower_is c.args.c c.args.depth c.requires in
    let whole = expr-Cast c.in_ok-u.u.tree in
    first_of (search rules, grind (arith, common_steps))
