use Rattle.std.proofs.Common.{rules, arith, ◌≡◌, ℕ, suc, List, ◌+◌, ◌-◌, ◌≤◌, Option, Some, None, ap, sym, ◌∙◌, subst}
use Rattle.std.proofs.lemmas.Grind.{common_steps}
use Rattle.c_tree.specs.Trees as t
use Rattle.c_tree.specs.Grammar.Lexemes.{Lexeme}
use Rattle.expression_parser.specs.Terminals.{all_seen}
use Rattle.grammar_reading.specs.Reading.{expr, front_rel, seek}
use Rattle.expression_parser.proofs.Seeks.{seek_found, seek_next, seek_no_climb, seek_no_close, seek_none}
use Rattle.expression_parser.proofs.condition.seek.Goals as goal

pub returns-in_err-a : goal.returns-in_err-a
returns-in_err-a c =
    let none = seek_no_climb c.args.c (expr c.args.c c.args.depth) (c.args.count - c.loop-turn.turn) (t.expr c.loop-turn.left.tree.value) (all_seen c.args.text.now c.loop-turn.rest.now) in
    first_of (search rules, grind (arith, common_steps))

pub returns-in-Some : goal.returns-in-Some
returns-in-Some c =
    c.loop-turn.invariant ∙ seek_found c.args.c (expr c.args.c c.args.depth) (c.args.count - c.loop-turn.turn) (t.expr c.loop-turn.left.tree.value) (t.expr c.in_ok-a.a.tree.value) (all_seen c.args.text.now c.loop-turn.rest.now) (all_seen c.args.text.now c.in_ok-a.behind.now) c.in-Some.rel c.in_ok-a.ensures c.in-Some.ensures.0
    ∙ ap (λ (z : List Lexeme). Some ((c.args.count - c.loop-turn.turn, c.in-Some.rel, t.expr c.in_ok-a.a.tree.value), z)) (sym c.in-Some.ensures.1)

pub returns-in_err-u : goal.returns-in_err-u
returns-in_err-u c =
    let stop : front_rel (all_seen c.args.text.now c.in_ok-a.behind.now) ≡ None = first_of (search rules, grind (arith, common_steps)) in
    let none = seek_no_close c.args.c (expr c.args.c c.args.depth) (c.args.count - c.loop-turn.turn) (t.expr c.loop-turn.left.tree.value) (t.expr c.in_ok-a.a.tree.value) (all_seen c.args.text.now c.loop-turn.rest.now) (all_seen c.args.text.now c.in_ok-a.behind.now) c.in_ok-a.ensures stop in
    first_of (search rules, grind (arith, common_steps))

pub loop-turn-preserved : goal.loop-turn-preserved
loop-turn-preserved c =
    let stop : front_rel (all_seen c.args.text.now c.in_ok-a.behind.now) ≡ None = first_of (search rules, grind (arith, common_steps)) in
    let e : c.args.count - c.loop-turn.turn - 1 ≡ c.args.count - (c.loop-turn.turn + 1) = omega arith in
    c.loop-turn.invariant ∙ seek_next c.args.c (expr c.args.c c.args.depth) (c.args.count - c.loop-turn.turn) (t.expr c.loop-turn.left.tree.value) (t.expr c.in_ok-a.a.tree.value) (t.expr c.in_ok-u.u.tree.value) (all_seen c.args.text.now c.loop-turn.rest.now) (all_seen c.args.text.now c.in_ok-a.behind.now) (all_seen c.args.text.now c.in_ok-u.after.now) (omega (arith, c.loop-turn-test.true)) c.in_ok-a.ensures stop c.in_ok-u.ensures
    ∙ ap (λ n. seek c.args.c (expr c.args.c c.args.depth) n (t.expr c.in_ok-u.u.tree.value) (all_seen c.args.text.now c.in_ok-u.after.now)) e

pub returns-in_err-a-2 : goal.returns-in_err-a-2
returns-in_err-a-2 c =
    let none = seek_no_climb c.args.c (expr c.args.c c.args.depth) (c.args.count - c.loop-turn.turn) (t.expr c.loop-turn.left.tree.value) (all_seen c.args.text.now c.loop-turn.rest.now) in
    first_of (search rules, grind (arith, common_steps))

pub returns-in-Some-front_rel : goal.returns-in-Some-front_rel
returns-in-Some-front_rel c =
    let e : c.args.count - c.loop-turn.turn ≡ 0 = omega (arith, c.loop-turn-test.false) in
    c.loop-turn.invariant ∙ seek_found c.args.c (expr c.args.c c.args.depth) (c.args.count - c.loop-turn.turn) (t.expr c.loop-turn.left.tree.value) (t.expr c.in_ok-a-2.a.tree.value) (all_seen c.args.text.now c.loop-turn.rest.now) (all_seen c.args.text.now c.in_ok-a-2.behind.now) c.in-Some-front_rel.rel c.in_ok-a-2.ensures c.in-Some-front_rel.ensures.0
    ∙ ap (λ (z : List Lexeme). Some ((c.args.count - c.loop-turn.turn, c.in-Some-front_rel.rel, t.expr c.in_ok-a-2.a.tree.value), z)) (sym c.in-Some-front_rel.ensures.1)
    ∙ ap (λ (n : ℕ). Some ((n, c.in-Some-front_rel.rel, t.expr c.in_ok-a-2.a.tree.value), all_seen c.args.text.now c.in-Some-front_rel.second.now)) e

pub returns-in-None : goal.returns-in-None
returns-in-None c =
    c.loop-turn.invariant ∙ seek_none c.args.c (expr c.args.c c.args.depth) (c.args.count - c.loop-turn.turn) (t.expr c.loop-turn.left.tree.value) (t.expr c.in_ok-a-2.a.tree.value) (all_seen c.args.text.now c.loop-turn.rest.now) (all_seen c.args.text.now c.in_ok-a-2.behind.now) (omega (arith, c.loop-turn-test.false)) c.in_ok-a-2.ensures (first_of (search rules, grind (arith, common_steps)))
