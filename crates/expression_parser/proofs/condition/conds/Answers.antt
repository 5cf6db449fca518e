use Rattle.std.proofs.Common.{rules, arith, ◌≡◌, ℕ, List, [], ◌∷◌, ◌++◌, ◌+◌, ◌-◌, ◌<◌, ◌≤◌, Option, Some, None, ap, sym, ◌∙◌}
use Rattle.std.proofs.lemmas.Grind.{common_steps}
use Rattle.c_tree.specs.Plain.{PlainTest}
use Rattle.c_tree.specs.Trees as t
use Rattle.c_tree.specs.Grammar.Lexemes.{Lexeme}
use Rattle.expression_parser.specs.Terminals.{all_seen}
use Rattle.grammar_reading.specs.Reading.{conds, ended}
use Rattle.expression_parser.proofs.Seeks.{conds_none, conds_out, turned, ended_none, tests_push}
use Rattle.expression_parser.proofs.condition.conds.Goals as goal

pub returns-in_err-more : goal.returns-in_err-more
returns-in_err-more c =
    let none = conds_none c.args.c (c.args.c.turns - c.loop-turn._turn) c.loop-turn.held (t.tests c.loop-turn.tests) (all_seen c.args.text.now c.loop-turn.rest.now) in
    first_of (search rules, grind (arith, common_steps))

pub returns-then-left-eq0 : goal.returns-then-left-eq0
returns-then-left-eq0 c =
    let sum : c.in_ok-opened.opened ≡ c.in_ok-more.more + c.loop-turn.held = first_of (search rules, grind (arith, common_steps)) in
    let pushed : t.tests c.loop-turn.tests ++ t.a_test c.in_ok-more.test ∷ [] ≡ t.tests c.push.new.self = sym (ap t.tests c.in_ok-push.ensures.ok ∙ tests_push c.loop-turn.tests c.in_ok-more.test) in
    let zero_left : c.shut-left.result.0 ≡ 0 = first_of (search rules, grind (arith, common_steps)) in
    c.loop-turn.invariant
    ∙ turned c.args.c (c.args.c.turns - c.loop-turn._turn) c.loop-turn.held c.in_ok-more.more c.in_ok-opened.opened c.shut-left.result.0 (t.tests c.loop-turn.tests) (t.a_test c.in_ok-more.test) (all_seen c.args.text.now c.loop-turn.rest.now) (all_seen c.args.text.now c.in_ok-more.behind.now) (all_seen c.args.text.now c.shut-left.result.1.now) None
    (omega (arith, c.loop-turn-test.true)) c.in_ok-more.ensures sum c.shut-left.ensures.count c.shut-left.ensures.behind (sym c.in_default.ensures.value)
    ∙ ap (λ (j : ℕ). ended c.args.c j (t.tests c.loop-turn.tests ++ t.a_test c.in_ok-more.test ∷ []) (all_seen c.args.text.now c.shut-left.result.1.now)) zero_left
    ∙ ap (λ (us : List PlainTest). Some (us, (all_seen c.args.text.now c.shut-left.result.1.now))) pushed

pub returns-in_default : goal.returns-in_default
returns-in_default c =
    let sum : c.in_ok-opened.opened ≡ c.in_ok-more.more + c.loop-turn.held = first_of (search rules, grind (arith, common_steps)) in
    let pushed : t.tests c.loop-turn.tests ++ t.a_test c.in_ok-more.test ∷ [] ≡ t.tests c.push.new.self = sym (ap t.tests c.in_ok-push.ensures.ok ∙ tests_push c.loop-turn.tests c.in_ok-more.test) in
    let some_left : 0 < c.shut-left.result.0 = first_of (omega (arith, c.if-left-eq0.false), search rules, grind (arith, common_steps)) in
    c.loop-turn.invariant
    ∙ turned c.args.c (c.args.c.turns - c.loop-turn._turn) c.loop-turn.held c.in_ok-more.more c.in_ok-opened.opened c.shut-left.result.0 (t.tests c.loop-turn.tests) (t.a_test c.in_ok-more.test) (all_seen c.args.text.now c.loop-turn.rest.now) (all_seen c.args.text.now c.in_ok-more.behind.now) (all_seen c.args.text.now c.shut-left.result.1.now) None
    (omega (arith, c.loop-turn-test.true)) c.in_ok-more.ensures sum c.shut-left.ensures.count c.shut-left.ensures.behind (sym c.in_default.ensures.value)
    ∙ ended_none c.args.c c.shut-left.result.0 _ (all_seen c.args.text.now c.shut-left.result.1.now) some_left

pub loop-turn-preserved : goal.loop-turn-preserved
loop-turn-preserved c =
    let sum : c.in_ok-opened.opened ≡ c.in_ok-more.more + c.loop-turn.held = first_of (search rules, grind (arith, common_steps)) in
    let pushed : t.tests c.loop-turn.tests ++ t.a_test c.in_ok-more.test ∷ [] ≡ t.tests c.push.new.self = sym (ap t.tests c.in_ok-push.ensures.ok ∙ tests_push c.loop-turn.tests c.in_ok-more.test) in
    let e : c.args.c.turns - c.loop-turn._turn - 1 ≡ c.args.c.turns - (c.loop-turn._turn + 1) = omega arith in
    c.loop-turn.invariant
    ∙ turned c.args.c (c.args.c.turns - c.loop-turn._turn) c.loop-turn.held c.in_ok-more.more c.in_ok-opened.opened c.shut-left.result.0 (t.tests c.loop-turn.tests) (t.a_test c.in_ok-more.test) (all_seen c.args.text.now c.loop-turn.rest.now) (all_seen c.args.text.now c.in_ok-more.behind.now) (all_seen c.args.text.now c.shut-left.result.1.now) (Some (all_seen c.args.text.now c.in-Some.second.now))
    (omega (arith, c.loop-turn-test.true)) c.in_ok-more.ensures sum c.shut-left.ensures.count c.shut-left.ensures.behind (sym c.in-Some.ensures.value)
    ∙ ap (λ (us : List PlainTest). conds c.args.c (c.args.c.turns - c.loop-turn._turn - 1) c.shut-left.result.0 us (all_seen c.args.text.now c.in-Some.second.now)) pushed
    ∙ ap (λ (n : ℕ). conds c.args.c n c.shut-left.result.0 (t.tests c.push.new.self) (all_seen c.args.text.now c.in-Some.second.now)) e

pub returns : goal.returns
returns c = c.loop-turn.invariant ∙ conds_out c.args.c (c.args.c.turns - c.loop-turn._turn) c.loop-turn.held (t.tests c.loop-turn.tests) (all_seen c.args.text.now c.loop-turn.rest.now) (omega (arith, c.loop-turn-test.false))
