use Rattle.std.proofs.Common.{rules, arith, ◌≡◌, suc, ◌+◌, ◌-◌, sym, ap, ◌∙◌}
use Rattle.std.proofs.lemmas.Grind.{common_steps}
use Rattle.c_tree.specs.Plain.{PlainStmts}
use Rattle.c_tree.specs.Trees.{stmts}
use Rattle.c_tree.specs.Grammar.Statements.{chain}
use Rattle.expression_parser.specs.Terminals.{all_seen}
use Rattle.grammar_reading.specs.Blocks.{inside, simple}
use Rattle.statement_parser.proofs.Blocks.{inside-end, inside-close, inside-open, inside-more, inside-fail, inside-out, stmts-chain}
use Rattle.statement_parser.proofs.statements.+statements.Goals as goal

pub block-returns-then-held-eq0 : goal.block-returns-then-held-eq0
block-returns-then-held-eq0 t c =
    let turn : c.args.c.turns - c.loop-turn._turn ≡ suc (c.args.c.turns - (c.loop-turn._turn + 1)) = omega arith in
    c.loop-turn.invariant.same
    ∙ inside-end (simple c.args.c c.args.depth) (c.args.c.turns - c.loop-turn._turn) (c.args.c.turns - (c.loop-turn._turn + 1)) c.loop-turn.held (stmts c.loop-turn.list) (all_seen c.args.text.now c.loop-turn.rest.now) (all_seen c.args.text.now c.in-Some.behind.now)
    turn c.if-held-eq0.true (sym c.in-Some.ensures.value)

pub block-loop-turn-preserved-in-Some : goal.block-loop-turn-preserved-in-Some
block-loop-turn-preserved-in-Some t c =
    let turn : c.args.c.turns - c.loop-turn._turn ≡ suc (c.args.c.turns - (c.loop-turn._turn + 1)) = omega arith in
    let some : c.loop-turn.held ≡ suc (c.loop-turn.held - 1) = omega (arith, c.if-held-eq0.false) in
    record {
      same = c.loop-turn.invariant.same
          ∙ inside-close (simple c.args.c c.args.depth) (c.args.c.turns - c.loop-turn._turn) (c.args.c.turns - (c.loop-turn._turn + 1)) c.loop-turn.held (c.loop-turn.held - 1) (stmts c.loop-turn.list) (all_seen c.args.text.now c.loop-turn.rest.now) (all_seen c.args.text.now c.in-Some.behind.now)
          turn some (sym c.in-Some.ensures.value);
      few = omega (arith, c.loop-turn.invariant.few);
    }

pub block-loop-turn-preserved-in-Some-after : goal.block-loop-turn-preserved-in-Some-after
block-loop-turn-preserved-in-Some-after t c =
    let turn : c.args.c.turns - c.loop-turn._turn ≡ suc (c.args.c.turns - (c.loop-turn._turn + 1)) = omega arith in
    let more : suc c.loop-turn.held ≡ c.loop-turn.held + 1 = omega arith in
    record {
      same = c.loop-turn.invariant.same
          ∙ inside-open (simple c.args.c c.args.depth) (c.args.c.turns - c.loop-turn._turn) (c.args.c.turns - (c.loop-turn._turn + 1)) c.loop-turn.held (c.loop-turn.held + 1) (stmts c.loop-turn.list) (all_seen c.args.text.now c.loop-turn.rest.now) (all_seen c.args.text.now c.in-Some-after.behind.now)
          turn more (sym c.in_default.ensures.value) (sym c.in-Some-after.ensures.value);
      few = omega (arith, c.loop-turn.invariant.few);
    }

pub block-returns-in_err-more : goal.block-returns-in_err-more
block-returns-in_err-more t c =
    let turn : c.args.c.turns - c.loop-turn._turn ≡ suc (c.args.c.turns - (c.loop-turn._turn + 1)) = omega arith in
    let none = inside-fail (simple c.args.c c.args.depth) (c.args.c.turns - c.loop-turn._turn) (c.args.c.turns - (c.loop-turn._turn + 1)) c.loop-turn.held (stmts c.loop-turn.list) (all_seen c.args.text.now c.loop-turn.rest.now)
    turn (sym c.in_default.ensures.value) (sym c.in_default-after.ensures.value) in
    first_of (search rules, grind (arith, common_steps))

pub block-loop-turn-preserved : goal.block-loop-turn-preserved
block-loop-turn-preserved t c =
    let turn : c.args.c.turns - c.loop-turn._turn ≡ suc (c.args.c.turns - (c.loop-turn._turn + 1)) = omega arith in
    let chained : chain (stmts c.loop-turn.list) (stmts c.in_ok-more.more) ≡ stmts c.append.new.self = sym (ap stmts c.in_ok-append.ensures ∙ stmts-chain c.loop-turn.list c.in_ok-more.more) in
    record {
      same = c.loop-turn.invariant.same
          ∙ inside-more (simple c.args.c c.args.depth) (c.args.c.turns - c.loop-turn._turn) (c.args.c.turns - (c.loop-turn._turn + 1)) c.loop-turn.held (stmts c.loop-turn.list) (stmts c.in_ok-more.more) (all_seen c.args.text.now c.loop-turn.rest.now) (all_seen c.args.text.now c.in_ok-more.behind.now)
          turn (sym c.in_default.ensures.value) (sym c.in_default-after.ensures.value) c.in_ok-more.ensures
          ∙ ap (λ (us : PlainStmts). inside (simple c.args.c c.args.depth) (c.args.c.turns - (c.loop-turn._turn + 1)) c.loop-turn.held us (all_seen c.args.text.now c.in_ok-more.behind.now)) chained;
      few = omega (arith, c.loop-turn.invariant.few);
    }

pub block-returns : goal.block-returns
block-returns t c =
    c.loop-turn.invariant.same
    ∙ inside-out (simple c.args.c c.args.depth) (c.args.c.turns - c.loop-turn._turn) c.loop-turn.held (stmts c.loop-turn.list) (all_seen c.args.text.now c.loop-turn.rest.now) (omega (arith, c.loop-turn-test.false))
