use Rattle.std.proofs.Common.{◌≡◌, drop, arith, sym, ap, ◌∙◌}
use Rattle.c_lexer.specs.Reading.{passed_len}
use Rattle.c_lexer.proofs.Passing.{all_turn, all_ends}
use Rattle.c_lexer.proofs.over.all_len.Goals as goal

pub pieces-preserved : goal.pieces-preserved
pieces-preserved c =
    let turn = all_turn c.args.over c.args.text.now c.pieces.at c.pieces.piece c.pieces-test.true c.pieces.invariant.next in
    record {
      next = c.passed_len-piece-in-pieces.ensures.value ∙ ap (passed_len c.args.over) c.past.ensures.value;
      so_far = omega (arith, c.pieces.invariant.so_far, turn);
      within = omega (arith, c.past.ensures.count, c.passed_len-piece-in-pieces.ensures.bound);
    }

pub returns-clause-value : goal.returns-clause-value
returns-clause-value c =
    let none : c.pieces.piece ≡ 0 = omega arith in
    omega (arith, c.pieces.invariant.so_far, all_ends c.args.over (drop c.pieces.at c.args.text.now) (sym c.pieces.invariant.next ∙ none))
