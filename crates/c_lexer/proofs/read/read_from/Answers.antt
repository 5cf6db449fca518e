use Rattle.std.proofs.Common.{suc, ◌+◌, ◌++◌, ◌∷◌, [], List, drop, length, sym, ap, ◌∙◌, subst}
use Rattle.c_tree.specs.declared.token.Token.{Token}
use Rattle.c_lexer.specs.declared.line.Piece.{Piece}
use Rattle.c_lexer.specs.declared.line.Piece.TheVariants.{Passed, Taken}
use Rattle.c_lexer.specs.Reading.{IsWithin, behind_tokens, tokens_by, tokens_from}
use Rattle.c_lexer.proofs.Turns.{behind_more, turned, fails, rest_of}
use Rattle.c_lexer.proofs.read.read_from.Goals as goal

pub returns-in-Nothing : goal.returns-in-Nothing
returns-in-Nothing c = c.text.invariant.so_far ∙ fails c.args.printed c.text.line c.args.text.now c.text.at c.step-step.result c.text.tokens c.text-test.true c.step-step.ensures.value c.in-Nothing.is

pub text-preserved-in-Passed : goal.text-preserved-in-Passed
text-preserved-in-Passed c =
    let within : IsWithin (length (rest_of c.args.text.now c.text.at)) (Passed c.in-Passed.n) = subst (IsWithin (length (rest_of c.args.text.now c.text.at))) c.in-Passed.is c.step-step.ensures.within in
    let (whole, on, room) = turned c.args.printed c.text.line c.args.text.now c.text.at c.in-Passed.n c.step-step.result c.text.tokens c.text-test.true c.step-step.ensures.value within.0 within.1 in
    record {
      so_far = c.text.invariant.so_far ∙ whole
          ∙ ap (λ (k : Piece). behind_tokens c.text.tokens (tokens_by c.text.at k (λ left. tokens_from c.args.printed c.step-step.result.line left (suc c.text.at) (drop (suc c.text.at) c.args.text.now)))) c.in-Passed.is
          ∙ ap (behind_tokens c.text.tokens) on;
      within = room;
    }

pub text-preserved : goal.text-preserved
text-preserved c =
    let within : IsWithin (length (rest_of c.args.text.now c.text.at)) (Taken c.in-Taken.kind c.in-Taken.n) = subst (IsWithin (length (rest_of c.args.text.now c.text.at))) c.in-Taken.is c.step-step.ensures.within in
    let (whole, on, room) = turned c.args.printed c.text.line c.args.text.now c.text.at c.in-Taken.n c.step-step.result c.text.tokens c.text-test.true c.step-step.ensures.value within.0 within.1 in
    let at = c.text.at + c.in-Taken.n in
    record {
      so_far = c.text.invariant.so_far ∙ whole
          ∙ ap (λ (k : Piece). behind_tokens c.text.tokens (tokens_by c.text.at k (λ left. tokens_from c.args.printed c.step-step.result.line left (suc c.text.at) (drop (suc c.text.at) c.args.text.now)))) c.in-Taken.is
          ∙ behind_more c.text.tokens _ _ ∙ ap (behind_tokens (c.text.tokens ++ _ ∷ [])) on
          ∙ ap (λ (ts : List Token). behind_tokens ts (tokens_from c.args.printed c.step-step.result.line 0 at (drop at c.args.text.now))) (ap (λ (t : Token). c.text.tokens ++ t ∷ []) (sym c.make_token.ensures) ∙ sym c.in_ok-push-in-Taken.ensures.ok);
      within = room;
    }
