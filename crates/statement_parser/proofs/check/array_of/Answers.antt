use Rattle.std.proofs.Common.{◌≡◌, suc, ◌-◌, sym, ◌∙◌, arith}
use Rattle.statement_parser.proofs.Codes.{array_below-found, array_below-next, array_below-out, one_shifted}
use Rattle.statement_parser.proofs.check.array_of.Goals as goal

pub loop-below-preserved : goal.loop-below-preserved
loop-below-preserved c =
    let whole : c.loop-below.below ≡ suc (c.loop-below.below - 1) = omega arith in
    let power = one_shifted (c.loop-below.below - 1) (omega arith) in
    record {
      few = omega arith;
      same = c.loop-below.invariant.same ∙ array_below-next c.loop-below.below (c.loop-below.below - 1) c.args.code whole (λ e. c.if-code-below.false (e ∙ sym power));
    }

pub returns-then-code-below : goal.returns-then-code-below
returns-then-code-below c =
    let whole : c.loop-below.below ≡ suc (c.loop-below.below - 1) = omega arith in
    let power = one_shifted (c.loop-below.below - 1) (omega arith) in
    sym (c.loop-below.invariant.same ∙ array_below-found c.loop-below.below (c.loop-below.below - 1) c.args.code whole (c.if-code-below.true ∙ power))

pub returns : goal.returns
returns c = sym (c.loop-below.invariant.same ∙ array_below-out c.loop-below.below c.args.code c.loop-below-test.false)
