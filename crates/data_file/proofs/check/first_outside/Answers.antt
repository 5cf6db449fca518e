use Rattle.std.proofs.Common.{arith}
use Rattle.data_file.proofs.Sums.{small_values}
use Rattle.data_file.proofs.check.first_outside.Goals as goal

pub returns-clause-small : goal.returns-clause-small
returns-clause-small c =
    small_values c.args.f.now c.args.i.now c.requires.frame c.requires.rows (λ k below. c.loop-parameter.invariant k (omega arith))
