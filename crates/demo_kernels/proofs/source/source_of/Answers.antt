use Rattle.std.proofs.Common.{◌%◌, ◌<◌, refl, arith}
use Rattle.std.proofs.Math.Nat.{mod-lt}
use Rattle.std.specs.Fmt.{digits}
use Rattle.demo_kernels.proofs.Sources.{chosen}
use Rattle.demo_kernels.proofs.source.source_of.Goals as goal

pub returns-in-0 : goal.returns-in-0
unfolding digits
returns-in-0 c = chosen 0 c.args.number _ c.in-0.is refl

pub returns-in-1 : goal.returns-in-1
unfolding digits
returns-in-1 c = chosen 1 c.args.number _ c.in-1.is refl

pub returns-in-2 : goal.returns-in-2
unfolding digits
returns-in-2 c = chosen 2 c.args.number _ c.in-2.is refl

pub returns-in_default : goal.returns-in_default
unfolding digits
returns-in_default c = let below : c.args.number % 4 < 4 = mod-lt c.args.number (omega arith) in chosen 3 c.args.number _ (omega (arith, below, c.in_default)) refl
