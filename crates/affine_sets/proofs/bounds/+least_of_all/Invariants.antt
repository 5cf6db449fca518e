use Rattle.std.proofs.Common.{length}
use Rattle.affine_sets.proofs.bounds.+least_of_all.Given as goal

abbrev pub decreases-least_of_all : goal.decreases-least_of_all
decreases-least_of_all l = length l.left.now
