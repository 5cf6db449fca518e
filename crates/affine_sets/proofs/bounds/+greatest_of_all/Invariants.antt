use Rattle.std.proofs.Common.{length}
use Rattle.affine_sets.proofs.bounds.+greatest_of_all.Given as goal

abbrev pub decreases-greatest_of_all : goal.decreases-greatest_of_all
decreases-greatest_of_all l = length l.left.now
