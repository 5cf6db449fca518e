use Rattle.std.proofs.Common.{◌^◌, pos, refl}
use Rattle.affine_tests.proofs.sums.three_times.Goals as goal

pub times-requires-clause-terms_size : goal.times-requires-clause-terms_size
times-requires-clause-terms_size c = (c.ordered_sums.ensures.multiples (2 ^ 44) (2 ^ 16) c.args.a.now (pos 3) c.requires.size refl).1
