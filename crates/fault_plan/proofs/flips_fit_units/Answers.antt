use Rattle.fault_plan.proofs.UnitFlips.{flips_fit}
use Rattle.fault_plan.proofs.flips_fit_units.Goals as goal

pub returns : goal.returns
returns c = λ u f i flip is fit. let both = c.fits_as_frame.ensures u f i is in flips_fit u f i flip is (both.0 fit)
