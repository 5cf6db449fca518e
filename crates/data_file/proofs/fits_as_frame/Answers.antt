use Rattle.data_file.proofs.UnitFrames.{fits_frame, fits_unit}
use Rattle.data_file.proofs.fits_as_frame.Goals as goal

pub returns : goal.returns
returns c = λ u f i is. (fits_frame u f i is, fits_unit u f i is)
