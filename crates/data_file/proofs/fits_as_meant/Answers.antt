use Rattle.data_file.specs.Frames.{carried}
use Rattle.data_file.proofs.UnitFrames.{fits_unit}
use Rattle.data_file.proofs.WordRows.{meant_words}
use Rattle.data_file.proofs.fits_as_meant.Goals as goal

pub returns : goal.returns
returns c = λ u f text i is meant. fits_unit u f i is (record { rows = meant.means.complete; words = meant_words f text (carried i) meant.means; fits = meant.fits })
