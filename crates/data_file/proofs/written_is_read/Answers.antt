use Rattle.data_file.specs.Texts.{data_text}
use Rattle.data_file.proofs.Unique.{one_other}
use Rattle.data_file.proofs.Written.{written_means}
use Rattle.data_file.proofs.written_is_read.Goals as goal

pub returns : goal.returns
returns c = λ f i r own named w fits.
    (record { means = written_means f i named w; fits = fits }, λ a. one_other f own (data_text f i) i r (record { means = written_means f i named w; fits = fits }) a)
