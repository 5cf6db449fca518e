use Rattle.layout_laws.proofs.SpelledUnits.{fine_unit, spelled_unit}
use Rattle.layout_laws.proofs.spelled_is_read.Goals as goal

pub returns : goal.returns
returns c = record { is_fine = λ ts u d. fine_unit d; has_tokens = spelled_unit; again = λ ts u d. spelled_unit u (fine_unit d) }
