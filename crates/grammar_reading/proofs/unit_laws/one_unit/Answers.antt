use Rattle.std.proofs.Common.{sym, ◌∙◌}
use Rattle.std.proofs.lemmas.Option.{same_Some}
use Rattle.grammar_reading.proofs.UnitComplete.{unit_read}
use Rattle.grammar_reading.proofs.unit_laws.one_unit.Goals as goal

pub returns : goal.returns
returns c = λ ts u v d e. same_Some u v (sym (unit_read d) ∙ unit_read e)
