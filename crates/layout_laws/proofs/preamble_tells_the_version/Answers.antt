use Rattle.layout_laws.proofs.Laws.{told_by_preamble}
use Rattle.layout_laws.proofs.preamble_tells_the_version.Goals as goal

pub returns : goal.returns
returns c = told_by_preamble
