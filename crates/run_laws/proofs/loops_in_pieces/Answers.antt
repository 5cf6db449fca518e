use Rattle.run_laws.proofs.Pieces.{in_pieces}
use Rattle.run_laws.proofs.loops_in_pieces.Goals as goal

pub returns : goal.returns
returns c = in_pieces
