use Rattle.pass_laws.proofs.Tables.{texts_make_no_table}
use Rattle.pass_laws.proofs.TextTurns.{bodies_turn, prologues_turn}
use Rattle.pass_laws.proofs.texts_turn.Goals as goal

pub returns-clause-bodies : goal.returns-clause-bodies
returns-clause-bodies c = bodies_turn

pub returns-clause-prologues : goal.returns-clause-prologues
returns-clause-prologues c = prologues_turn

pub returns-clause-no_tables : goal.returns-clause-no_tables
returns-clause-no_tables c = texts_make_no_table
