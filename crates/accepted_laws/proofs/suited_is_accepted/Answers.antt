use Rattle.acceptance_laws.proofs.Before.{nothing_before}
use Rattle.accepted_laws.proofs.Suited.{suited_accepted}
use Rattle.accepted_laws.proofs.TextHeights.{guarded_low}
use Rattle.accepted_laws.proofs.Sources.{none_reserved}
use Rattle.accepted_laws.proofs.TextTrees.{suited_tree}
use Rattle.accepted_laws.proofs.suited_is_accepted.Goals as goal

pub returns-clause-accepted : goal.returns-clause-accepted
returns-clause-accepted c = suited_accepted

pub returns-clause-stores : goal.returns-clause-stores
returns-clause-stores c = λ u r. nothing_before u (none_reserved u.params r.free_params)

pub returns-clause-low : goal.returns-clause-low
returns-clause-low c = λ u r. guarded_low u r.ranked

pub returns-clause-printed : goal.returns-clause-printed
returns-clause-printed c = suited_tree
