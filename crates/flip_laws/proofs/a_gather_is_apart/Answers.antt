use Rattle.acceptance.specs.WorkedSources.{gather}
use Rattle.flip_laws.proofs.Samples.{gather_index, gather_alone, own_is_not_apart}
use Rattle.flip_laws.proofs.a_gather_is_apart.Goals as goal

pub returns-clause-apart : goal.returns-clause-apart
returns-clause-apart c = c.accepted_sources_are_apart.ensures gather c.a_gather_is_guarded.ensures.accepted

pub returns-clause-index : goal.returns-clause-index
returns-clause-index c = gather_index

pub returns-clause-alone : goal.returns-clause-alone
returns-clause-alone c = gather_alone

pub returns-clause-own : goal.returns-clause-own
returns-clause-own c = own_is_not_apart
