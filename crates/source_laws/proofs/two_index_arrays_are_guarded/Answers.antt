use Rattle.std.proofs.Common.{refl}
use Rattle.source_laws.specs.Worked.{two_indices}
use Rattle.source_laws.proofs.Worked.{two_accepted}
use Rattle.source_laws.proofs.two_index_arrays_are_guarded.Goals as goal

pub returns-clause-accepted : goal.returns-clause-accepted
returns-clause-accepted c = two_accepted

pub returns-clause-inspected : goal.returns-clause-inspected
returns-clause-inspected c = refl

pub returns-clause-first : goal.returns-clause-first
returns-clause-first c = refl

pub returns-clause-second : goal.returns-clause-second
returns-clause-second c = refl

pub returns-clause-exact : goal.returns-clause-exact
returns-clause-exact c = λ ns h. c.accepted_sources_are_exact.ensures two_indices ns two_accepted h

pub returns-clause-forms : goal.returns-clause-forms
returns-clause-forms c = λ i fit. c.accepted_sources_follow.ensures.forms two_indices i two_accepted fit

pub returns-clause-guarded : goal.returns-clause-guarded
returns-clause-guarded c = c.accepted_sources_are_guarded.ensures two_indices two_accepted
