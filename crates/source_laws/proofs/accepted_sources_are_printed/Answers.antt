use Rattle.std.proofs.Common.{inr}
use Rattle.source_laws.proofs.accepted_sources_are_printed.Goals as goal

pub returns-clause-printed : goal.returns-clause-printed
returns-clause-printed c = λ u a. c.suited_is_accepted.ensures.accepted u (c.accepted_source_is_suited.ensures u a) a.tree

pub returns-clause-runs : goal.returns-clause-runs
returns-clause-runs c = λ u a. inr (c.suited_is_accepted.ensures.accepted u (c.accepted_source_is_suited.ensures u a) a.tree)

pub returns-clause-tree : goal.returns-clause-tree
returns-clause-tree c = λ u a. c.suited_is_accepted.ensures.printed u (c.accepted_source_is_suited.ensures u a) a.tree

pub returns-clause-stores : goal.returns-clause-stores
returns-clause-stores c = λ u a. c.suited_is_accepted.ensures.stores u (c.accepted_source_is_suited.ensures u a)
