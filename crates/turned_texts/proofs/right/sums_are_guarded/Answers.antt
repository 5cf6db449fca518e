use Rattle.turned_texts.specs.Sources.{sums}
use Rattle.turned_texts.proofs.Sound.{sums_accepted}
use Rattle.turned_texts.proofs.right.sums_are_guarded.Goals as goal

pub returns-clause-guards : goal.returns-clause-guards
returns-clause-guards c = c.accepted_sources_are_guarded.ensures sums sums_accepted
