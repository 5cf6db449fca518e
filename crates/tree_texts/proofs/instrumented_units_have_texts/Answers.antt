use Rattle.instrumentation.specs.Guarded.{guarded}
use Rattle.tree_texts.proofs.UnitsOfTexts.{suited_source}
use Rattle.tree_texts.proofs.instrumented_units_have_texts.Goals as goal

pub returns-clause-accepted : goal.returns-clause-accepted
returns-clause-accepted c = λ u a. c.trees_have_texts.ensures.printed (guarded u) (c.suited_is_accepted.ensures.printed u (c.accepted_source_is_suited.ensures u a) a.tree)

pub returns-clause-suited : goal.returns-clause-suited
returns-clause-suited c = λ text u h r. c.trees_have_texts.ensures.printed (guarded u) (c.suited_is_accepted.ensures.printed u r (suited_source u r (c.texts_have_trees.ensures text u h)))
