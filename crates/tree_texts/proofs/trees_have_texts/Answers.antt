use Rattle.tree_texts.proofs.Units.{source_tree, printed_tree}
use Rattle.tree_texts.proofs.trees_have_texts.Goals as goal

pub returns-clause-source : goal.returns-clause-source
returns-clause-source c = λ u h. c.trees_are_units.ensures.has_text u (source_tree u h)

pub returns-clause-printed : goal.returns-clause-printed
returns-clause-printed c = λ u h. c.trees_are_units.ensures.has_text u (printed_tree u h)
