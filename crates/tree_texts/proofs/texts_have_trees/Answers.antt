use Rattle.tree_texts.proofs.UnitsOfTexts.{tree_of_unit}
use Rattle.tree_texts.proofs.texts_have_trees.Goals as goal

pub returns : goal.returns
returns c = λ text u h. tree_of_unit u (c.trees_are_units.ensures.is_tree text u h)
