use Rattle.layout_laws.proofs.Laws.{tree_of_text, text_of_tree}
use Rattle.layout_laws.proofs.trees_are_units.Goals as goal

pub returns : goal.returns
returns c = record { is_tree = tree_of_text; has_text = text_of_tree }
