use Rattle.layout_laws.proofs.layout_is_read.Goals as goal

pub returns : goal.returns
returns c = λ text u d. c.trees_are_units.ensures.has_text u (c.trees_are_units.ensures.is_tree text u d)
