-- The names of the loops around a statement, as a list.
use Rattle.std.specs.Prelude.{List, [], ◌∷◌}
use Rattle.c_tree.specs.Plain.{Word}
use Rattle.text_parts.specs.declared.loops.Loops.{Loops, Outside, Inside'}

-- the innermost first
abbrev pub names_of : Loops → List Word
names_of Outside = []
names_of (Inside' variable loops more) = variable.now.bytes ∷ names_of more
