-- The word that a refusal shows for what there is too much of.
use Rattle.std.specs.Prelude.{ℕ, List, codes}
use Rattle.c_tree.specs.declared.refusal.Counted.{Counted}
use Rattle.c_tree.specs.declared.refusal.Counted.TheVariants.{Parameters, Arrays, Scalars, Depth, Statements, Reads}

abbrev pub counted_word : Counted → List ℕ
counted_word Parameters = codes "parameters"
counted_word Arrays = codes "arrays"
counted_word Scalars = codes "scalars"
counted_word Depth = codes "depth"
counted_word Statements = codes "statements"
counted_word Reads = codes "reads"
