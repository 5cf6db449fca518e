-- The text of a report: a line for each array in declared order, NAME CLASS reads R writes W, each ended by a line feed.
-- R and W are how many read sites and write sites the text has of it, as plain decimals: an old cell of a compound assignment
-- and an index cell are reads. One space stands between the pieces.
use Rattle.std.specs.Prelude.{ℕ, List, [], ◌∷◌, ◌++◌, codes, decimal}
use Rattle.c_tree.specs.Names.{arrays_in}
use Rattle.c_tree.specs.Plain.{Word, PlainParam, int_param, array_param, PlainUnit}
use Rattle.sites.specs.Classes.{class_of, number}
use Rattle.sites.specs.Sites.{is_read, is_write, sites_of}
use Rattle.sites.specs.declared.class.Class.{Class}
use Rattle.sites.specs.declared.class.Class.TheVariants.{Difference, Counted, Inspected}

abbrev pub class_word : Class → List ℕ
class_word Difference = codes "difference"
class_word Counted = codes "counted"
class_word Inspected = codes "inspected"

-- the numbers of reads and writes, and the end of the line
abbrev pub counts : ℕ → ℕ → List ℕ
counts reads writes = codes " reads " ++ (decimal reads ++ (codes " writes " ++ (decimal writes ++ codes "\n")))

-- the line of an array
abbrev pub line : PlainUnit → Word → List ℕ
line u x = x ++ (codes " " ++ (class_word (class_of u x) ++ counts (number is_read (sites_of u x)) (number is_write (sites_of u x))))

abbrev pub lines : PlainUnit → List Word → List ℕ
lines u [] = []
lines u (x ∷ xs) = line u x ++ lines u xs

abbrev pub report_text : PlainUnit → List ℕ
report_text u = lines u (arrays_in u.params)

-- what it has of a parameter
abbrev pub param_text : PlainUnit → PlainParam → List ℕ
param_text u (int_param x) = []
param_text u (array_param x constant extents) = line u x
