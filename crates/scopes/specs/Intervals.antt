-- What an interval of the code stands for, and a list of names.
use Rattle.std.specs.Prelude.{List, [], ◌∷◌, ◌++◌}
use Rattle.std.specs.Borrow.{Bor}
use Rattle.c_tree.specs.Plain.{Word}
use Rattle.c_tree.specs.declared.name.Name.{Name}
use Rattle.acceptance.specs.Affine.{Interval}
use Rattle.scopes.specs.declared.interval.Interval.{Interval as TheInterval}

abbrev pub interval_in : TheInterval → Interval
interval_in i = (i.least, i.greatest)

-- the last first
abbrev pub reversed : List (Bor Name) → List Word
reversed [] = []
reversed (x ∷ xs) = reversed xs ++ x.now.bytes ∷ []
