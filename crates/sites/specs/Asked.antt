-- How many sites of an array meet a test.
use Rattle.std.specs.Prelude.{ℕ, List, map, filter}
use Rattle.std.specs.List.{list_any}
use Rattle.c_tree.specs.Names.{ints_in}
use Rattle.c_tree.specs.Plain.{Word}
use Rattle.c_tree.specs.Trees.{param, unit}
use Rattle.c_tree.specs.declared.unit.Unit.{Unit}
use Rattle.sites.specs.Classes.{number, occurs}
use Rattle.sites.specs.Shown.{asks}
use Rattle.sites.specs.Sites.{Site, around, sites_of}
use Rattle.sites.specs.Small.{where_small}
use Rattle.sites.specs.declared.question.Ask.{Ask}

abbrev pub ints_of : Unit → List Word
ints_of u = ints_in (map param u.params)

abbrev pub sites_in : Unit → Word → List Site
sites_in u x = sites_of (unit u) x

abbrev pub number_asked : Unit → Word → Ask → ℕ
number_asked u x a = number (λ s. asks a (ints_of u) (around s) s.reach.at s.reach.writes) (sites_in u x)

-- the parameters that occur around sites of an array
abbrev pub occurring : Unit → Word → List Word → List Word
occurring u x = filter (λ p. list_any (λ s. occurs where_small p (around s) s.reach.at) (sites_in u x))
