-- The numbers of a source's arrays, which are counted among its parameters, and their extents.
use Rattle.std.specs.Prelude.{ℕ, List, map}
use Rattle.c_tree.specs.Plain.{Word, PlainExprs}
use Rattle.c_tree.specs.Trees.{param}
use Rattle.c_tree.specs.declared.unit.Param.{Param}
use Rattle.instrumentation.specs.Names.{number_in}
use Rattle.instrumentation.specs.Guarded.{array_names, extents_of}

abbrev pub numbers : List Param → Word → ℕ
numbers ps = number_in (array_names (map param ps))

abbrev pub sizes : List Param → Word → PlainExprs
sizes ps = extents_of (map param ps)
