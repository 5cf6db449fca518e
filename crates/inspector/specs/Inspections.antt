-- The inspection of an array, as plain trees.
use Rattle.std.specs.Prelude.{◌≡◌, ℕ, Some, slice_get, map}
use Rattle.c_tree.specs.Names.{arrays_in}
use Rattle.c_tree.specs.Plain.{Word, PlainExprs, PlainUnit}
use Rattle.c_tree.specs.Trees.{stmt}
use Rattle.instrumentation.specs.Guarded.{array_names, arrays_with_extents}
use Rattle.instrumentation.specs.Names.{number_in}
use Rattle.instrumentation.specs.Tables as tables
use Rattle.sites.specs.Classes.{class_of}
use Rattle.sites.specs.declared.class.Class.TheVariants.{Inspected}
use Rattle.text_parts.specs.Extents.{declared_extents}
use Rattle.inspector.specs.declared.pieces.Inspection.{Inspection}

-- there is such an array, and its class is this
pub record IsInspected (u : PlainUnit) (array : ℕ) : Type 0 where
  pub name : Word
  pub there : slice_get (arrays_in u.params) array ≡ Some name
  pub inspected : class_of u name ≡ Inspected

abbrev pub extents_in : PlainUnit → ℕ → PlainExprs
extents_in u array = declared_extents (arrays_with_extents u.params) array

pub record IsInspectionOf (u : PlainUnit) (array : ℕ) (made : Inspection) : Type 0 where
  pub build : map stmt made.build ≡ tables.build (number_in (array_names u.params)) u.body array (extents_in u array)
  pub initial : map stmt made.initial ≡ tables.initial array (extents_in u array)
  pub at_write : map stmt made.at_write ≡ tables.at_write array (extents_in u array)
