-- What the laws of instrumented units ask of a source, whatever its accesses are.
use Rattle.std.specs.Prelude.{◌≡◌, ◌^◌, ◌<◌, None}
use Rattle.c_tree.specs.Plain.{Word, PlainUnit}
use Rattle.c_tree.specs.Arrays.{vars_of}
use Rattle.c_tree.specs.Instances.{untagged, accesses, literal_of}
use Rattle.c_tree.specs.Inputs.{PlainInputs, arrays_for, memory_for, IsClean}
use Rattle.c_tree.specs.Run.{run}
use Rattle.run_laws.specs.Laws.{RunsThrough}
use Rattle.instrumentation_laws.specs.IndexedList.{tagged_all}
use Rattle.instrumentation_laws.specs.KeptTexts.{HasIndexArrays}
use Rattle.instrumentation_laws.specs.KeptUnits.{IsWellFormed}
use Rattle.instrumentation_laws.specs.RegularUnits.{number_for}
use Rattle.instrumentation_laws.specs.WordValues.{AllAssignWords}
use Rattle.inspection_laws.specs.CountedUnits.{IsCountableUnit}
use Rattle.guard_laws.specs.IndexArrays.{is_index_array}

-- for inputs that fit, sound or not
pub record HasForms (u : PlainUnit) (i : PlainInputs) : Type 0 where
  pub well_formed : IsWellFormed u i.ints
  pub follows : IsClean u i → RunsThrough u i (run u i None)
  pub listed : untagged (tagged_all (arrays_for u i.ints) (memory_for u i) (number_for u) 0 u.body (vars_of u.params i.ints)) ≡ accesses u i.ints (memory_for u i)
  pub index_arrays : HasIndexArrays (number_for u) (is_index_array u) (accesses u i.ints (memory_for u i)) u.body
  pub countable : IsCountableUnit u i.ints
  pub literals : (x : Word) → literal_of u.words x < 2 ^ 64
  pub values : AllAssignWords u.body (vars_of u.params i.ints)
