-- What an accepted source has, for inputs that fit: all that the laws of runs and of instrumented texts ask of it.
use Rattle.std.specs.Prelude.{◌≡◌, true, List, ℤ, Option, None}
use Rattle.c_tree.specs.Plain.{PlainUnit}
use Rattle.c_tree.specs.Fault.{Fault}
use Rattle.c_tree.specs.Arrays.{vars_of}
use Rattle.c_tree.specs.Inputs.{PlainInputs, arrays_for, AreInRange, Fit, IsClean}
use Rattle.c_tree.specs.Run.{run}
use Rattle.run_laws.specs.Laws.{RunsThrough}
use Rattle.instrumentation_laws.specs.ExactSources.{AreExactSource}
use Rattle.instrumentation_laws.specs.UnitLaws.{RunsAlike}
use Rattle.instrumentation.specs.Guarded.{guarded}
use Rattle.acceptance.specs.Printed.{IsAcceptedPrinted, StoresNothingBefore}
use Rattle.acceptance.specs.Trees.{IsPrintedTree}
use Rattle.acceptance.specs.Runnable.{IsRunnable}
use Rattle.guard_laws.specs.Forms.{HasForms}
use Rattle.guard_laws.specs.Guards.{GuardsInDetail, InspectsNothing}
use Rattle.guard_laws.specs.IndexArrays.{is_index_array}
use Rattle.acceptance.specs.Sources.{IsAcceptedSource, all_are_regular}
use Rattle.source_laws.specs.Exact.{IsExactFor}

-- an accepted source without irregular subscripts
pub record IsRegularSource (u : PlainUnit) : Type 0 where
  pub accepted : IsAcceptedSource u
  pub regular : all_are_regular u.body ≡ true

-- No signed value of an accepted source wraps, whatever subscripts it has.
abbrev pub AcceptedAreExact : Type 0
AcceptedAreExact = (u : PlainUnit) (ns : List ℤ) → IsAcceptedSource u → AreInRange u.ranges u.params ns → IsExactFor u ns

-- It is a source of the laws of runs: its subscripts are affine or cells of index arrays, and it writes no index array.
abbrev pub AcceptedAreSources : Type 0
AcceptedAreSources = (u : PlainUnit) (i : PlainInputs) → IsAcceptedSource u → Fit u i → AreExactSource (arrays_for u i.ints) u.wides (is_index_array u) u.body (vars_of u.params i.ints)

-- So its run within its arrays, however long, is that of its instances, index cells having the words of the inputs.
abbrev pub AcceptedFollow : Type 0
AcceptedFollow = (u : PlainUnit) (i : PlainInputs) → IsAcceptedSource u → Fit u i → IsClean u i → RunsThrough u i (run u i None)

-- It has all that the laws of instrumented units ask of a source, for all inputs that fit, whether it stays within its arrays or not.
abbrev pub AcceptedHaveForms : Type 0
AcceptedHaveForms = (u : PlainUnit) (i : PlainInputs) → IsAcceptedSource u → Fit u i → HasForms u i

-- The instrumented unit of every accepted source is accepted as a printed unit, which the interpreter runs,
abbrev pub AcceptedArePrinted : Type 0
AcceptedArePrinted = (u : PlainUnit) → IsAcceptedSource u → IsAcceptedPrinted (guarded u)

abbrev pub AcceptedAreRunnable : Type 0
AcceptedAreRunnable = (u : PlainUnit) → IsAcceptedSource u → IsRunnable (guarded u)

-- is a tree of the grammar, and stores into no array before `begin`,
abbrev pub AcceptedHaveTrees : Type 0
AcceptedHaveTrees = (u : PlainUnit) → IsAcceptedSource u → IsPrintedTree (guarded u)

abbrev pub AcceptedStoreNothing : Type 0
AcceptedStoreNothing = (u : PlainUnit) → IsAcceptedSource u → StoresNothingBefore (guarded u)

-- it guards the source,
abbrev pub AcceptedAreGuarded : Type 0
AcceptedAreGuarded = (u : PlainUnit) → IsAcceptedSource u → GuardsInDetail u (guarded u)

-- and, where no array is inspected, runs alike under every fault, within its arrays or not, however many accesses the source makes.
abbrev pub AcceptedRunAlike : Type 0
AcceptedRunAlike = (u : PlainUnit) (i : PlainInputs) (fault : Option Fault) → IsAcceptedSource u → Fit u i → InspectsNothing u → RunsAlike (run u i fault) (run (guarded u) i fault)
