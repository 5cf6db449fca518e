-- What an inspection of an array of a source does, as plain trees.
use Rattle.std.proofs.Common.{◌≡◌, ℕ, true, Result, Ok, Err, map, sym, subst, ◌∙◌, arith}
use Rattle.std.specs.Prelude.{IfOk}
use Rattle.c_tree.specs.Plain.{PlainUnit}
use Rattle.c_tree.specs.Trees.{stmt, unit}
use Rattle.c_tree.specs.Arrays.{vars_of}
use Rattle.c_tree.specs.Inputs.{PlainInputs, arrays_for, Fit}
use Rattle.c_tree.specs.declared.memory.OutOfMemory.{OutOfMemory}
use Rattle.c_tree.specs.declared.unit.Unit.{Unit as TheUnit}
use Rattle.acceptance.specs.Sources.{IsAcceptedSource}
use Rattle.instrumentation.specs.Inspects.{inspects_all}
use Rattle.instrumentation_laws.specs.RegularUnits.{number_for}
use Rattle.pass_laws.specs.Laws.{UnitsTurn, CellsArePlaces}
use Rattle.inspection_laws.specs.Laws.{TablesHoldUses, TablesEndExactly}
use Rattle.guard_laws.specs.Forms.{HasForms}
use Rattle.source_laws.specs.Laws.{AcceptedHaveForms}
use Rattle.inspector.specs.Building.{Builds}
use Rattle.inspector.specs.Counting.{IsInitial, IsAtWrite}
use Rattle.inspector.specs.Inspections.{IsInspected, IsInspectionOf}
use Rattle.inspector.specs.declared.pieces.Inspection.{Inspection}
use Rattle.inspector.proofs.Declared.{number_at}
use Rattle.inspector.proofs.Irregular.{is_inspected}
use Rattle.inspector.proofs.Made.{builds, is_initial, is_at_write}

-- what was made of the unit that a kernel shows
pub made_for : (r : Result Inspection OutOfMemory) (seen source : TheUnit) (array : ℕ) → seen ≡ source → IfOk r (IsInspectionOf (unit seen) array) → IfOk r (IsInspectionOf (unit source) array)
made_for r seen source array same e = subst (λ u. IfOk r (IsInspectionOf (unit u) array)) same e

module _ (follow : AcceptedHaveForms) (hold : TablesHoldUses) (end_exactly : TablesEndExactly) (unit_turns : UnitsTurn) (places : CellsArePlaces)
    (u : PlainUnit) (accepted : IsAcceptedSource u) (array : ℕ) (inspected : IsInspected u array) where
  forms : (i : PlainInputs) → Fit u i → HasForms u i
  forms i fit = follow u i accepted fit

  inspects : (i : PlainInputs) → Fit u i → inspects_all (number_for u) array u.body ≡ true
  inspects i fit =
      let number_is : number_for u inspected.name ≡ array = number_at (vars_of u.params i.ints) u.params 0 array inspected.name (forms i fit).well_formed.arrays inspected.there ∙ omega arith in
      is_inspected (arrays_for u i.ints) (number_for u) array inspected.name number_is u (vars_of u.params i.ints) (forms i fit).countable.walked inspected.inspected

  pub made_builds : (r : Result Inspection OutOfMemory) → IfOk r (IsInspectionOf u array) → IfOk r (λ made. Builds u array (map stmt made.build))
  made_builds (Ok made) e = subst (Builds u array) (sym e.build) (builds hold end_exactly unit_turns places u array inspected.name inspected.there forms inspects)
  made_builds (Err x) e = tt

  pub made_initial : (r : Result Inspection OutOfMemory) → IfOk r (IsInspectionOf u array) → IfOk r (λ made. IsInitial u array (map stmt made.initial))
  made_initial (Ok made) e = subst (IsInitial u array) (sym e.initial) (is_initial hold end_exactly unit_turns places u array inspected.name inspected.there forms inspects)
  made_initial (Err x) e = tt

  pub made_at_write : (r : Result Inspection OutOfMemory) → IfOk r (IsInspectionOf u array) → IfOk r (λ made. IsAtWrite u array (map stmt made.at_write))
  made_at_write (Ok made) e = subst (IsAtWrite u array) (sym e.at_write) (is_at_write hold end_exactly unit_turns places u array inspected.name inspected.there forms inspects)
  made_at_write (Err x) e = tt
