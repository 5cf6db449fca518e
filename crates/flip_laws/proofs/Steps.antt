-- The steps and the totals of an instrumented unit's run under a fault.
use Rattle.std.proofs.Common.{◌≡◌, ◌⊎◌, ⊎_elim, inl, inr, ℕ, Bool, List, refl, sym, ap, ◌∙◌, subst, ℤ, Option, Some, None}
use Rattle.std.specs.Prelude.{slice_get}
use Rattle.c_tree.specs.Plain.{PlainUnit}
use Rattle.c_tree.specs.Arrays.{extents_at, all_cells}
use Rattle.c_tree.specs.Fault.{Fault, Upset, upset_at, upset_of}
use Rattle.c_tree.specs.Instances.{accesses}
use Rattle.c_tree.specs.Inputs.{PlainInputs, arrays_for, memory_for, Fit, IsSound}
use Rattle.c_tree.specs.Run.{Event, End, plain, balanced, fault as faulty, index, outside, Ended, run_from, run}
use Rattle.c_tree.specs.Flips.{IsFaultFor}
use Rattle.run_laws.specs.Logs.{accesses_in, values_in}
use Rattle.instrumentation.specs.Guarded.{arrays_with_extents, guarded}
use Rattle.instrumentation_laws.specs.KeptTexts.{IsQuiet, EveryQuietTextEnds}
use Rattle.instrumentation_laws.specs.KeptUnits.{IsKeptUnit, EndsAtCheck as EndsBesideCheck, TakesSteps, HasTotalsOf, EveryKeptRunFollows, EveryKeptRunHasTotals, EveryKeptRunStaysOnCourse, CountedUnitsGoOn}
use Rattle.instrumentation_laws.specs.RegularUnits.{number_for}
use Rattle.instrumentation_laws.specs.Setting.{inspected_in}
use Rattle.instrumentation_laws.specs.TextLaws.{EveryTextFollows}
use Rattle.instrumentation_laws.specs.UnitLaws.{totals_over}
use Rattle.balance_laws.specs.Laws.{HiddenFlip, FlippedMemory}
use Rattle.pass_laws.specs.Laws.{SourcesTurn}
use Rattle.guard_laws.specs.Forms.{HasForms}
use Rattle.guard_laws.specs.IndexArrays.{is_index_array}
use Rattle.guard_laws.specs.Guards.{IsExposed, IsRead, EndsAtNoCheck, GuardsInDetail, ReadyAreGuarded}
use Rattle.guard_laws.proofs.Guarded.{tables_of, cells_of, pieces_of, not_index}
use Rattle.guard_laws.proofs.SourceEnds.{GoesOnTo, body_run, source_goes}
use Rattle.flip_laws.specs.FaultyRuns.{TakesSameSteps, EndsAtCheck, KeepsIndices, MakesList, ShowsNothing, TurnsAlike, TellsOfFaults}
use Rattle.flip_laws.proofs.Unread.{same_events, arrays_written, arrays_unwritten}

-- where the source ends plain
same_steps : (inspected : ℕ → Bool) (source text : Ended) → source.verdict ≡ plain → TakesSteps inspected source text → TakesSameSteps source text
same_steps inspected source text p k = record {
  source_ends = p;
  events = k.events;
  arrays = k.arrays;
  verdict = subst (λ e. EndsBesideCheck inspected e text.totals text.verdict) p k.verdict;
}

-- it does so, or ends outside an array
by_end : (inspected : ℕ → Bool) (source text : Ended) → TakesSteps inspected source text → (e : End) → source.verdict ≡ e → TakesSameSteps source text ⊎ EndsAtCheck source text
by_end inspected source text k plain p = inl (same_steps inspected source text p k)
by_end inspected source text k (outside a) p =
    let c : EndsBesideCheck inspected (outside a) text.totals text.verdict = subst (λ e. EndsBesideCheck inspected e text.totals text.verdict) p k.verdict in
    inr (record { array = a; source_ends = p; unit_ends = c.0; events = k.events; arrays = k.arrays })
by_end inspected source text k balanced p = absurd (subst (λ e. EndsBesideCheck inspected e text.totals text.verdict) p k.verdict)
by_end inspected source text k (faulty arrays) p = absurd (subst (λ e. EndsBesideCheck inspected e text.totals text.verdict) p k.verdict)
by_end inspected source text k (index a) p = absurd (subst (λ e. EndsBesideCheck inspected e text.totals text.verdict) p k.verdict)

-- the array of a fault in a cell that there is
upset_array : (f : Fault) (o : Option (List ℤ)) (x : Upset) → upset_at f o ≡ Some x → x.array ≡ f.array
upset_array f None x e = absurd (let g : None ≡ Some x = e in cc)
upset_array f (Some cell) x e = let g : Some (record { array = f.array; cell = cell; bit = f.bit; place = f.place }) ≡ Some x = e in let h : record { array = f.array; cell = cell; bit = f.bit; place = f.place } ≡ x = cc in ap (λ (y : Upset). y.array) (sym h)

module _ (text_quiet : EveryQuietTextEnds) (text_follows : EveryTextFollows) (counted_go_on : CountedUnitsGoOn) (source_turn : SourcesTurn) (run_follows : EveryKeptRunFollows) (has_totals : EveryKeptRunHasTotals) (on_course : EveryKeptRunStaysOnCourse) (hidden : HiddenFlip) (left : FlippedMemory)
    (guards : ReadyAreGuarded) (u : PlainUnit) (forms : (i : PlainInputs) → Fit u i → HasForms u i) where
  detail : GuardsInDetail u (guarded u)
  detail = guards u forms

  abbrev inspected : ℕ → Bool
  inspected = inspected_in (number_for u) u.body

  abbrev Counted : PlainInputs → Option Upset → Type 0
  Counted i x = IsKeptUnit u (guarded u) i.ints (memory_for u i) x (number_for u) (is_index_array u) (arrays_with_extents u.params) (tables_of u) (cells_of u) (pieces_of u)

  counted : (i : PlainInputs) (x : Option Upset) → IsSound u i → Counted i x
  counted i x sound = detail.counted i x sound

  steps : (i : PlainInputs) (fault : Option Fault) → IsSound u i → TakesSteps inspected (run u i fault) (run (guarded u) i fault)
  steps i fault sound = run_follows u (guarded u) i fault (number_for u) (is_index_array u) (arrays_with_extents u.params) (tables_of u) (cells_of u) (pieces_of u) (counted i (upset_of (arrays_for u i.ints) fault) sound) sound

  takes_steps : (i : PlainInputs) (fault : Option Fault) → IsSound u i → TakesSameSteps (run u i fault) (run (guarded u) i fault) ⊎ EndsAtCheck (run u i fault) (run (guarded u) i fault)
  takes_steps i fault sound = by_end inspected (run u i fault) (run (guarded u) i fault) (steps i fault sound) (run u i fault).verdict refl

  of_run : (i : PlainInputs) (fault : Option Fault) → IsSound u i → EndsAtNoCheck (run (guarded u) i fault).verdict → HasTotalsOf u i (run (guarded u) i fault)
  of_run i fault sound none =
      has_totals u (guarded u) i fault (number_for u) (is_index_array u) (arrays_with_extents u.params) (tables_of u) (cells_of u) (pieces_of u) (counted i (upset_of (arrays_for u i.ints) fault) sound) sound none

  -- ---- without a fault

  without : (i : PlainInputs) → IsSound u i → EndsAtNoCheck (run (guarded u) i None).verdict
  without i sound = not_index (run (guarded u) i None).verdict (detail.guards.balanced i sound).0

  list_without : (i : PlainInputs) → IsSound u i → MakesList u i (run u i None) (run (guarded u) i None)
  list_without i sound =
      let through = (forms i sound.fit).follows sound.clean in
      let k = steps i None sound in
      record { steps = same_steps inspected (run u i None) (run (guarded u) i None) through.verdict k; made = ap accesses_in k.events ∙ through.made }

  -- ---- with one that leaves the index arrays' reads alone

  list_with : (i : PlainInputs) (f : Fault) → IsSound u i → KeepsIndices u i (Some f) → (o : Option Upset) → upset_of (arrays_for u i.ints) (Some f) ≡ o → MakesList u i (run u i (Some f)) (run (guarded u) i (Some f))
  list_with i f sound keeps None e =
      subst (λ o. MakesList u i (run_from u i.ints (memory_for u i) o) (run_from (guarded u) i.ints (memory_for u i) o)) (sym e) (list_without i sound)
  list_with i f sound keeps (Some x) e =
      let same : x.array ≡ f.array = upset_array f (slice_get (all_cells (extents_at (arrays_for u i.ints) f.array)) f.cell) x e in
      let k = on_course u (guarded u) i f x (number_for u) (is_index_array u) (arrays_with_extents u.params) (tables_of u) (cells_of u) (pieces_of u) e (counted i (Some x) sound) sound
      (⊎_elim (λ apart. inl (ap (is_index_array u) same ∙ apart)) (λ unread. inr (λ r. unread (subst (IsExposed (accesses u i.ints (memory_for u i))) (sym e) r))) keeps) in
      record { steps = same_steps inspected (run u i (Some f)) (run (guarded u) i (Some f)) k.source_ends (steps i (Some f) sound); made = k.made }

  makes_list : (i : PlainInputs) (fault : Option Fault) → IsSound u i → KeepsIndices u i fault → MakesList u i (run u i fault) (run (guarded u) i fault)
  makes_list i None sound keeps = list_without i sound
  makes_list i (Some f) sound keeps = list_with i f sound keeps (upset_of (arrays_for u i.ints) (Some f)) refl

  -- ---- with one that no read sees

  goes : (i : PlainInputs) → IsSound u i → (x : Option Upset) → IsQuiet (is_index_array u) (accesses u i.ints (memory_for u i)) x → GoesOnTo x (memory_for u i) (accesses u i.ints (memory_for u i)) (body_run u i x)
  goes i sound x quiet = source_goes text_quiet text_follows counted_go_on source_turn u i (is_index_array u) (tables_of u) (cells_of u) (pieces_of u) (λ x. counted i x sound) sound x quiet

  shows_nothing : (i : PlainInputs) (f : Fault) → IsSound u i → IsFaultFor u i f → ¬ IsRead u i f → ShowsNothing u i f (run (guarded u) i None) (run (guarded u) i (Some f))
  shows_nothing i f sound fits unread =
      let h : HasForms u i = forms i sound.fit in
      let through = h.follows sound.clean in
      let x : Option Upset = upset_of (arrays_for u i.ints) (Some f) in
      let k = steps i (Some f) sound in
      let w = h.well_formed in
      let events = k.events ∙ same_events hidden left u i w.version w.no_wides through (is_index_array u) (goes i sound) x unread ∙ sym (steps i None sound).events in
      let verdict = detail.unread i f sound fits unread in
      record {
        verdict = verdict;
        events = events;
        totals = (of_run i (Some f) sound (not_index (run (guarded u) i (Some f)).verdict verdict)).totals ∙
            ap (λ (l : List Event). totals_over (accesses u i.ints (memory_for u i)) (extents_at (arrays_for u i.ints)) (memory_for u i) (values_in l) 0 (arrays_for u i.ints)) events ∙
            sym (of_run i None sound (without i sound)).totals;
        written = λ o. k.arrays ∙ arrays_written hidden left u i w.version w.no_wides through (is_index_array u) (goes i sound) x unread o;
        unwritten = λ none. k.arrays ∙ arrays_unwritten hidden left u i w.version w.no_wides through (is_index_array u) (goes i sound) x unread none;
      }

  turns_alike : (i : PlainInputs) (fault : Option Fault) → IsSound u i → EndsAtNoCheck (run (guarded u) i fault).verdict → TurnsAlike (run (guarded u) i None) (run (guarded u) i fault)
  turns_alike i fault sound none =
      let faulty = detail.general i fault sound none in
      let calm = detail.general i None sound (without i sound) in
      record { body = faulty.body ∙ sym calm.body; prologue = faulty.prologue ∙ sym calm.prologue }

  pub tells_of_faults : TellsOfFaults u (guarded u)
  tells_of_faults = record {
    detail = detail;
    steps = takes_steps;
    list = makes_list;
    totals = λ i fault sound none. (of_run i fault sound none).totals;
    unread = shows_nothing;
    turns = turns_alike;
    tables = λ i fault sound. detail.tables i fault sound ∙ sym (detail.tables i None sound);
  }
