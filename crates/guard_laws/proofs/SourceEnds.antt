-- Where a source's run under a fault goes on to: what its instrumented text says of it.
use Rattle.std.proofs.Common.{◌≡◌, ℕ, ◌+◌, Bool, true, false, not, arith, List, [], length, refl, sym, ap, ◌∙◌, subst, ℤ, Option, None}
use Rattle.std.proofs.lemmas.List.{append-nil}
use Rattle.c_tree.specs.Plain.{Word, PlainExprs, PlainStmt, PlainUnit}
use Rattle.c_tree.specs.Trees.{stmts_of}
use Rattle.c_tree.specs.Arrays.{Array, Memory, extents_at, vars_of}
use Rattle.c_tree.specs.Accesses.{Access, Clean}
use Rattle.c_tree.specs.Fault.{Upset}
use Rattle.c_tree.specs.Instances.{untagged, core, accesses}
use Rattle.c_tree.specs.Inputs.{PlainInputs, arrays_for, memory_for, IsSound}
use Rattle.c_tree.specs.Run.{State, Outcome, goes_on, ends, exec_all, result, Ended, started, turns, run_from}
use Rattle.balance_laws.specs.Replay.{Replays, left_after}
use Rattle.run_laws.specs.Logs.{accesses_in, values_in}
use Rattle.instrumentation.specs.Guarded.{arrays_with_extents, guarded}
use Rattle.instrumentation_laws.specs.IndexedList.{tagged_all}
use Rattle.instrumentation_laws.specs.KeptTexts.{HasIndexArrays, IsQuiet, EveryQuietTextEnds}
use Rattle.instrumentation_laws.specs.KeptUnits.{IsKeptUnit, CountedUnitsGoOn}
use Rattle.instrumentation_laws.specs.Setting.{text_after, scope_of, inspected_in, IsStart}
use Rattle.instrumentation_laws.specs.RegularUnits.{number_for}
use Rattle.instrumentation_laws.specs.TextLaws.{EndsWith, WhereGoing, EndAlike, EveryTextFollows}
use Rattle.pass_laws.specs.Countable.{AreCountable}
use Rattle.pass_laws.specs.Going.{WhereGoing as WhereGoing', Turned}
use Rattle.pass_laws.specs.Laws.{SourcesTurn}
use Rattle.pass_laws.specs.Turns.{turns_all}

-- a run goes on to a state whose accesses are the list and whose values follow the memory, which it leaves
pub record GoesOnTo (fault : Option Upset) (m : Memory) (list : List Access) (o : Outcome (Unit {0})) : Type 0 where
  pub to : State
  pub goes : o ≡ goes_on tt to
  pub made : accesses_in to.accesses ≡ list
  pub replays : Replays list (values_in to.accesses) fault m
  pub left : to.memory ≡ left_after list (values_in to.accesses) fault m (length list)

beside : (inspected : ℕ → Bool) (fault : Option Upset) (m : Memory) (extents : ℕ → List ℤ) (list : List Access) (n : ℕ) (o q : Outcome (Unit {0})) → Clean extents list →
    EndAlike inspected o q → WhereGoing (Clean extents list) (EndsWith fault m extents list n) q → GoesOnTo fault m list o
beside inspected fault m extents list n (goes_on v s) (goes_on w t) clean same h = record {
  to = s;
  goes = refl;
  made = sym (ap accesses_in same.accesses) ∙ h.made;
  replays = subst (λ l. Replays list (values_in l) fault m) same.accesses h.replays;
  left = sym same.memory ∙ h.memory ∙ ap (λ l. left_after list (values_in l) fault m (length list)) same.accesses;
}
beside inspected fault m extents list n (ends e s) (goes_on w t) clean same h = absurd same
beside inspected fault m extents list n (goes_on v s) (ends e t) clean same h = absurd same
beside inspected fault m extents list n (ends e s) (ends f t) clean same h = absurd (h clean)

-- the run of a source's body, from its start
abbrev pub source_start : PlainUnit → PlainInputs → State
source_start u i = record (started u (memory_for u i)) { begun = true }

abbrev pub body_run : PlainUnit → PlainInputs → Option Upset → Outcome (Unit {0})
body_run u i fault = exec_all (scope_of (arrays_for u i.ints) [] fault) u.body (vars_of u.params i.ints) (source_start u i)

-- the run of a unit without a version and wide names is that of its body
pub run_is_body : (u : PlainUnit) (i : PlainInputs) (fault : Option Upset) → u.version ≡ None → u.wides ≡ [] →
    run_from u i.ints (memory_for u i) fault ≡ result false (scope_of (arrays_for u i.ints) [] fault) (body_run u i fault)
run_is_body u i fault v w =
    ap (λ (v : Option ℕ). run_from (record u { version = v }) i.ints (memory_for u i) fault) v ∙
    ap (λ (ws : List Word). run_from (record u { version = None; wides = ws }) i.ints (memory_for u i) fault) w

module _ (text_quiet : EveryQuietTextEnds) (text_follows : EveryTextFollows) (go_on : CountedUnitsGoOn) (source_turn : SourcesTurn) (u : PlainUnit) (i : PlainInputs) (is_index : ℕ → Bool) (tables : List PlainStmt) (cells : ℕ → PlainExprs → List PlainStmt) (pieces : ℕ → List PlainStmt)
    (counted : (fault : Option Upset) → IsKeptUnit u (guarded u) i.ints (memory_for u i) fault (number_for u) is_index (arrays_with_extents u.params) tables cells pieces) (sound : IsSound u i) where
  abbrev m : Memory
  m = memory_for u i

  abbrev arrays : List Array
  arrays = arrays_for u i.ints

  abbrev decls : List (Word × PlainExprs)
  decls = arrays_with_extents u.params

  abbrev list : List Access
  list = untagged (tagged_all arrays m (number_for u) 0 u.body (vars_of u.params i.ints))

  list_is : list ≡ accesses u i.ints m
  list_is = (counted None).listed

  clean : Clean (extents_at arrays) list
  clean = subst (λ (l : List Access). Clean (extents_at arrays) l) (sym (list_is ∙ append-nil (core u i.ints m))) sound.clean

  goes_on_to_list : (fault : Option Upset) → IsQuiet is_index list fault → GoesOnTo fault m list (body_run u i fault)
  goes_on_to_list fault quiet =
      let c = counted fault in
      let g = go_on u (guarded u) i.ints m fault (number_for u) is_index decls tables cells pieces c in
      let start : IsStart (started (guarded u) m) = record { begun = ap not c.text.printed; accesses = refl; used = λ b fits. refl; defined = λ b fits. refl } in
      beside (inspected_in (number_for u) u.body) fault m (extents_at arrays) list (length decls) (body_run u i fault)
      (exec_all (scope_of arrays (guarded u).wides fault) (stmts_of (text_after tables decls cells (number_for u) pieces u.body)) (vars_of u.params i.ints) (started (guarded u) m))
      clean
      (text_follows arrays (number_for u) (guarded u).wides fault (vars_of u.params i.ints) (extents_at arrays) decls u.body tables cells pieces (source_start u i) (started (guarded u) m) g.setting start g.tables_go refl refl refl g.text.words)
      (text_quiet arrays (number_for u) (guarded u).wides fault (vars_of u.params i.ints) (extents_at arrays) decls u.body c.kept tables cells pieces is_index (started (guarded u) m) c.setting
      (subst (λ (l : List Access). HasIndexArrays (number_for u) is_index l u.body) (sym list_is) c.index_arrays) start quiet)

  -- Without a fault, and under one that is in no index array or isn't exposed, the source's run goes on to its end, with the accesses of its list.
  pub source_goes : (fault : Option Upset) → IsQuiet is_index (accesses u i.ints m) fault → GoesOnTo fault m (accesses u i.ints m) (body_run u i fault)
  source_goes fault quiet =
      subst (λ (l : List Access). GoesOnTo fault m l (body_run u i fault)) list_is (goes_on_to_list fault (subst (λ (l : List Access). IsQuiet is_index l fault) (sym list_is) quiet))

  -- its turns are those of its statements
  pub turns_are : AreCountable arrays (number_for u) u.body (vars_of u.params i.ints) → turns u i ≡ turns_all u.body (vars_of u.params i.ints)
  turns_are countable =
      let g = source_goes None tt in
      let t : Turned (turns_all u.body (vars_of u.params i.ints)) (source_start u i) g.to =
      subst (λ (o : Outcome (Unit {0})). WhereGoing' (Turned (turns_all u.body (vars_of u.params i.ints)) (source_start u i)) o) g.goes (source_turn (scope_of arrays [] None) arrays (number_for u) u.body (vars_of u.params i.ints) countable (source_start u i)) in
      ap (λ (e : Ended). e.body_turns) (run_is_body u i None (counted None).text.source (counted None).text.no_wides) ∙ ap (λ (o : Outcome (Unit {0})). (result false (scope_of arrays [] None) o).body_turns) g.goes ∙ t.body ∙ none (turns_all u.body (vars_of u.params i.ints))
    where
      none : (n : ℕ) → 0 + n ≡ n
      none n = omega arith
