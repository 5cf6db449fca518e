-- The laws of a whole unit's run, from those of its text.
use Rattle.std.proofs.Common.{◌≡◌, ◌⊎◌, ℕ, Bool, true, false, true≢false, not, List, [], ◌∷◌, ◌++◌, refl, sym, ap, ◌∙◌, subst, append_assoc, ℤ, Option, None, inl, inr}
use Rattle.c_tree.specs.Plain.{Word, PlainExprs, PlainStmt, begin, verdict, PlainStmts, PlainParam, PlainUnit}
use Rattle.c_tree.specs.Trees.{stmts_of}
use Rattle.c_tree.specs.Values.{Vars}
use Rattle.c_tree.specs.Arrays.{Array, Memory, extents_at, vars_of, words_from}
use Rattle.c_tree.specs.Accesses.{Clean}
use Rattle.c_tree.specs.Fault.{Upset}
use Rattle.c_tree.specs.Instances.{Tagged, untagged}
use Rattle.c_tree.specs.Inputs.{arrays_for}
use Rattle.c_tree.specs.Run.{State, End, plain, outside, index, balanced as balanced_end, fault as fault_end, Outcome, goes_on, ends, and_then, Scope, exec_all, unbalanced, judged, totals_of, struck_at_end, Ended, result, started, run_from}
use Rattle.instrumentation.specs.Body.{instrument_all}
use Rattle.instrumentation.specs.Guarded.{extents_from}
use Rattle.instrumentation.specs.Prologue.{prologue_text}
use Rattle.instrumentation_laws.specs.IndexedList as indexed
use Rattle.instrumentation_laws.specs.Indices.{AllIndicesLie}
use Rattle.instrumentation_laws.specs.KeptUnits.{EndOutsideBeside}
use Rattle.instrumentation_laws.specs.Setting.{text, text_after, scope_of, inspected_in, IsStart}
use Rattle.instrumentation_laws.specs.TextLaws.{EndAlike}
use Rattle.instrumentation_laws.specs.UnitLaws.{IsGoing, EndsBeside, RunsBeside, RunsAlike, differing, verdict_after}
use Rattle.instrumentation_laws.proofs.Outcomes.{IfGoing}
use Rattle.instrumentation_laws.proofs.Steps.{exec_join}
use Rattle.instrumentation_laws.proofs.Texts.{text_follows}
use Rattle.run_laws.proofs.Within.{clean_is as all_clean}
use Rattle.instrumentation_laws.proofs.Leaving.{AllTaggedLie, untagged_lie, all_lie}
use Rattle.instrumentation_laws.proofs.Verdicts.{unbalanced_is, end_is, end_memory}

-- without an inspected array the ends are the same
same_end : (inspected : ℕ → Bool) (e f : End) (pairs : List (ℕ × ℕ)) → ((a : ℕ) → inspected a ≡ false) → EndsBeside inspected e pairs f → f ≡ verdict_after e pairs
same_end inspected plain f pairs none h = h
same_end inspected balanced_end f pairs none h = absurd h
same_end inspected (fault_end l) f pairs none h = absurd h
same_end inspected (outside a) f pairs none (inl h) = h
same_end inspected (outside a) f pairs none (inr h) = absurd (true≢false (sym h.1 ∙ none a))
same_end inspected (index a) f pairs none h = absurd h

module _ (u t : PlainUnit) (ns : List ℤ) (m : Memory) (fault : Option Upset) (number : Word → ℕ) (decls : List (Word × PlainExprs)) (tables : List PlainStmt) (cells : ℕ → PlainExprs → List PlainStmt) (pieces : ℕ → List PlainStmt)
    (set : IsGoing u t ns m fault number decls tables cells pieces) where
  abbrev vs : Vars
  vs = vars_of u.params ns

  abbrev arrays : List Array
  arrays = arrays_for u ns

  abbrev sc : Scope
  sc = scope_of arrays t.wides fault

  abbrev inspected : ℕ → Bool
  inspected = inspected_in number u.body

  abbrev source_start : State
  source_start = record (started u m) { begun = true }

  abbrev source_run : Outcome (Unit {0})
  source_run = exec_all (scope_of arrays [] fault) u.body vs source_start

  abbrev pub text_run : Outcome (Unit {0})
  text_run = exec_all sc (stmts_of (text_after tables decls cells number pieces u.body)) vs (started t m)

  -- the text, and then the verdict
  abbrev pub judging : Outcome (Unit {0}) → Outcome (Unit {0})
  judging o = and_then o (λ (v : Unit {0}) x. ends (judged (unbalanced x 0 arrays)) x)

  abbrev whole : List PlainStmt
  whole = tables ++ (prologue_text cells 0 decls ++ (begin ∷ (instrument_all number (extents_from decls) pieces 0 u.body ++ verdict ∷ [])))

  judged_is : exec_all sc (stmts_of whole) vs (started t m) ≡ judging text_run
  judged_is =
      ap (λ (l : List PlainStmt). exec_all sc (stmts_of (tables ++ l)) vs (started t m)) (sym (append_assoc (prologue_text cells 0 decls) (begin ∷ instrument_all number (extents_from decls) pieces 0 u.body) (verdict ∷ []))) ∙
      ap (λ (l : List PlainStmt). exec_all sc (stmts_of l) vs (started t m)) (sym (append_assoc tables (text decls cells number pieces u.body) (verdict ∷ []))) ∙
      exec_join sc (text_after tables decls cells number pieces u.body) (verdict ∷ []) vs (started t m)

  pub text_is : run_from t ns m fault ≡ result true sc (judging text_run)
  text_is =
      ap (λ (ps : List PlainParam). run_from (record t { params = ps }) ns m fault) set.text.params ∙
      ap (λ (b : PlainStmts). run_from (record t { params = u.params; body = b }) ns m fault) set.text.body ∙
      ap (λ p. result p sc (exec_all sc (stmts_of whole) vs (started t m))) set.text.printed ∙
      ap (result true sc) judged_is

  pub source_is : run_from u ns m fault ≡ result false (scope_of arrays [] fault) source_run
  source_is =
      ap (λ (v : Option ℕ). run_from (record u { version = v }) ns m fault) set.text.source ∙
      ap (λ (ws : List Word). run_from (record u { version = None; wides = ws }) ns m fault) set.text.no_wides

  pub start : IsStart (started t m)
  start = record { begun = ap not set.text.printed; accesses = refl; used = λ b fits. refl; defined = λ b fits. refl }

  pub follow : EndAlike inspected source_run text_run
  follow = text_follows arrays number t.wides fault vs (extents_at arrays) decls u.body cells pieces set.setting tables source_start (started t m) start set.tables_go refl refl refl set.text.words

  -- ---- beside the source

  abbrev Beside : Outcome (Unit {0}) → Outcome (Unit {0}) → Type 0
  Beside o q = RunsBeside inspected (result false (scope_of arrays [] fault) o) (result true sc (judging q))

  beside : (o q : Outcome (Unit {0})) → EndAlike inspected o q → Beside o q
  beside (goes_on v s) (goes_on w x) h =
      let j = end_is fault s in
      let k = end_is fault x in
      record {
        accesses = ap (λ (t : State). t.accesses) k.1 ∙ h.accesses ∙ sym (ap (λ (t : State). t.accesses) j.1);
        arrays = ap (λ (n : Memory). words_from n 0 arrays) (end_memory fault s x h);
        verdict = ap judged (unbalanced_is x 0 arrays ∙ ap (λ (t : State). differing 0 (totals_of t 0 arrays)) (sym k.1));
      }
  beside (ends e s) (ends f x) h =
      let j = end_is fault s in
      let k = end_is fault x in
      record {
        accesses = ap (λ (t : State). t.accesses) k.1 ∙ h.1.accesses ∙ sym (ap (λ (t : State). t.accesses) j.1);
        arrays = ap (λ (n : Memory). words_from n 0 arrays) (end_memory fault s x h.1);
        verdict = subst (λ (e : End). EndsBeside inspected e (totals_of (struck_at_end fault x) 0 arrays) f) (sym h.0.1) h.0.2;
      }
  beside (goes_on v s) (ends f x) h = absurd h
  beside (ends e s) (goes_on w x) h = absurd h

  pub unit_follows : RunsBeside inspected (run_from u ns m fault) (run_from t ns m fault)
  unit_follows = subst (λ (r : Ended). RunsBeside inspected r (run_from t ns m fault)) (sym source_is) (subst (λ (r : Ended). RunsBeside inspected (result false (scope_of arrays [] fault) source_run) r) (sym text_is) (beside source_run text_run follow))

  pub regular_follows : ((a : ℕ) → inspected_in number u.body a ≡ false) → RunsAlike (run_from u ns m fault) (run_from t ns m fault)
  regular_follows none =
      let h = unit_follows in
      record { accesses = h.accesses; arrays = h.arrays; verdict = same_end inspected (run_from u ns m fault).verdict (run_from t ns m fault).verdict (run_from t ns m fault).totals none h.verdict }

  -- ---- outside extents

  abbrev pub indexed_list : List Tagged
  indexed_list = indexed.tagged_all arrays m number 0 u.body vs

  abbrev AllLieAt : State → Type 0
  AllLieAt x = AllTaggedLie arrays number (extents_from decls) inspected m fault (extents_at arrays) set.setting.sizes indexed_list

  outside_at : (o q : Outcome (Unit {0})) → EndAlike inspected o q → IfGoing (Unit {0}) (λ (v : Unit {0}) x. AllLieAt x) o → ¬ Clean (extents_at arrays) (untagged indexed_list) →
      (a : ℕ) × ((result false (scope_of arrays [] fault) o).verdict ≡ outside a) × (((result true sc (judging q)).verdict ≡ outside a) ⊎ (((result true sc (judging q)).verdict ≡ index a) × (inspected a ≡ true)))
  outside_at (goes_on v s) (goes_on w x) h lies escapes = absurd (escapes (all_clean arrays (untagged indexed_list) (untagged_lie arrays number (extents_from decls) inspected m fault (extents_at arrays) set.setting.sizes indexed_list lies)))
  outside_at (ends e s) (ends f x) h lies escapes = h.0
  outside_at (goes_on v s) (ends f x) h lies escapes = absurd h
  outside_at (ends e s) (goes_on w x) h lies escapes = absurd h

  pub unit_ends_outside : AllIndicesLie arrays m number (extents_at arrays) u.body vs → ¬ Clean (extents_at arrays) (untagged indexed_list) → EndOutsideBeside inspected (run_from u ns m fault) (run_from t ns m fault)
  unit_ends_outside lie escapes =
      let k = outside_at source_run text_run follow (all_lie arrays number (extents_from decls) inspected m fault (extents_at arrays) set.setting.sizes u.body 0 vs source_start set.setting.source lie) escapes in
      record {
        array = k.0;
        source_ends = ap (λ (r : Ended). r.verdict) source_is ∙ k.1;
        text_ends = subst (λ (r : Ended). (r.verdict ≡ outside k.0) ⊎ ((r.verdict ≡ index k.0) × (inspected k.0 ≡ true))) (sym text_is) k.2;
        events = unit_follows.accesses;
        arrays = unit_follows.arrays;
      }
