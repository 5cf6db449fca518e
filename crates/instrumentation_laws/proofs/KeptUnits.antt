-- The laws of the run of a unit with tables, from those of its text.
use Rattle.std.proofs.Common.{◌≡◌, ◌≢◌, ◌↔◌, ◌⊎◌, ℕ, zero, suc, ◌+◌, ◌^◌, ◌<◌, ◌≤◌, Bool, true, false, ◌||◌, not, cond, List, [], ◌∷◌, length, refl, sym, ap, ◌∙◌, subst, arith, ℤ, Option, Some, None, inl, inr, nat_eq, eq-eqb}
use Rattle.std.specs.List.{list_any}
use Rattle.std.proofs.lemmas.Bool.{cases_eq, ne_eqb}
use Rattle.std.proofs.lemmas.List.{append-nil}
use Rattle.c_tree.specs.Plain.{Word, PlainExprs, PlainStmt, PlainUnit}
use Rattle.c_tree.specs.Trees.{stmts_of}
use Rattle.c_tree.specs.Values.{Vars}
use Rattle.c_tree.specs.Arrays.{Array, Memory, extents_at, vars_of}
use Rattle.c_tree.specs.Accesses.{Access, Clean, latest}
use Rattle.c_tree.specs.Fault.{Upset, Exposed}
use Rattle.c_tree.specs.Instances.{Tagged, untagged, core, accesses, literal_of}
use Rattle.c_tree.specs.Inputs.{arrays_for}
use Rattle.c_tree.specs.Run.{Event, State, End, plain, outside, index, balanced as balanced_end, fault as fault_end, Outcome, goes_on, ends, Scope, exec_all, unbalanced, judged, totals_of, struck_at_end, Ended, Reports, result, started, run_from}
use Rattle.balance_laws.specs.Laws.{TotalsAgree, CalmMemory, FlipIsToldOver, OthersAgree}
use Rattle.balance_laws.proofs.Flips.{uses_from_exposed, exposed_from_uses}
use Rattle.balance_laws.specs.Totals.{uses_after}
use Rattle.run_laws.specs.Logs.{accesses_in, values_in}
use Rattle.instrumentation.specs.Names.{use_total, definition_total}
use Rattle.instrumentation.specs.Guarded.{extents_from}
use Rattle.instrumentation_laws.specs.IndexedList.{tagged_all}
use Rattle.instrumentation_laws.specs.Kept.{Kept, AreCellPieces, EndsEarly}
use Rattle.instrumentation_laws.specs.KeptTexts.{GoesPrepared, GoesOrIndex, HasIndexArrays, IsQuiet}
use Rattle.instrumentation_laws.specs.PrologueTotals.{AreGoing}
use Rattle.instrumentation_laws.specs.Setting.{text_after, scope_of, inspected_in, GoesUntouched, IsStart}
use Rattle.instrumentation_laws.specs.TextLaws.{EndsWith, WhereGoing, Balanced, EndAlike}
use Rattle.instrumentation_laws.specs.UnitLaws.{IsGoing, StaysWithin, EndsBeside, RunsBeside, differing, totals_over}
use Rattle.instrumentation_laws.specs.KeptUnits.{IsKeptUnit, EndsAtCheck, IsAmong, TellsOfEach, TakesSteps, StaysOnCourse, CountedUnitsGoOn, EveryKeptUnitLeaves}
use Rattle.instrumentation_laws.specs.WordValues.{AllAssignWords}
use Rattle.instrumentation_laws.proofs.KeptLaws as laws
use Rattle.instrumentation_laws.proofs.KeptLaws.{used_total, defined_total}
use Rattle.instrumentation_laws.proofs.NoTrust.{no_trust, any_body, none_seen}
use Rattle.instrumentation_laws.proofs.Outcomes.{IfGoing, GoesOr}
use Rattle.instrumentation_laws.proofs.Units as units
use Rattle.instrumentation_laws.proofs.Verdicts.{unbalanced_is, none_unbalanced, one_unbalanced, totals_are, end_is}
use Rattle.instrumentation_laws.proofs.Words.{IsFit, stmts_fit, bounded_at}

-- ---- pieces that count go on

pub prepared_goes : (kept : Kept) (s : State) (o : Outcome (Unit {0})) → GoesPrepared kept s o → GoesUntouched s o
prepared_goes kept s (goes_on u t) h = record { begun = h.begun; memory = h.memory; accesses = h.accesses; wides = h.wides; words = h.words }
prepared_goes kept s (ends e t) h = h

pub cells_go_on : (kept : Kept) (sc : Scope) (whole : List Tagged) (vs : Vars) (extents : ℕ → List ℤ) (cells : ℕ → PlainExprs → List PlainStmt) (a : ℕ) (decls : List (Word × PlainExprs)) → AreCellPieces kept sc whole vs extents cells a decls → AreGoing sc cells a decls
cells_go_on kept sc whole vs extents cells a [] h = tt
cells_go_on kept sc whole vs extents cells a (x ∷ more) h = (h.0.piece, cells_go_on kept sc whole vs extents cells (suc a) more h.1)

pub counted_go_on : CountedUnitsGoOn
counted_go_on u t ns m fault number is_index decls tables cells pieces set = record {
  text = set.text;
  tables_go = prepared_goes set.kept (started t m) (exec_all (scope_of (arrays_for u ns) t.wides fault) (stmts_of tables) (vars_of u.params ns) (started t m)) set.setting.tables_go;
  setting = record {
    names = set.setting.names;
    vars = set.setting.vars;
    declared = set.setting.declared;
    sizes = set.setting.sizes;
    source = set.setting.source;
    pieces_go = λ k. (set.setting.pieces_count k).piece;
    cells_go = cells_go_on set.kept (scope_of (arrays_for u ns) t.wides fault) (tagged_all (arrays_for u ns) m number 0 u.body (vars_of u.params ns)) (vars_of u.params ns) (extents_at (arrays_for u ns)) cells 0 decls set.setting.cells_count;
  };
}

-- ---- verdicts

judged_not_outside : (l : List ℕ) (a : ℕ) → judged l ≢ outside a
judged_not_outside [] a e = absurd (let g : balanced_end ≡ outside a = e in cc)
judged_not_outside (k ∷ l) a e = absurd (let g : fault_end (k ∷ l) ≡ outside a = e in cc)

index_not_outside : (a b : ℕ) → index a ≢ outside b
index_not_outside a b e = absurd (let g : index a ≡ outside b = e in cc)

at_check : (inspected : ℕ → Bool) (e f : End) (pairs : List (ℕ × ℕ)) → ((a : ℕ) → f ≢ outside a) → EndsBeside inspected e pairs f → EndsAtCheck inspected e pairs f
at_check inspected plain f pairs never h = h
at_check inspected (outside a) f pairs never (inl h) = absurd (never a h)
at_check inspected (outside a) f pairs never (inr h) = h
at_check inspected balanced_end f pairs never h = h
at_check inspected (fault_end l) f pairs never h = h
at_check inspected (index a) f pairs never h = h

-- an array whose totals differ is among those that are named
right_true : (b c : Bool) → c ≡ true → b || c ≡ true
right_true true c e = refl
right_true false c e = e

is_named : (t : State) (arrays : List Array) (k a : ℕ) → k ≤ a → a < k + length arrays → t.wides (use_total a) ≢ t.wides (definition_total a) → list_any (nat_eq a) (unbalanced t k arrays) ≡ true
unfolding use_total definition_total
is_named t [] k a low high ne = absurd (omega arith)
is_named t (x ∷ more) k a low high ne = elim (cases_eq k a) [
  | inl e ↦ (
      let differ : nat_eq (t.wides (definition_total k)) (t.wides (use_total k)) ≡ false =
      ne_eqb (t.wides (definition_total k)) (t.wides (use_total k)) (λ g. ne (subst (λ n. t.wides (use_total n) ≡ t.wides (definition_total n)) e (sym g))) in
      ap (λ b. list_any (nat_eq a) (cond (not b) (k ∷ unbalanced t (suc k) more) (unbalanced t (suc k) more))) differ ∙
      ap (λ b. b || list_any (nat_eq a) (unbalanced t (suc k) more)) (eq-eqb a k (sym e)))
  | inr other ↦ chosen (nat_eq (t.wides (definition_total k)) (t.wides (use_total k))) (is_named t more (suc k) a (omega arith) (omega arith) ne)
]
  where
    chosen : (b : Bool) → list_any (nat_eq a) (unbalanced t (suc k) more) ≡ true → list_any (nat_eq a) (cond (not b) (k ∷ unbalanced t (suc k) more) (unbalanced t (suc k) more)) ≡ true
    chosen true h = h
    chosen false h = right_true (nat_eq a k) (list_any (nat_eq a) (unbalanced t (suc k) more)) h

names_it : (a : ℕ) (l : List ℕ) → list_any (nat_eq a) l ≡ true → (Reports (judged l) × IsAmong a (judged l))
names_it a [] h = absurd (let g : false ≡ true = h in cc)
names_it a (k ∷ l) h = (tt, record { arrays = k ∷ l; named = refl; among = h })

-- a fault is exposed or it isn't
pub exposed_or_not : (list : List Access) (f : Upset) → Exposed list f ⊎ (¬ Exposed list f)
exposed_or_not list f = chosen (uses_after list (latest list f.array f.cell f.place) f.place f.array) refl
  where
    chosen : (n : ℕ) → uses_after list (latest list f.array f.cell f.place) f.place f.array ≡ n → Exposed list f ⊎ (¬ Exposed list f)
    chosen zero e = inr (λ x. let h = uses_from_exposed list f x in omega arith)
    chosen (suc n) e = inl (exposed_from_uses list f (omega arith))

-- ---- the run of a unit

module _ (u t : PlainUnit) (ns : List ℤ) (m : Memory) (fault : Option Upset) (number : Word → ℕ) (is_index : ℕ → Bool) (decls : List (Word × PlainExprs)) (tables : List PlainStmt) (cells : ℕ → PlainExprs → List PlainStmt) (pieces : ℕ → List PlainStmt)
    (set : IsKeptUnit u t ns m fault number is_index decls tables cells pieces) where
  abbrev pub its_arrays : List Array
  its_arrays = arrays_for u ns

  abbrev pub its_list : List Tagged
  its_list = tagged_all its_arrays m number 0 u.body (vars_of u.params ns)

  abbrev extents : ℕ → List ℤ
  extents = extents_at its_arrays

  abbrev pub its_scope : Scope
  its_scope = scope_of its_arrays t.wides fault

  pub goes : IsGoing u t ns m fault number decls tables cells pieces
  goes = counted_go_on u t ns m fault number is_index decls tables cells pieces set

  abbrev pub its_run : Outcome (Unit {0})
  its_run = exec_all its_scope (stmts_of (text_after tables decls cells number pieces u.body)) (vars_of u.params ns) (started t m)

  abbrev pub its_end : Outcome (Unit {0}) → Ended
  its_end o = result true its_scope (units.judging u t ns m fault number decls tables cells pieces goes o)

  abbrev source_run : Outcome (Unit {0})
  source_run = exec_all (scope_of its_arrays [] fault) u.body (vars_of u.params ns) (record (started u m) { begun = true })

  pub run_is : run_from t ns m fault ≡ its_end its_run
  run_is = units.text_is u t ns m fault number decls tables cells pieces goes

  pub begins : IsStart (started t m)
  begins = units.start u t ns m fault number decls tables cells pieces goes

  pub follow : EndAlike (inspected_in number u.body) source_run its_run
  follow = units.follow u t ns m fault number decls tables cells pieces goes

  pub has : HasIndexArrays number is_index (untagged its_list) u.body
  has = subst (λ (l : List Access). HasIndexArrays number is_index l u.body) (sym set.listed) set.index_arrays

  pub clean_list : StaysWithin u ns m → Clean extents (untagged its_list)
  clean_list h = subst (λ (l : List Access). Clean extents l) (sym (set.listed ∙ append-nil (core u ns m))) h

  -- whatever the fault is, it goes on to its end or ends at a check
  abbrev Done : State → Type 0
  Done x = laws.Ended its_arrays number t.wides fault (vars_of u.params ns) extents decls u.body set.kept tables cells pieces (started t m) set.setting begins no_trust (any_body number u.body) (none_seen fault its_list) x

  ends_or : GoesOr (EndsEarly no_trust extents its_list) Done its_run
  ends_or = laws.text_ends its_arrays number t.wides fault (vars_of u.params ns) extents decls u.body set.kept tables cells pieces (started t m) set.setting begins no_trust (any_body number u.body) (none_seen fault its_list)

  never_at : (o : Outcome (Unit {0})) → Clean extents (untagged its_list) → GoesOr (EndsEarly no_trust extents its_list) Done o → (a : ℕ) → (its_end o).verdict ≢ outside a
  never_at (goes_on v x) clean h a = judged_not_outside (unbalanced x 0 its_arrays) a
  never_at (ends e x) clean (inl h) a = λ g. index_not_outside h.0 a (sym h.1 ∙ g)
  never_at (ends e x) clean (inr h) a = absurd (h clean)

  pub unit_steps : StaysWithin u ns m → TakesSteps (inspected_in number u.body) (run_from u ns m fault) (run_from t ns m fault)
  unit_steps within =
      let h : RunsBeside (inspected_in number u.body) (run_from u ns m fault) (run_from t ns m fault) = units.unit_follows u t ns m fault number decls tables cells pieces goes in
      record {
        events = h.accesses;
        arrays = h.arrays;
        verdict = at_check (inspected_in number u.body) (run_from u ns m fault).verdict (run_from t ns m fault).verdict (run_from t ns m fault).totals
            (λ a e. never_at its_run (clean_list within) ends_or a (ap (λ (r : Ended). r.verdict) (sym run_is) ∙ e)) h.verdict;
      }

  -- ---- totals

  abbrev TotalsOf : List Access → Ended → Type 0
  TotalsOf list r = (r.totals ≡ totals_over list extents m (values_in r.accesses) 0 its_arrays) × (r.verdict ≡ judged (differing 0 r.totals))

  totals_at : (o : Outcome (Unit {0})) → Clean extents (untagged its_list) → GoesOr (EndsEarly no_trust extents its_list) Done o → ((a : ℕ) → (its_end o).verdict ≢ index a) → TotalsOf (untagged its_list) (its_end o)
  totals_at (goes_on v x) clean h never =
      let k = end_is fault x in
      let log : (struck_at_end fault x).accesses ≡ x.accesses = ap (λ (t : State). t.accesses) k.1 in (
        ap (λ (t : State). totals_of t 0 its_arrays) k.1 ∙
            totals_are x (untagged its_list) extents m (values_in x.accesses) its_arrays 0 (λ a low high. let e = set.all in let f = set.few in (
              defined_total its_arrays number t.wides fault (vars_of u.params ns) extents decls u.body set.kept tables cells pieces (started t m) set.setting begins no_trust (any_body number u.body) (none_seen fault its_list) x a h (omega arith) (omega arith),
              used_total its_arrays number t.wides fault (vars_of u.params ns) extents decls u.body set.kept tables cells pieces (started t m) set.setting begins no_trust (any_body number u.body) (none_seen fault its_list) x a h (omega arith),
            )) ∙
            ap (λ (l : List Event). totals_over (untagged its_list) extents m (values_in l) 0 its_arrays) (sym log),
        ap judged (unbalanced_is x 0 its_arrays ∙ ap (λ (t : State). differing 0 (totals_of t 0 its_arrays)) (sym k.1)),
      )
  totals_at (ends e x) clean (inl h) never = absurd (never h.0 h.1)
  totals_at (ends e x) clean (inr h) never = absurd (h clean)

  pub unit_totals : StaysWithin u ns m → ((a : ℕ) → (run_from t ns m fault).verdict ≢ index a) → TotalsOf (accesses u ns m) (run_from t ns m fault)
  unit_totals within never =
      subst (λ (l : List Access). TotalsOf l (run_from t ns m fault)) set.listed
      (subst (λ (r : Ended). TotalsOf (untagged its_list) r) (sym run_is)
      (totals_at its_run (clean_list within) ends_or (λ a e. never a (ap (λ (r : Ended). r.verdict) run_is ∙ e))))

  -- ---- on course

  quiet_end : IsQuiet is_index (untagged its_list) fault → WhereGoing (Clean extents (untagged its_list)) (EndsWith fault m extents (untagged its_list) (length decls)) its_run
  quiet_end quiet = laws.quiet_ends its_arrays number t.wides fault (vars_of u.params ns) extents decls u.body set.kept tables cells pieces is_index (started t m) set.setting has begins quiet

  course_at : (o q : Outcome (Unit {0})) → Clean extents (untagged its_list) → EndAlike (inspected_in number u.body) q o → WhereGoing (Clean extents (untagged its_list)) (EndsWith fault m extents (untagged its_list) (length decls)) o →
      (((result false (scope_of its_arrays [] fault) q).verdict ≡ plain) × (accesses_in (its_end o).accesses ≡ untagged its_list))
  course_at (goes_on v x) (goes_on w s) clean like h = (refl, ap (λ (t : State). accesses_in t.accesses) (end_is fault x).1 ∙ h.made)
  course_at (goes_on v x) (ends e s) clean like h = absurd like
  course_at (ends e x) q clean like h = absurd (h clean)

  pub unit_course : StaysWithin u ns m → IsQuiet is_index (accesses u ns m) fault → StaysOnCourse (accesses u ns m) (run_from u ns m fault) (run_from t ns m fault)
  unit_course within quiet =
      let h : RunsBeside (inspected_in number u.body) (run_from u ns m fault) (run_from t ns m fault) = units.unit_follows u t ns m fault number decls tables cells pieces goes in
      let k = course_at its_run source_run (clean_list within) follow (quiet_end (subst (λ (l : List Access). IsQuiet is_index l fault) (sym set.listed) quiet)) in
      record {
        source_ends = ap (λ (r : Ended). r.verdict) (units.source_is u t ns m fault number decls tables cells pieces goes) ∙ k.0;
        made = ap (λ (r : Ended). accesses_in r.accesses) run_is ∙ k.1 ∙ set.listed;
        events = h.accesses;
      }

-- ---- without a fault

module _ (agree : TotalsAgree) (calm : CalmMemory) (u t : PlainUnit) (ns : List ℤ) (m : Memory) (number : Word → ℕ) (is_index : ℕ → Bool) (decls : List (Word × PlainExprs)) (tables : List PlainStmt) (cells : ℕ → PlainExprs → List PlainStmt) (pieces : ℕ → List PlainStmt)
    (set : IsKeptUnit u t ns m None number is_index decls tables cells pieces) (within : StaysWithin u ns m) where
  abbrev calm_run : Outcome (Unit {0})
  calm_run = its_run u t ns m None number is_index decls tables cells pieces set

  abbrev calm_list : List Access
  calm_list = untagged (its_list u t ns m None number is_index decls tables cells pieces set)

  abbrev calm_end : Outcome (Unit {0}) → Ended
  calm_end o = its_end u t ns m None number is_index decls tables cells pieces set o

  balanced_at : (o : Outcome (Unit {0})) → Clean (extents_at (arrays_for u ns)) calm_list → WhereGoing (Clean (extents_at (arrays_for u ns)) calm_list) (λ x. (accesses_in x.accesses ≡ calm_list) × Balanced (length decls) x) o → (calm_end o).verdict ≡ balanced_end
  balanced_at (goes_on v x) clean h = ap judged (none_unbalanced x (arrays_for u ns) 0 (λ a low high. let e = set.all in let f = set.few in h.1 a (omega arith) (omega arith)))
  balanced_at (ends e x) clean h = absurd (h clean)

  pub unit_balanced : (run_from t ns m None).verdict ≡ balanced_end
  unit_balanced =
      ap (λ (r : Ended). r.verdict) (run_is u t ns m None number is_index decls tables cells pieces set) ∙
      balanced_at calm_run (clean_list u t ns m None number is_index decls tables cells pieces set within)
      (laws.every_kept_text_balances agree calm (arrays_for u ns) number t.wides (vars_of u.params ns) (extents_at (arrays_for u ns)) decls u.body set.kept tables cells pieces is_index (started t m) set.setting
      (has u t ns m None number is_index decls tables cells pieces set) (begins u t ns m None number is_index decls tables cells pieces set))

-- ---- with a fault

module _ (told : FlipIsToldOver) (others : OthersAgree) (u t : PlainUnit) (ns : List ℤ) (m : Memory) (upset : Upset) (number : Word → ℕ) (is_index : ℕ → Bool) (decls : List (Word × PlainExprs)) (tables : List PlainStmt) (cells : ℕ → PlainExprs → List PlainStmt) (pieces : ℕ → List PlainStmt)
    (set : IsKeptUnit u t ns m (Some upset) number is_index decls tables cells pieces) (within : StaysWithin u ns m) (declared : upset.array < length (arrays_for u ns)) where
  abbrev hit_run : Outcome (Unit {0})
  hit_run = its_run u t ns m (Some upset) number is_index decls tables cells pieces set

  abbrev hit_list : List Access
  hit_list = untagged (its_list u t ns m (Some upset) number is_index decls tables cells pieces set)

  abbrev hit_arrays : List Array
  hit_arrays = arrays_for u ns

  abbrev hit_source : Outcome (Unit {0})
  hit_source = exec_all (scope_of hit_arrays [] (Some upset)) u.body (vars_of u.params ns) (record (started u m) { begun = true })

  abbrev hit_end : Outcome (Unit {0}) → Ended
  hit_end o = its_end u t ns m (Some upset) number is_index decls tables cells pieces set o

  abbrev hit_clean : Type 0
  hit_clean = Clean (extents_at hit_arrays) hit_list

  abbrev Quiet : Type 0
  Quiet = (is_index upset.array ≡ false) ⊎ (¬ Exposed hit_list upset)

  abbrev Iff : State → Type 0
  Iff x = (x.wides (use_total upset.array) ≢ x.wides (definition_total upset.array)) ↔ Exposed hit_list upset

  abbrev RestAgree : State → Type 0
  RestAgree x = (a : ℕ) → a < length decls → a < 2 ^ 64 → a ≢ upset.array → x.wides (use_total a) ≡ x.wides (definition_total a)

  in_arrays : (x : State) → RestAgree x → (b : ℕ) → 0 ≤ b → b < 0 + length hit_arrays → b ≢ upset.array → x.wides (use_total b) ≡ x.wides (definition_total b)
  in_arrays x rest b low high ne = let e = set.all in let f = set.few in rest b (omega arith) (omega arith) ne

  told_at : (w : Unit {0}) (x : State) → Iff x → (Quiet → RestAgree x) → TellsOfEach hit_list is_index upset (hit_end (goes_on w x))
  told_at w x iff rest =
      let a : ℕ = upset.array in
      elim (cases_eq (x.wides (use_total a)) (x.wides (definition_total a))) [
        | inl same ↦ (
            let hidden : ¬ Exposed hit_list upset = λ shown. iff.1 shown same in
            let all = in_arrays x (rest (inr hidden)) in
            let calm : judged (unbalanced x 0 hit_arrays) ≡ balanced_end = ap judged (none_unbalanced x hit_arrays 0 (λ b low high. elim (cases_eq b a) [
              | inl g ↦ subst (λ n. x.wides (use_total n) ≡ x.wides (definition_total n)) (sym g) same
              | inr g ↦ all b low high g
            ])) in
            record {
              reports = (λ r. absurd (subst (λ (v : End). Reports v) calm r), λ shown. absurd (hidden shown));
              named = λ e shown. absurd (hidden shown);
              index_array = λ e shown. absurd (hidden shown);
              hidden = λ no. calm;
            })
        | inr differ ↦ (
            let n = names_it a (unbalanced x 0 hit_arrays) (is_named x hit_arrays 0 a (omega arith) (omega arith) differ) in
            record {
              reports = (λ r. iff.0 differ, λ shown. n.0);
              named = λ e shown. ap judged (one_unbalanced x hit_arrays 0 a (omega arith) (omega arith) differ (in_arrays x (rest (inl e))));
              index_array = λ e shown. inr n.1;
              hidden = λ no. absurd (no (iff.0 differ));
            })
      ]

  stopped_at : (e : End) (x : State) (b : ℕ) → e ≡ index b → (Quiet → ⊥) → TellsOfEach hit_list is_index upset (hit_end (ends e x))
  stopped_at e x b is loud = elim (exposed_or_not hit_list upset) [
    | inl shown ↦ record {
      reports = (λ r. shown, λ s. subst (λ (v : End). Reports v) (sym is) tt);
      named = λ free s. absurd (loud (inl free));
      index_array = λ i s. inl (b, is);
      hidden = λ no. absurd (no shown);
    }
    | inr unread ↦ absurd (loud (inr unread))
  ]

  tells_at : (q o : Outcome (Unit {0})) → hit_clean → IfGoing (Unit {0}) (λ (v : Unit {0}) s. IsFit s) q → EndAlike (inspected_in number u.body) q o → GoesOrIndex hit_clean (λ x. ((q : ℕ) → values_in x.accesses q < 2 ^ 64) → Iff x) o →
      (Quiet → WhereGoing hit_clean (λ x. (accesses_in x.accesses ≡ hit_list) × RestAgree x) o) → TellsOfEach hit_list is_index upset (hit_end o)
  tells_at (goes_on v s) (goes_on w x) clean fit like tell rest =
      told_at w x (tell (λ q. subst (λ (l : List Event). values_in l q < 2 ^ 64) (sym like.accesses) (bounded_at s.accesses fit.log q))) (λ quiet. (rest quiet).1)
  tells_at (goes_on v s) (ends f x) clean fit like tell rest = absurd like
  tells_at (ends e s) (goes_on w x) clean fit like tell rest = absurd like
  tells_at (ends e s) (ends f x) clean fit like (inl h) rest = stopped_at f x h.0 h.1 (λ quiet. rest quiet clean)
  tells_at (ends e s) (ends f x) clean fit like (inr h) rest = absurd (h clean)

  pub unit_tells : length (accesses u ns m) < 2 ^ 63 → upset.bit < 64 → ((a : ℕ) (c : List ℤ) → m a c < 2 ^ 64) → ((x : Word) → literal_of u.words x < 2 ^ 64) → AllAssignWords u.body (vars_of u.params ns) →
      TellsOfEach (accesses u ns m) is_index upset (run_from t ns m (Some upset))
  unit_tells short bit memory words values =
      let e = set.all in
      let f = set.few in
      let few : length hit_list < 2 ^ 63 = subst (λ (l : List Access). length l < 2 ^ 63) (sym set.listed) short in
      let h : HasIndexArrays number is_index hit_list u.body = has u t ns m (Some upset) number is_index decls tables cells pieces set in
      let b : IsStart (started t m) = begins u t ns m (Some upset) number is_index decls tables cells pieces set in
      subst (λ (l : List Access). TellsOfEach l is_index upset (run_from t ns m (Some upset))) set.listed
      (subst (λ (r : Ended). TellsOfEach hit_list is_index upset r) (sym (run_is u t ns m (Some upset) number is_index decls tables cells pieces set))
      (tells_at hit_source hit_run (clean_list u t ns m (Some upset) number is_index decls tables cells pieces set within)
      (stmts_fit hit_arrays number (extents_from decls) (inspected_in number u.body) (Some upset) bit u.body (vars_of u.params ns) (record (started u m) { begun = true }) set.setting.source values (record { begun = refl; memory = memory; words = words; log = tt }))
      (follow u t ns m (Some upset) number is_index decls tables cells pieces set)
      (laws.every_fault_is_told told hit_arrays number t.wides upset (vars_of u.params ns) (extents_at hit_arrays) decls u.body set.kept tables cells pieces is_index (started t m) set.setting h b bit few memory (omega arith) (omega arith))
      (λ quiet. laws.hidden_or_plain others hit_arrays number t.wides upset (vars_of u.params ns) (extents_at hit_arrays) decls u.body set.kept tables cells pieces is_index (started t m) set.setting h b quiet)))

-- ---- where the source leaves its arrays

pub unit_leaves : EveryKeptUnitLeaves
unit_leaves u t ns m fault number decls tables cells pieces set listed lie escapes =
    units.unit_ends_outside u t ns m fault number decls tables cells pieces set lie
    (λ clean. escapes (subst (λ (l : List Access). Clean (extents_at (arrays_for u ns)) l) (listed ∙ append-nil (core u ns m)) clean))
