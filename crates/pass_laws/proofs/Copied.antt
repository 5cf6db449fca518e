-- The copy of a whole source keeps count, over loops, choices and assignments.
use Rattle.std.proofs.Common.{◌≡◌, ℕ, suc, ◌+◌, ◌<◌, ◌^◌, Bool, true, false, cond, List, [], ◌∷◌, ◌++◌, length, flat_map, refl, sym, ap, ◌∙◌, subst, arith, append_assoc, append-nil, ℤ, Option, Some}
use Rattle.std.specs.Prelude.{slice_get}
use Rattle.std.proofs.lemmas.Bool.{or_parts}
use Rattle.std.proofs.lemmas.List.{length-map, length-append}
use Rattle.c_tree.specs.Plain.{Word, PlainTest, PlainStmt, loop, choice, assign, table, begin, check, verdict, PlainStmts, no_stmts, more_stmts}
use Rattle.c_tree.specs.Trees.{stmts_of}
use Rattle.c_tree.specs.Values.{Vars, signed, loop_values}
use Rattle.c_tree.specs.Arrays.{Array, Memory}
use Rattle.c_tree.specs.Accesses.{Definition, is_of, same_definition, latest}
use Rattle.c_tree.specs.Accesses.Definition.{Written}
use Rattle.c_tree.specs.Instances.{Tagged, untagged, sites, sites_all}
use Rattle.c_tree.specs.Run.{State, goes_on, Run, and_then, Scope, put, turn, over, exec_all}
use Rattle.instrumentation.specs.Names.{pass_variable, active}
use Rattle.instrumentation.specs.Passes.{Target, renamed, renamed_tests, write_text, copied, copied_all}
use Rattle.pass_laws.specs.Countable.{AreOwn, AreAffineTests, IsCountable, AreCountable}
use Rattle.instrumentation.specs.Inspects.{inspects, inspects_all}
use Rattle.instrumentation_laws.specs.AccessList.{signed_all, tests_hold}
use Rattle.instrumentation_laws.specs.IndexedList.{tagged, tagged_all}
use Rattle.pass_laws.specs.Going.{GoesTo}
use Rattle.pass_laws.proofs.Going.{must_then, must_join, must_one}
use Rattle.pass_laws.proofs.Renamed.{names, copied_vars}
use Rattle.pass_laws.proofs.Steps.{loop_is, choice_copied}
use Rattle.pass_laws.proofs.Counted.{IsPass, PassAt, turn_keeps, assign_step}

-- one more loop around
pub deeper : (loops params : Vars) → length (loops ++ params) < 2 ^ 63 → suc (length (names loops)) < 2 ^ 64
deeper loops params h =
    let a = length-append loops params in
    let b = length-map loops (λ (v : Word × ℤ). v.0) in
    omega arith

module _ (sc : Scope) (arrays : List Array) (number : Word → ℕ) (whole : List Tagged) (params base : Vars) (target : Target) (is_pass : IsPass sc arrays number whole params base target) (site : Option ℕ) (def : Definition) (m : Memory)
    (owned : (b n : ℕ) (c : List ℤ) → same_definition (latest (untagged whole) b c n) def ≡ true → (b ≡ target.array) × (c ≡ signed_all target.at base))
    (mine : (n : ℕ) (t : Tagged) (loops : Vars) (s : State) → slice_get whole n ≡ Some t → t.access.writes ≡ true → t.vars ≡ loops ++ params → is_of t.access target.array (signed_all target.at base) ≡ true → AreOwn loops → length (names loops) < 2 ^ 64 →
    exec_all sc (stmts_of (write_text site (names loops) t.site)) (copied_vars loops ++ base) s ≡ goes_on tt (record s { words = put s.words active (cond (same_definition (Written n) def) 1 0) })) where
  abbrev At : ℕ → State → Type 0
  At = PassAt sc arrays number whole params base target is_pass site def

  -- the turns of a loop
  turns_step : (f : ℤ → Run (Unit {0})) (items : ℤ → List Tagged) →
      ((v : ℤ) (pre rest : List Tagged) (s : State) → pre ++ (items v ++ rest) ≡ whole → At (length pre) s → GoesTo (At (length (pre ++ items v))) (f v s)) →
      (vals : List ℤ) (pre rest : List Tagged) (s : State) → pre ++ (flat_map items vals ++ rest) ≡ whole → At (length pre) s →
      GoesTo (At (length (pre ++ flat_map items vals))) (over f vals s)
  turns_step f items h [] pre rest s is p = subst (λ l. At (length l) s) (sym (append-nil pre)) p
  turns_step f items h (v ∷ vals) pre rest s is p =
      let is2 : pre ++ (items v ++ (flat_map items vals ++ rest)) ≡ whole = ap (λ l. pre ++ l) (sym (append_assoc (items v) (flat_map items vals) rest)) ∙ is in
      subst (λ l. GoesTo (At (length l)) (over f (v ∷ vals) s)) (append_assoc pre (items v) (flat_map items vals))
      (must_then (At (length (pre ++ items v))) (At (length ((pre ++ items v) ++ flat_map items vals))) (f v s) (λ u. over f vals) (h v pre (flat_map items vals ++ rest) s is2 p)
      (λ t q. turns_step f items h vals (pre ++ items v) rest t (append_assoc pre (items v) (flat_map items vals ++ rest) ∙ is2) q))

  -- a choice goes where the source's goes
  choice_step : (k : ℕ) (loops : Vars) (pre rest : List Tagged) (s : State) (ts : List PlainTest) (first other : PlainStmts) →
      AreAffineTests ts (loops ++ params) → AreOwn loops → length (names loops) < 2 ^ 64 →
      pre ++ (tagged arrays m number k (choice ts first other) (loops ++ params) ++ rest) ≡ whole →
      (pre ++ (tagged_all arrays m number k first (loops ++ params) ++ rest) ≡ whole →
      GoesTo (At (length (pre ++ tagged_all arrays m number k first (loops ++ params)))) (exec_all sc (stmts_of (copied_all number target site (names loops) k first)) (copied_vars loops ++ base) s)) →
      (pre ++ (tagged_all arrays m number (k + sites_all first) other (loops ++ params) ++ rest) ≡ whole →
      GoesTo (At (length (pre ++ tagged_all arrays m number (k + sites_all first) other (loops ++ params)))) (exec_all sc (stmts_of (copied_all number target site (names loops) (k + sites_all first) other)) (copied_vars loops ++ base) s)) →
      GoesTo (At (length (pre ++ tagged arrays m number k (choice ts first other) (loops ++ params)))) (exec_all sc (stmts_of (copied number target site (names loops) k (choice ts first other))) (copied_vars loops ++ base) s)
  choice_step k loops pre rest s ts first other h o l is one two = chosen (tests_hold ts (loops ++ params)) refl is
    where
      go : (c : Bool) (P : State → Type 0) → tests_hold ts (loops ++ params) ≡ c → GoesTo P (cond c (exec_all sc (stmts_of (copied_all number target site (names loops) k first)) (copied_vars loops ++ base) s) (exec_all sc (stmts_of (copied_all number target site (names loops) (k + sites_all first) other)) (copied_vars loops ++ base) s)) →
          GoesTo P (exec_all sc (stmts_of (copied number target site (names loops) k (choice ts first other))) (copied_vars loops ++ base) s)
      go c P e g =
          must_one sc P (choice (renamed_tests (names loops) ts) (stmts_of (copied_all number target site (names loops) k first)) (stmts_of (copied_all number target site (names loops) (k + sites_all first) other))) (copied_vars loops ++ base) s
          (subst (GoesTo P) (sym (choice_copied sc params base is_pass.place is_pass.own_params loops o l ts (stmts_of (copied_all number target site (names loops) k first)) (stmts_of (copied_all number target site (names loops) (k + sites_all first) other)) s c h e)) g)

      chosen : (c : Bool) → tests_hold ts (loops ++ params) ≡ c →
          pre ++ (cond c (tagged_all arrays m number k first (loops ++ params)) (tagged_all arrays m number (k + sites_all first) other (loops ++ params)) ++ rest) ≡ whole →
          GoesTo (At (length (pre ++ cond c (tagged_all arrays m number k first (loops ++ params)) (tagged_all arrays m number (k + sites_all first) other (loops ++ params))))) (exec_all sc (stmts_of (copied number target site (names loops) k (choice ts first other))) (copied_vars loops ++ base) s)
      chosen true e is = go true _ e (one is)
      chosen false e is = go false _ e (two is)

  mutual
    copy_one : (p : PlainStmt) (k : ℕ) (loops : Vars) (pre rest : List Tagged) (s : State) → IsCountable arrays number p (loops ++ params) → inspects number target.array p ≡ false → AreOwn loops → length (names loops) < 2 ^ 64 →
        pre ++ (tagged arrays m number k p (loops ++ params) ++ rest) ≡ whole → At (length pre) s →
        GoesTo (At (length (pre ++ tagged arrays m number k p (loops ++ params)))) (exec_all sc (stmts_of (copied number target site (names loops) k p)) (copied_vars loops ++ base) s)
    copy_one (loop x lo rel hi body) k loops pre rest s h q o l is p =
        let f : ℤ → Run (Unit {0}) = λ v. λ t. and_then (turn t) (λ u. exec_all sc (stmts_of (copied_all number target site (x ∷ names loops) k body)) ((pass_variable (length (names loops)), v) ∷ (copied_vars loops ++ base))) in
        let items : ℤ → List Tagged = λ v. tagged_all arrays m number k body ((x, v) ∷ (loops ++ params)) in
        must_one sc _ (loop (pass_variable (length (names loops))) (renamed (names loops) lo) rel (renamed (names loops) hi) (stmts_of (copied_all number target site (x ∷ names loops) k body))) (copied_vars loops ++ base) s
        (subst (GoesTo _) (sym (loop_is sc params base is_pass.place is_pass.own_params loops o l lo hi rel (stmts_of (copied_all number target site (x ∷ names loops) k body)) s h.0 h.1))
        (turns_step f items
        (λ v pre rest t is r'. must_then (At (length pre)) (At (length (pre ++ items v))) (turn t) (λ u. exec_all sc (stmts_of (copied_all number target site (x ∷ names loops) k body)) ((pass_variable (length (names loops)), v) ∷ (copied_vars loops ++ base))) (turn_keeps sc arrays number whole params base target is_pass site def (length pre) t r')
        (λ u r. copy_all body k ((x, v) ∷ loops) pre rest u (h.3 v) q (h.2.own_name, o) (deeper loops params h.2.shallow) is r))
        (loop_values (signed lo (loops ++ params)) rel (signed hi (loops ++ params))) pre rest s is p))
    copy_one (choice ts first other) k loops pre rest s h q o l is p =
        choice_step k loops pre rest s ts first other h.0 o l is (λ is. copy_all first k loops pre rest s h.1 (or_parts _ _ q).0 o l is p) (λ is. copy_all other (k + sites_all first) loops pre rest s h.2 (or_parts _ _ q).1 o l is p)
    copy_one (assign t op e) k loops pre rest s h q o l is p = assign_step sc arrays number whole params base target is_pass site def m owned mine loops o l k t op e pre rest s h.0 h.1 q is p
    copy_one (table x len) k loops pre rest s h q o l is p = absurd h
    copy_one begin k loops pre rest s h q o l is p = absurd h
    copy_one (check x extent a) k loops pre rest s h q o l is p = absurd h
    copy_one verdict k loops pre rest s h q o l is p = absurd h

    pub copy_all : (ps : PlainStmts) (k : ℕ) (loops : Vars) (pre rest : List Tagged) (s : State) → AreCountable arrays number ps (loops ++ params) → inspects_all number target.array ps ≡ false → AreOwn loops → length (names loops) < 2 ^ 64 →
        pre ++ (tagged_all arrays m number k ps (loops ++ params) ++ rest) ≡ whole → At (length pre) s →
        GoesTo (At (length (pre ++ tagged_all arrays m number k ps (loops ++ params)))) (exec_all sc (stmts_of (copied_all number target site (names loops) k ps)) (copied_vars loops ++ base) s)
    copy_all no_stmts k loops pre rest s h q o l is p = subst (λ l. At (length l) s) (sym (append-nil pre)) p
    copy_all (more_stmts q ps) k loops pre rest s h n o l is p =
        let a : List Tagged = tagged arrays m number k q (loops ++ params) in
        let b : List Tagged = tagged_all arrays m number (k + sites q) ps (loops ++ params) in
        let is2 : pre ++ (a ++ (b ++ rest)) ≡ whole = ap (λ l. pre ++ l) (sym (append_assoc a b rest)) ∙ is in
        subst (λ l. GoesTo (At (length l)) (exec_all sc (stmts_of (copied number target site (names loops) k q ++ copied_all number target site (names loops) (k + sites q) ps)) (copied_vars loops ++ base) s))
        (append_assoc pre a b)
        (must_join sc (At (length (pre ++ a))) (At (length ((pre ++ a) ++ b))) (copied number target site (names loops) k q) (copied_all number target site (names loops) (k + sites q) ps) (copied_vars loops ++ base) s
        (copy_one q k loops pre (b ++ rest) s h.0 (or_parts _ _ n).0 o l is2 p)
        (λ t r. copy_all ps (k + sites q) loops (pre ++ a) rest t h.1 (or_parts _ _ n).1 o l (append_assoc pre a (b ++ rest) ∙ is2) r))
