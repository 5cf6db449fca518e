-- A walk over a copy of the source keeps an invariant by the number of accesses gone over, if the statements for each assignment do.
use Rattle.std.proofs.Common.{◌≡◌, ℕ, suc, ◌+◌, ◌<◌, ◌^◌, Bool, true, false, cond, List, [], ◌∷◌, ◌++◌, length, map, flat_map, refl, sym, ap, ◌∙◌, subst, arith, append_assoc, append-nil, ℤ, Option}
use Rattle.std.proofs.lemmas.List.{length-map, length-append}
use Rattle.c_tree.specs.Plain.{Word, PlainExpr, PlainTest, PlainStmt, loop, choice, assign, table, begin, check, verdict, PlainStmts, no_stmts, more_stmts}
use Rattle.c_tree.specs.Trees.{stmts_of}
use Rattle.c_tree.specs.Values.{Vars, signed, loop_values}
use Rattle.c_tree.specs.Arrays.{Array, Memory}
use Rattle.c_tree.specs.Instances.{Tagged, sites, sites_all}
use Rattle.c_tree.specs.Run.{State, End, Outcome, goes_on, ends, Run, and_then, Scope, turn, over, exec, exec_all}
use Rattle.c_tree.specs.declared.expr.BinOp.{BinOp}
use Rattle.instrumentation.specs.Names.{pass_variable}
use Rattle.instrumentation.specs.Body.{full}
use Rattle.instrumentation.specs.Passes.{renamed, renamed_tests}
use Rattle.instrumentation_laws.specs.AccessList.{cell_write, tag, tests_hold}
use Rattle.instrumentation_laws.proofs.Steps.{exec_join}
use Rattle.instrumentation_laws.proofs.Outcomes.{GoesOr, then_or}
use Rattle.pass_laws.specs.Countable.{AreOwn, AreAffineTests}
use Rattle.pass_laws.specs.Going.{GoesTo}
use Rattle.pass_laws.specs.Places.{IsPlace}
use Rattle.pass_laws.proofs.Renamed.{names, copied_vars}
use Rattle.pass_laws.proofs.Steps.{loop_is, choice_copied}
use Rattle.instrumentation.specs.Tables.{walk, walk_all}
use Rattle.instrumentation_laws.specs.IndexedList.{all_reads, tagged, tagged_all}
use Rattle.inspection_laws.specs.Walked.{IsWalkedTarget, IsWalkedData, IsWalked, AreWalked}

-- ---- going on, or ending so

pub or_goes : (Bad : End → State → Type 0) (P : State → Type 0) (o : Outcome (Unit {0})) → GoesTo P o → GoesOr Bad P o
or_goes Bad P (goes_on u s) p = p
or_goes Bad P (ends e s) p = absurd p

pub join_or : (sc : Scope) (Bad : End → State → Type 0) (P Q : State → Type 0) (xs ys : List PlainStmt) (vs : Vars) (s : State) → GoesOr Bad P (exec_all sc (stmts_of xs) vs s) → ((t : State) → P t → GoesOr Bad Q (exec_all sc (stmts_of ys) vs t)) →
    GoesOr Bad Q (exec_all sc (stmts_of (xs ++ ys)) vs s)
join_or sc Bad P Q xs ys vs s p h = subst (GoesOr Bad Q) (sym (exec_join sc xs ys vs s)) (then_or Bad P Q (exec_all sc (stmts_of xs) vs s) (λ u t. exec_all sc (stmts_of ys) vs t) p h)

pub one_or : (sc : Scope) (Bad : End → State → Type 0) (P : State → Type 0) (x : PlainStmt) (vs : Vars) (s : State) → GoesOr Bad P (exec sc x vs s) → GoesOr Bad P (exec_all sc (stmts_of (x ∷ [])) vs s)
one_or sc Bad P x vs s p = then_or Bad P P (exec sc x vs s) (λ u t. exec_all sc no_stmts vs t) p (λ t q. q)

-- one more loop around
pub deeper : (loops params : Vars) → length (loops ++ params) < 2 ^ 63 → suc (length (names loops)) < 2 ^ 64
deeper loops params h =
    let a = length-append loops params in
    let b = length-map loops (λ (v : Word × ℤ). v.0) in
    omega arith

module _ (sc : Scope) (arrays : List Array) (m : Memory) (number : Word → ℕ) (params base : Vars) (place : IsPlace params base) (own_params : AreOwn params) (whole : List Tagged) (reads writes : List Word → PlainExpr → List PlainStmt)
    (Bad : End → State → Type 0) (Inv : ℕ → State → Type 0) (turns : (n : ℕ) (s : State) → Inv n s → GoesOr Bad (Inv n) (turn s))
    (assigns : (loops : Vars) → AreOwn loops → length (names loops) < 2 ^ 64 → (k : ℕ) (t : PlainExpr) (op : Option BinOp) (e : PlainExpr) (pre rest : List Tagged) (s : State) →
    IsWalkedTarget t (loops ++ params) → IsWalkedData arrays number (full t op e) (loops ++ params) →
    pre ++ (map (tag k (loops ++ params)) (all_reads arrays m number (full t op e) (loops ++ params) ++ cell_write number t (loops ++ params)) ++ rest) ≡ whole → Inv (length pre) s →
    GoesOr Bad (Inv (length (pre ++ map (tag k (loops ++ params)) (all_reads arrays m number (full t op e) (loops ++ params) ++ cell_write number t (loops ++ params)))))
    (exec_all sc (stmts_of (reads (names loops) (full t op e) ++ writes (names loops) t)) (copied_vars loops ++ base) s)) where
  -- the turns of a loop
  turns_step : (f : ℤ → Run (Unit {0})) (items : ℤ → List Tagged) →
      ((v : ℤ) (pre rest : List Tagged) (s : State) → pre ++ (items v ++ rest) ≡ whole → Inv (length pre) s → GoesOr Bad (Inv (length (pre ++ items v))) (f v s)) →
      (vals : List ℤ) (pre rest : List Tagged) (s : State) → pre ++ (flat_map items vals ++ rest) ≡ whole → Inv (length pre) s →
      GoesOr Bad (Inv (length (pre ++ flat_map items vals))) (over f vals s)
  turns_step f items h [] pre rest s is p = subst (λ l. Inv (length l) s) (sym (append-nil pre)) p
  turns_step f items h (v ∷ vals) pre rest s is p =
      let is2 : pre ++ (items v ++ (flat_map items vals ++ rest)) ≡ whole = ap (λ l. pre ++ l) (sym (append_assoc (items v) (flat_map items vals) rest)) ∙ is in
      subst (λ l. GoesOr Bad (Inv (length l)) (over f (v ∷ vals) s)) (append_assoc pre (items v) (flat_map items vals))
      (then_or Bad (Inv (length (pre ++ items v))) (Inv (length ((pre ++ items v) ++ flat_map items vals))) (f v s) (λ u. over f vals) (h v pre (flat_map items vals ++ rest) s is2 p)
      (λ t q. turns_step f items h vals (pre ++ items v) rest t (append_assoc pre (items v) (flat_map items vals ++ rest) ∙ is2) q))

  choice_step : (k : ℕ) (loops : Vars) (pre rest : List Tagged) (s : State) (ts : List PlainTest) (first other : PlainStmts) →
      AreAffineTests ts (loops ++ params) → AreOwn loops → length (names loops) < 2 ^ 64 →
      pre ++ (tagged arrays m number k (choice ts first other) (loops ++ params) ++ rest) ≡ whole →
      (pre ++ (tagged_all arrays m number k first (loops ++ params) ++ rest) ≡ whole →
      GoesOr Bad (Inv (length (pre ++ tagged_all arrays m number k first (loops ++ params)))) (exec_all sc (stmts_of (walk_all reads writes (names loops) first)) (copied_vars loops ++ base) s)) →
      (pre ++ (tagged_all arrays m number (k + sites_all first) other (loops ++ params) ++ rest) ≡ whole →
      GoesOr Bad (Inv (length (pre ++ tagged_all arrays m number (k + sites_all first) other (loops ++ params)))) (exec_all sc (stmts_of (walk_all reads writes (names loops) other)) (copied_vars loops ++ base) s)) →
      GoesOr Bad (Inv (length (pre ++ tagged arrays m number k (choice ts first other) (loops ++ params)))) (exec_all sc (stmts_of (walk reads writes (names loops) (choice ts first other))) (copied_vars loops ++ base) s)
  choice_step k loops pre rest s ts first other h o l is one two = chosen (tests_hold ts (loops ++ params)) refl is
    where
      go : (c : Bool) (P : State → Type 0) → tests_hold ts (loops ++ params) ≡ c → GoesOr Bad P (cond c (exec_all sc (stmts_of (walk_all reads writes (names loops) first)) (copied_vars loops ++ base) s) (exec_all sc (stmts_of (walk_all reads writes (names loops) other)) (copied_vars loops ++ base) s)) →
          GoesOr Bad P (exec_all sc (stmts_of (walk reads writes (names loops) (choice ts first other))) (copied_vars loops ++ base) s)
      go c P e g =
          one_or sc Bad P (choice (renamed_tests (names loops) ts) (stmts_of (walk_all reads writes (names loops) first)) (stmts_of (walk_all reads writes (names loops) other))) (copied_vars loops ++ base) s
          (subst (GoesOr Bad P) (sym (choice_copied sc params base place own_params loops o l ts (stmts_of (walk_all reads writes (names loops) first)) (stmts_of (walk_all reads writes (names loops) other)) s c h e)) g)

      chosen : (c : Bool) → tests_hold ts (loops ++ params) ≡ c →
          pre ++ (cond c (tagged_all arrays m number k first (loops ++ params)) (tagged_all arrays m number (k + sites_all first) other (loops ++ params)) ++ rest) ≡ whole →
          GoesOr Bad (Inv (length (pre ++ cond c (tagged_all arrays m number k first (loops ++ params)) (tagged_all arrays m number (k + sites_all first) other (loops ++ params))))) (exec_all sc (stmts_of (walk reads writes (names loops) (choice ts first other))) (copied_vars loops ++ base) s)
      chosen true e is = go true _ e (one is)
      chosen false e is = go false _ e (two is)

  mutual
    walk_one : (p : PlainStmt) (k : ℕ) (loops : Vars) (pre rest : List Tagged) (s : State) → IsWalked arrays number p (loops ++ params) → AreOwn loops → length (names loops) < 2 ^ 64 →
        pre ++ (tagged arrays m number k p (loops ++ params) ++ rest) ≡ whole → Inv (length pre) s →
        GoesOr Bad (Inv (length (pre ++ tagged arrays m number k p (loops ++ params)))) (exec_all sc (stmts_of (walk reads writes (names loops) p)) (copied_vars loops ++ base) s)
    walk_one (loop x lo rel hi body) k loops pre rest s h o l is p =
        let f : ℤ → Run (Unit {0}) = λ v. λ t. and_then (turn t) (λ u. exec_all sc (stmts_of (walk_all reads writes (x ∷ names loops) body)) ((pass_variable (length (names loops)), v) ∷ (copied_vars loops ++ base))) in
        let items : ℤ → List Tagged = λ v. tagged_all arrays m number k body ((x, v) ∷ (loops ++ params)) in
        one_or sc Bad _ (loop (pass_variable (length (names loops))) (renamed (names loops) lo) rel (renamed (names loops) hi) (stmts_of (walk_all reads writes (x ∷ names loops) body))) (copied_vars loops ++ base) s
        (subst (GoesOr Bad _) (sym (loop_is sc params base place own_params loops o l lo hi rel (stmts_of (walk_all reads writes (x ∷ names loops) body)) s h.0 h.1))
        (turns_step f items
        (λ v pre rest t is q. then_or Bad (Inv (length pre)) (Inv (length (pre ++ items v))) (turn t) (λ u. exec_all sc (stmts_of (walk_all reads writes (x ∷ names loops) body)) ((pass_variable (length (names loops)), v) ∷ (copied_vars loops ++ base))) (turns (length pre) t q)
        (λ u r. walk_every body k ((x, v) ∷ loops) pre rest u (h.3 v) (h.2.own_name, o) (deeper loops params h.2.shallow) is r))
        (loop_values (signed lo (loops ++ params)) rel (signed hi (loops ++ params))) pre rest s is p))
    walk_one (choice ts first other) k loops pre rest s h o l is p =
        choice_step k loops pre rest s ts first other h.0 o l is (λ is. walk_every first k loops pre rest s h.1 o l is p) (λ is. walk_every other (k + sites_all first) loops pre rest s h.2 o l is p)
    walk_one (assign t op e) k loops pre rest s h o l is p = assigns loops o l k t op e pre rest s h.0 h.1 is p
    walk_one (table x len) k loops pre rest s h o l is p = absurd h
    walk_one begin k loops pre rest s h o l is p = absurd h
    walk_one (check x extent a) k loops pre rest s h o l is p = absurd h
    walk_one verdict k loops pre rest s h o l is p = absurd h

    pub walk_every : (ps : PlainStmts) (k : ℕ) (loops : Vars) (pre rest : List Tagged) (s : State) → AreWalked arrays number ps (loops ++ params) → AreOwn loops → length (names loops) < 2 ^ 64 →
        pre ++ (tagged_all arrays m number k ps (loops ++ params) ++ rest) ≡ whole → Inv (length pre) s →
        GoesOr Bad (Inv (length (pre ++ tagged_all arrays m number k ps (loops ++ params)))) (exec_all sc (stmts_of (walk_all reads writes (names loops) ps)) (copied_vars loops ++ base) s)
    walk_every no_stmts k loops pre rest s h o l is p = subst (λ l. Inv (length l) s) (sym (append-nil pre)) p
    walk_every (more_stmts q ps) k loops pre rest s h o l is p =
        let a : List Tagged = tagged arrays m number k q (loops ++ params) in
        let b : List Tagged = tagged_all arrays m number (k + sites q) ps (loops ++ params) in
        let is2 : pre ++ (a ++ (b ++ rest)) ≡ whole = ap (λ l. pre ++ l) (sym (append_assoc a b rest)) ∙ is in
        subst (λ l. GoesOr Bad (Inv (length l)) (exec_all sc (stmts_of (walk reads writes (names loops) q ++ walk_all reads writes (names loops) ps)) (copied_vars loops ++ base) s))
        (append_assoc pre a b)
        (join_or sc Bad (Inv (length (pre ++ a))) (Inv (length ((pre ++ a) ++ b))) (walk reads writes (names loops) q) (walk_all reads writes (names loops) ps) (copied_vars loops ++ base) s
        (walk_one q k loops pre (b ++ rest) s h.0 o l is2 p)
        (λ t r. walk_every ps (k + sites q) loops (pre ++ a) rest t h.1 o l (append_assoc pre a (b ++ rest) ∙ is2) r))
