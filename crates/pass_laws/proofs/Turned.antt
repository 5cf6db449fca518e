-- A pass makes as many turns as its source.
use Rattle.std.proofs.Common.{◌≡◌, ℕ, suc, ◌+◌, ◌<◌, ◌^◌, Bool, true, false, cond, List, [], ◌∷◌, ◌++◌, length, sum_by, refl, sym, ap, ◌∙◌, subst, arith, ℤ, Option, None}
use Rattle.std.proofs.lemmas.Bool.{or_parts}
use Rattle.std.proofs.lemmas.List.Sums.{sum_by-cons}
use Rattle.c_tree.specs.Plain.{Word, var, widen, PlainTest, PlainStmt, loop, choice, assign, table, begin, check, verdict, PlainStmts, no_stmts, more_stmts}
use Rattle.c_tree.specs.Trees.{stmts_of}
use Rattle.c_tree.specs.Values.{Vars, signed, loop_values}
use Rattle.c_tree.specs.Arrays.{Array}
use Rattle.c_tree.specs.Instances.{sites, sites_all}
use Rattle.c_tree.specs.Run.{State, Outcome, Run, and_then, Scope, turn, over, exec_all}
use Rattle.instrumentation.specs.Names.{pass_variable, count, active, counter}
use Rattle.instrumentation.specs.Body.{full}
use Rattle.instrumentation.specs.Passes.{Target, renamed, renamed_tests, set_word, count_reads, count_write, copied, copied_all, pass_text, standing}
use Rattle.instrumentation.specs.Inspects.{inspects, inspects_all}
use Rattle.instrumentation_laws.specs.AccessList.{tests_hold}
use Rattle.pass_laws.specs.Countable.{AllHaveNoCells, AreOwn, AreAffineTests, IsCountable, AreCountable}
use Rattle.pass_laws.specs.Going.{GoesTo, HasCounters, Makes}
use Rattle.pass_laws.specs.Turns.{turns, turns_all}
use Rattle.pass_laws.proofs.Going.{must_then, must_join, must_one, must_weaker}
use Rattle.pass_laws.proofs.Quiet.{AreQuiet, Kept, quiet_all}
use Rattle.pass_laws.proofs.Quiet.IsSet.{sets_active, sets_counter, sets_count}
use Rattle.pass_laws.proofs.QuietPasses.{assign_quiet}
use Rattle.pass_laws.specs.Places.{IsPlace}
use Rattle.pass_laws.proofs.Renamed.{names, copied_vars}
use Rattle.pass_laws.proofs.Steps.{loop_is, choice_copied}
use Rattle.pass_laws.proofs.Copied.{deeper}

where_begun : (b : Bool) (n m : ℕ) → cond b (n + m) 0 ≡ cond b n 0 + cond b m 0
where_begun true n m = refl
where_begun false n m = omega arith

where_not : (b : Bool) (n m : ℕ) → cond b 0 (n + m) ≡ cond b 0 n + cond b 0 m
where_not true n m = omega arith
where_not false n m = refl

no_turn : (b : Bool) (n : ℕ) → (n ≡ n + cond b 0 0)
no_turn true n = omega arith
no_turn false n = omega arith

pub spun_none : (s : State) → Makes 0 s s
spun_none s = record { begun = refl; turned = record { body = no_turn s.begun s.body_turns; prologue = no_turn s.begun s.prologue_turns } }

pub spun_then : (n m : ℕ) (s t u : State) → Makes n s t → Makes m t u → Makes (n + m) s u
spun_then n m s t u p q = record {
  begun = q.begun ∙ p.begun;
  turned = record {
    body =
        (let a = p.turned.body in
        let b : u.body_turns ≡ t.body_turns + cond s.begun m 0 = q.turned.body ∙ ap (λ c. t.body_turns + cond c m 0) p.begun in
        let c = where_begun s.begun n m in
        omega arith);
    prologue =
        (let a = p.turned.prologue in
        let b : u.prologue_turns ≡ t.prologue_turns + cond s.begun 0 m = q.turned.prologue ∙ ap (λ c. t.prologue_turns + cond c 0 m) p.begun in
        let c = where_not s.begun n m in
        omega arith);
  };
}

spun_more : (n m : ℕ) (s t : State) (o : Outcome (Unit {0})) → Makes n s t → GoesTo (Makes m t) o → GoesTo (Makes (n + m) s) o
spun_more n m s t o p = must_weaker (Makes m t) (Makes (n + m) s) o (λ u q. spun_then n m s t u p q)

spun_still : (s t : State) → Kept true s t → Makes 0 s t
spun_still s t k = record {
  begun = k.leaves.begun;
  turned = record { body = k.body refl ∙ no_turn s.begun s.body_turns; prologue = k.prologue refl ∙ no_turn s.begun s.prologue_turns };
}

pub spun_turn : (s : State) → GoesTo (Makes 1 s) (turn s)
spun_turn s = chosen s.begun refl
  where
    chosen : (b : Bool) → s.begun ≡ b → Makes 1 s (cond b (record s { body_turns = s.body_turns + 1 }) (record s { prologue_turns = s.prologue_turns + 1 }))
    chosen true e = record {
      begun = refl;
      turned = record { body = rw e refl; prologue = rw e (omega arith) };
    }
    chosen false e = record {
      begun = refl;
      turned = record { body = rw e (omega arith); prologue = rw e refl };
    }

spun_over : (f : ℤ → Run (Unit {0})) (n : ℤ → ℕ) → ((v : ℤ) (s : State) → GoesTo (Makes (n v) s) (f v s)) → (vals : List ℤ) (s : State) → GoesTo (Makes (sum_by n vals) s) (over f vals s)
spun_over f n h [] s = spun_none s
spun_over f n h (v ∷ vals) s =
    subst (λ k. GoesTo (Makes k s) (over f (v ∷ vals) s)) (sym (sum_by-cons n v vals))
    (must_then (Makes (n v) s) (Makes (n v + sum_by n vals) s) (f v s) (λ u. over f vals) (h v s) (λ t p. spun_more (n v) (sum_by n vals) s t (over f vals t) p (spun_over f n h vals t)))

module _ (sc : Scope) (has : HasCounters sc.wides) (arrays : List Array) (number : Word → ℕ) (params base : Vars) (place : IsPlace params base) (own_params : AreOwn params) (target : Target) (free : AllHaveNoCells target.at) (site : Option ℕ) where
  still_step : (ps : PlainStmts) (vs : Vars) (s : State) → AreQuiet true ps → GoesTo (Makes 0 s) (exec_all sc ps vs s)
  still_step ps vs s q = must_weaker (Kept true s) (Makes 0 s) (exec_all sc ps vs s) (λ t k. spun_still s t k) (quiet_all sc has true ps vs s q)

  choice_step : (k : ℕ) (loops : Vars) (s : State) (ts : List PlainTest) (first other : PlainStmts) → AreAffineTests ts (loops ++ params) → AreOwn loops → length (names loops) < 2 ^ 64 →
      GoesTo (Makes (turns_all first (loops ++ params)) s) (exec_all sc (stmts_of (copied_all number target site (names loops) k first)) (copied_vars loops ++ base) s) →
      GoesTo (Makes (turns_all other (loops ++ params)) s) (exec_all sc (stmts_of (copied_all number target site (names loops) (k + sites_all first) other)) (copied_vars loops ++ base) s) →
      GoesTo (Makes (turns (choice ts first other) (loops ++ params)) s) (exec_all sc (stmts_of (copied number target site (names loops) k (choice ts first other))) (copied_vars loops ++ base) s)
  choice_step k loops s ts first other h o l one two = chosen (tests_hold ts (loops ++ params)) refl
    where
      chosen : (c : Bool) → tests_hold ts (loops ++ params) ≡ c →
          GoesTo (Makes (cond c (turns_all first (loops ++ params)) (turns_all other (loops ++ params))) s) (exec_all sc (stmts_of (copied number target site (names loops) k (choice ts first other))) (copied_vars loops ++ base) s)
      chosen c e =
          must_one sc _ (choice (renamed_tests (names loops) ts) (stmts_of (copied_all number target site (names loops) k first)) (stmts_of (copied_all number target site (names loops) (k + sites_all first) other))) (copied_vars loops ++ base) s
          (subst (GoesTo _) (sym (choice_copied sc params base place own_params loops o l ts (stmts_of (copied_all number target site (names loops) k first)) (stmts_of (copied_all number target site (names loops) (k + sites_all first) other)) s c h e)) (branch c))
        where
          branch : (c : Bool) → GoesTo (Makes (cond c (turns_all first (loops ++ params)) (turns_all other (loops ++ params))) s)
              (cond c (exec_all sc (stmts_of (copied_all number target site (names loops) k first)) (copied_vars loops ++ base) s) (exec_all sc (stmts_of (copied_all number target site (names loops) (k + sites_all first) other)) (copied_vars loops ++ base) s))
          branch true = one
          branch false = two

  mutual
    turned_one : (p : PlainStmt) (k : ℕ) (loops : Vars) (s : State) → IsCountable arrays number p (loops ++ params) → inspects number target.array p ≡ false → AreOwn loops → length (names loops) < 2 ^ 64 →
        GoesTo (Makes (turns p (loops ++ params)) s) (exec_all sc (stmts_of (copied number target site (names loops) k p)) (copied_vars loops ++ base) s)
    turned_one (loop x lo rel hi body) k loops s h q o l =
        let f : ℤ → Run (Unit {0}) = λ v. λ t. and_then (turn t) (λ u. exec_all sc (stmts_of (copied_all number target site (x ∷ names loops) k body)) ((pass_variable (length (names loops)), v) ∷ (copied_vars loops ++ base))) in
        let n : ℤ → ℕ = λ v. turns_all body ((x, v) ∷ (loops ++ params)) in
        must_one sc _ (loop (pass_variable (length (names loops))) (renamed (names loops) lo) rel (renamed (names loops) hi) (stmts_of (copied_all number target site (x ∷ names loops) k body))) (copied_vars loops ++ base) s
        (subst (GoesTo _) (sym (loop_is sc params base place own_params loops o l lo hi rel (stmts_of (copied_all number target site (x ∷ names loops) k body)) s h.0 h.1))
        (spun_over f (λ v. suc (n v))
        (λ v t. subst (λ j. GoesTo (Makes j t) (f v t)) (let e : 1 + n v ≡ suc (n v) = omega arith in e)
        (must_then (Makes 1 t) (Makes (1 + n v) t) (turn t) (λ u. exec_all sc (stmts_of (copied_all number target site (x ∷ names loops) k body)) ((pass_variable (length (names loops)), v) ∷ (copied_vars loops ++ base))) (spun_turn t)
        (λ u p. spun_more 1 (n v) t u _ p (turned_all body k ((x, v) ∷ loops) u (h.3 v) q (h.2.own_name, o) (deeper loops params h.2.shallow)))))
        (loop_values (signed lo (loops ++ params)) rel (signed hi (loops ++ params))) s))
    turned_one (choice ts first other) k loops s h q o l =
        choice_step k loops s ts first other h.0 o l (turned_all first k loops s h.1 (or_parts _ _ q).0 o l) (turned_all other (k + sites_all first) loops s h.2 (or_parts _ _ q).1 o l)
    turned_one (assign t op e) k loops s h q o l =
        still_step (stmts_of (count_reads number target (names loops) (full t op e) ++ count_write number target site (names loops) k t)) (copied_vars loops ++ base) s
        (assign_quiet number target free arrays true site (names loops) k t op e (loops ++ params) h.0 h.1 q)
    turned_one (table x len) k loops s h q o l = absurd h
    turned_one begin k loops s h q o l = absurd h
    turned_one (check x extent a) k loops s h q o l = absurd h
    turned_one verdict k loops s h q o l = absurd h

    turned_all : (ps : PlainStmts) (k : ℕ) (loops : Vars) (s : State) → AreCountable arrays number ps (loops ++ params) → inspects_all number target.array ps ≡ false → AreOwn loops → length (names loops) < 2 ^ 64 →
        GoesTo (Makes (turns_all ps (loops ++ params)) s) (exec_all sc (stmts_of (copied_all number target site (names loops) k ps)) (copied_vars loops ++ base) s)
    turned_all no_stmts k loops s h q o l = spun_none s
    turned_all (more_stmts p ps) k loops s h n o l =
        must_join sc (Makes (turns p (loops ++ params)) s) (Makes (turns p (loops ++ params) + turns_all ps (loops ++ params)) s) (copied number target site (names loops) k p) (copied_all number target site (names loops) (k + sites p) ps) (copied_vars loops ++ base) s
        (turned_one p k loops s h.0 (or_parts _ _ n).0 o l)
        (λ t q. spun_more (turns p (loops ++ params)) (turns_all ps (loops ++ params)) s t _ q (turned_all ps (k + sites p) loops t h.1 (or_parts _ _ n).1 o l))

  -- the whole pass: before and after the copy no turn is made
  pub pass_turns : (body : PlainStmts) (s : State) → AreCountable arrays number body params → inspects_all number target.array body ≡ false → GoesTo (Makes (turns_all body params) s) (exec_all sc (stmts_of (pass_text number body target site)) base s)
  pass_turns body s h plain =
      let n : ℕ = turns_all body params in
      let first : List PlainStmt = set_word active (standing site) ∷ set_word counter 0 ∷ [] in
      let last : List PlainStmt = assign (var count) None (widen (var counter)) ∷ [] in
      subst (λ k. GoesTo (Makes k s) (exec_all sc (stmts_of (pass_text number body target site)) base s)) (let e : 0 + (n + 0) ≡ n = omega arith in e)
      (must_join sc (Makes 0 s) (Makes (0 + (n + 0)) s) first (copied_all number target site [] 0 body ++ last) base s
      (still_step (stmts_of first) base s ((sets_active refl, tt), ((sets_counter refl, tt), tt)))
      (λ t p. spun_more 0 (n + 0) s t _ p
      (must_join sc (Makes n t) (Makes (n + 0) t) (copied_all number target site [] 0 body) last base t
      (turned_all body 0 [] t h plain tt (omega arith))
      (λ u q. spun_more n 0 t u _ q (still_step (stmts_of last) base u ((sets_count refl, tt), tt))))))
