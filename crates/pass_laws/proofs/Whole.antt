-- A whole pass sets the count to the uses of its definition.
use Rattle.std.proofs.Common.{◌≡◌, ℕ, ◌<◌, ◌^◌, true, false, cond, List, [], ◌∷◌, ◌++◌, length, refl, sym, ap, ◌∙◌, subst, arith, append-nil, ℤ, Option, Some, None}
use Rattle.std.specs.Prelude.{slice_get}
use Rattle.std.proofs.lemmas.Bool.{cond-true, cond-false}
use Rattle.std.proofs.lemmas.List.{length-map}
use Rattle.c_tree.specs.Plain.{Word, PlainStmt, assign, var, widen, PlainStmts}
use Rattle.c_tree.specs.Trees.{stmts_of}
use Rattle.c_tree.specs.Values.{Vars, is_in}
use Rattle.c_tree.specs.Arrays.{Array, Memory}
use Rattle.c_tree.specs.Accesses.{Definition, is_of, same_definition, latest, reads_from, uses, sum_below}
use Rattle.c_tree.specs.Accesses.Definition.{Initial, Written}
use Rattle.c_tree.specs.Instances.{Tagged, untagged}
use Rattle.c_tree.specs.Run.{State, goes_on, Scope, put, exec, exec_all}
use Rattle.instrumentation.specs.Names.{count, active, counter}
use Rattle.instrumentation.specs.Passes.{Target, set_word, write_text, copied_all, standing, pass_text}
use Rattle.balance_laws.proofs.Sums.{sum_below_none}
use Rattle.pass_laws.specs.Countable.{AreOwn, AreCountable}
use Rattle.instrumentation.specs.Inspects.{inspects_all}
use Rattle.instrumentation_laws.specs.AccessList.{signed_all}
use Rattle.instrumentation_laws.specs.IndexedList.{tagged_all}
use Rattle.pass_laws.specs.Going.{GoesTo, HasCounters}
use Rattle.instrumentation_laws.proofs.Names.{same_word}
use Rattle.pass_laws.proofs.Names.{counter_active}
use Rattle.pass_laws.proofs.Going.{must_then, must_join, must_one}
use Rattle.pass_laws.proofs.Renamed.{names, copied_vars}
use Rattle.pass_laws.proofs.Standing.{live_start}
use Rattle.pass_laws.proofs.Counted.{IsPass, PassAt, set_active, set_counter}
use Rattle.pass_laws.proofs.Copied.{copy_all}

set_count : (sc : Scope) → HasCounters sc.wides → (vs : Vars) (s : State) → is_in vs counter ≡ false →
    exec sc (assign (var count) None (widen (var counter))) vs s ≡ goes_on tt (record s { wides = put s.wides count (s.words counter) })
set_count sc has vs s e = rw (has.count_wide, e) refl

module _ (sc : Scope) (arrays : List Array) (number : Word → ℕ) (m : Memory) (body : PlainStmts) (params base : Vars) (countable : AreCountable arrays number body params) (target : Target) (plain : inspects_all number target.array body ≡ false)
    (is_pass : IsPass sc arrays number (tagged_all arrays m number 0 body params) params base target) (site : Option ℕ) (def : Definition)
    (owned : (b n : ℕ) (c : List ℤ) → same_definition (latest (untagged (tagged_all arrays m number 0 body params)) b c n) def ≡ true → (b ≡ target.array) × (c ≡ signed_all target.at base))
    (mine : (n : ℕ) (t : Tagged) (loops : Vars) (s : State) → slice_get (tagged_all arrays m number 0 body params) n ≡ Some t → t.access.writes ≡ true → t.vars ≡ loops ++ params → is_of t.access target.array (signed_all target.at base) ≡ true →
    AreOwn loops → length (names loops) < 2 ^ 64 →
    exec_all sc (stmts_of (write_text site (names loops) t.site)) (copied_vars loops ++ base) s ≡ goes_on tt (record s { words = put s.words active (cond (same_definition (Written n) def) 1 0) }))
    (start : standing site ≡ cond (same_definition (Initial target.array (signed_all target.at base)) def) 1 0) where
  abbrev whole : List Tagged
  whole = tagged_all arrays m number 0 body params

  abbrev At : ℕ → State → Type 0
  At = PassAt sc arrays number whole params base target is_pass site def

  started : (s : State) → At 0 (record s { words = put (put s.words active (standing site)) counter 0 })
  started s = record {
    active_is = cond-false _ _ _ counter_active ∙ cond-true _ _ _ (same_word active) ∙ start ∙ sym (ap (λ b. cond b 1 0) (live_start (untagged whole) target.array (signed_all target.at base) def _ refl));
    counter_is = cond-true _ _ _ (same_word counter) ∙ sym (sum_below_none (λ q. cond (reads_from (untagged whole) def q) 1 0));
  }

  ended : (s : State) → At (length whole) s → GoesTo (λ t. t.wides count ≡ uses (untagged whole) def) (exec_all sc (stmts_of (assign (var count) None (widen (var counter)) ∷ [])) base s)
  unfolding uses
  ended s p =
      must_one sc (λ t. t.wides count ≡ uses (untagged whole) def) (assign (var count) None (widen (var counter))) base s
      (subst (GoesTo (λ t. t.wides count ≡ uses (untagged whole) def)) (sym (set_count sc is_pass.has base s is_pass.place.counter_free))
      (cond-true _ _ _ (same_word count) ∙ p.counter_is ∙ ap (λ k. sum_below (λ q. cond (reads_from (untagged whole) def q) 1 0) k) (sym (length-map whole (λ (t : Tagged). t.access)))))

  pub pass_counts : (s : State) → GoesTo (λ t. t.wides count ≡ uses (untagged whole) def) (exec_all sc (stmts_of (pass_text number body target site)) base s)
  pass_counts s =
      let P : State → Type 0 = λ t. t.wides count ≡ uses (untagged whole) def in
      let s1 : State = record s { words = put s.words active (standing site) } in
      let s2 : State = record s { words = put (put s.words active (standing site)) counter 0 } in
      let rest : List PlainStmt = copied_all number target site [] 0 body ++ assign (var count) None (widen (var counter)) ∷ [] in
      let last : GoesTo P (exec_all sc (stmts_of rest) base s2) =
      must_join sc (At (length whole)) P (copied_all number target site [] 0 body) (assign (var count) None (widen (var counter)) ∷ []) base s2
      (copy_all sc arrays number whole params base target is_pass site def m owned mine body 0 [] [] [] s2 countable plain tt (omega arith) (append-nil whole) (started s)) (λ t p. ended t p) in
      must_then (λ t. t ≡ s1) P (exec sc (set_word active (standing site)) base s) (λ u. exec_all sc (stmts_of (set_word counter 0 ∷ rest)) base)
      (subst (GoesTo (λ t. t ≡ s1)) (sym (set_active sc is_pass.has (standing site) base s)) refl)
      (λ t e. subst (λ t. GoesTo P (exec_all sc (stmts_of (set_word counter 0 ∷ rest)) base t)) (sym e)
      (must_then (λ t. t ≡ s2) P (exec sc (set_word counter 0) base s1) (λ u. exec_all sc (stmts_of rest) base)
      (subst (GoesTo (λ t. t ≡ s2)) (sym (set_counter sc is_pass.has 0 base s1)) refl)
      (λ t e. subst (λ t. GoesTo P (exec_all sc (stmts_of rest) base t)) (sym e) last)))
