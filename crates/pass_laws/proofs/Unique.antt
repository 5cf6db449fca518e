-- A write is known by the number of its assignment and the values of the loops around it.
use Rattle.std.proofs.Common.{◌≡◌, ℕ, zero, suc, ◌+◌, Bool, true, false, cond, List, [], ◌∷◌, ◌++◌, length, flat_map, get_or, refl, sym, ap, ◌∙◌, subst, arith, ℤ, pos, ◌+ℤ◌, ◌≤ℤ◌, Some, inl, inr}
use Rattle.std.specs.Prelude.{slice_get}
use Rattle.std.proofs.lemmas.Int.{ints}
use Rattle.std.proofs.lemmas.List.{get_or_at, length-append}
use Rattle.c_tree.specs.Plain.{Word, PlainStmt, loop, choice, assign, table, begin, check, verdict, PlainStmts, no_stmts, more_stmts}
use Rattle.c_tree.specs.Values.{Vars, signed, from_on, count_of, loop_values}
use Rattle.c_tree.specs.Arrays.{Array, Memory}
use Rattle.c_tree.specs.Instances.{Tagged, sites, sites_all}
use Rattle.instrumentation.specs.Body.{full}
use Rattle.instrumentation_laws.specs.AccessList.{tests_hold}
use Rattle.instrumentation_laws.specs.IndexedList.{tagged, tagged_all}
use Rattle.pass_laws.specs.Countable.{IsCountable, AreCountable}
use Rattle.pass_laws.proofs.Elements.{none_some, get_joined, assign_write}
use Rattle.pass_laws.proofs.Sites.{facts_one, facts_all}

-- each value of a loop is greater than those before it
abbrev Above : ℤ → List ℤ → Type 0
Above a [] = Unit {0}
Above a (v ∷ vals) = (a ≤ℤ v) × Above (v +ℤ pos 1) vals

above_from : (a : ℤ) (n : ℕ) → Above a (from_on a n)
above_from a zero = tt
above_from a (suc n) = (omega (arith, ints), above_from (a +ℤ pos 1) n)

-- the loop values around a write
last_value : (w u vs : Vars) (x : Word) (v z : ℤ) → w ++ (x, v) ∷ vs ≡ u ++ (x, z) ∷ vs → v ≡ z
last_value w u vs x v z e =
    let a = length-append w ((x, v) ∷ vs) in
    let b = length-append u ((x, z) ∷ vs) in
    let c : length (w ++ (x, v) ∷ vs) ≡ length (u ++ (x, z) ∷ vs) = ap length e in
    let same : length u ≡ length w = omega arith in
    ap (λ (p : Word × ℤ). p.1) (sym (get_or_at w (x, v) vs (x, pos 0) (length w) refl) ∙ ap (λ l. get_or l (length w) (x, pos 0)) e ∙ get_or_at u (x, z) vs (x, pos 0) (length w) same)

-- a write of a turn has the turn's value
abbrev HasValue : Word → Vars → ℤ → Tagged → Type 0
HasValue x vs v t = (w : Vars) × (t.vars ≡ w ++ (x, v) ∷ vs)

turn_value : (items : ℤ → List Tagged) (x : Word) (vs : Vars) → ((v : ℤ) (n : ℕ) (t : Tagged) → slice_get (items v) n ≡ Some t → t.access.writes ≡ true → HasValue x vs v t) →
    (a : ℤ) (vals : List ℤ) → Above a vals → (n : ℕ) (t : Tagged) → slice_get (flat_map items vals) n ≡ Some t → t.access.writes ≡ true → (v : ℤ) × (a ≤ℤ v) × HasValue x vs v t
turn_value items x vs h a [] ab n t g w = absurd (none_some t g)
turn_value items x vs h a (v ∷ vals) ab n t g w =
    elim (get_joined (items v) (flat_map items vals) n t g) [
      | inl p ↦ (v, ab.0, h v n t p w)
      | inr p ↦
          (let r : (z : ℤ) × ((v +ℤ pos 1) ≤ℤ z) × HasValue x vs z t = turn_value items x vs h (v +ℤ pos 1) vals ab.1 p.0 t p.2 w in
          let k : a ≤ℤ v = ab.0 in
          let l : (v +ℤ pos 1) ≤ℤ r.0 = r.1 in
          (r.0, (let m : a ≤ℤ r.0 = omega (arith, ints) in m), r.2))
    ]

unique_turns : (items : ℤ → List Tagged) (x : Word) (vs : Vars) → ((v : ℤ) (n : ℕ) (t : Tagged) → slice_get (items v) n ≡ Some t → t.access.writes ≡ true → HasValue x vs v t) →
    ((v : ℤ) (n k : ℕ) (t u : Tagged) → slice_get (items v) n ≡ Some t → slice_get (items v) k ≡ Some u → t.access.writes ≡ true → u.access.writes ≡ true → t.site ≡ u.site → t.vars ≡ u.vars → n ≡ k) →
    (a : ℤ) (vals : List ℤ) → Above a vals → (n k : ℕ) (t u : Tagged) → slice_get (flat_map items vals) n ≡ Some t → slice_get (flat_map items vals) k ≡ Some u →
    t.access.writes ≡ true → u.access.writes ≡ true → t.site ≡ u.site → t.vars ≡ u.vars → n ≡ k
unique_turns items x vs h one a [] ab n k t u gt gu wt wu s e = absurd (none_some t gt)
unique_turns items x vs h one a (v ∷ vals) ab n k t u gt gu wt wu s e =
    elim (get_joined (items v) (flat_map items vals) n t gt) [
      | inl p ↦
          elim (get_joined (items v) (flat_map items vals) k u gu) [
            | inl q ↦ one v n k t u p q wt wu s e
            | inr q ↦ absurd (apart t u n q.0 wt wu e p q.2)
          ]
      | inr p ↦
          elim (get_joined (items v) (flat_map items vals) k u gu) [
            | inl q ↦ absurd (apart u t k p.0 wu wt (sym e) q p.2)
            | inr q ↦ (let r : p.0 ≡ q.0 = unique_turns items x vs h one (v +ℤ pos 1) vals ab.1 p.0 q.0 t u p.2 q.2 wt wu s e in let i = p.1 in let j = q.1 in omega arith)
          ]
    ]
  where
    apart : (t u : Tagged) (n k : ℕ) → t.access.writes ≡ true → u.access.writes ≡ true → t.vars ≡ u.vars → slice_get (items v) n ≡ Some t → slice_get (flat_map items vals) k ≡ Some u → ⊥
    apart t u n k wt wu e p q =
        let i : HasValue x vs v t = h v n t p wt in
        let j : (z : ℤ) × ((v +ℤ pos 1) ≤ℤ z) × HasValue x vs z u = turn_value items x vs h (v +ℤ pos 1) vals ab.1 k u q wu in
        let same : v ≡ j.0 = last_value i.0 j.2.0 vs x v j.0 (sym i.1 ∙ e ∙ j.2.1) in
        let l : (v +ℤ pos 1) ≤ℤ j.0 = j.1 in
        let m : (v +ℤ pos 1) ≤ℤ v = subst (λ z. (v +ℤ pos 1) ≤ℤ z) (sym same) l in
        omega (arith, ints)

module _ (arrays : List Array) (number : Word → ℕ) (m : Memory) where
  abbrev Same : List Tagged → Type 0
  Same l = (n k : ℕ) (t u : Tagged) → slice_get l n ≡ Some t → slice_get l k ≡ Some u → t.access.writes ≡ true → u.access.writes ≡ true → t.site ≡ u.site → t.vars ≡ u.vars → n ≡ k

  unique_choice : (c : Bool) (xs ys : List Tagged) → Same xs → Same ys → Same (cond c xs ys)
  unique_choice true xs ys h g = h
  unique_choice false xs ys h g = g

  mutual
    unique_one : (p : PlainStmt) (j : ℕ) (vs : Vars) → IsCountable arrays number p vs → Same (tagged arrays m number j p vs)
    unique_one (loop x lo rel hi body) j vs h =
        unique_turns (λ v. tagged_all arrays m number j body ((x, v) ∷ vs)) x vs
        (λ v n t g w. let r = facts_all arrays number m body j ((x, v) ∷ vs) n t (h.3 v) g w in (r.around, r.vars_is))
        (λ v. unique_all body j ((x, v) ∷ vs) (h.3 v))
        (signed lo vs) (loop_values (signed lo vs) rel (signed hi vs)) (above_from (signed lo vs) (count_of (signed lo vs) rel (signed hi vs)))
    unique_one (choice ts first other) j vs h =
        unique_choice (tests_hold ts vs) (tagged_all arrays m number j first vs) (tagged_all arrays m number (j + sites_all first) other vs) (unique_all first j vs h.1) (unique_all other (j + sites_all first) vs h.2)
    unique_one (assign target op e) j vs h = λ n k t u gt gu wt wu s e'.
        (assign_write arrays m number j target (full target op e) vs n t gt wt).position ∙ sym (assign_write arrays m number j target (full target op e) vs k u gu wu).position
    unique_one (table x len) j vs h = absurd h
    unique_one begin j vs h = absurd h
    unique_one (check x extent a) j vs h = absurd h
    unique_one verdict j vs h = absurd h

    pub unique_all : (ps : PlainStmts) (j : ℕ) (vs : Vars) → AreCountable arrays number ps vs → Same (tagged_all arrays m number j ps vs)
    unique_all no_stmts j vs h = λ n k t u gt gu wt wu s e. absurd (none_some t gt)
    unique_all (more_stmts p ps) j vs h = λ n k t u gt gu wt wu s e.
        elim (get_joined (tagged arrays m number j p vs) (tagged_all arrays m number (j + sites p) ps vs) n t gt) [
          | inl a ↦
              elim (get_joined (tagged arrays m number j p vs) (tagged_all arrays m number (j + sites p) ps vs) k u gu) [
                | inl b ↦ unique_one p j vs h.0 n k t u a b wt wu s e
                | inr b ↦
                    (let x = facts_one arrays number m p j vs n t h.0 a wt in
                    let y = facts_all arrays number m ps (j + sites p) vs b.0 u h.1 b.2 wu in
                    let i = x.site_is in let l = x.below in let m = y.site_is in
                    absurd (omega arith))
              ]
          | inr a ↦
              elim (get_joined (tagged arrays m number j p vs) (tagged_all arrays m number (j + sites p) ps vs) k u gu) [
                | inl b ↦
                    (let x = facts_one arrays number m p j vs k u h.0 b wu in
                    let y = facts_all arrays number m ps (j + sites p) vs a.0 t h.1 a.2 wt in
                    let i = x.site_is in let l = x.below in let m = y.site_is in
                    absurd (omega arith))
                | inr b ↦ (let r : a.0 ≡ b.0 = unique_all ps (j + sites p) vs h.1 a.0 b.0 t u a.2 b.2 wt wu s e in let i = a.1 in let l = b.1 in omega arith)
              ]
        ]
