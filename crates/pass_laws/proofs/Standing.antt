-- What one access does to whether a definition stands in its cell, and to how often it was read.
use Rattle.std.proofs.Common.{◌≡◌, ℕ, suc, ◌+◌, ◌<◌, ◌≤◌, Bool, true, false, cond, ◌&&◌, List, [], ◌∷◌, ◌++◌, length, refl, sym, ap, ◌∙◌, subst, arith, inl, inr, true≢false, eq-eqb, ℤ, Some}
use Rattle.std.specs.Prelude.{slice_get}
use Rattle.std.proofs.lemmas.Bool.{cases_Bool, cond-true, cond-false, and_from, and_left, and_right, false_from_ne_true, not_from_true}
use Rattle.std.proofs.lemmas.List.{length-map, length-append, map-append, get_or_at}
use Rattle.c_tree.specs.Accesses.{Access, Definition, at, nowhere, is_of, same_definition, latest, reads_from, sum_below}
use Rattle.c_tree.specs.Accesses.Definition.{Initial, Written}
use Rattle.c_tree.specs.Instances.{Tagged, untagged}
use Rattle.balance_laws.proofs.Sums.{sum_below_more, sum_below_le}
use Rattle.balance_laws.proofs.Latest.{is_of-true, latest_start, latest_written, latest_kept}
use Rattle.cell_laws.proofs.SameCell.{same_cell_refl}

-- the element after these
pub get_here : {X : Type 0} (pre : List X) (x : X) (rest : List X) → slice_get (pre ++ x ∷ rest) (length pre) ≡ Some x
get_here [] x rest = refl
get_here (y ∷ pre) x rest = get_here pre x rest

-- the access after these
pub access_here : (whole pre : List Tagged) (t : Tagged) (rest : List Tagged) → pre ++ t ∷ rest ≡ whole → at (untagged whole) (length pre) ≡ t.access
access_here whole pre t rest is =
    subst (λ l. at (untagged l) (length pre) ≡ t.access) is
    (ap (λ l. at l (length pre)) (map-append (λ (u : Tagged). u.access) pre (t ∷ rest)) ∙
    get_or_at (untagged pre) t.access (untagged rest) nowhere (length pre) (length-map pre (λ (u : Tagged). u.access)))

pub below_here : (whole pre : List Tagged) (t : Tagged) (rest : List Tagged) → pre ++ t ∷ rest ≡ whole → length pre < length whole
below_here whole pre t rest is =
    let a = length-append pre (t ∷ rest) in
    let b : length (pre ++ t ∷ rest) ≡ length whole = ap length is in
    omega arith

module _ (list : List Access) (array : ℕ) (cell : List ℤ) (def : Definition) where
  -- the definition stands in its cell before position n
  abbrev pub live : ℕ → Bool
  live n = same_definition (latest list array cell n) def

  -- how many of the first n accesses read it
  abbrev pub counted : ℕ → ℕ
  counted n = sum_below (λ q. cond (reads_from list def q) 1 0) n

  pub counted_le : (n : ℕ) → counted n ≤ n
  counted_le n = sum_below_le (λ q. cond (reads_from list def q) 1 0) n (λ q. at_most_one _)
    where
      at_most_one : (t : Bool) → cond t 1 0 ≤ 1
      at_most_one true = omega arith
      at_most_one false = omega arith

  pub counted_more : (n : ℕ) (t : Bool) → reads_from list def n ≡ t → counted (suc n) ≡ counted n + cond t 1 0
  counted_more n t e = sum_below_more _ n ∙ ap (λ b. counted n + cond b 1 0) e

  pub live_start : (b : Bool) → same_definition (Initial array cell) def ≡ b → live 0 ≡ b
  live_start b e = ap (λ d. same_definition d def) (latest_start list array cell) ∙ e

  pub live_read : (n : ℕ) (x : Access) → at list n ≡ x → x.writes ≡ false → live (suc n) ≡ live n
  live_read n x e r = ap (λ d. same_definition d def) (latest_kept list array cell n (and_left _ _ (ap (λ y. y.writes) e ∙ r)))

  pub live_write : (n : ℕ) (x : Access) → at list n ≡ x → x.writes ≡ true → live (suc n) ≡ cond (is_of x array cell) (same_definition (Written n) def) (live n)
  live_write n x e w =
      elim (cases_Bool (is_of x array cell)) [
        | inl t ↦ ap (λ d. same_definition d def) (latest_written list array cell n (and_from _ _ (ap (λ y. y.writes) e ∙ w) (ap (λ y. is_of y array cell) e ∙ t))) ∙ sym (cond-true _ _ _ t)
        | inr t ↦ ap (λ d. same_definition d def) (latest_kept list array cell n (and_right _ _ (ap (λ y. is_of y array cell) e ∙ t))) ∙ sym (cond-false _ _ _ t)
      ]

  pub write_hit : (n : ℕ) (x : Access) → at list n ≡ x → x.writes ≡ true → reads_from list def n ≡ false
  write_hit n x e w = and_left _ _ (not_from_true _ (ap (λ y. y.writes) e ∙ w))

  module _ (owned : (b n : ℕ) (c : List ℤ) → same_definition (latest list b c n) def ≡ true → (b ≡ array) × (c ≡ cell)) where
    -- a read is one of the definition where it is of its cell and the definition stands there
    pub read_hit : (n : ℕ) (x : Access) → at list n ≡ x → x.writes ≡ false → reads_from list def n ≡ (is_of x array cell && live n)
    read_hit n x e r =
        let same : reads_from list def n ≡ same_definition (latest list x.array x.cell n) def = rw (e, r) refl in
        same ∙ elim (cases_Bool (is_of x array cell)) [
          | inl t ↦ (
              let o : (x.array ≡ array) × (x.cell ≡ cell) = is_of-true x array cell t in
              ap (λ d. same_definition d def) (ap (λ b. latest list b x.cell n) o.0 ∙ ap (λ c. latest list array c n) o.1) ∙ sym (ap (λ b. b && live n) t))
          | inr t ↦
              false_from_ne_true _ (λ h.
              let o : (x.array ≡ array) × (x.cell ≡ cell) = owned x.array n x.cell h in
              true≢false (sym (and_from _ _ (eq-eqb _ _ o.0) (rw o.1 (same_cell_refl cell))) ∙ t)) ∙ sym (ap (λ b. b && live n) t)
        ]
