-- The ends of a list from those of its first term and of the rest.
use Rattle.std.proofs.Common.{◌≡◌, ◌≤◌, ◌-◌, ◌*◌, ◌^◌, ℕ, suc, ℤ, pos, ◌+ℤ◌, ◌*ℤ◌, List, [], ◌∷◌, length, take, drop, get_or, true, ap, ◌∙◌, subst, arith}
use Rattle.std.proofs.lemmas.Grind.{common_steps}
use Rattle.acceptance.specs.Affine.{lies_in}
use Rattle.affine_sets.specs.Sums.{Term}
use Rattle.affine_sets.specs.Ends.{Pair, pair_of, ends}

abbrev pub rest : List Term → List Term
rest ts = take (length ts - 1) (drop 1 ts)

abbrev pub end_of : (ℤ → ℤ → ℤ) → List Pair → Term → ℤ
end_of choose within t = choose (t.1 *ℤ (pair_of within t.0).0) (t.1 *ℤ (pair_of within t.0).1)

rest_is : (t : Term) (ts : List Term) → rest (t ∷ ts) ≡ ts
rest_is t ts = grind (arith, common_steps)

pub ends_step : (choose : ℤ → ℤ → ℤ) (within : List Pair) (ts : List Term) (d : Term) (r e m : ℤ) → 1 ≤ length ts → r ≡ e +ℤ m → e ≡ end_of choose within (get_or ts 0 d) → m ≡ ends choose within (rest ts) → r ≡ ends choose within ts
ends_step choose within [] d r e m h i j k = absurd (omega arith)
ends_step choose within (t ∷ ts) d r e m h i j k =
    i ∙ ap (λ x. x +ℤ m) j ∙ ap (λ x. end_of choose within t +ℤ x) (k ∙ ap (ends choose within) (rest_is t ts))

rest_length : (ts : List Term) → 1 ≤ length ts → suc (length (rest ts)) ≡ length ts
rest_length [] h = absurd (omega arith)
rest_length (t ∷ ts) h = ap (λ x. suc (length x)) (rest_is t ts)

pub size_step : (ts : List Term) (r : ℤ) → 1 ≤ length ts → lies_in (pos (suc (length (rest ts)) * 2 ^ 107)) r ≡ true → lies_in (pos (length ts * 2 ^ 107)) r ≡ true
size_step ts r h s = let P : ℕ → Type 0 = λ n. lies_in (pos (n * 2 ^ 107)) r ≡ true in subst P (rest_length ts h) s
