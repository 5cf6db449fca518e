-- The words that checks return.
use Rattle.std.proofs.Common.{◌≡◌, ℕ, zero, suc, ◌+◌, ◌*◌, ◌%◌, ◌^◌, ◌<◌, ◌≤◌, Bool, cond, Some, None, eq-eqb, refl, ap, ◌∙◌, arith}
use Rattle.std.proofs.Math.Nat.{mod-eq_of_lt}
use Rattle.std.proofs.Math.Pow.{pow-lt}
use Rattle.std.proofs.lemmas.Bool.{ne_eqb}
use Rattle.grammar_reading.specs.Blocks.{array_below}

pub array_below-found : (k b n : ℕ) → k ≡ suc b → n ≡ 2 ^ (16 + b) → array_below k n ≡ Some b
unfolding array_below
array_below-found k b n e h = ap (λ (j : ℕ). array_below j n) e ∙ ap (λ (t : Bool). cond t (Some b) (array_below b n)) (eq-eqb n (2 ^ (16 + b)) h)

pub array_below-next : (k b n : ℕ) → k ≡ suc b → (n ≡ 2 ^ (16 + b) → ⊥) → array_below k n ≡ array_below b n
unfolding array_below
array_below-next k b n e h = ap (λ (j : ℕ). array_below j n) e ∙ ap (λ (t : Bool). cond t (Some b) (array_below b n)) (ne_eqb n (2 ^ (16 + b)) h)

pub array_below-out : (k n : ℕ) → k ≤ 0 → array_below k n ≡ None
unfolding array_below
array_below-out zero n h = refl
array_below-out (suc k) n h = absurd (let never : ⊥ = omega arith in never)

pub one_shifted : (b : ℕ) → b < 48 → (1 * 2 ^ (16 + b)) % 2 ^ 64 ≡ 2 ^ (16 + b)
one_shifted b h =
    let e : 1 * 2 ^ (16 + b) ≡ 2 ^ (16 + b) = omega arith in
    let few : 16 + b < 64 = omega arith in
    ap (λ (n : ℕ). n % 2 ^ 64) e ∙ mod-eq_of_lt (pow-lt few)
