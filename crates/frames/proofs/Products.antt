-- Products of whole numbers.
use Rattle.std.proofs.Common.{◌≡◌, ℕ, zero, suc, ℤ, pos, negsuc, neg_ℤ, ◌+ℤ◌, ◌-ℤ◌, ◌*ℤ◌, refl, sym, ap, ◌∙◌, arith}
use Rattle.std.proofs.lemmas.Int.{ints}
use Rattle.std.proofs.Math.IntN.{*ℤ_comm, zero-*ℤ}
use Rattle.affine_sets.proofs.ScaledLaws.{add_times}

pub one_times : (a : ℤ) → pos 1 *ℤ a ≡ a
one_times a = omega (arith, ints)

pub zero_times : (a : ℤ) → pos 0 *ℤ a ≡ pos 0
zero_times = zero-*ℤ

pub neg_times : (a b : ℤ) → neg_ℤ a *ℤ b ≡ neg_ℤ (a *ℤ b)
neg_times a b = opposite (neg_ℤ a *ℤ b) (a *ℤ b) (sym (add_times (neg_ℤ a) a b) ∙ ap (λ z. z *ℤ b) (nothing a) ∙ zero_times b)
  where
    nothing : (z : ℤ) → neg_ℤ z +ℤ z ≡ pos 0
    nothing z = omega (arith, ints)

    opposite : (x y : ℤ) → x +ℤ y ≡ pos 0 → x ≡ neg_ℤ y
    opposite x y h = omega (arith, ints)

pub sub_times : (a b k : ℤ) → (a -ℤ b) *ℤ k ≡ a *ℤ k -ℤ b *ℤ k
sub_times a b k = ap (λ z. z *ℤ k) (less a b) ∙ add_times a (neg_ℤ b) k ∙ ap (λ z. a *ℤ k +ℤ z) (neg_times b k) ∙ sym (less (a *ℤ k) (b *ℤ k))
  where
    less : (y z : ℤ) → y -ℤ z ≡ y +ℤ neg_ℤ z
    less y z = omega (arith, ints)

pub times_add : (k a b : ℤ) → k *ℤ (a +ℤ b) ≡ k *ℤ a +ℤ k *ℤ b
times_add k a b = *ℤ_comm k (a +ℤ b) ∙ add_times a b k ∙ ap (λ z. z +ℤ b *ℤ k) (*ℤ_comm a k) ∙ ap (λ z. k *ℤ a +ℤ z) (*ℤ_comm b k)

next : (n : ℕ) (b : ℤ) → pos (suc n) *ℤ b ≡ pos n *ℤ b +ℤ b
next n b = let e : pos (suc n) ≡ pos n +ℤ pos 1 = omega (arith, ints) in ap (λ z. z *ℤ b) e ∙ add_times (pos n) (pos 1) b ∙ ap (λ z. pos n *ℤ b +ℤ z) (one_times b)

natural_assoc : (n : ℕ) (b c : ℤ) → (pos n *ℤ b) *ℤ c ≡ pos n *ℤ (b *ℤ c)
natural_assoc zero b c = ap (λ z. z *ℤ c) (zero_times b) ∙ zero_times c ∙ sym (zero_times (b *ℤ c))
natural_assoc (suc n) b c =
    ap (λ z. z *ℤ c) (next n b) ∙ add_times (pos n *ℤ b) b c ∙ ap (λ z. z +ℤ b *ℤ c) (natural_assoc n b c) ∙ sym (next n (b *ℤ c))

pub times_assoc : (a b c : ℤ) → (a *ℤ b) *ℤ c ≡ a *ℤ (b *ℤ c)
times_assoc (pos n) b c = natural_assoc n b c
times_assoc (negsuc n) b c =
    let e : negsuc n ≡ neg_ℤ (pos (suc n)) = refl in
    ap (λ z. (z *ℤ b) *ℤ c) e ∙ ap (λ z. z *ℤ c) (neg_times (pos (suc n)) b) ∙ neg_times (pos (suc n) *ℤ b) c ∙ ap neg_ℤ (natural_assoc (suc n) b c)
    ∙ sym (neg_times (pos (suc n)) (b *ℤ c))
