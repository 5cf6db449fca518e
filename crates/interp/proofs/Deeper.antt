-- The values at hand, one place further back.
use Rattle.std.proofs.Common.{◌≡◌, ℕ, zero, suc, ◌+◌, ◌<◌, List, [], ◌∷◌, ◌++◌, length, take, drop, ℤ, refl, arith}
use Rattle.std.specs.List.{copy_within}

shifted : (a b c d e g : ℤ) (n : ℕ) (f : List ℤ) → n < 6
    → drop 1 (take (n + 1) (a ∷ a ∷ b ∷ c ∷ d ∷ e ∷ []) ++ f) ≡ take n (a ∷ b ∷ c ∷ d ∷ e ∷ g ∷ []) ++ f
shifted a b c d e g zero f below = refl
shifted a b c d e g (suc zero) f below = refl
shifted a b c d e g (suc (suc zero)) f below = refl
shifted a b c d e g (suc (suc (suc zero))) f below = refl
shifted a b c d e g (suc (suc (suc (suc zero)))) f below = refl
shifted a b c d e g (suc (suc (suc (suc (suc zero))))) f below = refl
shifted a b c d e g (suc (suc (suc (suc (suc (suc n)))))) f below = absurd (omega (arith, below))

pub further_back : (near : List ℤ) (n : ℕ) (f : List ℤ) → length near ≡ 6 → n < 6
    → drop 1 (take (n + 1) (copy_within near 0 5 1) ++ f) ≡ take n near ++ f
further_back (a ∷ b ∷ c ∷ d ∷ e ∷ g ∷ []) n f six below = shifted a b c d e g n f below
further_back [] n f six below = absurd (omega (arith, six))
further_back (a ∷ []) n f six below = absurd (omega (arith, six))
further_back (a ∷ b ∷ []) n f six below = absurd (omega (arith, six))
further_back (a ∷ b ∷ c ∷ []) n f six below = absurd (omega (arith, six))
further_back (a ∷ b ∷ c ∷ d ∷ []) n f six below = absurd (omega (arith, six))
further_back (a ∷ b ∷ c ∷ d ∷ e ∷ []) n f six below = absurd (omega (arith, six))
further_back (a ∷ b ∷ c ∷ d ∷ e ∷ g ∷ h ∷ rest) n f six below = absurd (omega (arith, six))
