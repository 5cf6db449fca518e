-- The declarations of the words that loads go to, one by one.
use Rattle.std.proofs.Common.{◌≡◌, ℕ, suc, ◌+◌, ◌-◌, ◌<◌, ◌∷◌, add-one, refl, arith}
use Rattle.instrumentation.specs.Names.{register}
use Rattle.instrumentation.specs.Guarded.{register_words}

pub register_words-more : (j n : ℕ) → j < n → register_words j (n - j) ≡ (register j, 0) ∷ register_words (j + 1) (n - (j + 1))
register_words-more j n below =
    let left : n - j ≡ suc (n - (j + 1)) = omega arith in
    rw (left, add-one) refl
