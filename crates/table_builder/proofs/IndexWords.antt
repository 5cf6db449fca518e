-- The declarations of the words of index cells, one by one.
use Rattle.std.proofs.Common.{◌≡◌, ℕ, suc, ◌+◌, ◌-◌, ◌<◌, ◌∷◌, add-one, refl, arith}
use Rattle.instrumentation.specs.Names.{index_word}
use Rattle.instrumentation.specs.Pieces.{index_words_from}

pub index_words-more : (d n : ℕ) → d < n → index_words_from d (n - d) ≡ (index_word d, 0) ∷ index_words_from (d + 1) (n - (d + 1))
index_words-more d n below =
    let left : n - d ≡ suc (n - (d + 1)) = omega arith in
    rw (left, add-one) refl
