-- Tokens that lie in a text one behind another.
use Rattle.std.proofs.Common.{ℕ, zero, suc, ◌<◌, ◌≤◌, List, [], ◌∷◌, length, get_or, arith}
use Rattle.c_tree.specs.declared.token.Token.{Token}
use Rattle.c_lexer.specs.Answers.{AreInOrder}

ends_within : (ts : List Token) (from end : ℕ) → AreInOrder from ts end → from ≤ end
ends_within [] from end h = h
ends_within (x ∷ ts) from end h = omega (arith, h.0, h.1, ends_within ts x.end end h.2)

pub token_within : (ts : List Token) (from end : ℕ) → AreInOrder from ts end → (i : ℕ) (d : Token) → i < length ts → ((get_or ts i d).start ≤ (get_or ts i d).end) × ((get_or ts i d).end ≤ end)
token_within [] from end h i d below = absurd (let never : ⊥ = omega arith in never)
token_within (x ∷ ts) from end h zero d below = (h.1, ends_within ts x.end end h.2)
token_within (x ∷ ts) from end h (suc i) d below = token_within ts x.end end h.2 i d (omega arith)
