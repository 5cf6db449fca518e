-- Fronts of a text.
use Rattle.std.proofs.Common.{◌≡◌, ◌≤◌, true, [], ◌∷◌, arith, slice_index}
use Rattle.c_tree.specs.Reserved.{is_word_byte}
use Rattle.c_tree.specs.Grammar.Tokens.{Text}
use Rattle.c_lexer.specs.Reading.{word_len}

pub word_len_some : (text : Text) → is_word_byte (slice_index text 0) ≡ true → 1 ≤ word_len text
word_len_some [] h = absurd (let no : ⊥ = cc in no)
word_len_some (b ∷ z) h = rw h (omega arith)
