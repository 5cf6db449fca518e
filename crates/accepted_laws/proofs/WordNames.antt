-- The names that a text adds are names of the grammar.
use Rattle.std.proofs.Common.{◌≡◌, ℕ, ◌≤◌, ◌<◌, ◌^◌, true, false, List, [], ◌∷◌, length, refl, arith, le-leb, decimal}
use Rattle.std.specs.List.{list_all}
use Rattle.std.specs.Str.Parse.{AllDigits}
use Rattle.std.proofs.lemmas.Str.Parse.{digit_from_value}
use Rattle.std.proofs.lemmas.Bool.{and_from, and_parts, or_left, or_right}
use Rattle.std.proofs.lemmas.Fmt.{decimal_is_IsNumeral, length-decimal-le}
use Rattle.c_tree.specs.Plain.{Word}
use Rattle.c_tree.specs.Reserved.{is_letter, is_digit, is_word_byte, is_word}
use Rattle.instrumentation.specs.Names.{register, result, count, definition_total, use_total, coordinate, pass_variable, active, counter, written, index_word, current, counts, function_name}
use Rattle.acceptance.specs.Trees.{IsNameIn}

pub loosen : (x : Word) → IsNameIn false x → IsNameIn true x
loosen x h = (let s : length x ≤ 255 = h.short in record { word = h.word; free = h.free; short = omega arith })

digits_fine : (ds : List ℕ) → AllDigits 10 ds → list_all is_word_byte ds ≡ true
digits_fine [] h = refl
digits_fine (c ∷ cs) h =
    let r = digit_from_value c h.0 in
    let b : is_digit c ≡ true = and_from _ _ (le-leb 48 c (omega arith)) (le-leb c 57 (omega arith)) in
    and_from _ _ (or_right (is_letter c) (is_digit c) b) (digits_fine cs h.1)

decimal_fine : (n : ℕ) → n < 2 ^ 64 → list_all is_word_byte (decimal n) ≡ true
decimal_fine n h = digits_fine (decimal n) (decimal_is_IsNumeral n h).0.1

decimal_short : (n : ℕ) → n < 2 ^ 64 → length (decimal n) ≤ 20
decimal_short n h = length-decimal-le 20 n (omega arith) (omega arith) h

pub register_name : (j : ℕ) → j < 2 ^ 64 → IsNameIn true (register j)
unfolding register
register_name j h = (let s = decimal_short j h in record { word = decimal_fine j h; free = refl; short = omega arith })

pub definition_name : (j : ℕ) → j < 2 ^ 64 → IsNameIn true (definition_total j)
unfolding definition_total
definition_name j h = (let s = decimal_short j h in record { word = decimal_fine j h; free = refl; short = omega arith })

pub use_name : (j : ℕ) → j < 2 ^ 64 → IsNameIn true (use_total j)
unfolding use_total
use_name j h = (let s = decimal_short j h in record { word = decimal_fine j h; free = refl; short = omega arith })

pub coordinate_name : (j : ℕ) → j < 2 ^ 64 → IsNameIn true (coordinate j)
unfolding coordinate
coordinate_name j h = (let s = decimal_short j h in record { word = decimal_fine j h; free = refl; short = omega arith })

pub variable_name : (j : ℕ) → j < 2 ^ 64 → IsNameIn true (pass_variable j)
unfolding pass_variable
variable_name j h = (let s = decimal_short j h in record { word = decimal_fine j h; free = refl; short = omega arith })

pub written_name : (j : ℕ) → j < 2 ^ 64 → IsNameIn true (written j)
unfolding written
written_name j h = (let s = decimal_short j h in record { word = decimal_fine j h; free = refl; short = omega arith })

pub index_name : (j : ℕ) → j < 2 ^ 64 → IsNameIn true (index_word j)
unfolding index_word
index_name j h = (let s = decimal_short j h in record { word = decimal_fine j h; free = refl; short = omega arith })

pub current_name : (j : ℕ) → j < 2 ^ 64 → IsNameIn true (current j)
unfolding current
current_name j h = (let s = decimal_short j h in record { word = decimal_fine j h; free = refl; short = omega arith })

pub counts_name : (j : ℕ) → j < 2 ^ 64 → IsNameIn true (counts j)
unfolding counts
counts_name j h = (let s = decimal_short j h in record { word = decimal_fine j h; free = refl; short = omega arith })

pub result_name : IsNameIn true result
unfolding result
result_name = record { word = refl; free = refl; short = omega arith }

pub count_name : IsNameIn true count
unfolding count
count_name = record { word = refl; free = refl; short = omega arith }

pub active_name : IsNameIn true active
unfolding active
active_name = record { word = refl; free = refl; short = omega arith }

pub counter_name : IsNameIn true counter
unfolding counter
counter_name = record { word = refl; free = refl; short = omega arith }

word_bytes : (x : Word) → is_word x ≡ true → list_all is_word_byte x ≡ true
word_bytes [] h = refl
word_bytes (b ∷ bs) h =
    let p : (is_letter b ≡ true) × (list_all is_word_byte bs ≡ true) = and_parts _ _ h in
    and_from _ _ (or_left (is_letter b) (is_digit b) p.0) p.1

-- a source's function and `bal_fn_` before it
pub text_name : (x : Word) → IsNameIn false x → IsNameIn true (function_name x)
unfolding function_name
text_name x h = (let s : length x ≤ 255 = h.short in record { word = word_bytes x h.word; free = refl; short = omega arith })
