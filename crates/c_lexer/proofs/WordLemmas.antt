-- Words at the front of a text.
use Rattle.std.proofs.Common.{◌≡◌, ℕ, one-add, Bool, true, false, not, cond, eqb, [], ◌∷◌, ◌++◌, length, drop, refl, sym, ap, ◌∙◌, subst, ◌⊎◌, inl, inr, arith}
use Rattle.std.proofs.lemmas.Bool.Decides.{nat_tests}
use Rattle.std.proofs.lemmas.List.Folds.{length-prefix_len}
use Rattle.std.proofs.Math.Seq.{drop-append_seam}
use Rattle.std.specs.List.{list_all}
use Rattle.std.specs.Str.{bytes_eq}
use Rattle.c_tree.specs.Reserved.{is_letter, is_digit, is_word, is_word_byte}
use Rattle.c_tree.specs.Grammar.Tokens.{Text, is_gap, is_apart, is_line_end, HasWord}
use Rattle.text_pieces.specs.Fronts.{run, behind}
use Rattle.text_pieces.proofs.Runs.{both, begins, run-behind, run_passes, behind_stops, run-front}
use Rattle.c_lexer.specs.declared.line.Over.TheVariants.{Blanks}
use Rattle.c_lexer.specs.Reading.{first_word, passed_len}
use Rattle.c_lexer.proofs.Tests.{either, choose, same_bytes}
use Rattle.c_lexer.proofs.Forms.{letter_word, letter_no_digit}

pub apart_stops : (rest : Text) → is_apart rest ≡ true → begins is_word_byte rest ≡ false
apart_stops [] h = refl
apart_stops (b ∷ z) h = by (is_word_byte b) h where
  by : (v : Bool) → not v ≡ true → v ≡ false
  by true e = absurd (let no : ⊥ = cc in no)
  by false e = refl

pub stops_apart : (rest : Text) → begins is_word_byte rest ≡ false → is_apart rest ≡ true
stops_apart [] h = refl
stops_apart (b ∷ z) h = rw h refl

-- ---- a word that stands there is read

pub record IsRead (x text rest : Text) : Type 0 where
  pub word : first_word text ≡ x
  pub tail : drop (length x) text ≡ rest
  pub no_gap : passed_len Blanks text ≡ 0
  pub no_end : is_line_end text ≡ false

letter_no_blank : (b : ℕ) (z : Text) → is_letter b ≡ true → passed_len Blanks (b ∷ z) ≡ 0
letter_no_blank b z h =
    let e : eqb 47 b ≡ false = grind (arith, nat_tests) in
    let f : is_gap b ≡ false = grind (arith, nat_tests) in
    rw (e, f) refl

letter_no_end : (b : ℕ) → is_letter b ≡ true → eqb b 10 ≡ false
letter_no_end b h = grind (arith, nat_tests)

word_front : (x rest : Text) → is_word x ≡ true → is_apart rest ≡ true → IsRead x (x ++ rest) rest
word_front [] rest h a = absurd (let no : ⊥ = cc in no)
word_front (b ∷ x) rest h a =
    let (letter, others) = both (is_letter b) (list_all is_word_byte x) h in
    let all : list_all is_word_byte (b ∷ x) ≡ true = rw (letter_word b letter) others in
    record {
      word = ap (λ v. cond v [] (run is_word_byte (b ∷ (x ++ rest)))) (letter_no_digit b letter) ∙ run-front is_word_byte (b ∷ x) rest all (apart_stops rest a);
      tail = drop-append_seam (b ∷ x) rest;
      no_gap = letter_no_blank b (x ++ rest) letter;
      no_end = letter_no_end b letter;
    }

pub word_is_read : (x text rest : Text) → is_word x ≡ true → HasWord x text rest → IsRead x text rest
word_is_read x text rest h w = subst (λ z. IsRead x z rest) (sym w.bytes) (word_front x rest h w.apart)

-- ---- a word that is read stands there

-- the front of a text that begins with a letter
pub run_is_word : (b : ℕ) (z : Text) → is_letter b ≡ true → is_word (run is_word_byte (b ∷ z)) ≡ true
run_is_word b z h = rw (letter_word b h, one-add, h) (run_passes is_word_byte z)

run_some : (b : ℕ) (z : Text) → eqb (length (run is_word_byte (b ∷ z))) 0 ≡ false → is_word_byte b ≡ true
run_some b z = by (is_word_byte b) refl where
  by : (v : Bool) → is_word_byte b ≡ v → eqb (length (run is_word_byte (b ∷ z))) 0 ≡ false → is_word_byte b ≡ true
  by true e h = e
  by false e h =
      let none : run is_word_byte (b ∷ z) ≡ [] = rw e refl in
      let wrong : eqb (length (run is_word_byte (b ∷ z))) 0 ≡ true = ap (λ (y : Text). eqb (length y) 0) none in
      absurd (let no : ⊥ = cc in no)

pub letter_left : (b : ℕ) → is_word_byte b ≡ true → is_digit b ≡ false → is_letter b ≡ true
letter_left b w d = by (either (is_letter b) (is_digit b) w) where
  by : (is_letter b ≡ true) ⊎ (is_digit b ≡ true) → is_letter b ≡ true
  by (inl e) = e
  by (inr e) = absurd (let no : ⊥ = cc in no)

run_has_word : (text : Text) → HasWord (run is_word_byte text) text (drop (length (run is_word_byte text)) text)
run_has_word text =
    let e : behind is_word_byte text ≡ drop (length (run is_word_byte text)) text = ap (λ n. drop n text) (sym (length-prefix_len is_word_byte text)) in
    record {
      bytes = run-behind is_word_byte text ∙ ap (λ y. run is_word_byte text ++ y) e;
      apart = subst (λ y. is_apart y ≡ true) e (stops_apart (behind is_word_byte text) (behind_stops is_word_byte text));
    }

pub record Stands (x text : Text) : Type 0 where
  pub is : is_word x ≡ true
  pub has : HasWord x text (drop (length x) text)

pub word_stands : (text : Text) → eqb (length (first_word text)) 0 ≡ false → Stands (first_word text) text
word_stands [] h = absurd (let no : ⊥ = cc in no)
word_stands (b ∷ z) h = choose (λ (y : Text). eqb (length y) 0 ≡ false → Stands y (b ∷ z)) (is_digit b) [] (run is_word_byte (b ∷ z))
    (λ d e. absurd (let no : ⊥ = cc in no))
    (λ d e. record { is = run_is_word b z (letter_left b (run_some b z e) d); has = run_has_word (b ∷ z) })
    h

pub some_word : (w : Text) → is_word w ≡ true → eqb (length w) 0 ≡ false
some_word [] h = absurd (let no : ⊥ = cc in no)
some_word (b ∷ w) h = grind (arith, nat_tests)

pub known_word : (w text : Text) → is_word w ≡ true → bytes_eq (first_word text) w ≡ true → HasWord w text (drop (length w) text)
known_word w text h e =
    let same : first_word text ≡ w = same_bytes (first_word text) w e in
    subst (λ x. HasWord x text (drop (length x) text)) same (word_stands text (subst (λ x. eqb (length x) 0 ≡ false) (sym same) (some_word w h))).has
