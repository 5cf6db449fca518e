-- What is passed over, a piece at a time.
use Rattle.std.proofs.Common.{◌≡◌, ℕ, zero, suc, ◌+◌, ◌<◌, ◌≤◌, Bool, true, false, not, cond, eqb, length, subst, Option, Some, None, ◌⊎◌, inl, inr, [], ◌∷◌, drop, drop-drop, refl, sym, ap, ◌∙◌, arith}
use Rattle.c_tree.specs.Grammar.Tokens as g
use Rattle.c_tree.specs.Grammar.Tokens.{Text, is_gap, is_in_line, is_line_end, begins_comment, IsComment, IsOpen}
use Rattle.std.proofs.lemmas.Bool.{eqb-true}
use Rattle.std.proofs.lemmas.Bool.Decides.{nat_tests}
use Rattle.c_lexer.specs.declared.line.Over.{Over}
use Rattle.c_lexer.specs.declared.line.Over.TheVariants.{Blanks, Anything}
use Rattle.c_lexer.specs.Reading.{all_from, all_len, all_by, passed_len, closed_len, comment_len, goes_over}
use Rattle.c_lexer.proofs.Tests.{choose}
use Rattle.c_lexer.proofs.Comments.{comment_sound, comment_none, IsCommented, comment_complete, open_complete}

pub all_goes_on : (over : Over) (left : ℕ) (text : Text) → all_from over left text ≡ all_len over (drop left text)
all_goes_on over zero text = refl
all_goes_on over (suc left) [] = refl
all_goes_on over (suc left) (b ∷ z) = all_goes_on over left z

pub all_ends : (over : Over) (text : Text) → passed_len over text ≡ 0 → all_len over text ≡ 0
all_ends over [] h = refl
all_ends over (b ∷ z) h = ap (λ n. all_by n (λ left. all_from over left z)) h

pub all_more : (over : Over) (text : Text) (n : ℕ) → passed_len over text ≡ suc n → all_len over text ≡ suc n + all_len over (drop (suc n) text)
all_more over [] n h = absurd (let no : ⊥ = cc in no)
all_more over (b ∷ z) n h = ap (λ m. all_by m (λ left. all_from over left z)) h ∙ ap (λ m. suc n + m) (all_goes_on over n z)

-- one turn of the loop, over a piece of n bytes
pub all_turn : (over : Over) (text : Text) (at n : ℕ) → 0 < n → n ≡ passed_len over (drop at text) → all_len over (drop at text) ≡ n + all_len over (drop (at + n) text)
all_turn over text at zero some h = absurd (omega arith)
all_turn over text at (suc n) some h = all_more over (drop at text) n (sym h) ∙ ap (λ t. suc n + all_len over t) (drop-drop (suc n) at text)

-- ---- what stands there

closed_some : (o : Option ℕ) (n : ℕ) → closed_len o ≡ suc n → o ≡ Some (suc n)
closed_some None n h = absurd (let no : ⊥ = cc in no)
closed_some (Some m) n h = ap (λ k. Some k) h

one_is : (n : ℕ) → 1 ≡ suc n → n ≡ 0
one_is n h = omega arith

-- a comment, or a byte
abbrev pub IsPassed : Over → ℕ → Text → ℕ → Type 0
IsPassed over b z n = IsComment (b ∷ z) (drop n z) ⊎ ((begins_comment (b ∷ z) ≡ false) × (goes_over over b ≡ true) × (n ≡ 0))

abbrev pub IsEnd : Over → ℕ → Text → Type 0
IsEnd over b z = IsOpen (b ∷ z) ⊎ ((begins_comment (b ∷ z) ≡ false) × (goes_over over b ≡ false))

pub passed_sound : (over : Over) (b : ℕ) (z : Text) (n : ℕ) → passed_len over (b ∷ z) ≡ suc n → IsPassed over b z n
passed_sound over b z n h = choose (λ k. k ≡ suc n → IsPassed over b z n) (begins_comment (b ∷ z)) (closed_len (comment_len (b ∷ z))) (cond (goes_over over b) 1 0)
    (λ c e. inl (comment_sound (b ∷ z) (suc n) c (closed_some (comment_len (b ∷ z)) n e)).is)
    (λ c. choose (λ k. k ≡ suc n → IsPassed over b z n) (goes_over over b) 1 0 (λ o e. inr (c, o, one_is n e)) (λ o e. absurd (omega arith)))
    h

pub passed_none : (over : Over) (b : ℕ) (z : Text) → passed_len over (b ∷ z) ≡ 0 → IsEnd over b z
passed_none over b z h = choose (λ k. k ≡ 0 → IsEnd over b z) (begins_comment (b ∷ z)) (closed_len (comment_len (b ∷ z))) (cond (goes_over over b) 1 0)
    (λ c e. inl (unclosed c (comment_len (b ∷ z)) refl e))
    (λ c. choose (λ k. k ≡ 0 → IsEnd over b z) (goes_over over b) 1 0 (λ o e. absurd (omega arith)) (λ o e. inr (c, o)))
    h where
      unclosed : begins_comment (b ∷ z) ≡ true → (o : Option ℕ) → comment_len (b ∷ z) ≡ o → closed_len o ≡ 0 → IsOpen (b ∷ z)
      unclosed c None i e = comment_none (b ∷ z) c i
      unclosed c (Some m) i e = absurd (omega (arith, (comment_sound (b ∷ z) m c i).some))

-- ---- within the text

closed_within : (text : Text) → begins_comment text ≡ true → closed_len (comment_len text) ≤ length text
closed_within text c = by (comment_len text) refl where
  by : (o : Option ℕ) → comment_len text ≡ o → closed_len o ≤ length text
  by None i = omega arith
  by (Some m) i = (comment_sound text m c i).fits

pub passed_within : (over : Over) (text : Text) → passed_len over text ≤ length text
passed_within over [] = omega arith
passed_within over (b ∷ z) = choose (λ k. k ≤ length (b ∷ z)) (begins_comment (b ∷ z)) (closed_len (comment_len (b ∷ z))) (cond (goes_over over b) 1 0)
    (λ c. closed_within (b ∷ z) c)
    (λ c. choose (λ k. k ≤ length (b ∷ z)) (goes_over over b) 1 0 (λ o. omega arith) (λ o. omega arith))

all_from_within : (over : Over) (left : ℕ) (text : Text) → left ≤ length text → left + all_from over left text ≤ length text
all_from_within over left [] h = omega arith
all_from_within over (suc left) (b ∷ z) h = omega (arith, all_from_within over left z (omega arith))
all_from_within over zero (b ∷ z) h = by (passed_len over (b ∷ z)) (passed_within over (b ∷ z)) (λ n fits. all_from_within over n z fits) where
  by : (n : ℕ) → n ≤ length (b ∷ z) → ((n : ℕ) → n ≤ length z → n + all_from over n z ≤ length z) → 0 + all_by n (λ left. all_from over left z) ≤ length (b ∷ z)
  by zero fits go = omega arith
  by (suc n) fits go = omega (arith, go n (omega arith))

pub all_within : (over : Over) (text : Text) → all_len over text ≤ length text
all_within over text = omega (arith, all_from_within over 0 text (omega arith))

-- ---- gaps

-- what follows all that is passed over
abbrev pub behind_all : Over → Text → Text
behind_all over text = drop (all_len over text) text

drop_more : (n m : ℕ) (b : ℕ) (z : Text) → drop m (drop n z) ≡ drop (suc n + m) (b ∷ z)
drop_more n m b z = let e : suc (n + m) ≡ suc n + m = omega arith in drop-drop m n z ∙ ap (λ k. drop k (b ∷ z)) e

behind_some : (over : Over) (b : ℕ) (z : Text) (n : ℕ) → passed_len over (b ∷ z) ≡ suc n → behind_all over (b ∷ z) ≡ behind_all over (drop n z)
behind_some over b z n h = ap (λ k. drop k (b ∷ z)) (all_more over (b ∷ z) n h) ∙ sym (drop_more n (all_len over (drop n z)) b z)

behind_none : (over : Over) (text : Text) → passed_len over text ≡ 0 → behind_all over text ≡ text
behind_none over text h = ap (λ k. drop k text) (all_ends over text h)

one_gap : (b : ℕ) (z : Text) (n : ℕ) (rest : Text) → IsPassed Blanks b z n → g.IsGap (drop n z) rest → g.IsGap (b ∷ z) rest
one_gap b z n rest (inl c) more = g.comment_gap c more
one_gap b z n rest (inr p) more = g.blank_gap p.1 (subst (λ k. g.IsGap (drop k z) rest) p.2 more)

gap_at : (left : ℕ) (text : Text) → g.IsGap (drop left text) (behind_all Blanks (drop left text))
gap_at zero [] = g.no_gap
gap_at (suc left) [] = g.no_gap
gap_at (suc left) (b ∷ z) = gap_at left z
gap_at zero (b ∷ z) = by (passed_len Blanks (b ∷ z)) refl (λ n. gap_at n z) where
  by : (n : ℕ) → passed_len Blanks (b ∷ z) ≡ n → ((n : ℕ) → g.IsGap (drop n z) (behind_all Blanks (drop n z))) → g.IsGap (b ∷ z) (behind_all Blanks (b ∷ z))
  by zero e go = subst (λ r. g.IsGap (b ∷ z) r) (sym (behind_none Blanks (b ∷ z) e)) g.no_gap
  by (suc n) e go = subst (λ r. g.IsGap (b ∷ z) r) (sym (behind_some Blanks b z n e)) (one_gap b z n (behind_all Blanks (drop n z)) (passed_sound Blanks b z n e) (go n))

pub gap_sound : (text : Text) → g.IsGap text (behind_all Blanks text)
gap_sound text = gap_at 0 text

blank_no_comment : (b : ℕ) (z : Text) → is_gap b ≡ true → begins_comment (b ∷ z) ≡ false
blank_no_comment b z h = let e : eqb 47 b ≡ false = grind (arith, nat_tests) in rw e refl

pub passed_blank : (b : ℕ) (z : Text) → is_gap b ≡ true → passed_len Blanks (b ∷ z) ≡ 1
passed_blank b z h = rw (blank_no_comment b z h, h) refl

pub passed_comment : (over : Over) (text rest : Text) (c : IsCommented text rest) → passed_len over text ≡ suc c.less
passed_comment over [] rest c = absurd (let no : false ≡ true = c.begin in let more : ⊥ = cc in more)
passed_comment over (b ∷ z) rest c = rw (c.begin, c.is) refl

behind_comment : (over : Over) (text rest : Text) → IsCommented text rest → behind_all over text ≡ behind_all over rest
behind_comment over [] rest c = absurd (let no : false ≡ true = c.begin in let more : ⊥ = cc in more)
behind_comment over (b ∷ z) rest c = behind_some over b z c.less (passed_comment over (b ∷ z) rest c) ∙ ap (behind_all over) c.tail

pub gap_complete : (text rest : Text) → g.IsGap text rest → passed_len Blanks rest ≡ 0 → behind_all Blanks text ≡ rest
gap_complete text rest g.no_gap h = behind_none Blanks text h
gap_complete (b ∷ z) rest (g.blank_gap i more) h = behind_some Blanks b z 0 (passed_blank b z i) ∙ gap_complete z rest more h
gap_complete text rest (g.comment_gap {after = after} c more) h = behind_comment Blanks text after (comment_complete text after c) ∙ gap_complete after rest more h

-- ---- lines that are skipped

one_skip : (b : ℕ) (z : Text) (n : ℕ) (rest : Text) → IsPassed Anything b z n → g.Skips (drop n z) rest → g.Skips (b ∷ z) rest
one_skip b z n rest (inl c) more = g.past_comment c more
one_skip b z n rest (inr p) more = g.past_byte p.1 p.0 (subst (λ k. g.Skips (drop k z) rest) p.2 more)

no_skip : (b : ℕ) (z : Text) → IsEnd Anything b z → g.Skips (b ∷ z) (b ∷ z)
no_skip b z (inl o) = g.at_open o
no_skip b z (inr e) = g.at_line_end (feed (eqb b 10) e.1) where
  feed : (v : Bool) → not v ≡ false → v ≡ true
  feed true f = refl
  feed false f = absurd (let no : ⊥ = cc in no)

skips_at : (left : ℕ) (text : Text) → g.Skips (drop left text) (behind_all Anything (drop left text))
skips_at zero [] = g.at_line_end refl
skips_at (suc left) [] = g.at_line_end refl
skips_at (suc left) (b ∷ z) = skips_at left z
skips_at zero (b ∷ z) = by (passed_len Anything (b ∷ z)) refl (λ n. skips_at n z) where
  by : (n : ℕ) → passed_len Anything (b ∷ z) ≡ n → ((n : ℕ) → g.Skips (drop n z) (behind_all Anything (drop n z))) → g.Skips (b ∷ z) (behind_all Anything (b ∷ z))
  by zero e go = subst (λ r. g.Skips (b ∷ z) r) (sym (behind_none Anything (b ∷ z) e)) (no_skip b z (passed_none Anything b z e))
  by (suc n) e go = subst (λ r. g.Skips (b ∷ z) r) (sym (behind_some Anything b z n e)) (one_skip b z n (behind_all Anything (drop n z)) (passed_sound Anything b z n e) (go n))

pub skips_sound : (text : Text) → g.Skips text (behind_all Anything text)
skips_sound text = skips_at 0 text

-- nothing is passed over at the end of a line
pub passed_end : (over : Over) (text : Text) → is_line_end text ≡ true → passed_len over text ≡ 0
passed_end over [] h = refl
passed_end over (b ∷ z) h = let e : b ≡ 10 = eqb-true b 10 h in subst (λ k. passed_len over (k ∷ z) ≡ 0) (sym e) (by over) where
  by : (over : Over) → passed_len over (10 ∷ z) ≡ 0
  by Blanks = refl
  by Anything = refl

passed_open : (over : Over) (text : Text) → (begins_comment text ≡ true) × (comment_len text ≡ None) → passed_len over text ≡ 0
passed_open over [] h = refl
passed_open over (b ∷ z) h = rw (h.0, h.1) refl

passed_byte : (b : ℕ) (z : Text) → is_in_line b ≡ true → begins_comment (b ∷ z) ≡ false → passed_len Anything (b ∷ z) ≡ 1
passed_byte b z i c = rw (c, i) refl

pub skips_complete : (text rest : Text) → g.Skips text rest → behind_all Anything text ≡ rest
skips_complete text rest (g.at_line_end e) = behind_none Anything text (passed_end Anything text e)
skips_complete text rest (g.at_open o) = behind_none Anything text (passed_open Anything text (open_complete text o))
skips_complete text rest (g.past_comment {after = after} c more) = behind_comment Anything text after (comment_complete text after c) ∙ skips_complete after rest more
skips_complete (b ∷ z) rest (g.past_byte i c more) = behind_some Anything b z 0 (passed_byte b z i c) ∙ skips_complete z rest more
