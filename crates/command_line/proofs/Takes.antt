-- What the command of each mode takes, and what it reads.
use Rattle.std.proofs.Common.{◌≡◌, ℕ, Bool, true, false, not, eqb, List, [], ◌∷◌, Some, None, codes, refl}
use Rattle.std.specs.Str.{bytes_eq}
use Rattle.clap.specs.Words.{Kinds, is_simple_and_free, takes, first_of, matches_of, fault_of}
use Rattle.clap.specs.Lexer.{strip_byte}
use Rattle.clap.proofs.OnLiterals.{clap_on_literals}
use Rattle.command_line.specs.Forms.{name_form, run_form}
use Rattle.command_line.specs.Orders.{is_name}

-- the word begins with no hyphen
pub record IsPlain (word : List ℕ) : Type 0 where
  pub stripped : strip_byte 45 word ≡ None
  pub other : bytes_eq word (45 ∷ 45 ∷ []) ≡ false

by_first : (byte : ℕ) (bytes : List ℕ) (hyphen : Bool) → hyphen ≡ eqb byte 45 → not hyphen ≡ true → IsPlain (byte ∷ bytes)
by_first byte bytes true is h = absurd (cc)
by_first byte bytes false is h = record { stripped = rw (← is) refl; other = rw (← is) refl }

pub plain : (word : List ℕ) → is_name word ≡ true → IsPlain word
plain [] h = absurd (cc)
plain (byte ∷ bytes) h = by_first byte bytes (eqb byte 45) refl h

pub is_fault : Kinds → Bool
is_fault [] = false
is_fault (k ∷ ks) = true

pub no_fault : (kinds : Kinds) → kinds ≡ [] → is_fault kinds ≡ true → ⊥
unfolding is_fault
no_fault [] e h = absurd (cc)
no_fault (k ∷ ks) e h = absurd (cc)

-- ---- a mode with one name

pub free_name : (mode : List ℕ) → is_simple_and_free (name_form mode) ≡ true
unfolding clap_on_literals
free_name mode = refl

pub takes_name : (mode name : List ℕ) → IsPlain name → takes (name_form mode) (mode ∷ name ∷ []) ≡ true
unfolding clap_on_literals
takes_name mode name p = simp (p.stripped, p.other) refl

pub name_read : (mode name : List ℕ) → IsPlain name → first_of (codes "name") (matches_of (name_form mode) (mode ∷ name ∷ [])) ≡ Some name
unfolding clap_on_literals
name_read mode name p = simp (p.stripped, p.other) refl

pub no_name : (mode : List ℕ) → is_fault (fault_of (name_form mode) (mode ∷ [])) ≡ true
unfolding clap_on_literals is_fault
no_name mode = refl

pub two_names : (mode one two : List ℕ) (rest : List (List ℕ)) → IsPlain one → IsPlain two → is_fault (fault_of (name_form mode) (mode ∷ one ∷ two ∷ rest)) ≡ true
unfolding clap_on_literals is_fault
two_names mode one two rest p q = simp (p.stripped, p.other) (simp (q.stripped, q.other) refl)

-- ---- a mode with two names and maybe a third

pub free_run : (mode : List ℕ) → is_simple_and_free (run_form mode) ≡ true
unfolding clap_on_literals
free_run mode = refl

pub takes_two : (mode one two : List ℕ) → IsPlain one → IsPlain two → takes (run_form mode) (mode ∷ one ∷ two ∷ []) ≡ true
unfolding clap_on_literals
takes_two mode one two p q = simp (p.stripped, p.other) (simp (q.stripped, q.other) refl)

pub takes_three : (mode one two three : List ℕ) → IsPlain one → IsPlain two → IsPlain three → takes (run_form mode) (mode ∷ one ∷ two ∷ three ∷ []) ≡ true
unfolding clap_on_literals
takes_three mode one two three p q r = simp (p.stripped, p.other) (simp (q.stripped, q.other) (simp (r.stripped, r.other) refl))

pub file_of_two : (mode one two : List ℕ) → IsPlain one → IsPlain two → first_of (codes "file") (matches_of (run_form mode) (mode ∷ one ∷ two ∷ [])) ≡ Some one
unfolding clap_on_literals
file_of_two mode one two p q = simp (p.stripped, p.other) (simp (q.stripped, q.other) refl)

pub data_of_two : (mode one two : List ℕ) → IsPlain one → IsPlain two → first_of (codes "data") (matches_of (run_form mode) (mode ∷ one ∷ two ∷ [])) ≡ Some two
unfolding clap_on_literals
data_of_two mode one two p q = simp (p.stripped, p.other) (simp (q.stripped, q.other) refl)

pub flip_of_two : (mode one two : List ℕ) → IsPlain one → IsPlain two → first_of (codes "flip") (matches_of (run_form mode) (mode ∷ one ∷ two ∷ [])) ≡ None
unfolding clap_on_literals
flip_of_two mode one two p q = simp (p.stripped, p.other) (simp (q.stripped, q.other) refl)

pub file_of_three : (mode one two three : List ℕ) → IsPlain one → IsPlain two → IsPlain three
    → first_of (codes "file") (matches_of (run_form mode) (mode ∷ one ∷ two ∷ three ∷ [])) ≡ Some one
unfolding clap_on_literals
file_of_three mode one two three p q r = simp (p.stripped, p.other) (simp (q.stripped, q.other) (simp (r.stripped, r.other) refl))

pub data_of_three : (mode one two three : List ℕ) → IsPlain one → IsPlain two → IsPlain three
    → first_of (codes "data") (matches_of (run_form mode) (mode ∷ one ∷ two ∷ three ∷ [])) ≡ Some two
unfolding clap_on_literals
data_of_three mode one two three p q r = simp (p.stripped, p.other) (simp (q.stripped, q.other) (simp (r.stripped, r.other) refl))

pub flip_of_three : (mode one two three : List ℕ) → IsPlain one → IsPlain two → IsPlain three
    → first_of (codes "flip") (matches_of (run_form mode) (mode ∷ one ∷ two ∷ three ∷ [])) ≡ Some three
unfolding clap_on_literals
flip_of_three mode one two three p q r = simp (p.stripped, p.other) (simp (q.stripped, q.other) (simp (r.stripped, r.other) refl))

pub nothing_to_run : (mode : List ℕ) → is_fault (fault_of (run_form mode) (mode ∷ [])) ≡ true
unfolding clap_on_literals is_fault
nothing_to_run mode = refl

pub one_to_run : (mode one : List ℕ) → IsPlain one → is_fault (fault_of (run_form mode) (mode ∷ one ∷ [])) ≡ true
unfolding clap_on_literals is_fault
one_to_run mode one p = simp (p.stripped, p.other) refl

pub four_to_run : (mode one two three four : List ℕ) (rest : List (List ℕ)) → IsPlain one → IsPlain two → IsPlain three → IsPlain four
    → is_fault (fault_of (run_form mode) (mode ∷ one ∷ two ∷ three ∷ four ∷ rest)) ≡ true
unfolding clap_on_literals is_fault
four_to_run mode one two three four rest p q r s = simp (p.stripped, p.other) (simp (q.stripped, q.other) (simp (r.stripped, r.other) (simp (s.stripped, s.other) refl)))
