-- How many words a mode has: as many as it takes, or there is a fault and the words are none of it.
use Rattle.std.proofs.Common.{◌≡◌, ◌⊎◌, ℕ, true, List, [], ◌∷◌, Option, Some, None, codes, refl, sym, subst, inl, inr}
use Rattle.std.specs.Prelude.{◌&&◌}
use Rattle.std.specs.List.{list_all}
use Rattle.clap.specs.Words.{takes, first_of, matches_of, fault_of}
use Rattle.command_line.specs.Forms.{name_form, run_form, IsMode, IsOne, IsRun, IsNotOne, IsNotRun}
use Rattle.command_line.specs.Orders.{is_name}
use Rattle.command_line.proofs.Both.{first_of_both, rest_of_both}
use Rattle.command_line.proofs.Takes.{plain, is_fault, no_fault, takes_name, name_read, no_name, two_names, takes_two, takes_three, file_of_two, data_of_two, flip_of_two, file_of_three, data_of_three, flip_of_three, nothing_to_run, one_to_run, four_to_run}

-- ---- one name

pub record TakesName (mode : List ℕ) (words : List (List ℕ)) : Type 0 where
  pub name : List ℕ
  pub one : IsOne words name
  pub taken : takes (name_form mode) words ≡ true
  pub read : first_of (codes "name") (matches_of (name_form mode) words) ≡ Some name

pub record FailsName (mode : List ℕ) (words : List (List ℕ)) : Type 0 where
  pub fault : is_fault (fault_of (name_form mode) words) ≡ true
  pub not_one : IsNotOne words

by_names : (mode : List ℕ) (names : List (List ℕ)) → list_all is_name names ≡ true → TakesName mode (mode ∷ names) ⊎ FailsName mode (mode ∷ names)
by_names mode [] h = inr (record { fault = no_name mode; not_one = λ name is. (let no : ⊥ = cc in no) })
by_names mode (name ∷ []) h =
    let p = plain name (first_of_both (is_name name) true h) in inl (record { name = name; one = (mode, refl); taken = takes_name mode name p; read = name_read mode name p })
by_names mode (one ∷ two ∷ rest) h =
    let p = plain one (first_of_both (is_name one) (is_name two && list_all is_name rest) h) in
    let later = rest_of_both (is_name one) (is_name two && list_all is_name rest) h in
    let q = plain two (first_of_both (is_name two) (list_all is_name rest) later) in
    inr (record { fault = two_names mode one two rest p q; not_one = λ name is. (let same = is.1 in let no : ⊥ = cc in no) })

pub names_counted : (mode : List ℕ) (words : List (List ℕ)) → IsMode words mode → TakesName mode words ⊎ FailsName mode words
names_counted mode words h = subst (λ ws. TakesName mode ws ⊎ FailsName mode ws) (sym h.parts) (by_names mode h.names h.are_names)

pub name_taken : (mode : List ℕ) (words : List (List ℕ)) → IsMode words mode → fault_of (name_form mode) words ≡ [] → TakesName mode words
name_taken mode words h none = by (names_counted mode words h) where
  by : TakesName mode words ⊎ FailsName mode words → TakesName mode words
  by (inl takes) = takes
  by (inr fails) = absurd (no_fault (fault_of (name_form mode) words) none fails.fault)

pub name_refused : (mode : List ℕ) (words : List (List ℕ)) → IsMode words mode → (takes (name_form mode) words ≡ true → ⊥) → IsNotOne words
name_refused mode words h refused = by (names_counted mode words h) where
  by : TakesName mode words ⊎ FailsName mode words → IsNotOne words
  by (inl takes) = λ name is. refused takes.taken
  by (inr fails) = fails.not_one

-- ---- two names and maybe a third

pub record TakesRun (mode : List ℕ) (words : List (List ℕ)) : Type 0 where
  pub file : List ℕ
  pub input : List ℕ
  pub flip : Option (List ℕ)
  pub run : IsRun words file input flip
  pub taken : takes (run_form mode) words ≡ true
  pub file_read : first_of (codes "file") (matches_of (run_form mode) words) ≡ Some file
  pub data_read : first_of (codes "data") (matches_of (run_form mode) words) ≡ Some input
  pub flip_read : first_of (codes "flip") (matches_of (run_form mode) words) ≡ flip

pub record FailsRun (mode : List ℕ) (words : List (List ℕ)) : Type 0 where
  pub fault : is_fault (fault_of (run_form mode) words) ≡ true
  pub not_run : IsNotRun words

too_few : (mode : List ℕ) (file input : List ℕ) (flip : Option (List ℕ)) → IsRun (mode ∷ []) file input flip → ⊥
too_few mode file input flip is = let same = is.1 in cc

one_short : (mode one : List ℕ) (file input : List ℕ) (flip : Option (List ℕ)) → IsRun (mode ∷ one ∷ []) file input flip → ⊥
one_short mode one file input flip is = let same = is.1 in cc

too_many : (mode one two three four : List ℕ) (rest : List (List ℕ)) (file input : List ℕ) (flip : Option (List ℕ)) → IsRun (mode ∷ one ∷ two ∷ three ∷ four ∷ rest) file input flip → ⊥
too_many mode one two three four rest file input None is = let same = is.1 in cc
too_many mode one two three four rest file input (Some f) is = let same = is.1 in cc

by_files : (mode : List ℕ) (names : List (List ℕ)) → list_all is_name names ≡ true → TakesRun mode (mode ∷ names) ⊎ FailsRun mode (mode ∷ names)
by_files mode [] h = inr (record { fault = nothing_to_run mode; not_run = too_few mode })
by_files mode (one ∷ []) h = inr (record { fault = one_to_run mode one (plain one (first_of_both (is_name one) true h)); not_run = one_short mode one })
by_files mode (one ∷ two ∷ []) h =
    let p = plain one (first_of_both (is_name one) (is_name two && true) h) in
    let later = rest_of_both (is_name one) (is_name two && true) h in
    let q = plain two (first_of_both (is_name two) true later) in inl (record {
      file = one;
      input = two;
      flip = None;
      run = (mode, refl);
      taken = takes_two mode one two p q;
      file_read = file_of_two mode one two p q;
      data_read = data_of_two mode one two p q;
      flip_read = flip_of_two mode one two p q;
    })
by_files mode (one ∷ two ∷ three ∷ []) h =
    let p = plain one (first_of_both (is_name one) (is_name two && (is_name three && true)) h) in
    let later = rest_of_both (is_name one) (is_name two && (is_name three && true)) h in
    let q = plain two (first_of_both (is_name two) (is_name three && true) later) in
    let last = rest_of_both (is_name two) (is_name three && true) later in
    let r = plain three (first_of_both (is_name three) true last) in inl (record {
      file = one;
      input = two;
      flip = Some three;
      run = (mode, refl);
      taken = takes_three mode one two three p q r;
      file_read = file_of_three mode one two three p q r;
      data_read = data_of_three mode one two three p q r;
      flip_read = flip_of_three mode one two three p q r;
    })
by_files mode (one ∷ two ∷ three ∷ four ∷ rest) h =
    let p = plain one (first_of_both (is_name one) (is_name two && (is_name three && (is_name four && list_all is_name rest))) h) in
    let after_one = rest_of_both (is_name one) (is_name two && (is_name three && (is_name four && list_all is_name rest))) h in
    let q = plain two (first_of_both (is_name two) (is_name three && (is_name four && list_all is_name rest)) after_one) in
    let after_two = rest_of_both (is_name two) (is_name three && (is_name four && list_all is_name rest)) after_one in
    let r = plain three (first_of_both (is_name three) (is_name four && list_all is_name rest) after_two) in
    let after_three = rest_of_both (is_name three) (is_name four && list_all is_name rest) after_two in
    let s = plain four (first_of_both (is_name four) (list_all is_name rest) after_three) in
    inr (record { fault = four_to_run mode one two three four rest p q r s; not_run = too_many mode one two three four rest })

pub files_counted : (mode : List ℕ) (words : List (List ℕ)) → IsMode words mode → TakesRun mode words ⊎ FailsRun mode words
files_counted mode words h = subst (λ ws. TakesRun mode ws ⊎ FailsRun mode ws) (sym h.parts) (by_files mode h.names h.are_names)

pub run_taken : (mode : List ℕ) (words : List (List ℕ)) → IsMode words mode → fault_of (run_form mode) words ≡ [] → TakesRun mode words
run_taken mode words h none = by (files_counted mode words h) where
  by : TakesRun mode words ⊎ FailsRun mode words → TakesRun mode words
  by (inl takes) = takes
  by (inr fails) = absurd (no_fault (fault_of (run_form mode) words) none fails.fault)

pub run_refused : (mode : List ℕ) (words : List (List ℕ)) → IsMode words mode → (takes (run_form mode) words ≡ true → ⊥) → IsNotRun words
run_refused mode words h refused = by (files_counted mode words h) where
  by : TakesRun mode words ⊎ FailsRun mode words → IsNotRun words
  by (inl takes) = λ file input flip is. refused takes.taken
  by (inr fails) = fails.not_run
