-- Cells, a turn of the loop at a time.
use Rattle.std.proofs.Common.{◌≡◌, ℕ, zero, suc, ◌+◌, ◌-◌, ◌<◌, List, [], ◌∷◌, ◌++◌, length, true, false, nat_eq, Option, Some, None, option_and_then, refl, sym, ap, ◌∙◌, arith, append_assoc}
use Rattle.std.proofs.lemmas.Bool.Decides.{nat_tests}
use Rattle.text_pieces.specs.Fronts.{run, behind}
use Rattle.text_pieces.specs.Numbers.{decimal_in}
use Rattle.data_file.specs.Meaning.{is_gap}
use Rattle.data_file.specs.Reading.{is_solid, more_by, cells_in, cells_of}

-- what was read before, and what is still read
abbrev pub before : List ℕ → Option (List ℕ) → Option (List ℕ)
before front read = option_and_then (λ (ns : List ℕ). Some (front ++ ns)) read

regroup : (front : List ℕ) (n : ℕ) (read : Option (List ℕ)) → before front (option_and_then (λ (ns : List ℕ). Some (n ∷ ns)) read) ≡ before (front ++ n ∷ []) read
regroup front n None = refl
regroup front n (Some ns) = ap (λ (z : List ℕ). Some z) (sym (append_assoc front (n ∷ []) ns))

pub one_turn : {X : Option (List ℕ)} (k at : ℕ) (front text : List ℕ) → at < k → before front (cells_in (k - at) text) ≡ X → before front (cells_in (suc (k - (at + 1))) text) ≡ X
one_turn k at front text below e = let turn : suc (k - (at + 1)) ≡ k - at = omega arith in ap (λ j. before front (cells_in j text)) turn ∙ e

pub no_turn : (k : ℕ) (front text : List ℕ) → decimal_in (run is_solid text) ≡ None → before front (cells_in (suc k) text) ≡ None
unfolding cells_in
no_turn k front text h = rw h refl

pub last_turn : (k n : ℕ) (front text : List ℕ) → decimal_in (run is_solid text) ≡ Some n → behind is_solid text ≡ [] → before front (cells_in (suc k) text) ≡ Some (front ++ n ∷ [])
unfolding cells_in
last_turn k n front text h e = rw (h, e) refl

next_by : (k n : ℕ) (front rest : List ℕ) → 0 < length rest → before front (more_by (cells_in k) n rest) ≡ before (front ++ n ∷ []) (cells_in k (behind is_gap rest))
next_by k n front [] pos = absurd (omega arith)
next_by k n front (b ∷ bs) pos = regroup front n (cells_in k (behind is_gap (b ∷ bs)))

pub next_turn : (k n : ℕ) (front text : List ℕ) → decimal_in (run is_solid text) ≡ Some n → 0 < length (behind is_solid text) → before front (cells_in (suc k) text) ≡ before (front ++ n ∷ []) (cells_in k (behind is_gap (behind is_solid text)))
unfolding cells_in
next_turn k n front text h pos = rw h (next_by k n front (behind is_solid text) pos)

pub turns_out : (front text : List ℕ) → before front (cells_in zero text) ≡ None
unfolding cells_in
turns_out front text = refl

nothing : (read : Option (List ℕ)) → before [] read ≡ read
nothing None = refl
nothing (Some ns) = refl

pub begun : (text : List ℕ) → before [] (cells_in (length text - 0) text) ≡ cells_of text
unfolding cells_of
begun text = let e : length text - 0 ≡ length text = omega arith in ap (λ k. before [] (cells_in k text)) e ∙ nothing (cells_in (length text) text)

pub empty_is : (xs : List ℕ) → nat_eq (length xs) 0 ≡ true → xs ≡ []
empty_is [] e = refl
empty_is (x ∷ xs) e = absurd (let no : ⊥ = grind (arith, nat_tests) in no)

pub long_is : (xs : List ℕ) → nat_eq (length xs) 0 ≡ false → 0 < length xs
long_is [] e = absurd (let no : ⊥ = cc in no)
long_is (x ∷ xs) e = omega arith
