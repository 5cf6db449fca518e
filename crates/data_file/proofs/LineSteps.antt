-- Lines: the first line of a text, and what follows it.
use Rattle.std.proofs.Common.{◌≡◌, ℕ, ◌+◌, ◌<◌, List, [], ◌∷◌, ◌++◌, length, Bool, true, false, cond, nat_eq, if◌then◌else◌, refl, sym, ap, ◌∙◌, arith, length-append, append-nil, subst}
use Rattle.std.proofs.lemmas.Bool.Decides.{nat_tests}
use Rattle.std.specs.List.{slice_split, onto_first}
use Rattle.std.specs.Str.Lines.{lines, lines_of_parts}
use Rattle.text_pieces.specs.Fronts.{run, behind, is_in_line}
use Rattle.text_pieces.proofs.Runs.{begins, run-behind, run_passes, behind_stops}
use Rattle.data_file.specs.Reading.{without_return, line_by, rest_by, first_line, after_line}
use Rattle.data_file.proofs.Fronts.{Passes, Passes-from_list_all, not_true}

parts_by : (front rest : List ℕ) → Passes is_in_line front → slice_split (λ b. nat_eq b 10) (front ++ 10 ∷ rest) ≡ front ∷ slice_split (λ b. nat_eq b 10) rest
parts_by [] rest p = refl
parts_by (b ∷ bs) rest p = let no : nat_eq b 10 ≡ false = not_true (nat_eq b 10) p.0 in rw (no, parts_by bs rest p.1) refl

one_part : (front : List ℕ) → Passes is_in_line front → slice_split (λ b. nat_eq b 10) front ≡ front ∷ []
one_part [] p = refl
one_part (b ∷ bs) p = let no : nat_eq b 10 ≡ false = not_true (nat_eq b 10) p.0 in rw (no, one_part bs p.1) refl

more_parts : (first : List ℕ) (rest : List ℕ) → lines_of_parts (first ∷ slice_split (λ b. nat_eq b 10) rest) ≡ without_return first ∷ lines rest
more_parts first [] = refl
more_parts first (b ∷ bs) = at (slice_split (λ c. nat_eq c 10) (b ∷ bs)) (some (nat_eq b 10) b (slice_split (λ c. nat_eq c 10) bs)) where
  some : (v : Bool) (b : ℕ) (ps : List (List ℕ)) → 0 < length (cond v ([] ∷ ps) (onto_first b ps))
  some true b ps = omega arith
  some false b [] = omega arith
  some false b (p ∷ ps) = omega arith

  at : (ps : List (List ℕ)) → 0 < length ps → lines_of_parts (first ∷ ps) ≡ without_return first ∷ lines_of_parts ps
  at [] pos = absurd (omega arith)
  at (p ∷ ps) pos = refl

-- a line and its line feed stand at the front
pub lines-line : (front rest : List ℕ) → Passes is_in_line front → lines (front ++ 10 ∷ rest) ≡ without_return front ∷ lines rest
lines-line front rest p = ap lines_of_parts (parts_by front rest p) ∙ more_parts front rest

lines-last : (front : List ℕ) → 0 < length front → Passes is_in_line front → lines front ≡ front ∷ []
lines-last [] pos p = absurd (omega arith)
lines-last (b ∷ bs) pos p =
    let long : nat_eq (length (b ∷ bs)) 0 ≡ false = grind (arith, nat_tests) in
    ap lines_of_parts (one_part (b ∷ bs) p) ∙ ap (λ v. if v then [] else (b ∷ bs) ∷ []) long

-- what follows the longest front begins with another byte
stops : (text : List ℕ) (b : ℕ) (rest : List ℕ) → behind is_in_line text ≡ b ∷ rest → b ≡ 10
stops text b rest e = let stop : is_in_line b ≡ false = ap (begins is_in_line) (sym e) ∙ behind_stops is_in_line text in grind (arith, nat_tests)

by_rest : (text front rest : List ℕ) → text ≡ front ++ rest → Passes is_in_line front → ((b : ℕ) (more : List ℕ) → rest ≡ b ∷ more → b ≡ 10) → 0 < length text → lines text ≡ line_by front rest ∷ lines (rest_by rest)
by_rest text front [] same p ten pos =
    let whole : text ≡ front = same ∙ append-nil front in
    let long : 0 < length front = subst (λ (z : List ℕ). 0 < length z) whole pos in
    ap lines whole ∙ lines-last front long p
by_rest text front (b ∷ more) same p ten pos =
    ap lines (same ∙ ap (λ c. front ++ c ∷ more) (ten b more refl)) ∙ lines-line front more p

pub lines_step : (text : List ℕ) → 0 < length text → lines text ≡ first_line text ∷ lines (after_line text)
lines_step text pos = by_rest text (run is_in_line text) (behind is_in_line text) (run-behind is_in_line text) (Passes-from_list_all is_in_line (run is_in_line text) (run_passes is_in_line text)) (stops text) pos

pub after_line_shorter : (text : List ℕ) → 0 < length text → length (after_line text) < length text
after_line_shorter text pos = by (behind is_in_line text) (ap length (run-behind is_in_line text) ∙ length-append (run is_in_line text) (behind is_in_line text)) where
  by : (rest : List ℕ) → length text ≡ length (run is_in_line text) + length rest → length (rest_by rest) < length text
  by [] e = pos
  by (b ∷ rest) e = omega arith
