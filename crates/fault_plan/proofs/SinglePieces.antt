-- Pieces before single spaces: what is read is what stands there.
use Rattle.std.proofs.Common.{◌≡◌, ℕ, ◌^◌, ◌<◌, Bool, true, false, cond, not, ◌&&◌, ◌||◌, nat_eq, List, [], ◌∷◌, ◌++◌, length, codes, Option, Some, None, option_and_then, refl, sym, ap, ◌∙◌, arith}
use Rattle.std.proofs.lemmas.Bool.Decides.{nat_tests}
use Rattle.std.proofs.lemmas.Option.{cond_some}
use Rattle.std.specs.Fmt.{decimal}
use Rattle.std.specs.List.{AllByRecursion, list_all}
use Rattle.c_tree.specs.Reserved.{is_digit}
use Rattle.text_pieces.specs.Fronts.{run, behind}
use Rattle.text_pieces.specs.Numbers.{decimal_in}
use Rattle.text_pieces.proofs.Runs.{both, begins, run-behind, behind_stops, run-front, behind-front}
use Rattle.data_file.specs.Reading.{strip}
use Rattle.data_file.proofs.Decimals.{digit_is, decimal_passes, decimal_in-decimal, decimal_in_is}
use Rattle.data_file.proofs.Fronts.{Passes, list_all-from_Passes, bind_is, strip_is, strip-front}
use Rattle.fault_plan.specs.Meaning.{is_blank, IsPiece}
use Rattle.fault_plan.specs.Reading.{is_no_space, split_by, split_space, is_solid, is_piece, name_front, number_front, place_of}

abbrev Split : Type 0
Split = List ℕ × List ℕ

pub on_some : {A B R : Type 0} (f : A → Option B) (o : Option A) (y : B) → option_and_then f o ≡ Some y → ((x : A) → o ≡ Some x → f x ≡ Some y → R) → R
on_some f None y e go = absurd (let no : ⊥ = cc in no)
on_some f (Some x) y e go = go x refl e

-- ---- before the first space

same_split : (a b : Split) → Some a ≡ Some b → a ≡ b
same_split a b e = cc

split_at : (text front back piece rest : List ℕ) → text ≡ front ++ back → begins is_no_space back ≡ false → split_by front back ≡ Some (piece, rest) → text ≡ piece ++ 32 ∷ rest
split_at text front [] piece rest whole stop e = absurd (let no : ⊥ = cc in no)
split_at text front (b ∷ bs) piece rest whole stop e =
    let same = same_split (front, bs) (piece, rest) e in
    let space : b ≡ 32 = grind (arith, nat_tests) in
    whole ∙ ap (λ c. front ++ c ∷ bs) space ∙ ap (λ (z : Split). z.0 ++ 32 ∷ z.1) same

pub split_space_is : (text piece rest : List ℕ) → split_space text ≡ Some (piece, rest) → text ≡ piece ++ 32 ∷ rest
split_space_is text piece rest e = split_at text (run is_no_space text) (behind is_no_space text) piece rest (run-behind is_no_space text) (behind_stops is_no_space text) e

pub split_space-front : (piece rest : List ℕ) → Passes is_no_space piece → split_space (piece ++ 32 ∷ rest) ≡ Some (piece, rest)
split_space-front piece rest p =
    let all = list_all-from_Passes is_no_space piece p in
    ap (λ z. split_by z (behind is_no_space (piece ++ 32 ∷ rest))) (run-front is_no_space piece (32 ∷ rest) all refl)
    ∙ ap (split_by piece) (behind-front is_no_space piece (32 ∷ rest) all refl)

-- ---- names

solid_is : (bytes : List ℕ) → list_all is_solid bytes ≡ true → AllByRecursion (λ b. is_blank b ≡ false) bytes
solid_is [] h = tt
solid_is (b ∷ bs) h = let (one, others) = both (is_solid b) (list_all is_solid bs) h in (not_true (is_blank b) one, solid_is bs others) where
  not_true : (v : Bool) → not v ≡ true → v ≡ false
  not_true true e = absurd (let no : ⊥ = cc in no)
  not_true false e = refl

solid-all : (bytes : List ℕ) → AllByRecursion (λ b. is_blank b ≡ false) bytes → list_all is_solid bytes ≡ true
solid-all [] p = refl
solid-all (b ∷ bs) p = rw p.0 (solid-all bs p.1)

piece_is : (piece : List ℕ) → is_piece piece ≡ true → IsPiece piece
piece_is [] h = absurd (let no : ⊥ = cc in no)
piece_is (b ∷ bs) h = record { some = omega arith; solid = solid_is (b ∷ bs) (both (not (nat_eq (length (b ∷ bs)) 0)) (list_all is_solid (b ∷ bs)) h).1 }

piece-is_piece : (piece : List ℕ) → IsPiece piece → is_piece piece ≡ true
piece-is_piece [] p = absurd (let some = p.some in omega arith)
piece-is_piece (b ∷ bs) p =
    let long : nat_eq (length (b ∷ bs)) 0 ≡ false = grind (arith, nat_tests) in
    ap (λ v. not v && list_all is_solid (b ∷ bs)) long ∙ solid-all (b ∷ bs) p.solid

no_space : (b : ℕ) → is_blank b ≡ false → is_no_space b ≡ true
no_space b h = by (nat_eq b 32) _ h where
  by : (v o : Bool) → (v || o) ≡ false → not v ≡ true
  by true o e = absurd (let no : ⊥ = cc in no)
  by false o e = refl

no_spaces : (bytes : List ℕ) → AllByRecursion (λ b. is_blank b ≡ false) bytes → Passes is_no_space bytes
no_spaces [] p = tt
no_spaces (b ∷ bs) p = (no_space b p.0, no_spaces bs p.1)

pub name_front_is : (text name rest : List ℕ) → name_front text ≡ Some (name, rest) → IsPiece name × (text ≡ name ++ 32 ∷ rest)
unfolding name_front
name_front_is text name rest e =
    let (x, split, taken) = bind_is (λ (x : Split). cond (is_piece x.0) (Some x) None) (split_space text) (name, rest) e in
    let (good, same) = cond_some (is_piece x.0) x (name, rest) taken in
    let piece : is_piece name ≡ true = ap (λ (z : Split). is_piece z.0) (sym same) ∙ good in
    (piece_is name piece, split_space_is text name rest (split ∙ ap (λ (z : Split). Some z) same))

pub name_front-name : (name rest : List ℕ) → IsPiece name → name_front (name ++ 32 ∷ rest) ≡ Some (name, rest)
unfolding name_front
name_front-name name rest p = rw (split_space-front name rest (no_spaces name p.solid), piece-is_piece name p) refl

-- ---- numbers

digit_no_space : (b : ℕ) → is_digit b ≡ true → is_no_space b ≡ true
digit_no_space b h = grind (arith, nat_tests, digit_is b h)

digits_no_space : (ds : List ℕ) → Passes is_digit ds → Passes is_no_space ds
digits_no_space [] p = tt
digits_no_space (b ∷ bs) p = (digit_no_space b p.0, digits_no_space bs p.1)

abbrev Counted : Type 0
Counted = ℕ × List ℕ

same_counted : (a b : Counted) → Some a ≡ Some b → a ≡ b
same_counted a b e = cc

counted : (text digits left : List ℕ) (m n : ℕ) (rest : List ℕ) → split_space text ≡ Some (digits, left) → decimal_in digits ≡ Some m → (let a : Counted = (m, left) in let b : Counted = (n, rest) in Some a ≡ Some b)
    → (n < 2 ^ 64) × (text ≡ decimal n ++ 32 ∷ rest)
counted text digits left m n rest split read made =
    let same = same_counted (m, left) (n, rest) made in
    let value : m ≡ n = ap (λ (z : Counted). z.0) same in
    let (written, fits) = decimal_in_is n digits (read ∙ ap (λ (k : ℕ). Some k) value) in
    (fits, split_space_is text digits left split ∙ ap (λ z. z ++ 32 ∷ left) written ∙ ap (λ (z : Counted). decimal n ++ 32 ∷ z.1) same)

pub number_front_is : (text : List ℕ) (n : ℕ) (rest : List ℕ) → number_front text ≡ Some (n, rest) → (n < 2 ^ 64) × (text ≡ decimal n ++ 32 ∷ rest)
unfolding number_front
number_front_is text n rest e =
    on_some _ (split_space text) (n, rest) e (λ x split read. on_some (λ (m : ℕ). Some (m, x.1)) (decimal_in x.0) (n, rest) read (λ m digits made. counted text x.0 x.1 m n rest split digits made))

pub number_front-number : (n : ℕ) (rest : List ℕ) → n < 2 ^ 64 → number_front (decimal n ++ 32 ∷ rest) ≡ Some (n, rest)
unfolding number_front
number_front-number n rest fits = rw (split_space-front (decimal n) rest (digits_no_space (decimal n) (decimal_passes n fits)), decimal_in-decimal n fits) refl

pub place_of_is : (text : List ℕ) (n : ℕ) → place_of text ≡ Some n → (n < 2 ^ 64) × (text ≡ codes "at " ++ decimal n)
unfolding place_of
place_of_is text n e =
    let (digits, front, read) = bind_is decimal_in (strip (codes "at ") text) n e in
    let (written, fits) = decimal_in_is n digits read in
    (fits, strip_is (codes "at ") text digits front ∙ ap (λ z. codes "at " ++ z) written)

pub place_of-place : (n : ℕ) → n < 2 ^ 64 → place_of (codes "at " ++ decimal n) ≡ Some n
unfolding place_of
place_of-place n fits = rw (strip-front (codes "at ") (decimal n), decimal_in-decimal n fits) refl
