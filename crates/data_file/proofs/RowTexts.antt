-- Rows: what is read of a line is what the line spells.
use Rattle.std.proofs.Common.{◌≡◌, ℕ, zero, suc, ◌+◌, ◌^◌, ◌<◌, ◌≤◌, one-add, List, [], ◌∷◌, ◌++◌, codes, length, take, drop, Bool, true, false, cond, not, nat_le, nat_eq, Option, Some, None, option_and_then, ℤ, pos, negsuc, FitsSigned, w64, refl, sym, ap, ◌∙◌, subst, arith, append_assoc, append-nil, length-append}
use Rattle.std.proofs.lemmas.Bool.{le-leb}
use Rattle.std.proofs.lemmas.Bool.Decides.{nat_tests}
use Rattle.std.proofs.lemmas.List.{take-append-drop}
use Rattle.std.proofs.lemmas.Option.{same_Some, cond_some}
use Rattle.std.proofs.lemmas.Fmt.{decimal_nonempty}
use Rattle.std.proofs.Math.Seq.{take-append_seam, drop-append_seam}
use Rattle.std.specs.Fmt.{decimal, signed_decimal}
use Rattle.std.specs.List.{list_all}
use Rattle.c_tree.specs.Reserved.{is_digit}
use Rattle.text_pieces.specs.Fronts.{run, behind}
use Rattle.text_pieces.specs.Numbers.{decimal_in}
use Rattle.text_pieces.proofs.Runs.{begins, run-behind, run_passes, behind_stops, run-front, behind-front, list_all-implies}
use Rattle.data_file.specs.Meaning.{is_gap, IsGap, Spells}
use Rattle.data_file.specs.Reading.{strip, strip_end, is_solid, more_by, cells_in, cells_of, last_equals, at_equals, parted}
use Rattle.data_file.proofs.Fronts.{bind_is, not_true, Passes, Passes-append, list_all-from_Passes, Passes-from_list_all, strip_is, strip-front, strip_end_is, strip_end-end}
use Rattle.data_file.proofs.Decimals.{digit_is, decimal_passes, decimal_in_is, decimal_in-decimal}

-- ---- cells

solid_digit : (b : ℕ) → is_digit b ≡ true → is_solid b ≡ true
solid_digit b h = grind (arith, nat_tests, digit_is b h)

solid_digits : (ds : List ℕ) → Passes is_digit ds → list_all is_solid ds ≡ true
solid_digits ds p = list_all-implies is_digit is_solid solid_digit ds (list_all-from_Passes is_digit ds p)

no_gap : (b : ℕ) → is_solid b ≡ true → is_gap b ≡ false
no_gap b h = not_true (is_gap b) h

no_solid : (v : Bool) → not v ≡ false → v ≡ true
no_solid true e = refl
no_solid false e = absurd (let no : ⊥ = cc in no)

spelled_by : (k n : ℕ) (rest ns : List ℕ) → ((text ms : List ℕ) → cells_in k text ≡ Some ms → Spells ms text) → begins is_solid rest ≡ false → n < 2 ^ 64
    → more_by (cells_in k) n rest ≡ Some ns → Spells ns (decimal n ++ rest)
spelled_by k n [] ns go stop fits h = let same : n ∷ [] ≡ ns = same_Some (n ∷ []) ns h in subst (λ (ms : List ℕ). Spells ms (decimal n ++ [])) same (fits, append-nil (decimal n))
spelled_by k n (b ∷ bs) ns go stop fits h =
    let (ms, read, same) = bind_is _ (cells_in k (behind is_gap (b ∷ bs))) ns h in
    with_more ms (go (behind is_gap (b ∷ bs)) ms read) (same_Some (n ∷ ms) ns same)
  where
    gap : IsGap (run is_gap (b ∷ bs))
    gap = record { some = long (is_gap b) refl; blank = Passes-from_list_all is_gap (run is_gap (b ∷ bs)) (run_passes is_gap (b ∷ bs)) } where
      long : (v : Bool) → is_gap b ≡ v → 0 < length (run is_gap (b ∷ bs))
      long true e = rw (e, one-add) (omega arith)
      long false e = absurd (let no : ⊥ = let yes = no_solid (is_gap b) stop in cc in no)

    with_more : (ms : List ℕ) → Spells ms (behind is_gap (b ∷ bs)) → n ∷ ms ≡ ns → Spells ns (decimal n ++ (b ∷ bs))
    with_more [] s e = absurd s
    with_more (m ∷ ms) s e = subst (λ (l : List ℕ). Spells l (decimal n ++ (b ∷ bs))) e
        (fits, run is_gap (b ∷ bs), behind is_gap (b ∷ bs), gap, ap (λ z. decimal n ++ z) (run-behind is_gap (b ∷ bs)), s)

cells_in_is : (k : ℕ) (text ns : List ℕ) → cells_in k text ≡ Some ns → Spells ns text
unfolding cells_in
cells_in_is zero text ns h = absurd (let no : ⊥ = cc in no)
cells_in_is (suc k) text ns h =
    let (n, read, more) = bind_is _ (decimal_in (run is_solid text)) ns h in
    let (digits, fits) = decimal_in_is n (run is_solid text) read in
    let same : text ≡ decimal n ++ behind is_solid text = run-behind is_solid text ∙ ap (λ z. z ++ behind is_solid text) digits in
    subst (Spells ns) (sym same) (spelled_by k n (behind is_solid text) ns (cells_in_is k) (behind_stops is_solid text) fits more)

pub cells_of_is : (text ns : List ℕ) → cells_of text ≡ Some ns → Spells ns text
unfolding cells_of
cells_of_is text ns h = cells_in_is (length text) text ns h

begins_digit : (n : ℕ) (rest : List ℕ) → n < 2 ^ 64 → begins is_gap (decimal n ++ rest) ≡ false
begins_digit n rest h = by (decimal n) (decimal_nonempty n h) (decimal_passes n h) where
  by : (ds : List ℕ) → 0 < length ds → Passes is_digit ds → begins is_gap (ds ++ rest) ≡ false
  by [] some p = absurd (omega arith)
  by (b ∷ bs) some p = no_gap b (solid_digit b p.0)

begins_spelled : (ns text : List ℕ) → Spells ns text → begins is_gap text ≡ false
begins_spelled [] text s = absurd s
begins_spelled (n ∷ []) text s = ap (begins is_gap) (s.1 ∙ sym (append-nil (decimal n))) ∙ begins_digit n [] s.0
begins_spelled (n ∷ m ∷ ns) text s = ap (begins is_gap) s.4 ∙ begins_digit n (s.1 ++ s.2) s.0

stops_gap : (gap rest : List ℕ) → IsGap gap → begins is_solid (gap ++ rest) ≡ false
stops_gap [] rest g = absurd (let h = g.some in omega arith)
stops_gap (b ∷ bs) rest g = rw g.blank.0 refl

more-gap : (k n : ℕ) (gap rest : List ℕ) → IsGap gap → begins is_gap rest ≡ false → more_by (cells_in k) n (gap ++ rest) ≡ option_and_then (λ (ms : List ℕ). Some (n ∷ ms)) (cells_in k rest)
more-gap k n [] rest g stop = absurd (let h = g.some in omega arith)
more-gap k n (b ∷ bs) rest g stop = ap (λ z. option_and_then (λ (ms : List ℕ). Some (n ∷ ms)) (cells_in k z)) (behind-front is_gap (b ∷ bs) rest (list_all-from_Passes is_gap (b ∷ bs) g.blank) stop)

cells_in-spelled : (k : ℕ) (ns text : List ℕ) → Spells ns text → length text ≤ k → cells_in k text ≡ Some ns
unfolding cells_in
cells_in-spelled k [] text s le = absurd s
cells_in-spelled zero (n ∷ []) text s le = absurd (omega (arith, ap length s.1, decimal_nonempty n s.0))
cells_in-spelled zero (n ∷ m ∷ ns) text s le = absurd (omega (arith, ap length s.4, decimal_nonempty n s.0, length-append (decimal n) (s.1 ++ s.2)))
cells_in-spelled (suc k) (n ∷ []) text s le =
    let digits = solid_digits (decimal n) (decimal_passes n s.0) in
    let same : text ≡ decimal n ++ [] = s.1 ∙ sym (append-nil (decimal n)) in
    rw (same, run-front is_solid (decimal n) [] digits refl, behind-front is_solid (decimal n) [] digits refl, decimal_in-decimal n s.0) refl
cells_in-spelled (suc k) (n ∷ m ∷ ns) text s le =
    let gap = s.1 in
    let rest = s.2 in
    let digits = solid_digits (decimal n) (decimal_passes n s.0) in
    let stop = stops_gap gap rest s.3 in
    let below : length rest ≤ k = omega (arith, ap length s.4, decimal_nonempty n s.0, length-append (decimal n) (gap ++ rest), length-append gap rest, le) in
    let others = cells_in-spelled k (m ∷ ns) rest s.5 below in
    rw (s.4, run-front is_solid (decimal n) (gap ++ rest) digits stop, behind-front is_solid (decimal n) (gap ++ rest) digits stop, decimal_in-decimal n s.0)
    (more-gap k n gap rest s.3 (begins_spelled (m ∷ ns) rest s.5) ∙ ap (option_and_then (λ (ms : List ℕ). Some (n ∷ ms))) others)

pub cells_of-spelled : (ns text : List ℕ) → Spells ns text → cells_of text ≡ Some ns
unfolding cells_of
cells_of-spelled ns text s = cells_in-spelled (length text) ns text s (omega arith)

-- ---- the last `=`

abbrev pub is_value_byte : ℕ → Bool
is_value_byte b = not (nat_eq b 61)

last-none : (k : ℕ) (found : Option ℕ) (rest : List ℕ) → Passes is_value_byte rest → last_equals k found rest ≡ found
last-none k found [] p = refl
last-none k found (b ∷ bs) p = rw (not_true (nat_eq b 61) p.0) (last-none (k + 1) found bs p.1)

last-front : (k : ℕ) (found : Option ℕ) (front rest : List ℕ) → Passes is_value_byte rest → last_equals k found (front ++ 61 ∷ rest) ≡ Some (k + length front)
last-front k found [] rest p = last-none (k + 1) (Some k) rest p ∙ ap (λ (n : ℕ). Some n) (let e : k ≡ k + 0 = omega arith in e)
last-front k found (b ∷ front) rest p =
    last-front (k + 1) (cond (nat_eq b 61) (Some k) found) front rest p ∙ ap (λ (n : ℕ). Some n) (let e : (k + 1) + length front ≡ k + suc (length front) = omega arith in e)

pub parted_is : (line x text : List ℕ) → parted line ≡ Some (x, text) → line ≡ x ++ (codes " = " ++ text)
unfolding parted
parted_is line x text h =
    let (sides, h1, h2) = bind_is _ (at_equals line) (x, text) h in
    let (name, h3, h4) = bind_is _ (strip_end (codes " ") sides.0) (x, text) h2 in
    let (back, h5, h6) = bind_is _ (strip (codes "= ") sides.1) (x, text) h4 in
    let (k, h7, h8) = bind_is _ (last_equals 0 None line) sides h1 in
    let (within, cut) = cond_some (nat_le k (length line)) (take k line, drop k line) sides h8 in
    let pair : (name, back) ≡ (x, text) = same_Some (name, back) (x, text) h6 in
    let front : sides.0 ≡ name ++ codes " " = strip_end_is (codes " ") sides.0 name h3 in
    let rest : sides.1 ≡ codes "= " ++ back = strip_is (codes "= ") sides.1 back h5 in
    sym (take-append-drop k line) ∙ ap (λ (p : List ℕ × List ℕ). p.0 ++ p.1) cut ∙ ap (λ z. z ++ sides.1) front ∙ ap (λ z. (name ++ codes " ") ++ z) rest
    ∙ append_assoc name (codes " ") (codes "= " ++ back) ∙ ap (λ (p : List ℕ × List ℕ). p.0 ++ (codes " = " ++ p.1)) pair

pub parted-row : (x text : List ℕ) → Passes is_value_byte text → parted (x ++ (codes " = " ++ text)) ≡ Some (x, text)
unfolding parted
parted-row x text p =
    let line = x ++ (codes " = " ++ text) in
    let front = x ++ codes " " in
    let same : line ≡ front ++ (codes "= " ++ text) = sym (append_assoc x (codes " ") (codes "= " ++ text)) in
    let place : last_equals 0 None line ≡ Some (length front) =
    ap (last_equals 0 None) same ∙ last-front 0 None front (32 ∷ text) (refl, p) ∙ ap (λ (n : ℕ). Some n) (let e : 0 + length front ≡ length front = omega arith in e) in
    let within : nat_le (length front) (length line) ≡ true = le-leb (length front) (length line) (omega (arith, ap length same, length-append front (codes "= " ++ text))) in
    let before : take (length front) line ≡ front = ap (take (length front)) same ∙ take-append_seam front (codes "= " ++ text) in
    let after : drop (length front) line ≡ codes "= " ++ text = ap (drop (length front)) same ∙ drop-append_seam front (codes "= " ++ text) in
    rw (place, within, before, after, strip_end-end x (codes " "), strip-front (codes "= ") text) refl

value_digit : (b : ℕ) → is_digit b ≡ true → is_value_byte b ≡ true
value_digit b h = grind (arith, nat_tests, digit_is b h)

value_digits : (ds : List ℕ) → Passes is_digit ds → Passes is_value_byte ds
value_digits [] p = tt
value_digits (b ∷ bs) p = (value_digit b p.0, value_digits bs p.1)

value_gap : (b : ℕ) → is_gap b ≡ true → is_value_byte b ≡ true
value_gap b h = grind (arith, nat_tests)

value_gaps : (bs : List ℕ) → Passes is_gap bs → Passes is_value_byte bs
value_gaps [] p = tt
value_gaps (b ∷ bs) p = (value_gap b p.0, value_gaps bs p.1)

pub spelled_passes : (ns text : List ℕ) → Spells ns text → Passes is_value_byte text
spelled_passes [] text s = absurd s
spelled_passes (n ∷ []) text s = subst (Passes is_value_byte) (sym s.1) (value_digits (decimal n) (decimal_passes n s.0))
spelled_passes (n ∷ m ∷ ns) text s =
    subst (Passes is_value_byte) (sym s.4)
    (Passes-append is_value_byte (decimal n) (s.1 ++ s.2) (value_digits (decimal n) (decimal_passes n s.0))
    (Passes-append is_value_byte s.1 s.2 (value_gaps s.1 s.3.blank) (spelled_passes (m ∷ ns) s.2 s.5)))

pub signed_passes : (z : ℤ) → FitsSigned w64 z → Passes is_value_byte (signed_decimal z)
signed_passes (pos n) fits = let lt = fits.sfits in value_digits (decimal n) (decimal_passes n (omega arith))
signed_passes (negsuc n) fits = let lt = fits.sfits in (refl, value_digits (decimal (suc n)) (decimal_passes (suc n) (omega arith)))
