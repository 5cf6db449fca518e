-- A line is read as a row exactly where it is one.
use Rattle.std.proofs.Common.{◌≡◌, ℕ, zero, suc, ◌+◌, ◌-◌, ◌<◌, ◌≤◌, List, [], ◌∷◌, ◌++◌, codes, length, map, get_or, Bool, true, false, cond, not, ◌&&◌, nat_lt, nat_eq, slice_get, position, Some, None, option_and_then, ℤ, refl, sym, ap, ◌∙◌, subst, arith}
use Rattle.std.proofs.lemmas.Bool.{ltb-true, lt-ltb, ltb-false, le-ltb}
use Rattle.std.proofs.lemmas.List.Quantifiers.{position-Some}
use Rattle.std.proofs.lemmas.List.Sums.{position_or_len_is}
use Rattle.std.proofs.lemmas.Option.{same_Some, slice_get-get_or, slice_get_within, get_or_from_slice_get}
use Rattle.std.proofs.lemmas.Slice.Eq.{bytes_eq-Decides}
use Rattle.std.specs.Fmt.{signed_decimal}
use Rattle.std.specs.List.{position_or_len, list_all}
use Rattle.std.specs.Str.{bytes_eq}
use Rattle.c_tree.specs.Plain.{Word}
use Rattle.c_tree.specs.declared.name.Name.{Name}
use Rattle.c_tree.specs.declared.frame.Frame.{Frame}
use Rattle.c_tree.specs.declared.frame.ArrayInfo.{ArrayInfo}
use Rattle.data_file.specs.declared.row.Row.{Row}
use Rattle.data_file.specs.declared.row.Row.TheVariants.{Value, Cells}
use Rattle.data_file.specs.Conditions.{names_in, HasOwnNames}
use Rattle.data_file.specs.Meaning.{is_gap, IsRow}
use Rattle.data_file.specs.Reading.{parted, int_of, cells_of, row_of, row_at, is_blank}
use Rattle.data_file.proofs.Fronts.{bind_is, Passes}
use Rattle.data_file.proofs.Decimals.{int_of_is, int_of-signed}
use Rattle.data_file.proofs.NamePlaces.{get-back, length-names, parameter_named, array_named}
use Rattle.data_file.proofs.RowTexts.{cells_of_is, cells_of-spelled, parted_is, parted-row, spelled_passes, signed_passes}

-- ---- places of names

place_is : (x : Word) (names : List Word) (k : ℕ) → position (bytes_eq x) names ≡ Some k → slice_get names k ≡ Some x
place_is x names k h =
    let (below, same, first) = position-Some (bytes_eq x) names k [] h in
    slice_get-get_or names k [] below ∙ ap (λ z. Some z) (sym ((bytes_eq-Decides x (get_or names k [])).0 same))

place-named : (x : Word) (names : List Word) (k : ℕ) → ((j n : ℕ) (y : Word) → slice_get names j ≡ Some y → slice_get names n ≡ Some y → j ≡ n) → slice_get names k ≡ Some x → position (bytes_eq x) names ≡ Some k
place-named x names k different at =
    let below : k < length names = slice_get_within names k x at in
    let place : position_or_len (bytes_eq x) names ≡ k =
    position_or_len_is (bytes_eq x) names k [] (omega arith) (λ j lt. other j lt (bytes_eq x (get_or names j [])) refl) (λ lt. (bytes_eq-Decides x (get_or names k [])).1 (sym (get_or_from_slice_get names k x [] at))) in
    ap (λ n. cond (nat_lt n (length names)) (Some n) None) place ∙ ap (λ v. cond v (Some k) None) (lt-ltb k (length names) below)
  where
    other : (j : ℕ) → j < k → (v : Bool) → bytes_eq x (get_or names j []) ≡ v → bytes_eq x (get_or names j []) ≡ false
    other j lt false e = e
    other j lt true e =
        let within : k < length names = slice_get_within names k x at in
        let here : slice_get names j ≡ Some x = slice_get-get_or names j [] (omega arith) ∙ ap (λ z. Some z) (sym ((bytes_eq-Decides x (get_or names j [])).0 e)) in
        absurd (omega (arith, different j k x here at))

map_front : {A : Type 0} (v : A → Word) (xs : List A) (ys : List Word) (k : ℕ) (x : Word) → k < length xs → slice_get (map v xs ++ ys) k ≡ Some x → (a : A) × (slice_get xs k ≡ Some a) × (v a ≡ x)
map_front v [] ys k x below h = absurd (omega arith)
map_front v (a ∷ xs) ys zero x below h = (a, refl, same_Some (v a) x h)
map_front v (a ∷ xs) ys (suc k) x below h = map_front v xs ys k x (omega arith) h

map_some : {A : Type 0} (v : A → Word) (xs : List A) (k : ℕ) (x : Word) → slice_get (map v xs) k ≡ Some x → (a : A) × (slice_get xs k ≡ Some a) × (v a ≡ x)
map_some v [] k x h = absurd (let no : ⊥ = cc in no)
map_some v (a ∷ xs) zero x h = (a, refl, same_Some (v a) x h)
map_some v (a ∷ xs) (suc k) x h = map_some v xs k x h

module _ (f : Frame) where
  parameter_at : (k : ℕ) (x : Word) → k < length f.ints → slice_get (names_in f) k ≡ Some x → (p : Name × ℤ × ℤ) × (slice_get f.ints k ≡ Some p) × (p.0.bytes ≡ x)
  parameter_at k x below h = map_front (λ (p : Name × ℤ × ℤ). p.0.bytes) f.ints (map (λ (a : ArrayInfo). a.name.bytes) f.arrays) k x below h

  array_at : (k : ℕ) (x : Word) → length f.ints ≤ k → slice_get (names_in f) k ≡ Some x → (a : ArrayInfo) × (j : ℕ) × (k ≡ length f.ints + j) × (slice_get f.arrays j ≡ Some a) × (a.name.bytes ≡ x)
  array_at k x le h =
      let j = k - length f.ints in
      let names = map (λ (p : Name × ℤ × ℤ). p.0.bytes) f.ints in
      let arrays = map (λ (a : ArrayInfo). a.name.bytes) f.arrays in
      let place : k ≡ length f.ints + j = omega arith in
      let place_in_names : k ≡ length names + j = omega (arith, length-names f.ints) in
      let there : slice_get arrays j ≡ Some x = sym (get-back names arrays j) ∙ ap (slice_get (names_in f)) (sym place_in_names) ∙ h in
      let (a, at, same) = map_some (λ (b : ArrayInfo). b.name.bytes) f.arrays j x there in
      (a, j, place, at, same)

  row_by : (line x text : List ℕ) (k : ℕ) (r : Row) (v : Bool) → nat_lt k (length f.ints) ≡ v → line ≡ x ++ (codes " = " ++ text) → slice_get (names_in f) k ≡ Some x
      → cond v (option_and_then (λ (n : ℤ). Some (Value n)) (int_of text)) (option_and_then (λ (ns : List ℕ). Some (Cells ns)) (cells_of text)) ≡ Some r → IsRow f line k r
  row_by line x text k r true e same at h =
      let (n, read, is) = bind_is _ (int_of text) r h in
      let (p, there, named) = parameter_at k x (ltb-true k (length f.ints) e) at in
      let (fits, spelled) = int_of_is n text read in
      let whole : line ≡ p.0.bytes ++ (codes " = " ++ signed_decimal n) = same ∙ ap (λ z. z ++ (codes " = " ++ text)) (sym named) ∙ ap (λ z. p.0.bytes ++ (codes " = " ++ z)) spelled in
      subst (IsRow f line k) (same_Some (Value n) r is) (p, there, (fits, whole))
  row_by line x text k r false e same at h =
      let (ns, read, is) = bind_is _ (cells_of text) r h in
      let (a, j, place, there, named) = array_at k x (ltb-false k (length f.ints) e) at in
      let whole : line ≡ a.name.bytes ++ (codes " = " ++ text) = same ∙ ap (λ z. z ++ (codes " = " ++ text)) (sym named) in
      subst (IsRow f line k) (same_Some (Cells ns) r is) (a, j, place, there, (text, whole, cells_of_is text ns read))

  pub row_at_is : (line : List ℕ) (k : ℕ) (r : Row) → row_at (length f.ints) (names_in f) line ≡ Some (k, r) → IsRow f line k r
  unfolding row_at row_of
  row_at_is line k r h =
      let (sides, h1, h2) = bind_is _ (parted line) (k, r) h in
      let (j, h3, h4) = bind_is _ (position (bytes_eq sides.0) (names_in f)) (k, r) h2 in
      let (s, h5, h6) = bind_is _ (row_of (length f.ints) j sides.1) (k, r) h4 in
      let is = row_by line sides.0 sides.1 j s (nat_lt j (length f.ints)) refl (parted_is line sides.0 sides.1 h1) (place_is sides.0 (names_in f) j h3) h5 in
      let IsThat : ℕ × Row → Type 0 = λ z. IsRow f line z.0 z.1 in
      subst IsThat (same_Some (j, s) (k, r) h6) is

  read_as : (x text : List ℕ) (k : ℕ) (r : Row) → HasOwnNames f → Passes (λ b. not (nat_eq b 61)) text → slice_get (names_in f) k ≡ Some x → row_of (length f.ints) k text ≡ Some r
      → row_at (length f.ints) (names_in f) (x ++ (codes " = " ++ text)) ≡ Some (k, r)
  unfolding row_at
  read_as x text k r own p at row = rw (parted-row x text p, place-named x (names_in f) k own at, row) refl

  pub row_at-row : (line : List ℕ) (k : ℕ) (r : Row) → HasOwnNames f → IsRow f line k r → row_at (length f.ints) (names_in f) line ≡ Some (k, r)
  unfolding row_of
  row_at-row line k (Value n) own is =
      let below : nat_lt k (length f.ints) ≡ true = lt-ltb k (length f.ints) (slice_get_within f.ints k is.0 is.1) in
      let row : row_of (length f.ints) k (signed_decimal n) ≡ Some (Value n) =
      ap (λ v. cond v (option_and_then (λ (m : ℤ). Some (Value m)) (int_of (signed_decimal n))) (option_and_then (λ (ns : List ℕ). Some (Cells ns)) (cells_of (signed_decimal n)))) below
      ∙ ap (option_and_then (λ (m : ℤ). Some (Value m))) (int_of-signed n is.2.0) in
      ap (row_at (length f.ints) (names_in f)) is.2.1 ∙ read_as is.0.0.bytes (signed_decimal n) k (Value n) own (signed_passes n is.2.0) (parameter_named f k is.0 is.1) row
  row_at-row line k (Cells ns) own is =
      let text = is.4.0 in
      let above : nat_lt k (length f.ints) ≡ false = le-ltb k (length f.ints) (omega (arith, is.2)) in
      let row : row_of (length f.ints) k text ≡ Some (Cells ns) =
      ap (λ v. cond v (option_and_then (λ (m : ℤ). Some (Value m)) (int_of text)) (option_and_then (λ (ms : List ℕ). Some (Cells ms)) (cells_of text))) above
      ∙ ap (option_and_then (λ (ms : List ℕ). Some (Cells ms))) (cells_of-spelled ns text is.4.2) in
      let named : slice_get (names_in f) k ≡ Some is.0.name.bytes = ap (slice_get (names_in f)) is.2 ∙ array_named f is.1 is.0 is.3 in
      ap (row_at (length f.ints) (names_in f)) is.4.1 ∙ read_as is.0.name.bytes text k (Cells ns) own (spelled_passes ns text is.4.2) named row

-- ---- a row isn't blank

not_blank_by : (x text : List ℕ) → list_all is_gap (x ++ (codes " = " ++ text)) ≡ false
not_blank_by [] text = refl
not_blank_by (b ∷ x) text = rw (not_blank_by x text) (at (is_gap b)) where
  at : (v : Bool) → (v && false) ≡ false
  at true = refl
  at false = refl

pub row_not_blank : (f : Frame) (line : List ℕ) (k : ℕ) (r : Row) → IsRow f line k r → is_blank line ≡ false
row_not_blank f line k (Value n) is = ap is_blank is.2.1 ∙ not_blank_by is.0.0.bytes (signed_decimal n)
row_not_blank f line k (Cells ns) is = ap is_blank is.4.1 ∙ not_blank_by is.0.name.bytes is.4.0

-- the number of a row's name
pub row_named : (f : Frame) (line : List ℕ) (k : ℕ) (r : Row) → IsRow f line k r → k < length (names_in f)
row_named f line k (Value n) is = slice_get_within (names_in f) k is.0.0.bytes (parameter_named f k is.0 is.1)
row_named f line k (Cells ns) is = slice_get_within (names_in f) k is.0.name.bytes (ap (slice_get (names_in f)) is.2 ∙ array_named f is.1 is.0 is.3)

-- a value stands for one of the first m names, and cells for another
abbrev pub KindAt : ℕ → ℕ → Row → Type 0
KindAt m k (Value n) = k < m
KindAt m k (Cells ns) = m ≤ k

abbrev pub IsKind : Frame → ℕ → Row → Type 0
IsKind f k r = KindAt (length f.ints) k r

pub row_kind : (f : Frame) (line : List ℕ) (k : ℕ) (r : Row) → IsRow f line k r → IsKind f k r
row_kind f line k (Value n) is = slice_get_within f.ints k is.0 is.1
row_kind f line k (Cells ns) is = omega (arith, is.2)
