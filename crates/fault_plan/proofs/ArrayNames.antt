-- The array of a name.
use Rattle.std.proofs.Common.{◌≡◌, ℕ, zero, suc, ◌+◌, Bool, true, false, cond, List, [], ◌∷◌, length, Option, Some, None, slice_get, refl, sym, ap, ◌∙◌, arith, bytes_eq}
use Rattle.std.proofs.lemmas.Iterator.Adapters.{position_from-zero}
use Rattle.std.proofs.lemmas.Slice.Eq.{bytes_eq-Decides}
use Rattle.std.specs.List.{position_from}
use Rattle.c_tree.specs.Plain.{Word}
use Rattle.c_tree.specs.declared.frame.Frame.{Frame}
use Rattle.c_tree.specs.declared.frame.ArrayInfo.{ArrayInfo}
use Rattle.data_file.specs.Conditions.{HasOwnNames}
use Rattle.data_file.proofs.NamePlaces.{array_named}
use Rattle.fault_plan.specs.Reading.{array_in}

-- an item that passes, with its place
pub record Found {A : Type 0} (test : A → Bool) (xs : List A) (k : ℕ) : Type 0 where
  pub item : A
  pub at : slice_get xs k ≡ Some item
  pub passes : test item ≡ true

module _ {A : Type 0} (test : A → Bool) where
  found_from : (n : ℕ) (xs : List A) (k : ℕ) → position_from test n xs ≡ Some k → (j : ℕ) × (k ≡ n + j) × Found test xs j
  found_from n [] k e = absurd (let no : ⊥ = cc in no)
  found_from n (x ∷ xs) k e = by (test x) refl e (λ later. found_from (n + 1) xs k later) where
    by : (v : Bool) → test x ≡ v → cond v (Some n) (position_from test (n + 1) xs) ≡ Some k
        → (position_from test (n + 1) xs ≡ Some k → (j : ℕ) × (k ≡ (n + 1) + j) × Found test xs j) → (j : ℕ) × (k ≡ n + j) × Found test (x ∷ xs) j
    by true passes same later = (0, let here : n ≡ k = cc in omega arith, record { item = x; at = refl; passes = passes })
    by false fails same later =
        let (j, place, found) = later same in
        (suc j, omega arith, record { item = found.item; at = found.at; passes = found.passes })

  none_from : (n : ℕ) (xs : List A) → position_from test n xs ≡ None → (k : ℕ) (x : A) → slice_get xs k ≡ Some x → test x ≡ false
  none_from n [] e k x at = absurd (let no : ⊥ = cc in no)
  none_from n (y ∷ ys) e k x at = by (test y) refl e k at (λ later j there. none_from (n + 1) ys later j x there) where
    by : (v : Bool) → test y ≡ v → cond v (Some n) (position_from test (n + 1) ys) ≡ None → (k : ℕ) → slice_get (y ∷ ys) k ≡ Some x
        → (position_from test (n + 1) ys ≡ None → (j : ℕ) → slice_get ys j ≡ Some x → test x ≡ false) → test x ≡ false
    by true passes same k at later = absurd (let no : ⊥ = cc in no)
    by false fails same zero at later = let here : y ≡ x = cc in ap test (sym here) ∙ fails
    by false fails same (suc k) at later = later same k at

-- the array of this number has this name
pub record IsArray (arrays : List ArrayInfo) (x : Word) (k : ℕ) : Type 0 where
  pub array : ArrayInfo
  pub at : slice_get arrays k ≡ Some array
  pub name : array.name.bytes ≡ x

abbrev has_name : Word → ArrayInfo → Bool
has_name x a = bytes_eq a.name.bytes x

pub array_in_is : (arrays : List ArrayInfo) (x : Word) (k : ℕ) → array_in arrays x ≡ Some k → IsArray arrays x k
array_in_is arrays x k e =
    let (j, place, found) = found_from (has_name x) 0 arrays k (sym (position_from-zero (has_name x) arrays) ∙ e) in
    let same : j ≡ k = omega arith in
    record { array = found.item; at = ap (slice_get arrays) (sym same) ∙ found.at; name = (bytes_eq-Decides found.item.name.bytes x).0 found.passes }

pub array_in_none : (arrays : List ArrayInfo) (x : Word) → array_in arrays x ≡ None → (k : ℕ) (a : ArrayInfo) → slice_get arrays k ≡ Some a → a.name.bytes ≡ x → ⊥
array_in_none arrays x e k a at same =
    let fails = none_from (has_name x) 0 arrays (sym (position_from-zero (has_name x) arrays) ∙ e) k a at in
    let passes = (bytes_eq-Decides a.name.bytes x).1 same in
    let no : true ≡ false = sym passes ∙ fails in
    let never : ⊥ = cc in never

pub array_in-array : (f : Frame) (k : ℕ) (a : ArrayInfo) → HasOwnNames f → slice_get f.arrays k ≡ Some a → array_in f.arrays a.name.bytes ≡ Some k
array_in-array f k a own at = by (array_in f.arrays a.name.bytes) refl where
  by : (o : Option ℕ) → array_in f.arrays a.name.bytes ≡ o → array_in f.arrays a.name.bytes ≡ Some k
  by None e = absurd (array_in_none f.arrays a.name.bytes e k a at refl)
  by (Some j) e =
      let is = array_in_is f.arrays a.name.bytes j e in
      let other = array_named f j is.array is.at ∙ ap (λ (z : Word). Some z) is.name in
      let same = own (length f.ints + j) (length f.ints + k) a.name.bytes other (array_named f k a at) in
      let place : j ≡ k = omega arith in
      e ∙ ap (λ (n : ℕ). Some n) place
