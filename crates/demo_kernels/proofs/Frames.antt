-- The frames are those of the four units, and no name stands twice in one of them.
use Rattle.std.proofs.Common.{◌≡◌, ℕ, zero, suc, Bool, true, false, not, List, [], ◌∷◌, length, slice_get, Some, ℤ, pos, ◌+ℤ◌, ◌*ℤ◌, refl, arith, codes, sym, ap, ◌∙◌, subst}
use Rattle.std.proofs.lemmas.Int.{ints}
use Rattle.std.proofs.lemmas.Option.{same_Some}
use Rattle.std.proofs.lemmas.Slice.Eq.{bytes_eq-Decides}
use Rattle.std.specs.List.{list_any}
use Rattle.std.specs.Prelude.{◌&&◌, ◌||◌}
use Rattle.std.specs.Str.{bytes_eq}
use Rattle.acceptance.specs.WorkedSources.{shift, product_of, jacobi, gather}
use Rattle.c_tree.specs.Arrays.{vars_of}
use Rattle.c_tree.specs.Plain.{Word, PlainParam, var}
use Rattle.c_tree.specs.Values.{value_in}
use Rattle.data_file.specs.Checks.{sum_value}
use Rattle.data_file.specs.Conditions.{HasOwnNames, names_in}
use Rattle.data_file.specs.Frames.{IsExtent, IsFrameOf}
use Rattle.data_file.specs.Samples.{line_frame, variable}
use Rattle.demo_kernels.specs.Kernels.{product_frame, jacobi_frame, gather_frame}

-- ---- sums of one parameter

term : (x : ℤ) → pos 0 +ℤ pos 1 *ℤ x ≡ x
term x = omega (arith, ints)

abbrev Value : List PlainParam → ℕ → ℕ → Word → Type 0
Value ps count v x = (ns : List ℤ) → length ns ≡ count → sum_value ns (variable v) ≡ value_in (vars_of ps ns) x

shift_n : Value shift.params 1 1 (codes "n")
shift_n [] e = absurd (omega arith)
shift_n (a ∷ []) e = term a
shift_n (a ∷ b ∷ more) e = absurd (omega arith)

product_n : Value (product_of (codes "n")).params 1 1 (codes "n")
product_n [] e = absurd (omega arith)
product_n (a ∷ []) e = term a
product_n (a ∷ b ∷ more) e = absurd (omega arith)

jacobi_n : Value jacobi.params 2 2 (codes "n")
jacobi_n [] e = absurd (omega arith)
jacobi_n (a ∷ []) e = absurd (omega arith)
jacobi_n (a ∷ b ∷ []) e = term b
jacobi_n (a ∷ b ∷ c ∷ more) e = absurd (omega arith)

gather_n : Value gather.params 2 1 (codes "n")
gather_n [] e = absurd (omega arith)
gather_n (a ∷ []) e = absurd (omega arith)
gather_n (a ∷ b ∷ []) e = term a
gather_n (a ∷ b ∷ c ∷ more) e = absurd (omega arith)

gather_m : Value gather.params 2 2 (codes "m")
gather_m [] e = absurd (omega arith)
gather_m (a ∷ []) e = absurd (omega arith)
gather_m (a ∷ b ∷ []) e = term b
gather_m (a ∷ b ∷ c ∷ more) e = absurd (omega arith)

-- ---- the frames

pub shift_frame_is : IsFrameOf shift line_frame
shift_frame_is = record { ints = (refl, refl, tt); arrays = (refl, refl, (record { value = shift_n }, tt), tt) }

square : IsExtent (product_of (codes "n")).params 1 (var (codes "n")) (variable 1)
square = record { value = product_n }

pub product_frame_is : IsFrameOf (product_of (codes "n")) product_frame
product_frame_is = record {
  ints = (refl, refl, tt);
  arrays = (refl, refl, (square, (square, tt)), (refl, refl, (square, (square, tt)), (refl, refl, (square, (square, tt)), tt)));
}

pub jacobi_frame_is : IsFrameOf jacobi jacobi_frame
jacobi_frame_is = record {
  ints = (refl, refl, (refl, refl, tt));
  arrays = (refl, refl, (record { value = jacobi_n }, tt), (refl, refl, (record { value = jacobi_n }, tt), tt));
}

pub gather_frame_is : IsFrameOf gather gather_frame
gather_frame_is = record {
  ints = (refl, refl, (refl, refl, tt));
  arrays = (refl, refl, (record { value = gather_n }, tt), (refl, refl, (record { value = gather_m }, tt), (refl, refl, (record { value = gather_n }, tt), tt)));
}

-- ---- names

-- no word stands twice in the list
abbrev distinct : List Word → Bool
distinct [] = true
distinct (x ∷ xs) = not (list_any (bytes_eq x) xs) && distinct xs

parts : (a b : Bool) → (not a && b) ≡ true → (a ≡ false) × (b ≡ true)
parts true b h = absurd (cc)
parts false b h = (refl, h)

found : (xs : List Word) (k : ℕ) (x : Word) → slice_get xs k ≡ Some x → list_any (bytes_eq x) xs ≡ true
found [] k x h = absurd (let no : ⊥ = cc in no)
found (y ∷ xs) zero x h = ap (λ b. b || list_any (bytes_eq x) xs) ((bytes_eq-Decides x y).1 (sym (same_Some y x h)))
found (y ∷ xs) (suc k) x h = or_true (bytes_eq x y) (list_any (bytes_eq x) xs) (found xs k x h) where
  or_true : (a b : Bool) → b ≡ true → (a || b) ≡ true
  or_true true b e = refl
  or_true false b e = e

pub own : (xs : List Word) → distinct xs ≡ true → (j k : ℕ) (x : Word) → slice_get xs j ≡ Some x → slice_get xs k ≡ Some x → j ≡ k
own [] h j k x p q = absurd (let no : ⊥ = cc in no)
own (y ∷ xs) h zero zero x p q = refl
own (y ∷ xs) h zero (suc k) x p q =
    let once = (parts (list_any (bytes_eq y) xs) (distinct xs) h).0 in
    let twice = subst (λ w. list_any (bytes_eq w) xs ≡ true) (sym (same_Some y x p)) (found xs k x q) in let bad : true ≡ false = sym twice ∙ once in absurd (let no : ⊥ = cc in no)
own (y ∷ xs) h (suc j) zero x p q =
    let once = (parts (list_any (bytes_eq y) xs) (distinct xs) h).0 in
    let twice = subst (λ w. list_any (bytes_eq w) xs ≡ true) (sym (same_Some y x q)) (found xs j x p) in let bad : true ≡ false = sym twice ∙ once in absurd (let no : ⊥ = cc in no)
own (y ∷ xs) h (suc j) (suc k) x p q = ap suc (own xs (parts (list_any (bytes_eq y) xs) (distinct xs) h).1 j k x p q)

pub shift_names : HasOwnNames line_frame
shift_names = own (names_in line_frame) refl

pub product_names : HasOwnNames product_frame
product_names = own (names_in product_frame) refl

pub jacobi_names : HasOwnNames jacobi_frame
jacobi_names = own (names_in jacobi_frame) refl

pub gather_names : HasOwnNames gather_frame
gather_names = own (names_in gather_frame) refl
