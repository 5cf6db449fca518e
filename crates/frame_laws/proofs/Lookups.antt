-- What is found in lists of arrays that are alike.
use Rattle.std.proofs.Common.{◌≡◌, ℕ, zero, suc, List, [], ◌∷◌, length, slice_get, Some, ℤ, refl, sym, ap, subst}
use Rattle.std.proofs.lemmas.Option.{same_Some}
use Rattle.c_tree.specs.Arrays.{cell_count}
use Rattle.c_tree.specs.declared.frame.ArrayInfo.{ArrayInfo}
use Rattle.c_tree.specs.declared.frame.Frame.{Frame}
use Rattle.data_file.specs.Checks.{count_in}
use Rattle.frame_laws.specs.Alike.{IsLike, AreLike, SayTheSame}

pub same_length : (n : ℕ) (xs ys : List ArrayInfo) → AreLike n xs ys → length xs ≡ length ys
same_length n [] [] h = refl
same_length n [] (y ∷ ys) h = absurd h
same_length n (x ∷ xs) [] h = absurd h
same_length n (x ∷ xs) (y ∷ ys) h = ap suc (same_length n xs ys h.1)

pub backwards : (n : ℕ) (xs ys : List ArrayInfo) → AreLike n xs ys → AreLike n ys xs
backwards n [] [] h = tt
backwards n [] (y ∷ ys) h = absurd h
backwards n (x ∷ xs) [] h = absurd h
backwards n (x ∷ xs) (y ∷ ys) h = (
  record { name = sym h.0.name; constant = sym h.0.constant; extents = λ ns count. sym (h.0.extents ns count) },
  backwards n xs ys h.1,
)

pub back : (f g : Frame) → SayTheSame f g → SayTheSame g f
back f g same = record {
  ints = sym same.ints;
  arrays = subst (λ (n : ℕ). AreLike n g.arrays f.arrays) (ap length same.ints) (backwards (length f.ints) f.arrays g.arrays same.arrays);
}

-- the array at the same place
pub found : (n : ℕ) (xs ys : List ArrayInfo) (k : ℕ) (a : ArrayInfo) → AreLike n xs ys → slice_get xs k ≡ Some a → (b : ArrayInfo) × (slice_get ys k ≡ Some b) × IsLike n a b
found n [] [] k a h at = absurd (let no : ⊥ = cc in no)
found n [] (y ∷ ys) k a h at = absurd h
found n (x ∷ xs) [] k a h at = absurd h
found n (x ∷ xs) (y ∷ ys) zero a h at = (y, refl, subst (λ (b : ArrayInfo). IsLike n b y) (same_Some x a at) h.0)
found n (x ∷ xs) (y ∷ ys) (suc k) a h at = found n xs ys k a h.1 at

pub same_count : (n : ℕ) (xs ys : List ArrayInfo) (ns : List ℤ) → length ns ≡ n → AreLike n xs ys → (k : ℕ) → count_in ns (slice_get xs k) ≡ count_in ns (slice_get ys k)
same_count n [] [] ns count h k = refl
same_count n [] (y ∷ ys) ns count h k = absurd h
same_count n (x ∷ xs) [] ns count h k = absurd h
same_count n (x ∷ xs) (y ∷ ys) ns count h zero = ap cell_count (h.0.extents ns count)
same_count n (x ∷ xs) (y ∷ ys) ns count h (suc k) = same_count n xs ys ns count h.1 k
