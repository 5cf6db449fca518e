-- What the calls ask of a frame, of inputs and of the end of a run.
use Rattle.std.specs.Prelude.{◌≡◌, ◌≤◌, ◌<◌, ℕ, ℤ, List, ◌++◌, map, length, slice_get, Some, ◌^◌, unsigned_abs}
use Rattle.std.specs.List.{AllByRecursion}
use Rattle.c_tree.specs.Plain.{Word}
use Rattle.c_tree.specs.declared.affine.Affine.{Affine}
use Rattle.c_tree.specs.declared.name.Name.{Name}
use Rattle.c_tree.specs.declared.frame.Frame.{Frame}
use Rattle.c_tree.specs.declared.frame.Inputs.{Inputs}
use Rattle.c_tree.specs.declared.frame.ArrayInfo.{ArrayInfo}
use Rattle.c_tree.specs.declared.run.Ended.{Ended}
use Rattle.c_tree.specs.declared.run.Verdict.{Verdict}
use Rattle.c_tree.specs.declared.run.Verdict.TheVariants.{Plain, Balanced, Fault, Index, Outside}

-- a value for each parameter, and cells for each array
pub record HasRows (f : Frame) (i : Inputs) : Type 0 where
  pub values : length i.ints ≡ length f.ints
  pub cells : length i.cells ≡ length f.arrays

-- the verdict names no array but the first n
abbrev pub NamesBelow : ℕ → Verdict → Type 0
NamesBelow n Plain = Unit {0}
NamesBelow n Balanced = Unit {0}
NamesBelow n (Fault ks) = AllByRecursion (λ k. k < n) ks
NamesBelow n (Index k) = k < n
NamesBelow n (Outside k) = k < n

-- the end of a run with the arrays of this frame
pub record IsEndOf (f : Frame) (e : Ended) : Type 0 where
  pub cells : length e.arrays ≡ length f.arrays
  pub names : NamesBelow (length f.arrays) e.verdict

abbrev pub names_in : Frame → List Word
names_in f = map (λ (p : Name × ℤ × ℤ). p.0.bytes) f.ints ++ map (λ (a : ArrayInfo). a.name.bytes) f.arrays

-- no name is declared twice
abbrev pub HasOwnNames : Frame → Type 0
HasOwnNames f = (j k : ℕ) (x : Word) → slice_get (names_in f) j ≡ Some x → slice_get (names_in f) k ≡ Some x → j ≡ k

-- a sum whose constant and coefficients lie within -2^20 to 2^20
pub record IsSmallSum (a : Affine) : Type 0 where
  pub constant_small : unsigned_abs a.constant ≤ 2 ^ 20
  pub terms_small : (k : ℕ) (t : ℕ × ℤ) → slice_get a.terms k ≡ Some t → unsigned_abs t.1 ≤ 2 ^ 20

-- A frame: no name is declared twice, ranges lie within -2^40 to 2^40, and extents are small sums.
pub record IsFrame (f : Frame) : Type 0 where
  pub names : HasOwnNames f
  pub ranges : (k : ℕ) (p : Name × ℤ × ℤ) → slice_get f.ints k ≡ Some p → (unsigned_abs p.1 ≤ 2 ^ 40) × (unsigned_abs p.2 ≤ 2 ^ 40)
  pub extents : (k : ℕ) (a : ArrayInfo) → slice_get f.arrays k ≡ Some a → (j : ℕ) (e : Affine) → slice_get a.extents j ≡ Some e → IsSmallSum e

-- values within -2^40 to 2^40
abbrev pub AreSmall : List ℤ → Type 0
AreSmall ints = (k : ℕ) (n : ℤ) → slice_get ints k ≡ Some n → unsigned_abs n ≤ 2 ^ 40
