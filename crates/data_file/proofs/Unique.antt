-- A text gets one answer.
use Rattle.std.proofs.Common.{◌≡◌, ℕ, zero, suc, ◌<◌, ◌≤◌, List, length, Bool, true, false, Option, Some, None, Result, Ok, Err, refl, sym, ap, ◌∙◌, arith, ◌⊎◌, inl, inr}
use Rattle.std.specs.Str.Lines.{lines}
use Rattle.c_tree.specs.declared.frame.Frame.{Frame}
use Rattle.c_tree.specs.declared.frame.Inputs.{Inputs}
use Rattle.data_file.specs.declared.refusal.DataRefusal.{DataRefusal}
use Rattle.data_file.specs.declared.refusal.DataRefusal.TheVariants.{Syntax, OutOfRange, TooLarge, WrongCells, OutOfMemory}
use Rattle.data_file.specs.Answers.{Answers}
use Rattle.data_file.specs.Checks.{NonePasses, IsFirst, is_outside, is_too_large, has_wrong_cells, wanted_cells, given_cells}
use Rattle.data_file.specs.Conditions.{HasOwnNames}
use Rattle.data_file.specs.Reading.{inputs_in}
use Rattle.data_file.proofs.Whole.{inputs_in-means, inputs_in-bad, inputs_in-lacks}

-- the first number below n that passes
first_by : ℕ → Bool → Option ℕ → Option ℕ
first_by n b (Some k) = Some k
first_by n true None = Some n
first_by n false None = None

first_below : (ℕ → Bool) → ℕ → Option ℕ
first_below test zero = None
first_below test (suc n) = first_by n (test n) (first_below test n)

below-none : (test : ℕ → Bool) (n : ℕ) → NonePasses test n → first_below test n ≡ None
unfolding first_below first_by
below-none test zero h = refl
below-none test (suc n) h = ap (first_by n (test n)) (below-none test n (λ k lt. h k (omega arith))) ∙ ap (λ b. first_by n b None) (h n (omega arith))

below-first : (test : ℕ → Bool) (n k : ℕ) → IsFirst test n k → first_below test n ≡ Some k
unfolding first_below first_by
below-first test zero k h = absurd (let lt = h.below in omega arith)
below-first test (suc n) k h = at (cases_lt k n) (below-first test n k) where
  cases_lt : (m n : ℕ) → (m < n) ⊎ (n ≤ m)
  cases_lt m n = grind arith

  at : (k < n) ⊎ (n ≤ k) → (IsFirst test n k → first_below test n ≡ Some k) → first_by n (test n) (first_below test n) ≡ Some k
  at (inl lt) go = ap (first_by n (test n)) (go (record { below = lt; passes = h.passes; first = h.first }))
  at (inr le) go =
      let same : k ≡ n = let lt = h.below in omega arith in
      ap (first_by n (test n)) (below-none test n (λ j lt. h.first j (omega arith))) ∙ ap (λ b. first_by n b None) (ap test (sym same) ∙ h.passes) ∙ ap (λ (z : ℕ). Some z) (sym same)

by_cells : Frame → Inputs → Option ℕ → Result Inputs DataRefusal
by_cells f i None = Ok i
by_cells f i (Some k) = Err (WrongCells k (wanted_cells f i.ints k) (given_cells i.cells k))

by_size : Frame → Inputs → Option ℕ → Result Inputs DataRefusal
by_size f i None = by_cells f i (first_below (has_wrong_cells f i) (length f.arrays))
by_size f i (Some k) = Err (TooLarge k)

by_range : Frame → Inputs → Option ℕ → Result Inputs DataRefusal
by_range f i None = by_size f i (first_below (is_too_large f i.ints) (length f.arrays))
by_range f i (Some k) = Err (OutOfRange k)

decided : Frame → Result Inputs ℕ → Result Inputs DataRefusal
decided f (Err n) = Err (Syntax n)
decided f (Ok i) = by_range f i (first_below (is_outside f i.ints) (length f.ints))

module _ (f : Frame) (own : HasOwnNames f) (text : List ℕ) where
  decided_is : (r : Result Inputs DataRefusal) → Answers f text r → (r ≡ Err OutOfMemory → ⊥) → decided f (inputs_in f (lines text)) ≡ r
  unfolding decided by_range by_size by_cells
  decided_is (Ok i) a some =
      ap (decided f) (inputs_in-means f own text i a.means) ∙ ap (by_range f i) (below-none (is_outside f i.ints) (length f.ints) a.fits.within)
      ∙ ap (by_size f i) (below-none (is_too_large f i.ints) (length f.arrays) a.fits.few) ∙ ap (by_cells f i) (below-none (has_wrong_cells f i) (length f.arrays) a.fits.counted)
  decided_is (Err (Syntax n)) (inl b) some = ap (decided f) (inputs_in-bad f own text n b)
  decided_is (Err (Syntax n)) (inr l) some = ap (decided f) (inputs_in-lacks f own text n l)
  decided_is (Err (OutOfRange k)) a some =
      let i = a.inputs in
      ap (decided f) (inputs_in-means f own text i a.means) ∙ ap (by_range f i) (below-first (is_outside f i.ints) (length f.ints) k a.first)
  decided_is (Err (TooLarge k)) a some =
      let i = a.inputs in
      ap (decided f) (inputs_in-means f own text i a.means) ∙ ap (by_range f i) (below-none (is_outside f i.ints) (length f.ints) a.within)
      ∙ ap (by_size f i) (below-first (is_too_large f i.ints) (length f.arrays) k a.first)
  decided_is (Err (WrongCells k wanted given)) a some =
      let i = a.inputs in
      ap (decided f) (inputs_in-means f own text i a.means) ∙ ap (by_range f i) (below-none (is_outside f i.ints) (length f.ints) a.within)
      ∙ ap (by_size f i) (below-none (is_too_large f i.ints) (length f.arrays) a.few) ∙ ap (by_cells f i) (below-first (has_wrong_cells f i) (length f.arrays) k a.first)
      ∙ ap (λ (z : ℕ). Err (WrongCells k z (given_cells i.cells k))) (sym a.wants) ∙ ap (λ (z : ℕ). Err (WrongCells k wanted z)) (sym a.gives)
  decided_is (Err OutOfMemory) a some = absurd (some refl)

  pub one_answer : (r s : Result Inputs DataRefusal) → Answers f text r → Answers f text s → (r ≡ Err OutOfMemory → ⊥) → (s ≡ Err OutOfMemory → ⊥) → r ≡ s
  one_answer r s a b p q = sym (decided_is r a p) ∙ decided_is s b q

  pub one_other : (i : Inputs) (r : Result Inputs DataRefusal) → Answers f text (Ok i) → Answers f text r → (r ≡ Ok i) ⊎ (r ≡ Err OutOfMemory)
  one_other i (Ok j) a b = inl (one_answer (Ok j) (Ok i) b a (λ e. let no : ⊥ = cc in no) (λ e. let no : ⊥ = cc in no))
  one_other i (Err OutOfMemory) a b = inr refl
  one_other i (Err (Syntax n)) a b = inl (one_answer (Err (Syntax n)) (Ok i) b a (λ e. let no : ⊥ = cc in no) (λ e. let no : ⊥ = cc in no))
  one_other i (Err (OutOfRange k)) a b = inl (one_answer (Err (OutOfRange k)) (Ok i) b a (λ e. let no : ⊥ = cc in no) (λ e. let no : ⊥ = cc in no))
  one_other i (Err (TooLarge k)) a b = inl (one_answer (Err (TooLarge k)) (Ok i) b a (λ e. let no : ⊥ = cc in no) (λ e. let no : ⊥ = cc in no))
  one_other i (Err (WrongCells k m n)) a b = inl (one_answer (Err (WrongCells k m n)) (Ok i) b a (λ e. let no : ⊥ = cc in no) (λ e. let no : ⊥ = cc in no))
