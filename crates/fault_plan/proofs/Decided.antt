-- Which answer a text gets.
use Rattle.std.proofs.Common.{◌≡◌, ℕ, ◌<◌, ◌≤◌, Bool, true, false, not, ◌==◌, nat_lt, List, length, Option, Some, None, Result, Ok, Err, refl, sym, ap, ◌∙◌, subst, arith, ◌⊎◌, inl, inr}
use Rattle.std.proofs.lemmas.Bool.{ltb-true, lt-ltb, ltb-false}
use Rattle.std.proofs.lemmas.Bool.Decides.{nat_tests}
use Rattle.std.proofs.lemmas.Option.{slice_get_within}
use Rattle.c_tree.specs.declared.frame.Frame.{Frame}
use Rattle.c_tree.specs.declared.frame.Inputs.{Inputs}
use Rattle.c_tree.specs.declared.run.Flip.{Flip}
use Rattle.data_file.specs.Checks.{wanted_cells, given_cells, Fits}
use Rattle.data_file.specs.Conditions.{HasOwnNames}
use Rattle.fault_plan.specs.Answers.{MeansFitting, SaysNone, NamesNone, LeavesCells, LeavesBits, Answers, IsAnswered}
use Rattle.fault_plan.specs.Meaning.{PlainFlip, Says, named, MeansFlip}
use Rattle.fault_plan.specs.Reading.{said, array_in}
use Rattle.fault_plan.specs.declared.refusal.FlipRefusal.{FlipRefusal}
use Rattle.fault_plan.specs.declared.refusal.FlipRefusal.TheVariants.{Syntax, UnknownArray, CellOutside, BitOutside, OutOfMemory}
use Rattle.fault_plan.proofs.ArrayNames.{array_in_is, array_in_none, array_in-array}
use Rattle.fault_plan.proofs.FlipTexts.{said_is, said-says}

-- the flip, in the array of this number
abbrev pub made : PlainFlip → ℕ → Flip
made flip k = record { array = k; cell = flip.cell; bit = flip.bit; place = flip.place }

-- ---- each answer where it is due

pub no_flip : (text : List ℕ) → said text ≡ None → SaysNone text
no_flip text e flip s = let full = sym e ∙ said-says text flip s in let no : ⊥ = cc in no

module _ (f : Frame) (text : List ℕ) (flip : PlainFlip) (says : said text ≡ Some flip) where
  pub no_array : array_in f.arrays flip.array ≡ None → NamesNone f text
  no_array e = record { flip = flip; says = said_is text flip says; unknown = λ k a at. array_in_none f.arrays flip.array e k a at }

  pub meant : (k : ℕ) → array_in f.arrays flip.array ≡ Some k → MeansFlip f text (made flip k)
  meant k e =
      let is = array_in_is f.arrays flip.array k e in
      record { array = is.array; declared = is.at; says = subst (λ x. Says text (named x (made flip k))) (sym is.name) (said_is text flip says) }

  pub array_below : (k : ℕ) → array_in f.arrays flip.array ≡ Some k → k < length f.arrays
  array_below k e = let is = array_in_is f.arrays flip.array k e in slice_get_within f.arrays k is.array is.at

  module _ (i : Inputs) (k : ℕ) (e : array_in f.arrays flip.array ≡ Some k) where
    pub no_cell : wanted_cells f i.ints k ≤ flip.cell → LeavesCells f i text
    no_cell outside = record { flip = made flip k; means = meant k e; outside = outside }

    pub no_bit : flip.cell < wanted_cells f i.ints k → 63 < flip.bit → LeavesBits f i text
    no_bit within outside = record { flip = made flip k; means = meant k e; within = within; outside = outside }

    pub fitting : flip.cell < wanted_cells f i.ints k → flip.bit ≤ 63 → MeansFitting f i text (made flip k)
    fitting within low = record { means = meant k e; fits = record { array = array_below k e; cell = within; bit = low } }

-- as many cells as the row has
pub counted : (f : Frame) (i : Inputs) (k : ℕ) → Fits f i → k < length f.arrays → wanted_cells f i.ints k ≡ given_cells i.cells k
counted f i k fits below = same (wanted_cells f i.ints k) (given_cells i.cells k) (fits.counted k below) where
  same : (m n : ℕ) → not (m == n) ≡ false → m ≡ n
  same m n h = grind (arith, nat_tests)

-- ---- an answer

module _ (f : Frame) (i : Inputs) (text : List ℕ) where
  some_by : (o : Option PlainFlip) → said text ≡ o → IsAnswered f i text
  some_by None says = inr (Syntax, record { answers = no_flip text says; cause = λ e. let no : ⊥ = cc in no })
  some_by (Some flip) says = by_array (array_in f.arrays flip.array) refl where
    by_bit : (k : ℕ) → array_in f.arrays flip.array ≡ Some k → flip.cell < wanted_cells f i.ints k → (v : Bool) → nat_lt 63 flip.bit ≡ v → IsAnswered f i text
    by_bit k at within true h = inr (BitOutside, record { answers = no_bit f text flip says i k at within (ltb-true 63 flip.bit h); cause = λ e. let no : ⊥ = cc in no })
    by_bit k at within false h = inl (made flip k, fitting f text flip says i k at within (ltb-false 63 flip.bit h))

    by_cell : (k : ℕ) → array_in f.arrays flip.array ≡ Some k → (v : Bool) → nat_lt flip.cell (wanted_cells f i.ints k) ≡ v → IsAnswered f i text
    by_cell k at false h =
        inr (CellOutside, record { answers = no_cell f text flip says i k at (ltb-false flip.cell (wanted_cells f i.ints k) h); cause = λ e. let no : ⊥ = cc in no })
    by_cell k at true h = by_bit k at (ltb-true flip.cell (wanted_cells f i.ints k) h) (nat_lt 63 flip.bit) refl

    by_array : (o : Option ℕ) → array_in f.arrays flip.array ≡ o → IsAnswered f i text
    by_array None at = inr (UnknownArray, record { answers = no_array f text flip says at; cause = λ e. let no : ⊥ = cc in no })
    by_array (Some k) at = by_cell k at (nat_lt flip.cell (wanted_cells f i.ints k)) refl

  pub some_answer : IsAnswered f i text
  some_answer = some_by (said text) refl

-- ---- one answer

bit_decides : PlainFlip → ℕ → Bool → Result Flip FlipRefusal
bit_decides flip k true = Err BitOutside
bit_decides flip k false = Ok (made flip k)

cell_decides : PlainFlip → ℕ → Bool → Result Flip FlipRefusal
cell_decides flip k true = bit_decides flip k (nat_lt 63 flip.bit)
cell_decides flip k false = Err CellOutside

array_decides : Frame → Inputs → PlainFlip → Option ℕ → Result Flip FlipRefusal
array_decides f i flip None = Err UnknownArray
array_decides f i flip (Some k) = cell_decides flip k (nat_lt flip.cell (wanted_cells f i.ints k))

text_decides : Frame → Inputs → Option PlainFlip → Result Flip FlipRefusal
text_decides f i None = Err Syntax
text_decides f i (Some flip) = array_decides f i flip (array_in f.arrays flip.array)

not_below : (m n : ℕ) → n ≤ m → nat_lt m n ≡ false
not_below m n h = grind (arith, nat_tests)

module _ (f : Frame) (own : HasOwnNames f) (i : Inputs) (text : List ℕ) where
  meant_decides : (flip : Flip) (m : MeansFlip f text flip) → text_decides f i (said text) ≡ cell_decides (named m.array.name.bytes flip) flip.array (nat_lt flip.cell (wanted_cells f i.ints flip.array))
  unfolding text_decides array_decides
  meant_decides flip m =
      ap (text_decides f i) (said-says text (named m.array.name.bytes flip) m.says) ∙ ap (array_decides f i (named m.array.name.bytes flip)) (array_in-array f flip.array m.array own m.declared)

  decided_is : (r : Result Flip FlipRefusal) → Answers f i text r → (r ≡ Err OutOfMemory → ⊥) → text_decides f i (said text) ≡ r
  unfolding text_decides array_decides cell_decides bit_decides
  decided_is (Ok flip) a some =
      let m = a.means in
      let flip_named = named m.array.name.bytes flip in
      meant_decides flip m ∙ ap (cell_decides flip_named flip.array) (lt-ltb flip.cell (wanted_cells f i.ints flip.array) a.fits.cell)
      ∙ ap (bit_decides flip_named flip.array) (not_below 63 flip.bit a.fits.bit)
  decided_is (Err Syntax) a some = by (said text) refl where
    by : (o : Option PlainFlip) → said text ≡ o → text_decides f i (said text) ≡ Err Syntax
    by None e = ap (text_decides f i) e
    by (Some flip) e = absurd (a flip (said_is text flip e))
  decided_is (Err UnknownArray) a some = ap (text_decides f i) (said-says text a.flip a.says) ∙ by (array_in f.arrays a.flip.array) refl where
    by : (o : Option ℕ) → array_in f.arrays a.flip.array ≡ o → array_decides f i a.flip (array_in f.arrays a.flip.array) ≡ Err UnknownArray
    by None e = ap (array_decides f i a.flip) e
    by (Some k) e = absurd (let is = array_in_is f.arrays a.flip.array k e in a.unknown k is.array is.at is.name)
  decided_is (Err CellOutside) a some =
      meant_decides a.flip a.means ∙ ap (cell_decides (named a.means.array.name.bytes a.flip) a.flip.array) (not_below a.flip.cell (wanted_cells f i.ints a.flip.array) a.outside)
  decided_is (Err BitOutside) a some =
      let flip_named = named a.means.array.name.bytes a.flip in
      meant_decides a.flip a.means ∙ ap (cell_decides flip_named a.flip.array) (lt-ltb a.flip.cell (wanted_cells f i.ints a.flip.array) a.within)
      ∙ ap (bit_decides flip_named a.flip.array) (lt-ltb 63 a.flip.bit a.outside)
  decided_is (Err OutOfMemory) a some = absurd (some refl)

  pub one_answer : (r s : Result Flip FlipRefusal) → Answers f i text r → Answers f i text s → (r ≡ Err OutOfMemory → ⊥) → (s ≡ Err OutOfMemory → ⊥) → r ≡ s
  one_answer r s a b p q = sym (decided_is r a p) ∙ decided_is s b q

  pub one_other : (flip : Flip) (r : Result Flip FlipRefusal) → Answers f i text (Ok flip) → Answers f i text r → (r ≡ Ok flip) ⊎ (r ≡ Err OutOfMemory)
  one_other flip (Err OutOfMemory) a b = inr refl
  one_other flip (Ok other) a b = inl (one_answer (Ok other) (Ok flip) b a (λ e. let no : ⊥ = cc in no) (λ e. let no : ⊥ = cc in no))
  one_other flip (Err Syntax) a b = inl (one_answer (Err Syntax) (Ok flip) b a (λ e. let no : ⊥ = cc in no) (λ e. let no : ⊥ = cc in no))
  one_other flip (Err UnknownArray) a b = inl (one_answer (Err UnknownArray) (Ok flip) b a (λ e. let no : ⊥ = cc in no) (λ e. let no : ⊥ = cc in no))
  one_other flip (Err CellOutside) a b = inl (one_answer (Err CellOutside) (Ok flip) b a (λ e. let no : ⊥ = cc in no) (λ e. let no : ⊥ = cc in no))
  one_other flip (Err BitOutside) a b = inl (one_answer (Err BitOutside) (Ok flip) b a (λ e. let no : ⊥ = cc in no) (λ e. let no : ⊥ = cc in no))
