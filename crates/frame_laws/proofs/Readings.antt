-- By frames that say the same a text gets the same answers.
use Rattle.std.proofs.Common.{◌≡◌, ◌⊎◌, ℕ, ◌+◌, ◌<◌, Bool, not, ◌==◌, nat_lt, List, [], ◌∷◌, length, slice_get, Result, Ok, Err, ℤ, inl, inr, sym, ap, ◌∙◌, subst}
use Rattle.std.specs.Str.Lines.{lines}
use Rattle.c_tree.specs.declared.frame.Frame.{Frame}
use Rattle.c_tree.specs.declared.frame.Inputs.{Inputs}
use Rattle.c_tree.specs.declared.name.Name.{Name}
use Rattle.data_file.specs.Answers.{FirstOutside, FirstTooLarge, FirstWrong, MeansFitting, Answers}
use Rattle.data_file.specs.Checks.{IsFirst, NonePasses, outside, is_outside, is_too_large, wanted_cells, given_cells, has_wrong_cells}
use Rattle.data_file.specs.Meaning.{IsCellsRow, IsRow, AreRows, rows_of, Means, IsBadLine, LacksRow}
use Rattle.data_file.specs.declared.refusal.DataRefusal.{DataRefusal}
use Rattle.data_file.specs.declared.refusal.DataRefusal.TheVariants.{Syntax, OutOfRange, TooLarge, WrongCells, OutOfMemory}
use Rattle.data_file.specs.declared.row.Row.{Row}
use Rattle.data_file.specs.declared.row.Row.TheVariants.{Value, Cells}
use Rattle.frame_laws.specs.Alike.{SayTheSame}
use Rattle.frame_laws.proofs.Lookups.{same_length, back, found, same_count}

-- ---- tests that agree

first_by : (p q : ℕ → Bool) (m n k : ℕ) → ((j : ℕ) → p j ≡ q j) → m ≡ n → IsFirst p m k → IsFirst q n k
first_by p q m n k same count h = record {
  below = subst (λ (l : ℕ). k < l) count h.below;
  passes = sym (same k) ∙ h.passes;
  first = λ j less. sym (same j) ∙ h.first j less;
}

none_by : (p q : ℕ → Bool) (m n : ℕ) → ((j : ℕ) → p j ≡ q j) → m ≡ n → NonePasses p m → NonePasses q n
none_by p q m n same count h = λ k less. sym (same k) ∙ h k (subst (λ (l : ℕ). k < l) (sym count) less)

-- ---- rows

row_by : (f g : Frame) → SayTheSame f g → (line : List ℕ) (k : ℕ) (r : Row) → IsRow f line k r → IsRow g line k r
row_by f g same line k (Value n) (p, at, is) = (p, ap (λ (xs : List (Name × ℤ × ℤ)). slice_get xs k) (sym same.ints) ∙ at, is)
row_by f g same line k (Cells ns) (a, j, number, at, is) =
    let b = found (length f.ints) f.arrays g.arrays j a same.arrays at in
    (b.0, j, number ∙ ap (λ (xs : List (Name × ℤ × ℤ)). length xs + j) same.ints, b.1, subst (λ (x : Name). IsCellsRow x.bytes line ns) b.2.name is)

rows_by : (f g : Frame) → SayTheSame f g → (ls : List (List ℕ)) (rows : List (ℕ × Row)) → AreRows f ls rows → AreRows g ls rows
rows_by f g same [] rows h = h
rows_by f g same (line ∷ ls) rows (inl (blank, rest)) = inl (blank, rows_by f g same ls rows rest)
rows_by f g same (line ∷ ls) rows (inr (k, r, others, parts, is, rest)) = inr (k, r, others, parts, row_by f g same line k r is, rows_by f g same ls others rest)

-- ---- texts

module _ (f g : Frame) (same : SayTheSame f g) (text : List ℕ) where
  arrays_count : length f.arrays ≡ length g.arrays
  arrays_count = same_length (length f.ints) f.arrays g.arrays same.arrays

  means_by : (i : Inputs) → Means f text i → Means g text i
  means_by i h = record {
    rows = h.rows;
    spelled = rows_by f g same (lines text) h.rows h.spelled;
    complete = record { values = h.complete.values ∙ ap length same.ints; cells = h.complete.cells ∙ arrays_count };
    values = h.values;
    cells = λ k ns at. ap (λ (xs : List (Name × ℤ × ℤ)). rows_of (length xs + k) h.rows) (sym same.ints) ∙ h.cells k ns at;
  }

  bad_by : (n : ℕ) → IsBadLine f text n → IsBadLine g text n
  bad_by n h = record {
    before = h.before;
    bad = h.bad;
    after = h.after;
    parts = h.parts;
    number = h.number;
    rows = h.rows;
    spelled = rows_by f g same h.before h.rows h.spelled;
    different = h.different;
    visible = h.visible;
    taken = λ k r is. h.taken k r (row_by g f (back f g same) h.bad k r is);
  }

  lacks_by : (n : ℕ) → LacksRow f text n → LacksRow g text n
  lacks_by n h = record {
    rows = h.rows;
    spelled = rows_by f g same (lines text) h.rows h.spelled;
    different = h.different;
    name = h.name;
    declared = subst (λ (m : ℕ). h.name < m) (ap (λ (xs : List (Name × ℤ × ℤ)). length xs + length f.arrays) same.ints ∙ ap (λ (m : ℕ). length g.ints + m) arrays_count) h.declared;
    absent = h.absent;
    number = h.number;
  }

  module _ (i : Inputs) (means : Means f text i) where
    same_outside : (k : ℕ) → is_outside f i.ints k ≡ is_outside g i.ints k
    same_outside k = ap (λ (xs : List (Name × ℤ × ℤ)). outside (slice_get xs k) (slice_get i.ints k)) same.ints

    same_wanted : (k : ℕ) → wanted_cells f i.ints k ≡ wanted_cells g i.ints k
    same_wanted k = same_count (length f.ints) f.arrays g.arrays i.ints means.complete.values same.arrays k

    same_large : (k : ℕ) → is_too_large f i.ints k ≡ is_too_large g i.ints k
    same_large k = ap (λ (n : ℕ). nat_lt 4194304 n) (same_wanted k)

    same_wrong : (k : ℕ) → has_wrong_cells f i k ≡ has_wrong_cells g i k
    same_wrong k = ap (λ (n : ℕ). not (n == given_cells i.cells k)) (same_wanted k)

    within_by : NonePasses (is_outside f i.ints) (length f.ints) → NonePasses (is_outside g i.ints) (length g.ints)
    within_by = none_by (is_outside f i.ints) (is_outside g i.ints) (length f.ints) (length g.ints) same_outside (ap length same.ints)

    few_by : NonePasses (is_too_large f i.ints) (length f.arrays) → NonePasses (is_too_large g i.ints) (length g.arrays)
    few_by = none_by (is_too_large f i.ints) (is_too_large g i.ints) (length f.arrays) (length g.arrays) same_large arrays_count

    counted_by : NonePasses (has_wrong_cells f i) (length f.arrays) → NonePasses (has_wrong_cells g i) (length g.arrays)
    counted_by = none_by (has_wrong_cells f i) (has_wrong_cells g i) (length f.arrays) (length g.arrays) same_wrong arrays_count

  fitting_by : (i : Inputs) → MeansFitting f text i → MeansFitting g text i
  fitting_by i h = record {
    means = means_by i h.means;
    fits = record { within = within_by i h.means h.fits.within; few = few_by i h.means h.fits.few; counted = counted_by i h.means h.fits.counted };
  }

  outside_by : (k : ℕ) → FirstOutside f text k → FirstOutside g text k
  outside_by k h = record {
    inputs = h.inputs;
    means = means_by h.inputs h.means;
    first = first_by (is_outside f h.inputs.ints) (is_outside g h.inputs.ints) (length f.ints) (length g.ints) k (same_outside h.inputs h.means) (ap length same.ints) h.first;
  }

  large_by : (k : ℕ) → FirstTooLarge f text k → FirstTooLarge g text k
  large_by k h = record {
    inputs = h.inputs;
    means = means_by h.inputs h.means;
    within = within_by h.inputs h.means h.within;
    first = first_by (is_too_large f h.inputs.ints) (is_too_large g h.inputs.ints) (length f.arrays) (length g.arrays) k (same_large h.inputs h.means) arrays_count h.first;
  }

  wrong_by : (k wanted given : ℕ) → FirstWrong f text k wanted given → FirstWrong g text k wanted given
  wrong_by k wanted given h = record {
    inputs = h.inputs;
    means = means_by h.inputs h.means;
    within = within_by h.inputs h.means h.within;
    few = few_by h.inputs h.means h.few;
    first = first_by (has_wrong_cells f h.inputs) (has_wrong_cells g h.inputs) (length f.arrays) (length g.arrays) k (same_wrong h.inputs h.means) arrays_count h.first;
    wants = h.wants ∙ same_wanted h.inputs h.means k;
    gives = h.gives;
  }

  bad_syntax_by : (n : ℕ) → IsBadLine f text n ⊎ LacksRow f text n → IsBadLine g text n ⊎ LacksRow g text n
  bad_syntax_by n (inl bad) = inl (bad_by n bad)
  bad_syntax_by n (inr lacks) = inr (lacks_by n lacks)

  pub answers_by : (r : Result Inputs DataRefusal) → Answers f text r → Answers g text r
  answers_by (Ok i) h = fitting_by i h
  answers_by (Err (Syntax n)) h = bad_syntax_by n h
  answers_by (Err (OutOfRange k)) h = outside_by k h
  answers_by (Err (TooLarge k)) h = large_by k h
  answers_by (Err (WrongCells k wanted given)) h = wrong_by k wanted given h
  answers_by (Err OutOfMemory) h = tt
