-- The whole text: which inputs it carries, and which line is bad.
use Rattle.std.proofs.Common.{◌≡◌, ℕ, ◌+◌, ◌<◌, ◌≤◌, List, [], ◌∷◌, length, Option, Some, None, Result, Ok, Err, refl, sym, ap, ◌∙◌, subst, arith, ◌⊎◌, inl, inr, nat_eq, false}
use Rattle.std.proofs.lemmas.Bool.Decides.{nat_tests}
use Rattle.std.specs.Str.Lines.{lines}
use Rattle.c_tree.specs.declared.frame.Frame.{Frame}
use Rattle.c_tree.specs.declared.frame.Inputs.{Inputs}
use Rattle.data_file.specs.Conditions.{names_in, HasOwnNames}
use Rattle.data_file.specs.declared.refusal.DataRefusal.{DataRefusal}
use Rattle.data_file.specs.declared.refusal.DataRefusal.TheVariants.{Syntax, OutOfRange, TooLarge, WrongCells, OutOfMemory}
use Rattle.data_file.specs.Answers.{Answers}
use Rattle.data_file.specs.Outcome.{Finds}
use Rattle.data_file.specs.Meaning.{AreRows, rows_of, Means, IsBadLine, LacksRow}
use Rattle.data_file.specs.Reading.{Slots, with_lines, no_rows, inputs_from, inputs_or, inputs_by, inputs_in}
use Rattle.data_file.proofs.RowLaws.{row_named}
use Rattle.data_file.proofs.TextLaws.{Seen, once, line_none, rows_of-other}
use Rattle.data_file.proofs.LinesLaws.{lines_ok, lines_err, lines-rows, lines-stop, nothing_held}
use Rattle.data_file.proofs.CarriedInputs.{Carries, carried, lacking, has_row, inputs_from-carried, inputs_from-lacking, length-names_in}

same_Ok : {A B : Type 0} (x y : A) → ◌≡◌ {A = Result A B} (Ok x) (Ok y) → x ≡ y
same_Ok x y e = cc

same_Err : {A B : Type 0} (x y : B) → ◌≡◌ {A = Result A B} (Err x) (Err y) → x ≡ y
same_Err x y e = cc

module _ (f : Frame) (own : HasOwnNames f) (text : List ℕ) where
  -- the slots after all lines
  after : Result Slots ℕ
  after = with_lines (length f.ints) (names_in f) (no_rows f) 0 (lines text)

  found_by : (i : Inputs) (slots : Slots) (o : Option Inputs) → after ≡ Ok slots → inputs_from [] [] slots ≡ o → inputs_or (length (lines text) + 1) o ≡ Ok i → Means f text i
  unfolding after
  found_by i slots None e o h = absurd (let no : ⊥ = cc in no)
  found_by i slots (Some j) e o h =
      let r = lines_ok f own (lines text) (no_rows f) slots [] 0 (nothing_held f) e in
      let c = subst (Carries f r.rows) (same_Ok j i h) (carried f slots r.rows j r.holds o) in
      record { rows = r.rows; spelled = r.spelled; complete = c.complete; values = c.values; cells = c.cells }

  means_by : (i : Inputs) (r : Result Slots ℕ) → after ≡ r → inputs_by (length (lines text) + 1) r ≡ Ok i → Means f text i
  means_by i (Ok slots) e h = found_by i slots (inputs_from [] [] slots) e refl h
  means_by i (Err n) e h = absurd (let no : ⊥ = cc in no)

  pub inputs_mean : (i : Inputs) → inputs_in f (lines text) ≡ Ok i → Means f text i
  unfolding inputs_in after
  inputs_mean i h = means_by i after refl h

  lacks_by : (n : ℕ) (slots : Slots) (o : Option Inputs) → after ≡ Ok slots → inputs_from [] [] slots ≡ o → inputs_or (length (lines text) + 1) o ≡ Err n → LacksRow f text n
  unfolding after
  lacks_by n slots (Some j) e o h = absurd (let no : ⊥ = cc in no)
  lacks_by n slots None e o h =
      let r = lines_ok f own (lines text) (no_rows f) slots [] 0 (nothing_held f) e in
      let l = lacking f slots r.rows r.holds o in
      record {
        rows = r.rows;
        spelled = r.spelled;
        different = once f slots r.rows r.holds;
        name = l.0;
        declared = l.1;
        absent = l.2;
        number = sym (same_Err (length (lines text) + 1) n h);
      }

  stops_by : (n m : ℕ) → after ≡ Err m → m ≡ n → IsBadLine f text n
  unfolding after
  stops_by n m e same =
      let s = lines_err f own (lines text) (no_rows f) [] 0 m (nothing_held f) e in
      let none = line_none f own s.slots s.rows s.bad s.holds s.none in
      record {
        before = s.before;
        bad = s.bad;
        after = s.after;
        parts = s.parts;
        number = omega (arith, s.number, same);
        rows = s.rows;
        spelled = s.spelled;
        different = once f s.slots s.rows s.holds;
        visible = none.0;
        taken = none.1;
      }

  bad_by : (n : ℕ) (r : Result Slots ℕ) → after ≡ r → inputs_by (length (lines text) + 1) r ≡ Err n → IsBadLine f text n ⊎ LacksRow f text n
  bad_by n (Ok slots) e h = inr (lacks_by n slots (inputs_from [] [] slots) e refl h)
  bad_by n (Err m) e h = inl (stops_by n m e (same_Err m n h))

  pub bad_inputs : (n : ℕ) → inputs_in f (lines text) ≡ Err n → IsBadLine f text n ⊎ LacksRow f text n
  unfolding inputs_in after
  bad_inputs n h = bad_by n after refl h

-- ---- and back

no_such_row : (f : Frame) (ls : List (List ℕ)) (rows : Seen) (k : ℕ) → AreRows f ls rows → length (names_in f) ≤ k → rows_of k rows ≡ []
no_such_row f [] rows k s le = ap (rows_of k) s
no_such_row f (line ∷ more) rows k (inl b) le = no_such_row f more rows k b.1 le
no_such_row f (line ∷ more) rows k (inr t) le =
    ap (rows_of k) t.3 ∙ rows_of-other k t.0 t.1 t.2 (apart t.0 (row_named f line t.0 t.1 t.4)) ∙ no_such_row f more t.2 k t.5 le
  where
    apart : (j : ℕ) → j < length (names_in f) → nat_eq j k ≡ false
    apart j lt = grind (arith, nat_tests)

few_rows : (f : Frame) (ls : List (List ℕ)) (rows : Seen) (i : Inputs) → AreRows f ls rows → Carries f rows i → (k : ℕ) → length (rows_of k rows) ≤ 1
few_rows f ls rows i s c k = at (cases_le (length (names_in f)) k) where
  cases_le : (m n : ℕ) → (m ≤ n) ⊎ (n < m)
  cases_le m n = grind arith

  at : (length (names_in f) ≤ k) ⊎ (k < length (names_in f)) → length (rows_of k rows) ≤ 1
  at (inl le) = omega (arith, ap length (no_such_row f ls rows k s le))
  at (inr lt) = omega (arith, has_row f rows i k c (omega (arith, length-names_in f)))

pub means_carries : (f : Frame) (text : List ℕ) (i : Inputs) (m : Means f text i) → Carries f m.rows i
means_carries f text i m = record { complete = m.complete; values = m.values; cells = m.cells }

module _ (f : Frame) (own : HasOwnNames f) (text : List ℕ) where
  pub inputs_in-means : (i : Inputs) → Means f text i → inputs_in f (lines text) ≡ Ok i
  unfolding inputs_in
  inputs_in-means i m =
      let c = means_carries f text i m in
      let r = lines-rows f own (lines text) m.rows (no_rows f) [] 0 m.spelled (nothing_held f) (few_rows f (lines text) m.rows i m.spelled c) in
      ap (inputs_by (length (lines text) + 1)) r.1 ∙ ap (inputs_or (length (lines text) + 1)) (inputs_from-carried f r.0 m.rows i r.2 c)

  pub inputs_in-bad : (n : ℕ) → IsBadLine f text n → inputs_in f (lines text) ≡ Err n
  unfolding inputs_in
  inputs_in-bad n b =
      let stop = lines-stop f own b.before b.bad b.after b.rows (no_rows f) 0 b.spelled (nothing_held f) b.different b.visible b.taken in
      let number : 0 + length b.before + 1 ≡ n = omega (arith, b.number) in
      ap (λ z. inputs_by (length (lines text) + 1) (with_lines (length f.ints) (names_in f) (no_rows f) 0 z)) b.parts
      ∙ ap (inputs_by (length (lines text) + 1)) stop ∙ ap (λ (z : ℕ). Err z) number

  pub inputs_in-lacks : (n : ℕ) → LacksRow f text n → inputs_in f (lines text) ≡ Err n
  unfolding inputs_in
  inputs_in-lacks n l =
      let r = lines-rows f own (lines text) l.rows (no_rows f) [] 0 l.spelled (nothing_held f) l.different in
      ap (inputs_by (length (lines text) + 1)) r.1
      ∙ ap (inputs_or (length (lines text) + 1)) (inputs_from-lacking f r.0 l.rows l.name r.2 l.declared l.absent) ∙ ap (λ (z : ℕ). Err z) (sym l.number)

-- ---- a refusal that reading gives

pub refused : (f : Frame) (own : HasOwnNames f) (text : List ℕ) (e : DataRefusal) → Finds (Err e) (inputs_in f (lines text)) → Answers f text (Err e)
refused f own text (Syntax n) h = bad_inputs f own text n h
refused f own text (OutOfRange k) h = absurd h
refused f own text (TooLarge k) h = absurd h
refused f own text (WrongCells k wanted given) h = absurd h
refused f own text OutOfMemory h = tt
