-- All lines of a text: they are read exactly where they are blank or rows of different names.
use Rattle.std.proofs.Common.{◌≡◌, ℕ, zero, suc, ◌+◌, ◌<◌, ◌≤◌, List, [], ◌∷◌, ◌++◌, length, replicate, slice_get, Option, Some, None, Result, Ok, Err, refl, sym, ap, ◌∙◌, subst, arith, inl, inr, append_assoc, append-nil, length-append}
use Rattle.std.proofs.lemmas.List.{length-replicate}
use Rattle.std.proofs.lemmas.Option.{same_Some}
use Rattle.std.specs.Option.{option_to_list}
use Rattle.c_tree.specs.declared.frame.Frame.{Frame}
use Rattle.data_file.specs.declared.row.Row.{Row}
use Rattle.data_file.specs.Conditions.{names_in, HasOwnNames}
use Rattle.data_file.specs.Meaning.{IsBlank, IsRow, AreRows, rows_of}
use Rattle.data_file.specs.Reading.{Slots, with_line, lines_by, with_lines, no_rows}
use Rattle.data_file.proofs.TextLaws.{Seen, Holds, Taken, line_is, line-blank, line-row, line-taken, rows_of-append, rows_of-own}

pub record Read (f : Frame) (ls : List (List ℕ)) (seen : Seen) (next : Slots) : Type 0 where
  pub rows : Seen
  pub spelled : AreRows f ls rows
  pub holds : Holds f next (seen ++ rows)

-- the first line that isn't read
pub record Stops (f : Frame) (ls : List (List ℕ)) (seen : Seen) (n m : ℕ) : Type 0 where
  pub before : List (List ℕ)
  pub bad : List ℕ
  pub after : List (List ℕ)
  pub parts : ls ≡ before ++ (bad ∷ after)
  pub rows : Seen
  pub spelled : AreRows f before rows
  pub slots : Slots
  pub holds : Holds f slots (seen ++ rows)
  pub none : with_line (length f.ints) (names_in f) slots bad ≡ None
  pub number : m ≡ n + (length before + 1)

same_Ok : {A B : Type 0} (x y : A) → ◌≡◌ {A = Result A B} (Ok x) (Ok y) → x ≡ y
same_Ok x y e = cc

same_Err : {A B : Type 0} (x y : B) → ◌≡◌ {A = Result A B} (Err x) (Err y) → x ≡ y
same_Err x y e = cc

module _ (f : Frame) (own : HasOwnNames f) where
  read_more : (line : List ℕ) (more : List (List ℕ)) (slots s next : Slots) (seen : Seen) → Taken f slots seen line s → Holds f slots seen
      → ((now : Seen) → Holds f s now → Read f more now next) → Read f (line ∷ more) seen next
  read_more line more slots s next seen (inl b) h go =
      let r = go seen (subst (λ (z : Slots). Holds f z seen) b.1 h) in
      record { rows = r.rows; spelled = inl (b.0, r.spelled); holds = r.holds }
  read_more line more slots s next seen (inr t) h go =
      let r = go (seen ++ (t.0, t.1) ∷ []) t.3 in
      record {
        rows = (t.0, t.1) ∷ r.rows;
        spelled = inr (t.0, t.1, r.rows, refl, t.2, r.spelled);
        holds = subst (λ (z : Seen). Holds f next z) (append_assoc seen ((t.0, t.1) ∷ []) r.rows) r.holds;
      }

  pub lines_ok : (ls : List (List ℕ)) (slots next : Slots) (seen : Seen) (n : ℕ) → Holds f slots seen → with_lines (length f.ints) (names_in f) slots n ls ≡ Ok next → Read f ls seen next
  unfolding with_lines
  lines_ok [] slots next seen n h e =
      record { rows = []; spelled = refl; holds = subst (λ (z : Seen). Holds f next z) (sym (append-nil seen)) (subst (λ (z : Slots). Holds f z seen) (same_Ok slots next e) h) }
  lines_ok (line ∷ more) slots next seen n h e =
      by (with_line (length f.ints) (names_in f) slots line) refl (λ s now g e2. lines_ok more s next now (n + 1) g e2) e where
        by : (o : Option Slots) → with_line (length f.ints) (names_in f) slots line ≡ o
            → ((s : Slots) (now : Seen) → Holds f s now → with_lines (length f.ints) (names_in f) s (n + 1) more ≡ Ok next → Read f more now next)
            → lines_by (λ s. with_lines (length f.ints) (names_in f) s (n + 1) more) (n + 1) o ≡ Ok next → Read f (line ∷ more) seen next
        by None e go r = absurd (let no : ⊥ = cc in no)
        by (Some s) e go r = read_more line more slots s next seen (line_is f own slots s seen line h e) h (λ now g. go s now g r)

  stops_more : (line : List ℕ) (more : List (List ℕ)) (slots s : Slots) (seen : Seen) (n m : ℕ) → Taken f slots seen line s → Holds f slots seen
      → ((now : Seen) → Holds f s now → Stops f more now (n + 1) m) → Stops f (line ∷ more) seen n m
  stops_more line more slots s seen n m (inl b) h go =
      let r = go seen (subst (λ (z : Slots). Holds f z seen) b.1 h) in
      record {
        before = line ∷ r.before;
        bad = r.bad;
        after = r.after;
        parts = ap (λ z. line ∷ z) r.parts;
        rows = r.rows;
        spelled = inl (b.0, r.spelled);
        slots = r.slots;
        holds = r.holds;
        none = r.none;
        number = omega (arith, r.number);
      }
  stops_more line more slots s seen n m (inr t) h go =
      let r = go (seen ++ (t.0, t.1) ∷ []) t.3 in
      record {
        before = line ∷ r.before;
        bad = r.bad;
        after = r.after;
        parts = ap (λ z. line ∷ z) r.parts;
        rows = (t.0, t.1) ∷ r.rows;
        spelled = inr (t.0, t.1, r.rows, refl, t.2, r.spelled);
        slots = r.slots;
        holds = subst (λ (z : Seen). Holds f r.slots z) (append_assoc seen ((t.0, t.1) ∷ []) r.rows) r.holds;
        none = r.none;
        number = omega (arith, r.number);
      }

  pub lines_err : (ls : List (List ℕ)) (slots : Slots) (seen : Seen) (n m : ℕ) → Holds f slots seen → with_lines (length f.ints) (names_in f) slots n ls ≡ Err m → Stops f ls seen n m
  unfolding with_lines
  lines_err [] slots seen n m h e = absurd (let no : ⊥ = cc in no)
  lines_err (line ∷ more) slots seen n m h e =
      by (with_line (length f.ints) (names_in f) slots line) refl (λ s now g e2. lines_err more s now (n + 1) m g e2) e where
        by : (o : Option Slots) → with_line (length f.ints) (names_in f) slots line ≡ o
            → ((s : Slots) (now : Seen) → Holds f s now → with_lines (length f.ints) (names_in f) s (n + 1) more ≡ Err m → Stops f more now (n + 1) m)
            → lines_by (λ s. with_lines (length f.ints) (names_in f) s (n + 1) more) (n + 1) o ≡ Err m → Stops f (line ∷ more) seen n m
        by None e go r = record {
          before = [];
          bad = line;
          after = more;
          parts = refl;
          rows = [];
          spelled = refl;
          slots = slots;
          holds = subst (λ (z : Seen). Holds f slots z) (sym (append-nil seen)) h;
          none = e;
          number = let same = same_Err (n + 1) m r in omega (arith, same);
        }
        by (Some s) e go r = stops_more line more slots s seen n m (line_is f own slots s seen line h e) h (λ now g. go s now g r)

  -- lines of different names are read
  pub lines-rows : (ls : List (List ℕ)) (rows : Seen) (slots : Slots) (seen : Seen) (n : ℕ) → AreRows f ls rows → Holds f slots seen → ((k : ℕ) → length (rows_of k (seen ++ rows)) ≤ 1)
      → (next : Slots) × (with_lines (length f.ints) (names_in f) slots n ls ≡ Ok next) × Holds f next (seen ++ rows)
  unfolding with_lines
  lines-rows [] rows slots seen n s h few =
      (slots, refl, subst (λ (z : Seen). Holds f slots z) (sym (append-nil seen) ∙ ap (λ z. seen ++ z) (sym s)) h)
  lines-rows (line ∷ more) rows slots seen n (inl b) h few =
      let r = lines-rows more rows slots seen (n + 1) b.1 h few in
      (r.0, ap (lines_by (λ s. with_lines (length f.ints) (names_in f) s (n + 1) more) (n + 1)) (line-blank f own slots line b.0) ∙ r.1, r.2)
  lines-rows (line ∷ more) rows slots seen n (inr t) h few =
      let k = t.0 in
      let here : seen ++ rows ≡ seen ++ ((k, t.1) ∷ t.2) = ap (λ z. seen ++ z) t.3 in
      let count = ap length (ap (rows_of k) here ∙ rows_of-append k seen ((k, t.1) ∷ t.2) ∙ ap (λ z. rows_of k seen ++ z) (rows_of-own k t.1 t.2)) in
      let none : rows_of k seen ≡ [] = empty (rows_of k seen) (omega (arith, few k, count, length-append (rows_of k seen) (t.1 ∷ rows_of k t.2))) in
      let taken = line-row f own slots seen line k t.1 h t.4 none in
      let regrouped : seen ++ rows ≡ (seen ++ (k, t.1) ∷ []) ++ t.2 = here ∙ sym (append_assoc seen ((k, t.1) ∷ []) t.2) in
      let r = lines-rows more t.2 taken.0 (seen ++ (k, t.1) ∷ []) (n + 1) t.5 taken.2 (λ j. subst (λ (z : Seen). length (rows_of j z) ≤ 1) regrouped (few j)) in
      (r.0, ap (lines_by (λ s. with_lines (length f.ints) (names_in f) s (n + 1) more) (n + 1)) taken.1 ∙ r.1, subst (λ (z : Seen). Holds f r.0 z) (sym regrouped) r.2)
    where
      empty : {A : Type 0} (xs : List A) → length xs < 1 → xs ≡ []
      empty [] h = refl
      empty (x ∷ xs) h = absurd (omega arith)

  lines-append : (before rest : List (List ℕ)) (slots s : Slots) (n : ℕ) → with_lines (length f.ints) (names_in f) slots n before ≡ Ok s
      → with_lines (length f.ints) (names_in f) slots n (before ++ rest) ≡ with_lines (length f.ints) (names_in f) s (n + length before) rest
  unfolding with_lines
  lines-append [] rest slots s n e = ap (λ z. with_lines (length f.ints) (names_in f) z n rest) (same_Ok slots s e) ∙ ap (λ m. with_lines (length f.ints) (names_in f) s m rest) (let z : n ≡ n + 0 = omega arith in z)
  lines-append (line ∷ before) rest slots s n e =
      by (with_line (length f.ints) (names_in f) slots line) (λ z e2. lines-append before rest z s (n + 1) e2) e where
        by : (o : Option Slots)
            → ((z : Slots) → with_lines (length f.ints) (names_in f) z (n + 1) before ≡ Ok s → with_lines (length f.ints) (names_in f) z (n + 1) (before ++ rest) ≡ with_lines (length f.ints) (names_in f) s ((n + 1) + length before) rest)
            → lines_by (λ z. with_lines (length f.ints) (names_in f) z (n + 1) before) (n + 1) o ≡ Ok s
            → lines_by (λ z. with_lines (length f.ints) (names_in f) z (n + 1) (before ++ rest)) (n + 1) o ≡ with_lines (length f.ints) (names_in f) s (n + suc (length before)) rest
        by None go e = absurd (let no : ⊥ = cc in no)
        by (Some z) go e = go z e ∙ ap (λ m. with_lines (length f.ints) (names_in f) s m rest) (let q : (n + 1) + length before ≡ n + suc (length before) = omega arith in q)

  pub lines-stop : (before : List (List ℕ)) (bad : List ℕ) (after : List (List ℕ)) (rows : Seen) (slots : Slots) (n : ℕ) → AreRows f before rows → Holds f slots []
      → ((k : ℕ) → length (rows_of k rows) ≤ 1) → (IsBlank bad → ⊥) → ((k : ℕ) (r : Row) → IsRow f bad k r → 0 < length (rows_of k rows))
      → with_lines (length f.ints) (names_in f) slots n (before ++ (bad ∷ after)) ≡ Err (n + length before + 1)
  unfolding with_lines
  lines-stop before bad after rows slots n s h few visible taken =
      let r = lines-rows before rows slots [] n s h few in
      lines-append before (bad ∷ after) slots r.0 n r.1
      ∙ ap (lines_by (λ z. with_lines (length f.ints) (names_in f) z ((n + length before) + 1) after) ((n + length before) + 1)) (line-taken f own r.0 rows bad r.2 visible taken)

-- ---- at first

empty_slot : {A : Type 0} (n k : ℕ) (o : Option A) → slice_get (replicate n None) k ≡ Some o → o ≡ None
empty_slot zero k o e = absurd (let no : ⊥ = cc in no)
empty_slot (suc n) zero o e = sym (same_Some None o e)
empty_slot (suc n) (suc k) o e = empty_slot n k o e

pub nothing_held : (f : Frame) → Holds f (no_rows f) []
nothing_held f = record {
  size = length-replicate (length (names_in f)) None;
  held = λ k o e. sym (ap option_to_list (empty_slot (length (names_in f)) k o e));
  kinds = λ k r e. absurd (let none = empty_slot (length (names_in f)) k (Some r) e in let no : ⊥ = cc in no);
  past = λ k le. refl;
}
