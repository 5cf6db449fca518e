-- What is read of the lines of a text is what they mean.
use Rattle.std.proofs.Common.{◌≡◌, ℕ, zero, suc, ◌<◌, ◌≤◌, List, [], ◌∷◌, ◌++◌, length, set, Bool, true, false, cond, nat_eq, slice_get, Option, Some, None, option_and_then, refl, sym, ap, ◌∙◌, subst, arith, ◌⊎◌, inl, inr, append-nil, length-append, length-set}
use Rattle.std.proofs.lemmas.Bool.Decides.{nat_tests}
use Rattle.std.proofs.lemmas.Bool.{eqb-true}
use Rattle.std.proofs.lemmas.Option.{same_Some, slice_get_within}
use Rattle.std.specs.Option.{option_to_list}
use Rattle.c_tree.specs.declared.frame.Frame.{Frame}
use Rattle.data_file.specs.declared.row.Row.{Row}
use Rattle.data_file.specs.Conditions.{names_in, HasOwnNames}
use Rattle.data_file.specs.Meaning.{IsBlank, IsRow, rows_of, is_gap}
use Rattle.data_file.specs.Reading.{Slots, row_at, stored, stored_in, is_blank, with_line}
use Rattle.data_file.proofs.Fronts.{bind_is, list_all-from_Passes, Passes-from_list_all}
use Rattle.data_file.proofs.RowLaws.{row_at_is, row_at-row, row_not_blank, row_named, row_kind, IsKind}

abbrev pub Seen : Type 0
Seen = List (ℕ × Row)

pub rows_of-append : (k : ℕ) (a b : Seen) → rows_of k (a ++ b) ≡ rows_of k a ++ rows_of k b
rows_of-append k [] b = refl
rows_of-append k (r ∷ a) b = at (nat_eq r.0 k) (rows_of-append k a b) where
  at : (v : Bool) → rows_of k (a ++ b) ≡ rows_of k a ++ rows_of k b → cond v (r.1 ∷ rows_of k (a ++ b)) (rows_of k (a ++ b)) ≡ cond v (r.1 ∷ rows_of k a) (rows_of k a) ++ rows_of k b
  at true e = ap (λ z. r.1 ∷ z) e
  at false e = e

same_number : (k : ℕ) → nat_eq k k ≡ true
same_number k = grind (arith, nat_tests)

pub rows_of-own : (k : ℕ) (r : Row) (rest : Seen) → rows_of k ((k, r) ∷ rest) ≡ r ∷ rows_of k rest
rows_of-own k r rest = ap (λ v. cond v (r ∷ rows_of k rest) (rows_of k rest)) (same_number k)

pub rows_of-other : (j k : ℕ) (r : Row) (rest : Seen) → nat_eq k j ≡ false → rows_of j ((k, r) ∷ rest) ≡ rows_of j rest
rows_of-other j k r rest e = ap (λ v. cond v (r ∷ rows_of j rest) (rows_of j rest)) e

pub get-set : {A : Type 0} (xs : List A) (k : ℕ) (x : A) → k < length xs → slice_get (set xs k x) k ≡ Some x
get-set [] k x h = absurd (omega arith)
get-set (y ∷ ys) zero x h = refl
get-set (y ∷ ys) (suc k) x h = get-set ys k x (omega arith)

pub get-set_other : {A : Type 0} (xs : List A) (k j : ℕ) (x : A) → nat_eq k j ≡ false → slice_get (set xs k x) j ≡ slice_get xs j
get-set_other [] k j x e = refl
get-set_other (y ∷ ys) zero zero x e = absurd (let no : ⊥ = cc in no)
get-set_other (y ∷ ys) zero (suc j) x e = refl
get-set_other (y ∷ ys) (suc k) zero x e = refl
get-set_other (y ∷ ys) (suc k) (suc j) x e = get-set_other ys k j x (grind (arith, nat_tests))

-- the slots hold the rows that were seen, one of a name at most
pub record Holds (f : Frame) (slots : Slots) (seen : Seen) : Type 0 where
  pub size : length slots ≡ length (names_in f)
  pub held : (k : ℕ) (o : Option Row) → slice_get slots k ≡ Some o → rows_of k seen ≡ option_to_list o
  pub kinds : (k : ℕ) (r : Row) → slice_get slots k ≡ Some (Some r) → IsKind f k r
  pub past : (k : ℕ) → length (names_in f) ≤ k → rows_of k seen ≡ []

short : (o : Option Row) → length (option_to_list o) ≤ 1
short None = omega arith
short (Some r) = omega arith

pub slot_by : {A : Type 0} (slots : List A) (k : ℕ) → k < length slots → (o : A) × (slice_get slots k ≡ Some o)
slot_by [] k h = absurd (omega arith)
slot_by (o ∷ slots) zero h = (o, refl)
slot_by (o ∷ slots) (suc k) h = slot_by slots k (omega arith)

module _ (f : Frame) where
  pub once : (slots : Slots) (seen : Seen) → Holds f slots seen → (k : ℕ) → length (rows_of k seen) ≤ 1
  once slots seen h k = at (cases_le (length (names_in f)) k) where
    cases_le : (m n : ℕ) → (m ≤ n) ⊎ (n < m)
    cases_le m n = grind arith

    at : (length (names_in f) ≤ k) ⊎ (k < length (names_in f)) → length (rows_of k seen) ≤ 1
    at (inl le) = omega (arith, ap length (h.past k le))
    at (inr lt) = let (o, e) = slot_by slots k (omega (arith, h.size)) in omega (arith, ap length (h.held k o e), short o)

  -- a row more, in an empty slot
  pub holds_more : (slots : Slots) (seen : Seen) (k : ℕ) (r : Row) → Holds f slots seen → slice_get slots k ≡ Some None → IsKind f k r → Holds f (set slots k (Some r)) (seen ++ (k, r) ∷ [])
  holds_more slots seen k r h empty kind = record {
    size = length-set slots k (Some r) ∙ h.size;
    held = λ j o e. held_by j o (nat_eq k j) refl e;
    kinds = λ j s e. kinds_by j s (nat_eq k j) refl e;
    past = λ j le. past_by j le (nat_eq k j) refl;
  }
    where
      within : k < length slots
      within = slice_get_within slots k None empty

      none : rows_of k seen ≡ []
      none = h.held k None empty

      other : (j : ℕ) → nat_eq k j ≡ false → rows_of j (seen ++ (k, r) ∷ []) ≡ rows_of j seen
      other j e = rows_of-append j seen ((k, r) ∷ []) ∙ ap (λ z. rows_of j seen ++ z) (rows_of-other j k r [] e) ∙ append-nil (rows_of j seen)

      own : rows_of k (seen ++ (k, r) ∷ []) ≡ r ∷ []
      own = rows_of-append k seen ((k, r) ∷ []) ∙ ap (λ z. z ++ rows_of k ((k, r) ∷ [])) none ∙ rows_of-own k r []

      held_by : (j : ℕ) (o : Option Row) (v : Bool) → nat_eq k j ≡ v → slice_get (set slots k (Some r)) j ≡ Some o → rows_of j (seen ++ (k, r) ∷ []) ≡ option_to_list o
      held_by j o false e at = other j e ∙ h.held j o (sym (get-set_other slots k j (Some r) e) ∙ at)
      held_by j o true e at =
          let same : k ≡ j = eqb-true k j e in
          let here : slice_get (set slots k (Some r)) j ≡ Some (Some r) = ap (slice_get (set slots k (Some r))) (sym same) ∙ get-set slots k (Some r) within in
          ap (λ n. rows_of n (seen ++ (k, r) ∷ [])) (sym same) ∙ own ∙ ap option_to_list (same_Some (Some r) o (sym here ∙ at))

      kinds_by : (j : ℕ) (s : Row) (v : Bool) → nat_eq k j ≡ v → slice_get (set slots k (Some r)) j ≡ Some (Some s) → IsKind f j s
      kinds_by j s false e at = h.kinds j s (sym (get-set_other slots k j (Some r) e) ∙ at)
      kinds_by j s true e at =
          let same : k ≡ j = eqb-true k j e in
          let here : slice_get (set slots k (Some r)) j ≡ Some (Some r) = ap (slice_get (set slots k (Some r))) (sym same) ∙ get-set slots k (Some r) within in
          let row : r ≡ s = same_Some r s (same_Some (Some r) (Some s) (sym here ∙ at)) in
          subst (λ n. IsKind f n s) same (subst (IsKind f k) row kind)

      past_by : (j : ℕ) → length (names_in f) ≤ j → (v : Bool) → nat_eq k j ≡ v → rows_of j (seen ++ (k, r) ∷ []) ≡ []
      past_by j le false e = other j e ∙ h.past j le
      past_by j le true e = absurd (omega (arith, eqb-true k j e, within, h.size))

-- ---- a line

stored_in_is : (slots next : Slots) (k : ℕ) (r : Row) (o : Option (Option Row)) → stored_in slots k r o ≡ Some next → (o ≡ Some None) × (set slots k (Some r) ≡ next)
stored_in_is slots next k r None e = absurd (let no : ⊥ = cc in no)
stored_in_is slots next k r (Some None) e = (refl, same_Some (set slots k (Some r)) next e)
stored_in_is slots next k r (Some (Some s)) e = absurd (let no : ⊥ = cc in no)

abbrev pub Taken : Frame → Slots → Seen → List ℕ → Slots → Type 0
Taken f slots seen line next = (IsBlank line × (slots ≡ next)) ⊎ ((k : ℕ) × (r : Row) × IsRow f line k r × Holds f next (seen ++ (k, r) ∷ []))

module _ (f : Frame) (own : HasOwnNames f) where
  pub line_is : (slots next : Slots) (seen : Seen) (line : List ℕ) → Holds f slots seen → with_line (length f.ints) (names_in f) slots line ≡ Some next → Taken f slots seen line next
  unfolding with_line stored
  line_is slots next seen line h e = by (is_blank line) refl e where
    by : (v : Bool) → is_blank line ≡ v → cond v (Some slots) (option_and_then (λ (x : ℕ × Row). stored slots x.0 x.1) (row_at (length f.ints) (names_in f) line)) ≡ Some next → Taken f slots seen line next
    by true b e = inl (Passes-from_list_all is_gap line b, same_Some slots next e)
    by false b e =
        let (x, read, put) = bind_is _ (row_at (length f.ints) (names_in f) line) next e in
        let is = row_at_is f line x.0 x.1 read in
        let (empty, same) = stored_in_is slots next x.0 x.1 (slice_get slots x.0) put in
        inr (x.0, x.1, is, subst (λ (z : Slots). Holds f z (seen ++ x ∷ [])) same (holds_more f slots seen x.0 x.1 h empty (row_kind f line x.0 x.1 is)))

  pub line-blank : (slots : Slots) (line : List ℕ) → IsBlank line → with_line (length f.ints) (names_in f) slots line ≡ Some slots
  unfolding with_line
  line-blank slots line b = rw (list_all-from_Passes is_gap line b) refl

  line-row_by : (slots : Slots) (line : List ℕ) (k : ℕ) (r : Row) → IsRow f line k r → with_line (length f.ints) (names_in f) slots line ≡ stored slots k r
  unfolding with_line
  line-row_by slots line k r is = rw (row_not_blank f line k r is, row_at-row f line k r own is) refl

  -- a row whose name has none so far
  pub line-row : (slots : Slots) (seen : Seen) (line : List ℕ) (k : ℕ) (r : Row) → Holds f slots seen → IsRow f line k r → rows_of k seen ≡ []
      → (next : Slots) × (with_line (length f.ints) (names_in f) slots line ≡ Some next) × Holds f next (seen ++ (k, r) ∷ [])
  unfolding stored
  line-row slots seen line k r h is none =
      let (o, e) = slot_by slots k (omega (arith, row_named f line k r is, h.size)) in at o e where
        at : (o : Option Row) → slice_get slots k ≡ Some o → (next : Slots) × (with_line (length f.ints) (names_in f) slots line ≡ Some next) × Holds f next (seen ++ (k, r) ∷ [])
        at None e = (set slots k (Some r), line-row_by slots line k r is ∙ ap (stored_in slots k r) e, holds_more f slots seen k r h e (row_kind f line k r is))
        at (Some s) e = absurd (let no : ⊥ = let full = sym none ∙ h.held k (Some s) e in cc in no)

  pub line_none : (slots : Slots) (seen : Seen) (line : List ℕ) → Holds f slots seen → with_line (length f.ints) (names_in f) slots line ≡ None
      → (IsBlank line → ⊥) × ((k : ℕ) (r : Row) → IsRow f line k r → 0 < length (rows_of k seen))
  line_none slots seen line h e = (visible, taken) where
    visible : IsBlank line → ⊥
    visible b = let s = line-blank slots line b in let no : ⊥ = cc in no

    some : (k : ℕ) (r : Row) (rs : List Row) → rows_of k seen ≡ rs → IsRow f line k r → 0 < length rs
    some k r [] e2 is = absurd (let s = line-row slots seen line k r h is e2 in let two = s.1 in let no : ⊥ = cc in no)
    some k r (s ∷ rs) e2 is = omega arith

    taken : (k : ℕ) (r : Row) → IsRow f line k r → 0 < length (rows_of k seen)
    taken k r is = some k r (rows_of k seen) refl is

  pub line-taken : (slots : Slots) (seen : Seen) (line : List ℕ) → Holds f slots seen → (IsBlank line → ⊥) → ((k : ℕ) (r : Row) → IsRow f line k r → 0 < length (rows_of k seen))
      → with_line (length f.ints) (names_in f) slots line ≡ None
  line-taken slots seen line h visible taken = by (with_line (length f.ints) (names_in f) slots line) refl where
    no_more : (next : Slots) → Taken f slots seen line next → ⊥
    no_more next (inl b) = visible b.0
    no_more next (inr t) =
        let two = once f next (seen ++ (t.0, t.1) ∷ []) t.3 t.0 in
        let one = taken t.0 t.1 t.2 in
        let parts = ap length (rows_of-append t.0 seen ((t.0, t.1) ∷ []) ∙ ap (λ z. rows_of t.0 seen ++ z) (rows_of-own t.0 t.1 [])) in
        omega (arith, two, one, parts, length-append (rows_of t.0 seen) (t.1 ∷ []))

    by : (o : Option Slots) → with_line (length f.ints) (names_in f) slots line ≡ o → with_line (length f.ints) (names_in f) slots line ≡ None
    by None e = e
    by (Some next) e = absurd (no_more next (line_is slots next seen line h e))
