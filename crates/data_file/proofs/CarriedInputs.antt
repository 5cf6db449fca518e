-- The inputs that slots carry: they are determined, and there are none only where a slot is empty.
use Rattle.std.proofs.Common.{◌≡◌, ℕ, zero, suc, ◌+◌, ◌-◌, ◌<◌, ◌≤◌, List, [], ◌∷◌, ◌++◌, length, map, slice_get, Option, Some, None, option_map, ℤ, refl, sym, ap, ◌∙◌, subst, arith, ◌⊎◌, inl, inr, append_assoc, append-nil, length-append}
use Rattle.std.proofs.lemmas.Option.{same_Some, slice_get-map, slice_get_within}
use Rattle.c_tree.specs.declared.name.Name.{Name}
use Rattle.c_tree.specs.declared.frame.Frame.{Frame}
use Rattle.c_tree.specs.declared.frame.ArrayInfo.{ArrayInfo}
use Rattle.c_tree.specs.declared.frame.Inputs.{Inputs}
use Rattle.data_file.specs.declared.row.Row.{Row}
use Rattle.data_file.specs.declared.row.Row.TheVariants.{Value, Cells}
use Rattle.data_file.specs.Conditions.{names_in, HasRows}
use Rattle.data_file.specs.Meaning.{rows_of}
use Rattle.data_file.specs.Reading.{Slots, inputs_from}
use Rattle.data_file.proofs.NamePlaces.{get-front, get-back}
use Rattle.data_file.proofs.RowLaws.{KindAt}
use Rattle.data_file.proofs.TextLaws.{Seen, Holds}

-- the rows carry these inputs
pub record Carries (f : Frame) (rows : Seen) (i : Inputs) : Type 0 where
  pub complete : HasRows f i
  pub values : (k : ℕ) (n : ℤ) → slice_get i.ints k ≡ Some n → rows_of k rows ≡ Value n ∷ []
  pub cells : (k : ℕ) (ns : List ℕ) → slice_get i.cells k ≡ Some ns → rows_of (length f.ints + k) rows ≡ Cells ns ∷ []

abbrev pub value_slots : List ℤ → Slots
value_slots ns = map (λ (n : ℤ). Some (Value n)) ns

abbrev pub cells_slots : List (List ℕ) → Slots
cells_slots cs = map (λ (ns : List ℕ). Some (Cells ns)) cs

count_map : {A B : Type 0} (v : A → B) (xs : List A) → length (map v xs) ≡ length xs
count_map v [] = refl
count_map v (x ∷ xs) = ap suc (count_map v xs)

HaveKinds : ℕ → Slots → Type 0
HaveKinds m slots = (k : ℕ) (r : Row) → slice_get slots k ≡ Some (Some r) → KindAt m k r

kind_less : (m k : ℕ) (r : Row) → KindAt (suc m) (suc k) r → KindAt m k r
kind_less m k (Value n) h = omega arith
kind_less m k (Cells ns) h = omega arith

kind_zero : (k : ℕ) (r : Row) → KindAt 0 (suc k) r → KindAt 0 k r
kind_zero k (Value n) h = absurd (omega arith)
kind_zero k (Cells ns) h = omega arith

all_cells : (slots : Slots) (a : List ℤ) (b : List (List ℕ)) (i : Inputs) → HaveKinds 0 slots → inputs_from a b slots ≡ Some i
    → (cs : List (List ℕ)) × (slots ≡ cells_slots cs) × (record { ints = a; cells = b ++ cs } ≡ i)
unfolding inputs_from HaveKinds
all_cells [] a b i kinds e = ([], refl, ap (λ (z : List (List ℕ)). record { ints = a; cells = z }) (append-nil b) ∙ same_Some (record { ints = a; cells = b }) i e)
all_cells (None ∷ more) a b i kinds e = absurd (let no : ⊥ = cc in no)
all_cells (Some (Value n) ∷ more) a b i kinds e = absurd (let h = kinds 0 (Value n) refl in omega arith)
all_cells (Some (Cells ns) ∷ more) a b i kinds e =
    let r = all_cells more a (b ++ ns ∷ []) i (λ k s at. kind_zero k s (kinds (suc k) s at)) e in
    (ns ∷ r.0, ap (λ (z : Slots). Some (Cells ns) ∷ z) r.1, ap (λ (z : List (List ℕ)). record { ints = a; cells = z }) (sym (append_assoc b (ns ∷ []) r.0)) ∙ r.2)

mixed : (m : ℕ) (slots : Slots) (a : List ℤ) (b : List (List ℕ)) (i : Inputs) → HaveKinds m slots → m ≤ length slots → inputs_from a b slots ≡ Some i
    → (ns : List ℤ) × (cs : List (List ℕ)) × (slots ≡ value_slots ns ++ cells_slots cs) × (record { ints = a ++ ns; cells = b ++ cs } ≡ i) × (length ns ≡ m)
unfolding inputs_from HaveKinds
mixed zero slots a b i kinds le e =
    let r = all_cells slots a b i kinds e in
    ([], r.0, r.1, ap (λ (z : List ℤ). record { ints = z; cells = b ++ r.0 }) (append-nil a) ∙ r.2, refl)
mixed (suc m) [] a b i kinds le e = absurd (omega arith)
mixed (suc m) (None ∷ more) a b i kinds le e = absurd (let no : ⊥ = cc in no)
mixed (suc m) (Some (Cells ns) ∷ more) a b i kinds le e = absurd (let h = kinds 0 (Cells ns) refl in omega arith)
mixed (suc m) (Some (Value n) ∷ more) a b i kinds le e =
    let r = mixed m more (a ++ n ∷ []) b i (λ k s at. kind_less m k s (kinds (suc k) s at)) (omega arith) e in
    (n ∷ r.0, r.1, ap (λ (z : Slots). Some (Value n) ∷ z) r.2, ap (λ (z : List ℤ). record { ints = z; cells = b ++ r.1 }) (sym (append_assoc a (n ∷ []) r.0)) ∙ r.3, ap suc r.4)

none_at : (slots : Slots) (a : List ℤ) (b : List (List ℕ)) → inputs_from a b slots ≡ None → (k : ℕ) × (slice_get slots k ≡ Some None)
unfolding inputs_from
none_at [] a b e = absurd (let no : ⊥ = cc in no)
none_at (None ∷ more) a b e = (0, refl)
none_at (Some (Value n) ∷ more) a b e = let r = none_at more (a ++ n ∷ []) b e in (suc r.0, r.1)
none_at (Some (Cells ns) ∷ more) a b e = let r = none_at more a (b ++ ns ∷ []) e in (suc r.0, r.1)

pub same_list : {A : Type 0} (xs ys : List A) → length xs ≡ length ys → ((k : ℕ) (x y : A) → slice_get xs k ≡ Some x → slice_get ys k ≡ Some y → x ≡ y) → xs ≡ ys
same_list [] [] e h = refl
same_list [] (y ∷ ys) e h = absurd (omega arith)
same_list (x ∷ xs) [] e h = absurd (omega arith)
same_list (x ∷ xs) (y ∷ ys) e h =
    ap (λ z. z ∷ xs) (h 0 x y refl refl) ∙ ap (λ z. y ∷ z) (same_list xs ys (omega arith) (λ k a b p q. h (suc k) a b p q))

pub item_at : {A : Type 0} (xs : List A) (k : ℕ) → k < length xs → (x : A) × (slice_get xs k ≡ Some x)
item_at [] k h = absurd (omega arith)
item_at (x ∷ xs) zero h = (x, refl)
item_at (x ∷ xs) (suc k) h = item_at xs k (omega arith)

same_value : (m n : ℤ) → ◌≡◌ {A = List Row} (Value m ∷ []) (Value n ∷ []) → m ≡ n
same_value m n e = cc

same_cells : (ms ns : List ℕ) → ◌≡◌ {A = List Row} (Cells ms ∷ []) (Cells ns ∷ []) → ms ≡ ns
same_cells ms ns e = cc

module _ (f : Frame) where
  pub length-names_in : length (names_in f) ≡ length f.ints + length f.arrays
  length-names_in =
      length-append (map (λ (p : Name × ℤ × ℤ). p.0.bytes) f.ints) (map (λ (a : ArrayInfo). a.name.bytes) f.arrays)
      ∙ ap (λ n. n + length (map (λ (a : ArrayInfo). a.name.bytes) f.arrays)) (count_map (λ (p : Name × ℤ × ℤ). p.0.bytes) f.ints)
      ∙ ap (λ n. length f.ints + n) (count_map (λ (a : ArrayInfo). a.name.bytes) f.arrays)

  pub carried : (slots : Slots) (rows : Seen) (i : Inputs) → Holds f slots rows → inputs_from [] [] slots ≡ Some i → Carries f rows i
  unfolding HaveKinds
  carried slots rows i h e =
      let all : length f.ints ≤ length slots = omega (arith, h.size, length-names_in) in
      let r = mixed (length f.ints) slots [] [] i h.kinds all e in
      let ns = r.0 in
      let cs = r.1 in
      let count = ap length r.2 ∙ length-append (value_slots ns) (cells_slots cs) in
      let fronts : length (value_slots ns) ≡ length f.ints = count_map (λ (n : ℤ). Some (Value n)) ns ∙ r.4 in
      let backs : length (cells_slots cs) ≡ length cs = count_map (λ (c : List ℕ). Some (Cells c)) cs in
      let those : Carries f rows (record { ints = ns; cells = cs }) = record {
        complete = record { values = r.4; cells = omega (arith, count, fronts, backs, h.size, length-names_in) };
        values = λ k n at.
            h.held k (Some (Value n)) (ap (λ (z : Slots). slice_get z k) r.2 ∙ get-front (value_slots ns) (cells_slots cs) k (Some (Value n)) (slice_get-map (λ (m : ℤ). Some (Value m)) ns k ∙ ap (option_map (λ (m : ℤ). Some (Value m))) at));
        cells = λ k c at.
            h.held (length f.ints + k) (Some (Cells c))
            (ap (λ (z : Slots). slice_get z (length f.ints + k)) r.2 ∙ ap (λ m. slice_get (value_slots ns ++ cells_slots cs) (m + k)) (sym fronts) ∙ get-back (value_slots ns) (cells_slots cs) k
            ∙ slice_get-map (λ (d : List ℕ). Some (Cells d)) cs k ∙ ap (option_map (λ (d : List ℕ). Some (Cells d))) at);
      } in
      subst (Carries f rows) r.3 those

  pub lacking : (slots : Slots) (rows : Seen) → Holds f slots rows → inputs_from [] [] slots ≡ None → (k : ℕ) × (k < length f.ints + length f.arrays) × (rows_of k rows ≡ [])
  lacking slots rows h e =
      let r = none_at slots [] [] e in
      (r.0, omega (arith, slice_get_within slots r.0 None r.1, h.size, length-names_in), h.held r.0 None r.1)

  pub has_row : (rows : Seen) (i : Inputs) (k : ℕ) → Carries f rows i → k < length f.ints + length f.arrays → length (rows_of k rows) ≡ 1
  has_row rows i k c below = at (cases_le (length f.ints) k) where
    cases_le : (m n : ℕ) → (m ≤ n) ⊎ (n < m)
    cases_le m n = grind arith

    at : (length f.ints ≤ k) ⊎ (k < length f.ints) → length (rows_of k rows) ≡ 1
    at (inr lt) = let x = item_at i.ints k (omega (arith, c.complete.values)) in ap length (c.values k x.0 x.1)
    at (inl le) =
        let j = k - length f.ints in
        let place : length f.ints + j ≡ k = omega arith in
        let x = item_at i.cells j (omega (arith, c.complete.cells)) in
        ap (λ n. length (rows_of n rows)) (sym place) ∙ ap length (c.cells j x.0 x.1)

  pub one_carried : (rows : Seen) (i j : Inputs) → Carries f rows i → Carries f rows j → i ≡ j
  one_carried rows i j c d =
      let ints : i.ints ≡ j.ints = same_list i.ints j.ints (c.complete.values ∙ sym d.complete.values) (λ k m n p q. same_value m n (sym (c.values k m p) ∙ d.values k n q)) in
      let cells : i.cells ≡ j.cells = same_list i.cells j.cells (c.complete.cells ∙ sym d.complete.cells) (λ k m n p q. same_cells m n (sym (c.cells k m p) ∙ d.cells k n q)) in
      ap (λ (z : List ℤ). record { ints = z; cells = i.cells }) ints ∙ ap (λ (z : List (List ℕ)). record { ints = j.ints; cells = z }) cells

  pub inputs_from-carried : (slots : Slots) (rows : Seen) (i : Inputs) → Holds f slots rows → Carries f rows i → inputs_from [] [] slots ≡ Some i
  inputs_from-carried slots rows i h c = by (inputs_from [] [] slots) refl where
    by : (o : Option Inputs) → inputs_from [] [] slots ≡ o → inputs_from [] [] slots ≡ Some i
    by None e = absurd (let l = lacking slots rows h e in omega (arith, ap length l.2, has_row rows i l.0 c l.1))
    by (Some j) e = e ∙ ap (λ (z : Inputs). Some z) (one_carried rows j i (carried slots rows j h e) c)

  pub inputs_from-lacking : (slots : Slots) (rows : Seen) (k : ℕ) → Holds f slots rows → k < length f.ints + length f.arrays → rows_of k rows ≡ [] → inputs_from [] [] slots ≡ None
  inputs_from-lacking slots rows k h below none = by (inputs_from [] [] slots) refl where
    by : (o : Option Inputs) → inputs_from [] [] slots ≡ o → inputs_from [] [] slots ≡ None
    by None e = e
    by (Some j) e = absurd (omega (arith, ap length none, has_row rows j k (carried slots rows j h e) below))
