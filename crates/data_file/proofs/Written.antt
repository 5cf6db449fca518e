-- What is written of inputs means these inputs.
use Rattle.std.proofs.Common.{◌≡◌, ℕ, zero, suc, ◌+◌, ◌-◌, ◌^◌, ◌<◌, List, [], ◌∷◌, ◌++◌, codes, length, map, get_or, take, flat_map, Bool, true, false, cond, not, nat_eq, slice_get, Some, option_map, ℤ, pos, negsuc, FitsSigned, w64, refl, sym, ap, ◌∙◌, subst, arith, inr, append_assoc, append-nil, length-append}
use Rattle.std.proofs.lemmas.Bool.Decides.{nat_tests}
use Rattle.std.proofs.lemmas.Fmt.{decimal_nonempty}
use Rattle.std.proofs.lemmas.Option.{slice_get-map}
use Rattle.std.specs.Fmt.{decimal, signed_decimal}
use Rattle.std.specs.List.{AllByRecursion}
use Rattle.std.specs.Option.{option_to_list}
use Rattle.std.specs.Str.Lines.{lines}
use Rattle.c_tree.specs.Plain.{Word}
use Rattle.c_tree.specs.Reserved.{is_digit}
use Rattle.c_tree.specs.declared.name.Name.{Name}
use Rattle.c_tree.specs.declared.frame.Frame.{Frame}
use Rattle.c_tree.specs.declared.frame.ArrayInfo.{ArrayInfo}
use Rattle.c_tree.specs.declared.frame.Inputs.{Inputs}
use Rattle.text_pieces.specs.Fronts.{is_in_line}
use Rattle.data_file.specs.declared.row.Row.{Row}
use Rattle.data_file.specs.declared.row.Row.TheVariants.{Value, Cells}
use Rattle.data_file.specs.Laws.{CanBeWritten, HasNamesInLines}
use Rattle.data_file.specs.Meaning.{Spells, IsRow, AreRows, rows_of, Means}
use Rattle.data_file.specs.Reading.{without_return}
use Rattle.data_file.specs.Texts.{paired, cell_text, parameter_text, array_text, data_text}
use Rattle.data_file.proofs.Decimals.{digit_is, decimal_passes}
use Rattle.data_file.proofs.Fronts.{Passes, Passes-append, not_true}
use Rattle.data_file.proofs.LineSteps.{lines-line}
use Rattle.data_file.proofs.NamePlaces.{get-front, get-back}
use Rattle.data_file.proofs.TextLaws.{Seen, rows_of-own, rows_of-other}

-- ---- bytes of values

module _ (test : ℕ → Bool) (digits : (b : ℕ) → is_digit b ≡ true → test b ≡ true) (minus : test 45 ≡ true) (space : test 32 ≡ true) where
  digits_pass : (ds : List ℕ) → Passes is_digit ds → Passes test ds
  digits_pass [] p = tt
  digits_pass (b ∷ bs) p = (digits b p.0, digits_pass bs p.1)

  signed_pass : (z : ℤ) → FitsSigned w64 z → Passes test (signed_decimal z)
  signed_pass (pos n) fits = let lt = fits.sfits in digits_pass (decimal n) (decimal_passes n (omega arith))
  signed_pass (negsuc n) fits = let lt = fits.sfits in (minus, digits_pass (decimal (suc n)) (decimal_passes (suc n) (omega arith)))

  cells_pass : (ns : List ℕ) → AllByRecursion (λ n. n < 2 ^ 64) ns → Passes test (flat_map cell_text ns)
  cells_pass [] h = tt
  cells_pass (n ∷ ns) h = (space, Passes-append test (decimal n) (flat_map cell_text ns) (digits_pass (decimal n) (decimal_passes n h.0)) (cells_pass ns h.1))

in_line_digit : (b : ℕ) → is_digit b ≡ true → is_in_line b ≡ true
in_line_digit b h = grind (arith, nat_tests, digit_is b h)

abbrev pub is_no_return : ℕ → Bool
is_no_return b = not (nat_eq b 13)

no_return_digit : (b : ℕ) → is_digit b ≡ true → is_no_return b ≡ true
no_return_digit b h = grind (arith, nat_tests, digit_is b h)

last-append : (front tail : List ℕ) → 0 < length tail → get_or (front ++ tail) (length (front ++ tail) - 1) 0 ≡ get_or tail (length tail - 1) 0
last-append [] tail some = refl
last-append (b ∷ front) tail some =
    let place : suc (length (front ++ tail)) - 1 ≡ suc (length (front ++ tail) - 1) = omega (arith, length-append front tail) in
    ap (λ n. get_or (b ∷ (front ++ tail)) n 0) place ∙ last-append front tail some

last_passes : (test : ℕ → Bool) (tail : List ℕ) → 0 < length tail → Passes test tail → test (get_or tail (length tail - 1) 0) ≡ true
last_passes test [] some p = absurd (omega arith)
last_passes test (b ∷ []) some p = p.0
last_passes test (b ∷ c ∷ bs) some p =
    let place : suc (suc (length bs)) - 1 ≡ suc (suc (length bs) - 1) = omega arith in
    ap (λ n. test (get_or (b ∷ c ∷ bs) n 0)) place ∙ last_passes test (c ∷ bs) (omega arith) p.1

no_return : (front tail : List ℕ) → 0 < length tail → Passes is_no_return tail → without_return (front ++ tail) ≡ front ++ tail
no_return front tail some p =
    let last : nat_eq (get_or (front ++ tail) (length (front ++ tail) - 1) 0) 13 ≡ false =
    not_true _ (ap is_no_return (last-append front tail some) ∙ last_passes is_no_return tail some p) in
    ap (λ v. cond v (take (length (front ++ tail) - 1) (front ++ tail)) (front ++ tail)) last

signed_some : (z : ℤ) → FitsSigned w64 z → 0 < length (signed_decimal z)
signed_some (pos n) fits = let lt = fits.sfits in decimal_nonempty n (omega arith)
signed_some (negsuc n) fits = omega arith

-- ---- rows

-- one line and the rest
one_line : (front tail rest : List ℕ) → Passes is_in_line front → Passes is_in_line tail → 0 < length tail → Passes is_no_return tail → lines ((front ++ tail) ++ 10 ∷ rest) ≡ (front ++ tail) ∷ lines rest
one_line front tail rest p q some r =
    lines-line (front ++ tail) rest (Passes-append is_in_line front tail p q) ∙ ap (λ z. z ∷ lines rest) (no_return front tail some r)

spelled : (n : ℕ) (ns : List ℕ) → AllByRecursion (λ m. m < 2 ^ 64) (n ∷ ns) → Spells (n ∷ ns) (decimal n ++ flat_map cell_text ns)
spelled n [] h = (h.0, append-nil (decimal n))
spelled n (m ∷ ns) h = (h.0, 32 ∷ [], decimal m ++ flat_map cell_text ns, record { some = omega arith; blank = (refl, tt) }, refl, spelled m ns h.1)

parameter_lines : (x : Word) (n : ℤ) (rest : List ℕ) → Passes is_in_line x → FitsSigned w64 n
    → lines ((x ++ (codes " = " ++ (signed_decimal n ++ 10 ∷ []))) ++ rest) ≡ (x ++ (codes " = " ++ signed_decimal n)) ∷ lines rest
parameter_lines x n rest named fits =
    let front = x ++ codes " = " in
    let regroup : (x ++ (codes " = " ++ (signed_decimal n ++ 10 ∷ []))) ++ rest ≡ (front ++ signed_decimal n) ++ 10 ∷ rest =
    append_assoc x (codes " = " ++ (signed_decimal n ++ 10 ∷ [])) rest ∙ ap (λ z. x ++ (codes " = " ++ z)) (append_assoc (signed_decimal n) (10 ∷ []) rest)
    ∙ sym (append_assoc x (codes " = ") (signed_decimal n ++ 10 ∷ rest)) ∙ sym (append_assoc front (signed_decimal n) (10 ∷ rest)) in
    ap lines regroup
    ∙ one_line front (signed_decimal n) rest (Passes-append is_in_line x (codes " = ") named (refl, (refl, (refl, tt)))) (signed_pass is_in_line in_line_digit refl refl n fits) (signed_some n fits)
    (signed_pass is_no_return no_return_digit refl refl n fits)
    ∙ ap (λ z. z ∷ lines rest) (append_assoc x (codes " = ") (signed_decimal n))

array_lines : (x : Word) (n : ℕ) (ns rest : List ℕ) → Passes is_in_line x → AllByRecursion (λ m. m < 2 ^ 64) (n ∷ ns)
    → lines ((x ++ (codes " =" ++ (flat_map cell_text (n ∷ ns) ++ 10 ∷ []))) ++ rest) ≡ (x ++ (codes " = " ++ (decimal n ++ flat_map cell_text ns))) ∷ lines rest
array_lines x n ns rest named fit =
    let front = x ++ codes " =" in
    let tail = flat_map cell_text (n ∷ ns) in
    let regroup : (x ++ (codes " =" ++ (tail ++ 10 ∷ []))) ++ rest ≡ (front ++ tail) ++ 10 ∷ rest =
    append_assoc x (codes " =" ++ (tail ++ 10 ∷ [])) rest ∙ ap (λ z. x ++ (codes " =" ++ z)) (append_assoc tail (10 ∷ []) rest)
    ∙ sym (append_assoc x (codes " =") (tail ++ 10 ∷ rest)) ∙ sym (append_assoc front tail (10 ∷ rest)) in
    ap lines regroup
    ∙ one_line front tail rest (Passes-append is_in_line x (codes " =") named (refl, (refl, tt))) (cells_pass is_in_line in_line_digit refl refl (n ∷ ns) fit) (omega arith)
    (cells_pass is_no_return no_return_digit refl refl (n ∷ ns) fit)
    ∙ ap (λ z. z ∷ lines rest) (append_assoc x (codes " =") tail)

-- rows with the numbers from k on
rows_from : ℕ → List Row → Seen
rows_from k [] = []
rows_from k (r ∷ rs) = (k, r) ∷ rows_from (suc k) rs

rows_below : (j k : ℕ) (rs : List Row) → j < k → rows_of j (rows_from k rs) ≡ []
unfolding rows_from
rows_below j k [] lt = refl
rows_below j k (r ∷ rs) lt = rows_of-other j k r (rows_from (suc k) rs) (grind (arith, nat_tests)) ∙ rows_below j (suc k) rs (omega arith)

rows_at : (j k : ℕ) (rs : List Row) → rows_of (k + j) (rows_from k rs) ≡ option_to_list (slice_get rs j)
unfolding rows_from
rows_at j k [] = refl
rows_at zero k (r ∷ rs) =
    let same : k + 0 ≡ k = omega arith in
    ap (λ n. rows_of n ((k, r) ∷ rows_from (suc k) rs)) same ∙ rows_of-own k r (rows_from (suc k) rs) ∙ ap (λ z. r ∷ z) (rows_below k (suc k) rs (omega arith))
rows_at (suc j) k (r ∷ rs) =
    let same : k + suc j ≡ suc k + j = omega arith in
    rows_of-other (k + suc j) k r (rows_from (suc k) rs) (grind (arith, nat_tests)) ∙ ap (λ n. rows_of n (rows_from (suc k) rs)) same ∙ rows_at j (suc k) rs

module _ (f : Frame) where
  are_arrays : (items : List ArrayInfo) (cs : List (List ℕ)) (j : ℕ) → ((m : ℕ) (a : ArrayInfo) → slice_get items m ≡ Some a → slice_get f.arrays (j + m) ≡ Some a)
      → AllByRecursion (λ (a : ArrayInfo). Passes is_in_line a.name.bytes) items → length cs ≡ length items
      → AllByRecursion (λ ns. (0 < length ns) × AllByRecursion (λ n. n < 2 ^ 64) ns) cs
      → AreRows f (lines (paired array_text items cs)) (rows_from (length f.ints + j) (map (λ (ns : List ℕ). Cells ns) cs))
  unfolding rows_from
  are_arrays [] [] j at named same fit = refl
  are_arrays [] (c ∷ cs) j at named same fit = absurd (omega arith)
  are_arrays (a ∷ items) [] j at named same fit = absurd (omega arith)
  are_arrays (a ∷ items) ([] ∷ cs) j at named same fit = absurd (let some = fit.0.0 in omega arith)
  are_arrays (a ∷ items) ((n ∷ ns) ∷ cs) j at named same fit =
      let line = array_lines a.name.bytes n ns (paired array_text items cs) named.0 fit.0.1 in
      let rows = map (λ (ms : List ℕ). Cells ms) cs in
      let here : slice_get f.arrays j ≡ Some a = ap (slice_get f.arrays) (let e : j ≡ j + 0 = omega arith in e) ∙ at 0 a refl in
      let is : IsRow f (a.name.bytes ++ (codes " = " ++ (decimal n ++ flat_map cell_text ns))) (length f.ints + j) (Cells (n ∷ ns)) =
      (a, j, refl, here, (decimal n ++ flat_map cell_text ns, refl, spelled n ns fit.0.1)) in
      let others = are_arrays items cs (suc j) (λ m b e. ap (slice_get f.arrays) (let e2 : suc j + m ≡ j + suc m = omega arith in e2) ∙ at (suc m) b e) named.1 (omega arith) fit.1 in
      let next : length f.ints + suc j ≡ suc (length f.ints + j) = omega arith in
      let others' = subst (λ k. AreRows f (lines (paired array_text items cs)) (rows_from k rows)) next others in
      subst (λ ls. AreRows f ls ((length f.ints + j, Cells (n ∷ ns)) ∷ rows_from (suc (length f.ints + j)) rows)) (sym line)
      (inr (length f.ints + j, Cells (n ∷ ns), rows_from (suc (length f.ints + j)) rows, refl, is, others'))

  are_parameters : (ps : List (Name × ℤ × ℤ)) (ns : List ℤ) (k : ℕ) (rest : List ℕ) (more : List Row) → ((m : ℕ) (p : Name × ℤ × ℤ) → slice_get ps m ≡ Some p → slice_get f.ints (k + m) ≡ Some p)
      → AllByRecursion (λ (p : Name × ℤ × ℤ). Passes is_in_line p.0.bytes) ps → length ns ≡ length ps → k + length ps ≡ length f.ints
      → AllByRecursion (λ n. FitsSigned w64 n) ns → AreRows f (lines rest) (rows_from (length f.ints) more)
      → AreRows f (lines (paired parameter_text ps ns ++ rest)) (rows_from k (map (λ (n : ℤ). Value n) ns ++ more))
  unfolding rows_from
  are_parameters [] [] k rest more at named same count fit others = subst (λ n. AreRows f (lines rest) (rows_from n more)) (let e : length f.ints ≡ k = omega arith in e) others
  are_parameters [] (n ∷ ns) k rest more at named same count fit others = absurd (omega arith)
  are_parameters (p ∷ ps) [] k rest more at named same count fit others = absurd (omega arith)
  are_parameters (p ∷ ps) (n ∷ ns) k rest more at named same count fit others =
      let behind = paired parameter_text ps ns ++ rest in
      let line = ap lines (append_assoc (parameter_text p n) (paired parameter_text ps ns) rest) ∙ parameter_lines p.0.bytes n behind named.0 fit.0 in
      let rows = map (λ (m : ℤ). Value m) ns ++ more in
      let here : slice_get f.ints k ≡ Some p = ap (slice_get f.ints) (let e : k ≡ k + 0 = omega arith in e) ∙ at 0 p refl in
      let is : IsRow f (p.0.bytes ++ (codes " = " ++ signed_decimal n)) k (Value n) = (p, here, (fit.0, refl)) in
      let next = are_parameters ps ns (suc k) rest more (λ m q e. ap (slice_get f.ints) (let e2 : suc k + m ≡ k + suc m = omega arith in e2) ∙ at (suc m) q e) named.1 (omega arith) (omega arith) fit.1 others in
      subst (λ ls. AreRows f ls ((k, Value n) ∷ rows_from (suc k) rows)) (sym line)
      (inr (k, Value n, rows_from (suc k) rows, refl, is, next))

split_names : (f : Frame) → HasNamesInLines f → AllByRecursion (λ (p : Name × ℤ × ℤ). Passes is_in_line p.0.bytes) f.ints × AllByRecursion (λ (a : ArrayInfo). Passes is_in_line a.name.bytes) f.arrays
split_names f h = by f.ints h where
  arrays : (items : List ArrayInfo) → AllByRecursion (λ x. Passes is_in_line x) (map (λ (a : ArrayInfo). a.name.bytes) items) → AllByRecursion (λ (a : ArrayInfo). Passes is_in_line a.name.bytes) items
  arrays [] h = tt
  arrays (a ∷ items) h = (h.0, arrays items h.1)

  by : (ps : List (Name × ℤ × ℤ)) → AllByRecursion (λ x. Passes is_in_line x) (map (λ (p : Name × ℤ × ℤ). p.0.bytes) ps ++ map (λ (a : ArrayInfo). a.name.bytes) f.arrays)
      → AllByRecursion (λ (p : Name × ℤ × ℤ). Passes is_in_line p.0.bytes) ps × AllByRecursion (λ (a : ArrayInfo). Passes is_in_line a.name.bytes) f.arrays
  by [] h = (tt, arrays f.arrays h)
  by (p ∷ ps) h = let (first, others) = by ps h.1 in ((h.0, first), others)

count_map : {A B : Type 0} (v : A → B) (xs : List A) → length (map v xs) ≡ length xs
count_map v [] = refl
count_map v (x ∷ xs) = ap suc (count_map v xs)

pub written_means : (f : Frame) (i : Inputs) → HasNamesInLines f → CanBeWritten f i → Means f (data_text f i) i
written_means f i named w =
    let (parameters, arrays) = split_names f named in
    let values = map (λ (n : ℤ). Value n) i.ints in
    let cells = map (λ (ns : List ℕ). Cells ns) i.cells in
    let others = are_arrays f f.arrays i.cells 0 (λ m a e. ap (slice_get f.arrays) (let e2 : 0 + m ≡ m = omega arith in e2) ∙ e) arrays w.rows.cells w.cells in
    let others' = subst (λ k. AreRows f (lines (paired array_text f.arrays i.cells)) (rows_from k cells)) (let e : length f.ints + 0 ≡ length f.ints = omega arith in e) others in
    let all = are_parameters f f.ints i.ints 0 (paired array_text f.arrays i.cells) cells (λ m p e. ap (slice_get f.ints) (let e2 : 0 + m ≡ m = omega arith in e2) ∙ e) parameters w.rows.values (omega arith) w.values others' in
    let given = values ++ cells in
    let fronts : length values ≡ length f.ints = count_map (λ (n : ℤ). Value n) i.ints ∙ w.rows.values in
    let row : (k : ℕ) → rows_of k (rows_from 0 given) ≡ option_to_list (slice_get given k) = λ k. ap (λ n. rows_of n (rows_from 0 given)) (let e : k ≡ 0 + k = omega arith in e) ∙ rows_at k 0 given in
    record {
      rows = rows_from 0 given;
      spelled = all;
      complete = w.rows;
      values = λ k n e. row k ∙ ap option_to_list (get-front values cells k (Value n) (slice_get-map (λ (m : ℤ). Value m) i.ints k ∙ ap (option_map (λ (m : ℤ). Value m)) e));
      cells = λ k ns e. row (length f.ints + k) ∙ ap option_to_list
          (ap (λ n. slice_get given (n + k)) (sym fronts) ∙ get-back values cells k ∙ slice_get-map (λ (ms : List ℕ). Cells ms) i.cells k ∙ ap (option_map (λ (ms : List ℕ). Cells ms)) e);
    }
