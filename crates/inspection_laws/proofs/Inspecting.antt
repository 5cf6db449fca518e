-- The numbers of an array's definitions differ, and each access moves the entries as it should.
use Rattle.std.proofs.Common.{◌≡◌, ◌≢◌, inl, inr, ℕ, zero, suc, ◌+◌, ◌-◌, ◌*◌, ◌<◌, ◌≤◌, Bool, true, false, not, ◌&&◌, ◌==◌, if◌then◌else◌, List, [], ◌∷◌, length, refl, sym, ap, ◌∙◌, subst, arith, ℤ, pos, eq-eqb, true≢false, mul-le-mul_right, get_or-set_same, get_or-set_other, length-set}
use Rattle.std.specs.Prelude.{slice_index, slice_set}
use Rattle.std.proofs.lemmas.Bool.{cases_Bool, cases_eq, cases_lt, and_parts, and_from, eqb-true}
use Rattle.c_tree.specs.Arrays.{size_of, cell_count, same_cell}
use Rattle.c_tree.specs.Accesses.{Access, nowhere, at, is_of, Definition, same_definition, latest, last_writer, reads_from, uses, Within}
use Rattle.c_tree.specs.Accesses.Definition.{Initial, Written}
use Rattle.balance_laws.proofs.Sums.{sum_below_more, sum_below_none}
use Rattle.balance_laws.proofs.Latest.{is_of-true, same_definition-true, same_definition_refl, latest_start, latest_written, latest_kept, latest_is, IsLatest, at_first, by_write}
use Rattle.cell_laws.proofs.SameCell.{same_cell_refl, same_cell-true}
use Rattle.std.proofs.lemmas.List.{get_or_past}
use Rattle.inspection_laws.specs.Inspected.{row, writes_array, writes_before, IsIts, number_of, uses_below, Inspected}

-- ---- rows

-- k-th block of n
block : (k e n r : ℕ) → k < e → r < n → k * n + r < e * n
block k e n r h l = let a : (k + 1) * n ≤ e * n = mul-le-mul_right n (let g : k + 1 ≤ e = omega arith in g) in omega arith

pub row_below : (es cs : List ℤ) → Within es cs → row es cs < cell_count es
row_below [] [] h = omega arith
row_below [] (c ∷ cs) h = absurd h
row_below (e ∷ es) [] h = absurd h
row_below (e ∷ es) (c ∷ cs) h =
    let k : size_of c ≡ h.0.0 = ap size_of h.0.1 in
    subst (λ k. k * cell_count es + row es cs < size_of e * cell_count es) (sym k) (block h.0.0 (size_of e) (cell_count es) (row es cs) h.0.2 (row_below es cs h.1))

blocks_apart : (k l n r s : ℕ) → r < n → s < n → k * n + r ≡ l * n + s → (k ≡ l) × (r ≡ s)
blocks_apart k l n r s h g e =
    elim (cases_eq k l) [
      | inl same ↦ (same, (let f : k * n ≡ l * n = ap (λ k. k * n) same in omega arith))
      | inr other ↦ elim (cases_lt k l) [
        | inl less ↦ absurd (let a : (k + 1) * n ≤ l * n = mul-le-mul_right n (let g : k + 1 ≤ l = omega arith in g) in omega arith)
        | inr more ↦ absurd (let a : (l + 1) * n ≤ k * n = mul-le-mul_right n (let g : l + 1 ≤ k = omega arith in g) in omega arith)
      ]
    ]

pub row_apart : (es cs ds : List ℤ) → Within es cs → Within es ds → row es cs ≡ row es ds → cs ≡ ds
row_apart [] [] [] h g e = refl
row_apart [] [] (d ∷ ds) h g e = absurd g
row_apart [] (c ∷ cs) ds h g e = absurd h
row_apart (z ∷ es) [] ds h g e = absurd h
row_apart (z ∷ es) (c ∷ cs) [] h g e = absurd g
row_apart (z ∷ es) (c ∷ cs) (d ∷ ds) h g e =
    let p = blocks_apart (size_of c) (size_of d) (cell_count es) (row es cs) (row es ds) (row_below es cs h.1) (row_below es ds g.1) e in
    let same : h.0.0 ≡ g.0.0 = sym (ap size_of h.0.1) ∙ p.0 ∙ ap size_of g.0.1 in
    let one : c ≡ d = h.0.1 ∙ ap pos same ∙ sym g.0.1 in
    let all : cs ≡ ds = row_apart es cs ds h.1 g.1 p.1 in
    ap (λ c. c ∷ cs) one ∙ ap (λ cs. d ∷ cs) all

-- ---- entries

entry_same : (l : List ℕ) (i n : ℕ) → i < length l → slice_index (slice_set l i n) i ≡ n
entry_same l i n h = get_or-set_same l i n 0 h

entry_other : (l : List ℕ) (i j n : ℕ) → j ≢ i → slice_index (slice_set l i n) j ≡ slice_index l j
entry_other l i j n h = get_or-set_other l i j n 0 h

module _ (list : List Access) (a : ℕ) (es : List ℤ) where
  -- ---- numbers

  pub before_more : (n : ℕ) (b : Bool) → writes_array list a n ≡ b → writes_before list a (suc n) ≡ writes_before list a n + (if b then 1 else 0)
  before_more n b e = sum_below_more (λ q. if writes_array list a q then 1 else 0) n ∙ ap (λ b. writes_before list a n + (if b then 1 else 0)) e

  pub before_mono : (n m : ℕ) → n ≤ m → writes_before list a n ≤ writes_before list a m
  before_mono n zero l = let e : writes_before list a n ≡ writes_before list a 0 = ap (writes_before list a) (let g : n ≡ 0 = omega arith in g) in omega arith
  before_mono n (suc m) l =
      elim (cases_eq n (suc m)) [
        | inl same ↦ (let e : writes_before list a n ≡ writes_before list a (suc m) = ap (writes_before list a) same in omega arith)
        | inr other ↦ elim (cases_Bool (writes_array list a m)) [
          | inl e ↦ (let m' = before_more m true e in let r = before_mono n m (omega arith) in omega arith)
          | inr e ↦ (let m' = before_more m false e in let r = before_mono n m (omega arith) in omega arith)
        ]
      ]

  pub before_less : (n m : ℕ) → n < m → writes_array list a n ≡ true → writes_before list a n < writes_before list a m
  before_less n m l h = let s = before_more n true h in let r = before_mono (suc n) m (omega arith) in omega arith

  written_apart : (p q : ℕ) → writes_array list a p ≡ true → writes_array list a q ≡ true → writes_before list a p ≡ writes_before list a q → p ≡ q
  written_apart p q h g e =
      elim (cases_eq p q) [
        | inl same ↦ same
        | inr other ↦ elim (cases_lt p q) [
          | inl less ↦ absurd (let r = before_less p q less h in omega arith)
          | inr more ↦ absurd (let r = before_less q p (omega arith) g in omega arith)
        ]
      ]

  pub numbers_apart : (d f : Definition) → IsIts list a es d → IsIts list a es f → number_of list a es d ≡ number_of list a es f → d ≡ f
  numbers_apart (Initial b c) (Initial x y) h g e =
      let arrays : b ≡ x = h.0 ∙ sym g.0 in
      let cells : c ≡ y = row_apart es c y h.1 g.1 e in
      ap (λ b. Initial b c) arrays ∙ ap (λ c. Initial x c) cells
  numbers_apart (Initial b c) (Written q) h g e = absurd (let r = row_below es c h.1 in omega arith)
  numbers_apart (Written p) (Initial x y) h g e = absurd (let r = row_below es y g.1 in omega arith)
  numbers_apart (Written p) (Written q) h g e = ap Written (written_apart p q h g (omega arith))

  -- the definition that stands in a cell of the array is its
  pub latest_its : (c : List ℤ) (n : ℕ) → Within es c → IsIts list a es (latest list a c n)
  latest_its c n w = its (latest list a c n) (latest_is list a c n)
    where
      its : (d : Definition) → IsLatest list a c n d → IsIts list a es d
      its d (at_first e) = subst (IsIts list a es) (sym e) (refl, w)
      its d (by_write p l h e) =
          let g = and_parts ((at list p).writes) (is_of (at list p) a c) h in
          let both = and_parts ((at list p).array == a) (same_cell (at list p).cell c) g.1 in
          subst (IsIts list a es) (sym e) (and_from ((at list p).writes) ((at list p).array == a) g.0 both.0)

  -- and one of a cell of another array isn't
  latest_other : (b n : ℕ) (c : List ℤ) → b ≢ a → (d : Definition) → IsIts list a es d → same_definition (latest list b c n) d ≡ false
  latest_other b n c ne d h = elim (cases_Bool (same_definition (latest list b c n) d)) [ inl e ↦ absurd (no_such d h (subst (λ d. IsLatest list b c n d) (same_definition-true _ _ e) (latest_is list b c n))) | inr e ↦ e ]
    where
      no_such : (d : Definition) → IsIts list a es d → IsLatest list b c n d → ⊥
      no_such (Initial x y) h (at_first e) = ne (sym (array_of_initial e) ∙ h.0)
        where
          array_in : Definition → ℕ
          array_in (Initial x y) = x
          array_in (Written p) = 0

          array_of_initial : Initial x y ≡ Initial b c → x ≡ b
          array_of_initial e = ap array_in e
      no_such (Initial x y) h (by_write p l w e) = absurd (let g = e in cc)
      no_such (Written q) h (at_first e) = absurd (let g = e in cc)
      no_such (Written q) h (by_write p l w e) =
          let g = and_parts _ _ w in
          let i = is_of-true (at list p) b c g.1 in
          let same : q ≡ p = position e in
          let k = and_parts _ _ h in
          ne (sym i.0 ∙ ap (λ p. (at list p).array) (sym same) ∙ eqb-true _ _ k.1)
        where
          position_in : Definition → ℕ
          position_in (Initial x y) = 0
          position_in (Written p) = p

          position : Written q ≡ Written p → q ≡ p
          position e = ap position_in e

  -- ---- uses

  uses_more : (n : ℕ) (d : Definition) (b : Bool) → reads_from list d n ≡ b → uses_below list (suc n) d ≡ uses_below list n d + (if b then 1 else 0)
  uses_more n d b e = sum_below_more (λ q. if reads_from list d q then 1 else 0) n ∙ ap (λ b. uses_below list n d + (if b then 1 else 0)) e

  no_read : (n : ℕ) (d : Definition) → reads_from list d n ≡ false → uses_below list (suc n) d ≡ uses_below list n d
  no_read n d e = let m = uses_more n d false e in omega arith

  -- ---- at the start

  pub starts : (current counts : List ℕ) → length current ≡ cell_count es → length counts ≡ cell_count es + writes_before list a (length list) → ((i : ℕ) → slice_index current i ≡ 0) → ((i : ℕ) → slice_index counts i ≡ 0) →
      Inspected list a es 0 current counts 0
  starts current counts h g low none = record {
    cells = h;
    definitions = g;
    writes = sym (sum_below_none (λ q. if writes_array list a q then 1 else 0));
    stands = λ c w. (let z = low (row es c) in omega arith) ∙ sym (ap (number_of list a es) (latest_start list a c));
    counted = λ d h. none (number_of list a es d) ∙ sym (sum_below_none (λ q. if reads_from list d q then 1 else 0));
  }

  module _ (n : ℕ) (current counts : List ℕ) (written : ℕ) (h : Inspected list a es n current counts written) where
    -- ---- an access of another array

    pub skipped : (at list n).array ≢ a → Inspected list a es (suc n) current counts written
    skipped ne =
        let apart : ((at list n).array == a) ≡ false = elim (cases_Bool ((at list n).array == a)) [ inl e ↦ absurd (ne (eqb-true _ _ e)) | inr e ↦ e ] in
        let none : writes_array list a n ≡ false = and_false (at list n).writes ((at list n).array == a) apart in
        record {
          cells = h.cells;
          definitions = h.definitions;
          writes = h.writes ∙ (let m = before_more n false none in omega arith);
          stands = λ c w. h.stands c w ∙ sym (ap (number_of list a es) (latest_kept list a c n
              (and_false (at list n).writes (is_of (at list n) a c) (ap (λ b. b && same_cell (at list n).cell c) apart))));
          counted = λ d its. h.counted d its ∙ sym (no_read n d (and_false (not (at list n).writes) (same_definition (last_writer list n) d) (latest_other (at list n).array n (at list n).cell ne d its)));
        }
      where
        and_false : (x y : Bool) → y ≡ false → (x && y) ≡ false
        and_false true y e = e
        and_false false y e = refl

    -- ---- a read of it

    module _ (ours : (at list n).array ≡ a) (lies : Within es (at list n).cell) where
      abbrev cell : List ℤ
      cell = (at list n).cell

      abbrev here : ℕ
      here = row es cell + slice_index current (row es cell)

      here_is : here ≡ number_of list a es (latest list a cell n)
      here_is = h.stands cell lies

      its : IsIts list a es (latest list a cell n)
      its = latest_its cell n lies

      pub number_below : (d : Definition) → IsIts list a es d → number_of list a es d < length counts
      number_below (Initial b c) i = let r = row_below es c i.1 in let l = h.definitions in omega arith
      number_below (Written p) i =
          let l = h.definitions in
          elim (cases_lt p (length list)) [
            | inl less ↦ (let r = before_less p (length list) less i in omega arith)
            | inr more ↦ absurd (true≢false (sym i ∙ past p more))
          ]
        where
          past : (p : ℕ) → length list ≤ p → writes_array list a p ≡ false
          past p l = ap (λ (x : Access). x.writes && (x.array == a)) (get_or_past list p nowhere l)

      pub read : (at list n).writes ≡ false → Inspected list a es (suc n) current (slice_set counts here (slice_index counts here + 1)) written
      read r = record {
        cells = h.cells;
        definitions = length-set counts here (slice_index counts here + 1) ∙ h.definitions;
        writes = h.writes ∙ (let m = before_more n false (ap (λ b. b && ((at list n).array == a)) r) in omega arith);
        stands = λ c w. h.stands c w ∙ sym (ap (number_of list a es) (latest_kept list a c n (ap (λ b. b && is_of (at list n) a c) r)));
        counted = λ d i. elim (cases_Bool (same_definition (latest list a cell n) d)) [
          | inl e ↦ (
              let same : latest list a cell n ≡ d = same_definition-true _ _ e in
              let number : number_of list a es d ≡ here = sym (ap (number_of list a es) same) ∙ sym here_is in
              let more : uses_below list (suc n) d ≡ uses_below list n d + 1 = uses_more n d true (reading d ∙ e) in
              ap (λ k. slice_index (slice_set counts here (slice_index counts here + 1)) k) number ∙ entry_same counts here (slice_index counts here + 1) (subst (λ k. k < length counts) number (number_below d i)) ∙
              ap (λ k. slice_index counts k + 1) (sym number) ∙ ap (λ k. k + 1) (h.counted d i) ∙ sym more)
          | inr e ↦ (
              let apart : number_of list a es d ≢ here = λ g. true≢false (sym (same_definition_refl d) ∙ ap (λ x. same_definition x d) (numbers_apart d (latest list a cell n) i its (g ∙ here_is)) ∙ e) in
              entry_other counts here (number_of list a es d) (slice_index counts here + 1) apart ∙ h.counted d i ∙ sym (no_read n d (reading d ∙ e)))
        ];
      }
        where
          reading : (d : Definition) → reads_from list d n ≡ same_definition (latest list a cell n) d
          reading d = ap (λ b. not b && same_definition (last_writer list n) d) r ∙ ap (λ b. same_definition (latest list b cell n) d) ours

      -- ---- a write of it

      pub wrote : (at list n).writes ≡ true → Inspected list a es (suc n) (slice_set current (row es cell) (cell_count es + written - row es cell)) counts (written + 1)
      wrote r =
          let mine : writes_array list a n ≡ true = and_from (at list n).writes ((at list n).array == a) r (eq-eqb _ _ ours) in
          record {
            cells = length-set current (row es cell) (cell_count es + written - row es cell) ∙ h.cells;
            definitions = h.definitions;
            writes = (let m = before_more n true mine in let k = h.writes in omega arith);
            stands = λ c w. elim (cases_Bool (same_cell cell c)) [
              | inl e ↦ (
                  let same : cell ≡ c = same_cell-true cell c e in
                  let rows : row es c ≡ row es cell = ap (row es) (sym same) in
                  let low : row es cell < cell_count es = row_below es cell lies in
                  let new : slice_index (slice_set current (row es cell) (cell_count es + written - row es cell)) (row es c) ≡ cell_count es + written - row es cell =
                  ap (λ k. slice_index (slice_set current (row es cell) (cell_count es + written - row es cell)) k) rows ∙ entry_same current (row es cell) (cell_count es + written - row es cell) (let l = h.cells in omega arith) in
                  let k : written ≡ writes_before list a n = h.writes in
                  let last : number_of list a es (latest list a c (suc n)) ≡ cell_count es + writes_before list a n =
                  ap (number_of list a es) (latest_written list a c n (and_from (at list n).writes (is_of (at list n) a c) r (and_from ((at list n).array == a) (same_cell cell c) (eq-eqb _ _ ours) e))) in
                  omega arith)
              | inr e ↦ (
                  let other : row es c ≢ row es cell = λ g. true≢false (sym (same_cell_refl cell) ∙ ap (same_cell cell) (row_apart es cell c lies w (sym g)) ∙ e) in
                  let kept : slice_index (slice_set current (row es cell) (cell_count es + written - row es cell)) (row es c) ≡ slice_index current (row es c) = entry_other current (row es cell) (row es c) (cell_count es + written - row es cell) other in
                  let before = h.stands c w in
                  let last : number_of list a es (latest list a c (suc n)) ≡ number_of list a es (latest list a c n) = ap (number_of list a es) (latest_kept list a c n (not_it (at list n).writes ((at list n).array == a) (same_cell cell c) e)) in
                  omega arith)
            ];
            counted = λ d i. h.counted d i ∙ sym (no_read n d (ap (λ b. not b && same_definition (last_writer list n) d) r));
          }
        where
          not_it : (x y z : Bool) → z ≡ false → (x && (y && z)) ≡ false
          not_it true true z e = e
          not_it true false z e = refl
          not_it false y z e = refl

  -- ---- at the end

  pub ends_with : (current counts : List ℕ) (written : ℕ) → Inspected list a es (length list) current counts written → (d : Definition) → IsIts list a es d → slice_index counts (number_of list a es d) ≡ uses list d
  unfolding uses
  ends_with current counts written h d i = h.counted d i
