-- Where a source isn't refused, no condition holds at its head nor at any of its items, and no count is over its limit.
use Rattle.std.proofs.Common.{◌≡◌, ℕ, zero, suc, ◌≤◌, Bool, true, false, cond, ◌&&◌, List, [], ◌∷◌, ◌++◌, Option, Some, None, refl, sym, ap, ◌||◌}
use Rattle.std.specs.Prelude.{slice_get, nat_lt}
use Rattle.std.specs.List.{AllByRecursion}
use Rattle.std.proofs.lemmas.Bool.{and_parts, not-false, ltb-false}
use Rattle.c_tree.specs.Plain.{PlainStmt, table, PlainUnit}
use Rattle.acceptance.specs.Items.{Item, items_all, tables_after, Condition, first_where, least_item, lowest, scope_at, is_int, is_loop}
use Rattle.acceptance.specs.Affine.{is_affine, holds_throughout, is_narrow}
use Rattle.acceptance.specs.Head.{bad_range, intervals_of, extent_not_positive}
use Rattle.acceptance.specs.Printed.{item_name_twice, item_uses_known, exprs_fit, names_fit, literals_fit, fits_dimensions, dimensions, name_twice, name_unknown, wrong_dimensions, bad_literal, at_head}
use Rattle.c_tree.specs.Reserved.{is_reserved}
use Rattle.acceptance.specs.Parts.{item_parts_hold, intervals_in}
use Rattle.acceptance.specs.Limits.{int_count, array_count, Excess, depth, reads_of, overall, first_over, first_excess, counts, too_many}
use Rattle.acceptance.specs.Trees.{IsInner}
use Rattle.c_tree.specs.declared.refusal.Counted.{Counted}
use Rattle.c_tree.specs.declared.refusal.Counted.TheVariants.{Parameters, Arrays, Depth, Reads}
use Rattle.acceptance.specs.Sources.{at_loop, assigns_data, target_holds, is_const_array, reserved_name, not_affine, coefficient_too_large, interval_too_wide, write_to_const, are_indexed, assigned_cells_hold, bad_index_array, writes_regular, irregular_write, item_of, judged, refusal}

-- ---- nowhere

-- no number is answered where none has an item
pub one_of : (js : List (ℕ × Option ℕ)) → lowest js ≡ None → (k n : ℕ) (o : Option ℕ) → slice_get js k ≡ Some (n, o) → o ≡ None
one_of [] e k n o g = cc
one_of ((m, None) ∷ js) e zero n o g = let s : (let p : ℕ × Option ℕ = (m, None) in p) ≡ (let p : ℕ × Option ℕ = (n, o) in p) = cc in sym (ap (λ (p : ℕ × Option ℕ). p.1) s)
one_of ((m, None) ∷ js) e (suc k) n o g = one_of js e k n o g
one_of ((m, Some item) ∷ js) e k n o g = absurd (let f : Some (m, item) ≡ None = e in cc)

not_head : (b : Bool) (n : ℕ) (o : Option ℕ) → cond b (Some n) o ≡ None → (b ≡ false) × (o ≡ None)
not_head true n o e = absurd (let f : Some n ≡ None = e in cc)
not_head false n o e = (refl, e)

none_holds : (p : Item → Bool) (k : ℕ) (xs : List Item) → first_where p k xs ≡ None → AllByRecursion (λ i. p i ≡ false) xs
none_holds p k [] e = tt
none_holds p k (x ∷ xs) e = let h = not_head (p x) k (first_where p (suc k) xs) e in (h.0, none_holds p (suc k) xs h.1)

-- a condition that holds at no item
pub record Nowhere (u : PlainUnit) (c : Condition) : Type 0 where
  pub head : c.head ≡ false
  pub inside : AllByRecursion (λ i. c.inside i ≡ false) (items_all u.body [] [])

nowhere : (u : PlainUnit) (c : Condition) → least_item u c ≡ None → Nowhere u c
nowhere u c e =
    let h = not_head c.head 0 (first_where c.inside 1 (items_all u.body [] [])) e in
    record { head = h.0; inside = none_holds c.inside 1 (items_all u.body [] []) h.1 }

-- ---- limits

no_excess : (es : List (Option Excess)) → first_excess es ≡ None → (k : ℕ) (o : Option Excess) → slice_get es k ≡ Some o → o ≡ None
no_excess [] e k o g = cc
no_excess (None ∷ es) e zero o g = cc
no_excess (None ∷ es) e (suc k) o g = no_excess es e k o g
no_excess (Some x ∷ es) e k o g = absurd (let f : Some x ≡ None = e in cc)

no_item : (o : Option Excess) → item_of o ≡ None → o ≡ None
no_item None e = refl
no_item (Some x) e = absurd (let f : Some x.item ≡ None = e in cc)

under : (c : Counted) (most n : ℕ) → overall c most n ≡ None → n ≤ most
under c most n e = chosen (nat_lt most n) refl e
  where
    chosen : (b : Bool) → nat_lt most n ≡ b → cond b (Some (let x : Excess = record { counted = c; count = n; item = 0 } in x)) None ≡ None → n ≤ most
    chosen true same e = absurd (let f : Some (let x : Excess = record { counted = c; count = n; item = 0 } in x) ≡ None = e in cc)
    chosen false same e = ltb-false most n same

each_under : (c : Counted) (most : ℕ) (f : Item → ℕ) (k : ℕ) (xs : List Item) → first_over c most f k xs ≡ None → AllByRecursion (λ i. f i ≤ most) xs
each_under c most f k [] e = tt
each_under c most f k (x ∷ xs) e = chosen (nat_lt most (f x)) refl e (each_under c most f (suc k) xs)
  where
    chosen : (b : Bool) → nat_lt most (f x) ≡ b → cond b (Some (let x : Excess = record { counted = c; count = f x; item = k } in x)) (first_over c most f (suc k) xs) ≡ None →
        (first_over c most f (suc k) xs ≡ None → AllByRecursion (λ i. f i ≤ most) xs) → (f x ≤ most) × AllByRecursion (λ i. f i ≤ most) xs
    chosen true same e rest = absurd (let g : Some (let x : Excess = record { counted = c; count = f x; item = k } in x) ≡ None = e in cc)
    chosen false same e rest = (ltb-false most (f x) same, rest e)

-- ---- an item at which none holds

pub record Clear (u : PlainUnit) (i : Item) : Type 0 where
  pub once : item_name_twice (scope_at u i) u.name i.stmt ≡ false
  pub known : item_uses_known (scope_at u i) i.stmt ≡ true
  pub free : at_loop is_reserved i.stmt ≡ false
  pub shallow : depth i ≤ 6
  pub few : reads_of i.stmt ≤ 16
  pub affine : item_parts_hold (is_affine (scope_at u i)) (scope_at u i) i.stmt ≡ true
  pub data_alone : assigns_data (scope_at u i) i.stmt ≡ true
  pub narrow : item_parts_hold (holds_throughout (is_narrow (intervals_in (intervals_of u) i.loops))) (scope_at u i) i.stmt ≡ true
  pub fits : exprs_fit (fits_dimensions (dimensions (scope_at u i))) i.stmt ≡ true
  pub literals : exprs_fit literals_fit i.stmt ≡ true
  pub target : target_holds (λ x. is_const_array u.params x || (is_int u.params x || is_loop i.loops x)) i.stmt ≡ false
  pub indexed : assigned_cells_hold (are_indexed u.params) i.stmt ≡ true
  pub regular : writes_regular i.stmt ≡ true

module _ (u : PlainUnit) where
  abbrev Never : Condition → List Item → Type 0
  Never c xs = AllByRecursion (λ i. c.inside i ≡ false) xs

  together : (xs : List Item) → Never (name_twice u) xs → Never (name_unknown u) xs → Never (reserved_name u) xs →
      AllByRecursion (λ i. depth i ≤ 6) xs → AllByRecursion (λ (i : Item). reads_of i.stmt ≤ 16) xs →
      Never (not_affine u) xs → Never (interval_too_wide u) xs → Never (wrong_dimensions u) xs → Never (write_to_const u) xs → Never (bad_literal u) xs → Never (bad_index_array u) xs → Never (irregular_write u) xs → AllByRecursion (Clear u) xs
  together [] a b c d e f g h k m n o = tt
  together (x ∷ xs) a b c d e f g h k m n o =
      let sc = scope_at u x in
      let affine = not-false (item_parts_hold (is_affine sc) sc x.stmt && assigns_data sc x.stmt) f.0 in
      let fits = not-false (exprs_fit (fits_dimensions (dimensions sc)) x.stmt && names_fit sc x.stmt) h.0 in (
        record {
          once = a.0;
          known = not-false (item_uses_known sc x.stmt) b.0;
          free = c.0;
          shallow = d.0;
          few = e.0;
          affine = (and_parts (item_parts_hold (is_affine sc) sc x.stmt) (assigns_data sc x.stmt) affine).0;
          data_alone = (and_parts (item_parts_hold (is_affine sc) sc x.stmt) (assigns_data sc x.stmt) affine).1;
          narrow = not-false (item_parts_hold (holds_throughout (is_narrow (intervals_in (intervals_of u) x.loops))) sc x.stmt) g.0;
          fits = (and_parts (exprs_fit (fits_dimensions (dimensions sc)) x.stmt) (names_fit sc x.stmt) fits).0;
          literals = not-false (exprs_fit literals_fit x.stmt) m.0;
          target = k.0;
          indexed = not-false (assigned_cells_hold (are_indexed u.params) x.stmt) n.0;
          regular = not-false (writes_regular x.stmt) o.0;
        },
        together xs a.1 b.1 c.1 d.1 e.1 f.1 g.1 h.1 k.1 m.1 n.1 o.1,
      )

  pub record Unrefused : Type 0 where
    pub once : Nowhere u (name_twice u)
    pub known : Nowhere u (name_unknown u)
    pub free : Nowhere u (reserved_name u)
    pub ranges : (bad_range u).head ≡ false
    pub few_ints : int_count u.params ≤ 8
    pub few_arrays : array_count u.params ≤ 16
    pub affine : Nowhere u (not_affine u)
    pub small : Nowhere u (coefficient_too_large u)
    pub narrow : Nowhere u (interval_too_wide u)
    pub positive : extent_not_positive u ≡ false
    pub items : AllByRecursion (Clear u) (items_all u.body [] [])

  pub unrefused : refusal u ≡ None → Unrefused
  unrefused e =
      let none = one_of (judged u) e in
      let excess = no_excess (counts u) (no_item (too_many u) (none 4 8 (item_of (too_many u)) refl)) in
      let once = nowhere u (name_twice u) (none 0 4 (least_item u (name_twice u)) refl) in
      let known = nowhere u (name_unknown u) (none 1 5 (least_item u (name_unknown u)) refl) in
      let free = nowhere u (reserved_name u) (none 2 6 (least_item u (reserved_name u)) refl) in
      let affine = nowhere u (not_affine u) (none 5 9 (least_item u (not_affine u)) refl) in
      let narrow = nowhere u (interval_too_wide u) (none 7 11 (least_item u (interval_too_wide u)) refl) in
      let dims = nowhere u (wrong_dimensions u) (none 9 13 (least_item u (wrong_dimensions u)) refl) in
      let target = nowhere u (write_to_const u) (none 10 14 (least_item u (write_to_const u)) refl) in
      let literals = nowhere u (bad_literal u) (none 12 16 (least_item u (bad_literal u)) refl) in
      let indexed = nowhere u (bad_index_array u) (none 11 15 (least_item u (bad_index_array u)) refl) in
      let regular = nowhere u (irregular_write u) (none 13 17 (least_item u (irregular_write u)) refl) in
      let xs = items_all u.body [] [] in
      record {
        once = once;
        known = known;
        free = free;
        ranges = (nowhere u (bad_range u) (none 3 7 (least_item u (bad_range u)) refl)).head;
        few_ints = under Parameters 8 (int_count u.params) (excess 0 (overall Parameters 8 (int_count u.params)) refl);
        few_arrays = under Arrays 16 (array_count u.params) (excess 1 (overall Arrays 16 (array_count u.params)) refl);
        affine = affine;
        small = nowhere u (coefficient_too_large u) (none 6 10 (least_item u (coefficient_too_large u)) refl);
        narrow = narrow;
        positive = (nowhere u (at_head (extent_not_positive u)) (none 8 12 (least_item u (at_head (extent_not_positive u))) refl)).head;
        items = together xs once.inside known.inside free.inside
            (each_under Depth 6 depth 1 xs (excess 3 (first_over Depth 6 depth 1 xs) refl))
            (each_under Reads 16 (λ i. reads_of i.stmt) 1 xs (excess 5 (first_over Reads 16 (λ i. reads_of i.stmt) 1 xs) refl))
            affine.inside narrow.inside dims.inside target.inside literals.inside indexed.inside regular.inside;
      }

-- ---- the items of parts

pub all_front : (P : Item → Type 0) (xs ys : List Item) → AllByRecursion P (xs ++ ys) → AllByRecursion P xs
all_front P [] ys h = tt
all_front P (x ∷ xs) ys h = (h.0, all_front P xs ys h.1)

pub all_back : (P : Item → Type 0) (xs ys : List Item) → AllByRecursion P (xs ++ ys) → AllByRecursion P ys
all_back P [] ys h = h
all_back P (x ∷ xs) ys h = all_back P xs ys h.1

-- a source makes no table
pub tables_same : (s : PlainStmt) → IsInner false 0 s → (ts : List (List ℕ)) → tables_after s ts ≡ ts
tables_same (table x len) h ts = absurd h
tables_same _ h ts = refl
