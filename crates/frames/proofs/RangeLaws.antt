-- The parameters with the ends of their range lines.
use Rattle.std.proofs.Common.{◌≡◌, ◌≤◌, ◌^◌, ℕ, zero, suc, Bool, true, false, cond, not, ◌&&◌, nat_eq, List, [], ◌∷◌, map, slice_get, Some, ℤ, pos, negsuc, unsigned_abs, refl, sym, subst, arith}
use Rattle.std.specs.Prelude.{bytes_eq, int_lt}
use Rattle.std.specs.List.{list_all}
use Rattle.std.proofs.lemmas.Bool.{and_parts, not-false}
use Rattle.std.proofs.lemmas.Int.{ints}
use Rattle.std.proofs.lemmas.Option.{same_Some}
use Rattle.c_tree.specs.Inputs.{range_of}
use Rattle.c_tree.specs.Names.{words, ints_in}
use Rattle.c_tree.specs.Plain.{Word, PlainParam, int_param, array_param, PlainUnit}
use Rattle.c_tree.specs.Trees.{word}
use Rattle.c_tree.specs.declared.name.Name.{Name}
use Rattle.acceptance.specs.Affine.{lies_in}
use Rattle.acceptance.specs.Items.{is_int}
use Rattle.acceptance.specs.Head.{lines_of, each_has_line, is_range, bad_range}
use Rattle.data_file.specs.Frames.{AreInts}
use Rattle.frames.specs.Built.{ends_in, with_ends}

pub small : (m : ℕ) (a : ℤ) → lies_in (pos m) a ≡ true → unsigned_abs a ≤ m
small m (pos n) h = grind (arith, ints)
small m (negsuc n) h = grind (arith, ints)

-- ---- a name that has a line

range_is : (rs : List (Word × ℤ × ℤ)) (x : Word) → nat_eq (lines_of rs x) 0 ≡ false → range_of rs x ≡ Some ((ends_in rs x).0, (ends_in rs x).1)
range_is [] x h = cc
range_is (r ∷ rs) x h = by (bytes_eq r.0 x) h (range_is rs x)
  where
    by : (b : Bool) → nat_eq (cond b (suc (lines_of rs x)) (lines_of rs x)) 0 ≡ false → (nat_eq (lines_of rs x) 0 ≡ false → range_of rs x ≡ Some ((ends_in rs x).0, (ends_in rs x).1))
        → cond b (Some (r.1, r.2)) (range_of rs x) ≡ Some ((cond b (r.1, r.2) (ends_in rs x)).0, (cond b (r.1, r.2) (ends_in rs x)).1)
    by true g f = refl
    by false g f = f g

has_one : (n : ℕ) → nat_eq n 1 ≡ true → nat_eq n 0 ≡ false
has_one n h = grind arith

pub are_ints : (rs : List (Word × ℤ × ℤ)) (ps : List PlainParam) (names : List Name) → words names ≡ ints_in ps → each_has_line rs ps ≡ true → AreInts rs ps (map (with_ends rs) names)
are_ints rs [] [] e h = tt
are_ints rs [] (y ∷ ys) e h = absurd (let no : ⊥ = cc in no)
are_ints rs (array_param x constant extents ∷ ps) names e h = are_ints rs ps names e h
are_ints rs (int_param x ∷ ps) [] e h = absurd (let no : ⊥ = cc in no)
are_ints rs (int_param x ∷ ps) (y ∷ ys) e h =
    let k = and_parts (nat_eq (lines_of rs x) 1) (each_has_line rs ps) h in
    let first : word y ≡ x = cc in
    let rest : words ys ≡ ints_in ps = cc in
    let range = range_is rs x (has_one (lines_of rs x) k.0) in
    let P : Word → Type 0 = λ w. range_of rs x ≡ Some ((ends_in rs w).0, (ends_in rs w).1) in
    (first, subst P (sym first) range, are_ints rs ps ys rest k.1)

-- ---- the ends are small

pub record HasSmallEnds (p : ℤ × ℤ) : Type 0 where
  pub low : unsigned_abs p.0 ≤ 2 ^ 40
  pub high : unsigned_abs p.1 ≤ 2 ^ 40

small_range : (p : ℤ × ℤ) → is_range p ≡ true → HasSmallEnds p
small_range p h =
    let k = and_parts (not (int_lt p.1 p.0)) (lies_in (pos (2 ^ 40)) p.0 && lies_in (pos (2 ^ 40)) p.1) h in
    let l = and_parts (lies_in (pos (2 ^ 40)) p.0) (lies_in (pos (2 ^ 40)) p.1) k.1 in
    record { low = small (2 ^ 40) p.0 l.0; high = small (2 ^ 40) p.1 l.1 }

small_ends : (ps : List PlainParam) (rs : List (Word × ℤ × ℤ)) (x : Word) → list_all (λ r. is_int ps r.0 && is_range (r.1, r.2)) rs ≡ true → HasSmallEnds (ends_in rs x)
small_ends ps [] x h = record { low = omega arith; high = omega arith }
small_ends ps (r ∷ rs) x h =
    let k = and_parts (is_int ps r.0 && is_range (r.1, r.2)) (list_all (λ r. is_int ps r.0 && is_range (r.1, r.2)) rs) h in
    by (bytes_eq r.0 x) (small_range (r.1, r.2) (and_parts (is_int ps r.0) (is_range (r.1, r.2)) k.0).1) (small_ends ps rs x k.1)
  where
    by : (b : Bool) → HasSmallEnds (r.1, r.2) → HasSmallEnds (ends_in rs x) → HasSmallEnds (cond b (r.1, r.2) (ends_in rs x))
    by true f g = f
    by false f g = g

module _ (u : PlainUnit) (good : (bad_range u).head ≡ false) where
  both : (each_has_line u.ranges u.params && list_all (λ r. is_int u.params r.0 && is_range (r.1, r.2)) u.ranges) ≡ true
  both = not-false (each_has_line u.ranges u.params && list_all (λ r. is_int u.params r.0 && is_range (r.1, r.2)) u.ranges) good

  pub ints_of_unit : (names : List Name) → words names ≡ ints_in u.params → AreInts u.ranges u.params (map (with_ends u.ranges) names)
  ints_of_unit names e = are_ints u.ranges u.params names e (and_parts (each_has_line u.ranges u.params) (list_all (λ r. is_int u.params r.0 && is_range (r.1, r.2)) u.ranges) both).0

  each_small : (names : List Name) (k : ℕ) (p : Name × ℤ × ℤ) → slice_get (map (with_ends u.ranges) names) k ≡ Some p → (unsigned_abs p.1 ≤ 2 ^ 40) × (unsigned_abs p.2 ≤ 2 ^ 40)
  each_small [] k p g = cc
  each_small (y ∷ ys) zero p g =
      let s = small_ends u.params u.ranges (word y) (and_parts (each_has_line u.ranges u.params) (list_all (λ r. is_int u.params r.0 && is_range (r.1, r.2)) u.ranges) both).1 in
      let P : Name × ℤ × ℤ → Type 0 = λ q. (unsigned_abs q.1 ≤ 2 ^ 40) × (unsigned_abs q.2 ≤ 2 ^ 40) in
      subst P (same_Some (with_ends u.ranges y) p g) (s.low, s.high)
  each_small (y ∷ ys) (suc k) p g = each_small ys k p g

  pub small_ranges : (names : List Name) (k : ℕ) (p : Name × ℤ × ℤ) → slice_get (map (with_ends u.ranges) names) k ≡ Some p → (unsigned_abs p.1 ≤ 2 ^ 40) × (unsigned_abs p.2 ≤ 2 ^ 40)
  small_ranges names k p g = each_small names k p g
