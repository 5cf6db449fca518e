-- Each miss is an access outside its extents, in the source's list; and without a miss every index lies within its extent.
use Rattle.std.proofs.Common.{◌≡◌, ◌⊎◌, inl, inr, ℕ, zero, suc, ◌+◌, ◌<◌, ◌≤◌, Bool, true, false, not, ◌&&◌, ◌||◌, if◌then◌else◌, List, [], ◌∷◌, ◌++◌, length, map, flat_map, refl, sym, ap, ◌∙◌, subst, arith, nat_eq, nat_lt, int_le, int_lt, ℤ, pos, Some, None, true≢false, eq-eqb}
use Rattle.std.specs.Prelude.{slice_get}
use Rattle.std.specs.List.{AllByRecursion}
use Rattle.std.proofs.lemmas.Bool.{cases_eq, eqb-true, ltb-true}
use Rattle.std.proofs.lemmas.List.{map-append}
use Rattle.c_tree.specs.Plain.{Word, PlainExpr, lit, var, cell, un, bin, cast, test, umin, umax, least, greatest, widen, big, PlainExprs, no_exprs, more_exprs, PlainStmt, loop, choice, assign, table, begin, check, verdict, PlainStmts, no_stmts, more_stmts}
use Rattle.c_tree.specs.Values.{Vars, signed, loop_values}
use Rattle.c_tree.specs.Arrays.{Array, Memory, array_named, is_within, size_of}
use Rattle.c_tree.specs.Accesses.{Access}
use Rattle.c_tree.specs.Instances.{Tagged, untagged, word_at, sites, sites_all}
use Rattle.c_tree.specs.Run.{End, outside, index}
use Rattle.instrumentation.specs.Subscripts.{is_cell, indices_in}
use Rattle.instrumentation.specs.Body.{full}
use Rattle.instrumentation.specs.Inspects.{read_irregularly, inspects, inspects_all}
use Rattle.instrumentation.proofs.Subscripts.{cell_or_not, not_by_cell}
use Rattle.instrumentation_laws.specs.AccessList.{signed_all, cell_access, cell_write, tag, tests_hold}
use Rattle.instrumentation_laws.specs.IndexedList.{coordinate_at, coordinates_at, index_reads, read_access, all_reads, tagged, tagged_all}
use Rattle.instrumentation_laws.specs.Indices.{IndexLies, IndicesLie, ReadIndicesLie, StmtIndicesLie, AllIndicesLie}
use Rattle.instrumentation_laws.proofs.ByIndex.{second_false, third_false, not_below}
use Rattle.run_laws.proofs.Within.{array_stands}
use Rattle.pass_laws.specs.Countable.{IsAffine}
use Rattle.inspection_laws.specs.CountedUnits.{inspected_from}
use Rattle.inspection_laws.specs.AllTables.{Named, misses_each}
use Rattle.inspection_laws.specs.Left.{IsLeft, TellsOfLeft}
use Rattle.inspection_laws.specs.Misses.{outside_of, index_misses, check_misses, cell_misses, inner_misses, misses_in, misses, misses_all}
use Rattle.inspection_laws.specs.Walked.{IsKnown, ArePlainAt, IsWalkedAt, AreWalkedAt, IsWalkedData, IsWalked, AreWalked}

-- ---- lists of ends

-- an access of array a lies outside its extents
abbrev Leaves : (ℕ → List ℤ) → ℕ → List Access → Type 0
Leaves extents a [] = ⊥
Leaves extents a (x ∷ xs) = ((x.array ≡ a) × (is_within x.cell (extents a) ≡ false)) ⊎ Leaves extents a xs

abbrev Tells : (ℕ → List ℤ) → List Access → End → Type 0
Tells extents list e = (a : ℕ) × ((e ≡ outside a) ⊎ (e ≡ index a)) × Leaves extents a list

abbrev AllTell : (ℕ → List ℤ) → List Access → List End → Type 0
AllTell extents list [] = Unit {0}
AllTell extents list (e ∷ l) = Tells extents list e × AllTell extents list l

leaves_left : (extents : ℕ → List ℤ) (a : ℕ) (xs ys : List Access) → Leaves extents a xs → Leaves extents a (xs ++ ys)
leaves_left extents a [] ys h = absurd h
leaves_left extents a (x ∷ xs) ys (inl h) = inl h
leaves_left extents a (x ∷ xs) ys (inr h) = inr (leaves_left extents a xs ys h)

leaves_right : (extents : ℕ → List ℤ) (a : ℕ) (xs ys : List Access) → Leaves extents a ys → Leaves extents a (xs ++ ys)
leaves_right extents a [] ys h = h
leaves_right extents a (x ∷ xs) ys h = inr (leaves_right extents a xs ys h)

tell_left : (extents : ℕ → List ℤ) (xs ys : List Access) (l : List End) → AllTell extents xs l → AllTell extents (xs ++ ys) l
tell_left extents xs ys [] h = tt
tell_left extents xs ys (e ∷ l) h = ((h.0.0, h.0.1, leaves_left extents h.0.0 xs ys h.0.2), tell_left extents xs ys l h.1)

tell_right : (extents : ℕ → List ℤ) (xs ys : List Access) (l : List End) → AllTell extents ys l → AllTell extents (xs ++ ys) l
tell_right extents xs ys [] h = tt
tell_right extents xs ys (e ∷ l) h = ((h.0.0, h.0.1, leaves_right extents h.0.0 xs ys h.0.2), tell_right extents xs ys l h.1)

tell_join : (extents : ℕ → List ℤ) (list : List Access) (l k : List End) → AllTell extents list l → AllTell extents list k → AllTell extents list (l ++ k)
tell_join extents list [] k h g = g
tell_join extents list (e ∷ l) k h g = (h.0, tell_join extents list l k h.1 g)

tell_both : (extents : ℕ → List ℤ) (xs ys : List Access) (l k : List End) → AllTell extents xs l → AllTell extents ys k → AllTell extents (xs ++ ys) (l ++ k)
tell_both extents xs ys l k h g = tell_join extents (xs ++ ys) l k (tell_left extents xs ys l h) (tell_right extents xs ys k g)

-- by its position
pub left_at : (extents : ℕ → List ℤ) (a : ℕ) (list : List Access) → Leaves extents a list → IsLeft extents list a
left_at extents a [] h = absurd h
left_at extents a (x ∷ xs) (inl h) = record { position = 0; exists = omega arith; of_array = h.0; outside_it = h.1 }
left_at extents a (x ∷ xs) (inr h) = let r : IsLeft extents xs a = left_at extents a xs h in let l : r.position < length xs = r.exists in record { position = suc r.position; exists = omega arith; of_array = r.of_array; outside_it = r.outside_it }

none_left : {A : Type 0} (xs ys : List A) → xs ++ ys ≡ [] → xs ≡ []
none_left [] ys e = refl
none_left (x ∷ xs) ys e = absurd (let f : x ∷ (xs ++ ys) ≡ [] = e in cc)

none_right : {A : Type 0} (xs ys : List A) → xs ++ ys ≡ [] → ys ≡ []
none_right [] ys e = e
none_right (x ∷ xs) ys e = absurd (let f : x ∷ (xs ++ ys) ≡ [] = e in cc)

untag : (k : ℕ) (vs : Vars) (xs : List Access) → untagged (map (tag k vs) xs) ≡ xs
untag k vs [] = refl
untag k vs (x ∷ xs) = ap (λ l. x ∷ l) (untag k vs xs)

-- ---- subscripts without an index cell

no_cell : (e : PlainExpr) (vs : Vars) → IsAffine e vs → is_cell e ≡ false
no_cell (lit n) vs h = refl
no_cell (var x) vs h = refl
no_cell (cell x at) vs h = absurd h
no_cell (un op e) vs h = refl
no_cell (bin op e g) vs h = refl
no_cell (cast e) vs h = refl
no_cell (test rel e g) vs h = refl
no_cell (umin e g) vs h = refl
no_cell (umax e g) vs h = refl
no_cell (least e g) vs h = refl
no_cell (greatest e g) vs h = refl
no_cell (widen e) vs h = refl
no_cell (big high low) vs h = refl

module _ (arrays : List Array) (number : Word → ℕ) (m : Memory) (extents : ℕ → List ℤ) (sizes : (x : Word) (k : IsKnown arrays number x) → k.array.1.extents ≡ extents k.array.0) where
  plain_index : (at : PlainExprs) (vs : Vars) → ArePlainAt at vs → index_misses arrays at vs ≡ []
  plain_index no_exprs vs h = refl
  plain_index (more_exprs e es) vs h =
      not_by_cell e (λ p at. outside_of (array_named arrays p) (signed_all at vs) ++ index_misses arrays es vs) (index_misses arrays es vs) (no_cell e vs h.0.0) ∙ plain_index es vs h.1

  plain_check : (a : ℕ) (at : PlainExprs) (zs : List ℤ) (vs : Vars) → ArePlainAt at vs → check_misses arrays m a at zs vs ≡ []
  plain_check a no_exprs zs vs h = refl
  plain_check a (more_exprs e es) [] vs h = refl
  plain_check a (more_exprs e es) (z ∷ zs) vs h =
      not_by_cell e (λ p at. (if nat_lt (word_at arrays m p (signed_all at vs)) (size_of z) then [] else index a ∷ []) ++ check_misses arrays m a es zs vs) (check_misses arrays m a es zs vs) (no_cell e vs h.0.0) ∙ plain_check a es zs vs h.1

  plain_cell : (a : ℕ) (x : Word) (at : PlainExprs) (vs : Vars) → ArePlainAt at vs → cell_misses arrays m number a (extents a) x at vs ≡ []
  plain_cell a x at vs h = chosen (nat_eq (number x) a)
    where
      chosen : (b : Bool) → (if b then index_misses arrays at vs ++ check_misses arrays m a at (extents a) vs else []) ≡ []
      chosen true = ap (λ l. l ++ check_misses arrays m a at (extents a) vs) (plain_index at vs h) ∙ plain_check a at (extents a) vs h
      chosen false = refl

  -- an index cell's own subscripts have none
  inner_none : (a : ℕ) (at : PlainExprs) (vs : Vars) → AreWalkedAt arrays number at vs → inner_misses arrays m number a (extents a) at vs ≡ []
  inner_none a no_exprs vs h = refl
  inner_none a (more_exprs e es) vs h =
      cell_or_not (λ e. IsWalkedAt arrays number e vs → inner_misses arrays m number a (extents a) (more_exprs e es) vs ≡ [])
      (λ p at w. ap (λ l. l ++ inner_misses arrays m number a (extents a) es vs) (plain_cell a p at vs w.1) ∙ inner_none a es vs h.1)
      (λ e other w. not_by_cell e (λ p at. cell_misses arrays m number a (extents a) p at vs ++ inner_misses arrays m number a (extents a) es vs) (inner_misses arrays m number a (extents a) es vs) other ∙ inner_none a es vs h.1)
      e h.0

  -- ---- each miss is an access

  index_tell : (at : PlainExprs) (vs : Vars) → AreWalkedAt arrays number at vs → AllTell extents (index_reads number at vs) (index_misses arrays at vs)
  index_tell no_exprs vs h = tt
  index_tell (more_exprs e es) vs h =
      cell_or_not (λ e. IsWalkedAt arrays number e vs → AllTell extents (index_reads number (more_exprs e es) vs) (index_misses arrays (more_exprs e es) vs))
      (λ p at w. of_cell p at w.0 (index_tell es vs h.1))
      (λ e other w.
      let r : index_reads number (more_exprs e es) vs ≡ index_reads number es vs = not_by_cell e (λ p at. cell_access number p at vs false ∷ index_reads number es vs) (index_reads number es vs) other in
      let l : index_misses arrays (more_exprs e es) vs ≡ index_misses arrays es vs = not_by_cell e (λ p at. outside_of (array_named arrays p) (signed_all at vs) ++ index_misses arrays es vs) (index_misses arrays es vs) other in
      rw (r, l) (index_tell es vs h.1))
      e h.0
    where
      of_cell : (p : Word) (at : PlainExprs) → IsKnown arrays number p → AllTell extents (index_reads number es vs) (index_misses arrays es vs) →
          AllTell extents (cell_access number p at vs false ∷ index_reads number es vs) (outside_of (array_named arrays p) (signed_all at vs) ++ index_misses arrays es vs)
      of_cell p at k ih = rw k.named (chosen (is_within (signed_all at vs) k.array.1.extents) refl)
        where
          one : Access
          one = cell_access number p at vs false

          rest : AllTell extents (one ∷ index_reads number es vs) (index_misses arrays es vs)
          rest = tell_right extents (one ∷ []) (index_reads number es vs) (index_misses arrays es vs) ih

          chosen : (b : Bool) → is_within (signed_all at vs) k.array.1.extents ≡ b → AllTell extents (one ∷ index_reads number es vs) ((if b then [] else outside k.array.0 ∷ []) ++ index_misses arrays es vs)
          chosen true e = rest
          chosen false e = ((k.array.0, inl refl, inl (k.numbered, ap (is_within (signed_all at vs)) (sym (sizes p k)) ∙ e)), rest)

  abbrev AllBad : ℕ → PlainExprs → List ℤ → Vars → List End → Type 0
  AllBad a at zs vs [] = Unit {0}
  AllBad a at zs vs (e ∷ l) = ((e ≡ index a) × (is_within (coordinates_at arrays m at vs) zs ≡ false)) × AllBad a at zs vs l

  later_bad : (a : ℕ) (e : PlainExpr) (es : PlainExprs) (z : ℤ) (zs : List ℤ) (vs : Vars) (l : List End) → AllBad a es zs vs l → AllBad a (more_exprs e es) (z ∷ zs) vs l
  later_bad a e es z zs vs [] h = tt
  later_bad a e es z zs vs (x ∷ l) h = ((h.0.0, third_false (int_le (pos 0) (coordinate_at arrays m e vs)) (int_lt (coordinate_at arrays m e vs) z) (is_within (coordinates_at arrays m es vs) zs) h.0.1), later_bad a e es z zs vs l h.1)

  checks_bad : (a : ℕ) (at : PlainExprs) (zs : List ℤ) (vs : Vars) → AllBad a at zs vs (check_misses arrays m a at zs vs)
  checks_bad a no_exprs zs vs = tt
  checks_bad a (more_exprs e es) [] vs = tt
  checks_bad a (more_exprs e es) (z ∷ zs) vs =
      cell_or_not (λ e. AllBad a (more_exprs e es) (z ∷ zs) vs (check_misses arrays m a (more_exprs e es) (z ∷ zs) vs))
      (λ p at. of_cell p at (nat_lt (word_at arrays m p (signed_all at vs)) (size_of z)) refl (checks_bad a es zs vs))
      (λ e other. subst (AllBad a (more_exprs e es) (z ∷ zs) vs) (sym (not_by_cell e (λ p at. (if nat_lt (word_at arrays m p (signed_all at vs)) (size_of z) then [] else index a ∷ []) ++ check_misses arrays m a es zs vs) (check_misses arrays m a es zs vs) other))
      (later_bad a e es z zs vs (check_misses arrays m a es zs vs) (checks_bad a es zs vs)))
      e
    where
      of_cell : (p : Word) (at : PlainExprs) (b : Bool) → nat_lt (word_at arrays m p (signed_all at vs)) (size_of z) ≡ b → AllBad a es zs vs (check_misses arrays m a es zs vs) →
          AllBad a (more_exprs (cell p at) es) (z ∷ zs) vs ((if b then [] else index a ∷ []) ++ check_misses arrays m a es zs vs)
      of_cell p at true q ih = later_bad a (cell p at) es z zs vs (check_misses arrays m a es zs vs) ih
      of_cell p at false q ih =
          ((refl, second_false (int_le (pos 0) (pos (word_at arrays m p (signed_all at vs)))) (int_lt (pos (word_at arrays m p (signed_all at vs))) z) (is_within (coordinates_at arrays m es vs) zs) (not_below (word_at arrays m p (signed_all at vs)) z q)), later_bad a (cell p at) es z zs vs (check_misses arrays m a es zs vs) ih)

  bad_tell : (a : ℕ) (x : Word) (at : PlainExprs) (vs : Vars) (l : List End) → number x ≡ a → AllBad a at (extents a) vs l → AllTell extents (read_access arrays m number x at vs ∷ []) l
  bad_tell a x at vs [] n h = tt
  bad_tell a x at vs (e ∷ l) n h = ((a, inr h.0.0, inl (n, h.0.1)), bad_tell a x at vs l n h.1)

  cell_tell : (a : ℕ) (x : Word) (at : PlainExprs) (vs : Vars) → AreWalkedAt arrays number at vs →
      AllTell extents (index_reads number at vs ++ read_access arrays m number x at vs ∷ []) (inner_misses arrays m number a (extents a) at vs ++ cell_misses arrays m number a (extents a) x at vs)
  cell_tell a x at vs h = rw (inner_none a at vs h) (chosen (nat_eq (number x) a) refl)
    where
      chosen : (b : Bool) → nat_eq (number x) a ≡ b → AllTell extents (index_reads number at vs ++ read_access arrays m number x at vs ∷ []) (if b then index_misses arrays at vs ++ check_misses arrays m a at (extents a) vs else [])
      chosen true e =
          tell_both extents (index_reads number at vs) (read_access arrays m number x at vs ∷ []) (index_misses arrays at vs) (check_misses arrays m a at (extents a) vs) (index_tell at vs h)
          (bad_tell a x at vs (check_misses arrays m a at (extents a) vs) (eqb-true (number x) a e) (checks_bad a at (extents a) vs))
      chosen false e = tt

  module _ (a : ℕ) where
    abbrev M : PlainExpr → Vars → List End
    M e vs = misses_in arrays m number a (extents a) e vs

    abbrev R : PlainExpr → Vars → List Access
    R e vs = all_reads arrays m number e vs

    reads_tell : (e : PlainExpr) (vs : Vars) → IsWalkedData arrays number e vs → AllTell extents (R e vs) (M e vs)
    reads_tell (lit n) vs h = tt
    reads_tell (var x) vs h = tt
    reads_tell (cell x at) vs h = cell_tell a x at vs h.0
    reads_tell (un op e) vs h = reads_tell e vs h
    reads_tell (bin op e g) vs h = tell_both extents (R e vs) (R g vs) (M e vs) (M g vs) (reads_tell e vs h.0) (reads_tell g vs h.1)
    reads_tell (cast e) vs h = reads_tell e vs h
    reads_tell (test rel e g) vs h = tell_both extents (R e vs) (R g vs) (M e vs) (M g vs) (reads_tell e vs h.0) (reads_tell g vs h.1)
    reads_tell (umin e g) vs h = tell_both extents (R e vs) (R g vs) (M e vs) (M g vs) (reads_tell e vs h.0) (reads_tell g vs h.1)
    reads_tell (umax e g) vs h = tell_both extents (R e vs) (R g vs) (M e vs) (M g vs) (reads_tell e vs h.0) (reads_tell g vs h.1)
    reads_tell (least e g) vs h = absurd h
    reads_tell (greatest e g) vs h = absurd h
    reads_tell (widen e) vs h = absurd h
    reads_tell (big high low) vs h = absurd h

    over_tell : (f : ℤ → List Tagged) (l : ℤ → List End) → ((v : ℤ) → AllTell extents (untagged (f v)) (l v)) → (vals : List ℤ) → AllTell extents (untagged (flat_map f vals)) (flat_map l vals)
    over_tell f l h [] = tt
    over_tell f l h (v ∷ vals) = rw (map-append (λ (t : Tagged). t.access) (f v) (flat_map f vals)) (tell_both extents (untagged (f v)) (untagged (flat_map f vals)) (l v) (flat_map l vals) (h v) (over_tell f l h vals))

    branch_tell : (c : Bool) (xs ys : List Tagged) (l k : List End) → AllTell extents (untagged xs) l → AllTell extents (untagged ys) k → AllTell extents (untagged (if c then xs else ys)) (if c then l else k)
    branch_tell true xs ys l k h g = h
    branch_tell false xs ys l k h g = g

    mutual
      one_tells : (p : PlainStmt) (k : ℕ) (vs : Vars) → IsWalked arrays number p vs → AllTell extents (untagged (tagged arrays m number k p vs)) (misses M p vs)
      one_tells (loop x lo rel hi body) k vs h =
          over_tell (λ v. tagged_all arrays m number k body ((x, v) ∷ vs)) (λ v. misses_all M body ((x, v) ∷ vs)) (λ v. all_tell body k ((x, v) ∷ vs) (h.3 v)) (loop_values (signed lo vs) rel (signed hi vs))
      one_tells (choice ts first other) k vs h =
          branch_tell (tests_hold ts vs) (tagged_all arrays m number k first vs) (tagged_all arrays m number (k + sites_all first) other vs) (misses_all M first vs) (misses_all M other vs) (all_tell first k vs h.1) (all_tell other (k + sites_all first) vs h.2)
      one_tells (assign t op e) k vs h =
          subst (λ l. AllTell extents l (M (full t op e) vs)) (sym (untag k vs (R (full t op e) vs ++ cell_write number t vs))) (tell_left extents (R (full t op e) vs) (cell_write number t vs) (M (full t op e) vs) (reads_tell (full t op e) vs h.1))
      one_tells (table x len) k vs h = absurd h
      one_tells begin k vs h = absurd h
      one_tells (check x extent n) k vs h = absurd h
      one_tells verdict k vs h = absurd h

      all_tell : (ps : PlainStmts) (k : ℕ) (vs : Vars) → AreWalked arrays number ps vs → AllTell extents (untagged (tagged_all arrays m number k ps vs)) (misses_all M ps vs)
      all_tell no_stmts k vs h = tt
      all_tell (more_stmts p ps) k vs h =
          rw (map-append (λ (t : Tagged). t.access) (tagged arrays m number k p vs) (tagged_all arrays m number (k + sites p) ps vs))
          (tell_both extents (untagged (tagged arrays m number k p vs)) (untagged (tagged_all arrays m number (k + sites p) ps vs)) (misses M p vs) (misses_all M ps vs) (one_tells p k vs h.0) (all_tell ps (k + sites p) vs h.1))

  each_tells : (xs : Named) (body : PlainStmts) (vs : Vars) → AreWalked arrays number body vs → AllTell extents (untagged (tagged_all arrays m number 0 body vs)) (misses_each arrays m number extents body vs xs)
  each_tells [] body vs h = tt
  each_tells (x ∷ xs) body vs h =
      tell_join extents (untagged (tagged_all arrays m number 0 body vs)) (misses_all (misses_in arrays m number x.0 (extents x.0)) body vs) (misses_each arrays m number extents body vs xs) (all_tell x.0 body 0 vs h) (each_tells xs body vs h)

  pub first_tells : (xs : Named) (body : PlainStmts) (vs : Vars) (e : End) (r : List End) → AreWalked arrays number body vs → misses_each arrays m number extents body vs xs ≡ e ∷ r → TellsOfLeft extents (untagged (tagged_all arrays m number 0 body vs)) e
  first_tells xs body vs e r h is =
      let list : List Access = untagged (tagged_all arrays m number 0 body vs) in
      let t : Tells extents list e = (subst (AllTell extents list) is (each_tells xs body vs h)).0 in
      record { array = t.0; ends = t.1; left = left_at extents t.0 list t.2 }

  -- ---- without a miss

  no_index_lies : (at : PlainExprs) (zs : List ℤ) (vs : Vars) → indices_in at ≡ 0 → IndicesLie arrays m at zs vs
  no_index_lies no_exprs zs vs h = tt
  no_index_lies (more_exprs e es) [] vs h = tt
  no_index_lies (more_exprs e es) (z ∷ zs) vs h =
      cell_or_not (λ e. indices_in (more_exprs e es) ≡ 0 → IndexLies arrays m e z vs × IndicesLie arrays m es zs vs)
      (λ p at n. absurd (let k : 1 + indices_in es ≡ 0 = n in omega arith))
      (λ e other n. (plain_lies e other, no_index_lies es zs vs (sym (not_by_cell e (λ x at. 1 + indices_in es) (indices_in es) other) ∙ n)))
      e h
    where
      plain_lies : (e : PlainExpr) → is_cell e ≡ false → IndexLies arrays m e z vs
      plain_lies (cell p at) h = absurd (true≢false h)
      plain_lies (lit n) h = tt
      plain_lies (var x) h = tt
      plain_lies (un op e) h = tt
      plain_lies (bin op e g) h = tt
      plain_lies (cast e) h = tt
      plain_lies (test rel e g) h = tt
      plain_lies (umin e g) h = tt
      plain_lies (umax e g) h = tt
      plain_lies (least e g) h = tt
      plain_lies (greatest e g) h = tt
      plain_lies (widen e) h = tt
      plain_lies (big high low) h = tt

  unchecked_lie : (a : ℕ) (at : PlainExprs) (zs : List ℤ) (vs : Vars) → check_misses arrays m a at zs vs ≡ [] → IndicesLie arrays m at zs vs
  unchecked_lie a no_exprs zs vs h = tt
  unchecked_lie a (more_exprs e es) [] vs h = tt
  unchecked_lie a (more_exprs (cell p at) es) (z ∷ zs) vs h = chosen (nat_lt (word_at arrays m p (signed_all at vs)) (size_of z)) refl (λ k. unchecked_lie a es zs vs k) h
    where
      chosen : (b : Bool) → nat_lt (word_at arrays m p (signed_all at vs)) (size_of z) ≡ b → (check_misses arrays m a es zs vs ≡ [] → IndicesLie arrays m es zs vs) → (if b then [] else index a ∷ []) ++ check_misses arrays m a es zs vs ≡ [] → (word_at arrays m p (signed_all at vs) < size_of z) × IndicesLie arrays m es zs vs
      chosen true q ih k = (ltb-true (word_at arrays m p (signed_all at vs)) (size_of z) q, ih k)
      chosen false q ih k = absurd (let f : index a ∷ check_misses arrays m a es zs vs ≡ [] = k in cc)
  unchecked_lie a (more_exprs (lit n) es) (z ∷ zs) vs h = (tt, unchecked_lie a es zs vs h)
  unchecked_lie a (more_exprs (var x) es) (z ∷ zs) vs h = (tt, unchecked_lie a es zs vs h)
  unchecked_lie a (more_exprs (un op e) es) (z ∷ zs) vs h = (tt, unchecked_lie a es zs vs h)
  unchecked_lie a (more_exprs (bin op e g) es) (z ∷ zs) vs h = (tt, unchecked_lie a es zs vs h)
  unchecked_lie a (more_exprs (cast e) es) (z ∷ zs) vs h = (tt, unchecked_lie a es zs vs h)
  unchecked_lie a (more_exprs (test rel e g) es) (z ∷ zs) vs h = (tt, unchecked_lie a es zs vs h)
  unchecked_lie a (more_exprs (umin e g) es) (z ∷ zs) vs h = (tt, unchecked_lie a es zs vs h)
  unchecked_lie a (more_exprs (umax e g) es) (z ∷ zs) vs h = (tt, unchecked_lie a es zs vs h)
  unchecked_lie a (more_exprs (least e g) es) (z ∷ zs) vs h = (tt, unchecked_lie a es zs vs h)
  unchecked_lie a (more_exprs (greatest e g) es) (z ∷ zs) vs h = (tt, unchecked_lie a es zs vs h)
  unchecked_lie a (more_exprs (widen e) es) (z ∷ zs) vs h = (tt, unchecked_lie a es zs vs h)
  unchecked_lie a (more_exprs (big high low) es) (z ∷ zs) vs h = (tt, unchecked_lie a es zs vs h)

  or_left : (x y : Bool) → x ≡ true → (x || y) ≡ true
  or_left true y e = refl
  or_left false y e = absurd (true≢false (sym e))

  or_right : (x y : Bool) → y ≡ true → (x || y) ≡ true
  or_right true y e = refl
  or_right false y e = e

  module _ (inspected : ℕ → Bool) where
    -- an inspected array that the source knows has no miss in these
    abbrev NoMiss : (ℕ → List End) → Type 0
    NoMiss l = (x : Word) → IsKnown arrays number x → inspected (number x) ≡ true → l (number x) ≡ []

    abbrev N : PlainExpr → Vars → ℕ → List End
    N e vs a = misses_in arrays m number a (extents a) e vs

    abbrev Inspected : (ℕ → Bool) → Type 0
    Inspected f = (a : ℕ) → f a ≡ true → inspected a ≡ true

    left_none : (f g : ℕ → List End) → NoMiss (λ a. f a ++ g a) → NoMiss f
    left_none f g h x k i = none_left (f (number x)) (g (number x)) (h x k i)

    right_none : (f g : ℕ → List End) → NoMiss (λ a. f a ++ g a) → NoMiss g
    right_none f g h x k i = none_right (f (number x)) (g (number x)) (h x k i)

    left_in : (f g : ℕ → Bool) → Inspected (λ a. f a || g a) → Inspected f
    left_in f g h a e = h a (or_left (f a) (g a) e)

    right_in : (f g : ℕ → Bool) → Inspected (λ a. f a || g a) → Inspected g
    right_in f g h a e = h a (or_right (f a) (g a) e)

    cell_lies : (x : Word) (at : PlainExprs) (vs : Vars) → IsWalkedData arrays number (cell x at) vs → Inspected (λ a. read_irregularly number a (cell x at)) → NoMiss (N (cell x at) vs) → IndicesLie arrays m at (extents (number x)) vs
    cell_lies x at vs d i h = chosen (nat_eq (indices_in at) 0) refl
      where
        n : ℕ
        n = number x

        here : nat_eq n n ≡ true
        here = eq-eqb n n refl

        chosen : (b : Bool) → nat_eq (indices_in at) 0 ≡ b → IndicesLie arrays m at (extents n) vs
        chosen true e = no_index_lies at (extents n) vs (eqb-true (indices_in at) 0 e)
        chosen false e =
            let seen : inspected n ≡ true = i n (ap (λ b. b && not (nat_eq (indices_in at) 0)) here ∙ ap not e) in
            let none : inner_misses arrays m number n (extents n) at vs ++ cell_misses arrays m number n (extents n) x at vs ≡ [] = h x d.2.0 seen in
            let own : cell_misses arrays m number n (extents n) x at vs ≡ [] = none_right (inner_misses arrays m number n (extents n) at vs) (cell_misses arrays m number n (extents n) x at vs) none in
            let both : index_misses arrays at vs ++ check_misses arrays m n at (extents n) vs ≡ [] = sym (ap (λ (b : Bool). if b then index_misses arrays at vs ++ check_misses arrays m n at (extents n) vs else []) here) ∙ own in
            unchecked_lie n at (extents n) vs (none_right (index_misses arrays at vs) (check_misses arrays m n at (extents n) vs) both)

    reads_lie : (e : PlainExpr) (vs : Vars) → IsWalkedData arrays number e vs → Inspected (λ a. read_irregularly number a e) → NoMiss (N e vs) → ReadIndicesLie arrays m number extents e vs
    reads_lie (lit n) vs d i h = tt
    reads_lie (var x) vs d i h = tt
    reads_lie (cell x at) vs d i h = cell_lies x at vs d i h
    reads_lie (un op e) vs d i h = reads_lie e vs d i h
    reads_lie (bin op e g) vs d i h = (
      reads_lie e vs d.0 (left_in (λ a. read_irregularly number a e) (λ a. read_irregularly number a g) i) (left_none (N e vs) (N g vs) h),
      reads_lie g vs d.1 (right_in (λ a. read_irregularly number a e) (λ a. read_irregularly number a g) i) (right_none (N e vs) (N g vs) h),
    )
    reads_lie (cast e) vs d i h = reads_lie e vs d i h
    reads_lie (test rel e g) vs d i h = (
      reads_lie e vs d.0 (left_in (λ a. read_irregularly number a e) (λ a. read_irregularly number a g) i) (left_none (N e vs) (N g vs) h),
      reads_lie g vs d.1 (right_in (λ a. read_irregularly number a e) (λ a. read_irregularly number a g) i) (right_none (N e vs) (N g vs) h),
    )
    reads_lie (umin e g) vs d i h = (
      reads_lie e vs d.0 (left_in (λ a. read_irregularly number a e) (λ a. read_irregularly number a g) i) (left_none (N e vs) (N g vs) h),
      reads_lie g vs d.1 (right_in (λ a. read_irregularly number a e) (λ a. read_irregularly number a g) i) (right_none (N e vs) (N g vs) h),
    )
    reads_lie (umax e g) vs d i h = (
      reads_lie e vs d.0 (left_in (λ a. read_irregularly number a e) (λ a. read_irregularly number a g) i) (left_none (N e vs) (N g vs) h),
      reads_lie g vs d.1 (right_in (λ a. read_irregularly number a e) (λ a. read_irregularly number a g) i) (right_none (N e vs) (N g vs) h),
    )
    reads_lie (least e g) vs d i h = absurd d
    reads_lie (greatest e g) vs d i h = absurd d
    reads_lie (widen e) vs d i h = absurd d
    reads_lie (big high low) vs d i h = absurd d

    over_lies : (P : ℤ → Type 0) (f : ℤ → ℕ → List End) → ((v : ℤ) → NoMiss (f v) → P v) → (vals : List ℤ) → NoMiss (λ a. flat_map (λ v. f v a) vals) → AllByRecursion P vals
    over_lies P f g [] h = tt
    over_lies P f g (v ∷ vals) h = (g v (left_none (f v) (λ a. flat_map (λ v. f v a) vals) h), over_lies P f g vals (right_none (f v) (λ a. flat_map (λ v. f v a) vals) h))

    abbrev S : PlainStmt → Vars → ℕ → List End
    S p vs a = misses (misses_in arrays m number a (extents a)) p vs

    abbrev Ss : PlainStmts → Vars → ℕ → List End
    Ss ps vs a = misses_all (misses_in arrays m number a (extents a)) ps vs

    mutual
      one_lies : (p : PlainStmt) (vs : Vars) → IsWalked arrays number p vs → Inspected (λ a. inspects number a p) → NoMiss (S p vs) → StmtIndicesLie arrays m number extents p vs
      one_lies (loop x lo rel hi body) vs d i h =
          over_lies (λ v. AllIndicesLie arrays m number extents body ((x, v) ∷ vs)) (λ v. Ss body ((x, v) ∷ vs)) (λ v g. all_lie body ((x, v) ∷ vs) (d.3 v) i g) (loop_values (signed lo vs) rel (signed hi vs)) h
      one_lies (choice ts first other) vs d i h = (
        λ t. all_lie first vs d.1 (left_in (λ a. inspects_all number a first) (λ a. inspects_all number a other) i) (λ x k s. sym (ap (λ (b : Bool). if b then Ss first vs (number x) else Ss other vs (number x)) t) ∙ h x k s),
        λ t. all_lie other vs d.2 (right_in (λ a. inspects_all number a first) (λ a. inspects_all number a other) i) (λ x k s. sym (ap (λ (b : Bool). if b then Ss first vs (number x) else Ss other vs (number x)) t) ∙ h x k s),
      )
      one_lies (assign t op e) vs d i h = reads_lie (full t op e) vs d.1 i h
      one_lies (table x len) vs d i h = absurd d
      one_lies begin vs d i h = absurd d
      one_lies (check x extent n) vs d i h = absurd d
      one_lies verdict vs d i h = absurd d

      all_lie : (ps : PlainStmts) (vs : Vars) → AreWalked arrays number ps vs → Inspected (λ a. inspects_all number a ps) → NoMiss (Ss ps vs) → AllIndicesLie arrays m number extents ps vs
      all_lie no_stmts vs d i h = tt
      all_lie (more_stmts p ps) vs d i h = (
        one_lies p vs d.0 (left_in (λ a. inspects number a p) (λ a. inspects_all number a ps) i) (left_none (S p vs) (Ss ps vs) h),
        all_lie ps vs d.1 (right_in (λ a. inspects number a p) (λ a. inspects_all number a ps) i) (right_none (S p vs) (Ss ps vs) h),
      )

  -- none of the inspected arrays has one
  each_none : (body : PlainStmts) (vs : Vars) (base : ℕ) (decls : List (Word × PlainExprs)) (a : ℕ) → misses_each arrays m number extents body vs (inspected_from number body base decls) ≡ [] → base ≤ a → a < base + length decls →
      inspects_all number a body ≡ true → misses_all (misses_in arrays m number a (extents a)) body vs ≡ []
  each_none body vs base [] a h l u i = absurd (omega arith)
  each_none body vs base (x ∷ more) a h l u i = chosen (inspects_all number base body) refl (λ k g. each_none body vs (suc base) more a k g (omega arith) i) h
    where
      L : ℕ → List End
      L b = misses_all (misses_in arrays m number b (extents b)) body vs

      Later : Type 0
      Later = misses_each arrays m number extents body vs (inspected_from number body (suc base) more) ≡ [] → suc base ≤ a → L a ≡ []

      chosen : (b : Bool) → inspects_all number base body ≡ b → Later → misses_each arrays m number extents body vs (if b then (base, x.1) ∷ inspected_from number body (suc base) more else inspected_from number body (suc base) more) ≡ [] → L a ≡ []
      chosen true e later k = elim (cases_eq base a) [
        | inl same ↦ subst (λ b. L b ≡ []) same (none_left (L base) (misses_each arrays m number extents body vs (inspected_from number body (suc base) more)) k)
        | inr apart ↦ later (none_right (L base) (misses_each arrays m number extents body vs (inspected_from number body (suc base) more)) k) (omega arith)
      ]
      chosen false e later k = elim (cases_eq base a) [
        | inl same ↦ absurd (true≢false (sym i ∙ ap (λ b. inspects_all number b body) (sym same) ∙ e))
        | inr apart ↦ later k (omega arith)
      ]

  below : (xs : List Array) (n : ℕ) (v : Array) → slice_get xs n ≡ Some v → n < length xs
  below [] n v h = absurd (let e : None ≡ Some v = h in cc)
  below (x ∷ xs) zero v h = omega arith
  below (x ∷ xs) (suc n) v h = let l : n < length xs = below xs n v h in omega arith

  pub all_indices_lie : (body : PlainStmts) (vs : Vars) (decls : List (Word × PlainExprs)) → AreWalked arrays number body vs → length arrays ≡ length decls → misses_each arrays m number extents body vs (inspected_from number body 0 decls) ≡ [] →
      AllIndicesLie arrays m number extents body vs
  all_indices_lie body vs decls d all h =
      all_lie (λ a. inspects_all number a body) body vs d (λ a e. e)
      (λ x k i.
      let l : k.array.0 < length arrays = below arrays k.array.0 k.array.1 (array_stands arrays x k.array k.named) in
      let n : number x ≡ k.array.0 = k.numbered in
      each_none body vs 0 decls (number x) h (omega arith) (omega arith) i)
