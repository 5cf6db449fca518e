-- What a source's list and the misses of an array are depends on the cells of index arrays alone.
use Rattle.std.proofs.Common.{◌≡◌, eq-eqb, ℕ, ◌+◌, Bool, true, false, cond, ◌||◌, List, [], ◌∷◌, ◌++◌, map, refl, sym, ap, ◌∙◌, ℤ, pos}
use Rattle.std.specs.Prelude.{nat_eq, nat_lt, flat_map}
use Rattle.c_tree.specs.Plain.{Word, PlainExpr, lit, var, cell, un, bin, cast, test, umin, umax, least, greatest, widen, big, PlainExprs, no_exprs, more_exprs, PlainStmt, loop, choice, assign, table, begin, check, verdict, PlainStmts, no_stmts, more_stmts}
use Rattle.c_tree.specs.Values.{Vars, signed, loop_values}
use Rattle.c_tree.specs.Arrays.{Array, Memory, is_within, size_of}
use Rattle.c_tree.specs.Instances.{word_at, word_within, sites, sites_all}
use Rattle.c_tree.specs.Run.{End, index}
use Rattle.instrumentation.specs.Body.{full}
use Rattle.instrumentation_laws.specs.AccessList.{signed_all, cell_write, tag, tests_hold}
use Rattle.instrumentation_laws.specs.IndexedList.{coordinates_at, index_reads, all_reads, tagged, tagged_all}
use Rattle.inspection_laws.specs.Misses.{index_misses, check_misses, cell_misses, inner_misses, misses_in, misses, misses_all}
use Rattle.inspection_laws.specs.Walked.{IsKnown, ArePlainAt, AreWalkedAt, IsWalkedData, IsWalked, AreWalked}
use Rattle.guard_laws.specs.IndexArrays.{indexed_by, reads_through, indexes, indexes_all}
use Rattle.inspector.proofs.Indices.{or_left, or_right, Through, By, first_by, rest_by, left_through, right_through, plain_by, plain_walked}

same_flat : {A : Type 0} (f g : ℤ → List A) (vs : List ℤ) → ((v : ℤ) → f v ≡ g v) → flat_map f vs ≡ flat_map g vs
same_flat f g [] h = refl
same_flat f g (v ∷ vs) h = ap (λ l. l ++ flat_map f vs) (h v) ∙ ap (λ l. g v ++ l) (same_flat f g vs h)

module _ (arrays : List Array) (number : Word → ℕ) (is_index : ℕ → Bool) (m other : Memory) (same : (a : ℕ) (cs : List ℤ) → is_index a ≡ true → m a cs ≡ other a cs) where
  word_same : (p : Word) (cs : List ℤ) → IsKnown arrays number p → is_index (number p) ≡ true → word_at arrays m p cs ≡ word_at arrays other p cs
  word_same p cs k e =
      ap (λ o. word_within m o cs) k.named ∙
      ap (λ n. cond (is_within cs k.array.1.extents) n 0) (same k.array.0 cs (ap is_index (sym k.numbered) ∙ e)) ∙
      ap (λ o. word_within other o cs) (sym k.named)

  coordinates_same : (es : PlainExprs) (vs : Vars) → By arrays number is_index es → AreWalkedAt arrays number es vs → coordinates_at arrays m es vs ≡ coordinates_at arrays other es vs
  coordinates_same no_exprs vs h w = refl
  coordinates_same (more_exprs (cell p at) es) vs h w =
      ap (λ n. pos n ∷ coordinates_at arrays m es vs) (word_same p (signed_all at vs) w.0.0 (first_by arrays number is_index p at es h)) ∙
      ap (λ l. pos (word_at arrays other p (signed_all at vs)) ∷ l) (coordinates_same es vs (rest_by arrays number is_index p at es h) w.1)
  coordinates_same (more_exprs (lit n) es) vs h w = ap (λ l. signed (lit n) vs ∷ l) (coordinates_same es vs h w.1)
  coordinates_same (more_exprs (var y) es) vs h w = ap (λ l. signed (var y) vs ∷ l) (coordinates_same es vs h w.1)
  coordinates_same (more_exprs (un op f) es) vs h w = ap (λ l. signed (un op f) vs ∷ l) (coordinates_same es vs h w.1)
  coordinates_same (more_exprs (bin op f g) es) vs h w = ap (λ l. signed (bin op f g) vs ∷ l) (coordinates_same es vs h w.1)
  coordinates_same (more_exprs (cast f) es) vs h w = ap (λ l. signed (cast f) vs ∷ l) (coordinates_same es vs h w.1)
  coordinates_same (more_exprs (test rel f g) es) vs h w = ap (λ l. signed (test rel f g) vs ∷ l) (coordinates_same es vs h w.1)
  coordinates_same (more_exprs (umin f g) es) vs h w = ap (λ l. signed (umin f g) vs ∷ l) (coordinates_same es vs h w.1)
  coordinates_same (more_exprs (umax f g) es) vs h w = ap (λ l. signed (umax f g) vs ∷ l) (coordinates_same es vs h w.1)
  coordinates_same (more_exprs (least f g) es) vs h w = ap (λ l. signed (least f g) vs ∷ l) (coordinates_same es vs h w.1)
  coordinates_same (more_exprs (greatest f g) es) vs h w = ap (λ l. signed (greatest f g) vs ∷ l) (coordinates_same es vs h w.1)
  coordinates_same (more_exprs (widen f) es) vs h w = ap (λ l. signed (widen f) vs ∷ l) (coordinates_same es vs h w.1)
  coordinates_same (more_exprs (big high low) es) vs h w = ap (λ l. signed (big high low) vs ∷ l) (coordinates_same es vs h w.1)

  check_same : (b : ℕ) (es : PlainExprs) (zs : List ℤ) (vs : Vars) → By arrays number is_index es → AreWalkedAt arrays number es vs → check_misses arrays m b es zs vs ≡ check_misses arrays other b es zs vs
  check_same b no_exprs zs vs h w = refl
  check_same b (more_exprs (cell p at) es) [] vs h w = refl
  check_same b (more_exprs (cell p at) es) (z ∷ zs) vs h w =
      ap (λ n. cond (nat_lt n (size_of z)) [] (index b ∷ []) ++ check_misses arrays m b es zs vs) (word_same p (signed_all at vs) w.0.0 (first_by arrays number is_index p at es h)) ∙
      ap (λ l. cond (nat_lt (word_at arrays other p (signed_all at vs)) (size_of z)) [] (index b ∷ []) ++ l) (check_same b es zs vs (rest_by arrays number is_index p at es h) w.1)
  check_same b (more_exprs (lit n) es) [] vs h w = refl
  check_same b (more_exprs (lit n) es) (z ∷ zs) vs h w = check_same b es zs vs h w.1
  check_same b (more_exprs (var y) es) [] vs h w = refl
  check_same b (more_exprs (var y) es) (z ∷ zs) vs h w = check_same b es zs vs h w.1
  check_same b (more_exprs (un op f) es) [] vs h w = refl
  check_same b (more_exprs (un op f) es) (z ∷ zs) vs h w = check_same b es zs vs h w.1
  check_same b (more_exprs (bin op f g) es) [] vs h w = refl
  check_same b (more_exprs (bin op f g) es) (z ∷ zs) vs h w = check_same b es zs vs h w.1
  check_same b (more_exprs (cast f) es) [] vs h w = refl
  check_same b (more_exprs (cast f) es) (z ∷ zs) vs h w = check_same b es zs vs h w.1
  check_same b (more_exprs (test rel f g) es) [] vs h w = refl
  check_same b (more_exprs (test rel f g) es) (z ∷ zs) vs h w = check_same b es zs vs h w.1
  check_same b (more_exprs (umin f g) es) [] vs h w = refl
  check_same b (more_exprs (umin f g) es) (z ∷ zs) vs h w = check_same b es zs vs h w.1
  check_same b (more_exprs (umax f g) es) [] vs h w = refl
  check_same b (more_exprs (umax f g) es) (z ∷ zs) vs h w = check_same b es zs vs h w.1
  check_same b (more_exprs (least f g) es) [] vs h w = refl
  check_same b (more_exprs (least f g) es) (z ∷ zs) vs h w = check_same b es zs vs h w.1
  check_same b (more_exprs (greatest f g) es) [] vs h w = refl
  check_same b (more_exprs (greatest f g) es) (z ∷ zs) vs h w = check_same b es zs vs h w.1
  check_same b (more_exprs (widen f) es) [] vs h w = refl
  check_same b (more_exprs (widen f) es) (z ∷ zs) vs h w = check_same b es zs vs h w.1
  check_same b (more_exprs (big high low) es) [] vs h w = refl
  check_same b (more_exprs (big high low) es) (z ∷ zs) vs h w = check_same b es zs vs h w.1

  cell_same : (b : ℕ) (zs : List ℤ) (x : Word) (at : PlainExprs) (vs : Vars) → By arrays number is_index at → AreWalkedAt arrays number at vs → cell_misses arrays m number b zs x at vs ≡ cell_misses arrays other number b zs x at vs
  cell_same b zs x at vs h w = ap (λ l. cond (nat_eq (number x) b) (index_misses arrays at vs ++ l) []) (check_same b at zs vs h w)

  inner_same : (b : ℕ) (zs : List ℤ) (es : PlainExprs) (vs : Vars) → By arrays number is_index es → AreWalkedAt arrays number es vs → inner_misses arrays m number b zs es vs ≡ inner_misses arrays other number b zs es vs
  inner_same b zs no_exprs vs h w = refl
  inner_same b zs (more_exprs (cell p at) es) vs h w =
      ap (λ l. l ++ inner_misses arrays m number b zs es vs) (cell_same b zs p at vs (plain_by arrays number is_index at vs w.0.1) (plain_walked arrays number is_index at vs w.0.1)) ∙
      ap (λ l. cell_misses arrays other number b zs p at vs ++ l) (inner_same b zs es vs (rest_by arrays number is_index p at es h) w.1)
  inner_same b zs (more_exprs (lit n) es) vs h w = inner_same b zs es vs h w.1
  inner_same b zs (more_exprs (var y) es) vs h w = inner_same b zs es vs h w.1
  inner_same b zs (more_exprs (un op f) es) vs h w = inner_same b zs es vs h w.1
  inner_same b zs (more_exprs (bin op f g) es) vs h w = inner_same b zs es vs h w.1
  inner_same b zs (more_exprs (cast f) es) vs h w = inner_same b zs es vs h w.1
  inner_same b zs (more_exprs (test rel f g) es) vs h w = inner_same b zs es vs h w.1
  inner_same b zs (more_exprs (umin f g) es) vs h w = inner_same b zs es vs h w.1
  inner_same b zs (more_exprs (umax f g) es) vs h w = inner_same b zs es vs h w.1
  inner_same b zs (more_exprs (least f g) es) vs h w = inner_same b zs es vs h w.1
  inner_same b zs (more_exprs (greatest f g) es) vs h w = inner_same b zs es vs h w.1
  inner_same b zs (more_exprs (widen f) es) vs h w = inner_same b zs es vs h w.1
  inner_same b zs (more_exprs (big high low) es) vs h w = inner_same b zs es vs h w.1

  -- ---- expressions

  reads_same : (e : PlainExpr) (vs : Vars) → Through arrays number is_index e → IsWalkedData arrays number e vs → all_reads arrays m number e vs ≡ all_reads arrays other number e vs
  reads_same (lit n) vs h w = refl
  reads_same (var x) vs h w = refl
  reads_same (cell x at) vs h w = ap (λ cs. index_reads number at vs ++ record { array = number x; cell = cs; writes = false } ∷ []) (coordinates_same at vs h w.0)
  reads_same (un op a) vs h w = reads_same a vs h w
  reads_same (cast a) vs h w = reads_same a vs h w
  reads_same (least a b) vs h w = absurd w
  reads_same (greatest a b) vs h w = absurd w
  reads_same (widen a) vs h w = absurd w
  reads_same (big high low) vs h w = absurd w
  reads_same (bin op a b) vs h w = ap (λ l. l ++ all_reads arrays m number b vs) (reads_same a vs (left_through arrays number is_index a b h) w.0) ∙ ap (λ l. all_reads arrays other number a vs ++ l) (reads_same b vs (right_through arrays number is_index a b h) w.1)
  reads_same (test rel a b) vs h w = ap (λ l. l ++ all_reads arrays m number b vs) (reads_same a vs (left_through arrays number is_index a b h) w.0) ∙ ap (λ l. all_reads arrays other number a vs ++ l) (reads_same b vs (right_through arrays number is_index a b h) w.1)
  reads_same (umin a b) vs h w = ap (λ l. l ++ all_reads arrays m number b vs) (reads_same a vs (left_through arrays number is_index a b h) w.0) ∙ ap (λ l. all_reads arrays other number a vs ++ l) (reads_same b vs (right_through arrays number is_index a b h) w.1)
  reads_same (umax a b) vs h w = ap (λ l. l ++ all_reads arrays m number b vs) (reads_same a vs (left_through arrays number is_index a b h) w.0) ∙ ap (λ l. all_reads arrays other number a vs ++ l) (reads_same b vs (right_through arrays number is_index a b h) w.1)

  module _ (b : ℕ) (zs : List ℤ) where
    abbrev one : PlainExpr → Vars → List End
    one = misses_in arrays m number b zs

    abbrev two : PlainExpr → Vars → List End
    two = misses_in arrays other number b zs

    misses_same : (e : PlainExpr) (vs : Vars) → Through arrays number is_index e → IsWalkedData arrays number e vs → one e vs ≡ two e vs
    misses_same (lit n) vs h w = refl
    misses_same (var x) vs h w = refl
    misses_same (cell x at) vs h w =
        ap (λ l. l ++ cell_misses arrays m number b zs x at vs) (inner_same b zs at vs h w.0) ∙ ap (λ l. inner_misses arrays other number b zs at vs ++ l) (cell_same b zs x at vs h w.0)
    misses_same (un op e) vs h w = misses_same e vs h w
    misses_same (cast e) vs h w = misses_same e vs h w
    misses_same (least e g) vs h w = absurd w
    misses_same (greatest e g) vs h w = absurd w
    misses_same (widen e) vs h w = absurd w
    misses_same (big high low) vs h w = absurd w
    misses_same (bin op e g) vs h w = ap (λ l. l ++ one g vs) (misses_same e vs (left_through arrays number is_index e g h) w.0) ∙ ap (λ l. two e vs ++ l) (misses_same g vs (right_through arrays number is_index e g h) w.1)
    misses_same (test rel e g) vs h w = ap (λ l. l ++ one g vs) (misses_same e vs (left_through arrays number is_index e g h) w.0) ∙ ap (λ l. two e vs ++ l) (misses_same g vs (right_through arrays number is_index e g h) w.1)
    misses_same (umin e g) vs h w = ap (λ l. l ++ one g vs) (misses_same e vs (left_through arrays number is_index e g h) w.0) ∙ ap (λ l. two e vs ++ l) (misses_same g vs (right_through arrays number is_index e g h) w.1)
    misses_same (umax e g) vs h w = ap (λ l. l ++ one g vs) (misses_same e vs (left_through arrays number is_index e g h) w.0) ∙ ap (λ l. two e vs ++ l) (misses_same g vs (right_through arrays number is_index e g h) w.1)

    abbrev Indexes : PlainStmts → Type 0
    Indexes body = (a : ℕ) → indexes_all number a body ≡ true → is_index a ≡ true

    mutual
      statement_misses : (s : PlainStmt) (vs : Vars) → ((a : ℕ) → indexes number a s ≡ true → is_index a ≡ true) → IsWalked arrays number s vs → misses one s vs ≡ misses two s vs
      statement_misses (loop x lo rel hi body) vs h w =
          same_flat (λ v. misses_all one body ((x, v) ∷ vs)) (λ v. misses_all two body ((x, v) ∷ vs)) (loop_values (signed lo vs) rel (signed hi vs)) (λ v. all_misses body ((x, v) ∷ vs) h (w.3 v))
      statement_misses (choice ts first last) vs h w =
          ap (λ l. cond (tests_hold ts vs) l (misses_all one last vs)) (all_misses first vs (λ a e. h a (or_left (indexes_all number a first) (indexes_all number a last) e)) w.1) ∙
          ap (λ l. cond (tests_hold ts vs) (misses_all two first vs) l) (all_misses last vs (λ a e. h a (or_right (indexes_all number a first) (indexes_all number a last) e)) w.2)
      statement_misses (assign t op e) vs h w = misses_same (full t op e) vs h w.1
      statement_misses (table x len) vs h w = refl
      statement_misses begin vs h w = refl
      statement_misses (check x extent a) vs h w = refl
      statement_misses verdict vs h w = refl

      pub all_misses : (body : PlainStmts) (vs : Vars) → Indexes body → AreWalked arrays number body vs → misses_all one body vs ≡ misses_all two body vs
      all_misses no_stmts vs h w = refl
      all_misses (more_stmts s ss) vs h w =
          ap (λ l. l ++ misses_all one ss vs) (statement_misses s vs (λ a e. h a (or_left (indexes number a s) (indexes_all number a ss) e)) w.0) ∙
          ap (λ l. misses two s vs ++ l) (all_misses ss vs (λ a e. h a (or_right (indexes number a s) (indexes_all number a ss) e)) w.1)

  -- ---- the list

  mutual
    statement_list : (k : ℕ) (s : PlainStmt) (vs : Vars) → ((a : ℕ) → indexes number a s ≡ true → is_index a ≡ true) → IsWalked arrays number s vs → tagged arrays m number k s vs ≡ tagged arrays other number k s vs
    statement_list k (loop x lo rel hi body) vs h w =
        same_flat (λ v. tagged_all arrays m number k body ((x, v) ∷ vs)) (λ v. tagged_all arrays other number k body ((x, v) ∷ vs)) (loop_values (signed lo vs) rel (signed hi vs)) (λ v. all_list k body ((x, v) ∷ vs) h (w.3 v))
    statement_list k (choice ts first last) vs h w =
        ap (λ l. cond (tests_hold ts vs) l (tagged_all arrays m number (k + sites_all first) last vs)) (all_list k first vs (λ a e. h a (or_left (indexes_all number a first) (indexes_all number a last) e)) w.1) ∙
        ap (λ l. cond (tests_hold ts vs) (tagged_all arrays other number k first vs) l) (all_list (k + sites_all first) last vs (λ a e. h a (or_right (indexes_all number a first) (indexes_all number a last) e)) w.2)
    statement_list k (assign t op e) vs h w = ap (λ l. map (tag k vs) (l ++ cell_write number t vs)) (reads_same (full t op e) vs h w.1)
    statement_list k (table x len) vs h w = refl
    statement_list k begin vs h w = refl
    statement_list k (check x extent a) vs h w = refl
    statement_list k verdict vs h w = refl

    pub all_list : (k : ℕ) (body : PlainStmts) (vs : Vars) → ((a : ℕ) → indexes_all number a body ≡ true → is_index a ≡ true) → AreWalked arrays number body vs → tagged_all arrays m number k body vs ≡ tagged_all arrays other number k body vs
    all_list k no_stmts vs h w = refl
    all_list k (more_stmts s ss) vs h w =
        ap (λ l. l ++ tagged_all arrays m number (k + sites s) ss vs) (statement_list k s vs (λ a e. h a (or_left (indexes number a s) (indexes_all number a ss) e)) w.0) ∙
        ap (λ l. tagged arrays other number k s vs ++ l) (all_list (k + sites s) ss vs (λ a e. h a (or_right (indexes number a s) (indexes_all number a ss) e)) w.1)
