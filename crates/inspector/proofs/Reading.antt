-- Making the tables names no cells but those of the two tables and of index arrays, and stores into the tables alone.
use Rattle.std.proofs.Common.{◌≡◌, ◌⊎◌, inl, inr, ℕ, suc, ◌||◌, Bool, true, false, if◌then◌else◌, List, [], ◌∷◌, ◌++◌, refl, ℤ, pos, eq-eqb}
use Rattle.std.specs.Prelude.{nat_eq}
use Rattle.c_tree.specs.Plain.{Word, PlainExpr, lit, var, cell, un, bin, cast, test, umin, umax, least, greatest, widen, big, PlainExprs, no_exprs, more_exprs, PlainTest, PlainStmt, loop, choice, assign, table, begin, check, verdict, PlainStmts, no_stmts, more_stmts}
use Rattle.c_tree.specs.Trees.{stmts_of}
use Rattle.c_tree.specs.Values.{Vars}
use Rattle.c_tree.specs.Arrays.{Array}
use Rattle.instrumentation.specs.Body.{full}
use Rattle.instrumentation.specs.Names.{written, current, counts}
use Rattle.instrumentation.specs.Passes.{renamed, renamed_all, renamed_tests, set_word}
use Rattle.c_tree.specs.declared.expr.BinOp.TheVariants.{Add}
use Rattle.instrumentation.specs.Tables.{cells_of, row_of, words_at, walk, walk_all, index_words, word_checks, count_current, inspect_cell, inspect_indices, inspect_reads, one_more, set_current, no_reads, count_writes, number_writes, build}
use Rattle.pass_laws.specs.Countable.{IsAffine, AreAffineTests}
use Rattle.inspection_laws.specs.Walked.{ArePlainAt, AreWalkedAt, IsWalkedData, IsWalkedTarget, IsWalked, AreWalked, AreExtents}
use Rattle.guard_laws.specs.IndexArrays.{indexed_by, reads_through, indexes, indexes_all}
use Rattle.inspector.specs.Building.{Names, AllName, TestsName, AllUse, Uses, IsTable}
use Rattle.inspector.proofs.Indices.{or_left, or_right, Through, By, first_by, rest_by, left_through, right_through, plain_by, plain_walked}

module _ (arrays : List Array) (number : Word → ℕ) (is_index : ℕ → Bool) (a : ℕ) where
  abbrev P : Word → Type 0
  P x = IsTable a x ⊎ (is_index (number x) ≡ true)

  abbrev Q : Word → Type 0
  Q = IsTable a

  abbrev Fine : List PlainStmt → Type 0
  Fine ss = AllUse P Q (stmts_of ss)

  joined : (ss ts : List PlainStmt) → Fine ss → Fine ts → Fine (ss ++ ts)
  joined [] ts h g = g
  joined (s ∷ ss) ts h g = (h.0, joined ss ts h.1 g)

  chosen : (b : Bool) (ss : List PlainStmt) → Fine ss → Fine (if b then ss else [])
  chosen true ss h = h
  chosen false ss h = tt

  -- ---- expressions

  affine_names : (xs : List Word) (e : PlainExpr) (vs : Vars) → IsAffine e vs → Names P (renamed xs e)
  affine_names xs (lit n) vs w = tt
  affine_names xs (var z) vs w = tt
  affine_names xs (cell p at) vs w = absurd w
  affine_names xs (un op f) vs w = affine_names xs f vs w
  affine_names xs (bin op f g) vs w = (affine_names xs f vs w.0, affine_names xs g vs w.1)
  affine_names xs (cast f) vs w = absurd w
  affine_names xs (test rel f g) vs w = absurd w
  affine_names xs (umin f g) vs w = absurd w
  affine_names xs (umax f g) vs w = absurd w
  affine_names xs (least f g) vs w = (affine_names xs f vs w.0, affine_names xs g vs w.1)
  affine_names xs (greatest f g) vs w = (affine_names xs f vs w.0, affine_names xs g vs w.1)
  affine_names xs (widen f) vs w = absurd w
  affine_names xs (big high low) vs w = absurd w

  extent_names : (e : PlainExpr) (vs : Vars) → IsAffine e vs → Names P e
  extent_names (lit n) vs w = tt
  extent_names (var z) vs w = tt
  extent_names (cell p at) vs w = absurd w
  extent_names (un op f) vs w = extent_names f vs w
  extent_names (bin op f g) vs w = (extent_names f vs w.0, extent_names g vs w.1)
  extent_names (cast f) vs w = absurd w
  extent_names (test rel f g) vs w = absurd w
  extent_names (umin f g) vs w = absurd w
  extent_names (umax f g) vs w = absurd w
  extent_names (least f g) vs w = (extent_names f vs w.0, extent_names g vs w.1)
  extent_names (greatest f g) vs w = (extent_names f vs w.0, extent_names g vs w.1)
  extent_names (widen f) vs w = absurd w
  extent_names (big high low) vs w = absurd w

  extents_name : (ns : PlainExprs) (zs : List ℤ) (vs : Vars) → AreExtents ns zs vs → AllName P ns
  extents_name no_exprs zs vs w = tt
  extents_name (more_exprs n ns) [] vs w = absurd w
  extents_name (more_exprs n ns) (z ∷ zs) vs w = (extent_names n vs w.0.0, extents_name ns zs vs w.3)

  plain_names : (xs : List Word) (es : PlainExprs) (vs : Vars) → ArePlainAt es vs → AllName P (renamed_all xs es)
  plain_names xs no_exprs vs w = tt
  plain_names xs (more_exprs e es) vs w = (affine_names xs e vs w.0.0, plain_names xs es vs w.1)

  tests_name : (xs : List Word) (ts : List PlainTest) (vs : Vars) → AreAffineTests ts vs → TestsName P (renamed_tests xs ts)
  tests_name xs [] vs w = tt
  tests_name xs (t ∷ ts) vs w = ((affine_names xs t.1 vs w.0.0, affine_names xs t.2 vs w.0.1), tests_name xs ts vs w.1)

  cells_name : (ns : PlainExprs) → AllName P ns → Names P (cells_of ns)
  cells_name no_exprs h = tt
  cells_name (more_exprs n ns) h = (h.0, cells_name ns h.1)

  abbrev ListNames : List PlainExpr → Type 0
  ListNames [] = Unit {0}
  ListNames (e ∷ es) = Names P e × ListNames es

  row_names : (ns : PlainExprs) (ws : List PlainExpr) → AllName P ns → ListNames ws → Names P (row_of ns ws)
  row_names no_exprs ws h g = tt
  row_names (more_exprs n ns) [] h g = tt
  row_names (more_exprs n ns) (w ∷ ws) h g = ((g.0, cells_name ns h.1), row_names ns ws h.1 g.1)

  words_name : (xs : List Word) (d : ℕ) (es : PlainExprs) (vs : Vars) → AreWalkedAt arrays number es vs → ListNames (words_at xs d es)
  words_name xs d no_exprs vs w = tt
  words_name xs d (more_exprs (cell p at) es) vs w = (tt, words_name xs (suc d) es vs w.1)
  words_name xs d (more_exprs (lit n) es) vs w = (affine_names xs (lit n) vs w.0.0, words_name xs (suc d) es vs w.1)
  words_name xs d (more_exprs (var z) es) vs w = (affine_names xs (var z) vs w.0.0, words_name xs (suc d) es vs w.1)
  words_name xs d (more_exprs (un op f) es) vs w = (affine_names xs (un op f) vs w.0.0, words_name xs (suc d) es vs w.1)
  words_name xs d (more_exprs (bin op f g) es) vs w = (affine_names xs (bin op f g) vs w.0.0, words_name xs (suc d) es vs w.1)
  words_name xs d (more_exprs (cast f) es) vs w = (affine_names xs (cast f) vs w.0.0, words_name xs (suc d) es vs w.1)
  words_name xs d (more_exprs (test rel f g) es) vs w = (affine_names xs (test rel f g) vs w.0.0, words_name xs (suc d) es vs w.1)
  words_name xs d (more_exprs (umin f g) es) vs w = (affine_names xs (umin f g) vs w.0.0, words_name xs (suc d) es vs w.1)
  words_name xs d (more_exprs (umax f g) es) vs w = (affine_names xs (umax f g) vs w.0.0, words_name xs (suc d) es vs w.1)
  words_name xs d (more_exprs (least f g) es) vs w = (affine_names xs (least f g) vs w.0.0, words_name xs (suc d) es vs w.1)
  words_name xs d (more_exprs (greatest f g) es) vs w = (affine_names xs (greatest f g) vs w.0.0, words_name xs (suc d) es vs w.1)
  words_name xs d (more_exprs (widen f) es) vs w = (affine_names xs (widen f) vs w.0.0, words_name xs (suc d) es vs w.1)
  words_name xs d (more_exprs (big high low) es) vs w = (affine_names xs (big high low) vs w.0.0, words_name xs (suc d) es vs w.1)

  -- ---- single accesses

  index_fine : (xs : List Word) (d : ℕ) (es : PlainExprs) (vs : Vars) → By arrays number is_index es → AreWalkedAt arrays number es vs → Fine (index_words xs d es)
  index_fine xs d no_exprs vs h w = tt
  index_fine xs d (more_exprs (cell p at) es) vs h w =
      ((tt, tt, (inr (first_by arrays number is_index p at es h), plain_names xs at vs w.0.1)), index_fine xs (suc d) es vs (rest_by arrays number is_index p at es h) w.1)
  index_fine xs d (more_exprs (lit n) es) vs h w = index_fine xs (suc d) es vs h w.1
  index_fine xs d (more_exprs (var z) es) vs h w = index_fine xs (suc d) es vs h w.1
  index_fine xs d (more_exprs (un op f) es) vs h w = index_fine xs (suc d) es vs h w.1
  index_fine xs d (more_exprs (bin op f g) es) vs h w = index_fine xs (suc d) es vs h w.1
  index_fine xs d (more_exprs (cast f) es) vs h w = index_fine xs (suc d) es vs h w.1
  index_fine xs d (more_exprs (test rel f g) es) vs h w = index_fine xs (suc d) es vs h w.1
  index_fine xs d (more_exprs (umin f g) es) vs h w = index_fine xs (suc d) es vs h w.1
  index_fine xs d (more_exprs (umax f g) es) vs h w = index_fine xs (suc d) es vs h w.1
  index_fine xs d (more_exprs (least f g) es) vs h w = index_fine xs (suc d) es vs h w.1
  index_fine xs d (more_exprs (greatest f g) es) vs h w = index_fine xs (suc d) es vs h w.1
  index_fine xs d (more_exprs (widen f) es) vs h w = index_fine xs (suc d) es vs h w.1
  index_fine xs d (more_exprs (big high low) es) vs h w = index_fine xs (suc d) es vs h w.1

  checks_fine : (d : ℕ) (es ns : PlainExprs) → AllName P ns → Fine (word_checks a d es ns)
  checks_fine d no_exprs ns h = tt
  checks_fine d (more_exprs e es) no_exprs h = tt
  checks_fine d (more_exprs (cell p at) es) (more_exprs m ns) h = (h.0, checks_fine (suc d) es ns h.1)
  checks_fine d (more_exprs (lit n) es) (more_exprs m ns) h = checks_fine (suc d) es ns h.1
  checks_fine d (more_exprs (var z) es) (more_exprs m ns) h = checks_fine (suc d) es ns h.1
  checks_fine d (more_exprs (un op f) es) (more_exprs m ns) h = checks_fine (suc d) es ns h.1
  checks_fine d (more_exprs (bin op f g) es) (more_exprs m ns) h = checks_fine (suc d) es ns h.1
  checks_fine d (more_exprs (cast f) es) (more_exprs m ns) h = checks_fine (suc d) es ns h.1
  checks_fine d (more_exprs (test rel f g) es) (more_exprs m ns) h = checks_fine (suc d) es ns h.1
  checks_fine d (more_exprs (umin f g) es) (more_exprs m ns) h = checks_fine (suc d) es ns h.1
  checks_fine d (more_exprs (umax f g) es) (more_exprs m ns) h = checks_fine (suc d) es ns h.1
  checks_fine d (more_exprs (least f g) es) (more_exprs m ns) h = checks_fine (suc d) es ns h.1
  checks_fine d (more_exprs (greatest f g) es) (more_exprs m ns) h = checks_fine (suc d) es ns h.1
  checks_fine d (more_exprs (widen f) es) (more_exprs m ns) h = checks_fine (suc d) es ns h.1
  checks_fine d (more_exprs (big high low) es) (more_exprs m ns) h = checks_fine (suc d) es ns h.1

  current_table : P (current a)
  current_table = inl (inl refl)

  counts_table : P (counts a)
  counts_table = inl (inr refl)

  count_fine : (e : PlainExpr) → Names P e → Uses P Q (count_current a e)
  count_fine e h = (inr refl, (counts_table, ((h, (current_table, (h, tt))), tt)), tt)

  module _ (ns : PlainExprs) (sized : AllName P ns) where
    cell_fine : (xs : List Word) (x : Word) (at : PlainExprs) (vs : Vars) → By arrays number is_index at → AreWalkedAt arrays number at vs → Fine (inspect_cell number a ns xs x at)
    cell_fine xs x at vs h w =
        let counted : PlainStmt = count_current a (row_of ns (words_at xs 0 at)) in
        chosen (nat_eq (number x) a) (index_words xs 0 at ++ (word_checks a 0 at ns ++ counted ∷ []))
        (joined (index_words xs 0 at) (word_checks a 0 at ns ++ counted ∷ []) (index_fine xs 0 at vs h w)
        (joined (word_checks a 0 at ns) (counted ∷ []) (checks_fine 0 at ns sized) (count_fine (row_of ns (words_at xs 0 at)) (row_names ns (words_at xs 0 at) sized (words_name xs 0 at vs w)), tt)))

    indices_fine : (xs : List Word) (es : PlainExprs) (vs : Vars) → By arrays number is_index es → AreWalkedAt arrays number es vs → Fine (inspect_indices number a ns xs es)
    indices_fine xs no_exprs vs h w = tt
    indices_fine xs (more_exprs (cell p at) es) vs h w =
        joined (inspect_cell number a ns xs p at) (inspect_indices number a ns xs es) (cell_fine xs p at vs (plain_by arrays number is_index at vs w.0.1) (plain_walked arrays number is_index at vs w.0.1)) (indices_fine xs es vs (rest_by arrays number is_index p at es h) w.1)
    indices_fine xs (more_exprs (lit n) es) vs h w = indices_fine xs es vs h w.1
    indices_fine xs (more_exprs (var z) es) vs h w = indices_fine xs es vs h w.1
    indices_fine xs (more_exprs (un op f) es) vs h w = indices_fine xs es vs h w.1
    indices_fine xs (more_exprs (bin op f g) es) vs h w = indices_fine xs es vs h w.1
    indices_fine xs (more_exprs (cast f) es) vs h w = indices_fine xs es vs h w.1
    indices_fine xs (more_exprs (test rel f g) es) vs h w = indices_fine xs es vs h w.1
    indices_fine xs (more_exprs (umin f g) es) vs h w = indices_fine xs es vs h w.1
    indices_fine xs (more_exprs (umax f g) es) vs h w = indices_fine xs es vs h w.1
    indices_fine xs (more_exprs (least f g) es) vs h w = indices_fine xs es vs h w.1
    indices_fine xs (more_exprs (greatest f g) es) vs h w = indices_fine xs es vs h w.1
    indices_fine xs (more_exprs (widen f) es) vs h w = indices_fine xs es vs h w.1
    indices_fine xs (more_exprs (big high low) es) vs h w = indices_fine xs es vs h w.1

    reads_fine : (xs : List Word) (e : PlainExpr) (vs : Vars) → Through arrays number is_index e → IsWalkedData arrays number e vs → Fine (inspect_reads number a ns xs e)
    reads_fine xs (lit n) vs h w = tt
    reads_fine xs (var z) vs h w = tt
    reads_fine xs (cell x at) vs h w = joined (inspect_indices number a ns xs at) (inspect_cell number a ns xs x at) (indices_fine xs at vs h w.0) (cell_fine xs x at vs h w.0)
    reads_fine xs (un op f) vs h w = reads_fine xs f vs h w
    reads_fine xs (cast f) vs h w = reads_fine xs f vs h w
    reads_fine xs (least f g) vs h w = tt
    reads_fine xs (greatest f g) vs h w = tt
    reads_fine xs (widen f) vs h w = tt
    reads_fine xs (big high low) vs h w = tt
    reads_fine xs (bin op f g) vs h w = joined (inspect_reads number a ns xs f) (inspect_reads number a ns xs g) (reads_fine xs f vs (left_through arrays number is_index f g h) w.0) (reads_fine xs g vs (right_through arrays number is_index f g h) w.1)
    reads_fine xs (test rel f g) vs h w = joined (inspect_reads number a ns xs f) (inspect_reads number a ns xs g) (reads_fine xs f vs (left_through arrays number is_index f g h) w.0) (reads_fine xs g vs (right_through arrays number is_index f g h) w.1)
    reads_fine xs (umin f g) vs h w = joined (inspect_reads number a ns xs f) (inspect_reads number a ns xs g) (reads_fine xs f vs (left_through arrays number is_index f g h) w.0) (reads_fine xs g vs (right_through arrays number is_index f g h) w.1)
    reads_fine xs (umax f g) vs h w = joined (inspect_reads number a ns xs f) (inspect_reads number a ns xs g) (reads_fine xs f vs (left_through arrays number is_index f g h) w.0) (reads_fine xs g vs (right_through arrays number is_index f g h) w.1)

    writes_fine : (xs : List Word) (t : PlainExpr) (vs : Vars) → IsWalkedTarget t vs → Fine (number_writes number a ns xs t)
    writes_fine xs (var z) vs w = tt
    writes_fine xs (cell x at) vs w =
        let r : Names P (row_of ns (words_at xs 0 at)) = row_names ns (words_at xs 0 at) sized (words_name xs 0 at vs (plain_walked arrays number is_index at vs w)) in
        chosen (nat_eq (number x) a) (set_current a ns (row_of ns (words_at xs 0 at)) ∷ one_more a ∷ [])
        ((inl refl, (current_table, (r, tt)), ((cells_name ns sized, tt), r)), ((tt, tt, tt), tt))
    writes_fine xs (lit n) vs w = absurd w
    writes_fine xs (un op f) vs w = absurd w
    writes_fine xs (bin op f g) vs w = absurd w
    writes_fine xs (cast f) vs w = absurd w
    writes_fine xs (test rel f g) vs w = absurd w
    writes_fine xs (umin f g) vs w = absurd w
    writes_fine xs (umax f g) vs w = absurd w
    writes_fine xs (least f g) vs w = absurd w
    writes_fine xs (greatest f g) vs w = absurd w
    writes_fine xs (widen f) vs w = absurd w
    writes_fine xs (big high low) vs w = absurd w

  counted_fine : (xs : List Word) (t : PlainExpr) (vs : Vars) → IsWalkedTarget t vs → Fine (count_writes number a xs t)
  counted_fine xs (var z) vs w = tt
  counted_fine xs (cell x at) vs w = chosen (nat_eq (number x) a) (one_more a ∷ []) ((tt, tt, tt), tt)
  counted_fine xs (lit n) vs w = absurd w
  counted_fine xs (un op f) vs w = absurd w
  counted_fine xs (bin op f g) vs w = absurd w
  counted_fine xs (cast f) vs w = absurd w
  counted_fine xs (test rel f g) vs w = absurd w
  counted_fine xs (umin f g) vs w = absurd w
  counted_fine xs (umax f g) vs w = absurd w
  counted_fine xs (least f g) vs w = absurd w
  counted_fine xs (greatest f g) vs w = absurd w
  counted_fine xs (widen f) vs w = absurd w
  counted_fine xs (big high low) vs w = absurd w

  -- ---- the walks

  module _ (reads writes : List Word → PlainExpr → List PlainStmt) (of_reads : (xs : List Word) (e : PlainExpr) (vs : Vars) → Through arrays number is_index e → IsWalkedData arrays number e vs → Fine (reads xs e))
      (of_writes : (xs : List Word) (t : PlainExpr) (vs : Vars) → IsWalkedTarget t vs → Fine (writes xs t)) where
    mutual
      walk_fine : (xs : List Word) (s : PlainStmt) (vs : Vars) → ((b : ℕ) → indexes number b s ≡ true → is_index b ≡ true) → IsWalked arrays number s vs → Fine (walk reads writes xs s)
      walk_fine xs (loop x lo rel hi body) vs h w = ((affine_names xs lo vs w.0, affine_names xs hi vs w.1, all_fine (x ∷ xs) body ((x, pos 0) ∷ vs) h (w.3 (pos 0))), tt)
      walk_fine xs (choice ts first last) vs h w = (
        (
          tests_name xs ts vs w.0,
          all_fine xs first vs (λ b e. h b (or_left (indexes_all number b first) (indexes_all number b last) e)) w.1,
          all_fine xs last vs (λ b e. h b (or_right (indexes_all number b first) (indexes_all number b last) e)) w.2,
        ),
        tt,
      )
      walk_fine xs (assign t op e) vs h w = joined (reads xs (full t op e)) (writes xs t) (of_reads xs (full t op e) vs h w.1) (of_writes xs t vs w.0)
      walk_fine xs (table x len) vs h w = tt
      walk_fine xs begin vs h w = tt
      walk_fine xs (check x extent b) vs h w = tt
      walk_fine xs verdict vs h w = tt

      all_fine : (xs : List Word) (body : PlainStmts) (vs : Vars) → ((b : ℕ) → indexes_all number b body ≡ true → is_index b ≡ true) → AreWalked arrays number body vs → Fine (walk_all reads writes xs body)
      all_fine xs no_stmts vs h w = tt
      all_fine xs (more_stmts s ss) vs h w =
          joined (walk reads writes xs s) (walk_all reads writes xs ss) (walk_fine xs s vs (λ b e. h b (or_left (indexes number b s) (indexes_all number b ss) e)) w.0)
          (all_fine xs ss vs (λ b e. h b (or_right (indexes number b s) (indexes_all number b ss) e)) w.1)

  pub build_fine : (ns : PlainExprs) (zs : List ℤ) (body : PlainStmts) (vs : Vars) → ((b : ℕ) → indexes_all number b body ≡ true → is_index b ≡ true) → AreWalked arrays number body vs → AreExtents ns zs vs → Fine (build number body a ns)
  build_fine ns zs body vs h w sizes =
      let sized : AllName P ns = extents_name ns zs vs sizes in
      let first : List PlainStmt = walk_all no_reads (count_writes number a) [] body in
      let second : List PlainStmt = walk_all (inspect_reads number a ns) (number_writes number a ns) [] body in
      let reset : List PlainStmt = set_word (written a) 0 ∷ [] in
      let last : Fine (set_word (written a) 0 ∷ (second ++ reset)) =
      ((tt, tt, tt), joined second reset (all_fine (inspect_reads number a ns) (number_writes number a ns) (reads_fine ns sized) (writes_fine ns sized) [] body vs h w) ((tt, tt, tt), tt)) in
      let tables : Fine (table (current a) (cells_of ns) ∷ table (counts a) (bin Add (cells_of ns) (var (written a))) ∷ set_word (written a) 0 ∷ (second ++ reset)) =
      ((inl refl, cells_name ns sized), ((inr refl, (cells_name ns sized, tt)), last)) in (
        (tt, tt, tt),
        joined first (table (current a) (cells_of ns) ∷ table (counts a) (bin Add (cells_of ns) (var (written a))) ∷ set_word (written a) 0 ∷ (second ++ reset))
            (all_fine no_reads (count_writes number a) (λ xs e vs h w. tt) counted_fine [] body vs h w) tables,
      )
