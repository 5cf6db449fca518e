-- An accepted source is a source of the laws of runs, index cells and all.
use Rattle.std.proofs.Common.{◌≡◌, ℕ, ◌<◌, ◌^◌, Bool, true, false, not, ◌&&◌, ◌||◌, List, [], ◌∷◌, length, Option, None, Some, refl, sym, ap, ◌∙◌, subst, inl, inr, true≢false, eq-eqb}
use Rattle.std.specs.Prelude.{nat_eq}
use Rattle.std.specs.List.{AllByRecursion, list_all}
use Rattle.std.proofs.lemmas.Bool.{and_parts, or_parts, or_left, or_right, false_from_ne_true}
use Rattle.c_tree.specs.Plain.{Word, PlainExpr, lit, var, cell, un, bin, cast, test, umin, umax, least, greatest, widen, big, PlainExprs, no_exprs, more_exprs, PlainTest, PlainStmt, loop, choice, assign, table, begin, check, verdict, PlainStmts, no_stmts, more_stmts, PlainUnit}
use Rattle.c_tree.specs.Kinds.{is_signed}
use Rattle.c_tree.specs.Values.{Vars, exact, kind, loop_values}
use Rattle.c_tree.specs.Arrays.{Array}
use Rattle.c_tree.specs.declared.expr.BinOp.{BinOp}
use Rattle.run_laws.specs.Sources as exactly
use Rattle.run_laws.specs.Sources.{IsExact, IsArray}
use Rattle.instrumentation.specs.Body.{full}
use Rattle.instrumentation.specs.Guarded.{array_names}
use Rattle.instrumentation.proofs.Subscripts.{cell_or_not, not_by_cell}
use Rattle.instrumentation_laws.specs.RegularSources as regular
use Rattle.instrumentation_laws.specs.ExactSources.{IsExactSubscript, AreExactSubscripts, IsExactData, IsExactSource, AreExactSource}
use Rattle.guard_laws.specs.IndexArrays.{indexed_by, reads_through, indexes, indexes_all, is_index_array}
use Rattle.acceptance.specs.Items.{Loop, Item, items, items_all, tables_after, Scope, scope_of, is_array, is_int, is_loop}
use Rattle.acceptance.specs.Affine.{Intervals, is_affine}
use Rattle.acceptance.specs.Head.{list_of, intervals_of}
use Rattle.acceptance.specs.Printed.{dimensions, fits_dimensions, all_fit_dimensions, tests_fit}
use Rattle.acceptance.specs.Parts.{subscript_holds, subscripts_hold, is_cell, are_regular, intervals_in}
use Rattle.acceptance.specs.Trees.{IsTree, AreTrees, AreSubscripts, IsInner, AreInner}
use Rattle.acceptance.specs.Sources.{is_const_array}
use Rattle.accepted_laws.proofs.Clear.{Clear, all_front, all_back, tables_same}
use Rattle.source_laws.specs.Exact.{IsSubscriptExact, AreSubscriptsExact, ArePartsExact, IsExactStmt, AreExactStmts}
use Rattle.source_laws.proofs.Expressions.{Stands, stands_inside, its_arrays, its_number, IsCell, cell_is, affine_no_cells, affine_no_word, affine_signed, no_word_join, signed_named, IsAsked, asked_bin, asked_test, asked_umin, asked_umax, CastIs, of_affine, of_data, cast_is}
use Rattle.source_laws.proofs.IndexArrays.{cell_array}
use Rattle.source_laws.proofs.Values.{all_inside}
use Rattle.source_laws.proofs.Statements.{reserved_own, value_asked, cell_asked, regular_holds}

-- ---- a signed subscript

module _ (u : PlainUnit) (params : Vars) (few_arrays : length (array_names u.params) < 2 ^ 64) (unindexed : (x : Word) → is_array u.params x ≡ true → is_const_array u.params x ≡ false → is_index_array u (its_number u params few_arrays x) ≡ false) where
  abbrev arrays : List Array
  arrays = its_arrays u params few_arrays

  abbrev number : Word → ℕ
  number = its_number u params few_arrays

  abbrev is_index : ℕ → Bool
  is_index = is_index_array u

  abbrev plain_array : (x : Word) → regular.IsArray arrays number x → IsArray arrays x
  plain_array x a = record { array = a.array; named = a.named }

  module _ (ls : List Loop) (vs : Vars) (s : Stands u ls vs) where
    abbrev sc : Scope
    sc = scope_of u ls []

    abbrev rs : Intervals
    rs = intervals_in (intervals_of u) ls

    signed_sub : (e : PlainExpr) → is_affine sc e ≡ true → IsExact e vs → exactly.IsAffine e vs
    signed_sub e h k = record { no_cells = affine_no_cells u ls vs s e h; no_word = affine_no_word u ls vs s e h; fits = k }

    all_signed : (at : PlainExprs) → list_all (is_affine sc) (list_of at) ≡ true → AllByRecursion (λ e. IsExact e vs) (list_of at) → exactly.AreAffine at vs
    all_signed no_exprs h k = tt
    all_signed (more_exprs e es) h k = (let p = and_parts (is_affine sc e) (list_all (is_affine sc) (list_of es)) h in (signed_sub e p.0 k.0, all_signed es p.1 k.1))

    cell_of : (x : Word) (at : PlainExprs) → IsTree false (cell x at) → fits_dimensions (dimensions sc) (cell x at) ≡ true → IsCell u params few_arrays x at
    cell_of x at t f = cell_is u params few_arrays ls x at (and_parts (nat_eq (dimensions sc x) (length (list_of at))) (all_fit_dimensions (dimensions sc) at) f).0 t.1

    exact_sub : (e : PlainExpr) → IsTree false e → fits_dimensions (dimensions sc) e ≡ true → subscript_holds (is_affine sc) e ≡ true → IsSubscriptExact e vs → ((a : ℕ) → indexed_by number a (more_exprs e no_exprs) ≡ true → is_index a ≡ true) →
        IsExactSubscript arrays is_index e vs
    exact_sub (cell p at) t f h k i =
        let c = cell_of p at t f in
        (plain_array p c.array, ap is_index (sym c.array.numbered) ∙ i (number p) (or_left _ false (eq-eqb (number p) (number p) refl)), all_signed at h k)
    exact_sub (lit n) t f h k i = signed_sub (lit n) h k
    exact_sub (var x) t f h k i = signed_sub (var x) h k
    exact_sub (un op a) t f h k i = signed_sub (un op a) h k
    exact_sub (bin op a b) t f h k i = signed_sub (bin op a b) h k
    exact_sub _ t f h k i = absurd (true≢false (sym h))

    exact_subs : (at : PlainExprs) → AreTrees false at → all_fit_dimensions (dimensions sc) at ≡ true → subscripts_hold (is_affine sc) at ≡ true → AreSubscriptsExact at vs → ((a : ℕ) → indexed_by number a at ≡ true → is_index a ≡ true) →
        AreExactSubscripts arrays is_index at vs
    exact_subs no_exprs t f h k i = tt
    exact_subs (more_exprs e es) t f h k i =
        let p = and_parts (subscript_holds (is_affine sc) e) (subscripts_hold (is_affine sc) es) h in
        let d = and_parts (fits_dimensions (dimensions sc) e) (all_fit_dimensions (dimensions sc) es) f in (
          exact_sub e t.0 d.0 p.0 k.0 (λ a m. i a (front a e es m)),
          exact_subs es t.1 d.1 p.1 k.1 (λ a m. i a (back a e es m)),
        )
      where
        front : (a : ℕ) (e : PlainExpr) (es : PlainExprs) → indexed_by number a (more_exprs e no_exprs) ≡ true → indexed_by number a (more_exprs e es) ≡ true
        front a e es = cell_or_not (λ e. indexed_by number a (more_exprs e no_exprs) ≡ true → indexed_by number a (more_exprs e es) ≡ true)
            (λ p at m. first_only (nat_eq (number p) a) (indexed_by number a es) m)
            (λ e other m. absurd (true≢false (sym m ∙ not_by_cell e (λ p at. nat_eq (number p) a || false) false other))) e
          where
            first_only : (b c : Bool) → (b || false) ≡ true → (b || c) ≡ true
            first_only true c h = refl
            first_only false c h = absurd (true≢false (sym h))

        back : (a : ℕ) (e : PlainExpr) (es : PlainExprs) → indexed_by number a es ≡ true → indexed_by number a (more_exprs e es) ≡ true
        back a e es = cell_or_not (λ e. indexed_by number a es ≡ true → indexed_by number a (more_exprs e es) ≡ true)
            (λ p at m. or_right (nat_eq (number p) a) _ m)
            (λ e other m. not_by_cell e (λ p at. nat_eq (number p) a || indexed_by number a es) (indexed_by number a es) other ∙ m) e

    some_trees : (at : PlainExprs) → AreSubscripts false at → AreTrees false at
    some_trees no_exprs h = tt
    some_trees (more_exprs e es) h = h

    -- its reads through index arrays are among the body's
    abbrev Seen : PlainExpr → Type 0
    Seen e = (a : ℕ) → reads_through number a e ≡ true → is_index a ≡ true

    data_exact : (e : PlainExpr) → IsAsked sc rs e → ArePartsExact e vs → Seen e → IsExactData arrays is_index e vs
    data_exact (lit n) h k i = tt
    data_exact (var x) h k i = tt
    data_exact (cell x at) h k i =
        let c = cell_of x at h.tree h.fits in
        let d = (and_parts (nat_eq (dimensions sc x) (length (list_of at))) (all_fit_dimensions (dimensions sc) at) h.fits).1 in
        (plain_array x c.array, exact_subs at (some_trees at h.tree.1) d h.affine k i)
    data_exact (un op a) h k i = data_exact a (record { known = h.known; affine = h.affine; narrow = h.narrow; data_alone = h.data_alone; fits = h.fits; literals = h.literals; tree = h.tree }) k i
    data_exact (bin op a b) h k i =
        let p = asked_bin sc rs op a b h in (data_exact a p.0 k.0 (λ c m. i c (or_left _ (reads_through number c b) m)), data_exact b p.1 k.1 (λ c m. i c (or_right (reads_through number c a) _ m)))
    data_exact (cast a) h k i = chosen (cast_is u ls vs s rs a h) (λ g n. data_exact a g n i)
      where
        chosen : CastIs sc rs a → (IsAsked sc rs a → ArePartsExact a vs → IsExactData arrays is_index a vs) → IsExactData arrays is_index (cast a) vs
        chosen (of_affine e g) f =
            let signed = affine_signed u ls vs s a g e in
            inl (record { no_cells = affine_no_cells u ls vs s a g; is_signed = signed; fits = k.0 signed })
        chosen (of_data e g) f =
            let unsigned = false_from_ne_true (is_signed (kind vs a)) (λ m. true≢false (sym (signed_named u ls vs s a h.tree m) ∙ e)) in
            inr (unsigned, f g (k.1 unsigned))
    data_exact (test rel a b) h k i =
        let p = asked_test sc rs rel a b h in (data_exact a p.0 k.0 (λ c m. i c (or_left _ (reads_through number c b) m)), data_exact b p.1 k.1 (λ c m. i c (or_right (reads_through number c a) _ m)))
    data_exact (umin a b) h k i =
        let p = asked_umin sc rs a b h in (data_exact a p.0 k.0 (λ c m. i c (or_left _ (reads_through number c b) m)), data_exact b p.1 k.1 (λ c m. i c (or_right (reads_through number c a) _ m)))
    data_exact (umax a b) h k i =
        let p = asked_umax sc rs a b h in (data_exact a p.0 k.0 (λ c m. i c (or_left _ (reads_through number c b) m)), data_exact b p.1 k.1 (λ c m. i c (or_right (reads_through number c a) _ m)))
    data_exact (least a b) h k i = absurd k
    data_exact (greatest a b) h k i = absurd k
    data_exact (widen a) h k i = absurd k
    data_exact (big high low) h k i = absurd k

    tests_signed : (ts : List PlainTest) → tests_fit (is_affine sc) ts ≡ true → AllByRecursion (λ (t : PlainTest). IsExact t.1 vs × IsExact t.2 vs) ts → AllByRecursion (λ t. exactly.IsSignedTest t vs) ts
    tests_signed [] h k = tt
    tests_signed (t ∷ ts) h k =
        let a = and_parts (is_affine sc t.1) (is_affine sc t.2 && tests_fit (is_affine sc) ts) h in
        let b = and_parts (is_affine sc t.2) (tests_fit (is_affine sc) ts) a.1 in (
          record {
            no_word = no_word_join (kind vs t.1) (kind vs t.2) (affine_no_word u ls vs s t.1 a.0) (affine_no_word u ls vs s t.2 b.0);
            left = k.0.0;
            right = k.0.1;
          },
          tests_signed ts b.1 k.1,
        )

    abbrev item : PlainStmt → Item
    item p = record { stmt = p; loops = ls; tables = [] }

    plain_exact : (at : PlainExprs) → are_regular at ≡ true → AreSubscriptsExact at vs → AllByRecursion (λ e. IsExact e vs) (list_of at)
    plain_exact no_exprs n k = tt
    plain_exact (more_exprs e es) n k = (let g = and_parts (not (is_cell e)) (are_regular es) n in (one e g.0 k.0, plain_exact es g.1 k.1))
      where
        one : (e : PlainExpr) → not (is_cell e) ≡ true → IsSubscriptExact e vs → IsExact e vs
        one (cell x at) n h = absurd (true≢false (sym n))
        one _ n h = h

    value_exact : (t : PlainExpr) (op : Option BinOp) (e : PlainExpr) → Clear u (item (assign t op e)) → IsInner false 0 (assign t op e) → ArePartsExact e vs → ((a : ℕ) → indexes number a (assign t op e) ≡ true → is_index a ≡ true) → IsExactData arrays is_index e vs
    value_exact t op e c h k i = data_exact e (value_asked u ls t op e c h) k (λ a m. i a (right t op a m))
      where
        right : (t : PlainExpr) (op : Option BinOp) (a : ℕ) → reads_through number a e ≡ true → reads_through number a (full t op e) ≡ true
        right t None a m = m
        right t (Some o) a m = or_right (reads_through number a t) _ m

    assign_exact : (t : PlainExpr) (op : Option BinOp) (e : PlainExpr) → Clear u (item (assign t op e)) → IsInner false 0 (assign t op e) → IsExactStmt (assign t op e) vs → ((a : ℕ) → indexes number a (assign t op e) ≡ true → is_index a ≡ true) →
        IsExactSource arrays [] is_index (assign t op e) vs
    assign_exact (var x) op e c h k i = (refl, value_exact (var x) op e c h k.1 i)
    assign_exact (cell x at) op e c h k i =
        let q = cell_asked u ls x at op e c h in
        let d = cell_of x at h.2 q.fits in
        let n : is_index (number x) ≡ false = unindexed x (cell_array u ls x at h.2 q.fits) (or_parts (is_const_array u.params x) (is_int u.params x || is_loop ls x) c.target).0 in (
          (plain_array x d.array, ap is_index (sym d.array.numbered) ∙ n, all_signed at (regular_holds (is_affine sc) at q.affine c.regular) (plain_exact at c.regular k.0)),
          value_exact (cell x at) op e c h k.1 i,
        )
    assign_exact _ op e c h k i = absurd (true≢false (sym h.0))

  mutual
    stmt_source : (p : PlainStmt) (ls : List Loop) (vs : Vars) → Stands u ls vs → AllByRecursion (Clear u) (items p ls []) → IsInner false 0 p → IsExactStmt p vs → ((a : ℕ) → indexes number a p ≡ true → is_index a ≡ true) → IsExactSource arrays [] is_index p vs
    stmt_source (loop x lo rel hi body) ls vs s c h k i =
        let l : Loop = record { name = x; lo = lo; rel = rel; hi = hi } in (
          k.0,
          k.1,
          all_inside (λ v. AreExactStmts body ((x, v) ∷ vs)) (λ v. AreExactSource arrays [] is_index body ((x, v) ∷ vs))
              (λ v inner. stmts_source body (l ∷ ls) ((x, v) ∷ vs) (stands_inside u ls vs l v (reserved_own x c.0.free) s) c.1 h.4 inner i) (loop_values (exact lo vs) rel (exact hi vs)) k.2,
        )
    stmt_source (choice ts first other) ls vs s c h k i = (
      tests_signed ls vs s ts c.0.affine k.0,
      stmts_source first ls vs s (all_front (Clear u) (items_all first ls []) (items_all other ls []) c.1) h.1 k.1 (λ a m. i a (or_left _ (indexes_all number a other) m)),
      stmts_source other ls vs s (all_back (Clear u) (items_all first ls []) (items_all other ls []) c.1) h.2 k.2 (λ a m. i a (or_right (indexes_all number a first) _ m)),
    )
    stmt_source (assign t op e) ls vs s c h k i = assign_exact ls vs s t op e c.0 h k i
    stmt_source (table x len) ls vs s c h k i = absurd h
    stmt_source begin ls vs s c h k i = absurd h
    stmt_source (check x e a) ls vs s c h k i = absurd (true≢false (sym h.0))
    stmt_source verdict ls vs s c h k i = absurd h

    pub stmts_source : (ps : PlainStmts) (ls : List Loop) (vs : Vars) → Stands u ls vs → AllByRecursion (Clear u) (items_all ps ls []) → AreInner false 0 ps → AreExactStmts ps vs → ((a : ℕ) → indexes_all number a ps ≡ true → is_index a ≡ true)
        → AreExactSource arrays [] is_index ps vs
    stmts_source no_stmts ls vs s c h k i = tt
    stmts_source (more_stmts p ps) ls vs s c h k i =
        let rest : AllByRecursion (Clear u) (items_all ps ls []) =
        subst (λ ts. AllByRecursion (Clear u) (items_all ps ls ts)) (tables_same p h.0 []) (all_back (Clear u) (items p ls []) (items_all ps ls (tables_after p [])) c) in (
          stmt_source p ls vs s (all_front (Clear u) (items p ls []) (items_all ps ls (tables_after p [])) c) h.0 k.0 (λ a m. i a (or_left _ (indexes_all number a ps) m)),
          stmts_source ps ls vs s rest h.1 k.1 (λ a m. i a (or_right (indexes number a p) _ m)),
        )
