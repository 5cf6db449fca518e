-- Index arrays of an accepted source: they are constant, no array is read through itself, and none is written.
use Rattle.std.proofs.Common.{◌≡◌, ◌≢◌, ℕ, zero, suc, ◌+◌, ◌≤◌, Bool, true, false, not, ◌&&◌, ◌||◌, ◌==◌, List, [], ◌∷◌, ◌++◌, length, refl, sym, ap, ◌∙◌, subst, arith, inl, inr, true≢false, eqb-true, eq-eqb, Option, Some, None}
use Rattle.std.specs.Prelude.{bytes_eq, nat_eq, slice_get}
use Rattle.std.specs.List.{AllByRecursion}
use Rattle.std.proofs.lemmas.Bool.{and_parts, and_from, or_parts, or_left, or_right, cases_Bool, not-true}
use Rattle.std.proofs.lemmas.Slice.Eq.{bytes_eq-Decides}
use Rattle.c_tree.specs.Plain.{Word, PlainExpr, lit, var, cell, un, bin, cast, test, umin, umax, least, greatest, widen, big, PlainExprs, no_exprs, more_exprs, PlainStmt, loop, choice, assign, table, begin, check, verdict, PlainStmts, no_stmts, more_stmts, PlainParam, int_param, array_param, PlainUnit}
use Rattle.c_tree.specs.Accesses.{Access, at, nowhere}
use Rattle.c_tree.specs.Instances.{Tagged, untagged}
use Rattle.c_tree.specs.declared.expr.BinOp.{BinOp}
use Rattle.instrumentation.specs.Body.{full}
use Rattle.instrumentation.specs.Names.{number_in}
use Rattle.instrumentation.specs.Guarded.{array_names}
use Rattle.instrumentation_laws.specs.Kept.{Trust}
use Rattle.instrumentation_laws.specs.Trusts.{AllSteady, TrustsExpr, TrustsTarget, Trusts, TrustsAll}
use Rattle.pass_laws.specs.Targets.{targets, targets_all, target_in, target_at}
use Rattle.guard_laws.specs.IndexArrays.{indexed_by, reads_through, indexes, indexes_all, is_index_array}
use Rattle.acceptance.specs.Items.{Loop, items, items_all, tables_after, scope_of, is_array, is_int, is_loop}
use Rattle.acceptance.specs.Head.{list_of}
use Rattle.acceptance.specs.Printed.{dimensions, fits_dimensions, all_fit_dimensions}
use Rattle.acceptance.specs.Parts.{cells_hold}
use Rattle.acceptance.specs.Trees.{IsTree, AreTrees, AreSubscripts, IsInner, AreInner}
use Rattle.acceptance.specs.Sources.{is_const_array, are_indexed}
use Rattle.acceptance_laws.proofs.Totals.{array_named}
use Rattle.accepted_laws.proofs.Clear.{Clear, all_front, all_back, tables_same}
use Rattle.accepted_laws.proofs.Dimensions.{has_array}
use Rattle.accepted_laws.proofs.Suited.{same_number}

const_is_array : (ps : List PlainParam) (x : Word) → is_const_array ps x ≡ true → is_array ps x ≡ true
const_is_array [] x h = absurd (true≢false (sym h))
const_is_array (int_param y ∷ ps) x h = const_is_array ps x h
const_is_array (array_param y c es ∷ ps) x h = elim (cases_Bool (bytes_eq y x)) [
  | inl e ↦ or_left _ (is_array ps x) e
  | inr e ↦ or_right (bytes_eq y x) _ (const_is_array ps x (rw e at h))
]

some_subscript : (at : PlainExprs) → AreSubscripts false at → 1 ≤ length (list_of at)
some_subscript no_exprs h = absurd h
some_subscript (more_exprs e es) h = omega arith

all_trees : (at : PlainExprs) → AreSubscripts false at → AreTrees false at
all_trees no_exprs h = tt
all_trees (more_exprs e es) h = h

-- a cell is of an array
pub cell_array : (u : PlainUnit) (ls : List Loop) (x : Word) (at : PlainExprs) → IsTree false (cell x at) → fits_dimensions (dimensions (scope_of u ls [])) (cell x at) ≡ true → is_array u.params x ≡ true
cell_array u ls x at t f =
    let d = (and_parts (nat_eq (dimensions (scope_of u ls []) x) (length (list_of at))) (all_fit_dimensions (dimensions (scope_of u ls [])) at) f).0 in
    let e : dimensions (scope_of u ls []) x ≡ length (list_of at) = eqb-true (dimensions (scope_of u ls []) x) (length (list_of at)) d in
    let s = some_subscript at t.1 in
    has_array u.params x (omega arith)

module _ (u : PlainUnit) where
  abbrev number : Word → ℕ
  number = number_in (array_names u.params)

  apart : (x p : Word) → is_array u.params x ≡ true → is_array u.params p ≡ true → bytes_eq x p ≡ false → number x ≢ number p
  apart x p h g d e = true≢false (sym ((bytes_eq-Decides x p).1 (same_number 0 (array_names u.params) x p (array_named u.params x h) (array_named u.params p g) e)) ∙ d)

  -- ---- an index array is constant

  record ConstNamed (a : ℕ) : Type 0 where
    pub name : Word
    pub numbered : number name ≡ a
    pub constant : is_const_array u.params name ≡ true

  const_indexed : (a : ℕ) (x : Word) (at : PlainExprs) → are_indexed u.params x at ≡ true → indexed_by number a at ≡ true → ConstNamed a
  const_indexed a x no_exprs h g = absurd (true≢false (sym g))
  const_indexed a x (more_exprs (cell p es) rest) h g =
      let q = and_parts (is_const_array u.params p) (not (bytes_eq x p) && are_indexed u.params x rest) h in
      let r = and_parts (not (bytes_eq x p)) (are_indexed u.params x rest) q.1 in
      elim (cases_Bool (nat_eq (number p) a)) [
        | inl e ↦ record { name = p; numbered = eqb-true (number p) a e; constant = q.0 }
        | inr e ↦ const_indexed a x rest r.1 (rw e at g)
      ]
  const_indexed a x (more_exprs (lit n) rest) h g = const_indexed a x rest h g
  const_indexed a x (more_exprs (var y) rest) h g = const_indexed a x rest h g
  const_indexed a x (more_exprs (un op e) rest) h g = const_indexed a x rest h g
  const_indexed a x (more_exprs (bin op d e) rest) h g = const_indexed a x rest h g
  const_indexed a x (more_exprs (cast e) rest) h g = const_indexed a x rest h g
  const_indexed a x (more_exprs (test rel d e) rest) h g = const_indexed a x rest h g
  const_indexed a x (more_exprs (umin d e) rest) h g = const_indexed a x rest h g
  const_indexed a x (more_exprs (umax d e) rest) h g = const_indexed a x rest h g
  const_indexed a x (more_exprs (least d e) rest) h g = const_indexed a x rest h g
  const_indexed a x (more_exprs (greatest d e) rest) h g = const_indexed a x rest h g
  const_indexed a x (more_exprs (widen e) rest) h g = const_indexed a x rest h g
  const_indexed a x (more_exprs (big high low) rest) h g = const_indexed a x rest h g

  one_of_two : {A : Type 0} (b c : Bool) → (b || c) ≡ true → (b ≡ true → A) → (c ≡ true → A) → A
  one_of_two true c h f g = f refl
  one_of_two false c h f g = g h

  abbrev indexed : PlainExpr → Bool
  indexed = cells_hold (are_indexed u.params)

  const_read : (a : ℕ) (e : PlainExpr) → indexed e ≡ true → reads_through number a e ≡ true → ConstNamed a
  const_read a (lit n) h g = absurd (true≢false (sym g))
  const_read a (var x) h g = absurd (true≢false (sym g))
  const_read a (cell x at) h g = const_indexed a x at h g
  const_read a (un op e) h g = const_read a e h g
  const_read a (bin op d e) h g = (let q = and_parts (indexed d) (indexed e) h in one_of_two (reads_through number a d) (reads_through number a e) g (const_read a d q.0) (const_read a e q.1))
  const_read a (cast e) h g = const_read a e h g
  const_read a (test rel d e) h g = (let q = and_parts (indexed d) (indexed e) h in one_of_two (reads_through number a d) (reads_through number a e) g (const_read a d q.0) (const_read a e q.1))
  const_read a (umin d e) h g = (let q = and_parts (indexed d) (indexed e) h in one_of_two (reads_through number a d) (reads_through number a e) g (const_read a d q.0) (const_read a e q.1))
  const_read a (umax d e) h g = (let q = and_parts (indexed d) (indexed e) h in one_of_two (reads_through number a d) (reads_through number a e) g (const_read a d q.0) (const_read a e q.1))
  const_read a (least d e) h g = absurd (true≢false (sym g))
  const_read a (greatest d e) h g = absurd (true≢false (sym g))
  const_read a (widen e) h g = absurd (true≢false (sym g))
  const_read a (big high low) h g = absurd (true≢false (sym g))

  full_indexed : (t : PlainExpr) (op : Option BinOp) (e : PlainExpr) → (indexed t && indexed e) ≡ true → indexed (full t op e) ≡ true
  full_indexed t None e h = (and_parts (indexed t) (indexed e) h).1
  full_indexed t (Some op) e h = h

  mutual
    const_stmt : (a : ℕ) (s : PlainStmt) (ls : List Loop) → AllByRecursion (Clear u) (items s ls []) → IsInner false 0 s → indexes number a s ≡ true → ConstNamed a
    const_stmt a (loop x lo rel hi body) ls c t g = const_stmts a body (record { name = x; lo = lo; rel = rel; hi = hi } ∷ ls) c.1 t.4 g
    const_stmt a (choice ts first other) ls c t g =
        one_of_two (indexes_all number a first) (indexes_all number a other) g
        (const_stmts a first ls (all_front (Clear u) (items_all first ls []) (items_all other ls []) c.1) t.1)
        (const_stmts a other ls (all_back (Clear u) (items_all first ls []) (items_all other ls []) c.1) t.2)
    const_stmt a (assign t op e) ls c h g = const_read a (full t op e) (full_indexed t op e c.0.indexed) g
    const_stmt a (table x len) ls c t g = absurd t
    const_stmt a begin ls c t g = absurd t
    const_stmt a (check x e b) ls c t g = absurd (true≢false (sym g))
    const_stmt a verdict ls c t g = absurd t

    const_stmts : (a : ℕ) (ss : PlainStmts) (ls : List Loop) → AllByRecursion (Clear u) (items_all ss ls []) → AreInner false 0 ss → indexes_all number a ss ≡ true → ConstNamed a
    const_stmts a no_stmts ls c t g = absurd (true≢false (sym g))
    const_stmts a (more_stmts s ss) ls c t g =
        one_of_two (indexes number a s) (indexes_all number a ss) g
        (const_stmt a s ls (all_front (Clear u) (items s ls []) (items_all ss ls (tables_after s [])) c) t.0)
        (const_stmts a ss ls (subst (λ ts. AllByRecursion (Clear u) (items_all ss ls ts)) (tables_same s t.0 []) (all_back (Clear u) (items s ls []) (items_all ss ls (tables_after s [])) c)) t.1)

  -- ---- so no array that is written is one

  module _ (c : AllByRecursion (Clear u) (items_all u.body [] [])) (tree : AreInner false 0 u.body) where
    pub unindexed : (x : Word) → is_array u.params x ≡ true → is_const_array u.params x ≡ false → is_index_array u (number x) ≡ false
    unindexed x h n = elim (cases_Bool (is_index_array u (number x))) [
      | inl e ↦
          let k : ConstNamed (number x) = const_stmts (number x) u.body [] c tree e in
          let same : k.name ≡ x = same_number 0 (array_names u.params) k.name x (array_named u.params k.name (const_is_array u.params k.name k.constant)) (array_named u.params x h) k.numbered in
          absurd (true≢false (sym (subst (λ w. is_const_array u.params w ≡ true) same k.constant) ∙ n))
      | inr e ↦ e
    ]

    -- ---- what is asked of a trust holds of the whole source

    module _ (trust : Trust) (written : (x : Word) → is_array u.params x ≡ true → is_const_array u.params x ≡ false → trust.steady (number x) ≡ false)
        (through : (x p : Word) → is_array u.params x ≡ true → is_array u.params p ≡ true → bytes_eq x p ≡ false → is_index_array u (number p) ≡ true → trust.trusted (number x) ≡ true → trust.steady (number p) ≡ true) where
      all_steady : (ls : List Loop) (x : Word) (at : PlainExprs) → is_array u.params x ≡ true → AreTrees false at → all_fit_dimensions (dimensions (scope_of u ls [])) at ≡ true → are_indexed u.params x at ≡ true →
          ((a : ℕ) → indexed_by number a at ≡ true → is_index_array u a ≡ true) → trust.trusted (number x) ≡ true → AllSteady number trust at
      all_steady ls x no_exprs h t f g k y = tt
      all_steady ls x (more_exprs (cell p es) rest) h t f g k y =
          let q = and_parts (is_const_array u.params p) (not (bytes_eq x p) && are_indexed u.params x rest) g in
          let r = and_parts (not (bytes_eq x p)) (are_indexed u.params x rest) q.1 in
          let d = and_parts (fits_dimensions (dimensions (scope_of u ls [])) (cell p es)) (all_fit_dimensions (dimensions (scope_of u ls [])) rest) f in (
            through x p h (cell_array u ls p es t.0 d.0) (not-true (bytes_eq x p) r.0) (k (number p) (or_left _ (indexed_by number (number p) rest) (eq-eqb (number p) (number p) refl))) y,
            all_steady ls x rest h t.1 d.1 r.1 (λ a m. k a (or_right (nat_eq (number p) a) _ m)) y,
          )
      all_steady ls x (more_exprs (lit n) rest) h t f g k y = (tt, all_steady ls x rest h t.1 f g k y)
      all_steady ls x (more_exprs (var z) rest) h t f g k y = (tt, all_steady ls x rest h t.1 (and_parts (fits_dimensions (dimensions (scope_of u ls [])) (var z)) (all_fit_dimensions (dimensions (scope_of u ls [])) rest) f).1 g k y)
      all_steady ls x (more_exprs (un op e) rest) h t f g k y = (tt, all_steady ls x rest h t.1 (and_parts (fits_dimensions (dimensions (scope_of u ls [])) (un op e)) (all_fit_dimensions (dimensions (scope_of u ls [])) rest) f).1 g k y)
      all_steady ls x (more_exprs (bin op d e) rest) h t f g k y = (tt, all_steady ls x rest h t.1 (and_parts (fits_dimensions (dimensions (scope_of u ls [])) (bin op d e)) (all_fit_dimensions (dimensions (scope_of u ls [])) rest) f).1 g k y)
      all_steady ls x (more_exprs (cast e) rest) h t f g k y = (tt, all_steady ls x rest h t.1 (and_parts (fits_dimensions (dimensions (scope_of u ls [])) (cast e)) (all_fit_dimensions (dimensions (scope_of u ls [])) rest) f).1 g k y)
      all_steady ls x (more_exprs (test rel d e) rest) h t f g k y = (tt, all_steady ls x rest h t.1 (and_parts (fits_dimensions (dimensions (scope_of u ls [])) (test rel d e)) (all_fit_dimensions (dimensions (scope_of u ls [])) rest) f).1 g k y)
      all_steady ls x (more_exprs (umin d e) rest) h t f g k y = (tt, all_steady ls x rest h t.1 (and_parts (fits_dimensions (dimensions (scope_of u ls [])) (umin d e)) (all_fit_dimensions (dimensions (scope_of u ls [])) rest) f).1 g k y)
      all_steady ls x (more_exprs (umax d e) rest) h t f g k y = (tt, all_steady ls x rest h t.1 (and_parts (fits_dimensions (dimensions (scope_of u ls [])) (umax d e)) (all_fit_dimensions (dimensions (scope_of u ls [])) rest) f).1 g k y)
      all_steady ls x (more_exprs (least d e) rest) h t f g k y = absurd (true≢false (sym t.0.0))
      all_steady ls x (more_exprs (greatest d e) rest) h t f g k y = absurd (true≢false (sym t.0.0))
      all_steady ls x (more_exprs (widen e) rest) h t f g k y = absurd (true≢false (sym t.0.0))
      all_steady ls x (more_exprs (big high low) rest) h t f g k y = absurd (true≢false (sym t.0.0))

      abbrev dims : List Loop → PlainExpr → Bool
      dims ls = fits_dimensions (dimensions (scope_of u ls []))

      abbrev Lifted : ℕ → Type 0
      Lifted a = is_index_array u a ≡ true

      trusts_expr : (ls : List Loop) (e : PlainExpr) → IsTree false e → dims ls e ≡ true → indexed e ≡ true → ((a : ℕ) → reads_through number a e ≡ true → Lifted a) → TrustsExpr number trust e
      trusts_expr ls (lit n) t f g k = tt
      trusts_expr ls (var x) t f g k = tt
      trusts_expr ls (cell x at) t f g k =
          all_steady ls x at (cell_array u ls x at t f) (all_trees at t.1) (and_parts (nat_eq (dimensions (scope_of u ls []) x) (length (list_of at))) (all_fit_dimensions (dimensions (scope_of u ls [])) at) f).1 g k
      trusts_expr ls (un op e) t f g k = trusts_expr ls e t f g k
      trusts_expr ls (bin op d e) t f g k =
          let p = and_parts (dims ls d) (dims ls e) f in
          let q = and_parts (indexed d) (indexed e) g in
          (trusts_expr ls d t.0 p.0 q.0 (λ a m. k a (or_left _ (reads_through number a e) m)), trusts_expr ls e t.1 p.1 q.1 (λ a m. k a (or_right (reads_through number a d) _ m)))
      trusts_expr ls (cast e) t f g k = trusts_expr ls e t f g k
      trusts_expr ls (test rel d e) t f g k =
          let p = and_parts (dims ls d) (dims ls e) f in
          let q = and_parts (indexed d) (indexed e) g in
          (trusts_expr ls d t.0 p.0 q.0 (λ a m. k a (or_left _ (reads_through number a e) m)), trusts_expr ls e t.1 p.1 q.1 (λ a m. k a (or_right (reads_through number a d) _ m)))
      trusts_expr ls (umin d e) t f g k =
          let p = and_parts (dims ls d) (dims ls e) f in
          let q = and_parts (indexed d) (indexed e) g in
          (trusts_expr ls d t.0 p.0 q.0 (λ a m. k a (or_left _ (reads_through number a e) m)), trusts_expr ls e t.1 p.1 q.1 (λ a m. k a (or_right (reads_through number a d) _ m)))
      trusts_expr ls (umax d e) t f g k =
          let p = and_parts (dims ls d) (dims ls e) f in
          let q = and_parts (indexed d) (indexed e) g in
          (trusts_expr ls d t.0 p.0 q.0 (λ a m. k a (or_left _ (reads_through number a e) m)), trusts_expr ls e t.1 p.1 q.1 (λ a m. k a (or_right (reads_through number a d) _ m)))
      trusts_expr ls (least d e) t f g k = tt
      trusts_expr ls (greatest d e) t f g k = tt
      trusts_expr ls (widen e) t f g k = tt
      trusts_expr ls (big high low) t f g k = tt

      trusts_full : (ls : List Loop) (t : PlainExpr) (op : Option BinOp) (e : PlainExpr) → IsTree false t → IsTree false e → (dims ls t && dims ls e) ≡ true → (indexed t && indexed e) ≡ true →
          ((a : ℕ) → reads_through number a (full t op e) ≡ true → Lifted a) → TrustsExpr number trust (full t op e)
      trusts_full ls t None e h g f i k = trusts_expr ls e g (and_parts (dims ls t) (dims ls e) f).1 (and_parts (indexed t) (indexed e) i).1 k
      trusts_full ls t (Some op) e h g f i k = trusts_expr ls (bin op t e) (h, g) f i k

      trusts_target : (t : PlainExpr) (op : Option BinOp) (e : PlainExpr) (ls : List Loop) → IsTree false t → dims ls t ≡ true → Clear u (record { stmt = assign t op e; loops = ls; tables = [] }) → TrustsTarget number trust t
      trusts_target (cell x at) op e ls t f d = written x (cell_array u ls x at t f) (or_parts (is_const_array u.params x) (is_int u.params x || is_loop ls x) d.target).0
      trusts_target (lit n) op e ls t f d = tt
      trusts_target (var x) op e ls t f d = tt
      trusts_target (un o a) op e ls t f d = tt
      trusts_target (bin o a b) op e ls t f d = tt
      trusts_target (cast a) op e ls t f d = tt
      trusts_target (test rel a b) op e ls t f d = tt
      trusts_target (umin a b) op e ls t f d = tt
      trusts_target (umax a b) op e ls t f d = tt
      trusts_target (least a b) op e ls t f d = tt
      trusts_target (greatest a b) op e ls t f d = tt
      trusts_target (widen a) op e ls t f d = tt
      trusts_target (big high low) op e ls t f d = tt

      mutual
        trusts_stmt : (s : PlainStmt) (ls : List Loop) → AllByRecursion (Clear u) (items s ls []) → IsInner false 0 s → ((a : ℕ) → indexes number a s ≡ true → Lifted a) → Trusts number trust s
        trusts_stmt (loop x lo rel hi body) ls d t k = trusts_stmts body (record { name = x; lo = lo; rel = rel; hi = hi } ∷ ls) d.1 t.4 k
        trusts_stmt (choice ts first other) ls d t k = (
          trusts_stmts first ls (all_front (Clear u) (items_all first ls []) (items_all other ls []) d.1) t.1 (λ a m. k a (or_left _ (indexes_all number a other) m)),
          trusts_stmts other ls (all_back (Clear u) (items_all first ls []) (items_all other ls []) d.1) t.2 (λ a m. k a (or_right (indexes_all number a first) _ m)),
        )
        trusts_stmt (assign t op e) ls d h k =
            (trusts_target t op e ls h.2 (and_parts (dims ls t) (dims ls e) d.0.fits).0 d.0, trusts_full ls t op e h.2 h.3 d.0.fits d.0.indexed k)
        trusts_stmt (table x len) ls d t k = tt
        trusts_stmt begin ls d t k = tt
        trusts_stmt (check x e a) ls d t k = tt
        trusts_stmt verdict ls d t k = tt

        trusts_stmts : (ss : PlainStmts) (ls : List Loop) → AllByRecursion (Clear u) (items_all ss ls []) → AreInner false 0 ss → ((a : ℕ) → indexes_all number a ss ≡ true → Lifted a) → TrustsAll number trust ss
        trusts_stmts no_stmts ls d t k = tt
        trusts_stmts (more_stmts s ss) ls d t k = (
          trusts_stmt s ls (all_front (Clear u) (items s ls []) (items_all ss ls (tables_after s [])) d) t.0 (λ a m. k a (or_left _ (indexes_all number a ss) m)),
          trusts_stmts ss ls (subst (λ ts. AllByRecursion (Clear u) (items_all ss ls ts)) (tables_same s t.0 []) (all_back (Clear u) (items s ls []) (items_all ss ls (tables_after s [])) d)) t.1
              (λ a m. k a (or_right (indexes number a s) _ m)),
        )

      trusts_body : TrustsAll number trust u.body
      trusts_body = trusts_stmts u.body [] c tree (λ a m. m)

    -- ---- the two trusts

    pub trusts_all : TrustsAll number (record { trusted = λ a. true; steady = is_index_array u }) u.body
    trusts_all = trusts_body (record { trusted = λ a. true; steady = is_index_array u }) unindexed (λ x p h g d i y. i)

    and_false : (a b : Bool) → a ≡ false → (a && b) ≡ false
    and_false true b e = absurd (true≢false e)
    and_false false b e = refl

    pub trusts_apart : (a : ℕ) → TrustsAll number (record { trusted = λ b. b == a; steady = λ b. is_index_array u b && not (b == a) }) u.body
    trusts_apart a =
        trusts_body (record { trusted = λ b. b == a; steady = λ b. is_index_array u b && not (b == a) }) (λ x h n. and_false (is_index_array u (number x)) (not (number x == a)) (unindexed x h n))
        (λ x p h g d i y. and_from _ _ i (other (number p) (λ e. apart x p h g d (eqb-true (number x) a y ∙ sym e))))
      where
        other : (n : ℕ) → n ≢ a → not (n == a) ≡ true
        other n d = elim (cases_Bool (n == a)) [
          | inl e ↦ absurd (d (eqb-true n a e))
          | inr e ↦ ap not e
        ]

    -- ---- no write is of an index array

    abbrev Unwritten : PlainExpr → Type 0
    Unwritten t = TrustsTarget number (record { trusted = λ a. true; steady = is_index_array u }) t

    both_targets : (xs ys : List PlainExpr) → AllByRecursion Unwritten xs → AllByRecursion Unwritten ys → AllByRecursion Unwritten (xs ++ ys)
    both_targets [] ys h g = g
    both_targets (x ∷ xs) ys h g = (h.0, both_targets xs ys h.1 g)

    mutual
      targets_trusted : (s : PlainStmt) → Trusts number (record { trusted = λ a. true; steady = is_index_array u }) s → AllByRecursion Unwritten (targets s)
      targets_trusted (loop x lo rel hi body) h = all_targets_trusted body h
      targets_trusted (choice ts first other) h = both_targets (targets_all first) (targets_all other) (all_targets_trusted first h.0) (all_targets_trusted other h.1)
      targets_trusted (assign t op e) h = (h.0, tt)
      targets_trusted (table x len) h = tt
      targets_trusted begin h = tt
      targets_trusted (check x e a) h = tt
      targets_trusted verdict h = tt

      all_targets_trusted : (ss : PlainStmts) → TrustsAll number (record { trusted = λ a. true; steady = is_index_array u }) ss → AllByRecursion Unwritten (targets_all ss)
      all_targets_trusted no_stmts h = tt
      all_targets_trusted (more_stmts s ss) h = both_targets (targets s) (targets_all ss) (targets_trusted s h.0) (all_targets_trusted ss h.1)

    target_unwritten : (ts : List PlainExpr) (k : ℕ) → AllByRecursion Unwritten ts → Unwritten (target_in ts k)
    target_unwritten [] k h = tt
    target_unwritten (t ∷ ts) zero h = h.0
    target_unwritten (t ∷ ts) (suc k) h = target_unwritten ts k h.1

    pub targets_unindexed : (k : ℕ) (x : Word) (at : PlainExprs) → target_at u.body k ≡ cell x at → is_index_array u (number x) ≡ false
    targets_unindexed k x at e = subst Unwritten e (target_unwritten (targets_all u.body) k (all_targets_trusted u.body trusts_all))

-- an access of a list of tagged ones
pub untagged_at : (ts : List Tagged) (P : Access → Type 0) → P nowhere → ((n : ℕ) (t : Tagged) → slice_get ts n ≡ Some t → P t.access) → (q : ℕ) → P (at (untagged ts) q)
untagged_at [] P none each q = none
untagged_at (t ∷ ts) P none each zero = each 0 t refl
untagged_at (t ∷ ts) P none each (suc q) = untagged_at ts P none (λ n s e. each (suc n) s e) q
