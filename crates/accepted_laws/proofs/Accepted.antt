-- An accepted source is suited.
use Rattle.std.proofs.Common.{◌≡◌, ℕ, ◌+◌, ◌≤◌, suc, Bool, true, false, not, ◌&&◌, ◌||◌, List, [], ◌∷◌, length, refl, sym, ap, subst, arith, inl, inr, true≢false, Option, None, Some}
use Rattle.std.specs.List.{list_all, list_any, AllByRecursion}
use Rattle.std.proofs.lemmas.Bool.{and_from, and_parts, not-false, or_from, or_parts, cases_Bool}
use Rattle.c_tree.specs.Plain.{Word, PlainExpr, lit, var, cell, un, bin, cast, test, umin, umax, least, greatest, widen, big, PlainExprs, no_exprs, more_exprs, PlainTest, PlainStmt, loop, choice, assign, table, begin, check, verdict, PlainStmts, no_stmts, more_stmts, PlainParam, int_param, array_param, PlainUnit}
use Rattle.c_tree.specs.Reserved.{is_reserved}
use Rattle.c_tree.specs.declared.expr.BinOp.{BinOp}
use Rattle.instrumentation.specs.Subscripts.{indices_in}
use Rattle.instrumentation.proofs.Subscripts.{cell_or_not, not_by_cell}
use Rattle.instrumentation.specs.Body.{reads_in, full}
use Rattle.instrumentation.specs.Guarded.{array_names}
use Rattle.acceptance.specs.Items.{Loop, Item, items, items_all, tables_after, Scope, scope_of, is_loop, is_int, param_name}
use Rattle.acceptance.specs.Affine.{is_affine}
use Rattle.acceptance.specs.Head.{list_of, extents_known}
use Rattle.acceptance.specs.Printed.{tests_fit}
use Rattle.acceptance.specs.Parts as parts
use Rattle.acceptance.specs.Parts.{has_signed, subscript_holds, subscripts_hold, parts_hold, item_parts_hold, is_cell, are_regular}
use Rattle.acceptance.specs.Limits.{array_count, depth, cells_in, cells_in_all, reads_to, reads_of}
use Rattle.acceptance.specs.Trees.{IsTree, AreTrees, AreSubscripts, is_place, IsInner, AreInner}
use Rattle.acceptance.specs.Sources.{target_holds, is_const_array, writes_regular, IsAcceptedSource}
use Rattle.accepted_laws.specs.Suited.{all_affine, are_subscripts, is_subscript, all_readable, are_readable, is_data, tests_affine, is_target, item_is_affine, IsFew, IsSuitedItem, StmtSuited, AllSuited, AreFreeParams, AreFreeWords, IsSuited}
use Rattle.accepted_laws.proofs.TextTrees.{ranked}
use Rattle.accepted_laws.proofs.Clear.{Clear, Unrefused, unrefused, all_front, all_back, tables_same}

-- ---- counts

pub same_count : (ps : List PlainParam) → array_count ps ≡ length (array_names ps)
same_count [] = refl
same_count (int_param x ∷ ps) = same_count ps
same_count (array_param x c es ∷ ps) = ap suc (same_count ps)

few_indices : (at : PlainExprs) → indices_in at ≤ cells_in_all at
few_indices no_exprs = omega arith
few_indices (more_exprs e es) =
    cell_or_not (λ e. indices_in (more_exprs e es) ≤ cells_in_all (more_exprs e es)) (λ x at. (let p = few_indices es in omega arith))
    (λ e other. (let p = few_indices es in let q : indices_in (more_exprs e es) ≡ indices_in es = not_by_cell e (λ x at. 1 + indices_in es) (indices_in es) other in omega arith)) e

few_cells : (e : PlainExpr) → reads_in e ≤ cells_in e
few_cells (lit n) = omega arith
few_cells (var x) = omega arith
few_cells (cell x at) = (let p = few_indices at in omega arith)
few_cells (un op a) = few_cells a
few_cells (bin op a b) = (let p = few_cells a in let q = few_cells b in omega arith)
few_cells (cast a) = few_cells a
few_cells (test rel a b) = (let p = few_cells a in let q = few_cells b in omega arith)
few_cells (umin a b) = (let p = few_cells a in let q = few_cells b in omega arith)
few_cells (umax a b) = (let p = few_cells a in let q = few_cells b in omega arith)
few_cells (least a b) = omega arith
few_cells (greatest a b) = omega arith
few_cells (widen a) = omega arith
few_cells (big high low) = omega arith

pub few_full : (t : PlainExpr) (op : Option BinOp) (e : PlainExpr) → reads_in (full t op e) ≤ reads_to t op + cells_in e
few_full t None e = (let p = few_cells e in omega arith)
few_full t (Some op) e = (let p = few_cells t in let q = few_cells e in omega arith)

few_item : (s : PlainStmt) (ls : List Loop) → depth (record { stmt = s; loops = ls; tables = [] }) ≤ 6 → reads_of s ≤ 16 → IsFew s ls
few_item (loop x lo rel hi body) ls h g = (let l : suc (length ls) ≤ 6 = h in omega arith)
few_item (assign t op e) ls h g = (let l : reads_to t op + cells_in e ≤ 16 = g in let m = few_full t op e in omega arith)
few_item (choice ts first other) ls h g = tt
few_item (table x len) ls h g = tt
few_item begin ls h g = tt
few_item (check x e a) ls h g = tt
few_item verdict ls h g = tt

-- ---- expressions

part_is : (p : PlainExpr → Bool) (e : PlainExpr) → not (is_cell e) ≡ true → subscript_holds p e ≡ true → p e ≡ true
part_is p (cell x at) n h = absurd (true≢false (sym n))
part_is p (lit k) n h = h
part_is p (var x) n h = h
part_is p (un op a) n h = h
part_is p (bin op a b) n h = h
part_is p (cast a) n h = h
part_is p (test rel a b) n h = h
part_is p (umin a b) n h = h
part_is p (umax a b) n h = h
part_is p (least a b) n h = h
part_is p (greatest a b) n h = h
part_is p (widen a) n h = h
part_is p (big high low) n h = h

module _ (sc : Scope) where
  all_are : (es : PlainExprs) → are_regular es ≡ true → subscripts_hold (is_affine sc) es ≡ true → all_affine sc es ≡ true
  all_are no_exprs n h = refl
  all_are (more_exprs e es) n h =
      let m : (not (is_cell e) ≡ true) × (are_regular es ≡ true) = and_parts _ _ n in
      let p : (subscript_holds (is_affine sc) e ≡ true) × (subscripts_hold (is_affine sc) es ≡ true) = and_parts _ _ h in
      and_from _ _ (part_is (is_affine sc) e m.0 p.0) (all_are es m.1 p.1)

  subscripts_are : (es : PlainExprs) → AreSubscripts false es → are_regular es ≡ true → subscripts_hold (is_affine sc) es ≡ true → are_subscripts sc es ≡ true
  subscripts_are no_exprs o n h = absurd o
  subscripts_are (more_exprs e es) o n h = all_are (more_exprs e es) n h

  -- ---- a read's subscripts

  listed_affine : (es : PlainExprs) → list_all (is_affine sc) (list_of es) ≡ true → all_affine sc es ≡ true
  listed_affine no_exprs h = refl
  listed_affine (more_exprs e es) h = (let p : (is_affine sc e ≡ true) × (list_all (is_affine sc) (list_of es) ≡ true) = and_parts _ _ h in and_from _ _ p.0 (listed_affine es p.1))

  index_cell_is : (at : PlainExprs) → AreSubscripts false at → list_all (is_affine sc) (list_of at) ≡ true → are_subscripts sc at ≡ true
  index_cell_is no_exprs t h = absurd t
  index_cell_is (more_exprs e es) t h = listed_affine (more_exprs e es) h

  subscript_is : (e : PlainExpr) → IsTree false e → subscript_holds (is_affine sc) e ≡ true → is_subscript sc e ≡ true
  subscript_is (cell x at) t h = index_cell_is at t.1 h
  subscript_is (lit k) t h = h
  subscript_is (var x) t h = h
  subscript_is (un op a) t h = h
  subscript_is (bin op a b) t h = h
  subscript_is (cast a) t h = h
  subscript_is (test rel a b) t h = h
  subscript_is (umin a b) t h = h
  subscript_is (umax a b) t h = h
  subscript_is (least a b) t h = h
  subscript_is (greatest a b) t h = h
  subscript_is (widen a) t h = h
  subscript_is (big high low) t h = h

  all_subscripts_are : (es : PlainExprs) → AreTrees false es → subscripts_hold (is_affine sc) es ≡ true → all_readable sc es ≡ true
  all_subscripts_are no_exprs t h = refl
  all_subscripts_are (more_exprs e es) t h =
      let p : (subscript_holds (is_affine sc) e ≡ true) × (subscripts_hold (is_affine sc) es ≡ true) = and_parts _ _ h in
      and_from _ _ (subscript_is e t.0 p.0) (all_subscripts_are es t.1 p.1)

  readable_is : (es : PlainExprs) → AreSubscripts false es → subscripts_hold (is_affine sc) es ≡ true → are_readable sc es ≡ true
  readable_is no_exprs t h = absurd t
  readable_is (more_exprs e es) t h = all_subscripts_are (more_exprs e es) t h

  pub unsigned_data : (e : PlainExpr) → has_signed sc e ≡ false → parts.is_data sc e ≡ true
  unsigned_data (lit n) h = refl
  unsigned_data (var x) h = ap not h
  unsigned_data (cell x at) h = refl
  unsigned_data (un op a) h = unsigned_data a h
  unsigned_data (bin op a b) h = (let p = or_parts (has_signed sc a) (has_signed sc b) h in and_from _ _ (unsigned_data a p.0) (unsigned_data b p.1))
  unsigned_data (cast a) h = refl
  unsigned_data (test rel a b) h = (let p = or_parts (has_signed sc a) (has_signed sc b) h in and_from _ _ (unsigned_data a p.0) (unsigned_data b p.1))
  unsigned_data (umin a b) h = (let p = or_parts (has_signed sc a) (has_signed sc b) h in and_from _ _ (unsigned_data a p.0) (unsigned_data b p.1))
  unsigned_data (umax a b) h = (let p = or_parts (has_signed sc a) (has_signed sc b) h in and_from _ _ (unsigned_data a p.0) (unsigned_data b p.1))
  unsigned_data (least a b) h = (let p = or_parts (has_signed sc a) (has_signed sc b) h in and_from _ _ (unsigned_data a p.0) (unsigned_data b p.1))
  unsigned_data (greatest a b) h = (let p = or_parts (has_signed sc a) (has_signed sc b) h in and_from _ _ (unsigned_data a p.0) (unsigned_data b p.1))
  unsigned_data (widen a) h = unsigned_data a h
  unsigned_data (big high low) h = refl

  two : (a b : PlainExpr) → (parts.is_data sc a && parts.is_data sc b) ≡ true → (parts_hold (is_affine sc) sc a && parts_hold (is_affine sc) sc b) ≡ true
      → ((parts.is_data sc a ≡ true) × (parts_hold (is_affine sc) sc a ≡ true)) × (parts.is_data sc b ≡ true) × (parts_hold (is_affine sc) sc b ≡ true)
  two a b d h =
      let q = and_parts (parts.is_data sc a) (parts.is_data sc b) d in
      let s = and_parts (parts_hold (is_affine sc) sc a) (parts_hold (is_affine sc) sc b) h in
      ((q.0, s.0), q.1, s.1)

  data_is : (e : PlainExpr) → IsTree false e → parts.is_data sc e ≡ true → parts_hold (is_affine sc) sc e ≡ true → is_data sc e ≡ true
  data_is (lit k) t d h = refl
  data_is (var x) t d h = d
  data_is (cell x at) t d h = readable_is at t.1 h
  data_is (un op a) t d h = data_is a t d h
  data_is (bin op a b) t d h = (let p = two a b d h in and_from _ _ (data_is a t.0 p.0.0 p.0.1) (data_is b t.1 p.1 p.2))
  data_is (cast a) t d h = elim (cases_Bool (has_signed sc a)) [
    | inl e ↦ rw e (rw e at h)
    | inr e ↦ rw e (data_is a t (unsigned_data a e) (rw e at h))
  ]
  data_is (test rel a b) t d h = (let p = two a b d h in and_from _ _ (data_is a t.0 p.0.0 p.0.1) (data_is b t.1 p.1 p.2))
  data_is (umin a b) t d h = (let p = two a b d h in and_from _ _ (data_is a t.0 p.0.0 p.0.1) (data_is b t.1 p.1 p.2))
  data_is (umax a b) t d h = (let p = two a b d h in and_from _ _ (data_is a t.0 p.0.0 p.0.1) (data_is b t.1 p.1 p.2))
  data_is (least a b) t d h = absurd (true≢false (sym t.0))
  data_is (greatest a b) t d h = absurd (true≢false (sym t.0))
  data_is (widen a) t d h = absurd (true≢false (sym t.0))
  data_is (big high low) t d h = absurd (true≢false (sym t.0))

  tests_are : (ts : List PlainTest) → tests_fit (is_affine sc) ts ≡ true → tests_affine sc ts ≡ true
  tests_are [] h = refl
  tests_are (t ∷ ts) h =
      let p : (is_affine sc t.1 ≡ true) × ((is_affine sc t.2 && tests_fit (is_affine sc) ts) ≡ true) = and_parts _ _ h in
      let q : (is_affine sc t.2 ≡ true) × (tests_fit (is_affine sc) ts ≡ true) = and_parts _ _ p.1 in
      and_from _ _ (and_from _ _ p.0 q.0) (tests_are ts q.1)

-- ---- items

module _ (u : PlainUnit) where
  abbrev here : List Loop → Scope
  here ls = scope_of u ls []

  abbrev stands : PlainStmt → List Loop → Item
  stands s ls = record { stmt = s; loops = ls; tables = [] }

  abbrev sets : PlainStmt → List Loop → Bool
  sets s ls = target_holds (λ x. is_const_array u.params x || (is_int u.params x || is_loop ls x)) s

  target_is : (t : PlainExpr) (op : Option BinOp) (e : PlainExpr) (ls : List Loop) → is_place t ≡ true → IsTree false t → sets (assign t op e) ls ≡ false → writes_regular (assign t op e) ≡ true
      → parts_hold (is_affine (here ls)) (here ls) t ≡ true → is_target (here ls) t ≡ true
  target_is (var x) op e ls o t f n h =
      let p = or_parts (is_const_array u.params x) (is_int u.params x || is_loop ls x) f in
      let q = or_parts (is_int u.params x) (is_loop ls x) p.1 in
      ap not (or_from _ _ q.1 q.0)
  target_is (cell x at) op e ls o t f n h = subscripts_are (here ls) at t.1 n h
  target_is _ op e ls o t f n h = absurd (true≢false (sym o))

  item_is : (s : PlainStmt) (ls : List Loop) → IsInner false 0 s → Clear u (stands s ls) → item_is_affine (here ls) s ≡ true
  item_is (loop x lo rel hi body) ls t c = c.affine
  item_is (choice ts first other) ls t c = tests_are (here ls) ts c.affine
  item_is (assign t op e) ls s c =
      let p = and_parts (parts_hold (is_affine (here ls)) (here ls) t) (parts_hold (is_affine (here ls)) (here ls) e) c.affine in
      and_from _ _ (target_is t op e ls s.0 s.2 c.target c.regular p.0) (and_from _ _ s.1 (data_is (here ls) e s.3 c.data_alone p.1))
  item_is (table x len) ls t c = absurd t
  item_is begin ls t c = absurd t
  item_is (check x e a) ls t c = absurd (true≢false (sym t.0))
  item_is verdict ls t c = absurd t

  suited_item : (s : PlainStmt) (ls : List Loop) → IsInner false 0 s → Clear u (stands s ls) → IsSuitedItem u s ls
  suited_item s ls t c = record {
    once = c.once;
    known = c.known;
    free = c.free;
    few = few_item s ls c.shallow c.few;
    affine = item_is s ls t c;
    fits = c.fits;
    literals = c.literals;
  }

  mutual
    stmt_suited : (s : PlainStmt) (ls : List Loop) → IsInner false 0 s → AllByRecursion (Clear u) (items s ls []) → StmtSuited u s ls
    stmt_suited (loop x lo rel hi body) ls t c =
        (suited_item (loop x lo rel hi body) ls t c.0, all_suited body (record { name = x; lo = lo; rel = rel; hi = hi } ∷ ls) t.4 c.1)
    stmt_suited (choice ts first other) ls t c = (
      suited_item (choice ts first other) ls t c.0,
      all_suited first ls t.1 (all_front (Clear u) (items_all first ls []) (items_all other ls []) c.1),
      all_suited other ls t.2 (all_back (Clear u) (items_all first ls []) (items_all other ls []) c.1),
    )
    stmt_suited (assign t op e) ls s c = suited_item (assign t op e) ls s c.0
    stmt_suited (table x len) ls t c = absurd t
    stmt_suited begin ls t c = absurd t
    stmt_suited (check x e a) ls t c = absurd (true≢false (sym t.0))
    stmt_suited verdict ls t c = absurd t

    all_suited : (ss : PlainStmts) (ls : List Loop) → AreInner false 0 ss → AllByRecursion (Clear u) (items_all ss ls []) → AllSuited u ss ls
    all_suited no_stmts ls t c = tt
    all_suited (more_stmts s ss) ls t c = (
      stmt_suited s ls t.0 (all_front (Clear u) (items s ls []) (items_all ss ls (tables_after s [])) c),
      all_suited ss ls t.1
          (subst (λ ts. AllByRecursion (Clear u) (items_all ss ls ts)) (tables_same s t.0 []) (all_back (Clear u) (items s ls []) (items_all ss ls (tables_after s [])) c)),
    )

-- ---- the head

free_params : (ps : List PlainParam) → list_any (λ p. is_reserved (param_name p)) ps ≡ false → AreFreeParams ps
free_params [] h = tt
free_params (p ∷ ps) h = (let q : (is_reserved (param_name p) ≡ false) × (list_any (λ p. is_reserved (param_name p)) ps ≡ false) = or_parts _ _ h in (q.0, free_params ps q.1))

free_words : (ws : List (Word × ℕ)) → list_any (λ w. is_reserved w.0) ws ≡ false → AreFreeWords ws
free_words [] h = tt
free_words (w ∷ ws) h = (let q : (is_reserved w.0 ≡ false) × (list_any (λ w. is_reserved w.0) ws ≡ false) = or_parts _ _ h in (q.0, free_words ws q.1))

pub accepted_suited : (u : PlainUnit) → IsAcceptedSource u → IsSuited u
accepted_suited u h =
    let c : Unrefused u = unrefused u h.refused_nowhere in
    let arrays = c.few_arrays in
    let same = same_count u.params in
    let r = or_parts (is_reserved u.name) (list_any (λ p. is_reserved (param_name p)) u.params || list_any (λ w. is_reserved w.0) u.words) c.free.head in
    let q = or_parts (list_any (λ p. is_reserved (param_name p)) u.params) (list_any (λ w. is_reserved w.0) u.words) r.1 in
    record {
      no_wides = h.tree.no_wides;
      ranked = ranked u.params h.tree.head.params;
      once = c.once.head;
      known = not-false (extents_known [] u.params) c.known.head;
      free_params = free_params u.params q.0;
      free_words = free_words u.words q.1;
      ranges = c.ranges;
      few_arrays = omega arith;
      affine = c.affine.head;
      small = c.small.head;
      narrow = c.narrow.head;
      positive = c.positive;
      body = all_suited u u.body [] h.tree.body c.items;
    }
