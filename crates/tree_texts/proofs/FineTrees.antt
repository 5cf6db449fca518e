-- The trees of sources and printed texts are of the forms that the grammar has.
use Rattle.std.proofs.Common.{◌≡◌, ℕ, ◌≤◌, ◌≤ℤ◌, ◌<ℤ◌, ◌^◌, suc, Bool, true, List, [], ◌∷◌, length, refl, sym, ap, true≢false, arith, inl, inr, Option, None, Some, ℤ, pos, negsuc, neg_ℤ}
use Rattle.std.proofs.lemmas.Bool.{and_from, lt-ltb}
use Rattle.std.proofs.lemmas.Int.{ints}
use Rattle.c_tree.specs.Plain.{Word, PlainExpr, lit, var, cell, un, bin, cast, test, umin, umax, least, greatest, widen, big, PlainExprs, no_exprs, more_exprs, PlainTest, PlainStmt, loop, choice, assign, table, begin, check, verdict, PlainStmts, no_stmts, more_stmts, PlainParam, int_param, array_param}
use Rattle.c_tree.specs.Trees.{stmts_of}
use Rattle.c_tree.specs.declared.expr.BinOp.{BinOp}
use Rattle.c_tree.specs.declared.expr.BinOp.TheVariants.{Add, Sub, Mul, Div, Rem, Shl, Shr, And, Xor, Or}
use Rattle.c_tree.specs.Grammar.Expressions.{height, heights}
use Rattle.c_tree.specs.Grammar.Statements.{set_op}
use Rattle.c_tree.specs.Grammar.Units.{checks_below, all_checks_below}
use Rattle.acceptance.specs.Head.{list_of}
use Rattle.acceptance.specs.Heights.{tests_height, exprs_height, all_exprs_height, extents_height}
use Rattle.acceptance.specs.Trees.{is_assigning}
use Rattle.acceptance.specs.Trees.{IsTree, AreSubscripts, AreTrees, AreSides, IsCondition, IsInner, AreInner, IsTop, AreTop, AreLines, AreParams}
use Rattle.layout_laws.specs.Spell.{set_mark}
use Rattle.layout_laws.specs.Fine.{IsFine, AreFine, Low, LowTests, FineTests, FinePlace, FineStmt, FineStmts, FineTop, FineInt, FineRanges, count, AllLow, FineDims, LowParams}

-- ---- expressions

mutual
  fine_expr : (p : Bool) (e : PlainExpr) → IsTree p e → IsFine p e
  fine_expr p (lit n) h = tt
  fine_expr p (var x) h = tt
  fine_expr p (cell x no_exprs) h = h.1
  fine_expr p (cell x (more_exprs e es)) h = (fine_expr p e h.1.0, fine_exprs p es h.1.1)
  fine_expr p (un op a) h = fine_expr p a h
  fine_expr p (bin op a b) h = (fine_expr p a h.0, fine_expr p b h.1)
  fine_expr p (cast a) h = fine_expr p a h
  fine_expr p (test rel a b) h = (fine_expr p a h.0, fine_expr p b h.1)
  fine_expr p (umin a b) h = (fine_expr p a h.0, fine_expr p b h.1)
  fine_expr p (umax a b) h = (fine_expr p a h.0, fine_expr p b h.1)
  fine_expr p (least a b) h = (h.0, fine_expr p a h.1, fine_expr p b h.2)
  fine_expr p (greatest a b) h = (h.0, fine_expr p a h.1, fine_expr p b h.2)
  fine_expr p (widen a) h = (h.0, fine_expr p a h.1)
  fine_expr p (big high low) h = h.0

  fine_exprs : (p : Bool) (es : PlainExprs) → AreTrees p es → AreFine p es
  fine_exprs p no_exprs h = tt
  fine_exprs p (more_exprs e es) h = (fine_expr p e h.0, fine_exprs p es h.1)

low_expr : (p : Bool) (m : ℕ) (e : PlainExpr) → IsTree p e → height e ≤ m → Low p m e
low_expr p m e h l = record { is_fine = fine_expr p e h; low = l }

-- ---- statements

module _ (p : Bool) (m : ℕ) where
  low_sides : (ts : List PlainTest) → AreSides p ts → tests_height ts ≤ m → LowTests p m ts
  low_sides [] h l = tt
  low_sides (t ∷ ts) h l = (low_expr p m t.1 h.0.0 (omega arith), low_expr p m t.2 h.0.1 (omega arith), low_sides ts h.1 (omega arith))

  fine_tests : (ts : List PlainTest) → IsCondition p ts → tests_height ts ≤ m → FineTests p m ts
  fine_tests [] h l = h
  fine_tests (t ∷ ts) h l = low_sides (t ∷ ts) h l

  fine_place : (t : PlainExpr) (op : Option BinOp) (e : PlainExpr) (n : ℕ) → IsInner p n (assign t op e) → height t ≤ m → FinePlace p m t
  fine_place (var x) op e n h l = tt
  fine_place (cell x at) op e n h l = low_expr p m (cell x at) h.2 l
  fine_place _ op e n h l = absurd (true≢false (sym h.0))

pub assigns : (op : Option BinOp) → is_assigning op ≡ true → set_op (set_mark op) ≡ Some op
assigns None h = refl
assigns (Some Add) h = refl
assigns (Some Sub) h = refl
assigns (Some Mul) h = refl
assigns (Some And) h = refl
assigns (Some Xor) h = refl
assigns (Some Or) h = refl
assigns (Some Div) h = absurd (true≢false (sym h))
assigns (Some Rem) h = absurd (true≢false (sym h))
assigns (Some Shl) h = absurd (true≢false (sym h))
assigns (Some Shr) h = absurd (true≢false (sym h))

module _ (p : Bool) (m n : ℕ) where
  mutual
    fine_stmt : (s : PlainStmt) → IsInner p n s → exprs_height s ≤ m → FineStmt p m s
    fine_stmt (loop x lo rel hi body) h l = (h.1, low_expr p m lo h.2 (omega arith), low_expr p m hi h.3 (omega arith), fine_stmts body h.4 (omega arith))
    fine_stmt (choice ts first other) h l = (fine_tests p m ts h.0 (omega arith), fine_stmts first h.1 (omega arith), fine_stmts other h.2 (omega arith))
    fine_stmt (assign t op e) h l = (fine_place p m t op e n h (omega arith), assigns op h.1, low_expr p m e h.3 (omega arith))
    fine_stmt (check x e a) h l = (h.0, h.3, low_expr p m e h.2 l)
    fine_stmt (table x e) h l = absurd h
    fine_stmt begin h l = absurd h
    fine_stmt verdict h l = absurd h

    pub fine_stmts : (ss : PlainStmts) → AreInner p n ss → all_exprs_height ss ≤ m → FineStmts p m ss
    fine_stmts no_stmts h l = tt
    fine_stmts (more_stmts s ss) h l = (fine_stmt s h.0 (omega arith), fine_stmts ss h.1 (omega arith))

module _ (m n : ℕ) where
  fine_top : (s : PlainStmt) → IsTop n s → exprs_height s ≤ m → FineTop true m (more_stmts s no_stmts)
  fine_top (table x e) h l = (inr (x, e, refl, low_expr true m e h.1 l), tt)
  fine_top (loop x lo rel hi body) h l = (inl (fine_stmt true m n (loop x lo rel hi body) h l), tt)
  fine_top (choice ts first other) h l = (inl (fine_stmt true m n (choice ts first other) h l), tt)
  fine_top (assign t op e) h l = (inl (fine_stmt true m n (assign t op e) h l), tt)
  fine_top (check x e a) h l = (inl (fine_stmt true m n (check x e a) h l), tt)
  fine_top begin h l = absurd h
  fine_top verdict h l = absurd h

  pub fine_tops : (ss : List PlainStmt) → AreTop n ss → all_exprs_height (stmts_of ss) ≤ m → FineTop true m (stmts_of ss)
  fine_tops [] h l = tt
  fine_tops (s ∷ ss) h l = ((fine_top s h.0 (omega arith)).0, fine_tops ss h.1 (omega arith))

-- ---- checks

mutual
  stmt_checks : (p : Bool) (n : ℕ) (s : PlainStmt) → IsInner p n s → checks_below n s ≡ true
  stmt_checks p n (loop x lo rel hi body) h = all_checks p n body h.4
  stmt_checks p n (choice ts first other) h = and_from _ _ (all_checks p n first h.1) (all_checks p n other h.2)
  stmt_checks p n (check x e a) h = lt-ltb a n h.4
  stmt_checks p n (assign t op e) h = refl
  stmt_checks p n (table x e) h = refl
  stmt_checks p n begin h = refl
  stmt_checks p n verdict h = refl

  all_checks : (p : Bool) (n : ℕ) (ss : PlainStmts) → AreInner p n ss → all_checks_below n ss ≡ true
  all_checks p n no_stmts h = refl
  all_checks p n (more_stmts s ss) h = and_from _ _ (stmt_checks p n s h.0) (all_checks p n ss h.1)

top_checks : (n : ℕ) (s : PlainStmt) → IsTop n s → checks_below n s ≡ true
top_checks n (table x e) h = refl
top_checks n (loop x lo rel hi body) h = stmt_checks true n (loop x lo rel hi body) h
top_checks n (choice ts first other) h = stmt_checks true n (choice ts first other) h
top_checks n (check x e a) h = stmt_checks true n (check x e a) h
top_checks n (assign t op e) h = refl
top_checks n begin h = refl
top_checks n verdict h = refl

pub all_top_checks : (n : ℕ) (ss : List PlainStmt) → AreTop n ss → all_checks_below n (stmts_of ss) ≡ true
all_top_checks n [] h = refl
all_top_checks n (s ∷ ss) h = and_from _ _ (top_checks n s h.0) (all_top_checks n ss h.1)

-- ---- heads

fine_int : (z : ℤ) → neg_ℤ (pos (2 ^ 63)) ≤ℤ z → z <ℤ pos (2 ^ 63) → FineInt z
fine_int (pos n) low high = omega (arith, ints)
fine_int (negsuc n) low high = omega (arith, ints)

pub fine_ranges : (p : Bool) (rs : List (Word × ℤ × ℤ)) → AreLines p rs → FineRanges rs
fine_ranges p [] h = tt
fine_ranges p (r ∷ rs) h = (fine_int r.1 h.0.low.0 h.0.low.1, fine_int r.2 h.0.high.0 h.0.high.1, fine_ranges p rs h.1)

pub same_count : (es : PlainExprs) → count es ≡ length (list_of es)
same_count no_exprs = refl
same_count (more_exprs e es) = ap suc (same_count es)

module _ (p : Bool) (m : ℕ) where
  all_low : (es : PlainExprs) → AreTrees p es → heights es ≤ m → AllLow p m es
  all_low no_exprs h l = tt
  all_low (more_exprs e es) h l = (low_expr p m e h.0 (omega arith), all_low es h.1 (omega arith))

  fine_dims : (es : PlainExprs) → AreSubscripts p es → length (list_of es) ≤ 3 → heights es ≤ m → FineDims p m 2 es
  fine_dims no_exprs h k l = absurd h
  fine_dims (more_exprs e es) h k l = (let c = same_count es in record { low = all_low (more_exprs e es) h l; some = omega arith; most = omega arith })

  pub low_params : (ps : List PlainParam) → AreParams p ps → extents_height ps ≤ m → LowParams p m ps
  low_params [] h l = tt
  low_params (int_param x ∷ ps) h l = (tt, low_params ps h.1 l)
  low_params (array_param x c es ∷ ps) h l = (fine_dims es h.1 h.2 (omega arith), low_params ps h.3 (omega arith))
