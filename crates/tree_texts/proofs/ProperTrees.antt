-- The names and numbers in the trees of sources and printed texts are those of tokens.
use Rattle.std.proofs.Common.{◌≡◌, ℕ, ◌≤ℤ◌, ◌<ℤ◌, ◌^◌, Bool, true, false, List, [], ◌∷◌, ◌++◌, map, refl, sym, true≢false, arith, Option, None, ℤ, pos, negsuc, neg_ℤ}
use Rattle.std.specs.Prelude.{bytes_eq}
use Rattle.std.specs.List.{list_any}
use Rattle.std.proofs.lemmas.Bool.{or_parts}
use Rattle.std.proofs.lemmas.Int.{ints}
use Rattle.c_tree.specs.Plain.{Word, PlainExpr, lit, var, cell, un, bin, cast, test, umin, umax, least, greatest, widen, big, PlainExprs, no_exprs, more_exprs, PlainTest, PlainStmt, loop, choice, assign, table, begin, check, verdict, PlainStmts, no_stmts, more_stmts, PlainParam, int_param, array_param}
use Rattle.c_tree.specs.Trees.{stmts_of}
use Rattle.c_tree.specs.declared.expr.BinOp.{BinOp}
use Rattle.c_tree.specs.declared.symbol.Symbol.{Symbol}
use Rattle.c_tree.specs.Grammar.Symbols.{words}
use Rattle.c_tree.specs.Grammar.Texts.{find_symbol}
use Rattle.acceptance_laws.proofs.Names.{apart_sym}
use Rattle.acceptance.specs.Trees.{IsNameIn, IsTree, AreSubscripts, AreTrees, AreSides, IsCondition, IsInner, AreInner, IsTop, AreTop, AreLines, AreParams, AreWords, AreNames}
use Rattle.layout_laws.specs.Proper.{IsName, IsProper, AreProper, ProperTests, ProperPlace, ProperStmt, ProperStmts, ProperInt, ProperRanges, ProperParams, ProperWords, ProperWides}
use Rattle.tree_texts.proofs.FineTrees.{assigns}

-- ---- names

no_symbol : (ws : List (Word × Symbol)) (x : Word) → list_any (bytes_eq x) (map (λ w. w.0) ws) ≡ false → find_symbol ws x ≡ None
no_symbol [] x h = refl
no_symbol (w ∷ ws) x h =
    let q : (bytes_eq x w.0 ≡ false) × (list_any (bytes_eq x) (map (λ w. w.0) ws) ≡ false) = or_parts _ _ h in
    rw (apart_sym x w.0 q.0) (no_symbol ws x q.1)

pub proper_name : (p : Bool) (x : Word) → IsNameIn p x → IsName p x
proper_name p x h = record { word = h.word; fits = h.short; no_symbol = no_symbol words x h.free }

-- ---- expressions

module _ (p : Bool) where
  mutual
    proper_expr : (e : PlainExpr) → IsTree p e → IsProper p e
    proper_expr (lit n) h = h
    proper_expr (var x) h = proper_name p x h
    proper_expr (cell x at) h = (proper_name p x h.0, proper_subscripts at h.1)
    proper_expr (un op a) h = proper_expr a h
    proper_expr (bin op a b) h = (proper_expr a h.0, proper_expr b h.1)
    proper_expr (cast a) h = proper_expr a h
    proper_expr (test rel a b) h = (proper_expr a h.0, proper_expr b h.1)
    proper_expr (umin a b) h = (proper_expr a h.0, proper_expr b h.1)
    proper_expr (umax a b) h = (proper_expr a h.0, proper_expr b h.1)
    proper_expr (least a b) h = (proper_expr a h.1, proper_expr b h.2)
    proper_expr (greatest a b) h = (proper_expr a h.1, proper_expr b h.2)
    proper_expr (widen a) h = proper_expr a h.1
    proper_expr (big high low) h = (h.1, h.2)

    proper_subscripts : (es : PlainExprs) → AreSubscripts p es → AreProper p es
    proper_subscripts no_exprs h = tt
    proper_subscripts (more_exprs e es) h = (proper_expr e h.0, proper_exprs es h.1)

    proper_exprs : (es : PlainExprs) → AreTrees p es → AreProper p es
    proper_exprs no_exprs h = tt
    proper_exprs (more_exprs e es) h = (proper_expr e h.0, proper_exprs es h.1)

  -- ---- statements

  proper_sides : (ts : List PlainTest) → AreSides p ts → ProperTests p ts
  proper_sides [] h = tt
  proper_sides (t ∷ ts) h = (proper_expr t.1 h.0.0, proper_expr t.2 h.0.1, proper_sides ts h.1)

  proper_tests : (ts : List PlainTest) → IsCondition p ts → ProperTests p ts
  proper_tests [] h = tt
  proper_tests (t ∷ ts) h = proper_sides (t ∷ ts) h

  proper_place : (t : PlainExpr) (op : Option BinOp) (e : PlainExpr) (n : ℕ) → IsInner p n (assign t op e) → ProperPlace p t
  proper_place (var x) op e n h = proper_name p x h.2
  proper_place (cell x at) op e n h = proper_expr (cell x at) h.2
  proper_place _ op e n h = absurd (true≢false (sym h.0))

  mutual
    proper_stmt : (n : ℕ) (s : PlainStmt) → IsInner p n s → ProperStmt p s
    proper_stmt n (loop x lo rel hi body) h = (proper_name p x h.0, proper_expr lo h.2, proper_expr hi h.3, proper_stmts n body h.4)
    proper_stmt n (choice ts first other) h = (proper_tests ts h.0, proper_stmts n first h.1, proper_stmts n other h.2)
    proper_stmt n (assign t op e) h = (proper_place t op e n h, assigns op h.1, proper_expr e h.3)
    proper_stmt n (check x e a) h = (proper_name p x h.1, proper_expr e h.2, h.3)
    proper_stmt n (table x e) h = absurd h
    proper_stmt n begin h = absurd h
    proper_stmt n verdict h = absurd h

    pub proper_stmts : (n : ℕ) (ss : PlainStmts) → AreInner p n ss → ProperStmts p ss
    proper_stmts n no_stmts h = tt
    proper_stmts n (more_stmts s ss) h = (proper_stmt n s h.0, proper_stmts n ss h.1)

  pub proper_join : (a b : List PlainStmt) → ProperStmts p (stmts_of a) → ProperStmts p (stmts_of b) → ProperStmts p (stmts_of (a ++ b))
  proper_join [] b h g = g
  proper_join (s ∷ a) b h g = (h.0, proper_join a b h.1 g)

  -- ---- heads

  pub proper_ranges : (rs : List (Word × ℤ × ℤ)) → AreLines p rs → ProperRanges p rs
  proper_ranges [] h = tt
  proper_ranges (r ∷ rs) h = (proper_name p r.0 h.0.name, proper_int r.1 h.0.low.0 h.0.low.1, proper_int r.2 h.0.high.0 h.0.high.1, proper_ranges rs h.1)
    where
      proper_int : (z : ℤ) → neg_ℤ (pos (2 ^ 63)) ≤ℤ z → z <ℤ pos (2 ^ 63) → ProperInt z
      proper_int (pos n) low high = omega (arith, ints)
      proper_int (negsuc n) low high = omega (arith, ints)

  pub proper_params : (ps : List PlainParam) → AreParams p ps → ProperParams p ps
  proper_params [] h = tt
  proper_params (int_param x ∷ ps) h = (proper_name p x h.0, proper_params ps h.1)
  proper_params (array_param x c es ∷ ps) h = ((proper_name p x h.0, proper_subscripts es h.1), proper_params ps h.3)

  pub proper_words : (ws : List (Word × ℕ)) → AreWords p ws → ProperWords p ws
  proper_words [] h = tt
  proper_words (w ∷ ws) h = (proper_name p w.0 h.0, h.1, proper_words ws h.2)

  pub proper_wides : (xs : List Word) → AreNames p xs → ProperWides p xs
  proper_wides [] h = tt
  proper_wides (x ∷ xs) h = (proper_name p x h.0, proper_wides xs h.1)

proper_top : (n : ℕ) (s : PlainStmt) → IsTop n s → ProperStmt true s
proper_top n (table x e) h = (proper_name true x h.0, proper_expr true e h.1)
proper_top n (loop x lo rel hi body) h = proper_stmt true n (loop x lo rel hi body) h
proper_top n (choice ts first other) h = proper_stmt true n (choice ts first other) h
proper_top n (assign t op e) h = proper_stmt true n (assign t op e) h
proper_top n (check x e a) h = proper_stmt true n (check x e a) h
proper_top n begin h = absurd h
proper_top n verdict h = absurd h

pub proper_tops : (n : ℕ) (ss : List PlainStmt) → AreTop n ss → ProperStmts true (stmts_of ss)
proper_tops n [] h = tt
proper_tops n (s ∷ ss) h = (proper_top n s h.0, proper_tops n ss h.1)
