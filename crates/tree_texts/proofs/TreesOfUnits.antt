-- What has the grammar's form, and names and numbers of tokens, is a tree of a source or of a printed text.
use Rattle.std.proofs.Common.{◌≡◌, ◌⊎◌, ℕ, ◌≤◌, ◌<◌, ◌≤ℤ◌, ◌<ℤ◌, ◌^◌, suc, Bool, true, false, List, [], ◌∷◌, map, refl, sym, subst, true≢false, arith, inl, inr, Option, None, Some, ℤ, pos, negsuc, neg_ℤ}
use Rattle.std.specs.Prelude.{bytes_eq}
use Rattle.std.specs.List.{list_any}
use Rattle.std.proofs.lemmas.Bool.{or_from, and_from, and_parts, cases_Bool, ltb-true}
use Rattle.std.proofs.lemmas.Int.{ints}
use Rattle.c_tree.specs.Plain.{Word, PlainExpr, lit, var, cell, un, bin, cast, test, umin, umax, least, greatest, widen, big, PlainExprs, no_exprs, more_exprs, PlainTest, PlainStmt, loop, choice, assign, table, begin, check, verdict, PlainStmts, no_stmts, more_stmts, PlainParam, int_param, array_param}
use Rattle.c_tree.specs.declared.expr.BinOp.{BinOp}
use Rattle.c_tree.specs.declared.expr.BinOp.TheVariants.{Add, Sub, Mul, Div, Rem, Shl, Shr, And, Xor, Or}
use Rattle.c_tree.specs.declared.symbol.Symbol.{Symbol}
use Rattle.c_tree.specs.Grammar.Expressions.{height, heights}
use Rattle.c_tree.specs.Grammar.Statements.{set_op}
use Rattle.c_tree.specs.Grammar.Symbols.{words}
use Rattle.c_tree.specs.Grammar.Texts.{find_symbol}
use Rattle.c_tree.specs.Grammar.Units.{checks_below, all_checks_below}
use Rattle.acceptance_laws.proofs.Names.{apart_sym}
use Rattle.acceptance.specs.Heights.{tests_height, exprs_height, all_exprs_height, extents_height}
use Rattle.acceptance.specs.Trees.{is_assigning}
use Rattle.acceptance.specs.Trees.{IsNameIn, IsTree, AreSubscripts, AreTrees, AreSides, IsCondition, is_place, IsInner, AreInner, IsTop, AreTop, AreLines, AreParams, AreWords, AreNames}
use Rattle.layout_laws.specs.Spell.{set_mark}
use Rattle.layout_laws.specs.Fine.{IsFine, AreFine, Low, LowTests, FineTests, FinePlace, FineStmt, FineStmts, FineTable, FineTop, FineInt, FineRanges, count, AllLow, LowParams}
use Rattle.layout_laws.specs.Proper.{IsName, IsProper, AreProper, ProperTests, ProperPlace, ProperStmt, ProperStmts, ProperRanges, ProperParams, ProperWords, ProperWides}
use Rattle.tree_texts.proofs.FineTrees.{same_count}

-- ---- names

no_word : (ws : List (Word × Symbol)) (x : Word) → find_symbol ws x ≡ None → list_any (bytes_eq x) (map (λ w. w.0) ws) ≡ false
no_word [] x h = refl
no_word (w ∷ ws) x h = elim (cases_Bool (bytes_eq w.0 x)) [
  | inl e ↦ absurd (let g : Some w.1 ≡ None = (rw e at h) in let f : ⊥ = cc in f)
  | inr e ↦ or_from _ _ (apart_sym w.0 x e) (no_word ws x (rw e at h))
]

pub name_in : (p : Bool) (x : Word) → IsName p x → IsNameIn p x
name_in p x h = record { word = h.word; free = no_word words x h.no_symbol; short = h.fits }

-- ---- expressions

module _ (p : Bool) where
  mutual
    tree_expr : (e : PlainExpr) → IsFine p e → IsProper p e → IsTree p e
    tree_expr (lit n) f h = h
    tree_expr (var x) f h = name_in p x h
    tree_expr (cell x no_exprs) f h = absurd f
    tree_expr (cell x (more_exprs e es)) f h = (name_in p x h.0, (tree_expr e f.0 h.1.0, tree_exprs es f.1 h.1.1))
    tree_expr (un op a) f h = tree_expr a f h
    tree_expr (bin op a b) f h = (tree_expr a f.0 h.0, tree_expr b f.1 h.1)
    tree_expr (cast a) f h = tree_expr a f h
    tree_expr (test rel a b) f h = (tree_expr a f.0 h.0, tree_expr b f.1 h.1)
    tree_expr (umin a b) f h = (tree_expr a f.0 h.0, tree_expr b f.1 h.1)
    tree_expr (umax a b) f h = (tree_expr a f.0 h.0, tree_expr b f.1 h.1)
    tree_expr (least a b) f h = (f.0, tree_expr a f.1 h.0, tree_expr b f.2 h.1)
    tree_expr (greatest a b) f h = (f.0, tree_expr a f.1 h.0, tree_expr b f.2 h.1)
    tree_expr (widen a) f h = (f.0, tree_expr a f.1 h)
    tree_expr (big high low) f h = (f, h.0, h.1)

    tree_exprs : (es : PlainExprs) → AreFine p es → AreProper p es → AreTrees p es
    tree_exprs no_exprs f h = tt
    tree_exprs (more_exprs e es) f h = (tree_expr e f.0 h.0, tree_exprs es f.1 h.1)

assigning : (op : Option BinOp) → set_op (set_mark op) ≡ Some op → is_assigning op ≡ true
assigning None h = refl
assigning (Some Add) h = refl
assigning (Some Sub) h = refl
assigning (Some Mul) h = refl
assigning (Some And) h = refl
assigning (Some Xor) h = refl
assigning (Some Or) h = refl
assigning (Some Div) h = absurd (let f : ⊥ = cc in f)
assigning (Some Rem) h = absurd (let f : ⊥ = cc in f)
assigning (Some Shl) h = absurd (let f : ⊥ = cc in f)
assigning (Some Shr) h = absurd (let f : ⊥ = cc in f)

-- ---- statements

module _ (p : Bool) (m : ℕ) where
  sides : (ts : List PlainTest) → LowTests p m ts → ProperTests p ts → AreSides p ts
  sides [] f h = tt
  sides (t ∷ ts) f h = ((tree_expr p t.1 f.0.is_fine h.0, tree_expr p t.2 f.1.is_fine h.1), sides ts f.2 h.2)

  condition : (ts : List PlainTest) → FineTests p m ts → ProperTests p ts → IsCondition p ts
  condition [] f h = f
  condition (t ∷ ts) f h = sides (t ∷ ts) f h

  -- a target is a name or a cell
  place : (t : PlainExpr) → FinePlace p m t → ProperPlace p t → (is_place t ≡ true) × IsTree p t
  place (var x) f h = (refl, name_in p x h)
  place (cell x at) f h = (refl, tree_expr p (cell x at) f.is_fine h)
  place _ f h = absurd f

  mutual
    inner : (n : ℕ) (s : PlainStmt) → FineStmt p m s → ProperStmt p s → checks_below n s ≡ true → IsInner p n s
    inner n (loop x lo rel hi body) f h c = (name_in p x h.0, f.0, tree_expr p lo f.1.is_fine h.1, tree_expr p hi f.2.is_fine h.2, all_inner n body f.3 h.3 c)
    inner n (choice ts first other) f h c =
        let b : (all_checks_below n first ≡ true) × (all_checks_below n other ≡ true) = and_parts _ _ c in
        (condition ts f.0 h.0, all_inner n first f.1 h.1 b.0, all_inner n other f.2 h.2 b.1)
    inner n (assign t op e) f h c = (let x = place t f.0 h.0 in (x.0, assigning op f.1, x.1, tree_expr p e f.2.is_fine h.2))
    inner n (check x e a) f h c = (f.0, name_in p x h.0, tree_expr p e f.2.is_fine h.1, f.1, ltb-true a n c)
    inner n (table x e) f h c = f
    inner n begin f h c = f
    inner n verdict f h c = f

    pub all_inner : (n : ℕ) (ss : PlainStmts) → FineStmts p m ss → ProperStmts p ss → all_checks_below n ss ≡ true → AreInner p n ss
    all_inner n no_stmts f h c = tt
    all_inner n (more_stmts s ss) f h c =
        let b : (checks_below n s ≡ true) × (all_checks_below n ss ≡ true) = and_parts _ _ c in
        (inner n s f.0 h.0 b.0, all_inner n ss f.1 h.1 b.1)

  -- ---- heights

  tests_low : (ts : List PlainTest) → LowTests p m ts → tests_height ts ≤ m
  tests_low [] f = omega arith
  tests_low (t ∷ ts) f = (let a = f.0.low in let b = f.1.low in let r = tests_low ts f.2 in omega arith)

  condition_low : (ts : List PlainTest) → FineTests p m ts → tests_height ts ≤ m
  condition_low [] f = absurd f
  condition_low (t ∷ ts) f = tests_low (t ∷ ts) f

  place_low : (t : PlainExpr) → 1 ≤ m → FinePlace p m t → height t ≤ m
  place_low (var x) some f = some
  place_low (cell x at) some f = f.low
  place_low _ some f = absurd f

  module _ (some : 1 ≤ m) where
    mutual
      stmt_low : (s : PlainStmt) → FineStmt p m s → exprs_height s ≤ m
      stmt_low (loop x lo rel hi body) f = (let a = f.1.low in let b = f.2.low in let r = all_stmts_low body f.3 in omega arith)
      stmt_low (choice ts first other) f = (let a = condition_low ts f.0 in let b = all_stmts_low first f.1 in let r = all_stmts_low other f.2 in omega arith)
      stmt_low (assign t op e) f = (let a = place_low t some f.0 in let b = f.2.low in omega arith)
      stmt_low (check x e a) f = f.2.low
      stmt_low (table x e) f = absurd f
      stmt_low begin f = absurd f
      stmt_low verdict f = absurd f

      pub all_stmts_low : (ss : PlainStmts) → FineStmts p m ss → all_exprs_height ss ≤ m
      all_stmts_low no_stmts f = omega arith
      all_stmts_low (more_stmts s ss) f = (let a = stmt_low s f.0 in let b = all_stmts_low ss f.1 in omega arith)

-- a source has no checks
mutual
  no_check : (m : ℕ) (s : PlainStmt) → FineStmt false m s → checks_below 0 s ≡ true
  no_check m (loop x lo rel hi body) f = no_checks m body f.3
  no_check m (choice ts first other) f = and_from _ _ (no_checks m first f.1) (no_checks m other f.2)
  no_check m (check x e a) f = absurd (true≢false (sym f.0))
  no_check m (assign t op e) f = refl
  no_check m (table x e) f = refl
  no_check m begin f = refl
  no_check m verdict f = refl

  pub no_checks : (m : ℕ) (ss : PlainStmts) → FineStmts false m ss → all_checks_below 0 ss ≡ true
  no_checks m no_stmts f = refl
  no_checks m (more_stmts s ss) f = and_from _ _ (no_check m s f.0) (no_checks m ss f.1)

-- ---- the top level of a printed text

abbrev pub listed : PlainStmts → List PlainStmt
listed no_stmts = []
listed (more_stmts s ss) = s ∷ listed ss

top_inner : (m n : ℕ) (s : PlainStmt) → FineStmt true m s → IsInner true n s → IsTop n s
top_inner m n (table x e) f h = absurd f
top_inner m n (loop x lo rel hi body) f h = h
top_inner m n (choice ts first other) f h = h
top_inner m n (assign t op e) f h = h
top_inner m n (check x e a) f h = h
top_inner m n begin f h = h
top_inner m n verdict f h = h

top_table : (m n : ℕ) (x : Word) (e : PlainExpr) → Low true m e → ProperStmt true (table x e) → IsTop n (table x e)
top_table m n x e l h = (name_in true x h.0, tree_expr true e l.is_fine h.1)

top : (m n : ℕ) (s : PlainStmt) → FineStmt true m s ⊎ FineTable true m s → ProperStmt true s → checks_below n s ≡ true → IsTop n s
top m n s (inl f) h c = top_inner m n s f (inner true m n s f h c)
top m n s (inr f) h c = (let (x, e, same, l) = f in subst (IsTop n) (sym same) (top_table m n x e l (subst (ProperStmt true) same h)))

pub tops : (m n : ℕ) (ss : PlainStmts) → FineTop true m ss → ProperStmts true ss → all_checks_below n ss ≡ true → AreTop n (listed ss)
tops m n no_stmts f h c = tt
tops m n (more_stmts s ss) f h c =
    let b : (checks_below n s ≡ true) × (all_checks_below n ss ≡ true) = and_parts _ _ c in
    (top m n s f.0 h.0 b.0, tops m n ss f.1 h.1 b.1)

top_low : (m : ℕ) (s : PlainStmt) → 1 ≤ m → FineStmt true m s ⊎ FineTable true m s → exprs_height s ≤ m
top_low m s some (inl f) = stmt_low true m some s f
top_low m s some (inr f) = (let (x, e, same, l) = f in subst (λ t. exprs_height t ≤ m) (sym same) l.low)

pub tops_low : (m : ℕ) (ss : PlainStmts) → 1 ≤ m → FineTop true m ss → all_exprs_height ss ≤ m
tops_low m no_stmts some f = omega arith
tops_low m (more_stmts s ss) some f = (let a = top_low m s some f.0 in let b = tops_low m ss some f.1 in omega arith)

-- ---- heads

int_low : (z : ℤ) → FineInt z → neg_ℤ (pos (2 ^ 63)) ≤ℤ z
int_low (pos n) f = omega (arith, ints)
int_low (negsuc n) f = (let g : suc n ≤ 2 ^ 63 = f in omega (arith, ints))

int_high : (z : ℤ) → FineInt z → z <ℤ pos (2 ^ 63)
int_high (pos n) f = (let g : n < 2 ^ 63 = f in omega (arith, ints))
int_high (negsuc n) f = omega (arith, ints)

module _ (p : Bool) where
  pub lines : (rs : List (Word × ℤ × ℤ)) → FineRanges rs → ProperRanges p rs → AreLines p rs
  lines [] f h = tt
  lines (r ∷ rs) f h = (record { name = name_in p r.0 h.0; low = (int_low r.1 f.0, int_high r.1 f.0); high = (int_low r.2 f.1, int_high r.2 f.1) }, lines rs f.2 h.3)

  module _ (m : ℕ) where
    fine_extents : (es : PlainExprs) → AllLow p m es → AreFine p es
    fine_extents no_exprs f = tt
    fine_extents (more_exprs e es) f = (f.0.is_fine, fine_extents es f.1)

    subscripts : (es : PlainExprs) → AllLow p m es → 1 ≤ count es → AreProper p es → AreSubscripts p es
    subscripts no_exprs f some h = absurd (omega arith)
    subscripts (more_exprs e es) f some h = tree_exprs p (more_exprs e es) (fine_extents (more_exprs e es) f) h

    pub params : (ps : List PlainParam) → LowParams p m ps → ProperParams p ps → AreParams p ps
    params [] f h = tt
    params (int_param x ∷ ps) f h = (name_in p x h.0, params ps f.1 h.1)
    params (array_param x c es ∷ ps) f h =
        let k = same_count es in
        let most = f.0.most in
        (name_in p x h.0.0, subscripts es f.0.low f.0.some h.0.1, omega arith, params ps f.1 h.1)

    extents_low : (es : PlainExprs) → AllLow p m es → heights es ≤ m
    extents_low no_exprs f = omega arith
    extents_low (more_exprs e es) f = (let a = f.0.low in let b = extents_low es f.1 in omega arith)

    pub params_low : (ps : List PlainParam) → LowParams p m ps → extents_height ps ≤ m
    params_low [] f = omega arith
    params_low (int_param x ∷ ps) f = params_low ps f.1
    params_low (array_param x c es ∷ ps) f = (let a = extents_low es f.0.low in let b = params_low ps f.1 in omega arith)

  pub words_in : (ws : List (Word × ℕ)) → ProperWords p ws → AreWords p ws
  words_in [] h = tt
  words_in (w ∷ ws) h = (name_in p w.0 h.0, h.1, words_in ws h.2)

  pub names_in : (xs : List Word) → ProperWides p xs → AreNames p xs
  names_in [] h = tt
  names_in (x ∷ xs) h = (name_in p x h.0, names_in xs h.1)
