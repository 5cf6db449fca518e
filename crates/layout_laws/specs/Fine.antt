-- The trees that the grammar has, whatever their names and numbers.
use Rattle.std.specs.Prelude.{◌≡◌, ℕ, suc, ◌^◌, ◌<◌, ◌≤◌, Bool, true, false, List, [], ◌∷◌, length, Some, None, ℤ, pos, negsuc, ◌⊎◌}
use Rattle.c_tree.specs.Names.{arrays_in}
use Rattle.c_tree.specs.Plain.{Word, PlainExpr, lit, var, cell, un, bin, cast, test, umin, umax, least, greatest, widen, big, PlainExprs, no_exprs, more_exprs, PlainTest, PlainStmt, loop, choice, assign, table, begin, check, verdict, PlainStmts, no_stmts, more_stmts, PlainParam, int_param, array_param, PlainUnit}
use Rattle.c_tree.specs.Grammar.Expressions.{height}
use Rattle.c_tree.specs.Grammar.Statements.{chain, one, set_op, bounds, stmts_height}
use Rattle.c_tree.specs.Grammar.Units.{all_checks_below}
use Rattle.layout_laws.specs.Spell.{set_mark}

-- ---- expressions

-- The test says whether the text is a printed one. A cell has a subscript or more.
abbrev mutual
  pub IsFine : Bool → PlainExpr → Type 0
  IsFine p (lit n) = Unit {0}
  IsFine p (var x) = Unit {0}
  IsFine p (cell x no_exprs) = ⊥
  IsFine p (cell x (more_exprs u us)) = IsFine p u × AreFine p us
  IsFine p (un op a) = IsFine p a
  IsFine p (bin op a b) = IsFine p a × IsFine p b
  IsFine p (cast a) = IsFine p a
  IsFine p (test rel a b) = IsFine p a × IsFine p b
  IsFine p (umin a b) = IsFine p a × IsFine p b
  IsFine p (umax a b) = IsFine p a × IsFine p b
  IsFine p (least a b) = (p ≡ true) × IsFine p a × IsFine p b
  IsFine p (greatest a b) = (p ≡ true) × IsFine p a × IsFine p b
  IsFine p (widen a) = (p ≡ true) × IsFine p a
  IsFine p (big high low) = p ≡ true

  pub AreFine : Bool → PlainExprs → Type 0
  AreFine p no_exprs = Unit {0}
  AreFine p (more_exprs u us) = IsFine p u × AreFine p us

-- of at most this height
pub record Low (p : Bool) (m : ℕ) (u : PlainExpr) : Type 0 where
  pub is_fine : IsFine p u
  pub low : height u ≤ m

-- ---- statements

abbrev pub LowTests : Bool → ℕ → List PlainTest → Type 0
LowTests p m [] = Unit {0}
LowTests p m (c ∷ cs) = Low p m c.1 × Low p m c.2 × LowTests p m cs

-- one test or more
abbrev pub FineTests : Bool → ℕ → List PlainTest → Type 0
FineTests p m [] = ⊥
FineTests p m (c ∷ cs) = LowTests p m (c ∷ cs)

-- the target of an assignment
abbrev pub FinePlace : Bool → ℕ → PlainExpr → Type 0
FinePlace p m (var x) = Unit {0}
FinePlace p m (cell x us) = Low p m (cell x us)
FinePlace p m _ = ⊥

-- The number says how high an expression may be. Tables, `begin` and the verdict stand at the top level alone.
abbrev mutual
  pub FineStmt : Bool → ℕ → PlainStmt → Type 0
  FineStmt p m (loop v lo rel hi body) = (bounds rel ≡ true) × Low p m lo × Low p m hi × FineStmts p m body
  FineStmt p m (choice cs us vs) = FineTests p m cs × FineStmts p m us × FineStmts p m vs
  FineStmt p m (assign x op u) = FinePlace p m x × (set_op (set_mark op) ≡ Some op) × Low p m u
  FineStmt p m (check x u a) = (p ≡ true) × (a < 48) × Low p m u
  FineStmt p m (table x u) = ⊥
  FineStmt p m begin = ⊥
  FineStmt p m verdict = ⊥

  pub FineStmts : Bool → ℕ → PlainStmts → Type 0
  FineStmts p m no_stmts = Unit {0}
  FineStmts p m (more_stmts u us) = FineStmt p m u × FineStmts p m us

-- a table with its length
abbrev pub FineTable : Bool → ℕ → PlainStmt → Type 0
FineTable p m a = (x : Word) × (e : PlainExpr) × (a ≡ table x e) × Low p m e

-- statements of the top level, tables among them
abbrev pub FineTop : Bool → ℕ → PlainStmts → Type 0
FineTop p m no_stmts = Unit {0}
FineTop p m (more_stmts a rest) = (FineStmt p m a ⊎ FineTable p m a) × FineTop p m rest

-- ---- heads

-- within -2^63 to 2^63 - 1
abbrev pub FineInt : ℤ → Type 0
FineInt (pos n) = n < 2 ^ 63
FineInt (negsuc n) = suc n ≤ 2 ^ 63

abbrev pub FineRanges : List (Word × ℤ × ℤ) → Type 0
FineRanges [] = Unit {0}
FineRanges (r ∷ rs) = FineInt r.1 × FineInt r.2 × FineRanges rs

abbrev pub count : PlainExprs → ℕ
count no_exprs = 0
count (more_exprs e es) = suc (count es)

abbrev pub AllLow : Bool → ℕ → PlainExprs → Type 0
AllLow p m no_exprs = Unit {0}
AllLow p m (more_exprs e es) = Low p m e × AllLow p m es

-- one to three extents, where the number is 2
pub record FineDims (p : Bool) (m k : ℕ) (es : PlainExprs) : Type 0 where
  pub low : AllLow p m es
  pub some : 1 ≤ count es
  pub most : count es ≤ suc k

abbrev pub FineParam : Bool → ℕ → PlainParam → Type 0
FineParam p m (int_param x) = Unit {0}
FineParam p m (array_param x constant es) = FineDims p m 2 es

abbrev pub LowParams : Bool → ℕ → List PlainParam → Type 0
LowParams p m [] = Unit {0}
LowParams p m (x ∷ xs) = FineParam p m x × LowParams p m xs

-- one parameter or more
abbrev pub FineParams : Bool → ℕ → List PlainParam → Type 0
FineParams p m [] = ⊥
FineParams p m (x ∷ xs) = LowParams p m (x ∷ xs)

-- ---- units

-- a unit of the grammar, but for its names and numbers
pub data FineUnit : PlainUnit → Type 0 where
  source : {rs : List (Word × ℤ × ℤ)} {ps : List PlainParam} {ws : List (Word × ℕ)} {us : PlainStmts} (f : Word)
      → FineRanges rs → FineParams false 64 ps → FineStmts false 64 us → stmts_height us ≤ 64
      → FineUnit (record { version = None; ranges = rs; name = f; params = ps; words = ws; wides = []; body = us })
  printed : {rs : List (Word × ℤ × ℤ)} {ps : List PlainParam} {ws : List (Word × ℕ)} {xs : List Word} (f : Word) (us vs : PlainStmts)
      → FineRanges rs → FineParams true 256 ps → FineTop true 256 us → FineTop true 256 vs → stmts_height us ≤ 160 → stmts_height vs ≤ 160
      → all_checks_below (length (arrays_in ps)) us ≡ true → all_checks_below (length (arrays_in ps)) vs ≡ true
      → FineUnit (record { version = Some 1; ranges = rs; name = f; params = ps; words = ws; wides = xs; body = chain us (more_stmts begin (chain vs (one verdict))) })
