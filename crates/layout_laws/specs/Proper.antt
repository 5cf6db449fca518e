-- Names that are names, and numbers that are literals: what the bytes of a unit ask of its tree besides.
use Rattle.std.specs.Prelude.{◌≡◌, ℕ, suc, ◌^◌, ◌<◌, ◌≤◌, Bool, true, cond, List, [], ◌∷◌, length, Some, None, ℤ, pos, negsuc}
use Rattle.c_tree.specs.Names.{arrays_in}
use Rattle.c_tree.specs.Plain.{Word, PlainExpr, lit, var, cell, un, bin, cast, test, umin, umax, least, greatest, widen, big, PlainExprs, no_exprs, more_exprs, PlainTest, PlainStmt, loop, choice, assign, table, begin, check, verdict, PlainStmts, no_stmts, more_stmts, PlainParam, int_param, array_param, PlainUnit}
use Rattle.c_tree.specs.Reserved.{is_word}
use Rattle.c_tree.specs.Grammar.Statements.{set_op}
use Rattle.c_tree.specs.Grammar.Symbols.{words}
use Rattle.c_tree.specs.Grammar.Texts.{find_symbol}
use Rattle.layout_laws.specs.Spell.{set_mark}

-- The test says whether the text is a printed one.
pub record IsName (p : Bool) (x : Word) : Type 0 where
  pub word : is_word x ≡ true
  pub fits : length x ≤ cond p 262 255
  pub no_symbol : find_symbol words x ≡ None

-- ---- expressions

abbrev mutual
  pub IsProper : Bool → PlainExpr → Type 0
  IsProper p (lit n) = n < 2 ^ 64
  IsProper p (var x) = IsName p x
  IsProper p (cell x us) = IsName p x × AreProper p us
  IsProper p (un op a) = IsProper p a
  IsProper p (bin op a b) = IsProper p a × IsProper p b
  IsProper p (cast a) = IsProper p a
  IsProper p (test rel a b) = IsProper p a × IsProper p b
  IsProper p (umin a b) = IsProper p a × IsProper p b
  IsProper p (umax a b) = IsProper p a × IsProper p b
  IsProper p (least a b) = IsProper p a × IsProper p b
  IsProper p (greatest a b) = IsProper p a × IsProper p b
  IsProper p (widen a) = IsProper p a
  IsProper p (big high low) = (high < 2 ^ 64) × (low < 2 ^ 64)

  pub AreProper : Bool → PlainExprs → Type 0
  AreProper p no_exprs = Unit {0}
  AreProper p (more_exprs u us) = IsProper p u × AreProper p us

-- ---- statements

abbrev pub ProperTests : Bool → List PlainTest → Type 0
ProperTests p [] = Unit {0}
ProperTests p (c ∷ cs) = IsProper p c.1 × IsProper p c.2 × ProperTests p cs

-- a name or a cell
abbrev pub ProperPlace : Bool → PlainExpr → Type 0
ProperPlace p (var x) = IsName p x
ProperPlace p (cell x us) = IsName p x × AreProper p us
ProperPlace p _ = ⊥

abbrev mutual
  pub ProperStmt : Bool → PlainStmt → Type 0
  ProperStmt p (loop x lo rel hi body) = IsName p x × IsProper p lo × IsProper p hi × ProperStmts p body
  ProperStmt p (choice cs us vs) = ProperTests p cs × ProperStmts p us × ProperStmts p vs
  ProperStmt p (assign x op u) = ProperPlace p x × (set_op (set_mark op) ≡ Some op) × IsProper p u
  ProperStmt p (table x u) = IsName p x × IsProper p u
  ProperStmt p begin = Unit {0}
  ProperStmt p (check x u a) = IsName p x × IsProper p u × (a < 48)
  ProperStmt p verdict = p ≡ true

  pub ProperStmts : Bool → PlainStmts → Type 0
  ProperStmts p no_stmts = Unit {0}
  ProperStmts p (more_stmts u us) = ProperStmt p u × ProperStmts p us

-- ---- heads

abbrev pub ProperInt : ℤ → Type 0
ProperInt (pos n) = n < 2 ^ 64
ProperInt (negsuc n) = suc n < 2 ^ 64

abbrev pub ProperRanges : Bool → List (Word × ℤ × ℤ) → Type 0
ProperRanges p [] = Unit {0}
ProperRanges p (r ∷ rs) = IsName p r.0 × ProperInt r.1 × ProperInt r.2 × ProperRanges p rs

abbrev pub ProperParam : Bool → PlainParam → Type 0
ProperParam p (int_param x) = IsName p x
ProperParam p (array_param x constant es) = IsName p x × AreProper p es

abbrev pub ProperParams : Bool → List PlainParam → Type 0
ProperParams p [] = Unit {0}
ProperParams p (x ∷ xs) = ProperParam p x × ProperParams p xs

abbrev pub ProperWords : Bool → List (Word × ℕ) → Type 0
ProperWords p [] = Unit {0}
ProperWords p (w ∷ ws) = IsName p w.0 × (w.1 < 2 ^ 64) × ProperWords p ws

abbrev pub ProperWides : Bool → List Word → Type 0
ProperWides p [] = Unit {0}
ProperWides p (x ∷ xs) = IsName p x × ProperWides p xs

-- ---- units

-- The verdict of a printed unit has the numbers of its arrays.
pub record ProperUnit (p : Bool) (u : PlainUnit) : Type 0 where
  pub ranges : ProperRanges p u.ranges
  pub name : IsName p u.name
  pub params : ProperParams p u.params
  pub words : ProperWords p u.words
  pub wides : ProperWides p u.wides
  pub body : ProperStmts p u.body
  pub arrays : p ≡ true → length (arrays_in u.params) ≤ 2 ^ 64
