-- The trees of the grammar: what stands in the tree of every text, of a source and of a printed one.
use Rattle.std.specs.Prelude.{◌≡◌, ◌≢◌, ℕ, ◌^◌, ◌<◌, ◌≤◌, ◌≤ℤ◌, ◌<ℤ◌, ℤ, pos, neg_ℤ, Bool, true, false, cond, List, [], ◌∷◌, ◌++◌, length, Option, Some, None, bytes_eq}
use Rattle.std.specs.List.{list_any}
use Rattle.c_tree.specs.Plain.{Word, PlainExpr, lit, var, cell, un, bin, cast, test, umin, umax, least, greatest, widen, big, PlainExprs, no_exprs, more_exprs, PlainTest, PlainStmt, loop, choice, assign, table, begin, check, verdict, PlainStmts, no_stmts, more_stmts, PlainParam, int_param, array_param, PlainUnit}
use Rattle.c_tree.specs.Names.{arrays_in}
use Rattle.c_tree.specs.Reserved.{is_word, grammar_words}
use Rattle.c_tree.specs.Grammar.Expressions.{limit}
use Rattle.c_tree.specs.Grammar.Statements.{bounds, stmt_limit}
use Rattle.c_tree.specs.Trees.{stmts_of}
use Rattle.c_tree.specs.declared.expr.BinOp.{BinOp}
use Rattle.c_tree.specs.declared.expr.BinOp.TheVariants.{Add, Sub, Mul, And, Xor, Or}
use Rattle.acceptance.specs.Head.{list_of}
use Rattle.acceptance.specs.Heights.{IsLow}

-- The test says whether the text is a printed one.
abbrev pub word_limit : Bool → ℕ
word_limit p = cond p 262 255

-- a word, and none of the grammar's own
pub record IsNameIn (p : Bool) (x : Word) : Type 0 where
  pub word : is_word x ≡ true
  pub free : list_any (bytes_eq x) grammar_words ≡ false
  pub short : length x ≤ word_limit p

-- ---- expressions

abbrev mutual
  pub IsTree : Bool → PlainExpr → Type 0
  IsTree p (lit n) = n < 2 ^ 64
  IsTree p (var x) = IsNameIn p x
  IsTree p (cell x at) = IsNameIn p x × AreSubscripts p at
  IsTree p (un op a) = IsTree p a
  IsTree p (bin op a b) = IsTree p a × IsTree p b
  IsTree p (cast a) = IsTree p a
  IsTree p (test rel a b) = IsTree p a × IsTree p b
  IsTree p (umin a b) = IsTree p a × IsTree p b
  IsTree p (umax a b) = IsTree p a × IsTree p b
  IsTree p (least a b) = (p ≡ true) × IsTree p a × IsTree p b
  IsTree p (greatest a b) = (p ≡ true) × IsTree p a × IsTree p b
  IsTree p (widen a) = (p ≡ true) × IsTree p a
  IsTree p (big high low) = (p ≡ true) × (high < 2 ^ 64) × (low < 2 ^ 64)

  -- one at least
  pub AreSubscripts : Bool → PlainExprs → Type 0
  AreSubscripts p no_exprs = ⊥
  AreSubscripts p (more_exprs e es) = IsTree p e × AreTrees p es

  pub AreTrees : Bool → PlainExprs → Type 0
  AreTrees p no_exprs = Unit {0}
  AreTrees p (more_exprs e es) = IsTree p e × AreTrees p es

abbrev pub AreSides : Bool → List PlainTest → Type 0
AreSides p [] = Unit {0}
AreSides p (t ∷ ts) = (IsTree p t.1 × IsTree p t.2) × AreSides p ts

-- one comparison at least
abbrev pub IsCondition : Bool → List PlainTest → Type 0
IsCondition p [] = ⊥
IsCondition p (t ∷ ts) = (IsTree p t.1 × IsTree p t.2) × AreSides p ts

-- ---- statements

-- a name or a cell
abbrev pub is_place : PlainExpr → Bool
is_place (var x) = true
is_place (cell x at) = true
is_place _ = false

-- `=`, `+=`, `-=`, `*=`, `&=`, `^=` and `|=`
abbrev pub is_assigning : Option BinOp → Bool
is_assigning None = true
is_assigning (Some Add) = true
is_assigning (Some Sub) = true
is_assigning (Some Mul) = true
is_assigning (Some And) = true
is_assigning (Some Xor) = true
is_assigning (Some Or) = true
is_assigning (Some _) = false

-- What stands in loops and choices, and in a source everywhere. The number says how many arrays there are for checks.
abbrev mutual
  pub IsInner : Bool → ℕ → PlainStmt → Type 0
  IsInner p n (loop x lo rel hi body) = IsNameIn p x × (bounds rel ≡ true) × IsTree p lo × IsTree p hi × AreInner p n body
  IsInner p n (choice ts first other) = IsCondition p ts × AreInner p n first × AreInner p n other
  IsInner p n (assign target op e) = (is_place target ≡ true) × (is_assigning op ≡ true) × IsTree p target × IsTree p e
  IsInner p n (table x len) = ⊥
  IsInner p n begin = ⊥
  IsInner p n (check x extent a) = (p ≡ true) × IsNameIn p x × IsTree p extent × (a < 48) × (a < n)
  IsInner p n verdict = ⊥

  pub AreInner : Bool → ℕ → PlainStmts → Type 0
  AreInner p n no_stmts = Unit {0}
  AreInner p n (more_stmts s ss) = IsInner p n s × AreInner p n ss

-- at the top level of a printed text: tables too
abbrev pub IsTop : ℕ → PlainStmt → Type 0
IsTop n (table x len) = IsNameIn true x × IsTree true len
IsTop n s = IsInner true n s

abbrev pub AreTop : ℕ → List PlainStmt → Type 0
AreTop n [] = Unit {0}
AreTop n (s ∷ ss) = IsTop n s × AreTop n ss

-- ---- heads

-- a range line, of numbers within -2^63 to 2^63 - 1
pub record IsLine (p : Bool) (r : Word × ℤ × ℤ) : Type 0 where
  pub name : IsNameIn p r.0
  pub low : (neg_ℤ (pos (2 ^ 63)) ≤ℤ r.1) × (r.1 <ℤ pos (2 ^ 63))
  pub high : (neg_ℤ (pos (2 ^ 63)) ≤ℤ r.2) × (r.2 <ℤ pos (2 ^ 63))

abbrev pub AreLines : Bool → List (Word × ℤ × ℤ) → Type 0
AreLines p [] = Unit {0}
AreLines p (r ∷ rs) = IsLine p r × AreLines p rs

-- an array has one to three extents
abbrev pub AreParams : Bool → List PlainParam → Type 0
AreParams p [] = Unit {0}
AreParams p (int_param x ∷ ps) = IsNameIn p x × AreParams p ps
AreParams p (array_param x constant extents ∷ ps) = IsNameIn p x × AreSubscripts p extents × (length (list_of extents) ≤ 3) × AreParams p ps

abbrev pub AreWords : Bool → List (Word × ℕ) → Type 0
AreWords p [] = Unit {0}
AreWords p (w ∷ ws) = IsNameIn p w.0 × (w.1 < 2 ^ 64) × AreWords p ws

abbrev pub AreNames : Bool → List Word → Type 0
AreNames p [] = Unit {0}
AreNames p (x ∷ xs) = IsNameIn p x × AreNames p xs

pub record IsHead (p : Bool) (u : PlainUnit) : Type 0 where
  pub ranges : AreLines p u.ranges
  pub name : IsNameIn p u.name
  pub some_param : u.params ≢ []
  pub params : AreParams p u.params
  pub words : AreWords p u.words
  pub wides : AreNames p u.wides

-- ---- units

-- the tree of a source
pub record IsSourceTree (u : PlainUnit) : Type 0 where
  pub version : u.version ≡ None
  pub no_wides : u.wides ≡ []
  pub head : IsHead false u
  pub body : AreInner false 0 u.body
  pub low : IsLow (stmt_limit false) (limit false) u

-- The tree of a printed text: one `begin`, and the verdict last. The verdict has the number of each array as a literal.
pub record IsPrintedTree (u : PlainUnit) : Type 0 where
  pub version : u.version ≡ Some 1
  pub head : IsHead true u
  pub few_arrays : length (arrays_in u.params) ≤ 2 ^ 64
  pub before : List PlainStmt
  pub after : List PlainStmt
  pub parts : u.body ≡ stmts_of (before ++ begin ∷ (after ++ verdict ∷ []))
  pub before_trees : AreTop (length (arrays_in u.params)) before
  pub after_trees : AreTop (length (arrays_in u.params)) after
  pub low : IsLow (stmt_limit true) (limit true) u
