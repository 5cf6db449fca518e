-- The sources that the laws of a run speak of: subscripts are affine, and each signed value is the same modulo 2^64
-- and as a whole number.
use Rattle.std.specs.Prelude.{◌≡◌, ◌⊎◌, ℕ, true, false, List, ◌∷◌, Some, bytes_eq}
use Rattle.std.specs.List.{AllByRecursion, list_any}
use Rattle.c_tree.specs.Plain.{Word, PlainExpr, lit, var, cell, un, bin, cast, test, umin, umax, least, greatest, widen, big, PlainExprs, no_exprs, more_exprs, PlainTest, PlainStmt, loop, choice, assign, table, begin, check, verdict, PlainStmts, no_stmts, more_stmts}
use Rattle.c_tree.specs.Kinds.{join, is_signed, is_word}
use Rattle.c_tree.specs.Values.{Vars, signed, exact, loop_values, kind}
use Rattle.c_tree.specs.Arrays.{Array, array_named}

-- ---- signed expressions

-- no step of a signed expression wraps
abbrev pub IsExact : PlainExpr → Vars → Type 0
IsExact e vs = signed e vs ≡ exact e vs

-- no cell stands in it
abbrev pub HasNoCells : PlainExpr → Type 0
HasNoCells (lit n) = Unit {0}
HasNoCells (var x) = Unit {0}
HasNoCells (cell x at) = ⊥
HasNoCells (un op a) = HasNoCells a
HasNoCells (bin op a b) = HasNoCells a × HasNoCells b
HasNoCells (cast a) = HasNoCells a
HasNoCells (test rel a b) = HasNoCells a × HasNoCells b
HasNoCells (umin a b) = HasNoCells a × HasNoCells b
HasNoCells (umax a b) = HasNoCells a × HasNoCells b
HasNoCells (least a b) = HasNoCells a × HasNoCells b
HasNoCells (greatest a b) = HasNoCells a × HasNoCells b
HasNoCells (widen a) = HasNoCells a
HasNoCells (big high low) = Unit {0}

-- a subscript
pub record IsAffine (e : PlainExpr) (vs : Vars) : Type 0 where
  pub no_cells : HasNoCells e
  pub no_word : is_word (kind vs e) ≡ false
  pub fits : IsExact e vs

abbrev pub AreAffine : PlainExprs → Vars → Type 0
AreAffine no_exprs vs = Unit {0}
AreAffine (more_exprs e es) vs = IsAffine e vs × AreAffine es vs

-- a comparison of two signed expressions
pub record IsSignedTest (t : PlainTest) (vs : Vars) : Type 0 where
  pub no_word : is_word (join (kind vs t.1) (kind vs t.2)) ≡ false
  pub left : IsExact t.1 vs
  pub right : IsExact t.2 vs

-- ---- data expressions

-- the name of an array
pub record IsArray (arrays : List Array) (x : Word) : Type 0 where
  pub array : ℕ × Array
  pub named : array_named arrays x ≡ Some array

-- the cast of a signed expression
pub record IsSignedCast (e : PlainExpr) (vs : Vars) : Type 0 where
  pub no_cells : HasNoCells e
  pub is_signed : is_signed (kind vs e) ≡ true
  pub fits : IsExact e vs

-- a data expression: its cells are of arrays that are declared, with affine subscripts
abbrev pub IsData : List Array → PlainExpr → Vars → Type 0
IsData arrays (lit n) vs = Unit {0}
IsData arrays (var x) vs = Unit {0}
IsData arrays (cell x at) vs = IsArray arrays x × AreAffine at vs
IsData arrays (un op a) vs = IsData arrays a vs
IsData arrays (bin op a b) vs = IsData arrays a vs × IsData arrays b vs
IsData arrays (cast a) vs = IsSignedCast a vs ⊎ ((is_signed (kind vs a) ≡ false) × IsData arrays a vs)
IsData arrays (test rel a b) vs = IsData arrays a vs × IsData arrays b vs
IsData arrays (umin a b) vs = IsData arrays a vs × IsData arrays b vs
IsData arrays (umax a b) vs = IsData arrays a vs × IsData arrays b vs
IsData arrays (least a b) vs = Unit {0}
IsData arrays (greatest a b) vs = Unit {0}
IsData arrays (widen a) vs = ⊥
IsData arrays (big high low) vs = Unit {0}

-- ---- statements

-- a scalar that isn't wide, or a cell
abbrev pub IsTarget : List Array → List Word → PlainExpr → Vars → Type 0
IsTarget arrays wides (var x) vs = list_any (bytes_eq x) wides ≡ false
IsTarget arrays wides (cell x at) vs = IsArray arrays x × AreAffine at vs
IsTarget arrays wides _ vs = ⊥

-- The statements of a source, for the loop values that it goes through; both branches of a choice.
abbrev mutual
  pub IsSource : List Array → List Word → PlainStmt → Vars → Type 0
  IsSource arrays wides (loop x lo rel hi body) vs =
      IsExact lo vs × IsExact hi vs × AllByRecursion (λ v. AreSource arrays wides body ((x, v) ∷ vs)) (loop_values (exact lo vs) rel (exact hi vs))
  IsSource arrays wides (choice ts first other) vs =
      AllByRecursion (λ t. IsSignedTest t vs) ts × AreSource arrays wides first vs × AreSource arrays wides other vs
  IsSource arrays wides (assign target op e) vs = IsTarget arrays wides target vs × IsData arrays e vs
  IsSource arrays wides (table x len) vs = ⊥
  IsSource arrays wides begin vs = ⊥
  IsSource arrays wides (check x extent a) vs = ⊥
  IsSource arrays wides verdict vs = ⊥

  pub AreSource : List Array → List Word → PlainStmts → Vars → Type 0
  AreSource arrays wides no_stmts vs = Unit {0}
  AreSource arrays wides (more_stmts s ss) vs = IsSource arrays wides s vs × AreSource arrays wides ss vs
