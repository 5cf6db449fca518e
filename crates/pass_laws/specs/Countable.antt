-- What a counting pass asks of a source: affine bounds, tests and subscripts over the names in scope,
-- fresh loop variables, and known arrays whose cells have one subscript for each extent. A subscript of a read may be a cell of an index array.
use Rattle.std.specs.Prelude.{◌≡◌, ℕ, suc, ◌^◌, ◌<◌, true, false, List, [], ◌∷◌, length, ℤ, Some}
use Rattle.c_tree.specs.Plain.{Word, PlainExpr, lit, var, cell, un, bin, cast, test, umin, umax, least, greatest, widen, big, PlainExprs, no_exprs, more_exprs, PlainTest, PlainStmt, loop, choice, assign, table, begin, check, verdict, PlainStmts, no_stmts, more_stmts}
use Rattle.c_tree.specs.Values.{Vars, is_in}
use Rattle.c_tree.specs.Arrays.{Array, array_named, extents_at}
use Rattle.run_laws.specs.Sources.{HasNoCells}
use Rattle.instrumentation_laws.specs.OwnNames.{own}

-- parameters and loops have names of the source
abbrev pub AreOwn : Vars → Type 0
AreOwn [] = Unit {0}
AreOwn (v ∷ vs) = (own v.0 ≡ true) × AreOwn vs

-- each name is a parameter or the variable of a loop around, and no cell is read
abbrev pub IsAffine : PlainExpr → Vars → Type 0
IsAffine (lit n) vs = Unit {0}
IsAffine (var x) vs = is_in vs x ≡ true
IsAffine (cell x at) vs = ⊥
IsAffine (un op a) vs = IsAffine a vs
IsAffine (bin op a b) vs = IsAffine a vs × IsAffine b vs
IsAffine (cast a) vs = ⊥
IsAffine (test rel a b) vs = ⊥
IsAffine (umin a b) vs = ⊥
IsAffine (umax a b) vs = ⊥
IsAffine (least a b) vs = IsAffine a vs × IsAffine b vs
IsAffine (greatest a b) vs = IsAffine a vs × IsAffine b vs
IsAffine (widen a) vs = ⊥
IsAffine (big high low) vs = ⊥

abbrev pub AreAffine : PlainExprs → Vars → Type 0
AreAffine no_exprs vs = Unit {0}
AreAffine (more_exprs e es) vs = IsAffine e vs × AreAffine es vs

-- no cell stands in them
abbrev pub AllHaveNoCells : PlainExprs → Type 0
AllHaveNoCells no_exprs = Unit {0}
AllHaveNoCells (more_exprs e es) = HasNoCells e × AllHaveNoCells es

abbrev pub AreAffineTests : List PlainTest → Vars → Type 0
AreAffineTests [] vs = Unit {0}
AreAffineTests (t ∷ ts) vs = (IsAffine t.1 vs × IsAffine t.2 vs) × AreAffineTests ts vs

-- how many subscripts stand in a list
abbrev pub rank : PlainExprs → ℕ
rank no_exprs = 0
rank (more_exprs e es) = suc (rank es)

-- a cell of an array of the run, whose number the text knows, with an affine subscript for each extent
pub record IsCell (arrays : List Array) (number : Word → ℕ) (x : Word) (at : PlainExprs) (vs : Vars) : Type 0 where
  pub array : ℕ × Array
  pub named : array_named arrays x ≡ Some array
  pub numbered : number x ≡ array.0
  pub affine : AreAffine at vs
  pub ranked : rank at ≡ length (extents_at arrays (number x))

-- a subscript of a read: affine, or a cell of an index array
abbrev pub IsIndexed : List Array → (Word → ℕ) → PlainExpr → Vars → Type 0
IsIndexed arrays number (cell p at) vs = IsCell arrays number p at vs
IsIndexed arrays number e vs = IsAffine e vs

abbrev pub AreIndexed : List Array → (Word → ℕ) → PlainExprs → Vars → Type 0
AreIndexed arrays number no_exprs vs = Unit {0}
AreIndexed arrays number (more_exprs e es) vs = IsIndexed arrays number e vs × AreIndexed arrays number es vs

-- a cell that is read, with such a subscript for each extent
pub record IsRead (arrays : List Array) (number : Word → ℕ) (x : Word) (at : PlainExprs) (vs : Vars) : Type 0 where
  pub array : ℕ × Array
  pub named : array_named arrays x ≡ Some array
  pub numbered : number x ≡ array.0
  pub indexed : AreIndexed arrays number at vs
  pub ranked : rank at ≡ length (extents_at arrays (number x))

-- an expression that gives a word: scalars, literals and cells
abbrev pub IsData : List Array → (Word → ℕ) → PlainExpr → Vars → Type 0
IsData arrays number (lit n) vs = Unit {0}
IsData arrays number (var x) vs = Unit {0}
IsData arrays number (cell x at) vs = IsRead arrays number x at vs
IsData arrays number (un op a) vs = IsData arrays number a vs
IsData arrays number (bin op a b) vs = IsData arrays number a vs × IsData arrays number b vs
IsData arrays number (cast a) vs = IsData arrays number a vs
IsData arrays number (test rel a b) vs = IsData arrays number a vs × IsData arrays number b vs
IsData arrays number (umin a b) vs = IsData arrays number a vs × IsData arrays number b vs
IsData arrays number (umax a b) vs = IsData arrays number a vs × IsData arrays number b vs
IsData arrays number (least a b) vs = ⊥
IsData arrays number (greatest a b) vs = ⊥
IsData arrays number (widen a) vs = ⊥
IsData arrays number (big high low) vs = ⊥

abbrev pub IsTarget : List Array → (Word → ℕ) → PlainExpr → Vars → Type 0
IsTarget arrays number (var x) vs = Unit {0}
IsTarget arrays number (cell x at) vs = IsCell arrays number x at vs
IsTarget arrays number _ vs = ⊥

-- a name of the source that no parameter and no loop around has; the loops nest less than 2^63 deep
pub record IsFresh (x : Word) (vs : Vars) : Type 0 where
  pub own_name : own x ≡ true
  pub fresh : is_in vs x ≡ false
  pub shallow : length vs < 2 ^ 63

-- a source that passes can count
abbrev mutual
  pub IsCountable : List Array → (Word → ℕ) → PlainStmt → Vars → Type 0
  IsCountable arrays number (loop x lo rel hi body) vs =
      IsAffine lo vs × IsAffine hi vs × IsFresh x vs × ((v : ℤ) → AreCountable arrays number body ((x, v) ∷ vs))
  IsCountable arrays number (choice ts first other) vs = AreAffineTests ts vs × AreCountable arrays number first vs × AreCountable arrays number other vs
  IsCountable arrays number (assign t op e) vs = IsTarget arrays number t vs × IsData arrays number e vs
  IsCountable arrays number (table x len) vs = ⊥
  IsCountable arrays number begin vs = ⊥
  IsCountable arrays number (check x extent a) vs = ⊥
  IsCountable arrays number verdict vs = ⊥

  pub AreCountable : List Array → (Word → ℕ) → PlainStmts → Vars → Type 0
  AreCountable arrays number no_stmts vs = Unit {0}
  AreCountable arrays number (more_stmts s ss) vs = IsCountable arrays number s vs × AreCountable arrays number ss vs
