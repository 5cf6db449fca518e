-- What the accesses of a source depend on, index arrays included. Its instances depend on parameters alone, since no memory stands in their definition.
use Rattle.std.specs.Prelude.{◌≡◌, ◌≢◌, ◌⊎◌, ℕ, Bool, List, map, ℤ, Some}
use Rattle.c_tree.specs.Plain.{Word, PlainExpr, lit, var, cell, un, bin, cast, test, umin, umax, least, greatest, widen, big, PlainExprs, no_exprs, more_exprs, PlainStmt, loop, choice, assign, table, begin, check, verdict, PlainStmts, no_stmts, more_stmts, PlainUnit}
use Rattle.c_tree.specs.Values.{Vars}
use Rattle.c_tree.specs.Arrays.{Array, Memory, array_named, vars_of}
use Rattle.c_tree.specs.Inputs.{arrays_for}
use Rattle.c_tree.specs.Instances.{Tagged, core_of, accesses}
use Rattle.balance_laws.specs.Laws.{SameFor}

-- ---- cells and their subscripts

-- a cell of x with these subscripts stands in an expression, in a subscript or not
abbrev mutual
  pub StandsIn : Word → PlainExprs → PlainExpr → Type 0
  StandsIn x at (lit n) = ⊥
  StandsIn x at (var y) = ⊥
  StandsIn x at (cell y es) = ((x ≡ y) × (at ≡ es)) ⊎ StandsAmong x at es
  StandsIn x at (un op a) = StandsIn x at a
  StandsIn x at (bin op a b) = StandsIn x at a ⊎ StandsIn x at b
  StandsIn x at (cast a) = StandsIn x at a
  StandsIn x at (test rel a b) = StandsIn x at a ⊎ StandsIn x at b
  StandsIn x at (umin a b) = StandsIn x at a ⊎ StandsIn x at b
  StandsIn x at (umax a b) = StandsIn x at a ⊎ StandsIn x at b
  StandsIn x at (least a b) = StandsIn x at a ⊎ StandsIn x at b
  StandsIn x at (greatest a b) = StandsIn x at a ⊎ StandsIn x at b
  StandsIn x at (widen a) = StandsIn x at a
  StandsIn x at (big high low) = ⊥

  pub StandsAmong : Word → PlainExprs → PlainExprs → Type 0
  StandsAmong x at no_exprs = ⊥
  StandsAmong x at (more_exprs e es) = StandsIn x at e ⊎ StandsAmong x at es

-- in an assignment of a body
abbrev mutual
  pub StandsInStmt : Word → PlainExprs → PlainStmt → Type 0
  StandsInStmt x at (loop y lo rel hi body) = StandsInStmts x at body
  StandsInStmt x at (choice ts first other) = StandsInStmts x at first ⊎ StandsInStmts x at other
  StandsInStmt x at (assign target op e) = StandsIn x at target ⊎ StandsIn x at e
  StandsInStmt x at (table y len) = ⊥
  StandsInStmt x at begin = ⊥
  StandsInStmt x at (check y extent a) = ⊥
  StandsInStmt x at verdict = ⊥

  pub StandsInStmts : Word → PlainExprs → PlainStmts → Type 0
  StandsInStmts x at no_stmts = ⊥
  StandsInStmts x at (more_stmts s ss) = StandsInStmt x at s ⊎ StandsInStmts x at ss

-- one of these subscripts is a cell of y
abbrev pub IsIndexedBy : Word → PlainExprs → Type 0
IsIndexedBy y no_exprs = ⊥
IsIndexedBy y (more_exprs (cell z at) es) = (y ≡ z) ⊎ IsIndexedBy y es
IsIndexedBy y (more_exprs e es) = IsIndexedBy y es

-- an index array of a body: one of whose cells is a subscript
abbrev pub IsIndexArray : PlainStmts → Word → Type 0
IsIndexArray body y = (x : Word) × (at : PlainExprs) × StandsInStmts x at body × IsIndexedBy y at

-- no cell is a subscript of its own array
abbrev pub AreApart : PlainStmts → Type 0
AreApart body = (x y : Word) (at : PlainExprs) → StandsInStmts x at body → IsIndexedBy y at → x ≢ y

-- ---- the laws

-- the place of an access: its array, whether it writes, its assignment and the values of the loops around
abbrev pub place_of : Tagged → ℕ × Bool × ℕ × Vars
place_of t = (t.access.array, t.access.writes, t.site, t.vars)

-- The places of accesses depend on parameters alone.
abbrev pub PlacesAreFixed : Type 0
PlacesAreFixed = (u : PlainUnit) (ns : List ℤ) (m n : Memory) →
    map place_of (core_of (arrays_for u ns) m u.body (vars_of u.params ns)) ≡ map place_of (core_of (arrays_for u ns) n u.body (vars_of u.params ns))

-- Where no cell is a subscript of its own array, the accesses of an array, by places and cells, don't depend on that array's own values.
abbrev pub OwnValuesAreNothing : Type 0
OwnValuesAreNothing = (u : PlainUnit) (ns : List ℤ) (a : ℕ) (m n : Memory) → AreApart u.body → ((b : ℕ) (c : List ℤ) → b ≢ a → m b c ≡ n b c) →
    SameFor a (accesses u ns m) (accesses u ns n)

-- The whole list depends on parameters and on the values of index arrays alone.
abbrev pub IndexArraysAreAll : Type 0
IndexArraysAreAll = (u : PlainUnit) (ns : List ℤ) (m n : Memory) →
    ((y : Word) (a : ℕ × Array) (c : List ℤ) → IsIndexArray u.body y → array_named (arrays_for u ns) y ≡ Some a → m a.0 c ≡ n a.0 c) →
    accesses u ns m ≡ accesses u ns n
