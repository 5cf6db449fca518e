-- What the prologue of an instrumented text leaves: each definition total is the sum over the cells of its array of value times uses.
use Rattle.std.specs.Prelude.{◌≡◌, ℕ, suc, ◌+◌, ◌*◌, ◌^◌, ◌%◌, ◌<◌, ◌≤◌, true, List, [], ◌∷◌, length, ℤ}
use Rattle.c_tree.specs.Plain.{Word, PlainExpr, lit, var, cell, un, bin, cast, test, umin, umax, least, greatest, widen, big, PlainExprs, no_exprs, more_exprs, PlainStmt}
use Rattle.c_tree.specs.Values.{Vars, signed}
use Rattle.c_tree.specs.Arrays.{Array, Memory, all_cells, is_within}
use Rattle.c_tree.specs.Accesses.Definition.{Initial}
use Rattle.c_tree.specs.Instances.{Tagged}
use Rattle.c_tree.specs.Run.{State, Scope}
use Rattle.instrumentation.specs.Names.{count, use_total, definition_total, coordinate}
use Rattle.instrumentation_laws.specs.OwnNames.{own}
use Rattle.instrumentation_laws.specs.RegularSources.{IsArray}
use Rattle.instrumentation_laws.specs.Pieces.{Piece, uses_in}

-- the values of the loops over the coordinates, from number d on
abbrev pub coordinate_vars : ℕ → List ℤ → Vars → Vars
coordinate_vars d [] vs = vs
coordinate_vars d (c ∷ cs) vs = coordinate_vars (suc d) cs ((coordinate d, c) ∷ vs)

-- the signed names of an expression are the source's
abbrev pub HasOwnNames : PlainExpr → Type 0
HasOwnNames (lit n) = Unit {0}
HasOwnNames (var x) = own x ≡ true
HasOwnNames (cell x at) = Unit {0}
HasOwnNames (un op a) = HasOwnNames a
HasOwnNames (bin op a b) = HasOwnNames a × HasOwnNames b
HasOwnNames (cast a) = Unit {0}
HasOwnNames (test rel a b) = Unit {0}
HasOwnNames (umin a b) = Unit {0}
HasOwnNames (umax a b) = Unit {0}
HasOwnNames (least a b) = HasOwnNames a × HasOwnNames b
HasOwnNames (greatest a b) = HasOwnNames a × HasOwnNames b
HasOwnNames (widen a) = Unit {0}
HasOwnNames (big high low) = Unit {0}

-- the extents of an array have these values
abbrev pub Measures : PlainExprs → Vars → List ℤ → Type 0
Measures no_exprs vs [] = Unit {0}
Measures (more_exprs e es) vs (z ∷ zs) = HasOwnNames e × (signed e vs ≡ z) × Measures es vs zs
Measures no_exprs vs (z ∷ zs) = ⊥
Measures (more_exprs e es) vs [] = ⊥

-- the array of number a, as it is declared
pub record IsDeclared (arrays : List Array) (number : Word → ℕ) (vs : Vars) (extents : ℕ → List ℤ) (a : ℕ) (x : Word) (es : PlainExprs) : Type 0 where
  pub array : IsArray arrays number x
  pub number_is : array.array.0 ≡ a
  pub extents_are : array.array.1.extents ≡ extents a
  pub measures : Measures es vs (extents a)
  pub rank : length (extents a) < 2 ^ 64

-- the arrays from number a on
abbrev pub AreDeclared : List Array → (Word → ℕ) → Vars → (ℕ → List ℤ) → ℕ → List (Word × PlainExprs) → Type 0
AreDeclared arrays number vs extents a [] = Unit {0}
AreDeclared arrays number vs extents a (x ∷ more) = IsDeclared arrays number vs extents a x.0 x.1 × AreDeclared arrays number vs extents (suc a) more

-- a piece counts the uses of the initial cell whose coordinates the loops have
pub record CountsCells (sc : Scope) (whole : List Tagged) (vs : Vars) (extents : List ℤ) (a : ℕ) (p : List PlainStmt) (piece : Piece sc p) : Type 0 where
  pub counts : (cs : List ℤ) (s : State) → is_within cs extents ≡ true → (piece.to (coordinate_vars 0 cs vs) s).wides count ≡ uses_in whole (Initial a cs)

pub record IsCellPiece (sc : Scope) (whole : List Tagged) (vs : Vars) (extents : List ℤ) (a : ℕ) (p : List PlainStmt) : Type 0 where
  pub piece : Piece sc p
  pub counts : CountsCells sc whole vs extents a p piece

-- the pieces of the arrays from number a on
abbrev pub AreCellPieces : Scope → List Tagged → Vars → (ℕ → List ℤ) → (ℕ → PlainExprs → List PlainStmt) → ℕ → List (Word × PlainExprs) → Type 0
AreCellPieces sc whole vs extents cells a [] = Unit {0}
AreCellPieces sc whole vs extents cells a (x ∷ more) = IsCellPiece sc whole vs (extents a) a (cells a x.1) × AreCellPieces sc whole vs extents cells (suc a) more

-- pieces of the arrays from number a on that go on, whatever they count
abbrev pub AreGoing : Scope → (ℕ → PlainExprs → List PlainStmt) → ℕ → List (Word × PlainExprs) → Type 0
AreGoing sc cells a [] = Unit {0}
AreGoing sc cells a (x ∷ more) = Piece sc (cells a x.1) × AreGoing sc cells (suc a) more

abbrev pub cell_sum : (List ℤ → ℕ) → List (List ℤ) → ℕ
cell_sum f [] = 0
cell_sum f (cs ∷ more) = f cs + cell_sum f more

-- the sum over the cells of an array of value times uses
abbrev pub initial_sum : Memory → List Tagged → (ℕ → List ℤ) → ℕ → ℕ
initial_sum m whole extents a = cell_sum (λ cs. m a cs * uses_in whole (Initial a cs)) (all_cells (extents a))

-- after the prologue of the n arrays from number a on
pub record Left (whole : List Tagged) (extents : ℕ → List ℤ) (a n : ℕ) (s t : State) : Type 0 where
  pub memory : t.memory ≡ s.memory
  pub accesses : t.accesses ≡ s.accesses
  pub begun : t.begun ≡ s.begun
  pub words : (x : Word) → own x ≡ true → t.words x ≡ s.words x
  pub used : (b : ℕ) → b < 2 ^ 64 → t.wides (use_total b) ≡ s.wides (use_total b)
  pub before : (b : ℕ) → b < a → t.wides (definition_total b) ≡ s.wides (definition_total b)
  pub filled : (b : ℕ) → a ≤ b → b < a + n → t.wides (definition_total b) ≡ initial_sum s.memory whole extents b % 2 ^ 128
  pub after : (b : ℕ) → a + n ≤ b → b < 2 ^ 64 → t.wides (definition_total b) ≡ s.wides (definition_total b)
