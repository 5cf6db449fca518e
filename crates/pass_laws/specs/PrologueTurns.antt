-- The turns of a prologue, by those of its pieces.
use Rattle.std.specs.Prelude.{ℕ, suc, ◌+◌, List, [], ◌∷◌, ℤ}
use Rattle.c_tree.specs.Plain.{Word, PlainExprs, PlainStmt}
use Rattle.c_tree.specs.Trees.{stmts_of}
use Rattle.c_tree.specs.Values.{Vars}
use Rattle.c_tree.specs.Accesses.{Within}
use Rattle.c_tree.specs.Arrays.{Array, all_cells, cell_walk, extents_of}
use Rattle.c_tree.specs.Run.{State, Scope, exec_all}
use Rattle.instrumentation_laws.specs.PrologueTotals.{cell_sum, coordinate_vars}
use Rattle.pass_laws.specs.Going.{WhereGoing, Makes}

-- At each cell of the arrays from number a on the piece of the array makes so many turns, wherever it goes on.
abbrev pub PiecesMake : Scope → Vars → (ℕ → PlainExprs → List PlainStmt) → (ℕ → List ℤ → ℕ) → ℕ → List (Word × PlainExprs) → Type 0
PiecesMake sc vs cells n a [] = Unit {0}
PiecesMake sc vs cells n a (x ∷ more) =
    ((cs : List ℤ) (s : State) → Within (extents_of vs x.1) cs → WhereGoing (Makes (n a cs) s) (exec_all sc (stmts_of (cells a x.1)) (coordinate_vars 0 cs vs) s)) × PiecesMake sc vs cells n (suc a) more

-- a walk over the cells of each array from number a on, and the turns of its piece at each cell
abbrev pub walks_with : (ℕ → List ℤ → ℕ) → ℕ → List Array → ℕ
walks_with n a [] = 0
walks_with n a (x ∷ more) = (cell_walk x.extents + cell_sum (n a) (all_cells x.extents)) + walks_with n (suc a) more
