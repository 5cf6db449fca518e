-- The prologue: each cell of each array is read once, and its value times its count added to the definition total.
use Rattle.std.specs.Prelude.{ℕ, suc, List, [], ◌∷◌, ◌++◌, Some, None}
use Rattle.c_tree.specs.Plain.{Word, lit, var, cell, bin, widen, PlainExprs, no_exprs, more_exprs, PlainStmt, loop, assign}
use Rattle.c_tree.specs.Trees.{stmts_of}
use Rattle.c_tree.specs.declared.expr.Rel.TheVariants.{Lt}
use Rattle.c_tree.specs.declared.expr.BinOp.TheVariants.{Add, Mul}
use Rattle.instrumentation.specs.Names.{register, count, definition_total, coordinate}
use Rattle.instrumentation.specs.Passes.{coordinates_from}

-- a loop for each extent
abbrev pub cell_loops : ℕ → PlainExprs → List PlainStmt → List PlainStmt
cell_loops d no_exprs body = body
cell_loops d (more_exprs e es) body = loop (coordinate d) (lit 0) Lt e (stmts_of (cell_loops (suc d) es body)) ∷ []

abbrev pub add_cell : ℕ → List PlainStmt
add_cell a = assign (var (definition_total a)) (Some Add) (bin Mul (widen (var (register 0))) (var count)) ∷ []

abbrev pub cell_text : ℕ → Word → PlainExprs → List PlainStmt → List PlainStmt
cell_text a x extents piece = assign (var (register 0)) None (cell x (coordinates_from 0 extents)) ∷ (piece ++ add_cell a)

abbrev pub array_text : ℕ → Word → PlainExprs → List PlainStmt → List PlainStmt
array_text a x extents piece = cell_loops 0 extents (cell_text a x extents piece)

-- the arrays from number a on, with the piece of each
abbrev pub prologue_text : (ℕ → PlainExprs → List PlainStmt) → ℕ → List (Word × PlainExprs) → List PlainStmt
prologue_text piece a [] = []
prologue_text piece a (x ∷ more) = array_text a x.0 x.1 (piece a x.1) ++ prologue_text piece (suc a) more
