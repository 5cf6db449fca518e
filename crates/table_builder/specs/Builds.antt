-- The tables of each inspected array.
use Rattle.std.specs.Prelude.{ℕ, suc, if◌then◌else◌, List, [], ◌∷◌, ◌++◌}
use Rattle.c_tree.specs.Plain.{Word, PlainExprs, PlainStmt}
use Rattle.c_tree.specs.Trees.{stmts}
use Rattle.c_tree.specs.declared.stmt.Stmt.{Stmt}
use Rattle.c_tree.specs.declared.unit.Param.{Param}
use Rattle.instrumentation.specs.Inspects.{inspects_all}
use Rattle.instrumentation.specs.Tables.{build}
use Rattle.text_parts.specs.Numbered.{numbers}

-- the tables of an array, where it is inspected
unfoldable pub builds_of : List Param → List Stmt → ℕ → PlainExprs → List PlainStmt
builds_of ps whole a extents = if inspects_all (numbers ps) a (stmts whole) then build (numbers ps) (stmts whole) a extents else []

-- such statements of each array, from number a on
abbrev pub of_each : (ℕ → PlainExprs → List PlainStmt) → ℕ → List (Word × PlainExprs) → List PlainStmt
of_each made a [] = []
of_each made a (x ∷ more) = made a x.1 ++ of_each made (suc a) more
