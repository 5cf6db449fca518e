-- The tables of all inspected arrays are those of each.
use Rattle.std.proofs.Common.{◌≡◌, ℕ, suc, List, [], ◌∷◌, ◌++◌, refl, ap}
use Rattle.c_tree.specs.Plain.{Word, PlainExprs, PlainStmt}
use Rattle.c_tree.specs.Trees.{stmts}
use Rattle.c_tree.specs.declared.stmt.Stmt.{Stmt}
use Rattle.c_tree.specs.declared.unit.Param.{Param}
use Rattle.instrumentation.specs.Pieces.{builds}
use Rattle.text_parts.specs.Numbered.{numbers}
use Rattle.table_builder.specs.Builds.{builds_of, of_each}

pub all_builds : (ps : List Param) (whole : List Stmt) (a : ℕ) (decls : List (Word × PlainExprs)) → of_each (builds_of ps whole) a decls ≡ builds (numbers ps) (stmts whole) a decls
unfolding builds_of
all_builds ps whole a [] = refl
all_builds ps whole a (x ∷ more) = ap (λ (l : List PlainStmt). builds_of ps whole a x.1 ++ l) (all_builds ps whole (suc a) more)
