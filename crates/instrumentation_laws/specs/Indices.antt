-- Index cells of a source whose words lie within the extents that they are subscripts of, over memory m.
use Rattle.std.specs.Prelude.{◌≡◌, ℕ, ◌<◌, true, false, List, [], ◌∷◌, ℤ}
use Rattle.std.specs.List.{AllByRecursion}
use Rattle.c_tree.specs.Plain.{Word, PlainExpr, lit, var, cell, un, bin, cast, test, umin, umax, least, greatest, widen, big, PlainExprs, no_exprs, more_exprs, PlainStmt, loop, choice, assign, table, begin, check, verdict, PlainStmts, no_stmts, more_stmts}
use Rattle.c_tree.specs.Values.{Vars, signed, loop_values}
use Rattle.c_tree.specs.Arrays.{Array, Memory, size_of}
use Rattle.c_tree.specs.Instances.{word_at}
use Rattle.instrumentation.specs.Body.{full}
use Rattle.instrumentation_laws.specs.AccessList.{signed_all, tests_hold}

abbrev pub IndexLies : List Array → Memory → PlainExpr → ℤ → Vars → Type 0
IndexLies arrays m (cell p at) z vs = word_at arrays m p (signed_all at vs) < size_of z
IndexLies arrays m e z vs = Unit {0}

-- one for each extent
abbrev pub IndicesLie : List Array → Memory → PlainExprs → List ℤ → Vars → Type 0
IndicesLie arrays m no_exprs zs vs = Unit {0}
IndicesLie arrays m (more_exprs e es) [] vs = Unit {0}
IndicesLie arrays m (more_exprs e es) (z ∷ zs) vs = IndexLies arrays m e z vs × IndicesLie arrays m es zs vs

-- in each read of an expression, the arrays having these extents by their numbers
abbrev pub ReadIndicesLie : List Array → Memory → (Word → ℕ) → (ℕ → List ℤ) → PlainExpr → Vars → Type 0
ReadIndicesLie arrays m number extents (lit n) vs = Unit {0}
ReadIndicesLie arrays m number extents (var x) vs = Unit {0}
ReadIndicesLie arrays m number extents (cell x at) vs = IndicesLie arrays m at (extents (number x)) vs
ReadIndicesLie arrays m number extents (un op a) vs = ReadIndicesLie arrays m number extents a vs
ReadIndicesLie arrays m number extents (bin op a b) vs = ReadIndicesLie arrays m number extents a vs × ReadIndicesLie arrays m number extents b vs
ReadIndicesLie arrays m number extents (cast a) vs = ReadIndicesLie arrays m number extents a vs
ReadIndicesLie arrays m number extents (test rel a b) vs = ReadIndicesLie arrays m number extents a vs × ReadIndicesLie arrays m number extents b vs
ReadIndicesLie arrays m number extents (umin a b) vs = ReadIndicesLie arrays m number extents a vs × ReadIndicesLie arrays m number extents b vs
ReadIndicesLie arrays m number extents (umax a b) vs = ReadIndicesLie arrays m number extents a vs × ReadIndicesLie arrays m number extents b vs
ReadIndicesLie arrays m number extents (least a b) vs = Unit {0}
ReadIndicesLie arrays m number extents (greatest a b) vs = Unit {0}
ReadIndicesLie arrays m number extents (widen a) vs = Unit {0}
ReadIndicesLie arrays m number extents (big high low) vs = Unit {0}

-- in each assignment that is made
abbrev mutual
  pub StmtIndicesLie : List Array → Memory → (Word → ℕ) → (ℕ → List ℤ) → PlainStmt → Vars → Type 0
  StmtIndicesLie arrays m number extents (loop x lo rel hi body) vs = AllByRecursion (λ v. AllIndicesLie arrays m number extents body ((x, v) ∷ vs)) (loop_values (signed lo vs) rel (signed hi vs))
  StmtIndicesLie arrays m number extents (choice ts first other) vs =
      (tests_hold ts vs ≡ true → AllIndicesLie arrays m number extents first vs) × (tests_hold ts vs ≡ false → AllIndicesLie arrays m number extents other vs)
  StmtIndicesLie arrays m number extents (assign t op e) vs = ReadIndicesLie arrays m number extents (full t op e) vs
  StmtIndicesLie arrays m number extents (table x len) vs = Unit {0}
  StmtIndicesLie arrays m number extents begin vs = Unit {0}
  StmtIndicesLie arrays m number extents (check x extent n) vs = Unit {0}
  StmtIndicesLie arrays m number extents verdict vs = Unit {0}

  pub AllIndicesLie : List Array → Memory → (Word → ℕ) → (ℕ → List ℤ) → PlainStmts → Vars → Type 0
  AllIndicesLie arrays m number extents no_stmts vs = Unit {0}
  AllIndicesLie arrays m number extents (more_stmts s ss) vs = StmtIndicesLie arrays m number extents s vs × AllIndicesLie arrays m number extents ss vs
