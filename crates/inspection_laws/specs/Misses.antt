-- Why the tables of an array can't be built: its accesses with an index cell outside its index array, or with a coordinate from an index cell outside its extent, in order, each as the end that it makes.
use Rattle.std.specs.Prelude.{ℕ, if◌then◌else◌, nat_eq, nat_lt, List, [], ◌∷◌, ◌++◌, flat_map, ℤ, Option, Some, None}
use Rattle.c_tree.specs.Plain.{Word, PlainExpr, lit, var, cell, un, bin, cast, test, umin, umax, least, greatest, widen, big, PlainExprs, no_exprs, more_exprs, PlainStmt, loop, choice, assign, table, begin, check, verdict, PlainStmts, no_stmts, more_stmts}
use Rattle.c_tree.specs.Values.{Vars, signed, loop_values}
use Rattle.c_tree.specs.Arrays.{Array, Memory, array_named, is_within, size_of}
use Rattle.c_tree.specs.Instances.{word_at}
use Rattle.c_tree.specs.Run.{End, outside, index}
use Rattle.instrumentation.specs.Body.{full}
use Rattle.instrumentation_laws.specs.AccessList.{signed_all, tests_hold}
use Rattle.instrumentation.specs.Subscripts.{by_cell}

abbrev pub outside_of : Option (ℕ × Array) → List ℤ → List End
outside_of None cs = []
outside_of (Some k) cs = if is_within cs k.1.extents then [] else outside k.0 ∷ []

-- the index cells outside their arrays
abbrev pub index_misses : List Array → PlainExprs → Vars → List End
index_misses arrays no_exprs vs = []
index_misses arrays (more_exprs e es) vs = by_cell e (λ p at. outside_of (array_named arrays p) (signed_all at vs) ++ index_misses arrays es vs) (index_misses arrays es vs)

-- the coordinates from index cells outside their extents
abbrev pub check_misses : List Array → Memory → ℕ → PlainExprs → List ℤ → Vars → List End
check_misses arrays m a no_exprs zs vs = []
check_misses arrays m a (more_exprs e es) [] vs = []
check_misses arrays m a (more_exprs e es) (z ∷ zs) vs =
    by_cell e (λ p at. (if nat_lt (word_at arrays m p (signed_all at vs)) (size_of z) then [] else index a ∷ []) ++ check_misses arrays m a es zs vs) (check_misses arrays m a es zs vs)

abbrev pub cell_misses : List Array → Memory → (Word → ℕ) → ℕ → List ℤ → Word → PlainExprs → Vars → List End
cell_misses arrays m number a zs x at vs = if nat_eq (number x) a then index_misses arrays at vs ++ check_misses arrays m a at zs vs else []

abbrev pub inner_misses : List Array → Memory → (Word → ℕ) → ℕ → List ℤ → PlainExprs → Vars → List End
inner_misses arrays m number a zs no_exprs vs = []
inner_misses arrays m number a zs (more_exprs e es) vs = by_cell e (λ p at. cell_misses arrays m number a zs p at vs ++ inner_misses arrays m number a zs es vs) (inner_misses arrays m number a zs es vs)

abbrev pub misses_in : List Array → Memory → (Word → ℕ) → ℕ → List ℤ → PlainExpr → Vars → List End
misses_in arrays m number a zs (lit n) vs = []
misses_in arrays m number a zs (var x) vs = []
misses_in arrays m number a zs (cell x at) vs = inner_misses arrays m number a zs at vs ++ cell_misses arrays m number a zs x at vs
misses_in arrays m number a zs (un op e) vs = misses_in arrays m number a zs e vs
misses_in arrays m number a zs (bin op e g) vs = misses_in arrays m number a zs e vs ++ misses_in arrays m number a zs g vs
misses_in arrays m number a zs (cast e) vs = misses_in arrays m number a zs e vs
misses_in arrays m number a zs (test rel e g) vs = misses_in arrays m number a zs e vs ++ misses_in arrays m number a zs g vs
misses_in arrays m number a zs (umin e g) vs = misses_in arrays m number a zs e vs ++ misses_in arrays m number a zs g vs
misses_in arrays m number a zs (umax e g) vs = misses_in arrays m number a zs e vs ++ misses_in arrays m number a zs g vs
misses_in arrays m number a zs (least e g) vs = []
misses_in arrays m number a zs (greatest e g) vs = []
misses_in arrays m number a zs (widen e) vs = []
misses_in arrays m number a zs (big high low) vs = []

-- those of a source, by those of an expression
abbrev mutual
  pub misses : (PlainExpr → Vars → List End) → PlainStmt → Vars → List End
  misses f (loop x lo rel hi body) vs = flat_map (λ v. misses_all f body ((x, v) ∷ vs)) (loop_values (signed lo vs) rel (signed hi vs))
  misses f (choice ts first other) vs = if tests_hold ts vs then misses_all f first vs else misses_all f other vs
  misses f (assign t op e) vs = f (full t op e) vs
  misses f (table x len) vs = []
  misses f begin vs = []
  misses f (check x extent n) vs = []
  misses f verdict vs = []

  pub misses_all : (PlainExpr → Vars → List End) → PlainStmts → Vars → List End
  misses_all f no_stmts vs = []
  misses_all f (more_stmts s ss) vs = misses f s vs ++ misses_all f ss vs
