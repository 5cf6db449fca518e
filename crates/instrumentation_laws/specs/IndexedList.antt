-- The accesses of a source with irregular reads, in order, each with the number of its assignment and the values of the loops
-- around it: the index cells before the cell that they name, by the words that memory m gives them.
use Rattle.std.specs.Prelude.{ℕ, ◌+◌, false, if◌then◌else◌, List, [], ◌∷◌, ◌++◌, map, flat_map, ℤ, pos}
use Rattle.c_tree.specs.Plain.{Word, PlainExpr, lit, var, cell, un, bin, cast, test, umin, umax, least, greatest, widen, big, PlainExprs, no_exprs, more_exprs, PlainStmt, loop, choice, assign, table, begin, check, verdict, PlainStmts, no_stmts, more_stmts}
use Rattle.c_tree.specs.Values.{Vars, signed, loop_values}
use Rattle.c_tree.specs.Arrays.{Array, Memory}
use Rattle.c_tree.specs.Accesses.{Access}
use Rattle.c_tree.specs.Instances.{Tagged, word_at, sites, sites_all}
use Rattle.instrumentation.specs.Body.{full}
use Rattle.instrumentation_laws.specs.AccessList.{signed_all, cell_access, cell_write, tag, tests_hold}
use Rattle.instrumentation.specs.Subscripts.{by_cell}

abbrev pub coordinate_at : List Array → Memory → PlainExpr → Vars → ℤ
coordinate_at arrays m e vs = by_cell e (λ p at. pos (word_at arrays m p (signed_all at vs))) (signed e vs)

abbrev pub coordinates_at : List Array → Memory → PlainExprs → Vars → List ℤ
coordinates_at arrays m no_exprs vs = []
coordinates_at arrays m (more_exprs e es) vs = coordinate_at arrays m e vs ∷ coordinates_at arrays m es vs

abbrev pub index_reads : (Word → ℕ) → PlainExprs → Vars → List Access
index_reads number no_exprs vs = []
index_reads number (more_exprs e es) vs = by_cell e (λ p at. cell_access number p at vs false ∷ index_reads number es vs) (index_reads number es vs)

abbrev pub read_access : List Array → Memory → (Word → ℕ) → Word → PlainExprs → Vars → Access
read_access arrays m number x at vs = record { array = number x; cell = coordinates_at arrays m at vs; writes = false }

abbrev pub all_reads : List Array → Memory → (Word → ℕ) → PlainExpr → Vars → List Access
all_reads arrays m number (lit n) vs = []
all_reads arrays m number (var x) vs = []
all_reads arrays m number (cell x at) vs = index_reads number at vs ++ read_access arrays m number x at vs ∷ []
all_reads arrays m number (un op a) vs = all_reads arrays m number a vs
all_reads arrays m number (bin op a b) vs = all_reads arrays m number a vs ++ all_reads arrays m number b vs
all_reads arrays m number (cast a) vs = all_reads arrays m number a vs
all_reads arrays m number (test rel a b) vs = all_reads arrays m number a vs ++ all_reads arrays m number b vs
all_reads arrays m number (umin a b) vs = all_reads arrays m number a vs ++ all_reads arrays m number b vs
all_reads arrays m number (umax a b) vs = all_reads arrays m number a vs ++ all_reads arrays m number b vs
all_reads arrays m number (least a b) vs = []
all_reads arrays m number (greatest a b) vs = []
all_reads arrays m number (widen a) vs = []
all_reads arrays m number (big high low) vs = []

abbrev mutual
  pub tagged : List Array → Memory → (Word → ℕ) → ℕ → PlainStmt → Vars → List Tagged
  tagged arrays m number k (loop x lo rel hi body) vs = flat_map (λ v. tagged_all arrays m number k body ((x, v) ∷ vs)) (loop_values (signed lo vs) rel (signed hi vs))
  tagged arrays m number k (choice ts first other) vs = if tests_hold ts vs then tagged_all arrays m number k first vs else tagged_all arrays m number (k + sites_all first) other vs
  tagged arrays m number k (assign t op e) vs = map (tag k vs) (all_reads arrays m number (full t op e) vs ++ cell_write number t vs)
  tagged arrays m number k (table x len) vs = []
  tagged arrays m number k begin vs = []
  tagged arrays m number k (check x extent a) vs = []
  tagged arrays m number k verdict vs = []

  pub tagged_all : List Array → Memory → (Word → ℕ) → ℕ → PlainStmts → Vars → List Tagged
  tagged_all arrays m number k no_stmts vs = []
  tagged_all arrays m number k (more_stmts s ss) vs = tagged arrays m number k s vs ++ tagged_all arrays m number (k + sites s) ss vs
