-- Worked sources: the classes of their arrays and the numbers of their sites.
use Rattle.std.specs.Prelude.{ℕ, zero, suc, ◌+◌, Bool, List, [], ◌∷◌, ◌++◌, map, Some, codes}
use Rattle.c_tree.specs.Names.{arrays_in, ints_in}
use Rattle.c_tree.specs.Plain.{Word, PlainExpr, lit, var, PlainTest, PlainStmt, choice, assign, no_stmts, PlainUnit}
use Rattle.c_tree.specs.Trees.{stmts_of}
use Rattle.c_tree.specs.declared.expr.Rel.TheVariants.{Lt}
use Rattle.c_tree.specs.declared.expr.BinOp.TheVariants.{Add}
use Rattle.acceptance.specs.WorkedSources.{at, i, lines_for, line, loop_to, many_ints, n, set, shift_with, step}
use Rattle.sites.specs.Classes.{class_of, number}
use Rattle.sites.specs.Infos.{numbered_sites}
use Rattle.sites.specs.Sites.{Site, Outer, outer_loop, outer_branch, is_read, is_write, sites_of, all_sites}
use Rattle.sites.specs.Variables.{variables_around}
use Rattle.sites.specs.declared.class.Class.{Class}

-- each array with its class and the numbers of its read and write sites
abbrev pub arrays : PlainUnit → List (Word × Class × ℕ × ℕ)
arrays u = map (λ x. (x, class_of u x, number is_read (sites_of u x), number is_write (sites_of u x))) (arrays_in u.params)

-- each site with its statement, its position, its array and whether it writes
abbrev pub listed : PlainUnit → List (ℕ × ℕ × Word × Bool)
listed u = map (λ s. (s.statement, s.position, s.reach.name, s.reach.writes)) (all_sites u)

abbrev pub item_of : Outer → ℕ
item_of (outer_loop n v l) = n
item_of (outer_branch n first ts) = n

-- the numbers of the items around each site, the innermost first
abbrev pub around_each : PlainUnit → List (List ℕ)
around_each u = map (λ s. map item_of s.outers) (all_sites u)

abbrev pub a_class : PlainUnit → Class
a_class u = class_of u (codes "A")

-- statements in the example's loop
abbrev pub with_all : List PlainStmt → PlainUnit
with_all ss = shift_with line [] [] (loop_to (codes "i") n ss ∷ [])

abbrev pub steps : ℕ → List PlainStmt
steps zero = []
steps (suc k) = set (at (codes "A") i) (lit 1) ∷ steps k

-- the example with this subscript
abbrev pub written_at : PlainExpr → PlainUnit
written_at e = with_all (set (at (codes "A") e) (lit 1) ∷ [])

abbrev pub under : List PlainTest → PlainUnit
under ts = with_all (choice ts (stmts_of (step ∷ [])) no_stmts ∷ [])

abbrev pub under_else : List PlainTest → PlainUnit
under_else ts = with_all (choice ts no_stmts (stmts_of (step ∷ [])) ∷ step ∷ [])

abbrev pub below_each : ℕ → List PlainTest
below_each zero = []
below_each (suc k) = (Lt, i, var (codes "p" ++ (97 + k) ∷ [])) ∷ below_each k

-- so many parameters beside n
abbrev pub with_ints : ℕ → PlainUnit
with_ints k = shift_with (lines_for k) (many_ints k) [] (loop_to (codes "i") n (choice (below_each k) (stmts_of (step ∷ [])) no_stmts ∷ []) ∷ [])

-- A[i] += A[P[i]]
abbrev pub added_through : PlainUnit
added_through = with_all (assign (at (codes "A") i) (Some Add) (at (codes "A") (at (codes "P") i)) ∷ [])

-- the numbers of an array's sites in the unit
abbrev pub numbers : PlainUnit → Word → List ℕ
numbers u x = map (λ (s : ℕ × Site). s.0) (numbered_sites u x)

-- the variables at each of them
abbrev pub variables : PlainUnit → Word → List (List (Word × ℕ))
variables u x = map (λ (s : ℕ × Site). variables_around (ints_in u.params) s.1.outers) (numbered_sites u x)
