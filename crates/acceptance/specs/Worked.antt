-- Worked refusals: a small printed unit that is accepted, and what is refused where one part of it is another.
use Rattle.std.specs.Prelude.{ℕ, suc, if◌then◌else◌, true, false, List, [], ◌∷◌, ◌++◌, pos, Some, None, codes}
use Rattle.c_tree.specs.Plain.{Word, PlainExpr, lit, var, cell, bin, widen, big, no_exprs, more_exprs, PlainStmt, loop, choice, assign, begin, verdict, no_stmts, PlainParam, int_param, array_param, PlainUnit}
use Rattle.c_tree.specs.Trees.{stmts_of}
use Rattle.c_tree.specs.declared.expr.Rel.TheVariants.{Lt, Le}
use Rattle.c_tree.specs.declared.expr.BinOp.TheVariants.{Add, Sub, Mul}
use Rattle.acceptance.specs.Items.{Item, items_all, Condition}

-- ---- where a condition holds

abbrev pub places_from : ℕ → Condition → List Item → List ℕ
places_from k c [] = []
places_from k c (i ∷ is) = if c.inside i then k ∷ places_from (suc k) c is else places_from (suc k) c is

-- the numbers of the items at which a condition of a unit holds; the head is 0
abbrev pub places : PlainUnit → Condition → List ℕ
places u c = (if c.head then 0 ∷ [] else []) ++ places_from 1 c (items_all u.body [] [])

-- ---- the unit

abbrev pub at : PlainExpr → PlainExpr
at e = cell (codes "A") (more_exprs e no_exprs)

-- a use count of 1 where the test holds, and of 0 elsewhere
abbrev pub counted_if : PlainExpr → PlainExpr → List PlainStmt
counted_if a b =
    assign (var (codes "bal_k")) None (big 0 0)
    ∷ choice ((Le, a, b) ∷ []) (stmts_of (assign (var (codes "bal_k")) (Some Add) (big 0 1) ∷ [])) no_stmts ∷ []

abbrev pub added : Word → PlainStmt
added x = assign (var (codes "bal_def0")) (Some Add) (bin Mul (widen (var x)) (var (codes "bal_k")))

-- the cells of A before the source's loop
abbrev pub prologue : List PlainStmt
prologue =
    loop (codes "bal_i0") (lit 0) Lt (var (codes "n")) (stmts_of (assign (var (codes "bal_r0")) None (at (var (codes "bal_i0")))
    ∷ (counted_if (var (codes "bal_i0")) (lit 0) ++ added (codes "bal_r0") ∷ []))) ∷ []

-- for (i = 0; i < bound; i++) A[i + 1] = A[i] + 1; the word that is read is added to a total
abbrev pub counted_loop : PlainExpr → Word → List PlainStmt
counted_loop bound total =
    loop (codes "i") (lit 0) Lt bound (stmts_of (assign (var (codes "bal_r0")) None (at (var (codes "i")))
    ∷ assign (var total) (Some Add) (widen (var (codes "bal_r0")))
    ∷ assign (var (codes "bal_w")) None (bin Add (var (codes "bal_r0")) (lit 1))
    ∷ assign (at (bin Add (var (codes "i")) (lit 1))) None (var (codes "bal_w"))
    ∷ (counted_if (var (codes "i")) (bin Sub (var (codes "n")) (lit 3)) ++ added (codes "bal_w") ∷ []))) ∷ []

-- the unit with these `int64_t` parameters, wide names, bound and total
abbrev pub unit_with : List PlainParam → List Word → PlainExpr → Word → PlainUnit
unit_with ints wides bound total = record {
  version = Some 1;
  ranges = (codes "n", pos 1, pos 1000) ∷ [];
  name = codes "bal_fn_shift";
  params = ints ++ array_param (codes "A") false (more_exprs (var (codes "n")) no_exprs) ∷ [];
  words = (codes "bal_r0", 0) ∷ (codes "bal_w", 0) ∷ [];
  wides = wides;
  body = stmts_of (prologue ++ (begin ∷ (counted_loop bound total ++ verdict ∷ [])));
}

abbrev pub one_size : List PlainParam
one_size = int_param (codes "n") ∷ []

abbrev pub all_wides : List Word
all_wides = codes "bal_k" ∷ codes "bal_def0" ∷ codes "bal_use0" ∷ []

abbrev pub last_but_one : PlainExpr
last_but_one = bin Sub (var (codes "n")) (lit 1)

abbrev pub shift : PlainUnit
shift = unit_with one_size all_wides last_but_one (codes "bal_use0")

-- ---- one part is another

-- the size is declared twice
abbrev pub two_sizes : PlainUnit
two_sizes = unit_with (int_param (codes "n") ∷ one_size) all_wides last_but_one (codes "bal_use0")

-- what is read is added to a name that isn't declared
abbrev pub unknown_total : PlainUnit
unknown_total = unit_with one_size all_wides last_but_one (codes "total")

-- the total of uses, which the verdict compares too, isn't declared
abbrev pub no_use_total : PlainUnit
no_use_total = unit_with one_size (codes "bal_k" ∷ codes "bal_def0" ∷ []) last_but_one (codes "bal_use0")

-- the loop's bound is a word
abbrev pub word_bound : PlainUnit
word_bound = unit_with one_size all_wides (var (codes "bal_w")) (codes "bal_use0")

-- a second array has the name of a total
abbrev pub array_total : PlainUnit
array_total = unit_with (one_size ++ array_param (codes "bal_use0") true (more_exprs (var (codes "n")) no_exprs) ∷ []) all_wides last_but_one (codes "bal_use0")
