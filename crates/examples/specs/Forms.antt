-- Short forms for the trees, inputs and lists of the examples.
use Rattle.std.specs.Prelude.{ℕ, true, false, List, [], ◌∷◌, map, ℤ, pos, Option, Some, None, codes}
use Rattle.c_tree.specs.Plain.{Word, PlainExpr, lit, var, cell, bin, widen, big, PlainTest, PlainStmt, loop, choice, assign, PlainParam, array_param, PlainUnit}
use Rattle.c_tree.specs.Trees.{exprs_of, stmts_of}
use Rattle.c_tree.specs.Accesses.{Access}
use Rattle.c_tree.specs.Arrays.{extents_at}
use Rattle.c_tree.specs.Fault.{Fault}
use Rattle.c_tree.specs.Inputs.{PlainInputs, arrays_for, memory_for}
use Rattle.c_tree.specs.Run.{Ended, run}
use Rattle.c_tree.specs.declared.expr.Rel.TheVariants.{Lt}
use Rattle.c_tree.specs.declared.expr.BinOp.TheVariants.{Add, Mul}
use Rattle.balance_laws.specs.Totals.{definition_total, use_total}
use Rattle.run_laws.specs.Logs.{accesses_in, values_in}

-- ---- trees

abbrev pub name : Word → PlainExpr
name x = var x

abbrev pub element : Word → PlainExpr → PlainExpr
element x i = cell x (exprs_of (i ∷ []))

abbrev pub element_2 : Word → PlainExpr → PlainExpr → PlainExpr
element_2 x i j = cell x (exprs_of (i ∷ j ∷ []))

-- an array of this many words
abbrev pub array_of : Word → PlainExpr → PlainParam
array_of x extent = array_param x false (exprs_of (extent ∷ []))

abbrev pub const_array_of : Word → PlainExpr → PlainParam
const_array_of x extent = array_param x true (exprs_of (extent ∷ []))

-- for (x = 0; x < hi; x++) body
abbrev pub for_below : Word → PlainExpr → List PlainStmt → PlainStmt
for_below x hi body = loop x (lit 0) Lt hi (stmts_of body)

abbrev pub set : PlainExpr → PlainExpr → PlainStmt
set x e = assign x None e

-- a wide value is added to a total
abbrev pub add : Word → PlainExpr → PlainStmt
add x e = assign (var x) (Some Add) e

abbrev pub if_all : List PlainTest → List PlainStmt → PlainStmt
if_all ts body = choice ts (stmts_of body) (stmts_of [])

-- a source
abbrev pub source : Word → List PlainParam → List PlainStmt → PlainUnit
source f params body = record { version = None; ranges = []; name = f; params = params; words = []; wides = []; body = stmts_of body }

-- a printed unit
abbrev pub printed : Word → List PlainParam → List Word → List Word → List PlainStmt → PlainUnit
printed f params words wides body =
    record { version = Some 1; ranges = []; name = f; params = params; words = map (λ x. (x, 0)) words; wides = wides; body = stmts_of body }

-- ---- the names of a printed text

abbrev pub r0 : Word
r0 = codes "bal_r0"

abbrev pub r1 : Word
r1 = codes "bal_r1"

abbrev pub w : Word
w = codes "bal_w"

abbrev pub k : Word
k = codes "bal_k"

abbrev pub i0 : Word
i0 = codes "bal_i0"

abbrev pub def0 : Word
def0 = codes "bal_def0"

abbrev pub use0 : Word
use0 = codes "bal_use0"

abbrev pub def1 : Word
def1 = codes "bal_def1"

abbrev pub use1 : Word
use1 = codes "bal_use1"

abbrev pub def2 : Word
def2 = codes "bal_def2"

abbrev pub use2 : Word
use2 = codes "bal_use2"

abbrev pub count_is : ℕ → PlainStmt
count_is n = set (var k) (big 0 n)

-- the word x times the count is added to a definition total
abbrev pub add_counted : Word → Word → PlainStmt
add_counted total x = add total (bin Mul (widen (var x)) (var k))

abbrev pub add_word : Word → Word → PlainStmt
add_word total x = add total (widen (var x))

-- ---- runs

abbrev pub inputs : List ℤ → List (List ℕ) → PlainInputs
inputs ints cells = record { ints = ints; cells = cells }

abbrev pub fault_at : ℕ → ℕ → ℕ → ℕ → Option Fault
fault_at array number bit place = Some (record { array = array; cell = number; bit = bit; place = place })

abbrev pub reads : ℕ → ℕ → Access
reads array i = record { array = array; cell = pos i ∷ []; writes = false }

abbrev pub writes : ℕ → ℕ → Access
writes array i = record { array = array; cell = pos i ∷ []; writes = true }

-- the definition total and the use total of an array over the accesses and values of a run
abbrev pub totals_over : PlainUnit → PlainInputs → ℕ → ℕ × ℕ
totals_over u i array =
    let r : Ended = run u i None in (
      definition_total (accesses_in r.accesses) (extents_at (arrays_for u i.ints)) (memory_for u i) (values_in r.accesses) array,
      use_total (accesses_in r.accesses) (values_in r.accesses) array,
    )
