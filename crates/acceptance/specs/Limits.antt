-- The counts of a source that have a limit.
use Rattle.std.specs.Prelude.{ℕ, suc, ◌+◌, if◌then◌else◌, nat_lt, List, [], ◌∷◌, length, Option, Some, None}
use Rattle.c_tree.specs.Plain.{PlainExpr, lit, var, cell, un, bin, cast, test, umin, umax, least, greatest, widen, big, PlainExprs, no_exprs, more_exprs, PlainStmt, loop, assign, PlainParam, int_param, array_param, PlainUnit}
use Rattle.c_tree.specs.Instances.{sites_all}
use Rattle.c_tree.specs.declared.expr.BinOp.{BinOp}
use Rattle.c_tree.specs.declared.refusal.Counted.{Counted}
use Rattle.c_tree.specs.declared.refusal.Counted.TheVariants.{Parameters, Arrays, Scalars, Depth, Statements, Reads}
use Rattle.acceptance.specs.Items.{Item, items_all}

abbrev pub int_count : List PlainParam → ℕ
int_count [] = 0
int_count (int_param x ∷ ps) = suc (int_count ps)
int_count (array_param x constant extents ∷ ps) = int_count ps

abbrev pub array_count : List PlainParam → ℕ
array_count [] = 0
array_count (int_param x ∷ ps) = array_count ps
array_count (array_param x constant extents ∷ ps) = suc (array_count ps)

-- how deep a loop stands, itself with those around it
abbrev pub depth : Item → ℕ
depth i = depth_of i.stmt
  where
    depth_of : PlainStmt → ℕ
    depth_of (loop x lo rel hi body) = suc (length i.loops)
    depth_of _ = 0

-- how many cells stand in an expression, index cells among them
abbrev mutual
  pub cells_in : PlainExpr → ℕ
  cells_in (lit n) = 0
  cells_in (var x) = 0
  cells_in (cell x at) = suc (cells_in_all at)
  cells_in (un op a) = cells_in a
  cells_in (bin op a b) = cells_in a + cells_in b
  cells_in (cast a) = cells_in a
  cells_in (test rel a b) = cells_in a + cells_in b
  cells_in (umin a b) = cells_in a + cells_in b
  cells_in (umax a b) = cells_in a + cells_in b
  cells_in (least a b) = cells_in a + cells_in b
  cells_in (greatest a b) = cells_in a + cells_in b
  cells_in (widen a) = cells_in a
  cells_in (big high low) = 0

  pub cells_in_all : PlainExprs → ℕ
  cells_in_all no_exprs = 0
  cells_in_all (more_exprs e es) = cells_in e + cells_in_all es

-- of the target only its index cells are read, and in a compound assignment the old cell too
abbrev pub reads_to : PlainExpr → Option BinOp → ℕ
reads_to t (Some op) = cells_in t
reads_to (cell x at) None = cells_in_all at
reads_to _ None = 0

abbrev pub reads_of : PlainStmt → ℕ
reads_of (assign target op e) = reads_to target op + cells_in e
reads_of _ = 0

-- ---- which is over its limit

-- a count over its limit, at an item
pub record Excess : Type 0 where
  pub counted : Counted
  pub count : ℕ
  pub item : ℕ

-- a count of the whole unit
abbrev pub overall : Counted → ℕ → ℕ → Option Excess
overall c most n = if nat_lt most n then Some (record { counted = c; count = n; item = 0 }) else None

-- the first item whose count is over the limit, the items being numbered from k on
abbrev pub first_over : Counted → ℕ → (Item → ℕ) → ℕ → List Item → Option Excess
first_over c most f k [] = None
first_over c most f k (i ∷ is) = if nat_lt most (f i) then Some (record { counted = c; count = f i; item = k }) else first_over c most f (suc k) is

abbrev pub first_excess : List (Option Excess) → Option Excess
first_excess [] = None
first_excess (None ∷ es) = first_excess es
first_excess (Some e ∷ es) = Some e

-- each count, in this order
abbrev pub counts : PlainUnit → List (Option Excess)
counts u =
    let items = items_all u.body [] [] in
    overall Parameters 8 (int_count u.params) ∷ overall Arrays 16 (array_count u.params) ∷ overall Scalars 16 (length u.words)
    ∷ first_over Depth 6 depth 1 items ∷ overall Statements 256 (sites_all u.body) ∷ first_over Reads 16 (λ i. reads_of i.stmt) 1 items ∷ []

-- the first of them that is over its limit
abbrev pub too_many : PlainUnit → Option Excess
too_many u = first_excess (counts u)
