-- Instances of a source's assignments, their accesses in order, and what a source leaves in memory.
use Rattle.std.specs.Prelude.{ℕ, ◌+◌, Bool, true, false, if◌then◌else◌, nat_lt, List, [], ◌∷◌, ◌++◌, map, flat_map, fold, ℤ, pos, Option, Some, None, bytes_eq}
use Rattle.std.specs.List.{list_all}
use Rattle.c_tree.specs.Plain.{Word, PlainExpr, lit, var, cell, un, bin, cast, test, umin, umax, least, greatest, widen, big, PlainExprs, no_exprs, more_exprs, PlainTest, PlainStmt, loop, choice, assign, table, begin, check, verdict, PlainStmts, no_stmts, more_stmts, PlainUnit}
use Rattle.c_tree.specs.Kinds.{is_signed}
use Rattle.c_tree.specs.Values.{Vars, exact, as_word, word_un, word_bin, signed_holds, word_holds, as_bit, loop_values, kind}
use Rattle.c_tree.specs.Arrays.{Array, Memory, stored, array_named, is_within, arrays_of, vars_of}
use Rattle.c_tree.specs.Accesses.{Access}
use Rattle.c_tree.specs.declared.expr.BinOp.{BinOp}

-- ---- instances

-- an assignment, by its number in text order from 0, with the values of the loops around it
pub record Instance : Type 0 where
  pub site : ℕ
  pub target : PlainExpr
  pub op : Option BinOp
  pub value : PlainExpr
  pub vars : Vars

-- how many assignments stand in a statement
abbrev mutual
  pub sites : PlainStmt → ℕ
  sites (loop x lo rel hi body) = sites_all body
  sites (choice ts first other) = sites_all first + sites_all other
  sites (assign t op e) = 1
  sites (table x len) = 0
  sites begin = 0
  sites (check x extent a) = 0
  sites verdict = 0

  pub sites_all : PlainStmts → ℕ
  sites_all no_stmts = 0
  sites_all (more_stmts s ss) = sites s + sites_all ss

abbrev pub test_is_true : Vars → PlainTest → Bool
test_is_true vs t = signed_holds t.0 (exact t.1 vs) (exact t.2 vs)

-- The instances in order of execution, the assignments being numbered from k on. All values are whole numbers.
abbrev mutual
  pub instances : ℕ → PlainStmt → Vars → List Instance
  instances k (loop x lo rel hi body) vs = flat_map (λ v. instances_all k body ((x, v) ∷ vs)) (loop_values (exact lo vs) rel (exact hi vs))
  instances k (choice ts first other) vs = if list_all (test_is_true vs) ts then instances_all k first vs else instances_all (k + sites_all first) other vs
  instances k (assign target op e) vs = record { site = k; target = target; op = op; value = e; vars = vs } ∷ []
  instances k (table x len) vs = []
  instances k begin vs = []
  instances k (check x extent a) vs = []
  instances k verdict vs = []

  pub instances_all : ℕ → PlainStmts → Vars → List Instance
  instances_all k no_stmts vs = []
  instances_all k (more_stmts s ss) vs = instances k s vs ++ instances_all (k + sites s) ss vs

-- ---- accesses

-- the word that the inputs give a cell, 0 where it lies outside its array
abbrev pub word_within : Memory → Option (ℕ × Array) → List ℤ → ℕ
word_within m None cs = 0
word_within m (Some a) cs = if is_within cs a.1.extents then m a.0 cs else 0

abbrev pub word_at : List Array → Memory → Word → List ℤ → ℕ
word_at arrays m x cs = word_within m (array_named arrays x) cs

abbrev pub exact_all : PlainExprs → Vars → List ℤ
exact_all no_exprs vs = []
exact_all (more_exprs e es) vs = exact e vs ∷ exact_all es vs

-- the value of a subscript, which may be a cell of an index array
abbrev pub subscript : List Array → Memory → PlainExpr → Vars → ℤ
subscript arrays m (cell x at) vs = pos (word_at arrays m x (exact_all at vs))
subscript arrays m e vs = exact e vs

abbrev pub subscripts : List Array → Memory → PlainExprs → Vars → List ℤ
subscripts arrays m no_exprs vs = []
subscripts arrays m (more_exprs e es) vs = subscript arrays m e vs ∷ subscripts arrays m es vs

abbrev pub access_at : Option (ℕ × Array) → List ℤ → Bool → List Access
access_at None cs w = []
access_at (Some a) cs w = record { array = a.0; cell = cs; writes = w } ∷ []

abbrev pub access_of : List Array → Memory → Word → PlainExprs → Vars → Bool → List Access
access_of arrays m x at vs w = access_at (array_named arrays x) (subscripts arrays m at vs) w

-- the reads of an expression from left to right, index cells before the cell that they name
abbrev mutual
  pub reads_of : List Array → Memory → PlainExpr → Vars → List Access
  reads_of arrays m (lit n) vs = []
  reads_of arrays m (var x) vs = []
  reads_of arrays m (cell x at) vs = reads_of_all arrays m at vs ++ access_of arrays m x at vs false
  reads_of arrays m (un op a) vs = reads_of arrays m a vs
  reads_of arrays m (bin op a b) vs = reads_of arrays m a vs ++ reads_of arrays m b vs
  reads_of arrays m (cast a) vs = reads_of arrays m a vs
  reads_of arrays m (test rel a b) vs = reads_of arrays m a vs ++ reads_of arrays m b vs
  reads_of arrays m (umin a b) vs = reads_of arrays m a vs ++ reads_of arrays m b vs
  reads_of arrays m (umax a b) vs = reads_of arrays m a vs ++ reads_of arrays m b vs
  reads_of arrays m (least a b) vs = []
  reads_of arrays m (greatest a b) vs = []
  reads_of arrays m (widen a) vs = reads_of arrays m a vs
  reads_of arrays m (big high low) vs = []

  pub reads_of_all : List Array → Memory → PlainExprs → Vars → List Access
  reads_of_all arrays m no_exprs vs = []
  reads_of_all arrays m (more_exprs e es) vs = reads_of arrays m e vs ++ reads_of_all arrays m es vs

abbrev pub old_cell : Option BinOp → List Access → List Access
old_cell None accesses = []
old_cell (Some op) accesses = accesses

-- the index cells of the target, the old cell of a compound assignment, the reads of the right side, and the write
abbrev pub accesses_to : PlainExpr → List Array → Memory → Instance → List Access
accesses_to (cell x at) arrays m i =
    reads_of_all arrays m at i.vars
    ++ (old_cell i.op (access_of arrays m x at i.vars false) ++ (reads_of arrays m i.value i.vars ++ access_of arrays m x at i.vars true))
accesses_to _ arrays m i = reads_of arrays m i.value i.vars

abbrev pub accesses_of : List Array → Memory → Instance → List Access
accesses_of arrays m i = accesses_to i.target arrays m i

-- an access with the instance that makes it
pub record Tagged : Type 0 where
  pub access : Access
  pub site : ℕ
  pub vars : Vars

abbrev pub tagged_of : List Array → Memory → Instance → List Tagged
tagged_of arrays m i = map (λ a. record { access = a; site = i.site; vars = i.vars }) (accesses_of arrays m i)

abbrev pub untagged : List Tagged → List Access
untagged ts = map (λ (t : Tagged). t.access) ts

-- the accesses of the instances of a body, tagged
abbrev pub core_of : List Array → Memory → PlainStmts → Vars → List Tagged
core_of arrays m body vs = flat_map (tagged_of arrays m) (instances_all 0 body vs)

-- The accesses of a source, for these parameters and words of memory.
abbrev pub core : PlainUnit → List ℤ → Memory → List Access
core u ns m = let vs = vars_of u.params ns in untagged (core_of (arrays_of vs u.params) m u.body vs)

-- the reads that close a text, behind the accesses of its source: none
abbrev pub closing : PlainUnit → List ℤ → List Access
closing u ns = []

abbrev pub accesses : PlainUnit → List ℤ → Memory → List Access
accesses u ns m = core u ns m ++ closing u ns

-- ---- the output

pub record Store : Type 0 where
  pub memory : Memory
  pub words : Word → ℕ

-- the value of a data expression
abbrev pub value_of : List Array → Store → PlainExpr → Vars → ℕ
value_of arrays s (lit n) vs = n
value_of arrays s (var x) vs = s.words x
value_of arrays s (cell x at) vs = word_at arrays s.memory x (subscripts arrays s.memory at vs)
value_of arrays s (un op a) vs = word_un op (value_of arrays s a vs)
value_of arrays s (bin op a b) vs = word_bin op (value_of arrays s a vs) (value_of arrays s b vs)
value_of arrays s (cast a) vs = if is_signed (kind vs a) then as_word (exact a vs) else value_of arrays s a vs
value_of arrays s (test rel a b) vs = as_bit (word_holds rel (value_of arrays s a vs) (value_of arrays s b vs))
value_of arrays s (umin a b) vs = let x = value_of arrays s a vs in let y = value_of arrays s b vs in if nat_lt x y then x else y
value_of arrays s (umax a b) vs = let x = value_of arrays s a vs in let y = value_of arrays s b vs in if nat_lt x y then y else x
value_of arrays s (least a b) vs = 0
value_of arrays s (greatest a b) vs = 0
value_of arrays s (widen a) vs = 0
value_of arrays s (big high low) vs = 0

abbrev pub combined : Option BinOp → ℕ → ℕ → ℕ
combined None old new = new
combined (Some op) old new = word_bin op old new

abbrev pub stored_within : Memory → Option (ℕ × Array) → List ℤ → ℕ → Memory
stored_within m None cs n = m
stored_within m (Some a) cs n = stored m a.0 cs n

-- what an instance makes of memory and scalars
abbrev pub applied_to : PlainExpr → List Array → Store → Instance → Store
applied_to (var x) arrays s i =
    record s { words = λ y. if bytes_eq x y then combined i.op (s.words x) (value_of arrays s i.value i.vars) else s.words y }
applied_to (cell x at) arrays s i =
    let cs = subscripts arrays s.memory at i.vars in
    record s { memory = stored_within s.memory (array_named arrays x) cs (combined i.op (word_at arrays s.memory x cs) (value_of arrays s i.value i.vars)) }
applied_to _ arrays s i = s

-- what is left after each of the instances in turn
abbrev pub applied : List Array → Store → List Instance → Store
applied arrays s is = fold (λ t i. applied_to i.target arrays t i) s is

abbrev pub literal_of : List (Word × ℕ) → Word → ℕ
literal_of [] x = 0
literal_of (w ∷ ws) x = if bytes_eq w.0 x then w.1 else literal_of ws x

-- the memory that a source leaves
abbrev pub source_output : PlainUnit → List ℤ → Memory → Memory
source_output u ns m =
    let vs = vars_of u.params ns in
    (applied (arrays_of vs u.params) (record { memory = m; words = literal_of u.words }) (instances_all 0 u.body vs)).memory
