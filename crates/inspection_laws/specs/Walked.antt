-- What the walks that make an array's tables ask of a source, and the state that they keep.
use Rattle.std.specs.Prelude.{◌≡◌, ◌⊎◌, ℕ, ◌^◌, ◌<◌, ◌+◌, Bool, true, false, ◌||◌, List, [], ◌∷◌, ◌++◌, length, slice_index, ℤ, pos, Some, None, bytes_eq, codes}
use Rattle.std.specs.List.{list_any}
use Rattle.c_tree.specs.Plain.{Word, PlainExpr, lit, var, cell, un, bin, cast, test, umin, umax, least, greatest, widen, big, PlainExprs, no_exprs, more_exprs, PlainStmt, loop, choice, assign, table, begin, check, verdict, PlainStmts, no_stmts, more_stmts}
use Rattle.c_tree.specs.declared.expr.UnOp.TheVariants.{Neg}
use Rattle.c_tree.specs.declared.expr.BinOp.TheVariants.{Add, Sub, Mul}
use Rattle.c_tree.specs.Values.{Vars, signed, as_word, is_in, value_in}
use Rattle.c_tree.specs.Arrays.{Array, array_named, size_of, cell_count}
use Rattle.c_tree.specs.Accesses.{Access, Definition, uses, writes_of}
use Rattle.c_tree.specs.Run.{State, Scope, goes_on, word}
use Rattle.instrumentation.specs.Names.{count}
use Rattle.instrumentation.specs.Body.{full}
use Rattle.instrumentation_laws.specs.OwnNames.{begins}
use Rattle.pass_laws.specs.Countable.{IsAffine, AreAffineTests, IsFresh, rank}
use Rattle.instrumentation.specs.Names.{written, current, counts}
use Rattle.inspection_laws.specs.Inspected.{writes_before, IsIts, number_of, Inspected}

-- some signed name stands in it
abbrev pub names_any : PlainExpr → Bool
names_any (lit n) = false
names_any (var x) = true
names_any (cell x at) = false
names_any (un op a) = names_any a
names_any (bin op a b) = names_any a || names_any b
names_any (cast a) = false
names_any (test rel a b) = false
names_any (umin a b) = false
names_any (umax a b) = false
names_any (least a b) = true
names_any (greatest a b) = true
names_any (widen a) = false
names_any (big high low) = false

-- built of small literals by the operators of signed values
abbrev pub IsConstant : PlainExpr → Type 0
IsConstant (lit n) = n < 2 ^ 63
IsConstant (un Neg a) = IsConstant a
IsConstant (bin Add a b) = IsConstant a × IsConstant b
IsConstant (bin Sub a b) = IsConstant a × IsConstant b
IsConstant (bin Mul a b) = IsConstant a × IsConstant b
IsConstant _ = ⊥

-- a constant, or an expression with a name: as a word it has its own value
abbrev pub IsWordable : PlainExpr → Type 0
IsWordable e = (names_any e ≡ true) ⊎ IsConstant e

-- an array of the run
pub record IsKnown (arrays : List Array) (number : Word → ℕ) (x : Word) : Type 0 where
  pub array : ℕ × Array
  pub named : array_named arrays x ≡ Some array
  pub numbered : number x ≡ array.0

-- affine subscripts, each of which is its own value as a word
abbrev pub ArePlainAt : PlainExprs → Vars → Type 0
ArePlainAt no_exprs vs = Unit {0}
ArePlainAt (more_exprs e es) vs = (IsAffine e vs × IsWordable e) × ArePlainAt es vs

-- a subscript: affine, or a cell of an index array
abbrev pub IsWalkedAt : List Array → (Word → ℕ) → PlainExpr → Vars → Type 0
IsWalkedAt arrays number (cell p at) vs = (k : IsKnown arrays number p) × ArePlainAt at vs × (rank at < 2 ^ 63) × (rank at ≡ length k.array.1.extents)
IsWalkedAt arrays number e vs = IsAffine e vs × IsWordable e

abbrev pub AreWalkedAt : List Array → (Word → ℕ) → PlainExprs → Vars → Type 0
AreWalkedAt arrays number no_exprs vs = Unit {0}
AreWalkedAt arrays number (more_exprs e es) vs = IsWalkedAt arrays number e vs × AreWalkedAt arrays number es vs

abbrev pub IsWalkedData : List Array → (Word → ℕ) → PlainExpr → Vars → Type 0
IsWalkedData arrays number (lit n) vs = Unit {0}
IsWalkedData arrays number (var x) vs = Unit {0}
IsWalkedData arrays number (cell x at) vs = AreWalkedAt arrays number at vs × (rank at < 2 ^ 63) × ((k : IsKnown arrays number x) × (rank at ≡ length k.array.1.extents))
IsWalkedData arrays number (un op a) vs = IsWalkedData arrays number a vs
IsWalkedData arrays number (bin op a b) vs = IsWalkedData arrays number a vs × IsWalkedData arrays number b vs
IsWalkedData arrays number (cast a) vs = IsWalkedData arrays number a vs
IsWalkedData arrays number (test rel a b) vs = IsWalkedData arrays number a vs × IsWalkedData arrays number b vs
IsWalkedData arrays number (umin a b) vs = IsWalkedData arrays number a vs × IsWalkedData arrays number b vs
IsWalkedData arrays number (umax a b) vs = IsWalkedData arrays number a vs × IsWalkedData arrays number b vs
IsWalkedData arrays number (least a b) vs = ⊥
IsWalkedData arrays number (greatest a b) vs = ⊥
IsWalkedData arrays number (widen a) vs = ⊥
IsWalkedData arrays number (big high low) vs = ⊥

-- a target has such subscripts alone
abbrev pub IsWalkedTarget : PlainExpr → Vars → Type 0
IsWalkedTarget (var x) vs = Unit {0}
IsWalkedTarget (cell x at) vs = ArePlainAt at vs
IsWalkedTarget _ vs = ⊥

abbrev mutual
  pub IsWalked : List Array → (Word → ℕ) → PlainStmt → Vars → Type 0
  IsWalked arrays number (loop x lo rel hi body) vs = IsAffine lo vs × IsAffine hi vs × IsFresh x vs × ((v : ℤ) → AreWalked arrays number body ((x, v) ∷ vs))
  IsWalked arrays number (choice ts first other) vs = AreAffineTests ts vs × AreWalked arrays number first vs × AreWalked arrays number other vs
  IsWalked arrays number (assign t op e) vs = IsWalkedTarget t vs × IsWalkedData arrays number (full t op e) vs
  IsWalked arrays number (table x len) vs = ⊥
  IsWalked arrays number begin vs = ⊥
  IsWalked arrays number (check x extent a) vs = ⊥
  IsWalked arrays number verdict vs = ⊥

  pub AreWalked : List Array → (Word → ℕ) → PlainStmts → Vars → Type 0
  AreWalked arrays number no_stmts vs = Unit {0}
  AreWalked arrays number (more_stmts s ss) vs = IsWalked arrays number s vs × AreWalked arrays number ss vs

-- the extents as they stand in the text have these values, as words and as signed numbers, and so do the products of the last of them
abbrev pub AreSized : Scope → PlainExprs → List ℤ → Vars → Type 0
AreSized sc no_exprs [] vs = Unit {0}
AreSized sc no_exprs (z ∷ zs) vs = ⊥
AreSized sc (more_exprs n ns) [] vs = ⊥
AreSized sc (more_exprs n ns) (z ∷ zs) vs =
    ((t : State) → word sc (cast n) vs t ≡ goes_on (size_of z) t) × (as_word (signed n vs) ≡ size_of z) × (cell_count (z ∷ zs) < 2 ^ 62) × AreSized sc ns zs vs

-- a word that the tables of array a need
abbrev pub is_scratch : ℕ → Word → Bool
is_scratch a x = bytes_eq (written a) x || begins (codes "bal_cx") x

-- the names of the tables are no arrays' and those of their words not wide
pub record HasTables (arrays : List Array) (wides : List Word) (a : ℕ) : Type 0 where
  pub current_apart : array_named arrays (current a) ≡ None
  pub counts_apart : array_named arrays (counts a) ≡ None
  pub words : (x : Word) → is_scratch a x ≡ true → list_any (bytes_eq x) wides ≡ false
  pub count_wide : list_any (bytes_eq count) wides ≡ true

-- nothing but the tables of array a and words of theirs was changed since from
pub record Keeps (a : ℕ) (from s : State) : Type 0 where
  pub begun : s.begun ≡ from.begun
  pub memory : s.memory ≡ from.memory
  pub accesses : s.accesses ≡ from.accesses
  pub wides : s.wides ≡ from.wides
  pub made : s.made ≡ from.made
  pub words : (x : Word) → is_scratch a x ≡ false → s.words x ≡ from.words x
  pub tables : (x : Word) → bytes_eq (current a) x ≡ false → bytes_eq (counts a) x ≡ false → s.tables x ≡ from.tables x

-- after n accesses of the second walk
pub record Stands (list : List Access) (a : ℕ) (es : List ℤ) (from : State) (n : ℕ) (s : State) : Type 0 where
  pub keeps : Keeps a from s
  pub inspected : Inspected list a es n (s.tables (current a)) (s.tables (counts a)) (s.words (written a))

-- after n accesses of the first walk
pub record Numbers (list : List Access) (a : ℕ) (from : State) (n : ℕ) (s : State) : Type 0 where
  pub keeps : Keeps a from s
  pub numbers : s.words (written a) ≡ writes_before list a n

-- what the tables are built for: the counts of all definitions of the array, with no write counted yet
pub record Built (list : List Access) (a : ℕ) (es : List ℤ) (from t : State) : Type 0 where
  pub begun : t.begun ≡ from.begun
  pub memory : t.memory ≡ from.memory
  pub accesses : t.accesses ≡ from.accesses
  pub wides : t.wides ≡ from.wides
  pub words : (x : Word) → is_scratch a x ≡ false → t.words x ≡ from.words x
  pub tables : (x : Word) → bytes_eq (current a) x ≡ false → bytes_eq (counts a) x ≡ false → t.tables x ≡ from.tables x
  pub made : t.made ≡ from.made ++ cell_count es ∷ (cell_count es + writes_of list a) ∷ []
  pub none_written : t.words (written a) ≡ 0
  pub counted : (d : Definition) → IsIts list a es d → slice_index (t.tables (counts a)) (number_of list a es d) ≡ uses list d

-- an environment in which the parameters have their values
pub record Agrees (params env : Vars) : Type 0 where
  pub values : (x : Word) → is_in params x ≡ true → value_in env x ≡ value_in params x
  pub has : (x : Word) → is_in params x ≡ true → is_in env x ≡ true

-- the extents of an array as they are declared, with their values, which are small, as all products of the last of them are
abbrev pub AreExtents : PlainExprs → List ℤ → Vars → Type 0
AreExtents no_exprs [] params = Unit {0}
AreExtents no_exprs (z ∷ zs) params = ⊥
AreExtents (more_exprs n ns) [] params = ⊥
AreExtents (more_exprs n ns) (z ∷ zs) params = (IsAffine n params × IsWordable n) × ((k : ℕ) × (z ≡ pos k) × (signed n params ≡ pos k) × (k < 2 ^ 63)) × (cell_count (z ∷ zs) < 2 ^ 62) × AreExtents ns zs params
