-- Sources without irregular subscripts: what is asked of a source, for its instrumented text to follow it.
use Rattle.std.specs.Prelude.{◌≡◌, ℕ, ◌^◌, ◌<◌, true, false, List, ◌∷◌, ℤ, Some}
use Rattle.std.specs.List.{AllByRecursion}
use Rattle.c_tree.specs.Plain.{Word, PlainExpr, lit, var, cell, un, bin, cast, test, umin, umax, least, greatest, widen, big, PlainExprs, no_exprs, more_exprs, PlainTest, PlainStmt, loop, choice, assign, table, begin, check, verdict, PlainStmts, no_stmts, more_stmts}
use Rattle.c_tree.specs.Kinds.{join, is_signed, is_word}
use Rattle.c_tree.specs.Values.{Vars, kind}
use Rattle.c_tree.specs.Arrays.{Array, array_named}
use Rattle.instrumentation.specs.Body.{reads_in, full}
use Rattle.instrumentation_laws.specs.OwnNames.{own}

-- an array of the run, and the number that the text gives it
pub record IsArray (arrays : List Array) (number : Word → ℕ) (x : Word) : Type 0 where
  pub array : ℕ × Array
  pub named : array_named arrays x ≡ Some array
  pub numbered : number x ≡ array.0
  pub small : array.0 < 2 ^ 64

-- no subscript is a word, as the value of a cell is
abbrev pub AreRegular : PlainExprs → Vars → Type 0
AreRegular no_exprs vs = Unit {0}
AreRegular (more_exprs e es) vs = (is_word (kind vs e) ≡ false) × AreRegular es vs

-- no cell is read
abbrev pub IsSilent : PlainExpr → Type 0
IsSilent (lit n) = Unit {0}
IsSilent (var x) = Unit {0}
IsSilent (cell x at) = ⊥
IsSilent (un op a) = IsSilent a
IsSilent (bin op a b) = IsSilent a × IsSilent b
IsSilent (cast a) = IsSilent a
IsSilent (test rel a b) = IsSilent a × IsSilent b
IsSilent (umin a b) = IsSilent a × IsSilent b
IsSilent (umax a b) = IsSilent a × IsSilent b
IsSilent (least a b) = Unit {0}
IsSilent (greatest a b) = Unit {0}
IsSilent (widen a) = Unit {0}
IsSilent (big high low) = Unit {0}

-- the value of an assignment: its words are the source's, and a cast of a signed value reads no cell
abbrev pub IsData : List Array → (Word → ℕ) → PlainExpr → Vars → Type 0
IsData arrays number (lit n) vs = Unit {0}
IsData arrays number (var x) vs = own x ≡ true
IsData arrays number (cell x at) vs = IsArray arrays number x × AreRegular at vs
IsData arrays number (un op a) vs = IsData arrays number a vs
IsData arrays number (bin op a b) vs = IsData arrays number a vs × IsData arrays number b vs
IsData arrays number (cast a) vs = IsData arrays number a vs × (is_signed (kind vs a) ≡ true → IsSilent a)
IsData arrays number (test rel a b) vs = IsData arrays number a vs × IsData arrays number b vs
IsData arrays number (umin a b) vs = IsData arrays number a vs × IsData arrays number b vs
IsData arrays number (umax a b) vs = IsData arrays number a vs × IsData arrays number b vs
IsData arrays number (least a b) vs = ⊥
IsData arrays number (greatest a b) vs = ⊥
IsData arrays number (widen a) vs = ⊥
IsData arrays number (big high low) vs = ⊥

-- a scalar of the source, or a cell
abbrev pub IsTarget : List Array → (Word → ℕ) → PlainExpr → Vars → Type 0
IsTarget arrays number (var x) vs = own x ≡ true
IsTarget arrays number (cell x at) vs = IsArray arrays number x × AreRegular at vs
IsTarget arrays number _ vs = ⊥

-- tests of signed values
abbrev pub AreSigned : List PlainTest → Vars → Type 0
AreSigned ts vs = AllByRecursion (λ t. is_word (join (kind vs t.1) (kind vs t.2)) ≡ false) ts

abbrev mutual
  pub IsSource : List Array → (Word → ℕ) → PlainStmt → Vars → Type 0
  IsSource arrays number (loop x lo rel hi body) vs = (own x ≡ true) × ((v : ℤ) → AreSource arrays number body ((x, v) ∷ vs))
  IsSource arrays number (choice ts first other) vs = AreSigned ts vs × AreSource arrays number first vs × AreSource arrays number other vs
  IsSource arrays number (assign t op e) vs = IsTarget arrays number t vs × IsData arrays number e vs × (reads_in (full t op e) < 2 ^ 64)
  IsSource arrays number (table x len) vs = ⊥
  IsSource arrays number begin vs = ⊥
  IsSource arrays number (check x extent a) vs = ⊥
  IsSource arrays number verdict vs = ⊥

  pub AreSource : List Array → (Word → ℕ) → PlainStmts → Vars → Type 0
  AreSource arrays number no_stmts vs = Unit {0}
  AreSource arrays number (more_stmts s ss) vs = IsSource arrays number s vs × AreSource arrays number ss vs
