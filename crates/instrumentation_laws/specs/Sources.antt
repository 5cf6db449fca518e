-- Sources, irregular reads among their statements: what is asked of one, for its instrumented text to follow it. The text has the extents of an array by its name, and which arrays are inspected is given.
use Rattle.std.specs.Prelude.{◌≡◌, ℕ, Bool, ◌^◌, ◌<◌, true, false, List, [], ◌∷◌, ℤ}
use Rattle.c_tree.specs.Plain.{Word, PlainExpr, lit, var, cell, un, bin, cast, test, umin, umax, least, greatest, widen, big, PlainExprs, no_exprs, more_exprs, PlainStmt, loop, choice, assign, table, begin, check, verdict, PlainStmts, no_stmts, more_stmts}
use Rattle.c_tree.specs.Kinds.{is_signed, is_word}
use Rattle.c_tree.specs.Values.{Vars, signed, as_word, kind}
use Rattle.c_tree.specs.Arrays.{Array, size_of}
use Rattle.instrumentation.specs.Body.{full, reads_in}
use Rattle.instrumentation_laws.specs.RegularSources.{IsArray, AreRegular, IsSilent, IsTarget, AreSigned}
use Rattle.instrumentation_laws.specs.OwnNames.{own}

-- A subscript: a signed expression, or a cell of an index array, whose value is to be compared with the extent n. This gives the array's own, and the array is inspected.
abbrev pub IsSubscript : List Array → (Word → ℕ) → Type 0 → PlainExpr → PlainExpr → ℤ → Vars → Type 0
IsSubscript arrays number inspected (cell p at) n z vs = IsArray arrays number p × AreRegular at vs × (as_word (signed n vs) ≡ size_of z) × inspected
IsSubscript arrays number inspected e n z vs = is_word (kind vs e) ≡ false

-- one for each extent; behind these none is a cell
abbrev pub AreSubscripts : List Array → (Word → ℕ) → Type 0 → PlainExprs → PlainExprs → List ℤ → Vars → Type 0
AreSubscripts arrays number inspected no_exprs ns zs vs = Unit {0}
AreSubscripts arrays number inspected (more_exprs e es) no_exprs zs vs = AreRegular (more_exprs e es) vs
AreSubscripts arrays number inspected (more_exprs e es) (more_exprs n ns) [] vs = AreRegular (more_exprs e es) vs
AreSubscripts arrays number inspected (more_exprs e es) (more_exprs n ns) (z ∷ zs) vs = IsSubscript arrays number inspected e n z vs × AreSubscripts arrays number inspected es ns zs vs

pub record IsRead (arrays : List Array) (number : Word → ℕ) (extents : Word → PlainExprs) (inspected : ℕ → Bool) (x : Word) (at : PlainExprs) (vs : Vars) : Type 0 where
  pub array : IsArray arrays number x
  pub at_each : AreSubscripts arrays number (inspected array.array.0 ≡ true) at (extents x) array.array.1.extents vs

-- the value of an assignment: its words are the source's, and a cast of a signed value reads no cell
abbrev pub IsData : List Array → (Word → ℕ) → (Word → PlainExprs) → (ℕ → Bool) → PlainExpr → Vars → Type 0
IsData arrays number extents inspected (lit n) vs = Unit {0}
IsData arrays number extents inspected (var x) vs = own x ≡ true
IsData arrays number extents inspected (cell x at) vs = IsRead arrays number extents inspected x at vs
IsData arrays number extents inspected (un op a) vs = IsData arrays number extents inspected a vs
IsData arrays number extents inspected (bin op a b) vs = IsData arrays number extents inspected a vs × IsData arrays number extents inspected b vs
IsData arrays number extents inspected (cast a) vs = IsData arrays number extents inspected a vs × (is_signed (kind vs a) ≡ true → IsSilent a)
IsData arrays number extents inspected (test rel a b) vs = IsData arrays number extents inspected a vs × IsData arrays number extents inspected b vs
IsData arrays number extents inspected (umin a b) vs = IsData arrays number extents inspected a vs × IsData arrays number extents inspected b vs
IsData arrays number extents inspected (umax a b) vs = IsData arrays number extents inspected a vs × IsData arrays number extents inspected b vs
IsData arrays number extents inspected (least a b) vs = ⊥
IsData arrays number extents inspected (greatest a b) vs = ⊥
IsData arrays number extents inspected (widen a) vs = ⊥
IsData arrays number extents inspected (big high low) vs = ⊥

abbrev mutual
  pub IsSource : List Array → (Word → ℕ) → (Word → PlainExprs) → (ℕ → Bool) → PlainStmt → Vars → Type 0
  IsSource arrays number extents inspected (loop x lo rel hi body) vs = (own x ≡ true) × ((v : ℤ) → AreSource arrays number extents inspected body ((x, v) ∷ vs))
  IsSource arrays number extents inspected (choice ts first other) vs = AreSigned ts vs × AreSource arrays number extents inspected first vs × AreSource arrays number extents inspected other vs
  IsSource arrays number extents inspected (assign t op e) vs = IsTarget arrays number t vs × IsData arrays number extents inspected (full t op e) vs × (reads_in (full t op e) < 2 ^ 64)
  IsSource arrays number extents inspected (table x len) vs = ⊥
  IsSource arrays number extents inspected begin vs = ⊥
  IsSource arrays number extents inspected (check x extent a) vs = ⊥
  IsSource arrays number extents inspected verdict vs = ⊥

  pub AreSource : List Array → (Word → ℕ) → (Word → PlainExprs) → (ℕ → Bool) → PlainStmts → Vars → Type 0
  AreSource arrays number extents inspected no_stmts vs = Unit {0}
  AreSource arrays number extents inspected (more_stmts s ss) vs = IsSource arrays number extents inspected s vs × AreSource arrays number extents inspected ss vs
