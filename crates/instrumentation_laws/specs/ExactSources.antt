-- Sources with index cells of which no signed value wraps, and which write no index array; for the loop values that they go through.
use Rattle.std.specs.Prelude.{◌≡◌, ◌⊎◌, ℕ, Bool, true, false, List, ◌∷◌, None, bytes_eq}
use Rattle.std.specs.List.{AllByRecursion, list_any}
use Rattle.c_tree.specs.Plain.{Word, PlainExpr, lit, var, cell, un, bin, cast, test, umin, umax, least, greatest, widen, big, PlainExprs, no_exprs, more_exprs, PlainStmt, loop, choice, assign, table, begin, check, verdict, PlainStmts, no_stmts, more_stmts, PlainUnit}
use Rattle.c_tree.specs.Kinds.{is_signed}
use Rattle.c_tree.specs.Values.{Vars, exact, loop_values, kind}
use Rattle.c_tree.specs.Arrays.{Array, Memory, vars_of}
use Rattle.c_tree.specs.Instances.{core_of}
use Rattle.c_tree.specs.Inputs.{PlainInputs, arrays_for, IsClean}
use Rattle.c_tree.specs.Run.{run}
use Rattle.run_laws.specs.Laws.{RunsThrough}
use Rattle.run_laws.specs.Sources.{IsExact, IsAffine, AreAffine, IsSignedTest, IsSignedCast, IsArray}
use Rattle.instrumentation_laws.specs.IndexedList.{tagged_all}
use Rattle.instrumentation_laws.specs.Sources.{AreSource}

-- an affine subscript, or a cell of an index array by such
abbrev pub IsExactSubscript : List Array → (ℕ → Bool) → PlainExpr → Vars → Type 0
IsExactSubscript arrays is_index (cell p at) vs = (a : IsArray arrays p) × (is_index a.array.0 ≡ true) × AreAffine at vs
IsExactSubscript arrays is_index e vs = IsAffine e vs

abbrev pub AreExactSubscripts : List Array → (ℕ → Bool) → PlainExprs → Vars → Type 0
AreExactSubscripts arrays is_index no_exprs vs = Unit {0}
AreExactSubscripts arrays is_index (more_exprs e es) vs = IsExactSubscript arrays is_index e vs × AreExactSubscripts arrays is_index es vs

abbrev pub IsExactData : List Array → (ℕ → Bool) → PlainExpr → Vars → Type 0
IsExactData arrays is_index (lit n) vs = Unit {0}
IsExactData arrays is_index (var x) vs = Unit {0}
IsExactData arrays is_index (cell x at) vs = IsArray arrays x × AreExactSubscripts arrays is_index at vs
IsExactData arrays is_index (un op a) vs = IsExactData arrays is_index a vs
IsExactData arrays is_index (bin op a b) vs = IsExactData arrays is_index a vs × IsExactData arrays is_index b vs
IsExactData arrays is_index (cast a) vs = IsSignedCast a vs ⊎ ((is_signed (kind vs a) ≡ false) × IsExactData arrays is_index a vs)
IsExactData arrays is_index (test rel a b) vs = IsExactData arrays is_index a vs × IsExactData arrays is_index b vs
IsExactData arrays is_index (umin a b) vs = IsExactData arrays is_index a vs × IsExactData arrays is_index b vs
IsExactData arrays is_index (umax a b) vs = IsExactData arrays is_index a vs × IsExactData arrays is_index b vs
IsExactData arrays is_index (least a b) vs = Unit {0}
IsExactData arrays is_index (greatest a b) vs = Unit {0}
IsExactData arrays is_index (widen a) vs = ⊥
IsExactData arrays is_index (big high low) vs = Unit {0}

-- a scalar that isn't wide, or a cell of an array that isn't an index array
abbrev pub IsExactTarget : List Array → List Word → (ℕ → Bool) → PlainExpr → Vars → Type 0
IsExactTarget arrays wides is_index (var x) vs = list_any (bytes_eq x) wides ≡ false
IsExactTarget arrays wides is_index (cell x at) vs = (a : IsArray arrays x) × (is_index a.array.0 ≡ false) × AreAffine at vs
IsExactTarget arrays wides is_index _ vs = ⊥

abbrev mutual
  pub IsExactSource : List Array → List Word → (ℕ → Bool) → PlainStmt → Vars → Type 0
  IsExactSource arrays wides is_index (loop x lo rel hi body) vs =
      IsExact lo vs × IsExact hi vs × AllByRecursion (λ v. AreExactSource arrays wides is_index body ((x, v) ∷ vs)) (loop_values (exact lo vs) rel (exact hi vs))
  IsExactSource arrays wides is_index (choice ts first other) vs =
      AllByRecursion (λ t. IsSignedTest t vs) ts × AreExactSource arrays wides is_index first vs × AreExactSource arrays wides is_index other vs
  IsExactSource arrays wides is_index (assign target op e) vs = IsExactTarget arrays wides is_index target vs × IsExactData arrays is_index e vs
  IsExactSource arrays wides is_index (table x len) vs = ⊥
  IsExactSource arrays wides is_index begin vs = ⊥
  IsExactSource arrays wides is_index (check x extent a) vs = ⊥
  IsExactSource arrays wides is_index verdict vs = ⊥

  pub AreExactSource : List Array → List Word → (ℕ → Bool) → PlainStmts → Vars → Type 0
  AreExactSource arrays wides is_index no_stmts vs = Unit {0}
  AreExactSource arrays wides is_index (more_stmts s ss) vs = IsExactSource arrays wides is_index s vs × AreExactSource arrays wides is_index ss vs

-- The accesses of such a source by signed values are those of its instances, over every memory.
abbrev pub ExactListsAreOne : Type 0
ExactListsAreOne = (arrays : List Array) (number : Word → ℕ) (texts : Word → PlainExprs) (inspected is_index : ℕ → Bool) (wides : List Word) (m : Memory) (body : PlainStmts) (vs : Vars) →
    AreSource arrays number texts inspected body vs → AreExactSource arrays wides is_index body vs → tagged_all arrays m number 0 body vs ≡ core_of arrays m body vs

-- Its run without a fault, where it stays within its arrays, is that of its instances, index cells having the words of the inputs.
abbrev pub ExactSourcesFollow : Type 0
ExactSourcesFollow = (u : PlainUnit) (i : PlainInputs) (is_index : ℕ → Bool) → u.version ≡ None → AreExactSource (arrays_for u i.ints) u.wides is_index u.body (vars_of u.params i.ints) → IsClean u i → RunsThrough u i (run u i None)
