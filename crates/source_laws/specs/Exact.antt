-- Where no signed value wraps: it is modulo 2^64 what it is as a whole number, for all values that the loops around it have.
use Rattle.std.specs.Prelude.{◌≡◌, true, false, List, ◌∷◌, ℤ}
use Rattle.std.specs.List.{AllByRecursion}
use Rattle.c_tree.specs.Plain.{PlainExpr, lit, var, cell, un, bin, cast, test, umin, umax, least, greatest, widen, big, PlainExprs, no_exprs, more_exprs, PlainTest, PlainStmt, loop, choice, assign, table, begin, check, verdict, PlainStmts, no_stmts, more_stmts, PlainUnit}
use Rattle.c_tree.specs.Kinds.{is_signed}
use Rattle.c_tree.specs.Values.{Vars, exact, loop_values, kind}
use Rattle.c_tree.specs.Arrays.{vars_of}
use Rattle.run_laws.specs.Sources.{IsExact}
use Rattle.acceptance.specs.Head.{list_of, extents_in}

-- a subscript, or each subscript of an index cell
abbrev pub IsSubscriptExact : PlainExpr → Vars → Type 0
IsSubscriptExact (cell x at) vs = AllByRecursion (λ e. IsExact e vs) (list_of at)
IsSubscriptExact e vs = IsExact e vs

abbrev pub AreSubscriptsExact : PlainExprs → Vars → Type 0
AreSubscriptsExact no_exprs vs = Unit {0}
AreSubscriptsExact (more_exprs e es) vs = IsSubscriptExact e vs × AreSubscriptsExact es vs

-- the subscripts in a data expression, and the signed operands of its casts
abbrev pub ArePartsExact : PlainExpr → Vars → Type 0
ArePartsExact (lit n) vs = Unit {0}
ArePartsExact (var x) vs = Unit {0}
ArePartsExact (cell x at) vs = AreSubscriptsExact at vs
ArePartsExact (un op a) vs = ArePartsExact a vs
ArePartsExact (bin op a b) vs = ArePartsExact a vs × ArePartsExact b vs
ArePartsExact (cast a) vs = (is_signed (kind vs a) ≡ true → IsExact a vs) × (is_signed (kind vs a) ≡ false → ArePartsExact a vs)
ArePartsExact (test rel a b) vs = ArePartsExact a vs × ArePartsExact b vs
ArePartsExact (umin a b) vs = ArePartsExact a vs × ArePartsExact b vs
ArePartsExact (umax a b) vs = ArePartsExact a vs × ArePartsExact b vs
ArePartsExact (least a b) vs = ⊥
ArePartsExact (greatest a b) vs = ⊥
ArePartsExact (widen a) vs = ⊥
ArePartsExact (big high low) vs = ⊥

-- bounds, sides of tests, and the parts of targets and values; of a choice both branches
abbrev mutual
  pub IsExactStmt : PlainStmt → Vars → Type 0
  IsExactStmt (loop x lo rel hi body) vs = IsExact lo vs × IsExact hi vs × AllByRecursion (λ v. AreExactStmts body ((x, v) ∷ vs)) (loop_values (exact lo vs) rel (exact hi vs))
  IsExactStmt (choice ts first other) vs = AllByRecursion (λ (t : PlainTest). IsExact t.1 vs × IsExact t.2 vs) ts × AreExactStmts first vs × AreExactStmts other vs
  IsExactStmt (assign target op e) vs = ArePartsExact target vs × ArePartsExact e vs
  IsExactStmt (table x len) vs = ⊥
  IsExactStmt begin vs = ⊥
  IsExactStmt (check x extent a) vs = ⊥
  IsExactStmt verdict vs = ⊥

  pub AreExactStmts : PlainStmts → Vars → Type 0
  AreExactStmts no_stmts vs = Unit {0}
  AreExactStmts (more_stmts s ss) vs = IsExactStmt s vs × AreExactStmts ss vs

-- a unit whose parameters have these values
pub record IsExactFor (u : PlainUnit) (ns : List ℤ) : Type 0 where
  pub extents : AllByRecursion (λ e. IsExact e (vars_of u.params ns)) (extents_in u.params)
  pub body : AreExactStmts u.body (vars_of u.params ns)
