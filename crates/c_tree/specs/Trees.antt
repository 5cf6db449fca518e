-- The plain tree of each value of the tree types: one level by cases, and the fold of that.
use Rattle.std.specs.Prelude.{List, [], ◌∷◌, map}
use Rattle.c_tree.specs.Plain.{Word, PlainExpr, lit, var, cell, un, bin, cast, test, umin, umax, least, greatest, widen, big, PlainExprs, no_exprs, more_exprs, PlainTest, PlainStmt, loop, choice, assign, table, begin, check, verdict, PlainStmts, no_stmts, more_stmts, PlainParam, int_param, array_param, PlainUnit}
use Rattle.c_tree.specs.declared.expr.Rel.{Rel}
use Rattle.c_tree.specs.declared.name.Name.{Name}
use Rattle.c_tree.specs.declared.expr.Expr.{Expr, fold-Expr}
use Rattle.c_tree.specs.declared.expr.Expr.TheOpen.{Expr-F}
use Rattle.c_tree.specs.declared.stmt.Stmt.{Stmt, fold-Stmt}
use Rattle.c_tree.specs.declared.stmt.Stmt.TheOpen.{Stmt-F}
use Rattle.c_tree.specs.declared.unit.Param.{Param}
use Rattle.c_tree.specs.declared.unit.Param.TheVariants.{Int, Array}
use Rattle.c_tree.specs.declared.unit.Unit.{Unit as TheUnit}

abbrev pub word : Name → Word
word n = n.bytes

abbrev pub exprs_of : List PlainExpr → PlainExprs
exprs_of [] = no_exprs
exprs_of (e ∷ es) = more_exprs e (exprs_of es)

-- one level, each part being seen as its plain tree already
abbrev pub expr_step : Expr-F PlainExpr → PlainExpr
expr_step (Expr-F.Lit n) = lit n
expr_step (Expr-F.Var x) = var (word x)
expr_step (Expr-F.Cell x subscripts) = cell (word x) (exprs_of subscripts)
expr_step (Expr-F.Un op a) = un op a.value
expr_step (Expr-F.Bin op a b) = bin op a.value b.value
expr_step (Expr-F.Cast a) = cast a.value
expr_step (Expr-F.Test rel a b) = test rel a.value b.value
expr_step (Expr-F.Min a b) = umin a.value b.value
expr_step (Expr-F.Max a b) = umax a.value b.value
expr_step (Expr-F.Least a b) = least a.value b.value
expr_step (Expr-F.Greatest a b) = greatest a.value b.value
expr_step (Expr-F.Widen a) = widen a.value
expr_step (Expr-F.Big high low) = big high low

abbrev pub expr : Expr → PlainExpr
expr = fold-Expr PlainExpr expr_step

abbrev pub exprs : List Expr → PlainExprs
exprs es = exprs_of (map expr es)

abbrev pub a_test : Rel × Expr × Expr → PlainTest
a_test t = (t.0, expr t.1, expr t.2)

abbrev pub tests : List (Rel × Expr × Expr) → List PlainTest
tests = map a_test

abbrev pub stmts_of : List PlainStmt → PlainStmts
stmts_of [] = no_stmts
stmts_of (s ∷ ss) = more_stmts s (stmts_of ss)

abbrev pub stmt_step : Stmt-F PlainStmt → PlainStmt
stmt_step (Stmt-F.For x lo rel hi body) = loop (word x) (expr lo) rel (expr hi) (stmts_of body)
stmt_step (Stmt-F.If ts then other) = choice (tests ts) (stmts_of then) (stmts_of other)
stmt_step (Stmt-F.Assign target op value) = assign (expr target) op (expr value)
stmt_step (Stmt-F.Table x length) = table (word x) (expr length)
stmt_step Stmt-F.Begin = begin
stmt_step (Stmt-F.Check x extent array) = check (word x) (expr extent) array
stmt_step Stmt-F.Verdict = verdict

abbrev pub stmt : Stmt → PlainStmt
stmt = fold-Stmt PlainStmt stmt_step

abbrev pub stmts : List Stmt → PlainStmts
stmts ss = stmts_of (map stmt ss)

abbrev pub param : Param → PlainParam
param (Int x) = int_param (word x)
param (Array x constant extents) = array_param (word x) constant (exprs extents)

abbrev pub unit : TheUnit → PlainUnit
unit u = record {
  version = u.version;
  ranges = map (λ r. (word r.0, r.1, r.2)) u.ranges;
  name = word u.name;
  params = map param u.params;
  words = map (λ w. (word w.0, w.1)) u.words;
  wides = map word u.wides;
  body = stmts u.body;
}
