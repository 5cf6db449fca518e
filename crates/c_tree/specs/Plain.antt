-- Plain trees: units without boxes, pointers and capacities. Every definition and every clause on a
-- unit speaks of these, so equal plain trees are equal units.
use Rattle.std.specs.Prelude.{ℕ, ℤ, Bool, List, Option}
use Rattle.c_tree.specs.declared.expr.Rel.{Rel}
use Rattle.c_tree.specs.declared.expr.UnOp.{UnOp}
use Rattle.c_tree.specs.declared.expr.BinOp.{BinOp}

-- the bytes of a word
abbrev pub Word : Type 0
Word = List ℕ

mutual
  pub data PlainExpr : Type 0 where
    lit : ℕ → PlainExpr
    var : Word → PlainExpr
    cell : Word → PlainExprs → PlainExpr
    un : UnOp → PlainExpr → PlainExpr
    bin : BinOp → PlainExpr → PlainExpr → PlainExpr
    cast : PlainExpr → PlainExpr
    test : Rel → PlainExpr → PlainExpr → PlainExpr
    umin : PlainExpr → PlainExpr → PlainExpr
    umax : PlainExpr → PlainExpr → PlainExpr
    least : PlainExpr → PlainExpr → PlainExpr
    greatest : PlainExpr → PlainExpr → PlainExpr
    widen : PlainExpr → PlainExpr
    big : ℕ → ℕ → PlainExpr

  pub data PlainExprs : Type 0 where
    no_exprs : PlainExprs
    more_exprs : PlainExpr → PlainExprs → PlainExprs

-- a comparison and its two sides
abbrev pub PlainTest : Type 0
PlainTest = Rel × PlainExpr × PlainExpr

mutual
  pub data PlainStmt : Type 0 where
    loop : Word → PlainExpr → Rel → PlainExpr → PlainStmts → PlainStmt
    choice : List PlainTest → PlainStmts → PlainStmts → PlainStmt
    assign : PlainExpr → Option BinOp → PlainExpr → PlainStmt
    table : Word → PlainExpr → PlainStmt
    begin : PlainStmt
    check : Word → PlainExpr → ℕ → PlainStmt
    verdict : PlainStmt

  pub data PlainStmts : Type 0 where
    no_stmts : PlainStmts
    more_stmts : PlainStmt → PlainStmts → PlainStmts

pub data PlainParam : Type 0 where
  int_param : Word → PlainParam
  array_param : Word → Bool → PlainExprs → PlainParam

pub record PlainUnit : Type 0 where
  pub version : Option ℕ
  pub ranges : List (Word × ℤ × ℤ)
  pub name : Word
  pub params : List PlainParam
  pub words : List (Word × ℕ)
  pub wides : List Word
  pub body : PlainStmts
