-- The plain tree of each variant, one equation for each. `expr` and `stmt` are folds, so in a lemma
-- of a crate above they do not compute at a variant: these equations say what they would give.
use Rattle.std.proofs.Common.{◌≡◌, ℕ, Bool, List, [], ◌∷◌, ◌++◌, map, Option, refl, sym, ap, ◌∙◌, rules}
use Rattle.std.proofs.lemmas.List.{map-append}
use Rattle.std.specs.declared.boxed.Box.{Box}
use Rattle.std.specs.declared.alloc.Global.{Global}
use Rattle.c_tree.specs.Plain.{PlainExpr, lit, var, cell, un, bin, cast, test, umin, umax, least, greatest, widen, big, PlainExprs, no_exprs, more_exprs, PlainStmt, loop, choice, assign, table, begin, check, verdict, PlainStmts, no_stmts, more_stmts, int_param, array_param}
use Rattle.c_tree.specs.Trees.{expr, exprs, exprs_of, tests, stmt, stmts, stmts_of, param}
use Rattle.c_tree.specs.declared.name.Name.{Name}
use Rattle.c_tree.specs.declared.expr.Rel.{Rel}
use Rattle.c_tree.specs.declared.expr.UnOp.{UnOp}
use Rattle.c_tree.specs.declared.expr.BinOp.{BinOp}
use Rattle.c_tree.specs.declared.expr.Expr.{Expr, Lit, Var, Cell, Un, Bin, Cast, Test, Min, Max, Least, Greatest, Widen, Big, the_lemmas as of_expr}
use Rattle.c_tree.specs.declared.stmt.Stmt.{Stmt, For, If, Assign, Table, Begin, Check, Verdict, the_lemmas as of_stmt}
use Rattle.c_tree.specs.declared.unit.Param.TheVariants.{Int, Array}

abbrev BoxedExpr : Type 0
BoxedExpr = Box Expr Global

pub expr-Lit : (n : ℕ) → expr (Lit n) ≡ lit n
expr-Lit n = search (rules, of_expr)

pub expr-Var : (x : Name) → expr (Var x) ≡ var x.bytes
expr-Var x = search (rules, of_expr)

pub expr-Cell : (x : Name) (at : List Expr) → expr (Cell x at) ≡ cell x.bytes (exprs at)
expr-Cell x at = search (rules, of_expr)

pub expr-Un : (op : UnOp) (a : BoxedExpr) → expr (Un op a) ≡ un op (expr a.value)
expr-Un op a = search (rules, of_expr)

pub expr-Bin : (op : BinOp) (a b : BoxedExpr) → expr (Bin op a b) ≡ bin op (expr a.value) (expr b.value)
expr-Bin op a b = search (rules, of_expr)

pub expr-Cast : (a : BoxedExpr) → expr (Cast a) ≡ cast (expr a.value)
expr-Cast a = search (rules, of_expr)

pub expr-Test : (rel : Rel) (a b : BoxedExpr) → expr (Test rel a b) ≡ test rel (expr a.value) (expr b.value)
expr-Test rel a b = search (rules, of_expr)

pub expr-Min : (a b : BoxedExpr) → expr (Min a b) ≡ umin (expr a.value) (expr b.value)
expr-Min a b = search (rules, of_expr)

pub expr-Max : (a b : BoxedExpr) → expr (Max a b) ≡ umax (expr a.value) (expr b.value)
expr-Max a b = search (rules, of_expr)

pub expr-Least : (a b : BoxedExpr) → expr (Least a b) ≡ least (expr a.value) (expr b.value)
expr-Least a b = search (rules, of_expr)

pub expr-Greatest : (a b : BoxedExpr) → expr (Greatest a b) ≡ greatest (expr a.value) (expr b.value)
expr-Greatest a b = search (rules, of_expr)

pub expr-Widen : (a : BoxedExpr) → expr (Widen a) ≡ widen (expr a.value)
expr-Widen a = search (rules, of_expr)

pub expr-Big : (high low : ℕ) → expr (Big high low) ≡ big high low
expr-Big high low = search (rules, of_expr)

pub stmt-For : (x : Name) (lo : Expr) (rel : Rel) (hi : Expr) (body : List Stmt) → stmt (For x lo rel hi body) ≡ loop x.bytes (expr lo) rel (expr hi) (stmts body)
stmt-For x lo rel hi body = search (rules, of_stmt)

pub stmt-If : (ts : List (Rel × Expr × Expr)) (then other : List Stmt) → stmt (If ts then other) ≡ choice (tests ts) (stmts then) (stmts other)
stmt-If ts then other = search (rules, of_stmt)

pub stmt-Assign : (target : Expr) (op : Option BinOp) (value : Expr) → stmt (Assign target op value) ≡ assign (expr target) op (expr value)
stmt-Assign target op value = search (rules, of_stmt)

pub stmt-Table : (x : Name) (length : Expr) → stmt (Table x length) ≡ table x.bytes (expr length)
stmt-Table x length = search (rules, of_stmt)

pub stmt-Begin : stmt Begin ≡ begin
stmt-Begin = search (rules, of_stmt)

pub stmt-Check : (x : Name) (extent : Expr) (array : ℕ) → stmt (Check x extent array) ≡ check x.bytes (expr extent) array
stmt-Check x extent array = search (rules, of_stmt)

pub stmt-Verdict : stmt Verdict ≡ verdict
stmt-Verdict = search (rules, of_stmt)

pub param-Int : (x : Name) → param (Int x) ≡ int_param x.bytes
param-Int x = refl

pub param-Array : (x : Name) (constant : Bool) (extents : List Expr) → param (Array x constant extents) ≡ array_param x.bytes constant (exprs extents)
param-Array x constant extents = refl

pub exprs-nil : exprs [] ≡ no_exprs
exprs-nil = refl

pub exprs-cons : (e : Expr) (es : List Expr) → exprs (e ∷ es) ≡ more_exprs (expr e) (exprs es)
exprs-cons e es = refl

pub exprs-append : (xs ys : List Expr) → exprs (xs ++ ys) ≡ exprs_of (map expr xs ++ map expr ys)
exprs-append xs ys = ap exprs_of (map-append expr xs ys)

pub stmts-nil : stmts [] ≡ no_stmts
stmts-nil = refl

pub stmts-cons : (s : Stmt) (ss : List Stmt) → stmts (s ∷ ss) ≡ more_stmts (stmt s) (stmts ss)
stmts-cons s ss = refl

pub stmts-append : (xs ys : List Stmt) → stmts (xs ++ ys) ≡ stmts_of (map stmt xs ++ map stmt ys)
stmts-append xs ys = ap stmts_of (map-append stmt xs ys)

-- `exprs_of` and `stmts_of` lose nothing: each is undone by a list of the members
members_of_exprs : PlainExprs → List PlainExpr
members_of_exprs no_exprs = []
members_of_exprs (more_exprs e es) = e ∷ members_of_exprs es

members_of_exprs-exprs_of : (es : List PlainExpr) → members_of_exprs (exprs_of es) ≡ es
unfolding members_of_exprs
members_of_exprs-exprs_of [] = refl
members_of_exprs-exprs_of (e ∷ es) = ap (λ l. e ∷ l) (members_of_exprs-exprs_of es)

members_of_stmts : PlainStmts → List PlainStmt
members_of_stmts no_stmts = []
members_of_stmts (more_stmts s ss) = s ∷ members_of_stmts ss

members_of_stmts-stmts_of : (ss : List PlainStmt) → members_of_stmts (stmts_of ss) ≡ ss
unfolding members_of_stmts
members_of_stmts-stmts_of [] = refl
members_of_stmts-stmts_of (s ∷ ss) = ap (λ l. s ∷ l) (members_of_stmts-stmts_of ss)

pub exprs_of-injective : (xs ys : List PlainExpr) → exprs_of xs ≡ exprs_of ys → xs ≡ ys
exprs_of-injective xs ys e = sym (members_of_exprs-exprs_of xs) ∙ ap members_of_exprs e ∙ members_of_exprs-exprs_of ys

pub stmts_of-injective : (xs ys : List PlainStmt) → stmts_of xs ≡ stmts_of ys → xs ≡ ys
stmts_of-injective xs ys e = sym (members_of_stmts-stmts_of xs) ∙ ap members_of_stmts e ∙ members_of_stmts-stmts_of ys

-- lists with the same plain tree have, one by one, members with the same plain trees
pub same_exprs : (xs ys : List Expr) → exprs xs ≡ exprs ys → map expr xs ≡ map expr ys
same_exprs xs ys = exprs_of-injective (map expr xs) (map expr ys)

pub same_list : (xs ys : List Stmt) → stmts xs ≡ stmts ys → map stmt xs ≡ map stmt ys
same_list xs ys = stmts_of-injective (map stmt xs) (map stmt ys)
