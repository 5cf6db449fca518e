-- Lists of expressions and their plain forms.
use Rattle.std.proofs.Common.{◌≡◌, List, [], ◌∷◌, ◌++◌, map, refl, sym, ap, ◌∙◌}
use Rattle.std.proofs.lemmas.List.{append-nil}
use Rattle.c_tree.specs.Plain.{PlainExpr, PlainExprs, no_exprs, more_exprs}
use Rattle.c_tree.specs.Trees.{expr, exprs, exprs_of}
use Rattle.c_tree.specs.declared.expr.Expr.{Expr}

-- the expressions of a plain list
abbrev pub expressions_of : PlainExprs → List PlainExpr
expressions_of no_exprs = []
expressions_of (more_exprs e es) = e ∷ expressions_of es

pub exprs_of-expressions_of : (es : PlainExprs) → exprs_of (expressions_of es) ≡ es
exprs_of-expressions_of no_exprs = refl
exprs_of-expressions_of (more_exprs e es) = ap (more_exprs e) (exprs_of-expressions_of es)

-- a list of expressions that is the list of a plain list is that plain list
pub ends_expressions : (made : List Expr) (es : PlainExprs) → map expr made ++ [] ≡ expressions_of es → exprs made ≡ es
ends_expressions made es e = ap exprs_of (sym (append-nil (map expr made)) ∙ e) ∙ exprs_of-expressions_of es
