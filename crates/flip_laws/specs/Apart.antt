-- That no cell of an accepted source is a subscript of its own array, and a body in which one is.
use Rattle.std.specs.Prelude.{codes, None}
use Rattle.c_tree.specs.Plain.{PlainExpr, var, cell, no_exprs, more_exprs, assign, PlainStmts, no_stmts, more_stmts, PlainUnit}
use Rattle.balance_laws.specs.Independence.{AreApart}
use Rattle.acceptance.specs.Sources.{IsAcceptedSource}

-- Every accepted source is so, whatever subscripts it has.
abbrev pub AcceptedAreApart : Type 0
AcceptedAreApart = (u : PlainUnit) → IsAcceptedSource u → AreApart u.body

-- an array that is its own index array: A[i] = A[A[i]]
abbrev pub own_index : PlainStmts
own_index =
    let at = λ (e : PlainExpr). cell (codes "A") (more_exprs e no_exprs) in
    more_stmts (assign (at (var (codes "i"))) None (at (at (var (codes "i"))))) no_stmts
