use Rattle.std.proofs.Common.{List, [], ◌∷◌, ◌++◌, ap, ◌∙◌}
use Rattle.c_tree.specs.Trees as t
use Rattle.c_tree.specs.declared.stmt.Stmt.{Stmt}
use Rattle.c_tree.specs.declared.stmt.Stmt.TheVariants.{Begin, Verdict}
use Rattle.c_tree.proofs.Equations.{stmt-Begin, stmt-Verdict}
use Rattle.c_parser.proofs.StmtLists.{stmts_halves}
use Rattle.c_parser.proofs.unit.joined.Goals as goal

pub returns : goal.returns
returns c =
    ap t.stmts (c.in_ok-push-2.ensures.ok ∙ ap (λ (xs : List Stmt). xs ++ Verdict ∷ []) (c.in_ok-append.ensures ∙ ap (λ (xs : List Stmt). xs ++ c.args.halves.behind) c.in_ok-push.ensures.ok))
    ∙ stmts_halves c.args.halves.before c.args.halves.behind Begin Verdict stmt-Begin stmt-Verdict
