use Rattle.std.proofs.Common.{◌≡◌, false, subst, List}
use Rattle.c_tree.specs.Trees.{exprs}
use Rattle.c_tree.specs.declared.expr.Expr.{Expr}
use Rattle.acceptance.specs.Printed as printed
use Rattle.scopes.specs.Scopes.{scope_in}
use Rattle.unit_checks.proofs.Lists.{two_subscripts}
use Rattle.unit_checks.proofs.kinds.+word.Goals as goal

pub is_entry-returns-in-len2-up : goal.is_entry-returns-in-len2-up
is_entry-returns-in-len2-up t c =
    subst (λ (es : List Expr). false ≡ printed.is_entry (scope_in c.args.sc.now) (exprs es)) c.as_slice.ensures (two_subscripts (scope_in c.args.sc.now) c.as_slice.result.now c.in-len2-up.len_at_least)
