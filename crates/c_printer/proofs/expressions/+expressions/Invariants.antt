use Rattle.std.proofs.Common.{◌+◌, ◌*◌, drop, max}
use Rattle.c_tree.proofs.expr.Expr.TheLaws.{the_size}
use Rattle.c_tree.specs.Trees.{exprs}
use Rattle.c_printer.specs.Before.{subscripts_before}
use Rattle.text_writer.specs.Written.{left_to_add}
use Rattle.c_printer.specs.Scopes.{scope_in}
use Rattle.c_printer.proofs.expressions.+expressions.Given as goal

abbrev pub decreases-put_expr : goal.decreases-put_expr
decreases-put_expr l = 4 * the_size l.e.now

abbrev pub decreases-put_wrapped : goal.decreases-put_wrapped
decreases-put_wrapped l = 4 * the_size l.e.now + 1

abbrev pub decreases-put_cast : goal.decreases-put_cast
decreases-put_cast l = 4 * the_size l.e.now + 2

abbrev pub decreases-put_call : goal.decreases-put_call
decreases-put_call l = 4 * max (the_size l.a.now) (the_size l.b.now) + 1

abbrev pub decreases-put_comparison : goal.decreases-put_comparison
decreases-put_comparison l = 4 * max (the_size l.a.now) (the_size l.b.now) + 2

abbrev pub decreases-put_subscripts : goal.decreases-put_subscripts
decreases-put_subscripts l = 4 * goal.size-put_subscripts l + 1

abbrev pub invariant-put_subscripts-loop-e : goal.invariant-put_subscripts-loop-e
invariant-put_subscripts-loop-e l = left_to_add l.fn.out l.out (subscripts_before (scope_in l.scope) l.array.bytes (exprs l.e-items)) (subscripts_before (scope_in l.scope) l.array.bytes (exprs (drop l.e-index l.e-items)))
