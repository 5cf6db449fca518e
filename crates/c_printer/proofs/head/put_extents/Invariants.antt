use Rattle.std.proofs.Common.{drop}
use Rattle.c_tree.specs.Trees.{exprs}
use Rattle.c_printer.specs.Before.{extents_before}
use Rattle.c_printer.specs.Scopes.{scope_in}
use Rattle.text_writer.specs.Written.{left_to_add}
use Rattle.c_printer.proofs.head.put_extents.Given as goal

abbrev pub invariant-loop-extent : goal.invariant-loop-extent
invariant-loop-extent l = left_to_add l.fn.out l.out (extents_before (scope_in l.scope) (exprs l.extent-items)) (extents_before (scope_in l.scope) (exprs (drop l.extent-index l.extent-items)))
