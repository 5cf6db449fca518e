use Rattle.std.proofs.Common.{drop, map}
use Rattle.c_tree.specs.Trees.{param}
use Rattle.c_printer.specs.Before.{params_before, more_params_before}
use Rattle.c_printer.specs.Scopes.{scope_in}
use Rattle.text_writer.specs.Written.{left_to_add}
use Rattle.c_printer.proofs.head.put_params.Given as goal

abbrev pub invariant-loop-p : goal.invariant-loop-p
invariant-loop-p l = left_to_add l.fn.out l.out (params_before (scope_in l.scope) (map param l.params)) (more_params_before (scope_in l.scope) (map param (drop l.p-index l.rest)))
