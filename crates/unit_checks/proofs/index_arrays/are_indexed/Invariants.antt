use Rattle.std.proofs.Common.{◌≡◌, drop}
use Rattle.c_tree.specs.Trees.{exprs}
use Rattle.acceptance.specs.Sources.{are_indexed}
use Rattle.scopes.specs.Scopes.{scope_in}
use Rattle.unit_checks.proofs.index_arrays.are_indexed.Given as goal

abbrev pub invariant-loop-e : goal.invariant-loop-e
invariant-loop-e l = are_indexed (scope_in l.sc).params l.x.bytes (exprs l.e-items) ≡ are_indexed (scope_in l.sc).params l.x.bytes (exprs (drop l.e-index l.e-items))
