use Rattle.std.proofs.Common.{◌≡◌, drop}
use Rattle.c_tree.specs.Trees.{exprs}
use Rattle.acceptance.specs.Head.{all_use_known}
use Rattle.unit_checks.specs.Known.{known_in}
use Rattle.unit_checks.proofs.known.+known.Given as goal

abbrev pub invariant-all_use_known-loop-e : goal.invariant-all_use_known-loop-e
invariant-all_use_known-loop-e l = all_use_known (known_in l.known) (exprs l.e-items) ≡ all_use_known (known_in l.known) (exprs (drop l.e-index l.e-items))
