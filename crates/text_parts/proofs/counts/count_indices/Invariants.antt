use Rattle.std.proofs.Common.{◌≡◌, ◌+◌, drop}
use Rattle.c_tree.specs.Trees.{exprs}
use Rattle.instrumentation.specs.Subscripts.{indices_in}
use Rattle.text_parts.proofs.counts.count_indices.Given as goal

abbrev pub invariant-loop-e : goal.invariant-loop-e
invariant-loop-e l = l.count + indices_in (exprs (drop l.e-index l.e-items)) ≡ indices_in (exprs l.e-items)
