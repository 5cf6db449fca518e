use Rattle.c_tree.specs.Trees.{expr}
use Rattle.text_parts.specs.Operands.{operands}
use Rattle.pass_builder.proofs.passes.Pass.+reads.Given as goal

abbrev pub decreases-reads : goal.decreases-reads
decreases-reads l = operands (expr l.e.now)
