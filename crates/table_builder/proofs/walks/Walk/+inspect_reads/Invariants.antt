use Rattle.c_tree.specs.Trees.{expr}
use Rattle.text_parts.specs.Operands.{operands}
use Rattle.table_builder.proofs.walks.Walk.+inspect_reads.Given as goal

abbrev pub decreases-inspect_reads : goal.decreases-inspect_reads
decreases-inspect_reads l = operands (expr l.e.now)
