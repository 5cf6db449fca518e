use Rattle.c_tree.specs.Trees.{unit as tree}
use Rattle.top_call.proofs.Refusals.{source_tree, printed_tree}
use Rattle.top_call.proofs.checking.runnable.Goals as goal

pub run_source-requires : goal.run_source-requires
run_source-requires c = source_tree (tree c.args.unit) c.in-None.is c.requires

pub run_printed-requires : goal.run_printed-requires
run_printed-requires c = printed_tree (tree c.args.unit) _ c.in-Some.is c.requires
