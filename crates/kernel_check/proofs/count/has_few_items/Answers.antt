use Rattle.std.proofs.Common.{[]}
use Rattle.c_tree.specs.Trees.{stmts}
use Rattle.kernel_check.proofs.Numbered.{all_counted, few}
use Rattle.kernel_check.proofs.count.has_few_items.Goals as goal

pub returns : goal.returns
returns c = few c.count_all.result _ _ c.count_all.ensures (all_counted (stmts c.args.body.now) [] [])
