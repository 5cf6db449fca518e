use Rattle.c_tree.specs.Names.{words}
use Rattle.c_tree.specs.Trees.{expr}
use Rattle.affine_sets.proofs.CollectedSmall.{found_small}
use Rattle.affine_sets.proofs.expressions.+collected.Goals as goal

pub combined-requires-clause-left : goal.combined-requires-clause-left
combined-requires-clause-left t c =
    found_small (words c.args.names.now) (expr c.deref-in-Bin.result.now) c.in_ok-a-in-Bin.field-0 c.in-Some-2.a c.in_ok-a-in-Bin.ensures c.in-Some-2.is

pub combined-requires-clause-right : goal.combined-requires-clause-right
combined-requires-clause-right t c =
    found_small (words c.args.names.now) (expr c.deref-in-Bin-2.result.now) c.in_ok-b-in-Bin.field-0 c.in-Some-3.b c.in_ok-b-in-Bin.ensures c.in-Some-3.is
