use Rattle.c_tree.specs.Trees.{expr}
use Rattle.affine_checks.specs.Shown.{intervals_at}
use Rattle.affine_checks.proofs.Ends.{loop_some, none_narrow}
use Rattle.affine_checks.proofs.statement.interval_of_loop.Goals as goal

pub returns-in-Some-narrow : goal.returns-in-Some-narrow
returns-in-Some-narrow c = loop_some (intervals_at c.args.sc.now) (expr c.args.lo.now) (expr c.args.hi.now) c.args.rel _ _ _ c.in-Some.ensures c.in-Some-narrow.ensures c.from_bounds.ensures

pub returns-in-None-narrow : goal.returns-in-None-narrow
returns-in-None-narrow c p q = none_narrow (intervals_at c.args.sc.now) (expr c.args.hi.now) c.in-None-narrow.ensures q

pub returns-in-None : goal.returns-in-None
returns-in-None c p q = none_narrow (intervals_at c.args.sc.now) (expr c.args.lo.now) c.in-None.ensures p
