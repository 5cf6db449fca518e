use Rattle.std.proofs.Common.{ap, ◌∙◌}
use Rattle.c_tree.specs.Trees.{expr}
use Rattle.affine_checks.specs.Shown.{intervals_at}
use Rattle.affine_checks.proofs.Found.{is_there, narrow_there}
use Rattle.affine_checks.proofs.narrow.is_narrow.Goals as goal

pub returns-in-Some : goal.returns-in-Some
returns-in-Some c = ap is_there c.in-Some.ensures ∙ narrow_there (intervals_at c.args.sc.now) (expr c.args.e.now)

pub returns-in-None : goal.returns-in-None
returns-in-None c = ap is_there c.in-None.ensures ∙ narrow_there (intervals_at c.args.sc.now) (expr c.args.e.now)
