use Rattle.std.proofs.Common.{ap, ◌∙◌}
use Rattle.c_tree.specs.Trees.{expr}
use Rattle.affine_checks.proofs.Found.{is_there, constant_there}
use Rattle.affine_checks.proofs.small.has_small_constant.Goals as goal

pub returns-in-Some : goal.returns-in-Some
returns-in-Some c = ap is_there c.in-Some.ensures ∙ constant_there (expr c.args.e.now)

pub returns-in-None : goal.returns-in-None
returns-in-None c = ap is_there c.in-None.ensures ∙ constant_there (expr c.args.e.now)
