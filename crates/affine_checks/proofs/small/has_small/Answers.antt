use Rattle.std.proofs.Common.{ap, ◌∙◌}
use Rattle.c_tree.specs.Trees.{expr}
use Rattle.affine_checks.proofs.Found.{is_there, terms_there}
use Rattle.affine_checks.proofs.small.has_small.Goals as goal

pub returns-in-Some : goal.returns-in-Some
returns-in-Some c = ap is_there c.in-Some.ensures ∙ terms_there c.args.name.now.bytes (expr c.args.e.now) c.requires

pub returns-in-None : goal.returns-in-None
returns-in-None c = ap is_there c.in-None.ensures ∙ terms_there c.args.name.now.bytes (expr c.args.e.now) c.requires
