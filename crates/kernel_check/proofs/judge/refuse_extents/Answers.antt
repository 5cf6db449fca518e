use Rattle.std.proofs.Common.{sym, ◌∙◌}
use Rattle.scopes.specs.Scopes.{declared_in}
use Rattle.kernel_check.proofs.Judged.{positive_none}
use Rattle.kernel_check.proofs.judge.refuse_extents.Goals as goal

pub returns-else-extents_not_positive : goal.returns-else-extents_not_positive
returns-else-extents_not_positive c = positive_none (declared_in c.args.declared.now) (sym (c.extents_not_positive.ensures c.requires) ∙ c.if-extents_not_positive.false)
