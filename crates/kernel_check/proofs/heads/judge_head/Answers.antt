use Rattle.std.proofs.Common.{ap, subst}
use Rattle.c_tree.specs.Plain.{PlainUnit}
use Rattle.c_tree.specs.Trees.{unit}
use Rattle.kernel_check.specs.Judging.{IsJudged, head_judged}
use Rattle.kernel_check.proofs.heads.judge_head.Goals as goal

pub returns : goal.returns
returns c = subst (λ (u : PlainUnit). IsJudged u (head_judged u) c.refuse_head.result) (ap unit c.in_ok-declared.ensures) c.refuse_head.ensures
