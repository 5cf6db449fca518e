use Rattle.std.proofs.Common.{ap, subst}
use Rattle.c_tree.specs.Plain.{PlainUnit}
use Rattle.c_tree.specs.Trees.{unit}
use Rattle.kernel_check.specs.Judging.{IsJudged, printed_judged}
use Rattle.kernel_check.proofs.FlatTrees.{printed_flat, numbered}
use Rattle.kernel_check.proofs.judge.judge_printed.Goals as goal

pub refuse_printed-requires : goal.refuse_printed-requires
refuse_printed-requires c =
    numbered (unit c.args.unit.now) _ c.has_few_items.result (ap unit c.in_ok-declared.ensures) (printed_flat (unit c.args.unit.now) c.requires) c.has_few_items.ensures c.if-not-has_few_items.false

pub returns : goal.returns
returns c = subst (λ (u : PlainUnit). IsJudged u (printed_judged u) c.refuse_printed.result) (ap unit c.in_ok-declared.ensures) c.refuse_printed.ensures
