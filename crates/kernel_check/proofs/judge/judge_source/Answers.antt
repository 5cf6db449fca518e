use Rattle.std.proofs.Common.{ap, subst}
use Rattle.c_tree.specs.Plain.{PlainUnit}
use Rattle.c_tree.specs.Trees.{unit}
use Rattle.acceptance.specs.Sources.{judged}
use Rattle.kernel_check.specs.Judging.{IsJudged}
use Rattle.kernel_check.proofs.FlatTrees.{source_flat, numbered}
use Rattle.kernel_check.proofs.judge.judge_source.Goals as goal

pub refuse_source-requires : goal.refuse_source-requires
refuse_source-requires c =
    numbered (unit c.args.unit.now) _ c.has_few_items.result (ap unit c.in_ok-declared.ensures) (source_flat (unit c.args.unit.now) c.requires) c.has_few_items.ensures c.if-not-has_few_items.false

pub returns : goal.returns
returns c = subst (λ (u : PlainUnit). IsJudged u (judged u) c.refuse_source.result) (ap unit c.in_ok-declared.ensures) c.refuse_source.ensures
