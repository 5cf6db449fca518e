use Rattle.std.proofs.lemmas.Result.{err_from_is_err_and}
use Rattle.c_tree.specs.Trees.{unit}
use Rattle.kernel_check.proofs.HeadLists.{good_head}
use Rattle.kernel_check.proofs.kernel.frame.Goals as goal

pub frame_of-requires : goal.frame_of-requires
frame_of-requires c = good_head (unit c.args.unit.now) c.in_ok-judge_head.ensures

pub returns-in_err-judge_head-clause-err : goal.returns-in_err-judge_head-clause-err
returns-in_err-judge_head-clause-err c =
    let p = err_from_is_err_and c.from_residual.result c.from_residual.ensures.1 in
    rw (p.1, p.2) c.in_err-judge_head.ensures
