use Rattle.std.proofs.lemmas.Result.{err_from_is_err_and}
use Rattle.c_tree.specs.Trees.{unit}
use Rattle.kernel_check.proofs.kernel.check_printed.Goals as goal

pub returns-in_err-judge_printed-clause-err : goal.returns-in_err-judge_printed-clause-err
returns-in_err-judge_printed-clause-err c =
    let p = err_from_is_err_and c.from_residual.result c.from_residual.ensures.1 in
    rw (p.1, p.2) c.in_err-judge_printed.ensures

pub frame_of-requires : goal.frame_of-requires
frame_of-requires c = c.heads_are_good.ensures.printed (unit c.args.unit) (record { tree = c.requires; refused_nowhere = c.in_ok-judge_printed.ensures })
