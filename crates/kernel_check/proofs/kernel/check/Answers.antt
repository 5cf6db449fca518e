use Rattle.std.proofs.lemmas.Result.{err_from_is_err_and}
use Rattle.c_tree.specs.Trees.{unit}
use Rattle.kernel_check.proofs.kernel.check.Goals as goal

pub returns-in_err-judge_source-clause-err : goal.returns-in_err-judge_source-clause-err
returns-in_err-judge_source-clause-err c =
    let p = err_from_is_err_and c.from_residual.result c.from_residual.ensures.1 in
    rw (p.1, p.2) c.in_err-judge_source.ensures

pub frame_of-requires : goal.frame_of-requires
frame_of-requires c = c.heads_are_good.ensures.sources (unit c.args.unit) (record { tree = c.requires; refused_nowhere = c.in_ok-judge_source.ensures })
