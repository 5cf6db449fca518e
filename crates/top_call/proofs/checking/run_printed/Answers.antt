use Rattle.c_tree.specs.Trees.{unit as tree}
use Rattle.top_call.proofs.Refusals.{own_printed, printed_why}
use Rattle.top_call.proofs.checking.run_printed.Goals as goal

pub returns-in-Ok : goal.returns-in-Ok
returns-in-Ok c =
    let is = c.in-Ok.ensures.ok in
    own_printed (tree c.args.unit) (tree c.in-Ok.printed.unit) c.in-Ok.printed.frame is.same is.accepted is.of is.is_frame

pub returns-in-Err : goal.returns-in-Err
returns-in-Err c = printed_why (tree c.args.unit) c.in-Err.refusal c.requires.version c.in-Err.ensures.err
