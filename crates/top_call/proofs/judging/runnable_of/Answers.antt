use Rattle.std.proofs.Common.{refl}
use Rattle.c_tree.specs.Trees.{unit as tree}
use Rattle.top_call.specs.Sources.{AnyText}
use Rattle.top_call.specs.Stages.{frame_of, unit_of}
use Rattle.top_call.proofs.Refusals.{of_text, refused_any}
use Rattle.top_call.proofs.judging.runnable_of.Goals as goal

pub returns-in-Ok : goal.returns-in-Ok
returns-in-Ok c = of_text AnyText c.args.text.now (tree c.in-Ok.unit) unit_of frame_of c.runnable.result c.in-Ok.ensures.ok.1 refl c.runnable.ensures

pub returns-in-Err : goal.returns-in-Err
returns-in-Err c = refused_any c.args.text.now c.in-Err.refusal c.requires c.in-Err.ensures.err

pub runnable-requires : goal.runnable-requires
runnable-requires c = c.texts_have_trees.ensures _ _ c.in-Ok.ensures.ok.1
