use Rattle.c_tree.specs.Trees.{unit as tree}
use Rattle.top_call.specs.Sources.{AnySource}
use Rattle.top_call.proofs.Refusals.{of_text}
use Rattle.top_call.proofs.judging.source_of.Goals as goal

pub returns-in-Ok : goal.returns-in-Ok
returns-in-Ok c = of_text AnySource c.args.text.now (tree c.in-Ok.unit) (λ k. tree k.unit) (λ k. k.frame) c.checked_source.result c.in-Ok.ensures.is_text c.in-Ok.ensures.plain c.checked_source.ensures
