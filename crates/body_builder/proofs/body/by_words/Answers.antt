use Rattle.std.proofs.Common.{◌≡◌, [], drop, arith}
use Rattle.std.proofs.lemmas.List.{drop_all}
use Rattle.c_tree.specs.Trees.{exprs}
use Rattle.instrumentation.specs.Body.{by_words}
use Rattle.text_parts.proofs.Lists.{ends_expressions}
use Rattle.body_builder.proofs.body.by_words.Goals as goal

pub returns : goal.returns
returns c =
    let items = c.as_slice-e-items.result.now in
    let none_left : drop c.loop-e.e-index items ≡ [] = drop_all c.loop-e.e-index items (omega arith) in
    rw (← c.as_slice-e-items.ensures) (ends_expressions c.loop-e.made (by_words (exprs items) c.args.first) (rw none_left at c.loop-e.invariant.rest))
