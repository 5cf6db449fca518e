use Rattle.std.proofs.Common.{◌≡◌, [], drop, arith}
use Rattle.std.proofs.lemmas.List.{drop_all}
use Rattle.c_tree.specs.Trees.{exprs}
use Rattle.instrumentation.specs.Passes.{renamed_all}
use Rattle.text_parts.specs.Around.{names_of}
use Rattle.text_parts.proofs.Lists.{ends_expressions}
use Rattle.text_parts.proofs.loops.+rename_expr.Goals as goal

pub rename_exprs-returns : goal.rename_exprs-returns
rename_exprs-returns t c =
    let items = c.as_slice-e-items.result.now in
    let none_left : drop c.loop-e.e-index items ≡ [] = drop_all c.loop-e.e-index items (omega arith) in
    rw (← c.as_slice-e-items.ensures) (ends_expressions c.loop-e.made (renamed_all (names_of c.args.loops.now) (exprs items)) (rw none_left at c.loop-e.invariant))
