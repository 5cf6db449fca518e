use Rattle.std.proofs.Common.{sym, ◌∙◌}
use Rattle.c_tree.specs.Trees.{unit as tree}
use Rattle.top_call.proofs.Refusals.{unprinted_source}
use Rattle.top_call.proofs.judging.placed.Goals as goal

pub returns-else-is_printed : goal.returns-else-is_printed
returns-else-is_printed c =
    unprinted_source c.args.text.now (tree c.args.unit) c.requires (c.preamble_tells_the_version.ensures _ _ c.requires) (c.texts_have_trees.ensures _ _ c.requires)
    (sym c.is_printed.ensures ∙ c.if-is_printed.false)
