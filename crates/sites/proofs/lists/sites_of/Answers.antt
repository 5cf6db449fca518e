use Rattle.std.proofs.Common.{List, map, ap, ◌∙◌}
use Rattle.c_tree.specs.Names.{arrays_in, words}
use Rattle.c_tree.specs.Trees as plain
use Rattle.c_tree.specs.Trees.{param}
use Rattle.c_tree.specs.declared.unit.Param.{Param}
use Rattle.sites.specs.Infos.{ShowsSites}
use Rattle.sites.proofs.Collecting.{of_arrays}
use Rattle.sites.proofs.Fronts.{one_further, at_last, word_left, words_left}
use Rattle.sites.proofs.lists.sites_of.Goals as goal

pub loop-array-preserved : goal.loop-array-preserved
loop-array-preserved c =
    one_further (ShowsSites (plain.unit c.args.unit.now)) _ _ _ _ _ _ _ c.loop-array.invariant
    (word_left c.as_slice-array-items.result.now c.loop-array.array-index c.array-item.result c.loop-array-test.true c.array-item.is)
    (of_arrays (plain.unit c.args.unit.now) _ _ _ (c.in_ok-arrays.ensures ∙ ap (λ (ps : List Param). arrays_in (map param ps)) c.as_slice.ensures) c.in_ok-sites_of_array.ensures)
    c.in_ok-push.ensures.ok

pub returns : goal.returns
returns c =
    at_last (ShowsSites (plain.unit c.args.unit.now)) _ _ _ _
    (ap words c.as_slice-array-items.ensures ∙ c.in_ok-arrays.ensures ∙ ap (λ (ps : List Param). arrays_in (map param ps)) c.as_slice.ensures)
    c.loop-array.invariant (words_left c.as_slice-array-items.result.now c.loop-array.array-index c.loop-array-test.false)
