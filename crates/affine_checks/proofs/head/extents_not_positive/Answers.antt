use Rattle.std.proofs.Common.{List, map, ap, ◌∙◌}
use Rattle.std.specs.List.{list_any}
use Rattle.c_tree.specs.Trees.{param}
use Rattle.c_tree.specs.declared.unit.Param.{Param}
use Rattle.acceptance.specs.Head.{intervals_of, extents_in}
use Rattle.scopes.specs.Scopes.{declared_in}
use Rattle.affine_checks.specs.Linear.{is_low}
use Rattle.affine_checks.proofs.Ends.{low_is}
use Rattle.affine_checks.proofs.head.extents_not_positive.Goals as goal

pub returns : goal.returns
returns c h =
    let u = declared_in c.args.declared.now in
    c.some_extent_is_low.ensures ∙ ap (λ (ps : List Param). list_any (is_low (intervals_of u)) (extents_in (map param ps))) c.as_slice.ensures ∙ low_is u h
