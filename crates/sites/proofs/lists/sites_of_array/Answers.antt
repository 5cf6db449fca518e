use Rattle.std.proofs.Common.{List, map, ap, suc, length, ◌∙◌}
use Rattle.c_tree.specs.Names.{ints_in}
use Rattle.c_tree.specs.Trees.{param}
use Rattle.c_tree.specs.declared.unit.Param.{Param}
use Rattle.sites.proofs.Collecting.{of_unit}
use Rattle.sites.proofs.lists.sites_of_array.Goals as goal

pub returns : goal.returns
returns c =
    of_unit (record { unit = c.args.unit; arrays = c.args.arrays; array = c.args.array }) c.in_ok-first_variable.field-0 _ _ _ c.new-out.ensures
    (c.in_ok-first_variable.ensures ∙ ap (λ (ps : List Param). suc (length (ints_in (map param ps)))) c.as_slice.ensures) c.in_ok-walk_all.ensures
