use Rattle.std.proofs.Common.{◌≡◌, map, drop}
use Rattle.std.specs.List.{list_any}
use Rattle.c_tree.specs.Reserved.{is_reserved}
use Rattle.c_tree.specs.Trees.{param}
use Rattle.acceptance.specs.Items.{param_name}
use Rattle.unit_checks.proofs.reserved_names.param_reserved.Given as goal

abbrev pub invariant-loop-p : goal.invariant-loop-p
invariant-loop-p l = list_any (λ p. is_reserved (param_name p)) (map param l.params) ≡ list_any (λ p. is_reserved (param_name p)) (map param (drop l.p-index l.params))
