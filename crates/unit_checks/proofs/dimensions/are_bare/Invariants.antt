use Rattle.std.proofs.Common.{◌≡◌, drop, nat_eq}
use Rattle.std.specs.List.{list_all}
use Rattle.c_tree.specs.Names.{words}
use Rattle.acceptance.specs.Printed.{dimensions}
use Rattle.scopes.specs.Scopes.{scope_in}
use Rattle.unit_checks.proofs.dimensions.are_bare.Given as goal

abbrev pub invariant-loop-name : goal.invariant-loop-name
invariant-loop-name l =
    list_all (λ x. nat_eq (dimensions (scope_in l.sc) x) 0) (words l.names) ≡ list_all (λ x. nat_eq (dimensions (scope_in l.sc) x) 0) (words (drop l.name-index l.names))
