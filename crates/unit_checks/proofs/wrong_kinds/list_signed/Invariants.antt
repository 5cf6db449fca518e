use Rattle.std.proofs.Common.{◌≡◌, false, drop}
use Rattle.std.specs.List.{list_all}
use Rattle.c_tree.specs.Trees.{exprs}
use Rattle.acceptance.specs.Head.{list_of}
use Rattle.acceptance.specs.Printed.{is_signed_expr}
use Rattle.unit_checks.specs.Places.{names_in}
use Rattle.unit_checks.proofs.wrong_kinds.list_signed.Given as goal

abbrev pub invariant-loop-e : goal.invariant-loop-e
invariant-loop-e l =
    list_all (is_signed_expr (names_in l.place) false) (list_of (exprs l.e-items)) ≡ list_all (is_signed_expr (names_in l.place) false) (list_of (exprs (drop l.e-index l.e-items)))
