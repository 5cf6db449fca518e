use Rattle.std.proofs.Common.{◌≡◌, drop, ◌+◌, ◌<◌, ◌^◌, [], length, true}
use Rattle.c_tree.specs.Trees.{stmts}
use Rattle.acceptance.specs.Items.{items_all}
use Rattle.kernel_check.specs.Conditions.{excess}
use Rattle.kernel_check.specs.Items.{are_flat}
use Rattle.kernel_check.specs.Scans.{scan}
use Rattle.scopes.specs.Scopes.{declared_in}
use Rattle.kernel_check.proofs.top.walked.Given as goal

abbrev pub invariant-loop-s : goal.invariant-loop-s
invariant-loop-s l =
    let f = excess l.check (declared_in l.declared) in
    (are_flat (stmts (drop l.s-index l.s-items)) ≡ true)
    × (1 + length (items_all (stmts l.s-items) [] []) < 2 ^ 31
    → (l.next + length (items_all (stmts (drop l.s-index l.s-items)) [] l.tables) < 2 ^ 31)
    × (scan f 1 (items_all (stmts l.s-items) [] []) ≡ scan f l.next (items_all (stmts (drop l.s-index l.s-items)) [] l.tables)))
