use Rattle.std.proofs.Common.{◌≡◌, drop, ◌+◌, ◌<◌, ◌^◌, length}
use Rattle.c_tree.specs.Trees.{stmts}
use Rattle.kernel_check.specs.Conditions.{excess}
use Rattle.kernel_check.specs.Items.{inner_all}
use Rattle.kernel_check.specs.Scans.{scan}
use Rattle.scopes.specs.Scopes.{declared_in, loops_in}
use Rattle.kernel_check.proofs.walk.+walk.Given as goal

abbrev pub invariant-first_in_all-loop-s : goal.invariant-first_in_all-loop-s
invariant-first_in_all-loop-s l =
    let f = excess l.check (declared_in l.sc.declared.now) in
    let ls = loops_in l.sc.around.now in
    let ts = l.sc.tables.now in
    l.at + length (inner_all (stmts l.s-items) ls ts) < 2 ^ 31
    → (l.next + length (inner_all (stmts (drop l.s-index l.s-items)) ls ts) < 2 ^ 31)
    × (scan f l.at (inner_all (stmts l.s-items) ls ts) ≡ scan f l.next (inner_all (stmts (drop l.s-index l.s-items)) ls ts))
