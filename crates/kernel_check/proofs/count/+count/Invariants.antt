use Rattle.std.proofs.Common.{◌≡◌, ◌+◌, ◌-◌, ◌≤◌, ◌^◌, min, drop}
use Rattle.c_tree.specs.Trees.{stmts}
use Rattle.kernel_check.specs.Items.{all_items_in}
use Rattle.kernel_check.proofs.count.+count.Given as goal

abbrev pub invariant-count_all-loop-s : goal.invariant-count_all-loop-s
invariant-count_all-loop-s l =
    (l.sum ≤ 2 ^ 32 - 1) × (min (l.sum + all_items_in (stmts (drop l.s-index l.s-items))) (2 ^ 32 - 1) ≡ min (all_items_in (stmts l.s-items)) (2 ^ 32 - 1))
