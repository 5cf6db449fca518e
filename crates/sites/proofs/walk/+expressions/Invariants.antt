use Rattle.std.proofs.Common.{◌≡◌, ◌+◌, ◌-◌, ◌≤◌, ◌^◌, min, drop}
use Rattle.c_tree.specs.Trees.{exprs}
use Rattle.sites.specs.Found.{found_in_all as count_in_all}
use Rattle.sites.specs.Shown.{frames_in, meets}
use Rattle.sites.proofs.walk.+expressions.Given as goal

abbrev pub invariant-found_in_all-loop-e : goal.invariant-found_in_all-loop-e
invariant-found_in_all-loop-e l =
    let p = meets l.q (frames_in l.frames) in
    (l.sum ≤ 2 ^ 32 - 1) × (min (l.sum + count_in_all p (exprs (drop l.e-index l.e-items))) (2 ^ 32 - 1) ≡ min (count_in_all p (exprs l.e-items)) (2 ^ 32 - 1))
