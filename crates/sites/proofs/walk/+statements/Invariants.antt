use Rattle.std.proofs.Common.{◌≡◌, ◌+◌, ◌-◌, ◌≤◌, ◌^◌, min, drop}
use Rattle.c_tree.specs.Trees.{stmts}
use Rattle.sites.specs.Found.{found_all as count_all}
use Rattle.sites.specs.Shown.{frames_in, meets}
use Rattle.sites.proofs.walk.+statements.Given as goal

abbrev pub invariant-found_all-loop-s : goal.invariant-found_all-loop-s
invariant-found_all-loop-s l =
    let p = meets l.q in
    (l.sum ≤ 2 ^ 32 - 1) × (min (l.sum + count_all p (stmts (drop l.s-index l.s-items)) (frames_in l.frames)) (2 ^ 32 - 1) ≡ min (count_all p (stmts l.s-items) (frames_in l.frames)) (2 ^ 32 - 1))
