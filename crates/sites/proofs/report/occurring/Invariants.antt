use Rattle.std.proofs.Common.{◌≡◌, ◌+◌, ◌-◌, ◌≤◌, ◌^◌, length, min, drop, map}
use Rattle.c_tree.specs.Names.{ints_in}
use Rattle.c_tree.specs.Trees.{param}
use Rattle.sites.specs.Asked.{occurring as those}
use Rattle.sites.proofs.report.occurring.Given as goal

abbrev pub invariant-loop-p : goal.invariant-loop-p
invariant-loop-p l =
    (l.sum ≤ 2 ^ 32 - 1)
    × (min (l.sum + length (those l.unit l.array.bytes (ints_in (map param (drop l.p-index l.p-items))))) (2 ^ 32 - 1) ≡ min (length (those l.unit l.array.bytes (ints_in (map param l.p-items)))) (2 ^ 32 - 1))
