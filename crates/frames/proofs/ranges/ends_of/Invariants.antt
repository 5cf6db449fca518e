use Rattle.std.proofs.Common.{◌≡◌, drop, map}
use Rattle.c_tree.specs.Trees.{word}
use Rattle.frames.specs.Built.{ends_in, line}
use Rattle.frames.proofs.ranges.ends_of.Given as goal

abbrev pub invariant-loop-other : goal.invariant-loop-other
invariant-loop-other l = ends_in (map line (drop l.other-index l.lines)) (word l.name) ≡ ends_in (map line l.lines) (word l.name)
