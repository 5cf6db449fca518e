use Rattle.std.proofs.Common.{◌≡◌, ◌++◌, drop, map}
use Rattle.frames.specs.Built.{line, with_ends}
use Rattle.frames.proofs.ranges.ints_of.Given as goal

abbrev pub invariant-loop-name : goal.invariant-loop-name
invariant-loop-name l = l.ints ++ map (with_ends (map line l.lines)) (drop l.name-index l.names) ≡ map (with_ends (map line l.lines)) l.names
