use Rattle.std.proofs.Common.{◌≡◌, ◌≤◌, take, drop, length, ℕ}
use Rattle.edge.specs.Sink.{appended}
use Rattle.edge.proofs.sink.write_all.Given as goal

abbrev pub invariant-loop-rest : goal.invariant-loop-rest
invariant-loop-rest g l =
    (n : ℕ) × (n ≤ length l.text) × (l.rest ≡ drop n l.text)
    × ((g.O.Sink.held l.out).bytes ≡ appended (g.O.Sink.held l.initial.out).bytes (take n l.text))
    × ((g.O.Sink.held l.out).faults ≡ (g.O.Sink.held l.initial.out).faults)

abbrev pub decreases-loop-rest : goal.decreases-loop-rest
decreases-loop-rest g l = length l.rest
