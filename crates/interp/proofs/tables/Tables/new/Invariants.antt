use Rattle.std.proofs.Common.{◌≡◌, [], map, replicate}
use Rattle.interp.proofs.tables.Tables.new.Given as goal

abbrev pub invariant-loop : goal.invariant-loop
invariant-loop l = map (λ t. t.items) l.tables.items ≡ replicate l.counter []
