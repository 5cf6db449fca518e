use Rattle.std.proofs.Common.{◌≡◌, ◌+◌, map, drop}
use Rattle.c_tree.specs.Trees.{word}
use Rattle.affine_sets.specs.Collected.{number_from}
use Rattle.affine_sets.proofs.expressions.number_of.Given as goal

abbrev pub invariant-loop-other : goal.invariant-loop-other
invariant-loop-other l = record {
  counts : l.place ≡ l.other-index;
  rest : number_from 1 (map word l.names) l.name.bytes ≡ number_from (l.place + 1) (map word (drop l.other-index l.names)) l.name.bytes;
}
