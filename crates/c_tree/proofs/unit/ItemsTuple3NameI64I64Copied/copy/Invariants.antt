use Rattle.std.proofs.Common.{◌≡◌, take}
use Rattle.c_tree.proofs.unit.ItemsTuple3NameI64I64Copied.copy.Given as goal

abbrev pub invariant-loop-name : goal.invariant-loop-name
invariant-loop-name l = l.copies ≡ take l.name-index l.name-items
