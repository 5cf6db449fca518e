use Rattle.std.proofs.Common.{◌≡◌, take}
use Rattle.c_tree.specs.Trees.{tests}
use Rattle.c_tree.proofs.stmt.ItemsTuple3RelExprExprCopied.copy.Given as goal

abbrev pub invariant-loop-rel : goal.invariant-loop-rel
invariant-loop-rel l = tests l.copies ≡ tests (take l.rel-index l.rel-items)
