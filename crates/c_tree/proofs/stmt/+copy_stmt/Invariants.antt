use Rattle.std.proofs.Common.{◌≡◌, map, take}
use Rattle.c_tree.specs.Trees.{stmt}
use Rattle.c_tree.proofs.stmt.+copy_stmt.Given as goal

abbrev pub invariant-copy_stmts-loop-s : goal.invariant-copy_stmts-loop-s
invariant-copy_stmts-loop-s l = map stmt l.copies ≡ map stmt (take l.s-index l.s-items)
