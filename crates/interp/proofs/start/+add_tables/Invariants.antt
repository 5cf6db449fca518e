use Rattle.std.proofs.Common.{◌≡◌, ◌++◌, map, drop}
use Rattle.c_tree.specs.Trees.{stmts, word}
use Rattle.interp.specs.Started.{all_tables_in}
use Rattle.interp.proofs.start.+add_tables.Given as goal

-- the tables of what is left, behind those so far
abbrev pub invariant-add_all_tables-loop-s : goal.invariant-add_all_tables-loop-s
invariant-add_all_tables-loop-s l =
    map word l.tables ++ all_tables_in (stmts (drop l.s-index l.s-items)) ≡ map word l.fn.tables ++ all_tables_in (stmts l.s-items)
