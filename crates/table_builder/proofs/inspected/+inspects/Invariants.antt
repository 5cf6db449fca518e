use Rattle.std.proofs.Common.{◌≡◌, drop}
use Rattle.c_tree.specs.Trees.{stmts}
use Rattle.instrumentation.specs.Inspects.{inspects_all}
use Rattle.text_parts.specs.Numbered.{numbers}
use Rattle.table_builder.proofs.inspected.+inspects.Given as goal

abbrev pub invariant-is_inspected-loop-s : goal.invariant-is_inspected-loop-s
invariant-is_inspected-loop-s l = inspects_all (numbers l.params) l.array (stmts (drop l.s-index l.s-items)) ≡ inspects_all (numbers l.params) l.array (stmts l.s-items)
