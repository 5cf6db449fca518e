-- What stands in a walk for the reads of an assignment and for its target.
use Rattle.std.specs.Prelude.{if◌then◌else◌, List}
use Rattle.c_tree.specs.Plain.{Word, PlainExpr, PlainStmt}
use Rattle.c_tree.specs.Trees.{exprs}
use Rattle.instrumentation.specs.Tables.{no_reads, inspect_reads, count_writes, number_writes}
use Rattle.text_parts.specs.Numbered.{numbers}
use Rattle.table_builder.specs.declared.walks.Walk.{Walk}

unfoldable pub reads_of : Walk → List Word → PlainExpr → List PlainStmt
reads_of w = if w.follows then inspect_reads (numbers w.params.now) w.array (exprs w.extents.now) else no_reads

unfoldable pub writes_of : Walk → List Word → PlainExpr → List PlainStmt
writes_of w = if w.follows then number_writes (numbers w.params.now) w.array (exprs w.extents.now) else count_writes (numbers w.params.now) w.array
