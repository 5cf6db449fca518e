-- What is few in an accepted source: its assignments, the reads of each, and the statements around any.
use Rattle.std.specs.Prelude.{◌≤◌}
use Rattle.c_tree.specs.Plain.{PlainStmts}
use Rattle.c_tree.specs.Grammar.Statements.{stmts_height}
use Rattle.c_tree.specs.Instances.{sites_all}
use Rattle.instrumentation.specs.Body.{registers_all}

unfoldable pub IsSmall : PlainStmts → Type 0
IsSmall body = (sites_all body ≤ 256) × (registers_all body ≤ 16) × (stmts_height body ≤ 64)
