use Rattle.std.proofs.Common.{◌≡◌}
use Rattle.c_tree.specs.Trees.{exprs}
use Rattle.expression_parser.specs.Terminals.{all_seen}
use Rattle.expression_parser.proofs.RowLemmas.{behind}
use Rattle.grammar_reading.specs.HeadReading as heads
use Rattle.c_parser.proofs.param.extents.Given as goal

abbrev pub invariant-dims : goal.invariant-dims
invariant-dims l = heads.dims l.c 2 (all_seen l.text l.ts) ≡ behind (exprs l.extents) (heads.dims l.c l.more (all_seen l.text l.rest))

abbrev pub decreases-dims : goal.decreases-dims
decreases-dims l = l.more
