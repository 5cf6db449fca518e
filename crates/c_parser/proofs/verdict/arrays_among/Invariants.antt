use Rattle.std.proofs.Common.{◌≡◌, ◌+◌, ◌≤◌, length, drop, map}
use Rattle.c_tree.specs.Names.{arrays_in}
use Rattle.c_tree.specs.Trees as t
use Rattle.c_parser.proofs.verdict.arrays_among.Given as goal

abbrev pub invariant-loop-param : goal.invariant-loop-param
invariant-loop-param l = (l.arrays ≤ l.param-index) × (l.arrays + length (arrays_in (map t.param (drop l.param-index l.params))) ≡ length (arrays_in (map t.param l.params)))
