use Rattle.std.proofs.Common.{◌≡◌, drop}
use Rattle.c_tree.specs.Trees.{tests}
use Rattle.sites.specs.Classes as spec
use Rattle.sites.specs.Small.{where_small}
use Rattle.sites.proofs.occurs.tests_name.Given as goal

abbrev pub invariant-loop-a : goal.invariant-loop-a
invariant-loop-a l = spec.tests_name where_small l.x.bytes (tests l.a-items) ≡ spec.tests_name where_small l.x.bytes (tests (drop l.a-index l.a-items))
