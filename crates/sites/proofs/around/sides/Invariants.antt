use Rattle.std.proofs.Common.{drop}
use Rattle.c_tree.specs.Trees.{tests}
use Rattle.sites.specs.Infos.{ShowsSides}
use Rattle.sites.specs.Variables.{variables_in}
use Rattle.sites.specs.Infos.{Front}
use Rattle.sites.proofs.around.sides.Given as goal

abbrev pub invariant-loop-test : goal.invariant-loop-test
invariant-loop-test l = Front (ShowsSides (variables_in l.v)) l.out (tests l.test-items) (tests (drop l.test-index l.test-items))
