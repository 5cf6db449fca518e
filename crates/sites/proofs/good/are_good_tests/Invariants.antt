use Rattle.std.proofs.Common.{◌≡◌, drop, map}
use Rattle.c_tree.specs.Names.{ints_in}
use Rattle.c_tree.specs.Trees.{param, tests}
use Rattle.sites.specs.Classes as spec
use Rattle.sites.specs.Shown.{frames_in}
use Rattle.sites.specs.Small.{where_small}
use Rattle.sites.proofs.good.are_good_tests.Given as goal

abbrev pub invariant-loop-test : goal.invariant-loop-test
invariant-loop-test l =
    let names = spec.names_around (ints_in (map param l.unit.params)) (frames_in l.frames) in
    spec.are_good_tests where_small names (tests l.test-items) ≡ spec.are_good_tests where_small names (tests (drop l.test-index l.test-items))
