use Rattle.std.proofs.Common.{◌≡◌, ◌++◌, drop}
use Rattle.c_tree.specs.Trees.{tests}
use Rattle.instrumentation.specs.Passes.{renamed_tests}
use Rattle.text_parts.specs.Around.{names_of}
use Rattle.text_parts.proofs.loops.rename_tests.Given as goal

abbrev pub invariant-loop-rel : goal.invariant-loop-rel
invariant-loop-rel l =
    tests l.made ++ renamed_tests (names_of l.loops) (tests (drop l.rel-index l.rel-items)) ≡ renamed_tests (names_of l.loops) (tests l.rel-items)
