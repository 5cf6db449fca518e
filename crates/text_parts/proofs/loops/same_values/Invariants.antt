use Rattle.std.proofs.Common.{◌≡◌, ◌++◌, ◌^◌, ◌<◌, length}
use Rattle.c_tree.specs.Trees.{tests}
use Rattle.instrumentation.specs.Passes.{same_instance}
use Rattle.text_parts.specs.Around.{names_of}
use Rattle.text_parts.proofs.loops.same_values.Given as goal

abbrev pub invariant-loop-loops : goal.invariant-loop-loops
invariant-loop-loops l = record {
  shallow : length (names_of l.loops) < 2 ^ 64;
  rest : tests l.made ++ same_instance (names_of l.loops) ≡ same_instance (names_of l.fn.loops);
}
