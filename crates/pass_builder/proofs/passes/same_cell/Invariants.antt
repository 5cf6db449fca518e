use Rattle.std.proofs.Common.{◌≡◌, ◌++◌, drop, length}
use Rattle.c_tree.specs.Trees.{exprs, tests}
use Rattle.instrumentation.specs.Passes.{same_cell, renamed_all}
use Rattle.text_parts.specs.Around.{names_of}
use Rattle.pass_builder.proofs.passes.same_cell.Given as goal

abbrev pub invariant-loop-ours : goal.invariant-loop-ours
invariant-loop-ours l =
    tests l.made ++ same_cell (renamed_all (names_of l.loops) (exprs (drop (length l.yielded) l.at))) (exprs (drop (length l.yielded) l.other))
    ≡ same_cell (renamed_all (names_of l.loops) (exprs l.at)) (exprs l.other)
