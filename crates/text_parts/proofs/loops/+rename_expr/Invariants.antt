use Rattle.std.proofs.Common.{◌≡◌, ◌++◌, map, drop}
use Rattle.c_tree.specs.Trees.{expr, exprs}
use Rattle.instrumentation.specs.Passes.{renamed_all}
use Rattle.text_parts.proofs.Lists.{expressions_of}
use Rattle.text_parts.specs.Around.{names_of}
use Rattle.text_parts.proofs.loops.+rename_expr.Given as goal

abbrev pub invariant-rename_exprs-loop-e : goal.invariant-rename_exprs-loop-e
invariant-rename_exprs-loop-e l =
    map expr l.made ++ expressions_of (renamed_all (names_of l.loops) (exprs (drop l.e-index l.e-items))) ≡ expressions_of (renamed_all (names_of l.loops) (exprs l.e-items))
