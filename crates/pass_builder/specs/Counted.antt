-- What a counting pass counts.
use Rattle.c_tree.specs.Trees.{exprs}
use Rattle.instrumentation.specs.Passes.{Target}
use Rattle.pass_builder.specs.declared.passes.Pass.{Pass}

abbrev pub target_of : Pass → Target
target_of pass = record { array = pass.array; at = exprs pass.at.now }
