use Rattle.std.proofs.Common.{◌≡◌, drop}
use Rattle.c_tree.specs.Names.{is_among, words}
use Rattle.c_tree.specs.Trees.{word}
use Rattle.c_tree.proofs.signed_names.is_named.Given as goal

abbrev pub invariant-loop-other : goal.invariant-loop-other
invariant-loop-other l = is_among (words l.names) (word l.name) ≡ is_among (words (drop l.other-index l.names)) (word l.name)
