use Rattle.std.proofs.Common.{◌≡◌, map, drop}
use Rattle.c_tree.specs.Trees.{param}
use Rattle.instrumentation.specs.Guarded.{extents_of}
use Rattle.text_parts.specs.Numbered.{sizes}
use Rattle.text_parts.proofs.names.extents_of.Given as goal

abbrev pub invariant-loop-p : goal.invariant-loop-p
invariant-loop-p l = extents_of (map param (drop l.p-index l.params)) l.name.bytes ≡ sizes l.params l.name.bytes
