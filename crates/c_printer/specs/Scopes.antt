-- The scope that a value of the code stands for.
use Rattle.c_tree.specs.Names.{names_around, words}
use Rattle.c_tree.specs.Layout.{Scope}
use Rattle.c_printer.specs.declared.scope.Scope.{Scope as TheScope}

abbrev pub scope_in : TheScope → Scope
scope_in sc = record { arrays = words sc.arrays.now; signed = names_around sc.signed }
