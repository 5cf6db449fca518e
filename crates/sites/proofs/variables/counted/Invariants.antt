use Rattle.std.proofs.Common.{◌≡◌, ◌++◌, drop}
use Rattle.c_tree.specs.Names.{words}
use Rattle.sites.specs.Variables.{counted_from, numbers_of}
use Rattle.sites.proofs.variables.counted.Given as goal

abbrev pub invariant-loop-name : goal.invariant-loop-name
invariant-loop-name l = l.numbers ++ numbers_of (counted_from l.next (words (drop l._name-index l.names))) ≡ numbers_of (counted_from 1 (words l.names))
