use Rattle.std.proofs.Common.{sym, subst}
use Rattle.c_tree.specs.Trees.{stmts, unit}
use Rattle.acceptance.specs.Printed.{IsAcceptedPrinted, StoresNothingBefore}
use Rattle.acceptance.specs.Runnable.{IsRunnable}
use Rattle.acceptance.specs.Trees.{IsPrintedTree}
use Rattle.instrumentation.specs.Guarded.{guarded}
use Rattle.flip_laws.specs.FaultyRuns.{TellsOfFaults}
use Rattle.text_parts.specs.Small.{IsSmall}
use Rattle.rewrite.proofs.Made.{if_made, made_of}
use Rattle.rewrite.proofs.unit.instrument.Goals as goal

pub instrumented_unit-requires : goal.instrumented_unit-requires
instrumented_unit-requires c = subst (λ u. IsSmall (stmts u.body)) (sym c.unit.ensures) (c.accepted_sources_are_small.ensures (unit c.args.k.now.unit) c.requires.accepted)

pub returns-clause-made : goal.returns-clause-made
returns-clause-made c = made_of c.instrumented_unit.result c.unit.result.now c.args.k.now.unit c.unit.ensures c.instrumented_unit.ensures

pub returns-clause-accepted : goal.returns-clause-accepted
returns-clause-accepted c = if_made c.instrumented_unit.result (guarded (unit c.args.k.now.unit)) IsAcceptedPrinted (made_of c.instrumented_unit.result c.unit.result.now c.args.k.now.unit c.unit.ensures c.instrumented_unit.ensures) (c.accepted_sources_are_printed.ensures.printed _ c.requires.accepted)

pub returns-clause-tree : goal.returns-clause-tree
returns-clause-tree c = if_made c.instrumented_unit.result (guarded (unit c.args.k.now.unit)) IsPrintedTree (made_of c.instrumented_unit.result c.unit.result.now c.args.k.now.unit c.unit.ensures c.instrumented_unit.ensures) (c.accepted_sources_are_printed.ensures.tree _ c.requires.accepted)

pub returns-clause-stores : goal.returns-clause-stores
returns-clause-stores c = if_made c.instrumented_unit.result (guarded (unit c.args.k.now.unit)) StoresNothingBefore (made_of c.instrumented_unit.result c.unit.result.now c.args.k.now.unit c.unit.ensures c.instrumented_unit.ensures) (c.accepted_sources_are_printed.ensures.stores _ c.requires.accepted)

pub returns-clause-runs : goal.returns-clause-runs
returns-clause-runs c = if_made c.instrumented_unit.result (guarded (unit c.args.k.now.unit)) IsRunnable (made_of c.instrumented_unit.result c.unit.result.now c.args.k.now.unit c.unit.ensures c.instrumented_unit.ensures) (c.accepted_sources_are_printed.ensures.runs _ c.requires.accepted)

pub returns-clause-faults : goal.returns-clause-faults
returns-clause-faults c = if_made c.instrumented_unit.result (guarded (unit c.args.k.now.unit)) (TellsOfFaults (unit c.args.k.now.unit)) (made_of c.instrumented_unit.result c.unit.result.now c.args.k.now.unit c.unit.ensures c.instrumented_unit.ensures) (c.accepted_sources_tell_of_faults.ensures _ c.requires.accepted)
