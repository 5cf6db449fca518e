-- Tables and a prologue with pieces that count fill the definition totals.
use Rattle.std.proofs.Common.{ℕ, List}
use Rattle.acceptance.specs.Sources.{IsAcceptedSource}
use Rattle.c_tree.specs.Plain.{PlainExprs, PlainStmt, PlainUnit}
use Rattle.instrumentation_laws.specs.Kept.{Kept}
use Rattle.instrumentation_laws.specs.KeptPrologues.{KeptProloguesFill}
use Rattle.source_laws.specs.Laws.{AcceptedHaveForms}
use Rattle.epilogue.specs.Filling.{Fills}

pub filled : AcceptedHaveForms → KeptProloguesFill → (u : PlainUnit) (kept : Kept) (tables : List PlainStmt) (cells : ℕ → PlainExprs → List PlainStmt) → IsAcceptedSource u → Fills u kept tables cells
filled forms fill u kept tables cells source i fault whole s fit is_kept built count begins =
    fill u i.ints fault kept tables cells whole s (forms u i source fit).well_formed is_kept built count begins
