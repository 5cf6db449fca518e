-- Tables and a prologue make the turns of the tables, of a walk over the cells of each array, and of its pieces.
use Rattle.std.proofs.Common.{ℕ, List}
use Rattle.acceptance.specs.Sources.{IsAcceptedSource}
use Rattle.c_tree.specs.Plain.{PlainExprs, PlainStmt, PlainUnit}
use Rattle.c_tree.specs.Values.{Vars}
use Rattle.c_tree.specs.Arrays.{vars_of}
use Rattle.c_tree.specs.Inputs.{arrays_for}
use Rattle.c_tree.specs.Run.{Scope}
use Rattle.instrumentation.specs.Prologue.{prologue_text}
use Rattle.instrumentation.specs.Guarded.{arrays_with_extents}
use Rattle.instrumentation_laws.specs.RegularUnits.{wides_for}
use Rattle.instrumentation_laws.specs.Setting.{scope_of}
use Rattle.pass_laws.specs.PrologueTurns.{walks_with}
use Rattle.pass_laws.proofs.PrologueTurns.{join_turns, prologue_turns}
use Rattle.source_laws.specs.Laws.{AcceptedHaveForms}
use Rattle.epilogue.specs.Turning.{Turns}

pub turned : AcceptedHaveForms → (u : PlainUnit) (tables : List PlainStmt) (cells : ℕ → PlainExprs → List PlainStmt) → IsAcceptedSource u → Turns u tables cells
turned forms u tables cells source i fault m n s fit built pieces =
    let vs : Vars = vars_of u.params i.ints in
    let sc : Scope = scope_of (arrays_for u i.ints) (wides_for u) fault in
    let prologue : List PlainStmt = prologue_text cells 0 (arrays_with_extents u.params) in
    join_turns sc tables prologue m (walks_with n 0 (arrays_for u i.ints)) vs s built
    (λ t. prologue_turns sc vs cells n 0 u.params (forms u i source fit).well_formed.arrays pieces t)
