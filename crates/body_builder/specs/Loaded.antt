-- What the loads of an expression leave.
use Rattle.std.specs.Prelude.{◌≡◌, ℕ, ◌+◌}
use Rattle.c_tree.specs.Plain.{Word, PlainExpr, PlainExprs}
use Rattle.instrumentation.specs.Body.{reads_in, pure, loads_text}
use Rattle.text_parts.specs.Built.{Adds}
use Rattle.body_builder.specs.declared.body.Loads.{Loads}

-- the loads of an expression were added, and the expression over their words was made
abbrev pub AddsLoads : (Word → ℕ) → (Word → PlainExprs) → PlainExpr → Loads → Loads → PlainExpr → Type 0
AddsLoads number extents e old new made =
    Adds old.out new.out (loads_text number extents e old.next) × (new.next ≡ old.next + reads_in e) × (made ≡ pure e old.next)
