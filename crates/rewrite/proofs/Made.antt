-- What holds of the instrumented unit holds of the one that was made.
use Rattle.std.proofs.Common.{◌≡◌, Result, Ok, Err, sym, subst, ap, ◌∙◌}
use Rattle.std.specs.Prelude.{IfOk}
use Rattle.c_tree.specs.Plain.{PlainUnit}
use Rattle.c_tree.specs.Trees.{unit}
use Rattle.c_tree.specs.declared.memory.OutOfMemory.{OutOfMemory}
use Rattle.c_tree.specs.declared.unit.Unit.{Unit as TheUnit}
use Rattle.instrumentation.specs.Guarded.{guarded}

pub made_of : (r : Result TheUnit OutOfMemory) (seen source : TheUnit) → seen ≡ source → IfOk r (λ made. unit made ≡ guarded (unit seen)) → IfOk r (λ made. unit made ≡ guarded (unit source))
made_of (Ok made) seen source same e = e ∙ ap (λ u. guarded (unit u)) same
made_of (Err e) seen source same h = tt

pub if_made : (r : Result TheUnit OutOfMemory) (g : PlainUnit) (P : PlainUnit → Type 0) → IfOk r (λ made. unit made ≡ g) → P g → IfOk r (λ made. P (unit made))
if_made (Ok made) g P e p = subst P (sym e) p
if_made (Err e) g P h p = tt
