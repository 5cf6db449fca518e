-- The head of a source's instrumented unit is the source's, and its layout a text of it.
use Rattle.std.proofs.Common.{◌≡◌, ℕ, List, refl, sym, subst}
use Rattle.acceptance.specs.Sources.{IsAcceptedSource}
use Rattle.c_tree.specs.Grammar.Texts.{IsText}
use Rattle.c_tree.specs.Layout.{layout}
use Rattle.c_tree.specs.Plain.{PlainUnit}
use Rattle.instrumentation.specs.Guarded.{guarded}
use Rattle.instrumentation.specs.Names.{function_name}
use Rattle.top_call.specs.Printed.{HasHeadOf}

guarded_head : (source : PlainUnit) → HasHeadOf source (guarded source)
unfolding function_name
guarded_head source = record { version = refl; ranges = refl; name = refl; params = refl }

pub made_head : (source unit : PlainUnit) → unit ≡ guarded source → HasHeadOf source unit
made_head source unit made = subst (λ (u : PlainUnit). HasHeadOf source u) (sym made) (guarded_head source)

-- a text that is the layout of the instrumented unit is a text of it
pub spelled_by : (source unit : PlainUnit) (text : List ℕ) → ((u : PlainUnit) → IsAcceptedSource u → IsText (layout (guarded u)) (guarded u)) → IsAcceptedSource source → unit ≡ guarded source → text ≡ layout unit → IsText text unit
spelled_by source unit text law form made same =
    subst (λ (t : List ℕ). IsText t unit) (sym same) (subst (λ (u : PlainUnit). IsText (layout u) u) (sym made) (law source form))
