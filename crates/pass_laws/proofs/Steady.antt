-- Expressions, tests and assignments make no turn and no table, wherever they go on or end.
use Rattle.std.proofs.Common.{◌≡◌, List, refl, ◌∙◌, Option}
use Rattle.c_tree.specs.Plain.{PlainExpr, lit, var, cell, un, bin, cast, test, umin, umax, least, greatest, widen, big, PlainTest}
use Rattle.c_tree.specs.Values.{Vars}
use Rattle.c_tree.specs.Run.{State, Scope, assigned, all_hold}
use Rattle.c_tree.specs.declared.expr.BinOp.{BinOp}
use Rattle.pass_laws.proofs.Evaluated.{Arrives, Ignores, Sets, leads_assigned, leads_tests}

-- no turn and no table is made, and the text has begun as before
pub record Steady (s t : State) : Type 0 where
  pub begun : t.begun ≡ s.begun
  pub made : t.made ≡ s.made
  pub body : t.body_turns ≡ s.body_turns
  pub prologue : t.prologue_turns ≡ s.prologue_turns

steady_ignores : Ignores Steady
steady_ignores = record {
  none = λ s. record { begun = refl; made = refl; body = refl; prologue = refl };
  after = λ s t u p q. record { begun = q.begun ∙ p.begun; made = q.made ∙ p.made; body = q.body ∙ p.body; prologue = q.prologue ∙ p.prologue };
  memory = λ m s. record { begun = refl; made = refl; body = refl; prologue = refl };
  log = λ l s. record { begun = refl; made = refl; body = refl; prologue = refl };
}

-- words, wide values and tables alone are set
sets_steady : (t : PlainExpr) → Sets Steady steady_ignores t
sets_steady (var x) = (λ n s. record { begun = refl; made = refl; body = refl; prologue = refl }, λ n s. record { begun = refl; made = refl; body = refl; prologue = refl })
sets_steady (cell x at) = λ i n s. record { begun = refl; made = refl; body = refl; prologue = refl }
sets_steady (lit n) = tt
sets_steady (un o a) = tt
sets_steady (bin o a b) = tt
sets_steady (cast a) = tt
sets_steady (test rel a b) = tt
sets_steady (umin a b) = tt
sets_steady (umax a b) = tt
sets_steady (least a b) = tt
sets_steady (greatest a b) = tt
sets_steady (widen a) = tt
sets_steady (big high low) = tt

pub calm_assigned : (sc : Scope) (t : PlainExpr) (op : Option BinOp) (e : PlainExpr) (vs : Vars) (s : State) → Arrives (Steady s) (assigned sc t op e vs s)
calm_assigned sc t op e vs s = leads_assigned Steady steady_ignores sc t op e vs (sets_steady t) s

pub calm_tests : (sc : Scope) (ts : List PlainTest) (vs : Vars) (s : State) → Arrives (Steady s) (all_hold sc ts vs s)
calm_tests sc ts vs s = leads_tests Steady steady_ignores sc ts vs s
