use Rattle.std.proofs.Common.{◌≡◌, neg_ℤ, ap, ◌∙◌, subst, sym, Option}
use Rattle.std.specs.Option.{IfSome, is_some}
use Rattle.affine_sets.specs.Differences.{SaysTheSame, HasVariables}
use Rattle.affine_sets.specs.declared.difference.Diff.{Diff}
use Rattle.affine_sets.proofs.DifferenceLaws.{form, same, constant_is, variables}
use Rattle.affine_sets.proofs.difference.as_difference.Goals as goal

from : (P : Diff → Type 0) (r s : Option Diff) → r ≡ s → IfSome s P → IfSome r P
from P r s e h = let Q : Option Diff → Type 0 = λ o. IfSome o P in subst Q (sym e) h

pub returns-clause-form : goal.returns-clause-form
returns-clause-form c =
    let a = c.args.a.now in
    ap is_some c.of_sum.ensures ∙ form (neg_ℤ a.constant) a.terms

pub returns-clause-same : goal.returns-clause-same
returns-clause-same c =
    let a = c.args.a.now in
    from (SaysTheSame a) _ _ c.of_sum.ensures (same a)

pub returns-clause-constant : goal.returns-clause-constant
returns-clause-constant c =
    let a = c.args.a.now in
    from (λ d. d.c ≡ neg_ℤ a.constant) _ _ c.of_sum.ensures (constant_is (neg_ℤ a.constant) a.terms)

pub returns-clause-variables : goal.returns-clause-variables
returns-clause-variables c =
    let a = c.args.a.now in
    from (HasVariables a.terms) _ _ c.of_sum.ensures (variables (neg_ℤ a.constant) a.terms c.requires.ordered)
