-- Whether something is found: where its constants, terms or intervals are within their limits.
use Rattle.std.proofs.Common.{◌≡◌, Bool, true, false, Option, Some, None, refl, ap, ◌∙◌}
use Rattle.c_tree.specs.Plain.{Word, PlainExpr}
use Rattle.acceptance.specs.Affine.{is_small, has_small, constant as the_constant, coefficient, holds_throughout, Intervals, interval, is_narrow}
use Rattle.affine_checks.specs.Linear.{constant, has_small_constant, terms, narrow}
use Rattle.affine_checks.proofs.Terms.{where_true, narrow_is, constant_is, both_throughout, terms_are, other_holds}

abbrev pub is_there : {A : Type 0} → Option A → Bool
is_there (Some a) = true
is_there None = false

there : {A : Type 0} (b : Bool) (a : A) → is_there (where_true b a) ≡ b
there true a = refl
there false a = refl

pub constant_there : (e : PlainExpr) → is_there (constant e) ≡ has_small_constant e
constant_there e = ap is_there (constant_is e) ∙ there (has_small_constant e) (the_constant e)

pub terms_there : (x : Word) (e : PlainExpr) → has_small_constant e ≡ true → is_there (terms x e) ≡ has_small x e
terms_there x e h = ap is_there (terms_are x e) ∙ there (both_throughout x e) (the_constant e, coefficient x e)
    ∙ other_holds (λ d. is_small (the_constant d)) (λ d. is_small (coefficient x d)) e h

pub narrow_there : (rs : Intervals) (e : PlainExpr) → is_there (narrow rs e) ≡ holds_throughout (is_narrow rs) e
narrow_there rs e = ap is_there (narrow_is rs e) ∙ there (holds_throughout (is_narrow rs) e) (interval rs e)

pub found_narrow : (rs : Intervals) (e : PlainExpr) → holds_throughout (is_narrow rs) e ≡ true → narrow rs e ≡ Some (interval rs e)
found_narrow rs e t = narrow_is rs e ∙ ap (λ b. where_true b (interval rs e)) t
