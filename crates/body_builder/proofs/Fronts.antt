-- What is left of lists of expressions.
use Rattle.std.proofs.Common.{◌≡◌, ℕ, suc, ◌+◌, ◌<◌, ◌≤◌, min, List, [], ◌∷◌, drop, drop-cons, get_or, length, refl, sym, ap, ◌∙◌, arith, ⊎_elim}
use Rattle.std.proofs.lemmas.Bool.{cases_lt}
use Rattle.std.proofs.lemmas.List.{drop_all}
use Rattle.c_tree.specs.Plain.{PlainExprs, no_exprs, more_exprs}
use Rattle.c_tree.specs.Trees.{expr, exprs}
use Rattle.c_tree.specs.declared.expr.Expr.{Expr}
use Rattle.instrumentation.specs.Body.{index_checks}

pub expressions_left : (xs : List Expr) (i : ℕ) (x : Expr) → i < length xs → x ≡ get_or xs i x → exprs (drop i xs) ≡ more_exprs (expr x) (exprs (drop (i + 1) xs))
expressions_left xs i x within is =
    ap exprs (drop-cons xs i x within ∙ ap (λ (z : Expr). z ∷ drop (suc i) xs) (sym is))
    ∙ ap (λ (j : ℕ). more_exprs (expr x) (exprs (drop j xs))) (let e : suc i ≡ i + 1 = omega arith in e)

-- past the shorter of two lists

pub index_checks-none : (a : ℕ) (es : PlainExprs) (j : ℕ) → index_checks a es no_exprs j ≡ []
index_checks-none a no_exprs j = refl
index_checks-none a (more_exprs e es) j = refl

pub index_checks-past : (a j : ℕ) (at extents : List Expr) (n : ℕ) → n ≡ min (length at) (length extents) → index_checks a (exprs (drop n at)) (exprs (drop n extents)) j ≡ []
index_checks-past a j at extents n reached =
    ⊎_elim
    (λ (h : n < length at). rw (drop_all n extents (omega arith)) (index_checks-none a (exprs (drop n at)) j))
    (λ (h : length at ≤ n). rw (drop_all n at h) refl)
    (cases_lt n (length at))
