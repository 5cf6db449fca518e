-- The number of a cell, past the shorter of two lists.
use Rattle.std.proofs.Common.{◌≡◌, ℕ, suc, ◌+◌, ◌<◌, ◌≤◌, min, List, [], ◌∷◌, drop, drop-cons, get_or, length, refl, sym, ap, ◌∙◌, arith, ⊎_elim, map}
use Rattle.std.proofs.lemmas.Bool.{cases_lt}
use Rattle.std.proofs.lemmas.List.{drop_all}
use Rattle.c_tree.specs.Plain.{lit, bin, PlainExprs, no_exprs, more_exprs}
use Rattle.c_tree.specs.Trees.{expr, exprs}
use Rattle.c_tree.specs.declared.expr.Expr.{Expr}
use Rattle.c_tree.specs.declared.expr.BinOp.TheVariants.{Add, Mul}
use Rattle.instrumentation.specs.Tables.{cells_of, row_of}

row_of-none : (ns : PlainExprs) → row_of ns [] ≡ lit 0
row_of-none no_exprs = refl
row_of-none (more_exprs n ns) = refl

pub row_of_past : (extents at : List Expr) (n : ℕ) → min (length extents) (length at) ≤ n → row_of (exprs (drop n extents)) (map expr (drop n at)) ≡ lit 0
row_of_past extents at n past =
    ⊎_elim
    (λ (h : n < length extents). rw (drop_all n at (omega arith)) (row_of-none (exprs (drop n extents))))
    (λ (h : length extents ≤ n). rw (drop_all n extents h) refl)
    (cases_lt n (length extents))

-- and before its end
pub row_of_more : (extents at : List Expr) (i : ℕ) (c : Expr) → i < min (length extents) (length at) → c ≡ get_or at i c →
    row_of (exprs (drop i extents)) (map expr (drop i at)) ≡ bin Add (bin Mul (expr c) (cells_of (exprs (drop (i + 1) extents)))) (row_of (exprs (drop (i + 1) extents)) (map expr (drop (i + 1) at)))
row_of_more extents at i c within is =
    let long : i < length extents = omega arith in
    let short : i < length at = omega arith in
    ap (λ (xs : List Expr). row_of (exprs xs) (map expr (drop i at))) (drop-cons extents i c long)
    ∙ ap (λ (ys : List Expr). row_of (exprs (get_or extents i c ∷ drop (suc i) extents)) (map expr ys)) (drop-cons at i c short ∙ ap (λ (z : Expr). z ∷ drop (suc i) at) (sym is))
    ∙ ap (λ (j : ℕ). bin Add (bin Mul (expr c) (cells_of (exprs (drop j extents)))) (row_of (exprs (drop j extents)) (map expr (drop j at)))) (let e : suc i ≡ i + 1 = omega arith in e)
