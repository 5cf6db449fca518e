-- The tests that two cells are one.
use Rattle.std.proofs.Common.{◌≡◌, ℕ, ◌<◌, ◌≤◌, min, List, [], drop, length, refl, arith, ⊎_elim}
use Rattle.std.proofs.lemmas.Bool.{cases_lt}
use Rattle.std.proofs.lemmas.List.{drop_all}
use Rattle.c_tree.specs.Plain.{Word, PlainExprs, no_exprs, more_exprs}
use Rattle.c_tree.specs.Trees.{exprs}
use Rattle.c_tree.specs.declared.expr.Expr.{Expr}
use Rattle.instrumentation.specs.Passes.{same_cell, renamed_all}

same_cell-none : (ds : PlainExprs) → same_cell ds no_exprs ≡ []
same_cell-none no_exprs = refl
same_cell-none (more_exprs d ds) = refl

-- past the shorter list there are no more tests
pub same_cell-past : (xs : List Word) (at other : List Expr) (n : ℕ) → n ≡ min (length at) (length other) → same_cell (renamed_all xs (exprs (drop n at))) (exprs (drop n other)) ≡ []
same_cell-past xs at other n least =
    ⊎_elim
    (λ (h : n < length at). rw (drop_all n other (omega arith)) (same_cell-none (renamed_all xs (exprs (drop n at)))))
    (λ (h : length at ≤ n). rw (drop_all n at h) refl)
    (cases_lt n (length at))
