-- Checks past the shorter of two lists.
use Rattle.std.proofs.Common.{◌≡◌, ℕ, ◌<◌, ◌≤◌, min, List, [], drop, length, refl, arith, ⊎_elim}
use Rattle.std.proofs.lemmas.Bool.{cases_lt}
use Rattle.std.proofs.lemmas.List.{drop_all}
use Rattle.c_tree.specs.Plain.{PlainExprs, no_exprs, more_exprs}
use Rattle.c_tree.specs.Trees.{exprs}
use Rattle.c_tree.specs.declared.expr.Expr.{Expr}
use Rattle.instrumentation.specs.Tables.{word_checks}

pub word_checks-none : (a : ℕ) (es : PlainExprs) (d : ℕ) → word_checks a d es no_exprs ≡ []
word_checks-none a no_exprs d = refl
word_checks-none a (more_exprs e es) d = refl

pub word_checks-past : (a d : ℕ) (at extents : List Expr) (n : ℕ) → n ≡ min (length at) (length extents) → word_checks a d (exprs (drop n at)) (exprs (drop n extents)) ≡ []
word_checks-past a d at extents n reached =
    ⊎_elim
    (λ (h : n < length at). rw (drop_all n extents (omega arith)) (word_checks-none a (exprs (drop n at)) d))
    (λ (h : length at ≤ n). rw (drop_all n at h) refl)
    (cases_lt n (length at))
