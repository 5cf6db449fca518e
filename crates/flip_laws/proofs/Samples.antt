-- The index arrays of two small sources.
use Rattle.std.proofs.Common.{◌≡◌, ⊎_elim, refl, codes, subst, inl, inr}
use Rattle.acceptance.specs.WorkedSources.{gather, at as cell_at}
use Rattle.c_tree.specs.Plain.{Word, PlainExprs, more_exprs, no_exprs, var}
use Rattle.balance_laws.specs.Independence.{IsIndexedBy, IsIndexArray, AreApart}
use Rattle.flip_laws.specs.Apart.{own_index}

abbrev of_p : PlainExprs
of_p = more_exprs (cell_at (codes "P") (var (codes "i"))) no_exprs

pub gather_index : IsIndexArray gather.body (codes "P")
gather_index = (codes "X", of_p, inl (inl (inr (inl (refl, refl)))), inl refl)

no_index : (y : Word) (es : PlainExprs) → es ≡ more_exprs (var (codes "i")) no_exprs → IsIndexedBy y es → ⊥
no_index y es e i = subst (λ bs. IsIndexedBy y bs) e i

one_index : (y : Word) (es : PlainExprs) → es ≡ of_p → IsIndexedBy y es → y ≡ codes "P"
one_index y es e i = ⊎_elim (λ same. same) (λ none. absurd none) (subst (λ bs. IsIndexedBy y bs) e i)

pub gather_alone : (y : Word) → IsIndexArray gather.body y → y ≡ codes "P"
gather_alone y (x, es, inl (inl (inl (inl s))), i) = absurd (no_index y es s.1 i)
gather_alone y (x, es, inl (inl (inl (inr (inl f)))), i) = absurd f
gather_alone y (x, es, inl (inl (inl (inr (inr f)))), i) = absurd f
gather_alone y (x, es, inl (inl (inr (inl s))), i) = one_index y es s.1 i
gather_alone y (x, es, inl (inl (inr (inr (inl (inl s))))), i) = absurd (no_index y es s.1 i)
gather_alone y (x, es, inl (inl (inr (inr (inl (inr (inl f)))))), i) = absurd f
gather_alone y (x, es, inl (inl (inr (inr (inl (inr (inr f)))))), i) = absurd f
gather_alone y (x, es, inl (inl (inr (inr (inr f)))), i) = absurd f
gather_alone y (x, es, inl (inr f), i) = absurd f
gather_alone y (x, es, inr f, i) = absurd f

pub own_is_not_apart : ¬ AreApart own_index
own_is_not_apart apart = apart (codes "A") (codes "A") (more_exprs (cell_at (codes "A") (var (codes "i"))) no_exprs) (inl (inr (inl (refl, refl)))) (inl refl) refl
