-- Sums over names of a weight times a value.
use Rattle.std.proofs.Common.{◌≡◌, List, [], ◌∷◌, ℤ, pos, neg_ℤ, ◌+ℤ◌, ◌-ℤ◌, ◌*ℤ◌, refl, sym, ap, ◌∙◌, arith}
use Rattle.std.proofs.lemmas.Int.{ints}
use Rattle.c_tree.specs.Plain.{Word}
use Rattle.affine_sets.proofs.ScaledLaws.{add_times}
use Rattle.frames.proofs.Products.{zero_times, neg_times, sub_times, times_add, times_assoc}

abbrev pub weighted : (Word → ℤ) → List Word → List ℤ → ℤ
weighted f [] ns = pos 0
weighted f (x ∷ xs) [] = pos 0
weighted f (x ∷ xs) (n ∷ ns) = f x *ℤ n +ℤ weighted f xs ns

pub weighted_same : (f g : Word → ℤ) → ((x : Word) → f x ≡ g x) → (xs : List Word) (ns : List ℤ) → weighted f xs ns ≡ weighted g xs ns
weighted_same f g h [] ns = refl
weighted_same f g h (x ∷ xs) [] = refl
weighted_same f g h (x ∷ xs) (n ∷ ns) = ap (λ z. z *ℤ n +ℤ weighted f xs ns) (h x) ∙ ap (λ z. g x *ℤ n +ℤ z) (weighted_same f g h xs ns)

pub weighted_none : (f : Word → ℤ) → ((x : Word) → f x ≡ pos 0) → (xs : List Word) (ns : List ℤ) → weighted f xs ns ≡ pos 0
weighted_none f h [] ns = refl
weighted_none f h (x ∷ xs) [] = refl
weighted_none f h (x ∷ xs) (n ∷ ns) = ap (λ z. z *ℤ n +ℤ weighted f xs ns) (h x) ∙ ap (λ z. z +ℤ weighted f xs ns) (zero_times n) ∙ nothing (weighted f xs ns) ∙ weighted_none f h xs ns
  where
    nothing : (z : ℤ) → pos 0 +ℤ z ≡ z
    nothing z = omega (arith, ints)

pub weighted_sum : (f g : Word → ℤ) (xs : List Word) (ns : List ℤ) → weighted (λ x. f x +ℤ g x) xs ns ≡ weighted f xs ns +ℤ weighted g xs ns
weighted_sum f g [] ns = refl
weighted_sum f g (x ∷ xs) [] = refl
weighted_sum f g (x ∷ xs) (n ∷ ns) = both ((f x +ℤ g x) *ℤ n) (f x *ℤ n) (g x *ℤ n) _ (weighted f xs ns) (weighted g xs ns) (add_times (f x) (g x) n) (weighted_sum f g xs ns)
  where
    both : (p a b q c d : ℤ) → p ≡ a +ℤ b → q ≡ c +ℤ d → p +ℤ q ≡ (a +ℤ c) +ℤ (b +ℤ d)
    both p a b q c d h k = omega (arith, ints)

pub weighted_difference : (f g : Word → ℤ) (xs : List Word) (ns : List ℤ) → weighted (λ x. f x -ℤ g x) xs ns ≡ weighted f xs ns -ℤ weighted g xs ns
weighted_difference f g [] ns = refl
weighted_difference f g (x ∷ xs) [] = refl
weighted_difference f g (x ∷ xs) (n ∷ ns) = both ((f x -ℤ g x) *ℤ n) (f x *ℤ n) (g x *ℤ n) _ (weighted f xs ns) (weighted g xs ns) (sub_times (f x) (g x) n) (weighted_difference f g xs ns)
  where
    both : (p a b q c d : ℤ) → p ≡ a -ℤ b → q ≡ c -ℤ d → p +ℤ q ≡ (a +ℤ c) -ℤ (b +ℤ d)
    both p a b q c d h k = omega (arith, ints)

pub weighted_minus : (f : Word → ℤ) (xs : List Word) (ns : List ℤ) → weighted (λ x. neg_ℤ (f x)) xs ns ≡ neg_ℤ (weighted f xs ns)
weighted_minus f [] ns = refl
weighted_minus f (x ∷ xs) [] = refl
weighted_minus f (x ∷ xs) (n ∷ ns) = both (neg_ℤ (f x) *ℤ n) (f x *ℤ n) _ (weighted f xs ns) (neg_times (f x) n) (weighted_minus f xs ns)
  where
    both : (p a q c : ℤ) → p ≡ neg_ℤ a → q ≡ neg_ℤ c → p +ℤ q ≡ neg_ℤ (a +ℤ c)
    both p a q c h k = omega (arith, ints)

pub weighted_multiple : (k : ℤ) (f : Word → ℤ) (xs : List Word) (ns : List ℤ) → weighted (λ x. k *ℤ f x) xs ns ≡ k *ℤ weighted f xs ns
weighted_multiple k f [] ns = sym (zero_right k)
  where
    zero_right : (z : ℤ) → z *ℤ pos 0 ≡ pos 0
    zero_right z = omega (arith, ints)
weighted_multiple k f (x ∷ xs) [] = sym (zero_right k)
  where
    zero_right : (z : ℤ) → z *ℤ pos 0 ≡ pos 0
    zero_right z = omega (arith, ints)
weighted_multiple k f (x ∷ xs) (n ∷ ns) =
    ap (λ z. z +ℤ weighted (λ y. k *ℤ f y) xs ns) (times_assoc k (f x) n) ∙ ap (λ z. k *ℤ (f x *ℤ n) +ℤ z) (weighted_multiple k f xs ns) ∙ sym (times_add k (f x *ℤ n) (weighted f xs ns))
