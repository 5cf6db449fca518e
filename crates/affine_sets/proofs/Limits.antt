-- What lies between -m and m lies between -n and n, where m is at most n.
use Rattle.std.proofs.Common.{◌≡◌, ◌≤◌, ℕ, ℤ, pos, ◌*ℤ◌, List, [], ◌∷◌, Bool, true, refl}
use Rattle.std.specs.List.{list_all}
use Rattle.std.proofs.lemmas.Bool.{and_parts, and_from}
use Rattle.std.proofs.Common.{arith}
use Rattle.std.proofs.lemmas.Int.{ints}
use Rattle.acceptance.specs.Affine.{lies_in}
use Rattle.c_tree.specs.declared.affine.Affine.{Affine}
use Rattle.affine_sets.specs.Sums.{Term, terms_lie_in, products_lie_in, sum_lies_in}

pub all_as : (p q : Term → Bool) → ((t : Term) → p t ≡ true → q t ≡ true) → (ts : List Term) → list_all p ts ≡ true → list_all q ts ≡ true
all_as p q f [] h = refl
all_as p q f (t ∷ ts) h = let k = and_parts (p t) (list_all p ts) h in and_from (q t) (list_all q ts) (f t k.0) (all_as p q f ts k.1)

pub lies_in_more : (m n : ℕ) → m ≤ n → (z : ℤ) → lies_in (pos m) z ≡ true → lies_in (pos n) z ≡ true
lies_in_more m n l z h = grind (arith, ints)

pub products_more : (m n : ℕ) → m ≤ n → (k : ℤ) (ts : List Term) → products_lie_in (pos m) k ts ≡ true → products_lie_in (pos n) k ts ≡ true
products_more m n l k = all_as (λ t. lies_in (pos m) (t.1 *ℤ k)) (λ t. lies_in (pos n) (t.1 *ℤ k)) (λ t. lies_in_more m n l (t.1 *ℤ k))

pub sum_more : (m n : ℕ) → m ≤ n → (a : Affine) → sum_lies_in (pos m) a ≡ true → sum_lies_in (pos n) a ≡ true
sum_more m n l a h =
    let k = and_parts (lies_in (pos m) a.constant) (terms_lie_in (pos m) a.terms) h in
    and_from (lies_in (pos n) a.constant) (terms_lie_in (pos n) a.terms) (lies_in_more m n l a.constant k.0)
    (all_as (λ t. lies_in (pos m) t.1) (λ t. lies_in (pos n) t.1) (λ t. lies_in_more m n l t.1) a.terms k.1)
