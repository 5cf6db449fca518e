-- The value of a sum is that of the expression that it stands for.
use Rattle.std.proofs.Common.{◌≡◌, ◌<◌, ◌≤◌, ◌+◌, ◌-◌, ℕ, suc, Bool, true, false, cond, ◌&&◌, nat_eq, nat_lt, nat_le, List, [], ◌∷◌, length, fold, slice_get, Some, ℤ, pos, ◌+ℤ◌, ◌*ℤ◌, refl, sym, ap, ◌∙◌, arith}
use Rattle.std.proofs.lemmas.Bool.{and_parts}
use Rattle.std.proofs.lemmas.Int.{ints}
use Rattle.std.proofs.Math.IntN.{*ℤ-zero}
use Rattle.c_tree.specs.Names.{ints_in}
use Rattle.c_tree.specs.Plain.{Word, PlainExpr, PlainParam}
use Rattle.c_tree.specs.Values.{exact}
use Rattle.c_tree.specs.declared.affine.Affine.{Affine}
use Rattle.acceptance.specs.Affine.{is_affine, constant as constant_of, coefficient}
use Rattle.affine_sets.specs.Expressions.{StandsFor, are_different, over}
use Rattle.affine_sets.specs.Sums.{Term, part_at, coefficient_at, has_variables_to}
use Rattle.affine_sets.proofs.ScaledLaws.{add_times}
use Rattle.data_file.specs.Checks.{value_in, term_value, sum_value}
use Rattle.data_file.specs.Frames.{IsExtent}
use Rattle.frames.proofs.Weights.{weighted}
use Rattle.frames.proofs.Exact.{vars_are, exact_is}

-- ---- the terms one by one

abbrev total_of : List ℤ → List Term → ℤ
total_of ns [] = pos 0
total_of ns (t ∷ ts) = term_value ns t +ℤ total_of ns ts

folded : (ns : List ℤ) (ts : List Term) (k : ℤ) → fold (λ total t. total +ℤ term_value ns t) k ts ≡ k +ℤ total_of ns ts
folded ns [] k = nothing k
  where
    nothing : (z : ℤ) → z ≡ z +ℤ pos 0
    nothing z = omega (arith, ints)
folded ns (t ∷ ts) k = folded ns ts (k +ℤ term_value ns t) ∙ grouped k (term_value ns t) (total_of ns ts)
  where
    grouped : (x y z : ℤ) → (x +ℤ y) +ℤ z ≡ x +ℤ (y +ℤ z)
    grouped x y z = omega (arith, ints)

-- ---- the values one by one, from variable k on

abbrev numbered : (ℕ → ℤ) → ℕ → List ℤ → ℤ
numbered f k [] = pos 0
numbered f k (n ∷ ns) = f k *ℤ n +ℤ numbered f (suc k) ns

numbered_none : (k : ℕ) (ns : List ℤ) → numbered (λ v. pos 0) k ns ≡ pos 0
numbered_none k [] = refl
numbered_none k (n ∷ ns) = both n (numbered (λ v. pos 0) (suc k) ns) (numbered_none (suc k) ns)
  where
    both : (m z : ℤ) → z ≡ pos 0 → pos 0 *ℤ m +ℤ z ≡ pos 0
    both m z h = omega (arith, ints)

numbered_sum : (f g : ℕ → ℤ) (k : ℕ) (ns : List ℤ) → numbered (λ v. f v +ℤ g v) k ns ≡ numbered f k ns +ℤ numbered g k ns
numbered_sum f g k [] = refl
numbered_sum f g k (n ∷ ns) = both ((f k +ℤ g k) *ℤ n) (f k *ℤ n) (g k *ℤ n) _ (numbered f (suc k) ns) (numbered g (suc k) ns) (add_times (f k) (g k) n) (numbered_sum f g (suc k) ns)
  where
    both : (p a b q c d : ℤ) → p ≡ a +ℤ b → q ≡ c +ℤ d → p +ℤ q ≡ (a +ℤ c) +ℤ (b +ℤ d)
    both p a b q c d h k = omega (arith, ints)

part_is : (v : ℕ) (t : Term) → nat_eq t.0 v ≡ true → part_at v t ≡ t.1
part_is v t h = ap (λ b. cond b t.1 (pos 0)) h

part_none : (v : ℕ) (t : Term) → nat_eq t.0 v ≡ false → part_at v t ≡ pos 0
part_none v t h = ap (λ b. cond b t.1 (pos 0)) h

-- a variable before k has no part
past : (t : Term) (k : ℕ) (ns : List ℤ) → t.0 < k → numbered (λ v. part_at v t) k ns ≡ pos 0
past t k [] h = refl
past t k (n ∷ ns) h = both (part_at k t) n (numbered (λ v. part_at v t) (suc k) ns) (part_none k t (unequal t.0 h)) (past t (suc k) ns (omega arith))
  where
    unequal : (u : ℕ) → u < k → nat_eq u k ≡ false
    unequal u l = grind arith

    both : (p m z : ℤ) → p ≡ pos 0 → z ≡ pos 0 → p *ℤ m +ℤ z ≡ pos 0
    both p m z e f = ap (λ q. q *ℤ m +ℤ z) e ∙ omega (arith, ints)

one_term : (t : Term) (k : ℕ) (ns : List ℤ) → k ≤ t.0 → numbered (λ v. part_at v t) k ns ≡ t.1 *ℤ value_in (slice_get ns (t.0 - k))
one_term t k [] h = sym (*ℤ-zero t.1)
one_term t k (n ∷ ns) h = by (nat_eq t.0 k) refl (one_term t (suc k) ns)
  where
    same : (u : ℕ) → nat_eq u k ≡ true → u ≡ k
    same u e = grind arith

    first : (u : ℕ) → u ≡ k → slice_get (n ∷ ns) (u - k) ≡ Some n
    first u e = let z : u - k ≡ 0 = omega arith in rw z refl

    more : (u : ℕ) → k ≤ u → nat_eq u k ≡ false → suc k ≤ u
    more u l e = grind arith

    later : (u : ℕ) → suc k ≤ u → slice_get (n ∷ ns) (u - k) ≡ slice_get ns (u - suc k)
    later u l = let z : u - k ≡ suc (u - suc k) = omega arith in rw z refl

    here : (p c m z : ℤ) → p ≡ c → z ≡ pos 0 → p *ℤ m +ℤ z ≡ c *ℤ m
    here p c m z e f = ap (λ q. q *ℤ m +ℤ z) e ∙ end (c *ℤ m) z f
      where
        end : (x y : ℤ) → y ≡ pos 0 → x +ℤ y ≡ x
        end x y g = omega (arith, ints)

    there : (p m z : ℤ) → p ≡ pos 0 → p *ℤ m +ℤ z ≡ z
    there p m z e = ap (λ q. q *ℤ m +ℤ z) e ∙ omega (arith, ints)

    by : (b : Bool) → nat_eq t.0 k ≡ b → (suc k ≤ t.0 → numbered (λ v. part_at v t) (suc k) ns ≡ t.1 *ℤ value_in (slice_get ns (t.0 - suc k)))
        → numbered (λ v. part_at v t) k (n ∷ ns) ≡ t.1 *ℤ value_in (slice_get (n ∷ ns) (t.0 - k))
    by true e rest =
        let s = same t.0 e in
        here (part_at k t) t.1 n (numbered (λ v. part_at v t) (suc k) ns) (part_is k t e) (past t (suc k) ns (omega arith)) ∙ ap (λ o. t.1 *ℤ value_in o) (sym (first t.0 s))
    by false e rest =
        let l = more t.0 h e in
        there (part_at k t) n (numbered (λ v. part_at v t) (suc k) ns) (part_none k t e) ∙ rest l ∙ ap (λ o. t.1 *ℤ value_in o) (sym (later t.0 l))

total_is : (ns : List ℤ) (m : ℕ) (ts : List Term) → has_variables_to m ts ≡ true → total_of ns ts ≡ numbered (λ v. coefficient_at v ts) 1 ns
total_is ns m [] h = sym (numbered_none 1 ns)
total_is ns m (t ∷ ts) h =
    let k = and_parts (nat_lt 0 t.0 && nat_le t.0 m) (has_variables_to m ts) h in
    let l = and_parts (nat_lt 0 t.0) (nat_le t.0 m) k.0 in
    ap (λ z. z +ℤ total_of ns ts) (sym (one_term t 1 ns (some t.0 l.0))) ∙ ap (λ z. numbered (λ v. part_at v t) 1 ns +ℤ z) (total_is ns m ts k.1)
    ∙ sym (numbered_sum (λ v. part_at v t) (λ v. coefficient_at v ts) 1 ns)
  where
    some : (u : ℕ) → nat_lt 0 u ≡ true → 1 ≤ u
    some u e = grind arith

-- ---- by names

by_name : (f : ℕ → ℤ) (g : Word → ℤ) (k : ℕ) (names : List Word) (ns : List ℤ) → length ns ≡ length names
    → ((i : ℕ) (x : Word) → slice_get names i ≡ Some x → f (k + i) ≡ g x) → numbered f k ns ≡ weighted g names ns
by_name f g k [] [] e h = refl
by_name f g k [] (n ∷ ns) e h = absurd (omega (arith, e))
by_name f g k (x ∷ xs) [] e h = refl
by_name f g k (x ∷ xs) (n ∷ ns) e h =
    ap (λ z. z *ℤ n +ℤ numbered f (suc k) ns) (ap f (begin k) ∙ h 0 x refl)
    ∙ ap (λ z. g x *ℤ n +ℤ z) (by_name f g (suc k) xs ns (omega (arith, e)) (λ i y a. ap f (moved k i) ∙ h (suc i) y a))
  where
    begin : (m : ℕ) → m ≡ m + 0
    begin m = omega arith

    moved : (m i : ℕ) → suc m + i ≡ m + suc i
    moved m i = omega arith

sum_is : (names : List Word) (e : PlainExpr) (sum : Affine) (ns : List ℤ) → StandsFor names e sum → length ns ≡ length names
    → sum_value ns sum ≡ constant_of e +ℤ weighted (λ x. coefficient x e) names ns
sum_is names e sum ns s l =
    folded ns sum.terms sum.constant ∙ ap (λ z. z +ℤ total_of ns sum.terms) s.constant
    ∙ ap (λ z. constant_of e +ℤ z) (total_is ns (length names) sum.terms s.variables
    ∙ by_name (λ v. coefficient_at v sum.terms) (λ x. coefficient x e) 1 names ns l (λ i x a. ap (λ v. coefficient_at v sum.terms) (one_more i) ∙ s.coefficients i x a))
  where
    one_more : (i : ℕ) → 1 + i ≡ suc i
    one_more i = omega arith

pub is_extent : (ps : List PlainParam) (n : ℕ) (e : PlainExpr) (sum : Affine) → n ≡ length (ints_in ps) → are_different (ints_in ps) ≡ true → is_affine (over (ints_in ps)) e ≡ true
    → StandsFor (ints_in ps) e sum → IsExtent ps n e sum
is_extent ps n e sum count different affine s = record {
  value = λ ns l. sum_is (ints_in ps) e sum ns s (l ∙ count) ∙ sym (exact_is (ints_in ps) ns different e affine) ∙ ap (exact e) (sym (vars_are ps ns));
}
