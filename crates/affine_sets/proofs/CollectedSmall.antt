-- What is collected is small.
use Rattle.std.proofs.Common.{◌≡◌, ◌^◌, ℕ, ℤ, pos, negsuc, ◌*ℤ◌, List, [], Bool, true, false, cond, ◌&&◌, ◌||◌, Option, Some, None, refl, sym, ◌∙◌, subst}
use Rattle.std.specs.Prelude.{option_map, option_and_then}
use Rattle.std.specs.Option.{IfSome}
use Rattle.std.proofs.lemmas.Bool.{and_parts, and_from}
use Rattle.acceptance.specs.Affine.{lies_in}
use Rattle.c_tree.specs.Plain.{Word, PlainExpr, lit, var, un, bin}
use Rattle.c_tree.specs.declared.affine.Affine.{Affine}
use Rattle.c_tree.specs.declared.expr.UnOp.{UnOp}
use Rattle.c_tree.specs.declared.expr.UnOp.TheVariants.{Neg, Inv}
use Rattle.c_tree.specs.declared.expr.BinOp.{BinOp}
use Rattle.c_tree.specs.declared.expr.BinOp.TheVariants.{Add, Sub, Mul}
use Rattle.affine_sets.specs.declared.expressions.Reading.{Reading}
use Rattle.affine_sets.specs.Sums.{sum_lies_in, products_lie_in}
use Rattle.affine_sets.specs.Merged.{sum_of, multiple_of}
use Rattle.affine_sets.specs.Collected.{small_sum, has_small_products, small_multiple, reading, variable, number_from, negated, combined, collected}
use Rattle.affine_sets.proofs.ScaledLaws.{multiple_lies}

abbrev Small : Affine → Type 0
Small a = sum_lies_in (pos (2 ^ 44)) a ≡ true

abbrev pub SmallReading : Reading → Type 0
SmallReading r = sum_lies_in (pos (2 ^ 44)) r.sum ≡ true

where_some : {A : Type 0} (P : A → Type 0) (b : Bool) (a : A) → (b ≡ true → P a) → IfSome (cond b (Some a) None) P
where_some P true a f = f refl
where_some P false a f = tt

then_some : {A B : Type 0} (P : A → Type 0) (Q : B → Type 0) (f : A → Option B) (o : Option A) → IfSome o P → ((a : A) → P a → IfSome (f a) Q) → IfSome (option_and_then f o) Q
then_some P Q f None h g = tt
then_some P Q f (Some a) h g = g a h

read_small : (named : Bool) (o : Option Affine) → IfSome o Small → IfSome (option_map (reading named) o) SmallReading
read_small named None h = tt
read_small named (Some a) h = h

sum_small : (a b : Affine) → IfSome (small_sum a b) Small
sum_small a b = where_some Small (sum_lies_in (pos (2 ^ 44)) (sum_of a b)) (sum_of a b) (λ h. h)

multiple_small : (k : ℤ) (a : Affine) → IfSome (small_multiple k a) Small
multiple_small k a = where_some Small (has_small_products k a) (multiple_of k a) (λ h.
    let p = and_parts (lies_in (pos (2 ^ 44)) (a.constant *ℤ k)) (products_lie_in (pos (2 ^ 44)) k a.terms) h in
    multiple_lies (pos (2 ^ 44)) k a p.0 p.1)

negated_small : (op : UnOp) (r : Reading) → IfSome (negated op r) SmallReading
negated_small Neg r = read_small r.named (small_multiple (negsuc 0) r.sum) (multiple_small (negsuc 0) r.sum)
negated_small Inv r = tt

product_small : (r s : Reading) (n m : Bool) → IfSome (cond (n && m) None (option_map (reading (n || m)) (cond n (small_multiple s.sum.constant r.sum) (small_multiple r.sum.constant s.sum)))) SmallReading
product_small r s true true = tt
product_small r s true false = read_small true (small_multiple s.sum.constant r.sum) (multiple_small s.sum.constant r.sum)
product_small r s false m = read_small m (small_multiple r.sum.constant s.sum) (multiple_small r.sum.constant s.sum)

combined_small : (op : BinOp) (r s : Reading) → IfSome (combined op r s) SmallReading
combined_small Add r s = read_small (r.named || s.named) (small_sum r.sum s.sum) (sum_small r.sum s.sum)
combined_small Sub r s = read_small (r.named || s.named) (option_and_then (small_sum r.sum) (small_multiple (negsuc 0) s.sum))
    (then_some Small Small (small_sum r.sum) (small_multiple (negsuc 0) s.sum) (multiple_small (negsuc 0) s.sum) (λ a h. sum_small r.sum a))
combined_small Mul r s = product_small r s r.named s.named
combined_small _ r s = tt

name_small : (o : Option ℕ) → IfSome (option_map (λ v. reading true (variable v)) o) SmallReading
name_small None = tt
name_small (Some v) = refl

pub collected_small : (names : List Word) (e : PlainExpr) → IfSome (collected names e) SmallReading
collected_small names (lit n) = where_some SmallReading (lies_in (pos (2 ^ 44)) (pos n)) (reading false (record { constant = pos n; terms = [] })) (λ h. and_from (lies_in (pos (2 ^ 44)) (pos n)) true h refl)
collected_small names (var x) = name_small (number_from 1 names x)
collected_small names (un op a) = then_some SmallReading SmallReading (negated op) (collected names a) (collected_small names a) (λ r h. negated_small op r)
collected_small names (bin op a b) =
    then_some SmallReading SmallReading (λ r. option_and_then (combined op r) (collected names b)) (collected names a) (collected_small names a)
    (λ r h. then_some SmallReading SmallReading (combined op r) (collected names b) (collected_small names b) (λ s k. combined_small op r s))
collected_small names _ = tt

pub found_small : (names : List Word) (e : PlainExpr) (o : Option Reading) (r : Reading) → o ≡ collected names e → o ≡ Some r → sum_lies_in (pos (2 ^ 44)) r.sum ≡ true
found_small names e o r h k = let P : Option Reading → Type 0 = λ x. IfSome x SmallReading in subst P (sym h ∙ k) (collected_small names e)
