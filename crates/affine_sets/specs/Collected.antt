-- How the code collects the sum of an expression. That it is the sum meant is shown in proofs/ReadingLaws.
use Rattle.std.specs.Prelude.{ℕ, suc, ◌^◌, Bool, true, false, ◌&&◌, ◌||◌, if◌then◌else◌, List, [], ◌∷◌, ℤ, pos, negsuc, ◌*ℤ◌, Option, Some, None, option_map, option_and_then, bytes_eq}
use Rattle.c_tree.specs.Plain.{Word, PlainExpr, lit, var, un, bin}
use Rattle.c_tree.specs.declared.affine.Affine.{Affine}
use Rattle.c_tree.specs.declared.expr.UnOp.{UnOp}
use Rattle.c_tree.specs.declared.expr.UnOp.TheVariants.{Neg, Inv}
use Rattle.c_tree.specs.declared.expr.BinOp.{BinOp}
use Rattle.c_tree.specs.declared.expr.BinOp.TheVariants.{Add, Sub, Mul}
use Rattle.acceptance.specs.Affine.{lies_in}
use Rattle.affine_sets.specs.declared.expressions.Reading.{Reading}
use Rattle.affine_sets.specs.Sums.{sum_lies_in, products_lie_in}
use Rattle.affine_sets.specs.Merged.{sum_of, multiple_of}

-- the number of a name, counted on from n
abbrev pub number_from : ℕ → List Word → Word → Option ℕ
number_from n [] x = None
number_from n (y ∷ ys) x = if bytes_eq y x then Some n else number_from (suc n) ys x

abbrev pub small_sum : Affine → Affine → Option Affine
small_sum a b = if sum_lies_in (pos (2 ^ 44)) (sum_of a b) then Some (sum_of a b) else None

abbrev pub has_small_products : ℤ → Affine → Bool
has_small_products k a = lies_in (pos (2 ^ 44)) (a.constant *ℤ k) && products_lie_in (pos (2 ^ 44)) k a.terms

abbrev pub small_multiple : ℤ → Affine → Option Affine
small_multiple k a = if has_small_products k a then Some (multiple_of k a) else None

abbrev pub reading : Bool → Affine → Reading
reading named a = record { sum = a; named = named }

abbrev pub of_number : ℕ → Option Reading
of_number n = if lies_in (pos (2 ^ 44)) (pos n) then Some (reading false (record { constant = pos n; terms = [] })) else None

abbrev pub variable : ℕ → Affine
variable v = record { constant = pos 0; terms = (v, pos 1) ∷ [] }

abbrev pub of_name : List Word → Word → Option Reading
of_name names x = option_map (λ v. reading true (variable v)) (number_from 1 names x)

abbrev pub negated : UnOp → Reading → Option Reading
negated Neg r = option_map (reading r.named) (small_multiple (negsuc 0) r.sum)
negated Inv r = None

abbrev pub product : Reading → Reading → Option Reading
product r s =
    if r.named && s.named then None
    else option_map (reading (r.named || s.named)) (if r.named then small_multiple s.sum.constant r.sum else small_multiple r.sum.constant s.sum)

abbrev pub combined : BinOp → Reading → Reading → Option Reading
combined Add r s = option_map (reading (r.named || s.named)) (small_sum r.sum s.sum)
combined Sub r s = option_map (reading (r.named || s.named)) (option_and_then (small_sum r.sum) (small_multiple (negsuc 0) s.sum))
combined Mul r s = product r s
combined _ r s = None

abbrev pub collected : List Word → PlainExpr → Option Reading
collected names (lit n) = of_number n
collected names (var x) = of_name names x
collected names (un op a) = option_and_then (negated op) (collected names a)
collected names (bin op a b) = option_and_then (λ r. option_and_then (combined op r) (collected names b)) (collected names a)
collected names _ = None
