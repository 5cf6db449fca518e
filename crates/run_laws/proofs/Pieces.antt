-- A loop is its loops over two pieces of its values, one after the other.
use Rattle.std.proofs.Common.{◌≡◌, ℕ, zero, suc, ◌+◌, List, [], ◌∷◌, ◌++◌, ℤ, pos, ◌+ℤ◌, ◌≤ℤ◌, refl, sym, ap, ◌∙◌, arith}
use Rattle.std.specs.Int.{int_gap}
use Rattle.std.proofs.lemmas.Int.{ints}
use Rattle.c_tree.specs.Values.{from_on, loop_values}
use Rattle.c_tree.specs.Run.{State, Outcome, goes_on, ends, Run, ◌>>=◌, ◌>>◌, and_then, over}
use Rattle.c_tree.specs.declared.expr.Rel.TheVariants.{Lt}

and_then_again : {A B C : Type 0} (o : Outcome A) (f : A → Run B) (g : B → Run C) → and_then (and_then o f) g ≡ and_then o (λ a. f a >>= g)
and_then_again (goes_on a s) f g = refl
and_then_again (ends e s) f g = refl

pub over-append : (f : ℤ → Run (Unit {0})) (xs ys : List ℤ) (s : State) → over f (xs ++ ys) s ≡ (over f xs >> over f ys) s
over-append f [] ys s = refl
over-append f (x ∷ xs) ys s = ap (and_then (f x s)) (λ i u t. over-append f xs ys t i) ∙ sym (and_then_again (f x s) (λ (u : Unit {0}). over f xs) (λ (u : Unit {0}). over f ys))

pub from_on-append : (lo : ℤ) (a b : ℕ) → from_on lo (a + b) ≡ from_on lo a ++ from_on (lo +ℤ pos a) b
from_on-append lo zero b =
    let e : 0 + b ≡ b = omega arith in
    let f : lo ≡ lo +ℤ pos 0 = omega (arith, ints) in
    ap (from_on lo) e ∙ ap (λ z. from_on z b) f
from_on-append lo (suc a) b =
    let e : suc a + b ≡ suc (a + b) = omega arith in
    let f : lo +ℤ pos 1 +ℤ pos a ≡ lo +ℤ pos (suc a) = omega (arith, ints) in
    ap (from_on lo) e ∙ ap (λ l. lo ∷ l) (from_on-append (lo +ℤ pos 1) a b ∙ ap (λ z. from_on (lo +ℤ pos 1) a ++ from_on z b) f)

gap_split : (lo mid hi : ℤ) → lo ≤ℤ mid → mid ≤ℤ hi → int_gap lo hi ≡ int_gap lo mid + int_gap mid hi
gap_split lo mid hi p q = grind (arith, ints)

gap_reaches : (lo mid : ℤ) → lo ≤ℤ mid → lo +ℤ pos (int_gap lo mid) ≡ mid
gap_reaches lo mid p = grind (arith, ints)

-- the values from lo up to hi are those up to mid and those from mid on
pub values_in_pieces : (lo mid hi : ℤ) → lo ≤ℤ mid → mid ≤ℤ hi → loop_values lo Lt hi ≡ loop_values lo Lt mid ++ loop_values mid Lt hi
values_in_pieces lo mid hi p q =
    ap (from_on lo) (gap_split lo mid hi p q) ∙ from_on-append lo (int_gap lo mid) (int_gap mid hi) ∙
    ap (λ z. from_on lo (int_gap lo mid) ++ from_on z (int_gap mid hi)) (gap_reaches lo mid p)

pub in_pieces : (f : ℤ → Run (Unit {0})) (lo mid hi : ℤ) (s : State) → lo ≤ℤ mid → mid ≤ℤ hi →
    over f (loop_values lo Lt hi) s ≡ (over f (loop_values lo Lt mid) >> over f (loop_values mid Lt hi)) s
in_pieces f lo mid hi s p q = ap (λ l. over f l s) (values_in_pieces lo mid hi p q) ∙ over-append f (loop_values lo Lt mid) (loop_values mid Lt hi) s
