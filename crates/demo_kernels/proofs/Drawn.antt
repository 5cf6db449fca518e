-- Rows of drawn cells: how long they are, and below what their cells lie.
use Rattle.std.proofs.Common.{◌≡◌, ◌≤◌, ◌<◌, ◌+◌, ◌*◌, ◌%◌, ◌^◌, ℕ, zero, suc, List, [], ◌∷◌, length, slice_index, Option, Some, None, refl, arith, ap}
use Rattle.std.proofs.Math.Nat.{mod-lt}
use Rattle.std.specs.List.{AllByRecursion}
use Rattle.demo_kernels.specs.Generator.{step, after, cell_of, drawn}

pub length-drawn : (limit : Option ℕ) (k x : ℕ) → length (drawn limit k x) ≡ k
unfolding drawn
length-drawn limit zero x = refl
length-drawn limit (suc k) x = ap suc (length-drawn limit k (step x))

pub all_drawn : (P : ℕ → Type 0) (limit : Option ℕ) → ((y : ℕ) → P (cell_of limit (step y))) → (k x : ℕ) → AllByRecursion P (drawn limit k x)
unfolding drawn
all_drawn P limit each zero x = tt
all_drawn P limit each (suc k) x = (each x, all_drawn P limit each k (step x))

-- a step stays below 2^64
pub small_step : (y : ℕ) → step y < 2 ^ 64
small_step y = mod-lt (y * 6364136223846793005 + 1442695040888963407) (omega arith)

pub words_small : (k x : ℕ) → AllByRecursion (λ n. n < 2 ^ 64) (drawn None k x)
words_small k x = all_drawn (λ n. n < 2 ^ 64) None small_step k x

-- what is left modulo a limit is below it
pub limited : (n k x : ℕ) → 1 ≤ n → AllByRecursion (λ w. w < n) (drawn (Some n) k x)
limited n k x some = all_drawn (λ w. w < n) (Some n) (λ y. mod-lt (step y) some) k x

pub limited_small : (n k x : ℕ) → 1 ≤ n → n ≤ 107 → AllByRecursion (λ w. w < 2 ^ 64) (drawn (Some n) k x)
limited_small n k x some small = all_drawn (λ w. w < 2 ^ 64) (Some n) (λ y. (let below : step y % n < n = mod-lt (step y) some in omega (arith, below, small))) k x

-- the word at a place lies below too, past the end as well
pub at_below : (n : ℕ) (ns : List ℕ) → 1 ≤ n → AllByRecursion (λ w. w < n) ns → (j : ℕ) → slice_index ns j < n
at_below n [] some h j = omega arith
at_below n (m ∷ ns) some h zero = h.0
at_below n (m ∷ ns) some h (suc j) = at_below n ns some h.1 j

-- ---- the steps of a loop that draws

pub drawn_more : (limit : Option ℕ) (k x : ℕ) → drawn limit (suc k) x ≡ cell_of limit (step x) ∷ drawn limit k (step x)
unfolding drawn
drawn_more limit k x = refl

pub after_more : (k x : ℕ) → after (suc k) x ≡ after k (step x)
unfolding after
after_more k x = refl

pub drawn_none : (limit : Option ℕ) (x : ℕ) → drawn limit 0 x ≡ []
unfolding drawn
drawn_none limit x = refl

pub after_none : (x : ℕ) → after 0 x ≡ x
unfolding after
after_none x = refl
