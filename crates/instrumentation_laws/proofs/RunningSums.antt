-- What one event more adds to the sums of a log.
use Rattle.std.proofs.Common.{◌≡◌, ℕ, suc, ◌+◌, ◌*◌, cond, not, ◌&&◌, List, [], ◌∷◌, ◌++◌, length, ap, ◌∙◌, arith, nat_eq}
use Rattle.c_tree.specs.Run.{Event}
use Rattle.instrumentation_laws.specs.RunningTotals.{read_sum, written_sum}

pub read_sum_push : (a : ℕ) (xs : List Event) (x : Event) → read_sum a (xs ++ x ∷ []) ≡ read_sum a xs + cond (not x.access.writes && nat_eq x.access.array a) x.value 0
read_sum_push a [] x = omega arith
read_sum_push a (y ∷ xs) x = let h = read_sum_push a xs x in omega arith

pub written_sum_push : (u : ℕ → ℕ) (a n : ℕ) (xs : List Event) (x : Event) →
    written_sum u a n (xs ++ x ∷ []) ≡ written_sum u a n xs + cond (x.access.writes && nat_eq x.access.array a) (x.value * u (n + length xs)) 0
written_sum_push u a n [] x = ap (λ k. cond (x.access.writes && nat_eq x.access.array a) (x.value * u k) 0 + 0) (let e : n ≡ n + 0 = omega arith in e) ∙ omega arith
written_sum_push u a n (y ∷ xs) x =
    let h = written_sum_push u a (suc n) xs x in
    let e : suc n + length xs ≡ n + suc (length xs) = omega arith in
    let g : cond (x.access.writes && nat_eq x.access.array a) (x.value * u (suc n + length xs)) 0 ≡ cond (x.access.writes && nat_eq x.access.array a) (x.value * u (n + suc (length xs))) 0 =
    ap (λ k. cond (x.access.writes && nat_eq x.access.array a) (x.value * u k) 0) e in
    omega arith
