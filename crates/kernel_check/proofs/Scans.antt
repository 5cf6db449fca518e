-- Scans of lists in a row.
use Rattle.std.proofs.Common.{◌≡◌, ℕ, suc, ◌+◌, List, [], ◌∷◌, ◌++◌, length, Option, Some, None, Result, Ok, Err, refl, sym, ap, ◌∙◌, subst, arith}
use Rattle.acceptance.specs.Items.{Item}
use Rattle.kernel_check.specs.Scans.{met, scan, IsScan, IsMet}
use Rattle.kernel_check.specs.declared.walk.Stop.{Stop}
use Rattle.kernel_check.specs.declared.walk.Stop.TheVariants.{Found, OutOfMemory}

abbrev pub go_on : (Item → Option ℕ) → List Item → Result ℕ (ℕ × ℕ) → Result ℕ (ℕ × ℕ)
go_on f ys (Ok n) = scan f n ys
go_on f ys (Err k) = Err k

go_on_met : (f : Item → Option ℕ) (ys : List Item) (o : Option ℕ) (n : ℕ) (r : Result ℕ (ℕ × ℕ)) → go_on f ys (met o n r) ≡ met o n (go_on f ys r)
go_on_met f ys None n r = refl
go_on_met f ys (Some c) n r = refl

pub scan-append : (f : Item → Option ℕ) (n : ℕ) (xs ys : List Item) → scan f n (xs ++ ys) ≡ go_on f ys (scan f n xs)
scan-append f n [] ys = refl
scan-append f n (x ∷ xs) ys = ap (met (f x) n) (scan-append f (suc n) xs ys) ∙ sym (go_on_met f ys (f x) n (scan f (suc n) xs))

past_met : (o : Option ℕ) (n k m : ℕ) (r : Result ℕ (ℕ × ℕ)) → met o n r ≡ Ok k → (r ≡ Ok k → k ≡ suc n + m) → k ≡ n + suc m
past_met (Some c) n k m r e go = absurd (let f : ⊥ = cc in f)
past_met None n k m r e go = let f = go e in omega arith

-- where none is found, the next number is that after the list
pub scan_past : (f : Item → Option ℕ) (n : ℕ) (xs : List Item) (k : ℕ) → scan f n xs ≡ Ok k → k ≡ n + length xs
scan_past f n [] k h = let e : n ≡ k = cc in omega arith
scan_past f n (x ∷ xs) k h = past_met (f x) n k (length xs) (scan f (suc n) xs) h (λ e. scan_past f (suc n) xs k e)

-- what stops a scan stops a longer one
pub stopped : (f : Item → Option ℕ) (ys : List Item) (s : Result ℕ (ℕ × ℕ)) (e : Stop) → IsScan s (Err e) → IsScan (go_on f ys s) (Err e)
stopped f ys s (Found i count) h = ap (go_on f ys) h
stopped f ys s OutOfMemory h = tt

pub met_here : (o : Option ℕ) (n : ℕ) (r : Result ℕ (ℕ × ℕ)) (e : Stop) → IsMet o n (Err e) → IsScan (met o n r) (Err e)
met_here o n r (Found i count) h = ap (λ (p : Option ℕ). met p n r) h.1 ∙ ap (λ (k : ℕ). Err (k, count)) (sym h.0)
met_here o n r OutOfMemory h = tt

pub scanned : (s t : Result ℕ (ℕ × ℕ)) (r : Result ℕ Stop) → s ≡ t → IsScan t r → IsScan s r
scanned s t r e h = subst (λ (u : Result ℕ (ℕ × ℕ)). IsScan u r) (sym e) h
