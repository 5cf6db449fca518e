-- The law of totals and the law of imbalance.
use Rattle.std.proofs.Common.{nat_le, ◌-ℤ◌, unsigned_abs, ◌≡◌, ◌≢◌, ℕ, suc, ◌+◌, ◌*◌, ◌%◌, ◌^◌, ◌/◌, ◌<◌, ◌≤◌, Bool, true, false, not, ◌&&◌, cond, eqb, List, refl, sym, ap, ◌∙◌, arith, inl, inr, ◌⊎◌, length, subst, pos, negsuc, ℤ, ◌+ℤ◌, ◌*ℤ◌}
use Rattle.std.proofs.lemmas.Bool.{cases_lt, cases_Bool, and_parts, not-true}
use Rattle.std.proofs.lemmas.Int.{ints}
use Rattle.std.proofs.lemmas.Nat.{mul-le, mul-lt}
use Rattle.std.proofs.Math.Nat.{mod-eq_of_lt}
use Rattle.c_tree.specs.Accesses.{Access, at, Definition, same_definition, last_writer, sum_below, uses, Within, Clean}
use Rattle.balance_laws.specs.Totals.{value_of, definition_sum, use_sum, definition_total, use_total, ReadsLastWriter, reads_after, uses_after, ReadsButAfter, ReadsDifferAfter, SameModulo}
use Rattle.balance_laws.proofs.Sums.{sum_below_same, sum_below_plus, sum_below_times}
use Rattle.balance_laws.proofs.Latest.{same_definition-true}
use Rattle.balance_laws.proofs.Exchange.{weighed, reads_of, exchange_below}

-- the definition sum is the sum of the values of the last writers
pub definition_sum_exchanged : (list : List Access) (extents : ℕ → List ℤ) (inputs : ℕ → List ℤ → ℕ) (values : ℕ → ℕ) (a : ℕ) → Clean extents list →
    definition_sum list extents inputs values a ≡ sum_below (λ q. cond (reads_of list a q) (value_of inputs values (last_writer list q)) 0) (length list)
unfolding definition_sum uses weighed
definition_sum_exchanged list extents inputs values a clean =
    exchange_below list (extents a) (value_of inputs values) a
    (λ q l e. subst (λ b. Within (extents b) (at list q).cell) e (clean q l)) (length list) (omega arith)

-- the first half of the law of totals
pub sums_agree : (list : List Access) (extents : ℕ → List ℤ) (inputs : ℕ → List ℤ → ℕ) (values : ℕ → ℕ) (a : ℕ) → Clean extents list → ReadsLastWriter list inputs values →
    use_sum list values a ≡ definition_sum list extents inputs values a
unfolding use_sum
sums_agree list extents inputs values a clean reads =
    sum_below_same (λ q. cond (reads_of list a q) (values q) 0) (λ q. cond (reads_of list a q) (value_of inputs values (last_writer list q)) 0) (length list)
    (λ q l. go q l (cases_Bool (at list q).writes)) ∙
    sym (definition_sum_exchanged list extents inputs values a clean)
  where
    go : (q : ℕ) → q < length list → ((at list q).writes ≡ true) ⊎ ((at list q).writes ≡ false) →
        cond (reads_of list a q) (values q) 0 ≡ cond (reads_of list a q) (value_of inputs values (last_writer list q)) 0
    go q l (inl e) = rw e refl
    go q l (inr e) = ap (λ x. cond (reads_of list a q) x 0) (reads q l e)

-- one read of the second half: r says that it reads the array, h that it is a read after the place of the definition
one_read : (r h : Bool) (value w down up : ℕ) → (r ≡ true → value + cond h down 0 ≡ w + cond h up 0) →
    cond r value 0 + cond (r && h) 1 0 * down ≡ cond r w 0 + cond (r && h) 1 0 * up
one_read true true value w down up e = let b = e refl in omega arith
one_read true false value w down up e = let b = e refl in omega arith
one_read false h value w down up e = omega arith

shuffled : (l n s e : Bool) → ((l && (n && s)) && e) ≡ ((n && e) && (l && (n && s)))
shuffled true true true true = refl
shuffled true true true false = refl
shuffled true true false true = refl
shuffled true true false false = refl
shuffled true false true true = refl
shuffled true false true false = refl
shuffled true false false true = refl
shuffled true false false false = refl
shuffled false true true true = refl
shuffled false true true false = refl
shuffled false true false true = refl
shuffled false true false false = refl
shuffled false false true true = refl
shuffled false false true false = refl
shuffled false false false true = refl
shuffled false false false false = refl

-- the second half, with no remainder taken and the difference as up - down
pub sums_shift : (list : List Access) (extents : ℕ → List ℤ) (inputs : ℕ → List ℤ → ℕ) (values : ℕ → ℕ) (a : ℕ) (d : Definition) (place down up : ℕ) → Clean extents list →
    ((q : ℕ) → q < length list → (at list q).writes ≡ false →
    values q + cond (reads_after list d place q) down 0 ≡ value_of inputs values (last_writer list q) + cond (reads_after list d place q) up 0) →
    use_sum list values a + uses_after list d place a * down ≡ definition_sum list extents inputs values a + uses_after list d place a * up
unfolding use_sum uses_after
sums_shift list extents inputs values a d place down up clean reads =
    let one : ℕ → ℕ = λ q. cond (reads_after list d place q && eqb (at list q).array a) 1 0 in
    let used : ℕ → ℕ = λ q. cond (reads_of list a q) (values q) 0 in
    let given : ℕ → ℕ = λ q. cond (reads_of list a q) (value_of inputs values (last_writer list q)) 0 in
    let each = sum_below_same (λ q. used q + one q * down) (λ q. given q + one q * up) (length list) (λ q l. go q l) in
    let p = sum_below_plus used (λ q. one q * down) (length list) in
    let p2 = sum_below_plus given (λ q. one q * up) (length list) in
    let t = sum_below_times one down (length list) in
    let t2 = sum_below_times one up (length list) in
    let x = definition_sum_exchanged list extents inputs values a clean in
    omega arith
  where
    tests : (q : ℕ) → (reads_after list d place q && eqb (at list q).array a) ≡ (reads_of list a q && reads_after list d place q)
    tests q = shuffled (nat_le place q) (not (at list q).writes) (same_definition (last_writer list q) d) (eqb (at list q).array a)

    go : (q : ℕ) → q < length list →
        cond (reads_of list a q) (values q) 0 + cond (reads_after list d place q && eqb (at list q).array a) 1 0 * down ≡
        cond (reads_of list a q) (value_of inputs values (last_writer list q)) 0 + cond (reads_after list d place q && eqb (at list q).array a) 1 0 * up
    go q l = rw (tests q) (one_read (reads_of list a q) (reads_after list d place q) (values q) (value_of inputs values (last_writer list q)) down up (λ e. reads q l (not-true _ (and_parts _ _ e).0)))

-- with another value in place of that of the definition
pub sums_differ : (list : List Access) (extents : ℕ → List ℤ) (inputs : ℕ → List ℤ → ℕ) (values : ℕ → ℕ) (a : ℕ) (d : Definition) (place other : ℕ) →
    Clean extents list → ReadsButAfter list inputs values d place other →
    use_sum list values a + uses_after list d place a * value_of inputs values d ≡ definition_sum list extents inputs values a + uses_after list d place a * other
sums_differ list extents inputs values a d place other clean reads =
    sums_shift list extents inputs values a d place (value_of inputs values d) other clean (λ q l e.
    go (reads_after list d place q) (values q) (value_of inputs values (last_writer list q)) (value_of inputs values d)
    (λ h. ap (value_of inputs values) (same_definition-true (last_writer list q) d (and_parts _ _ (and_parts _ _ h).1).1)) (reads q l e))
  where
    go : (h : Bool) (value w v : ℕ) → (h ≡ true → w ≡ v) → value ≡ cond h other w → value + cond h v 0 ≡ w + cond h other 0
    go true value w v f e = let g = f refl in omega arith
    go false value w v f e = omega arith

-- as a difference of whole numbers, modulo 2^128
pub totals_differ : (list : List Access) (extents : ℕ → List ℤ) (inputs : ℕ → List ℤ → ℕ) (values : ℕ → ℕ) (a : ℕ) (d : Definition) (place : ℕ) (difference : ℤ) →
    Clean extents list → ReadsDifferAfter list inputs values d place difference →
    SameModulo (2 ^ 128) (pos (use_total list values a) -ℤ pos (definition_total list extents inputs values a)) (pos (uses_after list d place a) *ℤ difference)
totals_differ list extents inputs values a d place (pos u) clean reads =
    let e = sums_shift list extents inputs values a d place 0 u clean (λ q l r. go (reads_after list d place q) (values q) (value_of inputs values (last_writer list q)) (reads q l r)) in
    (use_sum list values a / 2 ^ 128, definition_sum list extents inputs values a / 2 ^ 128, omega (arith, ints))
  where
    go : (h : Bool) (value w : ℕ) → pos value ≡ pos w +ℤ cond h (pos u) (pos 0) → value + cond h 0 0 ≡ w + cond h u 0
    go true value w e = omega (arith, ints)
    go false value w e = omega (arith, ints)
totals_differ list extents inputs values a d place (negsuc u) clean reads =
    let e = sums_shift list extents inputs values a d place (suc u) 0 clean (λ q l r. go (reads_after list d place q) (values q) (value_of inputs values (last_writer list q)) (reads q l r)) in
    (use_sum list values a / 2 ^ 128, definition_sum list extents inputs values a / 2 ^ 128, omega (arith, ints))
  where
    go : (h : Bool) (value w : ℕ) → pos value ≡ pos w +ℤ cond h (negsuc u) (pos 0) → value + cond h (suc u) 0 ≡ w + cond h 0 0
    go true value w e = omega (arith, ints)
    go false value w e = omega (arith, ints)

-- the law of imbalance
pub products_differ : (k x y : ℕ) → 0 < k → k < 2 ^ 63 → x < 2 ^ 64 → y < 2 ^ 64 → x ≢ y → (k * x) % 2 ^ 128 ≢ (k * y) % 2 ^ 128
products_differ k x y low high fx fy ne e =
    let a : k * x < 2 ^ 128 = omega (arith, mul-lt k x (2 ^ 63) (2 ^ 64) high fx) in
    let b : k * y < 2 ^ 128 = omega (arith, mul-lt k y (2 ^ 63) (2 ^ 64) high fy) in
    let same : k * x ≡ k * y = sym (mod-eq_of_lt a) ∙ e ∙ mod-eq_of_lt b in
    elim (cases_lt x y) [
      | inl l ↦ omega (arith, mul-le k (x + 1) k y (omega arith) (omega arith))
      | inr l ↦ omega (arith, mul-le k (y + 1) k x (omega arith) (omega arith))
    ]

pub product_unbalanced : (k : ℕ) (d : ℤ) → 1 ≤ k → k < 2 ^ 63 → 0 < unsigned_abs d → unsigned_abs d < 2 ^ 64 → ¬ SameModulo (2 ^ 128) (pos k *ℤ d) (pos 0)
product_unbalanced k (pos u) low high some fits =
    λ s. omega (arith, ints, s.2, mul-lt k u (2 ^ 63) (2 ^ 64) high fits, mul-le 1 1 k u low some)
product_unbalanced k (negsuc u) low high some fits =
    λ s. omega (arith, ints, s.2, mul-lt k (suc u) (2 ^ 63) (2 ^ 64) high fits, mul-le 1 1 k (suc u) low some)
