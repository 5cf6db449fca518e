-- Over all definitions of an array, weight times uses sums up to the weights of the last writers of its reads.
use Rattle.std.proofs.Common.{ℤ, ◌≡◌, ◌≢◌, ℕ, zero, suc, ◌+◌, ◌*◌, ◌<◌, ◌≤◌, Bool, true, false, not, ◌&&◌, cond, eqb, List, refl, sym, ap, ◌∙◌, arith, inl, inr, eq-eqb, length}
use Rattle.std.proofs.lemmas.Bool.{cases_eq, cases_Bool, and_parts, and_from, and_left, and_right, ne_eqb, cond-true, cond-false}
use Rattle.c_tree.specs.Accesses.{Access, at, Definition, same_definition, last_writer, reads_from, sum_below, Within}
use Rattle.c_tree.specs.Accesses.Definition.{Initial, Written}
use Rattle.balance_laws.specs.Totals.{sum_cells}
use Rattle.balance_laws.proofs.Sums.{sum_below_none, sum_below_more, sum_below_same, sum_below_plus, sum_below_zero, sum_below_one, sum_cells_same, sum_cells_plus, sum_cells_zero, sum_cells_one}
use Rattle.balance_laws.proofs.Latest.{is_of-true, IsLatest, latest_is}
use Rattle.cell_laws.proofs.SameCell.{same_cell_refl, same_cell_other}
use Rattle.balance_laws.proofs.Latest.IsLatest.{at_first, by_write}

abbrev pub writes_of : List Access → ℕ → ℕ → Bool
writes_of list a p = (at list p).writes && eqb (at list p).array a

abbrev pub reads_of : List Access → ℕ → ℕ → Bool
reads_of list a q = not (at list q).writes && eqb (at list q).array a

-- 1 where a definition is this one
abbrev pub is_one : Definition → Definition → ℕ
is_one d e = cond (same_definition d e) 1 0

abbrev pub hit : List Access → Definition → ℕ → ℕ
hit list d q = cond (reads_from list d q) 1 0

-- the weights of the definitions of array a, each times a number
unfoldable pub weighed : List Access → List ℤ → (Definition → ℕ) → ℕ → (Definition → ℕ) → ℕ
weighed list es w a u =
    sum_cells es (λ c. w (Initial a c) * u (Initial a c)) +
    sum_below (λ p. cond (writes_of list a p) (w (Written p) * u (Written p)) 0) (length list)

cond_zero : (b : Bool) (x : ℕ) → x ≡ 0 → cond b x 0 ≡ 0
cond_zero true x e = e
cond_zero false x e = refl

cond_plus : (b : Bool) (x y z : ℕ) → x ≡ y + z → cond b x 0 ≡ cond b y 0 + cond b z 0
cond_plus true x y z e = e
cond_plus false x y z e = refl

times_zero : (x y : ℕ) → y ≡ 0 → x * y ≡ 0
times_zero x y e = rw e (omega arith)

cond_same : (b : Bool) (x y : ℕ) → x ≡ y → cond b x 0 ≡ cond b y 0
cond_same true x y e = e
cond_same false x y e = refl

module _ (list : List Access) (es : List ℤ) (w : Definition → ℕ) (a : ℕ) where
  pub weighed_same : (u v : Definition → ℕ) → ((d : Definition) → u d ≡ v d) → weighed list es w a u ≡ weighed list es w a v
  unfolding weighed
  weighed_same u v h =
      let x = sum_cells_same es (λ c. w (Initial a c) * u (Initial a c)) (λ c. w (Initial a c) * v (Initial a c)) (λ c. ap (λ k. w (Initial a c) * k) (h (Initial a c))) in
      let y = sum_below_same (λ p. cond (writes_of list a p) (w (Written p) * u (Written p)) 0) (λ p. cond (writes_of list a p) (w (Written p) * v (Written p)) 0) (length list) (λ p l. ap (λ k. cond (writes_of list a p) (w (Written p) * k) 0) (h (Written p))) in
      omega arith

  pub weighed_plus : (u v : Definition → ℕ) → weighed list es w a (λ d. u d + v d) ≡ weighed list es w a u + weighed list es w a v
  unfolding weighed
  weighed_plus u v =
      let x = sum_cells_same es (λ c. w (Initial a c) * (u (Initial a c) + v (Initial a c))) (λ c. w (Initial a c) * u (Initial a c) + w (Initial a c) * v (Initial a c)) (λ c. omega arith) in
      let x2 = sum_cells_plus es (λ c. w (Initial a c) * u (Initial a c)) (λ c. w (Initial a c) * v (Initial a c)) in
      let y = sum_below_same (λ p. cond (writes_of list a p) (w (Written p) * (u (Written p) + v (Written p))) 0) (λ p. cond (writes_of list a p) (w (Written p) * u (Written p)) 0 + cond (writes_of list a p) (w (Written p) * v (Written p)) 0) (length list) (λ p l. cond_plus (writes_of list a p) _ _ _ (omega arith)) in
      let y2 = sum_below_plus (λ p. cond (writes_of list a p) (w (Written p) * u (Written p)) 0) (λ p. cond (writes_of list a p) (w (Written p) * v (Written p)) 0) (length list) in
      omega arith

  pub weighed_zero : (u : Definition → ℕ) → ((d : Definition) → u d ≡ 0) → weighed list es w a u ≡ 0
  unfolding weighed
  weighed_zero u h =
      let x = sum_cells_zero es (λ c. w (Initial a c) * u (Initial a c)) (λ c. times_zero _ _ (h (Initial a c))) in
      let y = sum_below_zero (λ p. cond (writes_of list a p) (w (Written p) * u (Written p)) 0) (length list) (λ p l. cond_zero _ _ (times_zero _ _ (h (Written p)))) in
      omega arith

  -- one definition of the array counts once
  weighed_initial : (c : List ℤ) → Within es c → weighed list es w a (λ d. is_one (Initial a c) d) ≡ w (Initial a c)
  unfolding weighed
  weighed_initial c within =
      let x = sum_cells_one es c (λ k. w (Initial a k) * is_one (Initial a c) (Initial a k)) within
      (λ k ne. times_zero _ _ (cond-false _ 1 0 (and_right _ _ (same_cell_other c k (λ e. ne (sym e)))))) in
      let one : is_one (Initial a c) (Initial a c) ≡ 1 = cond-true _ 1 0 (and_from _ _ (eq-eqb a a refl) (same_cell_refl c)) in
      let x2 : w (Initial a c) * is_one (Initial a c) (Initial a c) ≡ w (Initial a c) = rw one (omega arith) in
      let y = sum_below_zero (λ p. cond (writes_of list a p) (w (Written p) * 0) 0) (length list) (λ p l. cond_zero (writes_of list a p) (w (Written p) * 0) (omega arith)) in
      omega arith

  weighed_initial_other : (b : ℕ) (c : List ℤ) → b ≢ a → weighed list es w a (λ d. is_one (Initial b c) d) ≡ 0
  unfolding weighed
  weighed_initial_other b c ne =
      let x = sum_cells_zero es (λ k. w (Initial a k) * is_one (Initial b c) (Initial a k)) (λ k. times_zero _ _ (cond-false _ 1 0 (and_left _ _ (ne_eqb b a ne)))) in
      let y = sum_below_zero (λ p. cond (writes_of list a p) (w (Written p) * 0) 0) (length list) (λ p l. cond_zero (writes_of list a p) (w (Written p) * 0) (omega arith)) in
      omega arith

  weighed_written : (p : ℕ) → p < length list → (at list p).writes ≡ true → weighed list es w a (λ d. is_one (Written p) d) ≡ cond (eqb (at list p).array a) (w (Written p)) 0
  unfolding weighed
  weighed_written p below wr =
      let x = sum_cells_zero es (λ k. w (Initial a k) * 0) (λ k. omega arith) in
      let y = sum_below_one (λ i. cond (writes_of list a i) (w (Written i) * is_one (Written p) (Written i)) 0) p (length list) below
      (λ i l ne. cond_zero _ _ (times_zero _ _ (cond-false _ 1 0 (ne_eqb p i (λ e. ne (sym e)))))) in
      let one : is_one (Written p) (Written p) ≡ 1 = cond-true _ 1 0 (eq-eqb p p refl) in
      let z : cond (writes_of list a p) (w (Written p) * is_one (Written p) (Written p)) 0 ≡ cond (eqb (at list p).array a) (w (Written p)) 0
      = rw (one, wr) (cond_same (eqb (at list p).array a) _ _ (omega arith)) in
      omega arith

  -- the latest definition of a cell counts once, in its own array
  weighed_latest : (b : ℕ) (c : List ℤ) (q : ℕ) (d : Definition) → IsLatest list b c q d → q ≤ length list → (b ≡ a → Within es c) →
      weighed list es w a (λ e. is_one d e) ≡ cond (eqb b a) (w d) 0
  weighed_latest b c q d (at_first e) l within =
      elim (cases_eq b a) [
        | inl same ↦ (
            let h : d ≡ Initial a c = cc in
            rw (h, eq-eqb b a same) (weighed_initial c (within same)))
        | inr ne ↦ rw (e, ne_eqb b a ne) (weighed_initial_other b c ne)
      ]
  weighed_latest b c q d (by_write p below wr e) l within =
      let parts = and_parts _ _ wr in
      let arr = (is_of-true (at list p) b c parts.1).0 in
      rw (e, ← arr) (weighed_written p (omega arith) parts.0)

  -- what position q adds to the uses of each definition
  weighed_hit : (q : ℕ) → q < length list → ((at list q).array ≡ a → Within es (at list q).cell) →
      weighed list es w a (λ d. hit list d q) ≡ cond (reads_of list a q) (w (last_writer list q)) 0
  weighed_hit q l within =
      elim (cases_Bool (at list q).writes) [
        | inl wr ↦ rw wr (weighed_zero (λ d. 0) (λ d. refl))
        | inr rd ↦ rw rd (weighed_latest (at list q).array (at list q).cell q (last_writer list q) (latest_is list (at list q).array (at list q).cell q) (omega arith) within)
      ]

  -- the exchange of the two sums, for the first n positions
  pub exchange_below : ((q : ℕ) → q < length list → (at list q).array ≡ a → Within es (at list q).cell) → (n : ℕ) → n ≤ length list →
      weighed list es w a (λ d. sum_below (λ q. hit list d q) n) ≡ sum_below (λ q. cond (reads_of list a q) (w (last_writer list q)) 0) n
  exchange_below within zero l =
      weighed_zero (λ d. sum_below (λ q. hit list d q) 0) (λ d. sum_below_none (λ q. hit list d q)) ∙ sym (sum_below_none _)
  exchange_below within (suc n) l =
      let r = exchange_below within n (omega arith) in
      let s = weighed_same (λ d. sum_below (λ q. hit list d q) (suc n)) (λ d. sum_below (λ q. hit list d q) n + hit list d n) (λ d. sum_below_more (λ q. hit list d q) n) in
      let t = weighed_plus (λ d. sum_below (λ q. hit list d q) n) (λ d. hit list d n) in
      let u = weighed_hit n (omega arith) (within n (omega arith)) in
      let v = sum_below_more (λ q. cond (reads_of list a q) (w (last_writer list q)) 0) n in
      omega arith
