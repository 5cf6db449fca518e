-- The sums that a text adds up are those of the laws of totals, over any list that has the same arrays and directions: list recursions on the one side, sums by positions and over cells on the other.
use Rattle.std.proofs.Common.{◌≡◌, Bool, true, if◌then◌else◌, ℕ, zero, suc, ◌+◌, ◌*◌, cond, not, ◌&&◌, List, [], ◌∷◌, length, refl, sym, ap, ◌∙◌, arith, ℤ, nat_eq}
use Rattle.c_tree.specs.Arrays.{Memory, all_cells}
use Rattle.c_tree.specs.Accesses.{Access, at, sum_below, uses}
use Rattle.c_tree.specs.Accesses.Definition.{Initial, Written}
use Rattle.c_tree.specs.Run.{Event}
use Rattle.balance_laws.specs.Totals as Sums
use Rattle.balance_laws.proofs.Sums.{sum_below_same}
use Rattle.run_laws.specs.Logs.{accesses_in, values_in}
use Rattle.instrumentation_laws.specs.RunningTotals.{read_sum, written_sum}
use Rattle.instrumentation_laws.specs.PrologueTotals.{cell_sum}
use Rattle.instrumentation_laws.specs.Kept.{view, views}
use Rattle.std.proofs.lemmas.List.{length-map}
use Rattle.instrumentation_laws.proofs.PositionSums.{read_sum_is, written_sum_is, cells_are}

-- ---- lists with equal views

head_of : (ℕ × Bool × List ℤ) → List (ℕ × Bool × List ℤ) → ℕ × Bool × List ℤ
head_of d [] = d
head_of d (v ∷ vs) = v

tail_of : List (ℕ × Bool × List ℤ) → List (ℕ × Bool × List ℤ)
tail_of [] = []
tail_of (v ∷ vs) = vs

same_head : (v w : ℕ × Bool × List ℤ) (vs ws : List (ℕ × Bool × List ℤ)) → v ∷ vs ≡ w ∷ ws → (v ≡ w) × (vs ≡ ws)
unfolding head_of tail_of
same_head v w vs ws e = (ap (head_of v) e, ap tail_of e)

module _ (trusted : ℕ → Bool) where
  pub views_at : (l k : List Access) → views trusted l ≡ views trusted k → (q : ℕ) → view trusted (at l q) ≡ view trusted (at k q)
  views_at [] [] e q = refl
  views_at [] (y ∷ k) e q = absurd (let g = e in cc)
  views_at (x ∷ l) [] e q = absurd (let g = e in cc)
  views_at (x ∷ l) (y ∷ k) e zero = (same_head (view trusted x) (view trusted y) (views trusted l) (views trusted k) e).0
  views_at (x ∷ l) (y ∷ k) e (suc q) = views_at l k (same_head (view trusted x) (view trusted y) (views trusted l) (views trusted k) e).1 q

  pub arrays_at : (l k : List Access) → views trusted l ≡ views trusted k → (q : ℕ) → (at l q).array ≡ (at k q).array
  arrays_at l k e q = ap (λ (v : ℕ × Bool × List ℤ). v.0) (views_at l k e q)

  pub writes_at : (l k : List Access) → views trusted l ≡ views trusted k → (q : ℕ) → (at l q).writes ≡ (at k q).writes
  writes_at l k e q = ap (λ (v : ℕ × Bool × List ℤ). v.1) (views_at l k e q)

  cell_at : (x y : Access) → view trusted x ≡ view trusted y → trusted x.array ≡ true → x ≡ y
  cell_at x y e t =
      let a : x.array ≡ y.array = ap (λ (v : ℕ × Bool × List ℤ). v.0) e in
      let w : x.writes ≡ y.writes = ap (λ (v : ℕ × Bool × List ℤ). v.1) e in
      let u : trusted y.array ≡ true = ap trusted (sym a) ∙ t in
      let c : x.cell ≡ y.cell = sym (ap (λ b. if b then x.cell else []) t) ∙ ap (λ (v : ℕ × Bool × List ℤ). v.2) e ∙ ap (λ b. if b then y.cell else []) u in
      ap (λ a. made_of a x.cell x.writes) a ∙ ap (λ c. made_of y.array c x.writes) c ∙ ap (λ w. made_of y.array y.cell w) w
    where
      made_of : ℕ → List ℤ → Bool → Access
      made_of a c w = record { array = a; cell = c; writes = w }

  pub trusted_at : (l k : List Access) → views trusted l ≡ views trusted k → (q : ℕ) → trusted (at l q).array ≡ true → at l q ≡ at k q
  trusted_at l k e q t = cell_at (at l q) (at k q) (views_at l k e q) t

  pub same_long : (l k : List Access) → views trusted l ≡ views trusted k → length l ≡ length k
  same_long l k e = sym (length-map l (view trusted)) ∙ ap length e ∙ length-map k (view trusted)

  -- where every array is trusted the lists are one
  pub one_list : ((a : ℕ) → trusted a ≡ true) → (l k : List Access) → views trusted l ≡ views trusted k → l ≡ k
  one_list all [] [] e = refl
  one_list all [] (y ∷ k) e = absurd (let g = e in cc)
  one_list all (x ∷ l) [] e = absurd (let g = e in cc)
  one_list all (x ∷ l) (y ∷ k) e =
      let p = same_head (view trusted x) (view trusted y) (views trusted l) (views trusted k) e in
      let first : x ≡ y = cell_at x y p.0 (all x.array) in
      ap (λ x. x ∷ l) first ∙ ap (λ l. y ∷ l) (one_list all l k p.1)

  -- ---- totals

  pub used_is : (list : List Access) (xs : List Event) (a : ℕ) → views trusted (accesses_in xs) ≡ views trusted list → read_sum a xs ≡ Sums.use_sum list (values_in xs) a
  unfolding Sums.use_sum
  used_is list xs a e =
      read_sum_is a xs ∙
      sum_below_same (λ q. cond (not (at (accesses_in xs) q).writes && nat_eq (at (accesses_in xs) q).array a) (values_in xs q) 0) (λ q. cond (not (at list q).writes && nat_eq (at list q).array a) (values_in xs q) 0) (length (accesses_in xs))
      (λ q l. ap (λ w. cond (not w && nat_eq (at (accesses_in xs) q).array a) (values_in xs q) 0) (writes_at (accesses_in xs) list e q) ∙ ap (λ b. cond (not (at list q).writes && nat_eq b a) (values_in xs q) 0) (arrays_at (accesses_in xs) list e q)) ∙
      ap (sum_below (λ q. cond (not (at list q).writes && nat_eq (at list q).array a) (values_in xs q) 0)) (same_long (accesses_in xs) list e)

  pub total_is : (list : List Access) (extents : ℕ → List ℤ) (inputs : Memory) (xs : List Event) (a : ℕ) → views trusted (accesses_in xs) ≡ views trusted list →
      cell_sum (λ cs. inputs a cs * uses list (Initial a cs)) (all_cells (extents a)) + written_sum (λ n. uses list (Written n)) a 0 xs ≡ Sums.definition_sum list extents inputs (values_in xs) a
  unfolding Sums.definition_sum
  total_is list extents inputs xs a e =
      let u : ℕ → ℕ = λ n. uses list (Written n) in
      let one : cell_sum (λ cs. inputs a cs * uses list (Initial a cs)) (all_cells (extents a)) ≡ Sums.sum_cells (extents a) (λ c. inputs a c * uses list (Initial a c)) = cells_are (extents a) (λ c. inputs a c * uses list (Initial a c)) in
      let two : written_sum u a 0 xs ≡ sum_below (λ p. cond ((at list p).writes && nat_eq (at list p).array a) (values_in xs p * u p) 0) (length list) =
      written_sum_is u a 0 xs ∙
      sum_below_same (λ p. cond ((at (accesses_in xs) p).writes && nat_eq (at (accesses_in xs) p).array a) (values_in xs p * u (0 + p)) 0) (λ p. cond ((at list p).writes && nat_eq (at list p).array a) (values_in xs p * u p) 0) (length (accesses_in xs))
      (λ p l. ap (λ n. cond ((at (accesses_in xs) p).writes && nat_eq (at (accesses_in xs) p).array a) (values_in xs p * u n) 0) (let g : 0 + p ≡ p = omega arith in g) ∙
      ap (λ w. cond (w && nat_eq (at (accesses_in xs) p).array a) (values_in xs p * u p) 0) (writes_at (accesses_in xs) list e p) ∙ ap (λ b. cond ((at list p).writes && nat_eq b a) (values_in xs p * u p) 0) (arrays_at (accesses_in xs) list e p)) ∙
      ap (sum_below (λ p. cond ((at list p).writes && nat_eq (at list p).array a) (values_in xs p * u p) 0)) (same_long (accesses_in xs) list e) in
      ap (λ k. k + written_sum u a 0 xs) one ∙ ap (λ k. Sums.sum_cells (extents a) (λ c. inputs a c * uses list (Initial a c)) + k) two
