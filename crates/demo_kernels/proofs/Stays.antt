-- Each kernel stays within its arrays, whatever words these hold, and makes few accesses. The kernel with an index array does so where the
-- words of that array are below the size of the other.
use Rattle.std.proofs.Common.{◌≡◌, ◌≤◌, ◌<◌, ◌+◌, ◌-◌, ◌*◌, ◌^◌, ℕ, Bool, true, false, if◌then◌else◌, List, [], ◌∷◌, length, ℤ, pos, ◌-ℤ◌, refl, arith, codes, ap}
use Rattle.std.proofs.lemmas.Int.{ints}
use Rattle.std.proofs.lemmas.List.{append-nil}
use Rattle.acceptance.specs.WorkedSources.{shift, product_of, jacobi, gather}
use Rattle.c_tree.specs.Accesses.{Clean}
use Rattle.c_tree.specs.Arrays.{Memory, arrays_of, vars_of, extents_at, is_within}
use Rattle.c_tree.specs.Instances.{Instance, core, accesses, instances_all}
use Rattle.c_tree.specs.Plain.{Word, PlainUnit, loop, PlainStmts, no_stmts, more_stmts}
use Rattle.c_tree.specs.Values.{Vars}
use Rattle.demo_kernels.proofs.Walks.{AreTame, both, one, up_to, clean, core_within, core_few}

-- what is wanted of the accesses of a unit, for these parameters and this memory
pub record Stays (u : PlainUnit) (ns : List ℤ) (m : Memory) : Type 0 where
  pub clean : Clean (extents_at (arrays_of (vars_of u.params ns) u.params)) (core u ns m)
  pub few : length (accesses u ns m) < 2 ^ 63

abbrev Tame : PlainUnit → List ℤ → Memory → ℕ → List Instance → Type 0
Tame u ns m most is = AreTame (extents_at (arrays_of (vars_of u.params ns) u.params)) (arrays_of (vars_of u.params ns) u.params) m most is

stays : (u : PlainUnit) (ns : List ℤ) (m : Memory) (most : ℕ) → 4 * most < 2 ^ 63 → Tame u ns m most (instances_all 0 u.body (vars_of u.params ns)) → Stays u ns m
stays u ns m most small h =
    let vs = vars_of u.params ns in
    let arrays = arrays_of vs u.params in
    let is = instances_all 0 u.body vs in record {
      clean = clean (extents_at arrays) (core u ns m) (core_within (extents_at arrays) arrays m is h.tame);
      few =
          let same : length (accesses u ns m) ≡ length (core u ns m) = ap length (append-nil (core u ns m)) in
          let bound : length (core u ns m) ≤ 4 * length is = core_few (extents_at arrays) arrays m is h.tame in
          let counted = h.few in omega (arith, same, bound, counted, small);
    }

-- the body of the first loop, and what stands behind it
abbrev body_of : PlainStmts → PlainStmts
body_of (more_stmts (loop x lo rel hi body) more) = body
body_of _ = no_stmts

abbrev behind : PlainStmts → PlainStmts
behind (more_stmts s more) = more
behind no_stmts = no_stmts

-- the instances of a turn of a loop
abbrev each : ℕ → PlainStmts → Word → Vars → ℤ → List Instance
each k body x vs v = instances_all k body ((x, v) ∷ vs)

-- a number less another
less : (n k : ℕ) → k ≤ n → pos n -ℤ pos k ≡ pos (n - k)
less n k le = omega (arith, ints, le)

-- ---- the shift

nothing : (u : PlainUnit) (ns : List ℤ) (m : Memory) → Tame u ns m 0 []
nothing u ns m = record { tame = tt; few = omega arith }

pub shift_stays : (n : ℕ) (m : Memory) → 1 ≤ n → n ≤ 107 → Stays shift (pos n ∷ []) m
shift_stays n m some small = stays shift (pos n ∷ []) m (107 * 1 + 0) (omega arith)
    (both _ _ _ (107 * 1) 0 _ [] (up_to _ _ _ (each 0 (body_of shift.body) (codes "i") (vars_of shift.params (pos n ∷ []))) 1 0 (n - 1) (pos n -ℤ pos 1) (less n 1 some) (omega arith) turn) (nothing shift (pos n ∷ []) m)) where
      turn : (v : ℕ) → 0 ≤ v → v < n - 1 → Tame shift (pos n ∷ []) m 1 (instances_all 0 (body_of shift.body) ((codes "i", pos v) ∷ vars_of shift.params (pos n ∷ [])))
      turn v above below = one _ _ _ _ (record { within = (((v, refl, omega arith), tt), (((v + 1, refl, omega arith), tt), tt)); few = omega arith })

-- ---- the product

abbrev product : PlainUnit
product = product_of (codes "n")

pub product_stays : (n : ℕ) (m : Memory) → 1 ≤ n → n ≤ 107 → Stays product (pos n ∷ []) m
product_stays n m some small =
    stays product (pos n ∷ []) m (107 * (107 * (107 * 1 + 0) + 0) + 0) (omega arith) (both _ _ _ (107 * (107 * (107 * 1 + 0) + 0)) 0 _ []
    (up_to _ _ _ (each 0 (body_of product.body) (codes "i") (vars_of product.params (pos n ∷ []))) (107 * (107 * 1 + 0) + 0) 0 n (pos n) refl small rows) (nothing product (pos n ∷ []) m)) where
      turn : (i j k : ℕ) → i < n → j < n → k < n
          → Tame product (pos n ∷ []) m 1 (instances_all 0 (body_of (body_of (body_of product.body))) ((codes "k", pos k) ∷ (codes "j", pos j) ∷ (codes "i", pos i) ∷ vars_of product.params (pos n ∷ [])))
      turn i j k a b c = one _ _ _ _ (record {
        within = (((i, refl, a), ((j, refl, b), tt)), (((i, refl, a), ((k, refl, c), tt)), (((k, refl, c), ((j, refl, b), tt)), (((i, refl, a), ((j, refl, b), tt)), tt))));
        few = omega arith;
      })

      cells : (i j : ℕ) → i < n → j < n
          → Tame product (pos n ∷ []) m (107 * 1 + 0) (instances_all 0 (body_of (body_of product.body)) ((codes "j", pos j) ∷ (codes "i", pos i) ∷ vars_of product.params (pos n ∷ [])))
      cells i j a b = both _ _ _ (107 * 1) 0 _ [] (up_to _ _ _ (each 0 (body_of (body_of (body_of product.body))) (codes "k") ((codes "j", pos j) ∷ (codes "i", pos i) ∷ vars_of product.params (pos n ∷ []))) 1 0 n (pos n) refl small (λ k above below. turn i j k a b below)) (nothing product (pos n ∷ []) m)

      rows : (i : ℕ) → 0 ≤ i → i < n → Tame product (pos n ∷ []) m (107 * (107 * 1 + 0) + 0) (instances_all 0 (body_of product.body) ((codes "i", pos i) ∷ vars_of product.params (pos n ∷ [])))
      rows i above a = both _ _ _ (107 * (107 * 1 + 0)) 0 _ [] (up_to _ _ _ (each 0 (body_of (body_of product.body)) (codes "j") ((codes "i", pos i) ∷ vars_of product.params (pos n ∷ []))) (107 * 1 + 0) 0 n (pos n) refl small (λ j least b. cells i j a b)) (nothing product (pos n ∷ []) m)

-- ---- the stencil

pub jacobi_stays : (n : ℕ) (m : Memory) → 1 ≤ n → n ≤ 107 → Stays jacobi (pos n ∷ pos n ∷ []) m
jacobi_stays n m some small =
    stays jacobi (pos n ∷ pos n ∷ []) m (107 * (107 * 1 + (107 * 1 + 0)) + 0) (omega arith) (both _ _ _ (107 * (107 * 1 + (107 * 1 + 0))) 0 _ []
    (up_to _ _ _ (each 0 (body_of jacobi.body) (codes "s") (vars_of jacobi.params (pos n ∷ pos n ∷ []))) (107 * 1 + (107 * 1 + 0)) 0 n (pos n) refl small sweep) (nothing jacobi (pos n ∷ pos n ∷ []) m)) where
      near : (s i : ℕ) → 1 ≤ i → i < n - 1
          → Tame jacobi (pos n ∷ pos n ∷ []) m 1 (instances_all 0 (body_of (body_of jacobi.body)) ((codes "i", pos i) ∷ (codes "s", pos s) ∷ vars_of jacobi.params (pos n ∷ pos n ∷ [])))
      near s i a b = one _ _ _ _ (record {
        within = (((i - 1, less i 1 a, omega arith), tt), (((i + 1, refl, omega arith), tt), (((i, refl, omega arith), tt), tt)));
        few = omega arith;
      })

      back : (s i : ℕ) → 1 ≤ i → i < n - 1
          → Tame jacobi (pos n ∷ pos n ∷ []) m 1 (instances_all 1 (body_of (behind (body_of jacobi.body))) ((codes "i", pos i) ∷ (codes "s", pos s) ∷ vars_of jacobi.params (pos n ∷ pos n ∷ [])))
      back s i a b = one _ _ _ _ (record { within = (((i, refl, omega arith), tt), (((i, refl, omega arith), tt), tt)); few = omega arith })

      sweep : (s : ℕ) → 0 ≤ s → s < n
          → Tame jacobi (pos n ∷ pos n ∷ []) m (107 * 1 + (107 * 1 + 0)) (instances_all 0 (body_of jacobi.body) ((codes "s", pos s) ∷ vars_of jacobi.params (pos n ∷ pos n ∷ [])))
      sweep s above below =
          both _ _ _ (107 * 1) (107 * 1 + 0) _ _ (up_to _ _ _ (each 0 (body_of (body_of jacobi.body)) (codes "i") ((codes "s", pos s) ∷ vars_of jacobi.params (pos n ∷ pos n ∷ []))) 1 1 (n - 1) (pos n -ℤ pos 1) (less n 1 some) (omega arith) (near s))
          (both _ _ _ (107 * 1) 0 _ [] (up_to _ _ _ (each 1 (body_of (behind (body_of jacobi.body))) (codes "i") ((codes "s", pos s) ∷ vars_of jacobi.params (pos n ∷ pos n ∷ []))) 1 1 (n - 1) (pos n -ℤ pos 1) (less n 1 some) (omega arith) (back s)) (nothing jacobi (pos n ∷ pos n ∷ []) m))

-- ---- the gather

below_if : (b : Bool) (x n : ℕ) → x < n → 1 ≤ n → (if b then x else 0) < n
below_if true x n h some = h
below_if false x n h some = omega arith

pub gather_stays : (n : ℕ) (m : Memory) → 1 ≤ n → n ≤ 107 → ((c : List ℤ) → m 0 c < n) → Stays gather (pos n ∷ pos n ∷ []) m
gather_stays n m some small indices = stays gather (pos n ∷ pos n ∷ []) m (107 * 1 + 0) (omega arith)
    (both _ _ _ (107 * 1) 0 _ [] (up_to _ _ _ (each 0 (body_of gather.body) (codes "i") (vars_of gather.params (pos n ∷ pos n ∷ []))) 1 0 n (pos n) refl small turn) (nothing gather (pos n ∷ pos n ∷ []) m)) where
      turn : (v : ℕ) → 0 ≤ v → v < n → Tame gather (pos n ∷ pos n ∷ []) m 1 (instances_all 0 (body_of gather.body) ((codes "i", pos v) ∷ vars_of gather.params (pos n ∷ pos n ∷ [])))
      turn v above below = one _ _ _ _ (record {
        within = (((v, refl, below), tt), (((_, refl, below_if (is_within (pos v ∷ []) (pos n ∷ [])) (m 0 (pos v ∷ [])) n (indices (pos v ∷ [])) some), tt), (((v, refl, below), tt), tt)));
        few = omega arith;
      })
