-- Lists of accesses that stay within their arrays, and how long they are: instance by instance, and loop by loop.
use Rattle.std.proofs.Common.{◌≡◌, ◌≤◌, ◌<◌, ◌+◌, ◌-◌, ◌*◌, ℕ, zero, suc, List, [], ◌∷◌, ◌++◌, length, map, flat_map, ℤ, pos, arith, subst, sym}
use Rattle.std.proofs.lemmas.List.{length-append, length-map}
use Rattle.std.proofs.Math.Nat.{mul-le-mul_right, suc-mul}
use Rattle.std.specs.List.{AllByRecursion}
use Rattle.std.specs.Int.{int_gap}
use Rattle.c_tree.specs.Accesses.{Access, Within, Clean}
use Rattle.c_tree.specs.Arrays.{Array, Memory}
use Rattle.c_tree.specs.Instances.{Instance, Tagged, accesses_of, tagged_of, untagged}
use Rattle.c_tree.specs.Values.{from_on}

-- a predicate of all members of one list behind another
pub all_append : {A : Type 0} (P : A → Type 0) (xs ys : List A) → AllByRecursion P xs → AllByRecursion P ys → AllByRecursion P (xs ++ ys)
all_append P [] ys h k = k
all_append P (x ∷ xs) ys h k = (h.0, all_append P xs ys h.1 k)

-- ---- accesses within their arrays

-- each access lies within the extents of its array
abbrev pub AllWithin : (ℕ → List ℤ) → List Access → Type 0
AllWithin extents list = AllByRecursion (λ (a : Access). Within (extents a.array) a.cell) list

pub clean : (extents : ℕ → List ℤ) (list : List Access) → AllWithin extents list → Clean extents list
clean extents [] h q below = absurd (omega arith)
clean extents (a ∷ list) h zero below = h.0
clean extents (a ∷ list) h (suc q) below = clean extents list h.1 q (omega arith)

-- ---- instance by instance

module _ (extents : ℕ → List ℤ) (arrays : List Array) (m : Memory) where
  -- so many accesses at most, each within its array
  pub record IsTame (i : Instance) : Type 0 where
    pub within : AllWithin extents (accesses_of arrays m i)
    pub few : length (accesses_of arrays m i) ≤ 4

  abbrev TagWithin : List Tagged → Type 0
  TagWithin ts = AllByRecursion (λ (t : Tagged). Within (extents t.access.array) t.access.cell) ts

  tagged_within : (i : Instance) (list : List Access) → AllWithin extents list → TagWithin (map (λ a. record { access = a; site = i.site; vars = i.vars }) list)
  tagged_within i [] h = tt
  tagged_within i (a ∷ list) h = (h.0, tagged_within i list h.1)

  untagged_within : (ts : List Tagged) → TagWithin ts → AllWithin extents (untagged ts)
  untagged_within [] h = tt
  untagged_within (t ∷ ts) h = (h.0, untagged_within ts h.1)

  all_tagged : (is : List Instance) → AllByRecursion IsTame is → TagWithin (flat_map (tagged_of arrays m) is)
  all_tagged [] h = tt
  all_tagged (i ∷ is) h = all_append (λ (t : Tagged). Within (extents t.access.array) t.access.cell) (tagged_of arrays m i) (flat_map (tagged_of arrays m) is) (tagged_within i (accesses_of arrays m i) h.0.within) (all_tagged is h.1)

  pub core_within : (is : List Instance) → AllByRecursion IsTame is → AllWithin extents (untagged (flat_map (tagged_of arrays m) is))
  core_within is h = untagged_within (flat_map (tagged_of arrays m) is) (all_tagged is h)

  tagged_few : (is : List Instance) → AllByRecursion IsTame is → length (flat_map (tagged_of arrays m) is) ≤ 4 * length is
  tagged_few [] h = omega arith
  tagged_few (i ∷ is) h =
      let parts = length-append (tagged_of arrays m i) (flat_map (tagged_of arrays m) is) in
      let here : length (tagged_of arrays m i) ≡ length (accesses_of arrays m i) = length-map (accesses_of arrays m i) (λ a. record { access = a; site = i.site; vars = i.vars }) in
      let first = h.0.few in let rest = tagged_few is h.1 in omega (arith, parts, here, first, rest)

  pub core_few : (is : List Instance) → AllByRecursion IsTame is → length (untagged (flat_map (tagged_of arrays m) is)) ≤ 4 * length is
  core_few is h =
      let same = length-map (flat_map (tagged_of arrays m) is) (λ (t : Tagged). t.access) in let few = tagged_few is h in omega (arith, same, few)

  -- ---- loop by loop

  -- so many tame instances at most
  pub record AreTame (most : ℕ) (is : List Instance) : Type 0 where
    pub tame : AllByRecursion IsTame is
    pub few : length is ≤ most

  pub both : (a b : ℕ) (xs ys : List Instance) → AreTame a xs → AreTame b ys → AreTame (a + b) (xs ++ ys)
  both a b xs ys p q = record {
    tame = all_append IsTame xs ys p.tame q.tame;
    few = let parts = length-append xs ys in let first = p.few in let second = q.few in omega (arith, parts, first, second);
  }

  pub one : (i : Instance) → IsTame i → AreTame 1 (i ∷ [])
  one i h = record { tame = (h, tt); few = omega arith }

  turns : (f : ℤ → List Instance) (b lo c : ℕ) → ((v : ℕ) → lo ≤ v → v < lo + c → AreTame b (f (pos v))) → AreTame (c * b) (flat_map f (from_on (pos lo) c))
  turns f b lo zero h = record { tame = tt; few = omega arith }
  turns f b lo (suc c) h =
      let rest = turns f b (lo + 1) c (λ v above below. h v (omega arith) (omega arith)) in
      let all = both b (c * b) (f (pos lo)) (flat_map f (from_on (pos (lo + 1)) c)) (h lo (omega arith) (omega arith)) rest in
      record { tame = all.tame; few = let few = all.few in let more = suc-mul c b in omega (arith, few, more) }

  -- a loop of at most 107 turns
  pub in_loop : (f : ℤ → List Instance) (b lo c : ℕ) → c ≤ 107 → ((v : ℕ) → lo ≤ v → v < lo + c → AreTame b (f (pos v))) → AreTame (107 * b) (flat_map f (from_on (pos lo) c))
  in_loop f b lo c small h =
      let all = turns f b lo c h in
      let bound : c * b ≤ 107 * b = mul-le-mul_right b small in
      record { tame = all.tame; few = let few = all.few in omega (arith, few, bound) }

  -- from a number on, below another
  pub up_to : (f : ℤ → List Instance) (b lo hi : ℕ) (end : ℤ) → end ≡ pos hi → hi ≤ 107 → ((v : ℕ) → lo ≤ v → v < hi → AreTame b (f (pos v))) → AreTame (107 * b) (flat_map f (from_on (pos lo) (int_gap (pos lo) end)))
  up_to f b lo hi end same small h =
      subst (λ z. AreTame (107 * b) (flat_map f (from_on (pos lo) (int_gap (pos lo) z)))) (sym same) (in_loop f b lo (hi - lo) (omega arith) (λ v above below. h v above (omega arith)))
