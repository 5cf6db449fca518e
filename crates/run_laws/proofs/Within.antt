-- Lists whose accesses lie within their extents, access by access.
use Rattle.std.proofs.Common.{◌≡◌, ℕ, zero, suc, ◌+◌, ◌<◌, Bool, true, List, [], ◌∷◌, ◌++◌, map, flat_map, ℤ, Option, Some, None, refl, sym, ap, ◌∙◌, subst, arith, inl, inr}
use Rattle.std.specs.Prelude.{slice_get, bytes_eq}
use Rattle.std.specs.List.{AllByRecursion, list_all}
use Rattle.std.proofs.lemmas.Bool.{cases_Bool, and_parts}
use Rattle.c_tree.specs.Plain.{Word}
use Rattle.c_tree.specs.Arrays.{Array, Memory, is_within, extents_at, extents_in, array_from, array_named}
use Rattle.c_tree.specs.Accesses.{Access, Clean}
use Rattle.c_tree.specs.Instances.{Instance, Tagged, untagged, tagged_of, accesses_of, access_at}
use Rattle.cell_laws.proofs.Within.{within_is, within_from}

abbrev pub AllWithin : List Array → List Access → Type 0
AllWithin arrays list = AllByRecursion (λ (a : Access). is_within a.cell (extents_at arrays a.array) ≡ true) list

pub front_within : (arrays : List Array) (xs ys : List Access) → AllWithin arrays (xs ++ ys) → AllWithin arrays xs
front_within arrays [] ys c = tt
front_within arrays (x ∷ xs) ys c = (c.0, front_within arrays xs ys c.1)

pub back_within : (arrays : List Array) (xs ys : List Access) → AllWithin arrays (xs ++ ys) → AllWithin arrays ys
back_within arrays [] ys c = c
back_within arrays (x ∷ xs) ys c = back_within arrays xs ys c.1

-- ---- what the laws of lists of accesses call clean, and that it is the same

pub all_within : (arrays : List Array) (list : List Access) → Clean (extents_at arrays) list → AllWithin arrays list
all_within arrays [] h = tt
all_within arrays (x ∷ xs) h = (
  within_is (extents_at arrays x.array) x.cell (h 0 (omega arith)),
  all_within arrays xs (λ q l. h (suc q) (omega arith)),
)

pub clean_is : (arrays : List Array) (list : List Access) → AllWithin arrays list → Clean (extents_at arrays) list
clean_is arrays [] h q l = absurd (let f : q < 0 = l in omega arith)
clean_is arrays (x ∷ xs) h zero l = within_from (extents_at arrays x.array) x.cell h.0
clean_is arrays (x ∷ xs) h (suc q) l = clean_is arrays xs h.1 q (omega arith)

-- a test of the whole list
pub all_tested : (arrays : List Array) (list : List Access) → list_all (λ (a : Access). is_within a.cell (extents_at arrays a.array)) list ≡ true → AllWithin arrays list
all_tested arrays [] h = tt
all_tested arrays (x ∷ xs) h = let k = and_parts (is_within x.cell (extents_at arrays x.array)) (list_all (λ (a : Access). is_within a.cell (extents_at arrays a.array)) xs) h in
    (k.0, all_tested arrays xs k.1)

-- ---- arrays by name

array_found : (k : ℕ) (arrays : List Array) (x : Word) (a : ℕ × Array) → array_from k arrays x ≡ Some a → (j : ℕ) × (a.0 ≡ k + j) × (slice_get arrays j ≡ Some a.1)
array_found k [] x a e = absurd (let f : None ≡ Some a = e in cc)
array_found k (b ∷ more) x a e = elim (cases_Bool (bytes_eq b.name x)) [
  | inl y ↦ (let f : Some (k, b) ≡ Some a = rw y at e in let g : (k, b) ≡ a = cc in (0, sym (ap (λ p. p.0) g) ∙ omega arith, ap (λ p. Some p.1) g))
  | inr y ↦ (let f : array_from (suc k) more x ≡ Some a = rw y at e in let r = array_found (suc k) more x a f in (suc r.0, r.1 ∙ omega arith, r.2))
]

-- an array that is found by its name stands at its number
pub array_stands : (arrays : List Array) (x : Word) (a : ℕ × Array) → array_named arrays x ≡ Some a → slice_get arrays a.0 ≡ Some a.1
array_stands arrays x a e = let r = array_found 0 arrays x a e in let f : a.0 ≡ r.0 = r.1 ∙ omega arith in ap (slice_get arrays) f ∙ r.2

pub lies_within : (arrays : List Array) (x : Word) (a : ℕ × Array) (cs : List ℤ) (w : Bool) → array_named arrays x ≡ Some a → AllWithin arrays (access_at (Some a) cs w) → is_within cs a.1.extents ≡ true
lies_within arrays x a cs w named c = subst (λ (o : Option Array). is_within cs (extents_in o) ≡ true) (array_stands arrays x a named) c.0

-- ---- accesses without their tags

untagged_one : (arrays : List Array) (m : Memory) (i : Instance) (list : List Access) (ts : List Tagged) → untagged (map (λ a. record { access = a; site = i.site; vars = i.vars }) list ++ ts) ≡ list ++ untagged ts
untagged_one arrays m i [] ts = refl
untagged_one arrays m i (x ∷ xs) ts = ap (λ l. x ∷ l) (untagged_one arrays m i xs ts)

pub untagged_is : (arrays : List Array) (m : Memory) (is : List Instance) → untagged (flat_map (tagged_of arrays m) is) ≡ flat_map (accesses_of arrays m) is
untagged_is arrays m [] = refl
untagged_is arrays m (i ∷ is) = untagged_one arrays m i (accesses_of arrays m i) (flat_map (tagged_of arrays m) is) ∙ ap (λ l. accesses_of arrays m i ++ l) (untagged_is arrays m is)
