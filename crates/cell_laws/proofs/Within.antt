-- A cell within its extents, as a test and as a statement.
use Rattle.std.proofs.Common.{◌≡◌, ℕ, ◌<◌, true, false, ◌&&◌, List, [], ◌∷◌, ℤ, pos, negsuc, refl, arith}
use Rattle.std.proofs.Math.Dec.{leb, ltb}
use Rattle.std.proofs.lemmas.Bool.{and_parts, ltb-true}
use Rattle.std.proofs.lemmas.Bool.Decides.{nat_tests}
use Rattle.c_tree.specs.Arrays.{is_within}
use Rattle.c_tree.specs.Accesses.{Within}

pub within_is : (es c : List ℤ) → Within es c → is_within c es ≡ true
within_is [] [] h = refl
within_is [] (i ∷ c) h = absurd h
within_is (e ∷ es) [] h = absurd h
within_is (pos n ∷ es) (i ∷ c) h = rw (h.0.1, within_is es c h.1) (grind (arith, nat_tests))
within_is (negsuc n ∷ es) (i ∷ c) h = absurd (let f : h.0.0 < 0 = h.0.2 in omega arith)

-- the first coordinate, and the others
pub inside : (i n : ℕ) (cs es : List ℤ) → is_within (pos i ∷ cs) (pos n ∷ es) ≡ true → (i < n) × (is_within cs es ≡ true)
inside i n cs es h =
    let a = and_parts (leb 0 i && ltb i n) (is_within cs es) h in
    let b = and_parts (leb 0 i) (ltb i n) a.0 in
    (ltb-true i n b.1, a.1)

pub not_inside : (i : ℕ) (e : ℤ) (cs es : List ℤ) → is_within (negsuc i ∷ cs) (e ∷ es) ≡ true → ⊥
not_inside i e cs es h = let f : false ≡ true = h in cc

pub no_room : (i n : ℕ) (cs es : List ℤ) → is_within (pos i ∷ cs) (negsuc n ∷ es) ≡ true → ⊥
no_room i n cs es h =
    let a = and_parts (leb 0 i && false) (is_within cs es) h in
    let b = and_parts (leb 0 i) false a.0 in
    let f : false ≡ true = b.1 in cc

pub within_from : (es c : List ℤ) → is_within c es ≡ true → Within es c
within_from [] [] h = tt
within_from [] (i ∷ c) h = let e : false ≡ true = h in cc
within_from (e ∷ es) [] h = let f : false ≡ true = h in cc
within_from (pos n ∷ es) (pos i ∷ c) h = let k = inside i n c es h in ((i, refl, k.0), within_from es c k.1)
within_from (negsuc n ∷ es) (pos i ∷ c) h = absurd (no_room i n c es h)
within_from (e ∷ es) (negsuc i ∷ c) h = absurd (not_inside i e c es h)
