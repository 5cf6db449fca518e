-- The longest front of bytes that pass a test.
use Rattle.std.proofs.Common.{◌≡◌, ℕ, zero, suc, ◌≤◌, one-add, List, [], ◌∷◌, ◌++◌, length, take, Bool, true, false, ◌&&◌, refl, sym, arith}
use Rattle.std.proofs.Math.Seq.{take-append_seam, drop-append_seam}
use Rattle.std.proofs.lemmas.List.{take-append-drop}
use Rattle.std.specs.List.{prefix_len, list_all}
use Rattle.text_pieces.specs.Fronts.{run, behind}

pub both : (a b : Bool) → (a && b) ≡ true → (a ≡ true) × (b ≡ true)
both true true h = (refl, refl)
both true false h = absurd (let no : ⊥ = cc in no)
both false b h = absurd (let no : ⊥ = cc in no)

abbrev pub begins : (ℕ → Bool) → List ℕ → Bool
begins test [] = false
begins test (b ∷ bs) = test b

pub run-behind : (test : ℕ → Bool) (text : List ℕ) → text ≡ run test text ++ behind test text
run-behind test text = sym (take-append-drop (prefix_len test text) text)

pub run_passes : (test : ℕ → Bool) (text : List ℕ) → list_all test (run test text) ≡ true
run_passes test [] = refl
run_passes test (b ∷ bs) = first (test b) refl (run_passes test bs) where
  first : (v : Bool) → test b ≡ v → list_all test (run test bs) ≡ true → list_all test (run test (b ∷ bs)) ≡ true
  first true e others = rw (e, one-add, e) others
  first false e others = rw e refl

pub behind_stops : (test : ℕ → Bool) (text : List ℕ) → begins test (behind test text) ≡ false
behind_stops test [] = refl
behind_stops test (b ∷ bs) = first (test b) refl (behind_stops test bs) where
  first : (v : Bool) → test b ≡ v → begins test (behind test bs) ≡ false → begins test (behind test (b ∷ bs)) ≡ false
  first true e others = rw (e, one-add) others
  first false e others = rw e e

pub prefix_len-front : (test : ℕ → Bool) (front rest : List ℕ) → list_all test front ≡ true → begins test rest ≡ false → prefix_len test (front ++ rest) ≡ length front
prefix_len-front test [] [] p h = refl
prefix_len-front test [] (b ∷ rest) p h = rw h refl
prefix_len-front test (b ∷ front) rest p h = let (one, others) = both (test b) (list_all test front) p in rw one (omega (arith, prefix_len-front test front rest others h))

pub run-front : (test : ℕ → Bool) (front rest : List ℕ) → list_all test front ≡ true → begins test rest ≡ false → run test (front ++ rest) ≡ front
run-front test front rest p h = rw (prefix_len-front test front rest p h) (take-append_seam front rest)

pub behind-front : (test : ℕ → Bool) (front rest : List ℕ) → list_all test front ≡ true → begins test rest ≡ false → behind test (front ++ rest) ≡ rest
behind-front test front rest p h = rw (prefix_len-front test front rest p h) (drop-append_seam front rest)

-- no longer front passes
pub prefix_len-greatest : (test : ℕ → Bool) (k : ℕ) (text : List ℕ) → k ≤ length text → list_all test (take k text) ≡ true → k ≤ prefix_len test text
prefix_len-greatest test k text h p = by k text h p where
  by : (k : ℕ) (text : List ℕ) → k ≤ length text → list_all test (take k text) ≡ true → k ≤ prefix_len test text
  by zero text h p = omega arith
  by (suc k) [] h p = absurd (omega arith)
  by (suc k) (b ∷ bs) h p = let (one, others) = both (test b) (list_all test (take k bs)) p in rw one (omega (arith, by k bs (omega arith) others))

pub list_all-implies : (p q : ℕ → Bool) → ((b : ℕ) → p b ≡ true → q b ≡ true) → (xs : List ℕ) → list_all p xs ≡ true → list_all q xs ≡ true
list_all-implies p q h [] e = refl
list_all-implies p q h (b ∷ bs) e = let (one, others) = both (p b) (list_all p bs) e in rw (h b one) (list_all-implies p q h bs others)
