-- The definition of a cell that stands before a position.
use Rattle.std.proofs.Common.{ℤ, ◌≡◌, ◌≢◌, ℕ, zero, suc, ◌<◌, Bool, true, false, ◌&&◌, List, refl, ap, arith, inl, inr, eq-eqb}
use Rattle.std.proofs.lemmas.Bool.{cases_Bool, and_parts, and_from, eqb-true, cond-true, cond-false, false≢true}
use Rattle.c_tree.specs.Accesses.{Access, at, is_of, Definition, same_definition, latest}
use Rattle.c_tree.specs.Accesses.Definition.{Initial, Written}
use Rattle.cell_laws.proofs.SameCell.{same_cell_refl, same_cell-true}

-- an access is of a cell exactly where it has its array and coordinates
pub is_of-true : (x : Access) (a : ℕ) (c : List ℤ) → is_of x a c ≡ true → (x.array ≡ a) × (x.cell ≡ c)
is_of-true x a c h = let p = and_parts _ _ h in (eqb-true _ _ p.0, same_cell-true _ _ p.1)

pub is_of_refl : (x : Access) → is_of x x.array x.cell ≡ true
is_of_refl x = and_from _ _ (eq-eqb x.array x.array refl) (same_cell_refl x.cell)

pub same_definition-true : (d e : Definition) → same_definition d e ≡ true → d ≡ e
same_definition-true (Initial a c) (Initial b d) h =
    let p = and_parts _ _ h in
    let x = eqb-true a b p.0 in
    let y = same_cell-true c d p.1 in
    cc
same_definition-true (Written p) (Written q) h = ap Written (eqb-true p q h)
same_definition-true (Initial a c) (Written q) h = absurd (false≢true h)
same_definition-true (Written p) (Initial b d) h = absurd (false≢true h)

pub same_definition_refl : (d : Definition) → same_definition d d ≡ true
same_definition_refl (Initial a c) = and_from _ _ (eq-eqb a a refl) (same_cell_refl c)
same_definition_refl (Written p) = eq-eqb p p refl

-- position p writes a cell
abbrev pub writes_at : List Access → ℕ → ℕ → List ℤ → Bool
writes_at list p a c = (at list p).writes && is_of (at list p) a c

pub latest_start : (list : List Access) (a : ℕ) (c : List ℤ) → latest list a c 0 ≡ Initial a c
unfolding latest
latest_start list a c = refl

pub latest_written : (list : List Access) (a : ℕ) (c : List ℤ) (p : ℕ) → writes_at list p a c ≡ true → latest list a c (suc p) ≡ Written p
unfolding latest
latest_written list a c p h = cond-true _ _ _ h

pub latest_kept : (list : List Access) (a : ℕ) (c : List ℤ) (p : ℕ) → writes_at list p a c ≡ false → latest list a c (suc p) ≡ latest list a c p
unfolding latest
latest_kept list a c p h = cond-false _ _ _ h

-- it is Initial, or a write of the cell below
pub data IsLatest (list : List Access) (a : ℕ) (c : List ℤ) (q : ℕ) (d : Definition) : Type 0 where
  at_first : d ≡ Initial a c → IsLatest list a c q d
  by_write : (p : ℕ) → p < q → writes_at list p a c ≡ true → d ≡ Written p → IsLatest list a c q d

pub IsLatest_more : (list : List Access) (a : ℕ) (c : List ℤ) (q : ℕ) (d : Definition) → IsLatest list a c q d → IsLatest list a c (suc q) d
IsLatest_more list a c q d (at_first e) = at_first e
IsLatest_more list a c q d (by_write p l w e) = by_write p (omega arith) w e

pub latest_is : (list : List Access) (a : ℕ) (c : List ℤ) (q : ℕ) → IsLatest list a c q (latest list a c q)
latest_is list a c zero = at_first (latest_start list a c)
latest_is list a c (suc q) =
    elim (cases_Bool (writes_at list q a c)) [
      | inl w ↦ by_write q (omega arith) w (latest_written list a c q w)
      | inr n ↦ rw (latest_kept list a c q n) (IsLatest_more list a c q _ (latest_is list a c q))
    ]
