-- The bit that is inverted is the bit of the run's fault.
use Rattle.std.proofs.Common.{◌≡◌, ℕ, zero, suc, ◌+◌, ◌%◌, ◌^◌, ◌<◌, ◌≤◌, List, [], ◌∷◌, length, ℤ, Option, Some, None, option_map, IfSome, refl, sym, ap, ◌∙◌, subst, arith}
use Rattle.std.specs.Prelude.{slice_get, slice_index, slice_set, bit_xor}
use Rattle.std.specs.List.{AllByRecursion}
use Rattle.c_tree.specs.Arrays.{Array, Memory, stored, all_cells, cell_count, extents_in, extents_at}
use Rattle.c_tree.specs.Fault.{Fault, Upset, altered, upset_at, upset_of}
use Rattle.interp.specs.declared.machine.Strike.{Strike}
use Rattle.interp.specs.Places.{Placed}
use Rattle.interp.specs.Shown.{IsStrike, Strikes, cells_from, places_from}
use Rattle.interp.specs.Started.{strike_in, strike_for}
use Rattle.cell_laws.proofs.Rows.{length-all_cells}
use Rattle.interp.proofs.StandsCells.{offset, placed_at, cell_read, cell_write, few_at, low_offset}

-- what stands at a place of a list
stands_at : {A : Type 0} (xs : List A) (i : ℕ) → i < length xs → (x : A) × (slice_get xs i ≡ Some x)
stands_at [] i h = absurd (omega arith)
stands_at (x ∷ xs) zero h = (x, refl)
stands_at (x ∷ xs) (suc i) h = stands_at xs i (omega arith)

-- a fault in a bit of a cell that one of these arrays has
pub record HasBit (arrays : List Array) (f : Fault) : Type 0 where
  pub array : f.array < length arrays
  pub cell : f.cell < cell_count (extents_at arrays f.array)

module _ (arrays : List Array) where
  -- the r-th cell of an array with its bit inverted
  one_inverted : (m : Memory) (k : ℕ) (a : Array) (cs : List ℤ) (r bit : ℕ) → slice_get arrays k ≡ Some a → slice_get (all_cells a.extents) r ≡ Some cs →
      cells_from (stored m k cs (altered bit (m k cs))) 0 arrays
      ≡ slice_set (cells_from m 0 arrays) (offset arrays k + r) (bit_xor (slice_index (cells_from m 0 arrays) (offset arrays k + r)) (altered bit 0))
  one_inverted m k a cs r bit e h =
      let first : 0 + k ≡ k = omega arith in
      ap (λ n. cells_from (stored m n cs (altered bit (m k cs))) 0 arrays) (sym first)
      ∙ cell_write m 0 arrays k a cs r (altered bit (m k cs)) e h
      ∙ ap (λ w. slice_set (cells_from m 0 arrays) (offset arrays k + r) (altered bit w)) (sym (cell_read m 0 arrays k a cs r e h ∙ ap (λ n. m n cs) first))

  module _ (few : AllByRecursion (λ (a : Array). cell_count a.extents ≤ 4194304) arrays) (some : length arrays < 2 ^ 31) where
    struck_at : (f : Fault) (a : Array) (cs : List ℤ) → slice_get arrays f.array ≡ Some a → slice_get (all_cells a.extents) f.cell ≡ Some cs → f.cell < cell_count a.extents →
        IfSome (strike_for (places_from 0 arrays) (Some f)) (λ k. k.place < 2 ^ 64) →
        Strikes arrays (upset_of arrays (Some f)) (strike_for (places_from 0 arrays) (Some f))
    struck_at f a cs e h below small =
        let upset : Upset = record { array = f.array; cell = cs; bit = f.bit; place = f.place } in
        let strike : Strike = record { cell = offset arrays f.array + f.cell; mask = altered f.bit 0; place = f.place } in
        let is_upset : upset_of arrays (Some f) ≡ Some upset =
        ap (λ (o : Option Array). upset_at f (slice_get (all_cells (extents_in o)) f.cell)) e ∙ ap (upset_at f) h in
        let lies : (0 + offset arrays f.array + f.cell) % 2 ^ 64 ≡ offset arrays f.array + f.cell =
        omega (arith, low_offset arrays f.array few some, few_at arrays f.array a few e) in
        let is_strike : strike_for (places_from 0 arrays) (Some f) ≡ Some strike =
        ap (option_map (λ (p : Placed). strike_in p f)) (placed_at 0 arrays f.array a e) ∙ ap (λ n. Some (record { cell = n; mask = altered f.bit 0; place = f.place })) lies in
        let both : IsStrike arrays upset strike = record { inverts = λ m. one_inverted m f.array a cs f.cell f.bit e h; place = refl; small = subst (λ (o : Option Strike). IfSome o (λ k. k.place < 2 ^ 64)) is_strike small } in
        subst (λ (o : Option Upset). Strikes arrays o (strike_for (places_from 0 arrays) (Some f))) (sym is_upset)
        (subst (λ (o : Option Strike). Strikes arrays (Some upset) o) (sym is_strike) both)

    pub strikes : (fault : Option Fault) → IfSome fault (HasBit arrays) → IfSome (strike_for (places_from 0 arrays) fault) (λ k. k.place < 2 ^ 64) →
        Strikes arrays (upset_of arrays fault) (strike_for (places_from 0 arrays) fault)
    strikes None has small = tt
    strikes (Some f) has small =
        let a = stands_at arrays f.array has.array in
        let below : f.cell < cell_count a.0.extents = subst (λ (o : Option Array). f.cell < cell_count (extents_in o)) a.1 has.cell in
        let cell = stands_at (all_cells a.0.extents) f.cell (omega (arith, length-all_cells a.0.extents)) in
        struck_at f a.0 cell.0 a.1 cell.1 below small
