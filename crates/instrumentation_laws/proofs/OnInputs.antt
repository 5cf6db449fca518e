-- The laws of a unit's run at the inputs that it is given.
use Rattle.std.proofs.Common.{◌≡◌, ℕ, zero, suc, ◌^◌, ◌<◌, List, [], ◌∷◌, sym, ap, arith, ℤ, Option, Some, None}
use Rattle.std.specs.Prelude.{slice_get, slice_index}
use Rattle.std.specs.List.{AllByRecursion}
use Rattle.c_tree.specs.Plain.{PlainParam, PlainUnit}
use Rattle.c_tree.specs.Arrays.{Array, memory_of, extents_at, all_cells, index_of, row_in, arrays_of, vars_of}
use Rattle.c_tree.specs.Fault.{Fault, Upset, upset_at, upset_of}
use Rattle.c_tree.specs.Inputs.{PlainInputs, HaveCells, arrays_for, memory_for, IsSound}
use Rattle.c_tree.specs.Run.{run_from, run}

-- ---- inputs that fit are words

row_fits : (ns : List ℕ) (q : ℕ) → AllByRecursion (λ n. n < 2 ^ 64) ns → slice_index ns q < 2 ^ 64
row_fits [] q h = omega arith
row_fits (n ∷ ns) zero h = h.0
row_fits (n ∷ ns) (suc q) h = row_fits ns q h.1

rows_fit : (arrays : List Array) (cells : List (List ℕ)) (a q : ℕ) → HaveCells arrays cells → slice_index (row_in (slice_get cells a)) q < 2 ^ 64
rows_fit [] [] a q h = omega arith
rows_fit [] (row ∷ cells) a q h = absurd h
rows_fit (x ∷ arrays) [] a q h = absurd h
rows_fit (x ∷ arrays) (row ∷ cells) zero q h = row_fits row q h.0.small
rows_fit (x ∷ arrays) (row ∷ cells) (suc a) q h = rows_fit arrays cells a q h.1

pub memory_fits : (u : PlainUnit) (i : PlainInputs) → IsSound u i → (a : ℕ) (c : List ℤ) → memory_for u i a c < 2 ^ 64
memory_fits u i sound a c = rows_fit (arrays_for u i.ints) i.cells a (index_of (all_cells (extents_at (arrays_for u i.ints) a)) c) sound.fit.cells

-- ---- a fault by its row-major cell

pub array_at : (f : Fault) (cell : Option (List ℤ)) (x : Upset) → upset_at f cell ≡ Some x → (x.array ≡ f.array) × (x.bit ≡ f.bit)
array_at f None x e = absurd (let g : None ≡ Some x = e in cc)
array_at f (Some c) x e =
    let y : Upset = record { array = f.array; cell = c; bit = f.bit; place = f.place } in
    let g : y ≡ x = (let h : Some y ≡ Some x = e in cc) in
    (ap (λ (z : Upset). z.array) (sym g), ap (λ (z : Upset). z.bit) (sym g))

-- ---- the runs

-- the unit's arrays and memory are its source's
pub run_is : (u t : PlainUnit) (i : PlainInputs) (f : Option Fault) → t.params ≡ u.params → run t i f ≡ run_from t i.ints (memory_for u i) (upset_of (arrays_for u i.ints) f)
run_is u t i f e = ap (λ (ps : List PlainParam). run_from t i.ints (memory_of (arrays_of (vars_of ps i.ints) ps) i.cells) (upset_of (arrays_of (vars_of ps i.ints) ps) f)) e
