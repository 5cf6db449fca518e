-- The totals of an array over a list of accesses and the values that they read and write.
use Rattle.std.specs.Prelude.{ℤ, ℤ, pos, ◌+ℤ◌, ◌≡◌, ℕ, ◌+◌, ◌*◌, ◌%◌, ◌^◌, ◌<◌, Bool, false, not, ◌&&◌, ◌==◌, nat_le, if◌then◌else◌, List, [], ◌∷◌, length}
use Rattle.c_tree.specs.Accesses.{Access, at, Definition, last_writer, sum_below, uses, reads_from}
use Rattle.c_tree.specs.Accesses.Definition.{Initial, Written}
use Rattle.c_tree.specs.Arrays.{size_of}

-- the sum over all cells within extents
unfoldable pub sum_cells : List ℤ → (List ℤ → ℕ) → ℕ
sum_cells [] f = f []
sum_cells (e ∷ es) f = sum_below (λ i. sum_cells es (λ c. f (pos i ∷ c))) (size_of e)

-- the value of a definition: the input of the cell, or what the position writes
abbrev pub value_of : (ℕ → List ℤ → ℕ) → (ℕ → ℕ) → Definition → ℕ
value_of inputs values (Initial array cell) = inputs array cell
value_of inputs values (Written p) = values p

-- over the initial cells and the writes of the array, the value times the uses
unfoldable pub definition_sum : List Access → (ℕ → List ℤ) → (ℕ → List ℤ → ℕ) → (ℕ → ℕ) → ℕ → ℕ
definition_sum list extents inputs values array =
    sum_cells (extents array) (λ c. inputs array c * uses list (Initial array c)) +
    sum_below (λ p. if (at list p).writes && ((at list p).array == array) then values p * uses list (Written p) else 0) (length list)

-- the values of the reads of the array
unfoldable pub use_sum : List Access → (ℕ → ℕ) → ℕ → ℕ
use_sum list values array =
    sum_below (λ q. if not (at list q).writes && ((at list q).array == array) then values q else 0) (length list)

-- both totals, modulo 2^128
abbrev pub definition_total : List Access → (ℕ → List ℤ) → (ℕ → List ℤ → ℕ) → (ℕ → ℕ) → ℕ → ℕ
definition_total list extents inputs values array = definition_sum list extents inputs values array % 2 ^ 128

abbrev pub use_total : List Access → (ℕ → ℕ) → ℕ → ℕ
use_total list values array = use_sum list values array % 2 ^ 128

-- each read gives the value of its last writer
abbrev pub ReadsLastWriter : List Access → (ℕ → List ℤ → ℕ) → (ℕ → ℕ) → Type 0
ReadsLastWriter list inputs values =
    (q : ℕ) → q < length list → (at list q).writes ≡ false → values q ≡ value_of inputs values (last_writer list q)

-- position q is a read of this definition at a place or later
abbrev pub reads_after : List Access → Definition → ℕ → ℕ → Bool
reads_after list d place q = nat_le place q && reads_from list d q

-- how many reads of the array there are of this definition at the place or later
unfoldable pub uses_after : List Access → Definition → ℕ → ℕ → ℕ
uses_after list d place array =
    sum_below (λ q. if reads_after list d place q && ((at list q).array == array) then 1 else 0) (length list)

-- each read of definition d at the place or later gives this other value, and each other read that of its last writer
abbrev pub ReadsButAfter : List Access → (ℕ → List ℤ → ℕ) → (ℕ → ℕ) → Definition → ℕ → ℕ → Type 0
ReadsButAfter list inputs values d place other =
    (q : ℕ) → q < length list → (at list q).writes ≡ false →
    values q ≡ (if reads_after list d place q then other else value_of inputs values (last_writer list q))

-- each read of definition d at the place or later differs by this from the value of d, and each other read gives the value of its last writer
abbrev pub ReadsDifferAfter : List Access → (ℕ → List ℤ → ℕ) → (ℕ → ℕ) → Definition → ℕ → ℤ → Type 0
ReadsDifferAfter list inputs values d place difference =
    (q : ℕ) → q < length list → (at list q).writes ≡ false →
    pos (values q) ≡ pos (value_of inputs values (last_writer list q)) +ℤ (if reads_after list d place q then difference else pos 0)

-- two whole numbers differ by a multiple of m
abbrev pub SameModulo : ℕ → ℤ → ℤ → Type 0
SameModulo m x y = (i : ℕ) × (j : ℕ) × (x +ℤ pos (i * m) ≡ y +ℤ pos (j * m))
