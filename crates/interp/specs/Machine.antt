-- What a step of the interpreter may come to, and the steps that read and change its state.
use Rattle.std.specs.Prelude.{◌≡◌, ℕ, ◌+◌, ◌-◌, ◌^◌, min, true, ◌&&◌, if◌then◌else◌, nat_eq, nat_le, bit_xor, List, [], ◌∷◌, ◌++◌, replicate, ℤ, Option, Some, None, Result, Ok, Err, slice_get, slice_set, slice_index}
use Rattle.interp.specs.declared.machine.Machine.{Machine}
use Rattle.interp.specs.declared.machine.Strike.{Strike}
use Rattle.interp.specs.declared.stop.Stop.{Stop}
use Rattle.interp.specs.declared.stop.Stop.TheVariants as stop
use Rattle.interp.specs.Places.{Placed, place_of}
use Rattle.interp.specs.Tables.{table_at, with_entry_of}

-- a step goes on with a value, or stops
pub data Reached (A : Type 0) : Type 0 where
  went : A → Machine → Reached A
  stopped : Stop → Machine → Reached A

abbrev pub Act : Type 0 → Type 0
Act A = Machine → Reached A

abbrev pub after : {A B : Type 0} → Reached A → (A → Act B) → Reached B
after (went a m) f = f a m
after (stopped e m) f = stopped e m

infixl 10 ◌>>=◌
abbrev pub ◌>>=◌ : {A B : Type 0} → Act A → (A → Act B) → Act B
p >>= f = λ m. after (p m) f

infixl 10 ◌>>◌
abbrev pub ◌>>◌ : {A B : Type 0} → Act A → Act B → Act B
p >> q = p >>= (λ _. q)

abbrev pub give : {A : Type 0} → A → Act A
give a = λ m. went a m

abbrev pub done : Act (Unit {0})
done = give tt

abbrev pub stop_as : {A : Type 0} → Stop → Act A
stop_as e = λ m. stopped e m

abbrev pub changes : (Machine → Machine) → Act (Unit {0})
changes f = λ m. went tt (f m)

abbrev pub reads : {A : Type 0} → (Machine → A) → Act A
reads f = λ m. went (f m) m

-- What a function answered, and the state that it left, are those of a step, unless memory ran out.
abbrev pub Stops : {A : Type 0} → Stop → Machine → Reached A → Type 0
Stops stop.NoMemory m r = Unit {0}
Stops stop.Judged m r = r ≡ stopped stop.Judged m
Stops (stop.Index a) m r = r ≡ stopped (stop.Index a) m
Stops (stop.Outside a) m r = r ≡ stopped (stop.Outside a) m

abbrev pub Gives : {A B : Type 0} → (A → B) → Result A Stop → Machine → Reached B → Type 0
Gives view (Ok a) m r = r ≡ went (view a) m
Gives view (Err e) m r = Stops e m r

-- the same of a function that answers None where it stops, and tells why on the side
abbrev pub Tells : {A B : Type 0} → (A → B) → Option A → Stop → Machine → Reached B → Type 0
Tells view (Some a) e m r = r ≡ went (view a) m
Tells view None e m r = Stops e m r

-- ---- counters

-- a counter, which stays at its last value
abbrev pub counted : ℕ → ℕ
counted n = min n (2 ^ 128 - 1)

abbrev pub with_access : Machine → Machine
with_access m = record m { accesses = counted (m.accesses + 1) }

abbrev pub with_turn : Machine → Machine
with_turn m =
    if m.begun then record m { body_turns = counted (m.body_turns + 1) } else record m { prologue_turns = counted (m.prologue_turns + 1) }

-- an access is counted from `begin` on
abbrev pub counts_access : Machine → Machine
counts_access m = if m.begun then with_access m else m

-- ---- the bit that is inverted

-- cells with the bit inverted
abbrev pub inverted_in : Strike → List ℕ → List ℕ
inverted_in k ns = slice_set ns k.cell (bit_xor (slice_index ns k.cell) k.mask)

abbrev pub with_bit : Strike → Machine → Machine
with_bit k m = record m { cells = inverted_in k m.cells }

abbrev pub struck_by : Option Strike → Machine → Machine
struck_by None m = m
struck_by (Some k) m = if m.begun && nat_eq m.accesses k.place then with_bit k m else m

-- it is inverted immediately before the access with its number
abbrev pub struck : Machine → Machine
struck m = struck_by m.strike m

abbrev pub late_by : Option Strike → Machine → Machine
late_by None m = m
late_by (Some k) m = if m.begun && nat_le m.accesses k.place then with_bit k m else m

-- as a run ends it is inverted where no access of its number was made, and never before `begin`
abbrev pub struck_at_end : Machine → Machine
struck_at_end m = late_by m.strike m

-- ---- cells

abbrev pub with_cell : ℕ → ℕ → Machine → Machine
with_cell place n m = record m { cells = slice_set m.cells place n }

-- where a cell of the array of a number lies
abbrev pub found : ℕ → Option ℕ → Act ℕ
found a None = stop_as (stop.Outside a)
found a (Some place) = give place

abbrev pub found_in : ℕ → List ℤ → Option Placed → Act ℕ
found_in a cs None = give 0
found_in a cs (Some p) = found a (place_of p.base 0 p.extents cs)

abbrev pub finds : List Placed → ℕ → List ℤ → Act ℕ
finds ps a cs = found_in a cs (slice_get ps a)

abbrev pub loads : ℕ → Act ℕ
loads place = λ m. let t = struck m in went (slice_index t.cells place) (counts_access t)

abbrev pub stores : ℕ → ℕ → Act (Unit {0})
stores place n = changes (λ m. counts_access (with_cell place n (struck m)))

-- ---- words and wide values

abbrev pub with_word : ℕ → ℕ → Machine → Machine
with_word slot n m = record m { words = slice_set m.words slot n }

abbrev pub with_wide : ℕ → ℕ → Machine → Machine
with_wide slot n m = record m { wides = slice_set m.wides slot n }

abbrev pub with_begin : Machine → Machine
with_begin m = record m { begun = true }

abbrev pub set_word : ℕ → ℕ → Act (Unit {0})
set_word slot n = changes (with_word slot n)

abbrev pub set_wide : ℕ → ℕ → Act (Unit {0})
set_wide slot n = changes (with_wide slot n)

-- ---- tables

abbrev pub with_entry : ℕ → ℕ → ℕ → Machine → Machine
with_entry table i n m = record m { tables = with_entry_of table i n m.tables }

-- a table is made of so many zeros
abbrev pub with_table : ℕ → ℕ → Machine → Machine
with_table table n m = record m { tables = slice_set m.tables table (replicate n 0); made = m.made ++ n ∷ [] }

-- past a table's length an entry is 0
abbrev pub entry_of : ℕ → ℕ → Act ℕ
entry_of table i = reads (λ m. slice_index (table_at m.tables table) i)

abbrev pub set_entry : ℕ → ℕ → ℕ → Act (Unit {0})
set_entry table i n = changes (with_entry table i n)

abbrev pub make_table : ℕ → ℕ → Act (Unit {0})
make_table table n = changes (with_table table n)
