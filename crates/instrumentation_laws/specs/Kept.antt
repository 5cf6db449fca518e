-- Pieces that rely on a state: the facts that the laws ask of them. Tables are read and never written once they are built, and some
-- words of pieces count; what they hold is a value, given by the accesses made so far, and every piece keeps it.
use Rattle.std.specs.Prelude.{◌≡◌, ◌⊎◌, ℕ, suc, ◌+◌, ◌%◌, ◌^◌, ◌<◌, Bool, true, false, ◌&&◌, ◌==◌, nat_lt, if◌then◌else◌, List, [], ◌∷◌, ◌++◌, length, map, ℤ, Option, Some, None}
use Rattle.c_tree.specs.Plain.{Word, PlainExprs, PlainStmt}
use Rattle.c_tree.specs.Values.{Vars}
use Rattle.c_tree.specs.Arrays.{Memory, is_within, same_cell}
use Rattle.c_tree.specs.Accesses.{Access, Clean}
use Rattle.c_tree.specs.Accesses.Definition.{Initial, Written}
use Rattle.c_tree.specs.Fault.{Upset}
use Rattle.c_tree.specs.Instances.{Tagged, untagged}
use Rattle.c_tree.specs.Run.{State, End, index, Scope}
use Rattle.run_laws.specs.Logs.{accesses_in}
use Rattle.instrumentation.specs.Names.{count, use_total, definition_total}
use Rattle.instrumentation_laws.specs.OwnNames.{piece_word, AllMayLoop}
use Rattle.instrumentation_laws.specs.Pieces.{Piece, uses_in}
use Rattle.instrumentation_laws.specs.PrologueTotals.{coordinate_vars}
use Rattle.instrumentation_laws.specs.RunningTotals.{read_sum, written_sum, Follows}

-- what pieces keep between them
pub record Kept : Type 0 where
  pub entries : Word → List ℕ
  pub holds : Word → Bool
  pub counter : List Tagged → Word → ℕ

-- the state from which a piece runs, after these accesses
pub record Ready (kept : Kept) (so_far : List Tagged) (s : State) : Type 0 where
  pub entries : s.tables ≡ kept.entries
  pub counters : (x : Word) → kept.holds x ≡ true → s.words x ≡ kept.counter so_far x

-- the words are pieces', and no read changes what they should be
pub record IsKept (kept : Kept) : Type 0 where
  pub piece_words : (x : Word) → kept.holds x ≡ true → piece_word x ≡ true
  pub over_reads : (so_far : List Tagged) (t : Tagged) (x : Word) → t.access.writes ≡ false → kept.holds x ≡ true → kept.counter (so_far ++ t ∷ []) x ≡ kept.counter so_far x

-- from such a state the piece of assignment k counts the uses of the write that it makes, and counts that write
pub record Counts (kept : Kept) (sc : Scope) (whole : List Tagged) (k : ℕ) (p : List PlainStmt) (piece : Piece sc p) : Type 0 where
  pub tables : (vs : Vars) (s : State) → AllMayLoop vs → (piece.to vs s).tables ≡ s.tables
  pub counts : (pre rest : List Tagged) (t : Tagged) (s : State) → AllMayLoop t.vars → pre ++ t ∷ rest ≡ whole → t.site ≡ k → t.access.writes ≡ true → Ready kept pre s →
      (piece.to t.vars s).wides count ≡ uses_in whole (Written (length pre))
  pub keeps : (pre rest : List Tagged) (t : Tagged) (s : State) → AllMayLoop t.vars → pre ++ t ∷ rest ≡ whole → t.site ≡ k → t.access.writes ≡ true → Ready kept pre s →
      (x : Word) → kept.holds x ≡ true → (piece.to t.vars s).words x ≡ kept.counter (pre ++ t ∷ []) x

-- the piece of an array's cells counts the uses of the initial one whose coordinates the loops have, and changes none of these words
pub record CountsCells (kept : Kept) (sc : Scope) (whole : List Tagged) (vs : Vars) (extents : List ℤ) (a : ℕ) (p : List PlainStmt) (piece : Piece sc p) : Type 0 where
  pub tables : (vs : Vars) (s : State) → AllMayLoop vs → (piece.to vs s).tables ≡ s.tables
  pub counts : (cs : List ℤ) (s : State) → is_within cs extents ≡ true → Ready kept [] s → (piece.to (coordinate_vars 0 cs vs) s).wides count ≡ uses_in whole (Initial a cs)
  pub keeps : (vs : Vars) (s : State) (x : Word) → AllMayLoop vs → kept.holds x ≡ true → (piece.to vs s).words x ≡ s.words x

-- ---- the totals while a text runs

-- what is claimed of an access: its array and direction, and where the array is trusted its cell too
abbrev pub view : (ℕ → Bool) → Access → ℕ × Bool × List ℤ
view trusted x = (x.array, x.writes, if trusted x.array then x.cell else [])

abbrev pub views : (ℕ → Bool) → List Access → List (ℕ × Bool × List ℤ)
views trusted list = map (view trusted) list

-- the fault has come to this cell before access n
abbrev pub seen : Option Upset → ℕ → ℕ → List ℤ → Bool
seen None n p c = false
seen (Some f) n p c = nat_lt f.place n && ((f.array == p) && same_cell f.cell c)

-- arrays that keep what the inputs give them: the steady ones, none of which is written, where no read of one sees the fault; and arrays whose accesses are those of the source's list: the trusted ones, which are read through steady ones alone
pub record Trust : Type 0 where
  pub trusted : ℕ → Bool
  pub steady : ℕ → Bool

abbrev pub Unseen : Trust → Option Upset → List Tagged → Type 0
Unseen trust fault whole = (pre rest : List Tagged) (t : Tagged) → pre ++ t ∷ rest ≡ whole → trust.steady t.access.array ≡ true → seen fault (suc (length pre)) t.access.array t.access.cell ≡ false

-- and of the memory, in a state
pub record Steady (trust : Trust) (fault : Option Upset) (inputs : Memory) (s : State) : Type 0 where
  pub intact : (p : ℕ) (c : List ℤ) → trust.steady p ≡ true → seen fault (length s.accesses) p c ≡ false → s.memory p c ≡ inputs p c

pub record Totals (trust : Trust) (kept : Kept) (fault : Option Upset) (inputs : Memory) (extents : ℕ → List ℤ) (whole : List Tagged) (start : ℕ → ℕ) (so_far : List Tagged) (s : State) : Type 0 where
  pub begun : s.begun ≡ true
  pub made : views trust.trusted (accesses_in s.accesses) ≡ views trust.trusted (untagged so_far)
  pub used : (a : ℕ) → a < 2 ^ 64 → s.wides (use_total a) ≡ read_sum a s.accesses % 2 ^ 128
  pub defined : (a : ℕ) → a < 2 ^ 64 → s.wides (definition_total a) ≡ (start a + written_sum (λ n. uses_in whole (Written n)) a 0 s.accesses) % 2 ^ 128
  pub follows : Follows fault inputs extents s.accesses s.memory
  pub ready : Ready kept so_far s
  pub steady : Steady trust fault inputs s

-- how a text may end before its end: at a check of an array that isn't trusted, or where its source's list isn't clean
abbrev pub EndsEarly : Trust → (ℕ → List ℤ) → List Tagged → End → State → Type 0
EndsEarly trust extents whole e s = ((a : ℕ) × (e ≡ index a) × (trust.trusted a ≡ false)) ⊎ (Clean extents (untagged whole) → ⊥)

-- ---- all pieces of a text

pub record IsSitePiece (kept : Kept) (sc : Scope) (whole : List Tagged) (k : ℕ) (p : List PlainStmt) : Type 0 where
  pub piece : Piece sc p
  pub counts : Counts kept sc whole k p piece

pub record IsCellPiece (kept : Kept) (sc : Scope) (whole : List Tagged) (vs : Vars) (extents : List ℤ) (a : ℕ) (p : List PlainStmt) : Type 0 where
  pub piece : Piece sc p
  pub counts : CountsCells kept sc whole vs extents a p piece

-- those of the arrays from number a on
abbrev pub AreCellPieces : Kept → Scope → List Tagged → Vars → (ℕ → List ℤ) → (ℕ → PlainExprs → List PlainStmt) → ℕ → List (Word × PlainExprs) → Type 0
AreCellPieces kept sc whole vs extents cells a [] = Unit {0}
AreCellPieces kept sc whole vs extents cells a (x ∷ more) = IsCellPiece kept sc whole vs (extents a) a (cells a x.1) × AreCellPieces kept sc whole vs extents cells (suc a) more
