-- What a counting pass leaves: it goes on, and sets its two words and the count alone.
use Rattle.std.specs.Prelude.{◌≡◌, ℕ, ◌+◌, true, false, if◌then◌else◌, List, bytes_eq}
use Rattle.std.specs.List.{list_any}
use Rattle.c_tree.specs.Plain.{Word}
use Rattle.c_tree.specs.Run.{State, Outcome, goes_on, ends}
use Rattle.instrumentation.specs.Names.{count, active, counter}

-- the run goes on to such a state
abbrev pub GoesTo : (State → Type 0) → Outcome (Unit {0}) → Type 0
GoesTo P (goes_on u s) = P s
GoesTo P (ends e s) = ⊥

-- where the run goes on, it is to such a state
abbrev pub WhereGoing : {A : Type 0} → (State → Type 0) → Outcome A → Type 0
WhereGoing P (goes_on a s) = P s
WhereGoing P (ends e s) = Unit {0}

-- the count is a wide name of the text, and a pass's two words aren't
pub record HasCounters (wides : List Word) : Type 0 where
  pub count_wide : list_any (bytes_eq count) wides ≡ true
  pub active_word : list_any (bytes_eq active) wides ≡ false
  pub counter_word : list_any (bytes_eq counter) wides ≡ false

-- no access is made, and nothing but these words, the count and the numbers of turns is changed
pub record Leaves (s t : State) : Type 0 where
  pub memory : t.memory ≡ s.memory
  pub accesses : t.accesses ≡ s.accesses
  pub begun : t.begun ≡ s.begun
  pub tables : t.tables ≡ s.tables
  pub made : t.made ≡ s.made
  pub words : (x : Word) → bytes_eq active x ≡ false → bytes_eq counter x ≡ false → t.words x ≡ s.words x
  pub wides : (x : Word) → bytes_eq count x ≡ false → t.wides x ≡ s.wides x

-- so many turns are made, all before the text has begun or all after it
pub record Turned (n : ℕ) (s t : State) : Type 0 where
  pub body : t.body_turns ≡ s.body_turns + (if s.begun then n else 0)
  pub prologue : t.prologue_turns ≡ s.prologue_turns + (if s.begun then 0 else n)

-- so many turns, and the text has begun as before
pub record Makes (n : ℕ) (s t : State) : Type 0 where
  pub begun : t.begun ≡ s.begun
  pub turned : Turned n s t
