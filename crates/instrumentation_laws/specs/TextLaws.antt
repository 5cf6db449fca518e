-- What an instrumented text does, each law as one statement over every setting.
use Rattle.std.specs.Prelude.{◌≡◌, ◌⊎◌, ℕ, Bool, ◌^◌, ◌<◌, true, List, [], length, ℤ, Option}
use Rattle.c_tree.specs.Plain.{Word, PlainExprs, PlainStmt, PlainStmts}
use Rattle.c_tree.specs.Trees.{stmts_of}
use Rattle.c_tree.specs.Values.{Vars}
use Rattle.c_tree.specs.Arrays.{Array, Memory}
use Rattle.c_tree.specs.Accesses.{Access, Clean}
use Rattle.c_tree.specs.Fault.{Upset}
use Rattle.c_tree.specs.Run.{State, Outcome, goes_on, ends, outside, index, exec_all}
use Rattle.balance_laws.specs.Totals as totals
use Rattle.balance_laws.specs.Replay.{left_after, Replays}
use Rattle.run_laws.specs.Logs.{accesses_in, values_in}
use Rattle.instrumentation.specs.Names.{use_total, definition_total}
use Rattle.instrumentation_laws.specs.OwnNames.{own}
use Rattle.instrumentation_laws.specs.Setting.{text_after, scope_of, inspected_in, GoesUntouched, GoingSetting, IsStart}

-- where a text goes on to its end: its accesses are the source's list and lie within their extents, their values follow the memory, which they leave as it is, and the totals are those of the list and these values
pub record EndsWith (fault : Option Upset) (inputs : Memory) (extents : ℕ → List ℤ) (list : List Access) (n : ℕ) (t : State) : Type 0 where
  pub made : accesses_in t.accesses ≡ list
  pub clean : Clean extents list
  pub replays : Replays list (values_in t.accesses) fault inputs
  pub memory : t.memory ≡ left_after list (values_in t.accesses) fault inputs (length list)
  pub used : (a : ℕ) → a < 2 ^ 64 → t.wides (use_total a) ≡ totals.use_total list (values_in t.accesses) a
  pub defined : (a : ℕ) → a < n → a < 2 ^ 64 → t.wides (definition_total a) ≡ totals.definition_total list extents inputs (values_in t.accesses) a

-- a text goes on to its end, and this holds, or its list isn't clean
abbrev pub WhereGoing : Type 0 → (State → Type 0) → Outcome (Unit {0}) → Type 0
WhereGoing clean P (goes_on u t) = P t
WhereGoing clean P (ends e t) = clean → ⊥

-- the totals of the arrays agree
abbrev pub Balanced : ℕ → State → Type 0
Balanced n t = (a : ℕ) → a < n → a < 2 ^ 64 → t.wides (use_total a) ≡ t.wides (definition_total a)

-- what a text shares with its source
pub record Same (s u : State) : Type 0 where
  pub begun : u.begun ≡ s.begun
  pub memory : u.memory ≡ s.memory
  pub accesses : u.accesses ≡ s.accesses
  pub words : (x : Word) → own x ≡ true → u.words x ≡ s.words x

-- Both go on, or the source ends outside an array and the text outside it or, where it is inspected, at a check of an index of it; with the same memory, the same accesses with the same values, and the same words of the source.
abbrev pub EndAlike : (ℕ → Bool) → Outcome (Unit {0}) → Outcome (Unit {0}) → Type 0
EndAlike inspected (goes_on a s) (goes_on b u) = Same s u
EndAlike inspected (ends e s) (ends f u) = ((a : ℕ) × (e ≡ outside a) × ((f ≡ outside a) ⊎ ((f ≡ index a) × (inspected a ≡ true)))) × Same s u
EndAlike inspected (goes_on a s) (ends f u) = ⊥
EndAlike inspected (ends e s) (goes_on b u) = ⊥

-- Under every fault a text whose tables can be built ends as its source does, irregular reads or not, from the same memory and the same words of the source.
abbrev pub EveryTextFollows : Type 0
EveryTextFollows = (arrays : List Array) (number : Word → ℕ) (wides : List Word) (fault : Option Upset) (vs : Vars) (extents : ℕ → List ℤ) (decls : List (Word × PlainExprs))
    (body : PlainStmts) (tables : List PlainStmt) (cells : ℕ → PlainExprs → List PlainStmt) (pieces : ℕ → List PlainStmt) (s u : State) →
    GoingSetting arrays number wides fault vs extents decls body cells pieces → IsStart u → GoesUntouched u (exec_all (scope_of arrays wides fault) (stmts_of tables) vs u) →
    s.begun ≡ true → s.accesses ≡ [] → u.memory ≡ s.memory → ((x : Word) → own x ≡ true → u.words x ≡ s.words x) →
    EndAlike (inspected_in number body) (exec_all (scope_of arrays [] fault) body vs s) (exec_all (scope_of arrays wides fault) (stmts_of (text_after tables decls cells number pieces body)) vs u)
