-- A whole text with irregular reads in its surroundings, and what it does under every fault, each law as one statement.
use Rattle.std.specs.Prelude.{◌≡◌, ◌≢◌, ◌↔◌, ◌⊎◌, ℕ, ◌^◌, ◌<◌, Bool, true, false, not, ◌&&◌, ◌==◌, List, [], length, ℤ, Option, Some, None}
use Rattle.c_tree.specs.Plain.{Word, PlainExprs, PlainStmt, PlainStmts}
use Rattle.c_tree.specs.Trees.{stmts_of}
use Rattle.c_tree.specs.Values.{Vars}
use Rattle.c_tree.specs.Arrays.{Array}
use Rattle.c_tree.specs.Accesses.{Access, at, Clean}
use Rattle.c_tree.specs.Fault.{Upset, Exposed}
use Rattle.c_tree.specs.Instances.{untagged}
use Rattle.c_tree.specs.Run.{State, Outcome, goes_on, ends, index, exec_all}
use Rattle.run_laws.specs.Logs.{accesses_in, values_in}
use Rattle.instrumentation.specs.Names.{use_total, definition_total}
use Rattle.instrumentation_laws.specs.OwnNames.{own, AllMayLoop}
use Rattle.instrumentation_laws.specs.RegularSources.{IsArray}
use Rattle.instrumentation_laws.specs.Pieces.{Declares}
use Rattle.instrumentation_laws.specs.PrologueTotals.{AreDeclared}
use Rattle.instrumentation_laws.specs.Setting.{text_after, scope_of, inspected_in, IsStart}
use Rattle.instrumentation_laws.specs.TextLaws.{EndsWith, WhereGoing, Balanced}
use Rattle.instrumentation.specs.Guarded.{extents_from}
use Rattle.instrumentation_laws.specs.Sources.{AreSource}
use Rattle.instrumentation_laws.specs.IndexedList.{tagged_all}
use Rattle.instrumentation_laws.specs.Kept.{Kept, Ready, IsKept, IsSitePiece, AreCellPieces}
use Rattle.instrumentation_laws.specs.Trusts.{TrustsAll}

-- what the tables leave: the state that pieces rely on, and all else as it was
pub record Prepared (kept : Kept) (s t : State) : Type 0 where
  pub begun : t.begun ≡ s.begun
  pub memory : t.memory ≡ s.memory
  pub accesses : t.accesses ≡ s.accesses
  pub wides : t.wides ≡ s.wides
  pub words : (x : Word) → own x ≡ true → t.words x ≡ s.words x
  pub ready : Ready kept [] t

abbrev pub GoesPrepared : Kept → State → Outcome (Unit {0}) → Type 0
GoesPrepared kept s (goes_on u t) = Prepared kept s t
GoesPrepared kept s (ends e t) = ⊥

-- a source with irregular reads, its arrays as they are declared, tables that are built from the state in which the text starts, and pieces that count from what these keep
pub record KeptSetting (arrays : List Array) (number : Word → ℕ) (wides : List Word) (fault : Option Upset) (vs : Vars) (extents : ℕ → List ℤ) (s : State) (decls : List (Word × PlainExprs)) (body : PlainStmts)
    (kept : Kept) (tables : List PlainStmt) (cells : ℕ → PlainExprs → List PlainStmt) (pieces : ℕ → List PlainStmt) : Type 0 where
  pub names : Declares arrays number wides
  pub vars : AllMayLoop vs
  pub declared : AreDeclared arrays number vs extents 0 decls
  pub sizes : (x : Word) (a : IsArray arrays number x) → a.array.1.extents ≡ extents a.array.0
  pub source : AreSource arrays number (extents_from decls) (inspected_in number body) body vs
  pub is_kept : IsKept kept
  pub tables_go : GoesPrepared kept s (exec_all (scope_of arrays wides fault) (stmts_of tables) vs s)
  pub pieces_count : (k : ℕ) → IsSitePiece kept (scope_of arrays wides fault) (tagged_all arrays s.memory number 0 body vs) k (pieces k)
  pub cells_count : AreCellPieces kept (scope_of arrays wides fault) (tagged_all arrays s.memory number 0 body vs) vs extents cells 0 decls

-- index arrays: every index cell is of one, no array is read through itself, and none is written
pub record HasIndexArrays (number : Word → ℕ) (is_index : ℕ → Bool) (list : List Access) (body : PlainStmts) : Type 0 where
  pub all : TrustsAll number (record { trusted = λ a. true; steady = is_index }) body
  pub apart : (a : ℕ) → TrustsAll number (record { trusted = λ b. b == a; steady = λ b. is_index b && not (b == a) }) body
  pub unwritten : (q : ℕ) → is_index (at list q).array ≡ true → (at list q).writes ≡ false

-- it goes on to its end and there this holds; or it ends at a check; or the list isn't clean
abbrev pub GoesOrIndex : Type 0 → (State → Type 0) → Outcome (Unit {0}) → Type 0
GoesOrIndex clean P (goes_on u t) = P t
GoesOrIndex clean P (ends e t) = ((a : ℕ) × (e ≡ index a)) ⊎ (clean → ⊥)

-- Under a fault in any array, where values are words, a run that goes on to its end tells of it by the totals of its array exactly where it is exposed
abbrev pub EveryFaultIsTold : Type 0
EveryFaultIsTold = (arrays : List Array) (number : Word → ℕ) (wides : List Word) (fault : Upset) (vs : Vars) (extents : ℕ → List ℤ) (decls : List (Word × PlainExprs)) (body : PlainStmts)
    (kept : Kept) (tables : List PlainStmt) (cells : ℕ → PlainExprs → List PlainStmt) (pieces : ℕ → List PlainStmt) (is_index : ℕ → Bool) (s : State) →
    KeptSetting arrays number wides (Some fault) vs extents s decls body kept tables cells pieces →
    HasIndexArrays number is_index (untagged (tagged_all arrays s.memory number 0 body vs)) body → IsStart s →
    fault.bit < 64 → length (untagged (tagged_all arrays s.memory number 0 body vs)) < 2 ^ 63 → ((a : ℕ) (c : List ℤ) → s.memory a c < 2 ^ 64) → fault.array < length decls → fault.array < 2 ^ 64 →
    GoesOrIndex (Clean extents (untagged (tagged_all arrays s.memory number 0 body vs)))
    (λ t. ((q : ℕ) → values_in t.accesses q < 2 ^ 64) → (t.wides (use_total fault.array) ≢ t.wides (definition_total fault.array)) ↔ Exposed (untagged (tagged_all arrays s.memory number 0 body vs)) fault)
    (exec_all (scope_of arrays wides (Some fault)) (stmts_of (text_after tables decls cells number pieces body)) vs s)

-- no fault, or one in no index array, or one that isn't exposed
abbrev pub IsQuiet : (ℕ → Bool) → List Access → Option Upset → Type 0
IsQuiet is_index list None = Unit {0}
IsQuiet is_index list (Some fault) = (is_index fault.array ≡ false) ⊎ (¬ Exposed list fault)

-- Then the run goes on to its end, with the accesses and totals of its source.
abbrev pub EveryQuietTextEnds : Type 0
EveryQuietTextEnds = (arrays : List Array) (number : Word → ℕ) (wides : List Word) (fault : Option Upset) (vs : Vars) (extents : ℕ → List ℤ) (decls : List (Word × PlainExprs)) (body : PlainStmts)
    (kept : Kept) (tables : List PlainStmt) (cells : ℕ → PlainExprs → List PlainStmt) (pieces : ℕ → List PlainStmt) (is_index : ℕ → Bool) (s : State) →
    KeptSetting arrays number wides fault vs extents s decls body kept tables cells pieces →
    HasIndexArrays number is_index (untagged (tagged_all arrays s.memory number 0 body vs)) body → IsStart s → IsQuiet is_index (untagged (tagged_all arrays s.memory number 0 body vs)) fault →
    WhereGoing (Clean extents (untagged (tagged_all arrays s.memory number 0 body vs)))
    (EndsWith fault s.memory extents (untagged (tagged_all arrays s.memory number 0 body vs)) (length decls))
    (exec_all (scope_of arrays wides fault) (stmts_of (text_after tables decls cells number pieces body)) vs s)

-- Where it isn't exposed, or is in no index array, the run goes on to its end and makes the source's list, and the totals of every other array agree
abbrev pub HiddenOrPlain : Type 0
HiddenOrPlain = (arrays : List Array) (number : Word → ℕ) (wides : List Word) (fault : Upset) (vs : Vars) (extents : ℕ → List ℤ) (decls : List (Word × PlainExprs)) (body : PlainStmts)
    (kept : Kept) (tables : List PlainStmt) (cells : ℕ → PlainExprs → List PlainStmt) (pieces : ℕ → List PlainStmt) (is_index : ℕ → Bool) (s : State) →
    KeptSetting arrays number wides (Some fault) vs extents s decls body kept tables cells pieces →
    HasIndexArrays number is_index (untagged (tagged_all arrays s.memory number 0 body vs)) body → IsStart s →
    (is_index fault.array ≡ false) ⊎ (Exposed (untagged (tagged_all arrays s.memory number 0 body vs)) fault → ⊥) →
    WhereGoing (Clean extents (untagged (tagged_all arrays s.memory number 0 body vs)))
    (λ t. (accesses_in t.accesses ≡ untagged (tagged_all arrays s.memory number 0 body vs)) × ((a : ℕ) → a < length decls → a < 2 ^ 64 → a ≢ fault.array → t.wides (use_total a) ≡ t.wides (definition_total a)))
    (exec_all (scope_of arrays wides (Some fault)) (stmts_of (text_after tables decls cells number pieces body)) vs s)

-- Without a fault the run goes on to its end, makes the source's list, and all totals agree
abbrev pub EveryKeptTextBalances : Type 0
EveryKeptTextBalances = (arrays : List Array) (number : Word → ℕ) (wides : List Word) (vs : Vars) (extents : ℕ → List ℤ) (decls : List (Word × PlainExprs)) (body : PlainStmts)
    (kept : Kept) (tables : List PlainStmt) (cells : ℕ → PlainExprs → List PlainStmt) (pieces : ℕ → List PlainStmt) (is_index : ℕ → Bool) (s : State) →
    KeptSetting arrays number wides None vs extents s decls body kept tables cells pieces →
    HasIndexArrays number is_index (untagged (tagged_all arrays s.memory number 0 body vs)) body → IsStart s →
    WhereGoing (Clean extents (untagged (tagged_all arrays s.memory number 0 body vs)))
    (λ t. (accesses_in t.accesses ≡ untagged (tagged_all arrays s.memory number 0 body vs)) × Balanced (length decls) t)
    (exec_all (scope_of arrays wides None) (stmts_of (text_after tables decls cells number pieces body)) vs s)
