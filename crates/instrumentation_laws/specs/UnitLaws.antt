-- What the run of a whole instrumented unit gives, beside that of its source, each law as one statement.
use Rattle.std.specs.Prelude.{◌≡◌, ◌⊎◌, ℕ, Bool, suc, true, false, if◌then◌else◌, nat_eq, List, [], ◌∷◌, ◌++◌, ℤ, Option, None}
use Rattle.c_tree.specs.Plain.{Word, PlainExprs, PlainStmt, begin, verdict, PlainUnit}
use Rattle.c_tree.specs.Trees.{stmts_of}
use Rattle.c_tree.specs.Arrays.{Array, Memory, extents_at, vars_of}
use Rattle.c_tree.specs.Accesses.{Access, Clean}
use Rattle.c_tree.specs.Fault.{Upset}
use Rattle.c_tree.specs.Instances.{core, literal_of}
use Rattle.c_tree.specs.Inputs.{arrays_for}
use Rattle.c_tree.specs.Run.{End, plain, outside, index, judged, Ended, is_printed, started, exec_all, run_from}
use Rattle.balance_laws.specs.Totals as totals
use Rattle.instrumentation.specs.Body.{instrument_all}
use Rattle.instrumentation.specs.Guarded.{extents_from}
use Rattle.instrumentation.specs.Prologue.{prologue_text}
use Rattle.instrumentation_laws.specs.OwnNames.{own}
use Rattle.instrumentation_laws.specs.Setting.{scope_of, inspected_in, GoesUntouched, GoingSetting}

-- t is an instrumented unit of the source u: its parameters and scalars, the tables, the prologue, the instrumented body and the verdict
pub record IsInstrumented (u t : PlainUnit) (number : Word → ℕ) (decls : List (Word × PlainExprs)) (tables : List PlainStmt) (cells : ℕ → PlainExprs → List PlainStmt) (pieces : ℕ → List PlainStmt) : Type 0 where
  pub source : u.version ≡ None
  pub no_wides : u.wides ≡ []
  pub printed : is_printed t.version ≡ true
  pub params : t.params ≡ u.params
  pub words : (x : Word) → own x ≡ true → literal_of t.words x ≡ literal_of u.words x
  pub body : t.body ≡ stmts_of (tables ++ (prologue_text cells 0 decls ++ (begin ∷ (instrument_all number (extents_from decls) pieces 0 u.body ++ verdict ∷ []))))

-- and for these parameters, from this memory and under this fault its tables can be built and its pieces go on,
pub record IsGoing (u t : PlainUnit) (ns : List ℤ) (m : Memory) (fault : Option Upset) (number : Word → ℕ) (decls : List (Word × PlainExprs)) (tables : List PlainStmt) (cells : ℕ → PlainExprs → List PlainStmt) (pieces : ℕ → List PlainStmt) : Type 0 where
  pub text : IsInstrumented u t number decls tables cells pieces
  pub tables_go : GoesUntouched (started t m) (exec_all (scope_of (arrays_for u ns) t.wides fault) (stmts_of tables) (vars_of u.params ns) (started t m))
  pub setting : GoingSetting (arrays_for u ns) number t.wides fault (vars_of u.params ns) (extents_at (arrays_for u ns)) decls u.body cells pieces

-- every access of the source lies within its extents
abbrev pub StaysWithin : PlainUnit → List ℤ → Memory → Type 0
StaysWithin u ns m = Clean (extents_at (arrays_for u ns)) (core u ns m)

-- ---- beside the source's run, under every fault and within extents or not

-- the arrays whose totals differ
abbrev pub differing : ℕ → List (ℕ × ℕ) → List ℕ
differing k [] = []
differing k (pair ∷ more) = if nat_eq pair.0 pair.1 then differing (suc k) more else k ∷ differing (suc k) more

-- where the source ends plain, the totals decide
abbrev pub verdict_after : End → List (ℕ × ℕ) → End
verdict_after plain pairs = judged (differing 0 pairs)
verdict_after e pairs = e

-- and where it ends outside an array, the text ends so or, where this is inspected, at a check of an index of it
abbrev pub EndsBeside : (ℕ → Bool) → End → List (ℕ × ℕ) → End → Type 0
EndsBeside inspected plain pairs e = e ≡ judged (differing 0 pairs)
EndsBeside inspected (outside a) pairs e = (e ≡ outside a) ⊎ ((e ≡ index a) × (inspected a ≡ true))
EndsBeside inspected other pairs e = ⊥

pub record RunsBeside (inspected : ℕ → Bool) (source text : Ended) : Type 0 where
  pub accesses : text.accesses ≡ source.accesses
  pub arrays : text.arrays ≡ source.arrays
  pub verdict : EndsBeside inspected source.verdict text.totals text.verdict

-- Under every fault the unit makes its source's accesses with the same values, leaves its arrays, and ends as it does or at a check.
abbrev pub EveryUnitFollows : Type 0
EveryUnitFollows = (u t : PlainUnit) (ns : List ℤ) (m : Memory) (fault : Option Upset) (number : Word → ℕ) (decls : List (Word × PlainExprs)) (tables : List PlainStmt) (cells : ℕ → PlainExprs → List PlainStmt) (pieces : ℕ → List PlainStmt) →
    IsGoing u t ns m fault number decls tables cells pieces → RunsBeside (inspected_in number u.body) (run_from u ns m fault) (run_from t ns m fault)

pub record RunsAlike (source text : Ended) : Type 0 where
  pub accesses : text.accesses ≡ source.accesses
  pub arrays : text.arrays ≡ source.arrays
  pub verdict : text.verdict ≡ verdict_after source.verdict text.totals

-- Where no array is inspected, it ends as its source does.
abbrev pub EveryRegularUnitFollows : Type 0
EveryRegularUnitFollows = (u t : PlainUnit) (ns : List ℤ) (m : Memory) (fault : Option Upset) (number : Word → ℕ) (decls : List (Word × PlainExprs)) (tables : List PlainStmt) (cells : ℕ → PlainExprs → List PlainStmt) (pieces : ℕ → List PlainStmt) →
    IsGoing u t ns m fault number decls tables cells pieces → ((a : ℕ) → inspected_in number u.body a ≡ false) → RunsAlike (run_from u ns m fault) (run_from t ns m fault)

-- both end outside the same array
pub record EndOutside (source text : Ended) : Type 0 where
  pub array : ℕ
  pub source_ends : source.verdict ≡ outside array
  pub text_ends : text.verdict ≡ outside array

-- ---- within extents, under every fault

-- both totals of each array, from number k on
abbrev pub totals_over : List Access → (ℕ → List ℤ) → Memory → (ℕ → ℕ) → ℕ → List Array → List (ℕ × ℕ)
totals_over list extents inputs values k [] = []
totals_over list extents inputs values k (a ∷ more) =
    (totals.definition_total list extents inputs values k, totals.use_total list values k) ∷ totals_over list extents inputs values (suc k) more
