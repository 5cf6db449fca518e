-- The laws of a source's run, each as one statement.
use Rattle.std.specs.Prelude.{◌≡◌, ◌≤ℤ◌, true, List, ◌++◌, length, ℤ, None}
use Rattle.c_tree.specs.Plain.{PlainStmts, PlainUnit}
use Rattle.c_tree.specs.Values.{Vars, loop_values}
use Rattle.c_tree.specs.Arrays.{Array, Memory, words_from, extents_at, vars_of}
use Rattle.c_tree.specs.Accesses.{Clean}
use Rattle.c_tree.specs.Instances.{Store, untagged, core_of, instances_all, applied, accesses, source_output}
use Rattle.c_tree.specs.Inputs.{PlainInputs, arrays_for, memory_for, IsClean}
use Rattle.c_tree.specs.Run.{Event, State, Outcome, goes_on, Run, ◌>>◌, Scope, over, exec_all, plain, Ended, run}
use Rattle.c_tree.specs.declared.expr.Rel.TheVariants.{Lt}
use Rattle.balance_laws.specs.Replay.{Replays, left_after}
use Rattle.balance_laws.specs.Totals.{ReadsLastWriter}
use Rattle.run_laws.specs.Logs.{accesses_in, values_in}
use Rattle.run_laws.specs.Sources.{AreSource}

-- memory and scalars of a state
abbrev pub store_of : State → Store
store_of s = record { memory = s.memory; words = s.words }

-- A run of a body that goes on: memory and scalars are what the instances make of them, the accesses are those of the
-- instances, behind the ones before, each read gives the word that was stored last in its cell, and the memory is what the
-- logged writes leave.
pub record GoesThrough (arrays : List Array) (m : Memory) (body : PlainStmts) (vs : Vars) (s : State) (o : Outcome (Unit {0})) : Type 0 where
  pub to : State
  pub goes : o ≡ goes_on tt to
  pub begun : to.begun ≡ true
  pub store : store_of to ≡ applied arrays (store_of s) (instances_all 0 body vs)
  pub events : List Event
  pub log : to.accesses ≡ s.accesses ++ events
  pub made : accesses_in events ≡ untagged (core_of arrays m body vs)
  pub replays : Replays (accesses_in events) (values_in events) None s.memory
  pub left : left_after (accesses_in events) (values_in events) None s.memory (length events) ≡ to.memory

-- from every state of a source's run without a fault, where every access of the instances lies within its array
abbrev pub SourcesFollow : Type 0
SourcesFollow = (sc : Scope) (m : Memory) (body : PlainStmts) (vs : Vars) (s : State) →
    sc.fault ≡ None → s.begun ≡ true → AreSource sc.arrays sc.wides body vs →
    Clean (extents_at sc.arrays) (untagged (core_of sc.arrays m body vs)) →
    GoesThrough sc.arrays m body vs s (exec_all sc body vs s)

-- A whole run: plain, with the accesses and the output of the source, each read gives the value of its last writer, and
-- the output is what the logged writes leave.
pub record RunsThrough (u : PlainUnit) (i : PlainInputs) (r : Ended) : Type 0 where
  pub verdict : r.verdict ≡ plain
  pub made : accesses_in r.accesses ≡ accesses u i.ints (memory_for u i)
  pub arrays : r.arrays ≡ words_from (source_output u i.ints (memory_for u i)) 0 (arrays_for u i.ints)
  pub reads : ReadsLastWriter (accesses u i.ints (memory_for u i)) (memory_for u i) (values_in r.accesses)
  pub left : left_after (accesses u i.ints (memory_for u i)) (values_in r.accesses) None (memory_for u i) (length r.accesses) ≡ source_output u i.ints (memory_for u i)

abbrev pub IsSourceFor : PlainUnit → List ℤ → Type 0
IsSourceFor u ns = (u.version ≡ None) × AreSource (arrays_for u ns) u.wides u.body (vars_of u.params ns)

abbrev pub UnitsFollow : Type 0
UnitsFollow = (u : PlainUnit) (i : PlainInputs) → IsSourceFor u i.ints → IsClean u i → RunsThrough u i (run u i None)

-- ---- loops

-- from every state and for every body, a loop over the values from lo on and below hi is the loop over those below mid
-- and then the loop over those from mid on
abbrev pub LoopsInPieces : Type 0
LoopsInPieces = (f : ℤ → Run (Unit {0})) (lo mid hi : ℤ) (s : State) → lo ≤ℤ mid → mid ≤ℤ hi →
    over f (loop_values lo Lt hi) s ≡ (over f (loop_values lo Lt mid) >> over f (loop_values mid Lt hi)) s
