-- The laws of a body's run and of a whole run, from what the instances do.
use Rattle.std.proofs.Common.{◌≡◌, ℕ, true, not, List, length, Option, None, refl, sym, ap, ◌∙◌, subst}
use Rattle.std.proofs.lemmas.List.{append-nil}
use Rattle.c_tree.specs.Plain.{PlainStmts, PlainUnit}
use Rattle.c_tree.specs.Values.{Vars}
use Rattle.c_tree.specs.Arrays.{Array, Memory, words_from, extents_at, vars_of}
use Rattle.c_tree.specs.Accesses.{Access, Clean}
use Rattle.c_tree.specs.Fault.{Upset}
use Rattle.c_tree.specs.Instances.{Store, untagged, core_of, core, instances_all, accesses}
use Rattle.c_tree.specs.Inputs.{PlainInputs, arrays_for, memory_for, IsClean}
use Rattle.c_tree.specs.Run.{Event, State, Outcome, Scope, exec_all, run, result, started, is_printed}
use Rattle.balance_laws.specs.Replay.{left_after}
use Rattle.balance_laws.specs.Totals.{ReadsLastWriter}
use Rattle.balance_laws.proofs.Replayed.{plain_reads}
use Rattle.run_laws.specs.Logs.{accesses_in, values_in}
use Rattle.run_laws.specs.Sources.{AreSource}
use Rattle.run_laws.specs.Laws.{GoesThrough, RunsThrough, IsSourceFor}
use Rattle.run_laws.proofs.Replayed as replayed
use Rattle.run_laws.proofs.Within.{AllWithin, all_within, untagged_is}
use Rattle.run_laws.proofs.Follows as follows

-- without a fault, by arrays and wide names
goes : (arrays : List Array) (m : Memory) (sc : Scope) (body : PlainStmts) (vs : Vars) (s : State) → sc ≡ follows.sc sc.arrays sc.wides m → s.begun ≡ true →
    AreSource sc.arrays sc.wides body vs → Clean (extents_at sc.arrays) (untagged (core_of sc.arrays m body vs)) → GoesThrough sc.arrays m body vs s (exec_all sc body vs s)
goes arrays m sc body vs s same begun source clean =
    let flat = untagged_is sc.arrays m (instances_all 0 body vs) in
    let within = subst (λ (l : List Access). AllWithin sc.arrays l) flat (all_within sc.arrays (untagged (core_of sc.arrays m body vs)) clean) in
    let d = follows.exec_all_does sc.arrays sc.wides m body 0 vs s begun source within in
    record {
      to = d.to;
      goes = ap (λ (x : Scope). exec_all x body vs s) same ∙ d.is;
      begun = d.begun;
      store = d.store_is;
      events = d.events;
      log = d.log;
      made = d.made ∙ sym flat;
      replays = replayed.replays s.memory d.events d.replays;
      left = replayed.left_by_positions s.memory d.events ∙ d.left_is;
    }

pub goes_through : (sc : Scope) (m : Memory) (body : PlainStmts) (vs : Vars) (s : State) → sc.fault ≡ None → s.begun ≡ true →
    AreSource sc.arrays sc.wides body vs → Clean (extents_at sc.arrays) (untagged (core_of sc.arrays m body vs)) → GoesThrough sc.arrays m body vs s (exec_all sc body vs s)
goes_through sc m body vs s calm begun source clean =
    goes sc.arrays m sc body vs s (ap (λ (f : Option Upset). let x : Scope = record { arrays = sc.arrays; wides = sc.wides; fault = f } in x) calm) begun source clean

pub runs_through : (u : PlainUnit) (i : PlainInputs) → IsSourceFor u i.ints → IsClean u i → RunsThrough u i (run u i None)
runs_through u i source clean =
    let arrays : List Array = arrays_for u i.ints in
    let m : Memory = memory_for u i in
    let vs : Vars = vars_of u.params i.ints in
    let sc : Scope = record { arrays = arrays; wides = u.wides; fault = None } in
    let g = goes_through sc m u.body vs (started u m) refl (ap (λ (v : Option ℕ). not (is_printed v)) source.0) source.1 clean in
    let ended = λ (o : Outcome (Unit {0})). result (is_printed u.version) sc o in
    let log : (run u i None).accesses ≡ g.events = ap (λ (o : Outcome (Unit {0})). (ended o).accesses) g.goes ∙ g.log in
    let whole : accesses_in g.events ≡ accesses u i.ints m = g.made ∙ sym (append-nil (core u i.ints m)) in
    record {
      verdict = ap (λ (o : Outcome (Unit {0})). (ended o).verdict) g.goes;
      made = ap accesses_in log ∙ whole;
      arrays = ap (λ (o : Outcome (Unit {0})). (ended o).arrays) g.goes ∙ ap (λ (t : Store). words_from t.memory 0 arrays) g.store;
      reads = subst (λ (l : List Event). ReadsLastWriter (accesses u i.ints m) m (values_in l)) (sym log)
          (subst (λ (l : List Access). ReadsLastWriter l m (values_in g.events)) whole (plain_reads (accesses_in g.events) (values_in g.events) m g.replays));
      left = ap (λ (l : List Event). left_after (accesses u i.ints m) (values_in l) None m (length l)) log
          ∙ ap (λ (l : List Access). left_after l (values_in g.events) None m (length g.events)) (sym whole) ∙ g.left ∙ ap (λ (t : Store). t.memory) g.store;
    }
