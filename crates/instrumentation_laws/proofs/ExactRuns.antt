-- The run of a source with index cells, from what its instances do.
use Rattle.std.proofs.Common.{◌≡◌, ℕ, not, List, length, Option, None, refl, sym, ap, ◌∙◌, subst}
use Rattle.std.proofs.lemmas.List.{append-nil}
use Rattle.c_tree.specs.Arrays.{Array, Memory, words_from, vars_of}
use Rattle.c_tree.specs.Accesses.{Access}
use Rattle.c_tree.specs.Instances.{Store, untagged, core_of, core, instances_all, accesses}
use Rattle.c_tree.specs.Inputs.{arrays_for, memory_for}
use Rattle.c_tree.specs.Run.{Event, Outcome, Scope, run, result, started, is_printed}
use Rattle.balance_laws.specs.Replay.{left_after}
use Rattle.balance_laws.specs.Totals.{ReadsLastWriter}
use Rattle.balance_laws.proofs.Replayed.{plain_reads}
use Rattle.run_laws.specs.Logs.{accesses_in, values_in}
use Rattle.run_laws.proofs.Replayed as replayed
use Rattle.run_laws.proofs.Within.{AllWithin, all_within, untagged_is}
use Rattle.c_tree.specs.Values.{Vars}
use Rattle.instrumentation_laws.specs.ExactSources.{ExactSourcesFollow}
use Rattle.instrumentation_laws.proofs.IndexedRuns as indexed

pub exact_follow : ExactSourcesFollow
exact_follow u i is_index source ex clean =
    let arrays : List Array = arrays_for u i.ints in
    let m : Memory = memory_for u i in
    let vs : Vars = vars_of u.params i.ints in
    let sc : Scope = record { arrays = arrays; wides = u.wides; fault = None } in
    let flat = untagged_is arrays m (instances_all 0 u.body vs) in
    let lie = subst (λ (l : List Access). AllWithin arrays l) flat (all_within arrays (untagged (core_of arrays m u.body vs)) clean) in
    let d = (indexed.exec_all_does arrays u.wides is_index m u.body 0 vs (started u m) (ap (λ (v : Option ℕ). not (is_printed v)) source) (λ a c e. refl) ex lie).0 in
    let ended = λ (o : Outcome (Unit {0})). result (is_printed u.version) sc o in
    let log : (run u i None).accesses ≡ d.events = ap (λ (o : Outcome (Unit {0})). (ended o).accesses) d.is ∙ d.log in
    let whole : accesses_in d.events ≡ accesses u i.ints m = d.made ∙ sym flat ∙ sym (append-nil (core u i.ints m)) in
    record {
      verdict = ap (λ (o : Outcome (Unit {0})). (ended o).verdict) d.is;
      made = ap accesses_in log ∙ whole;
      arrays = ap (λ (o : Outcome (Unit {0})). (ended o).arrays) d.is ∙ ap (λ (t : Store). words_from t.memory 0 arrays) d.store_is;
      reads = subst (λ (l : List Event). ReadsLastWriter (accesses u i.ints m) m (values_in l)) (sym log)
          (subst (λ (l : List Access). ReadsLastWriter l m (values_in d.events)) whole (plain_reads (accesses_in d.events) (values_in d.events) m (replayed.replays m d.events d.replays)));
      left = ap (λ (l : List Event). left_after (accesses u i.ints m) (values_in l) None m (length l)) log
          ∙ ap (λ (l : List Access). left_after l (values_in d.events) None m (length d.events)) (sym whole) ∙ replayed.left_by_positions m d.events ∙ d.left_is ∙ ap (λ (t : Store). t.memory) d.store_is;
    }
