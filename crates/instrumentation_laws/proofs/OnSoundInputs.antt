-- The laws of the run of a unit with tables, at sound inputs.
use Rattle.std.proofs.Common.{sym, ap, ◌∙◌, subst, arith, Some, None}
use Rattle.std.specs.Prelude.{slice_get}
use Rattle.c_tree.specs.Arrays.{extents_at, all_cells}
use Rattle.c_tree.specs.Fault.{upset_of}
use Rattle.c_tree.specs.Instances.{accesses}
use Rattle.c_tree.specs.Inputs.{arrays_for, memory_for}
use Rattle.c_tree.specs.Run.{Ended, run_from, run}
use Rattle.balance_laws.specs.Laws.{TotalsAgree, CalmMemory, FlipIsToldOver, OthersAgree}
use Rattle.run_laws.specs.Logs.{accesses_in}
use Rattle.instrumentation_laws.specs.Setting.{inspected_in}
use Rattle.instrumentation_laws.specs.KeptUnits.{EveryKeptRunBalances, EveryKeptRunFollows, EveryKeptRunHasTotals, EveryKeptRunTells, EveryKeptRunStaysOnCourse, HasTotalsOf, TakesSteps, TellsOfEach, StaysOnCourse}
use Rattle.instrumentation_laws.proofs.OnInputs.{run_is, array_at, memory_fits}
use Rattle.instrumentation_laws.proofs.KeptUnits.{unit_balanced, unit_steps, unit_totals, unit_course, unit_tells}

pub run_follows : EveryKeptRunFollows
run_follows u t i fault number is_index decls tables cells pieces set sound =
    subst (λ (r : Ended). TakesSteps (inspected_in number u.body) (run u i fault) r) (sym (run_is u t i fault set.text.params))
    (unit_steps u t i.ints (memory_for u i) (upset_of (arrays_for u i.ints) fault) number is_index decls tables cells pieces set sound.clean)

pub run_balances : TotalsAgree → CalmMemory → EveryKeptRunBalances
run_balances agree calm u t i number is_index decls tables cells pieces set through sound =
    let h : TakesSteps (inspected_in number u.body) (run u i None) (run t i None) = run_follows u t i None number is_index decls tables cells pieces set sound in
    record {
      verdict = ap (λ (r : Ended). r.verdict) (run_is u t i None set.text.params) ∙ unit_balanced agree calm u t i.ints (memory_for u i) number is_index decls tables cells pieces set sound.clean;
      arrays = h.arrays ∙ through.arrays;
      made = ap accesses_in h.events ∙ through.made;
      events = h.events;
    }

pub run_has_totals : EveryKeptRunHasTotals
run_has_totals u t i fault number is_index decls tables cells pieces set sound never =
    let same = run_is u t i fault set.text.params in
    let h = unit_totals u t i.ints (memory_for u i) (upset_of (arrays_for u i.ints) fault) number is_index decls tables cells pieces set sound.clean (λ a e. never a (ap (λ (r : Ended). r.verdict) same ∙ e)) in
    subst (λ (r : Ended). HasTotalsOf u i r) (sym same) (record { totals = h.0; verdict = h.1 })

pub run_tells : FlipIsToldOver → OthersAgree → EveryKeptRunTells
run_tells told others u t i f upset number is_index decls tables cells pieces is set sound declared bit words values =
    let same = array_at f (slice_get (all_cells (extents_at (arrays_for u i.ints) f.array)) f.cell) upset is in
    let a = same.0 in
    let b = same.1 in
    subst (λ (r : Ended). TellsOfEach (accesses u i.ints (memory_for u i)) is_index upset r)
    (sym (run_is u t i (Some f) set.text.params ∙ ap (run_from t i.ints (memory_for u i)) is))
    (unit_tells told others u t i.ints (memory_for u i) upset number is_index decls tables cells pieces set sound.clean (omega arith) sound.few (omega arith) (memory_fits u i sound) words values)

pub run_stays : EveryKeptRunStaysOnCourse
run_stays u t i f upset number is_index decls tables cells pieces is set sound quiet =
    subst (λ (r : Ended). StaysOnCourse (accesses u i.ints (memory_for u i)) (run u i (Some f)) r) (sym (run_is u t i (Some f) set.text.params ∙ ap (run_from t i.ints (memory_for u i)) is))
    (subst (λ (r : Ended). StaysOnCourse (accesses u i.ints (memory_for u i)) r (run_from t i.ints (memory_for u i) (Some upset))) (sym (ap (run_from u i.ints (memory_for u i)) is))
    (unit_course u t i.ints (memory_for u i) (Some upset) number is_index decls tables cells pieces set sound.clean quiet))
