-- What the crates below say makes each plan sound: its questions are decided, and its texts are there.
use Rattle.std.proofs.Common.{◌≡◌, ◌⊎◌, ℕ, List, length, Option, Some, None, inl, inr, refl, sym, ◌∙◌, ap}
use Rattle.acceptance.specs.Sources.{IsAcceptedSource}
use Rattle.c_tree.specs.Fault.{Fault}
use Rattle.c_tree.specs.Flips.{fault_in}
use Rattle.c_tree.specs.Inputs.{PlainInputs}
use Rattle.c_tree.specs.Grammar.Texts.{IsText}
use Rattle.c_tree.specs.Layout.{layout}
use Rattle.c_tree.specs.Plain.{PlainUnit}
use Rattle.c_tree.specs.Run as run
use Rattle.c_tree.specs.Run.{End, plain, balanced, index, outside}
use Rattle.c_tree.specs.declared.refusal.Refusal.{Refusal}
use Rattle.c_tree.specs.declared.run.Ended.{Ended}
use Rattle.c_tree.specs.declared.run.Verdict.{Verdict}
use Rattle.c_tree.specs.declared.run.Verdict.TheVariants as verdict
use Rattle.data_file.specs.Texts.{output_text}
use Rattle.frame_laws.specs.Laws.{HasFrame, SourcesHaveFrames, PrintedHaveFrames}
use Rattle.instrumentation.specs.Guarded.{guarded}
use Rattle.reports.specs.Texts.{report_text}
use Rattle.interp.specs.Finished.{verdict_in, IsEnded}
use Rattle.interp.specs.Machine.{counted}
use Rattle.command_line.specs.Orders.{Order, print, run_file, attempt, report, demo}
use Rattle.command_line.specs.Statuses.{status_of}
use Rattle.command_line.specs.declared.outcome.Finish.TheVariants.{Done}
use Rattle.command_line.specs.declared.outcome.Output.{Output}
use Rattle.source_laws.specs.Laws.{AcceptedArePrinted, AcceptedStoreNothing}
use Rattle.flip_laws.specs.FaultyRuns.{AcceptedTellOfFaults}
use Rattle.demo_kernels.specs.Kernels.{inputs_of, kernel_of}
use Rattle.demo_kernels.specs.Summaries.{summary_text}
use Rattle.top_call.specs.Demos.{IsDemonstrated}
use Rattle.top_call.specs.Inputs.{IsMeant}
use Rattle.top_call.specs.Plans.{Plan, on_flip, plan_of, running, trying}
use Rattle.top_call.specs.Printed.{IsPrinted}
use Rattle.top_call.specs.Reports.{IsReported}
use Rattle.top_call.specs.Runs.{finish_of, IsRun, IsTried}
use Rattle.top_call.specs.Sources.{Wanted, AnyText, AnySource, IsTakenUnit, Accepts, Refuses, IsSourceWhy}
use Rattle.top_call.specs.Whys.{Why, of_source, of_data, of_flip, stop_for}
use Rattle.top_call.proofs.Endings.{IsDecided, IsGiven, IsSound}
use Rattle.top_call.proofs.Flips.{FlipLaws, flip_decided}
use Rattle.top_call.proofs.Frames.{DataLaws, read_decided}
use Rattle.top_call.proofs.HeadsMade.{made_head}
use Rattle.top_call.proofs.TextLaws.{TextLaws, judged_once, taken_or_refused}

-- what the crates below say
pub record Laws : Type 0 where
  pub texts : TextLaws
  pub data_texts : DataLaws
  pub flip_texts : FlipLaws
  pub source_frames : SourcesHaveFrames
  pub printed_frames : PrintedHaveFrames
  pub faults : AcceptedTellOfFaults
  pub accepted : AcceptedArePrinted
  pub stores : AcceptedStoreNothing
  pub printed : (u : PlainUnit) → IsAcceptedSource u → IsText (layout (guarded u)) (guarded u)
  pub kernels : (number : ℕ) → IsAcceptedSource (kernel_of number).unit

-- each unit that is run has a frame
framed : Laws → (u : PlainUnit) → IsTakenUnit AnyText u → HasFrame u
framed laws u (inl source) = laws.source_frames u source
framed laws u (inr printed) = laws.printed_frames u printed

-- ---- the last stages

printed_text : Laws → (source : PlainUnit) → IsAcceptedSource source → (output : Output) × IsPrinted source output
printed_text laws source form = (
  record { text = layout (guarded source); finish = Done },
  record {
    unit = guarded source;
    text = refl;
    is_text = laws.printed source form;
    head = made_head source (guarded source) refl;
    accepted = laws.accepted source form;
    stores = laws.stores source form;
    faults = laws.faults source form;
    done = refl;
  },
)

verdict_of : End → Verdict
verdict_of plain = verdict.Plain
verdict_of balanced = verdict.Balanced
verdict_of (run.fault arrays) = verdict.Fault arrays
verdict_of (index a) = verdict.Index a
verdict_of (outside a) = verdict.Outside a

verdict_in-verdict_of : (e : End) → verdict_in (verdict_of e) ≡ e
unfolding verdict_of
verdict_in-verdict_of plain = refl
verdict_in-verdict_of balanced = refl
verdict_in-verdict_of (run.fault arrays) = refl
verdict_in-verdict_of (index a) = refl
verdict_in-verdict_of (outside a) = refl

-- each end of a run can be shown
shown_end : (r : run.Ended) → (e : Ended) × IsEnded r e
shown_end r = (
  record {
    verdict = verdict_of r.verdict;
    arrays = r.arrays;
    totals = r.totals;
    accesses = counted (length r.accesses);
    prologue_turns = counted r.prologue_turns;
    body_turns = counted r.body_turns;
    tables = r.tables;
  },
  record {
    verdict = verdict_in-verdict_of r.verdict;
    arrays = refl;
    totals = refl;
    accesses = refl;
    prologue_turns = refl;
    body_turns = refl;
    tables = refl;
  },
)

run_text : (unit : PlainUnit) (inputs : PlainInputs) (fault : Option Fault) → HasFrame unit → (output : Output) × IsRun unit inputs fault output
run_text unit inputs fault framed =
    let r = run.run unit inputs fault in
    let shown = shown_end r in (
      record { text = output_text framed.frame shown.0; finish = finish_of r.verdict },
      record { ended = shown.0; is = shown.1; frame = framed.frame; of = framed.of; text = refl; finish = refl },
    )

tried_text : Laws → (source : PlainUnit) (inputs : PlainInputs) (fault : Option Fault) → IsAcceptedSource source → HasFrame source → (output : Output) × IsTried source inputs fault output
tried_text laws source inputs fault form framed =
    let r = run.run (guarded source) inputs fault in
    let shown = shown_end r in (
      record { text = output_text framed.frame shown.0; finish = finish_of r.verdict },
      record {
        unit = guarded source;
        made = refl;
        is_text = laws.printed source form;
        head = made_head source (guarded source) refl;
        accepted = laws.accepted source form;
        stores = laws.stores source form;
        faults = laws.faults source form;
        ended = shown.0;
        is = shown.1;
        frame = framed.frame;
        of = framed.of;
        text = refl;
        finish = refl;
      },
    )

-- two outputs of one run end alike
tried_once : (source : PlainUnit) (inputs : PlainInputs) (fault : Option Fault) (o p : Output) → IsTried source inputs fault o → IsTried source inputs fault p → o.finish ≡ p.finish
tried_once source inputs fault o p one two =
    one.finish ∙ ap (λ u. finish_of (run.run u inputs fault).verdict) (one.made ∙ sym two.made) ∙ sym two.finish

printed_given : Laws → (source : PlainUnit) → IsAcceptedSource source → IsGiven (IsPrinted source)
printed_given laws source form = record { some = printed_text laws source form; same = λ o p one two. one.done ∙ sym two.done }

run_given : (unit : PlainUnit) (inputs : PlainInputs) (fault : Option Fault) → HasFrame unit → IsGiven (IsRun unit inputs fault)
run_given unit inputs fault framed = record { some = run_text unit inputs fault framed; same = λ o p one two. one.finish ∙ sym two.finish }

tried_given : Laws → (source : PlainUnit) (inputs : PlainInputs) (fault : Option Fault) → IsAcceptedSource source → IsGiven (IsTried source inputs fault)
tried_given laws source inputs fault form =
    record { some = tried_text laws source inputs fault form (laws.source_frames source form); same = tried_once source inputs fault }

report_given : (source : PlainUnit) → IsGiven (IsReported source)
report_given source = record {
  some = (record { text = report_text source; finish = Done }, record { text = refl; done = refl });
  same = λ o p one two. one.done ∙ sym two.done;
}

demo_text : Laws → (number : ℕ) → (output : Output) × IsDemonstrated number output
demo_text laws number =
    let k = kernel_of number in
    let framed = laws.source_frames k.unit (laws.kernels number) in
    let source = shown_end (run.run k.unit (inputs_of number) None) in
    let without = shown_end (run.run (guarded k.unit) (inputs_of number) None) in
    let flipped = shown_end (run.run (guarded k.unit) (inputs_of number) (Some (fault_in k.flip))) in (
      record { text = summary_text number source.0.accesses source.0.body_turns framed.frame.arrays without.0.verdict flipped.0.verdict; finish = Done },
      record {
        ended = source.0;
        is = source.1;
        unit = guarded k.unit;
        made = refl;
        faults = laws.faults k.unit (laws.kernels number);
        without = without.0;
        without_is = without.1;
        flipped = flipped.0;
        flipped_is = flipped.1;
        frame = framed.frame;
        of = framed.of;
        text = refl;
        done = refl;
      },
    )

demo_given : Laws → (number : ℕ) → IsGiven (IsDemonstrated number)
demo_given laws number = record { some = demo_text laws number; same = λ o p one two. one.done ∙ sym two.done }

-- ---- source texts

source_why : (kind : Wanted) (text : List ℕ) → ((a : PlainUnit) × Accepts kind text a) ⊎ ((why : Refusal) × Refuses kind text why) → ((a : PlainUnit) × Accepts kind text a) ⊎ ((why : Why) × IsSourceWhy kind text why)
source_why kind text (inl taken) = inl taken
source_why kind text (inr refused) = inr (of_source refused.0, refused.1)

source_apart : TextLaws → (kind : Wanted) (text : List ℕ) (a : PlainUnit) (why : Why) → Accepts kind text a → IsSourceWhy kind text why → ⊥
source_apart laws kind text a (of_source why) one two = judged_once laws kind text a why one two
source_apart laws kind text a (of_data words) one two = two
source_apart laws kind text a (of_flip why) one two = two

source_status : (kind : Wanted) (text : List ℕ) (v w : Why) → IsSourceWhy kind text v → IsSourceWhy kind text w → status_of (stop_for v) ≡ status_of (stop_for w)
source_status kind text (of_source v) (of_source w) one two = refl
source_status kind text (of_data v) w one two = absurd one
source_status kind text (of_flip v) w one two = absurd one
source_status kind text (of_source v) (of_data w) one two = absurd two
source_status kind text (of_source v) (of_flip w) one two = absurd two

judged_decided : TextLaws → (kind : Wanted) (text : List ℕ) → IsDecided (Accepts kind text) (IsSourceWhy kind text)
judged_decided laws kind text = record {
  some = source_why kind text (taken_or_refused laws kind text);
  apart = source_apart laws kind text;
  one = λ a b one two. laws.once text a b one.is_text two.is_text;
  same = source_status kind text;
}

-- ---- plans

-- a plan that goes on with a fault, or without one
flip_sound : Laws → (flip : Option (List ℕ)) (next : PlainUnit → PlainInputs → Option Fault → Plan) (unit : PlainUnit) (inputs : PlainInputs) (bytes : List ℕ) → HasFrame unit → IsMeant unit bytes inputs → ((fault : Option Fault) → IsSound (next unit inputs fault)) → IsSound (on_flip flip next unit inputs)
unfolding IsSound
flip_sound laws None next unit inputs bytes framed meant more = more None
flip_sound laws (Some name) next unit inputs bytes framed meant more = λ words few. (flip_decided laws.flip_texts unit inputs bytes words framed meant, λ fault is. more (Some fault))

pub plan_is_sound : Laws → (order : Order) → IsSound (plan_of order)
unfolding IsSound
plan_is_sound laws (print source) = λ text within. (judged_decided laws.texts AnySource text, λ unit is. printed_given laws unit is.accepted)
plan_is_sound laws (run_file file input flip) = λ text within. (
  judged_decided laws.texts AnyText text,
  λ unit is bytes few. (
    read_decided laws.data_texts unit bytes (framed laws unit is.accepted),
    λ inputs meant. flip_sound laws flip running unit inputs bytes (framed laws unit is.accepted) meant (λ fault. run_given unit inputs fault (framed laws unit is.accepted)),
  ),
)
plan_is_sound laws (attempt source input flip) = λ text within. (
  judged_decided laws.texts AnySource text,
  λ unit is bytes few. (
    read_decided laws.data_texts unit bytes (laws.source_frames unit is.accepted),
    λ inputs meant. flip_sound laws flip trying unit inputs bytes (laws.source_frames unit is.accepted) meant (λ fault. tried_given laws unit inputs fault is.accepted),
  ),
)
plan_is_sound laws (report source) = λ text within. (judged_decided laws.texts AnySource text, λ unit is. report_given unit)
plan_is_sound laws (demo number) = demo_given laws number
