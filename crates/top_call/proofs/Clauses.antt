-- The clauses of the top call, from what its stages and its ending say.
use Rattle.std.proofs.Common.{◌≡◌, ◌⊎◌, ℕ, List, [], Option, Some, None, Result, Ok, Err, inl, inr, sym, ◌∙◌, ap, subst, refl}
use Rattle.std.proofs.lemmas.Option.{none-some}
use Rattle.edge.specs.Causes.{Rose}
use Rattle.edge.specs.Shelf.{Told}
use Rattle.top_call.specs.Calls.{IsWritten, IsTold, IsEnding, IsAnswer, IsCall}
use Rattle.command_line.specs.Tried.{Tries}
use Rattle.command_line.specs.Lines.{line_of, memory_line}
use Rattle.top_call.specs.Met.{Met, files_before}
use Rattle.command_line.specs.Orders.{Order, print, run_file, attempt, report, demo, files_of}
use Rattle.top_call.specs.Plans.{Files, plan_of, Follows, AsksOnly, Ends, Defined}
use Rattle.command_line.specs.Statuses.{status_of, finish_status, ideal_status}
use Rattle.top_call.specs.Table.{Cause, IsDone, AsksInOrder, IsQuiet, IsFulfilled, IsComplete, IsCalm, EndsAsDefined}
use Rattle.command_line.specs.declared.outcome.Finish.{Finish}
use Rattle.command_line.specs.declared.outcome.Finish.TheVariants as finish
use Rattle.command_line.specs.declared.outcome.Output.{Output}
use Rattle.command_line.specs.declared.outcome.Stop.{Stop}
use Rattle.command_line.specs.declared.outcome.Stop.TheVariants.{ReadFault, TooLong, SourceRefused, DataRefused, FlipRefused, NoMemory}
use Rattle.command_line.specs.declared.status.Status.{Status}
use Rattle.command_line.specs.declared.status.Status.TheVariants as status
use Rattle.top_call.proofs.Plans.{asked_nothing, follows_nothing}
use Rattle.top_call.proofs.Endings.{defined_end, fault_end, asked_end, IsCalmFor, determined, some_ending, passing_end}
use Rattle.top_call.proofs.Sound.{Laws, plan_is_sound}

-- a call that wants memory before its first stage
pub unread_call : (order : Option Order) (m : Met) (ends : Status) → m.shelf ≡ m.shelf_before → m.out ≡ m.out_before → ends ≡ status.NoMemory → Tries m.err_before m.err memory_line → IsCall order m ends
unread_call None m ends unread unwritten is line = record { answer = inr (is, record { unread = unread; unwritten = unwritten; line = line }) }
unread_call (Some order) m ends unread unwritten is line = record {
  answer = record {
    outcome = Err NoMemory;
    follows = subst (λ (t : Told). Follows (plan_of order) m.shelf_before t (Err NoMemory)) (sym unread) (follows_nothing (plan_of order) m.shelf_before);
    ending = record { unwritten = unwritten; line = inr (is, line) };
  };
}

done_so : (order : Order) (m : Met) (f : Finish) → IsDone order f m → Cause (Some order) m (finish_status f)
done_so order m finish.Done done = done
done_so order m finish.Reported done = done
done_so order m finish.Outside done = done

is_done : (order : Order) (m : Met) (ends : Status) (output : Output) → Follows (plan_of order) m.shelf_before m.shelf (Ok output) → IsWritten output m.out_before m.out m.err_before m.err ends → IsDone order output.finish m
is_done order m ends output follows written = record {
  output = output;
  defined = defined_end (plan_of order) _ _ follows.names (Ok output) tt follows.ends;
  finish = refl;
  whole = written.whole;
  no_line = written.no_line;
}

done_cause : (order : Order) (m : Met) (ends : Status) (output : Output) → Follows (plan_of order) m.shelf_before m.shelf (Ok output) → IsWritten output m.out_before m.out m.err_before m.err ends → Cause (Some order) m ends
done_cause order m ends output follows written =
    subst (Cause (Some order) m) (sym written.status) (done_so order m output.finish (is_done order m ends output follows written))

stop_cause : (order : Order) (m : Met) (cause : Stop) (ends : Status) → ends ≡ status_of cause → Follows (plan_of order) m.shelf_before m.shelf (Err cause) → m.out ≡ m.out_before → Tries m.err_before m.err (line_of order cause) → Cause (Some order) m ends
stop_cause order m (ReadFault word) ends is follows unwritten line =
    let fault = fault_end (plan_of order) _ _ follows.names word (Err (ReadFault word)) refl follows.ends in
    subst (Cause (Some order) m) (sym is) (record { word = word; rose = fault.0; reached = fault.1; unwritten = unwritten; line = line })
stop_cause order m (TooLong word) ends is follows unwritten line =
    subst (Cause (Some order) m) (sym is) (
      word,
      record {
        defined = defined_end (plan_of order) _ _ follows.names (Err (TooLong word)) tt follows.ends;
        unwritten = unwritten;
        line = line;
      },
    )
stop_cause order m (SourceRefused refusal) ends is follows unwritten line =
    subst (Cause (Some order) m) (sym is) (
      refusal,
      record {
        defined = defined_end (plan_of order) _ _ follows.names (Err (SourceRefused refusal)) tt follows.ends;
        unwritten = unwritten;
        line = line;
      },
    )
stop_cause order m (DataRefused why) ends is follows unwritten line =
    subst (Cause (Some order) m) (sym is) (
      why,
      record {
        defined = defined_end (plan_of order) _ _ follows.names (Err (DataRefused why)) tt follows.ends;
        unwritten = unwritten;
        line = line;
      },
    )
stop_cause order m (FlipRefused refusal) ends is follows unwritten line =
    subst (Cause (Some order) m) (sym is) (
      refusal,
      record {
        defined = defined_end (plan_of order) _ _ follows.names (Err (FlipRefused refusal)) tt follows.ends;
        unwritten = unwritten;
        line = line;
      },
    )
stop_cause order m NoMemory ends is follows unwritten line =
    subst (Cause (Some order) m) (sym is) (record { unwritten = unwritten; line = line })

order_cause : (order : Order) (m : Met) (ends : Status) (outcome : Result Output Stop) → Follows (plan_of order) m.shelf_before m.shelf outcome → IsEnding order outcome m.out_before m.out m.err_before m.err ends → Cause (Some order) m ends
order_cause order m ends (Ok output) follows (inl written) = done_cause order m ends output follows written
order_cause order m ends (Ok output) follows (inr cut) =
    subst (Cause (Some order) m) (sym cut.status) (record {
      output = output;
      defined = defined_end (plan_of order) _ _ follows.names (Ok output) tt follows.ends;
      rose = cut.rose;
      part = cut.part;
      line = cut.line;
    })
order_cause order m ends (Err cause) follows refused = go refused.line
  where
    go : IsTold order cause m.err_before m.err ends → Cause (Some order) m ends
    go (inl told) = stop_cause order m cause ends told.0 follows refused.unwritten told.1
    go (inr wanting) = subst (Cause (Some order) m) (sym wanting.0) (record { unwritten = refused.unwritten; line = wanting.1 })

no_order_cause : (m : Met) (ends : Status) → IsAnswer None m ends → Cause None m ends
no_order_cause m ends (inl misused) = subst (Cause None m) (sym misused.0) misused.1
no_order_cause m ends (inr wanting) = subst (Cause None m) (sym wanting.0) wanting.1

pub caused : (order : Option Order) (m : Met) (ends : Status) → IsCall order m ends → Cause order m ends
caused None m ends called = no_order_cause m ends called.answer
caused (Some order) m ends called = order_cause order m ends called.answer.outcome called.answer.follows called.answer.ending

pub misused_only : (order : Option Order) (m : Met) (ends : Status) → IsCall order m ends → ends ≡ status.Usage → order ≡ None
misused_only None m ends called is = refl
misused_only (Some order) m ends called is = absurd (subst (Cause (Some order) m) is (caused (Some order) m ends called))

no_order_status : (m : Met) (ends : Status) → IsAnswer None m ends → (ends ≡ status.Usage) ⊎ (ends ≡ status.NoMemory)
no_order_status m ends (inl misused) = inl misused.0
no_order_status m ends (inr wanting) = inr wanting.0

pub misused : (order : Option Order) (m : Met) (ends : Status) → IsCall order m ends → order ≡ None → (ends ≡ status.Usage) ⊎ (ends ≡ status.NoMemory)
misused None m ends called none = no_order_status m ends called.answer
misused (Some order) m ends called none = absurd (none-some order (sym none))

plan_asks : (order : Order) → AsksOnly (plan_of order) (files_of order)
plan_asks (print source) = (refl, λ text unit. tt)
plan_asks (run_file file input None) = (refl, λ text unit. (refl, λ bytes inputs. tt))
plan_asks (run_file file input (Some flip)) = (refl, λ text unit. (refl, λ bytes inputs. (refl, λ words fault. tt)))
plan_asks (attempt source input None) = (refl, λ text unit. (refl, λ bytes inputs. tt))
plan_asks (attempt source input (Some flip)) = (refl, λ text unit. (refl, λ bytes inputs. (refl, λ words fault. tt)))
plan_asks (report source) = (refl, λ text unit. tt)
plan_asks (demo number) = tt

no_order_asks : (m : Met) (ends : Status) → IsAnswer None m ends → m.shelf ≡ m.shelf_before
no_order_asks m ends (inl misused) = misused.1.unread
no_order_asks m ends (inr wanting) = wanting.1.unread

pub asked : (order : Option Order) (m : Met) (ends : Status) → IsCall order m ends → AsksInOrder order m
asked None m ends called =
    record { names = []; others = []; prefix = refl; asked = ap (λ t. t.asked) (no_order_asks m ends called.answer) ∙ asked_nothing m.shelf_before.asked }
asked (Some order) m ends called =
    let follows = called.answer.follows in
    let prefix = asked_end (plan_of order) (files_of order) _ _ follows.names called.answer.outcome (plan_asks order) follows.ends in
    record { names = follows.names; others = prefix.0; prefix = prefix.1; asked = follows.asked }

-- a text that is written whole ends otherwise than a stage that fails
apart : (f : Finish) (cause : Stop) → finish_status f ≡ status_of cause → ⊥
apart finish.Done (ReadFault word) same = cc
apart finish.Done (TooLong word) same = cc
apart finish.Done (SourceRefused refusal) same = cc
apart finish.Done (DataRefused why) same = cc
apart finish.Done (FlipRefused refusal) same = cc
apart finish.Done NoMemory same = cc
apart finish.Reported (ReadFault word) same = cc
apart finish.Reported (TooLong word) same = cc
apart finish.Reported (SourceRefused refusal) same = cc
apart finish.Reported (DataRefused why) same = cc
apart finish.Reported (FlipRefused refusal) same = cc
apart finish.Reported NoMemory same = cc
apart finish.Outside (ReadFault word) same = cc
apart finish.Outside (TooLong word) same = cc
apart finish.Outside (SourceRefused refusal) same = cc
apart finish.Outside (DataRefused why) same = cc
apart finish.Outside (FlipRefused refusal) same = cc
apart finish.Outside NoMemory same = cc

-- the outcome has the status of the ideal one, or memory was wanting
abbrev Agree : Result Output Stop → Result Output Stop → Type 0
Agree outcome ideal = (ideal_status outcome ≡ ideal_status ideal) ⊎ (outcome ≡ Err NoMemory)

-- the output doesn't fail where the outcome is a text
never_cut : (m : Met) (output : Output) (ideal : Result Output Stop) → IsCalm ideal m → Agree (Ok output) ideal → Rose m.out_before.faults m.out.faults → ⊥
never_cut m output (Ok other) calm (inl same) rose = calm.out rose
never_cut m output (Err cause) calm (inl same) rose = apart output.finish cause same
never_cut m output ideal calm (inr wanting) rose = cc

written_ended : (ends : Status) (output : Output) (ideal : Result Output Stop) → ends ≡ finish_status output.finish → Agree (Ok output) ideal → (ends ≡ ideal_status ideal) ⊎ (ends ≡ status.NoMemory)
written_ended ends output ideal is (inl same) = inl (is ∙ same)
written_ended ends output ideal is (inr wanting) = cc

refused_ended : (order : Order) (cause : Stop) (m : Met) (ends : Status) (ideal : Result Output Stop) → IsTold order cause m.err_before m.err ends → Agree (Err cause) ideal → (ends ≡ ideal_status ideal) ⊎ (ends ≡ status.NoMemory)
refused_ended order cause m ends ideal (inl told) (inl same) = inl (told.0 ∙ same)
refused_ended order cause m ends ideal (inl told) (inr wanting) = inr (told.0 ∙ ap ideal_status wanting)
refused_ended order cause m ends ideal (inr wanting) agree = inr wanting.0

ended : (order : Order) (m : Met) (ends : Status) (outcome ideal : Result Output Stop) → IsCalm ideal m → IsEnding order outcome m.out_before m.out m.err_before m.err ends → Agree outcome ideal → (ends ≡ ideal_status ideal) ⊎ (ends ≡ status.NoMemory)
ended order m ends (Ok output) ideal calm (inl written) agree = written_ended ends output ideal written.status agree
ended order m ends (Ok output) ideal calm (inr cut) agree = absurd (never_cut m output ideal calm agree cut.rose)
ended order m ends (Err cause) ideal calm refused agree = refused_ended order cause m ends ideal refused.line agree

calm_shelf : (ideal : Result Output Stop) (m : Met) → IsCalm ideal m → IsCalmFor ideal (Rose m.shelf_before.faults m.shelf.faults)
calm_shelf (Ok output) m calm = calm.shelf
calm_shelf (Err (ReadFault word)) m calm = tt
calm_shelf (Err (TooLong word)) m calm = calm
calm_shelf (Err (SourceRefused refusal)) m calm = calm
calm_shelf (Err (DataRefused why)) m calm = calm
calm_shelf (Err (FlipRefused refusal)) m calm = calm
calm_shelf (Err NoMemory) m calm = calm

-- the outcome of a call agrees with each that is defined
agrees : Laws → (order : Order) (files : List (List ℕ × List ℕ)) (m : Met) (outcome ideal : Result Output Stop) → Follows (plan_of order) m.shelf_before m.shelf outcome → files_before m ≡ Some files → Defined (plan_of order) (Some files) ideal → IsCalm ideal m → Agree outcome ideal
agrees laws order files m outcome ideal follows told defined calm =
    let P : Files → Type 0 = λ fs. Ends (plan_of order) fs (Rose m.shelf_before.faults m.shelf.faults) follows.names outcome in
    determined (plan_of order) files _ follows.names outcome ideal (plan_is_sound laws order) (calm_shelf ideal m calm) (subst P told follows.ends) defined

pub determined_end : Laws → (order : Option Order) (m : Met) (ends : Status) → IsCall order m ends → EndsAsDefined order m ends
determined_end laws None m ends called = tt
determined_end laws (Some order) m ends called = λ files told.
    let some = some_ending (plan_of order) files (plan_is_sound laws order) in
    record {
      ideal = some.0;
      defined = some.1;
      ends = λ outcome defined calm.
          ended order m ends called.answer.outcome outcome calm called.answer.ending
          (agrees laws order files m called.answer.outcome outcome called.answer.follows told defined calm);
    }

-- an outcome that agrees with a text is a text that is written whole, or memory is wanting
fulfilled : (order : Order) (m : Met) (ends : Status) (outcome : Result Output Stop) (ideal : Output) → IsQuiet m → Follows (plan_of order) m.shelf_before m.shelf outcome → IsEnding order outcome m.out_before m.out m.err_before m.err ends → Agree outcome (Ok ideal) → IsFulfilled order m ends ⊎ (ends ≡ status.NoMemory)
fulfilled order m ends (Ok output) ideal quiet follows (inl written) agree =
    inl (record { how = output.finish; status_is = written.status; done = is_done order m ends output follows written })
fulfilled order m ends (Ok output) ideal quiet follows (inr cut) agree = absurd (quiet.out cut.rose)
fulfilled order m ends (Err cause) ideal quiet follows refused (inl same) = absurd (apart ideal.finish cause (sym same))
fulfilled order m ends (Err cause) ideal quiet follows refused (inr wanting) = inr (go refused.line)
  where
    go : IsTold order cause m.err_before m.err ends → ends ≡ status.NoMemory
    go (inl told) = told.0 ∙ ap ideal_status wanting
    go (inr no_memory) = no_memory.0

pub complete : Laws → (order : Option Order) (m : Met) (ends : Status) → IsCall order m ends → IsComplete order m ends
complete laws None m ends called = tt
complete laws (Some order) m ends called = λ files told passes quiet.
    let text = passing_end (plan_of order) files (plan_is_sound laws order) passes in
    fulfilled order m ends called.answer.outcome text.0 quiet called.answer.follows called.answer.ending
    (agrees laws order files m called.answer.outcome (Ok text.0) called.answer.follows told text.1 quiet)
