-- A source's run under a fault that isn't exposed, beside its run without one.
use Rattle.std.proofs.Common.{◌≡◌, ℕ, suc, zero, ◌<◌, Bool, true, false, cond, ◌&&◌, nat_le, List, [], ◌∷◌, ◌++◌, length, refl, sym, ap, ◌∙◌, subst, arith, Option, Some, None, inr}
use Rattle.std.proofs.lemmas.List.{length-map}
use Rattle.c_tree.specs.Plain.{PlainUnit}
use Rattle.c_tree.specs.Arrays.{Array, Memory, words_from, vars_of}
use Rattle.c_tree.specs.Accesses.{Access, at}
use Rattle.c_tree.specs.Fault.{Upset, Exposed, inverted, disturbed}
use Rattle.c_tree.specs.Instances.{accesses, source_output}
use Rattle.c_tree.specs.Inputs.{PlainInputs, arrays_for, memory_for}
use Rattle.c_tree.specs.Run.{Event, State, Outcome, goes_on, result, struck_at_end, Ended, run_from}
use Rattle.balance_laws.specs.Replay.{Replays, left_after, after_access}
use Rattle.balance_laws.specs.Laws.{HiddenFlip, FlippedMemory}
use Rattle.run_laws.specs.Laws.{RunsThrough}
use Rattle.run_laws.specs.Logs.{accesses_in, values_in}
use Rattle.instrumentation_laws.specs.Setting.{scope_of}
use Rattle.instrumentation_laws.specs.KeptTexts.{IsQuiet}
use Rattle.instrumentation_laws.proofs.Steps.{event, access_to}
use Rattle.instrumentation_laws.proofs.Verdicts.{end_is}
use Rattle.flip_laws.specs.FaultyRuns.{IsOverwritten, IsOverwrittenIn, inverted_at}
use Rattle.guard_laws.specs.Guards.{IsExposed}
use Rattle.guard_laws.proofs.Determined.{IsCalm, Agree, state_of, same_course}
use Rattle.flip_laws.proofs.LeftMemory.{same_words, at_end, overwritten, kept}
use Rattle.guard_laws.proofs.SourceEnds.{GoesOnTo, source_start, body_run, run_is_body}

-- ---- logs

value_here : (pre : List Event) (e : Event) (xs : List Event) → values_in (pre ++ (e ∷ xs)) (length pre) ≡ e.value
value_here [] e xs = refl
value_here (p ∷ pre) e xs = value_here pre e xs

access_here : (pre : List Event) (e : Event) (xs : List Event) → at (accesses_in (pre ++ (e ∷ xs))) (length pre) ≡ e.access
access_here [] e xs = refl
access_here (p ∷ pre) e xs = access_here pre e xs

here_is : (pre : List Event) (e : Event) (xs : List Event) → length pre < length (accesses_in (pre ++ (e ∷ xs)))
here_is [] e xs = omega arith
here_is (p ∷ pre) e xs = let h = here_is pre e xs in omega arith

values_before : (pre xs ys : List Event) (q : ℕ) → q < length pre → values_in (pre ++ xs) q ≡ values_in (pre ++ ys) q
values_before [] xs ys q l = absurd (omega arith)
values_before (p ∷ pre) xs ys zero l = refl
values_before (p ∷ pre) xs ys (suc q) l = values_before pre xs ys q (omega arith)

-- values that agree so far leave the same memory
left_same : (list : List Access) (m : Memory) (v w : ℕ → ℕ) (n : ℕ) → ((q : ℕ) → q < n → v q ≡ w q) → left_after list v None m n ≡ left_after list w None m n
unfolding left_after after_access disturbed
left_same list m v w zero h = refl
left_same list m v w (suc n) h =
    ap (λ (k : Memory). after_access list v n k) (left_same list m v w n (λ q l. h q (omega arith))) ∙
    value_same (left_after list w None m n) (v n) (w n) (h n (omega arith))
  where
    value_same : (k : Memory) (x y : ℕ) → x ≡ y → after_access list (λ q. x) n k ≡ after_access list (λ q. y) n k
    value_same k x y e = ap (λ z. after_access list (λ q. z) n k) e

-- Where the reads of two logs of one list follow one memory, no read differs first.
calm_logs : (list : List Access) (m : Memory) (one two : List Event) → accesses_in one ≡ list → accesses_in two ≡ list →
    Replays list (values_in one) None m → Replays list (values_in two) None m → IsCalm one two
unfolding disturbed
calm_logs list m one two of_one of_two r s pre a cs v w xs ys x y =
    let k : ℕ = length pre in
    let e : Event = event a cs false v in
    let d : Event = event a cs false w in
    let here : at list k ≡ access_to a cs false = ap (λ l. at l k) (sym of_one ∙ ap accesses_in (sym x)) ∙ access_here pre e xs in
    let inside : k < length list = subst (λ (l : List Access). k < length l) (ap accesses_in x ∙ of_one) (here_is pre e xs) in
    let is_read : (at list k).writes ≡ false = ap (λ (z : Access). z.writes) here in
    let before : (q : ℕ) → q < k → values_in one q ≡ values_in two q = λ q l. ap (λ z. values_in z q) (sym x) ∙ values_before pre (e ∷ xs) (d ∷ ys) q l ∙ ap (λ z. values_in z q) y in
    sym (value_here pre e xs) ∙ ap (λ z. values_in z k) x ∙ r k inside is_read ∙
    ap (λ (n : Memory). n (at list k).array (at list k).cell) (left_same list m (values_in one) (values_in two) k before) ∙
    sym (s k inside is_read) ∙ ap (λ z. values_in z k) (sym y) ∙ value_here pre d ys

module _ (hidden : HiddenFlip) (left : FlippedMemory) (u : PlainUnit) (i : PlainInputs) (version : u.version ≡ None) (no_wides : u.wides ≡ []) (through : RunsThrough u i (run_from u i.ints (memory_for u i) None)) (is_index : ℕ → Bool)
    (quiet : (fault : Option Upset) → IsQuiet is_index (accesses u i.ints (memory_for u i)) fault → GoesOnTo fault (memory_for u i) (accesses u i.ints (memory_for u i)) (body_run u i fault)) where
  abbrev m : Memory
  m = memory_for u i

  abbrev arrays : List Array
  arrays = arrays_for u i.ints

  abbrev list : List Access
  list = accesses u i.ints m

  calmly : GoesOnTo None m list (body_run u i None)
  calmly = quiet None tt

  -- a run, from where its body goes on to
  run_is : (fault : Option Upset) (g : GoesOnTo fault m list (body_run u i fault)) → run_from u i.ints m fault ≡ result false (scope_of arrays [] fault) (goes_on tt g.to)
  run_is fault g = run_is_body u i fault version no_wides ∙ ap (result false (scope_of arrays [] fault)) g.goes

  without_log : (run_from u i.ints m None).accesses ≡ calmly.to.accesses
  without_log = ap (λ (e : Ended). e.accesses) (run_is None calmly)

  -- ---- a fault that no read sees

  module _ (x : Upset) (unread : ¬ Exposed list x) where
    faulty : GoesOnTo (Some x) m list (body_run u i (Some x))
    faulty = quiet (Some x) (inr unread)

    abbrev there : State
    there = faulty.to

    calm : IsCalm there.accesses calmly.to.accesses
    calm = calm_logs list m there.accesses calmly.to.accesses faulty.made calmly.made
        (hidden list m (values_in there.accesses) x unread faulty.replays) calmly.replays

    agree : Agree (goes_on (tt {0}) there) (goes_on (tt {0}) calmly.to)
    agree =
        subst (λ (o : Outcome (Unit {0})). Agree o (goes_on (tt {0}) calmly.to)) faulty.goes
        (subst (λ (o : Outcome (Unit {0})). Agree (body_run u i (Some x)) o) calmly.goes
        (same_course arrays [] (Some x) None there.accesses calmly.to.accesses calm u.body (vars_of u.params i.ints) (source_start u i) m refl
        (ap (λ (o : Outcome (Unit {0})). (state_of o).accesses) faulty.goes) (ap (λ (o : Outcome (Unit {0})). (state_of o).accesses) calmly.goes)))

    same_log : calmly.to.accesses ≡ there.accesses
    same_log = ap (λ (t : State). t.accesses) agree.3

    -- what is left without the fault is the source's output
    output : left_after list (values_in there.accesses) None m (length list) ≡ source_output u i.ints m
    output =
        let r : RunsThrough u i (run_from u i.ints m None) = through in
        let log : (run_from u i.ints m None).accesses ≡ there.accesses = without_log ∙ same_log in
        let long : length list ≡ length there.accesses = ap length (sym faulty.made) ∙ length-map there.accesses (λ (e : Event). e.access) in
        ap (left_after list (values_in there.accesses) None m) long ∙ ap (λ (l : List Event). left_after list (values_in l) None m (length l)) (sym log) ∙ r.left

    ends_at : (struck_at_end (Some x) there).memory ≡ at_end left list m (values_in there.accesses) x
    ends_at =
        let long : length there.accesses ≡ length list = sym (length-map there.accesses (λ (e : Event). e.access)) ∙ ap length faulty.made in
        ap (λ b. (cond (b && nat_le (length there.accesses) x.place) (record there { memory = inverted x there.memory }) there).memory) agree.1 ∙
        memory_of (nat_le (length there.accesses) x.place) ∙
        ap (λ k. cond (nat_le k x.place) (inverted x there.memory) there.memory) long ∙
        ap (λ (k : Memory). cond (nat_le (length list) x.place) (inverted x k) k) faulty.left
      where
        memory_of : (b : Bool) → (cond b (record there { memory = inverted x there.memory }) there).memory ≡ cond b (inverted x there.memory) there.memory
        memory_of true = refl
        memory_of false = refl

    arrays_end : (run_from u i.ints m (Some x)).arrays ≡ words_from (at_end left list m (values_in there.accesses) x) 0 arrays
    arrays_end = ap (λ (e : Ended). e.arrays) (run_is (Some x) faulty) ∙ ap (λ (k : Memory). words_from k 0 arrays) ends_at

    struck_log : (run_from u i.ints m (Some x)).accesses ≡ there.accesses
    struck_log = ap (λ (e : Ended). e.accesses) (run_is (Some x) faulty) ∙ ap (λ (t : State). t.accesses) (end_is (Some x) there).1

    pub unread_events : (run_from u i.ints m (Some x)).accesses ≡ (run_from u i.ints m None).accesses
    unread_events = struck_log ∙ sym (without_log ∙ same_log)

    pub written_arrays : IsOverwritten list x → (run_from u i.ints m (Some x)).arrays ≡ words_from (source_output u i.ints m) 0 arrays
    written_arrays w =
        let values : ℕ → ℕ = values_in there.accesses in
        arrays_end ∙ same_words (at_end left list m values x) (left_after list values None m (length list)) 0 arrays (overwritten left list m values x w) ∙
        ap (λ (k : Memory). words_from k 0 arrays) output

    pub unwritten_arrays : ¬ IsOverwritten list x → (run_from u i.ints m (Some x)).arrays ≡ words_from (inverted x (source_output u i.ints m)) 0 arrays
    unwritten_arrays none =
        let values : ℕ → ℕ = values_in there.accesses in
        arrays_end ∙ same_words (at_end left list m values x) (inverted x (left_after list values None m (length list))) 0 arrays (kept left list m values x none) ∙
        ap (λ (k : Memory). words_from (inverted x k) 0 arrays) output

  -- ---- a fault in a cell that there is or in none

  pub same_events : (fault : Option Upset) → ¬ IsExposed list fault → (run_from u i.ints m fault).accesses ≡ (run_from u i.ints m None).accesses
  same_events None unread = refl
  same_events (Some x) unread = unread_events x unread

  pub arrays_written : (fault : Option Upset) → ¬ IsExposed list fault → IsOverwrittenIn list fault → (run_from u i.ints m fault).arrays ≡ words_from (source_output u i.ints m) 0 arrays
  arrays_written None unread w = absurd w
  arrays_written (Some x) unread w = written_arrays x unread w

  pub arrays_unwritten : (fault : Option Upset) → ¬ IsExposed list fault → ¬ IsOverwrittenIn list fault → (run_from u i.ints m fault).arrays ≡ words_from (inverted_at fault (source_output u i.ints m)) 0 arrays
  arrays_unwritten None unread none = through.arrays
  arrays_unwritten (Some x) unread none = unwritten_arrays x unread none
