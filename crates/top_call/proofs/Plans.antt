-- How a plan ends, stage by stage: what each stage of the code says makes the ending of the plan.
use Rattle.std.proofs.Common.{◌≡◌, ℕ, ◌≤◌, List, [], ◌∷◌, ◌++◌, Option, Some, None, option_map, Result, Ok, Err, MatchResult, inl, inr, sym, ◌∙◌, ap, refl, append_assoc, subst, arith}
use Rattle.std.proofs.lemmas.List.{append-nil}
use Rattle.edge.specs.Causes.{Rose}
use Rattle.edge.specs.Shelf.{Told}
use Rattle.c_tree.specs.Grammar.Texts.{IsText}
use Rattle.c_tree.specs.Fault.{Fault}
use Rattle.c_tree.specs.Inputs.{PlainInputs, Fit}
use Rattle.c_tree.specs.Plain.{PlainUnit}
use Rattle.c_tree.specs.declared.frame.Frame.{Frame}
use Rattle.c_tree.specs.declared.frame.Inputs.{Inputs}
use Rattle.c_tree.specs.declared.run.Flip.{Flip}
use Rattle.command_line.specs.declared.outcome.FileWord.{FileWord}
use Rattle.command_line.specs.declared.outcome.Output.{Output}
use Rattle.command_line.specs.declared.outcome.Stop.{Stop}
use Rattle.command_line.specs.declared.outcome.Stop.TheVariants.{ReadFault, TooLong, SourceRefused, DataRefused, FlipRefused, NoMemory}
use Rattle.data_file.specs.Answers.{MeansFitting}
use Rattle.data_file.specs.Conditions.{IsFrame}
use Rattle.data_file.specs.Checks.{Fits}
use Rattle.data_file.specs.Frames.{FitsAsMeant, IsFrameOf}
use Rattle.fault_plan.specs.Answers.{FitsInputs, MeansFitting as MeansFittingFlip}
use Rattle.c_tree.specs.Flips.{fault_in, IsFaultFor}
use Rattle.fault_plan.specs.Units.{FlipsFitUnits}
use Rattle.interp.specs.Finished.{inputs_in}
use Rattle.top_call.specs.Flips.{MeansFault, IsFlipWhy}
use Rattle.top_call.specs.Inputs.{IsMeant, IsDataWhy}
use Rattle.top_call.specs.Plans.{Plan, load, ask, give, judge, read, read_flip, Files, Ends, Follows}
use Rattle.top_call.specs.Sources.{Wanted, Accepts, IsSourceWhy}
use Rattle.top_call.specs.Stages.{IsLoad, IsFramed, IsTaken, IsSourceStop, IsFrameWhy, IsFlipWhyBy}
use Rattle.top_call.specs.Whys.{Why, of_source, of_data, of_flip, StopsFor}

-- a count that rose after an earlier value rose since then
rose_over : (first middle last : ℕ) → first ≤ middle → Rose middle last → Rose first last
rose_over first middle last earlier rose = omega arith

-- the weaker the cause of a fault, the more endings
ends_over : (plan : Plan) (files : Files) {P Q : Type 0} (names : List (List ℕ)) (outcome : Result Output Stop) → (P → Q) → Ends plan files P names outcome → Ends plan files Q names outcome
unfolding Ends
ends_over (load word name next) files names outcome f (inl h) = inl h
ends_over (load word name next) files names outcome f (inr (inl h)) = inr (inl (h.0, h.1, f h.2))
ends_over (load word name next) files names outcome f (inr (inr (inl h))) = inr (inr (inl h))
ends_over (load word name next) files names outcome f (inr (inr (inr h))) = inr (inr (inr (h.0, h.1, h.2, h.3, h.4, ends_over (next h.0) files h.1 outcome f h.5)))
ends_over (ask answers stops next) files names outcome f (inl h) = inl h
ends_over (ask answers stops next) files names outcome f (inr (inl h)) = inr (inl h)
ends_over (ask answers stops next) files names outcome f (inr (inr h)) = inr (inr (h.0, h.1, ends_over (next h.0) files names outcome f h.2))
ends_over (give is) files names outcome f h = h

asked_twice : (asked : Option (List (List ℕ))) (names more : List (List ℕ)) → option_map (λ a. a ++ more) (option_map (λ a. a ++ names) asked) ≡ option_map (λ a. a ++ (names ++ more)) asked
asked_twice None names more = refl
asked_twice (Some a) names more = ap Some (append_assoc a names more)

-- after a load that gave bytes, the rest of the plan
pub follows_load : (word : FileWord) (name : List ℕ) (next : List ℕ → Plan) (before middle now : Told) (bytes : List ℕ) (outcome : Result Output Stop) → IsLoad word name before middle (Ok bytes) → Follows (next bytes) middle now outcome → Follows (load word name next) before now outcome
unfolding Ends
follows_load word name next before middle now bytes outcome one rest = record {
  files = rest.files ∙ one.0.files;
  later = omega (arith, one.0.later, rest.later);
  names = name ∷ rest.names;
  asked = rest.asked ∙ ap (option_map (λ a. a ++ rest.names)) one.0.asked ∙ asked_twice before.asked (name ∷ []) rest.names;
  ends = inr (inr (inr (
    bytes,
    rest.names,
    one.1,
    one.2,
    refl,
    ends_over (next bytes) before.files rest.names outcome (rose_over before.faults middle.faults now.faults one.0.later)
        (rw one.0.files at rest.ends),
  )));
}

-- a load that ends the plan
pub follows_stop : (word : FileWord) (name : List ℕ) (next : List ℕ → Plan) (before now : Told) (cause : Stop) → IsLoad word name before now (Err cause) → Follows (load word name next) before now (Err cause)
unfolding Ends
follows_stop word name next before now (ReadFault w) one = record { files = one.0.files; later = one.0.later; names = name ∷ []; asked = one.0.asked; ends = inr (inl (refl, ap (λ x. Err (ReadFault x)) one.1, one.2)) }
follows_stop word name next before now (TooLong w) one = record { files = one.0.files; later = one.0.later; names = name ∷ []; asked = one.0.asked; ends = inr (inr (inl (refl, ap (λ x. Err (TooLong x)) one.1, one.2))) }
follows_stop word name next before now (SourceRefused refusal) one = absurd one
follows_stop word name next before now (DataRefused why) one = absurd one
follows_stop word name next before now (FlipRefused why) one = absurd one
follows_stop word name next before now NoMemory one = record { files = one.files; later = one.later; names = []; asked = one.asked; ends = inl (refl, refl) }

pub asked_nothing : (asked : Option (List (List ℕ))) → asked ≡ option_map (λ a. a ++ []) asked
asked_nothing None = refl
asked_nothing (Some a) = ap Some (sym (append-nil a))

-- a plan that loads nothing more
follows_still : (plan : Plan) (now : Told) (outcome : Result Output Stop) → ((rose : Type 0) → Ends plan now.files rose [] outcome) → Follows plan now now outcome
follows_still plan now outcome ends = record { files = refl; later = omega arith; names = []; asked = asked_nothing now.asked; ends = ends (Rose now.faults now.faults) }

-- a question that is answered, and the rest of the plan
follows_answered : {A : Type 0} (answers : A → Type 0) (stops : Why → Type 0) (next : A → Plan) (before now : Told) (answer : A) (outcome : Result Output Stop) → answers answer → Follows (next answer) before now outcome → Follows (ask answers stops next) before now outcome
unfolding Ends
follows_answered answers stops next before now answer outcome is rest = record {
  files = rest.files;
  later = rest.later;
  names = rest.names;
  asked = rest.asked;
  ends = inr (inr (answer, is, rest.ends));
}

ends_stopped : {A : Type 0} (answers : A → Type 0) (stops : Why → Type 0) (next : A → Plan) (files : Files) (cause : Stop) → StopsFor stops cause → (rose : Type 0) → Ends (ask answers stops next) files rose [] (Err cause)
unfolding Ends
ends_stopped answers stops next files (SourceRefused refusal) why rose = inr (inl (of_source refusal, why, refl, refl))
ends_stopped answers stops next files (DataRefused words) why rose = inr (inl (of_data words, why, refl, refl))
ends_stopped answers stops next files (FlipRefused refusal) why rose = inr (inl (of_flip refusal, why, refl, refl))
ends_stopped answers stops next files NoMemory why rose = inl (refl, refl)
ends_stopped answers stops next files (ReadFault word) why rose = absurd why
ends_stopped answers stops next files (TooLong word) why rose = absurd why

-- a question that stops the command
follows_stopped : {A : Type 0} (answers : A → Type 0) (stops : Why → Type 0) (next : A → Plan) (now : Told) (cause : Stop) → StopsFor stops cause → Follows (ask answers stops next) now now (Err cause)
follows_stopped answers stops next now cause why = follows_still (ask answers stops next) now (Err cause) (ends_stopped answers stops next now.files cause why)

ends_given : (is : Output → Type 0) (files : Files) (outcome : Result Output Stop) → MatchResult outcome is (λ cause. cause ≡ NoMemory) → (rose : Type 0) → Ends (give is) files rose [] outcome
unfolding Ends
ends_given is files (Ok output) holds rose = (refl, inl (output, holds, refl))
ends_given is files (Err cause) holds rose = (refl, inr (ap Err holds))

-- the last stage
pub follows_given : (is : Output → Type 0) (now : Told) (outcome : Result Output Stop) → MatchResult outcome is (λ cause. cause ≡ NoMemory) → Follows (give is) now now outcome
follows_given is now outcome holds = follows_still (give is) now outcome (ends_given is now.files outcome holds)

ends_nothing : (plan : Plan) (files : Files) (rose : Type 0) → Ends plan files rose [] (Err NoMemory)
unfolding Ends
ends_nothing (load word name next) files rose = inl (refl, refl)
ends_nothing (ask answers stops next) files rose = inl (refl, refl)
ends_nothing (give is) files rose = (refl, inr refl)

-- no stage, for want of memory
pub follows_nothing : (plan : Plan) (now : Told) → Follows plan now now (Err NoMemory)
follows_nothing plan now = follows_still plan now (Err NoMemory) (ends_nothing plan now.files)

-- ---- source texts, each read through a reference

-- one that is taken, and the rest of the plan
pub follows_judged : (kind : Wanted) (text seen : List ℕ) (next : PlainUnit → Plan) (before now : Told) (u : PlainUnit) (f : Frame) (outcome : Result Output Stop) → seen ≡ text → IsTaken kind seen u f → Follows (next u) before now outcome → Follows (judge kind text next) before now outcome
follows_judged kind text seen next before now u f outcome same one rest =
    follows_answered (Accepts kind text) (IsSourceWhy kind text) next before now u outcome
    (record { is_text = subst (λ (t : List ℕ). IsText t u) same one.is_text; accepted = one.framed.accepted }) rest

-- one that is refused
pub follows_refused : (kind : Wanted) (text seen : List ℕ) (next : PlainUnit → Plan) (now : Told) (cause : Stop) → seen ≡ text → IsSourceStop kind seen cause → Follows (judge kind text next) now now (Err cause)
follows_refused kind text seen next now cause same one =
    follows_stopped (Accepts kind text) (IsSourceWhy kind text) next now cause (subst (λ (t : List ℕ). IsSourceStop kind t cause) same one)

-- ---- data texts, by a frame of the unit

-- one that means inputs, and the rest of the plan
pub follows_read : (kind : Wanted) (head : PlainUnit) (f g : Frame) (text seen : List ℕ) (next : PlainInputs → Plan) (before now : Told) (i : Inputs) (outcome : Result Output Stop) → IsFramed kind head f → g ≡ f → seen ≡ text → MeansFitting g seen i → Follows (next (inputs_in i)) before now outcome → Follows (read head text next) before now outcome
follows_read kind head f g text seen next before now i outcome framed own same one rest =
    follows_answered (IsMeant head text) (IsDataWhy head text) next before now (inputs_in i) outcome
    (record { frame = f; of = framed.of; is = framed.is; means = subst (λ (t : List ℕ). MeansFitting f t i) same (subst (λ (h : Frame). MeansFitting h seen i) own one) }) rest

unread_by : (head : PlainUnit) (f : Frame) (text : List ℕ) (cause : Stop) → IsFrameOf head f → IsFrame f → StopsFor (IsFrameWhy f text) cause → StopsFor (IsDataWhy head text) cause
unread_by head f text (SourceRefused refusal) of is h = absurd h
unread_by head f text (DataRefused words) of is h = record { frame = f; of = of; is = is; why = h.0; refused = h.1; written = h.2 }
unread_by head f text (FlipRefused refusal) of is h = absurd h
unread_by head f text (ReadFault word) of is h = absurd h
unread_by head f text (TooLong word) of is h = absurd h
unread_by head f text NoMemory of is h = tt

-- one that is refused
pub follows_unread : (kind : Wanted) (head : PlainUnit) (f g : Frame) (text seen : List ℕ) (next : PlainInputs → Plan) (now : Told) (cause : Stop) → IsFramed kind head f → g ≡ f → seen ≡ text → StopsFor (IsFrameWhy g seen) cause → Follows (read head text next) now now (Err cause)
follows_unread kind head f g text seen next now cause framed own same one =
    follows_stopped (IsMeant head text) (IsDataWhy head text) next now cause
    (unread_by head f text cause framed.of framed.is (subst (λ (t : List ℕ). StopsFor (IsFrameWhy f t) cause) same (subst (λ (h : Frame). StopsFor (IsFrameWhy h seen) cause) own one)))

-- inputs that are meant by the frame of a unit fit the unit
pub fits_by : FitsAsMeant → (kind : Wanted) (head : PlainUnit) (f g : Frame) (text : List ℕ) (i : Inputs) → IsFramed kind head f → g ≡ f → MeansFitting g text i → Fit head (inputs_in i)
fits_by law kind head f g text i framed own means = law head f text (inputs_in i) framed.of (subst (λ (h : Frame). MeansFitting h text i) own means)

pub fits_frame_by : (f g : Frame) (text : List ℕ) (i : Inputs) → g ≡ f → MeansFitting g text i → Fits f i
fits_frame_by f g text i own means = subst (λ (h : Frame). Fits h i) own means.fits

-- ---- flip texts, by a frame of the unit

-- one that means a flip, and the rest of the plan
pub follows_flip : (kind : Wanted) (head : PlainUnit) (f g : Frame) (i : Inputs) (text seen : List ℕ) (next : Option Fault → Plan) (before now : Told) (flip : Flip) (outcome : Result Output Stop) → IsFramed kind head f → g ≡ f → seen ≡ text → MeansFittingFlip g i seen flip → Follows (next (Some (fault_in flip))) before now outcome → Follows (read_flip head (inputs_in i) text next) before now outcome
follows_flip kind head f g i text seen next before now flip outcome framed own same one rest =
    follows_answered (MeansFault head (inputs_in i) text) (IsFlipWhy head (inputs_in i) text) (λ fault. next (Some fault)) before now (fault_in flip) outcome
    (record { frame = f; of = framed.of; is = framed.is; flip = flip; means = subst (λ (t : List ℕ). MeansFittingFlip f i t flip) same (subst (λ (h : Frame). MeansFittingFlip h i seen flip) own one); same = refl }) rest

unflipped_by : (head : PlainUnit) (f : Frame) (i : Inputs) (text : List ℕ) (cause : Stop) → IsFrameOf head f → IsFrame f → StopsFor (IsFlipWhyBy f i text) cause → StopsFor (IsFlipWhy head (inputs_in i) text) cause
unflipped_by head f i text (SourceRefused refusal) of is h = absurd h
unflipped_by head f i text (DataRefused words) of is h = absurd h
unflipped_by head f i text (FlipRefused refusal) of is h = record { frame = f; of = of; is = is; refused = h }
unflipped_by head f i text (ReadFault word) of is h = absurd h
unflipped_by head f i text (TooLong word) of is h = absurd h
unflipped_by head f i text NoMemory of is h = tt

-- one that is refused
pub follows_unflipped : (kind : Wanted) (head : PlainUnit) (f g : Frame) (i : Inputs) (text seen : List ℕ) (next : Option Fault → Plan) (now : Told) (cause : Stop) → IsFramed kind head f → g ≡ f → seen ≡ text → StopsFor (IsFlipWhyBy g i seen) cause → Follows (read_flip head (inputs_in i) text next) now now (Err cause)
follows_unflipped kind head f g i text seen next now cause framed own same one =
    follows_stopped (MeansFault head (inputs_in i) text) (IsFlipWhy head (inputs_in i) text) (λ fault. next (Some fault)) now cause
    (unflipped_by head f i text cause framed.of framed.is (subst (λ (t : List ℕ). StopsFor (IsFlipWhyBy f i t) cause) same (subst (λ (h : Frame). StopsFor (IsFlipWhyBy h i seen) cause) own one)))

-- a flip that is meant by the frame of a unit is a fault of the unit
pub fault_by : FlipsFitUnits → (kind : Wanted) (head : PlainUnit) (f g : Frame) (text : List ℕ) (i : Inputs) (flip : Flip) → IsFramed kind head f → g ≡ f → Fit head (inputs_in i) → MeansFittingFlip g i text flip → IsFaultFor head (inputs_in i) (fault_in flip)
fault_by law kind head f g text i flip framed own fit means =
    (law head f (inputs_in i) flip framed.of fit).0 (subst (λ (h : Frame). FitsInputs h i flip) own means.fits)
