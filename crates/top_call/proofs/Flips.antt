-- The questions on flip texts are decided, whichever frame of the unit they are asked of.
use Rattle.std.proofs.Common.{◌≡◌, ◌⊎◌, ℕ, ◌^◌, ◌<◌, ◌≤◌, List, length, Result, Ok, Err, inl, inr, refl, sym, ◌∙◌, ap, subst}
use Rattle.c_tree.specs.Fault.{Fault}
use Rattle.c_tree.specs.Inputs.{PlainInputs, Fit}
use Rattle.c_tree.specs.Plain.{PlainUnit}
use Rattle.c_tree.specs.declared.frame.Frame.{Frame}
use Rattle.c_tree.specs.declared.frame.Inputs.{Inputs}
use Rattle.c_tree.specs.declared.name.Name.{Name}
use Rattle.c_tree.specs.declared.run.Flip.{Flip}
use Rattle.command_line.specs.Statuses.{status_of}
use Rattle.data_file.specs.Checks.{wanted_cells}
use Rattle.data_file.specs.Conditions.{IsFrame}
use Rattle.data_file.specs.Frames.{IsFrameOf, FitsAsFrame, FitsAsMeant, carried}
use Rattle.fault_plan.specs.Answers.{Answers, IsAnswered, MeansFitting}
use Rattle.fault_plan.specs.Laws.{HasOneAnswer, HasSomeAnswer}
use Rattle.fault_plan.specs.Meaning.{MeansFlip, Says, named}
use Rattle.c_tree.specs.Flips.{fault_in}
use Rattle.fault_plan.specs.declared.refusal.FlipRefusal.{FlipRefusal}
use Rattle.fault_plan.specs.declared.refusal.FlipRefusal.TheVariants.{Syntax, UnknownArray, CellOutside, BitOutside, OutOfMemory}
use Rattle.frame_laws.specs.Alike.{SayTheSame}
use Rattle.frame_laws.specs.Laws.{HasFrame, OfOneUnit}
use Rattle.frame_laws.proofs.Lookups.{back, found, same_count, same_length}
use Rattle.top_call.specs.Flips.{MeansFault, IsFlipRefused, IsFlipWhy}
use Rattle.top_call.specs.Inputs.{IsMeant}
use Rattle.top_call.specs.Whys.{Why, of_source, of_data, of_flip, stop_for}
use Rattle.top_call.proofs.Endings.{IsDecided}

-- what is said of frames and of flip texts
pub record FlipLaws : Type 0 where
  pub one_answer : HasOneAnswer
  pub some_answer : HasSomeAnswer
  pub alike : OfOneUnit
  pub as_frame : FitsAsFrame
  pub as_meant : FitsAsMeant

-- ---- by frames that say the same a text gets the same answers

module _ (f g : Frame) (same : SayTheSame f g) (i : Inputs) (count : length i.ints ≡ length f.ints) (text : List ℕ) where
  arrays_count : length f.arrays ≡ length g.arrays
  arrays_count = same_length (length f.ints) f.arrays g.arrays same.arrays

  cells_count : (k : ℕ) → wanted_cells f i.ints k ≡ wanted_cells g i.ints k
  cells_count k = same_count (length f.ints) f.arrays g.arrays i.ints count same.arrays k

  means_by : (flip : Flip) → MeansFlip f text flip → MeansFlip g text flip
  means_by flip h =
      let b = found (length f.ints) f.arrays g.arrays flip.array h.array same.arrays h.declared in
      record { array = b.0; declared = b.1; says = subst (λ (x : Name). Says text (named x.bytes flip)) b.2.name h.says }

  answers_by : (r : Result Flip FlipRefusal) → Answers f i text r → Answers g i text r
  answers_by (Ok flip) h = record {
    means = means_by flip h.means;
    fits = record {
      array = subst (λ (n : ℕ). flip.array < n) arrays_count h.fits.array;
      cell = subst (λ (n : ℕ). flip.cell < n) (cells_count flip.array) h.fits.cell;
      bit = h.fits.bit;
    };
  }
  answers_by (Err Syntax) h = h
  answers_by (Err UnknownArray) h = record {
    flip = h.flip;
    says = h.says;
    unknown = λ k a at own.
        let b = found (length g.ints) g.arrays f.arrays k a (back f g same).arrays at in
        h.unknown k b.0 b.1 (ap (λ (x : Name). x.bytes) (sym b.2.name) ∙ own);
  }
  answers_by (Err CellOutside) h = record {
    flip = h.flip;
    means = means_by h.flip h.means;
    outside = subst (λ (n : ℕ). n ≤ h.flip.cell) (cells_count h.flip.array) h.outside;
  }
  answers_by (Err BitOutside) h = record {
    flip = h.flip;
    means = means_by h.flip h.means;
    within = subst (λ (n : ℕ). h.flip.cell < n) (cells_count h.flip.array) h.within;
    outside = h.outside;
  }
  answers_by (Err OutOfMemory) h = subst (λ (n : ℕ). 2 ^ 32 < n) arrays_count h

not_an_error : {E : Type 0} (flip : Flip) (e : E) → Ok flip ≡ Err e → ⊥
not_an_error flip e same = cc

same_ok : (a b : Flip) (r s : Result Flip FlipRefusal) → r ≡ Ok a → s ≡ Ok b → r ≡ s → a ≡ b
same_ok a b r s first second same = cc

same_error : (a b : FlipRefusal) (r s : Result Flip FlipRefusal) → r ≡ Err a → s ≡ Err b → r ≡ s → a ≡ b
same_error a b r s first second same = cc

-- ---- on inputs that fit the head

module _ (laws : FlipLaws) (head : PlainUnit) (inputs : PlainInputs) (fit : Fit head inputs) (text : List ℕ) where
  -- answers by two frames of the head are one answer
  one_by : (f g : Frame) (r s : Result Flip FlipRefusal) → IsFrameOf head f → IsFrameOf head g → IsFrame g → Answers f (carried inputs) text r → Answers g (carried inputs) text s → (r ≡ Err OutOfMemory → ⊥) → (s ≡ Err OutOfMemory → ⊥) → r ≡ s
  one_by f g r s one two is h k no_first no_second =
      laws.one_answer g (carried inputs) text r s is.names
      (answers_by f g (laws.alike head f g one two) (carried inputs) ((laws.as_frame head f inputs one).0 fit).rows.values text r h) k no_first no_second

  -- a text that means a fault isn't refused
  meant_or_refused : (fault : Fault) (why : FlipRefusal) → MeansFault head inputs text fault → IsFlipRefused head inputs text why → ⊥
  meant_or_refused fault why one two =
      not_an_error one.flip why
      (one_by one.frame two.frame (Ok one.flip) (Err why) one.of two.of two.is one.means two.refused.answers
      (λ e. not_an_error _ _ e) (λ e. two.refused.cause (same_error why _ _ _ refl refl e)))

  -- it means no other, by whatever frame of the unit
  pub meant_by : (a : Flip) (b : Fault) (f : Frame) → IsFrameOf head f → MeansFitting f (carried inputs) text a → MeansFault head inputs text b → fault_in a ≡ b
  meant_by a b f of means two =
      ap fault_in (same_ok a two.flip _ _ refl refl
      (one_by f two.frame (Ok a) (Ok two.flip) of two.of two.is means two.means (λ e. not_an_error _ _ e) (λ e. not_an_error _ _ e)))
      ∙ sym two.same

  meant_once : (a b : Fault) → MeansFault head inputs text a → MeansFault head inputs text b → a ≡ b
  meant_once a b one two = one.same ∙ meant_by one.flip b one.frame one.of one.means two

flip_why : (head : PlainUnit) (inputs : PlainInputs) (text : List ℕ) (f : Frame) → IsFrameOf head f → IsFrame f → IsAnswered f (carried inputs) text → ((fault : Fault) × MeansFault head inputs text fault) ⊎ ((why : Why) × IsFlipWhy head inputs text why)
flip_why head inputs text f of is (inl (flip, means)) = inl (fault_in flip, record { frame = f; of = of; is = is; flip = flip; means = means; same = refl })
flip_why head inputs text f of is (inr (why, refused)) = inr (of_flip why, record { frame = f; of = of; is = is; refused = refused })

flip_apart : FlipLaws → (head : PlainUnit) (inputs : PlainInputs) → Fit head inputs → (text : List ℕ) (fault : Fault) (why : Why) → MeansFault head inputs text fault → IsFlipWhy head inputs text why → ⊥
flip_apart laws head inputs fit text fault (of_source why) one two = two
flip_apart laws head inputs fit text fault (of_data words) one two = two
flip_apart laws head inputs fit text fault (of_flip why) one two = meant_or_refused laws head inputs fit text fault why one two

flip_status : (head : PlainUnit) (inputs : PlainInputs) (text : List ℕ) (v w : Why) → IsFlipWhy head inputs text v → IsFlipWhy head inputs text w → status_of (stop_for v) ≡ status_of (stop_for w)
flip_status head inputs text (of_flip v) (of_flip w) one two = refl
flip_status head inputs text (of_source v) w one two = absurd one
flip_status head inputs text (of_data v) w one two = absurd one
flip_status head inputs text (of_flip v) (of_source w) one two = absurd two
flip_status head inputs text (of_flip v) (of_data w) one two = absurd two

pub flip_decided : FlipLaws → (head : PlainUnit) (inputs : PlainInputs) (bytes text : List ℕ) → HasFrame head → IsMeant head bytes inputs → IsDecided (MeansFault head inputs text) (IsFlipWhy head inputs text)
flip_decided laws head inputs bytes text framed meant =
    let fit : Fit head inputs = laws.as_meant head meant.frame bytes inputs meant.of meant.means in
    record {
      some = flip_why head inputs text framed.frame framed.of framed.is (laws.some_answer framed.frame (carried inputs) text);
      apart = flip_apart laws head inputs fit text;
      one = λ a b one two. meant_once laws head inputs fit text a b one two;
      same = flip_status head inputs text;
    }
