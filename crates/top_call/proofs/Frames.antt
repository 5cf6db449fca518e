-- The questions on data texts are decided, whichever frame of the unit they are asked of.
use Rattle.std.proofs.Common.{◌≡◌, ◌⊎◌, ℕ, List, Result, Ok, Err, inl, inr, refl, ap}
use Rattle.c_tree.specs.Inputs.{PlainInputs}
use Rattle.c_tree.specs.Plain.{PlainUnit}
use Rattle.c_tree.specs.declared.frame.Frame.{Frame}
use Rattle.c_tree.specs.declared.frame.Inputs.{Inputs}
use Rattle.command_line.specs.DataRefusals.{data_refusal_text}
use Rattle.command_line.specs.Statuses.{status_of}
use Rattle.data_file.specs.Answers.{Answers, IsAnswered, MeansFitting}
use Rattle.data_file.specs.Conditions.{IsFrame}
use Rattle.data_file.specs.Frames.{IsFrameOf, carried}
use Rattle.data_file.specs.Laws.{HasOneAnswer, HasSomeAnswer}
use Rattle.data_file.specs.declared.refusal.DataRefusal.{DataRefusal}
use Rattle.data_file.specs.declared.refusal.DataRefusal.TheVariants.{OutOfMemory}
use Rattle.frame_laws.specs.Laws.{HasFrame, OfOneUnit, ReadAlike}
use Rattle.interp.specs.Finished.{inputs_in}
use Rattle.top_call.specs.Inputs.{IsMeant, IsDataRefused, IsDataWhy}
use Rattle.top_call.specs.Whys.{Why, of_source, of_data, of_flip, stop_for}
use Rattle.top_call.proofs.Endings.{IsDecided}

-- what is said of frames and of data texts
pub record DataLaws : Type 0 where
  pub one_answer : HasOneAnswer
  pub some_answer : HasSomeAnswer
  pub alike : OfOneUnit
  pub read : ReadAlike

not_an_error : {E : Type 0} (i : Inputs) (e : E) → Ok i ≡ Err e → ⊥
not_an_error i e same = cc

same_ok : (i j : Inputs) (r s : Result Inputs DataRefusal) → r ≡ Ok i → s ≡ Ok j → r ≡ s → i ≡ j
same_ok i j r s first second same = cc

same_error : (a b : DataRefusal) (r s : Result Inputs DataRefusal) → r ≡ Err a → s ≡ Err b → r ≡ s → a ≡ b
same_error a b r s first second same = cc

-- answers by two frames of one unit are one answer
one_by : DataLaws → (head : PlainUnit) (text : List ℕ) (f g : Frame) (r s : Result Inputs DataRefusal) → IsFrameOf head f → IsFrameOf head g → IsFrame g → Answers f text r → Answers g text s → (r ≡ Err OutOfMemory → ⊥) → (s ≡ Err OutOfMemory → ⊥) → r ≡ s
one_by laws head text f g r s one two is h k no_first no_second =
    laws.one_answer g text r s is.names (laws.read f g text r (laws.alike head f g one two) h) k no_first no_second

-- a text that means inputs isn't refused
read_once : DataLaws → (head : PlainUnit) (text words : List ℕ) (inputs : PlainInputs) → IsMeant head text inputs → IsDataRefused head text words → ⊥
read_once laws head text words inputs one two =
    not_an_error (carried inputs) two.why
    (one_by laws head text one.frame two.frame (Ok (carried inputs)) (Err two.why) one.of two.of two.is one.means two.refused.answers
    (λ e. not_an_error _ _ e) (λ e. two.refused.cause (same_error two.why _ _ _ refl refl e)))

-- it means no others, by whatever frame of the unit
pub meant_by : DataLaws → (head : PlainUnit) (text : List ℕ) (i j : PlainInputs) (f : Frame) → IsFrameOf head f → MeansFitting f text (carried i) → IsMeant head text j → i ≡ j
meant_by laws head text i j f of means two =
    ap (λ (c : Inputs). inputs_in c)
    (same_ok (carried i) (carried j) _ _ refl refl
    (one_by laws head text f two.frame (Ok (carried i)) (Ok (carried j)) of two.of two.is means two.means (λ e. not_an_error _ _ e) (λ e. not_an_error _ _ e)))

meant_once : DataLaws → (head : PlainUnit) (text : List ℕ) (i j : PlainInputs) → IsMeant head text i → IsMeant head text j → i ≡ j
meant_once laws head text i j one two = meant_by laws head text i j one.frame one.of one.means two

data_why : (head : PlainUnit) (text : List ℕ) (f : Frame) → IsFrameOf head f → IsFrame f → IsAnswered f text → ((inputs : PlainInputs) × IsMeant head text inputs) ⊎ ((why : Why) × IsDataWhy head text why)
data_why head text f of is (inl (i, means)) = inl (inputs_in i, record { frame = f; of = of; is = is; means = means })
data_why head text f of is (inr (why, refused)) =
    inr (of_data (data_refusal_text f why), record { frame = f; of = of; is = is; why = why; refused = refused; written = refl })

data_apart : DataLaws → (head : PlainUnit) (text : List ℕ) (inputs : PlainInputs) (why : Why) → IsMeant head text inputs → IsDataWhy head text why → ⊥
data_apart laws head text inputs (of_source why) one two = two
data_apart laws head text inputs (of_data words) one two = read_once laws head text words inputs one two
data_apart laws head text inputs (of_flip why) one two = two

data_status : (head : PlainUnit) (text : List ℕ) (v w : Why) → IsDataWhy head text v → IsDataWhy head text w → status_of (stop_for v) ≡ status_of (stop_for w)
data_status head text (of_data v) (of_data w) one two = refl
data_status head text (of_source v) w one two = absurd one
data_status head text (of_flip v) w one two = absurd one
data_status head text (of_data v) (of_source w) one two = absurd two
data_status head text (of_data v) (of_flip w) one two = absurd two

pub read_decided : DataLaws → (head : PlainUnit) (text : List ℕ) → HasFrame head → IsDecided (IsMeant head text) (IsDataWhy head text)
read_decided laws head text framed = record {
  some = data_why head text framed.frame framed.of framed.is (laws.some_answer framed.frame text framed.is.names);
  apart = data_apart laws head text;
  one = λ i j one two. meant_once laws head text i j one two;
  same = data_status head text;
}
