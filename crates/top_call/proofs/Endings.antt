-- What the ending of a plan says, by induction over the stages.
use Rattle.std.proofs.Common.{◌≡◌, ◌⊎◌, ℕ, ◌<◌, ◌≤◌, List, [], ◌∷◌, ◌++◌, length, Option, Some, None, Result, Ok, Err, inl, inr, sym, ◌∙◌, ap, subst, refl, arith}
use Rattle.std.proofs.lemmas.Bool.{cases_lt}
use Rattle.std.proofs.lemmas.Option.{same_Some}
use Rattle.edge.specs.Files.{file_of}
use Rattle.command_line.specs.Lines.{limit_of}
use Rattle.command_line.specs.Statuses.{status_of, finish_status, ideal_status}
use Rattle.command_line.specs.declared.outcome.FileWord.{FileWord}
use Rattle.command_line.specs.declared.outcome.Output.{Output}
use Rattle.command_line.specs.declared.outcome.Stop.{Stop}
use Rattle.command_line.specs.declared.outcome.Stop.TheVariants.{ReadFault, TooLong, SourceRefused, DataRefused, FlipRefused, NoMemory}
use Rattle.top_call.specs.Plans.{Plan, load, ask, give, Files, Ends, Defined, Passes, Reaches, AsksOnly}
use Rattle.top_call.specs.Whys.{Why, of_source, of_data, of_flip, stop_for}

-- neither a fault nor want of memory
abbrev pub IsOwn : Result Output Stop → Type 0
IsOwn (Ok output) = Unit {0}
IsOwn (Err (ReadFault word)) = ⊥
IsOwn (Err (TooLong word)) = Unit {0}
IsOwn (Err (SourceRefused refusal)) = Unit {0}
IsOwn (Err (DataRefused why)) = Unit {0}
IsOwn (Err (FlipRefused refusal)) = Unit {0}
IsOwn (Err NoMemory) = ⊥

-- a fault at this load
abbrev pub IsFaultAt : FileWord → Result Output Stop → Type 0
IsFaultAt at (Ok output) = ⊥
IsFaultAt at (Err (ReadFault word)) = at ≡ word
IsFaultAt at (Err (TooLong word)) = ⊥
IsFaultAt at (Err (SourceRefused refusal)) = ⊥
IsFaultAt at (Err (DataRefused why)) = ⊥
IsFaultAt at (Err (FlipRefused refusal)) = ⊥
IsFaultAt at (Err NoMemory) = ⊥

-- no question stops so
no_fault : (at : FileWord) (why : Why) → IsFaultAt at (Err (stop_for why)) → ⊥
no_fault at (of_source refusal) fault = fault
no_fault at (of_data words) fault = fault
no_fault at (of_flip refusal) fault = fault

-- an ending of the plan's own is the defined one
pub defined_end : (plan : Plan) (files : Files) (rose : Type 0) (names : List (List ℕ)) (outcome : Result Output Stop) → IsOwn outcome → Ends plan files rose names outcome → Defined plan files outcome
unfolding Ends Defined
defined_end (load word name next) files rose names outcome own (inl h) = absurd (subst IsOwn h.1 own)
defined_end (load word name next) files rose names outcome own (inr (inl h)) = absurd (subst IsOwn h.1 own)
defined_end (load word name next) files rose names outcome own (inr (inr (inl h))) = inr (inl (h.2, h.1))
defined_end (load word name next) files rose names outcome own (inr (inr (inr h))) = inr (inr (h.0, h.2, h.3, defined_end (next h.0) files rose h.1 outcome own h.5))
defined_end (ask answers stops next) files rose names outcome own (inl h) = absurd (subst IsOwn h.1 own)
defined_end (ask answers stops next) files rose names outcome own (inr (inl h)) = inl (h.0, h.1, h.3)
defined_end (ask answers stops next) files rose names outcome own (inr (inr h)) = inr (h.0, h.1, defined_end (next h.0) files rose names outcome own h.2)
defined_end (give is) files rose names outcome own (e, inl h) = h
defined_end (give is) files rose names outcome own (e, inr h) = absurd (subst IsOwn h own)

-- a fault has its cause, at a load that is reached
pub fault_end : (plan : Plan) (files : Files) (rose : Type 0) (names : List (List ℕ)) (at : FileWord) (outcome : Result Output Stop) → IsFaultAt at outcome → Ends plan files rose names outcome → rose × Reaches plan files at
unfolding Ends Reaches
fault_end (load word name next) files rose names at outcome fault (inl h) = absurd (subst (IsFaultAt at) h.1 fault)
fault_end (load word name next) files rose names at outcome fault (inr (inl h)) = (h.2, inl (subst (IsFaultAt at) h.1 fault))
fault_end (load word name next) files rose names at outcome fault (inr (inr (inl h))) = absurd (subst (IsFaultAt at) h.1 fault)
fault_end (load word name next) files rose names at outcome fault (inr (inr (inr h))) =
    let rest = fault_end (next h.0) files rose h.1 at outcome fault h.5 in (rest.0, inr (h.0, h.2, h.3, rest.1))
fault_end (ask answers stops next) files rose names at outcome fault (inl h) = absurd (subst (IsFaultAt at) h.1 fault)
fault_end (ask answers stops next) files rose names at outcome fault (inr (inl h)) = absurd (no_fault at h.0 (subst (IsFaultAt at) h.3 fault))
fault_end (ask answers stops next) files rose names at outcome fault (inr (inr h)) =
    let rest = fault_end (next h.0) files rose names at outcome fault h.2 in (rest.0, (h.0, h.1, rest.1))
fault_end (give is) files rose names at outcome fault (e, inl h) = absurd (subst (IsFaultAt at) h.2 fault)
fault_end (give is) files rose names at outcome fault (e, inr h) = absurd (subst (IsFaultAt at) h fault)

none_asked : (names words : List (List ℕ)) → names ≡ [] → (others : List (List ℕ)) × (words ≡ names ++ others)
none_asked names words none = (words, ap (λ ns. ns ++ words) (sym none))

-- the names asked are a prefix of the plan's
pub asked_end : (plan : Plan) (words : List (List ℕ)) (files : Files) (rose : Type 0) (names : List (List ℕ)) (outcome : Result Output Stop) → AsksOnly plan words → Ends plan files rose names outcome → (others : List (List ℕ)) × (words ≡ names ++ others)
unfolding Ends
asked_end (load word name next) [] files rose names outcome asks ends = absurd asks
asked_end (load word name next) (first ∷ words) files rose names outcome asks (inl h) = none_asked names (first ∷ words) h.0
asked_end (load word name next) (first ∷ words) files rose names outcome asks (inr (inl h)) =
    (words, ap (λ n. n ∷ words) (sym asks.0) ∙ ap (λ ns. ns ++ words) (sym h.0))
asked_end (load word name next) (first ∷ words) files rose names outcome asks (inr (inr (inl h))) =
    (words, ap (λ n. n ∷ words) (sym asks.0) ∙ ap (λ ns. ns ++ words) (sym h.0))
asked_end (load word name next) (first ∷ words) files rose names outcome asks (inr (inr (inr h))) =
    let rest = asked_end (next h.0) words files rose h.1 outcome (asks.1 h.0) h.5 in
    (rest.0, ap (λ n. n ∷ words) (sym asks.0) ∙ ap (λ ws. name ∷ ws) rest.1 ∙ ap (λ ns. ns ++ rest.0) (sym h.4))
asked_end (ask answers stops next) words files rose names outcome asks (inl h) = none_asked names words h.0
asked_end (ask answers stops next) words files rose names outcome asks (inr (inl h)) = none_asked names words h.2
asked_end (ask answers stops next) words files rose names outcome asks (inr (inr h)) = asked_end (next h.0) words files rose names outcome (asks h.0) h.2
asked_end (give is) words files rose names outcome asks h = none_asked names words h.0

-- a fault doesn't matter to this outcome
abbrev pub IsCalmFor : Result Output Stop → Type 0 → Type 0
IsCalmFor (Ok output) rose = rose → ⊥
IsCalmFor (Err (ReadFault word)) rose = Unit {0}
IsCalmFor (Err (TooLong word)) rose = rose → ⊥
IsCalmFor (Err (SourceRefused why)) rose = rose → ⊥
IsCalmFor (Err (DataRefused why)) rose = rose → ⊥
IsCalmFor (Err (FlipRefused refusal)) rose = rose → ⊥
IsCalmFor (Err NoMemory) rose = rose → ⊥

-- where a fault matters to it there is none
fault_as_ideal : (word : FileWord) (rose : Type 0) (ideal : Result Output Stop) → IsCalmFor ideal rose → rose → ideal_status (Err (ReadFault word)) ≡ ideal_status ideal
fault_as_ideal word rose (Ok output) calm r = absurd (calm r)
fault_as_ideal word rose (Err (ReadFault w)) calm r = refl
fault_as_ideal word rose (Err (TooLong w)) calm r = absurd (calm r)
fault_as_ideal word rose (Err (SourceRefused why)) calm r = absurd (calm r)
fault_as_ideal word rose (Err (DataRefused why)) calm r = absurd (calm r)
fault_as_ideal word rose (Err (FlipRefused refusal)) calm r = absurd (calm r)
fault_as_ideal word rose (Err NoMemory) calm r = absurd (calm r)

not_absent : (file : Option (List ℕ)) (bytes : List ℕ) → file ≡ None → file ≡ Some bytes → ⊥
not_absent file bytes none some = cc

-- the file can't be both longer than the limit and within it
not_both : (file : Option (List ℕ)) (long short : List ℕ) (limit : ℕ) → limit < length long → file ≡ Some long → length short ≤ limit → file ≡ Some short → ⊥
not_both file long short limit above one within two =
    let lengths : length long ≡ length short = ap (λ b. length b) (same_Some long short (sym one ∙ two)) in absurd (omega arith)

-- ---- where each question has one answer

-- a question is answered or stops, never both, and has one answer or one status
pub record IsDecided {A : Type 0} (answers : A → Type 0) (stops : Why → Type 0) : Type 0 where
  pub some : ((answer : A) × answers answer) ⊎ ((why : Why) × stops why)
  pub apart : (answer : A) (why : Why) → answers answer → stops why → ⊥
  pub one : (a b : A) → answers a → answers b → a ≡ b
  pub same : (v w : Why) → stops v → stops w → status_of (stop_for v) ≡ status_of (stop_for w)

-- there is such a text, and all of them end alike
pub record IsGiven (is : Output → Type 0) : Type 0 where
  pub some : (output : Output) × is output
  pub same : (o p : Output) → is o → is p → o.finish ≡ p.finish

unfoldable pub IsSound : Plan → Type 0
IsSound (load word name next) = (bytes : List ℕ) → length bytes ≤ limit_of word → IsSound (next bytes)
IsSound (ask {A} answers stops next) = IsDecided answers stops × ((answer : A) → answers answer → IsSound (next answer))
IsSound (give is) = IsGiven is

-- over files that are told a plan ends as defined, but for faults and want of memory
pub determined : (plan : Plan) (files : List (List ℕ × List ℕ)) (rose : Type 0) (names : List (List ℕ)) (outcome ideal : Result Output Stop) → IsSound plan → IsCalmFor ideal rose → Ends plan (Some files) rose names outcome → Defined plan (Some files) ideal → (ideal_status outcome ≡ ideal_status ideal) ⊎ (outcome ≡ Err NoMemory)
unfolding Ends Defined IsSound
determined (load word name next) files rose names outcome ideal sound calm (inl h) d = inr h.1
determined (load word name next) files rose names outcome ideal sound calm (inr (inl h)) d = inl (ap ideal_status h.1 ∙ fault_as_ideal word rose ideal calm h.2)
determined (load word name next) files rose names outcome ideal sound calm (inr (inr (inl h))) (inl d) = absurd (not_absent (file_of files name) h.2.0 d.0 h.2.2)
determined (load word name next) files rose names outcome ideal sound calm (inr (inr (inl h))) (inr (inl d)) = inl (ap ideal_status (h.1 ∙ sym d.1))
determined (load word name next) files rose names outcome ideal sound calm (inr (inr (inl h))) (inr (inr d)) =
    absurd (not_both (file_of files name) h.2.0 d.0 (limit_of word) h.2.1 h.2.2 d.1 d.2)
determined (load word name next) files rose names outcome ideal sound calm (inr (inr (inr h))) (inl d) = absurd (not_absent (file_of files name) h.0 d.0 h.3)
determined (load word name next) files rose names outcome ideal sound calm (inr (inr (inr h))) (inr (inl d)) =
    absurd (not_both (file_of files name) d.0.0 h.0 (limit_of word) d.0.1 d.0.2 h.2 h.3)
determined (load word name next) files rose names outcome ideal sound calm (inr (inr (inr h))) (inr (inr d)) =
    let same : d.0 ≡ h.0 = same_Some d.0 h.0 (sym d.2 ∙ h.3) in
    let P : List ℕ → Type 0 = λ b. Defined (next b) (Some files) ideal in
    determined (next h.0) files rose h.1 outcome ideal (sound h.0 h.2) calm h.5 (subst P same d.3)
determined (ask answers stops next) files rose names outcome ideal sound calm (inl h) d = inr h.1
determined (ask answers stops next) files rose names outcome ideal sound calm (inr (inl h)) (inl d) =
    inl (ap ideal_status h.3 ∙ sound.0.same h.0 d.0 h.1 d.1 ∙ ap ideal_status (sym d.2))
determined (ask answers stops next) files rose names outcome ideal sound calm (inr (inl h)) (inr d) = absurd (sound.0.apart d.0 h.0 d.1 h.1)
determined (ask answers stops next) files rose names outcome ideal sound calm (inr (inr h)) (inl d) = absurd (sound.0.apart h.0 d.0 h.1 d.1)
determined (ask {A} answers stops next) files rose names outcome ideal sound calm (inr (inr h)) (inr d) =
    let P : A → Type 0 = λ a. Defined (next a) (Some files) ideal in
    determined (next h.0) files rose names outcome ideal (sound.1 h.0 h.1) calm h.2 (subst P (sound.0.one d.0 h.0 d.1 h.1) d.2)
determined (give is) files rose names outcome ideal sound calm (e, inl h) d =
    inl (ap ideal_status h.2 ∙ ap finish_status (sound.same h.0 d.0 h.1 d.1) ∙ ap ideal_status (sym d.2))
determined (give is) files rose names outcome ideal sound calm (e, inr h) d = inr h

-- ---- each plan has an ending that is defined, and one whose stages pass ends with a text

abbrev pub HasText : Plan → List (List ℕ × List ℕ) → Type 0
HasText plan files = (output : Output) × Defined plan (Some files) (Ok output)

pub passing_end : (plan : Plan) (files : List (List ℕ × List ℕ)) → IsSound plan → Passes plan (Some files) → HasText plan files
unfolding Passes Defined IsSound
passing_end (load word name next) files sound (bytes, within, there, rest) =
    let text = passing_end (next bytes) files (sound bytes within) rest in
    (text.0, inr (inr (bytes, within, there, text.1)))
passing_end (ask answers stops next) files sound (answer, is, rest) =
    let text = passing_end (next answer) files (sound.1 answer is) rest in
    (text.0, inr (answer, is, text.1))
passing_end (give is) files sound passes = (sound.some.0, (sound.some.0, sound.some.1, refl))

abbrev pub HasDefined : Plan → List (List ℕ × List ℕ) → Type 0
HasDefined plan files = (ideal : Result Output Stop) × Defined plan (Some files) ideal

load_ending : (word : FileWord) (name : List ℕ) (next : List ℕ → Plan) (files : List (List ℕ × List ℕ)) (file : Option (List ℕ)) → file_of files name ≡ file → ((bytes : List ℕ) → length bytes ≤ limit_of word → HasDefined (next bytes) files) → HasDefined (load word name next) files
unfolding Defined
load_ending word name next files None absent more = (Err (ReadFault word), inl (absent, refl))
load_ending word name next files (Some bytes) there more = by (cases_lt (limit_of word) (length bytes))
  where
    by : (limit_of word < length bytes) ⊎ (length bytes ≤ limit_of word) → HasDefined (load word name next) files
    by (inl above) = (Err (TooLong word), inr (inl ((bytes, above, there), refl)))
    by (inr within) = let rest = more bytes within in (rest.0, inr (inr (bytes, within, there, rest.1)))

ask_ending : {A : Type 0} (answers : A → Type 0) (stops : Why → Type 0) (next : A → Plan) (files : List (List ℕ × List ℕ)) → ((answer : A) × answers answer) ⊎ ((why : Why) × stops why) → ((answer : A) → answers answer → HasDefined (next answer) files) → HasDefined (ask answers stops next) files
unfolding Defined
ask_ending answers stops next files (inl (answer, is)) more = let rest = more answer is in (rest.0, inr (answer, is, rest.1))
ask_ending answers stops next files (inr (why, stop)) more = (Err (stop_for why), inl (why, stop, refl))

pub some_ending : (plan : Plan) (files : List (List ℕ × List ℕ)) → IsSound plan → HasDefined plan files
unfolding Defined IsSound
some_ending (load word name next) files sound =
    load_ending word name next files (file_of files name) refl (λ bytes within. some_ending (next bytes) files (sound bytes within))
some_ending (ask answers stops next) files sound =
    ask_ending answers stops next files sound.0.some (λ answer is. some_ending (next answer) files (sound.1 answer is))
some_ending (give is) files sound = (Ok sound.some.0, (sound.some.0, sound.some.1, refl))
