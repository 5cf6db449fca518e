-- What the code answers of a text that it refuses.
use Rattle.std.proofs.Common.{◌≡◌, ◌⊎◌, ℕ, ◌≤◌, false, List, length, Option, Some, None, is_some, Result, Ok, Err, MatchResult, sym, ap, subst, ◌∙◌, inl, inr, arith}
use Rattle.std.proofs.lemmas.Bool.{both_ways}
use Rattle.acceptance.specs.Printed.{IsAcceptedPrinted}
use Rattle.acceptance.specs.Trees.{IsSourceTree, IsPrintedTree}
use Rattle.c_tree.specs.Grammar.Texts.{IsText}
use Rattle.c_tree.specs.Grammar.Tokens.{is_printed}
use Rattle.c_tree.specs.Plain.{PlainUnit}
use Rattle.c_tree.specs.declared.frame.Frame.{Frame}
use Rattle.c_tree.specs.declared.frame.Inputs.{Inputs}
use Rattle.c_tree.specs.declared.refusal.Refusal.{Refusal}
use Rattle.c_tree.specs.declared.refusal.Refusal.TheVariants as refusal
use Rattle.c_parser.specs.Answers.{IsRefused}
use Rattle.command_line.specs.Stops.{stop_of, flip_stop_of}
use Rattle.data_file.specs.Conditions.{IsFrame}
use Rattle.data_file.specs.Frames.{IsFrameOf}
use Rattle.fault_plan.specs.Answers.{Answers}
use Rattle.fault_plan.specs.declared.refusal.FlipRefusal.{FlipRefusal}
use Rattle.fault_plan.specs.declared.refusal.FlipRefusal.TheVariants as flip
use Rattle.kernel_check.specs.Judging.{IsLowest}
use Rattle.top_call.specs.Sources.{Wanted, AnyText, judged_by, IsInPlace, Refuses}
use Rattle.top_call.specs.Stages.{IsFlipWhyBy, IsFramed, IsOwn, IsRefusedFor, IsSourceOf, IsSourceStop, IsTaken, IsUnitWhy}
use Rattle.top_call.specs.Whys.{StopsFor}
use Rattle.top_call.proofs.TextLaws.{unit_refused}

-- what the parser refuses is refused, sources and printed texts being wanted
pub refused_any : (text : List ℕ) (why : Refusal) → length text ≤ 16777216 → IsRefused text why → IsRefusedFor AnyText text why
refused_any text refusal.OutOfMemory small is = tt
refused_any text (refusal.Lexical byte) small is = is.1
refused_any text (refusal.Syntax byte) small is = is.1
refused_any text (refusal.TextTooLong n) small is = absurd (omega (arith, is.0))
refused_any text _ small is = absurd is

-- ---- trees

no_one : (o : Option ℕ) → o ≡ None → o ≡ Some 1 → ⊥
no_one o none some = cc

no_none : (o : Option ℕ) (v : ℕ) → o ≡ Some v → o ≡ None → ⊥
no_none o v some none = cc

pub source_tree : (a : PlainUnit) → a.version ≡ None → IsSourceTree a ⊎ IsPrintedTree a → IsSourceTree a
source_tree a none (inl tree) = tree
source_tree a none (inr tree) = absurd (no_one a.version none tree.version)

pub printed_tree : (a : PlainUnit) (v : ℕ) → a.version ≡ Some v → IsSourceTree a ⊎ IsPrintedTree a → IsPrintedTree a
printed_tree a v some (inl tree) = absurd (no_none a.version v some tree.version)
printed_tree a v some (inr tree) = tree

-- the unit of a text that isn't printed has the tree of a source
pub unprinted_source : (text : List ℕ) (a : PlainUnit) → IsText text a → is_some a.version ≡ is_printed text → IsSourceTree a ⊎ IsPrintedTree a → is_printed text ≡ false → IsSourceOf text a
unprinted_source text a is version (inl tree) plain = record { is_text = is; plain = plain; tree = tree }
unprinted_source text a is version (inr tree) plain = absurd (both_ways (is_printed text) plain (sym version ∙ ap is_some tree.version))

-- ---- a unit that is refused

own_refusal : (why : Refusal) → why ≡ refusal.OutOfMemory → (kind : Wanted) (text : List ℕ) → IsRefusedFor kind text why
own_refusal why same kind text = subst (λ (e : Refusal). IsRefusedFor kind text e) (sym same) tt

refused_by : (kind : Wanted) (text : List ℕ) (why : Refusal) → Refuses kind text why → IsRefusedFor kind text why
refused_by kind text refusal.OutOfMemory h = tt
refused_by kind text why h = h

refused_unit : (kind : Wanted) (text : List ℕ) (a : PlainUnit) (why : Refusal) → IsText text a → IsInPlace kind text → IsUnitWhy a why → IsRefusedFor kind text why
refused_unit kind text a why is place (inl same) = own_refusal why same kind text
refused_unit kind text a why is place (inr low) = refused_by kind text why (unit_refused kind text why place (record { unit = a; is_text = is; lowest_is = low }))

pub printed_why : (a : PlainUnit) (why : Refusal) → a.version ≡ Some 1 → (why ≡ refusal.OutOfMemory) ⊎ IsLowest a (judged_by (Some 1) a) why → IsUnitWhy a why
printed_why a why version (inl same) = inl same
printed_why a why version (inr low) = inr (subst (λ (v : Option ℕ). IsLowest a (judged_by v a) why) (sym version) low)

-- ---- a unit that is taken

pub own_printed : (u v : PlainUnit) (f : Frame) → v ≡ u → IsAcceptedPrinted u → IsFrameOf u f → IsFrame f → IsOwn AnyText u v f
own_printed u v f same accepted of is =
    record { same = same; framed = subst (λ (w : PlainUnit). IsFramed AnyText w f) (sym same) (record { accepted = inr accepted; of = of; is = is }) }

taken_by : (kind : Wanted) (text : List ℕ) (a v : PlainUnit) (f : Frame) → IsText text a → IsOwn kind a v f → IsTaken kind text v f
taken_by kind text a v f is own = record { is_text = subst (IsText text) (sym own.same) is; framed = own.framed }

-- what is said of the unit of a text is said of the text
pub of_text : {X : Type 0} (kind : Wanted) (text : List ℕ) (a : PlainUnit) (view : X → PlainUnit) (frame : X → Frame) (r : Result X Refusal) → IsText text a → IsInPlace kind text
    → MatchResult r (λ x. IsOwn kind a (view x) (frame x)) (IsUnitWhy a) → MatchResult r (λ x. IsTaken kind text (view x) (frame x)) (IsRefusedFor kind text)
of_text kind text a view frame (Ok x) is place own = taken_by kind text a (view x) (frame x) is own
of_text kind text a view frame (Err why) is place refused = refused_unit kind text a why is place refused

-- ---- a refusal as the cause that it is

pub stop_by : (kind : Wanted) (text : List ℕ) (why : Refusal) → IsRefusedFor kind text why → IsSourceStop kind text (stop_of why)
stop_by kind text refusal.OutOfMemory h = tt
stop_by kind text (refusal.Lexical byte) h = h
stop_by kind text (refusal.Syntax byte) h = h
stop_by kind text _ h = h

pub flip_stop_by : (f : Frame) (i : Inputs) (text : List ℕ) (why : FlipRefusal) → Answers f i text (Err why) → StopsFor (IsFlipWhyBy f i text) (flip_stop_of why)
flip_stop_by f i text flip.OutOfMemory h = tt
flip_stop_by f i text flip.Syntax h = record { answers = h; cause = λ e. let no : ⊥ = cc in no }
flip_stop_by f i text flip.UnknownArray h = record { answers = h; cause = λ e. let no : ⊥ = cc in no }
flip_stop_by f i text flip.CellOutside h = record { answers = h; cause = λ e. let no : ⊥ = cc in no }
flip_stop_by f i text flip.BitOutside h = record { answers = h; cause = λ e. let no : ⊥ = cc in no }
