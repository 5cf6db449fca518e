-- Which texts a command takes, with which unit, and which it refuses.
use Rattle.std.specs.Prelude.{◌≡◌, ◌⊎◌, ℕ, Bool, true, false, List, Option, Some, None}
use Rattle.acceptance.specs.Printed.{IsAcceptedPrinted}
use Rattle.acceptance.specs.Sources.{IsAcceptedSource, judged}
use Rattle.c_tree.specs.Grammar.Texts.{IsText}
use Rattle.c_tree.specs.Grammar.Tokens.{AreTokens, StopsAt, is_printed}
use Rattle.c_tree.specs.Plain.{PlainUnit}
use Rattle.c_tree.specs.declared.refusal.Refusal.{Refusal}
use Rattle.c_tree.specs.declared.refusal.Refusal.TheVariants as refusal
use Rattle.c_tree.specs.declared.token.Token.{Token}
use Rattle.c_parser.specs.Answers.{HasNoUnit}
use Rattle.kernel_check.specs.Judging.{IsLowest, printed_judged}
use Rattle.top_call.specs.Whys.{Why, of_source, of_data, of_flip}

-- Which texts a command takes.
pub data Wanted : Type 0 where
  -- accepted sources
  AnySource : Wanted
  -- these, and accepted printed texts
  AnyText : Wanted

-- the numbers of the refusals of a unit, with the least item of each: those of a source, or of a printed unit
abbrev pub judged_by : Option ℕ → PlainUnit → List (ℕ × Option ℕ)
judged_by None u = judged u
judged_by (Some v) u = printed_judged u

abbrev pub judged_of : PlainUnit → List (ℕ × Option ℕ)
judged_of u = judged_by u.version u

abbrev pub IsTakenUnit : Wanted → PlainUnit → Type 0
IsTakenUnit AnySource u = IsAcceptedSource u
IsTakenUnit AnyText u = IsAcceptedSource u ⊎ IsAcceptedPrinted u

-- The text has a unit that the command takes.
pub record Accepts (wanted : Wanted) (text : List ℕ) (unit : PlainUnit) : Type 0 where
  pub is_text : IsText text unit
  pub accepted : IsTakenUnit wanted unit

-- A printed text, where a source is wanted.
pub record IsMisplaced (text : List ℕ) (byte : ℕ) : Type 0 where
  pub tokens : List Token
  pub are_tokens : AreTokens text tokens
  pub printed : is_printed text ≡ true
  pub at_start : byte ≡ 0

-- The text has a unit that this refuses: the lowest number that holds anywhere, with its least item.
pub record IsRefusedUnit (text : List ℕ) (why : Refusal) : Type 0 where
  pub unit : PlainUnit
  pub is_text : IsText text unit
  pub lowest_is : IsLowest unit (judged_of unit) why

abbrev pub misplaced : Wanted → List ℕ → Bool
misplaced AnySource text = is_printed text
misplaced AnyText text = false

-- where the command takes a source alone, and where it takes a printed text too
abbrev pub IsInPlace : Wanted → List ℕ → Type 0
IsInPlace wanted text = misplaced wanted text ≡ false

abbrev pub HasNoUnitFor : Wanted → List ℕ → ℕ → Type 0
HasNoUnitFor AnyText text byte = HasNoUnit text byte
HasNoUnitFor AnySource text byte = IsMisplaced text byte ⊎ (IsInPlace AnySource text × HasNoUnit text byte)

-- a refusal of a printed text where a source is wanted
abbrev pub at_start : Refusal → Refusal
at_start (refusal.Syntax byte) = refusal.Syntax 0
at_start why = why

abbrev pub Refuses : Wanted → List ℕ → Refusal → Type 0
Refuses wanted text (refusal.Lexical byte) = StopsAt text byte
Refuses wanted text (refusal.Syntax byte) = HasNoUnitFor wanted text byte
Refuses wanted text why = IsInPlace wanted text × IsRefusedUnit text why

-- the reasons for which a text is refused
abbrev pub IsSourceWhy : Wanted → List ℕ → Why → Type 0
IsSourceWhy wanted text (of_source why) = Refuses wanted text why
IsSourceWhy wanted text (of_data words) = ⊥
IsSourceWhy wanted text (of_flip why) = ⊥
