-- What reading a text answers, and where.
use Rattle.std.specs.Prelude.{◌≡◌, ◌⊎◌, ℕ, ◌≤◌, ◌<◌, List, length, Contains, Result, Ok, Err}
use Rattle.c_tree.specs.Grammar.Texts.{IsText, lexemes}
use Rattle.c_tree.specs.Grammar.Units.{IsUnit}
use Rattle.c_tree.specs.Grammar.Tokens.{AreTokens, StopsAt}
use Rattle.c_tree.specs.Plain.{PlainUnit}
use Rattle.c_tree.specs.Trees.{unit}
use Rattle.c_tree.specs.declared.refusal.Refusal.{Refusal}
use Rattle.c_tree.specs.declared.refusal.Refusal.TheVariants as refusal
use Rattle.c_tree.specs.declared.token.Token.{Token}
use Rattle.c_tree.specs.declared.unit.Unit.{Unit as TheUnit}

-- how many bytes a text may have
abbrev pub longest : ℕ
longest = 16777216

-- the first byte of one of the tokens, or the text's length
abbrev pub IsAmong : List ℕ → List Token → ℕ → Type 0
IsAmong text ts byte = (byte ≡ length text) ⊎ ((token : Token) × Contains ts token × (byte ≡ token.start))

-- the first byte of a token, or the text's length
pub record IsPlace (text : List ℕ) (byte : ℕ) : Type 0 where
  pub tokens : List Token
  pub are_tokens : AreTokens text tokens
  pub place : IsAmong text tokens byte

-- The text has tokens, and they are no unit. The byte is that of some token, or the text's length.
pub record HasNoUnit (text : List ℕ) (byte : ℕ) : Type 0 where
  pub place : IsPlace text byte
  pub none : (u : PlainUnit) → IsText text u → ⊥

-- what reading a list of tokens answers
abbrev pub IsUnitOf : List ℕ → List Token → Result TheUnit Refusal → Type 0
IsUnitOf text ts (Ok u) = IsUnit (lexemes text ts) (unit u)
IsUnitOf text ts (Err (refusal.Syntax byte)) = ((u : PlainUnit) → IsUnit (lexemes text ts) u → ⊥) × IsAmong text ts byte
IsUnitOf text ts (Err refusal.OutOfMemory) = Unit {0}
IsUnitOf text ts (Err _) = ⊥

-- what reading a text that isn't too long answers
abbrev pub IsAnswer : List ℕ → Result TheUnit Refusal → Type 0
IsAnswer text (Ok u) = IsText text (unit u)
IsAnswer text (Err (refusal.Lexical byte)) = StopsAt text byte
IsAnswer text (Err (refusal.Syntax byte)) = HasNoUnit text byte
IsAnswer text (Err refusal.OutOfMemory) = Unit {0}
IsAnswer text (Err _) = ⊥

-- Which texts are refused so.
abbrev pub IsRefused : List ℕ → Refusal → Type 0
IsRefused text (refusal.TextTooLong n) = (longest < length text) × (n ≡ length text)
IsRefused text (refusal.Lexical byte) = (length text ≤ longest) × StopsAt text byte
IsRefused text (refusal.Syntax byte) = (length text ≤ longest) × HasNoUnit text byte
IsRefused text refusal.OutOfMemory = Unit {0}
IsRefused text _ = ⊥

-- ---- each cause has its answer, unless memory runs out

-- the unit
abbrev pub IsUnless : PlainUnit → Result TheUnit Refusal → Type 0
IsUnless u (Ok v) = unit v ≡ u
IsUnless u (Err e) = e ≡ refusal.OutOfMemory

-- this refusal
abbrev pub IsRefusedUnless : Refusal → Result TheUnit Refusal → Type 0
IsRefusedUnless e (Ok v) = ⊥
IsRefusedUnless e (Err f) = (f ≡ e) ⊎ (f ≡ refusal.OutOfMemory)

-- a refusal of the text's tokens, at whichever of them
abbrev pub IsSyntaxUnless : Result TheUnit Refusal → Type 0
IsSyntaxUnless (Ok v) = ⊥
IsSyntaxUnless (Err (refusal.Syntax byte)) = Unit {0}
IsSyntaxUnless (Err refusal.OutOfMemory) = Unit {0}
IsSyntaxUnless (Err _) = ⊥
