-- From the answer about tokens to that about the text, and that each text has its answer.
use Rattle.std.proofs.Common.{◌≡◌, inl, inr, ℕ, ◌≤◌, List, length, Some, None, Result, Ok, Err, refl, ap, subst}
use Rattle.c_tree.specs.Grammar.Texts.{IsText, lexemes}
use Rattle.c_tree.specs.Grammar.Tokens.{AreTokens, StopsAt}
use Rattle.c_tree.specs.Grammar.Units.{IsUnit}
use Rattle.c_tree.specs.Plain.{PlainUnit}
use Rattle.c_tree.specs.Trees.{unit}
use Rattle.c_tree.specs.declared.refusal.Refusal.{Refusal}
use Rattle.c_tree.specs.declared.refusal.Refusal.TheVariants as refusal
use Rattle.c_tree.specs.declared.token.Token.{Token}
use Rattle.c_tree.specs.declared.unit.Unit.{Unit as TheUnit}
use Rattle.c_tree.specs.Grammar.Lexemes.{Lexeme}
use Rattle.grammar_reading.specs.UnitReading.{unit_at}
use Rattle.c_parser.specs.Answers.{IsUnitOf, IsAnswer, IsRefused, IsUnless, IsRefusedUnless, IsSyntaxUnless}

-- the laws of tokens
pub record TokenLaws : Type 0 where
  pub not_both : (text : List ℕ) (ts : List Token) (byte : ℕ) → AreTokens text ts → StopsAt text byte → ⊥
  pub one_list : (text : List ℕ) (ts us : List Token) → AreTokens text ts → AreTokens text us → ts ≡ us
  pub one_byte : (text : List ℕ) (first second : ℕ) → StopsAt text first → StopsAt text second → first ≡ second

-- tokens without a unit
not_read : (ts : List Lexeme) (u : PlainUnit) → unit_at ts ≡ None → unit_at ts ≡ Some u → ⊥
not_read ts u e f = cc

pub no_unit_of : (ts us : List Lexeme) → ((ts : List Lexeme) (u : PlainUnit) → IsUnit ts u → unit_at ts ≡ Some u) → ts ≡ us → unit_at ts ≡ None → (u : PlainUnit) → IsUnit us u → ⊥
no_unit_of ts us reads same none u d = not_read us u (subst (λ (zs : List Lexeme). unit_at zs ≡ None) same none) (reads us u d)

pub answer_of : (laws : TokenLaws) (text : List ℕ) (ts : List Token) (r : Result TheUnit Refusal) → AreTokens text ts → IsUnitOf text ts r → IsAnswer text r
answer_of laws text ts (Ok u) are h = record { tokens = ts; are_tokens = are; is_unit = h }
answer_of laws text ts (Err (refusal.Syntax byte)) are h = record {
  place = record { tokens = ts; are_tokens = are; place = h.1 };
  none = λ u d. h.0 u (subst (λ (us : List Token). IsUnit (lexemes text us) u) (laws.one_list text d.tokens ts d.are_tokens are) d.is_unit);
}
answer_of laws text ts (Err refusal.OutOfMemory) are h = tt
answer_of laws text ts (Err _) are h = absurd h

pub is_refused : (text : List ℕ) (e : Refusal) → length text ≤ 16777216 → IsAnswer text (Err e) → IsRefused text e
is_refused text (refusal.Lexical byte) short h = (short, h)
is_refused text (refusal.Syntax byte) short h = (short, h)
is_refused text refusal.OutOfMemory short h = tt
is_refused text _ short h = absurd h

pub is_unit : (laws : TokenLaws) (once : (text : List ℕ) (u v : PlainUnit) → IsText text u → IsText text v → u ≡ v) (text : List ℕ) (r : Result TheUnit Refusal) → IsAnswer text r → (u : PlainUnit) → IsText text u → IsUnless u r
is_unit laws once text (Ok v) h u d = once text (unit v) u h d
is_unit laws once text (Err (refusal.Lexical byte)) h u d = absurd (laws.not_both text d.tokens byte d.are_tokens h)
is_unit laws once text (Err (refusal.Syntax byte)) h u d = absurd (h.none u d)
is_unit laws once text (Err refusal.OutOfMemory) h u d = refl
is_unit laws once text (Err _) h u d = absurd h

pub is_lexical : (laws : TokenLaws) (text : List ℕ) (r : Result TheUnit Refusal) → IsAnswer text r → (byte : ℕ) → StopsAt text byte → IsRefusedUnless (refusal.Lexical byte) r
is_lexical laws text (Ok v) h byte stops = laws.not_both text h.tokens byte h.are_tokens stops
is_lexical laws text (Err (refusal.Lexical other)) h byte stops = inl (ap (λ (n : ℕ). refusal.Lexical n) (laws.one_byte text other byte h stops))
is_lexical laws text (Err (refusal.Syntax other)) h byte stops = absurd (laws.not_both text h.place.tokens byte h.place.are_tokens stops)
is_lexical laws text (Err refusal.OutOfMemory) h byte stops = inr refl
is_lexical laws text (Err _) h byte stops = absurd h

pub is_syntax : (laws : TokenLaws) (text : List ℕ) (r : Result TheUnit Refusal) → IsAnswer text r → (ts : List Token) → AreTokens text ts → ((u : PlainUnit) → IsText text u → ⊥) → IsSyntaxUnless r
is_syntax laws text (Ok v) h ts are none = none (unit v) h
is_syntax laws text (Err (refusal.Lexical byte)) h ts are none = laws.not_both text ts byte are h
is_syntax laws text (Err (refusal.Syntax byte)) h ts are none = tt
is_syntax laws text (Err refusal.OutOfMemory) h ts are none = tt
is_syntax laws text (Err _) h ts are none = h
