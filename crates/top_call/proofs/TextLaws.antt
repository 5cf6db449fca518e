-- What the laws of texts say of the judging of one: a text has one unit, and isn't both taken and refused.
use Rattle.std.proofs.Common.{◌≡◌, ◌⊎◌, ℕ, Bool, true, false, List, length, Option, Some, None, is_some, refl, sym, ap, subst, ◌∙◌, inl, inr}
use Rattle.std.proofs.lemmas.Bool.{both_ways}
use Rattle.acceptance.specs.Items.{lowest}
use Rattle.acceptance.specs.Printed.{IsAcceptedPrinted}
use Rattle.acceptance.specs.Sources.{IsAcceptedSource, judged}
use Rattle.acceptance.specs.Trees.{IsSourceTree, IsPrintedTree}
use Rattle.c_tree.specs.Grammar.Lexemes.{Lexeme}
use Rattle.c_tree.specs.Grammar.Texts.{IsText, lexemes}
use Rattle.c_tree.specs.Grammar.Tokens.{AreTokens, StopsAt, is_printed}
use Rattle.c_tree.specs.Grammar.Units.{IsUnit}
use Rattle.c_tree.specs.Plain.{PlainUnit}
use Rattle.c_tree.specs.declared.refusal.Refusal.{Refusal}
use Rattle.c_tree.specs.declared.refusal.Refusal.TheVariants as refusal
use Rattle.c_tree.specs.declared.token.Token.{Token}
use Rattle.c_parser.specs.Answers.{HasNoUnit}
use Rattle.kernel_check.specs.Judging.{IsLowest, printed_judged}
use Rattle.top_call.specs.Sources.{Wanted, AnyText, AnySource, judged_by, judged_of, IsTakenUnit, Accepts, Refuses, IsInPlace, IsRefusedUnit, misplaced}

-- nothing refuses the unit, or the lowest of these numbers does
abbrev pub Answer : PlainUnit → List (ℕ × Option ℕ) → Type 0
Answer a judged = (lowest judged ≡ None) ⊎ ((why : Refusal) × IsLowest a judged why)

-- the laws of texts that the parser and the lexer give
pub record TextLaws : Type 0 where
  pub once : (text : List ℕ) (a b : PlainUnit) → IsText text a → IsText text b → a ≡ b
  pub apart : (text : List ℕ) (ts : List Token) (byte : ℕ) → AreTokens text ts → StopsAt text byte → ⊥
  pub tokens : (text : List ℕ) → ((ts : List Token) × AreTokens text ts) ⊎ ((byte : ℕ) × StopsAt text byte)
  pub units : (text : List ℕ) → ((a : PlainUnit) × IsText text a) ⊎ ((a : PlainUnit) → IsText text a → ⊥)
  pub versions : (text : List ℕ) (a : PlainUnit) → IsText text a → is_some a.version ≡ is_printed text
  pub trees : (text : List ℕ) (a : PlainUnit) → IsText text a → IsSourceTree a ⊎ IsPrintedTree a
  pub refused : (a : PlainUnit) → Answer a (judged_of a)

-- ---- a text has a unit, or none, as its tokens do

-- the tokens have a unit, or none
abbrev HasUnitOrNone : List Lexeme → Type 0
HasUnitOrNone ts = ((a : PlainUnit) × IsUnit ts a) ⊎ ((a : PlainUnit) → IsUnit ts a → ⊥)

abbrev HasTextOrNone : List ℕ → Type 0
HasTextOrNone text = ((a : PlainUnit) × IsText text a) ⊎ ((a : PlainUnit) → IsText text a → ⊥)

abbrev OneList : Type 0
OneList = (text : List ℕ) (ts us : List Token) → AreTokens text ts → AreTokens text us → ts ≡ us

of_one_list : OneList → (text : List ℕ) (ts : List Token) → AreTokens text ts → HasUnitOrNone (lexemes text ts) → HasTextOrNone text
of_one_list one text ts are (inl some) = inl (some.0, record { tokens = ts; are_tokens = are; is_unit = some.1 })
of_one_list one text ts are (inr none) = inr (λ a d. none a (subst (λ (us : List Token). IsUnit (lexemes text us) a) (one text d.tokens ts d.are_tokens are) d.is_unit))

of_reading : ((text : List ℕ) (ts : List Token) (byte : ℕ) → AreTokens text ts → StopsAt text byte → ⊥) → OneList → ((ts : List Lexeme) → HasUnitOrNone ts) → (text : List ℕ) → ((ts : List Token) × AreTokens text ts) ⊎ ((byte : ℕ) × StopsAt text byte) → HasTextOrNone text
of_reading apart one units text (inl tokens) = of_one_list one text tokens.0 tokens.1 (units (lexemes text tokens.0))
of_reading apart one units text (inr stop) = inr (λ a d. apart text d.tokens stop.0 d.are_tokens stop.1)

pub units_of : ((text : List ℕ) → ((ts : List Token) × AreTokens text ts) ⊎ ((byte : ℕ) × StopsAt text byte)) → ((text : List ℕ) (ts : List Token) (byte : ℕ) → AreTokens text ts → StopsAt text byte → ⊥) → OneList → ((ts : List Lexeme) → HasUnitOrNone ts) → (text : List ℕ) → HasTextOrNone text
units_of tokens apart one units text = of_reading apart one units text (tokens text)

-- ---- a unit is refused or not

refused_by : (a : PlainUnit) → Answer a (judged a) → Answer a (printed_judged a) → (v : Option ℕ) → Answer a (judged_by v a)
refused_by a source printed None = source
refused_by a source printed (Some v) = printed

pub refused_as : ((a : PlainUnit) → Answer a (judged a)) → ((a : PlainUnit) → Answer a (printed_judged a)) → (a : PlainUnit) → Answer a (judged_of a)
refused_as source printed a = refused_by a (source a) (printed a) a.version

-- ---- units that are taken

none_some : (o : Option (ℕ × ℕ)) (p : ℕ × ℕ) → o ≡ None → o ≡ Some p → ⊥
none_some o p none some = cc

none_some_item : (item : ℕ) → ◌≡◌ {A = Option ℕ} None (Some item) → ⊥
none_some_item item h = cc

no_version : (o : Option ℕ) → o ≡ None → is_some o ≡ true → ⊥
no_version o none some = cc

no_one : (o : Option ℕ) → o ≡ None → o ≡ Some 1 → ⊥
no_one o none some = cc

unrefused_source : (a : PlainUnit) → IsAcceptedSource a → lowest (judged_of a) ≡ None
unrefused_source a h = ap (λ (v : Option ℕ). lowest (judged_by v a)) h.tree.version ∙ h.refused_nowhere

unrefused_printed : (a : PlainUnit) → IsAcceptedPrinted a → lowest (judged_of a) ≡ None
unrefused_printed a h = ap (λ (v : Option ℕ). lowest (judged_by v a)) h.tree.version ∙ h.refused_nowhere

unrefused : (kind : Wanted) (a : PlainUnit) → IsTakenUnit kind a → lowest (judged_of a) ≡ None
unrefused AnySource a h = unrefused_source a h
unrefused AnyText a (inl h) = unrefused_source a h
unrefused AnyText a (inr h) = unrefused_printed a h

-- the text of a source isn't printed
unprinted : TextLaws → (text : List ℕ) (a : PlainUnit) → IsText text a → IsAcceptedSource a → is_printed text ≡ true → ⊥
unprinted laws text a is source printed = no_version a.version source.tree.version (laws.versions text a is ∙ printed)

refused_once : TextLaws → (kind : Wanted) (text : List ℕ) (a : PlainUnit) (why : Refusal) → Accepts kind text a → IsRefusedUnit text why → ⊥
refused_once laws kind text a why one two =
    none_some (lowest (judged_of two.unit)) _
    (ap (λ (b : PlainUnit). lowest (judged_of b)) (laws.once text two.unit a two.is_text one.is_text) ∙ unrefused kind a one.accepted)
    two.lowest_is.lowest_is

-- a text that is taken isn't refused
pub judged_once : TextLaws → (kind : Wanted) (text : List ℕ) (a : PlainUnit) (why : Refusal) → Accepts kind text a → Refuses kind text why → ⊥
judged_once laws kind text a (refusal.Lexical byte) one two = laws.apart text one.is_text.tokens byte one.is_text.are_tokens two
judged_once laws AnySource text a (refusal.Syntax byte) one (inl two) = unprinted laws text a one.is_text one.accepted two.printed
judged_once laws AnySource text a (refusal.Syntax byte) one (inr two) = two.1.none a one.is_text
judged_once laws AnyText text a (refusal.Syntax byte) one two = two.none a one.is_text
judged_once laws kind text a why one two = refused_once laws kind text a why one two.1

-- ---- each text is taken or refused

abbrev Judged : Wanted → List ℕ → Type 0
Judged kind text = ((a : PlainUnit) × Accepts kind text a) ⊎ ((why : Refusal) × Refuses kind text why)

-- a refusal of a unit carries an item
pub unit_refused : (kind : Wanted) (text : List ℕ) (why : Refusal) → IsInPlace kind text → IsRefusedUnit text why → Refuses kind text why
unit_refused kind text (refusal.Lexical byte) place h = absurd (let no : ⊥ = none_some_item h.lowest_is.item h.lowest_is.carried in no)
unit_refused kind text (refusal.Syntax byte) place h = absurd (let no : ⊥ = none_some_item h.lowest_is.item h.lowest_is.carried in no)
unit_refused kind text why place h = (place, h)

-- a source of the grammar that no number refuses
source_judged : (kind : Wanted) (text : List ℕ) (a : PlainUnit) → IsText text a → IsAcceptedSource a → Judged kind text
source_judged AnySource text a is accepted = inl (a, record { is_text = is; accepted = accepted })
source_judged AnyText text a is accepted = inl (a, record { is_text = is; accepted = inl accepted })

-- a printed tree in the place of a source
no_source : TextLaws → (text : List ℕ) (a : PlainUnit) → IsText text a → IsPrintedTree a → is_printed text ≡ false → ⊥
no_source laws text a is tree plain = both_ways (is_printed text) plain (sym (laws.versions text a is) ∙ ap is_some tree.version)

printed_judged_by : TextLaws → (kind : Wanted) (text : List ℕ) (a : PlainUnit) → IsText text a → IsInPlace kind text → IsAcceptedPrinted a → Judged kind text
printed_judged_by laws AnySource text a is place accepted = absurd (no_source laws text a is accepted.tree place)
printed_judged_by laws AnyText text a is place accepted = inl (a, record { is_text = is; accepted = inr accepted })

unrefused_unit : TextLaws → (kind : Wanted) (text : List ℕ) (a : PlainUnit) → IsText text a → IsInPlace kind text → lowest (judged_of a) ≡ None → IsSourceTree a ⊎ IsPrintedTree a → Judged kind text
unrefused_unit laws kind text a is place none (inl tree) =
    source_judged kind text a is (record { tree = tree; refused_nowhere = sym (ap (λ (v : Option ℕ). lowest (judged_by v a)) tree.version) ∙ none })
unrefused_unit laws kind text a is place none (inr tree) =
    printed_judged_by laws kind text a is place (record { tree = tree; refused_nowhere = sym (ap (λ (v : Option ℕ). lowest (judged_by v a)) tree.version) ∙ none })

of_unit : TextLaws → (kind : Wanted) (text : List ℕ) → IsInPlace kind text → (a : PlainUnit) → IsText text a → (lowest (judged_of a) ≡ None) ⊎ ((why : Refusal) × IsLowest a (judged_of a) why) → Judged kind text
of_unit laws kind text place a is (inl none) = unrefused_unit laws kind text a is place none (laws.trees text a is)
of_unit laws kind text place a is (inr refused) = inr (refused.0, unit_refused kind text refused.0 place (record { unit = a; is_text = is; lowest_is = refused.1 }))

without : (text : List ℕ) (ts : List Token) → AreTokens text ts → ((a : PlainUnit) → IsText text a → ⊥) → HasNoUnit text (length text)
without text ts are none = record { place = record { tokens = ts; are_tokens = are; place = inl refl }; none = none }

no_unit : (kind : Wanted) (text : List ℕ) → IsInPlace kind text → HasNoUnit text (length text) → Refuses kind text (refusal.Syntax (length text))
no_unit AnyText text place none = none
no_unit AnySource text place none = inr (place, none)

of_tokens : TextLaws → (kind : Wanted) (text : List ℕ) → IsInPlace kind text → (ts : List Token) → AreTokens text ts → ((a : PlainUnit) × IsText text a) ⊎ ((a : PlainUnit) → IsText text a → ⊥) → Judged kind text
of_tokens laws kind text place ts are (inl some) = of_unit laws kind text place some.0 some.1 (laws.refused some.0)
of_tokens laws kind text place ts are (inr none) = inr (refusal.Syntax (length text), no_unit kind text place (without text ts are none))

of_kind : TextLaws → (kind : Wanted) (text : List ℕ) (ts : List Token) → AreTokens text ts → (b : Bool) → misplaced kind text ≡ b → Judged kind text
of_kind laws kind text ts are false place = of_tokens laws kind text place ts are (laws.units text)
of_kind laws AnyText text ts are true printed = absurd (let no : ⊥ = cc in no)
of_kind laws AnySource text ts are true printed = inr (refusal.Syntax 0, inl (record { tokens = ts; are_tokens = are; printed = printed; at_start = refl }))

of_text : TextLaws → (kind : Wanted) (text : List ℕ) → ((ts : List Token) × AreTokens text ts) ⊎ ((byte : ℕ) × StopsAt text byte) → Judged kind text
of_text laws kind text (inl tokens) = of_kind laws kind text tokens.0 tokens.1 (misplaced kind text) refl
of_text laws kind text (inr stop) = inr (refusal.Lexical stop.0, stop.1)

pub taken_or_refused : TextLaws → (kind : Wanted) (text : List ℕ) → ((a : PlainUnit) × Accepts kind text a) ⊎ ((why : Refusal) × Refuses kind text why)
taken_or_refused laws kind text = of_text laws kind text (laws.tokens text)
