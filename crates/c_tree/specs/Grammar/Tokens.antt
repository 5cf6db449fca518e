-- The tokens of a text by longest match, each with its place.
use Rattle.std.specs.Prelude.{◌≡◌, ◌≢◌, ℕ, ◌-◌, ◌^◌, ◌<◌, ◌≤◌, Bool, true, false, not, ◌&&◌, ◌||◌, ◌==◌, cond, nat_eq, bytes_eq, List, [], ◌∷◌, ◌++◌, length, take, drop, map, codes, Option, Some, None}
use Rattle.std.specs.List.{list_all, list_any, starts_with}
use Rattle.std.specs.Char.{is_ascii_hexdigit}
use Rattle.std.specs.Str.Parse.{digits_value}
use Rattle.c_tree.specs.declared.token.Token.{Token}
use Rattle.c_tree.specs.declared.token.TokenKind.{TokenKind}
use Rattle.c_tree.specs.declared.token.TokenKind.TheVariants.{Word, Literal, Mark, Directive, EndLine, Preamble}
use Rattle.c_tree.specs.Layout.{preamble}
use Rattle.c_tree.specs.Reserved.{is_digit, is_word, is_word_byte}
use Rattle.c_tree.specs.Grammar.Symbols.{marks}

abbrev pub Text : Type 0
Text = List ℕ

-- ---- bytes that are a word, a literal or a mark by themselves

abbrev pub is_among : List Text → Text → Bool
is_among xs x = list_any (bytes_eq x) xs

abbrev pub is_mark : Text → Bool
is_mark x = is_among (map (λ m. m.0) marks) x

-- `0`, or digits that begin with another digit
abbrev pub are_decimal : Text → Bool
are_decimal [] = false
are_decimal (d ∷ ds) = bytes_eq (d ∷ ds) (codes "0") || (not (nat_eq d 48) && list_all is_digit (d ∷ ds))

abbrev pub are_hexadecimal : Text → Bool
are_hexadecimal [] = false
are_hexadecimal (d ∷ ds) = list_all is_ascii_hexdigit (d ∷ ds)

-- `u` at most once, and one of `l` and `ll` at most once
abbrev pub suffixes : List Text
suffixes =
    codes "" ∷ codes "u" ∷ codes "U" ∷ codes "l" ∷ codes "L" ∷ codes "ll" ∷ codes "LL"
    ∷ codes "ul" ∷ codes "uL" ∷ codes "ull" ∷ codes "uLL" ∷ codes "Ul" ∷ codes "UL" ∷ codes "Ull" ∷ codes "ULL"
    ∷ codes "lu" ∷ codes "lU" ∷ codes "Lu" ∷ codes "LU" ∷ codes "llu" ∷ codes "llU" ∷ codes "LLu" ∷ codes "LLU" ∷ []

-- These bytes are by themselves a token of this kind.
pub data IsForm : Text → TokenKind → Type 0 where
  word : {x : Text} → is_word x ≡ true → IsForm x Word
  decimal : (ds suffix : Text) → are_decimal ds ≡ true → is_among suffixes suffix ≡ true → digits_value 10 ds < 2 ^ 64 → IsForm (ds ++ suffix) (Literal (digits_value 10 ds))
  hexadecimal : (x : Text) (ds suffix : Text) → is_among (codes "0x" ∷ codes "0X" ∷ []) x ≡ true → are_hexadecimal ds ≡ true → is_among suffixes suffix ≡ true → digits_value 16 ds < 2 ^ 64 → IsForm (x ++ (ds ++ suffix)) (Literal (digits_value 16 ds))
  mark : {x : Text} → is_mark x ≡ true → IsForm x Mark

-- ---- comments

-- no letter, digit or `_` goes on there
abbrev pub is_apart : Text → Bool
is_apart [] = true
is_apart (b ∷ z) = not (is_word_byte b)

abbrev pub is_line_end : Text → Bool
is_line_end [] = true
is_line_end (b ∷ z) = b == 10

abbrev pub is_in_line : ℕ → Bool
is_in_line b = not (b == 10)

-- space, tab, carriage return and form feed, which with the line feed are the blanks
abbrev pub is_gap : ℕ → Bool
is_gap b = b == 32 || b == 9 || b == 13 || b == 12

abbrev pub begins_comment : Text → Bool
begins_comment text = starts_with nat_eq text (codes "//") || starts_with nat_eq text (codes "/*")

-- at none of the first so many places a comment is closed
abbrev pub NotClosed : ℕ → Text → Type 0
NotClosed n text = (k : ℕ) → k < n → starts_with nat_eq (drop k text) (codes "*/") ≡ false

-- The text begins with a comment, and the second text is what follows it. A comment is closed at the first place where it may be.
pub data IsComment : Text → Text → Type 0 where
  to_line_end : {rest : Text} (body : Text) → list_all is_in_line body ≡ true → is_line_end rest ≡ true → IsComment (codes "//" ++ (body ++ rest)) rest
  to_close : {rest : Text} (body : Text) → NotClosed (length body) (body ++ (codes "*/" ++ rest)) → IsComment (codes "/*" ++ (body ++ (codes "*/" ++ rest))) rest

-- a comment that nothing closes
pub data IsOpen : Text → Type 0 where
  never_closed : (body : Text) → NotClosed (length body) body → IsOpen (codes "/*" ++ body)

-- ---- longest match

-- what is asked of a word, a literal or a mark besides its form: a word has at most 255 bytes, in a printed text 262
abbrev pub IsProper : Bool → TokenKind → ℕ → Text → Text → Type 0
IsProper p Word n text rest = n ≤ cond p 262 255
IsProper p (Literal v) n text rest = is_apart rest ≡ true
IsProper p Mark n text rest = begins_comment text ≡ false
IsProper p Directive n text rest = Unit {0}
IsProper p EndLine n text rest = Unit {0}
IsProper p Preamble n text rest = Unit {0}

-- The first so many bytes are a word, a literal or a mark, and no longer front of the text is one. The test says whether the text is a printed one.
pub record Begins (p : Bool) (text : Text) (kind : TokenKind) (n : ℕ) : Type 0 where
  pub within : n ≤ length text
  pub form : IsForm (take n text) kind
  pub longest : (k : ℕ) (other : TokenKind) → n < k → k ≤ length text → IsForm (take k text) other → ⊥
  pub proper : IsProper p kind n text (drop n text)

-- ---- lines

-- Where in a line a place is: only blanks and comments stand before it, or something else does, or a directive does.
pub data Line : Type 0 where
  beginning : Line
  middle : Line
  directive : Line

abbrev pub behind : Line → Line
behind beginning = middle
behind middle = middle
behind directive = directive

-- The second text is what follows blanks and comments within the line. A line feed in a comment doesn't end it.
pub data IsGap : Text → Text → Type 0 where
  no_gap : {rest : Text} → IsGap rest rest
  blank_gap : {b : ℕ} {z rest : Text} → is_gap b ≡ true → IsGap z rest → IsGap (b ∷ z) rest
  comment_gap : {text after rest : Text} → IsComment text after → IsGap after rest → IsGap text rest

-- The text begins with this word, which ends there, and the second text is what follows it.
pub record HasWord (x text rest : Text) : Type 0 where
  pub bytes : text ≡ x ++ rest
  pub apart : is_apart rest ≡ true

-- behind a `#`: `pragma`, and blanks and comments
pub record IsPragma (text rest : Text) : Type 0 where
  pub before : Text
  pub after : Text
  pub first_gap : IsGap text before
  pub pragma : HasWord (codes "pragma") before after
  pub second_gap : IsGap after rest

-- behind a `#`: `pragma balance`
pub record IsDirective (text rest : Text) : Type 0 where
  pub after : Text
  pub pragma : IsPragma text after
  pub balance : HasWord (codes "balance") after rest

-- Behind a `#`: a line that is skipped has `include`, or `pragma` alone, or `pragma` and another word.
pub data IsForeign : Text → Type 0 where
  include : {text after rest : Text} → IsGap text after → HasWord (codes "include") after rest → IsForeign text
  lone_pragma : {text rest : Text} → IsPragma text rest → is_line_end rest ≡ true → IsForeign text
  other_pragma : {text after rest : Text} (x : Text) → IsPragma text after → is_word x ≡ true → x ≢ codes "balance" → HasWord x after rest → IsForeign text

-- The second text is where the skipping of a line ends: at the line's end or at a comment that isn't closed.
pub data Skips : Text → Text → Type 0 where
  at_line_end : {rest : Text} → is_line_end rest ≡ true → Skips rest rest
  at_open : {rest : Text} → IsOpen rest → Skips rest rest
  past_comment : {text after rest : Text} → IsComment text after → Skips after rest → Skips text rest
  past_byte : {b : ℕ} {z rest : Text} → is_in_line b ≡ true → begins_comment (b ∷ z) ≡ false → Skips z rest → Skips (b ∷ z) rest

-- ---- what stands at the front

-- At this place of a line the text begins with a token of this kind, or with what is passed over, where no kind stands; the rest follows at the second place of a line.
pub data Front (p : Bool) : Line → Text → Option TokenKind → Line → Text → Type 0 where
  blank : {line : Line} {b : ℕ} {rest : Text} → is_gap b ≡ true → Front p line (b ∷ rest) None line rest
  comment : {line : Line} {text rest : Text} → IsComment text rest → Front p line text None line rest
  first_line_feed : {rest : Text} → Front p beginning (10 ∷ rest) None beginning rest
  line_feed : {rest : Text} → Front p middle (10 ∷ rest) None beginning rest
  end_line : {rest : Text} → Front p directive (10 ∷ rest) (Some EndLine) beginning rest
  foreign : {z rest : Text} → IsForeign z → Skips z rest → Front p beginning (35 ∷ z) None middle rest
  begin_directive : {z rest : Text} → IsDirective z rest → Front p beginning (35 ∷ z) (Some Directive) directive rest
  token : {line : Line} {text : Text} {kind : TokenKind} (n : ℕ) → Begins p text kind n → Front p line text (Some kind) (behind line) (drop n text)

-- ---- the tokens

-- From the first text these tokens are read up to the second, each text at its place of a line. All tokens lie in so many bytes.
pub data Reads (p : Bool) (total : ℕ) : Line → Text → List Token → Line → Text → Type 0 where
  stays : {line : Line} {text : Text} → Reads p total line text [] line text
  passes : {line between last : Line} {text after rest : Text} {ts : List Token} → Front p line text None between after → Reads p total between after ts last rest → Reads p total line text ts last rest
  takes : {line between last : Line} {text after rest : Text} {kind : TokenKind} {ts : List Token} → Front p line text (Some kind) between after → Reads p total between after ts last rest
      → Reads p total line text (record { kind = kind; start = total - length text; end = total - length after } ∷ ts) last rest

abbrev pub is_printed : Text → Bool
is_printed text = starts_with nat_eq text preamble

abbrev pub behind_preamble : Text → Text
behind_preamble text = cond (is_printed text) (drop (length preamble) text) text

abbrev pub preamble_tokens : Text → List Token
preamble_tokens text = cond (is_printed text) (record { kind = Preamble; start = 0; end = length preamble } ∷ []) []

-- A directive's line may end with the text.
abbrev pub last_tokens : Line → ℕ → List Token
last_tokens beginning n = []
last_tokens middle n = []
last_tokens directive n = record { kind = EndLine; start = n; end = n } ∷ []

-- these are the tokens of the text
pub record AreTokens (text : Text) (ts : List Token) : Type 0 where
  pub last : Line
  pub inner : List Token
  pub reads : Reads (is_printed text) (length text) beginning (behind_preamble text) inner last []
  pub all : ts ≡ preamble_tokens text ++ (inner ++ last_tokens last (length text))

-- this is the first byte of the text at which no token begins
pub record StopsAt (text : Text) (byte : ℕ) : Type 0 where
  pub last : Line
  pub inner : List Token
  pub rest : Text
  pub reads : Reads (is_printed text) (length text) beginning (behind_preamble text) inner last rest
  pub more : rest ≢ []
  pub nothing : (kind : Option TokenKind) (next : Line) (after : Text) → Front (is_printed text) last rest kind next after → ⊥
  pub place : byte ≡ length text - length rest
