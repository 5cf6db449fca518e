-- A text read as tokens: each function gives what the code gives. The laws tie it to the tokens of the grammar.
use Rattle.std.specs.Prelude.{ℕ, zero, suc, ◌+◌, ◌-◌, ◌≤◌, Bool, true, false, ◌&&◌, ◌||◌, if◌then◌else◌, ◌==◌, nat_eq, nat_le, bytes_eq, codes, cond, List, [], ◌∷◌, ◌++◌, length, take, drop, slice_index, Option, Some, None, option_map, Result, Ok, Err}
use Rattle.std.specs.Char.{is_ascii_hexdigit}
use Rattle.std.specs.List.{list_any, prefix_len, starts_with}
use Rattle.c_tree.specs.declared.token.Token.{Token}
use Rattle.c_tree.specs.declared.token.TokenKind.TheVariants.{Word, Literal, Mark, Directive, EndLine, Preamble}
use Rattle.c_tree.specs.Layout.{preamble}
use Rattle.c_tree.specs.Reserved.{is_digit, is_word_byte}
use Rattle.c_tree.specs.Grammar.Tokens.{Text, is_gap, is_in_line, is_line_end, begins_comment, is_printed}
use Rattle.text_pieces.specs.Fronts.{run}
use Rattle.text_pieces.specs.Numbers.{number_in, decimal_in}
use Rattle.c_lexer.specs.declared.line.Line.{Line}
use Rattle.c_lexer.specs.declared.line.Line.TheVariants.{Fresh, Middle, Inside}
use Rattle.c_lexer.specs.declared.line.Over.{Over}
use Rattle.c_lexer.specs.declared.line.Over.TheVariants.{Blanks, Anything}
use Rattle.c_lexer.specs.declared.line.Piece.{Piece}
use Rattle.c_lexer.specs.declared.line.Piece.TheVariants.{Passed, Taken, Nothing}
use Rattle.c_lexer.specs.declared.line.Step.{Step}

-- ---- words

abbrev pub word_len : Text → ℕ
word_len text = prefix_len is_word_byte text

-- how many bytes a word may have, in a printed text and in a source
abbrev pub longest : Bool → ℕ
longest printed = cond printed 262 255

abbrev pub word_piece : ℕ → Text → Piece
word_piece most text = if nat_le (word_len text) most then Taken Word (word_len text) else Nothing

-- ---- literals: letters, digits and `_` that begin with a digit

abbrev pub is_long : Text → Bool
is_long [] = true
is_long (b ∷ []) = b == 108 || b == 76
is_long (b ∷ c ∷ []) = (b == 108 || b == 76) && b == c
is_long (b ∷ c ∷ d ∷ z) = false

abbrev pub is_unsigned : ℕ → Bool
is_unsigned b = b == 117 || b == 85

-- `u` at most once and one of `l` and `ll` at most once, in either order
unfoldable pub is_suffix : Text → Bool
is_suffix z =
    if is_unsigned (slice_index z 0) then is_long (drop 1 z)
    else if is_unsigned (slice_index z (length z - 1)) then is_long (take (length z - 1) z)
    else is_long z

unfoldable pub decimal_literal : Text → Option ℕ
decimal_literal word = let n = prefix_len is_digit word in if is_suffix (drop n word) then decimal_in (take n word) else None

-- behind `0x` or `0X`
unfoldable pub hexadecimal_literal : Text → Option ℕ
hexadecimal_literal word = let n = prefix_len is_ascii_hexdigit word in if is_suffix (drop n word) then number_in 16 (take n word) else None

abbrev pub is_hexadecimal : Text → Bool
is_hexadecimal word = slice_index word 0 == 48 && (slice_index word 1 == 120 || slice_index word 1 == 88)

unfoldable pub literal : Text → Option ℕ
literal word = if is_hexadecimal word then hexadecimal_literal (drop 2 word) else decimal_literal word

abbrev pub literal_by : ℕ → Option ℕ → Piece
literal_by n None = Nothing
literal_by n (Some v) = Taken (Literal v) n

abbrev pub literal_piece : Text → Piece
literal_piece text = literal_by (word_len text) (literal (run is_word_byte text))

-- ---- marks

-- `= + - * / ..` alone, before `=`, and twice
abbrev pub single_bytes : List ℕ
single_bytes = 40 ∷ 41 ∷ 91 ∷ 93 ∷ 123 ∷ 125 ∷ 59 ∷ 44 ∷ 61 ∷ 43 ∷ 45 ∷ 42 ∷ 47 ∷ 37 ∷ 38 ∷ 124 ∷ 94 ∷ 126 ∷ 60 ∷ 62 ∷ []

abbrev pub assigning_bytes : List ℕ
assigning_bytes = 43 ∷ 45 ∷ 42 ∷ 38 ∷ 124 ∷ 94 ∷ 60 ∷ 62 ∷ 61 ∷ 33 ∷ []

abbrev pub doubled_bytes : List ℕ
doubled_bytes = 60 ∷ 62 ∷ 38 ∷ 43 ∷ 45 ∷ []

abbrev pub is_single : ℕ → Bool
is_single b = list_any (nat_eq b) single_bytes

abbrev pub is_pair : ℕ → ℕ → Bool
is_pair b c = c == 61 && list_any (nat_eq b) assigning_bytes || b == c && list_any (nat_eq b) doubled_bytes

abbrev pub single_piece : ℕ → Piece
single_piece b = if is_single b then Taken Mark 1 else Nothing

-- two bytes where they are a mark together
abbrev pub mark_piece : Text → Piece
mark_piece [] = Nothing
mark_piece (b ∷ []) = single_piece b
mark_piece (b ∷ c ∷ z) = if is_pair b c then Taken Mark 2 else single_piece b

-- ---- comments

-- the length up to and with the first `*/`
abbrev pub close_len : Text → Option ℕ
close_len [] = None
close_len (b ∷ z) = if starts_with nat_eq (b ∷ z) (codes "*/") then Some 2 else option_map (λ n. suc n) (close_len z)

-- the length of the comment that begins here, if it is closed
abbrev pub comment_len : Text → Option ℕ
comment_len text = if starts_with nat_eq text (codes "//") then Some (prefix_len is_in_line text) else option_map (λ n. n + 2) (close_len (drop 2 text))

-- ---- blanks and comments within a line, and all that stands in it

abbrev pub goes_over : Over → ℕ → Bool
goes_over Blanks b = is_gap b
goes_over Anything b = is_in_line b

abbrev pub closed_len : Option ℕ → ℕ
closed_len None = 0
closed_len (Some n) = n

-- the length of the comment or the byte at the front that is passed over, and 0 where none is
abbrev pub passed_len : Over → Text → ℕ
passed_len over [] = 0
passed_len over (b ∷ z) = if begins_comment (b ∷ z) then closed_len (comment_len (b ∷ z)) else if goes_over over b then 1 else 0

abbrev pub all_by : ℕ → (ℕ → ℕ) → ℕ
all_by zero go = 0
all_by (suc n) go = suc n + go n

-- The length of all that is passed over at the front. The number is how many bytes are left of what began before.
abbrev pub all_from : Over → ℕ → Text → ℕ
all_from over left [] = 0
all_from over (suc left) (b ∷ z) = all_from over left z
all_from over zero (b ∷ z) = all_by (passed_len over (b ∷ z)) (λ left. all_from over left z)

abbrev pub all_len : Over → Text → ℕ
all_len over text = all_from over 0 text

-- ---- lines that begin with `#`

abbrev pub begins_with_digit : Text → Bool
begins_with_digit [] = false
begins_with_digit (b ∷ z) = is_digit b

-- the word at the front, which is empty where none begins there
abbrev pub first_word : Text → Text
first_word text = if begins_with_digit text then [] else run is_word_byte text

abbrev pub nothing : Step
nothing = record { piece = Nothing; line = Middle }

-- behind a `#`
abbrev pub foreign : Text → Step
foreign text = record { piece = Passed (1 + all_len Anything text); line = Middle }

-- behind a `#`: the text, how long it is up to what follows `pragma` and the gap, and what follows
unfoldable pub pragma : Text → ℕ → Text → Step
pragma text n rest =
    if is_line_end rest then foreign text
    else if bytes_eq (first_word rest) (codes "balance") then record { piece = Taken Directive (n + 8); line = Inside }
    else if nat_eq (length (first_word rest)) 0 then nothing
    else foreign text

-- behind a `#`: the text, how long its first gap is, and what follows
unfoldable pub hash_word : Text → ℕ → Text → Step
hash_word text n rest =
    if bytes_eq (first_word rest) (codes "include") then foreign text
    else if bytes_eq (first_word rest) (codes "pragma") then (let m = all_len Blanks (drop 6 rest) in pragma text (n + 6 + m) (drop m (drop 6 rest)))
    else nothing

unfoldable pub hash : Text → Step
hash text = let n = all_len Blanks text in hash_word text n (drop n text)

-- ---- what stands at the front of a text, and where in a line its end is

abbrev pub behind_token : Line → Line
behind_token Fresh = Middle
behind_token Middle = Middle
behind_token Inside = Inside

abbrev pub line_feed : Line → Step
line_feed Fresh = record { piece = Passed 1; line = Fresh }
line_feed Middle = record { piece = Passed 1; line = Fresh }
line_feed Inside = record { piece = Taken EndLine 1; line = Fresh }

abbrev pub hash_in : Line → Text → Step
hash_in Fresh z = hash z
hash_in Middle z = nothing
hash_in Inside z = nothing

abbrev pub blank_in : Line → ℕ → Step
blank_in line zero = nothing
blank_in line (suc n) = record { piece = Passed (suc n); line = line }

abbrev pub token_in : Line → Piece → Step
token_in line (Taken kind n) = record { piece = Taken kind n; line = behind_token line }
token_in line (Passed n) = nothing
token_in line Nothing = nothing

abbrev pub token_piece : Bool → ℕ → Text → Piece
token_piece printed b text = if is_digit b then literal_piece text else if is_word_byte b then word_piece (longest printed) text else mark_piece text

unfoldable pub step : Bool → Line → Text → Step
step printed line [] = nothing
step printed line (b ∷ z) =
    if b == 10 then line_feed line
    else if b == 35 then hash_in line z
    else if is_gap b || begins_comment (b ∷ z) then blank_in line (passed_len Blanks (b ∷ z))
    else token_in line (token_piece printed b (b ∷ z))

-- a piece that isn't empty, and within so many bytes
abbrev pub IsWithin : ℕ → Piece → Type 0
IsWithin m (Passed n) = (1 ≤ n) × (n ≤ m)
IsWithin m (Taken kind n) = (1 ≤ n) × (n ≤ m)
IsWithin m Nothing = Unit {0}

-- ---- the tokens, or the first byte at which none begins

abbrev pub Reading : Type 0
Reading = Result (List Token) ℕ

abbrev pub behind_tokens : List Token → Reading → Reading
behind_tokens found (Ok ts) = Ok (found ++ ts)
behind_tokens found (Err at) = Err at

abbrev pub tokens_by : ℕ → Piece → (ℕ → Reading) → Reading
tokens_by at (Passed n) go = go (n - 1)
tokens_by at (Taken kind n) go = behind_tokens (record { kind = kind; start = at; end = at + n } ∷ []) (go (n - 1))
tokens_by at Nothing go = Err at

-- A directive's line may end with the text.
abbrev pub ending : Line → ℕ → List Token
ending Inside at = record { kind = EndLine; start = at; end = at } ∷ []
ending Fresh at = []
ending Middle at = []

-- The last number but one is how many bytes are left of what began before, and the last is the place of the text.
abbrev pub tokens_from : Bool → Line → ℕ → ℕ → Text → Reading
tokens_from printed line left at [] = Ok (ending line at)
tokens_from printed line (suc left) at (b ∷ z) = tokens_from printed line left (suc at) z
tokens_from printed line zero at (b ∷ z) = tokens_by at (step printed line (b ∷ z)).piece (λ left. tokens_from printed (step printed line (b ∷ z)).line left (suc at) z)

abbrev pub preamble_token : Token
preamble_token = record { kind = Preamble; start = 0; end = length preamble }

-- A printed text begins with the preamble.
unfoldable pub tokens_of : Text → Reading
tokens_of text =
    if is_printed text then behind_tokens (preamble_token ∷ []) (tokens_from true Fresh 0 (length preamble) (drop (length preamble) text))
    else tokens_from false Fresh 0 0 text
