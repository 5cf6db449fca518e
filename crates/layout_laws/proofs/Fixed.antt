-- The fixed texts of statements and heads.
use Rattle.std.proofs.Common.{◌≡◌, ℕ, zero, suc, Bool, true, false, List, [], ◌∷◌, ◌++◌, length, refl, arith}
use Rattle.std.specs.Prelude.{codes, Option, Some, None, nat_le}
use Rattle.std.specs.Fmt.{digits}
use Rattle.c_tree.specs.declared.expr.BinOp.{BinOp}
use Rattle.c_tree.specs.declared.expr.BinOp.TheVariants as o
use Rattle.c_tree.specs.Layout as l
use Rattle.c_tree.specs.declared.symbol.Symbol.{Symbol}
use Rattle.c_tree.specs.declared.symbol.Symbol.TheVariants as s
use Rattle.c_tree.specs.Grammar.Statements.{set_op}
use Rattle.c_tree.specs.Grammar.Lexemes as t
use Rattle.c_tree.specs.Grammar.Lexemes.{Lexeme}
use Rattle.c_tree.specs.Grammar.Heads.{calloc_tokens, zero_tokens, begin_tokens}
use Rattle.layout_laws.specs.Spell.{set_mark}
use Rattle.c_tree.specs.declared.token.TokenKind.TheVariants.{Directive, EndLine}
use Rattle.c_lexer.specs.declared.line.Line.{Line}
use Rattle.c_lexer.specs.declared.line.Line.TheVariants.{Fresh, Middle, Inside}
use Rattle.c_tree.specs.Grammar.Symbols.{words}
use Rattle.c_tree.specs.Grammar.Texts.{find_symbol}
use Rattle.c_tree.specs.Grammar.Tokens.{Text, is_apart}
use Rattle.c_tree.specs.Reserved.{is_word, is_word_byte}
use Rattle.c_lexer.specs.Reading.{step, behind_token, hash, hash_word, pragma}
use Rattle.layout_laws.proofs.Seen.{word_symbol, mark_symbol}
use Rattle.layout_laws.specs.Proper.{IsName}
use Rattle.layout_laws.proofs.Lexed.{Reads, token}
use Rattle.layout_laws.proofs.Words.{name_in, keyword, lone, two, pairs, other, turned, short}
use Rattle.layout_laws.proofs.Marks.{space, feed, opens, closes, comma, semi_feed, word_cast, called}
use Rattle.layout_laws.proofs.Expressions.{is_first, begins}
use Rattle.layout_laws.proofs.Numbers.{plain_literal, long_literal}

pub indented : {p : Bool} {rest : Text} {ts : List Lexeme} → (depth : ℕ) → Reads p Fresh rest ts → Reads p Fresh (l.indent depth ++ rest) ts
indented zero d = d
indented (suc depth) d = space (space (indented depth d))

pub opens_block : {p : Bool} {rest : Text} {ts : List Lexeme} → Reads p Fresh rest ts → Reads p Middle (codes "{\n" ++ rest) (t.symbol s.OpenBrace ∷ ts)
unfolding word_symbol mark_symbol
opens_block {p = p} {rest = rest} {ts = ts} d = lone p Middle 123 (10 ∷ rest) ts refl refl refl (feed d)

-- `}` at the beginning of a line, before a blank or a line feed
pub closes_block : {p : Bool} {rest : Text} {ts : List Lexeme} → pairs 125 rest ≡ false → Reads p Middle rest ts → Reads p Fresh (codes "}" ++ rest) (t.symbol s.CloseBrace ∷ ts)
unfolding word_symbol mark_symbol
closes_block {p = p} {rest = rest} {ts = ts} e d = lone p Fresh 125 rest ts refl refl e d

pub closes_line : {p : Bool} {rest : Text} {ts : List Lexeme} → Reads p Fresh rest ts → Reads p Fresh (codes "}\n" ++ rest) (t.symbol s.CloseBrace ∷ ts)
closes_line d = closes_block refl (feed d)

pub for_start : {p : Bool} {rest : Text} {ts : List Lexeme} → Reads p Middle rest ts → Reads p Fresh (codes "for (int64_t " ++ rest) (t.symbol s.For ∷ t.symbol s.OpenParen ∷ t.symbol s.Int64 ∷ ts)
unfolding word_symbol mark_symbol
for_start {p = p} {rest = rest} {ts = ts} d =
    keyword p Fresh (codes "for") s.For (codes " (int64_t " ++ rest) _ refl refl refl refl (space (opens (keyword p Middle (codes "int64_t") s.Int64 (32 ∷ rest) ts refl refl refl refl (space d))))

pub equals : {p : Bool} {rest : Text} {ts : List Lexeme} → Reads p Middle rest ts → Reads p Middle (codes " = " ++ rest) (t.symbol s.Assign ∷ ts)
unfolding word_symbol mark_symbol
equals {p = p} {rest = rest} {ts = ts} d = space (lone p Middle 61 (32 ∷ rest) ts refl refl refl (space d))

pub loop_step : {p : Bool} {rest : Text} {ts : List Lexeme} → Reads p Fresh rest ts → Reads p Middle (codes "++) {\n" ++ rest) (t.symbol s.PlusPlus ∷ t.symbol s.CloseParen ∷ t.symbol s.OpenBrace ∷ ts)
unfolding word_symbol mark_symbol
loop_step {p = p} {rest = rest} {ts = ts} d = two p Middle 43 43 (codes ") {\n" ++ rest) _ refl refl (closes (space (opens_block d)))

pub if_start : {p : Bool} {rest : Text} {ts : List Lexeme} → Reads p Middle rest ts → Reads p Fresh (codes "if (" ++ rest) (t.symbol s.If ∷ t.symbol s.OpenParen ∷ ts)
unfolding word_symbol mark_symbol
if_start {p = p} {rest = rest} {ts = ts} d = keyword p Fresh (codes "if") s.If (codes " (" ++ rest) _ refl refl refl refl (space (opens d))

pub then_block : {p : Bool} {rest : Text} {ts : List Lexeme} → Reads p Fresh rest ts → Reads p Middle (codes ") {\n" ++ rest) (t.symbol s.CloseParen ∷ t.symbol s.OpenBrace ∷ ts)
then_block d = closes (space (opens_block d))

pub both : {p : Bool} {rest : Text} {ts : List Lexeme} → Reads p Middle rest ts → Reads p Middle (codes " && " ++ rest) (t.symbol s.AndAnd ∷ ts)
unfolding word_symbol mark_symbol
both {p = p} {rest = rest} {ts = ts} d = space (two p Middle 38 38 (32 ∷ rest) ts refl refl (space d))

pub else_block : {p : Bool} {rest : Text} {ts : List Lexeme} → Reads p Fresh rest ts → Reads p Middle (codes " else {\n" ++ rest) (t.symbol s.Else ∷ t.symbol s.OpenBrace ∷ ts)
unfolding word_symbol mark_symbol
else_block {p = p} {rest = rest} {ts = ts} d = space (keyword p Middle (codes "else") s.Else (codes " {\n" ++ rest) _ refl refl refl refl (space (opens_block d)))

pub sets : {p : Bool} {rest : Text} {ts : List Lexeme} → (op : Option BinOp) → set_op (set_mark op) ≡ Some op → Reads p Middle rest ts → Reads p Middle (codes " " ++ (l.assign_mark op ++ (codes " " ++ rest))) (t.symbol (set_mark op) ∷ ts)
unfolding word_symbol mark_symbol
sets None e d = equals d
sets {p = p} {rest = rest} {ts = ts} (Some o.Add) e d = space (two p Middle 43 61 (32 ∷ rest) ts refl refl (space d))
sets {p = p} {rest = rest} {ts = ts} (Some o.Sub) e d = space (two p Middle 45 61 (32 ∷ rest) ts refl refl (space d))
sets {p = p} {rest = rest} {ts = ts} (Some o.Mul) e d = space (two p Middle 42 61 (32 ∷ rest) ts refl refl (space d))
sets {p = p} {rest = rest} {ts = ts} (Some o.And) e d = space (two p Middle 38 61 (32 ∷ rest) ts refl refl (space d))
sets {p = p} {rest = rest} {ts = ts} (Some o.Or) e d = space (two p Middle 124 61 (32 ∷ rest) ts refl refl (space d))
sets {p = p} {rest = rest} {ts = ts} (Some o.Xor) e d = space (two p Middle 94 61 (32 ∷ rest) ts refl refl (space d))
sets (Some o.Div) e d = absurd (let never : ⊥ = cc in never)
sets (Some o.Rem) e d = absurd (let never : ⊥ = cc in never)
sets (Some o.Shl) e d = absurd (let never : ⊥ = cc in never)
sets (Some o.Shr) e d = absurd (let never : ⊥ = cc in never)

pub returns : {p : Bool} {rest : Text} {ts : List Lexeme} → Reads p Middle rest ts → Reads p Fresh (codes "return " ++ rest) (t.symbol s.Return ∷ ts)
unfolding word_symbol mark_symbol
returns {p = p} {rest = rest} {ts = ts} d = keyword p Fresh (codes "return") s.Return (32 ∷ rest) ts refl refl refl refl (space d)

-- ---- tables

unpaired_at : (b : ℕ) (z : Text) → is_first b ≡ false → begins z ≡ true → pairs b z ≡ false
unpaired_at b [] no_first h = refl
unpaired_at b (c ∷ z) no_first h = rw (other is_first c 61 h refl, turned c b (other is_first c b h no_first)) refl

pub word_star : {p : Bool} {rest : Text} {ts : List Lexeme} → begins rest ≡ true → Reads p Middle rest ts → Reads p Fresh (codes "uint64_t *" ++ rest) (t.symbol s.Uint64 ∷ t.symbol s.Star ∷ ts)
unfolding word_symbol mark_symbol
word_star {p = p} {rest = rest} {ts = ts} h d = keyword p Fresh (codes "uint64_t") s.Uint64 (codes " *" ++ rest) _ refl refl refl refl (space (lone p Middle 42 rest ts refl refl (unpaired_at 42 rest refl h) d))

pub calloc_start : {p : Bool} {rest : Text} {ts : List Lexeme} → Reads p Middle rest ts → Reads p Middle (codes " = calloc(" ++ rest) (calloc_tokens ++ ts)
unfolding word_symbol mark_symbol
calloc_start {p = p} {rest = rest} {ts = ts} d = equals (called p Middle (codes "calloc") s.Calloc rest ts refl refl refl refl d)

-- a word that is a name although rules have it
of_rules : (p : Bool) (x : Text) → is_word x ≡ true → nat_le (length x) 255 ≡ true → find_symbol words x ≡ None → IsName p x
of_rules p x h fits e = record { word = h; fits = short p (length x) fits; no_symbol = e }

pub calloc_end : {p : Bool} {rest : Text} {ts : List Lexeme} → Reads p Fresh rest ts
    → Reads p Middle (codes ", sizeof(uint64_t));\n" ++ rest) (t.symbol s.Comma ∷ t.name (codes "sizeof") ∷ t.symbol s.OpenParen ∷ t.symbol s.Uint64 ∷ t.symbol s.CloseParen ∷ t.symbol s.CloseParen ∷ t.symbol s.Semicolon ∷ ts)
unfolding word_symbol mark_symbol
calloc_end {p = p} {rest = rest} {ts = ts} d =
    comma (name_in Middle (codes "sizeof") (of_rules p (codes "sizeof") refl refl refl) refl (opens (keyword p Middle (codes "uint64_t") s.Uint64 (codes "));\n" ++ rest) _ refl refl refl refl (closes (closes (semi_feed d))))))

zero_literal : {p : Bool} {c : ℕ} {rest : Text} {ts : List Lexeme} → is_word_byte c ≡ false → Reads p Middle (c ∷ rest) ts → Reads p Middle (48 ∷ c ∷ rest) (t.number 0 ∷ ts)
unfolding digits
zero_literal {p = p} {c = c} {rest = rest} {ts = ts} e d = plain_literal p Middle 0 (c ∷ rest) ts (omega arith) (rw e refl) d

no_memory : {p : Bool} {rest : Text} {ts : List Lexeme} → Reads p Middle (59 ∷ rest) ts → Reads p Middle (codes "1099511627776ull;" ++ rest) (t.number 1099511627776 ∷ ts)
unfolding digits
no_memory {p = p} {rest = rest} {ts = ts} d = long_literal p Middle 1099511627776 (59 ∷ rest) ts (omega arith) refl d

pub table_tested : {p : Bool} {rest : Text} {ts : List Lexeme} → Reads p Fresh rest ts
    → Reads p Middle (codes " == 0) { return 1099511627776ull; }\n" ++ rest)
    (t.symbol s.EqualEqual ∷ t.number 0 ∷ t.symbol s.CloseParen ∷ t.symbol s.OpenBrace ∷ t.symbol s.Return ∷ t.number 1099511627776 ∷ t.symbol s.Semicolon ∷ t.symbol s.CloseBrace ∷ ts)
unfolding word_symbol mark_symbol
table_tested {p = p} {rest = rest} {ts = ts} d =
    space (two p Middle 61 61 (codes " 0) { return 1099511627776ull; }\n" ++ rest) _ refl refl (space (zero_literal refl (closes (space (lone p Middle 123 _ _ refl refl refl
    (space (keyword p Middle (codes "return") s.Return _ _ refl refl refl refl (space (no_memory (lone p Middle 59 _ _ refl refl refl (space (lone p Middle 125 (10 ∷ rest) ts refl refl refl (feed d))))))))))))))

-- ---- checks and verdicts

pub check_mark : {p : Bool} {rest : Text} {ts : List Lexeme} → Reads p Middle rest ts → Reads p Middle (codes " >= (uint64_t)(" ++ rest) (t.symbol s.GreaterEqual ∷ t.symbol s.OpenParen ∷ t.symbol s.Uint64 ∷ t.symbol s.CloseParen ∷ t.symbol s.OpenParen ∷ ts)
unfolding word_symbol mark_symbol
check_mark {p = p} {rest = rest} {ts = ts} d = space (two p Middle 62 61 (codes " (uint64_t)(" ++ rest) _ refl refl (space (word_cast (opens d))))

pub unequal : {p : Bool} {rest : Text} {ts : List Lexeme} → Reads p Middle rest ts → Reads p Middle (codes " != " ++ rest) (t.symbol s.NotEqual ∷ ts)
unfolding word_symbol mark_symbol
unequal {p = p} {rest = rest} {ts = ts} d = space (two p Middle 33 61 (32 ∷ rest) ts refl refl (space d))

pub shifted : {p : Bool} {rest : Text} {ts : List Lexeme} → Reads p Middle rest ts → Reads p Middle (codes ") << " ++ rest) (t.symbol s.CloseParen ∷ t.symbol s.ShiftLeft ∷ ts)
unfolding word_symbol mark_symbol
shifted {p = p} {rest = rest} {ts = ts} d = closes (space (two p Middle 60 60 (32 ∷ rest) ts refl refl (space d)))

pub bar : {p : Bool} {rest : Text} {ts : List Lexeme} → Reads p Middle rest ts → Reads p Middle (codes " | " ++ rest) (t.symbol s.Bar ∷ ts)
unfolding word_symbol mark_symbol
bar {p = p} {rest = rest} {ts = ts} d = space (lone p Middle 124 (32 ∷ rest) ts refl refl refl (space d))

pub nothing_found : {p : Bool} {rest : Text} {ts : List Lexeme} → Reads p Fresh rest ts → Reads p Middle (codes "0;\n" ++ rest) (t.number 0 ∷ t.symbol s.Semicolon ∷ ts)
nothing_found d = zero_literal refl (semi_feed d)

pub zero_end : {p : Bool} {rest : Text} {ts : List Lexeme} → Reads p Fresh rest ts → Reads p Middle (codes " = 0;\n" ++ rest) (zero_tokens ++ ts)
zero_end d = equals (zero_literal refl (semi_feed d))

-- ---- directive lines

pub end_line : {p : Bool} {rest : Text} {ts : List Lexeme} → Reads p Fresh rest ts → Reads p Inside (codes "\n" ++ rest) (t.symbol s.EndLine ∷ ts)
unfolding step
end_line {p = p} {rest = rest} {ts = ts} d = token p Inside 10 rest rest ts EndLine 0 Fresh refl refl d

pub directive : {p : Bool} {rest : Text} {ts : List Lexeme} → Reads p Inside rest ts → Reads p Fresh (codes "#pragma balance " ++ rest) (t.symbol s.Directive ∷ ts)
unfolding step hash hash_word pragma
directive {p = p} {rest = rest} {ts = ts} d = token p Fresh 35 (codes "pragma balance " ++ rest) (32 ∷ rest) ts Directive 14 Inside refl refl (space d)

-- a word that rules have, in a directive
pub rule_word : {p : Bool} {rest : Text} {ts : List Lexeme} → (x : Text) → is_word x ≡ true → nat_le (length x) 255 ≡ true → find_symbol words x ≡ None → is_apart rest ≡ true → Reads p Inside rest ts → Reads p Inside (x ++ rest) (t.name x ∷ ts)
rule_word {p = p} x h fits no_sign e d = name_in Inside x (of_rules p x h fits no_sign) e d

pub begin_line : {p : Bool} {rest : Text} {ts : List Lexeme} → Reads p Fresh rest ts → Reads p Fresh (codes "#pragma balance begin\n" ++ rest) (begin_tokens ++ ts)
unfolding word_symbol mark_symbol
begin_line d = directive (rule_word (codes "begin") refl refl refl refl (end_line d))

pub range_start : {p : Bool} {rest : Text} {ts : List Lexeme} → Reads p Inside rest ts → Reads p Fresh (codes "#pragma balance range " ++ rest) (t.symbol s.Directive ∷ t.name (codes "range") ∷ ts)
unfolding word_symbol mark_symbol
range_start d = directive (rule_word (codes "range") refl refl refl refl (space d))

pub version_start : {p : Bool} {rest : Text} {ts : List Lexeme} → Reads p Inside rest ts → Reads p Fresh (codes "#pragma balance version " ++ rest) (t.symbol s.Directive ∷ t.name (codes "version") ∷ ts)
unfolding word_symbol mark_symbol
version_start d = directive (rule_word (codes "version") refl refl refl refl (space d))

pub minus_inside : {p : Bool} {rest : Text} {ts : List Lexeme} → begins rest ≡ true → Reads p Inside rest ts → Reads p Inside (codes "-" ++ rest) (t.symbol s.Minus ∷ ts)
unfolding word_symbol mark_symbol
minus_inside {p = p} {rest = rest} {ts = ts} h d = lone p Inside 45 rest ts refl refl (unpaired_at 45 rest refl h) d

-- ---- declarations

-- a word of the grammar and a space behind it
pub spaced : {p : Bool} {rest : Text} {ts : List Lexeme} → (m : Line) (x : Text) (j : Symbol) → is_word x ≡ true → nat_le (length x) 255 ≡ true → word_symbol x ≡ Some j → Reads p (behind_token m) rest ts → Reads p m (x ++ (32 ∷ rest)) (t.symbol j ∷ ts)
spaced {p = p} {rest = rest} {ts = ts} m x j h fits e d = keyword p m x j (32 ∷ rest) ts h fits e refl (space d)
