-- What the lexer answers.
use Rattle.std.specs.Prelude.{◌≡◌, ℕ, ◌≤◌, ◌⊎◌, List, [], ◌∷◌, ◌++◌, codes, slice_range, Result, Ok, Err}
use Rattle.c_tree.specs.declared.token.Token.{Token}
use Rattle.c_tree.specs.declared.token.TokenKind.{TokenKind}
use Rattle.c_tree.specs.declared.token.TokenKind.TheVariants.{Word, Literal, Mark, Directive, EndLine, Preamble}
use Rattle.c_tree.specs.Layout.{preamble}
use Rattle.c_tree.specs.Grammar.Tokens.{Text, IsForm, AreTokens, StopsAt}
use Rattle.c_lexer.specs.declared.fault.LexFault.{LexFault}
use Rattle.c_lexer.specs.declared.fault.LexFault.TheVariants.{Lexical, OutOfMemory}

-- the tokens of the text, or the first byte at which none begins
abbrev pub Answers : Text → Result (List Token) LexFault → Type 0
Answers text (Ok ts) = AreTokens text ts
Answers text (Err (Lexical byte)) = StopsAt text byte
Answers text (Err OutOfMemory) = Unit {0}

-- Each token begins where the one before ends or behind it, and the last ends by the second place.
abbrev pub AreInOrder : ℕ → List Token → ℕ → Type 0
AreInOrder from [] end = from ≤ end
AreInOrder from (t ∷ ts) end = (from ≤ t.start) × (t.start ≤ t.end) × AreInOrder t.end ts end

-- These bytes are a token of this kind. The end of a directive's line is a line feed, or nothing where the text ends.
abbrev pub AreBytesOf : TokenKind → Text → Type 0
AreBytesOf Word x = IsForm x Word
AreBytesOf (Literal n) x = IsForm x (Literal n)
AreBytesOf Mark x = IsForm x Mark
AreBytesOf Directive x = (between : Text) × (x ≡ codes "#" ++ (between ++ codes "balance"))
AreBytesOf EndLine x = (x ≡ codes "\n") ⊎ (x ≡ [])
AreBytesOf Preamble x = x ≡ preamble

-- Each token is what its part of the text is.
abbrev pub AreParts : Text → List Token → Type 0
AreParts text [] = Unit {0}
AreParts text (t ∷ ts) = AreBytesOf t.kind (slice_range text t.start t.end) × AreParts text ts
