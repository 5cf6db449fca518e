-- What a step says of the front of a text.
use Rattle.std.proofs.Common.{ℕ, ◌≤◌, Bool, length, drop, Option, Some, None}
use Rattle.c_tree.specs.declared.token.TokenKind.{TokenKind}
use Rattle.c_tree.specs.Grammar.Tokens as g
use Rattle.c_tree.specs.Grammar.Tokens.{Text}
use Rattle.c_lexer.specs.declared.line.Line.{Line}
use Rattle.c_lexer.specs.declared.line.Line.TheVariants.{Fresh, Middle, Inside}
use Rattle.c_lexer.specs.declared.line.Piece.{Piece}
use Rattle.c_lexer.specs.declared.line.Piece.TheVariants.{Passed, Taken, Nothing}
use Rattle.c_lexer.specs.declared.line.Step.{Step}

-- the place in a line that the code speaks of
abbrev pub place : Line → g.Line
place Fresh = g.beginning
place Middle = g.middle
place Inside = g.directive

abbrev pub code : g.Line → Line
code g.beginning = Fresh
code g.middle = Middle
code g.directive = Inside

-- so many bytes stand at the front of the text
pub record Fronted (p : Bool) (l : Line) (text : Text) (o : Option TokenKind) (n : ℕ) (next : Line) : Type 0 where
  pub some : 1 ≤ n
  pub fits : n ≤ length text
  pub front : g.Front p (place l) text o (place next) (drop n text)

abbrev pub RightBy : Bool → Line → Text → Piece → Line → Type 0
RightBy p l text (Passed n) next = Fronted p l text None n next
RightBy p l text (Taken kind n) next = Fronted p l text (Some kind) n next
RightBy p l text Nothing next = Unit {0}

abbrev pub Right : Bool → Line → Text → Step → Type 0
Right p l text s = RightBy p l text s.piece s.line

abbrev pub piece_of : Option TokenKind → ℕ → Piece
piece_of None n = Passed n
piece_of (Some kind) n = Taken kind n
