-- How the words and marks of the grammar are written.
use Rattle.std.specs.Prelude.{ℕ, List, [], ◌∷◌, codes}
use Rattle.c_tree.specs.declared.symbol.Symbol.{Symbol}
use Rattle.c_tree.specs.declared.symbol.Symbol.TheVariants as s

-- words that are no names
abbrev pub words : List (List ℕ × Symbol)
words =
    (codes "void", s.Void) ∷ (codes "int64_t", s.Int64) ∷ (codes "uint64_t", s.Uint64) ∷ (codes "const", s.Const) ∷ (codes "for", s.For) ∷ (codes "if", s.If)
    ∷ (codes "else", s.Else) ∷ (codes "unsigned", s.Unsigned) ∷ (codes "__int128", s.Int128) ∷ (codes "return", s.Return) ∷ (codes "umin", s.Umin) ∷ (codes "umax", s.Umax)
    ∷ (codes "calloc", s.Calloc) ∷ (codes "bal_min", s.BalMin) ∷ (codes "bal_max", s.BalMax) ∷ (codes "bal_wide", s.BalWide) ∷ []

abbrev pub marks : List (List ℕ × Symbol)
marks =
    (codes "(", s.OpenParen) ∷ (codes ")", s.CloseParen) ∷ (codes "[", s.OpenBracket) ∷ (codes "]", s.CloseBracket) ∷ (codes "{", s.OpenBrace) ∷ (codes "}", s.CloseBrace)
    ∷ (codes ";", s.Semicolon) ∷ (codes ",", s.Comma) ∷ (codes "=", s.Assign) ∷ (codes "+=", s.AddAssign) ∷ (codes "-=", s.SubAssign) ∷ (codes "*=", s.MulAssign)
    ∷ (codes "&=", s.AndAssign) ∷ (codes "|=", s.OrAssign) ∷ (codes "^=", s.XorAssign) ∷ (codes "+", s.Plus) ∷ (codes "-", s.Minus) ∷ (codes "*", s.Star)
    ∷ (codes "/", s.Slash) ∷ (codes "%", s.Percent) ∷ (codes "&", s.Ampersand) ∷ (codes "|", s.Bar) ∷ (codes "^", s.Caret) ∷ (codes "~", s.Tilde)
    ∷ (codes "<<", s.ShiftLeft) ∷ (codes ">>", s.ShiftRight) ∷ (codes "<", s.Less) ∷ (codes "<=", s.LessEqual) ∷ (codes ">", s.Greater) ∷ (codes ">=", s.GreaterEqual)
    ∷ (codes "==", s.EqualEqual) ∷ (codes "!=", s.NotEqual) ∷ (codes "&&", s.AndAnd) ∷ (codes "++", s.PlusPlus) ∷ (codes "--", s.MinusMinus) ∷ []
