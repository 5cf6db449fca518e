-- The tables of operators, comparisons and calls, with their marks and words.
use Rattle.std.specs.Prelude.{ℕ, Bool, true}
use Rattle.c_tree.specs.declared.expr.Rel.{Rel}
use Rattle.c_tree.specs.declared.expr.Rel.TheVariants as r
use Rattle.c_tree.specs.declared.expr.UnOp.{UnOp}
use Rattle.c_tree.specs.declared.expr.UnOp.TheVariants.{Neg, Inv}
use Rattle.c_tree.specs.declared.expr.BinOp.{BinOp}
use Rattle.c_tree.specs.declared.expr.BinOp.TheVariants as o
use Rattle.c_tree.specs.Plain.{PlainExpr, umin, umax, least, greatest}
use Rattle.c_tree.specs.declared.symbol.Symbol.{Symbol}
use Rattle.c_tree.specs.declared.symbol.Symbol.TheVariants as s

-- how tightly each operator binds
abbrev pub level : BinOp → ℕ
level o.Or = 1
level o.Xor = 2
level o.And = 3
level o.Shl = 4
level o.Shr = 4
level o.Add = 5
level o.Sub = 5
level o.Mul = 6
level o.Div = 6
level o.Rem = 6

abbrev pub mark : BinOp → Symbol
mark o.Or = s.Bar
mark o.Xor = s.Caret
mark o.And = s.Ampersand
mark o.Shl = s.ShiftLeft
mark o.Shr = s.ShiftRight
mark o.Add = s.Plus
mark o.Sub = s.Minus
mark o.Mul = s.Star
mark o.Div = s.Slash
mark o.Rem = s.Percent

abbrev pub un_mark : UnOp → Symbol
un_mark Neg = s.Minus
un_mark Inv = s.Tilde

abbrev pub rel_mark : Rel → Symbol
rel_mark r.Lt = s.Less
rel_mark r.Le = s.LessEqual
rel_mark r.Gt = s.Greater
rel_mark r.Ge = s.GreaterEqual
rel_mark r.Eq = s.EqualEqual
rel_mark r.Ne = s.NotEqual

-- the functions of two values
pub data Call : Type 0 where
  call_min : Call
  call_max : Call
  call_least : Call
  call_greatest : Call

abbrev pub call_word : Call → Symbol
call_word call_min = s.Umin
call_word call_max = s.Umax
call_word call_least = s.BalMin
call_word call_greatest = s.BalMax

abbrev pub called : Call → PlainExpr → PlainExpr → PlainExpr
called call_min a b = umin a b
called call_max a b = umax a b
called call_least a b = least a b
called call_greatest a b = greatest a b

-- A source has the first two alone.
abbrev pub allowed : Bool → Call → Bool
allowed printed call_min = true
allowed printed call_max = true
allowed printed call_least = printed
allowed printed call_greatest = printed
