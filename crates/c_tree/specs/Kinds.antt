-- Which expressions are signed and which are words, by the names in them.
use Rattle.std.specs.Prelude.{Bool, true, false, if◌then◌else◌}
use Rattle.c_tree.specs.Plain.{Word, PlainExpr, lit, var, cell, un, bin, cast, test, umin, umax, least, greatest, widen, big}

-- one of literals alone is of whichever kind its place takes
pub data Kind : Type 0 where
  either : Kind
  signed_kind : Kind
  word_kind : Kind

abbrev pub join : Kind → Kind → Kind
join either k = k
join signed_kind k = signed_kind
join word_kind k = word_kind

-- The test says which names are signed: parameters and the variables of loops around.
abbrev pub kind : (Word → Bool) → PlainExpr → Kind
kind signed (lit n) = either
kind signed (var x) = if signed x then signed_kind else word_kind
kind signed (cell x at) = word_kind
kind signed (un op a) = kind signed a
kind signed (bin op a b) = join (kind signed a) (kind signed b)
kind signed (cast a) = word_kind
kind signed (test rel a b) = word_kind
kind signed (umin a b) = word_kind
kind signed (umax a b) = word_kind
kind signed (least a b) = signed_kind
kind signed (greatest a b) = signed_kind
kind signed (widen a) = word_kind
kind signed (big high low) = word_kind

abbrev pub is_signed : Kind → Bool
is_signed signed_kind = true
is_signed either = false
is_signed word_kind = false

abbrev pub is_word : Kind → Bool
is_word word_kind = true
is_word either = false
is_word signed_kind = false
