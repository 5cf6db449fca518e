-- How large an expression is.
use Rattle.std.specs.Prelude.{ℕ, ◌+◌}
use Rattle.c_tree.specs.Plain.{PlainExpr, lit, var, cell, un, bin, cast, test, umin, umax, least, greatest, widen, big}

-- how many operators and operands there are, a cell or a name being one
abbrev pub operands : PlainExpr → ℕ
operands (lit n) = 1
operands (var x) = 1
operands (cell x at) = 1
operands (un op a) = 1 + operands a
operands (bin op a b) = 1 + (operands a + operands b)
operands (cast a) = 1 + operands a
operands (test rel a b) = 1 + (operands a + operands b)
operands (umin a b) = 1 + (operands a + operands b)
operands (umax a b) = 1 + (operands a + operands b)
operands (least a b) = 1 + (operands a + operands b)
operands (greatest a b) = 1 + (operands a + operands b)
operands (widen a) = 1 + operands a
operands (big high low) = 1
