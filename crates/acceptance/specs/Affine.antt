-- Affine expressions: what they are, their constants, coefficients and intervals.
use Rattle.std.specs.Prelude.{◌^◌, Bool, true, false, not, ◌&&◌, ◌||◌, if◌then◌else◌, List, [], ◌∷◌, ℤ, pos, ◌+ℤ◌, ◌-ℤ◌, ◌*ℤ◌, neg_ℤ, int_le, bytes_eq}
use Rattle.std.specs.Int.{int_min, int_max}
use Rattle.c_tree.specs.Plain.{Word, PlainParam, int_param, array_param, PlainExpr, lit, var, un, bin, least, greatest}
use Rattle.c_tree.specs.declared.expr.UnOp.{UnOp}
use Rattle.c_tree.specs.declared.expr.UnOp.TheVariants.{Neg, Inv}
use Rattle.c_tree.specs.declared.expr.BinOp.{BinOp}
use Rattle.c_tree.specs.declared.expr.BinOp.TheVariants.{Add, Sub, Mul}
use Rattle.acceptance.specs.Items.{Loop, Scope, is_signed_name}

-- of an affine expression, whether it has a name
abbrev pub has_name : PlainExpr → Bool
has_name (lit n) = false
has_name (un op a) = has_name a
has_name (bin op a b) = has_name a || has_name b
has_name _ = true

abbrev pub is_affine_un : UnOp → Bool
is_affine_un Neg = true
is_affine_un Inv = false

-- Sums and differences of affine sides are affine, and so are products in which one side has no name.
abbrev pub is_affine_bin : BinOp → Bool → Bool → Bool
is_affine_bin Add a b = true
is_affine_bin Sub a b = true
is_affine_bin Mul a b = not (a && b)
is_affine_bin _ a b = false

-- affine over the signed names in scope
abbrev pub is_affine : Scope → PlainExpr → Bool
is_affine sc (lit n) = true
is_affine sc (var x) = is_signed_name sc x
is_affine sc (un op a) = is_affine_un op && is_affine sc a
is_affine sc (bin op a b) = is_affine_bin op (has_name a) (has_name b) && (is_affine sc a && is_affine sc b)
is_affine sc _ = false

abbrev pub constant_bin : BinOp → ℤ → ℤ → ℤ
constant_bin Add a b = a +ℤ b
constant_bin Sub a b = a -ℤ b
constant_bin Mul a b = a *ℤ b
constant_bin _ a b = pos 0

-- the constant of an affine expression
abbrev pub constant : PlainExpr → ℤ
constant (lit n) = pos n
constant (un op a) = neg_ℤ (constant a)
constant (bin op a b) = constant_bin op (constant a) (constant b)
constant _ = pos 0

-- from the constants and the coefficients of both sides
abbrev pub coefficient_bin : BinOp → ℤ → ℤ → ℤ → ℤ → ℤ
coefficient_bin Add k a l b = a +ℤ b
coefficient_bin Sub k a l b = a -ℤ b
coefficient_bin Mul k a l b = k *ℤ b +ℤ a *ℤ l
coefficient_bin _ k a l b = pos 0

-- the coefficient of a name
abbrev pub coefficient : Word → PlainExpr → ℤ
coefficient x (var y) = if bytes_eq x y then pos 1 else pos 0
coefficient x (un op a) = neg_ℤ (coefficient x a)
coefficient x (bin op a b) = coefficient_bin op (constant a) (coefficient x a) (constant b) (coefficient x b)
coefficient x _ = pos 0

-- a test of the expression and of each of its parts
abbrev pub holds_throughout : (PlainExpr → Bool) → PlainExpr → Bool
holds_throughout p (un op a) = p (un op a) && holds_throughout p a
holds_throughout p (bin op a b) = p (bin op a b) && (holds_throughout p a && holds_throughout p b)
holds_throughout p (least a b) = p (least a b) && (holds_throughout p a && holds_throughout p b)
holds_throughout p (greatest a b) = p (greatest a b) && (holds_throughout p a && holds_throughout p b)
holds_throughout p e = p e

-- between -most and most
abbrev pub lies_in : ℤ → ℤ → Bool
lies_in most z = int_le (neg_ℤ most) z && int_le z most

abbrev pub is_small : ℤ → Bool
is_small = lies_in (pos (2 ^ 20))

-- throughout an expression the coefficient of the name is small
abbrev pub has_small : Word → PlainExpr → Bool
has_small x = holds_throughout (λ e. is_small (coefficient x e))

abbrev pub loops_small : PlainExpr → List Loop → Bool
loops_small e [] = true
loops_small e (l ∷ ls) = has_small l.name e && loops_small e ls

abbrev pub ints_small : PlainExpr → List PlainParam → Bool
ints_small e [] = true
ints_small e (int_param x ∷ ps) = has_small x e && ints_small e ps
ints_small e (array_param x constant extents ∷ ps) = ints_small e ps

-- throughout an expression the constant and each coefficient are within -2^20 to 2^20
abbrev pub has_small_terms : Scope → PlainExpr → Bool
has_small_terms sc e = holds_throughout (λ d. is_small (constant d)) e && (loops_small e sc.loops && ints_small e sc.params)

-- ---- intervals

abbrev pub Interval : Type 0
Interval = ℤ × ℤ

-- the intervals of names, the innermost first
abbrev pub Intervals : Type 0
Intervals = List (Word × Interval)

abbrev pub interval_in : Intervals → Word → Interval
interval_in [] x = (pos 0, pos 0)
interval_in (r ∷ rs) x = if bytes_eq r.0 x then r.1 else interval_in rs x

abbrev pub product : Interval → Interval → Interval
product a b =
    let p = a.0 *ℤ b.0 in let q = a.0 *ℤ b.1 in let r = a.1 *ℤ b.0 in let s = a.1 *ℤ b.1 in
    (int_min (int_min p q) (int_min r s), int_max (int_max p q) (int_max r s))

abbrev pub interval_bin : BinOp → Interval → Interval → Interval
interval_bin Add a b = (a.0 +ℤ b.0, a.1 +ℤ b.1)
interval_bin Sub a b = (a.0 -ℤ b.1, a.1 -ℤ b.0)
interval_bin Mul a b = product a b
interval_bin _ a b = (pos 0, pos 0)

-- the interval of an expression, by its structure
abbrev pub interval : Intervals → PlainExpr → Interval
interval rs (lit n) = (pos n, pos n)
interval rs (var x) = interval_in rs x
interval rs (un op a) = let i = interval rs a in (neg_ℤ i.1, neg_ℤ i.0)
interval rs (bin op a b) = interval_bin op (interval rs a) (interval rs b)
interval rs (least a b) = let i = interval rs a in let j = interval rs b in (int_min i.0 j.0, int_min i.1 j.1)
interval rs (greatest a b) = let i = interval rs a in let j = interval rs b in (int_max i.0 j.0, int_max i.1 j.1)
interval rs _ = (pos 0, pos 0)

-- within -2^62 to 2^62
abbrev pub is_narrow : Intervals → PlainExpr → Bool
is_narrow rs e = let i = interval rs e in lies_in (pos (2 ^ 62)) i.0 && lies_in (pos (2 ^ 62)) i.1
