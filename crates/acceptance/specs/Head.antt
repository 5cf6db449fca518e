-- The conditions on the head of a unit, in a source and in a printed text alike.
use Rattle.std.specs.Prelude.{ℕ, suc, ◌^◌, Bool, true, false, not, ◌&&◌, ◌||◌, if◌then◌else◌, nat_eq, List, [], ◌∷◌, ◌++◌, map, ℤ, pos, int_lt, bytes_eq}
use Rattle.std.specs.List.{list_all, list_any}
use Rattle.c_tree.specs.Plain.{Word, PlainExpr, lit, var, cell, un, bin, cast, test, umin, umax, least, greatest, widen, big, PlainExprs, no_exprs, more_exprs, PlainParam, int_param, array_param, PlainUnit}
use Rattle.c_tree.specs.Names.{is_among}
use Rattle.acceptance.specs.Items.{Condition, Scope, scope_of, is_int, is_param, param_name, is_scalar, is_known}
use Rattle.acceptance.specs.Affine.{is_affine, has_small_terms, holds_throughout, lies_in, Intervals, interval, is_narrow}

abbrev pub list_of : PlainExprs → List PlainExpr
list_of no_exprs = []
list_of (more_exprs e es) = e ∷ list_of es

abbrev pub extents_in : List PlainParam → List PlainExpr
extents_in [] = []
extents_in (int_param x ∷ ps) = extents_in ps
extents_in (array_param x constant extents ∷ ps) = list_of extents ++ extents_in ps

-- each name of an expression is in scope
abbrev mutual
  pub uses_known : Scope → PlainExpr → Bool
  uses_known sc (lit n) = true
  uses_known sc (var x) = is_known sc x
  uses_known sc (cell x at) = is_known sc x && all_use_known sc at
  uses_known sc (un op a) = uses_known sc a
  uses_known sc (bin op a b) = uses_known sc a && uses_known sc b
  uses_known sc (cast a) = uses_known sc a
  uses_known sc (test rel a b) = uses_known sc a && uses_known sc b
  uses_known sc (umin a b) = uses_known sc a && uses_known sc b
  uses_known sc (umax a b) = uses_known sc a && uses_known sc b
  uses_known sc (least a b) = uses_known sc a && uses_known sc b
  uses_known sc (greatest a b) = uses_known sc a && uses_known sc b
  uses_known sc (widen a) = uses_known sc a
  uses_known sc (big high low) = true

  pub all_use_known : Scope → PlainExprs → Bool
  all_use_known sc no_exprs = true
  all_use_known sc (more_exprs e es) = uses_known sc e && all_use_known sc es

-- each extent uses `int64_t` parameters before it alone
abbrev pub ints_scope : List PlainParam → Scope
ints_scope before = record { params = before; words = []; wides = []; loops = []; tables = [] }

abbrev pub extents_known : List PlainParam → List PlainParam → Bool
extents_known before [] = true
extents_known before (int_param x ∷ ps) = extents_known (int_param x ∷ before) ps
extents_known before (array_param x constant extents ∷ ps) = all_use_known (ints_scope before) extents && extents_known before ps

-- ---- names that stand twice

abbrev pub params_twice : List PlainParam → Bool
params_twice [] = false
params_twice (p ∷ ps) = is_param ps (param_name p) || params_twice ps

abbrev pub words_twice : List PlainParam → List (Word × ℕ) → Bool
words_twice ps [] = false
words_twice ps (w ∷ ws) = is_param ps w.0 || (is_scalar ws w.0 || words_twice ps ws)

abbrev pub wides_twice : List PlainParam → List (Word × ℕ) → List Word → Bool
wides_twice ps ws [] = false
wides_twice ps ws (x ∷ xs) = is_param ps x || (is_scalar ws x || (is_among xs x || wides_twice ps ws xs))

-- two parameters, arrays, scalars or wide names share a name, or one has the function's
abbrev pub head_names_twice : PlainUnit → Bool
head_names_twice u =
    is_param u.params u.name || (is_scalar u.words u.name || (is_among u.wides u.name
    || (params_twice u.params || (words_twice u.params u.words || wides_twice u.params u.words u.wides))))

-- ---- ranges

-- how many range lines a name has
abbrev pub lines_of : List (Word × ℤ × ℤ) → Word → ℕ
lines_of [] x = 0
lines_of (r ∷ rs) x = if bytes_eq r.0 x then suc (lines_of rs x) else lines_of rs x

abbrev pub each_has_line : List (Word × ℤ × ℤ) → List PlainParam → Bool
each_has_line rs [] = true
each_has_line rs (int_param x ∷ ps) = nat_eq (lines_of rs x) 1 && each_has_line rs ps
each_has_line rs (array_param x constant extents ∷ ps) = each_has_line rs ps

-- the ends in order and within -2^40 to 2^40
abbrev pub is_range : ℤ × ℤ → Bool
is_range r = not (int_lt r.1 r.0) && (lies_in (pos (2 ^ 40)) r.0 && lies_in (pos (2 ^ 40)) r.1)

-- an `int64_t` parameter has no range line or two, a range line names no such parameter, or a range is no range
abbrev pub bad_range : PlainUnit → Condition
bad_range u = record {
  head = not (each_has_line u.ranges u.params && list_all (λ r. is_int u.params r.0 && is_range (r.1, r.2)) u.ranges);
  inside = λ i. false;
}

-- ---- extents

abbrev pub intervals_of : PlainUnit → Intervals
intervals_of u = map (λ r. (r.0, (r.1, r.2))) u.ranges

abbrev pub head_scope : PlainUnit → Scope
head_scope u = scope_of u [] []

abbrev pub extent_not_affine : PlainUnit → Bool
extent_not_affine u = not (list_all (is_affine (head_scope u)) (extents_in u.params))

abbrev pub extent_terms_too_large : PlainUnit → Bool
extent_terms_too_large u = not (list_all (has_small_terms (head_scope u)) (extents_in u.params))

abbrev pub extent_too_wide : PlainUnit → Bool
extent_too_wide u = not (list_all (holds_throughout (is_narrow (intervals_of u))) (extents_in u.params))

-- the interval of an extent begins below 1
abbrev pub extent_not_positive : PlainUnit → Bool
extent_not_positive u = list_any (λ e. int_lt (interval (intervals_of u) e).0 (pos 1)) (extents_in u.params)
