-- Which printed units are accepted: one condition for each refusal that a printed text can have.
use Rattle.std.specs.Prelude.{◌≡◌, ℕ, suc, Bool, true, false, not, ◌&&◌, ◌||◌, if◌then◌else◌, nat_eq, nat_lt, List, [], ◌∷◌, map, length, Option, Some, None, bytes_eq, codes}
use Rattle.std.specs.List.{list_all}
use Rattle.c_tree.specs.Plain.{Word, PlainExpr, lit, var, cell, un, bin, cast, test, umin, umax, least, greatest, widen, big, PlainExprs, no_exprs, more_exprs, PlainTest, PlainStmt, loop, choice, assign, table, begin, check, verdict, PlainStmts, no_stmts, more_stmts, PlainParam, int_param, array_param, PlainUnit}
use Rattle.c_tree.specs.Names.{is_among}
use Rattle.c_tree.specs.Kinds.{Kind, kind, join, is_signed, is_word}
use Rattle.c_tree.specs.Run.{numbered}
use Rattle.c_tree.specs.declared.expr.UnOp.{UnOp}
use Rattle.c_tree.specs.declared.expr.UnOp.TheVariants.{Neg, Inv}
use Rattle.c_tree.specs.declared.expr.BinOp.{BinOp}
use Rattle.c_tree.specs.declared.expr.BinOp.TheVariants.{Add, Sub, Mul, Div, Rem, Shl, Shr}
use Rattle.acceptance.specs.Items.{Condition, least_item, lowest, Scope, scope_at, is_array, is_scalar, is_declared, is_known, is_signed_name}
use Rattle.acceptance.specs.Trees.{IsPrintedTree}
use Rattle.acceptance.specs.Head.{list_of, uses_known, extents_known, head_names_twice, bad_range, extent_not_affine, extent_terms_too_large, extent_too_wide, extent_not_positive}

-- ---- names

-- A loop's variable has a name of its own, and so has a table.
abbrev pub item_name_twice : Scope → Word → PlainStmt → Bool
item_name_twice sc f (loop x lo rel hi body) = bytes_eq f x || is_known sc x
item_name_twice sc f (table x len) = bytes_eq f x || is_declared sc x
item_name_twice sc f _ = false

abbrev pub name_twice : PlainUnit → Condition
name_twice u = record { head = head_names_twice u; inside = λ i. item_name_twice (scope_at u i) u.name i.stmt }

-- the names of the totals, one pair an array, from number a on
abbrev pub total_names_from : ℕ → List PlainParam → List Word
total_names_from a [] = []
total_names_from a (int_param x ∷ ps) = total_names_from a ps
total_names_from a (array_param x constant extents ∷ ps) =
    numbered (codes "bal_def") a ∷ (numbered (codes "bal_use") a ∷ total_names_from (suc a) ps)

abbrev pub tests_use_known : Scope → List PlainTest → Bool
tests_use_known sc [] = true
tests_use_known sc (t ∷ ts) = uses_known sc t.1 && (uses_known sc t.2 && tests_use_known sc ts)

abbrev pub item_uses_known : Scope → PlainStmt → Bool
item_uses_known sc (loop x lo rel hi body) = uses_known sc lo && uses_known sc hi
item_uses_known sc (choice ts first other) = tests_use_known sc ts
item_uses_known sc (assign target op e) = uses_known sc target && uses_known sc e
item_uses_known sc (table x len) = uses_known sc len
item_uses_known sc begin = true
item_uses_known sc (check x extent a) = is_known sc x && uses_known sc extent
item_uses_known sc verdict = list_all (is_known sc) (total_names_from 0 sc.params)

abbrev pub name_unknown : PlainUnit → Condition
name_unknown u = record { head = not (extents_known [] u.params); inside = λ i. not (item_uses_known (scope_at u i) i.stmt) }

-- ---- the head alone

abbrev pub at_head : Bool → Condition
at_head b = record { head = b; inside = λ i. false }

-- ---- dimensions

-- how many extents the first array of a name has
abbrev pub dimensions_of : List PlainParam → Word → ℕ
dimensions_of [] x = 0
dimensions_of (int_param y ∷ ps) x = dimensions_of ps x
dimensions_of (array_param y constant extents ∷ ps) x = if bytes_eq y x then length (list_of extents) else dimensions_of ps x

-- the number of subscripts that a name takes: its extents, one for a table, and none for any other
abbrev pub dimensions : Scope → Word → ℕ
dimensions sc x = if is_among sc.tables x then 1 else dimensions_of sc.params x

abbrev mutual
  pub fits_dimensions : (Word → ℕ) → PlainExpr → Bool
  fits_dimensions d (lit n) = true
  fits_dimensions d (var x) = nat_eq (d x) 0
  fits_dimensions d (cell x at) = nat_eq (d x) (length (list_of at)) && all_fit_dimensions d at
  fits_dimensions d (un op a) = fits_dimensions d a
  fits_dimensions d (bin op a b) = fits_dimensions d a && fits_dimensions d b
  fits_dimensions d (cast a) = fits_dimensions d a
  fits_dimensions d (test rel a b) = fits_dimensions d a && fits_dimensions d b
  fits_dimensions d (umin a b) = fits_dimensions d a && fits_dimensions d b
  fits_dimensions d (umax a b) = fits_dimensions d a && fits_dimensions d b
  fits_dimensions d (least a b) = fits_dimensions d a && fits_dimensions d b
  fits_dimensions d (greatest a b) = fits_dimensions d a && fits_dimensions d b
  fits_dimensions d (widen a) = fits_dimensions d a
  fits_dimensions d (big high low) = true

  pub all_fit_dimensions : (Word → ℕ) → PlainExprs → Bool
  all_fit_dimensions d no_exprs = true
  all_fit_dimensions d (more_exprs e es) = fits_dimensions d e && all_fit_dimensions d es

abbrev pub tests_fit : (PlainExpr → Bool) → List PlainTest → Bool
tests_fit p [] = true
tests_fit p (t ∷ ts) = p t.1 && (p t.2 && tests_fit p ts)

-- a test of each expression of an item
abbrev pub exprs_fit : (PlainExpr → Bool) → PlainStmt → Bool
exprs_fit p (loop x lo rel hi body) = p lo && p hi
exprs_fit p (choice ts first other) = tests_fit p ts
exprs_fit p (assign target op e) = p target && p e
exprs_fit p (table x len) = p len
exprs_fit p begin = true
exprs_fit p (check x extent a) = p extent
exprs_fit p verdict = true

-- the names that an item uses by themselves: the word that a check compares, and the totals that a verdict compares
abbrev pub bare_names : List PlainParam → PlainStmt → List Word
bare_names ps (check x extent a) = x ∷ []
bare_names ps verdict = total_names_from 0 ps
bare_names ps _ = []

abbrev pub names_fit : Scope → PlainStmt → Bool
names_fit sc s = list_all (λ x. nat_eq (dimensions sc x) 0) (bare_names sc.params s)

-- At the head nothing is asked: an extent with a cell or an array's name isn't affine in earlier parameters.
abbrev pub wrong_dimensions : PlainUnit → Condition
wrong_dimensions u = record {
  head = false;
  inside = λ i. not (exprs_fit (fits_dimensions (dimensions (scope_at u i))) i.stmt && names_fit (scope_at u i) i.stmt);
}

-- ---- shift amounts and divisors

abbrev pub is_shift_amount : PlainExpr → Bool
is_shift_amount (lit n) = nat_lt n 64
is_shift_amount _ = false

abbrev pub is_divisor : PlainExpr → Bool
is_divisor (lit n) = nat_lt 0 n
is_divisor _ = false

abbrev pub has_good_side : BinOp → PlainExpr → Bool
has_good_side Shl b = is_shift_amount b
has_good_side Shr b = is_shift_amount b
has_good_side Div b = is_divisor b
has_good_side Rem b = is_divisor b
has_good_side _ b = true

abbrev mutual
  pub literals_fit : PlainExpr → Bool
  literals_fit (lit n) = true
  literals_fit (var x) = true
  literals_fit (cell x at) = all_literals_fit at
  literals_fit (un op a) = literals_fit a
  literals_fit (bin op a b) = has_good_side op b && (literals_fit a && literals_fit b)
  literals_fit (cast a) = literals_fit a
  literals_fit (test rel a b) = literals_fit a && literals_fit b
  literals_fit (umin a b) = literals_fit a && literals_fit b
  literals_fit (umax a b) = literals_fit a && literals_fit b
  literals_fit (least a b) = literals_fit a && literals_fit b
  literals_fit (greatest a b) = literals_fit a && literals_fit b
  literals_fit (widen a) = literals_fit a
  literals_fit (big high low) = true

  pub all_literals_fit : PlainExprs → Bool
  all_literals_fit no_exprs = true
  all_literals_fit (more_exprs e es) = literals_fit e && all_literals_fit es

abbrev pub bad_literal : PlainUnit → Condition
bad_literal u = record { head = false; inside = λ i. not (exprs_fit literals_fit i.stmt) }

-- ---- kinds

-- literals, signed names, `+`, `-`, `*` and unary `-`, and in a bound also the lesser and the greater of two
abbrev pub is_signed_op : BinOp → Bool
is_signed_op Add = true
is_signed_op Sub = true
is_signed_op Mul = true
is_signed_op _ = false

abbrev pub is_signed_un : UnOp → Bool
is_signed_un Neg = true
is_signed_un Inv = false

abbrev pub is_signed_expr : Scope → Bool → PlainExpr → Bool
is_signed_expr sc bound (lit n) = true
is_signed_expr sc bound (var x) = is_signed_name sc x
is_signed_expr sc bound (un op a) = is_signed_un op && is_signed_expr sc bound a
is_signed_expr sc bound (bin op a b) = is_signed_op op && (is_signed_expr sc bound a && is_signed_expr sc bound b)
is_signed_expr sc bound (least a b) = bound && (is_signed_expr sc bound a && is_signed_expr sc bound b)
is_signed_expr sc bound (greatest a b) = bound && (is_signed_expr sc bound a && is_signed_expr sc bound b)
is_signed_expr sc bound _ = false

-- no cell of an array is read
abbrev mutual
  pub reads_no_array : Scope → PlainExpr → Bool
  reads_no_array sc (lit n) = true
  reads_no_array sc (var x) = true
  reads_no_array sc (cell x at) = not (is_array sc.params x) && all_read_no_array sc at
  reads_no_array sc (un op a) = reads_no_array sc a
  reads_no_array sc (bin op a b) = reads_no_array sc a && reads_no_array sc b
  reads_no_array sc (cast a) = reads_no_array sc a
  reads_no_array sc (test rel a b) = reads_no_array sc a && reads_no_array sc b
  reads_no_array sc (umin a b) = reads_no_array sc a && reads_no_array sc b
  reads_no_array sc (umax a b) = reads_no_array sc a && reads_no_array sc b
  reads_no_array sc (least a b) = reads_no_array sc a && reads_no_array sc b
  reads_no_array sc (greatest a b) = reads_no_array sc a && reads_no_array sc b
  reads_no_array sc (widen a) = reads_no_array sc a
  reads_no_array sc (big high low) = true

  pub all_read_no_array : Scope → PlainExprs → Bool
  all_read_no_array sc no_exprs = true
  all_read_no_array sc (more_exprs e es) = reads_no_array sc e && all_read_no_array sc es

abbrev pub kind_of : Scope → PlainExpr → Kind
kind_of sc = kind (is_signed_name sc)

-- literals, words, cells, entries of tables and the operators on words; what stands in an array's subscript or under a cast is signed or a word expression by its names
abbrev mutual
  pub is_word_expr : Scope → PlainExpr → Bool
  is_word_expr sc (lit n) = true
  is_word_expr sc (var x) = is_scalar sc.words x
  is_word_expr sc (cell x at) = if is_array sc.params x then are_subscripts sc at else (is_among sc.tables x && is_entry sc at)
  is_word_expr sc (un op a) = is_word_expr sc a
  is_word_expr sc (bin op a b) = is_word_expr sc a && is_word_expr sc b
  is_word_expr sc (cast a) = if is_signed (kind_of sc a) then is_signed_expr sc false a else is_word_expr sc a
  is_word_expr sc (test rel a b) = is_word_expr sc a && is_word_expr sc b
  is_word_expr sc (umin a b) = is_word_expr sc a && is_word_expr sc b
  is_word_expr sc (umax a b) = is_word_expr sc a && is_word_expr sc b
  is_word_expr sc (least a b) = false
  is_word_expr sc (greatest a b) = false
  is_word_expr sc (widen a) = false
  is_word_expr sc (big high low) = false

  pub are_subscripts : Scope → PlainExprs → Bool
  are_subscripts sc no_exprs = true
  are_subscripts sc (more_exprs e es) =
      (if is_word (kind_of sc e) then is_word_expr sc e && reads_no_array sc e else is_signed_expr sc false e) && are_subscripts sc es

  pub is_entry : Scope → PlainExprs → Bool
  is_entry sc no_exprs = false
  is_entry sc (more_exprs e no_exprs) = is_word_expr sc e
  is_entry sc (more_exprs e (more_exprs d es)) = false

-- `bal_wide`, wide names, casts to wide, `+`, `*` and `/` by a literal
abbrev pub is_wide_bin : BinOp → PlainExpr → Bool → Bool
is_wide_bin Add b wide = wide
is_wide_bin Mul b wide = wide
is_wide_bin Div (lit n) wide = true
is_wide_bin _ b wide = false

abbrev pub is_wide_expr : Scope → PlainExpr → Bool
is_wide_expr sc (var x) = is_among sc.wides x
is_wide_expr sc (bin op a b) = is_wide_expr sc a && is_wide_bin op b (is_wide_expr sc b)
is_wide_expr sc (widen a) = if is_signed (kind_of sc a) then is_signed_expr sc false a else is_word_expr sc a
is_wide_expr sc (big high low) = true
is_wide_expr sc _ = false

-- both sides are signed, or both are word expressions without cells of arrays
abbrev pub is_test : Scope → PlainTest → Bool
is_test sc t =
    if is_word (join (kind_of sc t.1) (kind_of sc t.2))
    then is_word_expr sc t.1 && (is_word_expr sc t.2 && (reads_no_array sc t.1 && reads_no_array sc t.2))
    else (is_signed_expr sc false t.1 && is_signed_expr sc false t.2)

-- `=` or `+=`
abbrev pub is_wide_op : Option BinOp → Bool
is_wide_op None = true
is_wide_op (Some Add) = true
is_wide_op (Some _) = false

abbrev pub is_assignment : Scope → PlainExpr → Option BinOp → PlainExpr → Bool
is_assignment sc (var x) op e =
    is_scalar sc.words x && is_word_expr sc e || is_among sc.wides x && (is_wide_op op && is_wide_expr sc e)
is_assignment sc (cell x at) op e = is_word_expr sc (cell x at) && is_word_expr sc e
is_assignment sc _ op e = false

abbrev pub has_kinds : Scope → PlainStmt → Bool
has_kinds sc (loop x lo rel hi body) = is_signed_expr sc true lo && is_signed_expr sc true hi
has_kinds sc (choice ts first other) = list_all (is_test sc) ts
has_kinds sc (assign target op e) = is_assignment sc target op e
has_kinds sc (table x len) = is_word_expr sc len
has_kinds sc begin = true
has_kinds sc (check x extent a) = is_scalar sc.words x && is_signed_expr sc false extent
has_kinds sc verdict = list_all (is_among sc.wides) (total_names_from 0 sc.params)

abbrev pub extents_signed : Scope → List PlainParam → Bool
extents_signed sc [] = true
extents_signed sc (int_param x ∷ ps) = extents_signed sc ps
extents_signed sc (array_param x constant extents ∷ ps) = list_all (is_signed_expr sc false) (list_of extents) && extents_signed sc ps

abbrev pub wrong_kind : PlainUnit → Condition
wrong_kind u = record {
  head = not (extents_signed (record { params = u.params; words = u.words; wides = u.wides; loops = []; tables = [] }) u.params);
  inside = λ i. not (has_kinds (scope_at u i) i.stmt);
}

-- ---- accepted

-- the conditions with their numbers, in order
abbrev pub printed_conditions : PlainUnit → List (ℕ × Condition)
printed_conditions u =
    (4, name_twice u) ∷ (5, name_unknown u) ∷ (7, bad_range u) ∷ (9, at_head (extent_not_affine u)) ∷ (10, at_head (extent_terms_too_large u))
    ∷ (11, at_head (extent_too_wide u)) ∷ (12, at_head (extent_not_positive u)) ∷ (13, wrong_dimensions u) ∷ (16, bad_literal u) ∷ (18, wrong_kind u) ∷ []

-- The lowest number that holds anywhere, with the least item at which it holds.
abbrev pub printed_refusal : PlainUnit → Option (ℕ × ℕ)
printed_refusal u = lowest (map (λ c. (c.0, least_item u c.1)) (printed_conditions u))

-- A printed unit is accepted where it is a tree of the grammar and none of its conditions holds anywhere.
pub record IsAcceptedPrinted (u : PlainUnit) : Type 0 where
  pub tree : IsPrintedTree u
  pub refused_nowhere : printed_refusal u ≡ None

-- ---- before `begin`

-- the statements before `begin`
abbrev pub before_begin : PlainStmts → PlainStmts
before_begin no_stmts = no_stmts
before_begin (more_stmts begin ss) = no_stmts
before_begin (more_stmts s ss) = more_stmts s (before_begin ss)

-- an assignment to a cell of an array
abbrev pub stores_into : List PlainParam → PlainStmt → Bool
stores_into ps (assign (cell x at) op e) = is_array ps x
stores_into ps _ = false

abbrev mutual
  pub stores : List PlainParam → PlainStmt → Bool
  stores ps (loop x lo rel hi body) = any_stores ps body
  stores ps (choice ts first other) = any_stores ps first || any_stores ps other
  stores ps (assign target op e) = stores_into ps (assign target op e)
  stores ps (table x len) = false
  stores ps begin = false
  stores ps (check x extent a) = false
  stores ps verdict = false

  pub any_stores : List PlainParam → PlainStmts → Bool
  any_stores ps no_stmts = false
  any_stores ps (more_stmts s ss) = stores ps s || any_stores ps ss

-- No array is stored into before `begin`.
abbrev pub StoresNothingBefore : PlainUnit → Type 0
StoresNothingBefore u = any_stores u.params (before_begin u.body) ≡ false
