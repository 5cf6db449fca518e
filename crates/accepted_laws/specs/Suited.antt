-- What a source must have, for its instrumented unit to be accepted.
-- Each fact says which refusal gives it; "grammar" says that no text has a unit without it.
use Rattle.std.specs.Prelude.{◌≡◌, ℕ, ◌<◌, ◌≤◌, Bool, true, false, not, ◌&&◌, if◌then◌else◌, List, [], ◌∷◌, length}
use Rattle.c_tree.specs.Plain.{Word, PlainExpr, lit, var, cell, un, bin, cast, test, umin, umax, least, greatest, widen, big, PlainExprs, no_exprs, more_exprs, PlainTest, PlainStmt, loop, choice, assign, table, begin, check, verdict, PlainStmts, no_stmts, more_stmts, PlainParam, int_param, array_param, PlainUnit}
use Rattle.c_tree.specs.Reserved.{is_reserved}
use Rattle.instrumentation.specs.Body.{reads_in, full}
use Rattle.instrumentation.specs.Guarded.{array_names}
use Rattle.acceptance.specs.Items.{Loop, Scope, scope_of, is_signed_name, param_name}
use Rattle.acceptance.specs.Affine.{is_affine}
use Rattle.acceptance.specs.Trees.{is_assigning}
use Rattle.acceptance.specs.Head.{list_of, extents_known, head_names_twice, bad_range, extent_not_affine, extent_terms_too_large, extent_too_wide, extent_not_positive}
use Rattle.acceptance.specs.Parts.{has_signed}
use Rattle.acceptance.specs.Sources.{at_loop}
use Rattle.acceptance.specs.Printed.{item_name_twice, item_uses_known, dimensions, fits_dimensions, exprs_fit, literals_fit}

-- ---- expressions

abbrev pub all_affine : Scope → PlainExprs → Bool
all_affine sc no_exprs = true
all_affine sc (more_exprs e es) = is_affine sc e && all_affine sc es

-- affine subscripts, of which a cell has one at least
abbrev pub are_subscripts : Scope → PlainExprs → Bool
are_subscripts sc no_exprs = false
are_subscripts sc (more_exprs e es) = is_affine sc e && all_affine sc es

-- in a read a subscript may be an index cell
abbrev pub is_subscript : Scope → PlainExpr → Bool
is_subscript sc (cell x at) = are_subscripts sc at
is_subscript sc e = is_affine sc e

abbrev pub all_readable : Scope → PlainExprs → Bool
all_readable sc no_exprs = true
all_readable sc (more_exprs e es) = is_subscript sc e && all_readable sc es

abbrev pub are_readable : Scope → PlainExprs → Bool
are_readable sc no_exprs = false
are_readable sc (more_exprs e es) = is_subscript sc e && all_readable sc es

-- a data expression: signed names stand in subscripts and in affine operands of casts alone
abbrev pub is_data : Scope → PlainExpr → Bool
is_data sc (lit n) = true
is_data sc (var x) = not (is_signed_name sc x)
is_data sc (cell x at) = are_readable sc at
is_data sc (un op a) = is_data sc a
is_data sc (bin op a b) = is_data sc a && is_data sc b
is_data sc (cast a) = if has_signed sc a then is_affine sc a else is_data sc a
is_data sc (test rel a b) = is_data sc a && is_data sc b
is_data sc (umin a b) = is_data sc a && is_data sc b
is_data sc (umax a b) = is_data sc a && is_data sc b
is_data sc (least a b) = false
is_data sc (greatest a b) = false
is_data sc (widen a) = false
is_data sc (big high low) = false

abbrev pub tests_affine : Scope → List PlainTest → Bool
tests_affine sc [] = true
tests_affine sc (t ∷ ts) = (is_affine sc t.1 && is_affine sc t.2) && tests_affine sc ts

abbrev pub is_target : Scope → PlainExpr → Bool
is_target sc (var x) = not (is_signed_name sc x)
is_target sc (cell x at) = are_subscripts sc at
is_target sc _ = false

-- ---- items

-- S9, S14 and S17 of a statement; that the target is a name or a cell, and which operators assign, is the grammar's
abbrev pub item_is_affine : Scope → PlainStmt → Bool
item_is_affine sc (loop x lo rel hi body) = is_affine sc lo && is_affine sc hi
item_is_affine sc (choice ts first other) = tests_affine sc ts
item_is_affine sc (assign target op e) = is_target sc target && (is_assigning op && is_data sc e)
item_is_affine sc _ = false

-- S8: loops nest at most 6 deep, and one assignment makes at most 16 reads
abbrev pub IsFew : PlainStmt → List Loop → Type 0
IsFew (loop x lo rel hi body) ls = length ls < 6
IsFew (assign target op e) ls = reads_in (full target op e) ≤ 16
IsFew _ ls = Unit {0}

pub record IsSuitedItem (u : PlainUnit) (s : PlainStmt) (ls : List Loop) : Type 0 where
  -- S4
  pub once : item_name_twice (scope_of u ls []) u.name s ≡ false
  -- S5
  pub known : item_uses_known (scope_of u ls []) s ≡ true
  -- S6
  pub free : at_loop is_reserved s ≡ false
  -- S8
  pub few : IsFew s ls
  -- S9, S14, S17, grammar
  pub affine : item_is_affine (scope_of u ls []) s ≡ true
  -- S13
  pub fits : exprs_fit (fits_dimensions (dimensions (scope_of u ls []))) s ≡ true
  -- S16
  pub literals : exprs_fit literals_fit s ≡ true

abbrev mutual
  pub StmtSuited : PlainUnit → PlainStmt → List Loop → Type 0
  StmtSuited u (loop x lo rel hi body) ls =
      IsSuitedItem u (loop x lo rel hi body) ls × AllSuited u body (record { name = x; lo = lo; rel = rel; hi = hi } ∷ ls)
  StmtSuited u (choice ts first other) ls = IsSuitedItem u (choice ts first other) ls × AllSuited u first ls × AllSuited u other ls
  StmtSuited u (assign target op e) ls = IsSuitedItem u (assign target op e) ls
  StmtSuited u (table x len) ls = ⊥
  StmtSuited u begin ls = ⊥
  StmtSuited u (check x extent a) ls = ⊥
  StmtSuited u verdict ls = ⊥

  pub AllSuited : PlainUnit → PlainStmts → List Loop → Type 0
  AllSuited u no_stmts ls = Unit {0}
  AllSuited u (more_stmts s ss) ls = StmtSuited u s ls × AllSuited u ss ls

-- ---- the head

-- S6
abbrev pub AreFreeParams : List PlainParam → Type 0
AreFreeParams [] = Unit {0}
AreFreeParams (p ∷ ps) = (is_reserved (param_name p) ≡ false) × AreFreeParams ps

abbrev pub AreFreeWords : List (Word × ℕ) → Type 0
AreFreeWords [] = Unit {0}
AreFreeWords (w ∷ ws) = (is_reserved w.0 ≡ false) × AreFreeWords ws

-- grammar: an array has 1 to 3 extents
abbrev pub AreRanked : List PlainParam → Type 0
AreRanked [] = Unit {0}
AreRanked (int_param x ∷ ps) = AreRanked ps
AreRanked (array_param x constant extents ∷ ps) = (1 ≤ length (list_of extents)) × (length (list_of extents) ≤ 3) × AreRanked ps

-- a source that no refusal names
pub record IsSuited (u : PlainUnit) : Type 0 where
  -- grammar
  pub no_wides : u.wides ≡ []
  pub ranked : AreRanked u.params
  -- S4
  pub once : head_names_twice u ≡ false
  -- S5
  pub known : extents_known [] u.params ≡ true
  -- S6
  pub free_params : AreFreeParams u.params
  pub free_words : AreFreeWords u.words
  -- S7
  pub ranges : (bad_range u).head ≡ false
  -- S8
  pub few_arrays : length (array_names u.params) ≤ 16
  -- S9
  pub affine : extent_not_affine u ≡ false
  -- S10
  pub small : extent_terms_too_large u ≡ false
  -- S11
  pub narrow : extent_too_wide u ≡ false
  -- S12
  pub positive : extent_not_positive u ≡ false
  -- the items of the body
  pub body : AllSuited u u.body []
