-- Which sources are accepted: one condition for each refusal of a source, and the lowest number that holds, with the least item at which it does.
use Rattle.std.specs.Prelude.{◌≡◌, ℕ, Bool, true, false, not, ◌&&◌, ◌||◌, List, [], ◌∷◌, Option, Some, None, bytes_eq}
use Rattle.std.specs.List.{list_any}
use Rattle.c_tree.specs.Plain.{Word, var, cell, PlainExprs, no_exprs, more_exprs, PlainStmt, loop, choice, assign, table, begin, check, verdict, PlainStmts, no_stmts, more_stmts, PlainParam, int_param, array_param, PlainUnit}
use Rattle.c_tree.specs.Reserved.{is_reserved}
use Rattle.acceptance.specs.Items.{Condition, least_item, lowest, Scope, scope_at, param_name, is_int, is_loop}
use Rattle.acceptance.specs.Affine.{is_affine, has_small_terms, holds_throughout, is_narrow}
use Rattle.acceptance.specs.Head.{bad_range, intervals_of, extent_not_affine, extent_terms_too_large, extent_too_wide, extent_not_positive}
use Rattle.acceptance.specs.Printed.{name_twice, name_unknown, at_head, wrong_dimensions, bad_literal}
use Rattle.acceptance.specs.Parts.{is_data, item_parts_hold, are_regular, cells_hold, intervals_in}
use Rattle.acceptance.specs.Limits.{Excess, too_many}
use Rattle.acceptance.specs.Trees.{IsSourceTree}

-- ---- declared names

-- a test of the variable that a loop declares
abbrev pub at_loop : (Word → Bool) → PlainStmt → Bool
at_loop p (loop x lo rel hi body) = p x
at_loop p _ = false

abbrev pub reserved_name : PlainUnit → Condition
reserved_name u = record {
  head = is_reserved u.name || (list_any (λ p. is_reserved (param_name p)) u.params || list_any (λ w. is_reserved w.0) u.words);
  inside = λ i. at_loop is_reserved i.stmt;
}

-- ---- affine expressions

-- the value of an assignment has no signed name outside casts and subscripts
abbrev pub assigns_data : Scope → PlainStmt → Bool
assigns_data sc (assign target op e) = is_data sc e
assigns_data sc _ = true

abbrev pub not_affine : PlainUnit → Condition
not_affine u = record {
  head = extent_not_affine u;
  inside = λ i. not (item_parts_hold (is_affine (scope_at u i)) (scope_at u i) i.stmt && assigns_data (scope_at u i) i.stmt);
}

abbrev pub coefficient_too_large : PlainUnit → Condition
coefficient_too_large u = record {
  head = extent_terms_too_large u;
  inside = λ i. not (item_parts_hold (has_small_terms (scope_at u i)) (scope_at u i) i.stmt);
}

abbrev pub interval_too_wide : PlainUnit → Condition
interval_too_wide u = record {
  head = extent_too_wide u;
  inside = λ i. not (item_parts_hold (holds_throughout (is_narrow (intervals_in (intervals_of u) i.loops))) (scope_at u i) i.stmt);
}

-- ---- targets and index arrays

-- a test of the name of a target
abbrev pub target_holds : (Word → Bool) → PlainStmt → Bool
target_holds p (assign (var x) op e) = p x
target_holds p (assign (cell x at) op e) = p x
target_holds p _ = false

abbrev pub is_const_array : List PlainParam → Word → Bool
is_const_array [] x = false
is_const_array (int_param y ∷ ps) x = is_const_array ps x
is_const_array (array_param y constant extents ∷ ps) x = bytes_eq y x && constant || is_const_array ps x

abbrev pub write_to_const : PlainUnit → Condition
write_to_const u = record {
  head = false;
  inside = λ i. target_holds (λ x. is_const_array u.params x || (is_int u.params x || is_loop i.loops x)) i.stmt;
}

-- the index arrays in subscripts of an array are `const` and other arrays
abbrev pub are_indexed : List PlainParam → Word → PlainExprs → Bool
are_indexed ps x no_exprs = true
are_indexed ps x (more_exprs (cell y at) es) = is_const_array ps y && (not (bytes_eq x y) && are_indexed ps x es)
are_indexed ps x (more_exprs e es) = are_indexed ps x es

-- a test of each cell of an assignment
abbrev pub assigned_cells_hold : (Word → PlainExprs → Bool) → PlainStmt → Bool
assigned_cells_hold p (assign target op e) = cells_hold p target && cells_hold p e
assigned_cells_hold p _ = true

abbrev pub bad_index_array : PlainUnit → Condition
bad_index_array u = record { head = false; inside = λ i. not (assigned_cells_hold (are_indexed u.params) i.stmt) }

-- a written cell has a subscript that is a cell
abbrev pub writes_regular : PlainStmt → Bool
writes_regular (assign (cell x at) op e) = are_regular at
writes_regular _ = true

abbrev pub irregular_write : PlainUnit → Condition
irregular_write u = record { head = false; inside = λ i. not (writes_regular i.stmt) }

-- ---- the refusal

abbrev pub item_of : Option Excess → Option ℕ
item_of None = None
item_of (Some e) = Some e.item

-- the numbers of the refusals, with the least item of each
abbrev pub judged : PlainUnit → List (ℕ × Option ℕ)
judged u =
    (4, least_item u (name_twice u)) ∷ (5, least_item u (name_unknown u)) ∷ (6, least_item u (reserved_name u)) ∷ (7, least_item u (bad_range u))
    ∷ (8, item_of (too_many u)) ∷ (9, least_item u (not_affine u)) ∷ (10, least_item u (coefficient_too_large u)) ∷ (11, least_item u (interval_too_wide u))
    ∷ (12, least_item u (at_head (extent_not_positive u))) ∷ (13, least_item u (wrong_dimensions u)) ∷ (14, least_item u (write_to_const u))
    ∷ (15, least_item u (bad_index_array u)) ∷ (16, least_item u (bad_literal u)) ∷ (17, least_item u (irregular_write u)) ∷ []

-- The lowest number that holds anywhere, with the least item at which it holds.
abbrev pub refusal : PlainUnit → Option (ℕ × ℕ)
refusal u = lowest (judged u)

-- A source is accepted where it is a tree of the grammar and none of its conditions holds anywhere.
pub record IsAcceptedSource (u : PlainUnit) : Type 0 where
  pub tree : IsSourceTree u
  pub refused_nowhere : refusal u ≡ None

-- ---- sources without irregular subscripts

abbrev mutual
  pub is_regular : PlainStmt → Bool
  is_regular (loop x lo rel hi body) = all_are_regular body
  is_regular (choice ts first other) = all_are_regular first && all_are_regular other
  is_regular (assign target op e) = cells_hold (λ x at. are_regular at) target && cells_hold (λ x at. are_regular at) e
  is_regular (table x len) = true
  is_regular begin = true
  is_regular (check x extent a) = true
  is_regular verdict = true

  pub all_are_regular : PlainStmts → Bool
  all_are_regular no_stmts = true
  all_are_regular (more_stmts s ss) = is_regular s && all_are_regular ss
