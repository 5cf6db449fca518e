-- A pass over a source is quiet; what it makes of an assignment has no loops.
use Rattle.std.proofs.Common.{◌≡◌, ◌||◌, ℕ, zero, suc, ◌+◌, Bool, true, false, cond, List, [], ◌∷◌, ◌++◌, refl, sym, subst, pos, Option, Some, None, nat_eq}
use Rattle.std.proofs.lemmas.Bool.{cond-false, or_parts}
use Rattle.c_tree.specs.Plain.{Word, PlainExpr, lit, var, cell, un, bin, cast, test, umin, umax, least, greatest, widen, big, PlainExprs, no_exprs, more_exprs, PlainTest, PlainStmt, loop, choice, assign, table, begin, check, verdict, PlainStmts, no_stmts, more_stmts}
use Rattle.c_tree.specs.Trees.{stmts_of}
use Rattle.c_tree.specs.Values.{Vars}
use Rattle.c_tree.specs.Arrays.{Array}
use Rattle.c_tree.specs.Instances.{sites, sites_all}
use Rattle.c_tree.specs.declared.expr.BinOp.{BinOp}
use Rattle.c_tree.specs.declared.expr.BinOp.TheVariants.{Add}
use Rattle.instrumentation.specs.Names.{active, counter, count}
use Rattle.instrumentation.specs.Body.{full}
use Rattle.instrumentation.specs.Inspects.{read_irregularly, inspects, inspects_all}
use Rattle.instrumentation.proofs.Subscripts.{cell_or_not, not_by_cell}
use Rattle.instrumentation.specs.Passes.{Target, renamed, renamed_all, renamed_tests, same_cell, set_word, count_cell, count_indices, count_reads, same_instance, own_write, write_text, count_write, copied, copied_all, pass_text, coordinates_from, cell_piece}
use Rattle.instrumentation.specs.Pieces.{site_piece, site_pieces_all, piece_at}
use Rattle.run_laws.specs.Sources.{HasNoCells}
use Rattle.pass_laws.specs.Countable.{AllHaveNoCells, IsAffine, AreAffine, AreAffineTests, IsIndexed, AreIndexed, IsData, IsTarget, IsCountable, AreCountable}
use Rattle.pass_laws.proofs.Quiet.{HaveNoCells, IsQuiet, AreQuiet}
use Rattle.pass_laws.proofs.Quiet.IsSet.{sets_active, sets_counter, sets_count}
use Rattle.pass_laws.specs.Targets.{targets, targets_all, target_in, target_at, is_inspected}
use Rattle.pass_laws.proofs.Counted.{full_data}
use Rattle.pass_laws.proofs.Targeted.{piece_of}
use Rattle.pass_laws.proofs.Uninspected.{read_plainly, plain_affine}

affine_no_cells : (e : PlainExpr) (vs : Vars) → IsAffine e vs → HasNoCells e
affine_no_cells (lit n) vs h = tt
affine_no_cells (var x) vs h = tt
affine_no_cells (cell x at) vs h = h
affine_no_cells (un op a) vs h = affine_no_cells a vs h
affine_no_cells (bin op a b) vs h = (affine_no_cells a vs h.0, affine_no_cells b vs h.1)
affine_no_cells (cast a) vs h = absurd h
affine_no_cells (test rel a b) vs h = absurd h
affine_no_cells (umin a b) vs h = absurd h
affine_no_cells (umax a b) vs h = absurd h
affine_no_cells (least a b) vs h = (affine_no_cells a vs h.0, affine_no_cells b vs h.1)
affine_no_cells (greatest a b) vs h = (affine_no_cells a vs h.0, affine_no_cells b vs h.1)
affine_no_cells (widen a) vs h = absurd h
affine_no_cells (big high low) vs h = absurd h

pub all_affine_no_cells : (es : PlainExprs) (vs : Vars) → AreAffine es vs → AllHaveNoCells es
all_affine_no_cells no_exprs vs h = tt
all_affine_no_cells (more_exprs e es) vs h = (affine_no_cells e vs h.0, all_affine_no_cells es vs h.1)

renamed_no_cells : (xs : List Word) (e : PlainExpr) (vs : Vars) → IsAffine e vs → HasNoCells (renamed xs e)
renamed_no_cells xs (lit n) vs h = tt
renamed_no_cells xs (var x) vs h = tt
renamed_no_cells xs (cell x at) vs h = h
renamed_no_cells xs (un op a) vs h = renamed_no_cells xs a vs h
renamed_no_cells xs (bin op a b) vs h = (renamed_no_cells xs a vs h.0, renamed_no_cells xs b vs h.1)
renamed_no_cells xs (cast a) vs h = absurd h
renamed_no_cells xs (test rel a b) vs h = absurd h
renamed_no_cells xs (umin a b) vs h = absurd h
renamed_no_cells xs (umax a b) vs h = absurd h
renamed_no_cells xs (least a b) vs h = (renamed_no_cells xs a vs h.0, renamed_no_cells xs b vs h.1)
renamed_no_cells xs (greatest a b) vs h = (renamed_no_cells xs a vs h.0, renamed_no_cells xs b vs h.1)
renamed_no_cells xs (widen a) vs h = absurd h
renamed_no_cells xs (big high low) vs h = absurd h

tests_no_cells : (xs : List Word) (ts : List PlainTest) (vs : Vars) → AreAffineTests ts vs → HaveNoCells (renamed_tests xs ts)
tests_no_cells xs [] vs h = tt
tests_no_cells xs (t ∷ ts) vs h = ((renamed_no_cells xs t.1 vs h.0.0, renamed_no_cells xs t.2 vs h.0.1), tests_no_cells xs ts vs h.1)

cell_no_cells : (xs : List Word) (es ds : PlainExprs) (vs : Vars) → AreAffine es vs → AllHaveNoCells ds → HaveNoCells (same_cell (renamed_all xs es) ds)
cell_no_cells xs no_exprs ds vs h g = tt
cell_no_cells xs (more_exprs e es) no_exprs vs h g = tt
cell_no_cells xs (more_exprs e es) (more_exprs d ds) vs h g = ((renamed_no_cells xs e vs h.0, g.0), cell_no_cells xs es ds vs h.1 g.1)

quiet_join : (still : Bool) (xs ys : List PlainStmt) → AreQuiet still (stmts_of xs) → AreQuiet still (stmts_of ys) → AreQuiet still (stmts_of (xs ++ ys))
quiet_join still [] ys h g = g
quiet_join still (x ∷ xs) ys h g = (h.0, quiet_join still xs ys h.1 g)

quiet_if : (still b : Bool) (x : PlainStmt) → (b ≡ true → IsQuiet still x) → AreQuiet still (stmts_of (cond b (x ∷ []) []))
quiet_if still true x h = (h refl, tt)
quiet_if still false x h = tt

module _ (number : Word → ℕ) (target : Target) (free : AllHaveNoCells target.at) (arrays : List Array) (still : Bool) where
  counted_quiet : (xs : List Word) (x : Word) (at : PlainExprs) (vs : Vars) → (nat_eq (number x) target.array ≡ true → AreAffine at vs) → AreQuiet still (stmts_of (count_cell number target xs x at))
  counted_quiet xs x at vs h =
      quiet_if still (nat_eq (number x) target.array) (choice (same_cell (renamed_all xs at) target.at) (stmts_of (assign (var counter) (Some Add) (var active) ∷ [])) no_stmts)
      (λ e. (cell_no_cells xs at target.at vs (h e) free, ((sets_counter refl, tt), tt), tt))

  indices_quiet : (xs : List Word) (at : PlainExprs) (vs : Vars) → AreIndexed arrays number at vs → AreQuiet still (stmts_of (count_indices number target xs at))
  indices_quiet xs no_exprs vs h = tt
  indices_quiet xs (more_exprs e es) vs h =
      cell_or_not (λ e. IsIndexed arrays number e vs → AreQuiet still (stmts_of (count_indices number target xs (more_exprs e es))))
      (λ p at i. quiet_join still (count_cell number target xs p at) (count_indices number target xs es) (counted_quiet xs p at vs (λ e. i.affine)) (indices_quiet xs es vs h.1))
      (λ e other i. subst (λ (l : List PlainStmt). AreQuiet still (stmts_of l)) (sym (not_by_cell e (λ x at. count_cell number target xs x at ++ count_indices number target xs es) (count_indices number target xs es) other)) (indices_quiet xs es vs h.1))
      e h.0

  two_quiet : (xs : List Word) (a b : PlainExpr) → (read_irregularly number target.array a || read_irregularly number target.array b) ≡ false →
      (read_irregularly number target.array a ≡ false → AreQuiet still (stmts_of (count_reads number target xs a))) → (read_irregularly number target.array b ≡ false → AreQuiet still (stmts_of (count_reads number target xs b))) →
      AreQuiet still (stmts_of (count_reads number target xs a ++ count_reads number target xs b))
  two_quiet xs a b u h g = quiet_join still (count_reads number target xs a) (count_reads number target xs b) (h (or_parts _ _ u).0) (g (or_parts _ _ u).1)

  reads_quiet : (xs : List Word) (e : PlainExpr) (vs : Vars) → IsData arrays number e vs → read_irregularly number target.array e ≡ false → AreQuiet still (stmts_of (count_reads number target xs e))
  reads_quiet xs (lit n) vs h u = tt
  reads_quiet xs (var x) vs h u = tt
  reads_quiet xs (cell x at) vs h u =
      quiet_join still (count_indices number target xs at) (count_cell number target xs x at) (indices_quiet xs at vs h.indexed)
      (counted_quiet xs x at vs (λ e. plain_affine arrays number at vs h.indexed (read_plainly number target.array x at u e)))
  reads_quiet xs (un op a) vs h u = reads_quiet xs a vs h u
  reads_quiet xs (bin op a b) vs h u = two_quiet xs a b u (λ w. reads_quiet xs a vs h.0 w) (λ w. reads_quiet xs b vs h.1 w)
  reads_quiet xs (cast a) vs h u = reads_quiet xs a vs h u
  reads_quiet xs (test rel a b) vs h u = two_quiet xs a b u (λ w. reads_quiet xs a vs h.0 w) (λ w. reads_quiet xs b vs h.1 w)
  reads_quiet xs (umin a b) vs h u = two_quiet xs a b u (λ w. reads_quiet xs a vs h.0 w) (λ w. reads_quiet xs b vs h.1 w)
  reads_quiet xs (umax a b) vs h u = two_quiet xs a b u (λ w. reads_quiet xs a vs h.0 w) (λ w. reads_quiet xs b vs h.1 w)
  reads_quiet xs (least a b) vs h u = tt
  reads_quiet xs (greatest a b) vs h u = tt
  reads_quiet xs (widen a) vs h u = tt
  reads_quiet xs (big high low) vs h u = tt

  instance_no_cells : (xs : List Word) → HaveNoCells (same_instance xs)
  instance_no_cells [] = tt
  instance_no_cells (x ∷ xs) = ((tt, tt), instance_no_cells xs)

  own_quiet : (xs : List Word) → AreQuiet still (stmts_of (own_write xs))
  own_quiet [] = ((sets_active refl, tt), tt)
  own_quiet (x ∷ xs) = ((instance_no_cells (x ∷ xs), ((sets_active refl, tt), tt), ((sets_active refl, tt), tt)), tt)

  write_quiet : (site : Option ℕ) (xs : List Word) (k : ℕ) → AreQuiet still (stmts_of (write_text site xs k))
  write_quiet None xs k = ((sets_active refl, tt), tt)
  write_quiet (Some site) xs k = chosen (nat_eq site k)
    where
      chosen : (b : Bool) → AreQuiet still (stmts_of (cond b (own_write xs) (set_word active 0 ∷ [])))
      chosen true = own_quiet xs
      chosen false = ((sets_active refl, tt), tt)

  target_quiet : (site : Option ℕ) (xs : List Word) (k : ℕ) (t : PlainExpr) (vs : Vars) → IsTarget arrays number t vs → AreQuiet still (stmts_of (count_write number target site xs k t))
  target_quiet site xs k (var x) vs h = tt
  target_quiet site xs k (cell x at) vs h =
      quiet_if still (nat_eq (number x) target.array) (choice (same_cell (renamed_all xs at) target.at) (stmts_of (write_text site xs k)) no_stmts)
      (λ e. (cell_no_cells xs at target.at vs h.affine free, write_quiet site xs k, tt))
  target_quiet site xs k (lit n) vs h = tt
  target_quiet site xs k (un op a) vs h = tt
  target_quiet site xs k (bin op a b) vs h = tt
  target_quiet site xs k (cast a) vs h = tt
  target_quiet site xs k (test rel a b) vs h = tt
  target_quiet site xs k (umin a b) vs h = tt
  target_quiet site xs k (umax a b) vs h = tt
  target_quiet site xs k (least a b) vs h = tt
  target_quiet site xs k (greatest a b) vs h = tt
  target_quiet site xs k (widen a) vs h = tt
  target_quiet site xs k (big high low) vs h = tt

  pub assign_quiet : (site : Option ℕ) (xs : List Word) (k : ℕ) (t : PlainExpr) (op : Option BinOp) (e : PlainExpr) (vs : Vars) → IsTarget arrays number t vs → IsData arrays number e vs → read_irregularly number target.array (full t op e) ≡ false →
      AreQuiet still (stmts_of (count_reads number target xs (full t op e) ++ count_write number target site xs k t))
  assign_quiet site xs k t op e vs h d u =
      quiet_join still (count_reads number target xs (full t op e)) (count_write number target site xs k t) (reads_quiet xs (full t op e) vs (full_data arrays number t op e vs h d) u) (target_quiet site xs k t vs h)

module _ (number : Word → ℕ) (target : Target) (free : AllHaveNoCells target.at) (arrays : List Array) (site : Option ℕ) where
  mutual
    copied_quiet : (p : PlainStmt) (xs : List Word) (k : ℕ) (vs : Vars) → IsCountable arrays number p vs → inspects number target.array p ≡ false → AreQuiet false (stmts_of (copied number target site xs k p))
    copied_quiet (loop x lo rel hi body) xs k vs h u = ((refl, copied_all_quiet body (x ∷ xs) k ((x, pos 0) ∷ vs) (h.3 (pos 0)) u), tt)
    copied_quiet (choice ts first other) xs k vs h u = ((tests_no_cells xs ts vs h.0, copied_all_quiet first xs k vs h.1 (or_parts _ _ u).0, copied_all_quiet other xs (k + sites_all first) vs h.2 (or_parts _ _ u).1), tt)
    copied_quiet (assign t op e) xs k vs h u = assign_quiet number target free arrays false site xs k t op e vs h.0 h.1 u
    copied_quiet (table x len) xs k vs h u = tt
    copied_quiet begin xs k vs h u = tt
    copied_quiet (check x extent a) xs k vs h u = tt
    copied_quiet verdict xs k vs h u = tt

    copied_all_quiet : (ps : PlainStmts) (xs : List Word) (k : ℕ) (vs : Vars) → AreCountable arrays number ps vs → inspects_all number target.array ps ≡ false → AreQuiet false (stmts_of (copied_all number target site xs k ps))
    copied_all_quiet no_stmts xs k vs h u = tt
    copied_all_quiet (more_stmts p ps) xs k vs h u =
        quiet_join false (copied number target site xs k p) (copied_all number target site xs (k + sites p) ps) (copied_quiet p xs k vs h.0 (or_parts _ _ u).0) (copied_all_quiet ps xs (k + sites p) vs h.1 (or_parts _ _ u).1)

  pub pass_quiet : (body : PlainStmts) (vs : Vars) → AreCountable arrays number body vs → inspects_all number target.array body ≡ false → AreQuiet false (stmts_of (pass_text number body target site))
  pass_quiet body vs h u = (
    (sets_active refl, tt),
    (
      (sets_counter refl, tt),
      quiet_join false (copied_all number target site [] 0 body) (assign (var count) None (widen (var counter)) ∷ []) (copied_all_quiet body [] 0 vs h u) ((sets_count refl, tt), tt),
    ),
  )

-- ---- the pieces of a source

module _ (arrays : List Array) (number : Word → ℕ) (whole : PlainStmts) (params : Vars) (countable : AreCountable arrays number whole params) where
  pub coordinates_free : (d : ℕ) (es : PlainExprs) → AllHaveNoCells (coordinates_from d es)
  coordinates_free d no_exprs = tt
  coordinates_free d (more_exprs e es) = (tt, coordinates_free (suc d) es)

  pub cell_quiet : (a : ℕ) (extents : PlainExprs) → inspects_all number a whole ≡ false → AreQuiet false (stmts_of (cell_piece number whole a extents))
  cell_quiet a extents u = pass_quiet number (record { array = a; at = coordinates_from 0 extents }) (coordinates_free 0 extents) arrays None whole params countable u

  -- each target is one
  abbrev Each : List PlainExpr → Type 0
  Each [] = Unit {0}
  Each (t ∷ ts) = ((vs : Vars) × IsTarget arrays number t vs) × Each ts

  each_joined : (ts us : List PlainExpr) → Each ts → Each us → Each (ts ++ us)
  each_joined [] us h g = g
  each_joined (t ∷ ts) us h g = (h.0, each_joined ts us h.1 g)

  mutual
    each_target : (p : PlainStmt) (vs : Vars) → IsCountable arrays number p vs → Each (targets p)
    each_target (loop x lo rel hi body) vs h = all_targets body ((x, pos 0) ∷ vs) (h.3 (pos 0))
    each_target (choice ts first other) vs h = each_joined (targets_all first) (targets_all other) (all_targets first vs h.1) (all_targets other vs h.2)
    each_target (assign t op e) vs h = ((vs, h.0), tt)
    each_target (table x len) vs h = tt
    each_target begin vs h = tt
    each_target (check x extent a) vs h = tt
    each_target verdict vs h = tt

    all_targets : (ps : PlainStmts) (vs : Vars) → AreCountable arrays number ps vs → Each (targets_all ps)
    all_targets no_stmts vs h = tt
    all_targets (more_stmts p ps) vs h = each_joined (targets p) (targets_all ps) (each_target p vs h.0) (all_targets ps vs h.1)

  -- a cell among them has affine subscripts
  one_target : (ts : List PlainExpr) (k : ℕ) (x : Word) (at : PlainExprs) → Each ts → target_in ts k ≡ cell x at → (vs : Vars) × IsTarget arrays number (cell x at) vs
  one_target [] k x at h e = absurd cc
  one_target (t ∷ ts) zero x at h e = (h.0.0, subst (λ t. IsTarget arrays number t h.0.0) e h.0.1)
  one_target (t ∷ ts) (suc k) x at h e = one_target ts k x at h.1 e

  pub cell_target : (k : ℕ) (x : Word) (at : PlainExprs) → target_at whole k ≡ cell x at → (vs : Vars) × IsTarget arrays number (cell x at) vs
  cell_target k x at e = one_target (targets_all whole) k x at (all_targets whole params countable) e

  target_quiet_at : (texts : Word → PlainExprs) (k : ℕ) (t : PlainExpr) → is_inspected number whole t ≡ false → ((x : Word) (at : PlainExprs) → t ≡ cell x at → AllHaveNoCells at) → AreQuiet false (stmts_of (site_piece number texts whole k t))
  target_quiet_at texts k (cell x at) u h =
      subst (λ (l : List PlainStmt). AreQuiet false (stmts_of l)) (sym (cond-false _ _ _ u)) (pass_quiet number (record { array = number x; at = at }) (h x at refl) arrays (Some k) whole params countable u)
  target_quiet_at texts k (var x) u h = tt
  target_quiet_at texts k (lit n) u h = tt
  target_quiet_at texts k (un op a) u h = tt
  target_quiet_at texts k (bin op a b) u h = tt
  target_quiet_at texts k (cast a) u h = tt
  target_quiet_at texts k (test rel a b) u h = tt
  target_quiet_at texts k (umin a b) u h = tt
  target_quiet_at texts k (umax a b) u h = tt
  target_quiet_at texts k (least a b) u h = tt
  target_quiet_at texts k (greatest a b) u h = tt
  target_quiet_at texts k (widen a) u h = tt
  target_quiet_at texts k (big high low) u h = tt

  -- the piece of an assignment to an array that isn't inspected, or to none
  pub site_quiet : (texts : Word → PlainExprs) (k : ℕ) → is_inspected number whole (target_at whole k) ≡ false → AreQuiet false (stmts_of (piece_at (site_pieces_all number texts whole 0 whole) k))
  site_quiet texts k u =
      subst (λ (l : List PlainStmt). AreQuiet false (stmts_of l)) (sym (piece_of number texts whole k))
      (target_quiet_at texts k (target_at whole k) u (λ x at e. let t = cell_target k x at e in all_affine_no_cells at t.0 t.1.affine))
