-- An array whose class isn't Inspected has no read with an index cell.
use Rattle.std.proofs.Common.{◌≡◌, ◌≢◌, ℕ, zero, suc, ◌+◌, ◌<◌, ◌≤◌, ℤ, pos, Bool, true, false, not, cond, ◌&&◌, ◌||◌, List, [], ◌∷◌, ◌++◌, length, filter, Option, Some, None, refl, sym, ap, ◌∙◌, arith}
use Rattle.std.specs.Prelude.{nat_eq, bytes_eq, slice_get}
use Rattle.std.specs.List.{list_any}
use Rattle.std.proofs.lemmas.Bool.{eqb-true, or_parts}
use Rattle.std.proofs.lemmas.List.Folds.{list_any-append}
use Rattle.c_tree.specs.Arrays.{Array, vars_of}
use Rattle.c_tree.specs.Inputs.{arrays_for}
use Rattle.c_tree.specs.Names.{arrays_in, ints_in}
use Rattle.c_tree.specs.Plain.{Word, PlainExpr, lit, var, cell, un, bin, cast, test, umin, umax, least, greatest, widen, big, PlainExprs, no_exprs, more_exprs, PlainStmt, loop, choice, assign, table, begin, check, verdict, PlainStmts, no_stmts, more_stmts, PlainParam, int_param, array_param, PlainUnit}
use Rattle.c_tree.specs.Values.{Vars}
use Rattle.c_tree.specs.declared.expr.BinOp.{BinOp}
use Rattle.instrumentation.specs.Body.{full}
use Rattle.instrumentation.specs.Guarded.{array_names, arrays_with_extents}
use Rattle.instrumentation.specs.Inspects.{read_irregularly, inspects, inspects_all}
use Rattle.instrumentation.specs.Names.{number_from}
use Rattle.instrumentation.specs.Subscripts.{indices_in}
use Rattle.instrumentation_laws.specs.RegularUnits.{number_for}
use Rattle.instrumentation_laws.specs.Setting.{inspected_in}
use Rattle.pass_laws.specs.Countable.{IsTarget, IsCountable, AreCountable}
use Rattle.sites.specs.Classes.{has_cell, is_irregular, are_differences, exactly}
use Rattle.sites.specs.declared.class.Class.{Class}
use Rattle.sites.specs.declared.class.Class.TheVariants.{Difference, Counted, Inspected}
use Rattle.sites.specs.Sites.{Outer, outer_loop, outer_branch, Reach, Site, read_of, reads_in, reads_in_all, accesses_of, placed, count, count_all, loops, loops_all, sites, sites_all, first_variable, all_sites, is_of, sites_of}
use Rattle.count_loops.specs.Passes.{IsUninspected}

neither : (b c : Bool) → b ≡ false → c ≡ false → (b || c) ≡ false
neither b c e f = ap (λ x. x || c) e ∙ f

-- ---- the array of a number

at_least : (k : ℕ) (ws : List Word) (x : Word) → k ≤ number_from k ws x
at_least k [] x = omega arith
at_least k (w ∷ ws) x = chosen (bytes_eq w x) (at_least (suc k) ws x)
  where
    chosen : (b : Bool) → suc k ≤ number_from (suc k) ws x → k ≤ cond b k (number_from (suc k) ws x)
    chosen true h = omega arith
    chosen false h = omega arith

numbered_as : (k : ℕ) (ps : List PlainParam) (a : ℕ) (name x : Word) → slice_get (arrays_in ps) a ≡ Some name → number_from k (array_names ps) x ≡ k + a → bytes_eq name x ≡ true
numbered_as k [] a name x e h = absurd (let f : (let o : Option Word = None in o) ≡ Some name = e in cc)
numbered_as k (int_param z ∷ ps) a name x e h = numbered_as k ps a name x e h
numbered_as k (array_param z constant es ∷ ps) zero name x e h = chosen (bytes_eq z x) refl h
  where
    chosen : (b : Bool) → bytes_eq z x ≡ b → cond b k (number_from (suc k) (array_names ps) x) ≡ k + 0 → bytes_eq name x ≡ true
    chosen true same g = ap (λ y. bytes_eq y x) (let f : (let o : Option Word = Some z in o) ≡ Some name = e in let s : name ≡ z = cc in s) ∙ same
    chosen false other g = let l = at_least (suc k) (array_names ps) x in absurd (omega arith)
numbered_as k (array_param z constant es ∷ ps) (suc a) name x e h = chosen (bytes_eq z x) h (λ g. numbered_as (suc k) ps a name x e g)
  where
    chosen : (b : Bool) → cond b k (number_from (suc k) (array_names ps) x) ≡ k + suc a → (number_from (suc k) (array_names ps) x ≡ suc k + a → bytes_eq name x ≡ true) → bytes_eq name x ≡ true
    chosen true g rest = absurd (omega arith)
    chosen false g rest = rest (omega arith)

-- there are so many
pub array_below : (ps : List PlainParam) (a : ℕ) (name : Word) → slice_get (arrays_in ps) a ≡ Some name → a < length (arrays_with_extents ps)
array_below [] a name e = absurd (let f : (let o : Option Word = None in o) ≡ Some name = e in cc)
array_below (int_param z ∷ ps) a name e = array_below ps a name e
array_below (array_param z constant es ∷ ps) zero name e = omega arith
array_below (array_param z constant es ∷ ps) (suc a) name e = let h = array_below ps a name e in omega arith

-- ---- its reads

no_indices : (at : PlainExprs) → has_cell at ≡ false → indices_in at ≡ 0
no_indices no_exprs h = refl
no_indices (more_exprs (lit n) es) h = no_indices es h
no_indices (more_exprs (var x) es) h = no_indices es h
no_indices (more_exprs (cell x at) es) h = absurd (let f : true ≡ false = h in cc)
no_indices (more_exprs (un op a) es) h = no_indices es h
no_indices (more_exprs (bin op a b) es) h = no_indices es h
no_indices (more_exprs (cast a) es) h = no_indices es h
no_indices (more_exprs (test rel a b) es) h = no_indices es h
no_indices (more_exprs (umin a b) es) h = no_indices es h
no_indices (more_exprs (umax a b) es) h = no_indices es h
no_indices (more_exprs (least a b) es) h = no_indices es h
no_indices (more_exprs (greatest a b) es) h = no_indices es h
no_indices (more_exprs (widen a) es) h = no_indices es h
no_indices (more_exprs (big high low) es) h = no_indices es h

module _ {X : Type 0} where
  pub any_filtered : (p q : X → Bool) (xs : List X) → list_any q (filter p xs) ≡ list_any (λ x. p x && q x) xs
  any_filtered p q [] = refl
  any_filtered p q (x ∷ xs) = chosen (p x) (any_filtered p q xs)
    where
      chosen : (b : Bool) → list_any q (filter p xs) ≡ list_any (λ x. p x && q x) xs → list_any q (cond b (x ∷ filter p xs) (filter p xs)) ≡ (b && q x || list_any (λ x. p x && q x) xs)
      chosen true rest = ap (λ b. q x || b) rest
      chosen false rest = rest

  pub none_of_both : (p : X → Bool) (xs ys : List X) → list_any p (xs ++ ys) ≡ false → (list_any p xs ≡ false) × (list_any p ys ≡ false)
  none_of_both p xs ys h = or_parts (list_any p xs) (list_any p ys) (sym (list_any-append p xs ys) ∙ h)

module _ (number : Word → ℕ) (a : ℕ) (name : Word) (its : (x : Word) → number x ≡ a → bytes_eq name x ≡ true) where
  -- a read of the array with an index cell
  abbrev is_such : Reach → Bool
  is_such r = bytes_eq name r.name && is_irregular r

  one_regular : (x : Word) (at : PlainExprs) → is_such (read_of x at) ≡ false → (nat_eq (number x) a && not (nat_eq (indices_in at) 0)) ≡ false
  one_regular x at h = chosen (nat_eq (number x) a) refl
    where
      chosen : (b : Bool) → nat_eq (number x) a ≡ b → (b && not (nat_eq (indices_in at) 0)) ≡ false
      chosen true e =
          let named : bytes_eq name x ≡ true = its x (eqb-true (number x) a e) in
          let none : has_cell at ≡ false = sym (ap (λ b. b && (not false && has_cell at)) named) ∙ h in
          ap (λ n. not (nat_eq n 0)) (no_indices at none)
      chosen false e = refl

  reads_regular : (e : PlainExpr) → list_any is_such (reads_in e) ≡ false → read_irregularly number a e ≡ false
  reads_regular (lit n) h = refl
  reads_regular (var x) h = refl
  reads_regular (cell x at) h = one_regular x at (or_parts _ _ (none_of_both is_such (reads_in_all at) (read_of x at ∷ []) h).1).0
  reads_regular (un op e) h = reads_regular e h
  reads_regular (bin op e g) h = let both = none_of_both is_such (reads_in e) (reads_in g) h in neither _ _ (reads_regular e both.0) (reads_regular g both.1)
  reads_regular (cast e) h = reads_regular e h
  reads_regular (test rel e g) h = let both = none_of_both is_such (reads_in e) (reads_in g) h in neither _ _ (reads_regular e both.0) (reads_regular g both.1)
  reads_regular (umin e g) h = let both = none_of_both is_such (reads_in e) (reads_in g) h in neither _ _ (reads_regular e both.0) (reads_regular g both.1)
  reads_regular (umax e g) h = let both = none_of_both is_such (reads_in e) (reads_in g) h in neither _ _ (reads_regular e both.0) (reads_regular g both.1)
  reads_regular (least e g) h = refl
  reads_regular (greatest e g) h = refl
  reads_regular (widen e) h = refl
  reads_regular (big high low) h = refl

  -- ---- those of statements

  any_placed : (n p : ℕ) (os : List Outer) (rs : List Reach) → list_any (λ (s : Site). is_such s.reach) (placed n p os rs) ≡ list_any is_such rs
  any_placed n p os [] = refl
  any_placed n p os (r ∷ rs) = ap (λ b. is_such r || b) (any_placed n (suc p) os rs)

  target_regular : (x : Word) (at : PlainExprs) (op : Option BinOp) (e : PlainExpr) → list_any is_such (accesses_of (cell x at) op e) ≡ false → read_irregularly number a (full (cell x at) op e) ≡ false
  target_regular x at None e h =
      let right = (none_of_both is_such (reads_in_all at) _ h).1 in
      reads_regular e (none_of_both is_such (reads_in e) _ right).0
  target_regular x at (Some op) e h =
      let right = (none_of_both is_such (reads_in_all at) _ h).1 in
      let parts = or_parts (is_such (read_of x at)) (list_any is_such (reads_in e ++ record { name = x; at = at; writes = true } ∷ [])) right in
      neither _ _ (one_regular x at parts.0) (reads_regular e (none_of_both is_such (reads_in e) _ parts.1).0)

  name_regular : (x : Word) (op : Option BinOp) (e : PlainExpr) → list_any is_such (reads_in e) ≡ false → read_irregularly number a (full (var x) op e) ≡ false
  name_regular x None e h = reads_regular e h
  name_regular x (Some op) e h = reads_regular e h

  assign_regular : (arrays : List Array) (vs : Vars) (t : PlainExpr) (op : Option BinOp) (e : PlainExpr) → IsTarget arrays number t vs → list_any is_such (accesses_of t op e) ≡ false → read_irregularly number a (full t op e) ≡ false
  assign_regular arrays vs (var x) op e i h = name_regular x op e h
  assign_regular arrays vs (cell x at) op e i h = target_regular x at op e h
  assign_regular arrays vs (lit n) op e i h = absurd i
  assign_regular arrays vs (un o t) op e i h = absurd i
  assign_regular arrays vs (bin o t g) op e i h = absurd i
  assign_regular arrays vs (cast t) op e i h = absurd i
  assign_regular arrays vs (test rel t g) op e i h = absurd i
  assign_regular arrays vs (umin t g) op e i h = absurd i
  assign_regular arrays vs (umax t g) op e i h = absurd i
  assign_regular arrays vs (least t g) op e i h = absurd i
  assign_regular arrays vs (greatest t g) op e i h = absurd i
  assign_regular arrays vs (widen t) op e i h = absurd i
  assign_regular arrays vs (big high low) op e i h = absurd i

  abbrev NoneSuch : List Site → Type 0
  NoneSuch ss = list_any (λ (s : Site). is_such s.reach) ss ≡ false

  mutual
    stmt_regular : (arrays : List Array) (s : PlainStmt) (vs : Vars) (n v : ℕ) (os : List Outer) → IsCountable arrays number s vs → NoneSuch (sites s n v os) → inspects number a s ≡ false
    stmt_regular arrays (loop x lo rel hi body) vs n v os c h =
        stmts_regular arrays body ((x, pos 0) ∷ vs) (suc n) (suc v) (outer_loop n v (record { name = x; lo = lo; rel = rel; hi = hi }) ∷ os) (c.3 (pos 0)) h
    stmt_regular arrays (choice ts first other) vs n v os c h =
        let both = none_of_both _ (sites_all first (suc n) v (outer_branch n true ts ∷ os)) (sites_all other (suc n + count_all first) (v + loops_all first) (outer_branch n false ts ∷ os)) h in
        neither _ _ (stmts_regular arrays first vs (suc n) v (outer_branch n true ts ∷ os) c.1 both.0)
        (stmts_regular arrays other vs (suc n + count_all first) (v + loops_all first) (outer_branch n false ts ∷ os) c.2 both.1)
    stmt_regular arrays (assign t op e) vs n v os c h = assign_regular arrays vs t op e c.0 (sym (any_placed n 0 os (accesses_of t op e)) ∙ h)
    stmt_regular arrays (table x len) vs n v os c h = refl
    stmt_regular arrays begin vs n v os c h = refl
    stmt_regular arrays (check x extent k) vs n v os c h = refl
    stmt_regular arrays verdict vs n v os c h = refl

    stmts_regular : (arrays : List Array) (ss : PlainStmts) (vs : Vars) (n v : ℕ) (os : List Outer) → AreCountable arrays number ss vs → NoneSuch (sites_all ss n v os) → inspects_all number a ss ≡ false
    stmts_regular arrays no_stmts vs n v os c h = refl
    stmts_regular arrays (more_stmts s ss) vs n v os c h =
        let both = none_of_both _ (sites s n v os) (sites_all ss (n + count s) (v + loops s) os) h in
        neither _ _ (stmt_regular arrays s vs n v os c.0 both.0) (stmts_regular arrays ss vs (n + count s) (v + loops s) os c.1 both.1)

-- ---- its class

not_first : (b : Bool) (c : Class) → cond b Inspected c ≢ Inspected → b ≡ false
not_first true c h = absurd (h refl)
not_first false c h = refl

pub uninspected : (u : PlainUnit) (ns : List ℤ) (array : ℕ) → AreCountable (arrays_for u ns) (number_for u) u.body (vars_of u.params ns) → IsUninspected u array → inspected_in (number_for u) u.body array ≡ false
uninspected u ns array c h =
    let none : list_any (λ (s : Site). is_irregular s.reach) (sites_of u h.name) ≡ false = not_first _ (cond (are_differences exactly (ints_in u.params) (sites_of u h.name)) Difference Counted) h.class_is in
    let its : (x : Word) → number_for u x ≡ array → bytes_eq h.name x ≡ true = (λ x e. numbered_as 0 u.params array h.name x h.there (e ∙ (let z : array ≡ 0 + array = omega arith in z))) in
    stmts_regular (number_for u) array h.name its (arrays_for u ns) u.body (vars_of u.params ns) 1 (first_variable u) [] c
    (sym (any_filtered (is_of h.name) (λ (s : Site). is_irregular s.reach) (all_sites u)) ∙ none)
