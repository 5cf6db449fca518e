-- What is known of a write in the list of a source: the assignment that makes it, the loops around it, and its piece.
use Rattle.std.proofs.Common.{◌≡◌, ℕ, ◌+◌, ◌<◌, ◌≤◌, ◌^◌, max, Bool, true, false, cond, if◌then◌else◌, nat_lt, List, [], ◌∷◌, ◌++◌, length, refl, sym, ap, ◌∙◌, subst, arith, append_assoc, ℤ, Option, Some, inl, inr, lt-ltb, le-ltb}
use Rattle.std.specs.Prelude.{slice_get, slice_index_or}
use Rattle.std.proofs.lemmas.Bool.{cond-true, cond-false}
use Rattle.std.proofs.lemmas.List.{length-append, get_or_append_left, get_or-append-add}
use Rattle.c_tree.specs.Plain.{Word, PlainExpr, lit, cell, PlainExprs, PlainStmt, loop, choice, assign, table, begin, check, verdict, PlainStmts, no_stmts, more_stmts}
use Rattle.c_tree.specs.Values.{Vars, signed, is_in, loop_values}
use Rattle.c_tree.specs.Arrays.{Array, Memory}
use Rattle.c_tree.specs.Instances.{Tagged, sites, sites_all}
use Rattle.c_tree.specs.declared.expr.BinOp.{BinOp}
use Rattle.instrumentation.specs.Body.{full}
use Rattle.instrumentation_laws.specs.AccessList.{cell_access, tests_hold}
use Rattle.instrumentation_laws.specs.IndexedList.{all_reads, tagged, tagged_all}
use Rattle.pass_laws.specs.Targets.{targets, targets_all, target_in}
use Rattle.pass_laws.specs.Countable.{AreOwn, IsCell, IsTarget, IsFresh, IsCountable, AreCountable}
use Rattle.pass_laws.proofs.Names.{own_joined}
use Rattle.pass_laws.proofs.Renamed.{names}
use Rattle.pass_laws.proofs.Elements.{none_some, get_joined, get_turn, IsWriteOf, assign_write}

-- the names in scope at an assignment, by its number
abbrev mutual
  pub names_at : ℕ → PlainStmt → List Word → ℕ → List Word
  names_at k (loop x lo rel hi body) xs n = names_at_all k body (x ∷ xs) n
  names_at k (choice ts first other) xs n = if nat_lt n (k + sites_all first) then names_at_all k first xs n else names_at_all (k + sites_all first) other xs n
  names_at k (assign t op e) xs n = xs
  names_at k (table x len) xs n = xs
  names_at k begin xs n = xs
  names_at k (check x extent a) xs n = xs
  names_at k verdict xs n = xs

  pub names_at_all : ℕ → PlainStmts → List Word → ℕ → List Word
  names_at_all k no_stmts xs n = xs
  names_at_all k (more_stmts s ss) xs n = if nat_lt n (k + sites s) then names_at k s xs n else names_at_all (k + sites s) ss xs n

-- none of these names stands further out
abbrev pub AreNested : Vars → Vars → Type 0
AreNested [] vs = Unit {0}
AreNested (v ∷ around) vs = (is_in (around ++ vs) v.0 ≡ false) × AreNested around vs

-- there are as many targets as assignments
mutual
  pub targets_many : (p : PlainStmt) → length (targets p) ≡ sites p
  targets_many (loop x lo rel hi body) = targets_all_many body
  targets_many (choice ts first other) = length-append (targets_all first) (targets_all other) ∙ (let a = targets_all_many first in let b = targets_all_many other in omega arith)
  targets_many (assign t op e) = refl
  targets_many (table x len) = refl
  targets_many begin = refl
  targets_many (check x extent a) = refl
  targets_many verdict = refl

  pub targets_all_many : (ps : PlainStmts) → length (targets_all ps) ≡ sites_all ps
  targets_all_many no_stmts = refl
  targets_all_many (more_stmts p ps) = length-append (targets p) (targets_all ps) ∙ (let a = targets_many p in let b = targets_all_many ps in omega arith)

module _ (arrays : List Array) (number : Word → ℕ) where
  -- a write of statements with so many assignments from number k on, which have these names and targets
  pub record Facts (many k : ℕ) (at_number : ℕ → List Word) (list : List PlainExpr) (vs : Vars) (t : Tagged) : Type 0 where
    pub step : ℕ
    pub site_is : t.site ≡ k + step
    pub below : step < many
    pub name : Word
    pub at : PlainExprs
    pub around : Vars
    pub vars_is : t.vars ≡ around ++ vs
    pub names_are : names t.vars ≡ at_number t.site
    pub access_is : t.access ≡ cell_access number name at t.vars true
    pub cell_is : IsCell arrays number name at t.vars
    pub target_is : target_in list step ≡ cell name at
    pub own_around : AreOwn around
    pub nested : AreNested around vs
    pub shallow : length around + length vs ≤ max (length vs) (2 ^ 63)

  nested_more : (around : Vars) (v : Word × ℤ) (vs : Vars) → AreNested around (v ∷ vs) → is_in vs v.0 ≡ false → AreNested (around ++ v ∷ []) vs
  nested_more [] v vs h g = (g, tt)
  nested_more (w ∷ around) v vs h g = (ap (λ l. is_in l w.0) (append_assoc around (v ∷ []) vs) ∙ h.0, nested_more around v vs h.1 g)

  -- one more loop
  facts_loop : (many k : ℕ) (at_number : ℕ → List Word) (list : List PlainExpr) (x : Word) (v : ℤ) (vs : Vars) (t : Tagged) → IsFresh x vs →
      Facts many k at_number list ((x, v) ∷ vs) t → Facts many k at_number list vs t
  facts_loop many k at_number list x v vs t new r = record {
    step = r.step;
    site_is = r.site_is;
    below = r.below;
    name = r.name;
    at = r.at;
    around = r.around ++ (x, v) ∷ [];
    vars_is = r.vars_is ∙ sym (append_assoc r.around ((x, v) ∷ []) vs);
    names_are = r.names_are;
    access_is = r.access_is;
    cell_is = r.cell_is;
    target_is = r.target_is;
    own_around = own_joined r.around ((x, v) ∷ []) r.own_around (new.own_name, tt);
    nested = nested_more r.around (x, v) vs r.nested new.fresh;
    shallow = (let a = length-append r.around ((x, v) ∷ []) in let b = r.shallow in let c = new.shallow in omega arith);
  }

  -- of two lists of statements in a row
  facts_left : (m m' k : ℕ) (f g : ℕ → List Word) (ps qs : List PlainExpr) (vs : Vars) (t : Tagged) → length ps ≡ m →
      Facts m k f ps vs t → Facts (m + m') k (λ n. cond (nat_lt n (k + m)) (f n) (g n)) (ps ++ qs) vs t
  facts_left m m' k f g ps qs vs t l r = record {
    step = r.step;
    site_is = r.site_is;
    below = (let a = r.below in omega arith);
    name = r.name;
    at = r.at;
    around = r.around;
    vars_is = r.vars_is;
    names_are = r.names_are ∙ sym (cond-true _ _ _ (lt-ltb t.site (k + m) (let a = r.below in let b = r.site_is in omega arith)));
    access_is = r.access_is;
    cell_is = r.cell_is;
    target_is = get_or_append_left ps qs (lit 0) r.step (let a = r.below in omega arith) ∙ r.target_is;
    own_around = r.own_around;
    nested = r.nested;
    shallow = r.shallow;
  }

  facts_right : (m m' k : ℕ) (f g : ℕ → List Word) (ps qs : List PlainExpr) (vs : Vars) (t : Tagged) → length ps ≡ m →
      Facts m' (k + m) g qs vs t → Facts (m + m') k (λ n. cond (nat_lt n (k + m)) (f n) (g n)) (ps ++ qs) vs t
  facts_right m m' k f g ps qs vs t l r = record {
    step = m + r.step;
    site_is = (let a = r.site_is in omega arith);
    below = (let a = r.below in omega arith);
    name = r.name;
    at = r.at;
    around = r.around;
    vars_is = r.vars_is;
    names_are = r.names_are ∙ sym (cond-false _ _ _ (le-ltb t.site (k + m) (let b = r.site_is in omega arith)));
    access_is = r.access_is;
    cell_is = r.cell_is;
    target_is = subst (λ j. slice_index_or (ps ++ qs) (j + r.step) (lit 0) ≡ target_in qs r.step) l (get_or-append-add ps qs r.step (lit 0)) ∙ r.target_is;
    own_around = r.own_around;
    nested = r.nested;
    shallow = r.shallow;
  }

  facts_assign : (k : ℕ) (t : PlainExpr) (op : Option BinOp) (e : PlainExpr) (vs : Vars) (before n : ℕ) (u : Tagged) → IsTarget arrays number t vs → IsWriteOf number k t vs before n u →
      Facts 1 k (λ j. names vs) (t ∷ []) vs u
  facts_assign k t op e vs before n u h w = record {
    step = 0;
    site_is = (let a = w.site_is in omega arith);
    below = omega arith;
    name = w.name;
    at = w.at;
    around = [];
    vars_is = w.vars_is;
    names_are = ap names w.vars_is;
    access_is = w.access_is ∙ ap (λ vs. cell_access number w.name w.at vs true) (sym w.vars_is);
    cell_is = subst (λ vs. IsCell arrays number w.name w.at vs) (sym w.vars_is) (subst (λ t. IsTarget arrays number t vs) w.target_is h);
    target_is = w.target_is;
    own_around = tt;
    nested = tt;
    shallow = omega arith;
  }

  module _ (m : Memory) where
    facts_choice : (c : Bool) (k : ℕ) (vs : Vars) (n : ℕ) (t : Tagged) (first other : PlainStmts) → slice_get (cond c (tagged_all arrays m number k first vs) (tagged_all arrays m number (k + sites_all first) other vs)) n ≡ Some t →
        (slice_get (tagged_all arrays m number k first vs) n ≡ Some t → Facts (sites_all first) k (names_at_all k first (names vs)) (targets_all first) vs t) →
        (slice_get (tagged_all arrays m number (k + sites_all first) other vs) n ≡ Some t → Facts (sites_all other) (k + sites_all first) (names_at_all (k + sites_all first) other (names vs)) (targets_all other) vs t) →
        Facts (sites_all first + sites_all other) k (λ j. cond (nat_lt j (k + sites_all first)) (names_at_all k first (names vs) j) (names_at_all (k + sites_all first) other (names vs) j))
        (targets_all first ++ targets_all other) vs t
    facts_choice true k vs n t first other g one two =
        facts_left (sites_all first) (sites_all other) k (names_at_all k first (names vs)) (names_at_all (k + sites_all first) other (names vs)) (targets_all first) (targets_all other) vs t (targets_all_many first) (one g)
    facts_choice false k vs n t first other g one two =
        facts_right (sites_all first) (sites_all other) k (names_at_all k first (names vs)) (names_at_all (k + sites_all first) other (names vs)) (targets_all first) (targets_all other) vs t (targets_all_many first) (two g)

    mutual
      pub facts_one : (p : PlainStmt) (k : ℕ) (vs : Vars) (n : ℕ) (t : Tagged) → IsCountable arrays number p vs → slice_get (tagged arrays m number k p vs) n ≡ Some t → t.access.writes ≡ true →
          Facts (sites p) k (names_at k p (names vs)) (targets p) vs t
      facts_one (loop x lo rel hi body) k vs n t h g w =
          let i : (v : ℤ) × (j : ℕ) × (slice_get (tagged_all arrays m number k body ((x, v) ∷ vs)) j ≡ Some t) = get_turn (λ v. tagged_all arrays m number k body ((x, v) ∷ vs)) (loop_values (signed lo vs) rel (signed hi vs)) n t g in
          facts_loop (sites_all body) k (names_at_all k body (x ∷ names vs)) (targets_all body) x i.0 vs t h.2 (facts_all body k ((x, i.0) ∷ vs) i.1 t (h.3 i.0) i.2 w)
      facts_one (choice ts first other) k vs n t h g w =
          facts_choice (tests_hold ts vs) k vs n t first other g (λ g. facts_all first k vs n t h.1 g w) (λ g. facts_all other (k + sites_all first) vs n t h.2 g w)
      facts_one (assign target op e) k vs n t h g w = facts_assign k target op e vs (length (all_reads arrays m number (full target op e) vs)) n t h.0 (assign_write arrays m number k target (full target op e) vs n t g w)
      facts_one (table x len) k vs n t h g w = absurd h
      facts_one begin k vs n t h g w = absurd h
      facts_one (check x extent a) k vs n t h g w = absurd h
      facts_one verdict k vs n t h g w = absurd h

      pub facts_all : (ps : PlainStmts) (k : ℕ) (vs : Vars) (n : ℕ) (t : Tagged) → AreCountable arrays number ps vs → slice_get (tagged_all arrays m number k ps vs) n ≡ Some t → t.access.writes ≡ true →
          Facts (sites_all ps) k (names_at_all k ps (names vs)) (targets_all ps) vs t
      facts_all no_stmts k vs n t h g w = absurd (none_some t g)
      facts_all (more_stmts p ps) k vs n t h g w =
          elim (get_joined (tagged arrays m number k p vs) (tagged_all arrays m number (k + sites p) ps vs) n t g) [
            | inl a ↦ facts_left (sites p) (sites_all ps) k (names_at k p (names vs)) (names_at_all (k + sites p) ps (names vs)) (targets p) (targets_all ps) vs t (targets_many p)
                (facts_one p k vs n t h.0 a w)
            | inr b ↦ facts_right (sites p) (sites_all ps) k (names_at k p (names vs)) (names_at_all (k + sites p) ps (names vs)) (targets p) (targets_all ps) vs t (targets_many p)
                (facts_all ps (k + sites p) vs b.0 t h.1 b.2 w)
          ]
