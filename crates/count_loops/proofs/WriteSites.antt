-- The assignment of a write site stores into a cell.
use Rattle.std.proofs.Common.{◌≡◌, ℕ, zero, suc, ◌+◌, ◌-◌, ◌<◌, Bool, true, false, cond, List, [], ◌∷◌, ◌++◌, Option, Some, None, refl, sym, ap, subst, ◌∙◌, arith}
use Rattle.std.specs.Prelude.{nat_lt, slice_get, slice_index_or}
use Rattle.std.specs.List.{AllByRecursion}
use Rattle.std.proofs.lemmas.Bool.{ltb-true, ltb-false}
use Rattle.c_tree.specs.Plain.{Word, PlainExpr, lit, var, cell, un, bin, cast, test, umin, umax, least, greatest, widen, big, PlainExprs, no_exprs, more_exprs, PlainStmt, loop, choice, assign, table, begin, check, verdict, PlainStmts, no_stmts, more_stmts}
use Rattle.c_tree.specs.Instances as instances
use Rattle.c_tree.specs.declared.expr.BinOp.{BinOp}
use Rattle.sites.specs.Sites.{Reach, Outer, outer_loop, outer_branch, Site, read_of, reads_in, reads_in_all, old_cell, accesses_of, placed, count, count_all, loops, loops_all, sites, sites_all}
use Rattle.unit_builder.specs.Parts.{target_in, target_among}
use Rattle.count_loops.specs.Assignments.{repeated, assignments, assignments_all, assignment_of}

-- ---- two lists side by side

abbrev AllPairs : (Site → ℕ → Type 0) → List Site → List ℕ → Type 0
AllPairs P [] [] = Unit {0}
AllPairs P (a ∷ as_) (x ∷ xs) = P a x × AllPairs P as_ xs
AllPairs P [] (x ∷ xs) = ⊥
AllPairs P (a ∷ as_) [] = ⊥

joined_pairs : (P : Site → ℕ → Type 0) (us vs : List Site) (xs ys : List ℕ) → AllPairs P us xs → AllPairs P vs ys → AllPairs P (us ++ vs) (xs ++ ys)
joined_pairs P [] vs [] ys g h = h
joined_pairs P (u ∷ us) vs (x ∷ xs) ys g h = (g.0, joined_pairs P us vs xs ys g.1 h)
joined_pairs P [] vs (x ∷ xs) ys g h = absurd g
joined_pairs P (u ∷ us) vs [] ys g h = absurd g

weaker_pairs : (P Q : Site → ℕ → Type 0) → ((u : Site) (x : ℕ) → P u x → Q u x) → (us : List Site) (xs : List ℕ) → AllPairs P us xs → AllPairs Q us xs
weaker_pairs P Q f [] [] g = tt
weaker_pairs P Q f (u ∷ us) (x ∷ xs) g = (f u x g.0, weaker_pairs P Q f us xs g.1)
weaker_pairs P Q f [] (x ∷ xs) g = absurd g
weaker_pairs P Q f (u ∷ us) [] g = absurd g

pair_at : (P : Site → ℕ → Type 0) (us : List Site) (xs : List ℕ) (k : ℕ) (u : Site) → AllPairs P us xs → slice_get us k ≡ Some u → P u (slice_index_or xs k 0)
pair_at P [] xs k u g e = absurd (let f : None ≡ Some u = e in cc)
pair_at P (v ∷ us) (x ∷ xs) zero u g e = subst (λ w. P w x) (let f : Some v ≡ Some u = e in cc) g.0
pair_at P (v ∷ us) (x ∷ xs) (suc k) u g e = pair_at P us xs k u g.1 e
pair_at P (v ∷ us) [] k u g e = absurd g

placed_pairs : (P : Site → ℕ → Type 0) (n p : ℕ) (os : List Outer) (j : ℕ) (rs : List Reach) →
    AllByRecursion (λ r. (q : ℕ) → P (let s : Site = record { statement = n; position = q; outers = os; reach = r } in s) j) rs → AllPairs P (placed n p os rs) (repeated j rs)
placed_pairs P n p os j [] all = tt
placed_pairs P n p os j (r ∷ rs) all = (all.0 p, placed_pairs P n (suc p) os j rs all.1)

weaker : (Q R : Reach → Type 0) → ((r : Reach) → Q r → R r) → (rs : List Reach) → AllByRecursion Q rs → AllByRecursion R rs
weaker Q R f [] h = tt
weaker Q R f (r ∷ rs) h = (f r h.0, weaker Q R f rs h.1)

-- ---- the accesses of an expression are reads

abbrev AllRead : List Reach → Type 0
AllRead = AllByRecursion (λ r. r.writes ≡ false)

both_read : (xs ys : List Reach) → AllRead xs → AllRead ys → AllRead (xs ++ ys)
both_read [] ys g h = h
both_read (x ∷ xs) ys g h = (g.0, both_read xs ys g.1 h)

mutual
  all_read : (e : PlainExpr) → AllRead (reads_in e)
  all_read (lit n) = tt
  all_read (var x) = tt
  all_read (cell x at) = both_read (reads_in_all at) (read_of x at ∷ []) (every_read at) (refl, tt)
  all_read (un op a) = all_read a
  all_read (bin op a b) = both_read (reads_in a) (reads_in b) (all_read a) (all_read b)
  all_read (cast a) = all_read a
  all_read (test rel a b) = both_read (reads_in a) (reads_in b) (all_read a) (all_read b)
  all_read (umin a b) = both_read (reads_in a) (reads_in b) (all_read a) (all_read b)
  all_read (umax a b) = both_read (reads_in a) (reads_in b) (all_read a) (all_read b)
  all_read (least a b) = tt
  all_read (greatest a b) = tt
  all_read (widen a) = all_read a
  all_read (big high low) = tt

  every_read : (es : PlainExprs) → AllRead (reads_in_all es)
  every_read no_exprs = tt
  every_read (more_exprs e es) = both_read (reads_in e) (reads_in_all es) (all_read e) (every_read es)

-- ---- write sites

-- the assignment of number m, the assignments being numbered from j on, stores into a cell of this array
record IsAt (targets : ℕ → Option PlainExpr) (n j m : ℕ) (array : Word) : Type 0 where
  number : ℕ
  below : number < n
  is : m ≡ j + number
  at : PlainExprs
  target : targets number ≡ Some (cell array at)

abbrev Stores : (ℕ → Option PlainExpr) → ℕ → ℕ → Site → ℕ → Type 0
Stores targets n j found m = found.reach.writes ≡ true → IsAt targets n j m found.reach.name

abbrev joined : ℕ → (ℕ → Option PlainExpr) → (ℕ → Option PlainExpr) → ℕ → Option PlainExpr
joined n first other m = cond (nat_lt m n) (first m) (other (m - n))

in_first : (n k : ℕ) (first other : ℕ → Option PlainExpr) (j m : ℕ) (array : Word) → IsAt first n j m array → IsAt (joined n first other) (n + k) j m array
in_first n k first other j m array h = record {
  number = h.number;
  below = (let b = h.below in omega arith);
  is = h.is;
  at = h.at;
  target = chosen (nat_lt h.number n) refl;
}
  where
    chosen : (b : Bool) → nat_lt h.number n ≡ b → cond b (first h.number) (other (h.number - n)) ≡ Some (cell array h.at)
    chosen true e = h.target
    chosen false e = let f = ltb-false h.number n e in let g = h.below in absurd (omega arith)

in_other : (n k : ℕ) (first other : ℕ → Option PlainExpr) (j m : ℕ) (array : Word) → IsAt other k (j + n) m array → IsAt (joined n first other) (n + k) j m array
in_other n k first other j m array h = record {
  number = n + h.number;
  below = (let b = h.below in omega arith);
  is = (let e = h.is in omega arith);
  at = h.at;
  target = chosen (nat_lt (n + h.number) n) refl;
}
  where
    chosen : (b : Bool) → nat_lt (n + h.number) n ≡ b → cond b (first (n + h.number)) (other ((n + h.number) - n)) ≡ Some (cell array h.at)
    chosen true e = let f = ltb-true (n + h.number) n e in absurd (omega arith)
    chosen false e = let g : (n + h.number) - n ≡ h.number = omega arith in ap other g ∙ h.target

only_reads : (targets : ℕ → Option PlainExpr) (n v : ℕ) (os : List Outer) (j : ℕ) (e : PlainExpr) → AllPairs (Stores targets 1 j) (placed n 0 os (reads_in e)) (repeated j (reads_in e))
only_reads targets n v os j e =
    placed_pairs (Stores targets 1 j) n 0 os j (reads_in e) (weaker _ _ (λ r read q writes. absurd (let f : true ≡ false = sym writes ∙ read in cc)) (reads_in e) (all_read e))

-- each write is of the target's array
abbrev IsNamed : Word → Reach → Type 0
IsNamed x r = r.writes ≡ true → x ≡ r.name

reads_named : (x : Word) (rs : List Reach) → AllRead rs → AllByRecursion (IsNamed x) rs
reads_named x = weaker _ _ (λ r read writes. absurd (let f : true ≡ false = sym writes ∙ read in cc))

both_named : (x : Word) (rs qs : List Reach) → AllByRecursion (IsNamed x) rs → AllByRecursion (IsNamed x) qs → AllByRecursion (IsNamed x) (rs ++ qs)
both_named x [] qs g h = h
both_named x (r ∷ rs) qs g h = (g.0, both_named x rs qs g.1 h)

old_read : (op : Option BinOp) (x : Word) (at : PlainExprs) → AllRead (old_cell op x at)
old_read None x at = tt
old_read (Some op) x at = (refl, tt)

named : (x : Word) (at : PlainExprs) (op : Option BinOp) (e : PlainExpr) → AllByRecursion (IsNamed x) (accesses_of (cell x at) op e)
named x at op e =
    both_named x (reads_in_all at) _ (reads_named x (reads_in_all at) (every_read at))
    (both_named x (old_cell op x at) _ (reads_named x (old_cell op x at) (old_read op x at))
    (both_named x (reads_in e) _ (reads_named x (reads_in e) (all_read e)) ((λ writes. refl), tt)))

assigned : (t : PlainExpr) (op : Option BinOp) (e : PlainExpr) (n v : ℕ) (os : List Outer) (j : ℕ) → AllPairs (Stores (target_in (assign t op e)) 1 j) (placed n 0 os (accesses_of t op e)) (repeated j (accesses_of t op e))
assigned (cell x at) op e n v os j =
    placed_pairs _ n 0 os j (accesses_of (cell x at) op e)
    (weaker (IsNamed x) _ (λ r h q writes. record { number = 0; below = omega arith; is = omega arith; at = at; target = ap (λ (y : Word). Some (cell y at)) (h writes) }) (accesses_of (cell x at) op e) (named x at op e))
assigned (lit k) op e n v os j = only_reads _ n v os j e
assigned (var x) op e n v os j = only_reads _ n v os j e
assigned (un o a) op e n v os j = only_reads _ n v os j e
assigned (bin o a b) op e n v os j = only_reads _ n v os j e
assigned (cast a) op e n v os j = only_reads _ n v os j e
assigned (test rel a b) op e n v os j = only_reads _ n v os j e
assigned (umin a b) op e n v os j = only_reads _ n v os j e
assigned (umax a b) op e n v os j = only_reads _ n v os j e
assigned (least a b) op e n v os j = only_reads _ n v os j e
assigned (greatest a b) op e n v os j = only_reads _ n v os j e
assigned (widen a) op e n v os j = only_reads _ n v os j e
assigned (big high low) op e n v os j = only_reads _ n v os j e

both : (n : ℕ) (first other : ℕ → Option PlainExpr) (us vs : List Site) (xs ys : List ℕ) (k j : ℕ) →
    AllPairs (Stores first n j) us xs → AllPairs (Stores other k (j + n)) vs ys → AllPairs (Stores (joined n first other) (n + k) j) (us ++ vs) (xs ++ ys)
both n first other us vs xs ys k j g h =
    joined_pairs (Stores (joined n first other) (n + k) j) us vs xs ys
    (weaker_pairs (Stores first n j) (Stores (joined n first other) (n + k) j) (λ u x f writes. in_first n k first other j x u.reach.name (f writes)) us xs g)
    (weaker_pairs (Stores other k (j + n)) (Stores (joined n first other) (n + k) j) (λ u x f writes. in_other n k first other j x u.reach.name (f writes)) vs ys h)

mutual
  stored : (s : PlainStmt) (n v : ℕ) (os : List Outer) (j : ℕ) → AllPairs (Stores (target_in s) (instances.sites s) j) (sites s n v os) (assignments s j)
  stored (loop x lo rel hi body) n v os j = stored_all body (suc n) (suc v) (outer_loop n v (record { name = x; lo = lo; rel = rel; hi = hi }) ∷ os) j
  stored (choice ts first other) n v os j =
      both (instances.sites_all first) (target_among first) (target_among other)
      (sites_all first (suc n) v (outer_branch n true ts ∷ os)) (sites_all other (suc n + count_all first) (v + loops_all first) (outer_branch n false ts ∷ os)) (assignments_all first j) (assignments_all other (j + instances.sites_all first))
      (instances.sites_all other) j
      (stored_all first (suc n) v (outer_branch n true ts ∷ os) j)
      (stored_all other (suc n + count_all first) (v + loops_all first) (outer_branch n false ts ∷ os) (j + instances.sites_all first))
  stored (assign t op e) n v os j = assigned t op e n v os j
  stored (table x len) n v os j = tt
  stored begin n v os j = tt
  stored (check x extent a) n v os j = tt
  stored verdict n v os j = tt

  stored_all : (ss : PlainStmts) (n v : ℕ) (os : List Outer) (j : ℕ) → AllPairs (Stores (target_among ss) (instances.sites_all ss) j) (sites_all ss n v os) (assignments_all ss j)
  stored_all no_stmts n v os j = tt
  stored_all (more_stmts s ss) n v os j =
      both (instances.sites s) (target_in s) (target_among ss)
      (sites s n v os) (sites_all ss (n + count s) (v + loops s) os) (assignments s j) (assignments_all ss (j + instances.sites s))
      (instances.sites_all ss) j
      (stored s n v os j)
      (stored_all ss (n + count s) (v + loops s) os (j + instances.sites s))

-- the assignment of a site stores into a cell of this array
pub record StoresInto (body : PlainStmts) (k : ℕ) (array : Word) : Type 0 where
  pub at : PlainExprs
  pub target : target_among body k ≡ Some (cell array at)

pub write_stores : (body : PlainStmts) (n v : ℕ) (site : ℕ) (found : Site) → slice_get (sites_all body n v []) site ≡ Some found → found.reach.writes ≡ true → StoresInto body (assignment_of body site) found.reach.name
write_stores body n v site found there writes =
    let h = pair_at (Stores (target_among body) (instances.sites_all body) 0) (sites_all body n v []) (assignments_all body 0) site found (stored_all body n v [] 0) there writes in
    record { at = h.at; target = ap (target_among body) (let e = h.is in let f : assignment_of body site ≡ h.number = omega arith in f) ∙ h.target }
