-- The accesses that are counted are the sites that meet the test.
use Rattle.std.proofs.Common.{◌≡◌, ℕ, suc, ◌+◌, Bool, true, false, cond, List, [], ◌∷◌, ◌++◌, length, filter, refl, ap, ◌∙◌, arith, length-append, Option, Some, None}
use Rattle.std.proofs.lemmas.List.Elements.{filter-append}
use Rattle.c_tree.specs.Plain.{Word, PlainExpr, lit, var, cell, un, bin, cast, test, umin, umax, least, greatest, widen, big, PlainExprs, no_exprs, more_exprs, PlainStmt, loop, choice, assign, table, begin, check, verdict, PlainStmts, no_stmts, more_stmts}
use Rattle.c_tree.specs.declared.expr.BinOp.{BinOp}
use Rattle.sites.specs.Sites.{Frame, Outer, outer_loop, outer_branch, bare, Reach, Site, around, read_of, reads_in, reads_in_all, old_cell, accesses_of, placed, count, count_all, loops, loops_all, sites, sites_all}
use Rattle.sites.specs.Found.{bit, found_in, found_in_all, found_old, found_at, found, found_all}

module _ {X : Type 0} (p : X → Bool) where
  pub counted_append : (xs ys : List X) (m n : ℕ) → m ≡ length (filter p xs) → n ≡ length (filter p ys) → m + n ≡ length (filter p (xs ++ ys))
  counted_append xs ys m n h g =
      let a = ap length (filter-append p xs ys) in
      let b = length-append (filter p xs) (filter p ys) in
      omega arith

  pub counted_one : (x : X) → bit (p x) ≡ length (filter p (x ∷ []))
  counted_one x = by (p x) where
    by : (b : Bool) → bit b ≡ length (cond b (x ∷ []) [])
    by true = refl
    by false = refl

module _ (p : Reach → Bool) where
  mutual
    counted_in : (e : PlainExpr) → found_in p e ≡ length (filter p (reads_in e))
    counted_in (lit n) = refl
    counted_in (var x) = refl
    counted_in (cell x at) = counted_append p (reads_in_all at) (read_of x at ∷ []) _ _ (counted_in_all at) (counted_one p (read_of x at))
    counted_in (un op a) = counted_in a
    counted_in (bin op a b) = counted_append p (reads_in a) (reads_in b) _ _ (counted_in a) (counted_in b)
    counted_in (cast a) = counted_in a
    counted_in (test rel a b) = counted_append p (reads_in a) (reads_in b) _ _ (counted_in a) (counted_in b)
    counted_in (umin a b) = counted_append p (reads_in a) (reads_in b) _ _ (counted_in a) (counted_in b)
    counted_in (umax a b) = counted_append p (reads_in a) (reads_in b) _ _ (counted_in a) (counted_in b)
    counted_in (least a b) = refl
    counted_in (greatest a b) = refl
    counted_in (widen a) = counted_in a
    counted_in (big high low) = refl

    counted_in_all : (es : PlainExprs) → found_in_all p es ≡ length (filter p (reads_in_all es))
    counted_in_all no_exprs = refl
    counted_in_all (more_exprs e es) = counted_append p (reads_in e) (reads_in_all es) _ _ (counted_in e) (counted_in_all es)

  counted_old : (op : Option BinOp) (x : Word) (at : PlainExprs) → found_old p op x at ≡ length (filter p (old_cell op x at))
  counted_old None x at = refl
  counted_old (Some op) x at = counted_one p (read_of x at)

  pub counted_at : (target : PlainExpr) (op : Option BinOp) (e : PlainExpr) → found_at p target op e ≡ length (filter p (accesses_of target op e))
  counted_at (cell x at) op e =
      let w : Reach = record { name = x; at = at; writes = true } in
      counted_append p (reads_in_all at) (old_cell op x at ++ (reads_in e ++ w ∷ [])) _ _ (counted_in_all at)
      (counted_append p (old_cell op x at) (reads_in e ++ w ∷ []) _ _ (counted_old op x at)
      (counted_append p (reads_in e) (w ∷ []) _ _ (counted_in e) (counted_one p w)))
  counted_at _ op e = counted_in e

abbrev meeting : (List Frame → Reach → Bool) → Site → Bool
meeting p s = p (around s) s.reach

module _ (p : List Frame → Reach → Bool) where
  placed_counted : (n k : ℕ) (gs : List Outer) (rs : List Reach) → length (filter (p (bare gs)) rs) ≡ length (filter (meeting p) (placed n k gs rs))
  placed_counted n k gs [] = refl
  placed_counted n k gs (r ∷ rs) = by (p (bare gs) r) (placed_counted n (suc k) gs rs) where
    by : (b : Bool) → length (filter (p (bare gs)) rs) ≡ length (filter (meeting p) (placed n (suc k) gs rs))
        → length (cond b (r ∷ filter (p (bare gs)) rs) (filter (p (bare gs)) rs))
        ≡ length (cond b ((let s : Site = record { statement = n; position = k; outers = gs; reach = r } in s) ∷ filter (meeting p) (placed n (suc k) gs rs)) (filter (meeting p) (placed n (suc k) gs rs)))
    by true rest = ap suc rest
    by false rest = rest

  mutual
    counted_here : (s : PlainStmt) (n v : ℕ) (gs : List Outer) → found p s (bare gs) ≡ length (filter (meeting p) (sites s n v gs))
    counted_here (loop x lo rel hi body) n v gs = counted_all body (suc n) (suc v) (outer_loop n v (record { name = x; lo = lo; rel = rel; hi = hi }) ∷ gs)
    counted_here (choice ts first other) n v gs =
        counted_append (meeting p) (sites_all first (suc n) v (outer_branch n true ts ∷ gs)) (sites_all other (suc n + count_all first) (v + loops_all first) (outer_branch n false ts ∷ gs)) _ _
        (counted_all first (suc n) v (outer_branch n true ts ∷ gs)) (counted_all other (suc n + count_all first) (v + loops_all first) (outer_branch n false ts ∷ gs))
    counted_here (assign target op e) n v gs = counted_at (p (bare gs)) target op e ∙ placed_counted n 0 gs (accesses_of target op e)
    counted_here (table x len) n v gs = refl
    counted_here begin n v gs = refl
    counted_here (check x extent a) n v gs = refl
    counted_here verdict n v gs = refl

    pub counted_all : (ss : PlainStmts) (n v : ℕ) (gs : List Outer) → found_all p ss (bare gs) ≡ length (filter (meeting p) (sites_all ss n v gs))
    counted_all no_stmts n v gs = refl
    counted_all (more_stmts s ss) n v gs =
        counted_append (meeting p) (sites s n v gs) (sites_all ss (n + count s) (v + loops s) gs) _ _ (counted_here s n v gs) (counted_all ss (n + count s) (v + loops s) gs)
