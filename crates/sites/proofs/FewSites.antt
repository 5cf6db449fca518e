-- A source that isn't refused has at most 4,352 sites: 256 assignments with 16 reads and a write each.
use Rattle.std.proofs.Common.{◌≡◌, ℕ, suc, ◌+◌, ◌*◌, ◌≤◌, Bool, true, false, cond, List, [], ◌∷◌, ◌++◌, length, filter, refl, length-append, Option, Some, None, arith}
use Rattle.std.specs.List.{AllByRecursion}
use Rattle.c_tree.specs.Instances.{sites as assignments, sites_all as all_assignments}
use Rattle.c_tree.specs.Plain.{Word, PlainExpr, lit, var, cell, un, bin, cast, test, umin, umax, least, greatest, widen, big, PlainExprs, no_exprs, more_exprs, PlainStmt, loop, choice, assign, table, begin, check, verdict, PlainStmts, no_stmts, more_stmts, PlainUnit}
use Rattle.c_tree.specs.declared.expr.BinOp.{BinOp}
use Rattle.acceptance.specs.Items.{Item, Loop, items, items_all, tables_after}
use Rattle.acceptance.specs.Limits.{cells_in, cells_in_all, reads_to, reads_of}
use Rattle.acceptance.specs.Sources.{refusal}
use Rattle.sites.specs.Classes.{number}
use Rattle.sites.specs.Sites.{Outer, outer_loop, outer_branch, first_variable, Reach, Site, read_of, reads_in, reads_in_all, accesses_of, placed, count, count_all, loops, loops_all, sites, sites_all, all_sites, sites_of, is_of}
use Rattle.sites.proofs.SmallSites.{all_front, all_back}
use Rattle.sites.proofs.Unrefused.{few_assignments, few_reads}

two_few : (xs ys : List Reach) (m n : ℕ) → length xs ≤ m → length ys ≤ n → length (xs ++ ys) ≤ m + n
two_few xs ys m n h g = let k = length-append xs ys in omega arith

mutual
  few_in : (e : PlainExpr) → length (reads_in e) ≤ cells_in e
  few_in (lit n) = omega arith
  few_in (var x) = omega arith
  few_in (cell x at) = let h = two_few (reads_in_all at) (read_of x at ∷ []) (cells_in_all at) 1 (few_in_all at) (omega arith) in omega arith
  few_in (un op a) = few_in a
  few_in (bin op a b) = two_few (reads_in a) (reads_in b) (cells_in a) (cells_in b) (few_in a) (few_in b)
  few_in (cast a) = few_in a
  few_in (test rel a b) = two_few (reads_in a) (reads_in b) (cells_in a) (cells_in b) (few_in a) (few_in b)
  few_in (umin a b) = two_few (reads_in a) (reads_in b) (cells_in a) (cells_in b) (few_in a) (few_in b)
  few_in (umax a b) = two_few (reads_in a) (reads_in b) (cells_in a) (cells_in b) (few_in a) (few_in b)
  few_in (least a b) = omega arith
  few_in (greatest a b) = omega arith
  few_in (widen a) = few_in a
  few_in (big high low) = omega arith

  few_in_all : (es : PlainExprs) → length (reads_in_all es) ≤ cells_in_all es
  few_in_all no_exprs = omega arith
  few_in_all (more_exprs e es) = two_few (reads_in e) (reads_in_all es) (cells_in e) (cells_in_all es) (few_in e) (few_in_all es)

few_here : (x : Word) (at : PlainExprs) (op : Option BinOp) (e : PlainExpr) → length (accesses_of (cell x at) op e) ≤ reads_to (cell x at) op + cells_in e + 1
few_here x at None e =
    let w : Reach = record { name = x; at = at; writes = true } in
    let a = two_few (reads_in e) (w ∷ []) (cells_in e) 1 (few_in e) (omega arith) in
    let b = two_few (reads_in_all at) (reads_in e ++ w ∷ []) (cells_in_all at) (cells_in e + 1) (few_in_all at) a in omega arith
few_here x at (Some op) e =
    let w : Reach = record { name = x; at = at; writes = true } in
    let a = two_few (reads_in e) (w ∷ []) (cells_in e) 1 (few_in e) (omega arith) in
    let b = two_few (reads_in_all at) (read_of x at ∷ (reads_in e ++ w ∷ [])) (cells_in_all at) (suc (cells_in e + 1)) (few_in_all at) (omega arith) in omega arith

few_else : (e : PlainExpr) (m : ℕ) → length (reads_in e) ≤ m + cells_in e + 1
few_else e m = let h = few_in e in omega arith

few_accesses : (t : PlainExpr) (op : Option BinOp) (e : PlainExpr) → length (accesses_of t op e) ≤ reads_to t op + cells_in e + 1
few_accesses (cell x at) op e = few_here x at op e
few_accesses (lit n) op e = few_else e (reads_to (lit n) op)
few_accesses (var x) op e = few_else e (reads_to (var x) op)
few_accesses (un o a) op e = few_else e (reads_to (un o a) op)
few_accesses (bin o a b) op e = few_else e (reads_to (bin o a b) op)
few_accesses (cast a) op e = few_else e (reads_to (cast a) op)
few_accesses (test rel a b) op e = few_else e (reads_to (test rel a b) op)
few_accesses (umin a b) op e = few_else e (reads_to (umin a b) op)
few_accesses (umax a b) op e = few_else e (reads_to (umax a b) op)
few_accesses (least a b) op e = few_else e (reads_to (least a b) op)
few_accesses (greatest a b) op e = few_else e (reads_to (greatest a b) op)
few_accesses (widen a) op e = few_else e (reads_to (widen a) op)
few_accesses (big high low) op e = few_else e (reads_to (big high low) op)

length-placed : (n k : ℕ) (gs : List Outer) (rs : List Reach) → length (placed n k gs rs) ≡ length rs
length-placed n k gs [] = refl
length-placed n k gs (r ∷ rs) = let h = length-placed n (suc k) gs rs in omega arith

abbrev FewReads : List Item → Type 0
FewReads is = AllByRecursion (λ (i : Item). reads_of i.stmt ≤ 16) is

mutual
  few_sites : (s : PlainStmt) (n v : ℕ) (gs : List Outer) (ls : List Loop) (ws : List Word) → FewReads (items s ls ws) → length (sites s n v gs) ≤ 17 * assignments s
  few_sites (loop x lo rel hi body) n v gs ls ws h =
      let l : Loop = record { name = x; lo = lo; rel = rel; hi = hi } in
      all_few_sites body (suc n) (suc v) (outer_loop n v l ∷ gs) (l ∷ ls) ws h.1
  few_sites (choice ts first other) n v gs ls ws h =
      let a = all_few_sites first (suc n) v (outer_branch n true ts ∷ gs) ls ws (all_front (λ (i : Item). reads_of i.stmt ≤ 16) (items_all first ls ws) (items_all other ls ws) h.1) in
      let b = all_few_sites other (suc n + count_all first) (v + loops_all first) (outer_branch n false ts ∷ gs) ls ws (all_back (λ (i : Item). reads_of i.stmt ≤ 16) (items_all first ls ws) (items_all other ls ws) h.1) in
      let c = length-append (sites_all first (suc n) v (outer_branch n true ts ∷ gs)) (sites_all other (suc n + count_all first) (v + loops_all first) (outer_branch n false ts ∷ gs)) in
      omega arith
  few_sites (assign target op e) n v gs ls ws h =
      let a = length-placed n 0 gs (accesses_of target op e) in
      let b = few_accesses target op e in
      let c : reads_to target op + cells_in e ≤ 16 = h.0 in
      omega arith
  few_sites (table x len) n v gs ls ws h = omega arith
  few_sites begin n v gs ls ws h = omega arith
  few_sites (check x extent a) n v gs ls ws h = omega arith
  few_sites verdict n v gs ls ws h = omega arith

  all_few_sites : (ss : PlainStmts) (n v : ℕ) (gs : List Outer) (ls : List Loop) (ws : List Word) → FewReads (items_all ss ls ws) → length (sites_all ss n v gs) ≤ 17 * all_assignments ss
  all_few_sites no_stmts n v gs ls ws h = omega arith
  all_few_sites (more_stmts s ss) n v gs ls ws h =
      let a = few_sites s n v gs ls ws (all_front (λ (i : Item). reads_of i.stmt ≤ 16) (items s ls ws) (items_all ss ls (tables_after s ws)) h) in
      let b = all_few_sites ss (n + count s) (v + loops s) gs ls (tables_after s ws) (all_back (λ (i : Item). reads_of i.stmt ≤ 16) (items s ls ws) (items_all ss ls (tables_after s ws)) h) in
      let c = length-append (sites s n v gs) (sites_all ss (n + count s) (v + loops s) gs) in
      omega arith

pub few_all_sites : (u : PlainUnit) → refusal u ≡ None → length (all_sites u) ≤ 4352
few_all_sites u e =
    let a = all_few_sites u.body 1 (first_variable u) [] [] [] (few_reads u e) in
    let b = few_assignments u e in
    omega arith

fewer : {X : Type 0} (p : X → Bool) (xs : List X) → length (filter p xs) ≤ length xs
fewer p [] = omega arith
fewer {X} p (x ∷ xs) = by (p x) (fewer p xs) where
  by : (b : Bool) → length (filter p xs) ≤ length xs → length (cond b (x ∷ filter p xs) (filter p xs)) ≤ suc (length xs)
  by true h = omega arith
  by false h = omega arith

pub few_of_them : (u : PlainUnit) → refusal u ≡ None → (x : Word) (p : Site → Bool) → number p (sites_of u x) ≤ 4352
few_of_them u e x p =
    let a = few_all_sites u e in
    let b = fewer (is_of x) (all_sites u) in
    let c = fewer p (sites_of u x) in
    omega arith
