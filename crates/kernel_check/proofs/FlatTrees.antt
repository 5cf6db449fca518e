-- In a tree of the grammar tables are made at the top level alone.
use Rattle.std.proofs.Common.{◌≡◌, ℕ, ◌+◌, ◌^◌, Bool, true, false, ◌&&◌, nat_lt, List, [], ◌∷◌, ◌++◌, length, refl, sym, ap, ◌∙◌, subst, ltb-true}
use Rattle.c_tree.specs.Plain.{PlainStmt, loop, choice, assign, table, begin, check, verdict, PlainStmts, no_stmts, more_stmts, PlainUnit}
use Rattle.c_tree.specs.Trees.{stmts_of}
use Rattle.c_tree.specs.Names.{arrays_in}
use Rattle.acceptance.specs.Items.{items_all}
use Rattle.acceptance.specs.Runnable.{makes_no_table, all_make_no_table}
use Rattle.acceptance.specs.Trees.{IsInner, AreInner, IsTop, AreTop, IsSourceTree, IsPrintedTree}
use Rattle.kernel_check.specs.Conditions.{IsNumbered}
use Rattle.kernel_check.specs.Items.{is_flat, are_flat}

and_true : (a b : Bool) → a ≡ true → b ≡ true → (a && b) ≡ true
and_true a b h g = ap (λ (c : Bool). c && b) h ∙ g

mutual
  no_table : (p : Bool) (n : ℕ) (s : PlainStmt) → IsInner p n s → makes_no_table s ≡ true
  no_table p n (loop x lo rel hi body) h = no_tables p n body h.4
  no_table p n (choice ts first other) h = and_true (all_make_no_table first) (all_make_no_table other) (no_tables p n first h.1) (no_tables p n other h.2)
  no_table p n (assign target op e) h = refl
  no_table p n (table x len) h = absurd h
  no_table p n begin h = absurd h
  no_table p n (check x extent a) h = refl
  no_table p n verdict h = absurd h

  no_tables : (p : Bool) (n : ℕ) (ss : PlainStmts) → AreInner p n ss → all_make_no_table ss ≡ true
  no_tables p n no_stmts h = refl
  no_tables p n (more_stmts s ss) h = and_true (makes_no_table s) (all_make_no_table ss) (no_table p n s h.0) (no_tables p n ss h.1)

flat_inner : (p : Bool) (n : ℕ) (s : PlainStmt) → IsInner p n s → is_flat s ≡ true
flat_inner p n (loop x lo rel hi body) h = no_table p n (loop x lo rel hi body) h
flat_inner p n (choice ts first other) h = no_table p n (choice ts first other) h
flat_inner p n (assign target op e) h = refl
flat_inner p n (table x len) h = refl
flat_inner p n begin h = absurd h
flat_inner p n (check x extent a) h = refl
flat_inner p n verdict h = absurd h

flat_all : (p : Bool) (n : ℕ) (ss : PlainStmts) → AreInner p n ss → are_flat ss ≡ true
flat_all p n no_stmts h = refl
flat_all p n (more_stmts s ss) h = and_true (is_flat s) (are_flat ss) (flat_inner p n s h.0) (flat_all p n ss h.1)

flat_top : (n : ℕ) (s : PlainStmt) → IsTop n s → is_flat s ≡ true
flat_top n (loop x lo rel hi body) h = flat_inner true n (loop x lo rel hi body) h
flat_top n (choice ts first other) h = flat_inner true n (choice ts first other) h
flat_top n (assign target op e) h = refl
flat_top n (table x len) h = refl
flat_top n begin h = absurd h
flat_top n (check x extent a) h = refl
flat_top n verdict h = absurd h

flat_list : (n : ℕ) (xs ys : List PlainStmt) → AreTop n xs → are_flat (stmts_of ys) ≡ true → are_flat (stmts_of (xs ++ ys)) ≡ true
flat_list n [] ys h g = g
flat_list n (x ∷ xs) ys h g = and_true (is_flat x) (are_flat (stmts_of (xs ++ ys))) (flat_top n x h.0) (flat_list n xs ys h.1 g)

pub source_flat : (u : PlainUnit) → IsSourceTree u → are_flat u.body ≡ true
source_flat u h = flat_all false 0 u.body h.body

pub printed_flat : (u : PlainUnit) → IsPrintedTree u → are_flat u.body ≡ true
printed_flat u h =
    let n = length (arrays_in u.params) in
    ap are_flat h.parts ∙ flat_list n h.before (begin ∷ (h.after ++ verdict ∷ [])) h.before_trees (flat_list n h.after (verdict ∷ []) h.after_trees refl)

pub numbered : (u v : PlainUnit) (few : Bool) → v ≡ u → are_flat u.body ≡ true → few ≡ nat_lt (1 + length (items_all u.body [] [])) (2 ^ 31) → few ≡ true → IsNumbered v
numbered u v few same flat is h = subst IsNumbered (sym same) (record {
  flat = flat;
  few = ltb-true (1 + length (items_all u.body [] [])) (2 ^ 31) (sym is ∙ h);
})
