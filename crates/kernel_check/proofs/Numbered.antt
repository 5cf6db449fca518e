-- Counts up to a limit.
use Rattle.std.proofs.Common.{◌≡◌, ℕ, suc, ◌+◌, ◌<◌, ◌≤◌, min, length, length-append, List, ◌∷◌, refl, sym, ap, ◌∙◌, arith, nat_lt, inl, inr, lt-ltb, le-ltb, drop, ◌⊎◌}
use Rattle.std.proofs.lemmas.List.{drop_all}
use Rattle.std.proofs.lemmas.Bool.{cases_lt}
use Rattle.c_tree.specs.Plain.{Word, PlainStmt, loop, choice, assign, table, begin, check, verdict, PlainStmts, no_stmts, more_stmts}
use Rattle.c_tree.specs.Trees.{stmts}
use Rattle.c_tree.specs.declared.stmt.Stmt.{Stmt}
use Rattle.acceptance.specs.Items.{Loop, items, items_all, tables_after}
use Rattle.kernel_check.specs.Items.{items_in, all_items_in}

pub added : (m a b c : ℕ) → min (min (a + min b m) m + c) m ≡ min (a + (b + c)) m
added m a b c = omega arith

mutual
  counted : (s : PlainStmt) (ls : List Loop) (ts : List Word) → length (items s ls ts) ≡ items_in s
  counted (loop x lo rel hi body) ls ts = ap suc (all_counted body (record { name = x; lo = lo; rel = rel; hi = hi } ∷ ls) ts)
  counted (choice tests first other) ls ts =
      let a = all_counted first ls ts in
      let b = all_counted other ls ts in
      let c = length-append (items_all first ls ts) (items_all other ls ts) in
      omega arith
  counted (assign target op e) ls ts = refl
  counted (table x len) ls ts = refl
  counted begin ls ts = refl
  counted (check x extent a) ls ts = refl
  counted verdict ls ts = refl

  pub all_counted : (ss : PlainStmts) (ls : List Loop) (ts : List Word) → length (items_all ss ls ts) ≡ all_items_in ss
  all_counted no_stmts ls ts = refl
  all_counted (more_stmts s ss) ls ts =
      let a = counted s ls ts in
      let b = all_counted ss ls (tables_after s ts) in
      let c = length-append (items s ls ts) (items_all ss ls (tables_after s ts)) in
      omega arith

pub few : (r a n : ℕ) → r ≡ min a 4294967295 → n ≡ a → nat_lt r 2147483647 ≡ nat_lt (1 + n) 2147483648
few r a n h e = by (cases_lt n 2147483647) where
  by : (n < 2147483647) ⊎ (2147483647 ≤ n) → nat_lt r 2147483647 ≡ nat_lt (1 + n) 2147483648
  by (inl l) = lt-ltb r 2147483647 (omega arith) ∙ sym (lt-ltb (1 + n) 2147483648 (omega arith))
  by (inr l) = le-ltb r 2147483647 (omega arith) ∙ sym (le-ltb (1 + n) 2147483648 (omega arith))

-- at the end of a list nothing is left
pub all_summed : (xs ys : List Stmt) (k sum : ℕ) → xs ≡ ys → length xs ≤ k → sum ≤ 4294967295 →
    min (sum + all_items_in (stmts (drop k xs))) 4294967295 ≡ min (all_items_in (stmts xs)) 4294967295 → sum ≡ min (all_items_in (stmts ys)) 4294967295
all_summed xs ys k sum same low fits h =
    let z : all_items_in (stmts (drop k xs)) ≡ 0 = ap (λ (zs : List Stmt). all_items_in (stmts zs)) (drop_all k xs low) in
    let all : min (all_items_in (stmts xs)) 4294967295 ≡ min (all_items_in (stmts ys)) 4294967295 = ap (λ (zs : List Stmt). min (all_items_in (stmts zs)) 4294967295) same in
    omega arith
