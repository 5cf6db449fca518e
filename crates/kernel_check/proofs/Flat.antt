-- Where tables are made at the top level alone, the items below a statement are those in the tables before it.
use Rattle.std.proofs.Common.{◌≡◌, ℕ, suc, ◌+◌, ◌<◌, Bool, true, false, ◌&&◌, List, [], ◌∷◌, ◌++◌, length, drop, drop-cons, get_or, Option, Some, None, Result, Ok, Err, refl, sym, ap, ◌∙◌, subst, arith}
use Rattle.c_tree.specs.Plain.{Word, PlainStmt, loop, choice, assign, table, begin, check, verdict, PlainStmts, no_stmts, more_stmts}
use Rattle.c_tree.specs.Trees.{stmt, stmts}
use Rattle.c_tree.specs.declared.stmt.Stmt.{Stmt}
use Rattle.acceptance.specs.Items.{Item, Loop, items, items_all, one_item, tables_after}
use Rattle.acceptance.specs.Runnable.{makes_no_table, all_make_no_table}
use Rattle.kernel_check.specs.Items.{inner, inner_all, is_flat, are_flat}
use Rattle.kernel_check.specs.Scans.{met, scan, IsScan, met_or, first_met}
use Rattle.kernel_check.specs.declared.walk.Stop.{Stop}
use Rattle.kernel_check.specs.declared.walk.Stop.TheVariants.{Found}

pub both : (a b : Bool) → (a && b) ≡ true → (a ≡ true) × (b ≡ true)
both true b h = (refl, h)
both false b h = absurd (let f : ⊥ = cc in f)

after_same : (s : PlainStmt) (ts : List Word) → makes_no_table s ≡ true → tables_after s ts ≡ ts
after_same (loop x lo rel hi body) ts h = refl
after_same (choice tests first other) ts h = refl
after_same (assign target op e) ts h = refl
after_same (table x len) ts h = absurd (let f : ⊥ = cc in f)
after_same begin ts h = refl
after_same (check x extent a) ts h = refl
after_same verdict ts h = refl

mutual
  flat : (s : PlainStmt) (ls : List Loop) (ts : List Word) → makes_no_table s ≡ true → items s ls ts ≡ inner s ls ts
  flat (loop x lo rel hi body) ls ts h = ap (λ (is : List Item). one_item (loop x lo rel hi body) ls ts ++ is) (all_flat body (record { name = x; lo = lo; rel = rel; hi = hi } ∷ ls) ts h)
  flat (choice tests first other) ls ts h =
      let b = both (all_make_no_table first) (all_make_no_table other) h in
      ap (λ (is : List Item). one_item (choice tests first other) ls ts ++ (is ++ items_all other ls ts)) (all_flat first ls ts b.0)
      ∙ ap (λ (is : List Item). one_item (choice tests first other) ls ts ++ (inner_all first ls ts ++ is)) (all_flat other ls ts b.1)
  flat (assign target op e) ls ts h = refl
  flat (table x len) ls ts h = refl
  flat begin ls ts h = refl
  flat (check x extent a) ls ts h = refl
  flat verdict ls ts h = refl

  all_flat : (ss : PlainStmts) (ls : List Loop) (ts : List Word) → all_make_no_table ss ≡ true → items_all ss ls ts ≡ inner_all ss ls ts
  all_flat no_stmts ls ts h = refl
  all_flat (more_stmts s ss) ls ts h =
      let b = both (makes_no_table s) (all_make_no_table ss) h in
      ap (λ (is : List Item). is ++ items_all ss ls (tables_after s ts)) (flat s ls ts b.0)
      ∙ ap (λ (ws : List Word). inner s ls ts ++ items_all ss ls ws) (after_same s ts b.0)
      ∙ ap (λ (is : List Item). inner s ls ts ++ is) (all_flat ss ls ts b.1)

pub at_top : (s : PlainStmt) (ts : List Word) → is_flat s ≡ true → items s [] ts ≡ inner s [] ts
at_top (loop x lo rel hi body) ts h = flat (loop x lo rel hi body) [] ts h
at_top (choice tests first other) ts h = flat (choice tests first other) [] ts h
at_top (assign target op e) ts h = refl
at_top (table x len) ts h = refl
at_top begin ts h = refl
at_top (check x extent a) ts h = refl
at_top verdict ts h = refl

module _ (xs : List Stmt) (i : ℕ) (x : Stmt) (within : i < length xs) (is : x ≡ get_or xs i x) where
  here : drop i xs ≡ x ∷ drop (i + 1) xs
  here = drop-cons xs i x within ∙ ap (λ (y : Stmt). y ∷ drop (suc i) xs) (sym is) ∙ ap (λ (k : ℕ). x ∷ drop k xs) (let g : suc i ≡ i + 1 = omega arith in g)

  pub flat_here : are_flat (stmts (drop i xs)) ≡ true → (is_flat (stmt x) ≡ true) × (are_flat (stmts (drop (i + 1) xs)) ≡ true)
  flat_here h = both (is_flat (stmt x)) (are_flat (stmts (drop (i + 1) xs))) (sym (ap (λ (l : List Stmt). are_flat (stmts l)) here) ∙ h)

  pub items_here : (ts : List Word) → is_flat (stmt x) ≡ true → items_all (stmts (drop i xs)) [] ts ≡ inner (stmt x) [] ts ++ items_all (stmts (drop (i + 1) xs)) [] (tables_after (stmt x) ts)
  items_here ts h = ap (λ (l : List Stmt). items_all (stmts l) [] ts) here
      ∙ ap (λ (js : List Item). js ++ items_all (stmts (drop (i + 1) xs)) [] (tables_after (stmt x) ts)) (at_top (stmt x) ts h)

-- ---- what a scan finds

abbrev pub found : Result ℕ (ℕ × ℕ) → Option (ℕ × ℕ)
found (Ok n) = None
found (Err p) = Some p

found_met : (o : Option ℕ) (n : ℕ) (r : Result ℕ (ℕ × ℕ)) → found (met o n r) ≡ met_or o n (found r)
found_met None n r = refl
found_met (Some c) n r = refl

pub first_is : (f : Item → Option ℕ) (n : ℕ) (xs : List Item) → first_met f n xs ≡ found (scan f n xs)
first_is f n [] = refl
first_is f n (x ∷ xs) = ap (met_or (f x) n) (first_is f (suc n) xs) ∙ sym (found_met (f x) n (scan f (suc n) xs))

pub stopped_at : (s : Result ℕ (ℕ × ℕ)) (e : Stop) (i count : ℕ) → e ≡ Found i count → IsScan s (Err e) → s ≡ Err (i, count)
stopped_at s e i count is h = subst (λ (e : Stop). IsScan s (Err e)) is h
