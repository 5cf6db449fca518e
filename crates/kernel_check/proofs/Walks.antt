-- The steps of the walk over items.
use Rattle.std.proofs.Common.{◌≡◌, ℕ, suc, ◌+◌, ◌<◌, ◌^◌, List, ◌∷◌, ◌++◌, length, drop, get_or, Option, None, Result, Ok, Err, sym, ap, ◌∙◌, subst, arith, drop-cons, length-append, rules}
use Rattle.c_tree.specs.Plain.{Word, PlainExpr, PlainTest, PlainStmt, choice, loop, PlainStmts}
use Rattle.c_tree.specs.Trees.{expr, stmt, stmts, tests}
use Rattle.c_tree.specs.declared.stmt.Stmt.{Stmt, If, For, the_lemmas}
use Rattle.c_tree.specs.declared.name.Name.{Name}
use Rattle.c_tree.specs.declared.expr.Expr.{Expr}
use Rattle.c_tree.specs.declared.expr.Rel.{Rel}
use Rattle.acceptance.specs.Items.{Loop, Item}
use Rattle.kernel_check.specs.Items.{inner, inner_all}
use Rattle.kernel_check.specs.Scans.{met, scan, IsScan, IsMet, Walked}
use Rattle.kernel_check.specs.declared.walk.Stop.{Stop}
use Rattle.kernel_check.proofs.Scans.{go_on, scan-append, scan_past, stopped, met_here, scanned}

-- ---- one item, and what stands in it

module _ (f : Item → Option ℕ) (n n1 : ℕ) (head : Item) (next : n < 2 ^ 31 → n1 ≡ n + 1) (past : f head ≡ None) where
  one_more : (xs : List Item) → n + length (head ∷ xs) < 2 ^ 31 → (n1 + length xs < 2 ^ 31) × (scan f n (head ∷ xs) ≡ scan f n1 xs)
  one_more xs h =
      let e = next (omega arith) in
      (omega arith, ap (λ (o : Option ℕ). met o n (scan f (suc n) xs)) past ∙ ap (λ (k : ℕ). scan f k xs) (let g : suc n ≡ n1 = omega arith in g))

  pub walked_one : (xs : List Item) (r : Result ℕ Stop) → Walked f n1 xs r → Walked f n (head ∷ xs) r
  walked_one xs r w h = let g = one_more xs h in scanned _ _ r g.1 (w g.0)

  pub walked_err : (xs ys : List Item) (e : Stop) → Walked f n1 xs (Err e) → Walked f n (head ∷ (xs ++ ys)) (Err e)
  walked_err xs ys e w h =
      let g = one_more (xs ++ ys) h in
      let k = length-append xs ys in
      scanned _ _ (Err e) (g.1 ∙ scan-append f n1 xs ys) (stopped f ys (scan f n1 xs) e (w (omega (arith, g.0))))

  pub walked_ok : (xs ys : List Item) (m : ℕ) (r : Result ℕ Stop) → Walked f n1 xs (Ok m) → Walked f m ys r → Walked f n (head ∷ (xs ++ ys)) r
  walked_ok xs ys m r w v h =
      let g = one_more (xs ++ ys) h in
      let k = length-append xs ys in
      let a = w (omega (arith, g.0)) in
      let e = scan_past f n1 xs m a in
      scanned _ _ r (g.1 ∙ scan-append f n1 xs ys ∙ ap (go_on f ys) a) (v (omega (arith, g.0)))

-- the condition holds at the item itself
pub walked_here : (f : Item → Option ℕ) (n : ℕ) (head : Item) (xs : List Item) (e : Stop) → IsMet (f head) n (Err e) → Walked f n (head ∷ xs) (Err e)
walked_here f n head xs e h room = met_here (f head) n (scan f (suc n) xs) e h

-- ---- a list of statements

module _ (f : Item → Option ℕ) (n : ℕ) (xs ys : List Item) (room : n + length (xs ++ ys) < 2 ^ 31) where
  front_room : n + length xs < 2 ^ 31
  front_room = let k = length-append xs ys in omega arith

  pub list_err : (s : Result ℕ (ℕ × ℕ)) (e : Stop) → s ≡ scan f n (xs ++ ys) → Walked f n xs (Err e) → IsScan s (Err e)
  list_err s e same w = scanned _ _ (Err e) (same ∙ scan-append f n xs ys) (stopped f ys (scan f n xs) e (w front_room))

  pub list_ok : (s : Result ℕ (ℕ × ℕ)) (m : ℕ) → s ≡ scan f n (xs ++ ys) → Walked f n xs (Ok m) → (m + length ys < 2 ^ 31) × (s ≡ scan f m ys)
  list_ok s m same w =
      let a = w front_room in
      let g = scan_past f n xs m a in
      let k = length-append xs ys in
      (omega arith, same ∙ scan-append f n xs ys ∙ ap (go_on f ys) a)

pub inner_next : (xs : List Stmt) (i : ℕ) (x : Stmt) (ls : List Loop) (ts : List Word) → i < length xs → x ≡ get_or xs i x →
    inner_all (stmts (drop i xs)) ls ts ≡ inner (stmt x) ls ts ++ inner_all (stmts (drop (i + 1) xs)) ls ts
inner_next xs i x ls ts h e = ap (λ (l : List Stmt). inner_all (stmts l) ls ts)
    (drop-cons xs i x h ∙ ap (λ (y : Stmt). y ∷ drop (suc i) xs) (sym e) ∙ ap (λ (k : ℕ). x ∷ drop k xs) (let g : suc i ≡ i + 1 = omega arith in g))

-- ---- statements as their plain trees

pub stmt_if : (s : Stmt) (ts : List (Rel × Expr × Expr)) (a b : List Stmt) → s ≡ If ts a b → stmt s ≡ choice (tests ts) (stmts a) (stmts b)
stmt_if s ts a b e = ap stmt e ∙ search (rules, the_lemmas)

pub stmt_for : (s : Stmt) (x : Name) (lo : Expr) (rel : Rel) (hi : Expr) (body : List Stmt) → s ≡ For x lo rel hi body → stmt s ≡ loop x.bytes (expr lo) rel (expr hi) (stmts body)
stmt_for s x lo rel hi body e = ap stmt e ∙ search (rules, the_lemmas)

abbrev pub item_of : PlainStmt → List Loop → List Word → Item
item_of s ls ts = record { stmt = s; loops = ls; tables = ts }

module _ (f : Item → Option ℕ) (n n1 : ℕ) (st : PlainStmt) (ls : List Loop) (ws : List Word) (next : n < 2 ^ 31 → n1 ≡ n + 1) (past : f (item_of st ls ws) ≡ None) where
  pub if_err : (ts : List PlainTest) (a b : PlainStmts) → st ≡ choice ts a b → (e : Stop) → Walked f n1 (inner_all a ls ws) (Err e) → Walked f n (inner st ls ws) (Err e)
  if_err ts a b is e w = subst (λ (s : PlainStmt). f (item_of s ls ws) ≡ None → Walked f n (inner s ls ws) (Err e)) (sym is)
      (λ h. walked_err f n n1 (item_of (choice ts a b) ls ws) next h (inner_all a ls ws) (inner_all b ls ws) e w) past

  pub if_ok : (ts : List PlainTest) (a b : PlainStmts) → st ≡ choice ts a b → (m : ℕ) (r : Result ℕ Stop) → Walked f n1 (inner_all a ls ws) (Ok m) → Walked f m (inner_all b ls ws) r → Walked f n (inner st ls ws) r
  if_ok ts a b is m r w v = subst (λ (s : PlainStmt). f (item_of s ls ws) ≡ None → Walked f n (inner s ls ws) r) (sym is)
      (λ h. walked_ok f n n1 (item_of (choice ts a b) ls ws) next h (inner_all a ls ws) (inner_all b ls ws) m r w v) past

  pub for_walked : (x : Word) (lo : PlainExpr) (rel : Rel) (hi : PlainExpr) (body : PlainStmts) → st ≡ loop x lo rel hi body → (r : Result ℕ Stop)
      → Walked f n1 (inner_all body (record { name = x; lo = lo; rel = rel; hi = hi } ∷ ls) ws) r → Walked f n (inner st ls ws) r
  for_walked x lo rel hi body is r w = subst (λ (s : PlainStmt). f (item_of s ls ws) ≡ None → Walked f n (inner s ls ws) r) (sym is)
      (λ h. walked_one f n n1 (item_of (loop x lo rel hi body) ls ws) next h (inner_all body (record { name = x; lo = lo; rel = rel; hi = hi } ∷ ls) ws) r w) past
