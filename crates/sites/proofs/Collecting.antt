-- Walks in a row add the sites of both.
use Rattle.std.proofs.Common.{◌≡◌, ℕ, suc, ◌+◌, Bool, true, false, cond, List, [], ◌∷◌, ◌++◌, append_assoc, append-nil, length, length-append, drop, drop-cons, get_or, ◌<◌, ◌≤◌, Option, Result, Ok, Err, refl, sym, ap, ◌∙◌, subst, arith}
use Rattle.std.specs.Result.{IfOk}
use Rattle.std.specs.declared.boxed.Box.{Box}
use Rattle.std.specs.declared.alloc.Global.{Global}
use Rattle.std.proofs.lemmas.List.{drop_all}
use Rattle.std.proofs.lemmas.List.Elements.{filter-append}
use Rattle.c_tree.specs.Names.{arrays_in, ints_in}
use Rattle.c_tree.specs.Plain.{Word, PlainExpr, bin, test, umin, umax, PlainExprs, PlainTest, PlainStmt, loop, choice, assign, PlainStmts, PlainUnit}
use Rattle.c_tree.specs.Trees.{expr, exprs, stmt, stmts, unit}
use Rattle.c_tree.specs.declared.expr.BinOp.{BinOp}
use Rattle.c_tree.specs.declared.expr.Expr.{Expr, Cell, Bin, Test, Min, Max}
use Rattle.c_tree.specs.declared.expr.Rel.{Rel}
use Rattle.c_tree.specs.declared.name.Name.{Name}
use Rattle.c_tree.specs.declared.stmt.Stmt.{Stmt}
use Rattle.c_tree.proofs.Equations.{expr-Cell, expr-Bin, expr-Test, expr-Min, expr-Max}
use Rattle.sites.specs.Collected.{Grows, Reaches, Walks, Walked, WalkedAll, kept, one_site, shown}
use Rattle.sites.specs.Infos.{Front, Pairs, Shows, ShowsSites, numbered_from, numbered_sites, those_of}
use Rattle.sites.specs.Outers.{outers_in}
use Rattle.sites.specs.Sites.{Outer, outer_loop, outer_branch, first_variable, Reach, Site, is_of, placed, read_of, reads_in, reads_in_all, accesses_of, old_cell, count, count_all, loops, loops_all, sites, sites_all}
use Rattle.sites.specs.declared.collect.Count.{Count}
use Rattle.sites.specs.declared.collect.Next.{Next}
use Rattle.sites.specs.declared.collect.Place.{Place}
use Rattle.sites.specs.declared.collect.Query.{Query}
use Rattle.sites.specs.declared.info.SiteInfo.{SiteInfo}
use Rattle.sites.proofs.Fronts.{front_all, front_more}

-- ---- lists

pub numbered-append : (k : ℕ) (ss ts : List Site) → numbered_from k (ss ++ ts) ≡ numbered_from k ss ++ numbered_from (k + length ss) ts
numbered-append k [] ts = ap (λ (j : ℕ). numbered_from j ts) (let z : k ≡ k + 0 = omega arith in z)
numbered-append k (s ∷ ss) ts =
    ap (λ (rest : List (ℕ × Site)). (k, s) ∷ rest) (numbered-append (suc k) ss ts
    ∙ ap (λ (j : ℕ). numbered_from (suc k) ss ++ numbered_from j ts) (let z : suc k + length ss ≡ k + suc (length ss) = omega arith in z))

pub kept-append : (q : Query) (k m : ℕ) (ss ts : List Site) → m ≡ k + length ss → kept q (numbered_from k (ss ++ ts)) ≡ kept q (numbered_from k ss) ++ kept q (numbered_from m ts)
kept-append q k m ss ts e =
    ap (kept q) (numbered-append k ss ts ∙ ap (λ (j : ℕ). numbered_from k ss ++ numbered_from j ts) (sym e))
    ∙ filter-append (λ (s : ℕ × Site). is_of q.array.now.bytes s.1) (numbered_from k ss) (numbered_from m ts)

pub placed-append : (n k m : ℕ) (os : List Outer) (rs qs : List Reach) → m ≡ k + length rs → placed n k os (rs ++ qs) ≡ placed n k os rs ++ placed n m os qs
placed-append n k m os [] qs e = ap (λ (j : ℕ). placed n j os qs) (let z : k ≡ m = omega arith in z)
placed-append n k m os (r ∷ rs) qs e =
    ap (λ (rest : List Site). (let s : Site = record { statement = n; position = k; outers = os; reach = r } in s) ∷ rest) (placed-append n (suc k) m os rs qs (omega arith))

length-placed : (n k : ℕ) (os : List Outer) (rs : List Reach) → length (placed n k os rs) ≡ length rs
length-placed n k os [] = refl
length-placed n k os (r ∷ rs) = ap suc (length-placed n (suc k) os rs)

-- ---- lists that grow

pub grows_none : (q : Query) (out : List SiteInfo) → Grows q out out []
grows_none q out all rest f = f

pub grows_append : (q : Query) (old mid new : List SiteInfo) (xs ys zs : List (ℕ × Site)) → zs ≡ xs ++ ys → Grows q old mid xs → Grows q mid new ys → Grows q old new zs
grows_append q old mid new xs ys zs e g h all rest f =
    h all rest (g all (ys ++ rest) (subst (λ (ws : List (ℕ × Site)). Front (shown q) old all ws) (ap (λ (ws : List (ℕ × Site)). ws ++ rest) e ∙ append_assoc xs ys rest) f))

-- ---- accesses

pub noted : (q : Query) (old new : List SiteInfo) (i : SiteInfo) (s : ℕ × Site) → is_of q.array.now.bytes s.1 ≡ true → shown q i s → new ≡ old ++ i ∷ [] → Grows q old new (kept q (s ∷ []))
noted q old new i s same h e all rest f =
    subst (λ (xs : List SiteInfo). Front (shown q) xs all rest) (sym e)
    (front_more (shown q) old i s all rest (subst (λ (b : Bool). Front (shown q) old all (cond b (s ∷ []) [] ++ rest)) same f) h)

pub passed : (q : Query) (old new : List SiteInfo) (s : ℕ × Site) → is_of q.array.now.bytes s.1 ≡ false → new ≡ old → Grows q old new (kept q (s ∷ []))
passed q old new s other e all rest f =
    subst (λ (xs : List SiteInfo). Front (shown q) xs all rest) (sym e) (subst (λ (b : Bool). Front (shown q) old all (cond b (s ∷ []) [] ++ rest)) other f)

pub reaches_none : (p : Place) (c : Count) (out : List SiteInfo) → Reaches p c [] out out c
reaches_none p c out = record { position_is = omega arith; site_is = omega arith; grows = grows_none p.query.now out }

pub reaches_append : (p : Place) (c r t : Count) (rs qs : List Reach) (old mid new : List SiteInfo) → Reaches p c rs old mid r → Reaches p r qs mid new t → Reaches p c (rs ++ qs) old new t
reaches_append p c r t rs qs old mid new g h =
    let k = length-append rs qs in
    let a = g.position_is in
    let b = g.site_is in
    let d = h.position_is in
    let e = h.site_is in
    let os = outers_in p.outers.now in
    let same = length-placed p.statement c.position os rs in
    record {
      position_is = omega arith;
      site_is = omega arith;
      grows = grows_append p.query.now old mid new (kept p.query.now (numbered_from c.site (placed p.statement c.position os rs))) (kept p.query.now (numbered_from r.site (placed p.statement r.position os qs)))
          (kept p.query.now (numbered_from c.site (placed p.statement c.position os (rs ++ qs))))
          (ap (λ (ss : List Site). kept p.query.now (numbered_from c.site ss)) (placed-append p.statement c.position r.position os rs qs a)
          ∙ kept-append p.query.now c.site r.site (placed p.statement c.position os rs) (placed p.statement r.position os qs) (omega arith))
          g.grows h.grows;
    }

pub reaches_one : (p : Place) (c r : Count) (x : Word) (at : PlainExprs) (writes : Bool) (old new : List SiteInfo) → Grows p.query.now old new (kept p.query.now (one_site p c x at writes ∷ []))
    → (r.position ≡ suc c.position) × (r.site ≡ suc c.site) → Reaches p c (record { name = x; at = at; writes = writes } ∷ []) old new r
reaches_one p c r x at writes old new g e = record { position_is = omega (arith, e.0); site_is = omega (arith, e.1); grows = g }

pub then_reaches : {E : Type 0} (p : Place) (c m : Count) (rs qs whole : List Reach) (old mid new : List SiteInfo) (res : Result Count E) → whole ≡ rs ++ qs → Reaches p c rs old mid m
    → IfOk res (λ t. Reaches p m qs mid new t) → IfOk res (λ t. Reaches p c whole old new t)
then_reaches p c m rs qs whole old mid new (Ok t) e g h = subst (λ (xs : List Reach). Reaches p c xs old new t) (sym e) (reaches_append p c m t rs qs old mid new g h)
then_reaches p c m rs qs whole old mid new (Err x) e g h = tt

pub read_on : (p : Place) (n m : Count) (xs : List Expr) (i : ℕ) (e : Expr) (out mid new : List SiteInfo) (r : Count) → i < length xs → e ≡ get_or xs i e → Reaches p n (reads_in (expr e)) out mid m
    → Reaches p m (reads_in_all (exprs (drop (i + 1) xs))) mid new r → Reaches p n (reads_in_all (exprs (drop i xs))) out new r
read_on p n m xs i e out mid new r within is g h =
    let here : drop i xs ≡ e ∷ drop (i + 1) xs =
    drop-cons xs i e within ∙ ap (λ (z : Expr). z ∷ drop (suc i) xs) (sym is) ∙ ap (λ (j : ℕ). e ∷ drop j xs) (let z : suc i ≡ i + 1 = omega arith in z) in
    subst (λ (ys : List Expr). Reaches p n (reads_in_all (exprs ys)) out new r) (sym here) (reaches_append p n m r (reads_in (expr e)) (reads_in_all (exprs (drop (i + 1) xs))) out mid new g h)

pub read_all : (p : Place) (n : Count) (xs : List Expr) (i : ℕ) (out : List SiteInfo) → length xs ≤ i → Reaches p n (reads_in_all (exprs (drop i xs))) out out n
read_all p n xs i out past = subst (λ (ys : List Expr). Reaches p n (reads_in_all (exprs ys)) out out n) (sym (drop_all i xs past)) (reaches_none p n out)

-- ---- expressions as their plain trees

pub cell_reads : (e : Expr) (x : Name) (at : List Expr) → e ≡ Cell x at → reads_in (expr e) ≡ reads_in_all (exprs at) ++ read_of x.bytes (exprs at) ∷ []
cell_reads e x at is = ap (λ (d : Expr). reads_in (expr d)) is ∙ ap reads_in (expr-Cell x at)

two : (f : PlainExpr → PlainExpr → PlainExpr) (e : Expr) (x y : Expr) (a b : Box Expr Global) → expr e ≡ f (expr a.value) (expr b.value) → ((d g : PlainExpr) → reads_in (f d g) ≡ reads_in d ++ reads_in g)
    → x ≡ a.value → y ≡ b.value → reads_in (expr e) ≡ reads_in (expr x) ++ reads_in (expr y)
two f e x y a b is step left right =
    ap reads_in is ∙ step (expr a.value) (expr b.value) ∙ ap (λ (d : Expr). reads_in (expr d) ++ reads_in (expr b.value)) (sym left) ∙ ap (λ (d : Expr). reads_in (expr x) ++ reads_in (expr d)) (sym right)

pub bin_reads : (e : Expr) (op : BinOp) (a b : Box Expr Global) (x y : Expr) → e ≡ Bin op a b → x ≡ a.value → y ≡ b.value → reads_in (expr e) ≡ reads_in (expr x) ++ reads_in (expr y)
bin_reads e op a b x y is = two (bin op) e x y a b (ap expr is ∙ expr-Bin op a b) (λ d g. refl)

pub test_reads : (e : Expr) (rel : Rel) (a b : Box Expr Global) (x y : Expr) → e ≡ Test rel a b → x ≡ a.value → y ≡ b.value → reads_in (expr e) ≡ reads_in (expr x) ++ reads_in (expr y)
test_reads e rel a b x y is = two (test rel) e x y a b (ap expr is ∙ expr-Test rel a b) (λ d g. refl)

pub min_reads : (e : Expr) (a b : Box Expr Global) (x y : Expr) → e ≡ Min a b → x ≡ a.value → y ≡ b.value → reads_in (expr e) ≡ reads_in (expr x) ++ reads_in (expr y)
min_reads e a b x y is = two umin e x y a b (ap expr is ∙ expr-Min a b) (λ d g. refl)

pub max_reads : (e : Expr) (a b : Box Expr Global) (x y : Expr) → e ≡ Max a b → x ≡ a.value → y ≡ b.value → reads_in (expr e) ≡ reads_in (expr x) ++ reads_in (expr y)
max_reads e a b x y is = two umax e x y a b (ap expr is ∙ expr-Max a b) (λ d g. refl)

-- ---- statements

pub walks_append : (q : Query) (n m r : Next) (ss ts : List Site) (i j k l : ℕ) (old mid new : List SiteInfo) → Walks q n ss i k old mid m → Walks q m ts j l mid new r → Walks q n (ss ++ ts) (i + j) (k + l) old new r
walks_append q n m r ss ts i j k l old mid new g h =
    let a = g.item_is in
    let b = g.variable_is in
    let d = g.site_is in
    let e = h.item_is in
    let f = h.variable_is in
    let s = h.site_is in
    let len = length-append ss ts in
    record {
      item_is = omega arith;
      variable_is = omega arith;
      site_is = omega arith;
      grows = grows_append q old mid new (kept q (numbered_from n.site ss)) (kept q (numbered_from m.site ts)) (kept q (numbered_from n.site (ss ++ ts))) (kept-append q n.site m.site ss ts d) g.grows h.grows;
    }

sites_same : (ss : PlainStmts) (a b v w : ℕ) (os : List Outer) → a ≡ b → v ≡ w → sites_all ss a v os ≡ sites_all ss b w os
sites_same ss a b v w os e f = ap (λ (n : ℕ). sites_all ss n v os) e ∙ ap (λ (n : ℕ). sites_all ss b n os) f

abbrev IsNext : Next → ℕ → ℕ → ℕ → Type 0
IsNext n item variable site = (n.item ≡ item) × ((n.variable ≡ variable) × (n.site ≡ site))

-- from the number after a loop's or a choice's own
moved : (q : Query) (n w r : Next) (ss ts : List Site) (i k v l : ℕ) (old new : List SiteInfo) → l ≡ v + k → IsNext w (suc n.item) (n.variable + v) n.site → ss ≡ ts → Walks q w ss i k old new r → Walks q n ts (suc i) l old new r
moved q n w r ss ts i k v l old new sum e same g =
    let a = g.item_is in
    let b = g.variable_is in
    let d = g.site_is in
    let x = e.0 in
    let y = e.1.0 in
    let z = e.1.1 in
    let len : length ss ≡ length ts = ap (λ (us : List Site). length us) same in
    record {
      item_is = omega arith;
      variable_is = omega arith;
      site_is = omega arith;
      grows = subst (λ (us : List Site). Grows q old new (kept q (numbered_from n.site us))) same (subst (λ (m : ℕ). Grows q old new (kept q (numbered_from m ss))) z g.grows);
    }

pub loop_walked : {E : Type 0} (q : Query) (os : List Outer) (n w : Next) (x : Word) (lo : PlainExpr) (rel : Rel) (hi : PlainExpr) (body : PlainStmts) (s : PlainStmt) (old new : List SiteInfo) (res : Result Next E)
    → s ≡ loop x lo rel hi body → IsNext w (suc n.item) (suc n.variable) n.site
    → IfOk res (λ r. WalkedAll q (outer_loop n.item n.variable (record { name = x; lo = lo; rel = rel; hi = hi }) ∷ os) body w old new r) → IfOk res (λ r. Walked q os s n old new r)
loop_walked q os n w x lo rel hi body s old new (Ok r) is e g =
    let inner : List Outer = outer_loop n.item n.variable (record { name = x; lo = lo; rel = rel; hi = hi }) ∷ os in
    subst (λ (t : PlainStmt). Walked q os t n old new r) (sym is)
    (moved q n w r (sites_all body w.item w.variable inner) (sites_all body (suc n.item) (suc n.variable) inner) (count_all body) (loops_all body) 1 (suc (loops_all body)) old new (omega arith)
    (e.0, (e.1.0 ∙ (let z : suc n.variable ≡ n.variable + 1 = omega arith in z), e.1.1)) (sites_same body w.item (suc n.item) w.variable (suc n.variable) inner e.0 e.1.0) g)
loop_walked q os n w x lo rel hi body s old new (Err z) is e g = tt

pub choice_walked : {E : Type 0} (q : Query) (os : List Outer) (n w b : Next) (ts : List PlainTest) (first other : PlainStmts) (s : PlainStmt) (old mid new : List SiteInfo) (res : Result Next E)
    → s ≡ choice ts first other → IsNext w (suc n.item) n.variable n.site → WalkedAll q (outer_branch n.item true ts ∷ os) first w old mid b
    → IfOk res (λ r. WalkedAll q (outer_branch n.item false ts ∷ os) other b mid new r) → IfOk res (λ r. Walked q os s n old new r)
choice_walked q os n w b ts first other s old mid new (Ok r) is e g h =
    let left : List Outer = outer_branch n.item true ts ∷ os in
    let right : List Outer = outer_branch n.item false ts ∷ os in
    let x = e.0 in
    let y = e.1.0 in
    let a = g.item_is in
    let d = g.variable_is in
    subst (λ (t : PlainStmt). Walked q os t n old new r) (sym is)
    (moved q n w r (sites_all first w.item w.variable left ++ sites_all other b.item b.variable right)
    (sites_all first (suc n.item) n.variable left ++ sites_all other (suc n.item + count_all first) (n.variable + loops_all first) right)
    (count_all first + count_all other) (loops_all first + loops_all other) 0 (loops_all first + loops_all other) old new (omega arith)
    (e.0, (e.1.0 ∙ (let z : n.variable ≡ n.variable + 0 = omega arith in z), e.1.1))
    (ap (λ (us : List Site). us ++ sites_all other b.item b.variable right) (sites_same first w.item (suc n.item) w.variable n.variable left e.0 e.1.0)
    ∙ ap (λ (us : List Site). sites_all first (suc n.item) n.variable left ++ us)
    (sites_same other b.item (suc n.item + count_all first) b.variable (n.variable + loops_all first) right (omega arith) (omega arith)))
    (walks_append q w b r (sites_all first w.item w.variable left) (sites_all other b.item b.variable right) (count_all first) (count_all other) (loops_all first) (loops_all other) old mid new g h))
choice_walked q os n w b ts first other s old mid new (Err z) is e g h = tt

pub assign_walked : (p : Place) (n r : Next) (c : Count) (t : PlainExpr) (op : Option BinOp) (e : PlainExpr) (old new : List SiteInfo) → p.statement ≡ n.item
    → Reaches p (record { position = 0; site = n.site }) (accesses_of t op e) old new c → IsNext r (suc n.item) n.variable c.site → Walked p.query.now (outers_in p.outers.now) (assign t op e) n old new r
assign_walked p n r c t op e old new same g is =
    let os = outers_in p.outers.now in
    let a = is.0 in
    let b = is.1.0 in
    let d = is.1.1 in
    let f = g.site_is in
    let k = length-placed n.item 0 os (accesses_of t op e) in
    record {
      item_is = omega arith;
      variable_is = omega arith;
      site_is = omega arith;
      grows = subst (λ (m : ℕ). Grows p.query.now old new (kept p.query.now (numbered_from n.site (placed m 0 os (accesses_of t op e))))) same g.grows;
    }

pub other_walked : {E : Type 0} (q : Query) (os : List Outer) (n : Next) (s : PlainStmt) (i : ℕ) (out : List SiteInfo) (res : Result Next E) → sites s n.item n.variable os ≡ [] → count s ≡ 1 → loops s ≡ 0
    → IfOk res (λ r. IsNext r (suc n.item) n.variable n.site) → IfOk res (λ r. Walked q os s n out out r)
other_walked q os n s i out (Ok r) none one zero e =
    let x = e.0 in
    let y = e.1.0 in
    let z = e.1.1 in
    let len : length (sites s n.item n.variable os) ≡ 0 = ap (λ (ss : List Site). length ss) none in
    record {
      item_is = omega arith;
      variable_is = omega arith;
      site_is = omega arith;
      grows = subst (λ (ss : List Site). Grows q out out (kept q (numbered_from n.site ss))) (sym none) (grows_none q out);
    }
other_walked q os n s i out (Err z) none one zero e = tt

-- one statement more, before those that are left
pub walk_on : (q : Query) (os : List Outer) (n m : Next) (xs : List Stmt) (i : ℕ) (s : Stmt) (out mid new : List SiteInfo) (r : Next) → i < length xs → s ≡ get_or xs i s → Walked q os (stmt s) n out mid m
    → WalkedAll q os (stmts (drop (i + 1) xs)) m mid new r → WalkedAll q os (stmts (drop i xs)) n out new r
walk_on q os n m xs i s out mid new r within is g h =
    let here : drop i xs ≡ s ∷ drop (i + 1) xs =
    drop-cons xs i s within ∙ ap (λ (z : Stmt). z ∷ drop (suc i) xs) (sym is) ∙ ap (λ (j : ℕ). s ∷ drop j xs) (let z : suc i ≡ i + 1 = omega arith in z) in
    let ss = stmts (drop (i + 1) xs) in
    subst (λ (ys : List Stmt). WalkedAll q os (stmts ys) n out new r) (sym here)
    (walks_append q n m r (sites (stmt s) n.item n.variable os) (sites_all ss (n.item + count (stmt s)) (n.variable + loops (stmt s)) os) (count (stmt s)) (count_all ss) (loops (stmt s)) (loops_all ss) out mid new g
    (subst (λ (ts : List Site). Walks q m ts (count_all ss) (loops_all ss) mid new r)
    (sites_same ss m.item (n.item + count (stmt s)) m.variable (n.variable + loops (stmt s)) os g.item_is g.variable_is) h))

pub walk_none : (q : Query) (os : List Outer) (n : Next) (xs : List Stmt) (i : ℕ) (out : List SiteInfo) → length xs ≤ i → WalkedAll q os (stmts (drop i xs)) n out out n
walk_none q os n xs i out past = subst (λ (ys : List Stmt). WalkedAll q os (stmts ys) n out out n) (sym (drop_all i xs past))
    (record { item_is = omega arith; variable_is = omega arith; site_is = omega arith; grows = grows_none q out })

pub all_read : (p : Place) (c n : Count) (xs ys : List Expr) (old new : List SiteInfo) → xs ≡ ys → Reaches p c (reads_in_all (exprs xs)) old new n → Reaches p c (reads_in_all (exprs ys)) old new n
all_read p c n xs ys old new e g = subst (λ (zs : List Expr). Reaches p c (reads_in_all (exprs zs)) old new n) e g

pub all_walked : (q : Query) (os : List Outer) (n r : Next) (xs ys : List Stmt) (old new : List SiteInfo) → xs ≡ ys → WalkedAll q os (stmts xs) n old new r → WalkedAll q os (stmts ys) n old new r
all_walked q os n r xs ys old new e g = subst (λ (zs : List Stmt). WalkedAll q os (stmts zs) n old new r) e g

pub cell_accesses : (t : Expr) (x : Name) (at : List Expr) (op : Option BinOp) (e : PlainExpr) → t ≡ Cell x at
    → accesses_of (expr t) op e ≡ reads_in_all (exprs at) ++ (old_cell op x.bytes (exprs at) ++ (reads_in e ++ record { name = x.bytes; at = exprs at; writes = true } ∷ []))
cell_accesses t x at op e is = ap (λ (d : Expr). accesses_of (expr d) op e) is ∙ ap (λ (d : PlainExpr). accesses_of d op e) (expr-Cell x at)

-- ---- the whole body

collected : (q : Query) (old new : List SiteInfo) (more : List (ℕ × Site)) → old ≡ [] → Grows q old new more → Pairs (shown q) new more
collected q old new more e g =
    let f : Front (shown q) new (more ++ []) [] = g (more ++ []) [] (subst (λ (xs : List SiteInfo). Front (shown q) xs (more ++ []) (more ++ [])) (sym e) refl) in
    subst (λ (ss : List (ℕ × Site)). Pairs (shown q) new ss) (append-nil more) (front_all (shown q) new (more ++ []) f)

pub of_unit : (q : Query) (v : ℕ) (old new : List SiteInfo) (r : Next) → old ≡ [] → v ≡ first_variable (unit q.unit.now)
    → WalkedAll q [] (stmts q.unit.now.body) (record { item = 1; variable = v; site = 0 }) old new r → Pairs (shown q) new (numbered_sites (unit q.unit.now) q.array.now.bytes)
of_unit q v old new r none e g =
    subst (λ (n : ℕ). Pairs (shown q) new (those_of q.array.now.bytes (numbered_from 0 (sites_all (stmts q.unit.now.body) 1 n [])))) e
    (collected q old new (kept q (numbered_from 0 (sites_all (stmts q.unit.now.body) 1 v []))) none g.grows)

pub of_arrays : (u : PlainUnit) (arrays : List Word) (x : Word) (infos : List SiteInfo) → arrays ≡ arrays_in u.params → Pairs (Shows (ints_in u.params) arrays) infos (numbered_sites u x) → ShowsSites u infos x
of_arrays u arrays x infos e h = subst (λ (names : List Word). Pairs (Shows (ints_in u.params) names) infos (numbered_sites u x)) e h
