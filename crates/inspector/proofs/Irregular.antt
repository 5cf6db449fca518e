-- The arrays whose class is Inspected are those that the instrumented unit inspects: some read of them has an index cell.
use Rattle.std.proofs.Common.{◌≡◌, ℕ, suc, ◌+◌, ◌&&◌, ◌||◌, not, Bool, true, false, cond, if◌then◌else◌, List, [], ◌∷◌, ◌++◌, filter, refl, sym, ap, ◌∙◌, inl, inr, pos, Option, Some, None, eq-eqb, arith}
use Rattle.std.specs.Prelude.{nat_eq, bytes_eq}
use Rattle.std.specs.List.{list_any}
use Rattle.std.proofs.lemmas.Bool.{cases_Bool, cond-false, eqb-true}
use Rattle.std.proofs.lemmas.Slice.Eq.{bytes_eq-Decides}
use Rattle.c_tree.specs.Names.{ints_in}
use Rattle.c_tree.specs.Plain.{Word, PlainExpr, lit, var, cell, un, bin, cast, test, umin, umax, least, greatest, widen, big, PlainExprs, no_exprs, more_exprs, PlainStmt, loop, choice, assign, table, begin, check, verdict, PlainStmts, no_stmts, more_stmts, PlainUnit}
use Rattle.c_tree.specs.Values.{Vars}
use Rattle.c_tree.specs.Arrays.{Array}
use Rattle.c_tree.specs.declared.expr.BinOp.{BinOp}
use Rattle.instrumentation.specs.Body.{full}
use Rattle.instrumentation.specs.Inspects.{read_irregularly, inspects, inspects_all}
use Rattle.instrumentation.specs.Subscripts.{indices_in}
use Rattle.pass_laws.specs.Countable.{IsAffine}
use Rattle.inspection_laws.specs.Walked.{ArePlainAt, AreWalkedAt, IsWalkedData, IsWalkedTarget, IsWalked, AreWalked}
use Rattle.sites.specs.Classes.{has_cell, is_irregular, are_differences, exactly, class_of}
use Rattle.sites.specs.Sites.{Reach, Site, Outer, outer_loop, outer_branch, read_of, reads_in, reads_in_all, old_cell, accesses_of, placed, count, count_all, loops, loops_all, sites, sites_all, first_variable, all_sites, is_of, sites_of}
use Rattle.sites.specs.declared.class.Class.{Class}
use Rattle.sites.specs.declared.class.Class.TheVariants.{Difference, Counted, Inspected}

or_false : (b c : Bool) → (b || c) ≡ false → (b ≡ false) × (c ≡ false)
or_false true c e = absurd (let f : true ≡ false = e in cc)
or_false false c e = (refl, e)

-- ---- no access of the array is irregular

abbrev Regular : Word → List Reach → Type 0
Regular x [] = Unit {0}
Regular x (r ∷ rs) = (bytes_eq x r.name ≡ true → is_irregular r ≡ false) × Regular x rs

abbrev Clear : Word → List Site → Type 0
Clear x [] = Unit {0}
Clear x (s ∷ ss) = (is_of x s ≡ true → is_irregular s.reach ≡ false) × Clear x ss

joined : (x : Word) (rs qs : List Reach) → Regular x rs → Regular x qs → Regular x (rs ++ qs)
joined x [] qs h g = g
joined x (r ∷ rs) qs h g = (h.0, joined x rs qs h.1 g)

both : (x : Word) (ss ts : List Site) → Clear x ss → Clear x ts → Clear x (ss ++ ts)
both x [] ts h g = g
both x (s ∷ ss) ts h g = (h.0, both x ss ts h.1 g)

all_placed : (x : Word) (n p : ℕ) (os : List Outer) (rs : List Reach) → Regular x rs → Clear x (placed n p os rs)
all_placed x n p os [] h = tt
all_placed x n p os (r ∷ rs) h = (h.0, all_placed x n (suc p) os rs h.1)

filtered : (x : Word) (ss : List Site) → Clear x ss → list_any (λ s. is_irregular s.reach) (filter (is_of x) ss) ≡ false
filtered x [] h = refl
filtered x (s ∷ ss) h = chosen (is_of x s) h.0 (filtered x ss h.1)
  where
    chosen : (b : Bool) → (b ≡ true → is_irregular s.reach ≡ false) → list_any (λ s. is_irregular s.reach) (filter (is_of x) ss) ≡ false →
        list_any (λ s. is_irregular s.reach) (cond b (s ∷ filter (is_of x) ss) (filter (is_of x) ss)) ≡ false
    chosen true f g = ap (λ b. b || list_any (λ s. is_irregular s.reach) (filter (is_of x) ss)) (f refl) ∙ g
    chosen false f g = g

-- ---- subscripts

plain_regular : (es : PlainExprs) (vs : Vars) → ArePlainAt es vs → has_cell es ≡ false
plain_regular no_exprs vs w = refl
plain_regular (more_exprs (cell p at) es) vs w = absurd w.0.0
plain_regular (more_exprs (lit n) es) vs w = plain_regular es vs w.1
plain_regular (more_exprs (var z) es) vs w = plain_regular es vs w.1
plain_regular (more_exprs (un op f) es) vs w = plain_regular es vs w.1
plain_regular (more_exprs (bin op f g) es) vs w = plain_regular es vs w.1
plain_regular (more_exprs (cast f) es) vs w = plain_regular es vs w.1
plain_regular (more_exprs (test rel f g) es) vs w = plain_regular es vs w.1
plain_regular (more_exprs (umin f g) es) vs w = plain_regular es vs w.1
plain_regular (more_exprs (umax f g) es) vs w = plain_regular es vs w.1
plain_regular (more_exprs (least f g) es) vs w = plain_regular es vs w.1
plain_regular (more_exprs (greatest f g) es) vs w = plain_regular es vs w.1
plain_regular (more_exprs (widen f) es) vs w = plain_regular es vs w.1
plain_regular (more_exprs (big high low) es) vs w = plain_regular es vs w.1

none_in : (es : PlainExprs) → nat_eq (indices_in es) 0 ≡ true → has_cell es ≡ false
none_in no_exprs e = refl
none_in (more_exprs (cell p at) es) e = absurd (none_more (indices_in es) e)
  where
    none_more : (n : ℕ) → nat_eq (1 + n) 0 ≡ true → ⊥
    none_more n e = let f : 1 + n ≡ 0 = eqb-true (1 + n) 0 e in omega arith
none_in (more_exprs (lit n) es) e = none_in es e
none_in (more_exprs (var z) es) e = none_in es e
none_in (more_exprs (un op f) es) e = none_in es e
none_in (more_exprs (bin op f g) es) e = none_in es e
none_in (more_exprs (cast f) es) e = none_in es e
none_in (more_exprs (test rel f g) es) e = none_in es e
none_in (more_exprs (umin f g) es) e = none_in es e
none_in (more_exprs (umax f g) es) e = none_in es e
none_in (more_exprs (least f g) es) e = none_in es e
none_in (more_exprs (greatest f g) es) e = none_in es e
none_in (more_exprs (widen f) es) e = none_in es e
none_in (more_exprs (big high low) es) e = none_in es e

affine_clear : (x : Word) (e : PlainExpr) (vs : Vars) → IsAffine e vs → Regular x (reads_in e)
affine_clear x (lit n) vs w = tt
affine_clear x (var z) vs w = tt
affine_clear x (cell p at) vs w = absurd w
affine_clear x (un op f) vs w = affine_clear x f vs w
affine_clear x (bin op f g) vs w = joined x (reads_in f) (reads_in g) (affine_clear x f vs w.0) (affine_clear x g vs w.1)
affine_clear x (cast f) vs w = absurd w
affine_clear x (test rel f g) vs w = absurd w
affine_clear x (umin f g) vs w = absurd w
affine_clear x (umax f g) vs w = absurd w
affine_clear x (least f g) vs w = tt
affine_clear x (greatest f g) vs w = tt
affine_clear x (widen f) vs w = absurd w
affine_clear x (big high low) vs w = absurd w

plain_clear : (x : Word) (es : PlainExprs) (vs : Vars) → ArePlainAt es vs → Regular x (reads_in_all es)
plain_clear x no_exprs vs w = tt
plain_clear x (more_exprs e es) vs w = joined x (reads_in e) (reads_in_all es) (affine_clear x e vs w.0.0) (plain_clear x es vs w.1)

-- ---- reads and statements

module _ (arrays : List Array) (number : Word → ℕ) (a : ℕ) (x : Word) (numbered : number x ≡ a) where
  indices_clear : (es : PlainExprs) (vs : Vars) → AreWalkedAt arrays number es vs → Regular x (reads_in_all es)
  indices_clear no_exprs vs w = tt
  indices_clear (more_exprs (cell p at) es) vs w =
      joined x (reads_in (cell p at)) (reads_in_all es) (joined x (reads_in_all at) (read_of p at ∷ []) (plain_clear x at vs w.0.1) ((λ same. plain_regular at vs w.0.1), tt)) (indices_clear es vs w.1)
  indices_clear (more_exprs (lit n) es) vs w = joined x (reads_in (lit n)) (reads_in_all es) (affine_clear x (lit n) vs w.0.0) (indices_clear es vs w.1)
  indices_clear (more_exprs (var z) es) vs w = joined x (reads_in (var z)) (reads_in_all es) (affine_clear x (var z) vs w.0.0) (indices_clear es vs w.1)
  indices_clear (more_exprs (un op f) es) vs w = joined x (reads_in (un op f)) (reads_in_all es) (affine_clear x (un op f) vs w.0.0) (indices_clear es vs w.1)
  indices_clear (more_exprs (bin op f g) es) vs w = joined x (reads_in (bin op f g)) (reads_in_all es) (affine_clear x (bin op f g) vs w.0.0) (indices_clear es vs w.1)
  indices_clear (more_exprs (cast f) es) vs w = joined x (reads_in (cast f)) (reads_in_all es) (affine_clear x (cast f) vs w.0.0) (indices_clear es vs w.1)
  indices_clear (more_exprs (test rel f g) es) vs w = joined x (reads_in (test rel f g)) (reads_in_all es) (affine_clear x (test rel f g) vs w.0.0) (indices_clear es vs w.1)
  indices_clear (more_exprs (umin f g) es) vs w = joined x (reads_in (umin f g)) (reads_in_all es) (affine_clear x (umin f g) vs w.0.0) (indices_clear es vs w.1)
  indices_clear (more_exprs (umax f g) es) vs w = joined x (reads_in (umax f g)) (reads_in_all es) (affine_clear x (umax f g) vs w.0.0) (indices_clear es vs w.1)
  indices_clear (more_exprs (least f g) es) vs w = joined x (reads_in (least f g)) (reads_in_all es) (affine_clear x (least f g) vs w.0.0) (indices_clear es vs w.1)
  indices_clear (more_exprs (greatest f g) es) vs w = joined x (reads_in (greatest f g)) (reads_in_all es) (affine_clear x (greatest f g) vs w.0.0) (indices_clear es vs w.1)
  indices_clear (more_exprs (widen f) es) vs w = joined x (reads_in (widen f)) (reads_in_all es) (affine_clear x (widen f) vs w.0.0) (indices_clear es vs w.1)
  indices_clear (more_exprs (big high low) es) vs w = joined x (reads_in (big high low)) (reads_in_all es) (affine_clear x (big high low) vs w.0.0) (indices_clear es vs w.1)

  cell_regular : (y : Word) (at : PlainExprs) → (nat_eq (number y) a && not (nat_eq (indices_in at) 0)) ≡ false → bytes_eq x y ≡ true → has_cell at ≡ false
  cell_regular y at h same =
      let named : x ≡ y = (bytes_eq-Decides x y).0 same in
      none_in at (chosen (nat_eq (number y) a) (nat_eq (indices_in at) 0) h (eq-eqb (number y) a (ap number (sym named) ∙ numbered)))
    where
      chosen : (b c : Bool) → (b && not c) ≡ false → b ≡ true → c ≡ true
      chosen true true h e = refl
      chosen true false h e = absurd (let f : true ≡ false = h in cc)
      chosen false c h e = absurd (let f : false ≡ true = e in cc)

  reads_clear : (e : PlainExpr) (vs : Vars) → read_irregularly number a e ≡ false → IsWalkedData arrays number e vs → Regular x (reads_in e)
  reads_clear (lit n) vs h w = tt
  reads_clear (var z) vs h w = tt
  reads_clear (cell y at) vs h w = joined x (reads_in_all at) (read_of y at ∷ []) (indices_clear at vs w.0) (cell_regular y at h, tt)
  reads_clear (un op f) vs h w = reads_clear f vs h w
  reads_clear (cast f) vs h w = reads_clear f vs h w
  reads_clear (least f g) vs h w = tt
  reads_clear (greatest f g) vs h w = tt
  reads_clear (widen f) vs h w = absurd w
  reads_clear (big high low) vs h w = tt
  reads_clear (bin op f g) vs h w = let o = or_false (read_irregularly number a f) (read_irregularly number a g) h in joined x (reads_in f) (reads_in g) (reads_clear f vs o.0 w.0) (reads_clear g vs o.1 w.1)
  reads_clear (test rel f g) vs h w = let o = or_false (read_irregularly number a f) (read_irregularly number a g) h in joined x (reads_in f) (reads_in g) (reads_clear f vs o.0 w.0) (reads_clear g vs o.1 w.1)
  reads_clear (umin f g) vs h w = let o = or_false (read_irregularly number a f) (read_irregularly number a g) h in joined x (reads_in f) (reads_in g) (reads_clear f vs o.0 w.0) (reads_clear g vs o.1 w.1)
  reads_clear (umax f g) vs h w = let o = or_false (read_irregularly number a f) (read_irregularly number a g) h in joined x (reads_in f) (reads_in g) (reads_clear f vs o.0 w.0) (reads_clear g vs o.1 w.1)

  right_clear : (t : PlainExpr) (op : Option BinOp) (e : PlainExpr) (vs : Vars) → read_irregularly number a (full t op e) ≡ false → IsWalkedData arrays number (full t op e) vs → Regular x (reads_in e)
  right_clear t None e vs h w = reads_clear e vs h w
  right_clear t (Some op) e vs h w = reads_clear e vs (or_false (read_irregularly number a t) (read_irregularly number a e) h).1 w.1

  old_clear : (op : Option BinOp) (y : Word) (at : PlainExprs) (vs : Vars) → ArePlainAt at vs → Regular x (old_cell op y at)
  old_clear None y at vs w = tt
  old_clear (Some op) y at vs w = ((λ same. plain_regular at vs w), tt)

  assigned_clear : (t : PlainExpr) (op : Option BinOp) (e : PlainExpr) (vs : Vars) → read_irregularly number a (full t op e) ≡ false → IsWalkedTarget t vs → IsWalkedData arrays number (full t op e) vs → Regular x (accesses_of t op e)
  assigned_clear (var z) op e vs h target w = right_clear (var z) op e vs h w
  assigned_clear (cell y at) op e vs h target w =
      joined x (reads_in_all at) _ (plain_clear x at vs target)
      (joined x (old_cell op y at) _ (old_clear op y at vs target) (joined x (reads_in e) _ (right_clear (cell y at) op e vs h w) ((λ same. refl), tt)))
  assigned_clear (lit n) op e vs h target w = absurd target
  assigned_clear (un o f) op e vs h target w = absurd target
  assigned_clear (bin o f g) op e vs h target w = absurd target
  assigned_clear (cast f) op e vs h target w = absurd target
  assigned_clear (test rel f g) op e vs h target w = absurd target
  assigned_clear (umin f g) op e vs h target w = absurd target
  assigned_clear (umax f g) op e vs h target w = absurd target
  assigned_clear (least f g) op e vs h target w = absurd target
  assigned_clear (greatest f g) op e vs h target w = absurd target
  assigned_clear (widen f) op e vs h target w = absurd target
  assigned_clear (big high low) op e vs h target w = absurd target

  mutual
    statement_clear : (s : PlainStmt) (vs : Vars) (n v : ℕ) (os : List Outer) → inspects number a s ≡ false → IsWalked arrays number s vs → Clear x (sites s n v os)
    statement_clear (loop y lo rel hi body) vs n v os h w =
        all_clear body ((y, pos 0) ∷ vs) (suc n) (suc v) (outer_loop n v (record { name = y; lo = lo; rel = rel; hi = hi }) ∷ os) h (w.3 (pos 0))
    statement_clear (choice ts first last) vs n v os h w =
        let o = or_false (inspects_all number a first) (inspects_all number a last) h in
        both x (sites_all first (suc n) v (outer_branch n true ts ∷ os)) (sites_all last (suc n + count_all first) (v + loops_all first) (outer_branch n false ts ∷ os))
        (all_clear first vs (suc n) v (outer_branch n true ts ∷ os) o.0 w.1) (all_clear last vs (suc n + count_all first) (v + loops_all first) (outer_branch n false ts ∷ os) o.1 w.2)
    statement_clear (assign t op e) vs n v os h w = all_placed x n 0 os (accesses_of t op e) (assigned_clear t op e vs h w.0 w.1)
    statement_clear (table y len) vs n v os h w = tt
    statement_clear begin vs n v os h w = tt
    statement_clear (check y extent b) vs n v os h w = tt
    statement_clear verdict vs n v os h w = tt

    all_clear : (body : PlainStmts) (vs : Vars) (n v : ℕ) (os : List Outer) → inspects_all number a body ≡ false → AreWalked arrays number body vs → Clear x (sites_all body n v os)
    all_clear no_stmts vs n v os h w = tt
    all_clear (more_stmts s ss) vs n v os h w =
        let o = or_false (inspects number a s) (inspects_all number a ss) h in
        both x (sites s n v os) (sites_all ss (n + count s) (v + loops s) os) (statement_clear s vs n v os o.0 w.0) (all_clear ss vs (n + count s) (v + loops s) os o.1 w.1)

  pub is_inspected : (u : PlainUnit) (vs : Vars) → AreWalked arrays number u.body vs → class_of u x ≡ Inspected → inspects_all number a u.body ≡ true
  is_inspected u vs w is =
      elim (cases_Bool (inspects_all number a u.body)) [
        | inl e ↦ e
        | inr e ↦ absurd (neither (are_differences exactly (ints_in u.params) (sites_of u x))
            (sym (cond-false _ _ _ (filtered x (all_sites u) (all_clear u.body vs 1 (first_variable u) [] e w))) ∙ is))
      ]
    where
      neither : (b : Bool) → (let c : Class = if b then Difference else Counted in c) ≡ Inspected → ⊥
      neither true e = cc
      neither false e = cc
