-- The sites of an accepted source have small terms around them.
use Rattle.std.proofs.Common.{◌≡◌, ℕ, suc, ◌+◌, Bool, true, false, cond, ◌&&◌, List, [], ◌∷◌, ◌++◌, filter, refl, sym, ap, ◌∙◌, subst, Option, Some, None}
use Rattle.std.specs.List.{list_all, AllByRecursion}
use Rattle.std.proofs.lemmas.Bool.{and_parts}
use Rattle.c_tree.specs.Names.{ints_in}
use Rattle.c_tree.specs.Plain.{Word, PlainExpr, lit, var, cell, un, bin, cast, test, umin, umax, least, greatest, widen, big, PlainExprs, no_exprs, more_exprs, PlainTest, PlainStmt, loop, choice, assign, table, begin, check, verdict, PlainStmts, no_stmts, more_stmts, PlainParam, int_param, array_param, PlainUnit}
use Rattle.c_tree.specs.declared.expr.BinOp.{BinOp}
use Rattle.acceptance.specs.Affine.{constant, is_affine, is_affine_un, is_affine_bin, has_name, holds_throughout, is_small, has_small, loops_small, ints_small, has_small_terms}
use Rattle.acceptance.specs.Head.{list_of}
use Rattle.acceptance.specs.Items.{Item, Loop, Scope, scope_of, items, items_all, tables_after}
use Rattle.acceptance.specs.Parts.{has_signed, subscript_holds, subscripts_hold, parts_hold}
use Rattle.acceptance.specs.Printed.{tests_fit}
use Rattle.acceptance.specs.Sources.{refusal}
use Rattle.sites.specs.Classes.{names_around}
use Rattle.sites.specs.Sites.{Frame, in_loop, in_branch, Outer, outer_loop, outer_branch, bare, first_variable, Reach, read_of, reads_in, reads_in_all, old_cell, accesses_of, placed, count, count_all, loops, loops_all, sites, sites_all, all_sites, sites_of, is_of}
use Rattle.sites.proofs.Agrees.{Small, AllSmall, TestsSmall, FramesSmall, SiteSmall}
use Rattle.sites.proofs.Unrefused.{Linear, all_linear}

-- ---- lists

module _ {X : Type 0} (P : X → Type 0) where
  pub all_front : (xs ys : List X) → AllByRecursion P (xs ++ ys) → AllByRecursion P xs
  all_front [] ys h = tt
  all_front (x ∷ xs) ys h = (h.0, all_front xs ys h.1)

  pub all_back : (xs ys : List X) → AllByRecursion P (xs ++ ys) → AllByRecursion P ys
  all_back [] ys h = h
  all_back (x ∷ xs) ys h = all_back xs ys h.1

  pub all_append : (xs ys : List X) → AllByRecursion P xs → AllByRecursion P ys → AllByRecursion P (xs ++ ys)
  all_append [] ys h g = g
  all_append (x ∷ xs) ys h g = (h.0, all_append xs ys h.1 g)

  pub all_filtered : (p : X → Bool) (xs : List X) → AllByRecursion P xs → AllByRecursion P (filter p xs)
  all_filtered p [] h = tt
  all_filtered p (x ∷ xs) h = by (p x) (all_filtered p xs h.1) where
    by : (b : Bool) → AllByRecursion P (filter p xs) → AllByRecursion P (cond b (x ∷ filter p xs) (filter p xs))
    by true g = (h.0, g)
    by false g = g

-- ---- loops around a place

abbrev pub loops_of : List Frame → List Loop
loops_of [] = []
loops_of (in_loop l ∷ fs) = l ∷ loops_of fs
loops_of (in_branch first ts ∷ fs) = loops_of fs

ints_are_small : (e : PlainExpr) (ps : List PlainParam) → ints_small e ps ≡ true → AllByRecursion (λ x. has_small x e ≡ true) (ints_in ps)
ints_are_small e [] h = tt
ints_are_small e (int_param x ∷ ps) h = let g = and_parts (has_small x e) (ints_small e ps) h in (g.0, ints_are_small e ps g.1)
ints_are_small e (array_param x constant extents ∷ ps) h = ints_are_small e ps h

module _ (u : PlainUnit) where
  abbrev ints : List Word
  ints = ints_in u.params

  names_are_small : (e : PlainExpr) (fs : List Frame) → loops_small e (loops_of fs) ≡ true → ints_small e u.params ≡ true → AllByRecursion (λ x. has_small x e ≡ true) (names_around ints fs)
  names_are_small e [] h g = ints_are_small e u.params g
  names_are_small e (in_loop l ∷ fs) h g = let k = and_parts (has_small l.name e) (loops_small e (loops_of fs)) h in (k.0, names_are_small e fs k.1 g)
  names_are_small e (in_branch first ts ∷ fs) h g = names_are_small e fs h g

  module _ (fs : List Frame) (ws : List Word) where
    abbrev sc : Scope
    sc = scope_of u (loops_of fs) ws

    abbrev xs : List Word
    xs = names_around ints fs

    its_small : (e : PlainExpr) → has_small_terms sc e ≡ true → Small xs e
    its_small e h =
        let a = and_parts (holds_throughout (λ d. is_small (constant d)) e) (loops_small e (loops_of fs) && ints_small e u.params) h in
        let b = and_parts (loops_small e (loops_of fs)) (ints_small e u.params) a.1 in
        record { constant_small = a.0; coefficients_small = names_are_small e fs b.0 b.1 }

    list_small : (es : PlainExprs) → list_all (has_small_terms sc) (list_of es) ≡ true → AllSmall xs es
    list_small no_exprs h = tt
    list_small (more_exprs e es) h = let g = and_parts (has_small_terms sc e) (list_all (has_small_terms sc) (list_of es)) h in (its_small e g.0, list_small es g.1)

    cell_names : (x : Word) (at : PlainExprs) (ys : List Word) → AllByRecursion (λ y. has_small y (cell x at) ≡ true) ys
    cell_names x at [] = tt
    cell_names x at (y ∷ ys) = (refl, cell_names x at ys)

    subscript_small : (e : PlainExpr) → subscript_holds (has_small_terms sc) e ≡ true → Small xs e
    subscript_small (cell x at) h = record { constant_small = refl; coefficients_small = cell_names x at xs }
    subscript_small (lit n) h = its_small (lit n) h
    subscript_small (var x) h = its_small (var x) h
    subscript_small (un op a) h = its_small (un op a) h
    subscript_small (bin op a b) h = its_small (bin op a b) h
    subscript_small (cast a) h = its_small (cast a) h
    subscript_small (test rel a b) h = its_small (test rel a b) h
    subscript_small (umin a b) h = its_small (umin a b) h
    subscript_small (umax a b) h = its_small (umax a b) h
    subscript_small (least a b) h = its_small (least a b) h
    subscript_small (greatest a b) h = its_small (greatest a b) h
    subscript_small (widen a) h = its_small (widen a) h
    subscript_small (big high low) h = its_small (big high low) h

    subscripts_small : (es : PlainExprs) → subscripts_hold (has_small_terms sc) es ≡ true → AllSmall xs es
    subscripts_small no_exprs h = tt
    subscripts_small (more_exprs e es) h =
        let g = and_parts (subscript_holds (has_small_terms sc) e) (subscripts_hold (has_small_terms sc) es) h in
        (subscript_small e g.0, subscripts_small es g.1)

    -- an affine expression reads nothing
    silent : (e : PlainExpr) → is_affine sc e ≡ true → reads_in e ≡ []
    silent (lit n) h = refl
    silent (var x) h = refl
    silent (un op a) h = silent a (and_parts (is_affine_un op) (is_affine sc a) h).1
    silent (bin op a b) h =
        let g = and_parts (is_affine sc a) (is_affine sc b) (and_parts (is_affine_bin op (has_name a) (has_name b)) (is_affine sc a && is_affine sc b) h).1 in
        ap (λ (rs : List Reach). rs ++ reads_in b) (silent a g.0) ∙ silent b g.1
    silent _ h = absurd (let f : ⊥ = cc in f)

    all_silent : (es : PlainExprs) → list_all (is_affine sc) (list_of es) ≡ true → reads_in_all es ≡ []
    all_silent no_exprs h = refl
    all_silent (more_exprs e es) h =
        let g = and_parts (is_affine sc e) (list_all (is_affine sc) (list_of es)) h in
        ap (λ (rs : List Reach). rs ++ reads_in_all es) (silent e g.0) ∙ all_silent es g.1

    abbrev IsSmall : Reach → Type 0
    IsSmall r = AllSmall xs r.at

    nothing : (rs : List Reach) → rs ≡ [] → AllByRecursion IsSmall rs
    nothing rs e = subst (λ (ss : List Reach). AllByRecursion IsSmall ss) (sym e) tt

    subscript_reads : (e : PlainExpr) → subscript_holds (is_affine sc) e ≡ true → subscript_holds (has_small_terms sc) e ≡ true → AllByRecursion IsSmall (reads_in e)
    subscript_reads (cell x at) h g = subst (λ (rs : List Reach). AllByRecursion IsSmall (rs ++ read_of x at ∷ [])) (sym (all_silent at h)) (list_small at g, tt)
    subscript_reads (lit n) h g = tt
    subscript_reads (var x) h g = tt
    subscript_reads (un op a) h g = nothing (reads_in (un op a)) (silent (un op a) h)
    subscript_reads (bin op a b) h g = nothing (reads_in (bin op a b)) (silent (bin op a b) h)
    subscript_reads (cast a) h g = absurd (let f : ⊥ = cc in f)
    subscript_reads (test rel a b) h g = absurd (let f : ⊥ = cc in f)
    subscript_reads (umin a b) h g = absurd (let f : ⊥ = cc in f)
    subscript_reads (umax a b) h g = absurd (let f : ⊥ = cc in f)
    subscript_reads (least a b) h g = tt
    subscript_reads (greatest a b) h g = tt
    subscript_reads (widen a) h g = absurd (let f : ⊥ = cc in f)
    subscript_reads (big high low) h g = tt

    subscripts_read : (es : PlainExprs) → subscripts_hold (is_affine sc) es ≡ true → subscripts_hold (has_small_terms sc) es ≡ true → AllByRecursion IsSmall (reads_in_all es)
    subscripts_read no_exprs h g = tt
    subscripts_read (more_exprs e es) h g =
        let a = and_parts (subscript_holds (is_affine sc) e) (subscripts_hold (is_affine sc) es) h in
        let b = and_parts (subscript_holds (has_small_terms sc) e) (subscripts_hold (has_small_terms sc) es) g in
        all_append IsSmall (reads_in e) (reads_in_all es) (subscript_reads e a.0 b.0) (subscripts_read es a.1 b.1)

    abbrev Affine : PlainExpr → Type 0
    Affine e = parts_hold (is_affine sc) sc e ≡ true

    abbrev HasSmall : PlainExpr → Type 0
    HasSmall e = parts_hold (has_small_terms sc) sc e ≡ true

    cast_reads : (a : PlainExpr) (b : Bool) → has_signed sc a ≡ b → cond b (is_affine sc a) (parts_hold (is_affine sc) sc a) ≡ true
        → cond b (has_small_terms sc a) (parts_hold (has_small_terms sc) sc a) ≡ true → (Affine a → HasSmall a → AllByRecursion IsSmall (reads_in a)) → AllByRecursion IsSmall (reads_in a)
    cast_reads a true e h g below = nothing (reads_in a) (silent a h)
    cast_reads a false e h g below = below h g

    two_small : (a b : PlainExpr) → (parts_hold (is_affine sc) sc a && parts_hold (is_affine sc) sc b) ≡ true → (parts_hold (has_small_terms sc) sc a && parts_hold (has_small_terms sc) sc b) ≡ true
        → (Affine a → HasSmall a → AllByRecursion IsSmall (reads_in a)) → (Affine b → HasSmall b → AllByRecursion IsSmall (reads_in b)) → AllByRecursion IsSmall (reads_in a ++ reads_in b)
    two_small a b h g left right =
        let p = and_parts (parts_hold (is_affine sc) sc a) (parts_hold (is_affine sc) sc b) h in
        let q = and_parts (parts_hold (has_small_terms sc) sc a) (parts_hold (has_small_terms sc) sc b) g in
        all_append IsSmall (reads_in a) (reads_in b) (left p.0 q.0) (right p.1 q.1)

    reads_small : (e : PlainExpr) → Affine e → HasSmall e → AllByRecursion IsSmall (reads_in e)
    reads_small (lit n) h g = tt
    reads_small (var x) h g = tt
    reads_small (cell x at) h g = all_append IsSmall (reads_in_all at) (read_of x at ∷ []) (subscripts_read at h g) (subscripts_small at g, tt)
    reads_small (un op a) h g = reads_small a h g
    reads_small (bin op a b) h g = two_small a b h g (reads_small a) (reads_small b)
    reads_small (cast a) h g = cast_reads a (has_signed sc a) refl h g (reads_small a)
    reads_small (test rel a b) h g = two_small a b h g (reads_small a) (reads_small b)
    reads_small (umin a b) h g = two_small a b h g (reads_small a) (reads_small b)
    reads_small (umax a b) h g = two_small a b h g (reads_small a) (reads_small b)
    reads_small (least a b) h g = tt
    reads_small (greatest a b) h g = tt
    reads_small (widen a) h g = reads_small a h g
    reads_small (big high low) h g = tt

    old_small : (op : Option BinOp) (x : Word) (at : PlainExprs) → AllSmall xs at → AllByRecursion IsSmall (old_cell op x at)
    old_small None x at h = tt
    old_small (Some op) x at h = (h, tt)

    accesses_small : (t : PlainExpr) (op : Option BinOp) (e : PlainExpr) → Affine t → HasSmall t → Affine e → HasSmall e → AllByRecursion IsSmall (accesses_of t op e)
    accesses_small (cell x at) op e h g k m =
        let w : Reach = record { name = x; at = at; writes = true } in
        let s = subscripts_small at g in
        all_append IsSmall (reads_in_all at) (old_cell op x at ++ (reads_in e ++ w ∷ [])) (subscripts_read at h g)
        (all_append IsSmall (old_cell op x at) (reads_in e ++ w ∷ []) (old_small op x at s) (all_append IsSmall (reads_in e) (w ∷ []) (reads_small e k m) (s, tt)))
    accesses_small (lit n) op e h g k m = reads_small e k m
    accesses_small (var x) op e h g k m = reads_small e k m
    accesses_small (un o a) op e h g k m = reads_small e k m
    accesses_small (bin o a b) op e h g k m = reads_small e k m
    accesses_small (cast a) op e h g k m = reads_small e k m
    accesses_small (test rel a b) op e h g k m = reads_small e k m
    accesses_small (umin a b) op e h g k m = reads_small e k m
    accesses_small (umax a b) op e h g k m = reads_small e k m
    accesses_small (least a b) op e h g k m = reads_small e k m
    accesses_small (greatest a b) op e h g k m = reads_small e k m
    accesses_small (widen a) op e h g k m = reads_small e k m
    accesses_small (big high low) op e h g k m = reads_small e k m

    tests_small : (ts : List PlainTest) → tests_fit (has_small_terms sc) ts ≡ true → TestsSmall xs ts
    tests_small [] h = tt
    tests_small (t ∷ ts) h =
        let a = and_parts (has_small_terms sc t.1) (has_small_terms sc t.2 && tests_fit (has_small_terms sc) ts) h in
        let b = and_parts (has_small_terms sc t.2) (tests_fit (has_small_terms sc) ts) a.1 in
        (its_small t.1 a.0, (its_small t.2 b.0, tests_small ts b.1))

  -- ---- statements

  abbrev AllLinear : List Item → Type 0
  AllLinear is = AllByRecursion (Linear u) is

  placed_small : (n k : ℕ) (gs : List Outer) (ws : List Word) (rs : List Reach) → FramesSmall ints (bare gs) → AllByRecursion (IsSmall (bare gs) ws) rs → AllByRecursion (SiteSmall ints) (placed n k gs rs)
  placed_small n k gs ws [] f h = tt
  placed_small n k gs ws (r ∷ rs) f h = (record { frames_small = f; subscripts_small = h.0 }, placed_small n (suc k) gs ws rs f h.1)

  mutual
    sites_small : (s : PlainStmt) (n v : ℕ) (gs : List Outer) (ws : List Word) → AllLinear (items s (loops_of (bare gs)) ws) → FramesSmall ints (bare gs) → AllByRecursion (SiteSmall ints) (sites s n v gs)
    sites_small (loop x lo rel hi body) n v gs ws h f =
        let sc = scope_of u (loops_of (bare gs)) ws in
        let l : Loop = record { name = x; lo = lo; rel = rel; hi = hi } in
        let g = and_parts (has_small_terms sc lo) (has_small_terms sc hi) h.0.small in
        all_sites_small body (suc n) (suc v) (outer_loop n v l ∷ gs) ws h.1 (its_small (bare gs) ws lo g.0, (its_small (bare gs) ws hi g.1, f))
    sites_small (choice ts first other) n v gs ws h f =
        let ls = loops_of (bare gs) in
        let g = tests_small (bare gs) ws ts h.0.small in
        all_append (SiteSmall ints) (sites_all first (suc n) v (outer_branch n true ts ∷ gs)) (sites_all other (suc n + count_all first) (v + loops_all first) (outer_branch n false ts ∷ gs))
        (all_sites_small first (suc n) v (outer_branch n true ts ∷ gs) ws (all_front (Linear u) (items_all first ls ws) (items_all other ls ws) h.1) (g, f))
        (all_sites_small other (suc n + count_all first) (v + loops_all first) (outer_branch n false ts ∷ gs) ws (all_back (Linear u) (items_all first ls ws) (items_all other ls ws) h.1) (g, f))
    sites_small (assign target op e) n v gs ws h f =
        let sc = scope_of u (loops_of (bare gs)) ws in
        let a = and_parts (parts_hold (is_affine sc) sc target) (parts_hold (is_affine sc) sc e) h.0.affine in
        let b = and_parts (parts_hold (has_small_terms sc) sc target) (parts_hold (has_small_terms sc) sc e) h.0.small in
        placed_small n 0 gs ws (accesses_of target op e) f (accesses_small (bare gs) ws target op e a.0 b.0 a.1 b.1)
    sites_small (table x len) n v gs ws h f = tt
    sites_small begin n v gs ws h f = tt
    sites_small (check x extent a) n v gs ws h f = tt
    sites_small verdict n v gs ws h f = tt

    all_sites_small : (ss : PlainStmts) (n v : ℕ) (gs : List Outer) (ws : List Word) → AllLinear (items_all ss (loops_of (bare gs)) ws) → FramesSmall ints (bare gs) → AllByRecursion (SiteSmall ints) (sites_all ss n v gs)
    all_sites_small no_stmts n v gs ws h f = tt
    all_sites_small (more_stmts s ss) n v gs ws h f =
        let ls = loops_of (bare gs) in
        all_append (SiteSmall ints) (sites s n v gs) (sites_all ss (n + count s) (v + loops s) gs)
        (sites_small s n v gs ws (all_front (Linear u) (items s ls ws) (items_all ss ls (tables_after s ws)) h) f)
        (all_sites_small ss (n + count s) (v + loops s) gs (tables_after s ws) (all_back (Linear u) (items s ls ws) (items_all ss ls (tables_after s ws)) h) f)

  pub unit_small : refusal u ≡ None → (x : Word) → AllByRecursion (SiteSmall ints) (sites_of u x)
  unit_small e x = all_filtered (SiteSmall ints) (is_of x) (all_sites u) (all_sites_small u.body 1 (first_variable u) [] [] (all_linear u e) tt)
