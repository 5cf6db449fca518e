-- The head of an accepted source: its names are its own, its parameters lie in their ranges, and no extent wraps.
use Rattle.std.proofs.Common.{◌≡◌, inl, inr, pos, negsuc, ◌+◌, ◌*◌, ◌++◌, ◌&&◌, ◌≤ℤ◌, ℕ, suc, ◌<◌, ◌≤◌, ◌^◌, Bool, true, false, cond, ◌||◌, List, [], ◌∷◌, length, ℤ, refl, sym, ap, ◌∙◌, subst, arith, true≢false}
use Rattle.std.specs.Prelude.{bytes_eq, int_lt, int_le, neg_ℤ}
use Rattle.std.proofs.lemmas.Int.{ints}
use Rattle.std.proofs.Math.Nat.{le-mul_of_pos_right, mul_comm}
use Rattle.std.specs.List.{list_all, list_any, AllByRecursion}
use Rattle.std.proofs.lemmas.Bool.{and_parts, or_parts, not-false, cases_Bool}
use Rattle.std.proofs.lemmas.List.Folds.{list_all-append}
use Rattle.std.proofs.lemmas.Slice.Eq.{bytes_eq-Decides}
use Rattle.c_tree.specs.Plain.{Word, PlainExpr, lit, var, cell, un, bin, cast, test, umin, umax, least, greatest, widen, big, PlainExprs, no_exprs, more_exprs, PlainStmts, PlainParam, int_param, array_param, PlainUnit}
use Rattle.c_tree.specs.Names.{is_among}
use Rattle.c_tree.specs.Values.{Vars, is_in, exact}
use Rattle.c_tree.specs.Arrays.{Array, size_of, cell_count, arrays_of, extents_at, vars_of, extents_of}
use Rattle.c_tree.specs.Instances.{literal_of}
use Rattle.c_tree.specs.Inputs.{AreInRange, HaveCells}
use Rattle.c_tree.specs.Reserved.{is_reserved}
use Rattle.instrumentation.specs.Guarded.{arrays_with_extents, array_names, extents_of as declared_extents}
use Rattle.instrumentation_laws.specs.OwnNames.{own, AllMayLoop}
use Rattle.instrumentation_laws.specs.PrologueTotals.{Measures}
use Rattle.instrumentation_laws.specs.RegularUnits.{AreMeasured}
use Rattle.instrumentation_laws.proofs.Names.{apart_by, own_may}
use Rattle.pass_laws.specs.Countable.{AreOwn}
use Rattle.pass_laws.specs.Laws.{HaveRanks}
use Rattle.acceptance.specs.Items.{scope_of, is_int, is_param, param_name, is_scalar, is_declared}
use Rattle.acceptance.specs.Affine.{is_affine, holds_throughout, lies_in, interval, is_narrow}
use Rattle.acceptance.specs.Head.{list_of, extents_in, intervals_of, head_scope, params_twice, words_twice, wides_twice}
use Rattle.acceptance.specs.Limits.{int_count, array_count}
use Rattle.acceptance.specs.Trees.{IsSourceTree, AreParams, AreWords}
use Rattle.interval_laws.specs.Laws.{Within, Suits}
use Rattle.interval_laws.proofs.Intervals.{exact_within, signed_exact}
use Rattle.interval_laws.proofs.Parameters.{value_within}
use Rattle.accepted_laws.proofs.Accepted.{same_count}
use Rattle.accepted_laws.proofs.Clear.{Unrefused}
use Rattle.source_laws.proofs.Expressions.{Stands, affine_own, affine_countable, rank_is, extents_long}
use Rattle.source_laws.proofs.Statements.{reserved_own, wordable, IsExtent}
use Rattle.inspection_laws.specs.Walked.{AreExtents}
use Rattle.inspection_laws.specs.CountedUnits.{HaveExtents, AllOwn}

-- ---- the parameters' values

-- the names of the values are the parameters
params_in : (ps : List PlainParam) (ns : List ℤ) (x : Word) → is_in (vars_of ps ns) x ≡ is_int ps x
params_in [] ns x = refl
params_in (array_param y constant extents ∷ ps) ns x = params_in ps ns x
params_in (int_param y ∷ ps) [] x = ap (λ b. bytes_eq y x || b) (params_in ps [] x)
params_in (int_param y ∷ ps) (n ∷ ns) x = ap (λ b. bytes_eq y x || b) (params_in ps ns x)

params_long : (ps : List PlainParam) (ns : List ℤ) → length (vars_of ps ns) ≡ int_count ps
params_long [] ns = refl
params_long (array_param y constant extents ∷ ps) ns = params_long ps ns
params_long (int_param y ∷ ps) [] = ap suc (params_long ps [])
params_long (int_param y ∷ ps) (n ∷ ns) = ap suc (params_long ps ns)

-- ---- names of the source

module _ (f : Word → Bool) where
  chosen_of : (x y : Word) (b : Bool) → bytes_eq y x ≡ b → f y ≡ true → {c : Bool} → (b || c) ≡ true → (c ≡ true → f x ≡ true) → f x ≡ true
  chosen_of x y true same h e g = subst (λ w. f w ≡ true) ((bytes_eq-Decides y x).0 same) h
  chosen_of x y false same h e g = g e

param_own : (ps : List PlainParam) → list_any (λ p. is_reserved (param_name p)) ps ≡ false → (x : Word) → is_param ps x ≡ true → own x ≡ true
param_own [] h x e = absurd (true≢false (sym e))
param_own (p ∷ ps) h x e =
    chosen_of own x (param_name p) (bytes_eq (param_name p) x) refl (reserved_own (param_name p) (or_parts (is_reserved (param_name p)) (list_any (λ p. is_reserved (param_name p)) ps) h).0) e
    (param_own ps (or_parts (is_reserved (param_name p)) (list_any (λ p. is_reserved (param_name p)) ps) h).1 x)

scalar_own : (ws : List (Word × ℕ)) → list_any (λ w. is_reserved w.0) ws ≡ false → (x : Word) → is_scalar ws x ≡ true → own x ≡ true
scalar_own [] h x e = absurd (true≢false (sym e))
scalar_own (w ∷ ws) h x e =
    chosen_of own x w.0 (bytes_eq w.0 x) refl (reserved_own w.0 (or_parts (is_reserved w.0) (list_any (λ w. is_reserved w.0) ws) h).0) e
    (scalar_own ws (or_parts (is_reserved w.0) (list_any (λ w. is_reserved w.0) ws) h).1 x)

values_own : (ps : List PlainParam) (ns : List ℤ) → list_any (λ p. is_reserved (param_name p)) ps ≡ false → AreOwn (vars_of ps ns)
values_own [] ns h = tt
values_own (array_param y constant extents ∷ ps) ns h = values_own ps ns (or_parts (is_reserved y) (list_any (λ p. is_reserved (param_name p)) ps) h).1
values_own (int_param y ∷ ps) [] h =
    (reserved_own y (or_parts (is_reserved y) (list_any (λ p. is_reserved (param_name p)) ps) h).0, values_own ps [] (or_parts (is_reserved y) (list_any (λ p. is_reserved (param_name p)) ps) h).1)
values_own (int_param y ∷ ps) (n ∷ ns) h =
    (reserved_own y (or_parts (is_reserved y) (list_any (λ p. is_reserved (param_name p)) ps) h).0, values_own ps ns (or_parts (is_reserved y) (list_any (λ p. is_reserved (param_name p)) ps) h).1)

own_may_loop : (vs : Vars) → AreOwn vs → AllMayLoop vs
own_may_loop [] h = tt
own_may_loop (v ∷ vs) h = (own_may v.0 h.0, own_may_loop vs h.1)

-- ---- arrays

none_named : (x : Word) (ps : List PlainParam) → is_param ps x ≡ false → list_any (bytes_eq x) (array_names ps) ≡ false
none_named x [] h = refl
none_named x (int_param y ∷ ps) h = none_named x ps (or_parts (bytes_eq y x) (is_param ps x) h).1
none_named x (array_param y constant extents ∷ ps) h =
    none (bytes_eq x y) (list_any (bytes_eq x) (array_names ps)) (apart_by x y (λ same. true≢false (sym ((bytes_eq-Decides y x).1 (sym same)) ∙ (or_parts (bytes_eq y x) (is_param ps x) h).0)))
    (none_named x ps (or_parts (bytes_eq y x) (is_param ps x) h).1)
  where
    none : (a b : Bool) → a ≡ false → b ≡ false → (a || b) ≡ false
    none true b e g = e
    none false b e g = g

ranks_of : (ps : List PlainParam) → AreParams false ps → HaveRanks (arrays_with_extents ps)
ranks_of [] h = tt
ranks_of (int_param y ∷ ps) h = ranks_of ps h.1
ranks_of (array_param y constant es ∷ ps) h =
    let f = h.2 in
    let r = rank_is es in
    (omega arith, ranks_of ps h.3)

-- a value within such an interval is a small size
record SmallSize (z : ℤ) : Type 0 where
  pub number : ℕ
  pub is : z ≡ pos number
  pub some : 1 ≤ number
  pub below : number < 2 ^ 63

not_below : (i : ℤ) → int_lt i (pos 1) ≡ false → pos 1 ≤ℤ i
not_below i h = omega (arith, ints)

small_size : (i j z : ℤ) → i ≤ℤ z → z ≤ℤ j → int_lt i (pos 1) ≡ false → int_le j (pos (2 ^ 62)) ≡ true → SmallSize z
small_size i j (pos n) low high p q = (let l = not_below i p in record { number = n; is = refl; some = omega (arith, ints); below = omega (arith, ints) })
small_size i j (negsuc n) low high p q = (let l = not_below i p in absurd (omega (arith, ints)))

last_less : (a b : ℕ) → 1 ≤ a → a * b ≤ 4194304 → b ≤ 4194304
last_less a b h l = (let r : b ≤ b * a = le-mul_of_pos_right b (let z : 0 < a = omega arith in z) in omega (arith, mul_comm a b))

throughout_here : (p : PlainExpr → Bool) (e : PlainExpr) → holds_throughout p e ≡ true → p e ≡ true
throughout_here p (lit n) h = h
throughout_here p (var x) h = h
throughout_here p (cell x at) h = h
throughout_here p (un op a) h = (and_parts (p (un op a)) (holds_throughout p a) h).0
throughout_here p (bin op a b) h = (and_parts (p (bin op a b)) (holds_throughout p a && holds_throughout p b) h).0
throughout_here p (cast a) h = h
throughout_here p (test rel a b) h = h
throughout_here p (umin a b) h = h
throughout_here p (umax a b) h = h
throughout_here p (least a b) h = (and_parts (p (least a b)) (holds_throughout p a && holds_throughout p b) h).0
throughout_here p (greatest a b) h = (and_parts (p (greatest a b)) (holds_throughout p a && holds_throughout p b) h).0
throughout_here p (widen a) h = h
throughout_here p (big high low) h = h

module _ (u : PlainUnit) (vs : Vars) (s : Stands u [] vs) (suits : Suits (intervals_of u) (head_scope u) vs) where
  abbrev affine : PlainExpr → Bool
  affine = is_affine (head_scope u)

  abbrev narrow : PlainExpr → Bool
  narrow = holds_throughout (is_narrow (intervals_of u))

  row_measured : (es : PlainExprs) → list_all affine (list_of es) ≡ true → list_all narrow (list_of es) ≡ true → Measures es vs (extents_of vs es)
  row_measured no_exprs h k = tt
  row_measured (more_exprs e es) h k =
      let a = (and_parts (affine e) (list_all affine (list_of es)) h).0 in (
        affine_own u [] vs s e a,
        signed_exact (intervals_of u) (head_scope u) vs suits e a (and_parts (narrow e) (list_all narrow (list_of es)) k).0,
        row_measured es (and_parts (affine e) (list_all affine (list_of es)) h).1 (and_parts (narrow e) (list_all narrow (list_of es)) k).1,
      )

  measured : (ps : List PlainParam) → params_twice ps ≡ false → AreParams false ps → list_all affine (extents_in ps) ≡ true → list_all narrow (extents_in ps) ≡ true → AreMeasured vs ps
  measured [] once trees h k = tt
  measured (int_param x ∷ ps) once trees h k = measured ps (or_parts (is_param ps x) (params_twice ps) once).1 trees.1 h k
  measured (array_param x constant es ∷ ps) once trees h k =
      let f = sym (list_all-append affine (list_of es) (extents_in ps)) ∙ h in
      let g = sym (list_all-append narrow (list_of es) (extents_in ps)) ∙ k in
      let few = trees.2 in
      let long = extents_long vs es in (
        none_named x ps (or_parts (is_param ps x) (params_twice ps) once).0,
        row_measured es (and_parts (list_all affine (list_of es)) (list_all affine (extents_in ps)) f).0 (and_parts (list_all narrow (list_of es)) (list_all narrow (extents_in ps)) g).0,
        omega arith,
        measured ps (or_parts (is_param ps x) (params_twice ps) once).1 trees.3
            (and_parts (list_all affine (list_of es)) (list_all affine (extents_in ps)) f).1 (and_parts (list_all narrow (list_of es)) (list_all narrow (extents_in ps)) g).1,
      )

  -- ---- the values of extents

  its_value : (e : PlainExpr) → affine e ≡ true → narrow e ≡ true → int_lt (interval (intervals_of u) e).0 (pos 1) ≡ false → IsExtent u vs e
  its_value e a n p =
      let w : Within (interval (intervals_of u) e) (exact e vs) = exact_within (intervals_of u) (head_scope u) vs suits e a in
      let low = w.low in
      let high = w.high in
      let top = (and_parts (int_le (neg_ℤ (pos (2 ^ 62))) (interval (intervals_of u) e).1) (int_le (interval (intervals_of u) e).1 (pos (2 ^ 62)))
      (and_parts (lies_in (pos (2 ^ 62)) (interval (intervals_of u) e).0) (lies_in (pos (2 ^ 62)) (interval (intervals_of u) e).1) (throughout_here (is_narrow (intervals_of u)) e n)).1).1 in
      let size : SmallSize (exact e vs) = small_size (interval (intervals_of u) e).0 (interval (intervals_of u) e).1 (exact e vs) low high p top in
      record { affine = a; value = size.number; some = size.some; exactly = size.is; signed_is = signed_exact (intervals_of u) (head_scope u) vs suits e a n ∙ size.is; below = size.below }

  row_values : (es : List PlainExpr) → list_all affine es ≡ true → list_all narrow es ≡ true → list_any (λ e. int_lt (interval (intervals_of u) e).0 (pos 1)) es ≡ false → AllByRecursion (IsExtent u vs) es
  row_values [] h k p = tt
  row_values (e ∷ es) h k p =
      let a = and_parts (affine e) (list_all affine es) h in
      let b = and_parts (narrow e) (list_all narrow es) k in
      let c = or_parts (int_lt (interval (intervals_of u) e).0 (pos 1)) (list_any (λ e. int_lt (interval (intervals_of u) e).0 (pos 1)) es) p in
      (its_value e a.0 b.0 c.0, row_values es a.1 b.1 c.1)

  all_values : AllByRecursion (IsExtent u vs) (extents_in u.params) → (x : Word) → AllByRecursion (IsExtent u vs) (list_of (declared_extents u.params x))
  all_values h x = of_params u.params h
    where
      split : (xs ys : List PlainExpr) → AllByRecursion (IsExtent u vs) (xs ++ ys) → AllByRecursion (IsExtent u vs) xs × AllByRecursion (IsExtent u vs) ys
      split [] ys h = (tt, h)
      split (e ∷ xs) ys h = (let r = split xs ys h.1 in ((h.0, r.0), r.1))

      of_params : (ps : List PlainParam) → AllByRecursion (IsExtent u vs) (extents_in ps) → AllByRecursion (IsExtent u vs) (list_of (declared_extents ps x))
      of_params [] h = tt
      of_params (int_param y ∷ ps) h = of_params ps h
      of_params (array_param y c es ∷ ps) h = (let p = split (list_of es) (extents_in ps) h in elim (cases_Bool (bytes_eq y x)) [
        | inl e ↦ rw e p.0
        | inr e ↦ rw e (of_params ps p.1)
      ])

-- ---- the extents of inspected arrays

few_extents : (ps : List PlainParam) (x : Word) → AreParams false ps → length (list_of (declared_extents ps x)) ≤ 3
few_extents [] x h = omega arith
few_extents (int_param y ∷ ps) x h = few_extents ps x h.1
few_extents (array_param y c es ∷ ps) x h = elim (cases_Bool (bytes_eq y x)) [
  | inl e ↦ rw e h.2
  | inr e ↦ rw e (few_extents ps x h.3)
]

array_names_own : (ps : List PlainParam) → list_any (λ p. is_reserved (param_name p)) ps ≡ false → AllOwn (array_names ps)
array_names_own [] h = tt
array_names_own (int_param y ∷ ps) h = array_names_own ps (or_parts (is_reserved y) (list_any (λ p. is_reserved (param_name p)) ps) h).1
array_names_own (array_param y c es ∷ ps) h =
    let p = or_parts (is_reserved y) (list_any (λ p. is_reserved (param_name p)) ps) h in
    (reserved_own y p.0, array_names_own ps p.1)

-- the products of the last extents are no greater than the whole
module _ (u : PlainUnit) (vs : Vars) (s : Stands u [] vs) where
  abbrev thin : PlainExpr → Bool
  thin = holds_throughout (is_narrow (intervals_of u))

  row_extents : (es : PlainExprs) → AllByRecursion (IsExtent u vs) (list_of es) → list_all thin (list_of es) ≡ true → cell_count (extents_of vs es) ≤ 4194304 → AreExtents es (extents_of vs es) vs
  row_extents no_exprs h n l = tt
  row_extents (more_exprs e es) h n l =
      let x : IsExtent u vs e = h.0 in
      let some = x.some in
      let a = and_parts (thin e) (list_all thin (list_of es)) n in
      let size : size_of (exact e vs) ≡ x.value = ap size_of x.exactly in
      let tail : cell_count (extents_of vs es) ≤ 4194304 = last_less (size_of (exact e vs)) (cell_count (extents_of vs es)) (omega arith) l in (
        (affine_countable u [] vs s e x.affine, wordable (head_scope u) (intervals_of u) e x.affine a.0),
        (x.value, x.exactly, x.signed_is, x.below),
        (let m : size_of (exact e vs) * cell_count (extents_of vs es) ≤ 4194304 = l in omega arith),
        row_extents es h.1 a.1 tail,
      )

  have_extents : (arrays : List Array) (number : Word → ℕ) (body : PlainStmts) (k : ℕ) (ps : List PlainParam) (cells : List (List ℕ)) → HaveCells (arrays_of vs ps) cells → AllByRecursion (IsExtent u vs) (extents_in ps) →
      list_all thin (extents_in ps) ≡ true → ((j : ℕ) → extents_at arrays (k + j) ≡ extents_at (arrays_of vs ps) j) → HaveExtents number body (extents_at arrays) vs k (arrays_with_extents ps)
  have_extents arrays number body k [] cells c h n same = tt
  have_extents arrays number body k (int_param y ∷ ps) cells c h n same = have_extents arrays number body k ps cells c h n same
  have_extents arrays number body k (array_param y constant es ∷ ps) [] c h n same = absurd c
  have_extents arrays number body k (array_param y constant es ∷ ps) (ws ∷ cells) c h n same =
      let p = parts_of (list_of es) (extents_in ps) h in
      let q = and_parts (list_all thin (list_of es)) (list_all thin (extents_in ps)) (sym (list_all-append thin (list_of es) (extents_in ps)) ∙ n) in
      let here : extents_at arrays k ≡ extents_of vs es = ap (extents_at arrays) (let z : k ≡ k + 0 = omega arith in z) ∙ same 0 in (
        (λ inspected. subst (λ zs. AreExtents es zs vs) (sym here) (row_extents es p.0 q.0 c.0.few)),
        have_extents arrays number body (suc k) ps cells c.1 p.1 q.1 (λ j. ap (extents_at arrays) (let z : suc k + j ≡ k + suc j = omega arith in z) ∙ same (suc j)),
      )
    where
      parts_of : (xs ys : List PlainExpr) → AllByRecursion (IsExtent u vs) (xs ++ ys) → AllByRecursion (IsExtent u vs) xs × AllByRecursion (IsExtent u vs) ys
      parts_of [] ys h = (tt, h)
      parts_of (e ∷ xs) ys h = (let r = parts_of xs ys h.1 in ((h.0, r.0), r.1))

-- ---- scalars

literals_small : (ws : List (Word × ℕ)) → AreWords false ws → (x : Word) → literal_of ws x < 2 ^ 64
literals_small [] h x = omega arith
literals_small (w ∷ ws) h x = chosen (bytes_eq w.0 x) h.1 (literals_small ws h.2 x)
  where
    chosen : (b : Bool) → w.1 < 2 ^ 64 → literal_of ws x < 2 ^ 64 → cond b w.1 (literal_of ws x) < 2 ^ 64
    chosen true f g = f
    chosen false f g = g

-- ---- together

pub record HeadIs (u : PlainUnit) (ns : List ℤ) : Type 0 where
  pub stands : Stands u [] (vars_of u.params ns)
  pub own_values : AreOwn (vars_of u.params ns)
  pub may_loop : AllMayLoop (vars_of u.params ns)
  pub few_arrays : length (array_names u.params) < 2 ^ 64
  pub ranks : HaveRanks (arrays_with_extents u.params)
  pub literals : (x : Word) → literal_of u.words x < 2 ^ 64
  pub names : AllOwn (array_names u.params)
  pub short : (x : Word) → length (list_of (declared_extents u.params x)) ≤ 3

pub record Ranged (u : PlainUnit) (ns : List ℤ) : Type 0 where
  pub suits : Suits (intervals_of u) (head_scope u) (vars_of u.params ns)
  pub measured : AreMeasured (vars_of u.params ns) u.params
  pub values : (x : Word) → AllByRecursion (IsExtent u (vars_of u.params ns)) (list_of (declared_extents u.params x))
  pub extents : (arrays : List Array) (number : Word → ℕ) (body : PlainStmts) (cells : List (List ℕ)) → arrays ≡ arrays_of (vars_of u.params ns) u.params → HaveCells arrays cells → HaveExtents number body (extents_at arrays) (vars_of u.params ns) 0 (arrays_with_extents u.params)

module _ (u : PlainUnit) (t : IsSourceTree u) (c : Unrefused u) where
  free : ((list_any (λ p. is_reserved (param_name p)) u.params || list_any (λ w. is_reserved w.0) u.words) ≡ false)
  free = (or_parts (is_reserved u.name) _ c.free.head).1

  free_params : list_any (λ p. is_reserved (param_name p)) u.params ≡ false
  free_params = (or_parts (list_any (λ p. is_reserved (param_name p)) u.params) (list_any (λ w. is_reserved w.0) u.words) free).0

  declared_own : (x : Word) → is_declared (scope_of u [] []) x ≡ true → own x ≡ true
  declared_own x h = chosen (is_param u.params x) (is_scalar u.words x) (is_among u.wides x) (ap (λ ws. is_among ws x) t.no_wides)
      (param_own u.params free_params x) (scalar_own u.words (or_parts (list_any (λ p. is_reserved (param_name p)) u.params) (list_any (λ w. is_reserved w.0) u.words) free).1 x) h
    where
      chosen : (a b d : Bool) → d ≡ false → (a ≡ true → own x ≡ true) → (b ≡ true → own x ≡ true) → (a || (b || (d || false))) ≡ true → own x ≡ true
      chosen true b d e f g h = f refl
      chosen false true d e f g h = g refl
      chosen false false true e f g h = absurd (true≢false e)
      chosen false false false e f g h = absurd (true≢false (sym h))

  pub head_is : (ns : List ℤ) → HeadIs u ns
  head_is ns =
      let vs = vars_of u.params ns in
      let values = values_own u.params ns free_params in
      let long = params_long u.params ns in
      let ints : int_count u.params ≤ 8 = c.few_ints in
      let arrays : array_count u.params ≤ 16 = c.few_arrays in
      let names = same_count u.params in
      record {
        stands = record { names = params_in u.params ns; owned = declared_own; few = omega arith };
        own_values = values;
        may_loop = own_may_loop vs values;
        few_arrays = omega arith;
        ranks = ranks_of u.params t.head.params;
        literals = literals_small u.words t.head.words;
        names = array_names_own u.params free_params;
        short = λ x. few_extents u.params x t.head.params;
      }

  pub ranged : (ns : List ℤ) → AreInRange u.ranges u.params ns → Ranged u ns
  ranged ns h =
      let suits : Suits (intervals_of u) (head_scope u) (vars_of u.params ns) = record { within = value_within u.ranges u.params ns h } in
      let others = (or_parts (is_among u.wides u.name) _ (or_parts (is_scalar u.words u.name) _ (or_parts (is_param u.params u.name) _ c.once.head).1).1).1 in
      let once = (or_parts (params_twice u.params) (words_twice u.params u.words || wides_twice u.params u.words u.wides) others).0 in
      let vs : Vars = vars_of u.params ns in
      let stands = (head_is ns).stands in
      let affine = not-false (list_all (is_affine (head_scope u)) (extents_in u.params)) c.affine.head in
      let narrow = not-false (list_all (holds_throughout (is_narrow (intervals_of u))) (extents_in u.params)) c.narrow.head in
      let row = row_values u vs stands suits (extents_in u.params) affine narrow c.positive in
      record {
        suits = suits;
        measured = measured u vs stands suits u.params once t.head.params affine narrow;
        values = all_values u vs stands suits row;
        extents = λ arrays number body cells same have.
            have_extents u vs stands arrays number body 0 u.params cells (subst (λ l. HaveCells l cells) same have) row narrow
            (λ j. ap (extents_at arrays) (let z : 0 + j ≡ j = omega arith in z) ∙ ap (λ l. extents_at l j) same);
      }
