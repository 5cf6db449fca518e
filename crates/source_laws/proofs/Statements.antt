-- The statements of an accepted source have the forms that the laws ask, whatever values their loops have.
use Rattle.std.proofs.Common.{◌≡◌, inl, inr, ℕ, suc, ◌+◌, ◌<◌, ◌≤◌, ◌^◌, Bool, true, false, not, ◌&&◌, ◌||◌, List, [], ◌∷◌, length, ℤ, pos, Option, Some, None, refl, sym, ap, ◌∙◌, subst, arith, true≢false, eqb-true, eq-eqb}
use Rattle.std.proofs.lemmas.Bool.{and_parts, and_from, or_parts, or_left, or_right, cases_Bool}
use Rattle.std.proofs.lemmas.Int.{ints}
use Rattle.std.proofs.lemmas.Slice.Eq.{bytes_eq-Decides}
use Rattle.std.proofs.Math.Nat.{mod-eq_of_lt}
use Rattle.std.specs.Prelude.{bytes_eq, nat_eq, neg_ℤ, int_le}
use Rattle.std.specs.List.{AllByRecursion, list_all}
use Rattle.c_tree.specs.Plain.{Word, PlainExpr, lit, var, cell, un, bin, cast, test, umin, umax, least, greatest, widen, big, PlainExprs, no_exprs, more_exprs, PlainTest, PlainStmt, loop, choice, assign, table, begin, check, verdict, PlainStmts, no_stmts, more_stmts, PlainParam, int_param, array_param, PlainUnit}
use Rattle.c_tree.specs.Values.{Vars, value_in, signed, exact, as_word, kind}
use Rattle.c_tree.specs.Arrays.{Array, size_of, array_from, arrays_of, extents_of}
use Rattle.c_tree.specs.Reserved.{is_reserved}
use Rattle.c_tree.specs.declared.expr.UnOp.{UnOp}
use Rattle.c_tree.specs.declared.expr.UnOp.TheVariants.{Neg, Inv}
use Rattle.c_tree.specs.declared.expr.BinOp.{BinOp}
use Rattle.c_tree.specs.declared.expr.BinOp.TheVariants.{Add, Sub, Mul}
use Rattle.instrumentation.specs.Subscripts.{indices_in, is_cell as is_index_cell}
use Rattle.instrumentation.specs.Inspects.{read_irregularly, inspects, inspects_all}
use Rattle.instrumentation.specs.Body.{reads_in, full}
use Rattle.instrumentation.specs.Guarded.{array_names, extents_of as declared_extents}
use Rattle.instrumentation.proofs.Subscripts.{cell_or_not, not_by_cell}
use Rattle.instrumentation_laws.specs.OwnNames.{own}
use Rattle.instrumentation_laws.specs.RegularSources as regular
use Rattle.instrumentation_laws.specs.Sources as general
use Rattle.pass_laws.specs.Countable as countable
use Rattle.inspection_laws.specs.Walked.{names_any, IsConstant, IsWordable, IsKnown, ArePlainAt, IsWalkedAt, AreWalkedAt, IsWalkedData, IsWalked, AreWalked}
use Rattle.acceptance.specs.Items.{Loop, Item, items, items_all, tables_after, Scope, scope_of, is_loop, is_int, is_param, is_declared, is_known, is_signed_name}
use Rattle.acceptance.specs.Affine.{has_name, is_affine_un, is_affine_bin, is_affine, holds_throughout, lies_in, Intervals, is_narrow}
use Rattle.acceptance.specs.Head.{list_of, uses_known, intervals_of, head_scope}
use Rattle.acceptance.specs.Printed.{dimensions, fits_dimensions, all_fit_dimensions, tests_fit, literals_fit}
use Rattle.acceptance.specs.Parts.{subscript_holds, subscripts_hold, parts_hold, is_cell, are_regular, intervals_in}
use Rattle.acceptance.specs.Limits.{cells_in, reads_to}
use Rattle.acceptance.specs.Trees.{IsTree, AreTrees, AreSubscripts, IsInner, AreInner}
use Rattle.accepted_laws.proofs.Accepted.{few_full}
use Rattle.accepted_laws.proofs.Clear.{Clear, all_front, all_back, tables_same}
use Rattle.source_laws.proofs.Expressions.{Stands, stands_inside, its_arrays, its_number, IsCell, cell_is, rank_is, extents_long, affine_countable, affine_silent, affine_no_word, signed_own, signed_named, all_countable, all_regular, IsAsked, no_word_join, asked_bin, asked_test, asked_umin, asked_umax, CastIs, of_affine, of_data, cast_is}

pub reserved_own : (x : Word) → is_reserved x ≡ false → own x ≡ true
reserved_own x h = ap not (left _ _ h)
  where
    left : (a b : Bool) → (a || b) ≡ false → a ≡ false
    left true b e = e
    left false b e = refl

-- an assignment makes few reads
pub few_words : (t : PlainExpr) (op : Option BinOp) (e : PlainExpr) → reads_to t op + cells_in e ≤ 16 → reads_in (full t op e) < 2 ^ 64
few_words t op e h = let f = few_full t op e in omega arith

-- ---- names

pub not_int : (ps : List PlainParam) (x : Word) → is_param ps x ≡ false → is_int ps x ≡ false
not_int [] x h = refl
not_int (int_param y ∷ ps) x h = none (bytes_eq y x) (is_int ps x) (or_parts (bytes_eq y x) (is_param ps x) h).0 (not_int ps x (or_parts (bytes_eq y x) (is_param ps x) h).1)
  where
    none : (a b : Bool) → a ≡ false → b ≡ false → (a || b) ≡ false
    none true b e g = e
    none false b e g = g
not_int (array_param y constant es ∷ ps) x h = not_int ps x (or_parts (bytes_eq y x) (is_param ps x) h).1

pub not_signed : (u : PlainUnit) (ls : List Loop) (x : Word) → is_known (scope_of u ls []) x ≡ false → is_signed_name (scope_of u ls []) x ≡ false
not_signed u ls x h = none (is_loop ls x) (is_int u.params x) (or_parts (is_loop ls x) (is_declared (scope_of u ls []) x) h).0
    (not_int u.params x (left (is_param u.params x) _ (or_parts (is_loop ls x) (is_declared (scope_of u ls []) x) h).1))
  where
    none : (a b : Bool) → a ≡ false → b ≡ false → (a || b) ≡ false
    none true b e g = e
    none false b e g = g

    left : (a b : Bool) → (a || b) ≡ false → a ≡ false
    left true b e = e
    left false b e = refl

-- ---- constants and names

un_wordable : (op : UnOp) (a : PlainExpr) → is_affine_un op ≡ true → IsWordable a → IsWordable (un op a)
un_wordable op a h (inl n) = inl n
un_wordable Neg a h (inr c) = inr c
un_wordable Inv a h (inr c) = absurd (true≢false (sym h))

bin_constant : (op : BinOp) (n m : Bool) (a b : PlainExpr) → is_affine_bin op n m ≡ true → IsConstant a → IsConstant b → IsConstant (bin op a b)
bin_constant Add n m a b h c d = (c, d)
bin_constant Sub n m a b h c d = (c, d)
bin_constant Mul n m a b h c d = (c, d)
bin_constant _ n m a b h c d = absurd (true≢false (sym h))

bin_wordable : (op : BinOp) (n m : Bool) (a b : PlainExpr) → is_affine_bin op n m ≡ true → IsWordable a → IsWordable b → IsWordable (bin op a b)
bin_wordable op n m a b h (inl x) y = inl (or_left _ (names_any b) x)
bin_wordable op n m a b h (inr c) (inl y) = inl (or_right (names_any a) _ y)
bin_wordable op n m a b h (inr c) (inr d) = inr (bin_constant op n m a b h c d)

-- an affine expression has a name, or its literals are small
pub wordable : (sc : Scope) (rs : Intervals) (e : PlainExpr) → is_affine sc e ≡ true → holds_throughout (is_narrow rs) e ≡ true → IsWordable e
wordable sc rs (lit n) h k =
    let low = (and_parts (lies_in (pos (2 ^ 62)) (pos n)) (lies_in (pos (2 ^ 62)) (pos n)) k).0 in
    let high = (and_parts (int_le (neg_ℤ (pos (2 ^ 62))) (pos n)) (int_le (pos n) (pos (2 ^ 62))) low).1 in
    inr (small n high)
  where
    small : (n : ℕ) → int_le (pos n) (pos (2 ^ 62)) ≡ true → n < 2 ^ 63
    small n high = omega (arith, ints)
wordable sc rs (var x) h k = inl refl
wordable sc rs (un op a) h k =
    let p = and_parts (is_affine_un op) (is_affine sc a) h in
    un_wordable op a p.0 (wordable sc rs a p.1 (and_parts (is_narrow rs (un op a)) (holds_throughout (is_narrow rs) a) k).1)
wordable sc rs (bin op a b) h k =
    let p = and_parts (is_affine_bin op (has_name a) (has_name b)) (is_affine sc a && is_affine sc b) h in
    let q = and_parts (is_affine sc a) (is_affine sc b) p.1 in
    let n = and_parts (holds_throughout (is_narrow rs) a) (holds_throughout (is_narrow rs) b) (and_parts (is_narrow rs (bin op a b)) (holds_throughout (is_narrow rs) a && holds_throughout (is_narrow rs) b) k).1 in
    bin_wordable op (has_name a) (has_name b) a b p.0 (wordable sc rs a q.0 n.0) (wordable sc rs b q.1 n.1)
wordable sc rs _ h k = absurd (true≢false (sym h))

-- ---- the extents of an array by its name

cond_extents : (params : Vars) (ps : List PlainParam) (k : ℕ) (x : Word) (a : ℕ × Array) → array_from k (arrays_of params ps) x ≡ Some a → a.1.extents ≡ extents_of params (declared_extents ps x)
cond_extents params [] k x a e = absurd (let f : None ≡ Some a = e in cc)
cond_extents params (int_param y ∷ ps) k x a e = cond_extents params ps k x a e
cond_extents params (array_param y c es ∷ ps) k x a e = elim (cases_Bool (bytes_eq y x)) [
  | inl s ↦ (let f : Some (k, array_here y c es) ≡ Some a = rw s at e in let g : (let p : ℕ × Array = (k, array_here y c es) in p) ≡ a = cc in rw s (ap (λ (p : ℕ × Array). p.1.extents) (sym g)))
  | inr s ↦ rw s (cond_extents params ps (suc k) x a (rw s at e))
]
  where
    array_here : Word → Bool → PlainExprs → Array
    array_here y c es = record { name = y; constant = c; extents = extents_of params es }

-- an extent, whose value is small and not negative
pub record IsExtent (u : PlainUnit) (params : Vars) (n : PlainExpr) : Type 0 where
  pub affine : is_affine (head_scope u) n ≡ true
  pub value : ℕ
  pub some : 1 ≤ value
  pub exactly : exact n params ≡ pos value
  pub signed_is : signed n params ≡ pos value
  pub below : value < 2 ^ 63

-- around a place the parameters have their values
pub record IsOver (u : PlainUnit) (params : Vars) (ls : List Loop) (vs : Vars) : Type 0 where
  pub stands : Stands u ls vs
  pub values : (x : Word) → is_int u.params x ≡ true → value_in vs x ≡ value_in params x

over_inside : (u : PlainUnit) (params : Vars) (ls : List Loop) (vs : Vars) (l : Loop) (v : ℤ) → own l.name ≡ true → is_int u.params l.name ≡ false → IsOver u params ls vs → IsOver u params (l ∷ ls) ((l.name, v) ∷ vs)
over_inside u params ls vs l v o n s = record {
  stands = stands_inside u ls vs l v o s.stands;
  values = λ x h. elim (cases_Bool (bytes_eq l.name x)) [
    | inl e ↦ absurd (true≢false (sym h ∙ ap (is_int u.params) (sym ((bytes_eq-Decides l.name x).0 e)) ∙ n))
    | inr e ↦ rw e (s.values x h)
  ];
}

-- ---- one expression

module _ (u : PlainUnit) (params : Vars) (few_arrays : length (array_names u.params) < 2 ^ 64) (extent_is : (x : Word) → AllByRecursion (IsExtent u params) (list_of (declared_extents u.params x)))
    (short : (x : Word) → length (list_of (declared_extents u.params x)) ≤ 3) where
  abbrev arrays : List Array
  arrays = its_arrays u params few_arrays

  abbrev number : Word → ℕ
  number = its_number u params few_arrays

  abbrev texts : Word → PlainExprs
  texts = declared_extents u.params

  abbrev inspected : ℕ → Bool
  inspected a = inspects_all number a u.body

  its_extents : (x : Word) (a : regular.IsArray arrays number x) → a.array.1.extents ≡ extents_of params (texts x)
  its_extents x a = cond_extents params u.params 0 x a.array a.named

  module _ (ls : List Loop) (vs : Vars) (s : IsOver u params ls vs) (rs : Intervals) where
    abbrev sc : Scope
    sc = scope_of u ls []

    abbrev affine : PlainExpr → Bool
    affine = is_affine sc

    abbrev narrow : PlainExpr → Bool
    narrow = holds_throughout (is_narrow rs)

    -- ---- extents

    signed_over : (e : PlainExpr) → is_affine (head_scope u) e ≡ true → signed e vs ≡ signed e params
    signed_over (lit n) h = refl
    signed_over (var x) h = s.values x h
    signed_over (un op a) h = rw (signed_over a (and_parts (is_affine_un op) (is_affine (head_scope u) a) h).1) refl
    signed_over (bin op a b) h =
        let both = (and_parts (is_affine_bin op (has_name a) (has_name b)) (is_affine (head_scope u) a && is_affine (head_scope u) b) h).1 in
        let p = and_parts (is_affine (head_scope u) a) (is_affine (head_scope u) b) both in
        rw (signed_over a p.0) (rw (signed_over b p.1) refl)
    signed_over _ h = absurd (true≢false (sym h))

    extent_word : (n : PlainExpr) → IsExtent u params n → as_word (signed n vs) ≡ size_of (exact n params)
    extent_word n h = ap as_word (signed_over n h.affine ∙ h.signed_is) ∙ mod-eq_of_lt (let l : h.value < 2 ^ 63 = h.below in omega arith) ∙ sym (ap size_of h.exactly)

    -- ---- subscripts

    plain_at : (at : PlainExprs) → list_all affine (list_of at) ≡ true → list_all narrow (list_of at) ≡ true → ArePlainAt at vs
    plain_at no_exprs h k = tt
    plain_at (more_exprs e es) h k =
        let p = and_parts (affine e) (list_all affine (list_of es)) h in
        let q = and_parts (narrow e) (list_all narrow (list_of es)) k in
        ((affine_countable u ls vs s.stands e p.0, wordable sc rs e p.0 q.0), plain_at es p.1 q.1)

    rank_small : (x : Word) (at : PlainExprs) (c : IsCell u params few_arrays x at) → countable.rank at < 2 ^ 63
    rank_small x at c =
        let l = c.long in
        let e : length c.array.array.1.extents ≡ length (list_of (texts x)) = ap length (its_extents x c.array) ∙ extents_long params (texts x) in
        let f = short x in
        omega arith

    abbrev known_of : (x : Word) → regular.IsArray arrays number x → IsKnown arrays number x
    known_of x a = record { array = a.array; named = a.named; numbered = a.numbered }

    -- what each law asks of a subscript, beside an extent
    abbrev OneSub : Type 0 → PlainExpr → PlainExpr → Type 0
    OneSub I e n = general.IsSubscript arrays number I e n (exact n params) vs × countable.IsIndexed arrays number e vs × IsWalkedAt arrays number e vs

    affine_sub : (I : Type 0) (e n : PlainExpr) → affine e ≡ true → narrow e ≡ true → OneSub I e n
    affine_sub I (lit k) n h w = (affine_no_word u ls vs s.stands (lit k) h, affine_countable u ls vs s.stands (lit k) h, (affine_countable u ls vs s.stands (lit k) h, wordable sc rs (lit k) h w))
    affine_sub I (var x) n h w = (affine_no_word u ls vs s.stands (var x) h, affine_countable u ls vs s.stands (var x) h, (affine_countable u ls vs s.stands (var x) h, wordable sc rs (var x) h w))
    affine_sub I (un op a) n h w = (affine_no_word u ls vs s.stands (un op a) h, affine_countable u ls vs s.stands (un op a) h, (affine_countable u ls vs s.stands (un op a) h, wordable sc rs (un op a) h w))
    affine_sub I (bin op a b) n h w = (affine_no_word u ls vs s.stands (bin op a b) h, affine_countable u ls vs s.stands (bin op a b) h, (affine_countable u ls vs s.stands (bin op a b) h, wordable sc rs (bin op a b) h w))
    affine_sub I _ n h w = absurd (true≢false (sym h))

    index_is : (p : Word) (at : PlainExprs) → AreSubscripts false at → fits_dimensions (dimensions sc) (cell p at) ≡ true → IsCell u params few_arrays p at
    index_is p at t f = cell_is u params few_arrays ls p at (and_parts (nat_eq (dimensions sc p) (length (list_of at))) (all_fit_dimensions (dimensions sc) at) f).0 t

    one_sub : (I : Type 0) (e n : PlainExpr) → IsExtent u params n → IsTree false e → subscript_holds affine e ≡ true → subscript_holds narrow e ≡ true → fits_dimensions (dimensions sc) e ≡ true → I → OneSub I e n
    one_sub I (cell p at) n x t h w f i =
        let c = index_is p at t.1 f in (
          (c.array, all_regular u ls vs s.stands at h, extent_word n x, i),
          record { array = c.array.array; named = c.array.named; numbered = c.array.numbered; affine = all_countable u ls vs s.stands at h; ranked = c.ranked },
          (known_of p c.array, plain_at at h w, rank_small p at c, c.long),
        )
    one_sub I (lit k) n x t h w f i = affine_sub I (lit k) n h w
    one_sub I (var y) n x t h w f i = affine_sub I (var y) n h w
    one_sub I (un op a) n x t h w f i = affine_sub I (un op a) n h w
    one_sub I (bin op a b) n x t h w f i = affine_sub I (bin op a b) n h w
    one_sub I _ n x t h w f i = absurd (true≢false (sym h))

    -- one that is no cell needs nothing of the array
    plain_sub : (I : Type 0) (e n : PlainExpr) → is_index_cell e ≡ false → subscript_holds affine e ≡ true → subscript_holds narrow e ≡ true → OneSub I e n
    plain_sub I (cell p at) n c h w = absurd (true≢false c)
    plain_sub I (lit k) n c h w = affine_sub I (lit k) n h w
    plain_sub I (var y) n c h w = affine_sub I (var y) n h w
    plain_sub I (un op a) n c h w = affine_sub I (un op a) n h w
    plain_sub I (bin op a b) n c h w = affine_sub I (bin op a b) n h w
    plain_sub I _ n c h w = absurd (true≢false (sym h))

    abbrev AllSubs : Type 0 → PlainExprs → PlainExprs → Type 0
    AllSubs I at ns = general.AreSubscripts arrays number I at ns (extents_of params ns) vs × countable.AreIndexed arrays number at vs × AreWalkedAt arrays number at vs

    all_subs : (I : Type 0) (at ns : PlainExprs) → length (list_of at) ≡ length (list_of ns) → AllByRecursion (IsExtent u params) (list_of ns) → AreTrees false at → subscripts_hold affine at ≡ true → subscripts_hold narrow at ≡ true →
        all_fit_dimensions (dimensions sc) at ≡ true → (0 < indices_in at → I) → AllSubs I at ns
    all_subs I no_exprs ns l x t h w f i = (tt, tt, tt)
    all_subs I (more_exprs e es) no_exprs l x t h w f i = absurd (omega arith)
    all_subs I (more_exprs e es) (more_exprs n ns) l x t h w f i =
        let p = and_parts (subscript_holds affine e) (subscripts_hold affine es) h in
        let q = and_parts (subscript_holds narrow e) (subscripts_hold narrow es) w in
        let d = and_parts (fits_dimensions (dimensions sc) e) (all_fit_dimensions (dimensions sc) es) f in
        let later : 0 < indices_in es → I =
        cell_or_not (λ e. (0 < indices_in (more_exprs e es) → I) → 0 < indices_in es → I) (λ y at g k. g (omega arith))
        (λ e other g k. g (subst (λ m. 0 < m) (sym (not_by_cell e (λ y at. 1 + indices_in es) (indices_in es) other)) k)) e i in
        let here : OneSub I e n =
        cell_or_not (λ e. IsTree false e → subscript_holds affine e ≡ true → subscript_holds narrow e ≡ true → fits_dimensions (dimensions sc) e ≡ true → (0 < indices_in (more_exprs e es) → I) → OneSub I e n)
        (λ y at t h w f g. one_sub I (cell y at) n x.0 t h w f (g (omega arith)))
        (λ e other t h w f g. plain_sub I e n other h w) e t.0 p.0 q.0 d.0 i in
        let rest : AllSubs I es ns = all_subs I es ns (omega arith) x.1 t.1 p.1 q.1 d.1 later in
        ((here.0, rest.0), (here.1, rest.1), (here.2, rest.2))

    -- ---- data

    abbrev Three : PlainExpr → Type 0
    Three e = general.IsData arrays number texts inspected e vs × countable.IsData arrays number e vs × IsWalkedData arrays number e vs

    -- its reads through index arrays are among the body's
    abbrev Seen : PlainExpr → Type 0
    Seen e = (a : ℕ) → read_irregularly number a e ≡ true → inspects_all number a u.body ≡ true

    cell_trees : (at : PlainExprs) → AreSubscripts false at → AreTrees false at
    cell_trees no_exprs h = tt
    cell_trees (more_exprs e es) h = h

    cell_three : (x : Word) (at : PlainExprs) → IsAsked sc rs (cell x at) → Seen (cell x at) → Three (cell x at)
    cell_three x at h seen =
        let c = index_is x at h.tree.1 h.fits in
        let same : c.array.array.1.extents ≡ extents_of params (texts x) = its_extents x c.array in
        let long = c.long in
        let rank : countable.rank at ≡ length (list_of at) = rank_is at in
        let lengths : length c.array.array.1.extents ≡ length (list_of (texts x)) = ap length same ∙ extents_long params (texts x) in
        let i : 0 < indices_in at → inspected c.array.array.0 ≡ true = λ k. ap inspected (sym c.array.numbered) ∙ seen (number x) (and_from _ _ (eq-eqb (number x) (number x) refl) (ap not (positive (indices_in at) k))) in
        let d = (and_parts (nat_eq (dimensions sc x) (length (list_of at))) (all_fit_dimensions (dimensions sc) at) h.fits).1 in
        let subs : AllSubs (inspected c.array.array.0 ≡ true) at (texts x) = all_subs (inspected c.array.array.0 ≡ true) at (texts x) (omega arith) (extent_is x) (cell_trees at h.tree.1) h.affine h.narrow d i in (
          record { array = c.array; at_each = subst (λ zs. general.AreSubscripts arrays number (inspected c.array.array.0 ≡ true) at (texts x) zs vs) (sym same) subs.0 },
          record { array = c.array.array; named = c.array.named; numbered = c.array.numbered; indexed = subs.1; ranked = c.ranked },
          (subs.2, rank_small x at c, (known_of x c.array, c.long)),
        )
      where
        positive : (n : ℕ) → 0 < n → nat_eq n 0 ≡ false
        positive n k = elim (cases_Bool (nat_eq n 0)) [
          | inl e ↦ absurd (let z : n ≡ 0 = eqb-true n 0 e in omega arith)
          | inr e ↦ e
        ]

    affine_three : (e : PlainExpr) → affine e ≡ true → Three e
    affine_three (lit n) h = (tt, tt, tt)
    affine_three (var x) h = (signed_own u ls vs s.stands x h, tt, tt)
    affine_three (un op a) h = affine_three a (and_parts _ (affine a) h).1
    affine_three (bin op a b) h =
        let both = (and_parts _ (affine a && affine b) h).1 in
        let f = affine_three a (and_parts (affine a) (affine b) both).0 in
        let g = affine_three b (and_parts (affine a) (affine b) both).1 in ((f.0, g.0), (f.1, g.1), (f.2, g.2))
    affine_three _ h = absurd (true≢false (sym h))

    two_three : {A B C D E F : Type 0} → A × B × C → D × E × F → (A × D) × (B × E) × (C × F)
    two_three f g = ((f.0, g.0), (f.1, g.1), (f.2, g.2))

    pub data_three : (e : PlainExpr) → IsAsked sc rs e → Seen e → Three e
    data_three (lit n) h k = (tt, tt, tt)
    data_three (var x) h k = (s.stands.owned x h.known, tt, tt)
    data_three (cell x at) h k = cell_three x at h k
    data_three (un op a) h k = data_three a (record { known = h.known; affine = h.affine; narrow = h.narrow; data_alone = h.data_alone; fits = h.fits; literals = h.literals; tree = h.tree }) k
    data_three (bin op a b) h k =
        let p = asked_bin sc rs op a b h in
        two_three (data_three a p.0 (λ c g. k c (or_left _ (read_irregularly number c b) g))) (data_three b p.1 (λ c g. k c (or_right (read_irregularly number c a) _ g)))
    data_three (cast a) h k = chosen (cast_is u ls vs s.stands rs a h) (λ g. data_three a g k)
      where
        chosen : CastIs sc rs a → (IsAsked sc rs a → Three a) → Three (cast a)
        chosen (of_affine e g) f = let b = affine_three a g in ((b.0, λ k. affine_silent u ls vs s.stands a g), b.1, b.2)
        chosen (of_data e g) f = let b = f g in ((b.0, λ k. absurd (true≢false (sym (signed_named u ls vs s.stands a h.tree k) ∙ e))), b.1, b.2)
    data_three (test rel a b) h k =
        let p = asked_test sc rs rel a b h in
        two_three (data_three a p.0 (λ c g. k c (or_left _ (read_irregularly number c b) g))) (data_three b p.1 (λ c g. k c (or_right (read_irregularly number c a) _ g)))
    data_three (umin a b) h k =
        let p = asked_umin sc rs a b h in
        two_three (data_three a p.0 (λ c g. k c (or_left _ (read_irregularly number c b) g))) (data_three b p.1 (λ c g. k c (or_right (read_irregularly number c a) _ g)))
    data_three (umax a b) h k =
        let p = asked_umax sc rs a b h in
        two_three (data_three a p.0 (λ c g. k c (or_left _ (read_irregularly number c b) g))) (data_three b p.1 (λ c g. k c (or_right (read_irregularly number c a) _ g)))
    data_three (least a b) h k = absurd (true≢false (sym h.tree.0))
    data_three (greatest a b) h k = absurd (true≢false (sym h.tree.0))
    data_three (widen a) h k = absurd (true≢false (sym h.tree.0))
    data_three (big high low) h k = absurd (true≢false (sym h.tree.0))

    -- ---- tests

    signed_tests : (ts : List PlainTest) → tests_fit affine ts ≡ true → regular.AreSigned ts vs
    signed_tests [] h = tt
    signed_tests (t ∷ ts) h =
        let p = and_parts (affine t.1) (affine t.2 && tests_fit affine ts) h in
        let q = and_parts (affine t.2) (tests_fit affine ts) p.1 in
        (no_word_join (kind vs t.1) (kind vs t.2) (affine_no_word u ls vs s.stands t.1 p.0) (affine_no_word u ls vs s.stands t.2 q.0), signed_tests ts q.1)

    countable_tests : (ts : List PlainTest) → tests_fit affine ts ≡ true → countable.AreAffineTests ts vs
    countable_tests [] h = tt
    countable_tests (t ∷ ts) h =
        let p = and_parts (affine t.1) (affine t.2 && tests_fit affine ts) h in
        let q = and_parts (affine t.2) (tests_fit affine ts) p.1 in
        ((affine_countable u ls vs s.stands t.1 p.0, affine_countable u ls vs s.stands t.2 q.0), countable_tests ts q.1)

-- ---- what is asked at an assignment

-- the intervals around a place
abbrev Around : PlainUnit → List Loop → Intervals
Around u ls = intervals_in (intervals_of u) ls

module _ (u : PlainUnit) (ls : List Loop) where
  abbrev asked_scope : Scope
  asked_scope = scope_of u ls []

  abbrev item : PlainStmt → Item
  item p = record { stmt = p; loops = ls; tables = [] }

  abbrev narrow_in : PlainExpr → Bool
  narrow_in = parts_hold (holds_throughout (is_narrow (Around u ls))) asked_scope

  pub value_asked : (t : PlainExpr) (op : Option BinOp) (e : PlainExpr) → Clear u (item (assign t op e)) → IsInner false 0 (assign t op e) → IsAsked asked_scope (Around u ls) e
  value_asked t op e c h = record {
    known = (and_parts (uses_known asked_scope t) (uses_known asked_scope e) c.known).1;
    affine = (and_parts (parts_hold (is_affine asked_scope) asked_scope t) (parts_hold (is_affine asked_scope) asked_scope e) c.affine).1;
    narrow = (and_parts (narrow_in t) (narrow_in e) c.narrow).1;
    data_alone = c.data_alone;
    fits = (and_parts (fits_dimensions (dimensions asked_scope) t) (fits_dimensions (dimensions asked_scope) e) c.fits).1;
    literals = (and_parts (literals_fit t) (literals_fit e) c.literals).1;
    tree = h.3;
  }

  pub cell_asked : (x : Word) (at : PlainExprs) (op : Option BinOp) (e : PlainExpr) → Clear u (item (assign (cell x at) op e)) → IsInner false 0 (assign (cell x at) op e) → IsAsked asked_scope (Around u ls) (cell x at)
  cell_asked x at op e c h =
      let t = cell x at in
      record {
        known = (and_parts (uses_known asked_scope t) (uses_known asked_scope e) c.known).0;
        affine = (and_parts (parts_hold (is_affine asked_scope) asked_scope t) (parts_hold (is_affine asked_scope) asked_scope e) c.affine).0;
        narrow = (and_parts (narrow_in t) (narrow_in e) c.narrow).0;
        data_alone = refl;
        fits = (and_parts (fits_dimensions (dimensions asked_scope) t) (fits_dimensions (dimensions asked_scope) e) c.fits).0;
        literals = (and_parts (literals_fit t) (literals_fit e) c.literals).0;
        tree = h.2;
      }

-- a written cell has no index cell
pub regular_holds : (p : PlainExpr → Bool) (at : PlainExprs) → subscripts_hold p at ≡ true → are_regular at ≡ true → list_all p (list_of at) ≡ true
regular_holds p no_exprs h g = refl
regular_holds p (more_exprs e es) h g =
    let q = and_parts (subscript_holds p e) (subscripts_hold p es) h in
    let r = and_parts (not (is_cell e)) (are_regular es) g in
    and_from _ _ (one e r.0 q.0) (regular_holds p es q.1 r.1)
  where
    one : (e : PlainExpr) → not (is_cell e) ≡ true → subscript_holds p e ≡ true → p e ≡ true
    one (cell x at) n k = absurd (true≢false (sym n))
    one (lit j) n k = k
    one (var x) n k = k
    one (un op a) n k = k
    one (bin op a b) n k = k
    one (cast a) n k = k
    one (test rel a b) n k = k
    one (umin a b) n k = k
    one (umax a b) n k = k
    one (least a b) n k = k
    one (greatest a b) n k = k
    one (widen a) n k = k
    one (big high low) n k = k

module _ (u : PlainUnit) (params : Vars) (few_arrays : length (array_names u.params) < 2 ^ 64) (extent_is : (x : Word) → AllByRecursion (IsExtent u params) (list_of (declared_extents u.params x)))
    (short : (x : Word) → length (list_of (declared_extents u.params x)) ≤ 3) where
  abbrev arrays' : List Array
  arrays' = its_arrays u params few_arrays

  abbrev number' : Word → ℕ
  number' = its_number u params few_arrays

  abbrev inspected' : ℕ → Bool
  inspected' a = inspects_all number' a u.body

  abbrev Three' : PlainExpr → Vars → Type 0
  Three' e vs = general.IsData arrays' number' (declared_extents u.params) inspected' e vs × countable.IsData arrays' number' e vs × IsWalkedData arrays' number' e vs

  abbrev ThreeStmt : PlainStmt → Vars → Type 0
  ThreeStmt p vs = general.IsSource arrays' number' (declared_extents u.params) inspected' p vs × countable.IsCountable arrays' number' p vs × IsWalked arrays' number' p vs

  abbrev pub ThreeStmts : PlainStmts → Vars → Type 0
  ThreeStmts ps vs = general.AreSource arrays' number' (declared_extents u.params) inspected' ps vs × countable.AreCountable arrays' number' ps vs × AreWalked arrays' number' ps vs

  module _ (ls : List Loop) (vs : Vars) (s : IsOver u params ls vs) where
    data_at : (e : PlainExpr) → IsAsked (scope_of u ls []) (Around u ls) e → ((a : ℕ) → read_irregularly number' a e ≡ true → inspects_all number' a u.body ≡ true) → Three' e vs
    data_at e h k = data_three u params few_arrays extent_is short ls vs s (Around u ls) e h k

    full_three : (t : PlainExpr) (op : Option BinOp) (e : PlainExpr) → Three' t vs → Three' e vs → Three' (full t op e) vs
    full_three t None e f g = g
    full_three t (Some o) e f g = ((f.0, g.0), (f.1, g.1), (f.2, g.2))

    read_right : (t : PlainExpr) (op : Option BinOp) (e : PlainExpr) (a : ℕ) → read_irregularly number' a e ≡ true → read_irregularly number' a (full t op e) ≡ true
    read_right t None e a h = h
    read_right t (Some o) e a h = or_right (read_irregularly number' a t) _ h

    regular_unread : (x : Word) (at : PlainExprs) (a : ℕ) → are_regular at ≡ true → read_irregularly number' a (cell x at) ≡ false
    regular_unread x at a h = ap (λ n. nat_eq (number' x) a && not (nat_eq n 0)) (no_indices at h) ∙ and_false (nat_eq (number' x) a)
      where
        and_false : (b : Bool) → (b && false) ≡ false
        and_false true = refl
        and_false false = refl

        no_indices : (at : PlainExprs) → are_regular at ≡ true → indices_in at ≡ 0
        no_indices no_exprs h = refl
        no_indices (more_exprs e es) h =
            let r = and_parts (not (is_cell e)) (are_regular es) h in
            cell_or_not (λ e. not (is_cell e) ≡ true → indices_in (more_exprs e es) ≡ 0) (λ x at n. absurd (true≢false (sym n)))
            (λ e other n. not_by_cell e (λ x at. 1 + indices_in es) (indices_in es) other ∙ no_indices es r.1) e r.0

    assign_three : (t : PlainExpr) (op : Option BinOp) (e : PlainExpr) → Clear u (item u ls (assign t op e)) → IsInner false 0 (assign t op e) → ((a : ℕ) → inspects number' a (assign t op e) ≡ true → inspects_all number' a u.body ≡ true) →
        ThreeStmt (assign t op e) vs
    assign_three (var x) op e c h k =
        let b = data_at e (value_asked u ls (var x) op e c h) (λ a g. k a (read_right (var x) op e a g)) in
        let o = s.stands.owned x (and_parts (is_known (scope_of u ls []) x) (uses_known (scope_of u ls []) e) c.known).0 in
        let f = full_three (var x) op e (o, tt, tt) b in
        ((o, f.0, few_words (var x) op e c.few), (tt, b.1), (tt, f.2))
    assign_three (cell x at) op e c h k =
        let b = data_at e (value_asked u ls (cell x at) op e c h) (λ a g. k a (read_right (cell x at) op e a g)) in
        let q : IsAsked (scope_of u ls []) (Around u ls) (cell x at) = cell_asked u ls x at op e c h in
        let t = data_at (cell x at) q (λ a g. absurd (true≢false (sym g ∙ regular_unread x at a c.regular))) in
        let affine = regular_holds (is_affine (scope_of u ls [])) at q.affine c.regular in
        let narrow = regular_holds (holds_throughout (is_narrow (Around u ls))) at q.narrow c.regular in
        let f = full_three (cell x at) op e t b in
        let own_cell : countable.IsCell arrays' number' x at vs = record { array = t.1.array; named = t.1.named; numbered = t.1.numbered; affine = all_countable u ls vs s.stands at affine; ranked = t.1.ranked } in (
          ((t.0.array, all_regular u ls vs s.stands at affine), f.0, few_words (cell x at) op e c.few),
          (own_cell, b.1),
          (plain_at u params few_arrays extent_is short ls vs s (Around u ls) at affine narrow, f.2),
        )
    assign_three _ op e c h k = absurd (true≢false (sym h.0))

  -- ---- statements

  abbrev Lifts : (ℕ → Bool) → Type 0
  Lifts part = (a : ℕ) → part a ≡ true → inspects_all number' a u.body ≡ true

  mutual
    stmt_three : (p : PlainStmt) (ls : List Loop) (vs : Vars) → IsOver u params ls vs → AllByRecursion (Clear u) (items p ls []) → IsInner false 0 p → Lifts (λ a. inspects number' a p) → ThreeStmt p vs
    stmt_three (loop x lo rel hi body) ls vs s c h k =
        let sc : Scope = scope_of u ls [] in
        let l : Loop = record { name = x; lo = lo; rel = rel; hi = hi } in
        let o : own x ≡ true = reserved_own x c.0.free in
        let unsigned : is_signed_name sc x ≡ false = not_signed u ls x (or_parts (bytes_eq u.name x) (is_known sc x) c.0.once).1 in
        let no_int : is_int u.params x ≡ false = (or_parts (is_loop ls x) (is_int u.params x) unsigned).1 in
        let inner : (v : ℤ) → ThreeStmts body ((x, v) ∷ vs) = λ v. stmts_three body (l ∷ ls) ((x, v) ∷ vs) (over_inside u params ls vs l v o no_int s) c.1 h.4 k in
        let p = and_parts (is_affine sc lo) (is_affine sc hi) c.0.affine in
        let first = affine_countable u ls vs s.stands lo p.0 in
        let last = affine_countable u ls vs s.stands hi p.1 in
        let fresh : countable.IsFresh x vs = record {
          own_name = o;
          fresh = s.stands.names x ∙ unsigned;
          shallow = (let f = s.stands.few in let g : suc (length ls) ≤ 6 = c.0.shallow in omega arith);
        } in
        ((o, λ v. (inner v).0), (first, last, fresh, λ v. (inner v).1), (first, last, fresh, λ v. (inner v).2))
    stmt_three (choice ts first other) ls vs s c h k =
        let f = stmts_three first ls vs s (all_front (Clear u) (items_all first ls []) (items_all other ls []) c.1) h.1 (λ a g. k a (or_left _ (inspects_all number' a other) g)) in
        let g = stmts_three other ls vs s (all_back (Clear u) (items_all first ls []) (items_all other ls []) c.1) h.2 (λ a g. k a (or_right (inspects_all number' a first) _ g)) in
        let t = countable_tests u params few_arrays extent_is short ls vs s (Around u ls) ts c.0.affine in
        ((signed_tests u params few_arrays extent_is short ls vs s (Around u ls) ts c.0.affine, f.0, g.0), (t, f.1, g.1), (t, f.2, g.2))
    stmt_three (assign t op e) ls vs s c h k = assign_three ls vs s t op e c.0 h k
    stmt_three (table x len) ls vs s c h k = absurd h
    stmt_three begin ls vs s c h k = absurd h
    stmt_three (check x e a) ls vs s c h k = absurd (true≢false (sym h.0))
    stmt_three verdict ls vs s c h k = absurd h

    pub stmts_three : (ps : PlainStmts) (ls : List Loop) (vs : Vars) → IsOver u params ls vs → AllByRecursion (Clear u) (items_all ps ls []) → AreInner false 0 ps → Lifts (λ a. inspects_all number' a ps) → ThreeStmts ps vs
    stmts_three no_stmts ls vs s c h k = (tt, tt, tt)
    stmts_three (more_stmts p ps) ls vs s c h k =
        let rest : AllByRecursion (Clear u) (items_all ps ls []) =
        subst (λ ts. AllByRecursion (Clear u) (items_all ps ls ts)) (tables_same p h.0 []) (all_back (Clear u) (items p ls []) (items_all ps ls (tables_after p [])) c) in
        let f = stmt_three p ls vs s (all_front (Clear u) (items p ls []) (items_all ps ls (tables_after p [])) c) h.0 (λ a g. k a (or_left _ (inspects_all number' a ps) g)) in
        let g = stmts_three ps ls vs s rest h.1 (λ a g. k a (or_right (inspects number' a p) _ g)) in
        ((f.0, g.0), (f.1, g.1), (f.2, g.2))
