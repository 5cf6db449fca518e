-- In a walk: the words of a cell's coordinates, index cells being loaded and checked first.
use Rattle.std.proofs.Common.{◌≡◌, ◌≢◌, ◌⊎◌, inl, inr, ℕ, suc, ◌+◌, ◌^◌, ◌<◌, ◌≤◌, Bool, true, false, cond, ◌||◌, if◌then◌else◌, List, [], ◌∷◌, ◌++◌, length, refl, sym, ap, ◌∙◌, arith, Option, None, nat_lt, ℤ, pos, true≢false, FitsSigned, lt-ltb}
use Rattle.std.specs.Prelude.{bytes_eq, codes, slice_index}
use Rattle.std.proofs.lemmas.Bool.{or_from}
use Rattle.std.specs.Int.{w64}
use Rattle.std.specs.List.{list_any}
use Rattle.std.proofs.Math.Nat.{mod-eq_of_lt}
use Rattle.c_tree.proofs.WordValues.{as_word_fits}
use Rattle.c_tree.specs.Plain.{Word, PlainExpr, lit, var, cell, un, bin, cast, test, umin, umax, least, greatest, widen, big, PlainExprs, no_exprs, more_exprs, PlainStmt, assign, check}
use Rattle.c_tree.specs.Trees.{stmts_of}
use Rattle.c_tree.specs.Kinds.{either, signed_kind, join}
use Rattle.c_tree.specs.declared.expr.UnOp.TheVariants.{Neg}
use Rattle.c_tree.specs.declared.expr.BinOp.TheVariants.{Add, Sub, Mul}
use Rattle.c_tree.specs.Values.{Vars, signed, as_word, kind}
use Rattle.c_tree.specs.Arrays.{Array, Memory, is_within, size_of}
use Rattle.c_tree.specs.Accesses.{Within}
use Rattle.c_tree.specs.Instances.{word_at, word_within}
use Rattle.c_tree.specs.Fault.{Upset}
use Rattle.c_tree.specs.Run.{State, Outcome, goes_on, ends, index, outside, Run, and_then, ◌>>=◌, done, end_as, Scope, loads, within, by_array, put, word, coordinates, first_word, exec, exec_all}
use Rattle.c_tree.specs.Run as run
use Rattle.instrumentation.specs.Passes.{renamed, renamed_all}
use Rattle.instrumentation_laws.specs.OwnNames.{begins}
use Rattle.instrumentation_laws.specs.AccessList.{signed_all}
use Rattle.instrumentation_laws.specs.RegularSources.{AreRegular}
use Rattle.instrumentation_laws.specs.Setting.{scope_of}
use Rattle.instrumentation_laws.proofs.Steps.{regular_at, set_value, load_before}
use Rattle.instrumentation_laws.proofs.Names.{numbered_apart, same_word, apart_as}
use Rattle.pass_laws.specs.Countable.{AreOwn, IsAffine, AreAffine, rank}
use Rattle.pass_laws.specs.Going.{GoesTo}
use Rattle.pass_laws.specs.Places.{IsPlace}
use Rattle.pass_laws.proofs.Renamed.{names, copied_vars, affine_kind, affine_renamed, signed_renamed, affine_renamed_all, signed_renamed_all}
use Rattle.instrumentation.specs.Subscripts.{by_cell, is_cell}
use Rattle.instrumentation.specs.Names.{index_word, written}
use Rattle.instrumentation.specs.Tables.{words_at, index_words, word_checks}
use Rattle.instrumentation_laws.specs.IndexedList.{coordinate_at, coordinates_at}
use Rattle.inspection_laws.specs.Walked.{names_any, IsConstant, IsWordable, IsKnown, IsWalkedAt, ArePlainAt, AreWalkedAt, AreSized, HasTables}
use Rattle.instrumentation.proofs.Subscripts.{cell_or_not, not_by_cell}
use Rattle.inspection_laws.proofs.Constants.{constant_given, constant_is}
use Rattle.inspection_laws.specs.CountingPieces.{AreGiven}

-- ---- kinds of affine expressions

join_named : (x y : Bool) → join (if x then signed_kind else either) (if y then signed_kind else either) ≡ (if x || y then signed_kind else either)
join_named true y = refl
join_named false y = refl

pub named_kind : (e : PlainExpr) (vs : Vars) → IsAffine e vs → kind vs e ≡ (if names_any e then signed_kind else either)
named_kind (lit n) vs h = refl
named_kind (var x) vs h = rw h refl
named_kind (cell x at) vs h = absurd h
named_kind (un op a) vs h = named_kind a vs h
named_kind (bin op a b) vs h = rw (named_kind a vs h.0, named_kind b vs h.1) (join_named (names_any a) (names_any b))
named_kind (cast a) vs h = absurd h
named_kind (test rel a b) vs h = absurd h
named_kind (umin a b) vs h = absurd h
named_kind (umax a b) vs h = absurd h
named_kind (least a b) vs h = refl
named_kind (greatest a b) vs h = refl
named_kind (widen a) vs h = absurd h
named_kind (big high low) vs h = absurd h

names_renamed : (xs : List Word) (e : PlainExpr) → names_any (renamed xs e) ≡ names_any e
names_renamed xs (lit n) = refl
names_renamed xs (var x) = refl
names_renamed xs (cell x at) = refl
names_renamed xs (un op a) = names_renamed xs a
names_renamed xs (bin op a b) = rw (names_renamed xs a, names_renamed xs b) refl
names_renamed xs (cast a) = refl
names_renamed xs (test rel a b) = refl
names_renamed xs (umin a b) = refl
names_renamed xs (umax a b) = refl
names_renamed xs (least a b) = refl
names_renamed xs (greatest a b) = refl
names_renamed xs (widen a) = refl
names_renamed xs (big high low) = refl

-- a constant has no name
pub constant_unnamed : (e : PlainExpr) → IsConstant e → names_any e ≡ false
constant_unnamed (lit n) h = refl
constant_unnamed (un Neg a) h = constant_unnamed a h
constant_unnamed (bin Add a b) h = or_from _ _ (constant_unnamed a h.0) (constant_unnamed b h.1)
constant_unnamed (bin Sub a b) h = or_from _ _ (constant_unnamed a h.0) (constant_unnamed b h.1)
constant_unnamed (bin Mul a b) h = or_from _ _ (constant_unnamed a h.0) (constant_unnamed b h.1)
constant_unnamed _ h = absurd h

-- a plain subscript has these facts
pub plain_walked : (arrays : List Array) (number : Word → ℕ) (e : PlainExpr) (vs : Vars) → is_cell e ≡ false → IsWalkedAt arrays number e vs → IsAffine e vs × IsWordable e
plain_walked arrays number (cell x at) vs h k = absurd (true≢false h)
plain_walked arrays number (lit m) vs h k = k
plain_walked arrays number (var x) vs h k = k
plain_walked arrays number (un op e) vs h k = k
plain_walked arrays number (bin op e g) vs h k = k
plain_walked arrays number (cast e) vs h k = k
plain_walked arrays number (test rel e g) vs h k = k
plain_walked arrays number (umin e g) vs h k = k
plain_walked arrays number (umax e g) vs h k = k
plain_walked arrays number (least e g) vs h k = k
plain_walked arrays number (greatest e g) vs h k = k
plain_walked arrays number (widen e) vs h k = k
plain_walked arrays number (big high low) vs h k = k

pub affine_plain : (es : PlainExprs) (vs : Vars) → ArePlainAt es vs → AreAffine es vs
affine_plain no_exprs vs h = tt
affine_plain (more_exprs e es) vs h = (h.0.0, affine_plain es vs h.1)

affine_no_cell : (e : PlainExpr) (vs : Vars) → IsAffine e vs → is_cell e ≡ false
affine_no_cell (lit n) vs h = refl
affine_no_cell (var x) vs h = refl
affine_no_cell (cell x at) vs h = absurd h
affine_no_cell (un op e) vs h = refl
affine_no_cell (bin op e g) vs h = refl
affine_no_cell (cast e) vs h = refl
affine_no_cell (test rel e g) vs h = refl
affine_no_cell (umin e g) vs h = refl
affine_no_cell (umax e g) vs h = refl
affine_no_cell (least e g) vs h = refl
affine_no_cell (greatest e g) vs h = refl
affine_no_cell (widen e) vs h = refl
affine_no_cell (big high low) vs h = refl

walked_plain : (arrays : List Array) (number : Word → ℕ) (e : PlainExpr) (vs : Vars) → IsAffine e vs → IsWordable e → IsWalkedAt arrays number e vs
walked_plain arrays number (lit n) vs h g = (h, g)
walked_plain arrays number (var x) vs h g = (h, g)
walked_plain arrays number (cell x at) vs h g = absurd h
walked_plain arrays number (un op e) vs h g = (h, g)
walked_plain arrays number (bin op e f) vs h g = (h, g)
walked_plain arrays number (cast e) vs h g = (h, g)
walked_plain arrays number (test rel e f) vs h g = (h, g)
walked_plain arrays number (umin e f) vs h g = (h, g)
walked_plain arrays number (umax e f) vs h g = (h, g)
walked_plain arrays number (least e f) vs h g = (h, g)
walked_plain arrays number (greatest e f) vs h g = (h, g)
walked_plain arrays number (widen e) vs h g = (h, g)
walked_plain arrays number (big high low) vs h g = (h, g)

pub all_walked : (arrays : List Array) (number : Word → ℕ) (es : PlainExprs) (vs : Vars) → ArePlainAt es vs → AreWalkedAt arrays number es vs
all_walked arrays number no_exprs vs h = tt
all_walked arrays number (more_exprs e es) vs h = (walked_plain arrays number e vs h.0.0 h.0.1, all_walked arrays number es vs h.1)

-- without index cells the coordinates are the signed values
pub plain_coordinates : (arrays : List Array) (m : Memory) (es : PlainExprs) (vs : Vars) → ArePlainAt es vs → coordinates_at arrays m es vs ≡ signed_all es vs
plain_coordinates arrays m no_exprs vs h = refl
plain_coordinates arrays m (more_exprs e es) vs h =
    rw (not_by_cell e (λ p at. pos (word_at arrays m p (signed_all at vs))) (signed e vs) (affine_no_cell e vs h.0.0), plain_coordinates arrays m es vs h.1) refl

pub regular_all : (es : PlainExprs) (vs : Vars) → AreAffine es vs → AreRegular es vs
regular_all no_exprs vs h = tt
regular_all (more_exprs e es) vs h = (affine_kind e vs h.0, regular_all es vs h.1)

pub index_apart : (i j : ℕ) → i < 2 ^ 64 → j < 2 ^ 64 → i ≢ j → bytes_eq (index_word i) (index_word j) ≡ false
unfolding index_word
index_apart i j = numbered_apart (codes "bal_cx") i j

pub index_is_scratch : (d : ℕ) → begins (codes "bal_cx") (index_word d) ≡ true
unfolding index_word
index_is_scratch d = refl

pub or_second : (x y : Bool) → y ≡ true → (x || y) ≡ true
or_second true y e = refl
or_second false y e = e

-- ---- coordinates as words

pub small_fits : (k : ℕ) → k < 2 ^ 63 → FitsSigned w64 (pos k)
small_fits k l = record { sfits = l }

pub as_word_is : (k : ℕ) → k < 2 ^ 64 → as_word (pos k) ≡ k
as_word_is k small = mod-eq_of_lt small

-- words hold all extents
abbrev pub AllFitWords : List ℤ → Type 0
AllFitWords [] = Unit {0}
AllFitWords (z ∷ zs) = (size_of z < 2 ^ 64) × AllFitWords zs

pub sized_fits : (z s : ℤ) → as_word s ≡ size_of z → size_of z < 2 ^ 64
sized_fits z s e = let h : as_word s < 2 ^ 64 = as_word_fits s in omega arith

pub all_fit : (sc : Scope) (ns : PlainExprs) (zs : List ℤ) (vs : Vars) → AreSized sc ns zs vs → AllFitWords zs
all_fit sc no_exprs [] vs h = tt
all_fit sc no_exprs (z ∷ zs) vs h = absurd h
all_fit sc (more_exprs n ns) [] vs h = absurd h
all_fit sc (more_exprs n ns) (z ∷ zs) vs h = (sized_fits z (signed n vs) h.1, all_fit sc ns zs vs h.3)

module _ (arrays : List Array) (number : Word → ℕ) (wides : List Word) (fault : Option Upset) (a : ℕ) (has : HasTables arrays wides a) (m : Memory) (params base : Vars) (place : IsPlace params base) (own_params : AreOwn params)
    (loops : Vars) (own_loops : AreOwn loops) (shallow : length (names loops) < 2 ^ 64) where
  abbrev sc : Scope
  sc = scope_of arrays wides fault

  abbrev env : Vars
  env = copied_vars loops ++ base

  abbrev here : Vars
  here = loops ++ params

  -- a signed coordinate as a word
  pub word_gives : (e : PlainExpr) (k : ℕ) (u : State) → IsAffine e here → IsWordable e → signed e here ≡ pos k → k < 2 ^ 64 → word sc (cast (renamed (names loops) e)) env u ≡ goes_on k u
  word_gives e k u h w is small = chosen w
    where
      chosen : (names_any e ≡ true) ⊎ IsConstant e → word sc (cast (renamed (names loops) e)) env u ≡ goes_on k u
      chosen (inl named) =
          let kinds : kind env (renamed (names loops) e) ≡ signed_kind =
          named_kind (renamed (names loops) e) env (affine_renamed params base place own_params loops own_loops shallow e h) ∙
          ap (λ b. if b then signed_kind else either) (names_renamed (names loops) e ∙ named) in
          let value : signed (renamed (names loops) e) env ≡ pos k = signed_renamed params base place own_params loops own_loops shallow e h ∙ is in
          rw (kinds, value) (ap (λ n. let o : Outcome ℕ = goes_on n u in o) (as_word_is k small))
      chosen (inr c) =
          let kinds : kind env (renamed (names loops) e) ≡ either =
          named_kind (renamed (names loops) e) env (affine_renamed params base place own_params loops own_loops shallow e h) ∙
          ap (λ b. if b then signed_kind else either) (names_renamed (names loops) e ∙ constant_unnamed e c) in
          rw kinds (constant_given sc (names loops) e env u c ∙ ap (λ n. let o : Outcome ℕ = goes_on n u in o) (constant_is e here k c is small))

  -- the index cells lie within their arrays
  abbrev pub IndexLies : PlainExpr → Type 0
  IndexLies (cell p at) = (k : IsKnown arrays number p) → is_within (signed_all at here) k.array.1.extents ≡ true
  IndexLies e = Unit {0}

  abbrev pub AllIndexLie : PlainExprs → Type 0
  AllIndexLie no_exprs = Unit {0}
  AllIndexLie (more_exprs e es) = IndexLies e × AllIndexLie es

  abbrev pub Later : ℕ → State → State → Type 0
  Later d t u = (i : ℕ) → d ≤ i → i < 2 ^ 64 → u.words (index_word i) ≡ t.words (index_word i)

  -- after the loads of the index cells, subscript d being the first
  pub record Worded (d : ℕ) (at ns : PlainExprs) (s t : State) : Type 0 where
    pub same : t ≡ record s { words = t.words }
    pub frame : (x : Word) → begins (codes "bal_cx") x ≡ false → t.words x ≡ s.words x
    pub below : (i : ℕ) → i < d → t.words (index_word i) ≡ s.words (index_word i)
    pub given : (u : State) → Later d t u → AreGiven sc (words_at (names loops) d at) (coordinates_at arrays m at here) env u
    pub checks : (u : State) → Later d t u → exec_all sc (stmts_of (word_checks a d at ns)) env u ≡ goes_on tt u

  pub index_value : (p : Word) (at : PlainExprs) (s : State) → (k : IsKnown arrays number p) → s.begun ≡ false → s.memory ≡ m → AreAffine at here → is_within (signed_all at here) k.array.1.extents ≡ true →
      word sc (cell p (renamed_all (names loops) at)) env s ≡ goes_on (word_at arrays m p (signed_all at here)) s
  index_value p at s k b same h lies =
      let cs : List ℤ = signed_all at here in
      let regular : AreRegular (renamed_all (names loops) at) env = regular_all (renamed_all (names loops) at) env (affine_renamed_all params base place own_params loops own_loops shallow at h) in
      let values : signed_all (renamed_all (names loops) at) env ≡ cs = signed_renamed_all params base place own_params loops own_loops shallow at h in
      let value : word_at arrays m p cs ≡ m k.array.0 cs = ap (λ o. word_within m o cs) k.named ∙ ap (λ b. if b then m k.array.0 cs else 0) lies in
      cell_at p (renamed_all (names loops) at) s cs k (regular_at sc (renamed_all (names loops) at) env s regular ∙ ap (λ cs. goes_on cs s) values) ∙
      ap (λ b. (if b then loads sc k.array.0 cs else end_as (outside k.array.0)) s) lies ∙ load_before sc k.array.0 cs s b ∙
      ap (λ n. let o : Outcome ℕ = goes_on n s in o) (ap (λ (m : Memory). m k.array.0 cs) same ∙ sym value)
    where
      cell_at : (x : Word) (at : PlainExprs) (s : State) (cs : List ℤ) (k : IsKnown arrays number x) → coordinates sc at env s ≡ goes_on cs s → word sc (cell x at) env s ≡ within k.array cs (loads sc) s
      cell_at x at s cs k h =
          ap (λ o. by_array o (λ a. coordinates sc at env >>= (λ cs. within a cs (loads sc))) (first_word sc at env >>= (λ i. run.reads (λ s. slice_index (s.tables x) i))) s) k.named ∙
          ap (λ o. and_then o (λ cs. within k.array cs (loads sc))) h

  abbrev Rest : PlainExprs → PlainExprs → List ℤ → Type 0
  Rest es ns zs = (d : ℕ) (s : State) → d + rank es < 2 ^ 64 → s.begun ≡ false → s.memory ≡ m → Within zs (coordinates_at arrays m es here) → GoesTo (Worded d es ns s) (exec_all sc (stmts_of (index_words (names loops) d es)) env s)

  abbrev Step : PlainExprs → PlainExpr → PlainExprs → ℤ → List ℤ → ℕ → State → PlainExpr → Type 0
  Step es n ns z zs d s e = IsWalkedAt arrays number e here → Within (z ∷ zs) (coordinates_at arrays m (more_exprs e es) here) → IndexLies e →
      GoesTo (Worded d (more_exprs e es) (more_exprs n ns) s) (exec_all sc (stmts_of (index_words (names loops) d (more_exprs e es))) env s)

  kept : (d : ℕ) (es ns : PlainExprs) (s t : State) (o : Outcome (Unit {0})) (P : State → Type 0) → GoesTo (Worded d es ns s) o → ((t : State) → Worded d es ns s t → P t) → GoesTo P o
  kept d es ns s t (goes_on u v) P h k = k v h
  kept d es ns s t (ends e v) P h k = h

  plain_step : (es : PlainExprs) (n : PlainExpr) (ns : PlainExprs) (z : ℤ) (zs : List ℤ) (d : ℕ) (s : State) → Rest es ns zs → size_of z < 2 ^ 64 → suc d + rank es < 2 ^ 64 → s.begun ≡ false → s.memory ≡ m → (e : PlainExpr) → is_cell e ≡ false → Step es n ns z zs d s e
  plain_step es n ns z zs d s rest small fits b same e other walked lies inside =
      let facts : IsAffine e here × IsWordable e = plain_walked arrays number e here other walked in
      let coordinate : coordinate_at arrays m e here ≡ signed e here = not_by_cell e (λ p at. pos (word_at arrays m p (signed_all at here))) (signed e here) other in
      let texts : index_words (names loops) d (more_exprs e es) ≡ index_words (names loops) (suc d) es = not_by_cell e (λ x at. assign (var (index_word d)) None (cell x (renamed_all (names loops) at)) ∷ index_words (names loops) (suc d) es) (index_words (names loops) (suc d) es) other in
      let tests : word_checks a d (more_exprs e es) (more_exprs n ns) ≡ word_checks a (suc d) es ns = not_by_cell e (λ x at. check (index_word d) n a ∷ word_checks a (suc d) es ns) (word_checks a (suc d) es ns) other in
      let first : by_cell e (λ x at. var (index_word d)) (cast (renamed (names loops) e)) ≡ cast (renamed (names loops) e) = not_by_cell e (λ x at. var (index_word d)) (cast (renamed (names loops) e)) other in
      let value : signed e here ≡ pos lies.0.0 = sym coordinate ∙ lies.0.1 in
      rw texts
      (kept (suc d) es ns s s (exec_all sc (stmts_of (index_words (names loops) (suc d) es)) env s) (Worded d (more_exprs e es) (more_exprs n ns) s) (rest (suc d) s fits b same lies.1)
      (λ t r. record {
        same = r.same;
        frame = r.frame;
        below = λ i l. r.below i (omega arith);
        given = λ u later. (ap (λ w. word sc w env u) first ∙ word_gives e lies.0.0 u facts.0 facts.1 value (let l : lies.0.0 < size_of z = lies.0.2 in omega arith) ∙ ap (λ c. goes_on (size_of c) u) (sym lies.0.1), r.given u (λ i l k. later i (omega arith) k));
        checks = λ u later. ap (λ (l : List PlainStmt). exec_all sc (stmts_of l) env u) tests ∙ r.checks u (λ i l k. later i (omega arith) k);
      }))

  cell_step : (es : PlainExprs) (n : PlainExpr) (ns : PlainExprs) (z : ℤ) (zs : List ℤ) (d : ℕ) (s : State) → Rest es ns zs → as_word (signed n env) ≡ size_of z → suc d + rank es < 2 ^ 64 → s.begun ≡ false → s.memory ≡ m →
      (p : Word) (at : PlainExprs) → Step es n ns z zs d s (cell p at)
  cell_step es n ns z zs d s rest sized fits b same p at walked lies inside =
      let v : ℕ = word_at arrays m p (signed_all at here) in
      let mid : State = record s { words = put s.words (index_word d) v } in
      let not_wide : list_any (bytes_eq (index_word d)) wides ≡ false = has.words (index_word d) (or_second (bytes_eq (written a) (index_word d)) (begins (codes "bal_cx") (index_word d)) (index_is_scratch d)) in
      let set : exec sc (assign (var (index_word d)) None (cell p (renamed_all (names loops) at))) env s ≡ goes_on tt mid =
      set_value sc (index_word d) (cell p (renamed_all (names loops) at)) env s v not_wide (index_value p at s walked.0 b same (affine_plain at here walked.1) (inside walked.0)) in
      let below_z : v < size_of z = (let k : v ≡ lies.0.0 = ap size_of lies.0.1 in let l : lies.0.0 < size_of z = lies.0.2 in omega arith) in
      rw set
      (kept (suc d) es ns mid mid (exec_all sc (stmts_of (index_words (names loops) (suc d) es)) env mid) (Worded d (more_exprs (cell p at) es) (more_exprs n ns) s) (rest (suc d) mid fits b same lies.1)
      (λ t r. record {
        same = r.same;
        frame = λ x e. r.frame x e ∙ ap (λ b. cond b v (s.words x)) (apart_as (begins (codes "bal_cx")) (index_word d) x (index_is_scratch d) e);
        below = λ i l. r.below i (omega arith) ∙ ap (λ b. cond b v (s.words (index_word i))) (index_apart d i (omega arith) (omega arith) (omega arith));
        given = λ u later. (ap (λ n. goes_on n u) (first u t later r), r.given u (λ i l k. later i (omega arith) k));
        checks = λ u later. check_goes (u.words (index_word d)) (as_word (signed n env)) u (exec_all sc (stmts_of (word_checks a (suc d) es ns)) env)
            (rw (first u t later r, sized) (lt-ltb v (size_of z) below_z)) ∙ r.checks u (λ i l k. later i (omega arith) k);
      }))
    where
      first : (u t : State) → Later d t u → Worded (suc d) es ns (record s { words = put s.words (index_word d) (word_at arrays m p (signed_all at here)) }) t → u.words (index_word d) ≡ word_at arrays m p (signed_all at here)
      first u t later r = later d (omega arith) (omega arith) ∙ r.below d (omega arith) ∙ ap (λ b. cond b (word_at arrays m p (signed_all at here)) (s.words (index_word d))) (same_word (index_word d))

      check_goes : (n k : ℕ) (u : State) (rest : Run (Unit {0})) → nat_lt n k ≡ true → and_then ((if nat_lt n k then done else end_as (index a)) u) (λ x. rest) ≡ rest u
      check_goes n k u rest e = ap (λ b. and_then ((if b then done else end_as (index a)) u) (λ x. rest)) e

  pub worded : (at ns : PlainExprs) (zs : List ℤ) (d : ℕ) (s : State) → AreWalkedAt arrays number at here → AreSized sc ns zs env → d + rank at < 2 ^ 64 → s.begun ≡ false → s.memory ≡ m →
      Within zs (coordinates_at arrays m at here) → AllIndexLie at → GoesTo (Worded d at ns s) (exec_all sc (stmts_of (index_words (names loops) d at)) env s)
  worded no_exprs ns zs d s h z fits b same lies inside = record { same = refl; frame = λ x e. refl; below = λ i l. refl; given = λ u later. given_none zs lies; checks = λ u later. refl }
    where
      given_none : (zs : List ℤ) → Within zs [] → Unit {0}
      given_none zs w = tt
  worded (more_exprs e es) no_exprs [] d s h z fits b same lies inside = absurd lies
  worded (more_exprs e es) no_exprs (k ∷ zs) d s h z fits b same lies inside = absurd z
  worded (more_exprs e es) (more_exprs n ns) [] d s h z fits b same lies inside = absurd z
  worded (more_exprs e es) (more_exprs n ns) (k ∷ zs) d s h z fits b same lies inside =
      cell_or_not (Step es n ns k zs d s)
      (λ p at. cell_step es n ns k zs d s (λ d s fits b same lies. worded es ns zs d s h.1 z.3 fits b same lies inside.1) z.1 (omega arith) b same p at)
      (λ e other. plain_step es n ns k zs d s (λ d s fits b same lies. worded es ns zs d s h.1 z.3 fits b same lies inside.1) (sized_fits k (signed n env) z.1) (omega arith) b same e other)
      e h.0 lies inside.0

  pub plain_lie : (at : PlainExprs) → ArePlainAt at here → AllIndexLie at
  plain_lie no_exprs h = tt
  plain_lie (more_exprs e es) h = (lies e h.0.0, plain_lie es h.1)
    where
      lies : (e : PlainExpr) → IsAffine e here → IndexLies e
      lies (lit n) h = tt
      lies (var x) h = tt
      lies (cell x at) h = absurd h
      lies (un op e) h = tt
      lies (bin op e g) h = tt
      lies (cast e) h = tt
      lies (test rel e g) h = tt
      lies (umin e g) h = tt
      lies (umax e g) h = tt
      lies (least e g) h = tt
      lies (greatest e g) h = tt
      lies (widen e) h = tt
      lies (big high low) h = tt

  -- the words of a plain cell's coordinates, in every state
  pub plain_given : (at : PlainExprs) (zs : List ℤ) (d : ℕ) (u : State) → ArePlainAt at here → AllFitWords zs → Within zs (signed_all at here) → AreGiven sc (words_at (names loops) d at) (signed_all at here) env u
  plain_given no_exprs zs d u h f w = tt
  plain_given (more_exprs e es) [] d u h f w = absurd w
  plain_given (more_exprs e es) (z ∷ zs) d u h f w =
      let first : by_cell e (λ x at. var (index_word d)) (cast (renamed (names loops) e)) ≡ cast (renamed (names loops) e) = not_by_cell e (λ x at. var (index_word d)) (cast (renamed (names loops) e)) (affine_no_cell e here h.0.0) in
      (ap (λ w. word sc w env u) first ∙ word_gives e w.0.0 u h.0.0 h.0.1 w.0.1 (let l : w.0.0 < size_of z = w.0.2 in let g : size_of z < 2 ^ 64 = f.0 in omega arith) ∙ ap (λ c. goes_on (size_of c) u) (sym w.0.1), plain_given es zs (suc d) u h.1 f.1 w.1)
