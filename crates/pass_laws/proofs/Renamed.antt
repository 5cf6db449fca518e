-- An expression of the source, its loop variables renamed, has in the copy's environment the value that it has in the source's.
use Rattle.std.proofs.Common.{◌≡◌, ℕ, suc, ◌<◌, ◌≤◌, ◌^◌, Bool, true, false, ◌||◌, List, [], ◌∷◌, ◌++◌, length, map, refl, sym, ap, ◌∙◌, arith, inl, inr, true≢false}
use Rattle.std.specs.Prelude.{bytes_eq}
use Rattle.std.proofs.lemmas.Bool.{cases_Bool}
use Rattle.c_tree.specs.Plain.{Word, PlainExpr, lit, var, cell, un, bin, cast, test, umin, umax, least, greatest, widen, big, PlainExprs, no_exprs, more_exprs, PlainTest}
use Rattle.c_tree.specs.Values.{Vars, signed, is_in, value_in, kind}
use Rattle.c_tree.specs.Kinds.{Kind, either, signed_kind, word_kind, join, is_word}
use Rattle.instrumentation.specs.Names.{pass_variable}
use Rattle.instrumentation.specs.Passes.{renamed_name, renamed, renamed_all, renamed_tests}
use Rattle.pass_laws.specs.Countable.{AreOwn, IsAffine, AreAffine, AreAffineTests, rank}
use Rattle.pass_laws.specs.Places.{IsPlace}
use Rattle.instrumentation_laws.specs.AccessList.{signed_all, tests_hold}
use Rattle.pass_laws.proofs.Names.{variable_apart, variable_may_not, own_all, own_joined}
use Rattle.instrumentation_laws.proofs.Names.{same_word, apart_by, not_in}

abbrev pub names : Vars → List Word
names vs = map (λ v. v.0) vs

-- the loops of the copy, at the values of the source's
abbrev pub copied_vars : Vars → Vars
copied_vars [] = []
copied_vars (v ∷ vs) = (pass_variable (length (names vs)), v.1) ∷ copied_vars vs

-- of two names one alone of which is among these
pub in_apart : (vs : Vars) (x y : Word) → is_in vs x ≡ true → is_in vs y ≡ false → bytes_eq y x ≡ false
in_apart vs x y h g = apart_by y x (λ same. true≢false (sym h ∙ ap (is_in vs) (sym same) ∙ g))

or_right : (a b : Bool) → (a || b) ≡ true → a ≡ false → b ≡ true
or_right true b h e = absurd (true≢false e)
or_right false b h e = h

-- a variable of the pass is none of those further out, renamed
variable_renamed : (ys : List Word) (x : Word) (n : ℕ) → ((d : ℕ) → bytes_eq (pass_variable d) x ≡ false) → length ys ≤ n → n < 2 ^ 64 → bytes_eq (pass_variable n) (renamed_name ys x) ≡ false
variable_renamed [] x n h l s = h n
variable_renamed (y ∷ ys) x n h l s =
    elim (cases_Bool (bytes_eq y x)) [
      | inl e ↦ rw e (variable_apart n (length ys) s (omega arith) (omega arith))
      | inr e ↦ rw e (variable_renamed ys x n h (omega arith) s)
    ]

-- ---- kinds

join_no_word : (a b : Kind) → is_word a ≡ false → is_word b ≡ false → is_word (join a b) ≡ false
join_no_word either b h g = g
join_no_word signed_kind b h g = refl
join_no_word word_kind b h g = h

pub affine_kind : (e : PlainExpr) (vs : Vars) → IsAffine e vs → is_word (kind vs e) ≡ false
affine_kind (lit n) vs h = refl
affine_kind (var x) vs h = rw h refl
affine_kind (cell x at) vs h = absurd h
affine_kind (un op a) vs h = affine_kind a vs h
affine_kind (bin op a b) vs h = join_no_word (kind vs a) (kind vs b) (affine_kind a vs h.0) (affine_kind b vs h.1)
affine_kind (cast a) vs h = absurd h
affine_kind (test rel a b) vs h = absurd h
affine_kind (umin a b) vs h = absurd h
affine_kind (umax a b) vs h = absurd h
affine_kind (least a b) vs h = refl
affine_kind (greatest a b) vs h = refl
affine_kind (widen a) vs h = absurd h
affine_kind (big high low) vs h = absurd h

pub affine_pair_kind : (a b : PlainExpr) (vs : Vars) → IsAffine a vs → IsAffine b vs → is_word (join (kind vs a) (kind vs b)) ≡ false
affine_pair_kind a b vs h g = join_no_word (kind vs a) (kind vs b) (affine_kind a vs h) (affine_kind b vs g)

-- ---- the copy's environment

module _ (params base : Vars) (place : IsPlace params base) (own_params : AreOwn params) where
  -- the value of a name, and that it has one
  name_renamed : (loops : Vars) (x : Word) → AreOwn loops → length (names loops) < 2 ^ 64 → is_in (loops ++ params) x ≡ true → ((d : ℕ) → bytes_eq (pass_variable d) x ≡ false) →
      (value_in (copied_vars loops ++ base) (renamed_name (names loops) x) ≡ value_in (loops ++ params) x) × (is_in (copied_vars loops ++ base) (renamed_name (names loops) x) ≡ true)
  name_renamed [] x o s h g = (place.values x h, place.has x h)
  name_renamed (v ∷ loops) x o s h g =
      elim (cases_Bool (bytes_eq v.0 x)) [
        | inl e ↦ rw (e, same_word (pass_variable (length (names loops)))) (refl, refl)
        | inr e ↦
            (let inner : (value_in (copied_vars loops ++ base) (renamed_name (names loops) x) ≡ value_in (loops ++ params) x) × (is_in (copied_vars loops ++ base) (renamed_name (names loops) x) ≡ true) =
            name_renamed loops x o.1 (omega arith) (or_right _ _ h e) g in
            let apart : bytes_eq (pass_variable (length (names loops))) (renamed_name (names loops) x) ≡ false = variable_renamed (names loops) x (length (names loops)) g (omega arith) (omega arith) in
            rw (e, apart) inner)
      ]

  module _ (loops : Vars) (own_loops : AreOwn loops) (shallow : length (names loops) < 2 ^ 64) where
    abbrev env : Vars
    env = copied_vars loops ++ base

    abbrev source_env : Vars
    source_env = loops ++ params

    apart_from : (x : Word) → is_in source_env x ≡ true → (d : ℕ) → bytes_eq (pass_variable d) x ≡ false
    apart_from x h d = in_apart source_env x (pass_variable d) h (not_in source_env (pass_variable d) (own_all source_env (own_joined loops params own_loops own_params)) (variable_may_not d))

    pub affine_renamed : (e : PlainExpr) → IsAffine e source_env → IsAffine (renamed (names loops) e) env
    affine_renamed (lit n) h = tt
    affine_renamed (var x) h = (name_renamed loops x own_loops shallow h (apart_from x h)).1
    affine_renamed (cell x at) h = h
    affine_renamed (un op a) h = affine_renamed a h
    affine_renamed (bin op a b) h = (affine_renamed a h.0, affine_renamed b h.1)
    affine_renamed (cast a) h = h
    affine_renamed (test rel a b) h = h
    affine_renamed (umin a b) h = h
    affine_renamed (umax a b) h = h
    affine_renamed (least a b) h = (affine_renamed a h.0, affine_renamed b h.1)
    affine_renamed (greatest a b) h = (affine_renamed a h.0, affine_renamed b h.1)
    affine_renamed (widen a) h = h
    affine_renamed (big high low) h = h

    pub signed_renamed : (e : PlainExpr) → IsAffine e source_env → signed (renamed (names loops) e) env ≡ signed e source_env
    signed_renamed (lit n) h = refl
    signed_renamed (var x) h = (name_renamed loops x own_loops shallow h (apart_from x h)).0
    signed_renamed (cell x at) h = refl
    signed_renamed (un op a) h = rw (signed_renamed a h) refl
    signed_renamed (bin op a b) h = rw (signed_renamed a h.0, signed_renamed b h.1) refl
    signed_renamed (cast a) h = refl
    signed_renamed (test rel a b) h = refl
    signed_renamed (umin a b) h = refl
    signed_renamed (umax a b) h = refl
    signed_renamed (least a b) h = rw (signed_renamed a h.0, signed_renamed b h.1) refl
    signed_renamed (greatest a b) h = rw (signed_renamed a h.0, signed_renamed b h.1) refl
    signed_renamed (widen a) h = refl
    signed_renamed (big high low) h = refl

    pub affine_renamed_all : (es : PlainExprs) → AreAffine es source_env → AreAffine (renamed_all (names loops) es) env
    affine_renamed_all no_exprs h = tt
    affine_renamed_all (more_exprs e es) h = (affine_renamed e h.0, affine_renamed_all es h.1)

    pub signed_renamed_all : (es : PlainExprs) → AreAffine es source_env → signed_all (renamed_all (names loops) es) env ≡ signed_all es source_env
    signed_renamed_all no_exprs h = refl
    signed_renamed_all (more_exprs e es) h = rw (signed_renamed e h.0, signed_renamed_all es h.1) refl

    pub affine_renamed_tests : (ts : List PlainTest) → AreAffineTests ts source_env → AreAffineTests (renamed_tests (names loops) ts) env
    affine_renamed_tests [] h = tt
    affine_renamed_tests (t ∷ ts) h = ((affine_renamed t.1 h.0.0, affine_renamed t.2 h.0.1), affine_renamed_tests ts h.1)

    pub tests_renamed : (ts : List PlainTest) → AreAffineTests ts source_env → tests_hold (renamed_tests (names loops) ts) env ≡ tests_hold ts source_env
    tests_renamed [] h = refl
    tests_renamed (t ∷ ts) h = rw (signed_renamed t.1 h.0.0, signed_renamed t.2 h.0.1, tests_renamed ts h.1) refl

pub rank_renamed : (xs : List Word) (es : PlainExprs) → rank (renamed_all xs es) ≡ rank es
rank_renamed xs no_exprs = refl
rank_renamed xs (more_exprs e es) = ap suc (rank_renamed xs es)

-- ---- expressions over the place of the pass, under loops of the copy

module _ (base : Vars) (variables : (d : ℕ) → is_in base (pass_variable d) ≡ false) where
  pub name_under : (loops : Vars) (x : Word) → is_in base x ≡ true → (value_in (copied_vars loops ++ base) x ≡ value_in base x) × (is_in (copied_vars loops ++ base) x ≡ true)
  name_under [] x h = (refl, h)
  name_under (v ∷ loops) x h = rw (in_apart base x (pass_variable (length (names loops))) h (variables (length (names loops)))) (name_under loops x h)

  pub affine_under : (loops : Vars) (e : PlainExpr) → IsAffine e base → IsAffine e (copied_vars loops ++ base)
  affine_under loops (lit n) h = tt
  affine_under loops (var x) h = (name_under loops x h).1
  affine_under loops (cell x at) h = h
  affine_under loops (un op a) h = affine_under loops a h
  affine_under loops (bin op a b) h = (affine_under loops a h.0, affine_under loops b h.1)
  affine_under loops (cast a) h = h
  affine_under loops (test rel a b) h = h
  affine_under loops (umin a b) h = h
  affine_under loops (umax a b) h = h
  affine_under loops (least a b) h = (affine_under loops a h.0, affine_under loops b h.1)
  affine_under loops (greatest a b) h = (affine_under loops a h.0, affine_under loops b h.1)
  affine_under loops (widen a) h = h
  affine_under loops (big high low) h = h

  pub signed_under : (loops : Vars) (e : PlainExpr) → IsAffine e base → signed e (copied_vars loops ++ base) ≡ signed e base
  signed_under loops (lit n) h = refl
  signed_under loops (var x) h = (name_under loops x h).0
  signed_under loops (cell x at) h = refl
  signed_under loops (un op a) h = rw (signed_under loops a h) refl
  signed_under loops (bin op a b) h = rw (signed_under loops a h.0, signed_under loops b h.1) refl
  signed_under loops (cast a) h = refl
  signed_under loops (test rel a b) h = refl
  signed_under loops (umin a b) h = refl
  signed_under loops (umax a b) h = refl
  signed_under loops (least a b) h = rw (signed_under loops a h.0, signed_under loops b h.1) refl
  signed_under loops (greatest a b) h = rw (signed_under loops a h.0, signed_under loops b h.1) refl
  signed_under loops (widen a) h = refl
  signed_under loops (big high low) h = refl

  pub affine_under_all : (loops : Vars) (es : PlainExprs) → AreAffine es base → AreAffine es (copied_vars loops ++ base)
  affine_under_all loops no_exprs h = tt
  affine_under_all loops (more_exprs e es) h = (affine_under loops e h.0, affine_under_all loops es h.1)

  pub signed_under_all : (loops : Vars) (es : PlainExprs) → AreAffine es base → signed_all es (copied_vars loops ++ base) ≡ signed_all es base
  signed_under_all loops no_exprs h = refl
  signed_under_all loops (more_exprs e es) h = rw (signed_under loops e h.0, signed_under_all loops es h.1) refl
