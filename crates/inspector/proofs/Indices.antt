-- The index arrays of a source, in its expressions.
use Rattle.std.proofs.Common.{◌≡◌, eq-eqb, ℕ, ◌||◌, Bool, true, false, List, refl}
use Rattle.std.specs.Prelude.{nat_eq}
use Rattle.c_tree.specs.Plain.{Word, PlainExpr, lit, var, cell, un, bin, cast, test, umin, umax, least, greatest, widen, big, PlainExprs, no_exprs, more_exprs}
use Rattle.c_tree.specs.Values.{Vars}
use Rattle.c_tree.specs.Arrays.{Array}
use Rattle.inspection_laws.specs.Walked.{ArePlainAt, AreWalkedAt}
use Rattle.guard_laws.specs.IndexArrays.{indexed_by, reads_through}

pub or_left : (b c : Bool) → b ≡ true → (b || c) ≡ true
or_left true c e = refl
or_left false c e = absurd (let f : false ≡ true = e in cc)

pub or_right : (b c : Bool) → c ≡ true → (b || c) ≡ true
or_right true c e = refl
or_right false c e = e

module _ (arrays : List Array) (number : Word → ℕ) (is_index : ℕ → Bool) where
  abbrev pub Through : PlainExpr → Type 0
  Through e = (a : ℕ) → reads_through number a e ≡ true → is_index a ≡ true

  abbrev pub By : PlainExprs → Type 0
  By es = (a : ℕ) → indexed_by number a es ≡ true → is_index a ≡ true

  pub first_by : (p : Word) (at es : PlainExprs) → By (more_exprs (cell p at) es) → is_index (number p) ≡ true
  first_by p at es h = h (number p) (or_left (nat_eq (number p) (number p)) (indexed_by number (number p) es) (eq-eqb (number p) (number p) refl))

  pub rest_by : (p : Word) (at es : PlainExprs) → By (more_exprs (cell p at) es) → By es
  rest_by p at es h = λ a e. h a (or_right (nat_eq (number p) a) (indexed_by number a es) e)

  pub left_through : (e f : PlainExpr) → ((a : ℕ) → (reads_through number a e || reads_through number a f) ≡ true → is_index a ≡ true) → Through e
  left_through e f h = λ a g. h a (or_left (reads_through number a e) (reads_through number a f) g)

  pub right_through : (e f : PlainExpr) → ((a : ℕ) → (reads_through number a e || reads_through number a f) ≡ true → is_index a ≡ true) → Through f
  right_through e f h = λ a g. h a (or_right (reads_through number a e) (reads_through number a f) g)

  pub plain_by : (es : PlainExprs) (vs : Vars) → ArePlainAt es vs → By es
  plain_by no_exprs vs w = λ a e. absurd (let f : false ≡ true = e in cc)
  plain_by (more_exprs (cell p at) es) vs w = absurd w.0.0
  plain_by (more_exprs (lit n) es) vs w = plain_by es vs w.1
  plain_by (more_exprs (var y) es) vs w = plain_by es vs w.1
  plain_by (more_exprs (un op f) es) vs w = plain_by es vs w.1
  plain_by (more_exprs (bin op f g) es) vs w = plain_by es vs w.1
  plain_by (more_exprs (cast f) es) vs w = plain_by es vs w.1
  plain_by (more_exprs (test rel f g) es) vs w = plain_by es vs w.1
  plain_by (more_exprs (umin f g) es) vs w = plain_by es vs w.1
  plain_by (more_exprs (umax f g) es) vs w = plain_by es vs w.1
  plain_by (more_exprs (least f g) es) vs w = plain_by es vs w.1
  plain_by (more_exprs (greatest f g) es) vs w = plain_by es vs w.1
  plain_by (more_exprs (widen f) es) vs w = plain_by es vs w.1
  plain_by (more_exprs (big high low) es) vs w = plain_by es vs w.1

  pub plain_walked : (es : PlainExprs) (vs : Vars) → ArePlainAt es vs → AreWalkedAt arrays number es vs
  plain_walked no_exprs vs w = tt
  plain_walked (more_exprs (cell p at) es) vs w = absurd w.0.0
  plain_walked (more_exprs (lit n) es) vs w = (w.0, plain_walked es vs w.1)
  plain_walked (more_exprs (var y) es) vs w = (w.0, plain_walked es vs w.1)
  plain_walked (more_exprs (un op f) es) vs w = (w.0, plain_walked es vs w.1)
  plain_walked (more_exprs (bin op f g) es) vs w = (w.0, plain_walked es vs w.1)
  plain_walked (more_exprs (cast f) es) vs w = (w.0, plain_walked es vs w.1)
  plain_walked (more_exprs (test rel f g) es) vs w = (w.0, plain_walked es vs w.1)
  plain_walked (more_exprs (umin f g) es) vs w = (w.0, plain_walked es vs w.1)
  plain_walked (more_exprs (umax f g) es) vs w = (w.0, plain_walked es vs w.1)
  plain_walked (more_exprs (least f g) es) vs w = (w.0, plain_walked es vs w.1)
  plain_walked (more_exprs (greatest f g) es) vs w = (w.0, plain_walked es vs w.1)
  plain_walked (more_exprs (widen f) es) vs w = (w.0, plain_walked es vs w.1)
  plain_walked (more_exprs (big high low) es) vs w = (w.0, plain_walked es vs w.1)
