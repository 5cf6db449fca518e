-- A signed subscript is no cell.
use Rattle.std.proofs.Common.{◌≡◌, ℕ, ◌+◌, false, List, refl, ◌∙◌, ℤ, true≢false}
use Rattle.c_tree.specs.Plain.{Word, PlainExpr, lit, var, cell, un, bin, cast, test, umin, umax, least, greatest, widen, big, PlainExprs, no_exprs, more_exprs}
use Rattle.c_tree.specs.Kinds.{is_word}
use Rattle.c_tree.specs.Values.{Vars, kind}
use Rattle.c_tree.specs.Arrays.{Array}
use Rattle.instrumentation.specs.Subscripts.{is_cell, indices_in}
use Rattle.instrumentation.proofs.Subscripts.{not_by_cell}
use Rattle.instrumentation_laws.specs.RegularSources.{AreRegular}
use Rattle.instrumentation_laws.specs.Sources.{IsSubscript}

pub no_cell : (e : PlainExpr) (vs : Vars) → is_word (kind vs e) ≡ false → is_cell e ≡ false
no_cell (lit n) vs h = refl
no_cell (var x) vs h = refl
no_cell (cell x at) vs h = h
no_cell (un op e) vs h = refl
no_cell (bin op e g) vs h = refl
no_cell (cast e) vs h = refl
no_cell (test rel e g) vs h = refl
no_cell (umin e g) vs h = refl
no_cell (umax e g) vs h = refl
no_cell (least e g) vs h = refl
no_cell (greatest e g) vs h = refl
no_cell (widen e) vs h = refl
no_cell (big high low) vs h = refl

pub no_indices : (at : PlainExprs) (vs : Vars) → AreRegular at vs → indices_in at ≡ 0
no_indices no_exprs vs h = refl
no_indices (more_exprs e es) vs h = not_by_cell e (λ x at. 1 + indices_in es) (indices_in es) (no_cell e vs h.0) ∙ no_indices es vs h.1

pub plain_kind : (arrays : List Array) (number : Word → ℕ) (i : Type 0) (e n : PlainExpr) (z : ℤ) (vs : Vars) → is_cell e ≡ false → IsSubscript arrays number i e n z vs → is_word (kind vs e) ≡ false
plain_kind arrays number i (cell x at) n z vs h k = absurd (true≢false h)
plain_kind arrays number i (lit m) n z vs h k = k
plain_kind arrays number i (var x) n z vs h k = k
plain_kind arrays number i (un op e) n z vs h k = k
plain_kind arrays number i (bin op e g) n z vs h k = k
plain_kind arrays number i (cast e) n z vs h k = k
plain_kind arrays number i (test rel e g) n z vs h k = k
plain_kind arrays number i (umin e g) n z vs h k = k
plain_kind arrays number i (umax e g) n z vs h k = k
plain_kind arrays number i (least e g) n z vs h k = k
plain_kind arrays number i (greatest e g) n z vs h k = k
plain_kind arrays number i (widen e) n z vs h k = k
plain_kind arrays number i (big high low) n z vs h k = k
