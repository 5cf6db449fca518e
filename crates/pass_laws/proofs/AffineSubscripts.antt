-- Affine subscripts have no index cell.
use Rattle.std.proofs.Common.{◌≡◌, ◌+◌, false, refl, ◌∙◌}
use Rattle.c_tree.specs.Plain.{PlainExpr, lit, var, cell, un, bin, cast, test, umin, umax, least, greatest, widen, big, PlainExprs, no_exprs, more_exprs}
use Rattle.c_tree.specs.Values.{Vars}
use Rattle.instrumentation.specs.Subscripts.{is_cell, indices_in}
use Rattle.instrumentation.proofs.Subscripts.{not_by_cell}
use Rattle.pass_laws.specs.Countable.{IsAffine, AreAffine}

pub affine_no_cell : (e : PlainExpr) (vs : Vars) → IsAffine e vs → is_cell e ≡ false
affine_no_cell (cell x at) vs h = absurd h
affine_no_cell (lit n) vs h = refl
affine_no_cell (var x) vs h = refl
affine_no_cell (un op a) vs h = refl
affine_no_cell (bin op a b) vs h = refl
affine_no_cell (cast a) vs h = refl
affine_no_cell (test rel a b) vs h = refl
affine_no_cell (umin a b) vs h = refl
affine_no_cell (umax a b) vs h = refl
affine_no_cell (least a b) vs h = refl
affine_no_cell (greatest a b) vs h = refl
affine_no_cell (widen a) vs h = refl
affine_no_cell (big high low) vs h = refl

pub affine_indices : (at : PlainExprs) (vs : Vars) → AreAffine at vs → indices_in at ≡ 0
affine_indices no_exprs vs h = refl
affine_indices (more_exprs e es) vs h = not_by_cell e (λ x at. 1 + indices_in es) (indices_in es) (affine_no_cell e vs h.0) ∙ affine_indices es vs h.1
