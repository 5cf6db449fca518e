-- Signed subscripts have no index cell, and those that have none are signed.
use Rattle.std.proofs.Common.{◌≡◌, ◌+◌, Bool, false, refl, sym, ◌∙◌, arith}
use Rattle.c_tree.specs.Plain.{PlainExpr, lit, var, cell, un, bin, cast, test, umin, umax, least, greatest, widen, big, PlainExprs, no_exprs, more_exprs}
use Rattle.instrumentation.specs.Subscripts.{is_cell, indices_in}
use Rattle.instrumentation.proofs.Subscripts.{cell_or_not, not_by_cell}
use Rattle.acceptance.specs.Items.{Scope}
use Rattle.acceptance_laws.proofs.Expressions.{IsIndex, AreIndices, IsSubscript, AreReadable, subscript_index}

index_no_cell : (sc : Scope) (bound : Bool) (e : PlainExpr) → IsIndex sc bound e → is_cell e ≡ false
index_no_cell sc bound (cell x at) h = absurd h
index_no_cell sc bound (lit n) h = refl
index_no_cell sc bound (var x) h = refl
index_no_cell sc bound (un op a) h = refl
index_no_cell sc bound (bin op a b) h = refl
index_no_cell sc bound (cast a) h = refl
index_no_cell sc bound (test rel a b) h = refl
index_no_cell sc bound (umin a b) h = refl
index_no_cell sc bound (umax a b) h = refl
index_no_cell sc bound (least a b) h = refl
index_no_cell sc bound (greatest a b) h = refl
index_no_cell sc bound (widen a) h = refl
index_no_cell sc bound (big high low) h = refl

pub no_index_cells : (sc : Scope) (at : PlainExprs) → AreIndices sc at → indices_in at ≡ 0
no_index_cells sc no_exprs h = refl
no_index_cells sc (more_exprs e es) h = not_by_cell e (λ x at. 1 + indices_in es) (indices_in es) (index_no_cell sc false e h.0) ∙ no_index_cells sc es h.1

pub readable_indices : (sc : Scope) (at : PlainExprs) → AreReadable sc at → indices_in at ≡ 0 → AreIndices sc at
readable_indices sc no_exprs h n = tt
readable_indices sc (more_exprs e es) h n =
    cell_or_not (λ e. indices_in (more_exprs e es) ≡ 0 → IsSubscript sc e → AreIndices sc (more_exprs e es))
    (λ x at m g. absurd (let z : 1 + indices_in es ≡ 0 = m in omega arith))
    (λ e other m g. (subscript_index sc e other g, readable_indices sc es h.1 (sym (not_by_cell e (λ x at. 1 + indices_in es) (indices_in es) other) ∙ m)))
    e n h.0
