-- A subscript is a cell, or it is treated as all others are.
use Rattle.std.proofs.Common.{◌≡◌, ◌+◌, false, refl, sym, ◌∙◌, true≢false, arith}
use Rattle.c_tree.specs.Plain.{Word, PlainExpr, lit, var, cell, un, bin, cast, test, umin, umax, least, greatest, widen, big, PlainExprs, more_exprs}
use Rattle.instrumentation.specs.Subscripts.{by_cell, is_cell, indices_in}

pub cell_or_not : (P : PlainExpr → Type 0) → ((x : Word) (at : PlainExprs) → P (cell x at)) → ((e : PlainExpr) → is_cell e ≡ false → P e) → (e : PlainExpr) → P e
cell_or_not P h k (cell x at) = h x at
cell_or_not P h k (lit n) = k (lit n) refl
cell_or_not P h k (var x) = k (var x) refl
cell_or_not P h k (un op e) = k (un op e) refl
cell_or_not P h k (bin op e g) = k (bin op e g) refl
cell_or_not P h k (cast e) = k (cast e) refl
cell_or_not P h k (test rel e g) = k (test rel e g) refl
cell_or_not P h k (umin e g) = k (umin e g) refl
cell_or_not P h k (umax e g) = k (umax e g) refl
cell_or_not P h k (least e g) = k (least e g) refl
cell_or_not P h k (greatest e g) = k (greatest e g) refl
cell_or_not P h k (widen e) = k (widen e) refl
cell_or_not P h k (big high low) = k (big high low) refl

pub not_by_cell : {A : Type 0} (e : PlainExpr) (f : Word → PlainExprs → A) (a : A) → is_cell e ≡ false → by_cell e f a ≡ a
not_by_cell (cell x at) f a h = absurd (true≢false h)
not_by_cell (lit n) f a h = refl
not_by_cell (var x) f a h = refl
not_by_cell (un op e) f a h = refl
not_by_cell (bin op e g) f a h = refl
not_by_cell (cast e) f a h = refl
not_by_cell (test rel e g) f a h = refl
not_by_cell (umin e g) f a h = refl
not_by_cell (umax e g) f a h = refl
not_by_cell (least e g) f a h = refl
not_by_cell (greatest e g) f a h = refl
not_by_cell (widen e) f a h = refl
not_by_cell (big high low) f a h = refl

-- without index cells the first subscript is none, and the others have none
pub first_plain : (e : PlainExpr) (es : PlainExprs) → indices_in (more_exprs e es) ≡ 0 → is_cell e ≡ false
first_plain e es h = cell_or_not (λ e. indices_in (more_exprs e es) ≡ 0 → is_cell e ≡ false) (λ x at h. absurd (let z : 1 + indices_in es ≡ 0 = h in omega arith)) (λ e k h. k) e h

pub others_plain : (e : PlainExpr) (es : PlainExprs) → indices_in (more_exprs e es) ≡ 0 → indices_in es ≡ 0
others_plain e es h = sym (not_by_cell e (λ x at. 1 + indices_in es) (indices_in es) (first_plain e es h)) ∙ h
