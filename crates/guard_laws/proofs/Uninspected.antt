-- Where no array is inspected there is no index array.
use Rattle.std.proofs.Common.{◌≡◌, ℕ, Bool, true, false, not, ◌&&◌, ◌||◌, ◌+◌, nat_eq, arith, refl, sym, ap, ◌∙◌, eq-eqb, true≢false}
use Rattle.std.proofs.lemmas.Bool.{eqb-true}
use Rattle.c_tree.specs.Plain.{Word, PlainExpr, lit, var, cell, un, bin, cast, test, umin, umax, least, greatest, widen, big, PlainExprs, no_exprs, more_exprs, PlainStmt, loop, choice, assign, table, begin, check, verdict, PlainStmts, no_stmts, more_stmts}
use Rattle.instrumentation.specs.Subscripts.{indices_in}
use Rattle.instrumentation.specs.Body.{full}
use Rattle.instrumentation.specs.Inspects.{read_irregularly, inspects, inspects_all}
use Rattle.instrumentation.proofs.Subscripts.{cell_or_not, not_by_cell}
use Rattle.guard_laws.specs.IndexArrays.{indexed_by, reads_through, indexes, indexes_all}

both_false : (x y : Bool) → x ≡ false → y ≡ false → (x || y) ≡ false
both_false true y e f = absurd (true≢false e)
both_false false y e f = f

left_false : (x y : Bool) → (x || y) ≡ false → x ≡ false
left_false true y e = e
left_false false y e = refl

right_false : (x y : Bool) → (x || y) ≡ false → y ≡ false
right_false true y e = absurd (true≢false e)
right_false false y e = e

no_cells : (number : Word → ℕ) (a : ℕ) (at : PlainExprs) → nat_eq (indices_in at) 0 ≡ true → indexed_by number a at ≡ false
no_cells number a no_exprs h = refl
no_cells number a (more_exprs e es) h =
    cell_or_not (λ e. nat_eq (indices_in (more_exprs e es)) 0 ≡ true → indexed_by number a (more_exprs e es) ≡ false)
    (λ p at k. absurd (let n : 1 + indices_in es ≡ 0 = eqb-true (1 + indices_in es) 0 k in omega arith))
    (λ e other k.
    not_by_cell e (λ p at. nat_eq (number p) a || indexed_by number a es) (indexed_by number a es) other ∙
    no_cells number a es (sym (ap (λ n. nat_eq n 0) (not_by_cell e (λ x at. 1 + indices_in es) (indices_in es) other)) ∙ k))
    e h

cell_none : (number : Word → ℕ) (a : ℕ) (x : Word) (at : PlainExprs) → read_irregularly number (number x) (cell x at) ≡ false → indexed_by number a at ≡ false
cell_none number a x at h = chosen (nat_eq (indices_in at) 0) refl
  where
    chosen : (b : Bool) → nat_eq (indices_in at) 0 ≡ b → indexed_by number a at ≡ false
    chosen true e = no_cells number a at e
    chosen false e = absurd (true≢false (sym (ap (λ b. b && not (nat_eq (indices_in at) 0)) (eq-eqb (number x) (number x) refl) ∙ ap not e) ∙ h))

reads_none : (number : Word → ℕ) (a : ℕ) (e : PlainExpr) → ((b : ℕ) → read_irregularly number b e ≡ false) → reads_through number a e ≡ false
reads_none number a (lit n) h = refl
reads_none number a (var x) h = refl
reads_none number a (cell x at) h = cell_none number a x at (h (number x))
reads_none number a (un op e) h = reads_none number a e h
reads_none number a (bin op e g) h = both_false (reads_through number a e) (reads_through number a g) (reads_none number a e (λ b. left_false (read_irregularly number b e) (read_irregularly number b g) (h b))) (reads_none number a g (λ b. right_false (read_irregularly number b e) (read_irregularly number b g) (h b)))
reads_none number a (cast e) h = reads_none number a e h
reads_none number a (test rel e g) h = both_false (reads_through number a e) (reads_through number a g) (reads_none number a e (λ b. left_false (read_irregularly number b e) (read_irregularly number b g) (h b))) (reads_none number a g (λ b. right_false (read_irregularly number b e) (read_irregularly number b g) (h b)))
reads_none number a (umin e g) h = both_false (reads_through number a e) (reads_through number a g) (reads_none number a e (λ b. left_false (read_irregularly number b e) (read_irregularly number b g) (h b))) (reads_none number a g (λ b. right_false (read_irregularly number b e) (read_irregularly number b g) (h b)))
reads_none number a (umax e g) h = both_false (reads_through number a e) (reads_through number a g) (reads_none number a e (λ b. left_false (read_irregularly number b e) (read_irregularly number b g) (h b))) (reads_none number a g (λ b. right_false (read_irregularly number b e) (read_irregularly number b g) (h b)))
reads_none number a (least e g) h = refl
reads_none number a (greatest e g) h = refl
reads_none number a (widen e) h = refl
reads_none number a (big high low) h = refl

mutual
  one_none : (number : Word → ℕ) (a : ℕ) (p : PlainStmt) → ((b : ℕ) → inspects number b p ≡ false) → indexes number a p ≡ false
  one_none number a (loop x lo rel hi body) h = all_none number a body h
  one_none number a (choice ts first other) h =
      both_false (indexes_all number a first) (indexes_all number a other) (all_none number a first (λ b. left_false (inspects_all number b first) (inspects_all number b other) (h b)))
      (all_none number a other (λ b. right_false (inspects_all number b first) (inspects_all number b other) (h b)))
  one_none number a (assign t op e) h = reads_none number a (full t op e) h
  one_none number a (table x len) h = refl
  one_none number a begin h = refl
  one_none number a (check x extent n) h = refl
  one_none number a verdict h = refl

  pub all_none : (number : Word → ℕ) (a : ℕ) (ps : PlainStmts) → ((b : ℕ) → inspects_all number b ps ≡ false) → indexes_all number a ps ≡ false
  all_none number a no_stmts h = refl
  all_none number a (more_stmts p ps) h =
      both_false (indexes number a p) (indexes_all number a ps) (one_none number a p (λ b. left_false (inspects number b p) (inspects_all number b ps) (h b)))
      (all_none number a ps (λ b. right_false (inspects number b p) (inspects_all number b ps) (h b)))
