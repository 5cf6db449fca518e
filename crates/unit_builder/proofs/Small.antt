-- An accepted source is small.
use Rattle.std.proofs.Common.{ℕ, ◌+◌, ◌≤◌, List, [], ◌∷◌, ◌++◌, Option, Some, None, arith}
use Rattle.std.specs.List.{AllByRecursion}
use Rattle.c_tree.specs.Plain.{Word, PlainExpr, lit, var, cell, un, bin, cast, test, umin, umax, least, greatest, widen, big, PlainExprs, no_exprs, more_exprs, PlainStmt, loop, choice, assign, table, begin, check, verdict, PlainStmts, no_stmts, more_stmts, PlainUnit}
use Rattle.c_tree.specs.declared.expr.BinOp.{BinOp}
use Rattle.acceptance.specs.Items.{Item, Loop, items, items_all, tables_after}
use Rattle.acceptance.specs.Limits.{cells_in, cells_in_all, reads_of}
use Rattle.acceptance.specs.Sources.{IsAcceptedSource}
use Rattle.instrumentation.specs.Subscripts.{by_cell, indices_in}
use Rattle.instrumentation.specs.Body.{reads_in, full, registers, registers_all}
use Rattle.text_parts.specs.Small.{IsSmall}
use Rattle.unit_builder.proofs.Unrefused.{few_assignments, few_reads}

-- index cells are among the cells of a list
by_cell_within : (e : PlainExpr) (n m : ℕ) → n ≤ m → by_cell e (λ x at. 1 + n) n ≤ cells_in e + m
by_cell_within (lit k) n m h = omega arith
by_cell_within (var x) n m h = omega arith
by_cell_within (cell x at) n m h = omega arith
by_cell_within (un op a) n m h = omega arith
by_cell_within (bin op a b) n m h = omega arith
by_cell_within (cast a) n m h = omega arith
by_cell_within (test rel a b) n m h = omega arith
by_cell_within (umin a b) n m h = omega arith
by_cell_within (umax a b) n m h = omega arith
by_cell_within (least a b) n m h = omega arith
by_cell_within (greatest a b) n m h = omega arith
by_cell_within (widen a) n m h = omega arith
by_cell_within (big high low) n m h = omega arith

indices_within : (es : PlainExprs) → indices_in es ≤ cells_in_all es
indices_within no_exprs = omega arith
indices_within (more_exprs e es) = by_cell_within e (indices_in es) (cells_in_all es) (indices_within es)

-- the cells that an expression reads are among those that stand in it
reads_within : (e : PlainExpr) → reads_in e ≤ cells_in e
reads_within (lit n) = omega arith
reads_within (var x) = omega arith
reads_within (cell x at) = let h = indices_within at in omega arith
reads_within (un op a) = reads_within a
reads_within (bin op a b) = let g = reads_within a in let h = reads_within b in omega arith
reads_within (cast a) = reads_within a
reads_within (test rel a b) = let g = reads_within a in let h = reads_within b in omega arith
reads_within (umin a b) = let g = reads_within a in let h = reads_within b in omega arith
reads_within (umax a b) = let g = reads_within a in let h = reads_within b in omega arith
reads_within (least a b) = omega arith
reads_within (greatest a b) = omega arith
reads_within (widen a) = omega arith
reads_within (big high low) = omega arith

reads_of_full : (t : PlainExpr) (op : Option BinOp) (e : PlainExpr) → reads_in (full t op e) ≤ reads_of (assign t op e)
reads_of_full t None e = let h = reads_within e in omega arith
reads_of_full t (Some op) e = let g = reads_within t in let h = reads_within e in omega arith

abbrev FewReads : List Item → Type 0
FewReads = AllByRecursion (λ i. reads_of i.stmt ≤ 16)

front : (xs ys : List Item) → FewReads (xs ++ ys) → FewReads xs
front [] ys h = tt
front (x ∷ xs) ys h = (h.0, front xs ys h.1)

back : (xs ys : List Item) → FewReads (xs ++ ys) → FewReads ys
back [] ys h = h
back (x ∷ xs) ys h = back xs ys h.1

mutual
  few_registers : (s : PlainStmt) (ls : List Loop) (ts : List Word) → FewReads (items s ls ts) → registers s ≤ 16
  few_registers (loop x lo rel hi body) ls ts h = few_registers_all body (record { name = x; lo = lo; rel = rel; hi = hi } ∷ ls) ts h.1
  few_registers (choice tests first other) ls ts h =
      let f = few_registers_all first ls ts (front (items_all first ls ts) (items_all other ls ts) h.1) in
      let g = few_registers_all other ls ts (back (items_all first ls ts) (items_all other ls ts) h.1) in
      omega arith
  few_registers (assign t op e) ls ts h = let f = reads_of_full t op e in let g : reads_of (assign t op e) ≤ 16 = h.0 in omega arith
  few_registers (table x len) ls ts h = omega arith
  few_registers begin ls ts h = omega arith
  few_registers (check x extent a) ls ts h = omega arith
  few_registers verdict ls ts h = omega arith

  few_registers_all : (ss : PlainStmts) (ls : List Loop) (ts : List Word) → FewReads (items_all ss ls ts) → registers_all ss ≤ 16
  few_registers_all no_stmts ls ts h = omega arith
  few_registers_all (more_stmts s ss) ls ts h =
      let f = few_registers s ls ts (front (items s ls ts) (items_all ss ls (tables_after s ts)) h) in
      let g = few_registers_all ss ls (tables_after s ts) (back (items s ls ts) (items_all ss ls (tables_after s ts)) h) in
      omega arith

pub accepted_small : (u : PlainUnit) → IsAcceptedSource u → IsSmall u.body
unfolding IsSmall
accepted_small u accepted = (few_assignments u accepted.refused_nowhere, few_registers_all u.body [] [] (few_reads u accepted.refused_nowhere), accepted.tree.low.stmts)
