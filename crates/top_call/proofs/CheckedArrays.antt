-- The checks of a unit of the grammar name its arrays alone.
use Rattle.std.proofs.Common.{◌≡◌, ℕ, Bool, true, false, List, [], ◌∷◌, ◌++◌, length, sym, subst, inl, inr}
use Rattle.c_tree.specs.Names.{arrays_in}
use Rattle.c_tree.specs.Plain.{PlainStmt, loop, choice, assign, table, begin, check, verdict, PlainStmts, no_stmts, more_stmts, PlainUnit}
use Rattle.c_tree.specs.Trees.{stmts_of}
use Rattle.acceptance.specs.Runnable.{IsRunnable}
use Rattle.acceptance.specs.Trees.{IsInner, AreInner, IsTop, AreTop, IsPrintedTree}
use Rattle.top_call.proofs.Named.{ChecksBelow, AllCheckBelow}

mutual
  inner_below : (p : Bool) (n : ℕ) (s : PlainStmt) → IsInner p n s → ChecksBelow n s
  inner_below p n (loop x lo rel hi body) h = all_below p n body h.4
  inner_below p n (choice ts first other) h = (all_below p n first h.1, all_below p n other h.2)
  inner_below p n (assign target op e) h = tt
  inner_below p n (table x len) h = tt
  inner_below p n begin h = tt
  inner_below p n (check x extent a) h = h.4
  inner_below p n verdict h = tt

  all_below : (p : Bool) (n : ℕ) (ss : PlainStmts) → AreInner p n ss → AllCheckBelow n ss
  all_below p n no_stmts h = tt
  all_below p n (more_stmts s ss) h = (inner_below p n s h.0, all_below p n ss h.1)

top_below : (n : ℕ) (s : PlainStmt) → IsTop n s → ChecksBelow n s
top_below n (table x len) h = tt
top_below n (loop x lo rel hi body) h = inner_below true n (loop x lo rel hi body) h
top_below n (choice ts first other) h = inner_below true n (choice ts first other) h
top_below n (assign target op e) h = tt
top_below n begin h = tt
top_below n (check x extent a) h = inner_below true n (check x extent a) h
top_below n verdict h = tt

joined : (n : ℕ) (ss : List PlainStmt) (rest : List PlainStmt) → AreTop n ss → AllCheckBelow n (stmts_of rest) → AllCheckBelow n (stmts_of (ss ++ rest))
joined n [] rest h g = g
joined n (s ∷ ss) rest h g = (top_below n s h.0, joined n ss rest h.1 g)

no_check : (n : ℕ) → false ≡ true → ⊥
no_check n h = cc

mutual
  source_below : (n : ℕ) (s : PlainStmt) → IsInner false 0 s → ChecksBelow n s
  source_below n (loop x lo rel hi body) h = sources_below n body h.4
  source_below n (choice ts first other) h = (sources_below n first h.1, sources_below n other h.2)
  source_below n (assign target op e) h = tt
  source_below n (table x len) h = tt
  source_below n begin h = tt
  source_below n (check x extent a) h = absurd (no_check n h.0)
  source_below n verdict h = tt

  sources_below : (n : ℕ) (ss : PlainStmts) → AreInner false 0 ss → AllCheckBelow n ss
  sources_below n no_stmts h = tt
  sources_below n (more_stmts s ss) h = (source_below n s h.0, sources_below n ss h.1)

printed_below : (u : PlainUnit) → IsPrintedTree u → AllCheckBelow (length (arrays_in u.params)) u.body
printed_below u tree =
    let n = length (arrays_in u.params) in
    subst (AllCheckBelow n) (sym tree.parts)
    (joined n tree.before (begin ∷ (tree.after ++ verdict ∷ [])) tree.before_trees (tt, joined n tree.after (verdict ∷ []) tree.after_trees (tt, tt)))

pub checks_below : (u : PlainUnit) → IsRunnable u → AllCheckBelow (length (arrays_in u.params)) u.body
checks_below u (inl source) = sources_below (length (arrays_in u.params)) u.body source.tree.body
checks_below u (inr printed) = printed_below u printed.tree
