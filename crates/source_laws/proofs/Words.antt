-- The literals of a source are words, and so are the values of its assignments.
use Rattle.std.proofs.Common.{false, List, [], ◌∷◌, ℤ, Option, Some, None}
use Rattle.std.specs.List.{AllByRecursion}
use Rattle.c_tree.specs.Plain.{PlainExpr, lit, var, cell, un, bin, cast, test, umin, umax, least, greatest, widen, big, PlainStmt, loop, choice, assign, table, begin, check, verdict, PlainStmts, no_stmts, more_stmts}
use Rattle.c_tree.specs.Values.{Vars, signed, loop_values}
use Rattle.c_tree.specs.declared.expr.BinOp.{BinOp}
use Rattle.instrumentation.specs.Body.{full}
use Rattle.instrumentation_laws.specs.WordValues.{GivesWord, AssignsWords, AllAssignWords}
use Rattle.acceptance.specs.Trees.{IsTree, IsInner, AreInner}

gives_word : (e : PlainExpr) → IsTree false e → GivesWord e
gives_word (lit n) t = t
gives_word (var x) t = tt
gives_word (cell x at) t = tt
gives_word (un op a) t = gives_word a t
gives_word (bin op a b) t = (gives_word a t.0, gives_word b t.1)
gives_word (cast a) t = gives_word a t
gives_word (test rel a b) t = (gives_word a t.0, gives_word b t.1)
gives_word (umin a b) t = (gives_word a t.0, gives_word b t.1)
gives_word (umax a b) t = (gives_word a t.0, gives_word b t.1)
gives_word (least a b) t = tt
gives_word (greatest a b) t = tt
gives_word (widen a) t = tt
gives_word (big high low) t = tt

full_word : (t : PlainExpr) (op : Option BinOp) (e : PlainExpr) → GivesWord t → GivesWord e → GivesWord (full t op e)
full_word t None e g f = f
full_word t (Some op) e g f = (g, f)

for_each : (P : ℤ → Type 0) → ((v : ℤ) → P v) → (vs : List ℤ) → AllByRecursion P vs
for_each P each [] = tt
for_each P each (v ∷ vs) = (each v, for_each P each vs)

mutual
  assigns_words : (s : PlainStmt) (vs : Vars) → IsInner false 0 s → AssignsWords s vs
  assigns_words (loop x lo rel hi body) vs h = for_each (λ v. AllAssignWords body ((x, v) ∷ vs)) (λ v. all_assign_words body ((x, v) ∷ vs) h.4) (loop_values (signed lo vs) rel (signed hi vs))
  assigns_words (choice ts first other) vs h = (all_assign_words first vs h.1, all_assign_words other vs h.2)
  assigns_words (assign t op e) vs h = full_word t op e (gives_word t h.2) (gives_word e h.3)
  assigns_words (table x len) vs h = tt
  assigns_words begin vs h = tt
  assigns_words (check x e a) vs h = tt
  assigns_words verdict vs h = tt

  pub all_assign_words : (ss : PlainStmts) (vs : Vars) → AreInner false 0 ss → AllAssignWords ss vs
  all_assign_words no_stmts vs h = tt
  all_assign_words (more_stmts s ss) vs h = (assigns_words s vs h.0, all_assign_words ss vs h.1)
