-- Where each value of a source's run is a word below 2^64.
use Rattle.std.specs.Prelude.{◌^◌, ◌<◌, ◌∷◌}
use Rattle.std.specs.List.{AllByRecursion}
use Rattle.c_tree.specs.Plain.{PlainExpr, lit, var, cell, un, bin, cast, test, umin, umax, least, greatest, widen, big, PlainStmt, loop, choice, assign, table, begin, check, verdict, PlainStmts, no_stmts, more_stmts}
use Rattle.c_tree.specs.Values.{Vars, signed, loop_values}
use Rattle.instrumentation.specs.Body.{full}

-- the literals are words
abbrev pub GivesWord : PlainExpr → Type 0
GivesWord (lit n) = n < 2 ^ 64
GivesWord (var x) = Unit {0}
GivesWord (cell x at) = Unit {0}
GivesWord (un op a) = GivesWord a
GivesWord (bin op a b) = GivesWord a × GivesWord b
GivesWord (cast a) = GivesWord a
GivesWord (test rel a b) = GivesWord a × GivesWord b
GivesWord (umin a b) = GivesWord a × GivesWord b
GivesWord (umax a b) = GivesWord a × GivesWord b
GivesWord (least a b) = Unit {0}
GivesWord (greatest a b) = Unit {0}
GivesWord (widen a) = Unit {0}
GivesWord (big high low) = Unit {0}

-- in each assignment, for the loop values that the run goes through
abbrev mutual
  pub AssignsWords : PlainStmt → Vars → Type 0
  AssignsWords (loop x lo rel hi body) vs = AllByRecursion (λ v. AllAssignWords body ((x, v) ∷ vs)) (loop_values (signed lo vs) rel (signed hi vs))
  AssignsWords (choice ts first other) vs = AllAssignWords first vs × AllAssignWords other vs
  AssignsWords (assign t op e) vs = GivesWord (full t op e)
  AssignsWords (table x len) vs = Unit {0}
  AssignsWords begin vs = Unit {0}
  AssignsWords (check x extent n) vs = Unit {0}
  AssignsWords verdict vs = Unit {0}

  pub AllAssignWords : PlainStmts → Vars → Type 0
  AllAssignWords no_stmts vs = Unit {0}
  AllAssignWords (more_stmts s ss) vs = AssignsWords s vs × AllAssignWords ss vs
