-- A source whose trusted arrays are read through steady arrays alone, and whose steady arrays are never written.
use Rattle.std.specs.Prelude.{◌≡◌, ℕ, true, false}
use Rattle.c_tree.specs.Plain.{Word, PlainExpr, lit, var, cell, un, bin, cast, test, umin, umax, least, greatest, widen, big, PlainExprs, no_exprs, more_exprs, PlainStmt, loop, choice, assign, table, begin, check, verdict, PlainStmts, no_stmts, more_stmts}
use Rattle.instrumentation.specs.Body.{full}
use Rattle.instrumentation_laws.specs.Kept.{Trust}

abbrev pub IsSteadyAt : (Word → ℕ) → Trust → PlainExpr → Type 0
IsSteadyAt number trust (cell p at) = trust.steady (number p) ≡ true
IsSteadyAt number trust e = Unit {0}

abbrev pub AllSteady : (Word → ℕ) → Trust → PlainExprs → Type 0
AllSteady number trust no_exprs = Unit {0}
AllSteady number trust (more_exprs e es) = IsSteadyAt number trust e × AllSteady number trust es

abbrev pub TrustsExpr : (Word → ℕ) → Trust → PlainExpr → Type 0
TrustsExpr number trust (lit n) = Unit {0}
TrustsExpr number trust (var x) = Unit {0}
TrustsExpr number trust (cell x at) = trust.trusted (number x) ≡ true → AllSteady number trust at
TrustsExpr number trust (un op a) = TrustsExpr number trust a
TrustsExpr number trust (bin op a b) = TrustsExpr number trust a × TrustsExpr number trust b
TrustsExpr number trust (cast a) = TrustsExpr number trust a
TrustsExpr number trust (test rel a b) = TrustsExpr number trust a × TrustsExpr number trust b
TrustsExpr number trust (umin a b) = TrustsExpr number trust a × TrustsExpr number trust b
TrustsExpr number trust (umax a b) = TrustsExpr number trust a × TrustsExpr number trust b
TrustsExpr number trust (least a b) = Unit {0}
TrustsExpr number trust (greatest a b) = Unit {0}
TrustsExpr number trust (widen a) = Unit {0}
TrustsExpr number trust (big high low) = Unit {0}

abbrev pub TrustsTarget : (Word → ℕ) → Trust → PlainExpr → Type 0
TrustsTarget number trust (cell x at) = trust.steady (number x) ≡ false
TrustsTarget number trust e = Unit {0}

abbrev mutual
  pub Trusts : (Word → ℕ) → Trust → PlainStmt → Type 0
  Trusts number trust (loop x lo rel hi body) = TrustsAll number trust body
  Trusts number trust (choice ts first other) = TrustsAll number trust first × TrustsAll number trust other
  Trusts number trust (assign t op e) = TrustsTarget number trust t × TrustsExpr number trust (full t op e)
  Trusts number trust (table x len) = Unit {0}
  Trusts number trust begin = Unit {0}
  Trusts number trust (check x extent a) = Unit {0}
  Trusts number trust verdict = Unit {0}

  pub TrustsAll : (Word → ℕ) → Trust → PlainStmts → Type 0
  TrustsAll number trust no_stmts = Unit {0}
  TrustsAll number trust (more_stmts s ss) = Trusts number trust s × TrustsAll number trust ss
