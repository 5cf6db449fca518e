-- Runs that go on: how statements and turns are put in a row.
use Rattle.std.proofs.Common.{◌≡◌, List, [], ◌∷◌, ◌++◌, refl, sym, subst, ℤ}
use Rattle.c_tree.specs.Plain.{PlainStmt, no_stmts}
use Rattle.c_tree.specs.Trees.{stmts_of}
use Rattle.c_tree.specs.Values.{Vars}
use Rattle.c_tree.specs.Run.{State, Outcome, goes_on, ends, Run, and_then, Scope, exec, exec_all, over}
use Rattle.pass_laws.specs.Going.{GoesTo}
use Rattle.instrumentation_laws.proofs.Steps.{exec_join}

pub must_then : (P Q : State → Type 0) (o : Outcome (Unit {0})) (f : Unit {0} → Run (Unit {0})) → GoesTo P o → ((s : State) → P s → GoesTo Q (f tt s)) → GoesTo Q (and_then o f)
must_then P Q (goes_on u s) f p h = h s p
must_then P Q (ends e s) f p h = p

pub must_weaker : (P Q : State → Type 0) (o : Outcome (Unit {0})) → ((s : State) → P s → Q s) → GoesTo P o → GoesTo Q o
must_weaker P Q (goes_on u s) h p = h s p
must_weaker P Q (ends e s) h p = p

pub must_join : (sc : Scope) (P Q : State → Type 0) (xs ys : List PlainStmt) (vs : Vars) (s : State) → GoesTo P (exec_all sc (stmts_of xs) vs s) → ((t : State) → P t → GoesTo Q (exec_all sc (stmts_of ys) vs t)) → GoesTo Q (exec_all sc (stmts_of (xs ++ ys)) vs s)
must_join sc P Q xs ys vs s p h = subst (GoesTo Q) (sym (exec_join sc xs ys vs s)) (must_then P Q (exec_all sc (stmts_of xs) vs s) (λ u t. exec_all sc (stmts_of ys) vs t) p h)

-- one statement alone
pub must_one : (sc : Scope) (P : State → Type 0) (x : PlainStmt) (vs : Vars) (s : State) → GoesTo P (exec sc x vs s) → GoesTo P (exec_all sc (stmts_of (x ∷ [])) vs s)
must_one sc P x vs s p = must_then P P (exec sc x vs s) (λ u t. exec_all sc no_stmts vs t) p (λ t q. q)

-- the same property after each turn
pub must_over : (P : State → Type 0) (f : ℤ → Run (Unit {0})) → ((v : ℤ) (s : State) → P s → GoesTo P (f v s)) → (vals : List ℤ) (s : State) → P s → GoesTo P (over f vals s)
must_over P f h [] s p = p
must_over P f h (v ∷ vals) s p = must_then P P (f v s) (λ u t. over f vals t) (h v s p) (λ t q. must_over P f h vals t q)

-- the state that a run goes on to
abbrev pub state_of : Outcome (Unit {0}) → State
state_of (goes_on u s) = s
state_of (ends e s) = s

pub must_is : (P : State → Type 0) (o : Outcome (Unit {0})) → GoesTo P o → (o ≡ goes_on tt (state_of o)) × P (state_of o)
must_is P (goes_on u s) p = (refl, p)
must_is P (ends e s) p = absurd p
