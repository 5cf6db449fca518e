-- A whole text does what its source does.
use Rattle.std.proofs.Common.{◌≡◌, ℕ, Bool, true, false, List, [], ◌∷◌, sym, ◌∙◌, ℤ, Option}
use Rattle.c_tree.specs.Plain.{Word, PlainExprs, PlainStmt, begin, PlainStmts}
use Rattle.c_tree.specs.Trees.{stmts_of}
use Rattle.c_tree.specs.Values.{Vars}
use Rattle.c_tree.specs.Arrays.{Array}
use Rattle.c_tree.specs.Fault.{Upset}
use Rattle.c_tree.specs.Run.{State, Outcome, goes_on, ends, and_then, Scope, exec_all}
use Rattle.instrumentation.specs.Body.{instrument_all}
use Rattle.instrumentation.specs.Guarded.{extents_from}
use Rattle.instrumentation.specs.Prologue.{prologue_text}
use Rattle.instrumentation_laws.specs.OwnNames.{own}
use Rattle.instrumentation_laws.specs.Setting.{text, text_after, scope_of, inspected_in, GoesUntouched, GoingSetting, IsStart}
use Rattle.instrumentation_laws.specs.TextLaws.{EndAlike}
use Rattle.instrumentation_laws.proofs.Outcomes.{MustGo}
use Rattle.instrumentation_laws.proofs.Steps.{exec_join}
use Rattle.instrumentation_laws.proofs.Likeness.{Like, Agree}
use Rattle.instrumentation_laws.proofs.Simulate.{simulates_all}
use Rattle.instrumentation_laws.proofs.QuietPrologue.{Unmoved, prologue_unmoved}

alike_ends : (inspected : ℕ → Bool) (o q : Outcome (Unit {0})) → Like inspected Agree o q → EndAlike inspected o q
alike_ends inspected (goes_on a s) (goes_on b u) h = record { begun = sym h.begun; memory = sym h.memory; accesses = sym h.accesses; words = λ x o. sym (h.words x o) }
alike_ends inspected (ends e s) (ends f u) h = (h.0, record { begun = sym h.1.begun; memory = sym h.1.memory; accesses = sym h.1.accesses; words = λ x o. sym (h.1.words x o) })
alike_ends inspected (goes_on a s) (ends f u) h = absurd h
alike_ends inspected (ends e s) (goes_on b u) h = absurd h

module _ (arrays : List Array) (number : Word → ℕ) (wides : List Word) (fault : Option Upset) (vs : Vars) (extents : ℕ → List ℤ) (decls : List (Word × PlainExprs)) (body : PlainStmts) (cells : ℕ → PlainExprs → List PlainStmt) (pieces : ℕ → List PlainStmt)
    (set : GoingSetting arrays number wides fault vs extents decls body cells pieces) where
  abbrev follow_scope : Scope
  follow_scope = scope_of arrays wides fault

  abbrev after : State → Outcome (Unit {0})
  after t = exec_all follow_scope (stmts_of (instrument_all number (extents_from decls) pieces 0 body)) vs (record t { begun = true })

  plain_follows : (s u : State) → u.begun ≡ false → u.accesses ≡ [] → s.begun ≡ true → s.accesses ≡ [] → u.memory ≡ s.memory → ((x : Word) → own x ≡ true → u.words x ≡ s.words x) →
      EndAlike (inspected_in number body) (exec_all (scope_of arrays [] fault) body vs s) (exec_all follow_scope (stmts_of (text decls cells number pieces body)) vs u)
  plain_follows s u q k b e m w = rw (exec_join follow_scope (prologue_text cells 0 decls) (begin ∷ instrument_all number (extents_from decls) pieces 0 body) vs u) (chosen (exec_all follow_scope (stmts_of (prologue_text cells 0 decls)) vs u) (prologue_unmoved arrays number wides fault set.names vs set.vars extents cells decls 0 u set.cells_go set.declared q))
    where
      chosen : (o : Outcome (Unit {0})) → MustGo (λ (b : Unit {0}) t. Unmoved u t) o → EndAlike (inspected_in number body) (exec_all (scope_of arrays [] fault) body vs s) (and_then o (λ (u : Unit {0}) t. after t))
      chosen (goes_on v t) l = alike_ends (inspected_in number body) (exec_all (scope_of arrays [] fault) body vs s) (after t)
          (simulates_all arrays number wides fault set.names (extents_from decls) (inspected_in number body) pieces set.pieces_go body 0 vs s (record t { begun = true }) set.source set.vars
          (record { memory = sym (l.memory ∙ m); accesses = e ∙ sym (l.accesses ∙ k); begun = b; words = λ x o. sym (l.words x o ∙ w x o) }))
      chosen (ends e t) l = absurd l

  pub text_follows : (tables : List PlainStmt) (s u : State) → IsStart u → GoesUntouched u (exec_all follow_scope (stmts_of tables) vs u) → s.begun ≡ true → s.accesses ≡ [] → u.memory ≡ s.memory → ((x : Word) → own x ≡ true → u.words x ≡ s.words x) →
      EndAlike (inspected_in number body) (exec_all (scope_of arrays [] fault) body vs s) (exec_all follow_scope (stmts_of (text_after tables decls cells number pieces body)) vs u)
  text_follows tables s u h go b e m w = rw (exec_join follow_scope tables (text decls cells number pieces body) vs u) (built (exec_all follow_scope (stmts_of tables) vs u) go)
    where
      built : (o : Outcome (Unit {0})) → GoesUntouched u o → EndAlike (inspected_in number body) (exec_all (scope_of arrays [] fault) body vs s) (and_then o (λ v t. exec_all follow_scope (stmts_of (text decls cells number pieces body)) vs t))
      built (goes_on v t) l = plain_follows s t (l.begun ∙ h.begun) (l.accesses ∙ h.accesses) b e (l.memory ∙ m) (λ x o. l.words x o ∙ w x o)
      built (ends f t) l = absurd l
