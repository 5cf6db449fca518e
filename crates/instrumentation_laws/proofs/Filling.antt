-- Tables and prologue of an instrumented unit fill the definition totals.
use Rattle.std.proofs.Common.{◌≡◌, ℕ, ◌%◌, ◌^◌, List, [], length, refl, ap, ◌∙◌, ℤ, Option}
use Rattle.c_tree.specs.Plain.{Word, PlainExprs, PlainStmt, PlainUnit}
use Rattle.c_tree.specs.Trees.{stmts_of}
use Rattle.c_tree.specs.Values.{Vars}
use Rattle.c_tree.specs.Arrays.{Array, Memory, extents_at, vars_of}
use Rattle.c_tree.specs.Fault.{Upset}
use Rattle.c_tree.specs.Instances.{Tagged}
use Rattle.c_tree.specs.Inputs.{arrays_for}
use Rattle.c_tree.specs.Run.{State, Outcome, goes_on, ends, and_then, Scope, exec_all}
use Rattle.instrumentation.specs.Names.{definition_total, use_total}
use Rattle.instrumentation.specs.Guarded.{arrays_with_extents, array_names}
use Rattle.instrumentation.specs.Prologue.{prologue_text}
use Rattle.instrumentation_laws.specs.Kept.{Kept, Ready, IsKept, AreCellPieces}
use Rattle.instrumentation_laws.specs.KeptTexts.{Prepared, GoesPrepared}
use Rattle.instrumentation_laws.specs.KeptPrologues.{GoesOnTo, KeptProloguesFill}
use Rattle.instrumentation_laws.specs.KeptUnits.{IsWellFormed}
use Rattle.instrumentation_laws.specs.PrologueTotals.{initial_sum, Left}
use Rattle.instrumentation_laws.specs.RegularUnits.{number_for, wides_for}
use Rattle.instrumentation_laws.specs.Setting.{scope_of, IsStart}
use Rattle.instrumentation_laws.proofs.Declared.{names_are, declares, declared_from}
use Rattle.instrumentation_laws.proofs.KeptPrologue.{prologue_go}
use Rattle.instrumentation_laws.proofs.Outcomes.{MustGo}
use Rattle.instrumentation_laws.proofs.Steps.{exec_join}

-- what tables leave, and then a prologue
left_after_tables : (kept : Kept) (whole : List Tagged) (extents : ℕ → List ℤ) (n : ℕ) (s p t : State) → Prepared kept s p → Left whole extents 0 n p t → Left whole extents 0 n s t
left_after_tables kept whole extents n s p t h l =
    let wide : (x : Word) → p.wides x ≡ s.wides x = λ x. ap (λ (w : Word → ℕ). w x) h.wides in
    record {
      memory = l.memory ∙ h.memory;
      accesses = l.accesses ∙ h.accesses;
      begun = l.begun ∙ h.begun;
      words = λ x o. l.words x o ∙ h.words x o;
      used = λ b fits. l.used b fits ∙ wide (use_total b);
      before = λ b low. l.before b low ∙ wide (definition_total b);
      filled = λ b low high. l.filled b low high ∙ ap (λ (m : Memory). initial_sum m whole extents b % 2 ^ 128) h.memory;
      after = λ b high fits. l.after b high fits ∙ wide (definition_total b);
    }

module _ (u : PlainUnit) (ns : List ℤ) (fault : Option Upset) (kept : Kept) (cells : ℕ → PlainExprs → List PlainStmt) (whole : List Tagged) (s : State)
    (formed : IsWellFormed u ns) (is_kept : IsKept kept) (begins : IsStart s) where
  abbrev vs : Vars
  vs = vars_of u.params ns

  abbrev arrays : List Array
  arrays = arrays_for u ns

  abbrev sc : Scope
  sc = scope_of arrays (wides_for u) fault

  abbrev decls : List (Word × PlainExprs)
  decls = arrays_with_extents u.params

  abbrev Filled : State → Type 0
  Filled t = Left whole (extents_at arrays) 0 (length decls) s t × Ready kept [] t

  after_tables : (p : State) → Prepared kept s p → (o : Outcome (Unit {0})) → MustGo (λ b t. Left whole (extents_at arrays) 0 (length decls) p t × Ready kept [] t) o → GoesOnTo Filled o
  after_tables p h (goes_on b t) l = (left_after_tables kept whole (extents_at arrays) (length decls) s p t h l.0, l.1)
  after_tables p h (ends e t) l = absurd l

  pub prepared : AreCellPieces kept sc whole vs (extents_at arrays) cells 0 decls → (o : Outcome (Unit {0})) → GoesPrepared kept s o → GoesOnTo Filled (and_then o (λ b t. exec_all sc (stmts_of (prologue_text cells 0 decls)) vs t))
  prepared count (goes_on b p) h =
      let same = names_are vs u.params in
      after_tables p h (exec_all sc (stmts_of (prologue_text cells 0 decls)) vs p)
      (prologue_go arrays (number_for u) (wides_for u) fault (declares arrays (array_names u.params) same (number_for u)) kept is_kept whole vs formed.params (extents_at arrays) cells decls 0 p count
      (declared_from arrays (array_names u.params) same formed.few vs [] u.params refl tt formed.arrays) (h.begun ∙ begins.begun) (λ b low fits. ap (λ (w : Word → ℕ). w (definition_total b)) h.wides ∙ begins.defined b fits) h.ready)
  prepared count (ends e p) h = absurd h

pub kept_fill : KeptProloguesFill
kept_fill u ns fault kept tables cells whole s formed is_kept go count begins =
    rw (exec_join (scope_of (arrays_for u ns) (wides_for u) fault) tables (prologue_text cells 0 (arrays_with_extents u.params)) (vars_of u.params ns) s)
    (prepared u ns fault kept cells whole s formed is_kept begins count (exec_all (scope_of (arrays_for u ns) (wides_for u) fault) (stmts_of tables) (vars_of u.params ns) s) go)
