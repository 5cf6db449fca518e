-- The prologue with pieces that go on leaves memory, accesses and the words of the source.
use Rattle.std.proofs.Common.{◌≡◌, ℕ, suc, ◌+◌, Bool, true, false, cond, List, [], ◌∷◌, refl, sym, ap, ◌∙◌, subst, ℤ, Option}
use Rattle.c_tree.specs.Plain.{Word, PlainExprs, PlainStmt}
use Rattle.c_tree.specs.Trees.{stmts_of}
use Rattle.c_tree.specs.Values.{Vars}
use Rattle.c_tree.specs.Arrays.{Array, is_within}
use Rattle.c_tree.specs.Fault.{Upset}
use Rattle.c_tree.specs.Run.{State, Scope, put, turn, exec_all}
use Rattle.instrumentation.specs.Names.{register}
use Rattle.instrumentation.specs.Prologue.{cell_text, array_text, prologue_text}
use Rattle.instrumentation_laws.specs.OwnNames.{own, AllMayLoop}
use Rattle.instrumentation_laws.specs.Setting.{scope_of}
use Rattle.instrumentation_laws.specs.Pieces.{Declares, Piece}
use Rattle.instrumentation_laws.specs.PrologueTotals.{coordinate_vars, IsDeclared, AreDeclared, AreGoing}
use Rattle.instrumentation_laws.proofs.Names.{apart_as', register_not_own, own_no_piece}
use Rattle.instrumentation_laws.proofs.Outcomes.{MustGo, going_then, going_weaker}
use Rattle.instrumentation_laws.proofs.Steps.{exec_join}
use Rattle.instrumentation_laws.proofs.CellLoops.{cells_go}
use Rattle.instrumentation_laws.proofs.Prologue.{cell_text_is}

pub record Unmoved (s t : State) : Type 0 where
  pub memory : t.memory ≡ s.memory
  pub accesses : t.accesses ≡ s.accesses
  pub begun : t.begun ≡ false
  pub words : (x : Word) → own x ≡ true → t.words x ≡ s.words x

unmoved_then : (s t u : State) → Unmoved s t → Unmoved t u → Unmoved s u
unmoved_then s t u p q = record { memory = q.memory ∙ p.memory; accesses = q.accesses ∙ p.accesses; begun = q.begun; words = λ x o. q.words x o ∙ p.words x o }

unmoved_turn : (base s : State) → Unmoved base s → MustGo (λ b t. Unmoved base t) (turn s)
unmoved_turn base s h = chosen s.begun
  where
    chosen : (b : Bool) → Unmoved base (cond b (record s { body_turns = s.body_turns + 1 }) (record s { prologue_turns = s.prologue_turns + 1 }))
    chosen true = record { memory = h.memory; accesses = h.accesses; begun = h.begun; words = h.words }
    chosen false = record { memory = h.memory; accesses = h.accesses; begun = h.begun; words = h.words }

module _ (arrays : List Array) (number : Word → ℕ) (wides : List Word) (fault : Option Upset) (names : Declares arrays number wides) (vs : Vars) (o : AllMayLoop vs) (extents : ℕ → List ℤ) where
  abbrev text_scope : Scope
  text_scope = scope_of arrays wides fault

  cell_unmoved : (a : ℕ) (x : Word) (es : PlainExprs) (piece : List PlainStmt) (p : Piece text_scope piece) (base : State) → IsDeclared arrays number vs extents a x es → (cs : List ℤ) → is_within cs (extents a) ≡ true → (t : State) → Unmoved base t →
      MustGo (λ b u. Unmoved base u) (exec_all text_scope (stmts_of (cell_text a x es piece)) (coordinate_vars 0 cs vs) t)
  cell_unmoved a x es piece p base d cs w t h =
      let t1 : State = record t { words = put t.words (register 0) (t.memory a cs) } in
      subst (λ q. MustGo (λ (b : Unit {0}) u. Unmoved base u) q) (sym (cell_text_is arrays number wides fault names [] vs o extents a x es piece p d cs w t h.begun)) (record {
        memory = p.memory (coordinate_vars 0 cs vs) t1 ∙ h.memory;
        accesses = p.accesses (coordinate_vars 0 cs vs) t1 ∙ h.accesses;
        begun = p.begun (coordinate_vars 0 cs vs) t1 ∙ h.begun;
        words = λ x e. p.words (coordinate_vars 0 cs vs) t1 x (own_no_piece x e) ∙ ap (λ b. cond b (t.memory a cs) (t.words x)) (apart_as' own (register 0) x (register_not_own 0) e) ∙ h.words x e;
      })

  array_unmoved : (a : ℕ) (x : Word) (es : PlainExprs) (piece : List PlainStmt) (p : Piece text_scope piece) (s : State) → IsDeclared arrays number vs extents a x es → s.begun ≡ false →
      MustGo (λ b t. Unmoved s t) (exec_all text_scope (stmts_of (array_text a x es piece)) vs s)
  array_unmoved a x es piece p s d b =
      cells_go text_scope (λ n t. Unmoved s t) (λ n t h. unmoved_turn s t h) (cell_text a x es piece) es (extents a) 0 vs (λ cs. 0) d.measures (λ cs w n t h. cell_unmoved a x es piece p s d cs w t h) 0 s
      (record { memory = refl; accesses = refl; begun = b; words = λ x e. refl })

  pub prologue_unmoved : (cells : ℕ → PlainExprs → List PlainStmt) (decls : List (Word × PlainExprs)) (a : ℕ) (s : State) → AreGoing text_scope cells a decls → AreDeclared arrays number vs extents a decls → s.begun ≡ false →
      MustGo (λ b t. Unmoved s t) (exec_all text_scope (stmts_of (prologue_text cells a decls)) vs s)
  prologue_unmoved cells [] a s c d b = record { memory = refl; accesses = refl; begun = b; words = λ x e. refl }
  prologue_unmoved cells (x ∷ more) a s c d b =
      rw (exec_join text_scope (array_text a x.0 x.1 (cells a x.1)) (prologue_text cells (suc a) more) vs s)
      (going_then ⊥ (λ b t. Unmoved s t) (λ b t. Unmoved s t) (exec_all text_scope (stmts_of (array_text a x.0 x.1 (cells a x.1))) vs s) (λ b t. exec_all text_scope (stmts_of (prologue_text cells (suc a) more)) vs t)
      (array_unmoved a x.0 x.1 (cells a x.1) c.0 s d.0 b)
      (λ u t h. going_weaker ⊥ (λ b u. Unmoved t u) (λ b u. Unmoved s u) (exec_all text_scope (stmts_of (prologue_text cells (suc a) more)) vs t) (prologue_unmoved cells more (suc a) t c.1 d.1 h.begun) (λ b u k. unmoved_then s t u h k)))
