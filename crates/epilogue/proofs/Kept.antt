-- A prologue itself changes no name but the first register and the definition totals.
use Rattle.std.proofs.Common.{◌≡◌, ℕ, zero, suc, ◌+◌, ◌<◌, ◌≤◌, Bool, true, false, cond, List, [], ◌∷◌, ◌++◌, refl, sym, ap, ◌∙◌, subst, arith, ℤ, pos, ◌+ℤ◌, Option, None, Some}
use Rattle.std.specs.Prelude.{bytes_eq}
use Rattle.acceptance.specs.Sources.{IsAcceptedSource}
use Rattle.c_tree.specs.Plain.{Word, PlainExpr, lit, var, cell, bin, widen, PlainExprs, no_exprs, more_exprs, PlainStmt, loop, assign, PlainStmts, PlainParam, int_param, array_param, PlainUnit}
use Rattle.c_tree.specs.Trees.{stmts_of}
use Rattle.c_tree.specs.Values.{Vars, from_on}
use Rattle.c_tree.specs.Accesses.{Within}
use Rattle.c_tree.specs.Arrays.{size_of, extents_of, vars_of}
use Rattle.c_tree.specs.Inputs.{arrays_for}
use Rattle.c_tree.specs.Run.{State, Outcome, goes_on, ends, Run, and_then, Scope, put, assigned, turn, over, exec_all}
use Rattle.c_tree.specs.declared.expr.BinOp.{BinOp}
use Rattle.c_tree.specs.declared.expr.BinOp.TheVariants.{Add, Mul}
use Rattle.c_tree.specs.declared.expr.Rel.TheVariants.{Lt}
use Rattle.instrumentation.specs.Names.{register, coordinate, count, definition_total}
use Rattle.instrumentation.specs.Passes.{coordinates_from}
use Rattle.instrumentation.specs.Prologue.{add_cell, cell_loops, cell_text, array_text, prologue_text}
use Rattle.instrumentation.specs.Guarded.{arrays_with_extents}
use Rattle.instrumentation_laws.specs.PrologueTotals.{coordinate_vars, Measures}
use Rattle.instrumentation_laws.specs.RegularUnits.{AreMeasured, wides_for}
use Rattle.instrumentation_laws.specs.Setting.{scope_of}
use Rattle.instrumentation_laws.proofs.CellLoops.{values_are, next_is, measures_more}
use Rattle.instrumentation_laws.proofs.Names.{coordinate_not_own}
use Rattle.instrumentation_laws.proofs.Steps.{exec_join, exec_one}
use Rattle.pass_laws.specs.Going.{WhereGoing}
use Rattle.pass_laws.proofs.Evaluated.{Arrives, Ignores, Sets, leads_assigned}
use Rattle.pass_laws.proofs.SourceTurns.{going_then}
use Rattle.source_laws.specs.Laws.{AcceptedHaveForms}
use Rattle.epilogue.specs.Keeping.{IsOther, SameOthers, IsOfOthers, PiecesKeep, KeepsOthers}

-- ---- what changes other things alone

same_ignores : Ignores SameOthers
same_ignores = record {
  none = λ s. record { words = λ x o. refl; wides = λ x o. refl; tables = λ x. refl };
  after = λ s t u p q. record { words = λ x o. q.words x o ∙ p.words x o; wides = λ x o. q.wides x o ∙ p.wides x o; tables = λ x. q.tables x ∙ p.tables x };
  memory = λ m s. record { words = λ x o. refl; wides = λ x o. refl; tables = λ x. refl };
  log = λ l s. record { words = λ x o. refl; wides = λ x o. refl; tables = λ x. refl };
}

put_other : (f : Word → ℕ) (y x : Word) (n : ℕ) → bytes_eq y x ≡ false → put f y n x ≡ f x
put_other f y x n e = ap (λ b. cond b n (f x)) e

-- an own name is set
sets_own : (y : Word) → ((x : Word) → IsOther x → bytes_eq y x ≡ false) → Sets SameOthers same_ignores (var y)
sets_own y apart = (
  λ n s. record { words = λ x o. put_other s.words y x n (apart x o); wides = λ x o. refl; tables = λ x. refl },
  λ n s. record { words = λ x o. refl; wides = λ x o. put_other s.wides y x n (apart x o); tables = λ x. refl },
)

turned_same : (b : Bool) (s : State) → SameOthers s (cond b (record s { body_turns = s.body_turns + 1 }) (record s { prologue_turns = s.prologue_turns + 1 }))
turned_same true s = record { words = λ x o. refl; wides = λ x o. refl; tables = λ x. refl }
turned_same false s = record { words = λ x o. refl; wides = λ x o. refl; tables = λ x. refl }

module _ (sc : Scope) (holds : State → Bool) (others : IsOfOthers holds) where
  abbrev Holds : State → Type 0
  Holds s = holds s ≡ true

  -- from such a state each list of statements goes on to such a one, if it does
  abbrev Keeps : Run (Unit {0}) → Type 0
  Keeps p = (s : State) → Holds s → WhereGoing Holds (p s)

  where_same : (o : Outcome (Unit {0})) (s : State) → Holds s → Arrives (SameOthers s) o → WhereGoing Holds o
  where_same (goes_on u t) s h same = others s t same ∙ h
  where_same (ends e t) s h same = tt

  -- ---- statements

  own_kept : (y : Word) (op : Option BinOp) (e : PlainExpr) (vs : Vars) → ((x : Word) → IsOther x → bytes_eq y x ≡ false) → Keeps (exec_all sc (stmts_of (assign (var y) op e ∷ [])) vs)
  own_kept y op e vs apart s h =
      subst (WhereGoing Holds) (sym (exec_one sc (assign (var y) op e) vs s))
      (where_same (assigned sc (var y) op e vs s) s h (leads_assigned SameOthers same_ignores sc (var y) op e vs (sets_own y apart) s))

  joined_kept : (xs ys : List PlainStmt) (vs : Vars) (s : State) → WhereGoing Holds (exec_all sc (stmts_of xs) vs s) → Keeps (exec_all sc (stmts_of ys) vs) → WhereGoing Holds (exec_all sc (stmts_of (xs ++ ys)) vs s)
  joined_kept xs ys vs s h g =
      subst (WhereGoing Holds) (sym (exec_join sc xs ys vs s))
      (going_then Holds Holds (exec_all sc (stmts_of xs) vs s) (λ u t. exec_all sc (stmts_of ys) vs t) h (λ u t k. g t k))

  -- ---- the cells of an array

  over_kept : (f : ℤ → Run (Unit {0})) (lo k : ℕ) → ((j : ℕ) → lo ≤ j → j < lo + k → Keeps (f (pos j))) → Keeps (over f (from_on (pos lo) k))
  over_kept f lo zero h s is = is
  over_kept f lo (suc k) h s is =
      let rest : List ℤ = from_on (pos lo +ℤ pos 1) k in
      going_then Holds Holds (f (pos lo) s) (λ u. over f rest) (h lo (omega arith) (omega arith) s is)
      (λ u t p. subst (λ z. WhereGoing Holds (over f (from_on z k) t)) (sym (next_is lo))
      (over_kept f (suc lo) k (λ j low high. h j (omega arith) (omega arith)) t p))

  turn_kept : (body : PlainStmts) (vs : Vars) → Keeps (exec_all sc body vs) → Keeps (λ s. and_then (turn s) (λ u. exec_all sc body vs))
  turn_kept body vs h s is = gone s.begun
    where
      gone : (b : Bool) → WhereGoing Holds (exec_all sc body vs (cond b (record s { body_turns = s.body_turns + 1 }) (record s { prologue_turns = s.prologue_turns + 1 })))
      gone b = h (cond b (record s { body_turns = s.body_turns + 1 }) (record s { prologue_turns = s.prologue_turns + 1 })) (others s (cond b (record s { body_turns = s.body_turns + 1 }) (record s { prologue_turns = s.prologue_turns + 1 })) (turned_same b s) ∙ is)

  cells_kept : (body : List PlainStmt) (es : PlainExprs) (zs : List ℤ) (d : ℕ) (vs : Vars) → Measures es vs zs → ((cs : List ℤ) → Within zs cs → Keeps (exec_all sc (stmts_of body) (coordinate_vars d cs vs))) → Keeps (exec_all sc (stmts_of (cell_loops d es body)) vs)
  cells_kept body no_exprs [] d vs m h s is = h [] tt s is
  cells_kept body no_exprs (z ∷ zs) d vs m h s is = absurd m
  cells_kept body (more_exprs e es) [] d vs m h s is = absurd m
  cells_kept body (more_exprs e es) (z ∷ zs) d vs m h s is =
      let inner : PlainStmts = stmts_of (cell_loops (suc d) es body) in
      let f : ℤ → Run (Unit {0}) = λ v. λ u. and_then (turn u) (λ b. exec_all sc inner ((coordinate d, v) ∷ vs)) in
      subst (WhereGoing Holds) (sym (exec_one sc (loop (coordinate d) (lit 0) Lt e inner) vs s))
      (subst (λ vals. WhereGoing Holds (over f vals s)) (sym (values_are e vs z m.1))
      (over_kept f 0 (size_of z)
      (λ k low high. let below : k < size_of z = omega arith in turn_kept inner ((coordinate d, pos k) ∷ vs)
      (cells_kept body es zs (suc d) ((coordinate d, pos k) ∷ vs) (measures_more es zs vs (coordinate d) (pos k) (coordinate_not_own d) m.2) (λ cs q. h (pos k ∷ cs) ((k, refl, below), q)))) s is))

  array_kept : (a : ℕ) (x : Word) (es : PlainExprs) (zs : List ℤ) (piece : List PlainStmt) (vs : Vars) → Measures es vs zs → ((cs : List ℤ) → Within zs cs → Keeps (exec_all sc (stmts_of piece) (coordinate_vars 0 cs vs))) → Keeps (exec_all sc (stmts_of (array_text a x es piece)) vs)
  array_kept a x es zs piece vs m h =
      cells_kept (cell_text a x es piece) es zs 0 vs m
      (λ cs q t is. joined_kept (assign (var (register 0)) None (cell x (coordinates_from 0 es)) ∷ []) (piece ++ add_cell a) (coordinate_vars 0 cs vs) t
      (own_kept (register 0) None (cell x (coordinates_from 0 es)) (coordinate_vars 0 cs vs) (λ x o. o.0) t is)
      (λ u held. joined_kept piece (add_cell a) (coordinate_vars 0 cs vs) u (h cs q u held)
      (own_kept (definition_total a) (Some Add) (bin Mul (widen (var (register 0))) (var count)) (coordinate_vars 0 cs vs) (λ x o. o.1 a))))

  prologue_kept : (vs : Vars) (cells : ℕ → PlainExprs → List PlainStmt) (a : ℕ) (ps : List PlainParam) → AreMeasured vs ps → PiecesKeep sc vs holds cells a (arrays_with_extents ps) → Keeps (exec_all sc (stmts_of (prologue_text cells a (arrays_with_extents ps))) vs)
  prologue_kept vs cells a [] m h s is = is
  prologue_kept vs cells a (int_param x ∷ ps) m h s is = prologue_kept vs cells a ps m h s is
  prologue_kept vs cells a (array_param x constant es ∷ ps) m h s is =
      joined_kept (array_text a x es (cells a es)) (prologue_text cells (suc a) (arrays_with_extents ps)) vs s
      (array_kept a x es (extents_of vs es) (cells a es) vs m.1 (λ cs q t held. h.0 cs t q held) s is)
      (prologue_kept vs cells (suc a) ps m.3 h.1)

-- ---- of an accepted source

pub kept : AcceptedHaveForms → (u : PlainUnit) (tables : List PlainStmt) (cells : ℕ → PlainExprs → List PlainStmt) → IsAcceptedSource u → KeepsOthers u tables cells
kept forms u tables cells source i fault holds s fit others built pieces =
    let vs : Vars = vars_of u.params i.ints in
    let sc : Scope = scope_of (arrays_for u i.ints) (wides_for u) fault in
    joined_kept sc holds others tables (prologue_text cells 0 (arrays_with_extents u.params)) vs s built
    (prologue_kept sc holds others vs cells 0 u.params (forms u i source fit).well_formed.arrays pieces)
