-- A prologue makes the turns of a walk over the cells of each array, and those of its pieces.
use Rattle.std.proofs.Common.{◌≡◌, ℕ, zero, suc, ◌+◌, ◌*◌, ◌<◌, ◌≤◌, List, [], ◌∷◌, ◌++◌, sum_by, refl, sym, ap, ◌∙◌, subst, arith, ℤ, pos, ◌+ℤ◌, Option, None, Some}
use Rattle.std.proofs.lemmas.List.Sums.{sum_by-cons}
use Rattle.c_tree.specs.Plain.{Word, PlainExpr, lit, var, cell, bin, widen, PlainExprs, no_exprs, more_exprs, PlainStmt, loop, assign, PlainStmts, PlainParam, int_param, array_param}
use Rattle.c_tree.specs.Trees.{stmts_of}
use Rattle.c_tree.specs.Values.{Vars, from_on}
use Rattle.c_tree.specs.Accesses.{Within}
use Rattle.c_tree.specs.Arrays.{size_of, all_cells, cell_walk, extents_of, arrays_of}
use Rattle.c_tree.specs.Run.{State, Run, and_then, Scope, assigned, turn, over, exec_all}
use Rattle.c_tree.specs.declared.expr.BinOp.{BinOp}
use Rattle.c_tree.specs.declared.expr.BinOp.TheVariants.{Add, Mul}
use Rattle.c_tree.specs.declared.expr.Rel.TheVariants.{Lt}
use Rattle.instrumentation.specs.Names.{register, coordinate, count, definition_total}
use Rattle.instrumentation.specs.Passes.{coordinates_from}
use Rattle.instrumentation.specs.Prologue.{add_cell, cell_loops, cell_text, array_text, prologue_text}
use Rattle.instrumentation.specs.Guarded.{arrays_with_extents}
use Rattle.instrumentation_laws.specs.PrologueTotals.{cell_sum, coordinate_vars, Measures}
use Rattle.instrumentation_laws.specs.RegularUnits.{AreMeasured}
use Rattle.instrumentation_laws.proofs.CellLoops.{values_are, next_is, measures_more, row_sum, sum_rows}
use Rattle.instrumentation_laws.proofs.Names.{coordinate_not_own}
use Rattle.instrumentation_laws.proofs.Steps.{exec_join, exec_one}
use Rattle.pass_laws.specs.Going.{WhereGoing, Makes}
use Rattle.pass_laws.proofs.SourceTurns.{going_then, spun_steady, spun_on, body_turn}
use Rattle.pass_laws.proofs.Steady.{calm_assigned}
use Rattle.pass_laws.proofs.Turned.{spun_none}
use Rattle.pass_laws.specs.PrologueTurns.{PiecesMake, walks_with}

-- ---- sums

-- a turn for each value, and what each value adds
walked : (w : ℕ) (g : ℤ → ℕ) (lo : ℤ) (k : ℕ) → sum_by (λ v. suc (w + g v)) (from_on lo k) ≡ (k + k * w) + row_sum g (from_on lo k)
walked w g lo zero = omega arith
walked w g lo (suc k) =
    sum_by-cons (λ v. suc (w + g v)) lo (from_on (lo +ℤ pos 1) k)
    ∙ ap (λ m. suc (w + g lo) + m) (walked w g (lo +ℤ pos 1) k)
    ∙ more k w (g lo) (row_sum g (from_on (lo +ℤ pos 1) k))
  where
    more : (k w a r : ℕ) → suc (w + a) + ((k + k * w) + r) ≡ (suc k + suc k * w) + (a + r)
    more k w a r = grind arith

module _ (sc : Scope) where
  -- ---- statements in a row

  pub join_turns : (xs ys : List PlainStmt) (n m : ℕ) (vs : Vars) (s : State) → WhereGoing (Makes n s) (exec_all sc (stmts_of xs) vs s) → ((t : State) → WhereGoing (Makes m t) (exec_all sc (stmts_of ys) vs t)) →
      WhereGoing (Makes (n + m) s) (exec_all sc (stmts_of (xs ++ ys)) vs s)
  join_turns xs ys n m vs s h g =
      subst (WhereGoing (Makes (n + m) s)) (sym (exec_join sc xs ys vs s))
      (going_then (Makes n s) (Makes (n + m) s) (exec_all sc (stmts_of xs) vs s) (λ u t. exec_all sc (stmts_of ys) vs t) h (λ u t k. spun_on n m s t (exec_all sc (stmts_of ys) vs t) k (g t)))

  -- an assignment makes no turn
  assigns : (t e : PlainExpr) (op : Option BinOp) (vs : Vars) (s : State) → WhereGoing (Makes 0 s) (exec_all sc (stmts_of (assign t op e ∷ [])) vs s)
  assigns t e op vs s = subst (WhereGoing (Makes 0 s)) (sym (exec_one sc (assign t op e) vs s)) (spun_steady (assigned sc t op e vs s) s (calm_assigned sc t op e vs s))

  -- ---- the cells of an array

  -- a loop over so many values, of which each makes its turns
  over_turn : (f : ℤ → Run (Unit {0})) (n : ℤ → ℕ) (lo k : ℕ) → ((j : ℕ) → lo ≤ j → j < lo + k → (s : State) → WhereGoing (Makes (n (pos j)) s) (f (pos j) s)) →
      (s : State) → WhereGoing (Makes (sum_by n (from_on (pos lo) k)) s) (over f (from_on (pos lo) k) s)
  over_turn f n lo zero h s = spun_none s
  over_turn f n lo (suc k) h s =
      let rest : List ℤ = from_on (pos lo +ℤ pos 1) k in
      subst (λ j. WhereGoing (Makes j s) (over f (pos lo ∷ rest) s)) (sym (sum_by-cons n (pos lo) rest))
      (going_then (Makes (n (pos lo)) s) (Makes (n (pos lo) + sum_by n rest) s) (f (pos lo) s) (λ u. over f rest) (h lo (omega arith) (omega arith) s)
      (λ u t p. spun_on (n (pos lo)) (sum_by n rest) s t (over f rest t) p
      (subst (λ z. WhereGoing (Makes (sum_by n (from_on z k)) t) (over f (from_on z k) t)) (sym (next_is lo))
      (over_turn f n (suc lo) k (λ j low high. h j (omega arith) (omega arith)) t))))

  cells_turn : (body : List PlainStmt) (es : PlainExprs) (zs : List ℤ) (d : ℕ) (vs : Vars) (n : List ℤ → ℕ) → Measures es vs zs → ((cs : List ℤ) (s : State) → Within zs cs → WhereGoing (Makes (n cs) s) (exec_all sc (stmts_of body) (coordinate_vars d cs vs) s)) →
      (s : State) → WhereGoing (Makes (cell_walk zs + cell_sum n (all_cells zs)) s) (exec_all sc (stmts_of (cell_loops d es body)) vs s)
  cells_turn body no_exprs [] d vs n m h s = subst (λ j. WhereGoing (Makes j s) (exec_all sc (stmts_of body) vs s)) (let e : n [] ≡ 0 + (n [] + 0) = omega arith in e) (h [] s tt)
  cells_turn body no_exprs (z ∷ zs) d vs n m h s = absurd m
  cells_turn body (more_exprs e es) [] d vs n m h s = absurd m
  cells_turn body (more_exprs e es) (z ∷ zs) d vs n m h s =
      let inner : PlainStmts = stmts_of (cell_loops (suc d) es body) in
      let w : ℕ = cell_walk zs in
      let g : ℤ → ℕ = λ v. cell_sum (λ cs. n (v ∷ cs)) (all_cells zs) in
      let f : ℤ → Run (Unit {0}) = λ v. λ u. and_then (turn u) (λ b. exec_all sc inner ((coordinate d, v) ∷ vs)) in
      let total : sum_by (λ v. suc (w + g v)) (from_on (pos 0) (size_of z)) ≡ cell_walk (z ∷ zs) + cell_sum n (all_cells (z ∷ zs)) =
      walked w g (pos 0) (size_of z) ∙ ap (λ k. cell_walk (z ∷ zs) + k) (sym (sum_rows n (all_cells zs) (from_on (pos 0) (size_of z)))) in
      subst (WhereGoing (Makes (cell_walk (z ∷ zs) + cell_sum n (all_cells (z ∷ zs))) s)) (sym (exec_one sc (loop (coordinate d) (lit 0) Lt e inner) vs s))
      (subst (λ vals. WhereGoing (Makes (cell_walk (z ∷ zs) + cell_sum n (all_cells (z ∷ zs))) s) (over f vals s)) (sym (values_are e vs z m.1))
      (subst (λ j. WhereGoing (Makes j s) (over f (from_on (pos 0) (size_of z)) s)) total
      (over_turn f (λ v. suc (w + g v)) 0 (size_of z)
      (λ k low high. let below : k < size_of z = omega arith in body_turn sc [] (λ x. 0) inner ((coordinate d, pos k) ∷ vs) (w + g (pos k))
      (λ u. cells_turn body es zs (suc d) ((coordinate d, pos k) ∷ vs) (λ cs. n (pos k ∷ cs)) (measures_more es zs vs (coordinate d) (pos k) (coordinate_not_own d) m.2) (λ cs t q. h (pos k ∷ cs) t ((k, refl, below), q)) u)) s)))

  array_turns : (a : ℕ) (x : Word) (es : PlainExprs) (zs : List ℤ) (piece : List PlainStmt) (vs : Vars) (n : List ℤ → ℕ) → Measures es vs zs → ((cs : List ℤ) (s : State) → Within zs cs → WhereGoing (Makes (n cs) s) (exec_all sc (stmts_of piece) (coordinate_vars 0 cs vs) s)) →
      (s : State) → WhereGoing (Makes (cell_walk zs + cell_sum n (all_cells zs)) s) (exec_all sc (stmts_of (array_text a x es piece)) vs s)
  array_turns a x es zs piece vs n m h s =
      cells_turn (cell_text a x es piece) es zs 0 vs n m
      (λ cs t q. subst (λ j. WhereGoing (Makes j t) (exec_all sc (stmts_of (cell_text a x es piece)) (coordinate_vars 0 cs vs) t)) (let e : 0 + (n cs + 0) ≡ n cs = omega arith in e)
      (join_turns (assign (var (register 0)) None (cell x (coordinates_from 0 es)) ∷ []) (piece ++ add_cell a) 0 (n cs + 0) (coordinate_vars 0 cs vs) t
      (assigns (var (register 0)) (cell x (coordinates_from 0 es)) None (coordinate_vars 0 cs vs) t)
      (λ u. join_turns piece (add_cell a) (n cs) 0 (coordinate_vars 0 cs vs) u (h cs u q) (λ r. assigns (var (definition_total a)) (bin Mul (widen (var (register 0))) (var count)) (Some Add) (coordinate_vars 0 cs vs) r)))) s

  pub prologue_turns : (vs : Vars) (cells : ℕ → PlainExprs → List PlainStmt) (n : ℕ → List ℤ → ℕ) (a : ℕ) (ps : List PlainParam) → AreMeasured vs ps → PiecesMake sc vs cells n a (arrays_with_extents ps) →
      (s : State) → WhereGoing (Makes (walks_with n a (arrays_of vs ps)) s) (exec_all sc (stmts_of (prologue_text cells a (arrays_with_extents ps))) vs s)
  prologue_turns vs cells n a [] m h s = spun_none s
  prologue_turns vs cells n a (int_param x ∷ ps) m h s = prologue_turns vs cells n a ps m h s
  prologue_turns vs cells n a (array_param x constant es ∷ ps) m h s =
      let zs : List ℤ = extents_of vs es in
      join_turns (array_text a x es (cells a es)) (prologue_text cells (suc a) (arrays_with_extents ps)) (cell_walk zs + cell_sum (n a) (all_cells zs)) (walks_with n (suc a) (arrays_of vs ps)) vs s
      (array_turns a x es zs (cells a es) vs (n a) m.1 (λ cs t q. h.0 cs t q) s)
      (λ t. prologue_turns vs cells n (suc a) ps m.3 h.1 t)
