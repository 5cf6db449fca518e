-- The turns of a whole instrumented text: those of its source, once more for each write of an array, and in the prologue those of the walk over the cells of each array, with the source's for each cell.
use Rattle.std.proofs.Common.{◌≡◌, ℕ, suc, ◌+◌, ◌*◌, ◌<◌, Bool, true, false, not, ◌&&◌, cond, List, [], ◌∷◌, ◌++◌, length, map, flat_map, sum_by, refl, sym, ap, ◌∙◌, subst, arith, ℤ, Option, Some, None, nat_lt, if◌then◌else◌}
use Rattle.std.proofs.lemmas.List.{get_or_append_left, get_or-append-add}
use Rattle.std.proofs.lemmas.List.Sums.{sum_by-cons}
use Rattle.std.specs.Prelude.{slice_index_or}
use Rattle.c_tree.specs.Plain.{Word, PlainExpr, lit, var, cell, un, bin, cast, test, umin, umax, least, greatest, widen, big, PlainExprs, no_exprs, more_exprs, PlainStmt, loop, choice, assign, table, begin, check, verdict, PlainStmts, no_stmts, more_stmts, PlainParam}
use Rattle.c_tree.specs.Trees.{stmts_of}
use Rattle.c_tree.specs.Values.{Vars, signed, as_word, loop_values}
use Rattle.c_tree.specs.Arrays.{Array, Memory, all_cells, cell_count, cell_walk, arrays_of}
use Rattle.cell_laws.proofs.Rows.{length-all_cells}
use Rattle.c_tree.specs.Accesses.{Access}
use Rattle.c_tree.specs.Instances.{Tagged, untagged, sites, sites_all}
use Rattle.c_tree.specs.Run.{State, Outcome, goes_on, ends, and_then, Scope, index, done, end_as, assigned, turn, exec, exec_all}
use Rattle.c_tree.specs.declared.expr.BinOp.{BinOp}
use Rattle.instrumentation.specs.Names.{result, register}
use Rattle.instrumentation.specs.Body.{reads_in, full, load_text, index_loads, index_checks, by_words, loads_text, pure, add_text, assigned_text, instrument, instrument_all}
use Rattle.instrumentation.specs.Subscripts.{indices_in}
use Rattle.instrumentation.proofs.Subscripts.{cell_or_not, not_by_cell}
use Rattle.instrumentation.specs.Inspects.{inspects_all}
use Rattle.instrumentation.specs.Passes.{Target, pass_text, coordinates_from}
use Rattle.instrumentation.specs.Tables.{initial, at_write}
use Rattle.instrumentation.specs.Pieces.{initial_piece, site_piece, site_pieces_all, piece_at}
use Rattle.instrumentation.specs.Prologue.{prologue_text}
use Rattle.instrumentation.specs.Guarded.{arrays_with_extents}
use Rattle.instrumentation_laws.specs.AccessList.{cell_access, cell_write, tag, tests_hold}
use Rattle.instrumentation_laws.specs.IndexedList.{index_reads, read_access, all_reads, tagged, tagged_all}
use Rattle.instrumentation_laws.specs.PrologueTotals.{cell_sum, coordinate_vars}
use Rattle.instrumentation_laws.specs.RegularUnits.{AreMeasured}
use Rattle.instrumentation_laws.proofs.Steps.{exec_one, all_hold_is}
use Rattle.pass_laws.specs.Countable.{AllHaveNoCells, AreOwn, IsTarget, IsCountable, AreCountable}
use Rattle.pass_laws.specs.Going.{GoesTo, WhereGoing, HasCounters, Turned, Makes}
use Rattle.pass_laws.specs.Places.{IsPlace}
use Rattle.pass_laws.specs.Turns.{turns, turns_all}
use Rattle.pass_laws.proofs.Cells.{place_cell}
use Rattle.pass_laws.proofs.Instance.{place_around}
use Rattle.pass_laws.proofs.QuietPasses.{all_affine_no_cells, coordinates_free}
use Rattle.pass_laws.specs.Targets.{targets, targets_all, target_in}
use Rattle.pass_laws.specs.TextTurns.{counted_in, BodiesTurn, walks_from, ProloguesTurn}
use Rattle.pass_laws.proofs.Targeted.{piece_of}
use Rattle.pass_laws.proofs.Sites.{AreNested, targets_many, targets_all_many}
use Rattle.pass_laws.proofs.SourceTurns.{going_then, going_weaker, spun_steady, spun_on, over_turns, body_turn, chosen_turns}
use Rattle.pass_laws.proofs.Steady.{calm_assigned}
use Rattle.pass_laws.proofs.Steps.{affine_tests}
use Rattle.pass_laws.proofs.Turned.{spun_none, pass_turns}
use Rattle.pass_laws.specs.PrologueTurns.{PiecesMake, walks_with}
use Rattle.pass_laws.proofs.PrologueTurns.{join_turns, prologue_turns}

-- ---- sums

module _ (insp : ℕ → Bool) where
  -- how many accesses write an array that isn't inspected
  abbrev pub writes_in : List Tagged → ℕ
  writes_in [] = 0
  writes_in (t ∷ ts) = cond (t.access.writes && not (insp t.access.array)) 1 0 + writes_in ts

  pub writes_join : (xs ys : List Tagged) → writes_in (xs ++ ys) ≡ writes_in xs + writes_in ys
  writes_join [] ys = omega arith
  writes_join (x ∷ xs) ys = (let h = writes_join xs ys in omega arith)

  writes_if : (b : Bool) (xs ys : List Tagged) → writes_in (cond b xs ys) ≡ cond b (writes_in xs) (writes_in ys)
  writes_if true xs ys = refl
  writes_if false xs ys = refl

  -- the turns of a loop, with those for the writes in it
  sum_split : (n : ℤ → ℕ) (list : ℤ → List Tagged) (t : ℕ) (vals : List ℤ) → sum_by (λ v. suc (n v + t * writes_in (list v))) vals ≡ sum_by (λ v. suc (n v)) vals + t * writes_in (flat_map list vals)
  sum_split n list t [] = omega arith
  sum_split n list t (v ∷ vals) =
      let a = sum_by-cons (λ v. suc (n v + t * writes_in (list v))) v vals in
      let b = sum_by-cons (λ v. suc (n v)) v vals in
      let c : t * writes_in (list v ++ flat_map list vals) ≡ t * writes_in (list v) + t * writes_in (flat_map list vals) = ap (λ k. t * k) (writes_join (list v) (flat_map list vals)) ∙ spread t (writes_in (list v)) (writes_in (flat_map list vals)) in
      let d = sum_split n list t vals in
      a ∙ (let e : suc (n v + t * writes_in (list v)) + sum_by (λ v. suc (n v + t * writes_in (list v))) vals ≡ (suc (n v) + sum_by (λ v. suc (n v)) vals) + (t * writes_in (list v) + t * writes_in (flat_map list vals)) = omega arith in e) ∙
      ap (λ k. k + (t * writes_in (list v) + t * writes_in (flat_map list vals))) (sym b) ∙ ap (λ k. sum_by (λ v. suc (n v)) (v ∷ vals) + k) (sym c)
    where
      spread : (t a b : ℕ) → t * (a + b) ≡ t * a + t * b
      spread t a b = grind arith

  -- ---- the writes of an assignment

  two_write : (k : ℕ) (us : Vars) (xs ys : List Access) → writes_in (map (tag k us) xs) ≡ 0 → writes_in (map (tag k us) ys) ≡ 0 → writes_in (map (tag k us) (xs ++ ys)) ≡ 0
  two_write k us [] ys h g = g
  two_write k us (x ∷ xs) ys h g = (let r : writes_in (map (tag k us) (xs ++ ys)) ≡ 0 = two_write k us xs ys (omega arith) g in omega arith)

  indices_write : (number : Word → ℕ) (k : ℕ) (at : PlainExprs) (vs us : Vars) → writes_in (map (tag k us) (index_reads number at vs)) ≡ 0
  indices_write number k no_exprs vs us = refl
  indices_write number k (more_exprs e es) vs us =
      cell_or_not (λ e. writes_in (map (tag k us) (index_reads number (more_exprs e es) vs)) ≡ 0)
      (λ p at. two_write k us (cell_access number p at vs false ∷ []) (index_reads number es vs) refl (indices_write number k es vs us))
      (λ e other. ap (λ l. writes_in (map (tag k us) l)) (not_by_cell e (λ p at. cell_access number p at vs false ∷ index_reads number es vs) (index_reads number es vs) other) ∙ indices_write number k es vs us)
      e

  reads_write : (arrays : List Array) (m : Memory) (number : Word → ℕ) (k : ℕ) (e : PlainExpr) (vs us : Vars) → writes_in (map (tag k us) (all_reads arrays m number e vs)) ≡ 0
  reads_write arrays m number k (lit n) vs us = refl
  reads_write arrays m number k (var x) vs us = refl
  reads_write arrays m number k (cell x at) vs us = two_write k us (index_reads number at vs) (read_access arrays m number x at vs ∷ []) (indices_write number k at vs us) refl
  reads_write arrays m number k (un op a) vs us = reads_write arrays m number k a vs us
  reads_write arrays m number k (bin op a b) vs us = two_write k us (all_reads arrays m number a vs) (all_reads arrays m number b vs) (reads_write arrays m number k a vs us) (reads_write arrays m number k b vs us)
  reads_write arrays m number k (cast a) vs us = reads_write arrays m number k a vs us
  reads_write arrays m number k (test rel a b) vs us = two_write k us (all_reads arrays m number a vs) (all_reads arrays m number b vs) (reads_write arrays m number k a vs us) (reads_write arrays m number k b vs us)
  reads_write arrays m number k (umin a b) vs us = two_write k us (all_reads arrays m number a vs) (all_reads arrays m number b vs) (reads_write arrays m number k a vs us) (reads_write arrays m number k b vs us)
  reads_write arrays m number k (umax a b) vs us = two_write k us (all_reads arrays m number a vs) (all_reads arrays m number b vs) (reads_write arrays m number k a vs us) (reads_write arrays m number k b vs us)
  reads_write arrays m number k (least a b) vs us = refl
  reads_write arrays m number k (greatest a b) vs us = refl
  reads_write arrays m number k (widen a) vs us = refl
  reads_write arrays m number k (big high low) vs us = refl

  one_write : (k : ℕ) (us : Vars) (xs : List Access) (x : Access) → x.writes ≡ true → writes_in (map (tag k us) xs) ≡ 0 → writes_in (map (tag k us) (xs ++ x ∷ [])) ≡ cond (not (insp x.array)) 1 0
  one_write k us [] x w h = ap (λ b. cond (b && not (insp x.array)) 1 0 + 0) w ∙ omega arith
  one_write k us (y ∷ xs) x w h = (let r : writes_in (map (tag k us) (xs ++ x ∷ [])) ≡ cond (not (insp x.array)) 1 0 = one_write k us xs x w (omega arith) in omega arith)

turns_if : (b : Bool) (n m k j t : ℕ) → cond b (n + t * k) (m + t * j) ≡ cond b n m + t * cond b k j
turns_if true n m k j t = refl
turns_if false n m k j t = refl

-- ---- statements in a row

gone : (n : ℕ) (s : State) (o : Outcome (Unit {0})) → GoesTo (Makes n s) o → WhereGoing (Makes n s) o
gone n s (goes_on u t) p = p
gone n s (ends e t) p = absurd p

module _ (sc : Scope) where
  one_turns : (p : PlainStmt) (n : ℕ) (vs : Vars) (s : State) → WhereGoing (Makes n s) (exec sc p vs s) → WhereGoing (Makes n s) (exec_all sc (stmts_of (p ∷ [])) vs s)
  one_turns p n vs s h = subst (WhereGoing (Makes n s)) (sym (exec_one sc p vs s)) h

  -- assignments and checks make no turn
  abbrev IsAssign : PlainStmt → Type 0
  IsAssign (assign t op e) = Unit {0}
  IsAssign (check x extent a) = Unit {0}
  IsAssign _ = ⊥

  abbrev AreAssigns : List PlainStmt → Type 0
  AreAssigns [] = Unit {0}
  AreAssigns (s ∷ ss) = IsAssign s × AreAssigns ss

  assigns_join : (xs ys : List PlainStmt) → AreAssigns xs → AreAssigns ys → AreAssigns (xs ++ ys)
  assigns_join [] ys h g = g
  assigns_join (x ∷ xs) ys h g = (h.0, assigns_join xs ys h.1 g)

  assigns_turns : (ss : List PlainStmt) → AreAssigns ss → (vs : Vars) (s : State) → WhereGoing (Makes 0 s) (exec_all sc (stmts_of ss) vs s)
  assigns_turns [] h vs s = spun_none s
  assigns_turns (assign t op e ∷ ss) h vs s =
      going_then (Makes 0 s) (Makes 0 s) (assigned sc t op e vs s) (λ u. exec_all sc (stmts_of ss) vs) (spun_steady (assigned sc t op e vs s) s (calm_assigned sc t op e vs s))
      (λ u w k. spun_on 0 0 s w (exec_all sc (stmts_of ss) vs w) k (assigns_turns ss h.1 vs w))
  assigns_turns (loop x lo rel hi body ∷ ss) h vs s = absurd h.0
  assigns_turns (choice ts first other ∷ ss) h vs s = absurd h.0
  assigns_turns (table x len ∷ ss) h vs s = absurd h.0
  assigns_turns (begin ∷ ss) h vs s = absurd h.0
  assigns_turns (check x extent a ∷ ss) h vs s = checked (nat_lt (s.words x) (as_word (signed extent vs))) (assigns_turns ss h.1 vs s)
    where
      checked : (b : Bool) → WhereGoing (Makes 0 s) (exec_all sc (stmts_of ss) vs s) → WhereGoing (Makes 0 s) (and_then ((if b then done else end_as (index a)) s) (λ u. exec_all sc (stmts_of ss) vs))
      checked true k = k
      checked false k = tt
  assigns_turns (verdict ∷ ss) h vs s = absurd h.0

  module _ (number : Word → ℕ) where
    index_loads_assign : (at : PlainExprs) (j : ℕ) → AreAssigns (index_loads number at j)
    index_loads_assign no_exprs j = tt
    index_loads_assign (more_exprs e es) j =
        cell_or_not (λ e. AreAssigns (index_loads number (more_exprs e es) j))
        (λ x at. assigns_join (load_text (number x) x at j) (index_loads number es (j + 1)) (tt, (tt, tt)) (index_loads_assign es (j + 1)))
        (λ e other. subst AreAssigns (sym (not_by_cell e (λ x at. load_text (number x) x at j ++ index_loads number es (j + 1)) (index_loads number es j) other)) (index_loads_assign es j))
        e

    checks_assign : (a : ℕ) (at ns : PlainExprs) (j : ℕ) → AreAssigns (index_checks a at ns j)
    checks_assign a no_exprs ns j = tt
    checks_assign a (more_exprs e es) no_exprs j = tt
    checks_assign a (more_exprs e es) (more_exprs n ns) j =
        cell_or_not (λ e. AreAssigns (index_checks a (more_exprs e es) (more_exprs n ns) j))
        (λ x at. (tt, checks_assign a es ns (j + 1)))
        (λ e other. subst AreAssigns (sym (not_by_cell e (λ x at. check (register j) n a ∷ index_checks a es ns (j + 1)) (index_checks a es ns j) other)) (checks_assign a es ns j))
        e

  loads_assign : (number : Word → ℕ) (texts : Word → PlainExprs) (e : PlainExpr) (j : ℕ) → AreAssigns (loads_text number texts e j)
  loads_assign number texts (lit n) j = tt
  loads_assign number texts (var x) j = tt
  loads_assign number texts (cell x at) j =
      assigns_join (index_loads number at j) (index_checks (number x) at (texts x) j ++ load_text (number x) x (by_words at j) (j + indices_in at)) (index_loads_assign number at j)
      (assigns_join (index_checks (number x) at (texts x) j) (load_text (number x) x (by_words at j) (j + indices_in at)) (checks_assign number (number x) at (texts x) j) (tt, (tt, tt)))
  loads_assign number texts (un op a) j = loads_assign number texts a j
  loads_assign number texts (bin op a b) j = assigns_join (loads_text number texts a j) (loads_text number texts b (j + reads_in a)) (loads_assign number texts a j) (loads_assign number texts b (j + reads_in a))
  loads_assign number texts (cast a) j = loads_assign number texts a j
  loads_assign number texts (test rel a b) j = assigns_join (loads_text number texts a j) (loads_text number texts b (j + reads_in a)) (loads_assign number texts a j) (loads_assign number texts b (j + reads_in a))
  loads_assign number texts (umin a b) j = assigns_join (loads_text number texts a j) (loads_text number texts b (j + reads_in a)) (loads_assign number texts a j) (loads_assign number texts b (j + reads_in a))
  loads_assign number texts (umax a b) j = assigns_join (loads_text number texts a j) (loads_text number texts b (j + reads_in a)) (loads_assign number texts a j) (loads_assign number texts b (j + reads_in a))
  loads_assign number texts (least a b) j = tt
  loads_assign number texts (greatest a b) j = tt
  loads_assign number texts (widen a) j = tt
  loads_assign number texts (big high low) j = tt

-- ---- the body

module _ (sc : Scope) (has : HasCounters sc.wides) (arrays : List Array) (number : Word → ℕ) (params : Vars) (own_params : AreOwn params) (whole : PlainStmts) (countable : AreCountable arrays number whole params) where
  abbrev insp : ℕ → Bool
  insp a = inspects_all number a whole

  abbrev of_pass : ℕ
  of_pass = turns_all whole params

  -- a pass at a place
  piece_turns : (target : Target) (site : Option ℕ) (base : Vars) (s : State) → AllHaveNoCells target.at → IsPlace params base → insp target.array ≡ false → WhereGoing (Makes of_pass s) (exec_all sc (stmts_of (pass_text number whole target site)) base s)
  piece_turns target site base s free place plain =
      gone of_pass s (exec_all sc (stmts_of (pass_text number whole target site)) base s) (pass_turns sc has arrays number params base place own_params target free site whole s countable plain)

  module _ (m : Memory) (texts : Word → PlainExprs) (pieces : ℕ → List PlainStmt) where
    -- the pieces of so many assignments from number k on are those of these targets
    abbrev Stand : ℕ → ℕ → List PlainExpr → Type 0
    Stand k n part = (j : ℕ) → j < n → pieces (k + j) ≡ site_piece number texts whole (k + j) (target_in part j)

    stand_left : (k n m : ℕ) (ps qs : List PlainExpr) → length ps ≡ n → Stand k (n + m) (ps ++ qs) → Stand k n ps
    stand_left k n m ps qs l h j below = h j (omega arith) ∙ ap (site_piece number texts whole (k + j)) (get_or_append_left ps qs (lit 0) j (omega arith))

    stand_right : (k n m : ℕ) (ps qs : List PlainExpr) → length ps ≡ n → Stand k (n + m) (ps ++ qs) → Stand (k + n) m qs
    stand_right k n m ps qs l h j below =
        let e : k + n + j ≡ k + (n + j) = omega arith in
        ap pieces e ∙ h (n + j) (omega arith) ∙ ap (site_piece number texts whole (k + (n + j))) (subst (λ i. slice_index_or (ps ++ qs) (i + j) (lit 0) ≡ target_in qs j) l (get_or-append-add ps qs j (lit 0))) ∙
        ap (λ i. site_piece number texts whole i (target_in qs j)) (sym e)

    abbrev Turns : ℕ → ℕ → List Tagged → State → Outcome (Unit {0}) → Type 0
    Turns k n list s o = WhereGoing (Makes (n + of_pass * writes_in insp list) s) o

    -- the piece of an assignment to a cell makes no turn where it takes its count from a table
    cell_turns : (k : ℕ) (x : Word) (at : PlainExprs) (vs : Vars) (u : State) → AllHaveNoCells at → IsPlace params vs → WhereGoing (Makes (of_pass * cond (not (insp (number x))) 1 0) u) (exec_all sc (stmts_of (site_piece number texts whole k (cell x at))) vs u)
    cell_turns k x at vs u free place = chosen (insp (number x)) refl
      where
        chosen : (b : Bool) → insp (number x) ≡ b →
            WhereGoing (Makes (of_pass * cond (not b) 1 0) u) (exec_all sc (stmts_of (cond b (at_write (number x) (texts x)) (pass_text number whole (record { array = number x; at = at }) (Some k)))) vs u)
        chosen true e = subst (λ n. WhereGoing (Makes n u) (exec_all sc (stmts_of (at_write (number x) (texts x))) vs u)) (none of_pass) (assigns_turns sc (at_write (number x) (texts x)) (tt, (tt, tt)) vs u)
          where
            none : (t : ℕ) → 0 ≡ t * 0
            none t = omega arith
        chosen false e = subst (λ n. WhereGoing (Makes n u) (exec_all sc (stmts_of (pass_text number whole (record { array = number x; at = at }) (Some k))) vs u)) (once of_pass) (piece_turns (record { array = number x; at = at }) (Some k) vs u free place e)
          where
            once : (t : ℕ) → t ≡ t * 1
            once t = omega arith

    assign_turns : (t : PlainExpr) (op : Option BinOp) (e : PlainExpr) (k : ℕ) (loops : Vars) (s : State) → IsTarget arrays number t (loops ++ params) → IsPlace params (loops ++ params) → Stand k 1 (t ∷ []) →
        Turns k 0 (map (tag k (loops ++ params)) (all_reads arrays m number (full t op e) (loops ++ params) ++ cell_write number t (loops ++ params))) s
        (exec_all sc (stmts_of (assigned_text number texts (pieces k) t (full t op e))) (loops ++ params) s)
    assign_turns (var x) op e k loops s t place stand =
        let vs : Vars = loops ++ params in
        let v : PlainExpr = full (var x) op e in
        let w : writes_in insp (map (tag k vs) (all_reads arrays m number v vs ++ [])) ≡ 0 = two_write insp k vs (all_reads arrays m number v vs) [] (reads_write insp arrays m number k v vs vs) refl in
        subst (λ n. WhereGoing (Makes n s) (exec_all sc (stmts_of (assigned_text number texts (pieces k) (var x) v)) vs s)) (none of_pass _ w)
        (assigns_turns sc (assigned_text number texts (pieces k) (var x) v) (assigns_join sc (loads_text number texts v 0) (assign (var x) None (pure v 0) ∷ []) (loads_assign sc number texts v 0) (tt, tt)) vs s)
      where
        none : (t n : ℕ) → n ≡ 0 → 0 ≡ 0 + t * n
        none t n h = rw h (omega arith)
    assign_turns (cell x at) op e k loops s t place stand =
        let vs : Vars = loops ++ params in
        let v : PlainExpr = full (cell x at) op e in
        let many : ℕ = of_pass * cond (not (insp (number x))) 1 0 in
        let w : writes_in insp (map (tag k vs) (all_reads arrays m number v vs ++ cell_access number x at vs true ∷ [])) ≡ cond (not (insp (number x))) 1 0 = one_write insp k vs (all_reads arrays m number v vs) (cell_access number x at vs true) refl (reads_write insp arrays m number k v vs vs) in
        let stores : List PlainStmt = assign (var result) None (pure v 0) ∷ assign (cell x at) None (var result) ∷ [] in
        let piece : pieces k ≡ site_piece number texts whole k (cell x at) = ap pieces (let e : k ≡ k + 0 = omega arith in e) ∙ stand 0 (omega arith) ∙ ap (λ i. site_piece number texts whole i (cell x at)) (let e : k + 0 ≡ k = omega arith in e) in
        subst (λ n. WhereGoing (Makes n s) (exec_all sc (stmts_of (assigned_text number texts (pieces k) (cell x at) v)) vs s)) ((let z : 0 + (0 + (many + 0)) ≡ 0 + many = omega arith in z) ∙ ap (λ n. 0 + of_pass * n) (sym w))
        (join_turns sc (loads_text number texts v 0) (stores ++ (pieces k ++ add_text (number x))) 0 (0 + (many + 0)) vs s (assigns_turns sc (loads_text number texts v 0) (loads_assign sc number texts v 0) vs s)
        (λ y. join_turns sc stores (pieces k ++ add_text (number x)) 0 (many + 0) vs y (assigns_turns sc stores (tt, (tt, tt)) vs y)
        (λ u. join_turns sc (pieces k) (add_text (number x)) many 0 vs u
        (subst (λ p. WhereGoing (Makes many u) (exec_all sc (stmts_of p) vs u)) (sym piece) (cell_turns k x at vs u (all_affine_no_cells at vs t.affine) place))
        (λ y. assigns_turns sc (add_text (number x)) (tt, tt) vs y))))
    assign_turns (lit n) op e k loops s t place stand = absurd t
    assign_turns (un o a) op e k loops s t place stand = absurd t
    assign_turns (bin o a b) op e k loops s t place stand = absurd t
    assign_turns (cast a) op e k loops s t place stand = absurd t
    assign_turns (test rel a b) op e k loops s t place stand = absurd t
    assign_turns (umin a b) op e k loops s t place stand = absurd t
    assign_turns (umax a b) op e k loops s t place stand = absurd t
    assign_turns (least a b) op e k loops s t place stand = absurd t
    assign_turns (greatest a b) op e k loops s t place stand = absurd t
    assign_turns (widen a) op e k loops s t place stand = absurd t
    assign_turns (big high low) op e k loops s t place stand = absurd t

    mutual
      one_turned : (p : PlainStmt) (k : ℕ) (loops : Vars) (s : State) → IsCountable arrays number p (loops ++ params) → AreOwn loops → AreNested loops params → Stand k (sites p) (targets p) →
          Turns k (turns p (loops ++ params)) (tagged arrays m number k p (loops ++ params)) s (exec_all sc (stmts_of (instrument number texts pieces k p)) (loops ++ params) s)
      one_turned (loop x lo rel hi body) k loops s h o n stand =
          let vs : Vars = loops ++ params in
          let text : PlainStmts = stmts_of (instrument_all number texts pieces k body) in
          let n' : ℤ → ℕ = λ v. turns_all body ((x, v) ∷ vs) in
          let list : ℤ → List Tagged = λ v. tagged_all arrays m number k body ((x, v) ∷ vs) in
          one_turns sc (loop x lo rel hi text) _ vs s
          (subst (λ j. WhereGoing (Makes j s) (exec sc (loop x lo rel hi text) vs s)) (sum_split insp n' list of_pass (loop_values (signed lo vs) rel (signed hi vs)))
          (over_turns sc arrays number (λ v. λ t. and_then (turn t) (λ u. exec_all sc text ((x, v) ∷ vs))) (λ v. suc (n' v + of_pass * writes_in insp (list v)))
          (λ v. body_turn sc arrays number text ((x, v) ∷ vs) (n' v + of_pass * writes_in insp (list v)) (λ t. all_turned body k ((x, v) ∷ loops) t (h.3 v) (h.2.own_name, o) (h.2.fresh, n) stand))
          (loop_values (signed lo vs) rel (signed hi vs)) s))
      one_turned (choice ts first other) k loops s h o n stand =
          let vs : Vars = loops ++ params in
          let b : Bool = tests_hold ts vs in
          let one : PlainStmts = stmts_of (instrument_all number texts pieces k first) in
          let two : PlainStmts = stmts_of (instrument_all number texts pieces (k + sites_all first) other) in
          let xs : List Tagged = tagged_all arrays m number k first vs in
          let ys : List Tagged = tagged_all arrays m number (k + sites_all first) other vs in
          let l = targets_all_many first in
          let ps = targets_all first in
          let qs = targets_all other in
          one_turns sc (choice ts one two) _ vs s
          (subst (λ o. WhereGoing (Makes (cond b (turns_all first vs) (turns_all other vs) + of_pass * writes_in insp (cond b xs ys)) s) (and_then o (λ b. cond b (exec_all sc one vs) (exec_all sc two vs)))) (sym (all_hold_is sc ts vs s (affine_tests ts vs h.0)))
          (subst (λ j. WhereGoing (Makes j s) (cond b (exec_all sc one vs) (exec_all sc two vs) s)) (turns_if b (turns_all first vs) (turns_all other vs) (writes_in insp xs) (writes_in insp ys) of_pass ∙ ap (λ j. cond b (turns_all first vs) (turns_all other vs) + of_pass * j) (sym (writes_if insp b xs ys)))
          (chosen_turns sc arrays number b (turns_all first vs + of_pass * writes_in insp xs) (turns_all other vs + of_pass * writes_in insp ys) s (exec_all sc one vs) (exec_all sc two vs)
          (all_turned first k loops s h.1 o n (stand_left k (sites_all first) (sites_all other) ps qs l stand))
          (all_turned other (k + sites_all first) loops s h.2 o n (stand_right k (sites_all first) (sites_all other) ps qs l stand)))))
      one_turned (assign t op e) k loops s h o n stand = assign_turns t op e k loops s h.0 (place_around loops params n o own_params) stand
      one_turned (table x len) k loops s h o n stand = absurd h
      one_turned begin k loops s h o n stand = absurd h
      one_turned (check x extent a) k loops s h o n stand = absurd h
      one_turned verdict k loops s h o n stand = absurd h

      pub all_turned : (ps : PlainStmts) (k : ℕ) (loops : Vars) (s : State) → AreCountable arrays number ps (loops ++ params) → AreOwn loops → AreNested loops params → Stand k (sites_all ps) (targets_all ps) →
          Turns k (turns_all ps (loops ++ params)) (tagged_all arrays m number k ps (loops ++ params)) s (exec_all sc (stmts_of (instrument_all number texts pieces k ps)) (loops ++ params) s)
      all_turned no_stmts k loops s h o n stand = subst (λ j. Makes j s s) (let e : 0 ≡ 0 + of_pass * 0 = omega arith in e) (spun_none s)
      all_turned (more_stmts p ps) k loops s h o n stand =
          let vs : Vars = loops ++ params in
          let l = targets_many p in
          let xs : List Tagged = tagged arrays m number k p vs in
          let ys : List Tagged = tagged_all arrays m number (k + sites p) ps vs in
          let one = targets p in
          let two = targets_all ps in
          subst (λ j. WhereGoing (Makes j s) (exec_all sc (stmts_of (instrument number texts pieces k p ++ instrument_all number texts pieces (k + sites p) ps)) vs s))
          (both (turns p vs) (turns_all ps vs) of_pass (writes_in insp xs) (writes_in insp ys) ∙ ap (λ j. (turns p vs + turns_all ps vs) + of_pass * j) (sym (writes_join insp xs ys)))
          (join_turns sc (instrument number texts pieces k p) (instrument_all number texts pieces (k + sites p) ps) (turns p vs + of_pass * writes_in insp xs) (turns_all ps vs + of_pass * writes_in insp ys) vs s
          (one_turned p k loops s h.0 o n (stand_left k (sites p) (sites_all ps) one two l stand))
          (λ t. all_turned ps (k + sites p) loops t h.1 o n (stand_right k (sites p) (sites_all ps) one two l stand)))
        where
          both : (a b t m n : ℕ) → (a + t * m) + (b + t * n) ≡ (a + b) + t * (m + n)
          both a b t m n = grind arith

  -- ---- the prologue

  -- the piece of an array's cells makes no turn where it takes its count from a table
  abbrev of_cell : Bool → ℕ
  of_cell b = cond b 0 of_pass

  initial_turns : (a : ℕ) (es : PlainExprs) (cs : List ℤ) (u : State) → WhereGoing (Makes (of_cell (insp a)) u) (exec_all sc (stmts_of (initial_piece number whole a es)) (coordinate_vars 0 cs params) u)
  initial_turns a es cs u = chosen (insp a) refl
    where
      chosen : (b : Bool) → insp a ≡ b → WhereGoing (Makes (of_cell b) u) (exec_all sc (stmts_of (cond b (initial a es) (pass_text number whole (record { array = a; at = coordinates_from 0 es }) None))) (coordinate_vars 0 cs params) u)
      chosen true e = assigns_turns sc (initial a es) (tt, tt) (coordinate_vars 0 cs params) u
      chosen false e = piece_turns (record { array = a; at = coordinates_from 0 es }) None (coordinate_vars 0 cs params) u (coordinates_free arrays number whole params countable 0 es) (place_cell cs params own_params) e

  each_same : (t : ℕ) (cells : List (List ℤ)) → cell_sum (λ cs. t) cells ≡ length cells * t
  each_same t [] = omega arith
  each_same t (c ∷ cells) = ap (λ k. t + k) (each_same t cells) ∙ more t (length cells)
    where
      more : (t n : ℕ) → t + n * t ≡ suc n * t
      more t n = grind arith

  counted_cells : (b : Bool) (c : ℕ) → c * of_cell b ≡ cond b 0 (c * of_pass)
  counted_cells true c = omega arith
  counted_cells false c = refl

  walks_are : (a : ℕ) (list : List Array) → walks_with (λ a cs. of_cell (insp a)) a list ≡ walks_from insp of_pass a list
  walks_are a [] = refl
  walks_are a (x ∷ more) =
      let all : cell_sum (λ cs. of_cell (insp a)) (all_cells x.extents) ≡ cond (insp a) 0 (cell_count x.extents * of_pass) =
      each_same (of_cell (insp a)) (all_cells x.extents) ∙ ap (λ k. k * of_cell (insp a)) (length-all_cells x.extents) ∙ counted_cells (insp a) (cell_count x.extents) in
      ap (λ k. (cell_walk x.extents + k) + walks_with (λ a cs. of_cell (insp a)) (suc a) more) all
      ∙ ap (λ k. (cell_walk x.extents + cond (insp a) 0 (cell_count x.extents * of_pass)) + k) (walks_are (suc a) more)

  pieces_make : (a : ℕ) (list : List (Word × PlainExprs)) → PiecesMake sc params (initial_piece number whole) (λ a cs. of_cell (insp a)) a list
  pieces_make a [] = tt
  pieces_make a (x ∷ more) = ((λ cs s w. initial_turns a x.1 cs s), pieces_make (suc a) more)

  pub prologue_turned : (a : ℕ) (ps : List PlainParam) (s : State) → AreMeasured params ps →
      WhereGoing (Makes (walks_from insp of_pass a (arrays_of params ps)) s) (exec_all sc (stmts_of (prologue_text (initial_piece number whole) a (arrays_with_extents ps))) params s)
  prologue_turned a ps s m =
      subst (λ k. WhereGoing (Makes k s) (exec_all sc (stmts_of (prologue_text (initial_piece number whole) a (arrays_with_extents ps))) params s)) (walks_are a (arrays_of params ps))
      (prologue_turns sc params (initial_piece number whole) (λ a cs. of_cell (insp a)) a ps m (pieces_make a (arrays_with_extents ps)) s)

-- ---- as the laws say it

counted_is : (inspected : ℕ → Bool) (list : List Tagged) → writes_in inspected list ≡ counted_in inspected (untagged list)
counted_is inspected [] = refl
counted_is inspected (t ∷ ts) = ap (λ n. cond (t.access.writes && not (inspected t.access.array)) 1 0 + n) (counted_is inspected ts)

pub bodies_turn : BodiesTurn
bodies_turn sc arrays m number texts body params has own countable s =
    let n : ℕ = turns_all body params in
    let insp : ℕ → Bool = λ a. inspects_all number a body in
    let list : List Tagged = tagged_all arrays m number 0 body params in
    let pieces : ℕ → List PlainStmt = piece_at (site_pieces_all number texts body 0 body) in
    subst (λ k. WhereGoing (Turned (n + n * k) s) (exec_all sc (stmts_of (instrument_all number texts pieces 0 body)) params s)) (counted_is insp list)
    (going_weaker (Makes (n + n * writes_in insp list) s) (Turned (n + n * writes_in insp list) s) (exec_all sc (stmts_of (instrument_all number texts pieces 0 body)) params s) (λ t k. k.turned)
    (all_turned sc has arrays number params own body countable m texts pieces body 0 [] s countable tt tt
    (λ j l. ap pieces (let e : 0 + j ≡ j = omega arith in e) ∙ piece_of number texts body j ∙ ap (λ i. site_piece number texts body i (target_in (targets_all body) j)) (let e : j ≡ 0 + j = omega arith in e))))

pub prologues_turn : ProloguesTurn
prologues_turn sc arrays number body params ps has own countable measured s =
    let k : ℕ = walks_from (λ a. inspects_all number a body) (turns_all body params) 0 (arrays_of params ps) in
    going_weaker (Makes k s) (Turned k s) (exec_all sc (stmts_of (prologue_text (initial_piece number body) 0 (arrays_with_extents ps))) params s) (λ t k. k.turned)
    (prologue_turned sc has arrays number params own body countable 0 ps s measured)
