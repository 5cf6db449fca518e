-- Statements without tables make none, wherever they go on or end; and no text has one behind its tables.
use Rattle.std.proofs.Common.{◌≡◌, ℕ, suc, ◌+◌, Bool, true, false, cond, List, [], ◌∷◌, ◌++◌, refl, sym, subst, ◌∙◌, ℤ, Option, Some, None, nat_eq}
use Rattle.c_tree.specs.Plain.{Word, PlainExpr, lit, var, cell, un, bin, cast, test, umin, umax, least, greatest, widen, big, PlainExprs, no_exprs, more_exprs, PlainStmt, loop, choice, assign, table, begin, check, verdict, PlainStmts, no_stmts, more_stmts}
use Rattle.c_tree.specs.Trees.{stmts_of}
use Rattle.c_tree.specs.Values.{Vars, signed, loop_values}
use Rattle.c_tree.specs.Instances.{sites, sites_all}
use Rattle.c_tree.specs.Run.{State, Outcome, goes_on, ends, index, Run, and_then, Scope, assigned, all_hold, turn, over, exec, exec_all}
use Rattle.instrumentation.specs.Names.{register, active}
use Rattle.instrumentation.specs.Body.{full, load_text, index_loads, index_checks, by_words, loads_text, assigned_text, instrument, instrument_all}
use Rattle.instrumentation.specs.Inspects.{inspects_all}
use Rattle.instrumentation.specs.Passes.{Target, count_cell, count_indices, count_reads, count_write, write_text, own_write, set_word, copied, copied_all, pass_text, write_piece, cell_piece}
use Rattle.instrumentation.specs.Tables.{initial, at_write}
use Rattle.instrumentation.specs.Pieces.{initial_piece, site_piece, site_pieces_all, piece_at}
use Rattle.instrumentation.specs.Prologue.{cell_loops, cell_text, array_text, prologue_text}
use Rattle.instrumentation.specs.Subscripts.{indices_in}
use Rattle.instrumentation.proofs.Subscripts.{cell_or_not, not_by_cell}
use Rattle.pass_laws.proofs.Evaluated.{Arrives}
use Rattle.pass_laws.proofs.Steady.{Steady, calm_assigned, calm_tests}
use Rattle.pass_laws.specs.Targets.{target_at}
use Rattle.pass_laws.specs.TextTurns.{HasMade, TextsMakeNoTable}
use Rattle.pass_laws.proofs.Targeted.{piece_of}

abbrev mutual
  pub HasNoTable : PlainStmt → Type 0
  HasNoTable (loop x lo rel hi body) = HaveNoTables body
  HasNoTable (choice ts first other) = HaveNoTables first × HaveNoTables other
  HasNoTable (assign t op e) = Unit {0}
  HasNoTable (table x len) = ⊥
  HasNoTable begin = Unit {0}
  HasNoTable (check x extent a) = Unit {0}
  HasNoTable verdict = Unit {0}

  pub HaveNoTables : PlainStmts → Type 0
  HaveNoTables no_stmts = Unit {0}
  HaveNoTables (more_stmts s ss) = HasNoTable s × HaveNoTables ss

-- ---- runs

made_then : {A B : Type 0} (l : List ℕ) (o : Outcome A) (f : A → Run B) → HasMade l o → ((a : A) (t : State) → t.made ≡ l → HasMade l (f a t)) → HasMade l (and_then o f)
made_then l (goes_on a t) f h g = g a t h
made_then l (ends e t) f h g = h

module _ (sc : Scope) (l : List ℕ) where
  steady_same : {A : Type 0} (o : Outcome A) (s : State) → s.made ≡ l → Arrives (Steady s) o → HasMade l o
  steady_same (goes_on a t) s e h = h.made ∙ e
  steady_same (ends f t) s e h = h.0.made ∙ e

  turn_same : (s : State) → s.made ≡ l → HasMade l (turn s)
  turn_same s e = chosen s.begun
    where
      chosen : (b : Bool) → (cond b (record s { body_turns = s.body_turns + 1 }) (record s { prologue_turns = s.prologue_turns + 1 })).made ≡ l
      chosen true = e
      chosen false = e

  over_same : (f : ℤ → Run (Unit {0})) → ((v : ℤ) (s : State) → s.made ≡ l → HasMade l (f v s)) → (vals : List ℤ) (s : State) → s.made ≡ l → HasMade l (over f vals s)
  over_same f h [] s e = e
  over_same f h (v ∷ vals) s e = made_then l (f v s) (λ u. over f vals) (h v s e) (λ u t k. over_same f h vals t k)

  choice_same : (b : Bool) (p q : Run (Unit {0})) (s : State) → HasMade l (p s) → HasMade l (q s) → HasMade l (cond b p q s)
  choice_same true p q s h g = h
  choice_same false p q s h g = g

  mutual
    one_same : (p : PlainStmt) (vs : Vars) (s : State) → HasNoTable p → s.made ≡ l → HasMade l (exec sc p vs s)
    one_same (loop x lo rel hi body) vs s h e =
        over_same (λ v. λ t. and_then (turn t) (λ u. exec_all sc body ((x, v) ∷ vs)))
        (λ v t k. made_then l (turn t) (λ u. exec_all sc body ((x, v) ∷ vs)) (turn_same t k) (λ b u j. all_same body ((x, v) ∷ vs) u h j))
        (loop_values (signed lo vs) rel (signed hi vs)) s e
    one_same (choice ts first other) vs s h e =
        made_then l (all_hold sc ts vs s) (λ b. cond b (exec_all sc first vs) (exec_all sc other vs)) (steady_same (all_hold sc ts vs s) s e (calm_tests sc ts vs s))
        (λ b t k. choice_same b (exec_all sc first vs) (exec_all sc other vs) t (all_same first vs t h.0 k) (all_same other vs t h.1 k))
    one_same (assign t op x) vs s h e = steady_same (assigned sc t op x vs s) s e (calm_assigned sc t op x vs s)
    one_same (table x len) vs s h e = absurd h
    one_same begin vs s h e = e
    one_same (check x extent a) vs s h e = choice_same _ (λ t. goes_on tt t) (λ t. ends (index a) t) s e e
    one_same verdict vs s h e = e

    pub all_same : (ps : PlainStmts) (vs : Vars) (s : State) → HaveNoTables ps → s.made ≡ l → HasMade l (exec_all sc ps vs s)
    all_same no_stmts vs s h e = e
    all_same (more_stmts p ps) vs s h e = made_then l (exec sc p vs s) (λ u. exec_all sc ps vs) (one_same p vs s h.0 e) (λ u t k. all_same ps vs t h.1 k)

-- ---- instrumented units

join_none : (xs ys : List PlainStmt) → HaveNoTables (stmts_of xs) → HaveNoTables (stmts_of ys) → HaveNoTables (stmts_of (xs ++ ys))
join_none [] ys h g = g
join_none (x ∷ xs) ys h g = (h.0, join_none xs ys h.1 g)

if_none : (b : Bool) (x : PlainStmt) → HasNoTable x → HaveNoTables (stmts_of (cond b (x ∷ []) []))
if_none true x h = (h, tt)
if_none false x h = tt

module _ (number : Word → ℕ) (target : Target) (site : Option ℕ) where
  cell_none : (xs : List Word) (x : Word) (at : PlainExprs) → HaveNoTables (stmts_of (count_cell number target xs x at))
  cell_none xs x at = if_none (nat_eq (number x) target.array) _ ((tt, tt), tt)

  indices_none : (xs : List Word) (at : PlainExprs) → HaveNoTables (stmts_of (count_indices number target xs at))
  indices_none xs no_exprs = tt
  indices_none xs (more_exprs e es) =
      cell_or_not (λ e. HaveNoTables (stmts_of (count_indices number target xs (more_exprs e es))))
      (λ x at. join_none (count_cell number target xs x at) (count_indices number target xs es) (cell_none xs x at) (indices_none xs es))
      (λ e other. subst (λ (l : List PlainStmt). HaveNoTables (stmts_of l)) (sym (not_by_cell e (λ x at. count_cell number target xs x at ++ count_indices number target xs es) (count_indices number target xs es) other)) (indices_none xs es))
      e

  reads_none : (xs : List Word) (e : PlainExpr) → HaveNoTables (stmts_of (count_reads number target xs e))
  reads_none xs (lit n) = tt
  reads_none xs (var x) = tt
  reads_none xs (cell x at) = join_none (count_indices number target xs at) (count_cell number target xs x at) (indices_none xs at) (cell_none xs x at)
  reads_none xs (un op a) = reads_none xs a
  reads_none xs (bin op a b) = join_none (count_reads number target xs a) (count_reads number target xs b) (reads_none xs a) (reads_none xs b)
  reads_none xs (cast a) = reads_none xs a
  reads_none xs (test rel a b) = join_none (count_reads number target xs a) (count_reads number target xs b) (reads_none xs a) (reads_none xs b)
  reads_none xs (umin a b) = join_none (count_reads number target xs a) (count_reads number target xs b) (reads_none xs a) (reads_none xs b)
  reads_none xs (umax a b) = join_none (count_reads number target xs a) (count_reads number target xs b) (reads_none xs a) (reads_none xs b)
  reads_none xs (least a b) = tt
  reads_none xs (greatest a b) = tt
  reads_none xs (widen a) = tt
  reads_none xs (big high low) = tt

  own_none : (xs : List Word) → HaveNoTables (stmts_of (own_write xs))
  own_none [] = (tt, tt)
  own_none (x ∷ xs) = (((tt, tt), (tt, tt)), tt)

  write_none : (site : Option ℕ) (xs : List Word) (k : ℕ) → HaveNoTables (stmts_of (write_text site xs k))
  write_none None xs k = (tt, tt)
  write_none (Some j) xs k = chosen (nat_eq j k)
    where
      chosen : (b : Bool) → HaveNoTables (stmts_of (cond b (own_write xs) (set_word active 0 ∷ [])))
      chosen true = own_none xs
      chosen false = (tt, tt)

  target_none : (xs : List Word) (k : ℕ) (t : PlainExpr) → HaveNoTables (stmts_of (count_write number target site xs k t))
  target_none xs k (cell x at) = if_none (nat_eq (number x) target.array) _ (write_none site xs k, tt)
  target_none xs k (lit n) = tt
  target_none xs k (var x) = tt
  target_none xs k (un op a) = tt
  target_none xs k (bin op a b) = tt
  target_none xs k (cast a) = tt
  target_none xs k (test rel a b) = tt
  target_none xs k (umin a b) = tt
  target_none xs k (umax a b) = tt
  target_none xs k (least a b) = tt
  target_none xs k (greatest a b) = tt
  target_none xs k (widen a) = tt
  target_none xs k (big high low) = tt

  mutual
    copy_none : (xs : List Word) (k : ℕ) (p : PlainStmt) → HaveNoTables (stmts_of (copied number target site xs k p))
    copy_none xs k (loop x lo rel hi body) = (copies_none (x ∷ xs) k body, tt)
    copy_none xs k (choice ts first other) = ((copies_none xs k first, copies_none xs (k + sites_all first) other), tt)
    copy_none xs k (assign t op e) = join_none (count_reads number target xs (full t op e)) (count_write number target site xs k t) (reads_none xs (full t op e)) (target_none xs k t)
    copy_none xs k (table x len) = tt
    copy_none xs k begin = tt
    copy_none xs k (check x extent a) = tt
    copy_none xs k verdict = tt

    copies_none : (xs : List Word) (k : ℕ) (ps : PlainStmts) → HaveNoTables (stmts_of (copied_all number target site xs k ps))
    copies_none xs k no_stmts = tt
    copies_none xs k (more_stmts p ps) = join_none (copied number target site xs k p) (copied_all number target site xs (k + sites p) ps) (copy_none xs k p) (copies_none xs (k + sites p) ps)

  pass_none : (whole : PlainStmts) → HaveNoTables (stmts_of (pass_text number whole target site))
  pass_none whole = (tt, (tt, join_none (copied_all number target site [] 0 whole) _ (copies_none [] 0 whole) (tt, tt)))

module _ (number : Word → ℕ) (texts : Word → PlainExprs) (whole : PlainStmts) where
  either_none : (b : Bool) (ps qs : List PlainStmt) → HaveNoTables (stmts_of ps) → HaveNoTables (stmts_of qs) → HaveNoTables (stmts_of (cond b ps qs))
  either_none true ps qs h g = h
  either_none false ps qs h g = g

  target_piece_none : (k : ℕ) (t : PlainExpr) → HaveNoTables (stmts_of (site_piece number texts whole k t))
  target_piece_none k (cell x at) =
      either_none (inspects_all number (number x) whole) (at_write (number x) (texts x)) (write_piece number whole k (cell x at)) (tt, (tt, tt)) (pass_none number (record { array = number x; at = at }) (Some k) whole)
  target_piece_none k (lit n) = tt
  target_piece_none k (var x) = tt
  target_piece_none k (un op a) = tt
  target_piece_none k (bin op a b) = tt
  target_piece_none k (cast a) = tt
  target_piece_none k (test rel a b) = tt
  target_piece_none k (umin a b) = tt
  target_piece_none k (umax a b) = tt
  target_piece_none k (least a b) = tt
  target_piece_none k (greatest a b) = tt
  target_piece_none k (widen a) = tt
  target_piece_none k (big high low) = tt

  piece_none : (k : ℕ) → HaveNoTables (stmts_of (piece_at (site_pieces_all number texts whole 0 whole) k))
  piece_none k = subst (λ (l : List PlainStmt). HaveNoTables (stmts_of l)) (sym (piece_of number texts whole k)) (target_piece_none k (target_at whole k))

  cells_none : (a : ℕ) (es : PlainExprs) → HaveNoTables (stmts_of (initial_piece number whole a es))
  cells_none a es = either_none (inspects_all number a whole) (initial a es) (cell_piece number whole a es) (tt, tt) (pass_none number _ None whole)

module _ (number : Word → ℕ) (texts : Word → PlainExprs) (pieces : ℕ → List PlainStmt) (none : (k : ℕ) → HaveNoTables (stmts_of (pieces k))) where
  index_loads_none : (at : PlainExprs) (j : ℕ) → HaveNoTables (stmts_of (index_loads number at j))
  index_loads_none no_exprs j = tt
  index_loads_none (more_exprs e es) j =
      cell_or_not (λ e. HaveNoTables (stmts_of (index_loads number (more_exprs e es) j)))
      (λ x at. join_none (load_text (number x) x at j) (index_loads number es (j + 1)) (tt, (tt, tt)) (index_loads_none es (j + 1)))
      (λ e other. subst (λ (l : List PlainStmt). HaveNoTables (stmts_of l)) (sym (not_by_cell e (λ x at. load_text (number x) x at j ++ index_loads number es (j + 1)) (index_loads number es j) other)) (index_loads_none es j))
      e

  checks_none : (a : ℕ) (at ns : PlainExprs) (j : ℕ) → HaveNoTables (stmts_of (index_checks a at ns j))
  checks_none a no_exprs ns j = tt
  checks_none a (more_exprs e es) no_exprs j = tt
  checks_none a (more_exprs e es) (more_exprs n ns) j =
      cell_or_not (λ e. HaveNoTables (stmts_of (index_checks a (more_exprs e es) (more_exprs n ns) j)))
      (λ x at. (tt, checks_none a es ns (j + 1)))
      (λ e other. subst (λ (l : List PlainStmt). HaveNoTables (stmts_of l)) (sym (not_by_cell e (λ x at. check (register j) n a ∷ index_checks a es ns (j + 1)) (index_checks a es ns j) other)) (checks_none a es ns j))
      e

  loads_none : (e : PlainExpr) (j : ℕ) → HaveNoTables (stmts_of (loads_text number texts e j))
  loads_none (lit n) j = tt
  loads_none (var x) j = tt
  loads_none (cell x at) j =
      join_none (index_loads number at j) (index_checks (number x) at (texts x) j ++ load_text (number x) x (by_words at j) (j + indices_in at)) (index_loads_none at j)
      (join_none (index_checks (number x) at (texts x) j) (load_text (number x) x (by_words at j) (j + indices_in at)) (checks_none (number x) at (texts x) j) (tt, (tt, tt)))
  loads_none (un op a) j = loads_none a j
  loads_none (bin op a b) j = join_none (loads_text number texts a j) (loads_text number texts b _) (loads_none a j) (loads_none b _)
  loads_none (cast a) j = loads_none a j
  loads_none (test rel a b) j = join_none (loads_text number texts a j) (loads_text number texts b _) (loads_none a j) (loads_none b _)
  loads_none (umin a b) j = join_none (loads_text number texts a j) (loads_text number texts b _) (loads_none a j) (loads_none b _)
  loads_none (umax a b) j = join_none (loads_text number texts a j) (loads_text number texts b _) (loads_none a j) (loads_none b _)
  loads_none (least a b) j = tt
  loads_none (greatest a b) j = tt
  loads_none (widen a) j = tt
  loads_none (big high low) j = tt

  assigned_none : (k : ℕ) (t e : PlainExpr) → HaveNoTables (stmts_of (assigned_text number texts (pieces k) t e))
  assigned_none k (var x) e = join_none (loads_text number texts e 0) _ (loads_none e 0) (tt, tt)
  assigned_none k (cell x at) e = join_none (loads_text number texts e 0) _ (loads_none e 0) (tt, (tt, join_none (pieces k) _ (none k) (tt, tt)))
  assigned_none k (lit n) e = tt
  assigned_none k (un op a) e = tt
  assigned_none k (bin op a b) e = tt
  assigned_none k (cast a) e = tt
  assigned_none k (test rel a b) e = tt
  assigned_none k (umin a b) e = tt
  assigned_none k (umax a b) e = tt
  assigned_none k (least a b) e = tt
  assigned_none k (greatest a b) e = tt
  assigned_none k (widen a) e = tt
  assigned_none k (big high low) e = tt

  mutual
    one_none : (k : ℕ) (p : PlainStmt) → HaveNoTables (stmts_of (instrument number texts pieces k p))
    one_none k (loop x lo rel hi body) = (body_none k body, tt)
    one_none k (choice ts first other) = ((body_none k first, body_none (k + sites_all first) other), tt)
    one_none k (assign t op e) = assigned_none k t (full t op e)
    one_none k (table x len) = tt
    one_none k begin = tt
    one_none k (check x extent a) = tt
    one_none k verdict = tt

    body_none : (k : ℕ) (ps : PlainStmts) → HaveNoTables (stmts_of (instrument_all number texts pieces k ps))
    body_none k no_stmts = tt
    body_none k (more_stmts p ps) = join_none (instrument number texts pieces k p) (instrument_all number texts pieces (k + sites p) ps) (one_none k p) (body_none (k + sites p) ps)

loops_none : (d : ℕ) (es : PlainExprs) (body : List PlainStmt) → HaveNoTables (stmts_of body) → HaveNoTables (stmts_of (cell_loops d es body))
loops_none d no_exprs body h = h
loops_none d (more_exprs e es) body h = (loops_none (suc d) es body h, tt)

prologue_none : (cells : ℕ → PlainExprs → List PlainStmt) → ((a : ℕ) (es : PlainExprs) → HaveNoTables (stmts_of (cells a es))) → (a : ℕ) (decls : List (Word × PlainExprs)) → HaveNoTables (stmts_of (prologue_text cells a decls))
prologue_none cells h a [] = tt
prologue_none cells h a (x ∷ more) =
    join_none (array_text a x.0 x.1 (cells a x.1)) (prologue_text cells (suc a) more)
    (loops_none 0 x.1 (cell_text a x.0 x.1 (cells a x.1)) (tt, join_none (cells a x.1) _ (h a x.1) (tt, tt))) (prologue_none cells h (suc a) more)

pub texts_make_no_table : TextsMakeNoTable
texts_make_no_table sc number texts body decls vs s =
    let pieces : ℕ → List PlainStmt = piece_at (site_pieces_all number texts body 0 body) in
    let instrumented : List PlainStmt = instrument_all number texts pieces 0 body in
    all_same sc s.made (stmts_of (prologue_text (initial_piece number body) 0 decls ++ (begin ∷ (instrumented ++ verdict ∷ [])))) vs s
    (join_none (prologue_text (initial_piece number body) 0 decls) (begin ∷ (instrumented ++ verdict ∷ []))
    (prologue_none (initial_piece number body) (cells_none number texts body) 0 decls)
    (tt, join_none instrumented (verdict ∷ []) (body_none number texts pieces (piece_none number texts body) 0 body) (tt, tt)))
    refl
