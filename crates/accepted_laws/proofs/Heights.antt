-- How high the parts of a source's text are: its statements rise by those of a counting pass, and its expressions by one, or by those of entries of tables.
use Rattle.std.proofs.Common.{bytes_eq, ◌≡◌, ℕ, ◌+◌, ◌≤◌, zero, suc, Bool, true, false, if◌then◌else◌, nat_eq, List, [], ◌∷◌, ◌++◌, length, refl, sym, subst, ap, arith, Option, None, Some}
use Rattle.c_tree.specs.Plain.{Word, PlainExpr, lit, var, cell, un, bin, cast, test, umin, umax, least, greatest, widen, big, PlainExprs, no_exprs, more_exprs, PlainTest, PlainStmt, loop, choice, assign, table, begin, check, verdict, PlainStmts, no_stmts, more_stmts, PlainParam, int_param, array_param, PlainUnit}
use Rattle.c_tree.specs.Trees.{stmts_of}
use Rattle.c_tree.specs.Instances.{sites, sites_all}
use Rattle.c_tree.specs.declared.expr.BinOp.{BinOp}
use Rattle.c_tree.specs.Grammar.Expressions.{height, heights}
use Rattle.c_tree.specs.Grammar.Statements.{stmt_height, stmts_height}
use Rattle.instrumentation.specs.Names.{register, active, number_in}
use Rattle.instrumentation.specs.Subscripts.{indices_in}
use Rattle.instrumentation.proofs.Subscripts.{cell_or_not, not_by_cell}
use Rattle.instrumentation.specs.Body.{reads_in, load_text, index_loads, index_checks, by_words, loads_text, pure, full, add_text, assigned_text, instrument, instrument_all}
use Rattle.instrumentation.specs.Passes.{renamed, renamed_all, renamed_tests, Target, same_cell, set_word, count_cell, count_indices, count_reads, same_instance, own_write, write_text, count_write, copied, copied_all, pass_text, write_piece, coordinates_from, cell_piece}
use Rattle.instrumentation.specs.Inspects.{inspects_all}
use Rattle.instrumentation.specs.Tables.{cells_of, row_of, words_from, initial, at_write}
use Rattle.instrumentation.specs.Pieces.{initial_piece, site_piece, site_pieces, site_pieces_all, piece_at}
use Rattle.instrumentation.specs.Prologue.{cell_loops, add_cell, cell_text, array_text, prologue_text}
use Rattle.instrumentation.specs.Guarded.{arrays_with_extents, extents_of, array_names, guarded}
use Rattle.acceptance.specs.Head.{list_of}
use Rattle.acceptance.specs.Heights.{tests_height, exprs_height, all_exprs_height, extents_height, IsLow}
use Rattle.accepted_laws.specs.Pieces.{with_pieces}
use Rattle.accepted_laws.specs.Suited.{AreRanked}

-- a text of at most these heights
pub record Low (s e : ℕ) (ss : List PlainStmt) : Type 0 where
  pub stmts : stmts_height (stmts_of ss) ≤ s
  pub exprs : all_exprs_height (stmts_of ss) ≤ e

pub low_join : (s e : ℕ) (a b : List PlainStmt) → Low s e a → Low s e b → Low s e (a ++ b)
low_join s e [] b h g = g
low_join s e (x ∷ a) b h g =
    let hs = h.stmts in let he = h.exprs in
    let r : Low s e (a ++ b) = low_join s e a b (record { stmts = omega arith; exprs = omega arith }) g in
    let rs = r.stmts in let re = r.exprs in
    record { stmts = omega arith; exprs = omega arith }

pub low_none : (s e : ℕ) → Low s e []
low_none s e = record { stmts = omega arith; exprs = omega arith }

pub low_more : (s e : ℕ) (x : PlainStmt) (a : List PlainStmt) → stmt_height x ≤ s → exprs_height x ≤ e → Low s e a → Low s e (x ∷ a)
low_more s e x a h g r = (let rs = r.stmts in let re = r.exprs in record { stmts = omega arith; exprs = omega arith })

pub low_if : (s e : ℕ) (b : Bool) (ss : List PlainStmt) → Low s e ss → Low s e (if b then ss else [])
low_if s e true ss h = h
low_if s e false ss h = low_none s e

pub low_rise : (s e t f : ℕ) (ss : List PlainStmt) → s ≤ t → e ≤ f → Low s e ss → Low t f ss
low_rise s e t f ss h g r = (let rs = r.stmts in let re = r.exprs in record { stmts = omega arith; exprs = omega arith })

-- ---- expressions

mutual
  pub renamed_height : (xs : List Word) (e : PlainExpr) → height (renamed xs e) ≡ height e
  renamed_height xs (lit n) = refl
  renamed_height xs (var x) = refl
  renamed_height xs (cell x at) = ap suc (renamed_heights xs at)
  renamed_height xs (un op a) = ap suc (renamed_height xs a)
  renamed_height xs (bin op a b) = (let p = renamed_height xs a in let q = renamed_height xs b in omega arith)
  renamed_height xs (cast a) = ap suc (renamed_height xs a)
  renamed_height xs (test rel a b) = (let p = renamed_height xs a in let q = renamed_height xs b in omega arith)
  renamed_height xs (umin a b) = (let p = renamed_height xs a in let q = renamed_height xs b in omega arith)
  renamed_height xs (umax a b) = (let p = renamed_height xs a in let q = renamed_height xs b in omega arith)
  renamed_height xs (least a b) = (let p = renamed_height xs a in let q = renamed_height xs b in omega arith)
  renamed_height xs (greatest a b) = (let p = renamed_height xs a in let q = renamed_height xs b in omega arith)
  renamed_height xs (widen a) = ap suc (renamed_height xs a)
  renamed_height xs (big high low) = refl

  pub renamed_heights : (xs : List Word) (es : PlainExprs) → heights (renamed_all xs es) ≡ heights es
  renamed_heights xs no_exprs = refl
  renamed_heights xs (more_exprs e es) = (let p = renamed_height xs e in let q = renamed_heights xs es in omega arith)

pub renamed_tests_height : (xs : List Word) (ts : List PlainTest) → tests_height (renamed_tests xs ts) ≡ tests_height ts
renamed_tests_height xs [] = refl
renamed_tests_height xs (t ∷ ts) = (let a = renamed_height xs t.1 in let b = renamed_height xs t.2 in let c = renamed_tests_height xs ts in omega arith)

pub some_height : (e : PlainExpr) → 1 ≤ height e
some_height (lit n) = omega arith
some_height (var x) = omega arith
some_height (big high low) = omega arith
some_height _ = omega arith

pure_height : (e : PlainExpr) (j : ℕ) → height (pure e j) ≤ height e
pure_height (lit n) j = omega arith
pure_height (var x) j = omega arith
pure_height (cell x at) j = omega arith
pure_height (un op a) j = (let p = pure_height a j in omega arith)
pure_height (bin op a b) j = (let p = pure_height a j in let q = pure_height b (j + reads_in a) in omega arith)
pure_height (cast a) j = (let p = pure_height a j in omega arith)
pure_height (test rel a b) j = (let p = pure_height a j in let q = pure_height b (j + reads_in a) in omega arith)
pure_height (umin a b) j = (let p = pure_height a j in let q = pure_height b (j + reads_in a) in omega arith)
pure_height (umax a b) j = (let p = pure_height a j in let q = pure_height b (j + reads_in a) in omega arith)
pure_height (least a b) j = omega arith
pure_height (greatest a b) j = omega arith
pure_height (widen a) j = omega arith
pure_height (big high low) j = omega arith

pub full_height : (t : PlainExpr) (op : Option BinOp) (e : PlainExpr) (m : ℕ) → height t ≤ m → height e ≤ m → height (full t op e) ≤ suc m
full_height t None e m h g = omega arith
full_height t (Some op) e m h g = omega arith

same_cell_height : (ds es : PlainExprs) (m : ℕ) → heights ds ≤ m → heights es ≤ m → tests_height (same_cell ds es) ≤ m
same_cell_height no_exprs es m h g = omega arith
same_cell_height (more_exprs d ds) no_exprs m h g = omega arith
same_cell_height (more_exprs d ds) (more_exprs e es) m h g = (let r = same_cell_height ds es m (omega arith) (omega arith) in omega arith)

instance_height : (xs : List Word) → tests_height (same_instance xs) ≤ 1
instance_height [] = omega arith
instance_height (x ∷ xs) = (let r = instance_height xs in omega arith)

pub coordinates_height : (d : ℕ) (es : PlainExprs) → heights (coordinates_from d es) ≤ 1
coordinates_height d no_exprs = omega arith
coordinates_height d (more_exprs e es) = (let r = coordinates_height (suc d) es in omega arith)

-- ---- numbers of cells, of at most three extents

pub cells_height : (m : ℕ) (ns : PlainExprs) → heights ns ≤ m → height (cells_of ns) ≤ m + 1 + length (list_of ns)
cells_height m no_exprs h = omega arith
cells_height m (more_exprs n ns) h = (let r = cells_height m ns (omega arith) in omega arith)

abbrev pub AllLowWords : ℕ → List PlainExpr → Type 0
AllLowWords m [] = Unit {0}
AllLowWords m (c ∷ cs) = (height c ≤ m) × AllLowWords m cs

pub row_height : (m : ℕ) (ns : PlainExprs) (cs : List PlainExpr) → heights ns ≤ m → AllLowWords (m + 1) cs → height (row_of ns cs) ≤ m + 2 + length (list_of ns)
row_height m no_exprs cs h g = omega arith
row_height m (more_exprs n ns) [] h g = omega arith
row_height m (more_exprs n ns) (c ∷ cs) h g =
    let r = row_height m ns cs (omega arith) g.1 in
    let q = cells_height m ns (omega arith) in
    let l : height c ≤ m + 1 = g.0 in
    omega arith

coordinate_words : (m d : ℕ) (es : PlainExprs) → 1 ≤ m → AllLowWords (m + 1) (words_from (coordinates_from d es))
coordinate_words m d no_exprs h = tt
coordinate_words m d (more_exprs e es) h = (omega arith, coordinate_words m (suc d) es h)

pub initial_low : (m a : ℕ) (es : PlainExprs) → 1 ≤ m → heights es ≤ m → length (list_of es) ≤ 3 → Low 1 (m + 8) (initial a es)
initial_low m a es some h few = (let r = row_height m es (words_from (coordinates_from 0 es)) h (coordinate_words m 0 es some) in record { stmts = omega arith; exprs = omega arith })

pub at_write_low : (m a : ℕ) (es : PlainExprs) → heights es ≤ m → length (list_of es) ≤ 3 → Low 1 (m + 8) (at_write a es)
at_write_low m a es h few = (let r = cells_height m es h in record { stmts = omega arith; exprs = omega arith })

-- ---- passes over a source whose expressions are at most m high

module _ (m : ℕ) (some : 2 ≤ m) (number : Word → ℕ) where
  module _ (target : Target) (site : Option ℕ) (low : heights target.at ≤ m) where
    cell_low : (xs : List Word) (x : Word) (at : PlainExprs) → heights at ≤ m → Low 2 (suc m) (count_cell number target xs x at)
    cell_low xs x at h =
        let r = renamed_heights xs at in
        let t = same_cell_height (renamed_all xs at) target.at m (omega arith) low in
        low_if 2 (suc m) (nat_eq (number x) target.array) _ (record { stmts = omega arith; exprs = omega arith })

    indices_low : (xs : List Word) (at : PlainExprs) → heights at ≤ m → Low 2 (suc m) (count_indices number target xs at)
    indices_low xs no_exprs h = low_none 2 (suc m)
    indices_low xs (more_exprs e es) h =
        cell_or_not (λ e. height e ≤ m → Low 2 (suc m) (count_indices number target xs (more_exprs e es)))
        (λ x at g. low_join 2 (suc m) (count_cell number target xs x at) (count_indices number target xs es) (cell_low xs x at (omega arith)) (indices_low xs es (omega arith)))
        (λ e other g. subst (Low 2 (suc m)) (sym (not_by_cell e (λ x at. count_cell number target xs x at ++ count_indices number target xs es) (count_indices number target xs es) other)) (indices_low xs es (omega arith)))
        e (omega arith)

    reads_low : (xs : List Word) (e : PlainExpr) → height e ≤ suc m → Low 2 (suc m) (count_reads number target xs e)
    reads_low xs (cell x at) h = low_join 2 (suc m) (count_indices number target xs at) (count_cell number target xs x at) (indices_low xs at (omega arith)) (cell_low xs x at (omega arith))
    reads_low xs (un op a) h = reads_low xs a (omega arith)
    reads_low xs (bin op a b) h = low_join 2 (suc m) (count_reads number target xs a) (count_reads number target xs b) (reads_low xs a (omega arith)) (reads_low xs b (omega arith))
    reads_low xs (cast a) h = reads_low xs a (omega arith)
    reads_low xs (test rel a b) h = low_join 2 (suc m) (count_reads number target xs a) (count_reads number target xs b) (reads_low xs a (omega arith)) (reads_low xs b (omega arith))
    reads_low xs (umin a b) h = low_join 2 (suc m) (count_reads number target xs a) (count_reads number target xs b) (reads_low xs a (omega arith)) (reads_low xs b (omega arith))
    reads_low xs (umax a b) h = low_join 2 (suc m) (count_reads number target xs a) (count_reads number target xs b) (reads_low xs a (omega arith)) (reads_low xs b (omega arith))
    reads_low xs _ h = low_none 2 (suc m)

    set_low : (n : ℕ) → Low 2 (suc m) (set_word active n ∷ [])
    set_low n = record { stmts = omega arith; exprs = omega arith }

    own_low : (xs : List Word) → Low 2 (suc m) (own_write xs)
    own_low [] = set_low 1
    own_low (x ∷ xs) = (let t = instance_height (x ∷ xs) in record { stmts = omega arith; exprs = omega arith })

    write_low : (seen : Option ℕ) (xs : List Word) (k : ℕ) → Low 2 (suc m) (write_text seen xs k)
    write_low None xs k = set_low 0
    write_low (Some s) xs k = chosen (nat_eq s k)
      where
        chosen : (b : Bool) → Low 2 (suc m) (if b then own_write xs else (set_word active 0 ∷ []))
        chosen true = own_low xs
        chosen false = set_low 0

    count_write_low : (xs : List Word) (k : ℕ) (t : PlainExpr) → height t ≤ m → Low 3 (suc m) (count_write number target site xs k t)
    count_write_low xs k (cell x at) h =
        let r = renamed_heights xs at in
        let t = same_cell_height (renamed_all xs at) target.at m (omega arith) low in
        let w : Low 2 (suc m) (write_text site xs k) = write_low site xs k in
        let ws = w.stmts in
        let we = w.exprs in
        low_if 3 (suc m) (nat_eq (number x) target.array) _ (record { stmts = omega arith; exprs = omega arith })
    count_write_low xs k _ h = low_none 3 (suc m)

    mutual
      copied_low : (xs : List Word) (k : ℕ) (s : PlainStmt) → exprs_height s ≤ m → Low (stmt_height s + 2) (suc m) (copied number target site xs k s)
      copied_low xs k (loop x lo rel hi body) h =
          let b : Low (stmts_height body + 2) (suc m) (copied_all number target site (x ∷ xs) k body) = all_copied_low (x ∷ xs) k body (omega arith) in
          let bs = b.stmts in let be = b.exprs in
          let l = renamed_height xs lo in let g = renamed_height xs hi in
          record { stmts = omega arith; exprs = omega arith }
      copied_low xs k (choice ts first other) h =
          let a : Low (stmts_height first + 2) (suc m) (copied_all number target site xs k first) = all_copied_low xs k first (omega arith) in
          let b : Low (stmts_height other + 2) (suc m) (copied_all number target site xs (k + sites_all first) other) = all_copied_low xs (k + sites_all first) other (omega arith) in
          let as' = a.stmts in let ae = a.exprs in let bs = b.stmts in let be = b.exprs in
          let t = renamed_tests_height xs ts in
          record { stmts = omega arith; exprs = omega arith }
      copied_low xs k (assign t op e) h =
          low_join 3 (suc m) (count_reads number target xs (full t op e)) (count_write number target site xs k t)
          (low_rise 2 (suc m) 3 (suc m) _ (omega arith) (omega arith) (reads_low xs (full t op e) (full_height t op e m (omega arith) (omega arith))))
          (count_write_low xs k t (omega arith))
      copied_low xs k (table x len) h = low_none 3 (suc m)
      copied_low xs k begin h = low_none 3 (suc m)
      copied_low xs k (check x extent a) h = low_none 3 (suc m)
      copied_low xs k verdict h = low_none 3 (suc m)

      all_copied_low : (xs : List Word) (k : ℕ) (ss : PlainStmts) → all_exprs_height ss ≤ m → Low (stmts_height ss + 2) (suc m) (copied_all number target site xs k ss)
      all_copied_low xs k no_stmts h = low_none 2 (suc m)
      all_copied_low xs k (more_stmts s ss) h =
          let n : ℕ = stmts_height (more_stmts s ss) + 2 in
          low_join n (suc m) (copied number target site xs k s) (copied_all number target site xs (k + sites s) ss)
          (low_rise (stmt_height s + 2) (suc m) n (suc m) _ (omega arith) (omega arith) (copied_low xs k s (omega arith)))
          (low_rise (stmts_height ss + 2) (suc m) n (suc m) _ (omega arith) (omega arith) (all_copied_low xs (k + sites s) ss (omega arith)))

    pub pass_low : (whole : PlainStmts) → all_exprs_height whole ≤ m → Low (stmts_height whole + 2) (suc m) (pass_text number whole target site)
    pass_low whole h =
        let n : ℕ = stmts_height whole + 2 in
        low_more n (suc m) _ _ (omega arith) (omega arith) (low_more n (suc m) _ _ (omega arith) (omega arith)
        (low_join n (suc m) (copied_all number target site [] 0 whole) _ (all_copied_low [] 0 whole h) (record { stmts = omega arith; exprs = omega arith })))

  -- ---- the pieces of assignments

  module _ (extents : Word → PlainExprs) (short : (x : Word) → heights (extents x) ≤ m) (few : (x : Word) → length (list_of (extents x)) ≤ 3) (whole : PlainStmts) (h : all_exprs_height whole ≤ m) where
    abbrev rise : ℕ
    rise = stmts_height whole + 2

    abbrev AllLow : List (List PlainStmt) → Type 0
    AllLow [] = Unit {0}
    AllLow (p ∷ ps) = Low rise (m + 8) p × AllLow ps

    all_joined : (ps qs : List (List PlainStmt)) → AllLow ps → AllLow qs → AllLow (ps ++ qs)
    all_joined [] qs a b = b
    all_joined (p ∷ ps) qs a b = (a.0, all_joined ps qs a.1 b)

    one_of : (ps : List (List PlainStmt)) (k : ℕ) → AllLow ps → Low rise (m + 8) (piece_at ps k)
    one_of [] k a = low_none rise (m + 8)
    one_of (p ∷ ps) zero a = a.0
    one_of (p ∷ ps) (suc k) a = one_of ps k a.1

    site_piece_low : (k : ℕ) (t : PlainExpr) → height t ≤ m → Low rise (m + 8) (site_piece number extents whole k t)
    site_piece_low k (cell x at) g = chosen (inspects_all number (number x) whole)
      where
        chosen : (b : Bool) → Low rise (m + 8) (if b then at_write (number x) (extents x) else write_piece number whole k (cell x at))
        chosen true = low_rise 1 (m + 8) rise (m + 8) (at_write (number x) (extents x)) (omega arith) (omega arith) (at_write_low m (number x) (extents x) (short x) (few x))
        chosen false = low_rise rise (suc m) rise (m + 8) (write_piece number whole k (cell x at)) (omega arith) (omega arith) (pass_low (record { array = number x; at = at }) (Some k) (omega arith) whole h)
    site_piece_low k _ g = low_none rise (m + 8)

    mutual
      each_low : (k : ℕ) (s : PlainStmt) → exprs_height s ≤ m → AllLow (site_pieces number extents whole k s)
      each_low k (loop x lo rel hi body) g = all_pieces_low k body (omega arith)
      each_low k (choice ts first other) g =
          all_joined (site_pieces_all number extents whole k first) (site_pieces_all number extents whole (k + sites_all first) other) (all_pieces_low k first (omega arith)) (all_pieces_low (k + sites_all first) other (omega arith))
      each_low k (assign t op e) g = (site_piece_low k t (omega arith), tt)
      each_low k _ g = tt

      all_pieces_low : (k : ℕ) (ss : PlainStmts) → all_exprs_height ss ≤ m → AllLow (site_pieces_all number extents whole k ss)
      all_pieces_low k no_stmts g = tt
      all_pieces_low k (more_stmts s ss) g =
          all_joined (site_pieces number extents whole k s) (site_pieces_all number extents whole (k + sites s) ss) (each_low k s (omega arith)) (all_pieces_low (k + sites s) ss (omega arith))

    pub piece_low : (k : ℕ) → Low rise (m + 8) (piece_at (site_pieces_all number extents whole 0 whole) k)
    piece_low k = one_of (site_pieces_all number extents whole 0 whole) k (all_pieces_low 0 whole h)

    pub initial_piece_low : (a : ℕ) (es : PlainExprs) → heights es ≤ m → length (list_of es) ≤ 3 → Low rise (m + 8) (initial_piece number whole a es)
    initial_piece_low a es g l = chosen (inspects_all number a whole)
      where
        chosen : (b : Bool) → Low rise (m + 8) (if b then initial a es else cell_piece number whole a es)
        chosen true = low_rise 1 (m + 8) rise (m + 8) (initial a es) (omega arith) (omega arith) (initial_low m a es (omega arith) g l)
        chosen false =
            let c = coordinates_height 0 es in
            low_rise rise (suc m) rise (m + 8) (cell_piece number whole a es) (omega arith) (omega arith) (pass_low (record { array = a; at = coordinates_from 0 es }) None (omega arith) whole h)

  -- ---- the instrumented statements

  load_low : (x : Word) (at : PlainExprs) (j : ℕ) → heights at ≤ m → Low 1 (suc m) (load_text (number x) x at j)
  load_low x at j h = record { stmts = omega arith; exprs = omega arith }

  index_loads_low : (at : PlainExprs) (j : ℕ) → heights at ≤ m → Low 1 (suc m) (index_loads number at j)
  index_loads_low no_exprs j h = low_none 1 (suc m)
  index_loads_low (more_exprs e es) j h =
      cell_or_not (λ e. height e ≤ m → Low 1 (suc m) (index_loads number (more_exprs e es) j))
      (λ x at g. low_join 1 (suc m) (load_text (number x) x at j) (index_loads number es (j + 1)) (load_low x at j (omega arith)) (index_loads_low es (j + 1) (omega arith)))
      (λ e other g. subst (Low 1 (suc m)) (sym (not_by_cell e (λ x at. load_text (number x) x at j ++ index_loads number es (j + 1)) (index_loads number es j) other)) (index_loads_low es j (omega arith)))
      e (omega arith)

  checks_low : (a : ℕ) (at ns : PlainExprs) (j : ℕ) → heights ns ≤ m → Low 1 (suc m) (index_checks a at ns j)
  checks_low a no_exprs ns j h = low_none 1 (suc m)
  checks_low a (more_exprs e es) no_exprs j h = low_none 1 (suc m)
  checks_low a (more_exprs e es) (more_exprs n ns) j h =
      cell_or_not (λ e. Low 1 (suc m) (index_checks a (more_exprs e es) (more_exprs n ns) j))
      (λ x at. low_more 1 (suc m) (check (register j) n a) (index_checks a es ns (j + 1)) (omega arith) (omega arith) (checks_low a es ns (j + 1) (omega arith)))
      (λ e other. subst (Low 1 (suc m)) (sym (not_by_cell e (λ x at. check (register j) n a ∷ index_checks a es ns (j + 1)) (index_checks a es ns j) other)) (checks_low a es ns j (omega arith)))
      e

  words_height : (at : PlainExprs) (j : ℕ) → heights (by_words at j) ≤ heights at
  words_height no_exprs j = omega arith
  words_height (more_exprs e es) j =
      cell_or_not (λ e. heights (by_words (more_exprs e es) j) ≤ heights (more_exprs e es))
      (λ x at. (let p = words_height es (j + 1) in omega arith))
      (λ e other. (let p = words_height es j in let q : heights (by_words (more_exprs e es) j) ≡ heights (more_exprs e (by_words es j)) = ap heights (not_by_cell e (λ x at. more_exprs (var (register j)) (by_words es (j + 1))) (more_exprs e (by_words es j)) other) in omega arith))
      e

  module _ (texts : Word → PlainExprs) (short : (x : Word) → heights (texts x) ≤ m) where
    loads_low : (e : PlainExpr) (j : ℕ) → height e ≤ suc m → Low 1 (suc m) (loads_text number texts e j)
    loads_low (cell x at) j h =
        low_join 1 (suc m) (index_loads number at j) (index_checks (number x) at (texts x) j ++ load_text (number x) x (by_words at j) (j + indices_in at)) (index_loads_low at j (omega arith))
        (low_join 1 (suc m) (index_checks (number x) at (texts x) j) (load_text (number x) x (by_words at j) (j + indices_in at)) (checks_low (number x) at (texts x) j (short x))
        (load_low x (by_words at j) (j + indices_in at) (let w = words_height at j in omega arith)))
    loads_low (un op a) j h = loads_low a j (omega arith)
    loads_low (bin op a b) j h = low_join 1 (suc m) (loads_text number texts a j) (loads_text number texts b (j + reads_in a)) (loads_low a j (omega arith)) (loads_low b (j + reads_in a) (omega arith))
    loads_low (cast a) j h = loads_low a j (omega arith)
    loads_low (test rel a b) j h = low_join 1 (suc m) (loads_text number texts a j) (loads_text number texts b (j + reads_in a)) (loads_low a j (omega arith)) (loads_low b (j + reads_in a) (omega arith))
    loads_low (umin a b) j h = low_join 1 (suc m) (loads_text number texts a j) (loads_text number texts b (j + reads_in a)) (loads_low a j (omega arith)) (loads_low b (j + reads_in a) (omega arith))
    loads_low (umax a b) j h = low_join 1 (suc m) (loads_text number texts a j) (loads_text number texts b (j + reads_in a)) (loads_low a j (omega arith)) (loads_low b (j + reads_in a) (omega arith))
    loads_low _ j h = low_none 1 (suc m)

    module _ (p high : ℕ) (one : 1 ≤ p) (over : suc m ≤ high) (pieces : ℕ → List PlainStmt) (low : (k : ℕ) → Low p high (pieces k)) where
      assigned_low : (k : ℕ) (t e : PlainExpr) → height t ≤ m → height e ≤ suc m → Low p high (assigned_text number texts (pieces k) t e)
      assigned_low k (var x) e h g =
          let v = pure_height e 0 in
          low_join p high (loads_text number texts e 0) _ (low_rise 1 (suc m) p high _ one over (loads_low e 0 g)) (record { stmts = omega arith; exprs = omega arith })
      assigned_low k (cell x at) e h g =
          let v = pure_height e 0 in
          low_join p high (loads_text number texts e 0) _ (low_rise 1 (suc m) p high _ one over (loads_low e 0 g))
          (low_more p high _ _ (omega arith) (omega arith) (low_more p high _ _ (omega arith) (omega arith)
          (low_join p high (pieces k) (add_text (number x)) (low k) (record { stmts = omega arith; exprs = omega arith }))))
      assigned_low k _ e h g = low_none p high

      -- statements rise by one less than the pieces do
      abbrev pub Risen : ℕ → List PlainStmt → Type 0
      Risen n ss = (stmts_height (stmts_of ss) + 1 ≤ n + p) × (all_exprs_height (stmts_of ss) ≤ high)

      risen_join : (n : ℕ) (a b : List PlainStmt) → Risen n a → Risen n b → Risen n (a ++ b)
      risen_join n [] b h g = g
      risen_join n (x ∷ a) b h g =
          let hs = h.0 in let he = h.1 in
          let r : Risen n (a ++ b) = risen_join n a b (omega arith, omega arith) g in
          let rs = r.0 in let re = r.1 in
          (omega arith, omega arith)

      mutual
        instrument_low : (k : ℕ) (s : PlainStmt) → exprs_height s ≤ m → Risen (stmt_height s) (instrument number texts pieces k s)
        instrument_low k (loop x lo rel hi body) h =
            let b : Risen (stmts_height body) (instrument_all number texts pieces k body) = all_instrument_low k body (omega arith) in
            let bs = b.0 in let be = b.1 in
            (omega arith, omega arith)
        instrument_low k (choice ts first other) h =
            let a : Risen (stmts_height first) (instrument_all number texts pieces k first) = all_instrument_low k first (omega arith) in
            let b : Risen (stmts_height other) (instrument_all number texts pieces (k + sites_all first) other) = all_instrument_low (k + sites_all first) other (omega arith) in
            let as' = a.0 in let ae = a.1 in let bs = b.0 in let be = b.1 in
            (omega arith, omega arith)
        instrument_low k (assign t op e) h =
            let r : Low p high (assigned_text number texts (pieces k) t (full t op e)) = assigned_low k t (full t op e) (omega arith) (full_height t op e m (omega arith) (omega arith)) in
            let rs = r.stmts in
            (omega arith, r.exprs)
        instrument_low k (table x len) h = (omega arith, omega arith)
        instrument_low k begin h = (omega arith, omega arith)
        instrument_low k (check x extent a) h = (omega arith, omega arith)
        instrument_low k verdict h = (omega arith, omega arith)

        pub all_instrument_low : (k : ℕ) (ss : PlainStmts) → all_exprs_height ss ≤ m → Risen (stmts_height ss) (instrument_all number texts pieces k ss)
        all_instrument_low k no_stmts h = (omega arith, omega arith)
        all_instrument_low k (more_stmts s ss) h =
            let a : Risen (stmt_height s) (instrument number texts pieces k s) = instrument_low k s (omega arith) in
            let b : Risen (stmts_height ss) (instrument_all number texts pieces (k + sites s) ss) = all_instrument_low (k + sites s) ss (omega arith) in
            let as' = a.0 in let bs = b.0 in
            risen_join (stmts_height (more_stmts s ss)) (instrument number texts pieces k s) (instrument_all number texts pieces (k + sites s) ss) (omega arith, a.1) (omega arith, b.1)

  -- ---- the prologue

  loops_low : (s high : ℕ) (over : suc m ≤ high) (body : List PlainStmt) (d : ℕ) (es : PlainExprs) → heights es ≤ m → Low s high body → Low (length (list_of es) + s) high (cell_loops d es body)
  loops_low s high over body d no_exprs h b = low_rise s high (0 + s) high body (omega arith) (omega arith) b
  loops_low s high over body d (more_exprs e es) h b =
      let r : Low (length (list_of es) + s) high (cell_loops (suc d) es body) = loops_low s high over body (suc d) es (omega arith) b in
      let rs = r.stmts in let re = r.exprs in let l = some_height e in
      record { stmts = omega arith; exprs = omega arith }

  pub prologue_low : (p high : ℕ) → 1 ≤ p → suc m ≤ high → (cells : ℕ → PlainExprs → List PlainStmt) → ((a : ℕ) (es : PlainExprs) → heights es ≤ m → length (list_of es) ≤ 3 → Low p high (cells a es)) → (a : ℕ) (ps : List PlainParam) → AreRanked ps → extents_height ps ≤ m
      → Low (p + 3) high (prologue_text cells a (arrays_with_extents ps))
  prologue_low p high one over cells each a [] k g = low_none (p + 3) high
  prologue_low p high one over cells each a (int_param x ∷ ps) k g = prologue_low p high one over cells each a ps k g
  prologue_low p high one over cells each a (array_param x c es ∷ ps) k g =
      let few : length (list_of es) ≤ 3 = k.1 in
      let c = coordinates_height 0 es in
      low_join (p + 3) high (array_text a x es (cells a es)) (prologue_text cells (suc a) (arrays_with_extents ps))
      (low_rise (length (list_of es) + p) high (p + 3) high _ (omega arith) (omega arith)
      (loops_low p high over (cell_text a x es (cells a es)) 0 es (omega arith)
      (low_more p high _ _ (omega arith) (omega arith) (low_join p high (cells a es) (add_cell a) (each a es (omega arith) few) (record { stmts = omega arith; exprs = omega arith })))))
      (prologue_low p high one over cells each (suc a) ps k.2 (omega arith))
