-- How high the tables' walks are: their statements as the source's, and their expressions higher by those of entries.
use Rattle.std.proofs.Common.{◌≡◌, ℕ, ◌+◌, ◌≤◌, suc, Bool, true, false, if◌then◌else◌, nat_eq, List, [], ◌∷◌, ◌++◌, length, refl, sym, subst, ap, arith, Option, None, Some}
use Rattle.c_tree.specs.Plain.{Word, PlainExpr, lit, var, cell, un, bin, cast, test, umin, umax, PlainExprs, no_exprs, more_exprs, PlainStmt, loop, choice, assign, table, begin, check, verdict, PlainStmts, no_stmts, more_stmts, PlainParam, int_param, array_param}
use Rattle.c_tree.specs.Trees.{stmts_of}
use Rattle.c_tree.specs.Grammar.Expressions.{height, heights}
use Rattle.c_tree.specs.Grammar.Statements.{stmt_height, stmts_height}
use Rattle.c_tree.specs.declared.expr.BinOp.TheVariants.{Add}
use Rattle.instrumentation.specs.Names.{written, index_word, current, counts}
use Rattle.instrumentation.specs.Subscripts.{by_cell}
use Rattle.instrumentation.proofs.Subscripts.{cell_or_not, not_by_cell}
use Rattle.instrumentation.specs.Body.{full}
use Rattle.instrumentation.specs.Passes.{renamed, renamed_all, renamed_tests, set_word}
use Rattle.instrumentation.specs.Inspects.{inspects_all}
use Rattle.instrumentation.specs.Tables.{cells_of, row_of, words_at, walk, walk_all, index_words, word_checks, count_current, inspect_cell, inspect_indices, inspect_reads, one_more, set_current, no_reads, count_writes, number_writes, build}
use Rattle.instrumentation.specs.Pieces.{builds}
use Rattle.instrumentation.specs.Guarded.{arrays_with_extents}
use Rattle.acceptance.specs.Head.{list_of}
use Rattle.acceptance.specs.Heights.{tests_height, exprs_height, all_exprs_height, extents_height}
use Rattle.accepted_laws.specs.Suited.{AreRanked}
use Rattle.accepted_laws.proofs.Heights.{Low, low_join, low_none, low_more, low_if, low_rise, renamed_height, renamed_heights, renamed_tests_height, full_height, cells_height, AllLowWords, row_height}

module _ (m : ℕ) (some : 2 ≤ m) (number : Word → ℕ) where
  abbrev high : ℕ
  high = m + 8

  module _ (reads writes : List Word → PlainExpr → List PlainStmt)
      (each_read : (xs : List Word) (e : PlainExpr) → height e ≤ suc m → Low 1 high (reads xs e)) (each_write : (xs : List Word) (t : PlainExpr) → height t ≤ m → Low 1 high (writes xs t)) where
    mutual
      walk_low : (xs : List Word) (s : PlainStmt) → exprs_height s ≤ m → Low (stmt_height s) high (walk reads writes xs s)
      walk_low xs (loop x lo rel hi body) h =
          let b : Low (stmts_height body) high (walk_all reads writes (x ∷ xs) body) = all_walk_low (x ∷ xs) body (omega arith) in
          let bs = b.stmts in let be = b.exprs in
          let l = renamed_height xs lo in let g = renamed_height xs hi in
          record { stmts = omega arith; exprs = omega arith }
      walk_low xs (choice ts first other) h =
          let a : Low (stmts_height first) high (walk_all reads writes xs first) = all_walk_low xs first (omega arith) in
          let b : Low (stmts_height other) high (walk_all reads writes xs other) = all_walk_low xs other (omega arith) in
          let as' = a.stmts in let ae = a.exprs in let bs = b.stmts in let be = b.exprs in
          let t = renamed_tests_height xs ts in
          record { stmts = omega arith; exprs = omega arith }
      walk_low xs (assign t op e) h = low_join 1 high (reads xs (full t op e)) (writes xs t) (each_read xs (full t op e) (full_height t op e m (omega arith) (omega arith))) (each_write xs t (omega arith))
      walk_low xs (table x len) h = low_none 1 high
      walk_low xs begin h = low_none 1 high
      walk_low xs (check x extent a) h = low_none 1 high
      walk_low xs verdict h = low_none 1 high

      all_walk_low : (xs : List Word) (ss : PlainStmts) → all_exprs_height ss ≤ m → Low (stmts_height ss) high (walk_all reads writes xs ss)
      all_walk_low xs no_stmts h = low_none 0 high
      all_walk_low xs (more_stmts s ss) h =
          let n : ℕ = stmts_height (more_stmts s ss) in
          low_join n high (walk reads writes xs s) (walk_all reads writes xs ss)
          (low_rise (stmt_height s) high n high _ (omega arith) (omega arith) (walk_low xs s (omega arith)))
          (low_rise (stmts_height ss) high n high _ (omega arith) (omega arith) (all_walk_low xs ss (omega arith)))

  module _ (a : ℕ) (extents : PlainExprs) (short : heights extents ≤ m) (few : length (list_of extents) ≤ 3) where
    index_words_low : (xs : List Word) (d : ℕ) (at : PlainExprs) → heights at ≤ m → Low 1 high (index_words xs d at)
    index_words_low xs d no_exprs h = low_none 1 high
    index_words_low xs d (more_exprs e es) h =
        cell_or_not (λ e. height e ≤ m → Low 1 high (index_words xs d (more_exprs e es)))
        (λ x at g. (let r = renamed_heights xs at in low_more 1 high (assign (var (index_word d)) None (cell x (renamed_all xs at))) (index_words xs (suc d) es) (omega arith) (omega arith) (index_words_low xs (suc d) es (omega arith))))
        (λ e other g. subst (Low 1 high) (sym (not_by_cell e (λ x at. assign (var (index_word d)) None (cell x (renamed_all xs at)) ∷ index_words xs (suc d) es) (index_words xs (suc d) es) other)) (index_words_low xs (suc d) es (omega arith)))
        e (omega arith)

    word_checks_low : (d : ℕ) (at ns : PlainExprs) → heights ns ≤ m → Low 1 high (word_checks a d at ns)
    word_checks_low d no_exprs ns h = low_none 1 high
    word_checks_low d (more_exprs e es) no_exprs h = low_none 1 high
    word_checks_low d (more_exprs e es) (more_exprs n ns) h =
        cell_or_not (λ e. Low 1 high (word_checks a d (more_exprs e es) (more_exprs n ns)))
        (λ x at. low_more 1 high (check (index_word d) n a) (word_checks a (suc d) es ns) (omega arith) (omega arith) (word_checks_low (suc d) es ns (omega arith)))
        (λ e other. subst (Low 1 high) (sym (not_by_cell e (λ x at. check (index_word d) n a ∷ word_checks a (suc d) es ns) (word_checks a (suc d) es ns) other)) (word_checks_low (suc d) es ns (omega arith)))
        e

    words_low : (xs : List Word) (d : ℕ) (at : PlainExprs) → heights at ≤ m → AllLowWords (m + 1) (words_at xs d at)
    words_low xs d no_exprs h = tt
    words_low xs d (more_exprs e es) h = (
      cell_or_not (λ e. height e ≤ m → height (by_cell e (λ x at. var (index_word d)) (cast (renamed xs e))) ≤ m + 1)
          (λ x at g. omega arith)
          (λ e other g. (let r = renamed_height xs e in let q : height (by_cell e (λ x at. var (index_word d)) (cast (renamed xs e))) ≡ height (cast (renamed xs e)) = ap height (not_by_cell e (λ x at. var (index_word d)) (cast (renamed xs e)) other) in omega arith))
          e (omega arith),
      words_low xs (suc d) es (omega arith),
    )

    inspect_cell_low : (xs : List Word) (x : Word) (at : PlainExprs) → heights at ≤ m → Low 1 high (inspect_cell number a extents xs x at)
    inspect_cell_low xs x at h =
        let r = row_height m extents (words_at xs 0 at) short (words_low xs 0 at h) in
        low_if 1 high (nat_eq (number x) a) _
        (low_join 1 high (index_words xs 0 at) (word_checks a 0 at extents ++ count_current a (row_of extents (words_at xs 0 at)) ∷ []) (index_words_low xs 0 at h)
        (low_join 1 high (word_checks a 0 at extents) (count_current a (row_of extents (words_at xs 0 at)) ∷ []) (word_checks_low 0 at extents short)
        (record { stmts = omega arith; exprs = omega arith })))

    inspect_indices_low : (xs : List Word) (at : PlainExprs) → heights at ≤ m → Low 1 high (inspect_indices number a extents xs at)
    inspect_indices_low xs no_exprs h = low_none 1 high
    inspect_indices_low xs (more_exprs e es) h =
        cell_or_not (λ e. height e ≤ m → Low 1 high (inspect_indices number a extents xs (more_exprs e es)))
        (λ x at g. low_join 1 high (inspect_cell number a extents xs x at) (inspect_indices number a extents xs es) (inspect_cell_low xs x at (omega arith)) (inspect_indices_low xs es (omega arith)))
        (λ e other g. subst (Low 1 high) (sym (not_by_cell e (λ x at. inspect_cell number a extents xs x at ++ inspect_indices number a extents xs es) (inspect_indices number a extents xs es) other)) (inspect_indices_low xs es (omega arith)))
        e (omega arith)

    inspect_reads_low : (xs : List Word) (e : PlainExpr) → height e ≤ suc m → Low 1 high (inspect_reads number a extents xs e)
    inspect_reads_low xs (cell x at) h = low_join 1 high (inspect_indices number a extents xs at) (inspect_cell number a extents xs x at) (inspect_indices_low xs at (omega arith)) (inspect_cell_low xs x at (omega arith))
    inspect_reads_low xs (un op e) h = inspect_reads_low xs e (omega arith)
    inspect_reads_low xs (bin op e g) h = low_join 1 high (inspect_reads number a extents xs e) (inspect_reads number a extents xs g) (inspect_reads_low xs e (omega arith)) (inspect_reads_low xs g (omega arith))
    inspect_reads_low xs (cast e) h = inspect_reads_low xs e (omega arith)
    inspect_reads_low xs (test rel e g) h = low_join 1 high (inspect_reads number a extents xs e) (inspect_reads number a extents xs g) (inspect_reads_low xs e (omega arith)) (inspect_reads_low xs g (omega arith))
    inspect_reads_low xs (umin e g) h = low_join 1 high (inspect_reads number a extents xs e) (inspect_reads number a extents xs g) (inspect_reads_low xs e (omega arith)) (inspect_reads_low xs g (omega arith))
    inspect_reads_low xs (umax e g) h = low_join 1 high (inspect_reads number a extents xs e) (inspect_reads number a extents xs g) (inspect_reads_low xs e (omega arith)) (inspect_reads_low xs g (omega arith))
    inspect_reads_low xs _ h = low_none 1 high

    one_more_low : Low 1 high (one_more a ∷ [])
    one_more_low = record { stmts = omega arith; exprs = omega arith }

    count_writes_low : (xs : List Word) (t : PlainExpr) → height t ≤ m → Low 1 high (count_writes number a xs t)
    count_writes_low xs (cell x at) h = low_if 1 high (nat_eq (number x) a) _ one_more_low
    count_writes_low xs _ h = low_none 1 high

    number_writes_low : (xs : List Word) (t : PlainExpr) → height t ≤ m → Low 1 high (number_writes number a extents xs t)
    number_writes_low xs (cell x at) h =
        let r = row_height m extents (words_at xs 0 at) short (words_low xs 0 at (omega arith)) in
        let c = cells_height m extents short in
        low_if 1 high (nat_eq (number x) a) _ (low_more 1 high (set_current a extents (row_of extents (words_at xs 0 at))) (one_more a ∷ []) (omega arith) (omega arith) one_more_low)
    number_writes_low xs _ h = low_none 1 high

    build_low : (whole : PlainStmts) → all_exprs_height whole ≤ m → Low (suc (stmts_height whole)) high (build number whole a extents)
    build_low whole h =
        let n : ℕ = suc (stmts_height whole) in
        let c = cells_height m extents short in
        let reset : Low n high (set_word (written a) 0 ∷ []) = record { stmts = omega arith; exprs = omega arith } in
        low_join n high (set_word (written a) 0 ∷ []) _ reset
        (low_join n high (walk_all no_reads (count_writes number a) [] whole) _
        (low_rise (stmts_height whole) high n high _ (omega arith) (omega arith) (all_walk_low no_reads (count_writes number a) (λ xs e g. low_none 1 high) count_writes_low [] whole h))
        (low_more n high (table (current a) (cells_of extents)) _ (omega arith) (omega arith)
        (low_more n high (table (counts a) (bin Add (cells_of extents) (var (written a)))) _ (omega arith) (omega arith)
        (low_more n high (set_word (written a) 0) _ (omega arith) (omega arith)
        (low_join n high (walk_all (inspect_reads number a extents) (number_writes number a extents) [] whole) (set_word (written a) 0 ∷ [])
        (low_rise (stmts_height whole) high n high _ (omega arith) (omega arith) (all_walk_low (inspect_reads number a extents) (number_writes number a extents) inspect_reads_low number_writes_low [] whole h)) reset)))))

  pub builds_low : (whole : PlainStmts) → all_exprs_height whole ≤ m → (a : ℕ) (ps : List PlainParam) → AreRanked ps → extents_height ps ≤ m → Low (suc (stmts_height whole)) high (builds number whole a (arrays_with_extents ps))
  builds_low whole h a [] k g = low_none (suc (stmts_height whole)) high
  builds_low whole h a (int_param x ∷ ps) k g = builds_low whole h a ps k g
  builds_low whole h a (array_param x c es ∷ ps) k g =
      low_join (suc (stmts_height whole)) high (if inspects_all number a whole then build number whole a es else []) (builds number whole (suc a) (arrays_with_extents ps))
      (low_if (suc (stmts_height whole)) high (inspects_all number a whole) _ (build_low a es (omega arith) k.1 whole h)) (builds_low whole h (suc a) ps k.2 (omega arith))
