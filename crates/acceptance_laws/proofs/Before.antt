-- Before `begin` an instrumented text sets words, wide names and entries of tables alone: it stores into no array.
use Rattle.std.proofs.Common.{◌≡◌, ℕ, suc, ◌+◌, Bool, true, false, if◌then◌else◌, nat_eq, List, [], ◌∷◌, ◌++◌, not, codes, refl, sym, ap, ◌∙◌, true≢false, subst, Option, None, Some}
use Rattle.std.specs.List.{list_any}
use Rattle.std.proofs.lemmas.Bool.{or_from, or_parts, false_from_ne_true}
use Rattle.std.proofs.lemmas.List.{append_assoc}
use Rattle.c_tree.specs.Plain.{Word, PlainExpr, lit, var, cell, un, bin, cast, test, umin, umax, PlainExprs, no_exprs, more_exprs, PlainStmt, loop, choice, assign, table, begin, check, verdict, PlainStmts, no_stmts, more_stmts, PlainParam, PlainUnit}
use Rattle.c_tree.specs.Trees.{stmts_of}
use Rattle.c_tree.specs.Reserved.{is_reserved}
use Rattle.instrumentation.specs.Names.{active, index_word, current, counts, number_in}
use Rattle.c_tree.specs.Instances.{sites, sites_all}
use Rattle.instrumentation.specs.Body.{full, instrument_all}
use Rattle.instrumentation.specs.Inspects.{inspects_all}
use Rattle.instrumentation.specs.Tables.{row_of, words_at, walk, walk_all, index_words, word_checks, count_current, inspect_cell, inspect_indices, inspect_reads, no_reads, count_writes, number_writes, build, initial}
use Rattle.instrumentation.specs.Pieces.{initial_piece, site_pieces_all, piece_at, builds}
use Rattle.instrumentation.proofs.Subscripts.{cell_or_not, not_by_cell}
use Rattle.instrumentation.specs.Passes.{renamed_all, Target, count_cell, count_indices, count_reads, own_write, write_text, count_write, copied, copied_all, pass_text, cell_piece, coordinates_from}
use Rattle.instrumentation.specs.Prologue.{cell_loops, add_cell, cell_text, array_text, prologue_text}
use Rattle.instrumentation.specs.Guarded.{arrays_with_extents, extents_of, array_names, guarded}
use Rattle.acceptance.specs.Items.{is_array, param_name}
use Rattle.acceptance_laws.proofs.Names.{own, begins, current_not_own, counts_not_own}
use Rattle.acceptance_laws.proofs.Expressions.{array_param_of}
use Rattle.acceptance_laws.proofs.Units.{OwnParams, not_param}
use Rattle.acceptance.specs.Printed.{before_begin, stores, any_stores, StoresNothingBefore}
use Rattle.c_tree.specs.declared.expr.BinOp.{BinOp}

-- a name, or a cell of what is no array
abbrev IsNoCell : List PlainParam → PlainExpr → Type 0
IsNoCell ps (var x) = Unit {0}
IsNoCell ps (cell x at) = is_array ps x ≡ false
IsNoCell ps _ = ⊥

-- no assignment has a cell of an array for its target, and no `begin` is among the statements
abbrev mutual
  Sets : List PlainParam → PlainStmt → Type 0
  Sets ps (loop x lo rel hi body) = AllSet ps body
  Sets ps (choice ts first other) = AllSet ps first × AllSet ps other
  Sets ps (assign target op e) = IsNoCell ps target
  Sets ps (table x len) = Unit {0}
  Sets ps begin = ⊥
  Sets ps (check x extent a) = Unit {0}
  Sets ps verdict = ⊥

  AllSet : List PlainParam → PlainStmts → Type 0
  AllSet ps no_stmts = Unit {0}
  AllSet ps (more_stmts s ss) = Sets ps s × AllSet ps ss

abbrev TextSets : List PlainParam → List PlainStmt → Type 0
TextSets ps ss = AllSet ps (stmts_of ss)

sets_join : (ps : List PlainParam) (a b : List PlainStmt) → TextSets ps a → TextSets ps b → TextSets ps (a ++ b)
sets_join ps [] b h g = g
sets_join ps (s ∷ a) b h g = (h.0, sets_join ps a b h.1 g)

sets_if : (ps : List PlainParam) (b : Bool) (ss : List PlainStmt) → TextSets ps ss → TextSets ps (if b then ss else [])
sets_if ps true ss h = h
sets_if ps false ss h = tt

-- ---- what sets stores nothing

target_stores : (ps : List PlainParam) (t : PlainExpr) (op : Option BinOp) (e : PlainExpr) → IsNoCell ps t → stores ps (assign t op e) ≡ false
target_stores ps (var x) op e h = refl
target_stores ps (cell x at) op e h = h
target_stores ps _ op e h = absurd h

mutual
  sets_store : (ps : List PlainParam) (s : PlainStmt) → Sets ps s → stores ps s ≡ false
  sets_store ps (loop x lo rel hi body) h = all_sets_store ps body h
  sets_store ps (choice ts first other) h = or_from _ _ (all_sets_store ps first h.0) (all_sets_store ps other h.1)
  sets_store ps (assign t op e) h = target_stores ps t op e h
  sets_store ps (table x len) h = refl
  sets_store ps begin h = refl
  sets_store ps (check x extent a) h = refl
  sets_store ps verdict h = refl

  all_sets_store : (ps : List PlainParam) (ss : PlainStmts) → AllSet ps ss → any_stores ps ss ≡ false
  all_sets_store ps no_stmts h = refl
  all_sets_store ps (more_stmts s ss) h = or_from _ _ (sets_store ps s h.0) (all_sets_store ps ss h.1)

-- a statement that sets is no `begin`
before_more : (ps : List PlainParam) (s : PlainStmt) (ss : PlainStmts) → Sets ps s → before_begin (more_stmts s ss) ≡ more_stmts s (before_begin ss)
before_more ps begin ss h = absurd h
before_more ps _ ss h = refl

sets_before : (ps : List PlainParam) (a b : List PlainStmt) → TextSets ps a → any_stores ps (before_begin (stmts_of (a ++ begin ∷ b))) ≡ false
sets_before ps [] b h = refl
sets_before ps (s ∷ a) b h = rw (before_more ps s (stmts_of (a ++ begin ∷ b)) h.0) (or_from _ _ (sets_store ps s h.0) (sets_before ps a b h.1))

-- ---- passes

module _ (ps : List PlainParam) (number : Word → ℕ) (target : Target) (site : Option ℕ) where
  cell_sets : (xs : List Word) (x : Word) (at : PlainExprs) → TextSets ps (count_cell number target xs x at)
  cell_sets xs x at = sets_if ps (nat_eq (number x) target.array) _ (((tt, tt), tt), tt)

  indices_set : (xs : List Word) (at : PlainExprs) → TextSets ps (count_indices number target xs at)
  indices_set xs no_exprs = tt
  indices_set xs (more_exprs e es) =
      cell_or_not (λ e. TextSets ps (count_indices number target xs (more_exprs e es)))
      (λ x at. sets_join ps (count_cell number target xs x at) (count_indices number target xs es) (cell_sets xs x at) (indices_set xs es))
      (λ e other. subst (TextSets ps) (sym (not_by_cell e (λ x at. count_cell number target xs x at ++ count_indices number target xs es) (count_indices number target xs es) other)) (indices_set xs es))
      e

  counts_set : (xs : List Word) (e : PlainExpr) → TextSets ps (count_reads number target xs e)
  counts_set xs (lit n) = tt
  counts_set xs (var x) = tt
  counts_set xs (cell x at) = sets_join ps (count_indices number target xs at) (count_cell number target xs x at) (indices_set xs at) (cell_sets xs x at)
  counts_set xs (un op a) = counts_set xs a
  counts_set xs (bin op a b) = sets_join ps (count_reads number target xs a) (count_reads number target xs b) (counts_set xs a) (counts_set xs b)
  counts_set xs (cast a) = counts_set xs a
  counts_set xs (test rel a b) = sets_join ps (count_reads number target xs a) (count_reads number target xs b) (counts_set xs a) (counts_set xs b)
  counts_set xs (umin a b) = sets_join ps (count_reads number target xs a) (count_reads number target xs b) (counts_set xs a) (counts_set xs b)
  counts_set xs (umax a b) = sets_join ps (count_reads number target xs a) (count_reads number target xs b) (counts_set xs a) (counts_set xs b)
  counts_set xs _ = tt

  own_sets : (xs : List Word) → TextSets ps (own_write xs)
  own_sets [] = (tt, tt)
  own_sets (x ∷ xs) = (((tt, tt), (tt, tt)), tt)

  write_sets : (seen : Option ℕ) (xs : List Word) (k : ℕ) → TextSets ps (write_text seen xs k)
  write_sets None xs k = (tt, tt)
  write_sets (Some s) xs k = chosen (nat_eq s k)
    where
      chosen : (b : Bool) → TextSets ps (if b then own_write xs else (assign (var active) None (lit 0) ∷ []))
      chosen true = own_sets xs
      chosen false = (tt, tt)

  count_write_sets : (xs : List Word) (k : ℕ) (t : PlainExpr) → TextSets ps (count_write number target site xs k t)
  count_write_sets xs k (cell x at) = sets_if ps (nat_eq (number x) target.array) _ ((write_sets site xs k, tt), tt)
  count_write_sets xs k _ = tt

  mutual
    copied_sets : (xs : List Word) (k : ℕ) (s : PlainStmt) → TextSets ps (copied number target site xs k s)
    copied_sets xs k (loop x lo rel hi body) = (all_copied_sets (x ∷ xs) k body, tt)
    copied_sets xs k (choice ts first other) = ((all_copied_sets xs k first, all_copied_sets xs (k + sites_all first) other), tt)
    copied_sets xs k (assign t op e) = sets_join ps (count_reads number target xs (full t op e)) (count_write number target site xs k t) (counts_set xs (full t op e)) (count_write_sets xs k t)
    copied_sets xs k _ = tt

    all_copied_sets : (xs : List Word) (k : ℕ) (ss : PlainStmts) → TextSets ps (copied_all number target site xs k ss)
    all_copied_sets xs k no_stmts = tt
    all_copied_sets xs k (more_stmts s ss) = sets_join ps (copied number target site xs k s) (copied_all number target site xs (k + sites s) ss) (copied_sets xs k s) (all_copied_sets xs (k + sites s) ss)

  pass_sets : (whole : PlainStmts) → TextSets ps (pass_text number whole target site)
  pass_sets whole = (tt, (tt, sets_join ps (copied_all number target site [] 0 whole) _ (all_copied_sets [] 0 whole) (tt, tt)))

-- ---- tables

module _ (ps : List PlainParam) (own_ps : OwnParams ps) where
  no_table_array : (x : Word) → own x ≡ false → is_array ps x ≡ false
  no_table_array x o = false_from_ne_true (is_array ps x) (λ e. true≢false (sym (array_param_of ps x e) ∙ not_param ps x own_ps o))

  module _ (reads writes : List Word → PlainExpr → List PlainStmt) (each_read : (xs : List Word) (e : PlainExpr) → TextSets ps (reads xs e)) (each_write : (xs : List Word) (e : PlainExpr) → TextSets ps (writes xs e)) where
    mutual
      walk_sets : (xs : List Word) (s : PlainStmt) → TextSets ps (walk reads writes xs s)
      walk_sets xs (loop x lo rel hi body) = (all_walk_sets (x ∷ xs) body, tt)
      walk_sets xs (choice ts first other) = ((all_walk_sets xs first, all_walk_sets xs other), tt)
      walk_sets xs (assign t op e) = sets_join ps (reads xs (full t op e)) (writes xs t) (each_read xs (full t op e)) (each_write xs t)
      walk_sets xs _ = tt

      all_walk_sets : (xs : List Word) (ss : PlainStmts) → TextSets ps (walk_all reads writes xs ss)
      all_walk_sets xs no_stmts = tt
      all_walk_sets xs (more_stmts s ss) = sets_join ps (walk reads writes xs s) (walk_all reads writes xs ss) (walk_sets xs s) (all_walk_sets xs ss)

  module _ (number : Word → ℕ) (a : ℕ) (extents : PlainExprs) where
    index_words_set : (xs : List Word) (d : ℕ) (at : PlainExprs) → TextSets ps (index_words xs d at)
    index_words_set xs d no_exprs = tt
    index_words_set xs d (more_exprs e es) =
        cell_or_not (λ e. TextSets ps (index_words xs d (more_exprs e es)))
        (λ x at. (tt, index_words_set xs (suc d) es))
        (λ e other. subst (TextSets ps) (sym (not_by_cell e (λ x at. assign (var (index_word d)) None (cell x (renamed_all xs at)) ∷ index_words xs (suc d) es) (index_words xs (suc d) es) other)) (index_words_set xs (suc d) es))
        e

    word_checks_set : (d : ℕ) (at ns : PlainExprs) → TextSets ps (word_checks a d at ns)
    word_checks_set d no_exprs ns = tt
    word_checks_set d (more_exprs e es) no_exprs = tt
    word_checks_set d (more_exprs e es) (more_exprs n ns) =
        cell_or_not (λ e. TextSets ps (word_checks a d (more_exprs e es) (more_exprs n ns)))
        (λ x at. (tt, word_checks_set (suc d) es ns))
        (λ e other. subst (TextSets ps) (sym (not_by_cell e (λ x at. check (index_word d) n a ∷ word_checks a (suc d) es ns) (word_checks a (suc d) es ns) other)) (word_checks_set (suc d) es ns))
        e

    inspect_cell_sets : (xs : List Word) (x : Word) (at : PlainExprs) → TextSets ps (inspect_cell number a extents xs x at)
    inspect_cell_sets xs x at =
        sets_if ps (nat_eq (number x) a) _
        (sets_join ps (index_words xs 0 at) (word_checks a 0 at extents ++ count_current a (row_of extents (words_at xs 0 at)) ∷ []) (index_words_set xs 0 at)
        (sets_join ps (word_checks a 0 at extents) (count_current a (row_of extents (words_at xs 0 at)) ∷ []) (word_checks_set 0 at extents) (no_table_array (counts a) (counts_not_own a), tt)))

    inspect_indices_set : (xs : List Word) (at : PlainExprs) → TextSets ps (inspect_indices number a extents xs at)
    inspect_indices_set xs no_exprs = tt
    inspect_indices_set xs (more_exprs e es) =
        cell_or_not (λ e. TextSets ps (inspect_indices number a extents xs (more_exprs e es)))
        (λ x at. sets_join ps (inspect_cell number a extents xs x at) (inspect_indices number a extents xs es) (inspect_cell_sets xs x at) (inspect_indices_set xs es))
        (λ e other. subst (TextSets ps) (sym (not_by_cell e (λ x at. inspect_cell number a extents xs x at ++ inspect_indices number a extents xs es) (inspect_indices number a extents xs es) other)) (inspect_indices_set xs es))
        e

    inspect_reads_set : (xs : List Word) (e : PlainExpr) → TextSets ps (inspect_reads number a extents xs e)
    inspect_reads_set xs (lit n) = tt
    inspect_reads_set xs (var x) = tt
    inspect_reads_set xs (cell x at) = sets_join ps (inspect_indices number a extents xs at) (inspect_cell number a extents xs x at) (inspect_indices_set xs at) (inspect_cell_sets xs x at)
    inspect_reads_set xs (un op e) = inspect_reads_set xs e
    inspect_reads_set xs (bin op e g) = sets_join ps (inspect_reads number a extents xs e) (inspect_reads number a extents xs g) (inspect_reads_set xs e) (inspect_reads_set xs g)
    inspect_reads_set xs (cast e) = inspect_reads_set xs e
    inspect_reads_set xs (test rel e g) = sets_join ps (inspect_reads number a extents xs e) (inspect_reads number a extents xs g) (inspect_reads_set xs e) (inspect_reads_set xs g)
    inspect_reads_set xs (umin e g) = sets_join ps (inspect_reads number a extents xs e) (inspect_reads number a extents xs g) (inspect_reads_set xs e) (inspect_reads_set xs g)
    inspect_reads_set xs (umax e g) = sets_join ps (inspect_reads number a extents xs e) (inspect_reads number a extents xs g) (inspect_reads_set xs e) (inspect_reads_set xs g)
    inspect_reads_set xs _ = tt

    count_writes_set : (xs : List Word) (t : PlainExpr) → TextSets ps (count_writes number a xs t)
    count_writes_set xs (cell x at) = sets_if ps (nat_eq (number x) a) _ (tt, tt)
    count_writes_set xs _ = tt

    number_writes_set : (xs : List Word) (t : PlainExpr) → TextSets ps (number_writes number a extents xs t)
    number_writes_set xs (cell x at) = sets_if ps (nat_eq (number x) a) _ (no_table_array (current a) (current_not_own a), (tt, tt))
    number_writes_set xs _ = tt

    build_sets : (whole : PlainStmts) → TextSets ps (build number whole a extents)
    build_sets whole = (
      tt,
      sets_join ps (walk_all no_reads (count_writes number a) [] whole) _ (all_walk_sets no_reads (count_writes number a) (λ xs e. tt) count_writes_set [] whole) (
        tt,
        (
          tt,
          (
            tt,
            sets_join ps (walk_all (inspect_reads number a extents) (number_writes number a extents) [] whole) _
                (all_walk_sets (inspect_reads number a extents) (number_writes number a extents) inspect_reads_set number_writes_set [] whole) (tt, tt),
          ),
        ),
      ),
    )

  builds_set : (number : Word → ℕ) (whole : PlainStmts) (a : ℕ) (decls : List (Word × PlainExprs)) → TextSets ps (builds number whole a decls)
  builds_set number whole a [] = tt
  builds_set number whole a (d ∷ ds) =
      sets_join ps (if inspects_all number a whole then build number whole a d.1 else []) (builds number whole (suc a) ds) (sets_if ps (inspects_all number a whole) _ (build_sets number a d.1 whole)) (builds_set number whole (suc a) ds)

-- ---- the prologue

module _ (ps : List PlainParam) where
  loops_set : (body : List PlainStmt) (d : ℕ) (es : PlainExprs) → TextSets ps body → TextSets ps (cell_loops d es body)
  loops_set body d no_exprs h = h
  loops_set body d (more_exprs e es) h = (loops_set body (suc d) es h, tt)

  piece_sets : (number : Word → ℕ) (whole : PlainStmts) (a : ℕ) (es : PlainExprs) → TextSets ps (initial_piece number whole a es)
  piece_sets number whole a es = chosen (inspects_all number a whole)
    where
      chosen : (b : Bool) → TextSets ps (if b then initial a es else cell_piece number whole a es)
      chosen true = (tt, tt)
      chosen false = pass_sets ps number (record { array = a; at = coordinates_from 0 es }) None whole

  prologue_sets : (number : Word → ℕ) (whole : PlainStmts) (a : ℕ) (arrays : List (Word × PlainExprs)) → TextSets ps (prologue_text (initial_piece number whole) a arrays)
  prologue_sets number whole a [] = tt
  prologue_sets number whole a (x ∷ more) =
      let piece : List PlainStmt = initial_piece number whole a x.1 in
      sets_join ps (array_text a x.0 x.1 piece) (prologue_text (initial_piece number whole) (suc a) more)
      (loops_set (cell_text a x.0 x.1 piece) 0 x.1 (tt, sets_join ps piece (add_cell a) (piece_sets number whole a x.1) (tt, tt)))
      (prologue_sets number whole (suc a) more)

free_own : (ps : List PlainParam) → list_any (λ p. is_reserved (param_name p)) ps ≡ false → OwnParams ps
free_own [] h = tt
free_own (p ∷ ps) h = (let q : (is_reserved (param_name p) ≡ false) × (list_any (λ p. is_reserved (param_name p)) ps ≡ false) = or_parts _ _ h in (ap not (or_parts (begins (codes "bal_") (param_name p)) _ q.0).0, free_own ps q.1))

pub nothing_before : (u : PlainUnit) → list_any (λ p. is_reserved (param_name p)) u.params ≡ false → StoresNothingBefore (guarded u)
nothing_before u free =
    let number : Word → ℕ = number_in (array_names u.params) in
    let decls : List (Word × PlainExprs) = arrays_with_extents u.params in
    let tables : List PlainStmt = builds number u.body 0 decls in
    let cells : List PlainStmt = prologue_text (initial_piece number u.body) 0 decls in
    let after : List PlainStmt = instrument_all number (extents_of u.params) (piece_at (site_pieces_all number (extents_of u.params) u.body 0 u.body)) 0 u.body ++ verdict ∷ [] in
    subst (λ (ss : List PlainStmt). any_stores u.params (before_begin (stmts_of ss)) ≡ false) (append_assoc tables cells (begin ∷ after))
    (sets_before u.params (tables ++ cells) after
    (sets_join u.params tables cells (builds_set u.params (free_own u.params free) number u.body 0 decls) (prologue_sets u.params number u.body 0 decls)))
