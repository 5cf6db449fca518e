-- The walks over a source that build an array's tables, and the pieces that read them: each statement is fine where it stands.
use Rattle.std.proofs.Common.{◌≡◌, ℕ, suc, ◌+◌, ◌<◌, ◌≤◌, true, false, nat_eq, List, [], ◌∷◌, ◌++◌, length, refl, sym, ap, ◌∙◌, subst, arith, inl, inr, eqb-true, None, Some}
use Rattle.std.proofs.lemmas.Bool.{or_from, cases_Bool}
use Rattle.c_tree.specs.Plain.{Word, PlainExpr, lit, var, cell, un, bin, cast, test, umin, umax, least, greatest, widen, PlainExprs, no_exprs, more_exprs, PlainStmt, loop, choice, assign, check, PlainStmts, no_stmts, more_stmts}
use Rattle.c_tree.specs.Trees.{stmts_of}
use Rattle.c_tree.specs.declared.expr.BinOp.TheVariants.{Add, Sub, Mul}
use Rattle.instrumentation.specs.Names.{count, pass_variable, written, index_word, current, counts}
use Rattle.instrumentation.specs.Body.{full}
use Rattle.instrumentation.specs.Passes.{renamed, renamed_all, renamed_tests, coordinates_from}
use Rattle.instrumentation.specs.Tables.{one, cells_of, row_of, words_at, walk, walk_all, index_words, word_checks, count_current, inspect_cell, inspect_indices, inspect_reads, one_more, no_reads, count_writes, number_writes, words_from, initial, at_write}
use Rattle.instrumentation.specs.Subscripts.{by_cell}
use Rattle.instrumentation.proofs.Subscripts.{cell_or_not, not_by_cell}
use Rattle.acceptance.specs.Items.{Loop, Scope, is_loop, is_array}
use Rattle.acceptance.specs.Head.{list_of}
use Rattle.acceptance.specs.Printed.{dimensions}
use Rattle.acceptance_laws.proofs.Expressions.{IsWordAt, IsIndex, AreIndices, IsCellAt, IsSubscript, AreReadable, IsReadAt, IsValue, IsTarget, IsTableAt, IsWords, words_of, words_bin, entry_words, words_wide, indices_readable, subscript_index}
use Rattle.acceptance_laws.proofs.Fine.{inside, StmtFine, TextFine, fine_join}
use Rattle.acceptance_laws.proofs.Statements.{word_fine, wide_fine, entry_fine, check_fine, choice_fine, loop_fine}
use Rattle.acceptance_laws.proofs.Declared.{IsWordName, Declares, AreFree, word_inside, wide_inside}
use Rattle.acceptance_laws.proofs.Sources.{IsSource, AreSource}
use Rattle.acceptance_laws.proofs.Renamed.{head_reaches, indices_reach, index_renamed, indices_renamed, tests_renamed, Copies, copies_none, copies_more}
use Rattle.acceptance_laws.proofs.Passes.{fine_if}

renamed_many : (xs : List Word) (at : PlainExprs) → length (list_of (renamed_all xs at)) ≡ length (list_of at)
renamed_many xs no_exprs = refl
renamed_many xs (more_exprs e es) = ap suc (renamed_many xs es)

-- ---- numbers of cells

abbrev word_at : List Word → ℕ → PlainExpr → PlainExpr
word_at xs d e = by_cell e (λ x at. var (index_word d)) (cast (renamed xs e))

abbrev pub AllWords : Scope → List PlainExpr → Type 0
AllWords sc [] = Unit {0}
AllWords sc (c ∷ cs) = IsWords sc c × AllWords sc cs

cells_words : (sc : Scope) (ns : PlainExprs) → AreIndices sc ns → IsWords sc (cells_of ns)
cells_words sc no_exprs h = words_of sc (lit 1) tt
cells_words sc (more_exprs n ns) h = words_bin sc Mul (cast n) (cells_of ns) refl (words_of sc (cast n) (inr h.0)) (cells_words sc ns h.1)

row_words : (sc : Scope) (ns : PlainExprs) (cs : List PlainExpr) → AreIndices sc ns → AllWords sc cs → IsWords sc (row_of ns cs)
row_words sc no_exprs cs h g = words_of sc (lit 0) tt
row_words sc (more_exprs n ns) [] h g = words_of sc (lit 0) tt
row_words sc (more_exprs n ns) (c ∷ cs) h g =
    words_bin sc Add (bin Mul c (cells_of ns)) (row_of ns cs) refl (words_bin sc Mul c (cells_of ns) refl g.0 (cells_words sc ns h.1)) (row_words sc ns cs h.1 g.1)

table_inside : (sc : Scope) (ls : List Loop) (x : Word) → IsTableAt sc x → IsTableAt (inside sc ls) x
table_inside sc ls x h = record { made = h.made; no_array = h.no_array }

-- ---- the names and the extents that the tables of an array need

pub record Inspecting (sc : Scope) (number : Word → ℕ) (a : ℕ) (extents : PlainExprs) : Type 0 where
  pub written_word : IsWordName sc (written a)
  pub index_names : (d : ℕ) → d < length (list_of extents) → IsWordName sc (index_word d)
  pub extents_signed : AreIndices (inside sc []) extents
  pub rank : (x : Word) → is_array sc.params x ≡ true → number x ≡ a → dimensions sc x ≡ length (list_of extents)

pub record HasTables (sc : Scope) (a : ℕ) : Type 0 where
  pub current_table : IsTableAt sc (current a)
  pub counts_table : IsTableAt sc (counts a)

module _ (f : Word) (number : Word → ℕ) (few : ℕ) (sc : Scope) (declares : Declares f number few sc) where
  -- ---- a walk, of statements that are fine at each place

  module _ (reads writes : List Word → PlainExpr → List PlainStmt)
      (each_read : (xs : List Word) (ls copies : List Loop) → Copies sc [] xs ls copies → (e : PlainExpr) → IsValue (inside sc ls) e → TextFine f sc (reads xs e) copies)
      (each_write : (xs : List Word) (ls copies : List Loop) → Copies sc [] xs ls copies → (t : PlainExpr) → IsTarget (inside sc ls) t → TextFine f sc (writes xs t) copies) where
    mutual
      walk_fine : (s : PlainStmt) (xs : List Word) (ls copies : List Loop) → Copies sc [] xs ls copies → IsSource f sc s ls → TextFine f sc (walk reads writes xs s) copies
      walk_fine (loop x lo rel hi body) xs ls copies c h =
          let l : Loop = record { name = x; lo = lo; rel = rel; hi = hi } in
          let m : Loop = record { name = pass_variable (length xs); lo = renamed xs lo; rel = rel; hi = renamed xs hi } in
          let free = declares.variables_free (length xs) in
          let shallow = h.0.shallow in
          let many = c.as_many in
          let fresh : is_loop copies (pass_variable (length xs)) ≡ false = c.unmade (length xs) (omega arith) (omega arith) in (
            (
              loop_fine f (inside sc copies) (pass_variable (length xs)) (renamed xs lo) rel (renamed xs hi) (stmts_of (walk_all reads writes (x ∷ xs) body))
                  (declares.variables_differ (length xs)) (or_from _ _ fresh free)
                  (index_renamed (inside sc ls) xs (inside sc copies) c.renames true lo h.1)
                  (index_renamed (inside sc ls) xs (inside sc copies) c.renames true hi h.2),
              all_walk_fine body (x ∷ xs) (l ∷ ls) (m ∷ copies) (copies_more sc [] xs ls copies c free shallow l m refl) h.3,
            ),
            tt,
          )
      walk_fine (choice ts first other) xs ls copies c h = (
        (
          choice_fine f (inside sc copies) (renamed_tests xs ts) (stmts_of (walk_all reads writes xs first)) (stmts_of (walk_all reads writes xs other))
              (tests_renamed (inside sc ls) xs (inside sc copies) c.renames ts h.0),
          all_walk_fine first xs ls copies c h.1,
          all_walk_fine other xs ls copies c h.2,
        ),
        tt,
      )
      walk_fine (assign t op e) xs ls copies c h = fine_join f sc copies (reads xs (full t op e)) (writes xs t) (each_read xs ls copies c (full t op e) h.1) (each_write xs ls copies c t h.0)
      walk_fine _ xs ls copies c h = absurd h

      all_walk_fine : (ss : PlainStmts) (xs : List Word) (ls copies : List Loop) → Copies sc [] xs ls copies → AreSource f sc ss ls → TextFine f sc (walk_all reads writes xs ss) copies
      all_walk_fine no_stmts xs ls copies c h = tt
      all_walk_fine (more_stmts s ss) xs ls copies c h = fine_join f sc copies (walk reads writes xs s) (walk_all reads writes xs ss) (walk_fine s xs ls copies c h.0) (all_walk_fine ss xs ls copies c h.1)

    whole_walk_fine : (whole : PlainStmts) → AreSource f sc whole [] → TextFine f sc (walk_all reads writes [] whole) []
    whole_walk_fine whole source = all_walk_fine whole [] [] [] (copies_none sc [] tt (λ d. refl)) source

  -- ---- at one place, for one array

  module _ (a : ℕ) (extents : PlainExprs) (need : Inspecting sc number a extents) where
    module _ (copies : List Loop) (free : AreFree sc copies) where
      abbrev place : Scope
      place = inside sc copies

      written_here : IsWordAt place (written a)
      written_here = word_inside sc copies (written a) free need.written_word

      index_here : (d : ℕ) → d < length (list_of extents) → IsWordAt place (index_word d)
      index_here d h = word_inside sc copies (index_word d) free (need.index_names d h)

      extents_here : AreIndices place extents
      extents_here = indices_reach (inside sc []) place (head_reaches sc copies) extents need.extents_signed

      pub all_cells : IsWords place (cells_of extents)
      all_cells = cells_words place extents extents_here

      pub next_number : IsWords place (bin Add (cells_of extents) (var (written a)))
      next_number = words_bin place Add (cells_of extents) (var (written a)) refl all_cells (words_of place (var (written a)) written_here)

      pub set_written : StmtFine f sc (assign (var (written a)) None (lit 0)) copies
      set_written = word_fine f place (written a) None (lit 0) written_here tt

      pub one_more_fine : StmtFine f sc (one_more a) copies
      one_more_fine = word_fine f place (written a) (Some Add) (lit 1) written_here tt

    -- ---- the first walk

    no_reads_fine : (xs : List Word) (ls copies : List Loop) → Copies sc [] xs ls copies → (e : PlainExpr) → IsValue (inside sc ls) e → TextFine f sc (no_reads xs e) copies
    no_reads_fine xs ls copies c e h = tt

    count_writes_fine : (xs : List Word) (ls copies : List Loop) → Copies sc [] xs ls copies → (t : PlainExpr) → IsTarget (inside sc ls) t → TextFine f sc (count_writes number a xs t) copies
    count_writes_fine xs ls copies c (cell x at) h = fine_if f sc copies (nat_eq (number x) a) (one_more a ∷ []) (one_more_fine copies c.free, tt)
    count_writes_fine xs ls copies c (var x) h = tt
    count_writes_fine xs ls copies c _ h = absurd h

    pub first_walk_fine : (whole : PlainStmts) → AreSource f sc whole [] → TextFine f sc (walk_all no_reads (count_writes number a) [] whole) []
    first_walk_fine whole source = whole_walk_fine no_reads (count_writes number a) no_reads_fine count_writes_fine whole source

    -- ---- where the tables are made

    module _ (tables : HasTables sc a) where
      pub initial_fine : (copies : List Loop) → AreFree sc copies → AreIndices (inside sc copies) (coordinates_from 0 extents) → TextFine f sc (initial a extents) copies
      initial_fine copies free indices =
          let here : Scope = inside sc copies in
          let row : IsWords here (row_of extents (words_from (coordinates_from 0 extents))) = row_words here extents (words_from (coordinates_from 0 extents)) (extents_here copies free) (coordinate_words here (coordinates_from 0 extents) indices) in (
            wide_fine f here count None (widen (cell (counts a) (one (row_of extents (words_from (coordinates_from 0 extents)))))) refl (wide_inside sc copies count declares.count_wide)
                (words_wide here _ (entry_words here (counts a) _ (table_inside sc copies (counts a) tables.counts_table) row)),
            tt,
          )
        where
          coordinate_words : (sd : Scope) (es : PlainExprs) → AreIndices sd es → AllWords sd (words_from es)
          coordinate_words sd no_exprs h = tt
          coordinate_words sd (more_exprs e es) h = (words_of sd (cast e) (inr h.0), coordinate_words sd es h.1)

      pub at_write_fine : (copies : List Loop) → AreFree sc copies → TextFine f sc (at_write a extents) copies
      at_write_fine copies free =
          let here : Scope = inside sc copies in (
            wide_fine f here count None (widen (cell (counts a) (one (bin Add (cells_of extents) (var (written a)))))) refl (wide_inside sc copies count declares.count_wide)
                (words_wide here _ (entry_words here (counts a) _ (table_inside sc copies (counts a) tables.counts_table) (next_number copies free))),
            (one_more_fine copies free, tt),
          )

      -- ---- the second walk

      module _ (xs : List Word) (ls copies : List Loop) (c : Copies sc [] xs ls copies) where
        index_cell : (x : Word) (at : PlainExprs) → IsCellAt (inside sc ls) x at → IsCellAt (inside sc copies) x (renamed_all xs at)
        index_cell x at h = record {
          array = h.array;
          rank = h.rank ∙ sym (renamed_many xs at);
          subscripts = indices_renamed (inside sc ls) xs (inside sc copies) c.renames at h.subscripts;
        }

        index_words_fine : (d : ℕ) (at : PlainExprs) → AreReadable (inside sc ls) at → d + length (list_of at) ≤ length (list_of extents) → TextFine f sc (index_words xs d at) copies
        index_words_fine d no_exprs h r = tt
        index_words_fine d (more_exprs e es) h r =
            cell_or_not (λ e. IsSubscript (inside sc ls) e → TextFine f sc (index_words xs d (more_exprs e es)) copies)
            (λ x at g. (
              word_fine f (inside sc copies) (index_word d) None (cell x (renamed_all xs at)) (index_here copies c.free d (omega arith)) (index_cell x at g),
              index_words_fine (suc d) es h.1 (omega arith),
            ))
            (λ e other g. subst (λ (l : List PlainStmt). TextFine f sc l copies) (sym (not_by_cell e (λ x at. assign (var (index_word d)) None (cell x (renamed_all xs at)) ∷ index_words xs (suc d) es) (index_words xs (suc d) es) other)) (index_words_fine (suc d) es h.1 (omega arith)))
            e h.0

        word_checks_fine : (d : ℕ) (at ns : PlainExprs) → AreIndices (inside sc copies) ns → d + length (list_of at) ≤ length (list_of extents) → TextFine f sc (word_checks a d at ns) copies
        word_checks_fine d no_exprs ns h r = tt
        word_checks_fine d (more_exprs e es) no_exprs h r = tt
        word_checks_fine d (more_exprs e es) (more_exprs n ns) h r =
            cell_or_not (λ e. TextFine f sc (word_checks a d (more_exprs e es) (more_exprs n ns)) copies)
            (λ x at. (check_fine f (inside sc copies) (index_word d) n a (index_here copies c.free d (omega arith)) h.0, word_checks_fine (suc d) es ns h.1 (omega arith)))
            (λ e other. subst (λ (l : List PlainStmt). TextFine f sc l copies) (sym (not_by_cell e (λ x at. check (index_word d) n a ∷ word_checks a (suc d) es ns) (word_checks a (suc d) es ns) other)) (word_checks_fine (suc d) es ns h.1 (omega arith)))
            e

        words_here : (d : ℕ) (at : PlainExprs) → AreReadable (inside sc ls) at → d + length (list_of at) ≤ length (list_of extents) → AllWords (inside sc copies) (words_at xs d at)
        words_here d no_exprs h r = tt
        words_here d (more_exprs e es) h r = (
          cell_or_not (λ e. IsSubscript (inside sc ls) e → IsWords (inside sc copies) (word_at xs d e))
              (λ x at g. words_of (inside sc copies) (var (index_word d)) (index_here copies c.free d (omega arith)))
              (λ e other g. subst (IsWords (inside sc copies)) (sym (not_by_cell e (λ x at. var (index_word d)) (cast (renamed xs e)) other))
              (words_of (inside sc copies) (cast (renamed xs e)) (inr (index_renamed (inside sc ls) xs (inside sc copies) c.renames false e (subscript_index (inside sc ls) e other g)))))
              e h.0,
          words_here (suc d) es h.1 (omega arith),
        )

        its_row : (at : PlainExprs) → AreReadable (inside sc ls) at → length (list_of at) ≡ length (list_of extents) → IsWords (inside sc copies) (row_of extents (words_at xs 0 at))
        its_row at h r = row_words (inside sc copies) extents (words_at xs 0 at) (extents_here copies c.free) (words_here 0 at h (omega arith))

        current_here : IsTableAt (inside sc copies) (current a)
        current_here = table_inside sc copies (current a) tables.current_table

        counts_here : IsTableAt (inside sc copies) (counts a)
        counts_here = table_inside sc copies (counts a) tables.counts_table

        count_current_fine : (row : PlainExpr) → IsWords (inside sc copies) row → StmtFine f sc (count_current a row) copies
        count_current_fine row h =
            entry_fine f (inside sc copies) (counts a) (bin Add row (cell (current a) (one row))) (Some Add) (lit 1) counts_here
            (words_bin (inside sc copies) Add row (cell (current a) (one row)) refl h (entry_words (inside sc copies) (current a) row current_here h)) (words_of (inside sc copies) (lit 1) tt)

        inspect_cell_fine : (x : Word) (at : PlainExprs) → IsReadAt (inside sc ls) x at → TextFine f sc (inspect_cell number a extents xs x at) copies
        inspect_cell_fine x at h = elim (cases_Bool (nat_eq (number x) a)) [
          | inl e ↦ rw e (inspected (sym h.rank ∙ need.rank x h.array (eqb-true (number x) a e)))
          | inr e ↦ rw e tt
        ]
          where
            inspected : length (list_of at) ≡ length (list_of extents) → TextFine f sc (index_words xs 0 at ++ (word_checks a 0 at extents ++ count_current a (row_of extents (words_at xs 0 at)) ∷ [])) copies
            inspected r =
                fine_join f sc copies (index_words xs 0 at) (word_checks a 0 at extents ++ count_current a (row_of extents (words_at xs 0 at)) ∷ []) (index_words_fine 0 at h.subscripts (omega arith))
                (fine_join f sc copies (word_checks a 0 at extents) (count_current a (row_of extents (words_at xs 0 at)) ∷ []) (word_checks_fine 0 at extents (extents_here copies c.free) (omega arith))
                (count_current_fine (row_of extents (words_at xs 0 at)) (its_row at h.subscripts r), tt))

        inspect_indices_fine : (at : PlainExprs) → AreReadable (inside sc ls) at → TextFine f sc (inspect_indices number a extents xs at) copies
        inspect_indices_fine no_exprs h = tt
        inspect_indices_fine (more_exprs e es) h =
            cell_or_not (λ e. IsSubscript (inside sc ls) e → TextFine f sc (inspect_indices number a extents xs (more_exprs e es)) copies)
            (λ x at g. fine_join f sc copies (inspect_cell number a extents xs x at) (inspect_indices number a extents xs es)
            (inspect_cell_fine x at (record { array = g.array; rank = g.rank; subscripts = indices_readable (inside sc ls) at g.subscripts })) (inspect_indices_fine es h.1))
            (λ e other g. subst (λ (l : List PlainStmt). TextFine f sc l copies) (sym (not_by_cell e (λ x at. inspect_cell number a extents xs x at ++ inspect_indices number a extents xs es) (inspect_indices number a extents xs es) other)) (inspect_indices_fine es h.1))
            e h.0

        index_inspects : (e : PlainExpr) → IsIndex (inside sc ls) false e → TextFine f sc (inspect_reads number a extents xs e) copies
        index_inspects (lit n) h = tt
        index_inspects (var x) h = tt
        index_inspects (un op e) h = index_inspects e h.1
        index_inspects (bin op e g) h = fine_join f sc copies (inspect_reads number a extents xs e) (inspect_reads number a extents xs g) (index_inspects e h.1) (index_inspects g h.2)
        index_inspects (least e g) h = tt
        index_inspects (greatest e g) h = tt
        index_inspects _ h = absurd h

        inspect_reads_fine : (e : PlainExpr) → IsValue (inside sc ls) e → TextFine f sc (inspect_reads number a extents xs e) copies
        inspect_reads_fine (lit n) h = tt
        inspect_reads_fine (var x) h = tt
        inspect_reads_fine (cell x at) h = fine_join f sc copies (inspect_indices number a extents xs at) (inspect_cell number a extents xs x at) (inspect_indices_fine at h.subscripts) (inspect_cell_fine x at h)
        inspect_reads_fine (un op e) h = inspect_reads_fine e h
        inspect_reads_fine (bin op e g) h = fine_join f sc copies (inspect_reads number a extents xs e) (inspect_reads number a extents xs g) (inspect_reads_fine e h.1) (inspect_reads_fine g h.2)
        inspect_reads_fine (cast e) (inl h) = inspect_reads_fine e h
        inspect_reads_fine (cast e) (inr h) = index_inspects e h
        inspect_reads_fine (test rel e g) h = fine_join f sc copies (inspect_reads number a extents xs e) (inspect_reads number a extents xs g) (inspect_reads_fine e h.0) (inspect_reads_fine g h.1)
        inspect_reads_fine (umin e g) h = fine_join f sc copies (inspect_reads number a extents xs e) (inspect_reads number a extents xs g) (inspect_reads_fine e h.0) (inspect_reads_fine g h.1)
        inspect_reads_fine (umax e g) h = fine_join f sc copies (inspect_reads number a extents xs e) (inspect_reads number a extents xs g) (inspect_reads_fine e h.0) (inspect_reads_fine g h.1)
        inspect_reads_fine _ h = absurd h

        number_writes_fine : (t : PlainExpr) → IsTarget (inside sc ls) t → TextFine f sc (number_writes number a extents xs t) copies
        number_writes_fine (cell x at) h = elim (cases_Bool (nat_eq (number x) a)) [
          | inl e ↦
              let row = its_row at (indices_readable (inside sc ls) at h.subscripts) (sym h.rank ∙ need.rank x h.array (eqb-true (number x) a e)) in
              let w : IsWords (inside sc copies) (bin Sub (bin Add (cells_of extents) (var (written a))) (row_of extents (words_at xs 0 at))) =
              words_bin (inside sc copies) Sub (bin Add (cells_of extents) (var (written a))) (row_of extents (words_at xs 0 at)) refl (next_number copies c.free) row in
              rw e (entry_fine f (inside sc copies) (current a) (row_of extents (words_at xs 0 at)) None (bin Sub (bin Add (cells_of extents) (var (written a))) (row_of extents (words_at xs 0 at))) current_here row w, (one_more_fine copies c.free, tt))
          | inr e ↦ rw e tt
        ]
        number_writes_fine (var x) h = tt
        number_writes_fine _ h = absurd h

      pub second_walk_fine : (whole : PlainStmts) → AreSource f sc whole [] → TextFine f sc (walk_all (inspect_reads number a extents) (number_writes number a extents) [] whole) []
      second_walk_fine whole source =
          whole_walk_fine (inspect_reads number a extents) (number_writes number a extents)
          (λ xs ls copies c e h. inspect_reads_fine xs ls copies c e h) (λ xs ls copies c t h. number_writes_fine xs ls copies c t h) whole source
