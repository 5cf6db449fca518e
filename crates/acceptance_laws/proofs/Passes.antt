-- Counting passes: what they copy of a source is fine wherever the cell that they count is one.
use Rattle.std.proofs.Common.{◌≡◌, ℕ, ◌+◌, ◌≤◌, Bool, true, false, if◌then◌else◌, nat_eq, List, [], ◌∷◌, length, ◌++◌, refl, sym, subst, arith, inl, inr, eqb-true, not, Option, None, Some}
use Rattle.std.proofs.lemmas.Bool.{or_from, or_parts, cases_Bool}
use Rattle.c_tree.specs.Plain.{Word, PlainExpr, lit, var, cell, un, bin, cast, test, umin, umax, least, greatest, widen, PlainExprs, no_exprs, more_exprs, PlainStmt, loop, choice, assign, PlainStmts, no_stmts, more_stmts}
use Rattle.c_tree.specs.Trees.{stmts_of}
use Rattle.c_tree.specs.declared.expr.BinOp.TheVariants.{Add}
use Rattle.instrumentation.specs.Names.{count, pass_variable, active, counter}
use Rattle.c_tree.specs.Instances.{sites, sites_all}
use Rattle.instrumentation.specs.Body.{full}
use Rattle.instrumentation.specs.Subscripts.{indices_in}
use Rattle.instrumentation.specs.Inspects.{read_irregularly, inspects, inspects_all}
use Rattle.instrumentation.proofs.Subscripts.{cell_or_not, not_by_cell}
use Rattle.acceptance_laws.proofs.IndexCells.{readable_indices}
use Rattle.instrumentation.specs.Passes.{renamed, renamed_all, renamed_tests, Target, same_cell, set_word, count_cell, count_indices, count_reads, same_instance, own_write, write_text, count_write, copied, copied_all, standing, pass_text}
use Rattle.acceptance.specs.Items.{Loop, Scope, is_loop}
use Rattle.acceptance_laws.proofs.Expressions.{IsWordAt, IsIndex, AreIndices, IsSubscript, AreReadable, IsValue, IsTarget, widen_wide}
use Rattle.acceptance_laws.proofs.Fine.{inside, StmtFine, TextFine, fine_join}
use Rattle.acceptance_laws.proofs.Statements.{AreTests, word_fine, wide_fine, choice_fine, loop_fine}
use Rattle.acceptance_laws.proofs.Declared.{Declares, AreFree, word_inside, wide_inside, loop_signed}
use Rattle.acceptance_laws.proofs.Sources.{IsSource, AreSource, AreSigned, IsSeen, Sees, AllSee}
use Rattle.acceptance_laws.proofs.Renamed.{Reaches, indices_reach, index_renamed, indices_renamed, tests_renamed, Copies, NoPass, copies_none, copies_more}

not_false : (b : Bool) → not b ≡ false → b ≡ true
not_false true h = refl
not_false false h = sym h

-- one cell's subscripts against another's
same_cell_tests : (sc : Scope) (ds es : PlainExprs) → AreIndices sc ds → AreIndices sc es → AreTests sc (same_cell ds es)
same_cell_tests sc no_exprs es h g = tt
same_cell_tests sc (more_exprs d ds) no_exprs h g = tt
same_cell_tests sc (more_exprs d ds) (more_exprs e es) h g = ((h.0, g.0), same_cell_tests sc ds es h.1 g.1)

signed_reach : (sc sd : Scope) → Reaches sc sd → (xs : List Word) → AreSigned sc xs → AreSigned sd xs
signed_reach sc sd r [] h = tt
signed_reach sc sd r (x ∷ xs) h = (r x h.0, signed_reach sc sd r xs h.1)

-- a text that stands where a test holds
pub fine_if : (f : Word) (sc : Scope) (ls : List Loop) (b : Bool) (ss : List PlainStmt) → TextFine f sc ss ls → TextFine f sc (if b then ss else []) ls
fine_if f sc ls true ss h = h
fine_if f sc ls false ss h = tt

module _ (f : Word) (number : Word → ℕ) (few : ℕ) (sc : Scope) (declares : Declares f number few sc) (target : Target) (site : Option ℕ)
    (around : List Loop) (indices : AreIndices (inside sc around) target.at) where
  -- ---- at one place of the copy
  module _ (xs : List Word) (ls copies : List Loop) (c : Copies sc around xs ls copies) where
    active_here : IsWordAt (inside sc copies) active
    active_here = word_inside sc copies active c.free declares.active_word

    set_active_fine : (n : ℕ) → StmtFine f sc (set_word active n) copies
    set_active_fine n = word_fine f (inside sc copies) active None (lit n) active_here tt

    cell_tests : (at : PlainExprs) → AreIndices (inside sc ls) at → AreTests (inside sc copies) (same_cell (renamed_all xs at) target.at)
    cell_tests at h =
        same_cell_tests (inside sc copies) (renamed_all xs at) target.at
        (indices_renamed (inside sc ls) xs (inside sc copies) c.renames at h)
        (indices_reach (inside sc around) (inside sc copies) c.reaches target.at indices)

    -- ---- reads

    count_cell_fine : (x : Word) (at : PlainExprs) → AreIndices (inside sc ls) at → TextFine f sc (count_cell number target xs x at) copies
    count_cell_fine x at h =
        let counted : StmtFine f sc (assign (var counter) (Some Add) (var active)) copies =
        word_fine f (inside sc copies) counter (Some Add) (var active) (word_inside sc copies counter c.free declares.counter_word) active_here in
        let first : PlainStmts = stmts_of (assign (var counter) (Some Add) (var active) ∷ []) in
        let ts = same_cell (renamed_all xs at) target.at in
        fine_if f sc copies (nat_eq (number x) target.array) (choice ts first no_stmts ∷ [])
        ((choice_fine f (inside sc copies) ts first no_stmts (cell_tests at h), (counted, tt), tt), tt)

    -- of the counted array no read has an index cell
    read_count_fine : (x : Word) (at : PlainExprs) → AreReadable (inside sc ls) at → read_irregularly number target.array (cell x at) ≡ false → TextFine f sc (count_cell number target xs x at) copies
    read_count_fine x at h g = elim (cases_Bool (nat_eq (number x) target.array)) [
      | inl e ↦ count_cell_fine x at (readable_indices (inside sc ls) at h (eqb-true (indices_in at) 0 (not_false (nat_eq (indices_in at) 0) (rw e at g))))
      | inr e ↦ rw e tt
    ]

    indices_fine : (at : PlainExprs) → AreReadable (inside sc ls) at → TextFine f sc (count_indices number target xs at) copies
    indices_fine no_exprs h = tt
    indices_fine (more_exprs e es) h =
        cell_or_not (λ e. IsSubscript (inside sc ls) e → TextFine f sc (count_indices number target xs (more_exprs e es)) copies)
        (λ x at c. fine_join f sc copies (count_cell number target xs x at) (count_indices number target xs es) (count_cell_fine x at c.subscripts) (indices_fine es h.1))
        (λ e other c. subst (λ (l : List PlainStmt). TextFine f sc l copies) (sym (not_by_cell e (λ x at. count_cell number target xs x at ++ count_indices number target xs es) (count_indices number target xs es) other)) (indices_fine es h.1))
        e h.0

    index_counts_fine : (e : PlainExpr) → IsIndex (inside sc ls) false e → TextFine f sc (count_reads number target xs e) copies
    index_counts_fine (lit n) h = tt
    index_counts_fine (var x) h = tt
    index_counts_fine (un op a) h = index_counts_fine a h.1
    index_counts_fine (bin op a b) h = fine_join f sc copies (count_reads number target xs a) (count_reads number target xs b) (index_counts_fine a h.1) (index_counts_fine b h.2)
    index_counts_fine (least a b) h = tt
    index_counts_fine (greatest a b) h = tt
    index_counts_fine _ h = absurd h

    counts_fine : (e : PlainExpr) → IsValue (inside sc ls) e → read_irregularly number target.array e ≡ false → TextFine f sc (count_reads number target xs e) copies
    counts_fine (lit n) h g = tt
    counts_fine (var x) h g = tt
    counts_fine (cell x at) h g = fine_join f sc copies (count_indices number target xs at) (count_cell number target xs x at) (indices_fine at h.subscripts) (read_count_fine x at h.subscripts g)
    counts_fine (un op a) h g = counts_fine a h g
    counts_fine (bin op a b) h g = (let p = or_parts (read_irregularly number target.array a) (read_irregularly number target.array b) g in fine_join f sc copies (count_reads number target xs a) (count_reads number target xs b) (counts_fine a h.1 p.0) (counts_fine b h.2 p.1))
    counts_fine (cast a) (inl h) g = counts_fine a h g
    counts_fine (cast a) (inr h) g = index_counts_fine a h
    counts_fine (test rel a b) h g = (let p = or_parts (read_irregularly number target.array a) (read_irregularly number target.array b) g in fine_join f sc copies (count_reads number target xs a) (count_reads number target xs b) (counts_fine a h.0 p.0) (counts_fine b h.1 p.1))
    counts_fine (umin a b) h g = (let p = or_parts (read_irregularly number target.array a) (read_irregularly number target.array b) g in fine_join f sc copies (count_reads number target xs a) (count_reads number target xs b) (counts_fine a h.0 p.0) (counts_fine b h.1 p.1))
    counts_fine (umax a b) h g = (let p = or_parts (read_irregularly number target.array a) (read_irregularly number target.array b) g in fine_join f sc copies (count_reads number target xs a) (count_reads number target xs b) (counts_fine a h.0 p.0) (counts_fine b h.1 p.1))
    counts_fine _ h g = absurd h

    -- ---- the write

    instance_tests : (ys : List Word) → length ys ≤ length xs → AreSigned (inside sc copies) ys → AreTests (inside sc copies) (same_instance ys)
    instance_tests [] h g = tt
    instance_tests (y ∷ ys) h g =
        ((loop_signed sc copies (pass_variable (length ys)) (declares.variables_free (length ys)) (c.made (length ys) (omega arith)), g.0), instance_tests ys (omega arith) g.1)

    own_fine : (ys : List Word) → length ys ≤ length xs → AreSigned (inside sc copies) ys → TextFine f sc (own_write ys) copies
    own_fine [] h g = (set_active_fine 1, tt)
    own_fine (y ∷ ys) h g = (
      (
        choice_fine f (inside sc copies) (same_instance (y ∷ ys)) (stmts_of (set_word active 1 ∷ [])) (stmts_of (set_word active 0 ∷ [])) (instance_tests (y ∷ ys) h g),
        (set_active_fine 1, tt),
        (set_active_fine 0, tt),
      ),
      tt,
    )

    write_fine : (k : ℕ) → (seen : Option ℕ) → IsSeen (inside sc around) seen xs k → TextFine f sc (write_text seen xs k) copies
    write_fine k None h = (set_active_fine 0, tt)
    write_fine k (Some s) h = chosen (nat_eq s k) refl
      where
        chosen : (b : Bool) → nat_eq s k ≡ b → TextFine f sc (if b then own_write xs else (set_word active 0 ∷ [])) copies
        chosen true e = own_fine xs (omega arith) (signed_reach (inside sc around) (inside sc copies) c.reaches xs (h e))
        chosen false e = (set_active_fine 0, tt)

    count_write_fine : (k : ℕ) (t : PlainExpr) → IsTarget (inside sc ls) t → IsSeen (inside sc around) site xs k → TextFine f sc (count_write number target site xs k t) copies
    count_write_fine k (cell x at) h g =
        let ts = same_cell (renamed_all xs at) target.at in
        fine_if f sc copies (nat_eq (number x) target.array) (choice ts (stmts_of (write_text site xs k)) no_stmts ∷ [])
        ((choice_fine f (inside sc copies) ts (stmts_of (write_text site xs k)) no_stmts (cell_tests at h.subscripts), write_fine k site g, tt), tt)
    count_write_fine k (var x) h g = tt
    count_write_fine k _ h g = absurd h

  -- ---- the copy

  mutual
    copied_fine : (s : PlainStmt) (k : ℕ) (xs : List Word) (ls copies : List Loop) → Copies sc around xs ls copies → IsSource f sc s ls → inspects number target.array s ≡ false → Sees (inside sc around) site xs k s →
        TextFine f sc (copied number target site xs k s) copies
    copied_fine (loop x lo rel hi body) k xs ls copies c h n g =
        let l : Loop = record { name = x; lo = lo; rel = rel; hi = hi } in
        let m : Loop = record { name = pass_variable (length xs); lo = renamed xs lo; rel = rel; hi = renamed xs hi } in
        let free = declares.variables_free (length xs) in
        let shallow = h.0.shallow in
        let many = c.as_many in
        let fresh : is_loop copies (pass_variable (length xs)) ≡ false = c.unmade (length xs) (omega arith) (omega arith) in (
          (
            loop_fine f (inside sc copies) (pass_variable (length xs)) (renamed xs lo) rel (renamed xs hi) (stmts_of (copied_all number target site (x ∷ xs) k body))
                (declares.variables_differ (length xs)) (or_from _ _ fresh free)
                (index_renamed (inside sc ls) xs (inside sc copies) c.renames true lo h.1)
                (index_renamed (inside sc ls) xs (inside sc copies) c.renames true hi h.2),
            all_copied_fine body k (x ∷ xs) (l ∷ ls) (m ∷ copies) (copies_more sc around xs ls copies c free shallow l m refl) h.3 n g,
          ),
          tt,
        )
    copied_fine (choice ts first other) k xs ls copies c h n g =
        let o = or_parts (inspects_all number target.array first) (inspects_all number target.array other) n in (
          (
            choice_fine f (inside sc copies) (renamed_tests xs ts) (stmts_of (copied_all number target site xs k first)) (stmts_of (copied_all number target site xs (k + sites_all first) other))
                (tests_renamed (inside sc ls) xs (inside sc copies) c.renames ts h.0),
            all_copied_fine first k xs ls copies c h.1 o.0 g.0,
            all_copied_fine other (k + sites_all first) xs ls copies c h.2 o.1 g.1,
          ),
          tt,
        )
    copied_fine (assign t op e) k xs ls copies c h n g =
        fine_join f sc copies (count_reads number target xs (full t op e)) (count_write number target site xs k t) (counts_fine xs ls copies c (full t op e) h.1 n) (count_write_fine xs ls copies c k t h.0 g)
    copied_fine _ k xs ls copies c h n g = absurd h

    all_copied_fine : (ss : PlainStmts) (k : ℕ) (xs : List Word) (ls copies : List Loop) → Copies sc around xs ls copies → AreSource f sc ss ls → inspects_all number target.array ss ≡ false → AllSee (inside sc around) site xs k ss →
        TextFine f sc (copied_all number target site xs k ss) copies
    all_copied_fine no_stmts k xs ls copies c h n g = tt
    all_copied_fine (more_stmts s ss) k xs ls copies c h n g =
        let o = or_parts (inspects number target.array s) (inspects_all number target.array ss) n in
        fine_join f sc copies (copied number target site xs k s) (copied_all number target site xs (k + sites s) ss) (copied_fine s k xs ls copies c h.0 o.0 g.0) (all_copied_fine ss (k + sites s) xs ls copies c h.1 o.1 g.1)

  -- ---- the pass

  pub pass_fine : (whole : PlainStmts) → AreFree sc around → NoPass around → AreSource f sc whole [] → inspects_all number target.array whole ≡ false → AllSee (inside sc around) site [] 0 whole → TextFine f sc (pass_text number whole target site) around
  pass_fine whole free none source plain sees =
      let c : Copies sc around [] [] around = copies_none sc around free none in
      let counter_here : IsWordAt (inside sc around) counter = word_inside sc around counter free declares.counter_word in (
        set_active_fine [] [] around c (standing site),
        (
          word_fine f (inside sc around) counter None (lit 0) counter_here tt,
          fine_join f sc around (copied_all number target site [] 0 whole) (assign (var count) None (widen (var counter)) ∷ []) (all_copied_fine whole 0 [] [] around c source plain sees)
              (wide_fine f (inside sc around) count None (widen (var counter)) refl (wide_inside sc around count declares.count_wide) (widen_wide (inside sc around) counter counter_here), tt),
        ),
      )
