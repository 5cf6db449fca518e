-- The second walk: after each access of the source the tables stand for the accesses gone over.
use Rattle.std.proofs.Common.{◌≡◌, ◌≢◌, ℕ, suc, ◌+◌, ◌-◌, ◌^◌, ◌<◌, ◌≤◌, Bool, true, false, cond, ◌||◌, if◌then◌else◌, List, [], ◌∷◌, ◌++◌, length, map, refl, sym, ap, ◌∙◌, subst, arith, append_assoc, append-nil, nat_eq, ℤ, Option, true≢false, eq-eqb}
use Rattle.std.specs.Prelude.{bytes_eq, codes, slice_index, slice_set}
use Rattle.std.proofs.lemmas.Bool.{eqb-true}
use Rattle.std.proofs.lemmas.List.{length_push, map-append, length-map}
use Rattle.c_tree.specs.Plain.{Word, PlainExpr, lit, var, cell, un, bin, cast, test, umin, umax, least, greatest, widen, big, PlainExprs, no_exprs, more_exprs, PlainStmt, PlainStmts}
use Rattle.c_tree.specs.Trees.{stmts_of}
use Rattle.c_tree.specs.Values.{Vars}
use Rattle.c_tree.specs.Arrays.{Array, Memory, cell_count}
use Rattle.c_tree.specs.Accesses.{Access, at, at as at_position, latest, reads_from, Within, Clean}
use Rattle.c_tree.specs.Fault.{Upset}
use Rattle.c_tree.specs.Instances.{Tagged, untagged}
use Rattle.c_tree.specs.Run.{State, goes_on, and_then, Scope, turn, word, exec_all}
use Rattle.c_tree.specs.declared.expr.BinOp.{BinOp}
use Rattle.instrumentation.specs.Body.{full}
use Rattle.instrumentation_laws.specs.OwnNames.{begins}
use Rattle.instrumentation_laws.specs.AccessList.{signed_all, cell_access, cell_write, tag}
use Rattle.instrumentation_laws.specs.Setting.{scope_of}
use Rattle.instrumentation_laws.proofs.Steps.{exec_join, exec_one}
use Rattle.instrumentation_laws.proofs.Names.{same_word}
use Rattle.balance_laws.proofs.Sums.{sum_below_le}
use Rattle.pass_laws.specs.Countable.{AreOwn, rank}
use Rattle.pass_laws.specs.Going.{GoesTo}
use Rattle.pass_laws.specs.Places.{IsPlace}
use Rattle.pass_laws.proofs.Going.{must_join}
use Rattle.pass_laws.proofs.Renamed.{names, copied_vars}
use Rattle.pass_laws.proofs.Standing.{access_here, below_here}
use Rattle.cell_laws.proofs.Within.{within_is}
use Rattle.instrumentation.specs.Subscripts.{is_cell}
use Rattle.instrumentation.specs.Names.{written, current, counts}
use Rattle.instrumentation.specs.Tables.{row_of, words_at, index_words, word_checks, count_current, inspect_cell, inspect_indices, inspect_reads, one_more, set_current, number_writes, walk_all}
use Rattle.inspection_laws.specs.Inspected.{row, writes_array, writes_before, number_of, uses_below, Inspected}
use Rattle.instrumentation_laws.specs.IndexedList.{coordinates_at, index_reads, read_access, all_reads, tagged_all}
use Rattle.inspection_laws.specs.Walked.{IsKnown, IsWalkedAt, ArePlainAt, AreWalkedAt, IsWalkedData, IsWalkedTarget, AreWalked, AreSized, HasTables, Stands}
use Rattle.instrumentation.proofs.Subscripts.{cell_or_not, not_by_cell}
use Rattle.inspection_laws.proofs.Inspecting.{row_below, latest_its, skipped, read, wrote, number_below}
use Rattle.instrumentation_laws.proofs.Outcomes.{GoesOr}
use Rattle.inspection_laws.proofs.Walks.{or_goes, walk_every}
use Rattle.inspection_laws.proofs.Entries.{with_entry, row_gives, count_current_is, one_more_is, set_current_is}
use Rattle.inspection_laws.proofs.IndexWords.{all_walked, plain_coordinates, IndexLies, AllIndexLie, Worded, worded, plain_lie, all_fit, plain_given}

-- ---- names

written_no_index : (a : ℕ) → begins (codes "bal_cx") (written a) ≡ false
unfolding written
written_no_index a = refl

current_counts : (a : ℕ) → bytes_eq (current a) (counts a) ≡ false
unfolding current counts
current_counts a = refl

counts_current : (a : ℕ) → bytes_eq (counts a) (current a) ≡ false
unfolding current counts
counts_current a = refl

or_none : (x y : Bool) → (x || y) ≡ false → (x ≡ false) × (y ≡ false)
or_none true y e = absurd (true≢false e)
or_none false y e = (refl, e)

pub cells_few : (sc : Scope) (ns : PlainExprs) (zs : List ℤ) (vs : Vars) → AreSized sc ns zs vs → cell_count zs < 2 ^ 62
cells_few sc no_exprs [] vs h = omega arith
cells_few sc no_exprs (z ∷ zs) vs h = absurd h
cells_few sc (more_exprs n ns) [] vs h = absurd h
cells_few sc (more_exprs n ns) (z ∷ zs) vs h = h.2

at_most_one : (t : Bool) → (if t then 1 else 0) ≤ 1
at_most_one true = omega arith
at_most_one false = omega arith

pub before_few : (list : List Access) (a n : ℕ) → writes_before list a n ≤ n
before_few list a n = sum_below_le (λ q. if writes_array list a q then 1 else 0) n (λ q. at_most_one (writes_array list a q))

module _ (arrays : List Array) (number : Word → ℕ) (wides : List Word) (fault : Option Upset) (a : ℕ) (has : HasTables arrays wides a) (m : Memory) (params base : Vars) (place : IsPlace params base) (own_params : AreOwn params)
    (whole : List Tagged) (extents : ℕ → List ℤ) (ns : PlainExprs) (clean : Clean extents (untagged whole)) (short : length whole < 2 ^ 63) (sizes : (x : Word) (k : IsKnown arrays number x) → k.array.1.extents ≡ extents k.array.0)
    (sized : (loops : Vars) → AreSized (scope_of arrays wides fault) ns (extents a) (copied_vars loops ++ base)) (from : State) (before : from.begun ≡ false) (holds : from.memory ≡ m) where
  abbrev list : List Access
  list = untagged whole

  abbrev sc : Scope
  sc = scope_of arrays wides fault

  abbrev At : ℕ → State → Type 0
  At = Stands list a (extents a) from

  lies_at : (n : ℕ) (x : Access) → n < length whole → at list n ≡ x → Within (extents x.array) x.cell
  lies_at n x l e =
      let long : length list ≡ length whole = length-map whole (λ (t : Tagged). t.access) in
      subst (λ (x : Access). Within (extents x.array) x.cell) e (clean n (omega arith))

  module _ (loops : Vars) (own_loops : AreOwn loops) (shallow : length (names loops) < 2 ^ 64) where
    abbrev env : Vars
    env = copied_vars loops ++ base

    abbrev here : Vars
    here = loops ++ params

    abbrev Lie : PlainExprs → Type 0
    Lie = AllIndexLie arrays number wides fault a has m params base place own_params loops own_loops shallow

    -- one read, of this array or another
    inspect_step : (x : Word) (es : PlainExprs) (n : ℕ) (s : State) → AreWalkedAt arrays number es here → rank es < 2 ^ 63 → Lie es → n < length whole → at list n ≡ read_access arrays m number x es here → At n s →
        GoesTo (At (suc n)) (exec_all sc (stmts_of (inspect_cell number a ns (names loops) x es)) env s)
    inspect_step x es n s h ranked lie l is p = chosen (nat_eq (number x) a) refl
      where
        cs : List ℤ
        cs = coordinates_at arrays m es here

        off : nat_eq (number x) a ≡ false → At (suc n) s
        off e =
            let other : (at list n).array ≢ a = λ g. true≢false (sym (ap (λ b. nat_eq b a) (sym (ap (λ (y : Access). y.array) is) ∙ g) ∙ same_number a) ∙ e) in
            record { keeps = p.keeps; inspected = skipped list a (extents a) n (s.tables (current a)) (s.tables (counts a)) (s.words (written a)) p.inspected other }
          where
            same_number : (a : ℕ) → nat_eq a a ≡ true
            same_number a = eq-eqb a a refl

        -- the tables after the entry of the count
        counted : (t : State) → number x ≡ a → Within (extents a) cs → Worded arrays number wides fault a has m params base place own_params loops own_loops shallow 0 es ns s t →
            GoesTo (At (suc n)) (exec_all sc (stmts_of (word_checks a 0 es ns ++ count_current a (row_of ns (words_at (names loops) 0 es)) ∷ [])) env t)
        counted t ours lies w =
            let r : ℕ = row (extents a) cs in
            let D : List ℕ = s.tables (current a) in
            let C : List ℕ = s.tables (counts a) in
            let k : ℕ = r + slice_index D r in
            let tables : t.tables ≡ s.tables = ap (λ (u : State). u.tables) w.same in
            let ours' : (at list n).array ≡ a = ap (λ (y : Access). y.array) is ∙ ours in
            let there : (at list n).cell ≡ cs = ap (λ (y : Access). y.cell) is in
            let lies' : Within (extents a) (at list n).cell = subst (Within (extents a)) (sym there) lies in
            let stands : k ≡ number_of list a (extents a) (latest list a cs n) = p.inspected.stands cs lies in
            let below : k < length C = subst (λ k. k < length C) (sym stands) (number_below list a (extents a) n D C (s.words (written a)) p.inspected ours' lies' (latest list a cs n) (latest_its list a (extents a) cs n lies)) in
            let size : length C ≡ cell_count (extents a) + writes_before list a (length list) = p.inspected.definitions in
            let few : cell_count (extents a) < 2 ^ 62 = cells_few sc ns (extents a) env (sized loops) in
            let long : length list ≡ length whole = length-map whole (λ (t : Tagged). t.access) in
            let writes : writes_before list a (length list) ≤ length list = before_few list a (length list) in
            let uses : slice_index C k ≡ uses_below list n (latest list a cs n) = ap (slice_index C) stands ∙ p.inspected.counted (latest list a cs n) (latest_its list a (extents a) cs n lies) in
            let little : uses_below list n (latest list a cs n) ≤ n = sum_below_le (λ q. if reads_from list (latest list a cs n) q then 1 else 0) n (λ q. at_most_one (reads_from list (latest list a cs n) q)) in
            let D_is : slice_index (t.tables (current a)) r ≡ slice_index D r = ap (λ (f : Word → List ℕ). slice_index (f (current a)) r) tables in
            let C_is : slice_index (t.tables (counts a)) k ≡ slice_index C k = ap (λ (f : Word → List ℕ). slice_index (f (counts a)) k) tables in
            let row_is : word sc (row_of ns (words_at (names loops) 0 es)) env t ≡ goes_on r t = row_gives sc ns (extents a) (words_at (names loops) 0 es) cs env t (sized loops) (w.given t (λ i l k. refl)) lies in
            subst (GoesTo (At (suc n))) (sym (exec_join sc (word_checks a 0 es ns) (count_current a (row_of ns (words_at (names loops) 0 es)) ∷ []) env t ∙
            ap (λ o. and_then o (λ u t. exec_all sc (stmts_of (count_current a (row_of ns (words_at (names loops) 0 es)) ∷ [])) env t)) (w.checks t (λ i l k. refl)) ∙
            exec_one sc (count_current a (row_of ns (words_at (names loops) 0 es))) env t ∙
            count_current_is sc a has env t (row_of ns (words_at (names loops) 0 es)) r k row_is (ap (λ d. r + d) D_is) (omega arith) (omega arith)))
            (record {
              keeps = record {
                begun = ap (λ (u : State). u.begun) w.same ∙ p.keeps.begun;
                memory = ap (λ (u : State). u.memory) w.same ∙ p.keeps.memory;
                accesses = ap (λ (u : State). u.accesses) w.same ∙ p.keeps.accesses;
                wides = ap (λ (u : State). u.wides) w.same ∙ p.keeps.wides;
                made = ap (λ (u : State). u.made) w.same ∙ p.keeps.made;
                words = λ y e. w.frame y (or_none (bytes_eq (written a) y) (begins (codes "bal_cx") y) e).1 ∙ p.keeps.words y e;
                tables = λ y e g. ap (λ b. cond b (slice_set (t.tables (counts a)) k (slice_index (t.tables (counts a)) k + 1)) (t.tables y)) g ∙ ap (λ (f : Word → List ℕ). f y) tables ∙ p.keeps.tables y e g;
              };
              inspected = moved t tables (w.frame (written a) (written_no_index a)) ours' lies' there;
            })
          where
            moved : (t : State) → t.tables ≡ s.tables → t.words (written a) ≡ s.words (written a) → (ours : (at list n).array ≡ a) (lies : Within (extents a) (at list n).cell) → (at list n).cell ≡ cs →
                Inspected list a (extents a) (suc n)
                (cond (bytes_eq (counts a) (current a)) (slice_set (t.tables (counts a)) (row (extents a) cs + slice_index (s.tables (current a)) (row (extents a) cs)) (slice_index (t.tables (counts a)) (row (extents a) cs + slice_index (s.tables (current a)) (row (extents a) cs)) + 1)) (t.tables (current a)))
                (cond (bytes_eq (counts a) (counts a)) (slice_set (t.tables (counts a)) (row (extents a) cs + slice_index (s.tables (current a)) (row (extents a) cs)) (slice_index (t.tables (counts a)) (row (extents a) cs + slice_index (s.tables (current a)) (row (extents a) cs)) + 1)) (t.tables (counts a)))
                (t.words (written a))
            moved t tables words ours lies same =
                rw (counts_current a, same_word (counts a), tables, words)
                (subst (λ c. Inspected list a (extents a) (suc n) (s.tables (current a)) (slice_set (s.tables (counts a)) (row (extents a) c + slice_index (s.tables (current a)) (row (extents a) c)) (slice_index (s.tables (counts a)) (row (extents a) c + slice_index (s.tables (current a)) (row (extents a) c)) + 1)) (s.words (written a))) same
                (read list a (extents a) n (s.tables (current a)) (s.tables (counts a)) (s.words (written a)) p.inspected ours lies (ap (λ (y : Access). y.writes) is)))

        chosen : (b : Bool) → nat_eq (number x) a ≡ b →
            GoesTo (At (suc n)) (exec_all sc (stmts_of (if b then index_words (names loops) 0 es ++ (word_checks a 0 es ns ++ count_current a (row_of ns (words_at (names loops) 0 es)) ∷ []) else [])) env s)
        chosen true e =
            let ours : number x ≡ a = eqb-true (number x) a e in
            let lies : Within (extents a) cs = subst (λ b. Within (extents b) cs) ours (lies_at n (read_access arrays m number x es here) l is) in
            must_join sc (Worded arrays number wides fault a has m params base place own_params loops own_loops shallow 0 es ns s) (At (suc n)) (index_words (names loops) 0 es) (word_checks a 0 es ns ++ count_current a (row_of ns (words_at (names loops) 0 es)) ∷ []) env s
            (worded arrays number wides fault a has m params base place own_params loops own_loops shallow es ns (extents a) 0 s h (sized loops) (omega arith) (p.keeps.begun ∙ before) (p.keeps.memory ∙ holds) lies lie)
            (λ t w. counted t ours lies w)
        chosen false e = off e

    -- ---- index cells

    -- the list goes on behind its first access
    behind : (k : ℕ) (pre rest : List Tagged) (x : Access) (xs : List Access) → pre ++ (map (tag k here) (x ∷ xs) ++ rest) ≡ whole → (pre ++ tag k here x ∷ []) ++ (map (tag k here) xs ++ rest) ≡ whole
    behind k pre rest x xs is = append_assoc pre (tag k here x ∷ []) (map (tag k here) xs ++ rest) ∙ is

    -- they lie within their arrays
    abbrev LieStep : ℕ → PlainExprs → List Tagged → List Tagged → PlainExpr → Type 0
    LieStep k es pre rest e = IsWalkedAt arrays number e here → pre ++ (map (tag k here) (index_reads number (more_exprs e es) here) ++ rest) ≡ whole → Lie (more_exprs e es)

    lie_all : (k : ℕ) (es : PlainExprs) (pre rest : List Tagged) → AreWalkedAt arrays number es here → pre ++ (map (tag k here) (index_reads number es here) ++ rest) ≡ whole → Lie es
    lie_all k no_exprs pre rest h is = tt
    lie_all k (more_exprs e es) pre rest h is =
        cell_or_not (LieStep k es pre rest)
        (λ p at w is. (
          (λ known.
              let x : Access = cell_access number p at here false in
              let there : at_position (untagged whole) (length pre) ≡ x = access_here whole pre (tag k here x) (map (tag k here) (index_reads number es here) ++ rest) is in
              let inside : Within (extents (number p)) (signed_all at here) = lies_at (length pre) x (below_here whole pre (tag k here x) (map (tag k here) (index_reads number es here) ++ rest) is) there in
              within_is known.array.1.extents (signed_all at here) (subst (λ zs. Within zs (signed_all at here)) (ap extents known.numbered ∙ sym (sizes p known)) inside)),
          lie_all k es (pre ++ tag k here (cell_access number p at here false) ∷ []) rest h.1 (behind k pre rest (cell_access number p at here false) (index_reads number es here) is),
        ))
        (λ e other w is. (
          no_lie e other,
          lie_all k es pre rest h.1
              (ap (λ (l : List Access). pre ++ (map (tag k here) l ++ rest)) (sym (not_by_cell e (λ p at. cell_access number p at here false ∷ index_reads number es here) (index_reads number es here) other)) ∙ is),
        ))
        e h.0 is
      where
        no_lie : (e : PlainExpr) → is_cell e ≡ false → IndexLies arrays number wides fault a has m params base place own_params loops own_loops shallow e
        no_lie (cell x at) h = absurd (true≢false h)
        no_lie (lit n) h = tt
        no_lie (var x) h = tt
        no_lie (un op e) h = tt
        no_lie (bin op e g) h = tt
        no_lie (cast e) h = tt
        no_lie (test rel e g) h = tt
        no_lie (umin e g) h = tt
        no_lie (umax e g) h = tt
        no_lie (least e g) h = tt
        no_lie (greatest e g) h = tt
        no_lie (widen e) h = tt
        no_lie (big high low) h = tt

    pushed : (pre : List Tagged) (t : Tagged) → suc (length pre) ≡ length (pre ++ t ∷ [])
    pushed pre t = let q = length_push pre t in omega arith

    -- a read of an index cell
    plain_read : (k : ℕ) (p : Word) (es : PlainExprs) (pre rest : List Tagged) (s : State) → ArePlainAt es here → rank es < 2 ^ 63 → pre ++ tag k here (cell_access number p es here false) ∷ rest ≡ whole → At (length pre) s →
        GoesTo (At (length (pre ++ tag k here (cell_access number p es here false) ∷ []))) (exec_all sc (stmts_of (inspect_cell number a ns (names loops) p es)) env s)
    plain_read k p es pre rest s h ranked is q =
        let t : Tagged = tag k here (cell_access number p es here false) in
        let same : cell_access number p es here false ≡ read_access arrays m number p es here = ap (λ c. access_of (number p) c) (sym (plain_coordinates arrays m es here h)) in
        subst (λ n. GoesTo (At n) (exec_all sc (stmts_of (inspect_cell number a ns (names loops) p es)) env s)) (pushed pre t)
        (inspect_step p es (length pre) s (all_walked arrays number es here h) ranked (plain_lie arrays number wides fault a has m params base place own_params loops own_loops shallow es h) (below_here whole pre t rest is) (access_here whole pre t rest is ∙ same) q)
      where
        access_of : ℕ → List ℤ → Access
        access_of a c = record { array = a; cell = c; writes = false }

    abbrev IndexStep : ℕ → PlainExprs → List Tagged → List Tagged → State → PlainExpr → Type 0
    IndexStep k es pre rest s e = IsWalkedAt arrays number e here → pre ++ (map (tag k here) (index_reads number (more_exprs e es) here) ++ rest) ≡ whole →
        GoesTo (At (length (pre ++ map (tag k here) (index_reads number (more_exprs e es) here)))) (exec_all sc (stmts_of (inspect_indices number a ns (names loops) (more_exprs e es))) env s)

    indices_step : (k : ℕ) (es : PlainExprs) (pre rest : List Tagged) (s : State) → AreWalkedAt arrays number es here → pre ++ (map (tag k here) (index_reads number es here) ++ rest) ≡ whole → At (length pre) s →
        GoesTo (At (length (pre ++ map (tag k here) (index_reads number es here)))) (exec_all sc (stmts_of (inspect_indices number a ns (names loops) es)) env s)
    indices_step k no_exprs pre rest s h is q = subst (λ l. At (length l) s) (sym (append-nil pre)) q
    indices_step k (more_exprs e es) pre rest s h is q =
        cell_or_not (IndexStep k es pre rest s)
        (λ p at w is.
        let t : Tagged = tag k here (cell_access number p at here false) in
        let later : List Tagged = map (tag k here) (index_reads number es here) in
        subst (λ l. GoesTo (At (length l)) (exec_all sc (stmts_of (inspect_cell number a ns (names loops) p at ++ inspect_indices number a ns (names loops) es)) env s)) (append_assoc pre (t ∷ []) later)
        (must_join sc (At (length (pre ++ t ∷ []))) (At (length ((pre ++ t ∷ []) ++ later))) (inspect_cell number a ns (names loops) p at) (inspect_indices number a ns (names loops) es) env s
        (plain_read k p at pre (later ++ rest) s w.1 w.2 is q)
        (λ u r. indices_step k es (pre ++ t ∷ []) rest u h.1 (behind k pre rest (cell_access number p at here false) (index_reads number es here) is) r)))
        (λ e other w is.
        let list_is : index_reads number (more_exprs e es) here ≡ index_reads number es here = not_by_cell e (λ p at. cell_access number p at here false ∷ index_reads number es here) (index_reads number es here) other in
        let text_is : inspect_indices number a ns (names loops) (more_exprs e es) ≡ inspect_indices number a ns (names loops) es = not_by_cell e (λ x at. inspect_cell number a ns (names loops) x at ++ inspect_indices number a ns (names loops) es) (inspect_indices number a ns (names loops) es) other in
        rw (list_is, text_is) (indices_step k es pre rest s h.1 (ap (λ (l : List Access). pre ++ (map (tag k here) l ++ rest)) (sym list_is) ∙ is) q))
        e h.0 is

    -- ---- writes

    -- both entries after a write of the array
    wrote_step : (x : Word) (es : PlainExprs) (n : ℕ) (s : State) → number x ≡ a → ArePlainAt es here → n < length whole → at list n ≡ cell_access number x es here true → At n s →
        GoesTo (At (suc n)) (exec_all sc (stmts_of (set_current a ns (row_of ns (words_at (names loops) 0 es)) ∷ one_more a ∷ [])) env s)
    wrote_step x es n s ours h l is p =
        let cs : List ℤ = signed_all es here in
        let r : ℕ = row (extents a) cs in
        let w : ℕ = s.words (written a) in
        let lies : Within (extents a) cs = subst (λ b. Within (extents b) cs) ours (lies_at n (cell_access number x es here true) l is) in
        let ours' : (at list n).array ≡ a = ap (λ (y : Access). y.array) is ∙ ours in
        let there : (at list n).cell ≡ cs = ap (λ (y : Access). y.cell) is in
        let few : cell_count (extents a) < 2 ^ 62 = cells_few sc ns (extents a) env (sized loops) in
        let so_far : w ≡ writes_before list a n = p.inspected.writes in
        let writes : writes_before list a n ≤ n = before_few list a n in
        let row_is : word sc (row_of ns (words_at (names loops) 0 es)) env s ≡ goes_on r s =
        row_gives sc ns (extents a) (words_at (names loops) 0 es) cs env s (sized loops) (plain_given arrays number wides fault a has m params base place own_params loops own_loops shallow es (extents a) 0 s h (all_fit sc ns (extents a) env (sized loops)) lies) lies in
        let mid : State = with_entry (current a) r (cell_count (extents a) + w - r) s in
        subst (GoesTo (At (suc n))) (sym (
        ap (λ o. and_then o (λ u t. exec_all sc (stmts_of (one_more a ∷ [])) env t)) (set_current_is sc a has env s ns (extents a) (row_of ns (words_at (names loops) 0 es)) r (sized loops) row_is (row_below (extents a) cs lies) (omega arith)) ∙
        exec_one sc (one_more a) env mid ∙ one_more_is sc a has env mid (omega arith)))
        (record {
          keeps = record {
            begun = p.keeps.begun;
            memory = p.keeps.memory;
            accesses = p.keeps.accesses;
            wides = p.keeps.wides;
            made = p.keeps.made;
            words = λ y e. ap (λ b. cond b (w + 1) (s.words y)) (or_none (bytes_eq (written a) y) (begins (codes "bal_cx") y) e).0 ∙ p.keeps.words y e;
            tables = λ y e g. ap (λ b. cond b (slice_set (s.tables (current a)) r (cell_count (extents a) + w - r)) (s.tables y)) e ∙ p.keeps.tables y e g;
          };
          inspected = moved cs ours' (subst (Within (extents a)) (sym there) lies) there;
        })
      where
        moved : (cs : List ℤ) (ours : (at list n).array ≡ a) (lies : Within (extents a) (at list n).cell) → (at list n).cell ≡ cs →
            Inspected list a (extents a) (suc n)
            (cond (bytes_eq (current a) (current a)) (slice_set (s.tables (current a)) (row (extents a) cs) (cell_count (extents a) + s.words (written a) - row (extents a) cs)) (s.tables (current a)))
            (cond (bytes_eq (current a) (counts a)) (slice_set (s.tables (current a)) (row (extents a) cs) (cell_count (extents a) + s.words (written a) - row (extents a) cs)) (s.tables (counts a)))
            (cond (bytes_eq (written a) (written a)) (s.words (written a) + 1) (s.words (written a)))
        moved cs ours lies same =
            rw (current_counts a, same_word (current a), same_word (written a))
            (subst (λ c. Inspected list a (extents a) (suc n) (slice_set (s.tables (current a)) (row (extents a) c) (cell_count (extents a) + s.words (written a) - row (extents a) c)) (s.tables (counts a)) (s.words (written a) + 1)) same
            (wrote list a (extents a) n (s.tables (current a)) (s.tables (counts a)) (s.words (written a)) p.inspected ours lies (ap (λ (y : Access). y.writes) is)))

    write_step : (k : ℕ) (x : Word) (es : PlainExprs) (pre rest : List Tagged) (s : State) → ArePlainAt es here → pre ++ tag k here (cell_access number x es here true) ∷ rest ≡ whole → At (length pre) s →
        GoesTo (At (length (pre ++ tag k here (cell_access number x es here true) ∷ []))) (exec_all sc (stmts_of (number_writes number a ns (names loops) (cell x es))) env s)
    write_step k x es pre rest s h is p =
        subst (λ n. GoesTo (At n) (exec_all sc (stmts_of (number_writes number a ns (names loops) (cell x es))) env s)) (pushed pre (tag k here (cell_access number x es here true))) (chosen (nat_eq (number x) a) refl)
      where
        there : at list (length pre) ≡ cell_access number x es here true
        there = access_here whole pre (tag k here (cell_access number x es here true)) rest is

        chosen : (b : Bool) → nat_eq (number x) a ≡ b → GoesTo (At (suc (length pre))) (exec_all sc (stmts_of (if b then set_current a ns (row_of ns (words_at (names loops) 0 es)) ∷ one_more a ∷ [] else [])) env s)
        chosen true e = wrote_step x es (length pre) s (eqb-true (number x) a e) h (below_here whole pre (tag k here (cell_access number x es here true)) rest is) there p
        chosen false e =
            let other : (at list (length pre)).array ≢ a = λ g. true≢false (sym (eq-eqb (number x) a (sym (ap (λ (y : Access). y.array) there) ∙ g)) ∙ e) in
            record { keeps = p.keeps; inspected = skipped list a (extents a) (length pre) (s.tables (current a)) (s.tables (counts a)) (s.words (written a)) p.inspected other }

    -- ---- an assignment

    two_reads : (k : ℕ) (xs ys : List Access) (first second : List PlainStmt) (pre rest : List Tagged) (s : State) → pre ++ (map (tag k here) (xs ++ ys) ++ rest) ≡ whole →
        (pre ++ (map (tag k here) xs ++ (map (tag k here) ys ++ rest)) ≡ whole → GoesTo (At (length (pre ++ map (tag k here) xs))) (exec_all sc (stmts_of first) env s)) →
        ((pre : List Tagged) (s : State) → pre ++ (map (tag k here) ys ++ rest) ≡ whole → At (length pre) s → GoesTo (At (length (pre ++ map (tag k here) ys))) (exec_all sc (stmts_of second) env s)) →
        GoesTo (At (length (pre ++ map (tag k here) (xs ++ ys)))) (exec_all sc (stmts_of (first ++ second)) env s)
    two_reads k xs ys first second pre rest s is h g =
        let ra : List Tagged = map (tag k here) xs in
        let rb : List Tagged = map (tag k here) ys in
        let split : map (tag k here) (xs ++ ys) ≡ ra ++ rb = map-append (tag k here) xs ys in
        let is2 : pre ++ (ra ++ (rb ++ rest)) ≡ whole = ap (λ l. pre ++ l) (sym (append_assoc ra rb rest) ∙ ap (λ l. l ++ rest) (sym split)) ∙ is in
        subst (λ l. GoesTo (At (length l)) (exec_all sc (stmts_of (first ++ second)) env s)) (append_assoc pre ra rb ∙ ap (λ l. pre ++ l) (sym split))
        (must_join sc (At (length (pre ++ ra))) (At (length ((pre ++ ra) ++ rb))) first second env s (h is2) (λ t q. g (pre ++ ra) t (append_assoc pre ra (rb ++ rest) ∙ is2) q))

    reads_step : (k : ℕ) (e : PlainExpr) (pre rest : List Tagged) (s : State) → IsWalkedData arrays number e here → pre ++ (map (tag k here) (all_reads arrays m number e here) ++ rest) ≡ whole → At (length pre) s →
        GoesTo (At (length (pre ++ map (tag k here) (all_reads arrays m number e here)))) (exec_all sc (stmts_of (inspect_reads number a ns (names loops) e)) env s)
    reads_step k (lit n) pre rest s d is p = subst (λ l. At (length l) s) (sym (append-nil pre)) p
    reads_step k (var x) pre rest s d is p = subst (λ l. At (length l) s) (sym (append-nil pre)) p
    reads_step k (cell x es) pre rest s d is p =
        let t : Tagged = tag k here (read_access arrays m number x es here) in
        let before_it : List Tagged = map (tag k here) (index_reads number es here) in
        let split : map (tag k here) (index_reads number es here ++ read_access arrays m number x es here ∷ []) ≡ before_it ++ t ∷ [] = map-append (tag k here) (index_reads number es here) (read_access arrays m number x es here ∷ []) in
        let lie : Lie es = lie_all k es pre (t ∷ rest) d.0 (ap (λ l. pre ++ l) (sym (append_assoc before_it (t ∷ []) rest) ∙ ap (λ l. l ++ rest) (sym split)) ∙ is) in
        two_reads k (index_reads number es here) (read_access arrays m number x es here ∷ []) (inspect_indices number a ns (names loops) es) (inspect_cell number a ns (names loops) x es) pre rest s is
        (λ is. indices_step k es pre (t ∷ rest) s d.0 is p)
        (λ pre s is q. subst (λ n. GoesTo (At n) (exec_all sc (stmts_of (inspect_cell number a ns (names loops) x es)) env s)) (pushed pre t)
        (inspect_step x es (length pre) s d.0 d.1 lie (below_here whole pre t rest is) (access_here whole pre t rest is) q))
    reads_step k (un op e) pre rest s d is p = reads_step k e pre rest s d is p
    reads_step k (bin op e g) pre rest s d is p = two_reads k (all_reads arrays m number e here) (all_reads arrays m number g here) (inspect_reads number a ns (names loops) e) (inspect_reads number a ns (names loops) g) pre rest s is (λ is. reads_step k e pre _ s d.0 is p) (λ pre s is p. reads_step k g pre rest s d.1 is p)
    reads_step k (cast e) pre rest s d is p = reads_step k e pre rest s d is p
    reads_step k (test rel e g) pre rest s d is p = two_reads k (all_reads arrays m number e here) (all_reads arrays m number g here) (inspect_reads number a ns (names loops) e) (inspect_reads number a ns (names loops) g) pre rest s is (λ is. reads_step k e pre _ s d.0 is p) (λ pre s is p. reads_step k g pre rest s d.1 is p)
    reads_step k (umin e g) pre rest s d is p = two_reads k (all_reads arrays m number e here) (all_reads arrays m number g here) (inspect_reads number a ns (names loops) e) (inspect_reads number a ns (names loops) g) pre rest s is (λ is. reads_step k e pre _ s d.0 is p) (λ pre s is p. reads_step k g pre rest s d.1 is p)
    reads_step k (umax e g) pre rest s d is p = two_reads k (all_reads arrays m number e here) (all_reads arrays m number g here) (inspect_reads number a ns (names loops) e) (inspect_reads number a ns (names loops) g) pre rest s is (λ is. reads_step k e pre _ s d.0 is p) (λ pre s is p. reads_step k g pre rest s d.1 is p)
    reads_step k (least e g) pre rest s d is p = absurd d
    reads_step k (greatest e g) pre rest s d is p = absurd d
    reads_step k (widen e) pre rest s d is p = absurd d
    reads_step k (big high low) pre rest s d is p = absurd d

    target_step : (k : ℕ) (t : PlainExpr) (pre rest : List Tagged) (s : State) → IsWalkedTarget t here → pre ++ (map (tag k here) (cell_write number t here) ++ rest) ≡ whole → At (length pre) s →
        GoesTo (At (length (pre ++ map (tag k here) (cell_write number t here)))) (exec_all sc (stmts_of (number_writes number a ns (names loops) t)) env s)
    target_step k (var x) pre rest s h is p = subst (λ l. At (length l) s) (sym (append-nil pre)) p
    target_step k (cell x es) pre rest s h is p = write_step k x es pre rest s h is p
    target_step k (lit n) pre rest s h is p = absurd h
    target_step k (un op e) pre rest s h is p = absurd h
    target_step k (bin op e g) pre rest s h is p = absurd h
    target_step k (cast e) pre rest s h is p = absurd h
    target_step k (test rel e g) pre rest s h is p = absurd h
    target_step k (umin e g) pre rest s h is p = absurd h
    target_step k (umax e g) pre rest s h is p = absurd h
    target_step k (least e g) pre rest s h is p = absurd h
    target_step k (greatest e g) pre rest s h is p = absurd h
    target_step k (widen e) pre rest s h is p = absurd h
    target_step k (big high low) pre rest s h is p = absurd h

    pub assign_step : (k : ℕ) (t : PlainExpr) (op : Option BinOp) (e : PlainExpr) (pre rest : List Tagged) (s : State) → IsWalkedTarget t here → IsWalkedData arrays number (full t op e) here →
        pre ++ (map (tag k here) (all_reads arrays m number (full t op e) here ++ cell_write number t here) ++ rest) ≡ whole → At (length pre) s →
        GoesTo (At (length (pre ++ map (tag k here) (all_reads arrays m number (full t op e) here ++ cell_write number t here)))) (exec_all sc (stmts_of (inspect_reads number a ns (names loops) (full t op e) ++ number_writes number a ns (names loops) t)) env s)
    assign_step k t op e pre rest s h d is p =
        two_reads k (all_reads arrays m number (full t op e) here) (cell_write number t here) (inspect_reads number a ns (names loops) (full t op e)) (number_writes number a ns (names loops) t) pre rest s is
        (λ is. reads_step k (full t op e) pre _ s d is p) (λ pre s is p. target_step k t pre rest s h is p)

  turn_step : (n : ℕ) (s : State) → At n s → GoesTo (At n) (turn s)
  turn_step n s p = chosen s.begun
    where
      chosen : (b : Bool) → At n (cond b (record s { body_turns = s.body_turns + 1 }) (record s { prologue_turns = s.prologue_turns + 1 }))
      chosen true = record { keeps = record { begun = p.keeps.begun; memory = p.keeps.memory; accesses = p.keeps.accesses; wides = p.keeps.wides; made = p.keeps.made; words = p.keeps.words; tables = p.keeps.tables }; inspected = p.inspected }
      chosen false = record { keeps = record { begun = p.keeps.begun; memory = p.keeps.memory; accesses = p.keeps.accesses; wides = p.keeps.wides; made = p.keeps.made; words = p.keeps.words; tables = p.keeps.tables }; inspected = p.inspected }

  -- the whole second walk
  pub second_walk : (body : PlainStmts) (s : State) → AreWalked arrays number body params → tagged_all arrays m number 0 body params ≡ whole → At 0 s →
      GoesOr (λ e t. ⊥) (At (length whole)) (exec_all sc (stmts_of (walk_all (inspect_reads number a ns) (number_writes number a ns) [] body)) base s)
  second_walk body s h is p =
      subst (λ l. GoesOr (λ e t. ⊥) (At (length l)) (exec_all sc (stmts_of (walk_all (inspect_reads number a ns) (number_writes number a ns) [] body)) base s)) is
      (walk_every sc arrays m number params base place own_params whole (inspect_reads number a ns) (number_writes number a ns) (λ e t. ⊥) At
      (λ n s q. or_goes (λ e t. ⊥) (At n) (turn s) (turn_step n s q))
      (λ loops o l k t op e pre rest s h d is q. or_goes (λ e t. ⊥) (At (length (pre ++ map (tag k (loops ++ params)) (all_reads arrays m number (full t op e) (loops ++ params) ++ cell_write number t (loops ++ params))))) (exec_all sc (stmts_of (inspect_reads number a ns (names loops) (full t op e) ++ number_writes number a ns (names loops) t)) (copied_vars loops ++ base) s) (assign_step loops o l k t op e pre rest s h d is q))
      body 0 [] [] [] s h tt (omega arith) (append-nil (tagged_all arrays m number 0 body params) ∙ is) p)
