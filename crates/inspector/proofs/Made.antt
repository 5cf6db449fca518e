-- What the lists of an inspection do, from what an accepted source has: the tables are made or the run ends, and counts are taken from them.
use Rattle.std.proofs.Common.{◌≡◌, ℕ, suc, ◌+◌, ◌*◌, ◌%◌, ◌^◌, ◌<◌, ◌≤◌, true, false, List, [], ◌∷◌, length, refl, sym, ap, ◌∙◌, subst, arith, ℤ, pos, Option, Some, None, codes}
use Rattle.std.specs.Prelude.{bytes_eq, slice_get, slice_index}
use Rattle.std.specs.List.{list_any}
use Rattle.std.proofs.lemmas.List.{append-nil, length-map}
use Rattle.c_tree.specs.Names.{arrays_in}
use Rattle.c_tree.specs.Plain.{Word, PlainExpr, var, cell, bin, cast, widen, PlainExprs, no_exprs, more_exprs, assign, PlainUnit}
use Rattle.c_tree.specs.Trees.{stmts_of}
use Rattle.c_tree.specs.Values.{Vars, as_word, value_in, word_bin}
use Rattle.c_tree.specs.Arrays.{Array, cell_count, extents_at, size_of, vars_of}
use Rattle.c_tree.specs.Accesses.{Access, Clean, uses, Within}
use Rattle.c_tree.specs.Accesses.Definition.{Initial, Written}
use Rattle.c_tree.specs.Fault.{Upset}
use Rattle.c_tree.specs.Instances.{Tagged, untagged, core}
use Rattle.c_tree.specs.Inputs.{PlainInputs, arrays_for, memory_for, Fit, IsSound}
use Rattle.c_tree.specs.Run.{State, Outcome, goes_on, ends, and_then, Scope, put, word, exec, exec_all, turns}
use Rattle.c_tree.specs.declared.expr.BinOp.TheVariants.{Add}
use Rattle.instrumentation.specs.Guarded.{arrays_with_extents}
use Rattle.instrumentation.specs.Inspects.{inspects_all}
use Rattle.instrumentation.specs.Names.{count, coordinate, written, counts}
use Rattle.instrumentation.specs.Passes.{coordinates_from}
use Rattle.instrumentation.specs.Tables.{one, cells_of, row_of, words_from, one_more, build, initial, at_write}
use Rattle.instrumentation_laws.specs.AccessList.{signed_all}
use Rattle.instrumentation_laws.specs.IndexedList.{tagged_all}
use Rattle.instrumentation_laws.specs.OwnNames.{begins}
use Rattle.instrumentation_laws.specs.PrologueTotals.{coordinate_vars}
use Rattle.instrumentation_laws.specs.RegularUnits.{number_for, wides_for}
use Rattle.instrumentation_laws.proofs.Names.{same_word}
use Rattle.instrumentation_laws.proofs.Steps.{exec_one}
use Rattle.pass_laws.specs.Countable.{AreAffine, rank}
use Rattle.pass_laws.specs.Laws.{UnitsTurn, CellsArePlaces}
use Rattle.pass_laws.specs.Turns.{turns_all}
use Rattle.pass_laws.proofs.Cells.{coordinates_are}
use Rattle.inspection_laws.specs.CountingPieces.{AreGiven, AllSilent}
use Rattle.inspection_laws.specs.Inspected.{row, writes_array, writes_before}
use Rattle.inspection_laws.specs.Laws.{Holds, EndsAtFirst, TablesHoldUses, TablesEndExactly}
use Rattle.inspection_laws.specs.Misses.{misses_in, misses_all}
use Rattle.inspection_laws.specs.Walked.{AreExtents, AreSized, Agrees, Built, HasTables}
use Rattle.inspection_laws.proofs.AllTables.{silent_of}
use Rattle.inspection_laws.proofs.Entries.{cells_give, row_gives, two_words, one_more_is}
use Rattle.inspection_laws.proofs.IndexWords.{as_word_is}
use Rattle.inspection_laws.proofs.Membership.{known_sizes}
use Rattle.inspection_laws.proofs.Second.{cells_few, before_few}
use Rattle.inspection_laws.proofs.Sized.{sized_from, place_agrees}
use Rattle.inspection_laws.proofs.TablePieces.{or_first, value, value_is, counted_from, count_from_is, cell_silent, index_silent}
use Rattle.guard_laws.specs.Forms.{HasForms}
use Rattle.guard_laws.specs.IndexArrays.{is_index_array}
use Rattle.text_parts.specs.Extents.{declared_extents}
use Rattle.inspector.specs.Building.{scope_for, list_of, HasIndexArraysOf, misses_of, EndsExactly, Stands, Makes, MakesTables, ReadsIndexArrays, Builds}
use Rattle.inspector.specs.Counting.{CountsInitial, SetsCount, CountsWrite, SetsCountAndWrites, IsInitial, IsAtWrite}
use Rattle.inspector.proofs.Declared.{extents_of_it, rank_of_it}
use Rattle.inspector.proofs.Reading.{build_fine}
use Rattle.inspector.proofs.SameMemory.{all_misses, all_list}

-- ---- coordinates of the prologue as words

extents_rank : (es : PlainExprs) (zs : List ℤ) (vs : Vars) → AreExtents es zs vs → rank es ≡ length zs
extents_rank no_exprs [] vs h = refl
extents_rank no_exprs (z ∷ zs) vs h = absurd h
extents_rank (more_exprs e es) [] vs h = absurd h
extents_rank (more_exprs e es) (z ∷ zs) vs h = ap suc (extents_rank es zs vs h.3)

within_length : (zs cs : List ℤ) → Within zs cs → length zs ≡ length cs
within_length [] [] w = refl
within_length [] (c ∷ cs) w = absurd w
within_length (z ∷ zs) [] w = absurd w
within_length (z ∷ zs) (c ∷ cs) w = ap suc (within_length zs cs w.1)

given_from : (sc : Scope) (d : ℕ) (es : PlainExprs) (zs cs : List ℤ) (params env : Vars) (s : State) → AreExtents es zs params → Within zs cs → AreAffine (coordinates_from d es) env → signed_all (coordinates_from d es) env ≡ cs →
    AreGiven sc (words_from (coordinates_from d es)) cs env s
given_from sc d no_exprs [] [] params env s x w h e = tt
given_from sc d no_exprs [] (c ∷ cs) params env s x w h e = absurd w
given_from sc d no_exprs (z ∷ zs) cs params env s x w h e = absurd x
given_from sc d (more_exprs n es) [] cs params env s x w h e = absurd x
given_from sc d (more_exprs n es) (z ∷ zs) [] params env s x w h e = absurd w
given_from sc d (more_exprs n es) (z ∷ zs) (c ∷ cs) params env s x w h e =
    let k : ℕ = w.0.0 in
    let value : value_in env (coordinate d) ≡ pos k = (let f : value_in env (coordinate d) ≡ c = cc in f) ∙ w.0.1 in
    let size : size_of z ≡ x.1.0 = ap size_of x.1.1 in
    let low : k < size_of z = w.0.2 in
    let bound : x.1.0 < 2 ^ 63 = x.1.3 in
    let word_is : word sc (cast (var (coordinate d))) env s ≡ goes_on (as_word (value_in env (coordinate d))) s = rw h.0 refl in (
      word_is ∙ ap (λ v. goes_on (as_word v) s) value ∙ ap (λ n. goes_on n s) (as_word_is k (omega arith) ∙ sym (ap size_of w.0.1)),
      given_from sc (suc d) es zs cs params env s x.3 w.1 h.1 (let f : signed_all (coordinates_from (suc d) es) env ≡ cs = cc in f),
    )

-- ---- a count and a write, each as one equation of its run

written_not_wide : (sc : Scope) (a : ℕ) → HasTables sc.arrays sc.wides a → list_any (bytes_eq (written a)) sc.wides ≡ false
written_not_wide sc a has = has.words (written a) (or_first (bytes_eq (written a) (written a)) (begins (codes "bal_cx") (written a)) (same_word (written a)))

initial_is : (sc : Scope) (a : ℕ) (ns : PlainExprs) (vs : Vars) (s : State) (k : ℕ) → HasTables sc.arrays sc.wides a → word sc (row_of ns (words_from (coordinates_from 0 ns))) vs s ≡ goes_on k s →
    exec_all sc (stmts_of (initial a ns)) vs s ≡ goes_on tt (counted_from a k s)
initial_is sc a ns vs s k has h =
    exec_one sc (assign (var count) None (widen (cell (counts a) (one (row_of ns (words_from (coordinates_from 0 ns))))))) vs s ∙ count_from_is sc a (row_of ns (words_from (coordinates_from 0 ns))) vs s k has h

abbrev next_index : ℕ → PlainExprs → PlainExpr
next_index a ns = bin Add (cells_of ns) (var (written a))

at_write_from : (sc : Scope) (a : ℕ) (ns : PlainExprs) (vs : Vars) (s : State) (k : ℕ) → HasTables sc.arrays sc.wides a → word sc (next_index a ns) vs s ≡ goes_on k s →
    exec_all sc (stmts_of (at_write a ns)) vs s ≡ exec sc (one_more a) vs (counted_from a k s)
at_write_from sc a ns vs s k has h =
    ap (λ o. and_then o (λ u t. exec_all sc (stmts_of (one_more a ∷ [])) vs t)) (count_from_is sc a (next_index a ns) vs s k has h) ∙ exec_one sc (one_more a) vs (counted_from a k s)

one_more_from : (sc : Scope) (a : ℕ) (vs : Vars) (s : State) → HasTables sc.arrays sc.wides a → exec sc (one_more a) vs s ≡ goes_on tt (record s { words = put s.words (written a) ((s.words (written a) + 1) % 2 ^ 64) })
one_more_from sc a vs s has = rw (written_not_wide sc a has) refl

-- ---- an array with irregular reads

module _ (hold : TablesHoldUses) (end_exactly : TablesEndExactly) (unit_turns : UnitsTurn) (places : CellsArePlaces) (u : PlainUnit) (array : ℕ) (name : Word) (there : slice_get (arrays_in u.params) array ≡ Some name)
    (forms : (i : PlainInputs) → Fit u i → HasForms u i) (inspected : (i : PlainInputs) → Fit u i → inspects_all (number_for u) array u.body ≡ true) where
  abbrev texts : PlainExprs
  texts = declared_extents (arrays_with_extents u.params) array

  module _ (i : PlainInputs) (fault : Option Upset) (fit : Fit u i) where
    abbrev arrays : List Array
    arrays = arrays_for u i.ints

    abbrev vs : Vars
    vs = vars_of u.params i.ints

    abbrev sc : Scope
    sc = scope_for u i fault

    abbrev es : List ℤ
    es = extents_at arrays array

    h : HasForms u i
    h = forms i fit

    has : HasTables arrays (wides_for u) array
    has = h.countable.tables array

    sizes : AreExtents texts es vs
    sizes =
        let same : 0 + array ≡ array = omega arith in
        subst (λ n. AreExtents texts (extents_at arrays n) vs) same
        (extents_of_it (number_for u) u.body (extents_at arrays) vs u.params 0 array name h.countable.extents there (ap (λ n. inspects_all (number_for u) n u.body) same ∙ inspected i fit))

    silent : AllSilent texts
    silent = silent_of texts es vs sizes

    few : rank texts < 2 ^ 64
    few = rank_of_it u.params array name h.countable.ranks there

    -- ---- the tables

    module _ (s : State) (holds : HasIndexArraysOf u i s.memory) (before : s.begun ≡ false) where
      abbrev built : Outcome (Unit {0})
      built = exec_all sc (stmts_of (build (number_for u) u.body array texts)) vs s

      same_misses : misses_all (misses_in arrays s.memory (number_for u) array es) u.body vs ≡ misses_of u i array
      same_misses = all_misses arrays (number_for u) (is_index_array u) s.memory (memory_for u i) holds array es u.body vs (λ a e. e) h.countable.walked

      same_list : untagged (tagged_all arrays s.memory (number_for u) 0 u.body vs) ≡ list_of u i
      same_list = ap untagged (all_list arrays (number_for u) (is_index_array u) s.memory (memory_for u i) holds 0 u.body vs (λ a e. e) h.countable.walked) ∙ h.listed

      pub table_ends : EndsAtFirst (misses_of u i array) s (2 * turns_all u.body vs) built
      table_ends =
          subst (λ l. EndsAtFirst l s (2 * turns_all u.body vs) built) same_misses
          (end_exactly arrays (number_for u) (wides_for u) fault array vs (extents_at arrays) texts u.body s has (places vs [] h.countable.params) h.countable.params (known_sizes arrays (number_for u)) sizes h.countable.walked before)

      module _ (sound : IsSound u i) where
        clean : Clean (extents_at arrays) (list_of u i)
        clean = subst (λ (l : List Access). Clean (extents_at arrays) l) (sym (append-nil (core u i.ints (memory_for u i)))) sound.clean

        tagged_few : length (tagged_all arrays s.memory (number_for u) 0 u.body vs) < 2 ^ 63
        tagged_few =
            let whole : List Tagged = tagged_all arrays s.memory (number_for u) 0 u.body vs in
            let same : length whole ≡ length (list_of u i) = sym (length-map whole (λ (t : Tagged). t.access)) ∙ ap length same_list in
            let short : length (list_of u i) < 2 ^ 63 = sound.few in
            omega arith

        tables_hold : Holds (Built (list_of u i) array es s) built
        tables_hold =
            subst (λ (l : List Access). Holds (Built l array es s) built) same_list
            (hold arrays (number_for u) (wides_for u) fault array vs (extents_at arrays) texts u.body s has (places vs [] h.countable.params) h.countable.params (known_sizes arrays (number_for u)) sizes h.countable.walked
            (subst (λ (l : List Access). Clean (extents_at arrays) l) (sym same_list) clean) tagged_few before)

        turns_are : turns u i ≡ turns_all u.body vs
        turns_are = unit_turns u i h.countable.countable h.well_formed.version (h.follows sound.clean).verdict

        both : (o : Outcome (Unit {0})) → Holds (Built (list_of u i) array es s) o → EndsAtFirst (misses_of u i array) s (2 * turns_all u.body vs) o → Holds (Makes u i array s) o
        both (goes_on v t) b e = record {
          built = b;
          lengths = b.made;
          stands = record { counted = b.counted; writes = b.none_written };
          turns = e.1 ∙ ap (λ n. s.prologue_turns + 2 * n) (sym turns_are);
          body = e.2;
        }
        both (ends x t) b e = absurd b

        pub tables_made : Holds (Makes u i array s) built
        tables_made = both built tables_hold table_ends

    -- ---- the count of an initial cell

    pub initial_sets : (base : Vars) (s : State) → (n : ℕ) × (exec_all sc (stmts_of (initial array texts)) base s ≡ goes_on tt (record s { wides = put s.wides count n }))
    initial_sets base s =
        let e : PlainExpr = row_of texts (words_from (coordinates_from 0 texts)) in
        (slice_index (s.tables (counts array)) (value sc e base s), initial_is sc array texts base s (value sc e base s) has (value_is sc e base s (cell_silent arrays (wides_for u) fault array has texts silent)))

    pub initial_counts : (n : ℕ) (cs : List ℤ) (s : State) → Stands u i array n s → Within es cs →
        exec_all sc (stmts_of (initial array texts)) (coordinate_vars 0 cs vs) s ≡ goes_on tt (record s { wides = put s.wides count (uses (list_of u i) (Initial array cs)) })
    initial_counts n cs s stands w =
        let env : Vars = coordinate_vars 0 cs vs in
        let r : rank texts ≡ length cs = extents_rank texts es vs sizes ∙ within_length es cs w in
        let low : rank texts < 2 ^ 64 = few in
        let at = coordinates_are texts cs 0 vs r (omega arith) in
        let sized : AreSized sc texts es env = sized_from vs env (place_agrees vs env (places vs cs h.countable.params)) sc texts es sizes in
        initial_is sc array texts env s (row es cs) has (row_gives sc texts es (words_from (coordinates_from 0 texts)) cs env s sized (given_from sc 0 texts es cs vs env s sizes w at.0 at.1) w) ∙
        ap (λ n. goes_on tt (record s { wides = put s.wides count n })) (stands.counted (Initial array cs) (refl, w))

    -- ---- that of a write

    pub write_sets : (base : Vars) (s : State) → (n k : ℕ) × (exec_all sc (stmts_of (at_write array texts)) base s ≡ goes_on tt (record s { wides = put s.wides count n; words = put s.words (written array) k }))
    write_sets base s =
        let k : ℕ = value sc (next_index array texts) base s in (
          slice_index (s.tables (counts array)) k,
          (s.words (written array) + 1) % 2 ^ 64,
          at_write_from sc array texts base s k has (value_is sc (next_index array texts) base s (index_silent arrays (wides_for u) fault array has texts silent)) ∙ one_more_from sc array base (counted_from array k s) has,
        )

    pub write_counts : (base : Vars) (q : ℕ) (s : State) → IsSound u i → Agrees vs base → q < length (list_of u i) → writes_array (list_of u i) array q ≡ true → Stands u i array (writes_before (list_of u i) array q) s →
        exec_all sc (stmts_of (at_write array texts)) base s ≡
        goes_on tt (record s { wides = put s.wides count (uses (list_of u i) (Written q)); words = put s.words (written array) (writes_before (list_of u i) array q + 1) })
    write_counts base q s sound agrees below its stands =
        let n : ℕ = writes_before (list_of u i) array q in
        let now : s.words (written array) ≡ n = stands.writes in
        let sized : AreSized sc texts es base = sized_from vs base agrees sc texts es sizes in
        let cells : cell_count es < 2 ^ 62 = cells_few sc texts es base sized in
        let front : n ≤ q = before_few (list_of u i) array q in
        let short : length (list_of u i) < 2 ^ 63 = sound.few in
        let index : word sc (next_index array texts) base s ≡ goes_on (cell_count es + n) s =
        two_words sc (word_bin Add) (word sc (cells_of texts) base) (word sc (var (written array)) base) s (cell_count es) (s.words (written array)) (cells_give sc texts es base s sized) refl ∙
        ap (λ k. goes_on k s) (let z : (cell_count es + s.words (written array)) % 2 ^ 64 ≡ cell_count es + n = omega arith in z) in
        let counted : State = counted_from array (cell_count es + n) s in
        at_write_from sc array texts base s (cell_count es + n) has index ∙
        one_more_is sc array has base counted (omega arith) ∙
        ap (λ k. goes_on tt (record counted { words = put s.words (written array) (k + 1) })) now ∙
        ap (λ k. goes_on tt (record s { wides = put s.wides count k; words = put s.words (written array) (n + 1) })) (stands.counted (Written q) its)

  -- ---- as they are stated

  pub ends_exactly : EndsExactly u array (build (number_for u) u.body array texts)
  ends_exactly i fault s fit holds before = table_ends i fault fit s holds before

  pub makes_tables : MakesTables u array (build (number_for u) u.body array texts)
  makes_tables i fault s sound holds before = tables_made i fault sound.fit s holds before sound

  pub counts_initial : CountsInitial u array (initial array texts)
  counts_initial i fault n cs s sound stands w = initial_counts i fault sound.fit n cs s stands w

  pub sets_count : SetsCount u (initial array texts)
  sets_count i fault base s fit = initial_sets i fault fit base s

  pub counts_write : CountsWrite u array (at_write array texts)
  counts_write i fault base q s sound agrees below its stands = write_counts i fault sound.fit base q s sound agrees below its stands

  pub sets_count_and_writes : SetsCountAndWrites u array (at_write array texts)
  sets_count_and_writes i fault base s fit = write_sets i fault fit base s

  pub reads_index_arrays : (i : PlainInputs) → Fit u i → ReadsIndexArrays u array (build (number_for u) u.body array texts)
  reads_index_arrays i fit = build_fine (arrays_for u i.ints) (number_for u) (is_index_array u) array texts (es i None fit) u.body (vs i None fit) (λ a e. e) (h i None fit).countable.walked (sizes i None fit)

  pub builds : Builds u array (build (number_for u) u.body array texts)
  builds = record { ends = ends_exactly; makes = makes_tables; reads = reads_index_arrays }

  pub is_initial : IsInitial u array (initial array texts)
  is_initial = record { counts = counts_initial; sets = sets_count }

  pub is_at_write : IsAtWrite u array (at_write array texts)
  is_at_write = record { counts = counts_write; sets = sets_count_and_writes }
