-- All pieces of the instrumented unit of a source count: from tables, or by counting passes.
use Rattle.std.proofs.Common.{◌≡◌, inl, inr, ℕ, suc, ◌+◌, ◌^◌, ◌<◌, true, false, List, [], ◌∷◌, ◌++◌, length, refl, sym, ap, ◌∙◌, subst, arith, append_assoc, ℤ, pos, Option, Some, None}
use Rattle.std.specs.Prelude.{slice_get}
use Rattle.std.proofs.lemmas.Bool.{cases_Bool, cond-true, cond-false}
use Rattle.std.proofs.lemmas.List.{length-append, length-map}
use Rattle.c_tree.specs.Plain.{Word, PlainExpr, lit, var, cell, un, bin, cast, test, umin, umax, least, greatest, widen, big, PlainExprs, no_exprs, more_exprs, PlainStmt, PlainParam, int_param, array_param, PlainUnit}
use Rattle.c_tree.specs.Trees.{stmts_of}
use Rattle.c_tree.specs.Values.{Vars, as_word, value_in}
use Rattle.c_tree.specs.Arrays.{Array, Memory, array_named, size_of, extents_in, extents_at, extents_of as values_of, arrays_of, vars_of}
use Rattle.c_tree.specs.Accesses.{Access, Clean, Within}
use Rattle.c_tree.specs.Fault.{Upset}
use Rattle.c_tree.specs.Instances.{Tagged, untagged}
use Rattle.c_tree.specs.Inputs.{arrays_for}
use Rattle.c_tree.specs.Run.{State, Outcome, goes_on, ends, Scope, word, exec_all, started}
use Rattle.instrumentation.specs.Names.{coordinate}
use Rattle.instrumentation.specs.Inspects.{inspects_all}
use Rattle.instrumentation.specs.Passes.{coordinates_from, cell_piece}
use Rattle.instrumentation.specs.Tables.{words_from, initial}
use Rattle.instrumentation.specs.Pieces.{initial_piece, site_piece, site_pieces_all, piece_at, builds}
use Rattle.instrumentation.specs.Guarded.{arrays_with_extents, extents_of, guarded}
use Rattle.instrumentation_laws.specs.AccessList.{signed_all}
use Rattle.instrumentation_laws.specs.IndexedList.{tagged_all}
use Rattle.instrumentation_laws.specs.Pieces as stateless
use Rattle.instrumentation_laws.specs.PrologueTotals as cells_alone
use Rattle.instrumentation_laws.specs.PrologueTotals.{coordinate_vars, AreGoing}
use Rattle.instrumentation_laws.specs.RegularUnits.{number_for, wides_for}
use Rattle.instrumentation_laws.specs.Setting.{scope_of}
use Rattle.instrumentation_laws.specs.Kept.{Kept, IsSitePiece, IsCellPiece, AreCellPieces}
use Rattle.instrumentation_laws.specs.KeptTexts.{Prepared, GoesPrepared}
use Rattle.pass_laws.specs.Countable.{AreAffine, AllHaveNoCells, rank}
use Rattle.pass_laws.specs.Going.{GoesTo, HasCounters, Leaves}
use Rattle.pass_laws.specs.Laws.{PassesGoOn, SitesGoOn, WritesArePlaces, CellsArePlaces, PassesCount, PassesArePieces, WritesAreByTargets, TargetsAreKnown, PiecesAreByTargets, UnitsHaveCounters, IsByTarget, HaveRanks}
use Rattle.pass_laws.specs.Places.{IsPlace}
use Rattle.pass_laws.specs.Targets.{target_at, is_inspected}
use Rattle.pass_laws.proofs.Cells.{coordinates_are}
use Rattle.pass_laws.proofs.Pieces.{piece_of}
use Rattle.pass_laws.proofs.Standing.{get_here}
use Rattle.inspection_laws.specs.AllTables.{Named, AllBuilt}
use Rattle.inspection_laws.specs.CountedUnits.{inspected_from, IsCountableUnit, CountsFromTables, UnitsCountFromTables, PiecesGoOn, UnitsPiecesGoOn}
use Rattle.inspection_laws.specs.CountingPieces.{AreGiven, HoldsUses, TablesAreKept, WritesCountByTables, CellsCountByTables}
use Rattle.inspection_laws.specs.Inspections.{count_of, tables_kept}
use Rattle.inspection_laws.specs.Laws.{Holds, AllTablesHoldUses}
use Rattle.inspection_laws.specs.Walked.{AreExtents, HasTables}
use Rattle.inspection_laws.proofs.AllTables.{silent_of}
use Rattle.inspection_laws.proofs.IndexWords.{as_word_is}
use Rattle.inspection_laws.proofs.Membership.{known_sizes, In, numbers, held, all_small, is_small, holds_uses, its_extents, builds_are, are_ready, are_distinct, in_first, in_rest, in_named, among_params, all_inspected, count_apart}
use Rattle.inspection_laws.proofs.Sized.{sized_from, place_agrees}
use Rattle.inspection_laws.proofs.Stateless.{site_counts, cells_count, tables_apart}
use Rattle.inspection_laws.proofs.TablePieces.{untagged_push, write_piece as table_write, cell_piece as table_cell}

-- ---- coordinates of the prologue as words

extents_rank : (es : PlainExprs) (zs : List ℤ) (vs : Vars) → AreExtents es zs vs → rank es ≡ length zs
extents_rank no_exprs [] vs h = refl
extents_rank no_exprs (z ∷ zs) vs h = absurd h
extents_rank (more_exprs e es) [] vs h = absurd h
extents_rank (more_exprs e es) (z ∷ zs) vs h = ap suc (extents_rank es zs vs h.3)

within_length : (zs cs : List ℤ) → Within zs cs → length zs ≡ length cs
within_length [] [] w = refl
within_length [] (c ∷ cs) w = absurd w
within_length (z ∷ zs) [] w = absurd w
within_length (z ∷ zs) (c ∷ cs) w = ap suc (within_length zs cs w.1)

given_from : (sc : Scope) (d : ℕ) (es : PlainExprs) (zs cs : List ℤ) (params env : Vars) (s : State) → AreExtents es zs params → Within zs cs → AreAffine (coordinates_from d es) env → signed_all (coordinates_from d es) env ≡ cs →
    AreGiven sc (words_from (coordinates_from d es)) cs env s
given_from sc d no_exprs [] [] params env s x w h e = tt
given_from sc d no_exprs [] (c ∷ cs) params env s x w h e = absurd w
given_from sc d no_exprs (z ∷ zs) cs params env s x w h e = absurd x
given_from sc d (more_exprs n es) [] cs params env s x w h e = absurd x
given_from sc d (more_exprs n es) (z ∷ zs) [] params env s x w h e = absurd w
given_from sc d (more_exprs n es) (z ∷ zs) (c ∷ cs) params env s x w h e =
    let k : ℕ = w.0.0 in
    let value : value_in env (coordinate d) ≡ pos k = (let f : value_in env (coordinate d) ≡ c = cc in f) ∙ w.0.1 in
    let size : size_of z ≡ x.1.0 = ap size_of x.1.1 in
    let low : k < size_of z = w.0.2 in
    let bound : x.1.0 < 2 ^ 63 = x.1.3 in
    let word_is : word sc (cast (var (coordinate d))) env s ≡ goes_on (as_word (value_in env (coordinate d))) s = rw h.0 refl in (
      word_is ∙ ap (λ v. goes_on (as_word v) s) value ∙ ap (λ n. goes_on n s) (as_word_is k (omega arith) ∙ sym (ap size_of w.0.1)),
      given_from sc (suc d) es zs cs params env s x.3 w.1 h.1 (let f : signed_all (coordinates_from (suc d) es) env ≡ cs = cc in f),
    )

-- ---- the laws that are taken

pub record Taken : Type 0 where
  pub go_on : PassesGoOn
  pub sites_go : SitesGoOn
  pub at_writes : WritesArePlaces
  pub at_cells : CellsArePlaces
  pub count : PassesCount
  pub writes : WritesAreByTargets
  pub targets : TargetsAreKnown
  pub pieces : PiecesAreByTargets
  pub counters : UnitsHaveCounters
  pub tables : AllTablesHoldUses
  pub kept : TablesAreKept
  pub table_writes : WritesCountByTables
  pub table_cells : CellsCountByTables

values_many : (vs : Vars) (es : PlainExprs) → rank es ≡ length (values_of vs es)
values_many vs no_exprs = refl
values_many vs (more_exprs e es) = ap suc (values_many vs es)

coordinates_free : (d : ℕ) (es : PlainExprs) → AllHaveNoCells (coordinates_from d es)
coordinates_free d no_exprs = tt
coordinates_free d (more_exprs e es) = (tt, coordinates_free (suc d) es)

-- where the run goes on
going : (P : State → Type 0) (o : Outcome (Unit {0})) → Holds P o → (t : State) × (o ≡ goes_on tt t) × P t
going P (goes_on u t) h = (t, refl, h)
going P (ends e t) h = absurd h

module _ (laws : Taken) (u : PlainUnit) (ns : List ℤ) (c : IsCountableUnit u ns) (fault : Option Upset) where
  abbrev vs : Vars
  vs = vars_of u.params ns

  abbrev arrays : List Array
  arrays = arrays_for u ns

  abbrev number : Word → ℕ
  number = number_for u

  abbrev texts : Word → PlainExprs
  texts = extents_of u.params

  abbrev decls : List (Word × PlainExprs)
  decls = arrays_with_extents u.params

  abbrev sc : Scope
  sc = scope_of arrays (wides_for u) fault

  abbrev named : Named
  named = inspected_from number u.body 0 decls

  abbrev piece : ℕ → List PlainStmt
  piece k = piece_at (site_pieces_all number texts u.body 0 u.body) k

  has : HasCounters (wides_for u)
  has = laws.counters u

  tables_of : (a : ℕ) → HasTables arrays (wides_for u) a
  tables_of a = c.tables a

  declared_few : 0 + length decls < 2 ^ 64
  declared_few = (let a = c.few in let b = length-map decls (λ d. d.0) in omega arith)

  its : (a : ℕ) (es : PlainExprs) → In a es named → AreExtents es (extents_at arrays a) vs
  its a es i = its_extents arrays (wides_for u) (extents_at arrays) vs named a es (are_ready number u.body arrays (wides_for u) (extents_at arrays) vs tables_of 0 decls c.extents) i

  -- an inspected array by its name
  in_tables : (x : Word) (a : ℕ × Array) → array_named arrays x ≡ Some a → inspects_all number (number x) u.body ≡ true → In (number x) (texts x) named
  in_tables x a e g = in_named number u.body 0 decls x (among_params number u.body vs 0 u.params x a e) g

  -- ---- the pieces go on

  target_goes : (k : ℕ) (t : PlainExpr) → target_at u.body k ≡ t → is_inspected number u.body t ≡ true → stateless.Piece sc (site_piece number texts u.body k t)
  target_goes k (cell x at) e g =
      let known = laws.targets arrays number u.body vs c.countable k x at e in
      let i : In (number x) (texts x) named = in_tables x known.1.array known.1.named g in
      subst (λ p. stateless.Piece sc p) (sym (cond-true _ _ _ g)) (table_write arrays (wides_for u) fault (number x) (tables_of (number x)) (texts x) (silent_of (texts x) (extents_at arrays (number x)) vs (its (number x) (texts x) i)))
  target_goes k (lit n) e g = absurd cc
  target_goes k (var x) e g = absurd cc
  target_goes k (un op a) e g = absurd cc
  target_goes k (bin op a b) e g = absurd cc
  target_goes k (cast a) e g = absurd cc
  target_goes k (test rel a b) e g = absurd cc
  target_goes k (umin a b) e g = absurd cc
  target_goes k (umax a b) e g = absurd cc
  target_goes k (least a b) e g = absurd cc
  target_goes k (greatest a b) e g = absurd cc
  target_goes k (widen a) e g = absurd cc
  target_goes k (big high low) e g = absurd cc

  site_goes : (k : ℕ) → stateless.Piece sc (piece k)
  site_goes k =
      elim (cases_Bool (is_inspected number u.body (target_at u.body k))) [
        | inl g ↦ subst (λ p. stateless.Piece sc p) (sym (laws.pieces number texts u.body k)) (target_goes k (target_at u.body k) refl g)
        | inr g ↦ piece_of sc (piece k) (λ vs s. laws.sites_go sc arrays number texts u.body (vars_of u.params ns) has c.countable k g vs s)
      ]

  cell_quiet : (a : ℕ) (es : PlainExprs) → inspects_all number a u.body ≡ false → (vs : Vars) (s : State) → GoesTo (Leaves s) (exec_all sc (stmts_of (cell_piece number u.body a es)) vs s)
  cell_quiet a es g vs s = laws.go_on sc arrays number u.body (vars_of u.params ns) (record { array = a; at = coordinates_from 0 es }) None has c.countable g (coordinates_free 0 es) vs s

  cell_goes : (a : ℕ) (es : PlainExprs) → (inspects_all number a u.body ≡ true → In a es named) → stateless.Piece sc (initial_piece number u.body a es)
  cell_goes a es i =
      elim (cases_Bool (inspects_all number a u.body)) [
        | inl g ↦ subst (λ p. stateless.Piece sc p) (sym (cond-true _ _ _ g)) (table_cell arrays (wides_for u) fault a (tables_of a) es (silent_of es (extents_at arrays a) vs (its a es (i g))))
        | inr g ↦ subst (λ p. stateless.Piece sc p) (sym (cond-false _ _ _ g)) (piece_of sc (cell_piece number u.body a es) (cell_quiet a es g))
      ]

  cells_go : (a : ℕ) (ds : List (Word × PlainExprs)) → ((b : ℕ) (es : PlainExprs) → In b es (inspected_from number u.body a ds) → In b es named) → AreGoing sc (initial_piece number u.body) a ds
  cells_go a [] sub = tt
  cells_go a (d ∷ ds) sub = (cell_goes a d.1 (λ g. sub a d.1 (in_first number u.body a d ds g)), cells_go (suc a) ds (λ b es i. sub b es (in_rest number u.body a d ds b es i)))

  pub unit_pieces_go : PiecesGoOn u ns fault
  unit_pieces_go = record { at_sites = site_goes; at_cells = cells_go 0 decls (λ b es i. i) }

  -- ---- from a memory over which the list is clean

  module _ (m : Memory) (clean : Clean (extents_at arrays) (untagged (tagged_all arrays m number 0 u.body vs))) (short : length (tagged_all arrays m number 0 u.body vs) < 2 ^ 63) where
    abbrev whole : List Tagged
    whole = tagged_all arrays m number 0 u.body vs

    passes : PassesArePieces sc arrays number texts u.body vs whole
    passes = laws.count sc arrays m number texts u.body vs has c.params c.countable short

    abbrev start : State
    start = started (guarded u) m

    abbrev After : State → Type 0
    After t = AllBuilt (untagged whole) (extents_at arrays) named start t × Prepared (tables_kept (numbers named) t.tables) start t

    pub built : (t : State) × (exec_all sc (stmts_of (builds number u.body 0 decls)) vs start ≡ goes_on tt t) × After t
    built =
        going After (exec_all sc (stmts_of (builds number u.body 0 decls)) vs start)
        (subst (λ (l : List PlainStmt). Holds After (exec_all sc (stmts_of l) vs start)) (sym (builds_are number u.body 0 decls))
        (laws.tables arrays number (wides_for u) fault vs (extents_at arrays) named u.body start
        (are_ready number u.body arrays (wides_for u) (extents_at arrays) vs tables_of 0 decls c.extents) (are_distinct number u.body 0 decls declared_few)
        (laws.at_cells vs [] c.params) c.params (known_sizes arrays number) c.walked clean short refl))

    abbrev entries : Word → List ℕ
    entries = built.0.tables

    abbrev kept : Kept
    kept = tables_kept (numbers named) entries

    uses_held : (a : ℕ) (es : PlainExprs) → In a es named → HoldsUses whole a (extents_at arrays a) entries
    uses_held a es i = holds_uses whole (extents_at arrays) named built.0 a es built.2.0.each i

    -- where a write is made, the parameters have their values
    write_place : (pre rest : List Tagged) (t : Tagged) → pre ++ t ∷ rest ≡ whole → t.access.writes ≡ true → IsPlace vs t.vars
    write_place pre rest t is w = laws.at_writes arrays m number u.body vs c.params c.countable (length pre) t (subst (λ l. slice_get l (length pre) ≡ Some t) is (get_here pre t rest)) w

    by_target : (pre rest : List Tagged) (t : Tagged) → pre ++ t ∷ rest ≡ whole → t.access.writes ≡ true → IsByTarget arrays number u.body t
    by_target pre rest t is w = laws.writes arrays m number u.body vs c.countable (length pre) t (subst (λ l. slice_get l (length pre) ≡ Some t) is (get_here pre t rest)) w

    -- ---- at an assignment

    -- its writes are of this array
    writes_array : (k : ℕ) (x : Word) (at : PlainExprs) → target_at u.body k ≡ cell x at → (pre rest : List Tagged) (t : Tagged) → pre ++ t ∷ rest ≡ whole → t.site ≡ k → t.access.writes ≡ true → t.access.array ≡ number x
    writes_array k x at e pre rest t is same w =
        let b : IsByTarget arrays number u.body t = by_target pre rest t is w in
        let one : cell b.name b.at ≡ cell x at = sym b.target_is ∙ ap (target_at u.body) same ∙ e in
        let name : b.name ≡ x = cc in
        ap (λ (y : Access). y.array) b.access_is ∙ ap number name

    by_tables : (k : ℕ) (t : PlainExpr) → target_at u.body k ≡ t → is_inspected number u.body t ≡ true → IsSitePiece kept sc whole k (site_piece number texts u.body k t)
    by_tables k (cell x at) e g =
        let known = laws.targets arrays number u.body vs c.countable k x at e in
        let i : In (number x) (texts x) named = in_tables x known.1.array known.1.named g in
        let d = are_distinct number u.body 0 decls declared_few in
        let es : AreExtents (texts x) (extents_at arrays (number x)) vs = its (number x) (texts x) i in
        subst (λ p. IsSitePiece kept sc whole k p) (sym (cond-true _ _ _ g))
        (laws.table_writes arrays (wides_for u) fault (number x) (texts x) whole (extents_at arrays) k (numbers named) entries (tables_of (number x)) (silent_of (texts x) (extents_at arrays (number x)) vs es)
        (held named (number x) (texts x) i) (all_small named d) (is_small named (number x) (texts x) d i) short (uses_held (number x) (texts x) i)
        (λ pre rest t is same w. sized_from vs t.vars (place_agrees vs t.vars (write_place pre rest t is w)) sc (texts x) (extents_at arrays (number x)) es) (writes_array k x at e))
    by_tables k (lit n) e g = absurd cc
    by_tables k (var x) e g = absurd cc
    by_tables k (un op a) e g = absurd cc
    by_tables k (bin op a b) e g = absurd cc
    by_tables k (cast a) e g = absurd cc
    by_tables k (test rel a b) e g = absurd cc
    by_tables k (umin a b) e g = absurd cc
    by_tables k (umax a b) e g = absurd cc
    by_tables k (least a b) e g = absurd cc
    by_tables k (greatest a b) e g = absurd cc
    by_tables k (widen a) e g = absurd cc
    by_tables k (big high low) e g = absurd cc

    -- a write at a pass is none of an inspected array
    steady : (k : ℕ) → is_inspected number u.body (target_at u.body k) ≡ false → (pre rest : List Tagged) (t : Tagged) (x : Word) → pre ++ t ∷ rest ≡ whole → t.site ≡ k → t.access.writes ≡ true → kept.holds x ≡ true → kept.counter (pre ++ t ∷ []) x ≡ kept.counter pre x
    steady k g pre rest t x is same w e =
        let b : IsByTarget arrays number u.body t = by_target pre rest t is w in
        let plain : inspects_all number t.access.array u.body ≡ false =
        ap (λ (y : Access). inspects_all number y.array u.body) b.access_is ∙ ap (is_inspected number u.body) (sym b.target_is) ∙ ap (λ j. is_inspected number u.body (target_at u.body j)) same ∙ g in
        ap (λ (l : List Access). count_of (numbers named) l x) (untagged_push pre t) ∙ count_apart number u.body named (untagged pre) t.access x (all_inspected number u.body 0 decls) plain

    by_pass : (k : ℕ) → is_inspected number u.body (target_at u.body k) ≡ false → IsSitePiece kept sc whole k (piece k)
    by_pass k g =
        let old : stateless.IsSitePiece sc whole k (piece k) = passes.at_sites k g in
        record {
          piece = old.piece;
          counts = site_counts sc (piece k) (λ vs s. laws.sites_go sc arrays number texts u.body (vars_of u.params ns) has c.countable k g vs s) old.piece kept (tables_apart (numbers named)) whole k old.counts.counts (steady k g);
        }

    at_sites : (k : ℕ) → IsSitePiece kept sc whole k (piece k)
    at_sites k =
        elim (cases_Bool (is_inspected number u.body (target_at u.body k))) [
          | inl g ↦ subst (λ p. IsSitePiece kept sc whole k p) (sym (laws.pieces number texts u.body k)) (by_tables k (target_at u.body k) refl g)
          | inr g ↦ by_pass k g
        ]

    -- ---- at the cells of an array

    cell_by_table : (a : ℕ) (es : PlainExprs) → rank es < 2 ^ 64 → In a es named → IsCellPiece kept sc whole vs (extents_at arrays a) a (initial a es)
    cell_by_table a es few i =
        let x : AreExtents es (extents_at arrays a) vs = its a es i in
        laws.table_cells arrays (wides_for u) fault a es whole vs (extents_at arrays) (numbers named) entries (tables_of a) (silent_of es (extents_at arrays a) vs x) (uses_held a es i)
        (λ cs w. sized_from vs (coordinate_vars 0 cs vs) (place_agrees vs (coordinate_vars 0 cs vs) (laws.at_cells vs cs c.params)) sc es (extents_at arrays a) x)
        (λ cs s w.
        let r : rank es ≡ length cs = extents_rank es (extents_at arrays a) vs x ∙ within_length (extents_at arrays a) cs w in
        let at = coordinates_are es cs 0 vs r (omega arith) in
        given_from sc 0 es (extents_at arrays a) cs vs (coordinate_vars 0 cs vs) s x w at.0 at.1)

    cell_by_pass : (a : ℕ) (es : PlainExprs) → inspects_all number a u.body ≡ false → rank es ≡ length (extents_at arrays a) → rank es < 2 ^ 64 → IsCellPiece kept sc whole vs (extents_at arrays a) a (cell_piece number u.body a es)
    cell_by_pass a es g r few =
        let old : cells_alone.IsCellPiece sc whole vs (extents_at arrays a) a (cell_piece number u.body a es) = passes.at_cells a es g r few in
        record {
          piece = old.piece;
          counts = cells_count sc (cell_piece number u.body a es) (cell_quiet a es g) old.piece kept (tables_apart (numbers named)) whole vs (extents_at arrays a) a old.counts.counts;
        }

    cell_counts : (a : ℕ) (es : PlainExprs) → rank es ≡ length (extents_at arrays a) → rank es < 2 ^ 64 → (inspects_all number a u.body ≡ true → In a es named) → IsCellPiece kept sc whole vs (extents_at arrays a) a (initial_piece number u.body a es)
    cell_counts a es r few i =
        elim (cases_Bool (inspects_all number a u.body)) [
          | inl g ↦ subst (λ p. IsCellPiece kept sc whole vs (extents_at arrays a) a p) (sym (cond-true _ _ _ g)) (cell_by_table a es few (i g))
          | inr g ↦ subst (λ p. IsCellPiece kept sc whole vs (extents_at arrays a) a p) (sym (cond-false _ _ _ g)) (cell_by_pass a es g r few)
        ]

    at_cells_from : (before : List Array) (ps : List PlainParam) → before ++ arrays_of vs ps ≡ arrays → HaveRanks (arrays_with_extents ps) →
        ((b : ℕ) (es : PlainExprs) → In b es (inspected_from number u.body (length before) (arrays_with_extents ps)) → In b es named) → AreCellPieces kept sc whole vs (extents_at arrays) (initial_piece number u.body) (length before) (arrays_with_extents ps)
    at_cells_from before [] is h sub = tt
    at_cells_from before (int_param x ∷ ps) is h sub = at_cells_from before ps is h sub
    at_cells_from before (array_param x constant es ∷ ps) is h sub =
        let here : Array = record { name = x; constant = constant; extents = values_of vs es } in
        let a : ℕ = length before in
        let d : Word × PlainExprs = (x, es) in
        let found : slice_get arrays a ≡ Some here = subst (λ l. slice_get l a ≡ Some here) is (get_here before here (arrays_of vs ps)) in
        let ranked : rank es ≡ length (extents_at arrays a) = values_many vs es ∙ ap (λ o. length (extents_in o)) (sym found) in
        let size : length (before ++ here ∷ []) ≡ suc a = (let l = length-append before (here ∷ []) in omega arith) in (
          cell_counts a es ranked h.0 (λ g. sub a es (in_first number u.body a d (arrays_with_extents ps) g)),
          subst (λ n. AreCellPieces kept sc whole vs (extents_at arrays) (initial_piece number u.body) n (arrays_with_extents ps)) size
              (at_cells_from (before ++ here ∷ []) ps (append_assoc before (here ∷ []) (arrays_of vs ps) ∙ is) h.1
              (λ b ds i. sub b ds (in_rest number u.body a d (arrays_with_extents ps) b ds (subst (λ n. In b ds (inspected_from number u.body n (arrays_with_extents ps))) size i)))),
        )

    pub unit_counts : CountsFromTables u ns m fault
    unit_counts = record {
      kept = kept;
      pieces = record {
        is_kept = laws.kept (numbers named) entries;
        tables_go = subst (GoesPrepared kept start) (sym built.1) built.2.1;
        at_sites = at_sites;
        at_cells = at_cells_from [] u.params refl c.ranks (λ b es i. i);
      };
    }

pub units_count_from_tables : Taken → UnitsCountFromTables
units_count_from_tables laws u ns m fault c clean short = unit_counts laws u ns c fault m clean short

pub units_pieces_go_on : Taken → UnitsPiecesGoOn
units_pieces_go_on laws u ns fault c = unit_pieces_go laws u ns c fault
