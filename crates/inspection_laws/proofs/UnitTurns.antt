-- The turns of the run of a whole unit, for sound inputs and under every fault.
use Rattle.std.proofs.Common.{◌≡◌, ◌≢◌, inl, inr, ℕ, zero, suc, ◌+◌, ◌*◌, ◌<◌, ◌≤◌, ◌&&◌, Bool, true, false, not, cond, List, [], ◌∷◌, ◌++◌, length, refl, sym, ap, ◌∙◌, subst, arith, ℤ, Option, Some, None, eq-eqb, nat_eq}
use Rattle.std.specs.Prelude.{slice_get}
use Rattle.std.proofs.lemmas.Bool.{cases_eq, ne_eqb}
use Rattle.c_tree.specs.Plain.{Word, PlainExprs, PlainStmt, begin, PlainStmts, PlainParam, int_param, array_param, PlainUnit}
use Rattle.c_tree.specs.Trees.{stmts_of}
use Rattle.c_tree.specs.Values.{Vars}
use Rattle.c_tree.specs.Arrays.{Array, Memory, extents_at, extents_of as values_of, arrays_of, vars_of, cell_count, cell_walk}
use Rattle.c_tree.specs.Accesses.{Access, at, sum_below, writes_of}
use Rattle.c_tree.specs.Fault.{Upset, upset_of}
use Rattle.c_tree.specs.Instances.{Tagged, untagged, accesses}
use Rattle.c_tree.specs.Inputs.{PlainInputs, arrays_for, memory_for}
use Rattle.c_tree.specs.Run.{State, Ended, Outcome, goes_on, ends, outside, index, judged, Scope, exec_all, started, run_from, run, turns}
use Rattle.run_laws.proofs.Within.{array_stands}
use Rattle.instrumentation.specs.Body.{instrument_all}
use Rattle.instrumentation.specs.Inspects.{inspects_all}
use Rattle.instrumentation.specs.Pieces.{initial_piece, site_pieces_all, piece_at, builds}
use Rattle.instrumentation.specs.Prologue.{prologue_text}
use Rattle.instrumentation.specs.Guarded.{arrays_with_extents, extents_of, guarded}
use Rattle.instrumentation_laws.specs.IndexedList.{tagged_all}
use Rattle.instrumentation_laws.specs.KeptUnits.{IsKeptUnit, EveryKeptRunHasTotals, HasTotalsOf}
use Rattle.instrumentation_laws.specs.RegularUnits.{AreMeasured, number_for, wides_for}
use Rattle.instrumentation_laws.specs.Setting.{text_after, scope_of, inspected_in}
use Rattle.instrumentation_laws.specs.TextLaws.{EndAlike}
use Rattle.instrumentation_laws.specs.UnitLaws.{differing}
use Rattle.instrumentation_laws.proofs.KeptUnits.{its_run, its_end, run_is, follow}
use Rattle.instrumentation_laws.proofs.PositionSums.{front}
use Rattle.instrumentation_laws.proofs.Steps.{exec_join}
use Rattle.instrumentation_laws.proofs.Verdicts.{end_is}
use Rattle.pass_laws.specs.Going.{WhereGoing, Turned}
use Rattle.pass_laws.specs.Laws.{UnitsTurn, WritesAreByTargets, IsByTarget}
use Rattle.pass_laws.specs.TextTurns.{counted_in, BodiesTurn, walks_from, ProloguesTurn}
use Rattle.pass_laws.specs.Turns.{turns_all}
use Rattle.pass_laws.proofs.SourceTurns.{going_then, going_weaker}
use Rattle.inspection_laws.specs.AllTables.{Named, build_all, misses_each}
use Rattle.inspection_laws.specs.CountedUnits.{inspected_from, IsCountableUnit}
use Rattle.inspection_laws.specs.UnitTurns.{counted_writes, turns_before, UnitsMakeTurns}
use Rattle.inspection_laws.proofs.AllTables.{AllPassed, all_end}
use Rattle.inspection_laws.proofs.Ending.{EndsAtFirst}
use Rattle.inspection_laws.proofs.Membership.{known_sizes, builds_are, are_ready}
use Rattle.inspection_laws.proofs.UnitPieces.{Taken}

-- ---- the writes of all arrays

writes_more : (x : Access) (xs : List Access) (a : ℕ) → writes_of (x ∷ xs) a ≡ cond (x.writes && nat_eq x.array a) 1 0 + writes_of xs a
unfolding writes_of
writes_more x xs a = front (λ q. cond ((at (x ∷ xs) q).writes && nat_eq (at (x ∷ xs) q).array a) 1 0) (length xs)

none_written : (a : ℕ) → writes_of [] a ≡ 0
unfolding writes_of sum_below
none_written a = refl

module _ (insp : ℕ → Bool) where
  -- one access, among the arrays from number k on
  abbrev single : Access → ℕ → List Array → ℕ
  single x k [] = 0
  single x k (a ∷ more) = cond (insp k) 0 (cond (x.writes && nat_eq x.array k) 1 0) + single x (suc k) more

  kept_zero : (b : Bool) → (let n : ℕ = cond b 0 0 in n) ≡ 0
  kept_zero true = refl
  kept_zero false = refl

  no_single : (x : Access) (k : ℕ) (arrays : List Array) → x.writes ≡ false → single x k arrays ≡ 0
  no_single x k [] w = refl
  no_single x k (a ∷ more) w = ap (λ b. cond (insp k) 0 (cond (b && nat_eq x.array k) 1 0) + single x (suc k) more) w ∙ (let r = no_single x (suc k) more w in let z = kept_zero (insp k) in omega arith)

  past_single : (x : Access) (k : ℕ) (arrays : List Array) → x.array < k → single x k arrays ≡ 0
  past_single x k [] l = refl
  past_single x k (a ∷ more) l =
      ap (λ b. cond (insp k) 0 (cond (x.writes && b) 1 0) + single x (suc k) more) (ne_eqb x.array k (λ e. (let f : x.array ≡ k = e in absurd (omega arith)))) ∙
      ap (λ n. cond (insp k) 0 n + single x (suc k) more) (and_false x.writes) ∙
      (let r = past_single x (suc k) more (omega arith) in let z = kept_zero (insp k) in omega arith)
    where
      and_false : (b : Bool) → (let n : ℕ = cond (b && false) 1 0 in n) ≡ 0
      and_false true = refl
      and_false false = refl

  one_single : (x : Access) (k : ℕ) (arrays : List Array) → x.writes ≡ true → k ≤ x.array → x.array < k + length arrays → single x k arrays ≡ cond (not (insp x.array)) 1 0
  one_single x k [] w low high = absurd (omega arith)
  one_single x k (a ∷ more) w low high =
      elim (cases_eq x.array k) [
        | inl e ↦ (
            ap (λ b. cond (insp k) 0 (cond (b && nat_eq x.array k) 1 0) + single x (suc k) more) w ∙ ap (λ b. cond (insp k) 0 (cond b 1 0) + single x (suc k) more) (eq-eqb x.array k e) ∙
            ap (λ n. cond (insp k) 0 (cond true 1 0) + n) (past_single x (suc k) more (omega arith)) ∙ none_more (cond (insp k) 0 1) ∙ turned (insp k) ∙ ap (λ n. cond (not (insp n)) 1 0) (sym e))
        | inr ne ↦ (
            ap (λ b. cond (insp k) 0 (cond (b && nat_eq x.array k) 1 0) + single x (suc k) more) w ∙ ap (λ b. cond (insp k) 0 (cond b 1 0) + single x (suc k) more) (ne_eqb x.array k ne) ∙
            (let r = one_single x (suc k) more w (omega arith) (omega arith) in let z = kept_zero (insp k) in omega arith))
      ]
    where
      none_more : (n : ℕ) → n + 0 ≡ n
      none_more n = omega arith

      turned : (b : Bool) → (let n : ℕ = cond b 0 1 in n) ≡ cond (not b) 1 0
      turned true = refl
      turned false = refl

  counted_none : (k : ℕ) (arrays : List Array) → counted_writes insp [] k arrays ≡ 0
  counted_none k [] = refl
  counted_none k (a ∷ more) = ap (λ n. cond (insp k) 0 n + counted_writes insp [] (suc k) more) (none_written k) ∙ (let r = counted_none (suc k) more in let z = kept_zero (insp k) in omega arith)

  counted_more : (x : Access) (xs : List Access) (k : ℕ) (arrays : List Array) → counted_writes insp (x ∷ xs) k arrays ≡ single x k arrays + counted_writes insp xs k arrays
  counted_more x xs k [] = omega arith
  counted_more x xs k (a ∷ more) =
      ap (λ n. cond (insp k) 0 n + counted_writes insp (x ∷ xs) (suc k) more) (writes_more x xs k) ∙
      (let r = counted_more x xs (suc k) more in let z = split (insp k) (cond (x.writes && nat_eq x.array k) 1 0) (writes_of xs k) in omega arith)
    where
      split : (b : Bool) (n m : ℕ) → cond b 0 (n + m) ≡ cond b 0 n + cond b 0 m
      split true n m = omega arith
      split false n m = refl

  pub counted_are : (list : List Tagged) (arrays : List Array) → ((k : ℕ) (t : Tagged) → slice_get list k ≡ Some t → t.access.writes ≡ true → t.access.array < length arrays) → counted_in insp (untagged list) ≡ counted_writes insp (untagged list) 0 arrays
  counted_are [] arrays h = sym (counted_none 0 arrays)
  counted_are (t ∷ ts) arrays h =
      let rest : counted_in insp (untagged ts) ≡ counted_writes insp (untagged ts) 0 arrays = counted_are ts arrays (λ k u g w. h (suc k) u g w) in
      let here : cond (t.access.writes && not (insp t.access.array)) 1 0 ≡ single t.access 0 arrays = chosen t.access.writes refl in
      (let m = counted_more t.access (untagged ts) 0 arrays in omega arith)
    where
      chosen : (w : Bool) → t.access.writes ≡ w → cond (w && not (insp t.access.array)) 1 0 ≡ single t.access 0 arrays
      chosen true e = sym (one_single t.access 0 arrays e (omega arith) (let l = h 0 t refl e in omega arith))
      chosen false e = sym (no_single t.access 0 arrays e)

below_all : (arrays : List Array) (n : ℕ) (a : Array) → slice_get arrays n ≡ Some a → n < length arrays
below_all [] n a e = absurd (let f : (let o : Option Array = None in o) ≡ Some a = e in cc)
below_all (x ∷ arrays) zero a e = omega arith
below_all (x ∷ arrays) (suc n) a e = (let h = below_all arrays n a e in omega arith)

-- ---- the prologue, and the tables before it

before_are : (number : Word → ℕ) (body : PlainStmts) (t : ℕ) (vs : Vars) (k : ℕ) (ps : List PlainParam) →
    length (inspected_from number body k (arrays_with_extents ps)) * (2 * t) + walks_from (λ a. inspects_all number a body) t k (arrays_of vs ps) ≡ turns_before (λ a. inspects_all number a body) t k (arrays_of vs ps)
before_are number body t vs k [] = omega arith
before_are number body t vs k (int_param x ∷ ps) = before_are number body t vs k ps
before_are number body t vs k (array_param x constant es ∷ ps) = chosen (inspects_all number k body) (before_are number body t vs (suc k) ps)
  where
    chosen : (b : Bool) → length (inspected_from number body (suc k) (arrays_with_extents ps)) * (2 * t) + walks_from (λ a. inspects_all number a body) t (suc k) (arrays_of vs ps) ≡ turns_before (λ a. inspects_all number a body) t (suc k) (arrays_of vs ps) →
        length (cond b ((k, es) ∷ inspected_from number body (suc k) (arrays_with_extents ps)) (inspected_from number body (suc k) (arrays_with_extents ps))) * (2 * t)
        + ((cell_walk (values_of vs es) + cond b 0 (cell_count (values_of vs es) * t)) + walks_from (λ a. inspects_all number a body) t (suc k) (arrays_of vs ps))
        ≡ (cell_walk (values_of vs es) + cond b (2 * t) (cell_count (values_of vs es) * t)) + turns_before (λ a. inspects_all number a body) t (suc k) (arrays_of vs ps)
    chosen true r =
        more (length (inspected_from number body (suc k) (arrays_with_extents ps))) (2 * t) (cell_walk (values_of vs es)) (walks_from (λ a. inspects_all number a body) t (suc k) (arrays_of vs ps)) ∙
        ap (λ n. (cell_walk (values_of vs es) + 2 * t) + n) r
      where
        more : (n d w r : ℕ) → suc n * d + ((w + 0) + r) ≡ (w + d) + (n * d + r)
        more n d w r = grind arith
    chosen false r =
        (let c = cell_count (values_of vs es) * t in let n = length (inspected_from number body (suc k) (arrays_with_extents ps)) * (2 * t) in omega arith)

module _ (laws : Taken) (writes : WritesAreByTargets) (bodies : BodiesTurn) (prologues : ProloguesTurn) (source_turns : UnitsTurn) (totals : EveryKeptRunHasTotals) (u : PlainUnit) (i : PlainInputs) (upset : Option Upset) (c : IsCountableUnit u i.ints) (measured : AreMeasured (vars_of u.params i.ints) u.params) where
  abbrev ns : List ℤ
  ns = i.ints

  abbrev m : Memory
  m = memory_for u i

  abbrev vs : Vars
  vs = vars_of u.params ns

  abbrev arrays : List Array
  arrays = arrays_for u ns

  abbrev number : Word → ℕ
  number = number_for u

  abbrev decls : List (Word × PlainExprs)
  decls = arrays_with_extents u.params

  abbrev sc : Scope
  sc = scope_of arrays (wides_for u) upset

  abbrev pieces : ℕ → List PlainStmt
  pieces = piece_at (site_pieces_all number (extents_of u.params) u.body 0 u.body)

  abbrev tables : List PlainStmt
  tables = builds number u.body 0 decls

  abbrev insp : ℕ → Bool
  insp a = inspects_all number a u.body

  abbrev whole : List Tagged
  whole = tagged_all arrays m number 0 u.body vs

  abbrev named : Named
  named = inspected_from number u.body 0 decls

  abbrev t : ℕ
  t = turns_all u.body vs

  abbrev start : State
  start = started (guarded u) m

  writes_below : (k : ℕ) (x : Tagged) → slice_get whole k ≡ Some x → x.access.writes ≡ true → x.access.array < length arrays
  writes_below k x g w =
      let b : IsByTarget arrays number u.body x = writes arrays m number u.body vs c.countable k x g w in
      let is : x.access.array ≡ b.cell_is.array.0 = ap (λ (y : Access). y.array) b.access_is ∙ b.cell_is.numbered in
      let below : b.cell_is.array.0 < length arrays = below_all arrays b.cell_is.array.0 b.cell_is.array.1 (array_stands arrays b.name b.cell_is.array b.cell_is.named) in
      omega arith

  -- ---- the text

  pub record AtEnd (x : State) : Type 0 where
    pub body : x.body_turns ≡ t + t * counted_writes insp (untagged whole) 0 arrays
    pub prologue : x.prologue_turns ≡ turns_before insp t 0 arrays

  pub record AfterTables (x : State) : Type 0 where
    pub begun : x.begun ≡ false
    pub body : x.body_turns ≡ 0
    pub prologue : x.prologue_turns ≡ length named * (2 * t)

  tables_turn : WhereGoing AfterTables (exec_all sc (stmts_of tables) vs start)
  tables_turn =
      subst (λ (l : List PlainStmt). WhereGoing AfterTables (exec_all sc (stmts_of l) vs start)) (sym (builds_are number u.body 0 decls))
      (passed (exec_all sc (stmts_of (build_all number u.body named)) vs start)
      (all_end arrays number (wides_for u) upset vs (laws.at_cells vs [] c.params) c.params (extents_at arrays) (known_sizes arrays number) u.body c.walked m named start
      (are_ready number u.body arrays (wides_for u) (extents_at arrays) vs c.tables 0 decls c.extents) refl refl))
    where
      passed : (o : Outcome (Unit {0})) → EndsAtFirst (misses_each arrays m number (extents_at arrays) u.body vs named) (λ x. AllPassed named (length named * (2 * t)) start x) o → WhereGoing AfterTables o
      passed (goes_on v x) h = record { begun = h.1.begun; body = h.1.body; prologue = h.1.prologue ∙ (let e : 0 + length named * (2 * t) ≡ length named * (2 * t) = omega arith in e) }
      passed (ends e x) h = tt

  -- all before the text has begun
  prologue_turns : (x : State) → AfterTables x → WhereGoing (λ y. (y.body_turns ≡ 0) × (y.prologue_turns ≡ turns_before insp t 0 arrays)) (exec_all sc (stmts_of (prologue_text (initial_piece number u.body) 0 decls)) vs x)
  prologue_turns x h =
      going_weaker (Turned (walks_from insp t 0 arrays) x) (λ y. (y.body_turns ≡ 0) × (y.prologue_turns ≡ turns_before insp t 0 arrays)) (exec_all sc (stmts_of (prologue_text (initial_piece number u.body) 0 decls)) vs x)
      (λ y k. (
        k.body ∙ ap (λ b. x.body_turns + cond b (walks_from insp t 0 arrays) 0) h.begun ∙ (let e = h.body in omega arith),
        k.prologue ∙ ap (λ b. x.prologue_turns + cond b 0 (walks_from insp t 0 arrays)) h.begun ∙ ap (λ n. n + walks_from insp t 0 arrays) h.prologue ∙ before_are number u.body t vs 0 u.params,
      ))
      (prologues sc arrays number u.body vs u.params (laws.counters u) c.params c.countable measured x)

  text_turns : WhereGoing AtEnd (exec_all sc (stmts_of (text_after tables decls (initial_piece number u.body) number pieces u.body)) vs start)
  text_turns =
      let rest : List PlainStmt = begin ∷ instrument_all number (extents_of u.params) pieces 0 u.body in
      let prologue : List PlainStmt = prologue_text (initial_piece number u.body) 0 decls in
      subst (WhereGoing AtEnd) (sym (exec_join sc tables (prologue ++ rest) vs start))
      (going_then AfterTables AtEnd (exec_all sc (stmts_of tables) vs start) (λ v x. exec_all sc (stmts_of (prologue ++ rest)) vs x) tables_turn
      (λ v x h. subst (WhereGoing AtEnd) (sym (exec_join sc prologue rest vs x))
      (going_then (λ y. (y.body_turns ≡ 0) × (y.prologue_turns ≡ turns_before insp t 0 arrays)) AtEnd (exec_all sc (stmts_of prologue) vs x) (λ w y. exec_all sc (stmts_of rest) vs y) (prologue_turns x h)
      (λ w y k. going_weaker (Turned (t + t * counted_in insp (untagged whole)) (record y { begun = true })) AtEnd (exec_all sc (stmts_of (instrument_all number (extents_of u.params) pieces 0 u.body)) vs (record y { begun = true }))
      (λ z q. record {
        body = q.body ∙ ap (λ n. n + (t + t * counted_in insp (untagged whole))) k.0 ∙ (let e : 0 + (t + t * counted_in insp (untagged whole)) ≡ t + t * counted_in insp (untagged whole) = omega arith in e) ∙ ap (λ n. t + t * n) (counted_are insp whole arrays writes_below);
        prologue = q.prologue ∙ (let e : y.prologue_turns + 0 ≡ y.prologue_turns = omega arith in e) ∙ k.1;
      })
      (bodies sc arrays m number (extents_of u.params) u.body vs (laws.counters u) c.params c.countable (record y { begun = true }))))))

  -- ---- the run

  module _ (is_index : ℕ → Bool) (kept : IsKeptUnit u (guarded u) ns m upset number is_index decls tables (initial_piece number u.body) pieces) where
    abbrev of_run : Outcome (Unit {0}) → Ended
    of_run o = its_end u (guarded u) ns m upset number is_index decls tables (initial_piece number u.body) pieces kept o

    abbrev Turns : Ended → Type 0
    Turns r = (r.body_turns ≡ t + t * counted_writes insp (untagged whole) 0 arrays) × (r.prologue_turns ≡ turns_before insp t 0 arrays)

    turns_at : (q o : Outcome (Unit {0})) → WhereGoing AtEnd o → EndAlike (inspected_in number u.body) q o → ((a : ℕ) → (of_run o).verdict ≢ index a) → ((a : ℕ) → (of_run o).verdict ≢ outside a) → Turns (of_run o)
    turns_at (goes_on v s) (goes_on w x) h like no_index no_outside = let k = end_is upset x in (ap (λ (y : State). y.body_turns) k.1 ∙ h.body, ap (λ (y : State). y.prologue_turns) k.1 ∙ h.prologue)
    turns_at (goes_on v s) (ends f x) h like no_index no_outside = absurd like
    turns_at (ends e s) (goes_on w x) h like no_index no_outside = absurd like
    turns_at (ends e s) (ends f x) h like no_index no_outside = elim like.0.2 [ inl g ↦ absurd (no_outside like.0.0 g) | inr g ↦ absurd (no_index like.0.0 g.0) ]

    pub unit_turns : ((a : ℕ) → (run_from (guarded u) ns m upset).verdict ≢ index a) → ((a : ℕ) → (run_from (guarded u) ns m upset).verdict ≢ outside a) → Turns (run_from (guarded u) ns m upset)
    unit_turns no_index no_outside =
        let is : run_from (guarded u) ns m upset ≡ of_run (its_run u (guarded u) ns m upset number is_index decls tables (initial_piece number u.body) pieces kept) = run_is u (guarded u) ns m upset number is_index decls tables (initial_piece number u.body) pieces kept in
        subst Turns (sym is)
        (turns_at _ (its_run u (guarded u) ns m upset number is_index decls tables (initial_piece number u.body) pieces kept) text_turns (follow u (guarded u) ns m upset number is_index decls tables (initial_piece number u.body) pieces kept)
        (λ a e. no_index a (ap (λ (r : Ended). r.verdict) is ∙ e)) (λ a e. no_outside a (ap (λ (r : Ended). r.verdict) is ∙ e)))

judged_inside : (l : List ℕ) (a : ℕ) → judged l ≢ outside a
judged_inside [] a e = absurd cc
judged_inside (k ∷ l) a e = absurd cc

pub units_make_turns : Taken → WritesAreByTargets → BodiesTurn → ProloguesTurn → UnitsTurn → EveryKeptRunHasTotals → UnitsMakeTurns
units_make_turns laws writes bodies prologues source_turns totals u i fault is_index c measured ends_plain kept sound no_index =
    let upset : Option Upset = upset_of (arrays_for u i.ints) fault in
    let number : Word → ℕ = number_for u in
    let decls : List (Word × PlainExprs) = arrays_with_extents u.params in
    let insp : ℕ → Bool = inspected_in number u.body in
    let n : ℕ = turns_all u.body (vars_of u.params i.ints) in
    let has : HasTotalsOf u i (run (guarded u) i fault) = totals u (guarded u) i fault number is_index decls (builds number u.body 0 decls) (initial_piece number u.body) (piece_at (site_pieces_all number (extents_of u.params) u.body 0 u.body)) kept sound no_index in
    let made = unit_turns laws writes bodies prologues source_turns totals u i upset c measured is_index kept no_index (λ a e. judged_inside (differing 0 (run (guarded u) i fault).totals) a (sym has.verdict ∙ e)) in
    let same : turns u i ≡ n = source_turns u i c.countable kept.text.source ends_plain in
    record {
      body = made.0 ∙ ap (λ (l : List Access). n + n * counted_writes insp l 0 (arrays_for u i.ints)) kept.listed ∙ ap (λ k. k + k * counted_writes insp (accesses u i.ints (memory_for u i)) 0 (arrays_for u i.ints)) (sym same);
      prologue = made.1 ∙ ap (λ k. turns_before insp k 0 (arrays_for u i.ints)) (sym same);
    }
