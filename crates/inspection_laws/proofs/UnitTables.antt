-- The tables that a whole unit makes.
use Rattle.std.proofs.Common.{◌≡◌, ℕ, suc, ◌+◌, ◌<◌, ◌^◌, Bool, true, false, cond, List, [], ◌∷◌, ◌++◌, length, refl, sym, ap, ◌∙◌, subst, arith, append_assoc, append-nil, ℤ, Option, Some}
use Rattle.std.specs.Prelude.{slice_get}
use Rattle.std.proofs.lemmas.List.{length-append, length-map}
use Rattle.c_tree.specs.Plain.{Word, PlainExprs, PlainStmt, begin, verdict, PlainStmts, PlainParam, int_param, array_param, PlainUnit}
use Rattle.c_tree.specs.Trees.{stmts_of}
use Rattle.c_tree.specs.Values.{Vars}
use Rattle.c_tree.specs.Arrays.{Array, Memory, cell_count, extents_in, extents_at, extents_of as values_of, arrays_of, vars_of}
use Rattle.c_tree.specs.Accesses.{Access, Clean, writes_of}
use Rattle.c_tree.specs.Fault.{Upset, upset_of}
use Rattle.c_tree.specs.Instances.{Tagged, untagged, core, accesses}
use Rattle.c_tree.specs.Inputs.{arrays_for, memory_for}
use Rattle.c_tree.specs.Run.{State, Outcome, goes_on, ends, and_then, Scope, exec_all, result, started, run_from}
use Rattle.instrumentation.specs.Body.{instrument_all}
use Rattle.instrumentation.specs.Inspects.{inspects_all}
use Rattle.instrumentation.specs.Tables.{build}
use Rattle.instrumentation.specs.Pieces.{initial_piece, site_pieces_all, piece_at, builds}
use Rattle.instrumentation.specs.Prologue.{prologue_text}
use Rattle.instrumentation.specs.Guarded.{arrays_with_extents, extents_of, guarded}
use Rattle.instrumentation_laws.specs.IndexedList.{tagged_all}
use Rattle.instrumentation_laws.specs.RegularUnits.{number_for, wides_for}
use Rattle.instrumentation_laws.specs.Setting.{scope_of, inspected_in}
use Rattle.instrumentation_laws.proofs.Steps.{exec_join}
use Rattle.instrumentation_laws.proofs.Verdicts.{end_is}
use Rattle.pass_laws.specs.TextTurns.{HasMade, TextsMakeNoTable}
use Rattle.pass_laws.proofs.Standing.{get_here}
use Rattle.inspection_laws.specs.AllTables.{two_lengths, lengths_made}
use Rattle.inspection_laws.specs.CountedUnits.{inspected_from}
use Rattle.inspection_laws.specs.UnitTurns.{lengths_of_tables, tables_for, UnitsMakeTables, UnitsMakeNoTable}
use Rattle.inspection_laws.proofs.UnitPieces.{Taken, built}

-- the tables that a run made
tables_made : (printed : Bool) (sc : Scope) (made : List ℕ) (o : Outcome (Unit {0})) → HasMade made o → (result printed sc o).tables ≡ made
tables_made printed sc made (goes_on u s) h = ap (λ (t : State). t.made) (end_is sc.fault s).1 ∙ h
tables_made printed sc made (ends e s) h = ap (λ (t : State). t.made) (end_is sc.fault s).1 ∙ h

-- ---- the lengths

module _ (number : Word → ℕ) (body : PlainStmts) (list : List Access) (vs : Vars) (arrays : List Array) where
  abbrev insp : ℕ → Bool
  insp a = inspects_all number a body

  lengths_from : (before : List Array) (ps : List PlainParam) → before ++ arrays_of vs ps ≡ arrays →
      lengths_made list (extents_at arrays) (inspected_from number body (length before) (arrays_with_extents ps)) ≡ lengths_of_tables insp list (length before) (arrays_of vs ps)
  lengths_from before [] is = refl
  lengths_from before (int_param x ∷ ps) is = lengths_from before ps is
  lengths_from before (array_param x constant es ∷ ps) is =
      let here : Array = record { name = x; constant = constant; extents = values_of vs es } in
      let a : ℕ = length before in
      let found : slice_get arrays a ≡ Some here = subst (λ l. slice_get l a ≡ Some here) is (get_here before here (arrays_of vs ps)) in
      let size : length (before ++ here ∷ []) ≡ suc a = (let l = length-append before (here ∷ []) in omega arith) in
      let rest : lengths_made list (extents_at arrays) (inspected_from number body (suc a) (arrays_with_extents ps)) ≡ lengths_of_tables insp list (suc a) (arrays_of vs ps) =
      subst (λ n. lengths_made list (extents_at arrays) (inspected_from number body n (arrays_with_extents ps)) ≡ lengths_of_tables insp list n (arrays_of vs ps)) size
      (lengths_from (before ++ here ∷ []) ps (append_assoc before (here ∷ []) (arrays_of vs ps) ∙ is)) in
      chosen (insp a) (ap (λ o. cell_count (extents_in o)) found) rest
    where
      chosen : (b : Bool) → cell_count (extents_at arrays (length before)) ≡ cell_count (values_of vs es) →
          lengths_made list (extents_at arrays) (inspected_from number body (suc (length before)) (arrays_with_extents ps)) ≡ lengths_of_tables insp list (suc (length before)) (arrays_of vs ps) →
          lengths_made list (extents_at arrays) (cond b ((length before, es) ∷ inspected_from number body (suc (length before)) (arrays_with_extents ps)) (inspected_from number body (suc (length before)) (arrays_with_extents ps)))
          ≡ cond b (cell_count (values_of vs es) ∷ (cell_count (values_of vs es) + writes_of list (length before)) ∷ []) [] ++ lengths_of_tables insp list (suc (length before)) (arrays_of vs ps)
      chosen true e r = ap (λ l. two_lengths list (extents_at arrays) (length before) ++ l) r ∙ ap (λ c. c ∷ (c + writes_of list (length before)) ∷ lengths_of_tables insp list (suc (length before)) (arrays_of vs ps)) e
      chosen false e r = r

-- ---- the run

abbrev rest_of : PlainUnit → List PlainStmt
rest_of u =
    prologue_text (initial_piece (number_for u) u.body) 0 (arrays_with_extents u.params) ++
    (begin ∷ (instrument_all (number_for u) (extents_of u.params) (piece_at (site_pieces_all (number_for u) (extents_of u.params) u.body 0 u.body)) 0 u.body ++ verdict ∷ []))

made_after : (no_table : TextsMakeNoTable) (u : PlainUnit) (ns : List ℤ) (m : Memory) (fault : Option Upset) (t : State) (made : List ℕ) →
    exec_all (scope_of (arrays_for u ns) (wides_for u) fault) (stmts_of (builds (number_for u) u.body 0 (arrays_with_extents u.params))) (vars_of u.params ns) (started (guarded u) m) ≡ goes_on tt t → t.made ≡ made → (run_from (guarded u) ns m fault).tables ≡ made
made_after no_table u ns m fault t made goes is =
    let sc : Scope = scope_of (arrays_for u ns) (wides_for u) fault in
    let vs : Vars = vars_of u.params ns in
    let tables : List PlainStmt = builds (number_for u) u.body 0 (arrays_with_extents u.params) in
    let start : State = started (guarded u) m in
    let after : HasMade t.made (exec_all sc (stmts_of (rest_of u)) vs t) = no_table sc (number_for u) (extents_of u.params) u.body (arrays_with_extents u.params) vs t in
    tables_made true sc made (exec_all sc (stmts_of (tables ++ rest_of u)) vs start)
    (subst (HasMade made) (sym (exec_join sc tables (rest_of u) vs start ∙ ap (λ o. and_then o (λ v t. exec_all sc (stmts_of (rest_of u)) vs t)) goes))
    (subst (λ l. HasMade l (exec_all sc (stmts_of (rest_of u)) vs t)) is after))

pub units_make_tables : Taken → TextsMakeNoTable → UnitsMakeTables
units_make_tables laws no_table u i fault c listed sound =
    let ns : List ℤ = i.ints in
    let m : Memory = memory_for u i in
    let arrays : List Array = arrays_for u ns in
    let vs : Vars = vars_of u.params ns in
    let whole : List Tagged = tagged_all arrays m (number_for u) 0 u.body vs in
    let upset : Option Upset = upset_of arrays fault in
    let clean : Clean (extents_at arrays) (untagged whole) = subst (λ (l : List Access). Clean (extents_at arrays) l) (sym (listed ∙ append-nil (core u ns m))) sound.clean in
    let short : length whole < 2 ^ 63 =
    (let few : length (accesses u ns m) < 2 ^ 63 = sound.few in let a : length (untagged whole) ≡ length (accesses u ns m) = ap length listed in let b = length-map whole (λ (t : Tagged). t.access) in omega arith) in
    let b = built laws u ns c upset m clean short in
    made_after no_table u ns m upset b.0 (tables_for u i) b.1
    (b.2.0.made ∙ lengths_from (number_for u) u.body (untagged whole) vs arrays [] u.params refl ∙ ap (λ (l : List Access). lengths_of_tables (inspected_in (number_for u) u.body) l 0 arrays) listed)

builds_nothing : (number : Word → ℕ) (body : PlainStmts) → ((a : ℕ) → inspects_all number a body ≡ false) → (a : ℕ) (decls : List (Word × PlainExprs)) → builds number body a decls ≡ []
builds_nothing number body none a [] = refl
builds_nothing number body none a (x ∷ more) = ap (λ b. cond b (build number body a x.1) [] ++ builds number body (suc a) more) (none a) ∙ builds_nothing number body none (suc a) more

pub units_make_no_table : TextsMakeNoTable → UnitsMakeNoTable
units_make_no_table no_table u ns m fault none =
    made_after no_table u ns m fault (started (guarded u) m) []
    (ap (λ (l : List PlainStmt). exec_all (scope_of (arrays_for u ns) (wides_for u) fault) (stmts_of l) (vars_of u.params ns) (started (guarded u) m)) (builds_nothing (number_for u) u.body none 0 (arrays_with_extents u.params))) refl
