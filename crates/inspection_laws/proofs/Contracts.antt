-- The laws of tables, as they are stated.
use Rattle.std.proofs.Common.{map, length, ◌≡◌, ℕ, suc, ◌+◌, ◌*◌, Bool, true, false, if◌then◌else◌, ap, List, [], ◌∷◌, ◌++◌, refl, ℤ}
use Rattle.c_tree.specs.Plain.{PlainExprs, no_exprs, more_exprs}
use Rattle.c_tree.specs.Values.{Vars}
use Rattle.c_tree.specs.Trees.{stmts_of}
use Rattle.c_tree.specs.Run.{State, End, Outcome, goes_on, ends, exec_all}
use Rattle.instrumentation_laws.specs.Setting.{scope_of, Untouched}
use Rattle.instrumentation.specs.Inspects.{inspects_all}
use Rattle.instrumentation.specs.Pieces.{builds}
use Rattle.instrumentation.specs.Tables.{build}
use Rattle.instrumentation_laws.specs.IndexedList.{tagged_all}
use Rattle.inspection_laws.specs.Laws.{Holds, TablesHoldUses, EndsAtFirst, TablesEndExactly, AllTablesHoldUses, AllTablesEndExactly, FirstMissTells, IndicesLieElse, UnitsBuildAll}
use Rattle.inspection_laws.specs.Misses.{misses_in, misses_all}
use Rattle.inspection_laws.specs.Walked.{AreExtents}
use Rattle.pass_laws.specs.Turns.{turns_all}
use Rattle.inspection_laws.specs.CountingPieces.{AllSilent}
use Rattle.inspection_laws.proofs.Ending.{build_ends, affine_quiet as affine_silent}
use Rattle.inspection_laws.proofs.Ending.{EndsAtFirst as EndsAtFirst', Passed}
use Rattle.instrumentation_laws.proofs.Outcomes.{GoesOr}
use Rattle.inspection_laws.proofs.Building.{builds as one_builds}
use Rattle.pass_laws.proofs.Renamed.{copied_vars}
use Rattle.c_tree.specs.Accesses.{Access}
use Rattle.c_tree.specs.Instances.{untagged}
use Rattle.instrumentation_laws.specs.KeptTexts.{Prepared}
use Rattle.inspection_laws.specs.Inspections.{tables_kept}
use Rattle.inspection_laws.specs.CountedUnits.{inspected_from}
use Rattle.inspection_laws.specs.AllTables.{Named, build_all, AllBuilt, misses_each}
use Rattle.inspection_laws.proofs.AllTables.{AllPassed, own_scratch, build_each, all_prepared, all_end}
use Rattle.inspection_laws.proofs.Prepares.{own_no_scratch}
use Rattle.inspection_laws.proofs.Missed.{first_tells, all_indices_lie}
use Rattle.inspection_laws.proofs.Sized.{sized_from, walk_agrees}

holds_from : (P : State → Type 0) (o : Outcome (Unit {0})) → GoesOr (λ e t. ⊥) P o → Holds P o
holds_from P (goes_on u t) h = h
holds_from P (ends e t) h = h

pub tables_hold_uses : TablesHoldUses
tables_hold_uses arrays number wides fault a params extents ns body s has place own_params sizes sized walked clean short before =
    holds_from _ (exec_all (scope_of arrays wides fault) (stmts_of (build number body a ns)) params s)
    (one_builds arrays number wides fault a has s.memory params params place own_params (tagged_all arrays s.memory number 0 body params) extents ns clean short sizes
    (λ loops. sized_from params (copied_vars loops ++ params) (walk_agrees params params place loops) (scope_of arrays wides fault) ns (extents a) sized) body walked refl s before refl)

silent_extents : (ns : PlainExprs) (zs : List ℤ) (params : Vars) → AreExtents ns zs params → AllSilent ns
silent_extents no_exprs zs params h = tt
silent_extents (more_exprs n ns) [] params h = absurd h
silent_extents (more_exprs n ns) (z ∷ zs) params h = (affine_silent n params h.0.0, silent_extents ns zs params h.3)

ends_from : (l : List End) (s : State) (n : ℕ) (P : State → Type 0) (o : Outcome (Unit {0})) → ((t : State) → P t → (t.prologue_turns ≡ s.prologue_turns + n) × (t.body_turns ≡ s.body_turns) × Untouched s t) → EndsAtFirst' l P o → EndsAtFirst l s n o
ends_from l s n P (goes_on u t) f h = (h.0, (f t h.1).0, (f t h.1).1, (f t h.1).2)
ends_from l s n P (ends e t) f h = h

one_aside : (a n : ℕ) (s t : State) → Passed a n s t → (t.prologue_turns ≡ s.prologue_turns + n) × (t.body_turns ≡ s.body_turns) × Untouched s t
one_aside a n s t h = (h.prologue, h.body, record { begun = h.begun; memory = h.memory; accesses = h.accesses; wides = h.wides; words = λ x o. h.words x (own_no_scratch a x o) })

all_aside : (xs : Named) (n : ℕ) (s t : State) → AllPassed xs n s t → (t.prologue_turns ≡ s.prologue_turns + n) × (t.body_turns ≡ s.body_turns) × Untouched s t
all_aside xs n s t h = (h.prologue, h.body, record { begun = h.begun; memory = h.memory; accesses = h.accesses; wides = h.wides; words = λ x o. h.words x (own_scratch xs x o) })

pub tables_end_exactly : TablesEndExactly
tables_end_exactly arrays number wides fault a params extents ns body s has place own_params sizes sized walked before =
    ends_from (misses_all (misses_in arrays s.memory number a (extents a)) body params) s (2 * turns_all body params) (Passed a (2 * turns_all body params) s) (exec_all (scope_of arrays wides fault) (stmts_of (build number body a ns)) params s) (one_aside a (2 * turns_all body params) s)
    (build_ends arrays number wides fault a has params params place own_params extents ns (silent_extents ns (extents a) params sized) sizes
    (λ loops. sized_from params (copied_vars loops ++ params) (walk_agrees params params place loops) (scope_of arrays wides fault) ns (extents a) sized) body walked s before)

-- ---- several arrays

each_prepared : (xs : Named) (list : List Access) (extents : ℕ → List ℤ) (s : State) (o : Outcome (Unit {0})) → ((t : State) → AllBuilt list extents xs s t → Prepared (tables_kept (map (λ x. x.0) xs) t.tables) s t) →
    GoesOr (λ e t. ⊥) (AllBuilt list extents xs s) o → Holds (λ t. AllBuilt list extents xs s t × Prepared (tables_kept (map (λ x. x.0) xs) t.tables) s t) o
each_prepared xs list extents s (goes_on u t) f h = (h, f t h)
each_prepared xs list extents s (ends e t) f h = h

pub all_tables_hold_uses : AllTablesHoldUses
all_tables_hold_uses arrays number wides fault params extents xs body s ready distinct place own_params sizes walked clean short before =
    each_prepared xs (untagged (tagged_all arrays s.memory number 0 body params)) extents s (exec_all (scope_of arrays wides fault) (stmts_of (build_all number body xs)) params s)
    (all_prepared arrays number wides fault params place own_params extents sizes body walked s.memory clean short xs s)
    (build_each arrays number wides fault params place own_params extents sizes body walked s.memory clean short xs s ready distinct before refl)

pub all_tables_end_exactly : AllTablesEndExactly
all_tables_end_exactly arrays number wides fault params extents xs body s ready place own_params sizes walked before =
    ends_from (misses_each arrays s.memory number extents body params xs) s (length xs * (2 * turns_all body params))
    (AllPassed xs (length xs * (2 * turns_all body params)) s) (exec_all (scope_of arrays wides fault) (stmts_of (build_all number body xs)) params s) (all_aside xs (length xs * (2 * turns_all body params)) s)
    (all_end arrays number wides fault params place own_params extents sizes body walked s.memory xs s ready before refl)

-- ---- misses, and whole units

pub first_miss_tells : FirstMissTells
first_miss_tells arrays number m params extents xs body e r sizes walked is = first_tells arrays number m extents sizes xs body params e r walked is

pub indices_lie_else : IndicesLieElse
indices_lie_else arrays number m params extents decls body sizes walked all none = all_indices_lie arrays number m extents sizes body params decls walked all none

pub units_build_all : UnitsBuildAll
units_build_all number body a [] = refl
units_build_all number body a (x ∷ more) = chosen (inspects_all number a body) (units_build_all number body (suc a) more)
  where
    chosen : (b : Bool) → builds number body (suc a) more ≡ build_all number body (inspected_from number body (suc a) more) →
        (if b then build number body a x.1 else []) ++ builds number body (suc a) more ≡ build_all number body (if b then (a, x.1) ∷ inspected_from number body (suc a) more else inspected_from number body (suc a) more)
    chosen true rest = ap (λ l. build number body a x.1 ++ l) rest
    chosen false rest = rest
