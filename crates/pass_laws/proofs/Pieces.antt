-- Passes as the pieces that the laws of instrumented texts ask for.
use Rattle.std.proofs.Common.{◌≡◌, ℕ, suc, true, false, List, [], ◌∷◌, refl, sym, ap, ◌∙◌, subst, arith, Some}
use Rattle.std.specs.Prelude.{bytes_eq, slice_get}
use Rattle.std.specs.List.{list_any}
use Rattle.c_tree.specs.Plain.{Word, PlainStmt, PlainStmts}
use Rattle.c_tree.specs.Trees.{stmts_of}
use Rattle.c_tree.specs.Values.{Vars}
use Rattle.c_tree.specs.Arrays.{Array, Memory}
use Rattle.c_tree.specs.Accesses.{Access, uses}
use Rattle.c_tree.specs.Accesses.Definition.{Initial, Written}
use Rattle.c_tree.specs.Instances.{Tagged, untagged, sites_all}
use Rattle.c_tree.specs.Run.{State, Scope, exec_all}
use Rattle.instrumentation.specs.Names.{count, active, counter, definition_total, use_total}
use Rattle.instrumentation.specs.Inspects.{inspects_all}
use Rattle.instrumentation.specs.Passes.{pass_text, cell_piece}
use Rattle.instrumentation.specs.Pieces.{site_pieces_all, piece_at}
use Rattle.instrumentation.specs.Guarded.{array_names, total_names}
use Rattle.instrumentation_laws.specs.OwnNames.{piece_word}
use Rattle.instrumentation_laws.specs.IndexedList.{tagged_all}
use Rattle.instrumentation_laws.specs.Pieces.{Piece}
use Rattle.instrumentation_laws.specs.PrologueTotals.{coordinate_vars}
use Rattle.instrumentation_laws.proofs.Names.{apart_as}
use Rattle.instrumentation_laws.proofs.Declared.{count_in}
use Rattle.pass_laws.specs.Countable.{AreCountable}
use Rattle.pass_laws.specs.Going.{GoesTo, HasCounters, Leaves, Makes}
use Rattle.pass_laws.specs.Places.{IsPlace}
use Rattle.pass_laws.specs.Laws.{PassesGoOn, SitesGoOn, PassesTurn, WritesArePlaces, CellsArePlaces, IsByTarget, WritesAreByTargets, TargetsAreKnown, PiecesAreByTargets, PassesCount, UnitsHaveCounters}
use Rattle.pass_laws.specs.Targets.{targets_all, target_at, is_inspected}
use Rattle.pass_laws.proofs.Targeted.{piece_of as piece_of_target}
use Rattle.pass_laws.proofs.Going.{must_weaker, must_is, state_of}
use Rattle.pass_laws.proofs.Quiet.{AreQuiet, Kept, quiet_all}
use Rattle.pass_laws.proofs.QuietPasses.{pass_quiet, cell_target, site_quiet, cell_quiet}
use Rattle.pass_laws.proofs.Turned.{pass_turns}
use Rattle.pass_laws.proofs.Sites.{names_at_all, Facts, facts_all}
use Rattle.pass_laws.proofs.Renamed.{names}
use Rattle.pass_laws.proofs.Instance.{place_around}
use Rattle.pass_laws.proofs.Writes.{write_counts}
use Rattle.pass_laws.proofs.Cells.{place_cell, cell_counts}

-- ---- passes go on, and make the source's turns

pub passes_go_on : PassesGoOn
passes_go_on sc arrays number body params target site has countable plain free vs s =
    must_weaker (Kept false s) (Leaves s) (exec_all sc (stmts_of (pass_text number body target site)) vs s) (λ t k. k.leaves)
    (quiet_all sc has false (stmts_of (pass_text number body target site)) vs s (pass_quiet number target free arrays site body params countable plain))

pub passes_turn : PassesTurn
passes_turn sc arrays number body params base target site has own countable plain free place s =
    must_weaker (Makes _ s) _ (exec_all sc (stmts_of (pass_text number body target site)) base s) (λ t k. k.turned)
    (pass_turns sc has arrays number params base place own target free site body s countable plain)

-- ---- the assignments of a source

pub writes_are_places : WritesArePlaces
writes_are_places arrays m number body params own countable n t here wr =
    let k : Facts arrays number (sites_all body) 0 (names_at_all 0 body (names params)) (targets_all body) params t = facts_all arrays number m body 0 params n t countable here wr in
    subst (IsPlace params) (sym k.vars_is) (place_around k.around params k.nested k.own_around own)

pub cells_are_places : CellsArePlaces
cells_are_places params cs own = place_cell cs params own

pub writes_are_by_targets : WritesAreByTargets
writes_are_by_targets arrays m number body params countable n t here wr =
    let k : Facts arrays number (sites_all body) 0 (names_at_all 0 body (names params)) (targets_all body) params t = facts_all arrays number m body 0 params n t countable here wr in
    let step : k.step ≡ t.site = (let a = k.site_is in omega arith) in
    record { name = k.name; at = k.at; target_is = ap (target_at body) (sym step) ∙ k.target_is; access_is = k.access_is; cell_is = k.cell_is }

pub targets_are_known : TargetsAreKnown
targets_are_known arrays number body params countable k x at e = cell_target arrays number body params countable k x at e

pub pieces_are_by_targets : PiecesAreByTargets
pieces_are_by_targets number texts body k = piece_of_target number texts body k

not_inspected : (arrays : List Array) (m : Memory) (number : Word → ℕ) (body : PlainStmts) (params : Vars) → AreCountable arrays number body params →
    (n : ℕ) (t : Tagged) → slice_get (tagged_all arrays m number 0 body params) n ≡ Some t → t.access.writes ≡ true → is_inspected number body (target_at body t.site) ≡ false → inspects_all number t.access.array body ≡ false
not_inspected arrays m number body params countable n t here wr u =
    let k : IsByTarget arrays number body t = writes_are_by_targets arrays m number body params countable n t here wr in
    ap (λ (x : Access). inspects_all number x.array body) k.access_is ∙ ap (is_inspected number body) (sym k.target_is) ∙ u

-- ---- quiet statements are pieces

active_piece : (x : Word) → piece_word x ≡ false → bytes_eq active x ≡ false
unfolding active
active_piece x e = apart_as piece_word active x refl e

counter_piece : (x : Word) → piece_word x ≡ false → bytes_eq counter x ≡ false
unfolding counter
counter_piece x e = apart_as piece_word counter x refl e

pub piece_of : (sc : Scope) (p : List PlainStmt) → ((vs : Vars) (s : State) → GoesTo (Leaves s) (exec_all sc (stmts_of p) vs s)) → Piece sc p
piece_of sc p h = record {
  to = λ vs s. state_of (exec_all sc (stmts_of p) vs s);
  goes = λ vs o s. (must_is (Leaves s) (exec_all sc (stmts_of p) vs s) (h vs s)).0;
  memory = λ vs s. (must_is (Leaves s) (exec_all sc (stmts_of p) vs s) (h vs s)).1.memory;
  accesses = λ vs s. (must_is (Leaves s) (exec_all sc (stmts_of p) vs s) (h vs s)).1.accesses;
  begun = λ vs s. (must_is (Leaves s) (exec_all sc (stmts_of p) vs s) (h vs s)).1.begun;
  words = λ vs s x e. (must_is (Leaves s) (exec_all sc (stmts_of p) vs s) (h vs s)).1.words x (active_piece x e) (counter_piece x e);
  wides = λ vs s x e. (must_is (Leaves s) (exec_all sc (stmts_of p) vs s) (h vs s)).1.wides x e;
}

quiet_leaves : (sc : Scope) → HasCounters sc.wides → (p : List PlainStmt) → AreQuiet false (stmts_of p) → (vs : Vars) (s : State) → GoesTo (Leaves s) (exec_all sc (stmts_of p) vs s)
quiet_leaves sc has p q vs s = must_weaker (Kept false s) (Leaves s) (exec_all sc (stmts_of p) vs s) (λ t k. k.leaves) (quiet_all sc has false (stmts_of p) vs s q)

pub sites_go_on : SitesGoOn
sites_go_on sc arrays number texts body params has countable k u vs s =
    quiet_leaves sc has (piece_at (site_pieces_all number texts body 0 body) k) (site_quiet arrays number body params countable texts k u) vs s

pub passes_count : PassesCount
unfolding piece_of
passes_count sc arrays m number texts body vs has own countable short = record {
  at_sites = λ k u. record {
    piece = piece_of sc (piece_at (site_pieces_all number texts body 0 body) k) (quiet_leaves sc has (piece_at (site_pieces_all number texts body 0 body) k) (site_quiet arrays number body vs countable texts k u));
    counts = record {
      counts = λ n t s o here same wr.
          subst (λ j. (state_of (exec_all sc (stmts_of (piece_at (site_pieces_all number texts body 0 body) j)) t.vars s)).wides count ≡ uses (untagged (tagged_all arrays m number 0 body vs)) (Written n)) same
          (must_is (λ r. r.wides count ≡ uses (untagged (tagged_all arrays m number 0 body vs)) (Written n)) (exec_all sc (stmts_of (piece_at (site_pieces_all number texts body 0 body) t.site)) t.vars s)
          (write_counts sc has arrays number m texts body vs own countable short n t here wr (not_inspected arrays m number body vs countable n t here wr (ap (λ j. is_inspected number body (target_at body j)) same ∙ u)) s)).1;
    };
  };
  at_cells = λ a extents u ranked few. record {
    piece = piece_of sc (cell_piece number body a extents) (quiet_leaves sc has (cell_piece number body a extents) (cell_quiet arrays number body vs countable a extents u));
    counts = record {
      counts = λ cs s w.
          (must_is (λ r. r.wides count ≡ uses (untagged (tagged_all arrays m number 0 body vs)) (Initial a cs)) (exec_all sc (stmts_of (cell_piece number body a extents)) (coordinate_vars 0 cs vs) s)
          (cell_counts sc has arrays number m body vs own countable short a extents cs s u ranked few w)).1;
    };
  };
}

-- ---- units

-- the wide names of an instrumented unit are the count and the totals
not_total : (x : Word) → ((a : ℕ) → bytes_eq x (definition_total a) ≡ false) → ((a : ℕ) → bytes_eq x (use_total a) ≡ false) → (a : ℕ) (xs : List Word) → list_any (bytes_eq x) (total_names a xs) ≡ false
not_total x d u a [] = refl
not_total x d u a (y ∷ ys) = rw (d a, u a) (not_total x d u (suc a) ys)

active_wide : (ys : List Word) → list_any (bytes_eq active) (count ∷ total_names 0 ys) ≡ false
unfolding active count definition_total use_total
active_wide ys = not_total active (λ a. refl) (λ a. refl) 0 ys

counter_wide : (ys : List Word) → list_any (bytes_eq counter) (count ∷ total_names 0 ys) ≡ false
unfolding counter count definition_total use_total
counter_wide ys = not_total counter (λ a. refl) (λ a. refl) 0 ys

pub has_counters : UnitsHaveCounters
has_counters u = record { count_wide = count_in (array_names u.params); active_word = active_wide (array_names u.params); counter_word = counter_wide (array_names u.params) }
