-- The passes of a source count.
use Rattle.std.proofs.Common.{◌≡◌, ℕ, zero, suc, ◌+◌, ◌-◌, ◌^◌, ◌<◌, ◌≤◌, Bool, true, false, List, [], ◌∷◌, ◌++◌, length, Option, Some, None, Result, Ok, Err, map, refl, sym, subst, ap, ◌∙◌, arith, append_assoc, cond}
use Rattle.std.specs.Prelude.{IfOk, bytes_eq, nat_eq, nat_lt, slice_get}
use Rattle.std.specs.List.{list_any}
use Rattle.std.proofs.lemmas.Bool.{eqb-true, eqb-false, ltb-true, ltb-false, ne_eqb, or_parts, cond-true, cond-false}
use Rattle.std.proofs.lemmas.List.{length-append, length-map, get_or_append_left, get_or-append_right}
use Rattle.c_tree.specs.Names.{arrays_in}
use Rattle.c_tree.specs.Plain.{Word, PlainExpr, lit, cell, PlainExprs, no_exprs, more_exprs, PlainStmt, loop, choice, assign, table, begin, check, verdict, PlainStmts, no_stmts, more_stmts, PlainParam, int_param, array_param, PlainUnit}
use Rattle.c_tree.specs.Trees.{stmt, unit}
use Rattle.c_tree.specs.Values.{Vars}
use Rattle.c_tree.specs.Arrays.{Array, extents_in, extents_at, extents_of as values_of, arrays_of, vars_of}
use Rattle.c_tree.specs.Fault.{Upset}
use Rattle.c_tree.specs.Instances.{Tagged, untagged, accesses, sites, sites_all}
use Rattle.c_tree.specs.Inputs.{PlainInputs, arrays_for, memory_for, Fit, IsSound}
use Rattle.c_tree.specs.declared.memory.OutOfMemory.{OutOfMemory}
use Rattle.c_tree.specs.declared.stmt.Stmt.{Stmt}
use Rattle.c_tree.specs.declared.unit.Unit.{Unit as TheUnit}
use Rattle.instrumentation.specs.Guarded.{arrays_with_extents, array_names, extents_of}
use Rattle.instrumentation.specs.Names.{number_from}
use Rattle.instrumentation.specs.Inspects.{inspects_all}
use Rattle.instrumentation.specs.Passes.{cell_piece}
use Rattle.instrumentation.specs.Pieces.{site_piece, site_pieces_all, piece_at}
use Rattle.instrumentation_laws.specs.Pieces.{IsSitePiece}
use Rattle.instrumentation_laws.specs.PrologueTotals.{IsCellPiece}
use Rattle.instrumentation_laws.specs.RegularUnits.{AreMeasured, number_for}
use Rattle.instrumentation_laws.proofs.Names.{same_word}
use Rattle.pass_laws.specs.Laws.{PassesCount, PassesArePieces, PiecesAreByTargets, UnitsHaveCounters, HaveRanks}
use Rattle.pass_laws.specs.Countable.{rank}
use Rattle.pass_laws.specs.Targets as all
use Rattle.pass_laws.proofs.Sites.{targets_many, targets_all_many}
use Rattle.pass_laws.proofs.Standing.{get_here}
use Rattle.guard_laws.specs.Forms.{HasForms}
use Rattle.unit_builder.specs.Parts.{array_piece, target_in, target_among, pass_to, pass_at}
use Rattle.sites.specs.Sites.{first_variable}
use Rattle.count_loops.specs.Assignments.{assignment_of}
use Rattle.count_loops.specs.Passes.{IsStart, IsUninspected, pass_of, list_of, scope_for, CountsOver, CountsUses}
use Rattle.count_loops.specs.declared.start.Start.{Start}
use Rattle.count_loops.specs.declared.start.Start.TheVariants.{Cell, Write}
use Rattle.count_loops.proofs.Uninspected.{array_below, uninspected}
use Rattle.count_loops.proofs.WriteSites.{StoresInto, write_stores}

-- ---- the target of an assignment, in two readings

among_is : (b : Bool) (n k : ℕ) (ps qs : List PlainExpr) (first other : Option PlainExpr) (t : PlainExpr) → length ps ≡ n → nat_lt k n ≡ b → (first ≡ Some t → all.target_in ps k ≡ t) → (other ≡ Some t → all.target_in qs (k - n) ≡ t) →
    cond b first other ≡ Some t → all.target_in (ps ++ qs) k ≡ t
among_is true n k ps qs first other t l e f g h = get_or_append_left ps qs (lit 0) k (let a = ltb-true k n e in omega arith) ∙ f h
among_is false n k ps qs first other t l e f g h = get_or-append_right ps qs n k (lit 0) l (ltb-false k n e) ∙ g h

mutual
  target_one : (s : PlainStmt) (k : ℕ) (t : PlainExpr) → target_in s k ≡ Some t → all.target_in (all.targets s) k ≡ t
  target_one (loop x lo rel hi body) k t h = target_all body k t h
  target_one (choice ts first other) k t h =
      among_is (nat_lt k (sites_all first)) (sites_all first) k (all.targets_all first) (all.targets_all other) (target_among first k) (target_among other (k - sites_all first)) t (targets_all_many first) refl
      (target_all first k t) (target_all other (k - sites_all first) t) h
  target_one (assign target op e) zero t h = (let f : (let o : Option PlainExpr = Some target in o) ≡ Some t = h in cc)
  target_one (assign target op e) (suc k) t h =
      let later : nat_eq (suc k) 0 ≡ false = ne_eqb (suc k) 0 (λ f. omega arith) in
      absurd (let f : (let o : Option PlainExpr = None in o) ≡ Some t = sym (ap (λ b. cond b (Some target) None) later) ∙ h in cc)
  target_one (table x len) k t h = absurd (let f : (let o : Option PlainExpr = None in o) ≡ Some t = h in cc)
  target_one begin k t h = absurd (let f : (let o : Option PlainExpr = None in o) ≡ Some t = h in cc)
  target_one (check x extent a) k t h = absurd (let f : (let o : Option PlainExpr = None in o) ≡ Some t = h in cc)
  target_one verdict k t h = absurd (let f : (let o : Option PlainExpr = None in o) ≡ Some t = h in cc)

  target_all : (ss : PlainStmts) (k : ℕ) (t : PlainExpr) → target_among ss k ≡ Some t → all.target_in (all.targets_all ss) k ≡ t
  target_all no_stmts k t h = absurd (let f : (let o : Option PlainExpr = None in o) ≡ Some t = h in cc)
  target_all (more_stmts s ss) k t h =
      among_is (nat_lt k (sites s)) (sites s) k (all.targets s) (all.targets_all ss) (target_in s k) (target_among ss (k - sites s)) t (targets_many s) refl (target_one s k t) (target_all ss (k - sites s) t) h

-- ---- the number of an array, by its name

apart_at : (y x : Word) (ps : List PlainParam) (a : ℕ) → list_any (bytes_eq y) (array_names ps) ≡ false → slice_get (arrays_in ps) a ≡ Some x → bytes_eq y x ≡ false
apart_at y x [] a h e = absurd (let f : (let o : Option Word = None in o) ≡ Some x = e in cc)
apart_at y x (int_param z ∷ ps) a h e = apart_at y x ps a h e
apart_at y x (array_param z constant es ∷ ps) zero h e = ap (bytes_eq y) (let f : (let o : Option Word = Some z in o) ≡ Some x = e in let g : x ≡ z = cc in g) ∙ (or_parts _ _ h).0
apart_at y x (array_param z constant es ∷ ps) (suc a) h e = apart_at y x ps a (or_parts _ _ h).1 e

pub number_at : (vs : Vars) (k : ℕ) (ps : List PlainParam) (a : ℕ) (x : Word) → AreMeasured vs ps → slice_get (arrays_in ps) a ≡ Some x → number_from k (array_names ps) x ≡ k + a
number_at vs k [] a x m e = absurd (let f : (let o : Option Word = None in o) ≡ Some x = e in cc)
number_at vs k (int_param z ∷ ps) a x m e = number_at vs k ps a x m e
number_at vs k (array_param z constant es ∷ ps) zero x m e =
    let same : z ≡ x = (let f : (let o : Option Word = Some z in o) ≡ Some x = e in cc) in
    cond-true _ _ _ (ap (bytes_eq z) (sym same) ∙ same_word z) ∙ (let h : k ≡ k + 0 = omega arith in h)
number_at vs k (array_param z constant es ∷ ps) (suc a) x m e =
    cond-false _ _ _ (apart_at z x ps a m.0 e) ∙ number_at vs (suc k) ps a x m.3 e ∙ (let h : suc k + a ≡ k + suc a = omega arith in h)

-- ---- the passes

values_many : (vs : Vars) (es : PlainExprs) → rank es ≡ length (values_of vs es)
values_many vs no_exprs = refl
values_many vs (more_exprs e es) = ap suc (values_many vs es)

-- what was made of the unit that a kernel shows
pub made_for : (r : Result (List Stmt) OutOfMemory) (seen source : TheUnit) (array : ℕ) (start : Start) → seen ≡ source → IfOk r (λ made. map stmt made ≡ pass_of (unit seen) array start) → IfOk r (λ made. map stmt made ≡ pass_of (unit source) array start)
made_for (Ok made) seen source array start same e = e ∙ ap (λ u. pass_of (unit u) array start) same
made_for (Err x) seen source array start same e = tt

module _ (count : PassesCount) (pieces : PiecesAreByTargets) (counters : UnitsHaveCounters) (u : PlainUnit) (forms : (i : PlainInputs) → Fit u i → HasForms u i) where
  abbrev number : Word → ℕ
  number = number_for u

  abbrev texts : Word → PlainExprs
  texts = extents_of u.params

  short : (i : PlainInputs) → IsSound u i → length (list_of u i) < 2 ^ 63
  short i sound =
      let few : length (accesses u i.ints (memory_for u i)) < 2 ^ 63 = sound.few in
      let a : length (untagged (list_of u i)) ≡ length (accesses u i.ints (memory_for u i)) = ap length (forms i sound.fit).listed in
      let b = length-map (list_of u i) (λ (t : Tagged). t.access) in
      omega arith

  passes : (i : PlainInputs) (fault : Option Upset) → IsSound u i → PassesArePieces (scope_for u i fault) (arrays_for u i.ints) number texts u.body (vars_of u.params i.ints) (list_of u i)
  passes i fault sound =
      let c = (forms i sound.fit).countable in
      count (scope_for u i fault) (arrays_for u i.ints) (memory_for u i) number texts u.body (vars_of u.params i.ints) (counters u) c.params c.countable (short i sound)

  -- of an assignment to a cell of an array that isn't inspected
  write_counts : (k : ℕ) (name : Word) → StoresInto u.body k name → inspects_all number (number name) u.body ≡ false → (i : PlainInputs) (fault : Option Upset) → IsSound u i → IsSitePiece (scope_for u i fault) (list_of u i) k (pass_at number u.body k)
  write_counts k name h plain i fault sound =
      let target : all.target_at u.body k ≡ cell name h.at = target_all u.body k (cell name h.at) h.target in
      let same : piece_at (site_pieces_all number texts u.body 0 u.body) k ≡ pass_at number u.body k = pieces number texts u.body k ∙ ap (site_piece number texts u.body k) target ∙ cond-false _ _ _ plain ∙ sym (ap (pass_to number u.body k) h.target) in
      subst (λ p. IsSitePiece (scope_for u i fault) (list_of u i) k p) same ((passes i fault sound).at_sites k (ap (all.is_inspected number u.body) target ∙ plain))

  -- of an array that isn't inspected
  cell_counts : (i : PlainInputs) (fault : Option Upset) → IsSound u i → (a : ℕ) → inspects_all number a u.body ≡ false → (before : List Array) (ps : List PlainParam) → before ++ arrays_of (vars_of u.params i.ints) ps ≡ arrays_for u i.ints →
      HaveRanks (arrays_with_extents ps) → length before ≤ a → a < length before + length (arrays_with_extents ps) →
      IsCellPiece (scope_for u i fault) (list_of u i) (vars_of u.params i.ints) (extents_at (arrays_for u i.ints) a) a (array_piece (cell_piece number u.body) a (length before) (arrays_with_extents ps))
  cell_counts i fault sound a plain before [] is ranks from below = absurd (omega arith)
  cell_counts i fault sound a plain before (int_param x ∷ ps) is ranks from below = cell_counts i fault sound a plain before ps is ranks from below
  cell_counts i fault sound a plain before (array_param x constant es ∷ ps) is ranks from below =
      let here : Array = record { name = x; constant = constant; extents = values_of (vars_of u.params i.ints) es } in
      let size : length (before ++ here ∷ []) ≡ suc (length before) = (let l = length-append before (here ∷ []) in omega arith) in
      chosen (nat_eq (length before) a) refl
      (λ differs. subst (λ n. IsCellPiece (scope_for u i fault) (list_of u i) (vars_of u.params i.ints) (extents_at (arrays_for u i.ints) a) a (array_piece (cell_piece number u.body) a n (arrays_with_extents ps))) size
      (cell_counts i fault sound a plain (before ++ here ∷ []) ps (append_assoc before (here ∷ []) (arrays_of (vars_of u.params i.ints) ps) ∙ is) ranks.1 (omega arith) (omega arith)))
    where
      chosen : (b : Bool) → nat_eq (length before) a ≡ b →
          ((length before ≡ a → ⊥) → IsCellPiece (scope_for u i fault) (list_of u i) (vars_of u.params i.ints) (extents_at (arrays_for u i.ints) a) a (array_piece (cell_piece number u.body) a (suc (length before)) (arrays_with_extents ps))) →
          IsCellPiece (scope_for u i fault) (list_of u i) (vars_of u.params i.ints) (extents_at (arrays_for u i.ints) a) a (cond b (cell_piece number u.body (length before) es) (array_piece (cell_piece number u.body) a (suc (length before)) (arrays_with_extents ps)))
      chosen true e rest =
          let same : length before ≡ a = eqb-true (length before) a e in
          let here : Array = record { name = x; constant = constant; extents = values_of (vars_of u.params i.ints) es } in
          let found : slice_get (arrays_for u i.ints) (length before) ≡ Some here = subst (λ l. slice_get l (length before) ≡ Some here) is (get_here before here (arrays_of (vars_of u.params i.ints) ps)) in
          let ranked : rank es ≡ length (extents_at (arrays_for u i.ints) (length before)) = values_many (vars_of u.params i.ints) es ∙ ap (λ o. length (extents_in o)) (sym found) in
          subst (λ n. IsCellPiece (scope_for u i fault) (list_of u i) (vars_of u.params i.ints) (extents_at (arrays_for u i.ints) n) n (cell_piece number u.body (length before) es)) same
          ((passes i fault sound).at_cells (length before) es (ap (λ n. inspects_all number n u.body) same ∙ plain) ranked ranks.0)
      chosen false e rest = rest (eqb-false (length before) a e)

  counts_over : (array : ℕ) (start : Start) → IsUninspected u array → IsStart u array start → (i : PlainInputs) (fault : Option Upset) → IsSound u i → CountsOver u array start (pass_of u array start) i fault
  counts_over array Cell h there i fault sound =
      let below = array_below u.params array h.name h.there in
      let ranks : HaveRanks (arrays_with_extents u.params) = (forms i sound.fit).countable.ranks in
      cell_counts i fault sound array (uninspected u i.ints array (forms i sound.fit).countable.countable h) [] u.params refl ranks (omega arith) (omega arith)
  counts_over array (Write site) h there i fault sound =
      write_counts (assignment_of u.body site.0) there.found.reach.name (write_stores u.body 1 (first_variable u) site.0 there.found there.there there.writes)
      (ap (λ n. inspects_all number n u.body) (number_at (vars_of u.params i.ints) 0 u.params array there.found.reach.name (forms i sound.fit).well_formed.arrays there.named ∙ (let e : 0 + array ≡ array = omega arith in e))
      ∙ uninspected u i.ints array (forms i sound.fit).countable.countable h) i fault sound

  pub counts_uses : (array : ℕ) (start : Start) → IsUninspected u array → IsStart u array start → CountsUses u array start (pass_of u array start)
  counts_uses array start h there = record {
    listed = λ i sound. (forms i sound.fit).listed;
    counts = λ i fault sound. counts_over array start h there i fault sound;
  }

  pub made_counts : (r : Result (List Stmt) OutOfMemory) (array : ℕ) (start : Start) → IsUninspected u array → IsStart u array start → IfOk r (λ made. map stmt made ≡ pass_of u array start) → IfOk r (λ made. CountsUses u array start (map stmt made))
  made_counts (Ok made) array start h there e = subst (CountsUses u array start) (sym e) (counts_uses array start h there)
  made_counts (Err x) array start h there e = tt
