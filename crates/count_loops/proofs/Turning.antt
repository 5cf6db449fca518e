-- A pass turns as its source.
use Rattle.std.proofs.Common.{◌≡◌, ℕ, suc, ◌+◌, ◌-◌, ◌<◌, ◌≤◌, Bool, true, false, cond, List, [], ◌∷◌, length, Option, Some, None, Result, Ok, Err, map, refl, sym, ap, ◌∙◌, subst, arith}
use Rattle.std.specs.Prelude.{IfOk, nat_eq, nat_lt, pos}
use Rattle.std.proofs.lemmas.Bool.{eqb-true, eqb-false}
use Rattle.c_tree.specs.Plain.{Word, PlainExpr, lit, var, cell, un, bin, cast, test, umin, umax, least, greatest, widen, big, PlainExprs, no_exprs, more_exprs, PlainStmt, loop, choice, assign, table, begin, check, verdict, PlainStmts, no_stmts, more_stmts, PlainUnit}
use Rattle.c_tree.specs.Trees.{stmt, stmts_of}
use Rattle.c_tree.specs.Values.{Vars}
use Rattle.c_tree.specs.Arrays.{Array, vars_of}
use Rattle.c_tree.specs.Instances.{sites, sites_all}
use Rattle.c_tree.specs.Inputs.{PlainInputs, arrays_for, Fit, IsSound}
use Rattle.c_tree.specs.Run.{turns, exec_all}
use Rattle.c_tree.specs.declared.memory.OutOfMemory.{OutOfMemory}
use Rattle.c_tree.specs.declared.stmt.Stmt.{Stmt}
use Rattle.instrumentation.specs.Guarded.{arrays_with_extents}
use Rattle.instrumentation.specs.Passes.{coordinates_from, cell_piece}
use Rattle.instrumentation_laws.specs.RegularUnits.{number_for}
use Rattle.instrumentation_laws.specs.Setting.{inspected_in}
use Rattle.guard_laws.specs.Forms.{HasForms}
use Rattle.guard_laws.specs.Guards.{PassesTurnAsSource}
use Rattle.pass_laws.specs.Going.{GoesTo, Turned}
use Rattle.pass_laws.specs.Countable.{IsAffine, AreAffine, AllHaveNoCells, IsTarget, IsCountable, AreCountable}
use Rattle.run_laws.specs.Sources.{HasNoCells}
use Rattle.sites.specs.Sites.{first_variable}
use Rattle.unit_builder.specs.Parts.{array_piece, target_in, target_among, pass_to, pass_at}
use Rattle.count_loops.specs.Assignments.{assignment_of}
use Rattle.count_loops.specs.Passes.{IsStart, IsUninspected, pass_of, scope_for, TurnsAsSource}
use Rattle.count_loops.proofs.Counted.{number_at}
use Rattle.count_loops.proofs.Uninspected.{array_below, uninspected}
use Rattle.count_loops.specs.declared.start.Start.{Start}
use Rattle.count_loops.specs.declared.start.Start.TheVariants.{Cell, Write}
use Rattle.count_loops.proofs.WriteSites.{StoresInto, write_stores}

-- ---- no cell stands in the subscripts of a target

affine_none : (e : PlainExpr) (vs : Vars) → IsAffine e vs → HasNoCells e
affine_none (lit n) vs h = tt
affine_none (var x) vs h = tt
affine_none (un op a) vs h = affine_none a vs h
affine_none (bin op a b) vs h = (affine_none a vs h.0, affine_none b vs h.1)
affine_none (least a b) vs h = (affine_none a vs h.0, affine_none b vs h.1)
affine_none (greatest a b) vs h = (affine_none a vs h.0, affine_none b vs h.1)
affine_none (cell x at) vs h = absurd h
affine_none (cast a) vs h = absurd h
affine_none (test rel a b) vs h = absurd h
affine_none (umin a b) vs h = absurd h
affine_none (umax a b) vs h = absurd h
affine_none (widen a) vs h = absurd h
affine_none (big high low) vs h = absurd h

affine_all_none : (es : PlainExprs) (vs : Vars) → AreAffine es vs → AllHaveNoCells es
affine_all_none no_exprs vs h = tt
affine_all_none (more_exprs e es) vs h = (affine_none e vs h.0, affine_all_none es vs h.1)

coordinates_none : (d : ℕ) (es : PlainExprs) → AllHaveNoCells (coordinates_from d es)
coordinates_none d no_exprs = tt
coordinates_none d (more_exprs e es) = (tt, coordinates_none (suc d) es)

module _ (arrays : List Array) (number : Word → ℕ) (x : Word) (at : PlainExprs) where
  either : (b : Bool) (first other : Option PlainExpr) → (first ≡ Some (cell x at) → AllHaveNoCells at) → (other ≡ Some (cell x at) → AllHaveNoCells at) →
      cond b first other ≡ Some (cell x at) → AllHaveNoCells at
  either true first other f g e = f e
  either false first other f g e = g e

  mutual
    target_none : (s : PlainStmt) (vs : Vars) (k : ℕ) → IsCountable arrays number s vs → target_in s k ≡ Some (cell x at) → AllHaveNoCells at
    target_none (loop y lo rel hi body) vs k h e = targets_none body ((y, pos 0) ∷ vs) k (h.3 (pos 0)) e
    target_none (choice ts first other) vs k h e =
        either (nat_lt k (sites_all first)) (target_among first k) (target_among other (k - sites_all first)) (λ f. targets_none first vs k h.1 f) (λ f. targets_none other vs (k - sites_all first) h.2 f) e
    target_none (assign t op v) vs k h e =
        either (nat_eq k 0) (Some t) None
        (λ f. let same : t ≡ cell x at = (let g : Some t ≡ Some (cell x at) = f in cc) in let i : IsTarget arrays number (cell x at) vs = subst (λ u. IsTarget arrays number u vs) same h.0 in affine_all_none at vs i.affine)
        (λ f. absurd (let g : None ≡ Some (cell x at) = f in cc)) e
    target_none (table y len) vs k h e = absurd h
    target_none begin vs k h e = absurd h
    target_none (check y extent a) vs k h e = absurd h
    target_none verdict vs k h e = absurd h

    targets_none : (ss : PlainStmts) (vs : Vars) (k : ℕ) → AreCountable arrays number ss vs → target_among ss k ≡ Some (cell x at) → AllHaveNoCells at
    targets_none no_stmts vs k h e = absurd (let g : None ≡ Some (cell x at) = e in cc)
    targets_none (more_stmts s ss) vs k h e =
        either (nat_lt k (sites s)) (target_in s k) (target_among ss (k - sites s)) (λ f. target_none s vs k h.0 f) (λ f. targets_none ss vs (k - sites s) h.1 f) e

-- ---- each pass turns

-- what holds of the piece of an array, whatever its extents are, holds of that among all
of_array : (P : List PlainStmt → Type 0) (cells : ℕ → PlainExprs → List PlainStmt) (k a : ℕ) (decls : List (Word × PlainExprs)) → ((es : PlainExprs) → P (cells a es)) → k ≤ a → a < k + length decls → P (array_piece cells a k decls)
of_array P cells k a [] f from below = absurd (omega arith)
of_array P cells k a (x ∷ more) f from below = chosen (nat_eq k a) refl (λ later last. of_array P cells (suc k) a more f later last)
  where
    chosen : (b : Bool) → nat_eq k a ≡ b → (suc k ≤ a → a < suc k + length more → P (array_piece cells a (suc k) more)) → P (cond b (cells k x.1) (array_piece cells a (suc k) more))
    chosen true same rest = subst (λ n. P (cells n x.1)) (sym (eqb-true k a same)) (f x.1)
    chosen false other rest = let differs : k ≡ a → ⊥ = eqb-false k a other in rest (omega arith) (omega arith)

module _ (u : PlainUnit) (turn : PassesTurnAsSource u) (forms : (i : PlainInputs) → Fit u i → HasForms u i) where
  -- no read of the array has an index cell, where any inputs fit
  abbrev IsPlain : ℕ → Type 0
  IsPlain a = (i : PlainInputs) → IsSound u i → inspected_in (number_for u) u.body a ≡ false

  cell_turns : (a : ℕ) (es : PlainExprs) → IsPlain a → TurnsAsSource u (cell_piece (number_for u) u.body a es)
  cell_turns a es plain = λ i fault base s sound place. turn i fault (record { array = a; at = coordinates_from 0 es }) None base s sound (plain i sound) (coordinates_none 0 es) place

  write_turns : (k : ℕ) (name : Word) → StoresInto u.body k name → IsPlain (number_for u name) → TurnsAsSource u (pass_at (number_for u) u.body k)
  write_turns k name h plain = λ i fault base s sound place.
      subst (λ t. GoesTo (Turned (turns u i) s) (exec_all (scope_for u i fault) (stmts_of (pass_to (number_for u) u.body k t)) base s)) (sym h.target)
      (turn i fault (record { array = number_for u name; at = h.at }) (Some k) base s sound (plain i sound)
      (targets_none (arrays_for u i.ints) (number_for u) name h.at u.body (vars_of u.params i.ints) k (forms i sound.fit).countable.countable h.target) place)

  pub turns_as_source : (array : ℕ) (start : Start) → IsUninspected u array → IsStart u array start → TurnsAsSource u (pass_of u array start)
  turns_as_source array Cell h there =
      let below = array_below u.params array h.name h.there in
      of_array (TurnsAsSource u) (cell_piece (number_for u) u.body) 0 array (arrays_with_extents u.params)
      (λ es. cell_turns array es (λ i sound. uninspected u i.ints array (forms i sound.fit).countable.countable h)) (omega arith) (omega arith)
  turns_as_source array (Write site) h there =
      write_turns (assignment_of u.body site.0) there.found.reach.name (write_stores u.body 1 (first_variable u) site.0 there.found there.there there.writes)
      (λ i sound. ap (λ n. inspected_in (number_for u) u.body n) (number_at (vars_of u.params i.ints) 0 u.params array there.found.reach.name (forms i sound.fit).well_formed.arrays there.named ∙ (let e : 0 + array ≡ array = omega arith in e))
      ∙ uninspected u i.ints array (forms i sound.fit).countable.countable h)

  pub made_turns : (r : Result (List Stmt) OutOfMemory) (array : ℕ) (start : Start) → IsUninspected u array → IsStart u array start → IfOk r (λ made. map stmt made ≡ pass_of u array start) → IfOk r (λ made. TurnsAsSource u (map stmt made))
  made_turns (Ok made) array start h there e = subst (TurnsAsSource u) (sym e) (turns_as_source array start h there)
  made_turns (Err x) array start h there e = tt
