-- The piece of the cells of an array counts the uses of each initial cell.
use Rattle.std.proofs.Common.{◌≡◌, ℕ, suc, ◌+◌, ◌<◌, ◌≤◌, ◌^◌, true, false, cond, List, [], ◌∷◌, ◌++◌, length, refl, sym, ap, ◌∙◌, arith, ℤ, None}
use Rattle.std.specs.Prelude.{bytes_eq}
use Rattle.std.proofs.lemmas.Bool.{cond-true, and_parts, false≢true}
use Rattle.c_tree.specs.Plain.{Word, PlainExprs, no_exprs, more_exprs, PlainStmts, no_stmts}
use Rattle.c_tree.specs.Trees.{stmts_of}
use Rattle.c_tree.specs.Values.{Vars, is_in, value_in}
use Rattle.c_tree.specs.Arrays.{Array, Memory, extents_at, is_within}
use Rattle.c_tree.specs.Accesses.{Access, Definition, same_definition, latest, uses}
use Rattle.c_tree.specs.Accesses.Definition.{Initial}
use Rattle.c_tree.specs.Instances.{Tagged, untagged}
use Rattle.c_tree.specs.Run.{State, goes_on, and_then, Scope, put, exec_all}
use Rattle.instrumentation.specs.Names.{coordinate, pass_variable, active, count, counter}
use Rattle.instrumentation.specs.Passes.{Target, set_word, coordinates_from, cell_piece}
use Rattle.instrumentation.specs.Inspects.{inspects_all}
use Rattle.instrumentation_laws.specs.AccessList.{signed_all}
use Rattle.instrumentation_laws.specs.IndexedList.{tagged_all}
use Rattle.instrumentation_laws.specs.PrologueTotals.{coordinate_vars}
use Rattle.instrumentation_laws.proofs.Names.{same_word, not_in, coordinate_apart, coordinate_not_own}
use Rattle.instrumentation_laws.proofs.CellLoops.{own_under}
use Rattle.balance_laws.proofs.Latest.{same_definition-true, same_definition_refl, IsLatest, latest_is}
use Rattle.balance_laws.proofs.Latest.IsLatest.{at_first, by_write}
use Rattle.pass_laws.specs.Countable.{AreOwn, AreAffine, AreCountable, rank}
use Rattle.pass_laws.specs.Going.{GoesTo, HasCounters}
use Rattle.pass_laws.proofs.Names.{not_among, variable_may_not, counter_may_not, own_all}
use Rattle.pass_laws.specs.Places.{IsPlace}
use Rattle.pass_laws.proofs.Renamed.{copied_vars, in_apart}
use Rattle.pass_laws.proofs.Counted.{IsPass, set_active}
use Rattle.pass_laws.proofs.Whole.{pass_counts}

-- ---- the place of a cell

-- a name that isn't one of these coordinates
kept_name : (d : ℕ) (cs : List ℤ) (vs : Vars) (x : Word) → ((j : ℕ) → d ≤ j → j < d + length cs → bytes_eq (coordinate j) x ≡ false) →
    (value_in (coordinate_vars d cs vs) x ≡ value_in vs x) × (is_in (coordinate_vars d cs vs) x ≡ is_in vs x)
kept_name d [] vs x h = (refl, refl)
kept_name d (c ∷ cs) vs x h =
    let r : (value_in (coordinate_vars (suc d) cs ((coordinate d, c) ∷ vs)) x ≡ value_in ((coordinate d, c) ∷ vs) x) × (is_in (coordinate_vars (suc d) cs ((coordinate d, c) ∷ vs)) x ≡ is_in ((coordinate d, c) ∷ vs) x) =
    kept_name (suc d) cs ((coordinate d, c) ∷ vs) x (λ j l m. h j (omega arith) (omega arith)) in
    let here : bytes_eq (coordinate d) x ≡ false = h d (omega arith) (omega arith) in
    (r.0 ∙ ap (λ b. cond b c (value_in vs x)) here, r.1 ∙ rw here refl)

pub place_cell : (cs : List ℤ) (params : Vars) → AreOwn params → IsPlace params (coordinate_vars 0 cs params)
place_cell cs params o = record {
  values = λ x h. (kept_name 0 cs params x (λ j l m. other x h j)).0;
  has = λ x h. (kept_name 0 cs params x (λ j l m. other x h j)).1 ∙ h;
  variables = λ d. not_in (coordinate_vars 0 cs params) (pass_variable d) (own_under cs 0 params (own_all params o)) (variable_may_not d);
  counter_free = not_in (coordinate_vars 0 cs params) counter (own_under cs 0 params (own_all params o)) counter_may_not;
}
  where
    other : (x : Word) → is_in params x ≡ true → (j : ℕ) → bytes_eq (coordinate j) x ≡ false
    other x h j = in_apart params x (coordinate j) h (not_among params (coordinate j) o (coordinate_not_own j))

-- the target of the pass is the cell of these coordinates
pub coordinates_are : (es : PlainExprs) (cs : List ℤ) (d : ℕ) (vs : Vars) → rank es ≡ length cs → d + length cs < 2 ^ 64 →
    AreAffine (coordinates_from d es) (coordinate_vars d cs vs) × (signed_all (coordinates_from d es) (coordinate_vars d cs vs) ≡ cs)
coordinates_are no_exprs [] d vs r l = (tt, refl)
coordinates_are no_exprs (c ∷ cs) d vs r l = absurd (omega arith)
coordinates_are (more_exprs e es) [] d vs r l = absurd (omega arith)
coordinates_are (more_exprs e es) (c ∷ cs) d vs r l =
    let env : Vars = coordinate_vars (suc d) cs ((coordinate d, c) ∷ vs) in
    let head : (value_in env (coordinate d) ≡ value_in ((coordinate d, c) ∷ vs) (coordinate d)) × (is_in env (coordinate d) ≡ is_in ((coordinate d, c) ∷ vs) (coordinate d)) =
    kept_name (suc d) cs ((coordinate d, c) ∷ vs) (coordinate d) (λ j a b. coordinate_apart j d (omega arith) (omega arith) (omega arith)) in
    let rest : AreAffine (coordinates_from (suc d) es) env × (signed_all (coordinates_from (suc d) es) env ≡ cs) = coordinates_are es cs (suc d) ((coordinate d, c) ∷ vs) (omega arith) (omega arith) in
    let same : bytes_eq (coordinate d) (coordinate d) ≡ true = same_word (coordinate d) in
    ((head.1 ∙ rw same refl, rest.0), ap (λ z. z ∷ signed_all (coordinates_from (suc d) es) env) (head.0 ∙ cond-true _ _ _ same) ∙ ap (λ l. c ∷ l) rest.1)

coordinates_rank : (d : ℕ) (es : PlainExprs) → rank (coordinates_from d es) ≡ rank es
coordinates_rank d no_exprs = refl
coordinates_rank d (more_exprs e es) = ap suc (coordinates_rank (suc d) es)

within_rank : (cs es : List ℤ) → is_within cs es ≡ true → length cs ≡ length es
within_rank [] [] h = refl
within_rank [] (e ∷ es) h = absurd (false≢true h)
within_rank (c ∷ cs) [] h = absurd (false≢true h)
within_rank (c ∷ cs) (e ∷ es) h = ap suc (within_rank cs es (and_parts _ _ h).1)

-- only its own cell has an initial value as its latest definition
owned_first : (list : List Access) (b n a : ℕ) (c cell : List ℤ) → (d : Definition) → IsLatest list b c n d → d ≡ Initial a cell → (b ≡ a) × (c ≡ cell)
owned_first list b n a c cell d (at_first q) h = (cc, cc)
owned_first list b n a c cell d (by_write i l w q) h = absurd cc

module _ (sc : Scope) (has : HasCounters sc.wides) (arrays : List Array) (number : Word → ℕ) (m : Memory) (body : PlainStmts) (params : Vars) (own_params : AreOwn params) (countable : AreCountable arrays number body params)
    (short : length (tagged_all arrays m number 0 body params) < 2 ^ 63) where
  abbrev whole : List Tagged
  whole = tagged_all arrays m number 0 body params

  pub cell_counts : (a : ℕ) (extents : PlainExprs) (cs : List ℤ) (s : State) → inspects_all number a body ≡ false → rank extents ≡ length (extents_at arrays a) → rank extents < 2 ^ 64 → is_within cs (extents_at arrays a) ≡ true →
      GoesTo (λ r. r.wides count ≡ uses (untagged whole) (Initial a cs)) (exec_all sc (stmts_of (cell_piece number body a extents)) (coordinate_vars 0 cs params) s)
  cell_counts a extents cs s u r f w =
      let long : length cs ≡ length (extents_at arrays a) = within_rank cs (extents_at arrays a) w in
      let target : Target = record { array = a; at = coordinates_from 0 extents } in
      let base : Vars = coordinate_vars 0 cs params in
      let here : AreAffine (coordinates_from 0 extents) base × (signed_all (coordinates_from 0 extents) base ≡ cs) = coordinates_are extents cs 0 params (r ∙ sym long) (omega arith) in
      let is_pass : IsPass sc arrays number whole params base target = record {
        has = has;
        short = short;
        place = place_cell cs params own_params;
        own_params = own_params;
        affine = here.0;
        ranked = coordinates_rank 0 extents ∙ r;
      } in
      pass_counts sc arrays number m body params base countable target u is_pass None (Initial a cs)
      (λ b n c h. let o : (b ≡ a) × (c ≡ cs) = owned_first (untagged whole) b n a c cs (latest (untagged whole) b c n) (latest_is (untagged whole) b c n) (same_definition-true _ _ h) in (o.0, o.1 ∙ sym here.1))
      (λ n u loops t g w e i o l. first_text loops base t)
      (sym (cond-true _ _ _ (ap (λ c. same_definition (Initial a c) (Initial a cs)) here.1 ∙ same_definition_refl (Initial a cs))))
      s
    where
      first_text : (loops base : Vars) (t : State) → exec_all sc (stmts_of (set_word active 0 ∷ [])) (copied_vars loops ++ base) t ≡ goes_on tt (record t { words = put t.words active 0 })
      first_text loops base t = ap (λ o. and_then o (λ u. exec_all sc no_stmts (copied_vars loops ++ base))) (set_active sc has 0 (copied_vars loops ++ base) t)
