-- The copy of a source keeps count: after the accesses gone over its two words say whether the definition stands in its
-- cell, and how often it was read.
use Rattle.std.proofs.Common.{◌≡◌, ℕ, suc, ◌+◌, ◌%◌, ◌<◌, ◌≤◌, ◌^◌, Bool, true, false, cond, ◌&&◌, ◌||◌, if◌then◌else◌, List, [], ◌∷◌, ◌++◌, length, map, refl, sym, ap, ◌∙◌, subst, arith, append_assoc, append-nil, nat_eq, ℤ, Option, Some, None}
use Rattle.std.specs.Prelude.{slice_get}
use Rattle.std.proofs.lemmas.Bool.{cond-true, cond-false, and_left, eqb-true, or_parts}
use Rattle.std.proofs.lemmas.List.{length_push, map-append}
use Rattle.c_tree.specs.Plain.{Word, PlainExpr, lit, var, cell, un, bin, cast, test, umin, umax, least, greatest, widen, big, PlainExprs, no_exprs, more_exprs, PlainStmt, choice, assign, no_stmts}
use Rattle.c_tree.specs.Trees.{stmts_of}
use Rattle.c_tree.specs.Values.{Vars}
use Rattle.c_tree.specs.Arrays.{Array, Memory, same_cell, extents_at}
use Rattle.c_tree.specs.Accesses.{Access, Definition, at, is_of, same_definition, latest, reads_from}
use Rattle.c_tree.specs.Accesses.Definition.{Written}
use Rattle.c_tree.specs.Instances.{Tagged, untagged}
use Rattle.c_tree.specs.Run.{State, goes_on, Scope, put, turn, exec, exec_all}
use Rattle.c_tree.specs.declared.expr.BinOp.{BinOp}
use Rattle.c_tree.specs.declared.expr.BinOp.TheVariants.{Add}
use Rattle.instrumentation.specs.Names.{active, counter}
use Rattle.instrumentation.specs.Body.{full}
use Rattle.instrumentation.specs.Inspects.{read_irregularly}
use Rattle.instrumentation.proofs.Subscripts.{cell_or_not, not_by_cell}
use Rattle.instrumentation.specs.Passes.{Target, renamed_all, set_word, count_cell, count_indices, count_reads, write_text, count_write}
use Rattle.instrumentation.specs.Passes.{same_cell as same_cell_tests}
use Rattle.pass_laws.specs.Countable.{AreOwn, AreAffine, IsCell, IsIndexed, AreIndexed, IsRead, IsData, IsTarget, rank}
use Rattle.instrumentation_laws.specs.AccessList.{signed_all, cell_access, cell_write, tag}
use Rattle.instrumentation_laws.specs.IndexedList.{coordinates_at, index_reads, read_access, all_reads}
use Rattle.pass_laws.specs.Going.{GoesTo, HasCounters}
use Rattle.instrumentation_laws.proofs.Names.{same_word}
use Rattle.pass_laws.proofs.Names.{active_counter, counter_active}
use Rattle.pass_laws.proofs.Going.{must_join, must_one}
use Rattle.pass_laws.specs.Places.{IsPlace}
use Rattle.pass_laws.proofs.Renamed.{names, copied_vars}
use Rattle.pass_laws.proofs.Steps.{target_is}
use Rattle.pass_laws.proofs.Uninspected.{read_plainly, plain_affine, all_indexed, plain_coordinates}
use Rattle.pass_laws.proofs.Standing.{get_here, access_here, below_here, live, counted, counted_le, counted_more, live_read, live_write, write_hit, read_hit}

-- ---- what a pass sets

pub set_active : (sc : Scope) → HasCounters sc.wides → (n : ℕ) (vs : Vars) (s : State) → exec sc (set_word active n) vs s ≡ goes_on tt (record s { words = put s.words active n })
set_active sc has n vs s = rw has.active_word refl

pub set_counter : (sc : Scope) → HasCounters sc.wides → (n : ℕ) (vs : Vars) (s : State) → exec sc (set_word counter n) vs s ≡ goes_on tt (record s { words = put s.words counter n })
set_counter sc has n vs s = rw has.counter_word refl

add_active : (sc : Scope) → HasCounters sc.wides → (vs : Vars) (s : State) →
    exec sc (assign (var counter) (Some Add) (var active)) vs s ≡ goes_on tt (record s { words = put s.words counter ((s.words counter + s.words active) % 2 ^ 64) })
add_active sc has vs s = rw has.counter_word refl

target_data : (arrays : List Array) (number : Word → ℕ) (t : PlainExpr) (vs : Vars) → IsTarget arrays number t vs → IsData arrays number t vs
target_data arrays number (var x) vs h = tt
target_data arrays number (cell x at) vs h = record { array = h.array; named = h.named; numbered = h.numbered; indexed = all_indexed arrays number at vs h.affine; ranked = h.ranked }
target_data arrays number (lit n) vs h = absurd h
target_data arrays number (un op a) vs h = absurd h
target_data arrays number (bin op a b) vs h = absurd h
target_data arrays number (cast a) vs h = absurd h
target_data arrays number (test rel a b) vs h = absurd h
target_data arrays number (umin a b) vs h = absurd h
target_data arrays number (umax a b) vs h = absurd h
target_data arrays number (least a b) vs h = absurd h
target_data arrays number (greatest a b) vs h = absurd h
target_data arrays number (widen a) vs h = absurd h
target_data arrays number (big high low) vs h = absurd h

-- the right side, with the target before it in a compound assignment
pub full_data : (arrays : List Array) (number : Word → ℕ) (t : PlainExpr) (op : Option BinOp) (e : PlainExpr) (vs : Vars) → IsTarget arrays number t vs → IsData arrays number e vs → IsData arrays number (full t op e) vs
full_data arrays number t None e vs h d = d
full_data arrays number t (Some op) e vs h d = (target_data arrays number t vs h, d)

-- the access of a cell at these coordinates
abbrev pub reached : (Word → ℕ) → Word → List ℤ → Bool → Access
reached number x c w = record { array = number x; cell = c; writes = w }

-- the pass of one definition, at its place
pub record IsPass (sc : Scope) (arrays : List Array) (number : Word → ℕ) (whole : List Tagged) (params base : Vars) (target : Target) : Type 0 where
  pub has : HasCounters sc.wides
  pub short : length whole < 2 ^ 63
  pub place : IsPlace params base
  pub own_params : AreOwn params
  pub affine : AreAffine target.at base
  pub ranked : rank target.at ≡ length (extents_at arrays target.array)

module _ (sc : Scope) (arrays : List Array) (number : Word → ℕ) (whole : List Tagged) (params base : Vars) (target : Target) (is_pass : IsPass sc arrays number whole params base target) (site : Option ℕ) (def : Definition) where
  abbrev list : List Access
  list = untagged whole

  abbrev place_cell : List ℤ
  place_cell = signed_all target.at base

  abbrev stands : ℕ → Bool
  stands = live list target.array place_cell def

  abbrev so_far : ℕ → ℕ
  so_far = counted list target.array place_cell def

  -- after the pass went over n accesses
  pub record PassAt (n : ℕ) (s : State) : Type 0 where
    pub active_is : s.words active ≡ cond (stands n) 1 0
    pub counter_is : s.words counter ≡ so_far n

  pub turn_keeps : (n : ℕ) (s : State) → PassAt n s → GoesTo (PassAt n) (turn s)
  turn_keeps n s p = chosen s.begun
    where
      chosen : (b : Bool) → PassAt n (cond b (record s { body_turns = s.body_turns + 1 }) (record s { prologue_turns = s.prologue_turns + 1 }))
      chosen true = record { active_is = p.active_is; counter_is = p.counter_is }
      chosen false = record { active_is = p.active_is; counter_is = p.counter_is }

  module _ (m : Memory) (owned : (b n : ℕ) (c : List ℤ) → same_definition (latest list b c n) def ≡ true → (b ≡ target.array) × (c ≡ place_cell))
      (mine : (n : ℕ) (t : Tagged) (loops : Vars) (s : State) → slice_get whole n ≡ Some t → t.access.writes ≡ true → t.vars ≡ loops ++ params → is_of t.access target.array place_cell ≡ true → AreOwn loops → length (names loops) < 2 ^ 64 →
      exec_all sc (stmts_of (write_text site (names loops) t.site)) (copied_vars loops ++ base) s ≡ goes_on tt (record s { words = put s.words active (cond (same_definition (Written n) def) 1 0) })) where
    module _ (loops : Vars) (own_loops : AreOwn loops) (shallow : length (names loops) < 2 ^ 64) where
      abbrev env : Vars
      env = copied_vars loops ++ base

      -- a cell that has the target's number has its rank
      same_rank : (x : Word) (at : PlainExprs) → IsCell arrays number x at (loops ++ params) → nat_eq (number x) target.array ≡ true → rank at ≡ rank target.at
      same_rank x at h e = h.ranked ∙ ap (λ a. length (extents_at arrays a)) (eqb-true _ _ e) ∙ sym is_pass.ranked

      -- what is known of a cell at these coordinates, where it is of the target's array
      abbrev Plain : Word → PlainExprs → List ℤ → Type 0
      Plain x at' c = nat_eq (number x) target.array ≡ true → AreAffine at' (loops ++ params) × (c ≡ signed_all at' (loops ++ params)) × (rank at' ≡ rank target.at)

      cell_plain : (x : Word) (at' : PlainExprs) → IsCell arrays number x at' (loops ++ params) → Plain x at' (signed_all at' (loops ++ params))
      cell_plain x at' h e = (h.affine, refl, same_rank x at' h e)

      read_plain : (x : Word) (at' : PlainExprs) → IsRead arrays number x at' (loops ++ params) → read_irregularly number target.array (cell x at') ≡ false → Plain x at' (coordinates_at arrays m at' (loops ++ params))
      read_plain x at' h u e =
          let affine : AreAffine at' (loops ++ params) = plain_affine arrays number at' (loops ++ params) h.indexed (read_plainly number target.array x at' u e) in
          (affine, plain_coordinates arrays m at' (loops ++ params) affine, h.ranked ∙ ap (λ a. length (extents_at arrays a)) (eqb-true _ _ e) ∙ sym is_pass.ranked)

      -- a text for the target's cell alone
      cell_step : (P : State → Type 0) (x : Word) (at' : PlainExprs) (c : List ℤ) (w : Bool) (inner : List PlainStmt) (s : State) → Plain x at' c →
          (is_of (reached number x c w) target.array place_cell ≡ true → GoesTo P (exec_all sc (stmts_of inner) env s)) →
          (is_of (reached number x c w) target.array place_cell ≡ false → P s) →
          GoesTo P (exec_all sc (stmts_of (if nat_eq (number x) target.array then choice (same_cell_tests (renamed_all (names loops) at') target.at) (stmts_of inner) no_stmts ∷ [] else [])) env s)
      cell_step P x at' c w inner s known on off = chosen (nat_eq (number x) target.array) refl
        where
          branch : (b : Bool) → (b ≡ true → GoesTo P (exec_all sc (stmts_of inner) env s)) → (b ≡ false → P s) → GoesTo P (cond b (exec_all sc (stmts_of inner) env s) (exec_all sc no_stmts env s))
          branch true f g = f refl
          branch false f g = g refl

          chosen : (b : Bool) → nat_eq (number x) target.array ≡ b →
              GoesTo P (exec_all sc (stmts_of (cond b (choice (same_cell_tests (renamed_all (names loops) at') target.at) (stmts_of inner) no_stmts ∷ []) [])) env s)
          chosen true e =
              let k : AreAffine at' (loops ++ params) × (c ≡ signed_all at' (loops ++ params)) × (rank at' ≡ rank target.at) = known e in
              let same : is_of (reached number x c w) target.array place_cell ≡ same_cell (signed_all at' (loops ++ params)) place_cell = ap (λ b. b && same_cell c place_cell) e ∙ ap (λ d. same_cell d place_cell) k.1 in
              must_one sc P (choice (same_cell_tests (renamed_all (names loops) at') target.at) (stmts_of inner) no_stmts) env s
              (subst (GoesTo P)
              (sym (target_is sc params base is_pass.place is_pass.own_params loops own_loops shallow at' target.at (stmts_of inner) no_stmts s _ k.0 is_pass.affine k.2 refl))
              (branch (same_cell (signed_all at' (loops ++ params)) place_cell) (λ g. on (same ∙ g)) (λ g. off (same ∙ g))))
          chosen false e = off (ap (λ b. b && same_cell c place_cell) e)

      -- one read
      read_step : (x : Word) (at' : PlainExprs) (c : List ℤ) (n : ℕ) (s : State) → Plain x at' c → n < length whole →
          at list n ≡ reached number x c false → PassAt n s →
          GoesTo (PassAt (suc n)) (exec_all sc (stmts_of (count_cell number target (names loops) x at')) env s)
      read_step x at' c n s h l here p = cell_step (PassAt (suc n)) x at' c false (assign (var counter) (Some Add) (var active) ∷ []) s h on off
        where
          stay : stands (suc n) ≡ stands n
          stay = live_read list target.array place_cell def n (reached number x c false) here refl

          off : is_of (reached number x c false) target.array place_cell ≡ false → PassAt (suc n) s
          off e =
              let same : so_far (suc n) ≡ so_far n + 0 = counted_more list target.array place_cell def n false (read_hit list target.array place_cell def owned n (reached number x c false) here refl ∙ and_left _ _ e) in
              let k : so_far n + 0 ≡ so_far n = omega arith in
              record {
                active_is = p.active_is ∙ sym (ap (λ b. cond b 1 0) stay);
                counter_is = p.counter_is ∙ sym (same ∙ k);
              }

          -- the counter grows where the definition stands in the cell
          grown : is_of (reached number x c false) target.array place_cell ≡ true → PassAt (suc n) (record s { words = put s.words counter ((s.words counter + s.words active) % 2 ^ 64) })
          grown e =
              let found : reads_from list def n ≡ stands n = read_hit list target.array place_cell def owned n (reached number x c false) here refl ∙ ap (λ b. b && stands n) e in
              let more : so_far (suc n) ≡ so_far n + cond (stands n) 1 0 = counted_more list target.array place_cell def n (stands n) found in
              let few : so_far (suc n) ≤ suc n = counted_le list target.array place_cell def (suc n) in
              let small : length whole < 2 ^ 63 = is_pass.short in
              let k : so_far (suc n) % 2 ^ 64 ≡ so_far (suc n) = omega arith in
              record {
                active_is = cond-false _ _ _ counter_active ∙ p.active_is ∙ sym (ap (λ b. cond b 1 0) stay);
                counter_is = cond-true _ _ _ (same_word counter) ∙ ap (λ k. k % 2 ^ 64) (ap (λ k. k + s.words active) p.counter_is ∙ ap (λ k. so_far n + k) p.active_is ∙ sym more) ∙ k;
              }

          on : is_of (reached number x c false) target.array place_cell ≡ true → GoesTo (PassAt (suc n)) (exec_all sc (stmts_of (assign (var counter) (Some Add) (var active) ∷ [])) env s)
          on e = must_one sc (PassAt (suc n)) (assign (var counter) (Some Add) (var active)) env s (subst (GoesTo (PassAt (suc n))) (sym (add_active sc is_pass.has env s)) (grown e))

      -- texts in a row, over accesses in a row
      both_steps : (k : ℕ) (ls ms : List Access) (xs ys : List PlainStmt) (pre rest : List Tagged) (s : State) →
          pre ++ (map (tag k (loops ++ params)) (ls ++ ms) ++ rest) ≡ whole →
          (pre ++ (map (tag k (loops ++ params)) ls ++ (map (tag k (loops ++ params)) ms ++ rest)) ≡ whole → PassAt (length pre) s →
          GoesTo (PassAt (length (pre ++ map (tag k (loops ++ params)) ls))) (exec_all sc (stmts_of xs) env s)) →
          ((pre : List Tagged) (s : State) → pre ++ (map (tag k (loops ++ params)) ms ++ rest) ≡ whole → PassAt (length pre) s →
          GoesTo (PassAt (length (pre ++ map (tag k (loops ++ params)) ms))) (exec_all sc (stmts_of ys) env s)) →
          PassAt (length pre) s →
          GoesTo (PassAt (length (pre ++ map (tag k (loops ++ params)) (ls ++ ms)))) (exec_all sc (stmts_of (xs ++ ys)) env s)
      both_steps k ls ms xs ys pre rest s is first second p =
          let ra : List Tagged = map (tag k (loops ++ params)) ls in
          let rb : List Tagged = map (tag k (loops ++ params)) ms in
          let split : map (tag k (loops ++ params)) (ls ++ ms) ≡ ra ++ rb = map-append (tag k (loops ++ params)) ls ms in
          let is2 : pre ++ (ra ++ (rb ++ rest)) ≡ whole = ap (λ l. pre ++ l) (sym (append_assoc ra rb rest) ∙ ap (λ l. l ++ rest) (sym split)) ∙ is in
          subst (λ l. GoesTo (PassAt (length l)) (exec_all sc (stmts_of (xs ++ ys)) env s)) (append_assoc pre ra rb ∙ ap (λ l. pre ++ l) (sym split))
          (must_join sc (PassAt (length (pre ++ ra))) (PassAt (length ((pre ++ ra) ++ rb))) xs ys env s
          (first is2 p) (λ t q. second (pre ++ ra) t (append_assoc pre ra (rb ++ rest) ∙ is2) q))

      one_read : (k : ℕ) (x : Word) (at' : PlainExprs) (c : List ℤ) (pre rest : List Tagged) (s : State) → Plain x at' c →
          pre ++ (map (tag k (loops ++ params)) (reached number x c false ∷ []) ++ rest) ≡ whole → PassAt (length pre) s →
          GoesTo (PassAt (length (pre ++ map (tag k (loops ++ params)) (reached number x c false ∷ [])))) (exec_all sc (stmts_of (count_cell number target (names loops) x at')) env s)
      one_read k x at' c pre rest s known is p =
          let t : Tagged = tag k (loops ++ params) (reached number x c false) in
          let size : length (pre ++ t ∷ []) ≡ suc (length pre) = (let q = length_push pre t in omega arith) in
          subst (λ k. GoesTo (PassAt k) (exec_all sc (stmts_of (count_cell number target (names loops) x at')) env s)) (sym size)
          (read_step x at' c (length pre) s known (below_here whole pre t rest is) (access_here whole pre t rest is) p)

      -- the index cells of a cell
      indices_step : (k : ℕ) (at' : PlainExprs) (pre rest : List Tagged) (s : State) → AreIndexed arrays number at' (loops ++ params) →
          pre ++ (map (tag k (loops ++ params)) (index_reads number at' (loops ++ params)) ++ rest) ≡ whole → PassAt (length pre) s →
          GoesTo (PassAt (length (pre ++ map (tag k (loops ++ params)) (index_reads number at' (loops ++ params))))) (exec_all sc (stmts_of (count_indices number target (names loops) at')) env s)
      indices_step k no_exprs pre rest s h is p = subst (λ l. PassAt (length l) s) (sym (append-nil pre)) p
      indices_step k (more_exprs e es) pre rest s h is p =
          cell_or_not (λ e. IsIndexed arrays number e (loops ++ params) → pre ++ (map (tag k (loops ++ params)) (index_reads number (more_exprs e es) (loops ++ params)) ++ rest) ≡ whole →
          GoesTo (PassAt (length (pre ++ map (tag k (loops ++ params)) (index_reads number (more_exprs e es) (loops ++ params))))) (exec_all sc (stmts_of (count_indices number target (names loops) (more_exprs e es))) env s))
          (λ x at' h' is'.
          both_steps k (cell_access number x at' (loops ++ params) false ∷ []) (index_reads number es (loops ++ params)) (count_cell number target (names loops) x at') (count_indices number target (names loops) es) pre rest s is'
          (λ is p. one_read k x at' (signed_all at' (loops ++ params)) pre (map (tag k (loops ++ params)) (index_reads number es (loops ++ params)) ++ rest) s (cell_plain x at' h') is p)
          (λ pre s is p. indices_step k es pre rest s h.1 is p) p)
          (λ e' other h' is'.
          let list_is : index_reads number (more_exprs e' es) (loops ++ params) ≡ index_reads number es (loops ++ params) =
          not_by_cell e' (λ p at. cell_access number p at (loops ++ params) false ∷ index_reads number es (loops ++ params)) (index_reads number es (loops ++ params)) other in
          let text_is : count_indices number target (names loops) (more_exprs e' es) ≡ count_indices number target (names loops) es =
          not_by_cell e' (λ x at. count_cell number target (names loops) x at ++ count_indices number target (names loops) es) (count_indices number target (names loops) es) other in
          subst (λ (l : List Access). GoesTo (PassAt (length (pre ++ map (tag k (loops ++ params)) l))) (exec_all sc (stmts_of (count_indices number target (names loops) (more_exprs e' es))) env s)) (sym list_is)
          (subst (λ (l : List PlainStmt). GoesTo (PassAt (length (pre ++ map (tag k (loops ++ params)) (index_reads number es (loops ++ params))))) (exec_all sc (stmts_of l) env s)) (sym text_is)
          (indices_step k es pre rest s h.1 (subst (λ (l : List Access). pre ++ (map (tag k (loops ++ params)) l ++ rest) ≡ whole) list_is is') p)))
          e h.0 is

      -- the reads of two expressions in a row
      two_reads : (k : ℕ) (a b : PlainExpr) (pre rest : List Tagged) (s : State) → (read_irregularly number target.array a || read_irregularly number target.array b) ≡ false →
          pre ++ (map (tag k (loops ++ params)) (all_reads arrays m number a (loops ++ params) ++ all_reads arrays m number b (loops ++ params)) ++ rest) ≡ whole →
          (read_irregularly number target.array a ≡ false → pre ++ (map (tag k (loops ++ params)) (all_reads arrays m number a (loops ++ params)) ++ (map (tag k (loops ++ params)) (all_reads arrays m number b (loops ++ params)) ++ rest)) ≡ whole → PassAt (length pre) s →
          GoesTo (PassAt (length (pre ++ map (tag k (loops ++ params)) (all_reads arrays m number a (loops ++ params))))) (exec_all sc (stmts_of (count_reads number target (names loops) a)) env s)) →
          (read_irregularly number target.array b ≡ false → (pre : List Tagged) (s : State) → pre ++ (map (tag k (loops ++ params)) (all_reads arrays m number b (loops ++ params)) ++ rest) ≡ whole → PassAt (length pre) s →
          GoesTo (PassAt (length (pre ++ map (tag k (loops ++ params)) (all_reads arrays m number b (loops ++ params))))) (exec_all sc (stmts_of (count_reads number target (names loops) b)) env s)) →
          PassAt (length pre) s →
          GoesTo (PassAt (length (pre ++ map (tag k (loops ++ params)) (all_reads arrays m number a (loops ++ params) ++ all_reads arrays m number b (loops ++ params)))))
          (exec_all sc (stmts_of (count_reads number target (names loops) a ++ count_reads number target (names loops) b)) env s)
      two_reads k a b pre rest s u is first second p =
          let both : (read_irregularly number target.array a ≡ false) × (read_irregularly number target.array b ≡ false) = or_parts _ _ u in
          both_steps k (all_reads arrays m number a (loops ++ params)) (all_reads arrays m number b (loops ++ params)) (count_reads number target (names loops) a) (count_reads number target (names loops) b) pre rest s is
          (first both.0) (second both.1) p

      -- the reads of an expression
      reads_step : (k : ℕ) (e : PlainExpr) (pre rest : List Tagged) (s : State) → IsData arrays number e (loops ++ params) → read_irregularly number target.array e ≡ false →
          pre ++ (map (tag k (loops ++ params)) (all_reads arrays m number e (loops ++ params)) ++ rest) ≡ whole → PassAt (length pre) s →
          GoesTo (PassAt (length (pre ++ map (tag k (loops ++ params)) (all_reads arrays m number e (loops ++ params))))) (exec_all sc (stmts_of (count_reads number target (names loops) e)) env s)
      reads_step k (lit n) pre rest s d u is p = subst (λ l. PassAt (length l) s) (sym (append-nil pre)) p
      reads_step k (var x) pre rest s d u is p = subst (λ l. PassAt (length l) s) (sym (append-nil pre)) p
      reads_step k (cell x at') pre rest s d u is p =
          both_steps k (index_reads number at' (loops ++ params)) (read_access arrays m number x at' (loops ++ params) ∷ []) (count_indices number target (names loops) at') (count_cell number target (names loops) x at') pre rest s is
          (λ is p. indices_step k at' pre (map (tag k (loops ++ params)) (read_access arrays m number x at' (loops ++ params) ∷ []) ++ rest) s d.indexed is p)
          (λ pre s is p. one_read k x at' (coordinates_at arrays m at' (loops ++ params)) pre rest s (read_plain x at' d u) is p) p
      reads_step k (un op a) pre rest s d u is p = reads_step k a pre rest s d u is p
      reads_step k (bin op a b) pre rest s d u is p = two_reads k a b pre rest s u is (λ w is p. reads_step k a pre _ s d.0 w is p) (λ w pre s is p. reads_step k b pre rest s d.1 w is p) p
      reads_step k (cast a) pre rest s d u is p = reads_step k a pre rest s d u is p
      reads_step k (test rel a b) pre rest s d u is p = two_reads k a b pre rest s u is (λ w is p. reads_step k a pre _ s d.0 w is p) (λ w pre s is p. reads_step k b pre rest s d.1 w is p) p
      reads_step k (umin a b) pre rest s d u is p = two_reads k a b pre rest s u is (λ w is p. reads_step k a pre _ s d.0 w is p) (λ w pre s is p. reads_step k b pre rest s d.1 w is p) p
      reads_step k (umax a b) pre rest s d u is p = two_reads k a b pre rest s u is (λ w is p. reads_step k a pre _ s d.0 w is p) (λ w pre s is p. reads_step k b pre rest s d.1 w is p) p
      reads_step k (least a b) pre rest s d u is p = absurd d
      reads_step k (greatest a b) pre rest s d u is p = absurd d
      reads_step k (widen a) pre rest s d u is p = absurd d
      reads_step k (big high low) pre rest s d u is p = absurd d

      -- one write
      write_step : (k : ℕ) (x : Word) (at' : PlainExprs) (pre rest : List Tagged) (s : State) → IsCell arrays number x at' (loops ++ params) →
          pre ++ tag k (loops ++ params) (cell_access number x at' (loops ++ params) true) ∷ rest ≡ whole → PassAt (length pre) s →
          GoesTo (PassAt (suc (length pre))) (exec_all sc (stmts_of (count_write number target site (names loops) k (cell x at'))) env s)
      write_step k x at' pre rest s h is p = cell_step (PassAt (suc (length pre))) x at' (signed_all at' (loops ++ params)) true (write_text site (names loops) k) s (cell_plain x at' h) on off
        where
          here : at list (length pre) ≡ cell_access number x at' (loops ++ params) true
          here = access_here whole pre (tag k (loops ++ params) (cell_access number x at' (loops ++ params) true)) rest is

          same : so_far (suc (length pre)) ≡ so_far (length pre)
          same =
              let a = counted_more list target.array place_cell def (length pre) false (write_hit list target.array place_cell def (length pre) (cell_access number x at' (loops ++ params) true) here refl) in
              let b : so_far (length pre) + 0 ≡ so_far (length pre) = omega arith in
              a ∙ b

          next : stands (suc (length pre)) ≡ cond (is_of (cell_access number x at' (loops ++ params) true) target.array place_cell) (same_definition (Written (length pre)) def) (stands (length pre))
          next = live_write list target.array place_cell def (length pre) (cell_access number x at' (loops ++ params) true) here refl

          off : is_of (cell_access number x at' (loops ++ params) true) target.array place_cell ≡ false → PassAt (suc (length pre)) s
          off e = record {
            active_is = p.active_is ∙ sym (ap (λ b. cond b 1 0) (next ∙ cond-false _ _ _ e));
            counter_is = p.counter_is ∙ sym same;
          }

          written : is_of (cell_access number x at' (loops ++ params) true) target.array place_cell ≡ true →
              PassAt (suc (length pre)) (record s { words = put s.words active (cond (same_definition (Written (length pre)) def) 1 0) })
          written e = record {
            active_is = cond-true _ _ _ (same_word active) ∙ sym (ap (λ b. cond b 1 0) (next ∙ cond-true _ _ _ e));
            counter_is = cond-false _ _ _ active_counter ∙ p.counter_is ∙ sym same;
          }

          on : is_of (cell_access number x at' (loops ++ params) true) target.array place_cell ≡ true → GoesTo (PassAt (suc (length pre))) (exec_all sc (stmts_of (write_text site (names loops) k)) env s)
          on e = subst (GoesTo (PassAt (suc (length pre))))
              (sym (mine (length pre) (tag k (loops ++ params) (cell_access number x at' (loops ++ params) true)) loops s
              (subst (λ l. slice_get l (length pre) ≡ Some (tag k (loops ++ params) (cell_access number x at' (loops ++ params) true))) is (get_here pre (tag k (loops ++ params) (cell_access number x at' (loops ++ params) true)) rest))
              refl refl e own_loops shallow))
              (written e)

      -- an assignment: its reads and then its write
      target_step : (k : ℕ) (t : PlainExpr) (pre rest : List Tagged) (s : State) → IsTarget arrays number t (loops ++ params) →
          pre ++ (map (tag k (loops ++ params)) (cell_write number t (loops ++ params)) ++ rest) ≡ whole → PassAt (length pre) s →
          GoesTo (PassAt (length (pre ++ map (tag k (loops ++ params)) (cell_write number t (loops ++ params))))) (exec_all sc (stmts_of (count_write number target site (names loops) k t)) env s)
      target_step k (var x) pre rest s h is p = subst (λ l. PassAt (length l) s) (sym (append-nil pre)) p
      target_step k (cell x at') pre rest s h is p =
          let t : Tagged = tag k (loops ++ params) (cell_access number x at' (loops ++ params) true) in
          let size : length (pre ++ t ∷ []) ≡ suc (length pre) = (let q = length_push pre t in omega arith) in
          subst (λ j. GoesTo (PassAt j) (exec_all sc (stmts_of (count_write number target site (names loops) k (cell x at'))) env s)) (sym size)
          (write_step k x at' pre rest s h is p)
      target_step k (lit n) pre rest s h is p = absurd h
      target_step k (un op a) pre rest s h is p = absurd h
      target_step k (bin op a b) pre rest s h is p = absurd h
      target_step k (cast a) pre rest s h is p = absurd h
      target_step k (test rel a b) pre rest s h is p = absurd h
      target_step k (umin a b) pre rest s h is p = absurd h
      target_step k (umax a b) pre rest s h is p = absurd h
      target_step k (least a b) pre rest s h is p = absurd h
      target_step k (greatest a b) pre rest s h is p = absurd h
      target_step k (widen a) pre rest s h is p = absurd h
      target_step k (big high low) pre rest s h is p = absurd h

      pub assign_step : (k : ℕ) (t : PlainExpr) (op : Option BinOp) (e : PlainExpr) (pre rest : List Tagged) (s : State) → IsTarget arrays number t (loops ++ params) → IsData arrays number e (loops ++ params) →
          read_irregularly number target.array (full t op e) ≡ false →
          pre ++ (map (tag k (loops ++ params)) (all_reads arrays m number (full t op e) (loops ++ params) ++ cell_write number t (loops ++ params)) ++ rest) ≡ whole → PassAt (length pre) s →
          GoesTo (PassAt (length (pre ++ map (tag k (loops ++ params)) (all_reads arrays m number (full t op e) (loops ++ params) ++ cell_write number t (loops ++ params)))))
          (exec_all sc (stmts_of (count_reads number target (names loops) (full t op e) ++ count_write number target site (names loops) k t)) env s)
      assign_step k t op e pre rest s h d u is p =
          both_steps k (all_reads arrays m number (full t op e) (loops ++ params)) (cell_write number t (loops ++ params)) (count_reads number target (names loops) (full t op e)) (count_write number target site (names loops) k t) pre rest s is
          (λ is p. reads_step k (full t op e) pre (map (tag k (loops ++ params)) (cell_write number t (loops ++ params)) ++ rest) s (full_data arrays number t op e (loops ++ params) h d) u is p)
          (λ pre s is p. target_step k t pre rest s h is p) p
