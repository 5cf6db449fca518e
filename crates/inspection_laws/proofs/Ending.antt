-- The second walk from any inputs: it ends exactly at the first miss.
use Rattle.std.proofs.Common.{◌≡◌, ℕ, suc, ◌+◌, ◌%◌, ◌^◌, ◌<◌, ◌≤◌, Bool, true, false, cond, ◌||◌, if◌then◌else◌, List, [], ◌∷◌, ◌++◌, length, replicate, flat_map, sum_by, ◌*◌, refl, sym, ap, ◌∙◌, subst, arith, append-nil, nat_eq, nat_lt, ℤ, Option, None, true≢false}
use Rattle.std.specs.Prelude.{bytes_eq, codes, slice_index, slice_set}
use Rattle.std.specs.List.{list_any}
use Rattle.std.proofs.lemmas.Bool.{eqb-true}
use Rattle.c_tree.specs.Plain.{Word, PlainExpr, lit, var, cell, un, bin, cast, test, umin, umax, least, greatest, widen, big, PlainExprs, no_exprs, more_exprs, PlainStmt, loop, choice, assign, table, begin, check, verdict, PlainStmts, no_stmts, more_stmts}
use Rattle.c_tree.specs.Trees.{stmts_of}
use Rattle.c_tree.specs.Values.{Vars, signed, as_word, word_bin, loop_values}
use Rattle.c_tree.specs.declared.expr.BinOp.{BinOp}
use Rattle.c_tree.specs.declared.expr.BinOp.TheVariants.{Add, Sub}
use Rattle.c_tree.specs.Arrays.{Array, Memory, array_named, is_within, size_of}
use Rattle.c_tree.specs.Fault.{Upset}
use Rattle.c_tree.specs.Instances.{word_at}
use Rattle.c_tree.specs.Run.{State, End, Outcome, goes_on, ends, outside, index, Run, ◌>>=◌, and_then, done, end_as, Scope, loads, within, by_array, put, word, coordinates, first_word, make_table, turn, over, exec, exec_all}
use Rattle.c_tree.specs.Run as run
use Rattle.instrumentation.specs.Names.{pass_variable}
use Rattle.instrumentation.specs.Body.{full}
use Rattle.instrumentation.specs.Passes.{renamed, renamed_all, renamed_tests}
use Rattle.instrumentation_laws.specs.RegularSources.{IsSilent}
use Rattle.instrumentation_laws.specs.OwnNames.{begins}
use Rattle.instrumentation_laws.specs.AccessList.{signed_all, tests_hold}
use Rattle.instrumentation_laws.specs.Setting.{scope_of}
use Rattle.instrumentation_laws.proofs.Steps.{exec_join, exec_one, set_is, set_value, regular_at}
use Rattle.instrumentation_laws.proofs.Names.{same_word, apart_as}
use Rattle.pass_laws.specs.Countable.{AreOwn, IsAffine, AreAffine, rank}
use Rattle.pass_laws.specs.Turns.{turns, turns_all}
use Rattle.std.proofs.lemmas.List.Sums.{sum_by-cons}
use Rattle.pass_laws.specs.Places.{IsPlace}
use Rattle.pass_laws.proofs.Renamed.{names, copied_vars, affine_renamed_all, signed_renamed_all}
use Rattle.instrumentation.specs.Subscripts.{by_cell, is_cell}
use Rattle.instrumentation.specs.Names.{index_word, written, current, counts}
use Rattle.instrumentation.specs.Tables.{one, cells_of, row_of, words_at, walk, walk_all, index_words, word_checks, count_current, inspect_cell, inspect_indices, inspect_reads, one_more, set_current, no_reads, count_writes, number_writes, build}
use Rattle.instrumentation.specs.Passes.{set_word as set_word_text}
use Rattle.inspection_laws.specs.Walked.{is_scratch, IsKnown, IsWalkedAt, AreWalkedAt, IsWalkedData, IsWalkedTarget, IsWalked, AreWalked, AreSized, HasTables, Keeps}
use Rattle.inspection_laws.specs.Misses.{outside_of, index_misses, check_misses, cell_misses, inner_misses, misses_in, misses, misses_all}
use Rattle.pass_laws.proofs.Steps.{loop_is, choice_copied}
use Rattle.inspection_laws.proofs.Walks.{deeper}
use Rattle.inspection_laws.proofs.Entries.{with_entry, entry_is, two_words, set_entry_is, add_entry_is}
use Rattle.inspection_laws.proofs.TablePieces.{or_first, Goes, silent_goes, cells_silent}
use Rattle.inspection_laws.specs.CountingPieces.{AllSilent}
use Rattle.instrumentation.proofs.Subscripts.{cell_or_not, not_by_cell}
use Rattle.inspection_laws.proofs.IndexWords.{affine_plain, plain_walked, all_walked, index_value, index_apart, index_is_scratch, or_second, regular_all}

or_none : (x y : Bool) → (x || y) ≡ false → (x ≡ false) × (y ≡ false)
or_none true y e = absurd (true≢false e)
or_none false y e = (refl, e)

-- it goes on where there is no miss, and ends as the first of them, before the text has begun
abbrev pub EndsAtFirst : List End → (State → Type 0) → Outcome (Unit {0}) → Type 0
EndsAtFirst l P (goes_on u t) = (l ≡ []) × P t
EndsAtFirst l P (ends e t) = (r : List End) × (l ≡ e ∷ r) × (t.begun ≡ false)

pub first_then : (l k : List End) (P Q : State → Type 0) (o : Outcome (Unit {0})) (f : Unit {0} → Run (Unit {0})) → EndsAtFirst l P o → ((t : State) → P t → EndsAtFirst k Q (f tt t)) → EndsAtFirst (l ++ k) Q (and_then o f)
first_then l k P Q (goes_on u t) f h g = rw (h.0) (g t h.1)
first_then l k P Q (ends e t) f h g = (h.0 ++ k, ap (λ l. l ++ k) h.1, h.2)

pub first_join : (sc : Scope) (l k : List End) (P Q : State → Type 0) (xs ys : List PlainStmt) (vs : Vars) (s : State) → EndsAtFirst l P (exec_all sc (stmts_of xs) vs s) → ((t : State) → P t → EndsAtFirst k Q (exec_all sc (stmts_of ys) vs t)) →
    EndsAtFirst (l ++ k) Q (exec_all sc (stmts_of (xs ++ ys)) vs s)
first_join sc l k P Q xs ys vs s h g = subst (EndsAtFirst (l ++ k) Q) (sym (exec_join sc xs ys vs s)) (first_then l k P Q (exec_all sc (stmts_of xs) vs s) (λ u t. exec_all sc (stmts_of ys) vs t) h g)

module _ (arrays : List Array) (number : Word → ℕ) (wides : List Word) (fault : Option Upset) (a : ℕ) (has : HasTables arrays wides a) (m : Memory) (params base : Vars) (place : IsPlace params base) (own_params : AreOwn params)
    (loops : Vars) (own_loops : AreOwn loops) (shallow : length (names loops) < 2 ^ 64) where
  abbrev sc : Scope
  sc = scope_of arrays wides fault

  abbrev env : Vars
  env = copied_vars loops ++ base

  abbrev here : Vars
  here = loops ++ params

  abbrev Later : ℕ → State → State → Type 0
  Later d t u = (i : ℕ) → d ≤ i → i < 2 ^ 64 → u.words (index_word i) ≡ t.words (index_word i)

  -- after the loads of the index cells, subscript d being the first: the checks end at the first coordinate outside
  pub record Loaded (d : ℕ) (at ns : PlainExprs) (zs : List ℤ) (s t : State) : Type 0 where
    pub same : t ≡ record s { words = t.words }
    pub frame : (x : Word) → begins (codes "bal_cx") x ≡ false → t.words x ≡ s.words x
    pub below : (i : ℕ) → i < d → t.words (index_word i) ≡ s.words (index_word i)
    pub checks : (u : State) → Later d t u → u.begun ≡ false → EndsAtFirst (check_misses arrays m a at zs here) (λ v. v ≡ u) (exec_all sc (stmts_of (word_checks a d at ns)) env u)

  -- a cell of an index array, read before the text has begun
  load_ends : (p : Word) (at : PlainExprs) (s : State) → (k : IsKnown arrays number p) → AreAffine at here → is_within (signed_all at here) k.array.1.extents ≡ false → word sc (cell p (renamed_all (names loops) at)) env s ≡ ends (outside k.array.0) s
  load_ends p at s k h out =
      let cs : List ℤ = signed_all at here in
      let regular = regular_all (renamed_all (names loops) at) env (affine_renamed_all params base place own_params loops own_loops shallow at h) in
      let values : signed_all (renamed_all (names loops) at) env ≡ cs = signed_renamed_all params base place own_params loops own_loops shallow at h in
      ap (λ o. by_array o (λ a. coordinates sc (renamed_all (names loops) at) env >>= (λ cs. within a cs (loads sc))) (first_word sc (renamed_all (names loops) at) env >>= (λ i. run.reads (λ s. slice_index (s.tables p) i))) s) k.named ∙
      ap (λ o. and_then o (λ cs. within k.array cs (loads sc))) (regular_at sc (renamed_all (names loops) at) env s regular ∙ ap (λ cs. goes_on cs s) values) ∙
      ap (λ b. (if b then loads sc k.array.0 cs else end_as (outside k.array.0)) s) out

  abbrev Rest : PlainExprs → PlainExprs → List ℤ → Type 0
  Rest es ns zs = (d : ℕ) (s : State) → d + rank es < 2 ^ 64 → s.begun ≡ false → s.memory ≡ m → EndsAtFirst (index_misses arrays es here) (Loaded d es ns zs s) (exec_all sc (stmts_of (index_words (names loops) d es)) env s)

  abbrev Step : PlainExprs → PlainExpr → PlainExprs → ℤ → List ℤ → ℕ → State → PlainExpr → Type 0
  Step es n ns z zs d s e = IsWalkedAt arrays number e here →
      EndsAtFirst (index_misses arrays (more_exprs e es) here) (Loaded d (more_exprs e es) (more_exprs n ns) (z ∷ zs) s) (exec_all sc (stmts_of (index_words (names loops) d (more_exprs e es))) env s)

  weaker : (l : List End) (P Q : State → Type 0) (o : Outcome (Unit {0})) → ((t : State) → P t → Q t) → EndsAtFirst l P o → EndsAtFirst l Q o
  weaker l P Q (goes_on u t) f h = (h.0, f t h.1)
  weaker l P Q (ends e t) f h = h

  plain_step : (es : PlainExprs) (n : PlainExpr) (ns : PlainExprs) (z : ℤ) (zs : List ℤ) (d : ℕ) (s : State) → Rest es ns zs → suc d + rank es < 2 ^ 64 → s.begun ≡ false → s.memory ≡ m → (e : PlainExpr) → is_cell e ≡ false → Step es n ns z zs d s e
  plain_step es n ns z zs d s rest fits b same e other walked =
      let texts : index_words (names loops) d (more_exprs e es) ≡ index_words (names loops) (suc d) es = not_by_cell e (λ x at. assign (var (index_word d)) None (cell x (renamed_all (names loops) at)) ∷ index_words (names loops) (suc d) es) (index_words (names loops) (suc d) es) other in
      let tests : word_checks a d (more_exprs e es) (more_exprs n ns) ≡ word_checks a (suc d) es ns = not_by_cell e (λ x at. check (index_word d) n a ∷ word_checks a (suc d) es ns) (word_checks a (suc d) es ns) other in
      let outs : index_misses arrays (more_exprs e es) here ≡ index_misses arrays es here = not_by_cell e (λ p at. outside_of (array_named arrays p) (signed_all at here) ++ index_misses arrays es here) (index_misses arrays es here) other in
      let overs : check_misses arrays m a (more_exprs e es) (z ∷ zs) here ≡ check_misses arrays m a es zs here =
      not_by_cell e (λ p at. (if nat_lt (word_at arrays m p (signed_all at here)) (size_of z) then [] else index a ∷ []) ++ check_misses arrays m a es zs here) (check_misses arrays m a es zs here) other in
      rw (texts, outs)
      (weaker (index_misses arrays es here) (Loaded (suc d) es ns zs s) (Loaded d (more_exprs e es) (more_exprs n ns) (z ∷ zs) s) (exec_all sc (stmts_of (index_words (names loops) (suc d) es)) env s)
      (λ t r. record {
        same = r.same;
        frame = r.frame;
        below = λ i l. r.below i (omega arith);
        checks = λ u later b. rw (tests, overs) (r.checks u (λ i l k. later i (omega arith) k) b);
      }) (rest (suc d) s fits b same))

  cell_step : (es : PlainExprs) (n : PlainExpr) (ns : PlainExprs) (z : ℤ) (zs : List ℤ) (d : ℕ) (s : State) → Rest es ns zs → as_word (signed n env) ≡ size_of z → suc d + rank es < 2 ^ 64 → s.begun ≡ false → s.memory ≡ m →
      (p : Word) (at : PlainExprs) → Step es n ns z zs d s (cell p at)
  cell_step es n ns z zs d s rest sized fits b same p at walked = chosen (is_within (signed_all at here) walked.0.array.1.extents) refl
    where
      v : ℕ
      v = word_at arrays m p (signed_all at here)

      mid : State
      mid = record s { words = put s.words (index_word d) v }

      not_wide : list_any (bytes_eq (index_word d)) wides ≡ false
      not_wide = has.words (index_word d) (or_second (bytes_eq (written a) (index_word d)) (begins (codes "bal_cx") (index_word d)) (index_is_scratch d))

      affine : AreAffine at here
      affine = affine_plain at here walked.1

      first : (u t : State) → Later d t u → Loaded (suc d) es ns zs mid t → u.words (index_word d) ≡ v
      first u t later r = later d (omega arith) (omega arith) ∙ r.below d (omega arith) ∙ ap (λ b. cond b v (s.words (index_word d))) (same_word (index_word d))

      check_first : (k w : ℕ) (u : State) (l : List End) (rest : Run (Unit {0})) (b : Bool) → nat_lt w k ≡ b → u.begun ≡ false → EndsAtFirst l (λ v. v ≡ u) (rest u) → EndsAtFirst ((if b then [] else index a ∷ []) ++ l) (λ v. v ≡ u) (and_then ((if b then done else end_as (index a)) u) (λ x. rest))
      check_first k w u l rest true e b h = h
      check_first k w u l rest false e b h = (l, refl, b)

      chosen : (c : Bool) → is_within (signed_all at here) walked.0.array.1.extents ≡ c →
          EndsAtFirst (outside_of (array_named arrays p) (signed_all at here) ++ index_misses arrays es here) (Loaded d (more_exprs (cell p at) es) (more_exprs n ns) (z ∷ zs) s)
          (exec_all sc (stmts_of (assign (var (index_word d)) None (cell p (renamed_all (names loops) at)) ∷ index_words (names loops) (suc d) es)) env s)
      chosen true c =
          let none : outside_of (array_named arrays p) (signed_all at here) ≡ [] = ap (λ o. outside_of o (signed_all at here)) walked.0.named ∙ ap (λ b. if b then [] else outside walked.0.array.0 ∷ []) c in
          let set : exec sc (assign (var (index_word d)) None (cell p (renamed_all (names loops) at))) env s ≡ goes_on tt mid =
          set_value sc (index_word d) (cell p (renamed_all (names loops) at)) env s v not_wide (index_value arrays number wides fault a has m params base place own_params loops own_loops shallow p at s walked.0 b same affine c) in
          rw (none, set)
          (weaker (index_misses arrays es here) (Loaded (suc d) es ns zs mid) (Loaded d (more_exprs (cell p at) es) (more_exprs n ns) (z ∷ zs) s) (exec_all sc (stmts_of (index_words (names loops) (suc d) es)) env mid)
          (λ t r. record {
            same = r.same;
            frame = λ x e. r.frame x e ∙ ap (λ b. cond b v (s.words x)) (apart_as (begins (codes "bal_cx")) (index_word d) x (index_is_scratch d) e);
            below = λ i l. r.below i (omega arith) ∙ ap (λ b. cond b v (s.words (index_word i))) (index_apart d i (omega arith) (omega arith) (omega arith));
            checks = λ u later b. rw (first u t later r, sized) (check_first (size_of z) v u (check_misses arrays m a es zs here) (exec_all sc (stmts_of (word_checks a (suc d) es ns)) env) (nat_lt v (size_of z)) refl b (r.checks u (λ i l k. later i (omega arith) k) b));
          }) (rest (suc d) mid fits b same))
      chosen false c =
          let one : outside_of (array_named arrays p) (signed_all at here) ≡ outside walked.0.array.0 ∷ [] = ap (λ o. outside_of o (signed_all at here)) walked.0.named ∙ ap (λ b. if b then [] else outside walked.0.array.0 ∷ []) c in
          rw (one, set_is sc (index_word d) (cell p (renamed_all (names loops) at)) env s not_wide, load_ends p at s walked.0 affine c) (index_misses arrays es here, refl, b)

  pub loaded : (at ns : PlainExprs) (zs : List ℤ) (d : ℕ) (s : State) → AreWalkedAt arrays number at here → AreSized sc ns zs env → rank at ≡ length zs → d + rank at < 2 ^ 64 → s.begun ≡ false → s.memory ≡ m →
      EndsAtFirst (index_misses arrays at here) (Loaded d at ns zs s) (exec_all sc (stmts_of (index_words (names loops) d at)) env s)
  loaded no_exprs ns zs d s h z r fits b same = (refl, record { same = refl; frame = λ x e. refl; below = λ i l. refl; checks = λ u later b. (refl, refl) })
  loaded (more_exprs e es) no_exprs [] d s h z r fits b same = absurd (omega arith)
  loaded (more_exprs e es) no_exprs (k ∷ zs) d s h z r fits b same = absurd z
  loaded (more_exprs e es) (more_exprs n ns) [] d s h z r fits b same = absurd z
  loaded (more_exprs e es) (more_exprs n ns) (k ∷ zs) d s h z r fits b same =
      cell_or_not (Step es n ns k zs d s)
      (λ p at. cell_step es n ns k zs d s (λ d s fits b same. loaded es ns zs d s h.1 z.3 (omega arith) fits b same) z.1 (omega arith) b same p at)
      (λ e other. plain_step es n ns k zs d s (λ d s fits b same. loaded es ns zs d s h.1 z.3 (omega arith) fits b same) (omega arith) b same e other)
      e h.0

-- ---- a walk

module _ (sc : Scope) (arrays : List Array) (number : Word → ℕ) (params base : Vars) (place : IsPlace params base) (own_params : AreOwn params) (reads writes : List Word → PlainExpr → List PlainStmt) (f : PlainExpr → Vars → List End) (Inv : ℕ → State → Type 0)
    (turned : (n : ℕ) (s : State) → Inv n s → EndsAtFirst [] (Inv (suc n)) (turn s))
    (assigns : (loops : Vars) → AreOwn loops → length (names loops) < 2 ^ 64 → (t : PlainExpr) (op : Option BinOp) (e : PlainExpr) (s : State) → IsWalkedTarget t (loops ++ params) → IsWalkedData arrays number (full t op e) (loops ++ params) → (n : ℕ) → Inv n s →
    EndsAtFirst (f (full t op e) (loops ++ params)) (Inv n) (exec_all sc (stmts_of (reads (names loops) (full t op e) ++ writes (names loops) t)) (copied_vars loops ++ base) s)) where
  over_ends : (g : ℤ → Run (Unit {0})) (l : ℤ → List End) (k : ℤ → ℕ) → ((v : ℤ) (n : ℕ) (s : State) → Inv n s → EndsAtFirst (l v) (Inv (n + k v)) (g v s)) → (vals : List ℤ) (n : ℕ) (s : State) → Inv n s → EndsAtFirst (flat_map l vals) (Inv (n + sum_by k vals)) (over g vals s)
  over_ends g l k h [] n s p = (refl, subst (λ m. Inv m s) (let e : n ≡ n + 0 = omega arith in e) p)
  over_ends g l k h (v ∷ vals) n s p =
      subst (λ m. EndsAtFirst (flat_map l (v ∷ vals)) (Inv m) (over g (v ∷ vals) s)) (let c : sum_by k (v ∷ vals) ≡ k v + sum_by k vals = sum_by-cons k v vals in let e : (n + k v) + sum_by k vals ≡ n + sum_by k (v ∷ vals) = omega arith in e)
      (first_then (l v) (flat_map l vals) (Inv (n + k v)) (Inv ((n + k v) + sum_by k vals)) (g v s) (λ u. over g vals) (h v n s p) (λ t q. over_ends g l k h vals (n + k v) t q))

  one_ends : (l : List End) (n : ℕ) (x : PlainStmt) (vs : Vars) (s : State) → EndsAtFirst l (Inv n) (exec sc x vs s) → EndsAtFirst l (Inv n) (exec_all sc (stmts_of (x ∷ [])) vs s)
  one_ends l n x vs s h = subst (EndsAtFirst l (Inv n)) (sym (exec_one sc x vs s)) h

  branch_ends : (c : Bool) (l k : List End) (i j : ℕ) (n : ℕ) (p q : Outcome (Unit {0})) → EndsAtFirst l (Inv (n + i)) p → EndsAtFirst k (Inv (n + j)) q → EndsAtFirst (if c then l else k) (Inv (n + (if c then i else j))) (cond c p q)
  branch_ends true l k i j n p q h g = h
  branch_ends false l k i j n p q h g = g

  mutual
    walk_one_ends : (p : PlainStmt) (loops : Vars) (n : ℕ) (s : State) → IsWalked arrays number p (loops ++ params) → AreOwn loops → length (names loops) < 2 ^ 64 → Inv n s →
        EndsAtFirst (misses f p (loops ++ params)) (Inv (n + turns p (loops ++ params))) (exec_all sc (stmts_of (walk reads writes (names loops) p)) (copied_vars loops ++ base) s)
    walk_one_ends (loop x lo rel hi body) loops n s h o l i =
        let g : ℤ → Run (Unit {0}) = λ v. λ t. and_then (turn t) (λ u. exec_all sc (stmts_of (walk_all reads writes (x ∷ names loops) body)) ((pass_variable (length (names loops)), v) ∷ (copied_vars loops ++ base))) in
        let k : ℤ → List End = λ v. misses_all f body ((x, v) ∷ (loops ++ params)) in
        let m : ℤ → ℕ = λ v. suc (turns_all body ((x, v) ∷ (loops ++ params))) in
        let total : ℕ = n + turns (loop x lo rel hi body) (loops ++ params) in
        one_ends (misses f (loop x lo rel hi body) (loops ++ params)) total (loop (pass_variable (length (names loops))) (renamed (names loops) lo) rel (renamed (names loops) hi) (stmts_of (walk_all reads writes (x ∷ names loops) body))) (copied_vars loops ++ base) s
        (subst (EndsAtFirst (misses f (loop x lo rel hi body) (loops ++ params)) (Inv total)) (sym (loop_is sc params base place own_params loops o l lo hi rel (stmts_of (walk_all reads writes (x ∷ names loops) body)) s h.0 h.1))
        (over_ends g k m
        (λ v j t q. first_then [] (k v) (Inv (suc j)) (Inv (j + m v)) (turn t) (λ u. exec_all sc (stmts_of (walk_all reads writes (x ∷ names loops) body)) ((pass_variable (length (names loops)), v) ∷ (copied_vars loops ++ base))) (turned j t q)
        (λ u r. subst (λ z. EndsAtFirst (k v) (Inv z) (exec_all sc (stmts_of (walk_all reads writes (x ∷ names loops) body)) ((pass_variable (length (names loops)), v) ∷ (copied_vars loops ++ base)) u)) (let e : suc j + turns_all body ((x, v) ∷ (loops ++ params)) ≡ j + m v = omega arith in e)
        (walk_every_ends body ((x, v) ∷ loops) (suc j) u (h.3 v) (h.2.own_name, o) (deeper loops params h.2.shallow) r)))
        (loop_values (signed lo (loops ++ params)) rel (signed hi (loops ++ params))) n s i))
    walk_one_ends (choice ts first other) loops n s h o l i =
        let total : ℕ = n + turns (choice ts first other) (loops ++ params) in
        one_ends (misses f (choice ts first other) (loops ++ params)) total (choice (renamed_tests (names loops) ts) (stmts_of (walk_all reads writes (names loops) first)) (stmts_of (walk_all reads writes (names loops) other))) (copied_vars loops ++ base) s
        (subst (EndsAtFirst (misses f (choice ts first other) (loops ++ params)) (Inv total))
        (sym (choice_copied sc params base place own_params loops o l ts (stmts_of (walk_all reads writes (names loops) first)) (stmts_of (walk_all reads writes (names loops) other)) s (tests_hold ts (loops ++ params)) h.0 refl))
        (branch_ends (tests_hold ts (loops ++ params)) (misses_all f first (loops ++ params)) (misses_all f other (loops ++ params)) (turns_all first (loops ++ params)) (turns_all other (loops ++ params)) n (exec_all sc (stmts_of (walk_all reads writes (names loops) first)) (copied_vars loops ++ base) s) (exec_all sc (stmts_of (walk_all reads writes (names loops) other)) (copied_vars loops ++ base) s)
        (walk_every_ends first loops n s h.1 o l i) (walk_every_ends other loops n s h.2 o l i)))
    walk_one_ends (assign t op e) loops n s h o l i =
        subst (λ z. EndsAtFirst (f (full t op e) (loops ++ params)) (Inv z) (exec_all sc (stmts_of (reads (names loops) (full t op e) ++ writes (names loops) t)) (copied_vars loops ++ base) s)) (let e : n ≡ n + 0 = omega arith in e) (assigns loops o l t op e s h.0 h.1 n i)
    walk_one_ends (table x len) loops n s h o l i = absurd h
    walk_one_ends begin loops n s h o l i = absurd h
    walk_one_ends (check x extent k) loops n s h o l i = absurd h
    walk_one_ends verdict loops n s h o l i = absurd h

    pub walk_every_ends : (ps : PlainStmts) (loops : Vars) (n : ℕ) (s : State) → AreWalked arrays number ps (loops ++ params) → AreOwn loops → length (names loops) < 2 ^ 64 → Inv n s →
        EndsAtFirst (misses_all f ps (loops ++ params)) (Inv (n + turns_all ps (loops ++ params))) (exec_all sc (stmts_of (walk_all reads writes (names loops) ps)) (copied_vars loops ++ base) s)
    walk_every_ends no_stmts loops n s h o l i = (refl, subst (λ z. Inv z s) (let e : n ≡ n + 0 = omega arith in e) i)
    walk_every_ends (more_stmts q ps) loops n s h o l i =
        let a : ℕ = turns q (loops ++ params) in
        let b : ℕ = turns_all ps (loops ++ params) in
        subst (λ z. EndsAtFirst (misses_all f (more_stmts q ps) (loops ++ params)) (Inv z) (exec_all sc (stmts_of (walk reads writes (names loops) q ++ walk_all reads writes (names loops) ps)) (copied_vars loops ++ base) s)) (let e : (n + a) + b ≡ n + (a + b) = omega arith in e)
        (first_join sc (misses f q (loops ++ params)) (misses_all f ps (loops ++ params)) (Inv (n + a)) (Inv ((n + a) + b)) (walk reads writes (names loops) q) (walk_all reads writes (names loops) ps) (copied_vars loops ++ base) s
        (walk_one_ends q loops n s h.0 o l i) (λ t r. walk_every_ends ps loops (n + a) t h.1 o l r))

-- ---- single statements, whatever the rows are

affine_silent : (xs : List Word) (e : PlainExpr) (vs : Vars) → IsAffine e vs → IsSilent (renamed xs e)
affine_silent xs (lit n) vs h = tt
affine_silent xs (var x) vs h = tt
affine_silent xs (cell x at) vs h = absurd h
affine_silent xs (un op a) vs h = affine_silent xs a vs h
affine_silent xs (bin op a b) vs h = (affine_silent xs a vs h.0, affine_silent xs b vs h.1)
affine_silent xs (cast a) vs h = absurd h
affine_silent xs (test rel a b) vs h = absurd h
affine_silent xs (umin a b) vs h = absurd h
affine_silent xs (umax a b) vs h = absurd h
affine_silent xs (least a b) vs h = tt
affine_silent xs (greatest a b) vs h = tt
affine_silent xs (widen a) vs h = absurd h
affine_silent xs (big high low) vs h = absurd h

abbrev AllQuiet : List PlainExpr → Type 0
AllQuiet [] = Unit {0}
AllQuiet (e ∷ es) = IsSilent e × AllQuiet es

words_quiet : (arrays : List Array) (number : Word → ℕ) (xs : List Word) (d : ℕ) (at : PlainExprs) (vs : Vars) → AreWalkedAt arrays number at vs → AllQuiet (words_at xs d at)
words_quiet arrays number xs d no_exprs vs h = tt
words_quiet arrays number xs d (more_exprs e es) vs h = (
  cell_or_not (λ e. IsWalkedAt arrays number e vs → IsSilent (by_cell e (λ x at. var (index_word d)) (cast (renamed xs e)))) (λ p at w. tt)
      (λ e other w. subst IsSilent (sym (not_by_cell e (λ x at. var (index_word d)) (cast (renamed xs e)) other)) (affine_silent xs e vs (plain_walked arrays number e vs other w).0)) e h.0,
  words_quiet arrays number xs (suc d) es vs h.1,
)

row_quiet : (ns : PlainExprs) (ws : List PlainExpr) → AllSilent ns → AllQuiet ws → IsSilent (row_of ns ws)
row_quiet no_exprs ws h g = tt
row_quiet (more_exprs n ns) [] h g = tt
row_quiet (more_exprs n ns) (w ∷ ws) h g = ((g.0, cells_silent ns h.1), row_quiet ns ws h.1 g.1)

-- so many turns were made before the text begins, and none in it
abbrev Spun : ℕ → State → State → Type 0
Spun n from s = (s.prologue_turns ≡ n) × (s.body_turns ≡ from.body_turns)

module _ (sc : Scope) (a : ℕ) (has : HasTables sc.arrays sc.wides a) (from : State) (spun : ℕ) where
  abbrev Kept' : State → Type 0
  Kept' s = Keeps a from s × Spun spun from s

  with_counts : (k n : ℕ) (s : State) → Kept' s → Kept' (with_entry (counts a) k n s)
  with_counts k n s p = (
    record {
      begun = p.0.begun;
      memory = p.0.memory;
      accesses = p.0.accesses;
      wides = p.0.wides;
      made = p.0.made;
      words = p.0.words;
      tables = λ y e g. ap (λ b. cond b (slice_set (s.tables (counts a)) k n) (s.tables y)) g ∙ p.0.tables y e g;
    },
    p.1,
  )

  with_current : (k n : ℕ) (s : State) → Kept' s → Kept' (with_entry (current a) k n s)
  with_current k n s p = (
    record {
      begun = p.0.begun;
      memory = p.0.memory;
      accesses = p.0.accesses;
      wides = p.0.wides;
      made = p.0.made;
      words = p.0.words;
      tables = λ y e g. ap (λ b. cond b (slice_set (s.tables (current a)) k n) (s.tables y)) e ∙ p.0.tables y e g;
    },
    p.1,
  )

  with_written : (n : ℕ) (s : State) → Kept' s → Kept' (record s { words = put s.words (written a) n })
  with_written n s p = (
    record {
      begun = p.0.begun;
      memory = p.0.memory;
      accesses = p.0.accesses;
      wides = p.0.wides;
      made = p.0.made;
      tables = p.0.tables;
      words = λ y e. ap (λ b. cond b n (s.words y)) (or_none (bytes_eq (written a) y) (begins (codes "bal_cx") y) e).0 ∙ p.0.words y e;
    },
    p.1,
  )

  -- a count
  pub count_goes : (e : PlainExpr) (vs : Vars) (s : State) → IsSilent e → Kept' s → EndsAtFirst [] Kept' (exec sc (count_current a e) vs s)
  count_goes e vs s q p =
      let r : Goes sc e vs s = silent_goes sc e vs s q in
      let i : word sc (bin Add e (cell (current a) (one e))) vs s ≡ goes_on (word_bin Add r.0 (slice_index (s.tables (current a)) r.0)) s =
      two_words sc (word_bin Add) (word sc e vs) (word sc (cell (current a) (one e)) vs) s r.0 (slice_index (s.tables (current a)) r.0) r.1 (entry_is sc (current a) e vs s r.0 has.current_apart r.1) in
      subst (EndsAtFirst [] Kept') (sym (add_entry_is sc (counts a) (bin Add e (cell (current a) (one e))) vs s (word_bin Add r.0 (slice_index (s.tables (current a)) r.0)) has.counts_apart i))
      (refl, with_counts (word_bin Add r.0 (slice_index (s.tables (current a)) r.0)) ((slice_index (s.tables (counts a)) (word_bin Add r.0 (slice_index (s.tables (current a)) r.0)) + 1) % 2 ^ 64) s p)

  pub more_goes : (vs : Vars) (s : State) → Kept' s → EndsAtFirst [] Kept' (exec sc (one_more a) vs s)
  more_goes vs s p =
      rw (has.words (written a) (or_first (bytes_eq (written a) (written a)) (begins (codes "bal_cx") (written a)) (same_word (written a))))
      (refl, with_written ((s.words (written a) + 1) % 2 ^ 64) s p)

  pub set_goes : (ns : PlainExprs) (e : PlainExpr) (vs : Vars) (s : State) → AllSilent ns → IsSilent e → Kept' s → EndsAtFirst [] Kept' (exec sc (set_current a ns e) vs s)
  set_goes ns e vs s h q p =
      let r : Goes sc e vs s = silent_goes sc e vs s q in
      let c : Goes sc (bin Sub (bin Add (cells_of ns) (var (written a))) e) vs s = silent_goes sc (bin Sub (bin Add (cells_of ns) (var (written a))) e) vs s ((cells_silent ns h, tt), q) in
      subst (EndsAtFirst [] Kept') (sym (set_entry_is sc (current a) e (bin Sub (bin Add (cells_of ns) (var (written a))) e) vs s r.0 c.0 has.current_apart r.1 c.1)) (refl, with_current r.0 c.0 s p)

-- ---- the second walk

module _ (arrays : List Array) (number : Word → ℕ) (wides : List Word) (fault : Option Upset) (a : ℕ) (has : HasTables arrays wides a) (m : Memory) (params base : Vars) (place : IsPlace params base) (own_params : AreOwn params)
    (extents : ℕ → List ℤ) (ns : PlainExprs) (silent : AllSilent ns) (sizes : (x : Word) (k : IsKnown arrays number x) → k.array.1.extents ≡ extents k.array.0)
    (sized : (loops : Vars) → AreSized (scope_of arrays wides fault) ns (extents a) (copied_vars loops ++ base)) (from : State) (before : from.begun ≡ false) (holds : from.memory ≡ m) where
  abbrev Made : ℕ → State → Type 0
  Made n s = Keeps a from s × Spun (from.prologue_turns + n) from s

  abbrev ts : Scope
  ts = scope_of arrays wides fault

  module _ (n : ℕ) (loops : Vars) (own_loops : AreOwn loops) (shallow : length (names loops) < 2 ^ 64) where
    abbrev Inv : State → Type 0
    Inv = Made n

    abbrev there : Vars
    there = copied_vars loops ++ base

    abbrev at_source : Vars
    at_source = loops ++ params

    cell_ends : (x : Word) (at : PlainExprs) (s : State) → AreWalkedAt arrays number at at_source → rank at < 2 ^ 63 → (k : IsKnown arrays number x) → rank at ≡ length k.array.1.extents → Inv s →
        EndsAtFirst (cell_misses arrays m number a (extents a) x at at_source) Inv (exec_all ts (stmts_of (inspect_cell number a ns (names loops) x at)) there s)
    cell_ends x at s h fits k ranked p = chosen (nat_eq (number x) a) refl
      where
        row : PlainExpr
        row = row_of ns (words_at (names loops) 0 at)

        counted : (t v : State) → v ≡ t → Inv t → EndsAtFirst [] Inv (exec_all ts (stmts_of (count_current a row ∷ [])) there v)
        counted t v e i = subst (EndsAtFirst [] Inv) (sym (exec_one ts (count_current a row) there v))
            (count_goes ts a has from (from.prologue_turns + n) row there v (row_quiet ns (words_at (names loops) 0 at) silent (words_quiet arrays number (names loops) 0 at at_source h)) (subst Inv (sym e) i))

        kept_by_loads : (t : State) → Loaded arrays number wides fault a has m params base place own_params loops own_loops shallow 0 at ns (extents a) s t → Inv t
        kept_by_loads t r = (
          record {
            begun = ap (λ (u : State). u.begun) r.same ∙ p.0.begun;
            memory = ap (λ (u : State). u.memory) r.same ∙ p.0.memory;
            accesses = ap (λ (u : State). u.accesses) r.same ∙ p.0.accesses;
            wides = ap (λ (u : State). u.wides) r.same ∙ p.0.wides;
            made = ap (λ (u : State). u.made) r.same ∙ p.0.made;
            words = λ y e. r.frame y (or_none (bytes_eq (written a) y) (begins (codes "bal_cx") y) e).1 ∙ p.0.words y e;
            tables = λ y e g. ap (λ (u : State). u.tables y) r.same ∙ p.0.tables y e g;
          },
          (ap (λ (u : State). u.prologue_turns) r.same ∙ p.1.0, ap (λ (u : State). u.body_turns) r.same ∙ p.1.1),
        )

        chosen : (b : Bool) → nat_eq (number x) a ≡ b →
            EndsAtFirst (if b then index_misses arrays at at_source ++ check_misses arrays m a at (extents a) at_source else []) Inv (exec_all ts (stmts_of (if b then index_words (names loops) 0 at ++ (word_checks a 0 at ns ++ count_current a row ∷ []) else [])) there s)
        chosen true e =
            let rank_is : rank at ≡ length (extents a) = ranked ∙ ap length (sizes x k) ∙ ap (λ n. length (extents n)) (sym k.numbered ∙ eqb-true (number x) a e) in
            let l : List End = index_misses arrays at at_source in
            let c : List End = check_misses arrays m a at (extents a) at_source in
            first_join ts l c (Loaded arrays number wides fault a has m params base place own_params loops own_loops shallow 0 at ns (extents a) s) Inv (index_words (names loops) 0 at) (word_checks a 0 at ns ++ count_current a row ∷ []) there s
            (loaded arrays number wides fault a has m params base place own_params loops own_loops shallow at ns (extents a) 0 s h (sized loops) rank_is (omega arith) (p.0.begun ∙ before) (p.0.memory ∙ holds))
            (λ t r. subst (λ l. EndsAtFirst l Inv (exec_all ts (stmts_of (word_checks a 0 at ns ++ count_current a row ∷ [])) there t)) (append-nil c)
            (first_join ts c [] (λ v. v ≡ t) Inv (word_checks a 0 at ns) (count_current a row ∷ []) there t (r.checks t (λ i l k. refl) (ap (λ (u : State). u.begun) r.same ∙ p.0.begun ∙ before)) (λ v g. counted t v g (kept_by_loads t r))))
        chosen false e = (refl, p)

    abbrev InnerStep : PlainExprs → State → PlainExpr → Type 0
    InnerStep es s e = IsWalkedAt arrays number e at_source → EndsAtFirst (inner_misses arrays m number a (extents a) (more_exprs e es) at_source) Inv (exec_all ts (stmts_of (inspect_indices number a ns (names loops) (more_exprs e es))) there s)

    inner_ends : (at : PlainExprs) (s : State) → AreWalkedAt arrays number at at_source → Inv s → EndsAtFirst (inner_misses arrays m number a (extents a) at at_source) Inv (exec_all ts (stmts_of (inspect_indices number a ns (names loops) at)) there s)
    inner_ends no_exprs s h p = (refl, p)
    inner_ends (more_exprs e es) s h p =
        cell_or_not (InnerStep es s)
        (λ q at w. first_join ts (cell_misses arrays m number a (extents a) q at at_source) (inner_misses arrays m number a (extents a) es at_source) Inv Inv (inspect_cell number a ns (names loops) q at) (inspect_indices number a ns (names loops) es) there s
        (cell_ends q at s (all_walked arrays number at at_source w.1) w.2 w.0 w.3 p) (λ t r. inner_ends es t h.1 r))
        (λ e other w.
        let l : inner_misses arrays m number a (extents a) (more_exprs e es) at_source ≡ inner_misses arrays m number a (extents a) es at_source =
        not_by_cell e (λ p at. cell_misses arrays m number a (extents a) p at at_source ++ inner_misses arrays m number a (extents a) es at_source) (inner_misses arrays m number a (extents a) es at_source) other in
        let t : inspect_indices number a ns (names loops) (more_exprs e es) ≡ inspect_indices number a ns (names loops) es = not_by_cell e (λ x at. inspect_cell number a ns (names loops) x at ++ inspect_indices number a ns (names loops) es) (inspect_indices number a ns (names loops) es) other in
        rw (l, t) (inner_ends es s h.1 p))
        e h.0

    abbrev M : PlainExpr → List End
    M e = misses_in arrays m number a (extents a) e at_source

    abbrev T : PlainExpr → List PlainStmt
    T e = inspect_reads number a ns (names loops) e

    reads_end : (e : PlainExpr) (s : State) → IsWalkedData arrays number e at_source → Inv s → EndsAtFirst (M e) Inv (exec_all ts (stmts_of (T e)) there s)
    reads_end (lit n) s d p = (refl, p)
    reads_end (var x) s d p = (refl, p)
    reads_end (cell x at) s d p =
        first_join ts (inner_misses arrays m number a (extents a) at at_source) (cell_misses arrays m number a (extents a) x at at_source) Inv Inv (inspect_indices number a ns (names loops) at) (inspect_cell number a ns (names loops) x at) there s
        (inner_ends at s d.0 p) (λ t r. cell_ends x at t d.0 d.1 d.2.0 d.2.1 r)
    reads_end (un op e) s d p = reads_end e s d p
    reads_end (bin op e g) s d p = first_join ts (M e) (M g) Inv Inv (T e) (T g) there s (reads_end e s d.0 p) (λ t r. reads_end g t d.1 r)
    reads_end (cast e) s d p = reads_end e s d p
    reads_end (test rel e g) s d p = first_join ts (M e) (M g) Inv Inv (T e) (T g) there s (reads_end e s d.0 p) (λ t r. reads_end g t d.1 r)
    reads_end (umin e g) s d p = first_join ts (M e) (M g) Inv Inv (T e) (T g) there s (reads_end e s d.0 p) (λ t r. reads_end g t d.1 r)
    reads_end (umax e g) s d p = first_join ts (M e) (M g) Inv Inv (T e) (T g) there s (reads_end e s d.0 p) (λ t r. reads_end g t d.1 r)
    reads_end (least e g) s d p = absurd d
    reads_end (greatest e g) s d p = absurd d
    reads_end (widen e) s d p = absurd d
    reads_end (big high low) s d p = absurd d

    target_ends : (t : PlainExpr) (s : State) → IsWalkedTarget t at_source → Inv s → EndsAtFirst [] Inv (exec_all ts (stmts_of (number_writes number a ns (names loops) t)) there s)
    target_ends (var x) s h p = (refl, p)
    target_ends (cell x at) s h p = chosen (nat_eq (number x) a)
      where
        row : PlainExpr
        row = row_of ns (words_at (names loops) 0 at)

        chosen : (b : Bool) → EndsAtFirst [] Inv (exec_all ts (stmts_of (if b then set_current a ns row ∷ one_more a ∷ [] else [])) there s)
        chosen true =
            first_then [] [] Inv Inv (exec ts (set_current a ns row) there s) (λ u t. exec_all ts (stmts_of (one_more a ∷ [])) there t)
            (set_goes ts a has from (from.prologue_turns + n) ns row there s silent (row_quiet ns (words_at (names loops) 0 at) silent (words_quiet arrays number (names loops) 0 at at_source (all_walked arrays number at at_source h))) p)
            (λ t r. subst (EndsAtFirst [] Inv) (sym (exec_one ts (one_more a) there t)) (more_goes ts a has from (from.prologue_turns + n) there t r))
        chosen false = (refl, p)
    target_ends (lit n) s h p = absurd h
    target_ends (un op e) s h p = absurd h
    target_ends (bin op e g) s h p = absurd h
    target_ends (cast e) s h p = absurd h
    target_ends (test rel e g) s h p = absurd h
    target_ends (umin e g) s h p = absurd h
    target_ends (umax e g) s h p = absurd h
    target_ends (least e g) s h p = absurd h
    target_ends (greatest e g) s h p = absurd h
    target_ends (widen e) s h p = absurd h
    target_ends (big high low) s h p = absurd h

    assign_ends : (t : PlainExpr) (op : Option BinOp) (e : PlainExpr) (s : State) → IsWalkedTarget t at_source → IsWalkedData arrays number (full t op e) at_source → Inv s →
        EndsAtFirst (M (full t op e)) Inv (exec_all ts (stmts_of (T (full t op e) ++ number_writes number a ns (names loops) t)) there s)
    assign_ends t op e s h d p =
        subst (λ l. EndsAtFirst l Inv (exec_all ts (stmts_of (T (full t op e) ++ number_writes number a ns (names loops) t)) there s)) (append-nil (M (full t op e)))
        (first_join ts (M (full t op e)) [] Inv Inv (T (full t op e)) (number_writes number a ns (names loops) t) there s (reads_end (full t op e) s d p) (λ u r. target_ends t u h r))

  turn_keeps : (n : ℕ) (s : State) → Made n s → EndsAtFirst [] (Made (suc n)) (turn s)
  turn_keeps n s p = chosen s.begun (p.0.begun ∙ before)
    where
      chosen : (b : Bool) → b ≡ false → EndsAtFirst [] (Made (suc n)) (goes_on tt (cond b (record s { body_turns = s.body_turns + 1 }) (record s { prologue_turns = s.prologue_turns + 1 })))
      chosen true e = absurd (true≢false e)
      chosen false e = (refl, (record { begun = p.0.begun; memory = p.0.memory; accesses = p.0.accesses; wides = p.0.wides; made = p.0.made; words = p.0.words; tables = p.0.tables }, ((let q : s.prologue_turns ≡ from.prologue_turns + n = p.1.0 in omega arith), p.1.1)))

  -- from every memory, the second walk ends exactly at the first miss, and makes the source's turns
  pub second_ends : (body : PlainStmts) (s : State) → AreWalked arrays number body params → Keeps a from s → s.prologue_turns ≡ from.prologue_turns → s.body_turns ≡ from.body_turns →
      EndsAtFirst (misses_all (misses_in arrays m number a (extents a)) body params) (Made (0 + turns_all body params)) (exec_all ts (stmts_of (walk_all (inspect_reads number a ns) (number_writes number a ns) [] body)) base s)
  second_ends body s h p q same =
      walk_every_ends ts arrays number params base place own_params (inspect_reads number a ns) (number_writes number a ns) (misses_in arrays m number a (extents a)) Made turn_keeps
      (λ loops o l t op e s h d n p. assign_ends n loops o l t op e s h d p) body [] 0 s h tt (omega arith) (p, (omega arith, same))

-- ---- the first walk, and both

none_all : (vals : List ℤ) (l : ℤ → List End) → ((v : ℤ) → l v ≡ []) → flat_map l vals ≡ []
none_all [] l h = refl
none_all (v ∷ vals) l h = rw (h v) (none_all vals l h)

either_none : (b : Bool) (l k : List End) → l ≡ [] → k ≡ [] → (if b then l else k) ≡ []
either_none true l k e g = e
either_none false l k e g = g

mutual
  no_misses : (p : PlainStmt) (vs : Vars) → misses (λ e vs. []) p vs ≡ []
  no_misses (loop x lo rel hi body) vs = none_all (loop_values (signed lo vs) rel (signed hi vs)) (λ v. misses_all (λ e vs. []) body ((x, v) ∷ vs)) (λ v. no_misses_all body ((x, v) ∷ vs))
  no_misses (choice ts first other) vs = either_none (tests_hold ts vs) (misses_all (λ e vs. []) first vs) (misses_all (λ e vs. []) other vs) (no_misses_all first vs) (no_misses_all other vs)
  no_misses (assign t op e) vs = refl
  no_misses (table x len) vs = refl
  no_misses begin vs = refl
  no_misses (check x extent n) vs = refl
  no_misses verdict vs = refl

  no_misses_all : (ps : PlainStmts) (vs : Vars) → misses_all (λ e vs. []) ps vs ≡ []
  no_misses_all no_stmts vs = refl
  no_misses_all (more_stmts s ss) vs = rw (no_misses s vs) (no_misses_all ss vs)

module _ (arrays : List Array) (number : Word → ℕ) (wides : List Word) (fault : Option Upset) (a : ℕ) (has : HasTables arrays wides a) (params base : Vars) (place : IsPlace params base) (own_params : AreOwn params) (from : State) (before : from.begun ≡ false) where
  abbrev fs : Scope
  fs = scope_of arrays wides fault

  abbrev Seen : ℕ → State → Type 0
  Seen n s = Keeps a from s × Spun (from.prologue_turns + n) from s

  count_writes_goes : (loops : Vars) (n : ℕ) (t : PlainExpr) (s : State) → IsWalkedTarget t (loops ++ params) → Seen n s → EndsAtFirst [] (Seen n) (exec_all fs (stmts_of (count_writes number a (names loops) t)) (copied_vars loops ++ base) s)
  count_writes_goes loops n (var x) s h p = (refl, p)
  count_writes_goes loops n (cell x at) s h p = chosen (nat_eq (number x) a)
    where
      chosen : (b : Bool) → EndsAtFirst [] (Seen n) (exec_all fs (stmts_of (if b then one_more a ∷ [] else [])) (copied_vars loops ++ base) s)
      chosen true = subst (EndsAtFirst [] (Seen n)) (sym (exec_one fs (one_more a) (copied_vars loops ++ base) s)) (more_goes fs a has from (from.prologue_turns + n) (copied_vars loops ++ base) s p)
      chosen false = (refl, p)
  count_writes_goes loops n (lit k) s h p = absurd h
  count_writes_goes loops n (un op e) s h p = absurd h
  count_writes_goes loops n (bin op e g) s h p = absurd h
  count_writes_goes loops n (cast e) s h p = absurd h
  count_writes_goes loops n (test rel e g) s h p = absurd h
  count_writes_goes loops n (umin e g) s h p = absurd h
  count_writes_goes loops n (umax e g) s h p = absurd h
  count_writes_goes loops n (least e g) s h p = absurd h
  count_writes_goes loops n (greatest e g) s h p = absurd h
  count_writes_goes loops n (widen e) s h p = absurd h
  count_writes_goes loops n (big high low) s h p = absurd h

  turned : (n : ℕ) (s : State) → Seen n s → EndsAtFirst [] (Seen (suc n)) (turn s)
  turned n s p = chosen s.begun (p.0.begun ∙ before)
    where
      chosen : (b : Bool) → b ≡ false → EndsAtFirst [] (Seen (suc n)) (goes_on tt (cond b (record s { body_turns = s.body_turns + 1 }) (record s { prologue_turns = s.prologue_turns + 1 })))
      chosen true e = absurd (true≢false e)
      chosen false e = (refl, (record { begun = p.0.begun; memory = p.0.memory; accesses = p.0.accesses; wides = p.0.wides; made = p.0.made; words = p.0.words; tables = p.0.tables }, ((let q : s.prologue_turns ≡ from.prologue_turns + n = p.1.0 in omega arith), p.1.1)))

  pub first_goes : (body : PlainStmts) (s : State) → AreWalked arrays number body params → Keeps a from s → s.prologue_turns ≡ from.prologue_turns → s.body_turns ≡ from.body_turns → EndsAtFirst [] (Seen (0 + turns_all body params)) (exec_all fs (stmts_of (walk_all no_reads (count_writes number a) [] body)) base s)
  first_goes body s h p q same =
      subst (λ l. EndsAtFirst l (Seen (0 + turns_all body params)) (exec_all fs (stmts_of (walk_all no_reads (count_writes number a) [] body)) base s)) (no_misses_all body params)
      (walk_every_ends fs arrays number params base place own_params no_reads (count_writes number a) (λ e vs. []) Seen turned
      (λ loops o l t op e s h d n p. count_writes_goes loops n t s h p) body [] 0 s h tt (omega arith) (p, (omega arith, same)))

-- what the tables of an array leave as it was, whatever they hold, and the turns that they make
pub record Passed (a n : ℕ) (from t : State) : Type 0 where
  pub begun : t.begun ≡ from.begun
  pub memory : t.memory ≡ from.memory
  pub accesses : t.accesses ≡ from.accesses
  pub wides : t.wides ≡ from.wides
  pub words : (x : Word) → is_scratch a x ≡ false → t.words x ≡ from.words x
  pub prologue : t.prologue_turns ≡ from.prologue_turns + n
  pub body : t.body_turns ≡ from.body_turns

module _ (arrays : List Array) (number : Word → ℕ) (wides : List Word) (fault : Option Upset) (a : ℕ) (has : HasTables arrays wides a) (params base : Vars) (place : IsPlace params base) (own_params : AreOwn params)
    (extents : ℕ → List ℤ) (ns : PlainExprs) (silent : AllSilent ns) (sizes : (x : Word) (k : IsKnown arrays number x) → k.array.1.extents ≡ extents k.array.0)
    (sized : (loops : Vars) → AreSized (scope_of arrays wides fault) ns (extents a) (copied_vars loops ++ base)) (body : PlainStmts) (walked : AreWalked arrays number body params) (from : State) (before : from.begun ≡ false) where
  abbrev bs : Scope
  bs = scope_of arrays wides fault

  abbrev pub Still : State → Type 0
  Still t = Passed a (2 * turns_all body params) from t

  zero_is : (s : State) → exec bs (set_word_text (written a) 0) base s ≡ goes_on tt (record s { words = put s.words (written a) 0 })
  zero_is s = rw (has.words (written a) (or_first (bytes_eq (written a) (written a)) (begins (codes "bal_cx") (written a)) (same_word (written a)))) refl

  zeroed : (t : State) (x : Word) → is_scratch a x ≡ false → put t.words (written a) 0 x ≡ t.words x
  zeroed t x e = ap (λ (b : Bool). if b then 0 else t.words x) (or_none (bytes_eq (written a) x) (begins (codes "bal_cx") x) e).0

  pub build_ends : EndsAtFirst (misses_all (misses_in arrays from.memory number a (extents a)) body params) Still (exec_all bs (stmts_of (build number body a ns)) base from)
  build_ends =
      let all : List End = misses_all (misses_in arrays from.memory number a (extents a)) body params in
      let one_state : State = record from { words = put from.words (written a) 0 } in
      let w1 : List PlainStmt = walk_all no_reads (count_writes number a) [] body in
      let w2 : List PlainStmt = walk_all (inspect_reads number a ns) (number_writes number a ns) [] body in
      let tail : List PlainStmt = table (current a) (cells_of ns) ∷ table (counts a) (bin Add (cells_of ns) (var (written a))) ∷ set_word_text (written a) 0 ∷ (w2 ++ set_word_text (written a) 0 ∷ []) in
      rw (zero_is from)
      (first_join bs [] all (λ s. Keeps a one_state s × Spun (from.prologue_turns + (0 + turns_all body params)) from s) Still w1 tail base one_state
      (first_goes arrays number wides fault a has params base place own_params one_state before body one_state walked
      (record { begun = refl; memory = refl; accesses = refl; wides = refl; made = refl; words = λ x e. refl; tables = λ x e g. refl }) refl refl)
      (λ s k.
      let n : Goes bs (cells_of ns) base s = silent_goes bs (cells_of ns) base s (cells_silent ns silent) in
      let two_state : State = record s { tables = put s.tables (current a) (replicate n.0 0); made = s.made ++ n.0 ∷ [] } in
      let w : Goes bs (bin Add (cells_of ns) (var (written a))) base two_state = silent_goes bs (bin Add (cells_of ns) (var (written a))) base two_state (cells_silent ns silent, tt) in
      let three_state : State = record two_state { tables = put two_state.tables (counts a) (replicate w.0 0); made = two_state.made ++ w.0 ∷ [] } in
      let four_state : State = record three_state { words = put three_state.words (written a) 0 } in
      rw (ap (λ o. and_then o (make_table (current a))) n.1, ap (λ o. and_then o (make_table (counts a))) w.1, zero_is three_state)
      (subst (λ l. EndsAtFirst l Still (exec_all bs (stmts_of (w2 ++ set_word_text (written a) 0 ∷ [])) base four_state)) (append-nil all)
      (first_join bs all [] (λ t. Keeps a four_state t × Spun (four_state.prologue_turns + (0 + turns_all body params)) four_state t) Still w2 (set_word_text (written a) 0 ∷ []) base four_state
      (second_ends arrays number wides fault a has from.memory params base place own_params extents ns silent sizes sized four_state (k.0.begun ∙ before) k.0.memory body four_state walked
      (record { begun = refl; memory = refl; accesses = refl; wides = refl; made = refl; words = λ x e. refl; tables = λ x e g. refl }) refl refl)
      (λ t q. subst (EndsAtFirst [] Still) (sym (exec_one bs (set_word_text (written a) 0) base t ∙ zero_is t)) (
        refl,
        record {
          begun = q.0.begun ∙ k.0.begun;
          memory = q.0.memory ∙ k.0.memory;
          accesses = q.0.accesses ∙ k.0.accesses;
          wides = q.0.wides ∙ k.0.wides;
          words = λ x e. zeroed t x e ∙ q.0.words x e ∙ zeroed three_state x e ∙ k.0.words x e ∙ zeroed from x e;
          prologue = (let i : s.prologue_turns ≡ from.prologue_turns + (0 + turns_all body params) = k.1.0 in let j : t.prologue_turns ≡ s.prologue_turns + (0 + turns_all body params) = q.1.0 in omega arith);
          body = q.1.1 ∙ k.1.1;
        },
      ))))))

-- an affine expression reads no cell
pub affine_quiet : (e : PlainExpr) (vs : Vars) → IsAffine e vs → IsSilent e
affine_quiet (lit n) vs h = tt
affine_quiet (var x) vs h = tt
affine_quiet (cell x at) vs h = absurd h
affine_quiet (un op a) vs h = affine_quiet a vs h
affine_quiet (bin op a b) vs h = (affine_quiet a vs h.0, affine_quiet b vs h.1)
affine_quiet (cast a) vs h = absurd h
affine_quiet (test rel a b) vs h = absurd h
affine_quiet (umin a b) vs h = absurd h
affine_quiet (umax a b) vs h = absurd h
affine_quiet (least a b) vs h = tt
affine_quiet (greatest a b) vs h = tt
affine_quiet (widen a) vs h = absurd h
affine_quiet (big high low) vs h = absurd h
