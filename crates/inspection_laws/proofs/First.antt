-- The first walk: it counts the writes of the array.
use Rattle.std.proofs.Common.{◌≡◌, ℕ, suc, ◌+◌, ◌^◌, ◌<◌, ◌≤◌, Bool, true, false, cond, ◌||◌, ◌&&◌, ◌==◌, if◌then◌else◌, List, [], ◌∷◌, ◌++◌, length, map, refl, sym, ap, ◌∙◌, subst, arith, append_assoc, append-nil, nat_eq, Option, true≢false}
use Rattle.std.specs.Prelude.{bytes_eq, codes}
use Rattle.std.proofs.lemmas.List.{length_push, map-append}
use Rattle.c_tree.specs.Plain.{Word, PlainExpr, lit, var, cell, un, bin, cast, test, umin, umax, least, greatest, widen, big, PlainExprs, no_exprs, more_exprs, PlainStmts}
use Rattle.c_tree.specs.Trees.{stmts_of}
use Rattle.c_tree.specs.Values.{Vars}
use Rattle.c_tree.specs.Arrays.{Array, Memory}
use Rattle.c_tree.specs.Accesses.{Access, at}
use Rattle.c_tree.specs.Fault.{Upset}
use Rattle.c_tree.specs.Instances.{Tagged, untagged}
use Rattle.c_tree.specs.Run.{State, Scope, turn, exec_all}
use Rattle.c_tree.specs.declared.expr.BinOp.{BinOp}
use Rattle.instrumentation.specs.Body.{full}
use Rattle.instrumentation_laws.specs.OwnNames.{begins}
use Rattle.instrumentation_laws.specs.AccessList.{cell_access, cell_write, tag}
use Rattle.instrumentation_laws.specs.Setting.{scope_of}
use Rattle.instrumentation_laws.proofs.Names.{same_word}
use Rattle.pass_laws.specs.Countable.{AreOwn}
use Rattle.pass_laws.specs.Going.{GoesTo}
use Rattle.pass_laws.specs.Places.{IsPlace}
use Rattle.pass_laws.proofs.Going.{must_one}
use Rattle.pass_laws.proofs.Renamed.{names, copied_vars}
use Rattle.pass_laws.proofs.Standing.{access_here, below_here}
use Rattle.instrumentation.specs.Subscripts.{by_cell}
use Rattle.instrumentation.specs.Names.{written}
use Rattle.instrumentation.specs.Tables.{no_reads, one_more, count_writes, walk_all}
use Rattle.inspection_laws.specs.Inspected.{writes_array, writes_before}
use Rattle.instrumentation_laws.specs.IndexedList.{all_reads, index_reads, read_access, tagged_all}
use Rattle.inspection_laws.specs.Walked.{IsWalkedTarget, AreWalked, HasTables, Numbers}
use Rattle.instrumentation_laws.proofs.Outcomes.{GoesOr}
use Rattle.inspection_laws.proofs.Walks.{or_goes, walk_every}
use Rattle.inspection_laws.proofs.Inspecting.{before_more}
use Rattle.inspection_laws.proofs.Entries.{one_more_is}
use Rattle.inspection_laws.proofs.Second.{before_few}

or_none : (x y : Bool) → (x || y) ≡ false → (x ≡ false) × (y ≡ false)
or_none true y e = absurd (true≢false e)
or_none false y e = (refl, e)

abbrev IsRead : Access → Type 0
IsRead x = x.writes ≡ false

abbrev AllRead : List Access → Type 0
AllRead [] = Unit {0}
AllRead (x ∷ xs) = IsRead x × AllRead xs

all_read_join : (xs ys : List Access) → AllRead xs → AllRead ys → AllRead (xs ++ ys)
all_read_join [] ys h g = g
all_read_join (x ∷ xs) ys h g = (h.0, all_read_join xs ys h.1 g)

index_read : (number : Word → ℕ) (es : PlainExprs) (vs : Vars) → AllRead (index_reads number es vs)
index_read number no_exprs vs = tt
index_read number (more_exprs e es) vs = chosen e (index_read number es vs)
  where
    chosen : (e : PlainExpr) → AllRead (index_reads number es vs) → AllRead (by_cell e (λ p at. cell_access number p at vs false ∷ index_reads number es vs) (index_reads number es vs))
    chosen (cell p at) h = (refl, h)
    chosen (lit n) h = h
    chosen (var x) h = h
    chosen (un op e) h = h
    chosen (bin op e g) h = h
    chosen (cast e) h = h
    chosen (test rel e g) h = h
    chosen (umin e g) h = h
    chosen (umax e g) h = h
    chosen (least e g) h = h
    chosen (greatest e g) h = h
    chosen (widen e) h = h
    chosen (big high low) h = h

reads_read : (arrays : List Array) (m : Memory) (number : Word → ℕ) (e : PlainExpr) (vs : Vars) → AllRead (all_reads arrays m number e vs)
reads_read arrays m number (lit n) vs = tt
reads_read arrays m number (var x) vs = tt
reads_read arrays m number (cell x at) vs = all_read_join (index_reads number at vs) (read_access arrays m number x at vs ∷ []) (index_read number at vs) (refl, tt)
reads_read arrays m number (un op a) vs = reads_read arrays m number a vs
reads_read arrays m number (bin op a b) vs = all_read_join (all_reads arrays m number a vs) (all_reads arrays m number b vs) (reads_read arrays m number a vs) (reads_read arrays m number b vs)
reads_read arrays m number (cast a) vs = reads_read arrays m number a vs
reads_read arrays m number (test rel a b) vs = all_read_join (all_reads arrays m number a vs) (all_reads arrays m number b vs) (reads_read arrays m number a vs) (reads_read arrays m number b vs)
reads_read arrays m number (umin a b) vs = all_read_join (all_reads arrays m number a vs) (all_reads arrays m number b vs) (reads_read arrays m number a vs) (reads_read arrays m number b vs)
reads_read arrays m number (umax a b) vs = all_read_join (all_reads arrays m number a vs) (all_reads arrays m number b vs) (reads_read arrays m number a vs) (reads_read arrays m number b vs)
reads_read arrays m number (least a b) vs = tt
reads_read arrays m number (greatest a b) vs = tt
reads_read arrays m number (widen a) vs = tt
reads_read arrays m number (big high low) vs = tt

module _ (arrays : List Array) (number : Word → ℕ) (wides : List Word) (fault : Option Upset) (a : ℕ) (has : HasTables arrays wides a) (m : Memory) (params base : Vars) (place : IsPlace params base) (own_params : AreOwn params)
    (whole : List Tagged) (short : length whole < 2 ^ 63) (from : State) where
  abbrev list : List Access
  list = untagged whole

  abbrev sc : Scope
  sc = scope_of arrays wides fault

  abbrev At : ℕ → State → Type 0
  At = Numbers list a from

  pushed : (pre : List Tagged) (t : Tagged) → suc (length pre) ≡ length (pre ++ t ∷ [])
  pushed pre t = let q = length_push pre t in omega arith

  -- reads change nothing
  over_reads : (k : ℕ) (vs : Vars) (xs : List Access) (pre rest : List Tagged) (s : State) → AllRead xs → pre ++ (map (tag k vs) xs ++ rest) ≡ whole → At (length pre) s → At (length (pre ++ map (tag k vs) xs)) s
  over_reads k vs [] pre rest s h is p = subst (λ l. At (length l) s) (sym (append-nil pre)) p
  over_reads k vs (x ∷ xs) pre rest s h is p =
      let there : at list (length pre) ≡ x = access_here whole pre (tag k vs x) (map (tag k vs) xs ++ rest) is in
      let none : writes_array list a (length pre) ≡ false = ap (λ (y : Access). y.writes && (y.array == a)) there ∙ ap (λ b. b && (x.array == a)) h.0 in
      let same : writes_before list a (suc (length pre)) ≡ writes_before list a (length pre) = (let q = before_more list a [] (length pre) false none in omega arith) in
      let next : At (length (pre ++ tag k vs x ∷ [])) s = subst (λ n. At n s) (pushed pre (tag k vs x)) (record { keeps = p.keeps; numbers = p.numbers ∙ sym same }) in
      subst (λ l. At (length l) s) (append_assoc pre (tag k vs x ∷ []) (map (tag k vs) xs))
      (over_reads k vs xs (pre ++ tag k vs x ∷ []) rest s h.1 (append_assoc pre (tag k vs x ∷ []) (map (tag k vs) xs ++ rest) ∙ is) next)

  module _ (loops : Vars) (own_loops : AreOwn loops) (shallow : length (names loops) < 2 ^ 64) where
    abbrev env : Vars
    env = copied_vars loops ++ base

    abbrev here : Vars
    here = loops ++ params

    write_step : (k : ℕ) (x : Word) (es : PlainExprs) (pre rest : List Tagged) (s : State) → pre ++ tag k here (cell_access number x es here true) ∷ rest ≡ whole → At (length pre) s →
        GoesTo (At (length (pre ++ tag k here (cell_access number x es here true) ∷ []))) (exec_all sc (stmts_of (count_writes number a (names loops) (cell x es))) env s)
    write_step k x es pre rest s is p =
        subst (λ n. GoesTo (At n) (exec_all sc (stmts_of (count_writes number a (names loops) (cell x es))) env s)) (pushed pre (tag k here (cell_access number x es here true))) (chosen (nat_eq (number x) a) refl)
      where
        there : at list (length pre) ≡ cell_access number x es here true
        there = access_here whole pre (tag k here (cell_access number x es here true)) rest is

        hit : (b : Bool) → nat_eq (number x) a ≡ b → writes_array list a (length pre) ≡ b
        hit b e = ap (λ (y : Access). y.writes && (y.array == a)) there ∙ e

        chosen : (b : Bool) → nat_eq (number x) a ≡ b → GoesTo (At (suc (length pre))) (exec_all sc (stmts_of (if b then one_more a ∷ [] else [])) env s)
        chosen true e =
            let more : writes_before list a (suc (length pre)) ≡ writes_before list a (length pre) + 1 = before_more list a [] (length pre) true (hit true e) in
            let few : writes_before list a (length pre) ≤ length pre = before_few list a (length pre) in
            let l : length pre < length whole = below_here whole pre (tag k here (cell_access number x es here true)) rest is in
            let so_far : s.words (written a) ≡ writes_before list a (length pre) = p.numbers in
            must_one sc (At (suc (length pre))) (one_more a) env s (subst (GoesTo (At (suc (length pre)))) (sym (one_more_is sc a has env s (omega arith)))
            (record {
              keeps = record {
                begun = p.keeps.begun;
                memory = p.keeps.memory;
                accesses = p.keeps.accesses;
                wides = p.keeps.wides;
                made = p.keeps.made;
                words = λ y e. ap (λ b. cond b (s.words (written a) + 1) (s.words y)) (or_none (bytes_eq (written a) y) (begins (codes "bal_cx") y) e).0 ∙ p.keeps.words y e;
                tables = p.keeps.tables;
              };
              numbers = ap (λ b. cond b (s.words (written a) + 1) (s.words (written a))) (same_word (written a)) ∙ ap (λ n. n + 1) so_far ∙ sym more;
            }))
        chosen false e =
            let same : writes_before list a (suc (length pre)) ≡ writes_before list a (length pre) = (let q = before_more list a [] (length pre) false (hit false e) in omega arith) in
            record { keeps = p.keeps; numbers = p.numbers ∙ sym same }

    target_step : (k : ℕ) (t : PlainExpr) (pre rest : List Tagged) (s : State) → IsWalkedTarget t here → pre ++ (map (tag k here) (cell_write number t here) ++ rest) ≡ whole → At (length pre) s →
        GoesTo (At (length (pre ++ map (tag k here) (cell_write number t here)))) (exec_all sc (stmts_of (count_writes number a (names loops) t)) env s)
    target_step k (var x) pre rest s h is p = subst (λ l. At (length l) s) (sym (append-nil pre)) p
    target_step k (cell x es) pre rest s h is p = write_step k x es pre rest s is p
    target_step k (lit n) pre rest s h is p = absurd h
    target_step k (un op e) pre rest s h is p = absurd h
    target_step k (bin op e g) pre rest s h is p = absurd h
    target_step k (cast e) pre rest s h is p = absurd h
    target_step k (test rel e g) pre rest s h is p = absurd h
    target_step k (umin e g) pre rest s h is p = absurd h
    target_step k (umax e g) pre rest s h is p = absurd h
    target_step k (least e g) pre rest s h is p = absurd h
    target_step k (greatest e g) pre rest s h is p = absurd h
    target_step k (widen e) pre rest s h is p = absurd h
    target_step k (big high low) pre rest s h is p = absurd h

    assign_step : (k : ℕ) (t : PlainExpr) (op : Option BinOp) (e : PlainExpr) (pre rest : List Tagged) (s : State) → IsWalkedTarget t here →
        pre ++ (map (tag k here) (all_reads arrays m number (full t op e) here ++ cell_write number t here) ++ rest) ≡ whole → At (length pre) s →
        GoesTo (At (length (pre ++ map (tag k here) (all_reads arrays m number (full t op e) here ++ cell_write number t here)))) (exec_all sc (stmts_of (no_reads (names loops) (full t op e) ++ count_writes number a (names loops) t)) env s)
    assign_step k t op e pre rest s h is p =
        let ra : List Tagged = map (tag k here) (all_reads arrays m number (full t op e) here) in
        let rb : List Tagged = map (tag k here) (cell_write number t here) in
        let split : map (tag k here) (all_reads arrays m number (full t op e) here ++ cell_write number t here) ≡ ra ++ rb = map-append (tag k here) (all_reads arrays m number (full t op e) here) (cell_write number t here) in
        let is2 : pre ++ (ra ++ (rb ++ rest)) ≡ whole = ap (λ l. pre ++ l) (sym (append_assoc ra rb rest) ∙ ap (λ l. l ++ rest) (sym split)) ∙ is in
        subst (λ l. GoesTo (At (length l)) (exec_all sc (stmts_of (count_writes number a (names loops) t)) env s)) (append_assoc pre ra rb ∙ ap (λ l. pre ++ l) (sym split))
        (target_step k t (pre ++ ra) rest s h (append_assoc pre ra (rb ++ rest) ∙ is2) (over_reads k here (all_reads arrays m number (full t op e) here) pre (rb ++ rest) s (reads_read arrays m number (full t op e) here) is2 p))

  turn_step : (n : ℕ) (s : State) → At n s → GoesTo (At n) (turn s)
  turn_step n s p = chosen s.begun
    where
      chosen : (b : Bool) → At n (cond b (record s { body_turns = s.body_turns + 1 }) (record s { prologue_turns = s.prologue_turns + 1 }))
      chosen true = record { keeps = record { begun = p.keeps.begun; memory = p.keeps.memory; accesses = p.keeps.accesses; wides = p.keeps.wides; made = p.keeps.made; words = p.keeps.words; tables = p.keeps.tables }; numbers = p.numbers }
      chosen false = record { keeps = record { begun = p.keeps.begun; memory = p.keeps.memory; accesses = p.keeps.accesses; wides = p.keeps.wides; made = p.keeps.made; words = p.keeps.words; tables = p.keeps.tables }; numbers = p.numbers }

  -- the whole first walk
  pub first_walk : (body : PlainStmts) (s : State) → AreWalked arrays number body params → tagged_all arrays m number 0 body params ≡ whole → At 0 s →
      GoesOr (λ e t. ⊥) (At (length whole)) (exec_all sc (stmts_of (walk_all no_reads (count_writes number a) [] body)) base s)
  first_walk body s h is p =
      subst (λ l. GoesOr (λ e t. ⊥) (At (length l)) (exec_all sc (stmts_of (walk_all no_reads (count_writes number a) [] body)) base s)) is
      (walk_every sc arrays m number params base place own_params whole no_reads (count_writes number a) (λ e t. ⊥) At
      (λ n s q. or_goes (λ e t. ⊥) (At n) (turn s) (turn_step n s q))
      (λ loops o l k t op e pre rest s h d is q. or_goes (λ e t. ⊥) (At (length (pre ++ map (tag k (loops ++ params)) (all_reads arrays m number (full t op e) (loops ++ params) ++ cell_write number t (loops ++ params))))) (exec_all sc (stmts_of (no_reads (names loops) (full t op e) ++ count_writes number a (names loops) t)) (copied_vars loops ++ base) s) (assign_step loops o l k t op e pre rest s h is q))
      body 0 [] [] [] s h tt (omega arith) (append-nil (tagged_all arrays m number 0 body params) ∙ is) p)
