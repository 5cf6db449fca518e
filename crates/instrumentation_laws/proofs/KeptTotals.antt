-- The totals of an instrumented text are those of its accesses so far, under any fault, and it goes on while its list is clean.
use Rattle.std.proofs.Common.{◌≡◌, ℕ, ◌+◌, ◌^◌, ◌<◌, arith, Bool, true, false, cond, if◌then◌else◌, List, [], ◌∷◌, ◌++◌, map, sym, ap, ◌∙◌, subst, append_assoc, ℤ, Option, None}
use Rattle.std.proofs.lemmas.List.{append-nil, map-append}
use Rattle.c_tree.specs.Plain.{Word, PlainExpr, lit, var, cell, un, bin, cast, test, umin, umax, least, greatest, widen, big, PlainExprs, PlainStmt, loop, choice, assign, table, begin, check, verdict, PlainStmts, no_stmts, more_stmts}
use Rattle.c_tree.specs.Trees.{stmts_of}
use Rattle.c_tree.specs.Values.{Vars, signed, loop_values}
use Rattle.c_tree.specs.Arrays.{Array, Memory}
use Rattle.c_tree.specs.Fault.{Upset}
use Rattle.c_tree.specs.Instances.{Tagged, sites, sites_all}
use Rattle.c_tree.specs.Run.{State, End, goes_on, Run, ◌>>◌, Scope, word, turn, exec_all}
use Rattle.instrumentation.specs.Body.{store_text, full, reads_in, loads_text, pure, assigned_text, instrument, instrument_all}
use Rattle.instrumentation_laws.specs.OwnNames.{piece_word, AllMayLoop}
use Rattle.instrumentation_laws.specs.RegularSources.{IsArray, IsTarget}
use Rattle.instrumentation_laws.specs.Sources.{IsData, IsSource, AreSource}
use Rattle.instrumentation_laws.specs.AccessList.{cell_access, cell_write, tag, tests_hold}
use Rattle.instrumentation_laws.specs.IndexedList.{all_reads, tagged, tagged_all}
use Rattle.instrumentation_laws.specs.Kept.{Kept, IsKept, Counts, Trust, Unseen}
use Rattle.instrumentation_laws.specs.Trusts.{TrustsExpr, TrustsTarget, Trusts, TrustsAll}
use Rattle.instrumentation_laws.specs.Pieces.{Declares, Piece}
use Rattle.instrumentation_laws.specs.Setting.{scope_of}
use Rattle.instrumentation_laws.proofs.Names.{own_may, own_no_piece, apart_as'}
use Rattle.instrumentation_laws.proofs.Outcomes.{GoesOr, then_or}
use Rattle.instrumentation_laws.proofs.Steps.{exec_join, exec_one, set_value, all_hold_is}
use Rattle.instrumentation_laws.proofs.KeptSteps.{At, Early, loads_counted, pure_goes, store_counted, turn_counted, over_counted}

module _ (arrays : List Array) (number : Word → ℕ) (wides : List Word) (fault : Option Upset) (names : Declares arrays number wides) (texts : Word → PlainExprs) (inspected : ℕ → Bool) (trust : Trust) (kept : Kept) (is_kept : IsKept kept) (whole : List Tagged) (start : ℕ → ℕ) (inputs : Memory) (extents : ℕ → List ℤ) (sizes : (x : Word) (a : IsArray arrays number x) → a.array.1.extents ≡ extents a.array.0) (unseen : Unseen trust fault whole) (pieces : ℕ → List PlainStmt)
    (good : (k : ℕ) → Piece (scope_of arrays wides fault) (pieces k)) (counts : (k : ℕ) → Counts kept (scope_of arrays wides fault) whole k (pieces k) (good k)) where
  abbrev vs_scope : Scope
  vs_scope = scope_of arrays wides fault

  abbrev worse : End → State → Type 0
  worse = Early arrays number wides fault names texts inspected trust kept is_kept whole start inputs extents sizes unseen

  abbrev Holds : List Tagged → State → Type 0
  Holds pre t = At arrays number wides fault names texts inspected trust kept is_kept whole start inputs extents sizes unseen pre t

  assign_counted : (t : PlainExpr) (e : PlainExpr) (k : ℕ) (vs : Vars) (pre rest : List Tagged) (s : State) → IsTarget arrays number t vs → IsData arrays number texts inspected e vs → TrustsTarget number trust t → TrustsExpr number trust e → AllMayLoop vs → reads_in e < 2 ^ 64 →
      pre ++ (map (tag k vs) (all_reads arrays inputs number e vs ++ cell_write number t vs) ++ rest) ≡ whole → Holds pre s →
      GoesOr worse (Holds (pre ++ map (tag k vs) (all_reads arrays inputs number e vs ++ cell_write number t vs))) (exec_all vs_scope (stmts_of (assigned_text number texts (pieces k) t e)) vs s)
  assign_counted (var x) e k vs pre rest s t d free tr o fits is h =
      let r : List Tagged = map (tag k vs) (all_reads arrays inputs number e vs) in
      let is0 : pre ++ (r ++ rest) ≡ whole = ap (λ l. pre ++ (map (tag k vs) l ++ rest)) (sym (append-nil (all_reads arrays inputs number e vs))) ∙ is in
      rw (exec_join vs_scope (loads_text number texts e 0) (assign (var x) None (pure e 0) ∷ []) vs s, append-nil (all_reads arrays inputs number e vs))
      (then_or worse (Holds (pre ++ r)) (Holds (pre ++ r)) (exec_all vs_scope (stmts_of (loads_text number texts e 0)) vs s) (λ b t. exec_all vs_scope (stmts_of (assign (var x) None (pure e 0) ∷ [])) vs t)
      (loads_counted arrays number wides fault names texts inspected trust kept is_kept whole start inputs extents sizes unseen e 0 k vs pre rest s d tr o (omega arith) is0 h)
      (λ y q. let v : (v : ℕ) × (word vs_scope (pure e 0) vs y ≡ goes_on v y) = pure_goes arrays number wides fault names texts inspected trust kept is_kept whole start inputs extents sizes unseen e 0 vs y in
      rw (exec_one vs_scope (assign (var x) None (pure e 0)) vs y, set_value vs_scope x (pure e 0) vs y v.0 (names.own_words x t) v.1)
      (record { begun = q.begun; made = q.made; used = q.used; defined = q.defined; follows = q.follows; ready = record { entries = q.ready.entries; counters = λ z e. ap (λ b. cond b v.0 (y.words z)) (apart_as' piece_word x z (own_no_piece x t) (is_kept.piece_words z e)) ∙ q.ready.counters z e }; steady = record { intact = q.steady.intact } })))
  assign_counted (cell x at) e k vs pre rest s t d free tr o fits is h =
      let r : List Tagged = map (tag k vs) (all_reads arrays inputs number e vs) in
      let w : Tagged = tag k vs (cell_access number x at vs true) in
      let split : map (tag k vs) (all_reads arrays inputs number e vs ++ cell_access number x at vs true ∷ []) ≡ r ++ w ∷ [] = map-append (tag k vs) (all_reads arrays inputs number e vs) (cell_access number x at vs true ∷ []) in
      let is2 : pre ++ (r ++ w ∷ rest) ≡ whole = ap (λ l. pre ++ l) (sym (append_assoc r (w ∷ []) rest) ∙ ap (λ l. l ++ rest) (sym split)) ∙ is in
      let all : pre ++ map (tag k vs) (all_reads arrays inputs number e vs ++ cell_access number x at vs true ∷ []) ≡ (pre ++ r) ++ w ∷ [] = ap (λ l. pre ++ l) split ∙ sym (append_assoc pre r (w ∷ [])) in
      rw (exec_join vs_scope (loads_text number texts e 0) (store_text (number x) (pieces k) x at (pure e 0)) vs s, all)
      (then_or worse (Holds (pre ++ r)) (Holds ((pre ++ r) ++ w ∷ [])) (exec_all vs_scope (stmts_of (loads_text number texts e 0)) vs s) (λ b t. exec_all vs_scope (stmts_of (store_text (number x) (pieces k) x at (pure e 0))) vs t)
      (loads_counted arrays number wides fault names texts inspected trust kept is_kept whole start inputs extents sizes unseen e 0 k vs pre (w ∷ rest) s d tr o (omega arith) is2 h)
      (λ y q. store_counted arrays number wides fault names texts inspected trust kept is_kept whole start inputs extents sizes unseen (pieces k) (good k) k x at e vs (pre ++ r) rest y (counts k) free o t.0 t.1 (append_assoc pre r (w ∷ rest) ∙ is2) q))
  assign_counted (lit n) e k vs pre rest s t d free tr o fits is h = absurd t
  assign_counted (un o' a) e k vs pre rest s t d free tr o fits is h = absurd t
  assign_counted (bin o' a b) e k vs pre rest s t d free tr o fits is h = absurd t
  assign_counted (cast a) e k vs pre rest s t d free tr o fits is h = absurd t
  assign_counted (test rel a b) e k vs pre rest s t d free tr o fits is h = absurd t
  assign_counted (umin a b) e k vs pre rest s t d free tr o fits is h = absurd t
  assign_counted (umax a b) e k vs pre rest s t d free tr o fits is h = absurd t
  assign_counted (least a b) e k vs pre rest s t d free tr o fits is h = absurd t
  assign_counted (greatest a b) e k vs pre rest s t d free tr o fits is h = absurd t
  assign_counted (widen a) e k vs pre rest s t d free tr o fits is h = absurd t
  assign_counted (big high low) e k vs pre rest s t d free tr o fits is h = absurd t

  choice_counted : (b : Bool) (p q : Run (Unit {0})) (xs ys : List Tagged) (pre rest : List Tagged) (s : State) → pre ++ ((if b then xs else ys) ++ rest) ≡ whole →
      (pre ++ (xs ++ rest) ≡ whole → GoesOr worse (Holds (pre ++ xs)) (p s)) → (pre ++ (ys ++ rest) ≡ whole → GoesOr worse (Holds (pre ++ ys)) (q s)) → GoesOr worse (Holds (pre ++ (if b then xs else ys))) ((if b then p else q) s)
  choice_counted true p q xs ys pre rest s is h g = h is
  choice_counted false p q xs ys pre rest s is h g = g is

  mutual
    pub run_counted : (p : PlainStmt) (k : ℕ) (vs : Vars) (pre rest : List Tagged) (s : State) → IsSource arrays number texts inspected p vs → Trusts number trust p → AllMayLoop vs → pre ++ (tagged arrays inputs number k p vs ++ rest) ≡ whole → Holds pre s →
        GoesOr worse (Holds (pre ++ tagged arrays inputs number k p vs)) (exec_all vs_scope (stmts_of (instrument number texts pieces k p)) vs s)
    run_counted (loop x lo rel hi body) k vs pre rest s h tr o is a =
        let f : ℤ → Run (Unit {0}) = λ v. turn >> exec_all vs_scope (stmts_of (instrument_all number texts pieces k body)) ((x, v) ∷ vs) in
        let list : ℤ → List Tagged = λ v. tagged_all arrays inputs number k body ((x, v) ∷ vs) in
        rw (exec_one vs_scope (loop x lo rel hi (stmts_of (instrument_all number texts pieces k body))) vs s)
        (over_counted arrays number wides fault names texts inspected trust kept is_kept whole start inputs extents sizes unseen f list
        (λ v pre rest s is a. then_or worse (Holds pre) (Holds (pre ++ list v)) (turn s) (λ b. exec_all vs_scope (stmts_of (instrument_all number texts pieces k body)) ((x, v) ∷ vs)) (turn_counted arrays number wides fault names texts inspected trust kept is_kept whole start inputs extents sizes unseen pre s a)
        (λ t r. run_counted_all body k ((x, v) ∷ vs) pre rest t (h.1 v) tr (own_may x h.0, o) is r))
        (loop_values (signed lo vs) rel (signed hi vs)) pre rest s is a)
    run_counted (choice ts first other) k vs pre rest s h tr o is a =
        rw (exec_one vs_scope (choice ts (stmts_of (instrument_all number texts pieces k first)) (stmts_of (instrument_all number texts pieces (k + sites_all first) other))) vs s, all_hold_is vs_scope ts vs s h.0)
        (choice_counted (tests_hold ts vs) (exec_all vs_scope (stmts_of (instrument_all number texts pieces k first)) vs) (exec_all vs_scope (stmts_of (instrument_all number texts pieces (k + sites_all first) other)) vs) (tagged_all arrays inputs number k first vs) (tagged_all arrays inputs number (k + sites_all first) other vs) pre rest s is
        (λ is. run_counted_all first k vs pre rest s h.1 tr.0 o is a) (λ is. run_counted_all other (k + sites_all first) vs pre rest s h.2 tr.1 o is a))
    run_counted (assign t op e) k vs pre rest s h tr o is a = assign_counted t (full t op e) k vs pre rest s h.0 h.1 tr.0 tr.1 o h.2 is a
    run_counted (table x len) k vs pre rest s h tr o is a = absurd h
    run_counted begin k vs pre rest s h tr o is a = absurd h
    run_counted (check x extent n) k vs pre rest s h tr o is a = absurd h
    run_counted verdict k vs pre rest s h tr o is a = absurd h

    pub run_counted_all : (ps : PlainStmts) (k : ℕ) (vs : Vars) (pre rest : List Tagged) (s : State) → AreSource arrays number texts inspected ps vs → TrustsAll number trust ps → AllMayLoop vs → pre ++ (tagged_all arrays inputs number k ps vs ++ rest) ≡ whole → Holds pre s →
        GoesOr worse (Holds (pre ++ tagged_all arrays inputs number k ps vs)) (exec_all vs_scope (stmts_of (instrument_all number texts pieces k ps)) vs s)
    run_counted_all no_stmts k vs pre rest s h tr o is a = rw (append-nil pre) a
    run_counted_all (more_stmts p ps) k vs pre rest s h tr o is a =
        let one : List Tagged = tagged arrays inputs number k p vs in
        let two : List Tagged = tagged_all arrays inputs number (k + sites p) ps vs in
        let is2 : pre ++ (one ++ (two ++ rest)) ≡ whole = ap (λ l. pre ++ l) (sym (append_assoc one two rest)) ∙ is in
        rw (exec_join vs_scope (instrument number texts pieces k p) (instrument_all number texts pieces (k + sites p) ps) vs s)
        (then_or worse (Holds (pre ++ one)) (Holds (pre ++ (one ++ two))) (exec_all vs_scope (stmts_of (instrument number texts pieces k p)) vs s) (λ b t. exec_all vs_scope (stmts_of (instrument_all number texts pieces (k + sites p) ps)) vs t)
        (run_counted p k vs pre (two ++ rest) s h.0 tr.0 o is2 a)
        (λ t r. subst (λ l. GoesOr worse (Holds l) (exec_all vs_scope (stmts_of (instrument_all number texts pieces (k + sites p) ps)) vs t)) (append_assoc pre one two)
        (run_counted_all ps (k + sites p) vs (pre ++ one) rest t h.1 tr.1 o (append_assoc pre one (two ++ rest) ∙ is2) r)))
