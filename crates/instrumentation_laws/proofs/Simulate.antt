-- The instrumented text does what the source does and ends where it ends, from alike states and under any fault.
use Rattle.std.proofs.Common.{◌≡◌, ℕ, ◌+◌, ◌^◌, ◌<◌, Bool, true, false, cond, if◌then◌else◌, List, [], ◌∷◌, refl, sym, ap, ◌∙◌, arith, ℤ, Option, None}
use Rattle.std.specs.Prelude.{bytes_eq}
use Rattle.c_tree.specs.Plain.{Word, PlainExpr, lit, var, cell, un, bin, cast, test, umin, umax, least, greatest, widen, big, PlainExprs, PlainStmt, loop, choice, assign, table, begin, check, verdict, PlainStmts, no_stmts, more_stmts}
use Rattle.c_tree.specs.Trees.{stmts_of}
use Rattle.c_tree.specs.Values.{Vars, signed, loop_values}
use Rattle.c_tree.specs.Arrays.{Array}
use Rattle.c_tree.specs.Fault.{Upset}
use Rattle.c_tree.specs.Instances.{sites, sites_all}
use Rattle.c_tree.specs.Run.{State, Run, ◌>>◌, Scope, stores, within, put, word, assigned, set_word, turn, over, exec, exec_all}
use Rattle.c_tree.specs.declared.expr.BinOp.{BinOp}
use Rattle.instrumentation.specs.Names.{result}
use Rattle.instrumentation.specs.Body.{store_text, full, loads_text, pure, reads_in, assigned_text, instrument, instrument_all}
use Rattle.instrumentation_laws.specs.OwnNames.{own, AllMayLoop}
use Rattle.instrumentation_laws.specs.RegularSources.{IsArray, AreRegular, IsTarget}
use Rattle.instrumentation_laws.specs.Sources.{IsData, IsSource, AreSource}
use Rattle.instrumentation_laws.specs.AccessList.{signed_all, tests_hold}
use Rattle.instrumentation_laws.specs.Pieces.{Declares, Piece}
use Rattle.instrumentation_laws.specs.Setting.{scope_of}
use Rattle.instrumentation_laws.proofs.Names.{own_may, result_not_own, apart_as', own_no_piece}
use Rattle.instrumentation_laws.proofs.Steps.{exec_join, exec_one, set_value, defined, store_is, cell_assigned, var_assigned, all_hold_is}
use Rattle.run_laws.proofs.Alike.{Alike}
use Rattle.instrumentation_laws.proofs.Likeness.{Like, like_then, like_second, Agree, within_store}
use Rattle.instrumentation_laws.proofs.Loads.{Loaded, loads_like}

-- ---- assignments

module _ (arrays : List Array) (number : Word → ℕ) (wides : List Word) (fault : Option Upset) (names : Declares arrays number wides) (extents : Word → PlainExprs) (inspected : ℕ → Bool) where
  abbrev source_scope : Scope
  source_scope = scope_of arrays [] fault

  abbrev tc : Scope
  tc = scope_of arrays wides fault

  put_alike : (x : Word) (a : ℕ) (s u : State) → Alike own s u → Alike own (record s { words = put s.words x a }) (record u { words = put u.words x a })
  put_alike x a s u h = record { memory = h.memory; accesses = h.accesses; begun = h.begun; words = λ y o. chosen y (bytes_eq x y) (h.words y o) }
    where
      chosen : (y : Word) (b : Bool) → s.words y ≡ u.words y → cond b a (s.words y) ≡ cond b a (u.words y)
      chosen y true e = refl
      chosen y false e = e

  var_like : (x : Word) (op : Option BinOp) (e : PlainExpr) (piece : List PlainStmt) (vs : Vars) (s u : State) → own x ≡ true → IsData arrays number extents inspected (full (var x) op e) vs → AllMayLoop vs → reads_in (full (var x) op e) < 2 ^ 64 → Alike own s u →
      Like inspected Agree (assigned source_scope (var x) op e vs s) (exec_all tc (stmts_of (assigned_text number extents piece (var x) (full (var x) op e))) vs u)
  var_like x op e piece vs s u own_x d o fits h =
      let v : PlainExpr = full (var x) op e in
      rw (var_assigned arrays fault x op e vs s, exec_join tc (loads_text number extents v 0) (assign (var x) None (pure v 0) ∷ []) vs u)
      (like_then inspected (Loaded tc (pure v 0) vs 0 (reads_in v) u) Agree (word source_scope v vs s) (exec_all tc (stmts_of (loads_text number extents v 0)) vs u) (set_word x) (λ b t. exec_all tc (stmts_of (assign (var x) None (pure v 0) ∷ [])) vs t)
      (loads_like arrays number wides fault names extents inspected v 0 vs s u d o (omega arith) h)
      (λ a t b w r. rw (exec_one tc (assign (var x) None (pure v 0)) vs w, set_value tc x (pure v 0) vs w a (names.own_words x own_x) (r.gives w (λ z o. refl) (λ i p q. refl)))
      (put_alike x a t w r.alike)))

  finished : (piece : List PlainStmt) (p : Piece tc piece) (a v : ℕ) (vs : Vars) (s u : State) → Alike own s u → Alike own s (defined a (p.to vs u))
  finished piece p a v vs s u h = record {
    memory = h.memory ∙ sym (p.memory vs u);
    accesses = h.accesses ∙ sym (p.accesses vs u);
    begun = h.begun ∙ sym (p.begun vs u);
    words = λ x o. h.words x o ∙ sym (p.words vs u x (own_no_piece x o));
  }

  target_like : (x : Word) (at : PlainExprs) (op : Option BinOp) (e : PlainExpr) (piece : List PlainStmt) (p : Piece tc piece) (vs : Vars) (s u : State) → (a : IsArray arrays number x) → AreRegular at vs → IsData arrays number extents inspected (full (cell x at) op e) vs → AllMayLoop vs → reads_in (full (cell x at) op e) < 2 ^ 64 → Alike own s u →
      Like inspected Agree (assigned source_scope (cell x at) op e vs s) (exec_all tc (stmts_of (assigned_text number extents piece (cell x at) (full (cell x at) op e))) vs u)
  target_like x at op e piece p vs s u a plain d o fits h =
      let v : PlainExpr = full (cell x at) op e in
      rw (cell_assigned arrays number [] fault x at op e vs s a plain, exec_join tc (loads_text number extents v 0) (store_text (number x) piece x at (pure v 0)) vs u)
      (like_then inspected (Loaded tc (pure v 0) vs 0 (reads_in v) u) Agree (word source_scope v vs s) (exec_all tc (stmts_of (loads_text number extents v 0)) vs u) (λ n. within a.array (signed_all at vs) (λ k c. stores source_scope k c n)) (λ b t. exec_all tc (stmts_of (store_text (number x) piece x at (pure v 0))) vs t)
      (loads_like arrays number wides fault names extents inspected v 0 vs s u d o (omega arith) h)
      (λ n t b w r. rw (store_is arrays number wides fault names piece p x at (pure v 0) vs w n a plain o (r.gives w (λ z o. refl) (λ i p q. refl)))
      (like_second inspected Agree Agree (within a.array (signed_all at vs) (λ k c. stores source_scope k c n) t) (within a.array (signed_all at vs) (λ k c. stores tc k c n) (record w { words = put w.words result n })) (λ b y. tt) (λ b y. defined a.array.0 (p.to vs y))
      (within_store inspected tc a.array (signed_all at vs) n t (record w { words = put w.words result n })
      (record { memory = r.alike.memory; accesses = r.alike.accesses; begun = r.alike.begun; words = λ y e. r.alike.words y e ∙ sym (ap (λ b. cond b n (w.words y)) (apart_as' own result y result_not_own e)) }))
      (λ b t b' y k. finished piece p a.array.0 n vs t y k))))

  turn_alike : (s u : State) → Alike own s u → Like inspected Agree (turn s) (turn u)
  turn_alike s u h = chosen s.begun u.begun
    where
      chosen : (b c : Bool) → Alike own (cond b (record s { body_turns = s.body_turns + 1 }) (record s { prologue_turns = s.prologue_turns + 1 })) (cond c (record u { body_turns = u.body_turns + 1 }) (record u { prologue_turns = u.prologue_turns + 1 }))
      chosen true true = record { memory = h.memory; accesses = h.accesses; begun = h.begun; words = h.words }
      chosen true false = record { memory = h.memory; accesses = h.accesses; begun = h.begun; words = h.words }
      chosen false true = record { memory = h.memory; accesses = h.accesses; begun = h.begun; words = h.words }
      chosen false false = record { memory = h.memory; accesses = h.accesses; begun = h.begun; words = h.words }

  over_like : (f g : ℤ → Run (Unit {0})) (vals : List ℤ) (s u : State) → Alike own s u → ((v : ℤ) (t w : State) → Alike own t w → Like inspected Agree (f v t) (g v w)) → Like inspected Agree (over f vals s) (over g vals u)
  over_like f g [] s u h k = h
  over_like f g (v ∷ vals) s u h k = like_then inspected Agree Agree (f v s) (g v u) (λ b. over f vals) (λ b. over g vals) (k v s u h) (λ a t b w r. over_like f g vals t w r k)

  choice_like : (b : Bool) (p q : Run (Unit {0})) (p' q' : Run (Unit {0})) (s u : State) → Like inspected Agree (p s) (p' u) → Like inspected Agree (q s) (q' u) → Like inspected Agree ((if b then p else q) s) ((if b then p' else q') u)
  choice_like true p q p' q' s u h k = h
  choice_like false p q p' q' s u h k = k

module _ (arrays : List Array) (number : Word → ℕ) (wides : List Word) (fault : Option Upset) (names : Declares arrays number wides) (extents : Word → PlainExprs) (inspected : ℕ → Bool) (pieces : ℕ → List PlainStmt) (good : (k : ℕ) → Piece (scope_of arrays wides fault) (pieces k)) where
  abbrev us : Scope
  us = scope_of arrays wides fault

  abbrev ss : Scope
  ss = scope_of arrays [] fault

  assign_like : (t : PlainExpr) (op : Option BinOp) (e : PlainExpr) (k : ℕ) (vs : Vars) (s u : State) → IsTarget arrays number t vs → IsData arrays number extents inspected (full t op e) vs → AllMayLoop vs → reads_in (full t op e) < 2 ^ 64 → Alike own s u →
      Like inspected Agree (assigned ss t op e vs s) (exec_all us (stmts_of (assigned_text number extents (pieces k) t (full t op e))) vs u)
  assign_like (var x) op e k vs s u t d o fits h = var_like arrays number wides fault names extents inspected x op e (pieces k) vs s u t d o fits h
  assign_like (cell x at) op e k vs s u t d o fits h = target_like arrays number wides fault names extents inspected x at op e (pieces k) (good k) vs s u t.0 t.1 d o fits h
  assign_like (lit n) op e k vs s u t d o fits h = absurd t
  assign_like (un o' a) op e k vs s u t d o fits h = absurd t
  assign_like (bin o' a b) op e k vs s u t d o fits h = absurd t
  assign_like (cast a) op e k vs s u t d o fits h = absurd t
  assign_like (test rel a b) op e k vs s u t d o fits h = absurd t
  assign_like (umin a b) op e k vs s u t d o fits h = absurd t
  assign_like (umax a b) op e k vs s u t d o fits h = absurd t
  assign_like (least a b) op e k vs s u t d o fits h = absurd t
  assign_like (greatest a b) op e k vs s u t d o fits h = absurd t
  assign_like (widen a) op e k vs s u t d o fits h = absurd t
  assign_like (big high low) op e k vs s u t d o fits h = absurd t

  mutual
    pub simulates : (p : PlainStmt) (k : ℕ) (vs : Vars) (s u : State) → IsSource arrays number extents inspected p vs → AllMayLoop vs → Alike own s u → Like inspected Agree (exec ss p vs s) (exec_all us (stmts_of (instrument number extents pieces k p)) vs u)
    simulates (loop x lo rel hi body) k vs s u h o a =
        let f : ℤ → Run (Unit {0}) = λ v. turn >> exec_all ss body ((x, v) ∷ vs) in
        let g : ℤ → Run (Unit {0}) = λ v. turn >> exec_all us (stmts_of (instrument_all number extents pieces k body)) ((x, v) ∷ vs) in
        rw (exec_one us (loop x lo rel hi (stmts_of (instrument_all number extents pieces k body))) vs u)
        (over_like arrays number wides fault names extents inspected f g (loop_values (signed lo vs) rel (signed hi vs)) s u a
        (λ v t w r. like_then inspected Agree Agree (turn t) (turn w) (λ b. exec_all ss body ((x, v) ∷ vs)) (λ b. exec_all us (stmts_of (instrument_all number extents pieces k body)) ((x, v) ∷ vs)) (turn_alike arrays number wides fault names extents inspected t w r)
        (λ b t b' w r. simulates_all body k ((x, v) ∷ vs) t w (h.1 v) (own_may x h.0, o) r)))
    simulates (choice ts first other) k vs s u h o a =
        rw (exec_one us (choice ts (stmts_of (instrument_all number extents pieces k first)) (stmts_of (instrument_all number extents pieces (k + sites_all first) other))) vs u, all_hold_is ss ts vs s h.0, all_hold_is us ts vs u h.0)
        (choice_like arrays number wides fault names extents inspected (tests_hold ts vs) (exec_all ss first vs) (exec_all ss other vs) (exec_all us (stmts_of (instrument_all number extents pieces k first)) vs) (exec_all us (stmts_of (instrument_all number extents pieces (k + sites_all first) other)) vs) s u
        (simulates_all first k vs s u h.1 o a) (simulates_all other (k + sites_all first) vs s u h.2 o a))
    simulates (assign t op e) k vs s u h o a = assign_like t op e k vs s u h.0 h.1 o h.2 a
    simulates (table x len) k vs s u h o a = absurd h
    simulates begin k vs s u h o a = absurd h
    simulates (check x extent n) k vs s u h o a = absurd h
    simulates verdict k vs s u h o a = absurd h

    pub simulates_all : (ps : PlainStmts) (k : ℕ) (vs : Vars) (s u : State) → AreSource arrays number extents inspected ps vs → AllMayLoop vs → Alike own s u → Like inspected Agree (exec_all ss ps vs s) (exec_all us (stmts_of (instrument_all number extents pieces k ps)) vs u)
    simulates_all no_stmts k vs s u h o a = a
    simulates_all (more_stmts p ps) k vs s u h o a =
        rw (exec_join us (instrument number extents pieces k p) (instrument_all number extents pieces (k + sites p) ps) vs u)
        (like_then inspected Agree Agree (exec ss p vs s) (exec_all us (stmts_of (instrument number extents pieces k p)) vs u) (λ b. exec_all ss ps vs) (λ b t. exec_all us (stmts_of (instrument_all number extents pieces (k + sites p) ps)) vs t)
        (simulates p k vs s u h.0 o a) (λ b t b' w r. simulates_all ps (k + sites p) vs t w h.1 o r))
