-- The prologue leaves each definition total at the sum over the cells of its array, and what pieces keep as it was.
use Rattle.std.proofs.Common.{◌≡◌, ℕ, suc, ◌+◌, ◌*◌, ◌%◌, ◌^◌, ◌<◌, ◌≤◌, Bool, true, false, cond, if◌then◌else◌, List, [], ◌∷◌, ◌++◌, length, refl, sym, ap, ◌∙◌, subst, arith, ℤ, Option, None, inl, inr, nat_lt}
use Rattle.std.specs.Prelude.{bytes_eq}
use Rattle.std.specs.List.{list_any}
use Rattle.std.proofs.lemmas.Bool.{cases_eq, cases_lt, lt-ltb, le-ltb}
use Rattle.c_tree.specs.Plain.{Word, var, cell, PlainExprs, PlainStmt, assign}
use Rattle.c_tree.specs.Trees.{stmts_of}
use Rattle.c_tree.specs.Values.{Vars}
use Rattle.c_tree.specs.Arrays.{Array, Memory, is_within}
use Rattle.c_tree.specs.Accesses.Definition.{Initial, Written}
use Rattle.c_tree.specs.Fault.{Upset}
use Rattle.c_tree.specs.Instances.{Tagged}
use Rattle.c_tree.specs.Run.{Event, State, Outcome, goes_on, ends, Run, and_then, Scope, loads, within, put, word, set_word, turn, exec, exec_all}
use Rattle.run_laws.specs.Logs.{accesses_in}
use Rattle.instrumentation.specs.Names.{register, count, use_total, definition_total}
use Rattle.instrumentation.specs.Passes.{coordinates_from}
use Rattle.instrumentation.specs.Prologue.{add_cell, cell_text, array_text, prologue_text}
use Rattle.instrumentation_laws.specs.OwnNames.{own, piece_word, AllMayLoop}
use Rattle.instrumentation_laws.specs.AccessList.{signed_all}
use Rattle.instrumentation_laws.specs.Pieces.{Declares, Piece, uses_in}
use Rattle.instrumentation_laws.specs.RunningTotals.{read_sum, written_sum, Follows}
use Rattle.instrumentation_laws.specs.PrologueTotals.{coordinate_vars, IsDeclared, AreDeclared, initial_sum, Left}
use Rattle.instrumentation_laws.specs.Kept.{Kept, Ready, IsKept, CountsCells, AreCellPieces, views, Trust, Totals}
use Rattle.instrumentation_laws.specs.Setting.{scope_of}
use Rattle.instrumentation_laws.proofs.Names.{same_word, apart_as', register_not_own, register_no_piece, register_may_not, not_in, own_no_piece, definition_apart, definition_use, count_use, count_definition}
use Rattle.instrumentation_laws.proofs.Outcomes.{MustGo, going_then}
use Rattle.instrumentation_laws.proofs.OneMore.{follows_start}
use Rattle.instrumentation_laws.proofs.Steps.{exec_join, load_before, set_is, cell_is}
use Rattle.instrumentation_laws.proofs.CellLoops.{cells_go, own_under, subscripts_regular, subscripts_are}

within_go : {A : Type 0} (a : ℕ × Array) (cs : List ℤ) (go : ℕ → List ℤ → Run A) (s : State) → is_within cs a.1.extents ≡ true → within a cs go s ≡ go a.0 cs s
within_go a cs go s w = rw w refl

add_cell_is : (sc : Scope) (a : ℕ) (vs : Vars) (s : State) → AllMayLoop vs → list_any (bytes_eq (definition_total a)) sc.wides ≡ true →
    exec_all sc (stmts_of (add_cell a)) vs s ≡ goes_on tt (record s { wides = put s.wides (definition_total a) ((s.wides (definition_total a) + (s.words (register 0) * s.wides count) % 2 ^ 128) % 2 ^ 128) })
add_cell_is sc a vs s o h = rw (h, not_in vs (register 0) o (register_may_not 0)) refl

more_filled : (w n v k x y : ℕ) → w ≡ n % 2 ^ 128 → x ≡ v → y ≡ k → (w + (x * y) % 2 ^ 128) % 2 ^ 128 ≡ (n + v * k) % 2 ^ 128
more_filled w n v k x y e g h = rw (g, h) (omega arith)

-- while array a is read, with the sum so far
record Filling (kept : Kept) (base : State) (a n : ℕ) (t : State) : Type 0 where
  tables : t.tables ≡ base.tables
  held : (x : Word) → kept.holds x ≡ true → t.words x ≡ base.words x
  memory : t.memory ≡ base.memory
  accesses : t.accesses ≡ base.accesses
  begun : t.begun ≡ false
  words : (x : Word) → own x ≡ true → t.words x ≡ base.words x
  wides : (x : Word) → bytes_eq count x ≡ false → bytes_eq (definition_total a) x ≡ false → t.wides x ≡ base.wides x
  total : t.wides (definition_total a) ≡ n % 2 ^ 128

turn_filling : (kept : Kept) (base : State) (a n : ℕ) (s : State) → Filling kept base a n s → MustGo (λ b t. Filling kept base a n t) (turn s)
turn_filling kept base a n s h = chosen s.begun
  where
    chosen : (b : Bool) → Filling kept base a n (cond b (record s { body_turns = s.body_turns + 1 }) (record s { prologue_turns = s.prologue_turns + 1 }))
    chosen true = record { tables = h.tables; held = h.held; memory = h.memory; accesses = h.accesses; begun = h.begun; words = h.words; wides = h.wides; total = h.total }
    chosen false = record { tables = h.tables; held = h.held; memory = h.memory; accesses = h.accesses; begun = h.begun; words = h.words; wides = h.wides; total = h.total }

module _ (arrays : List Array) (number : Word → ℕ) (wides : List Word) (fault : Option Upset) (names : Declares arrays number wides) (kept : Kept) (is_kept : IsKept kept) (whole : List Tagged) (vs : Vars) (o : AllMayLoop vs) (extents : ℕ → List ℤ) where
  abbrev ts : Scope
  ts = scope_of arrays wides fault

  cell_filled : (a : ℕ) (x : Word) (es : PlainExprs) (piece : List PlainStmt) (p : Piece ts piece) (base : State) → IsDeclared arrays number vs extents a x es → CountsCells kept ts whole vs (extents a) a piece p →
      (cs : List ℤ) → is_within cs (extents a) ≡ true → Ready kept [] base → (n : ℕ) (t : State) → Filling kept base a n t →
      MustGo (λ b t. Filling kept base a (n + base.memory a cs * uses_in whole (Initial a cs)) t) (exec_all ts (stmts_of (cell_text a x es piece)) (coordinate_vars 0 cs vs) t)
  cell_filled a x es piece p base d c cs w ready n t h =
      let env : Vars = coordinate_vars 0 cs vs in
      let oe : AllMayLoop env = own_under cs 0 vs o in
      let v : ℕ = t.memory a cs in
      let t1 : State = record t { words = put t.words (register 0) v } in
      let held_one : (x : Word) → kept.holds x ≡ true → t1.words x ≡ base.words x = λ x e. ap (λ b. cond b v (t.words x)) (apart_as' piece_word (register 0) x (register_no_piece 0) (is_kept.piece_words x e)) ∙ h.held x e in
      let ready_one : Ready kept [] t1 = record { entries = h.tables ∙ ready.entries; counters = λ x e. held_one x e ∙ ready.counters x e } in
      let t2 : State = p.to env t1 in
      let at : signed_all (coordinates_from 0 es) env ≡ cs = subscripts_are es (extents a) cs 0 vs vs (let e = d.rank in omega arith) d.measures w in
      let lies : is_within cs d.array.array.1.extents ≡ true = ap (is_within cs) d.extents_are ∙ w in
      let loaded : word ts (cell x (coordinates_from 0 es)) env t ≡ goes_on v t =
      cell_is arrays number wides fault x (coordinates_from 0 es) env t d.array (subscripts_regular es (extents a) cs 0 vs vs d.measures w) ∙
      ap (λ cs. within d.array.array cs (loads ts) t) at ∙
      within_go d.array.array cs (loads ts) t lies ∙
      load_before ts d.array.array.0 cs t h.begun ∙
      ap (λ n. let q : Outcome ℕ = goes_on (t.memory n cs) t in q) d.number_is in
      let one : exec ts (assign (var (register 0)) None (cell x (coordinates_from 0 es))) env t ≡ goes_on tt t1 =
      set_is ts (register 0) (cell x (coordinates_from 0 es)) env t (names.registers 0) ∙ ap (λ q. and_then q (set_word (register 0))) loaded in
      let small : a < 2 ^ 64 = (let e = d.number_is in let g = d.array.small in omega arith) in
      let all : exec_all ts (stmts_of (cell_text a x es piece)) env t ≡ goes_on tt (record t2 { wides = put t2.wides (definition_total a) ((t2.wides (definition_total a) + (t2.words (register 0) * t2.wides count) % 2 ^ 128) % 2 ^ 128) }) =
      ap (λ q. and_then q (λ (u : Unit {0}) t. exec_all ts (stmts_of (piece ++ add_cell a)) env t)) one ∙
      exec_join ts piece (add_cell a) env t1 ∙
      ap (λ q. and_then q (λ (u : Unit {0}) t. exec_all ts (stmts_of (add_cell a)) env t)) (p.goes env oe t1) ∙
      add_cell_is ts a env t2 oe (subst (λ k. list_any (bytes_eq (definition_total k)) wides ≡ true) d.number_is (names.defined x d.array)) in
      let word_is : t2.words (register 0) ≡ base.memory a cs = p.words env t1 (register 0) (register_no_piece 0) ∙ ap (λ b. cond b v (t.words (register 0))) (same_word (register 0)) ∙ ap (λ (m : Memory). m a cs) h.memory in
      let before : t2.wides (definition_total a) ≡ n % 2 ^ 128 = p.wides env t1 (definition_total a) (count_definition a) ∙ h.total in
      subst (λ q. MustGo (λ (b : Unit {0}) t. Filling kept base a (n + base.memory a cs * uses_in whole (Initial a cs)) t) q) (sym all) (record {
        tables = c.tables env t1 oe ∙ h.tables;
        held = λ x e. c.keeps env t1 x oe e ∙ held_one x e;
        memory = p.memory env t1 ∙ h.memory;
        accesses = p.accesses env t1 ∙ h.accesses;
        begun = p.begun env t1 ∙ h.begun;
        words = λ x e. p.words env t1 x (own_no_piece x e) ∙ ap (λ b. cond b v (t.words x)) (apart_as' own (register 0) x (register_not_own 0) e) ∙ h.words x e;
        wides = λ x e g. ap (λ b. cond b ((t2.wides (definition_total a) + (t2.words (register 0) * t2.wides count) % 2 ^ 128) % 2 ^ 128) (t2.wides x)) g ∙ p.wides env t1 x e ∙ h.wides x e g;
        total = ap (λ b. cond b ((t2.wides (definition_total a) + (t2.words (register 0) * t2.wides count) % 2 ^ 128) % 2 ^ 128) (t2.wides (definition_total a))) (same_word (definition_total a)) ∙
            more_filled _ n (base.memory a cs) (uses_in whole (Initial a cs)) _ _ before word_is (c.counts cs t1 w ready_one);
      })

  array_filled : (a : ℕ) (x : Word) (es : PlainExprs) (piece : List PlainStmt) (p : Piece ts piece) (s : State) → IsDeclared arrays number vs extents a x es → CountsCells kept ts whole vs (extents a) a piece p → s.begun ≡ false → s.wides (definition_total a) ≡ 0 → Ready kept [] s →
      MustGo (λ b t. Filling kept s a (initial_sum s.memory whole extents a) t) (exec_all ts (stmts_of (array_text a x es piece)) vs s)
  array_filled a x es piece p s d c b z ready =
      subst (λ n. MustGo (λ (b : Unit {0}) t. Filling kept s a n t) (exec_all ts (stmts_of (array_text a x es piece)) vs s)) (let e : 0 + initial_sum s.memory whole extents a ≡ initial_sum s.memory whole extents a = omega arith in e)
      (cells_go ts (Filling kept s a) (turn_filling kept s a) (cell_text a x es piece) es (extents a) 0 vs (λ cs. s.memory a cs * uses_in whole (Initial a cs)) d.measures
      (λ cs w n t h. cell_filled a x es piece p s d c cs w ready n t h) 0 s
      (record { tables = refl; held = λ x e. refl; memory = refl; accesses = refl; begun = b; words = λ x e. refl; wides = λ x e g. refl; total = z }))

  left_more : (a n : ℕ) (s t u : State) → a < 2 ^ 64 → Filling kept s a (initial_sum s.memory whole extents a) t → s.begun ≡ false → Left whole extents (suc a) n t u → Left whole extents a (suc n) s u
  left_more a n s t u small h b l = record {
    memory = l.memory ∙ h.memory;
    accesses = l.accesses ∙ h.accesses;
    begun = l.begun ∙ h.begun ∙ sym b;
    words = λ x e. l.words x e ∙ h.words x e;
    used = λ b fits. l.used b fits ∙ h.wides (use_total b) (count_use b) (definition_use a b);
    before = λ b low. l.before b (omega arith) ∙ h.wides (definition_total b) (count_definition b) (definition_apart a b small (omega arith) (omega arith));
    filled = λ b low high. elim (cases_eq b a) [
      | inl e ↦ (l.before b (omega arith) ∙ subst (λ k. t.wides (definition_total k) ≡ initial_sum s.memory whole extents k % 2 ^ 128) (sym e) h.total)
      | inr ne ↦ (l.filled b (omega arith) (omega arith) ∙ ap (λ (m : Memory). initial_sum m whole extents b % 2 ^ 128) h.memory)
    ];
    after = λ b low fits. l.after b (omega arith) fits ∙ h.wides (definition_total b) (count_definition b) (definition_apart a b small fits (omega arith));
  }

  pub prologue_go : (cells : ℕ → PlainExprs → List PlainStmt) (decls : List (Word × PlainExprs)) (a : ℕ) (s : State) →
      AreCellPieces kept ts whole vs extents cells a decls → AreDeclared arrays number vs extents a decls → s.begun ≡ false → ((b : ℕ) → a ≤ b → b < 2 ^ 64 → s.wides (definition_total b) ≡ 0) → Ready kept [] s →
      MustGo (λ b t. Left whole extents a (length decls) s t × Ready kept [] t) (exec_all ts (stmts_of (prologue_text cells a decls)) vs s)
  prologue_go cells [] a s c d b z ready = (
    record {
      memory = refl;
      accesses = refl;
      begun = refl;
      words = λ x e. refl;
      used = λ b fits. refl;
      before = λ b low. refl;
      filled = λ b low high. absurd (omega arith);
      after = λ b low fits. refl;
    },
    ready,
  )
  prologue_go cells (x ∷ more) a s c d b z ready =
      let small : a < 2 ^ 64 = (let e = d.0.number_is in let g = d.0.array.small in omega arith) in
      rw (exec_join ts (array_text a x.0 x.1 (cells a x.1)) (prologue_text cells (suc a) more) vs s)
      (going_then ⊥ (λ b t. Filling kept s a (initial_sum s.memory whole extents a) t) (λ b t. Left whole extents a (suc (length more)) s t × Ready kept [] t)
      (exec_all ts (stmts_of (array_text a x.0 x.1 (cells a x.1))) vs s) (λ b t. exec_all ts (stmts_of (prologue_text cells (suc a) more)) vs t)
      (array_filled a x.0 x.1 (cells a x.1) c.0.piece s d.0 c.0.counts b (z a (omega arith) small) ready)
      (λ u t h. weaken t (exec_all ts (stmts_of (prologue_text cells (suc a) more)) vs t) small h
      (prologue_go cells more (suc a) t c.1 d.1 h.begun (λ k low fits. h.wides (definition_total k) (count_definition k) (definition_apart a k small fits (omega arith)) ∙ z k (omega arith) fits) (record { entries = h.tables ∙ ready.entries; counters = λ x e. h.held x e ∙ ready.counters x e }))))
    where
      weaken : (t : State) (q : Outcome (Unit {0})) → a < 2 ^ 64 → Filling kept s a (initial_sum s.memory whole extents a) t → MustGo (λ b u. Left whole extents (suc a) (length more) t u × Ready kept [] u) q → MustGo (λ b u. Left whole extents a (suc (length more)) s u × Ready kept [] u) q
      weaken t (goes_on v u) small h l = (left_more a (length more) s t u small h b l.0, l.1)
      weaken t (ends e u) small h l = absurd l

  -- what the definition totals begin with
  abbrev pub start : Memory → ℕ → ℕ → ℕ
  start m n a = if nat_lt a n then initial_sum m whole extents a else 0

  -- the totals as the body begins
  pub begin_totals : (trust : Trust) (n : ℕ) (s t : State) → Left whole extents 0 n s t → Ready kept [] t → s.accesses ≡ [] → ((b : ℕ) → b < 2 ^ 64 → s.wides (use_total b) ≡ 0) → ((b : ℕ) → b < 2 ^ 64 → s.wides (definition_total b) ≡ 0) →
      Totals trust kept fault s.memory extents whole (start s.memory n) [] (record t { begun = true })
  begin_totals trust n s t l ready empty us ds = record {
    begun = refl;
    ready = record { entries = ready.entries; counters = ready.counters };
    steady = record { intact = λ q c st e. ap (λ (m : Memory). m q c) l.memory };
    follows = subst (λ (xs : List Event). Follows fault s.memory extents xs t.memory) (sym (l.accesses ∙ empty)) (follows_start fault s.memory t.memory extents l.memory);
    made = ap (λ (xs : List Event). views trust.trusted (accesses_in xs)) (l.accesses ∙ empty);
    used = λ a fits. l.used a fits ∙ us a fits ∙ ap (λ (xs : List Event). read_sum a xs % 2 ^ 128) (sym (l.accesses ∙ empty));
    defined = λ a fits. elim (cases_lt a n) [
      | inl low ↦ (l.filled a (omega arith) (omega arith) ∙ ap (λ k. k % 2 ^ 128) (sum_is a (initial_sum s.memory whole extents a) (lt-ltb a n low)))
      | inr high ↦ (l.after a (omega arith) fits ∙ ds a fits ∙ ap (λ k. k % 2 ^ 128) (sum_is' a (le-ltb a n high)))
    ];
  }
    where
      none : (a : ℕ) → written_sum (λ n. uses_in whole (Written n)) a 0 t.accesses ≡ 0
      none a = ap (written_sum (λ n. uses_in whole (Written n)) a 0) (l.accesses ∙ empty)

      sum_is : (a k : ℕ) → nat_lt a n ≡ true → k ≡ cond (nat_lt a n) k 0 + written_sum (λ n. uses_in whole (Written n)) a 0 t.accesses
      sum_is a k e = rw (e, none a) (omega arith)

      sum_is' : (a : ℕ) → nat_lt a n ≡ false → 0 ≡ start s.memory n a + written_sum (λ n. uses_in whole (Written n)) a 0 t.accesses
      sum_is' a e = rw (e, none a) refl
