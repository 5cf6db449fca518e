-- The tables of an array with irregular reads: after they are built the second holds the uses of each of its definitions.
use Rattle.std.proofs.Common.{◌≡◌, ℕ, zero, suc, ◌+◌, ◌^◌, ◌<◌, ◌≤◌, Bool, true, false, cond, ◌||◌, List, [], ◌∷◌, ◌++◌, length, replicate, refl, sym, ap, ◌∙◌, subst, arith, append_assoc, ℤ, Option, true≢false, ◌%◌, if◌then◌else◌}
use Rattle.std.proofs.lemmas.List.{length-map}
use Rattle.std.specs.Prelude.{bytes_eq, codes, slice_index}
use Rattle.c_tree.specs.Plain.{Word, PlainExpr, var, bin, PlainExprs, PlainStmt, table, PlainStmts}
use Rattle.c_tree.specs.Trees.{stmts_of}
use Rattle.c_tree.specs.Values.{Vars, word_bin}
use Rattle.c_tree.specs.Arrays.{Array, Memory, cell_count}
use Rattle.c_tree.specs.Accesses.{Access, Clean, writes_of}
use Rattle.c_tree.specs.Fault.{Upset}
use Rattle.c_tree.specs.Instances.{Tagged, untagged}
use Rattle.c_tree.specs.Run.{State, goes_on, and_then, Scope, put, word, make_table, exec, exec_all}
use Rattle.c_tree.specs.declared.expr.BinOp.TheVariants.{Add}
use Rattle.instrumentation.specs.Passes.{set_word}
use Rattle.instrumentation_laws.specs.OwnNames.{begins}
use Rattle.instrumentation_laws.specs.Setting.{scope_of}
use Rattle.instrumentation_laws.proofs.Names.{same_word}
use Rattle.balance_laws.proofs.Sums.{sum_below_none}
use Rattle.pass_laws.specs.Countable.{AreOwn}
use Rattle.pass_laws.specs.Places.{IsPlace}
use Rattle.pass_laws.proofs.Renamed.{copied_vars}
use Rattle.instrumentation.specs.Names.{written, current, counts}
use Rattle.instrumentation.specs.Tables.{cells_of, walk_all, no_reads, count_writes, inspect_reads, number_writes, build}
use Rattle.inspection_laws.specs.Inspected.{writes_array, writes_before, Inspected}
use Rattle.instrumentation_laws.specs.IndexedList.{tagged_all}
use Rattle.inspection_laws.specs.Walked.{IsKnown, AreWalked, AreSized, HasTables, is_scratch, Keeps, Stands, Numbers, Built}
use Rattle.instrumentation_laws.proofs.Outcomes.{GoesOr}
use Rattle.inspection_laws.proofs.Walks.{join_or, one_or}
use Rattle.inspection_laws.proofs.Inspecting.{starts, ends_with}
use Rattle.inspection_laws.proofs.Entries.{cells_give, two_words}
use Rattle.inspection_laws.proofs.Second.{cells_few, before_few, second_walk}
use Rattle.inspection_laws.proofs.First.{first_walk}

or_first : (x y : Bool) → x ≡ true → (x || y) ≡ true
or_first true y e = refl
or_first false y e = absurd (true≢false (sym e))

or_none : (x y : Bool) → (x || y) ≡ false → (x ≡ false) × (y ≡ false)
or_none true y e = absurd (true≢false e)
or_none false y e = (refl, e)

counts_current : (a : ℕ) → bytes_eq (counts a) (current a) ≡ false
unfolding current counts
counts_current a = refl

zeros : (n i : ℕ) → slice_index (replicate n 0) i ≡ 0
zeros zero i = refl
zeros (suc n) zero = refl
zeros (suc n) (suc i) = zeros n i

zeros_long : (n : ℕ) → length {A = ℕ} (replicate n 0) ≡ n
zeros_long zero = refl
zeros_long (suc n) = ap suc (zeros_long n)

writes_are : (list : List Access) (a : ℕ) → writes_of list a ≡ writes_before list a (length list)
unfolding writes_of
writes_are list a = refl

module _ (arrays : List Array) (number : Word → ℕ) (wides : List Word) (fault : Option Upset) (a : ℕ) (has : HasTables arrays wides a) (m : Memory) (params base : Vars) (place : IsPlace params base) (own_params : AreOwn params)
    (whole : List Tagged) (extents : ℕ → List ℤ) (ns : PlainExprs) (clean : Clean extents (untagged whole)) (short : length whole < 2 ^ 63) (sizes : (x : Word) (k : IsKnown arrays number x) → k.array.1.extents ≡ extents k.array.0)
    (sized : (loops : Vars) → AreSized (scope_of arrays wides fault) ns (extents a) (copied_vars loops ++ base)) (body : PlainStmts) (walked : AreWalked arrays number body params) (is : tagged_all arrays m number 0 body params ≡ whole)
    (from : State) (before : from.begun ≡ false) (holds : from.memory ≡ m) where
  abbrev list : List Access
  list = untagged whole

  abbrev sc : Scope
  sc = scope_of arrays wides fault

  abbrev cells : ℕ
  cells = cell_count (extents a)

  -- a word of the tables is set
  set_is : (s : State) → exec sc (set_word (written a) 0) base s ≡ goes_on tt (record s { words = put s.words (written a) 0 })
  set_is s = rw (has.words (written a) (or_first (bytes_eq (written a) (written a)) (begins (codes "bal_cx") (written a)) (same_word (written a)))) refl

  zeroed : (s : State) (x : Word) → is_scratch a x ≡ false → put s.words (written a) 0 x ≡ s.words x
  zeroed s x e = ap (λ b. cond b 0 (s.words x)) (or_none (bytes_eq (written a) x) (begins (codes "bal_cx") x) e).0

  is_zero : (s : State) → put s.words (written a) 0 (written a) ≡ 0
  is_zero s = ap (λ b. cond b 0 (s.words (written a))) (same_word (written a))

  -- a table is made
  table_is : (x : Word) (e : PlainExpr) (s : State) (n : ℕ) → word sc e base s ≡ goes_on n s → exec sc (table x e) base s ≡ goes_on tt (record s { tables = put s.tables x (replicate n 0); made = s.made ++ n ∷ [] })
  table_is x e s n h = ap (λ o. and_then o (make_table x)) h

  sized_here : AreSized sc ns (extents a) base
  sized_here = sized []

  sum_is : (s : State) → s.words (written a) ≡ writes_before list a (length whole) → word sc (bin Add (cells_of ns) (var (written a))) base s ≡ goes_on (cells + s.words (written a)) s
  sum_is s w =
      let few : cells < 2 ^ 62 = cells_few sc ns (extents a) base sized_here in
      let low : writes_before list a (length whole) ≤ length whole = before_few list a (length whole) in
      two_words sc (word_bin Add) (word sc (cells_of ns) base) (word sc (var (written a)) base) s cells (s.words (written a)) (cells_give sc ns (extents a) base s sized_here) refl ∙
      ap (λ n. goes_on n s) (let z : (cells + s.words (written a)) % 2 ^ 64 ≡ cells + s.words (written a) = omega arith in z)

  -- the state with both tables made, for w writes
  abbrev tabled : ℕ → State → State
  tabled w s = record s {
    tables = put (put s.tables (current a) (replicate cells 0)) (counts a) (replicate (cells + w) 0);
    made = (s.made ++ cells ∷ []) ++ (cells + w) ∷ [];
    words = put s.words (written a) 0;
  }

  long : length list ≡ length whole
  long = length-map whole (λ (t : Tagged). t.access)

  first_state : Numbers list a from 0 (record from { words = put from.words (written a) 0 })
  first_state = record {
    keeps = record { begun = refl; memory = refl; accesses = refl; wides = refl; made = refl; words = λ x e. zeroed from x e; tables = λ x e g. refl };
    numbers = is_zero from ∙ sym (sum_below_none (λ q. if writes_array list a q then 1 else 0));
  }

  second_state : (w : ℕ) (s : State) → w ≡ writes_before list a (length whole) → Stands list a (extents a) (tabled w s) 0 (tabled w s)
  second_state w s e = record {
    keeps = record { begun = refl; memory = refl; accesses = refl; wides = refl; made = refl; words = λ x e. refl; tables = λ x e g. refl };
    inspected =
        rw (counts_current a, same_word (current a), same_word (counts a), same_word (written a))
        (starts list a (extents a) (replicate cells 0) (replicate (cells + w) 0) (zeros_long cells) (zeros_long (cells + w) ∙ ap (λ n. cells + n) (e ∙ ap (writes_before list a) (sym long))) (zeros cells) (zeros (cells + w)));
  }

  -- after the second walk
  last : (w : ℕ) (s t : State) → Keeps a from s → w ≡ writes_before list a (length whole) → Stands list a (extents a) (tabled w s) (length whole) t → Built list a (extents a) from (record t { words = put t.words (written a) 0 })
  last w s t k e p = record {
    begun = p.keeps.begun ∙ k.begun;
    memory = p.keeps.memory ∙ k.memory;
    accesses = p.keeps.accesses ∙ k.accesses;
    wides = p.keeps.wides ∙ k.wides;
    words = λ x o. zeroed t x o ∙ p.keeps.words x o ∙ zeroed s x o ∙ k.words x o;
    tables = λ x e g. p.keeps.tables x e g ∙ ap (λ b. cond b (replicate (cells + w) 0) (put s.tables (current a) (replicate cells 0) x)) g ∙ ap (λ b. cond b (replicate cells 0) (s.tables x)) e ∙ k.tables x e g;
    made = p.keeps.made ∙ append_assoc s.made (cells ∷ []) ((cells + w) ∷ []) ∙ ap (λ l. l ++ cells ∷ (cells + w) ∷ []) k.made ∙
        ap (λ n. from.made ++ cells ∷ (cells + n) ∷ []) (e ∙ ap (writes_before list a) (sym long) ∙ sym (writes_are list a));
    none_written = is_zero t;
    counted = λ d i. ends_with list a (extents a) (t.tables (current a)) (t.tables (counts a)) (t.words (written a)) (subst (λ n. Inspected list a (extents a) n (t.tables (current a)) (t.tables (counts a)) (t.words (written a))) (sym long) p.inspected) d i;
  }

  pub builds : GoesOr (λ e t. ⊥) (Built list a (extents a) from) (exec_all sc (stmts_of (build number body a ns)) base from)
  builds =
      let P : State → Type 0 = Built list a (extents a) from in
      let tail : List PlainStmt = table (current a) (cells_of ns) ∷ table (counts a) (bin Add (cells_of ns) (var (written a))) ∷ set_word (written a) 0 ∷ (walk_all (inspect_reads number a ns) (number_writes number a ns) [] body ++ set_word (written a) 0 ∷ []) in
      let end : List PlainStmt = walk_all (inspect_reads number a ns) (number_writes number a ns) [] body ++ set_word (written a) 0 ∷ [] in
      rw (set_is from)
      (join_or sc (λ e t. ⊥) (Numbers list a from (length whole)) P (walk_all no_reads (count_writes number a) [] body) tail base (record from { words = put from.words (written a) 0 })
      (first_walk arrays number wides fault a has m params base place own_params whole short from body (record from { words = put from.words (written a) 0 }) walked is first_state)
      (λ s f.
      let w : ℕ = s.words (written a) in
      let one : State = record s { tables = put s.tables (current a) (replicate cells 0); made = s.made ++ cells ∷ [] } in
      let two : State = record s { tables = put (put s.tables (current a) (replicate cells 0)) (counts a) (replicate (cells + w) 0); made = (s.made ++ cells ∷ []) ++ (cells + w) ∷ [] } in
      rw (table_is (current a) (cells_of ns) s cells (cells_give sc ns (extents a) base s sized_here), table_is (counts a) (bin Add (cells_of ns) (var (written a))) one (cells + w) (sum_is one f.numbers), set_is two)
      (join_or sc (λ e t. ⊥) (Stands list a (extents a) (tabled w s) (length whole)) P (walk_all (inspect_reads number a ns) (number_writes number a ns) [] body) (set_word (written a) 0 ∷ []) base (tabled w s)
      (second_walk arrays number wides fault a has m params base place own_params whole extents ns clean short sizes sized (tabled w s) (f.keeps.begun ∙ before) (f.keeps.memory ∙ holds) body (tabled w s) walked is (second_state w s f.numbers))
      (λ t p. one_or sc (λ e t. ⊥) P (set_word (written a) 0) base t (subst (GoesOr (λ e t. ⊥) P) (sym (set_is t)) (last w s t f.keeps f.numbers p))))))
