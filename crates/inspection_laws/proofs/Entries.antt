-- What the single statements of the walks do, each as one equation of its run.
use Rattle.std.proofs.Common.{◌≡◌, ℕ, ◌+◌, ◌-◌, ◌*◌, ◌%◌, ◌^◌, ◌<◌, Bool, true, false, List, [], ◌∷◌, refl, sym, ap, ◌∙◌, arith, Some, None, ℤ, true≢false, ◌||◌, codes}
use Rattle.instrumentation_laws.specs.OwnNames.{begins}
use Rattle.std.specs.Prelude.{bytes_eq, slice_index, slice_set}
use Rattle.std.specs.List.{list_any}
use Rattle.c_tree.specs.Plain.{Word, PlainExpr, lit, var, cell, bin, cast, PlainExprs, no_exprs, more_exprs, assign}
use Rattle.c_tree.specs.Values.{Vars}
use Rattle.c_tree.specs.Arrays.{array_named, size_of, cell_count}
use Rattle.c_tree.specs.Accesses.{Within}
use Rattle.c_tree.specs.Run.{State, Outcome, goes_on, Run, ◌>>=◌, and_then, Scope, loads, stores, within, by_array, put, word, coordinates, first_word, updated, set_entry, exec}
use Rattle.c_tree.specs.Run as run
use Rattle.c_tree.specs.Values.{word_bin}
use Rattle.c_tree.specs.declared.expr.BinOp.TheVariants.{Add, Sub, Mul}
use Rattle.instrumentation.specs.Names.{written, current, counts}
use Rattle.instrumentation.specs.Tables.{one, cells_of, row_of, count_current, one_more, set_current}
use Rattle.inspection_laws.specs.Inspected.{row}
use Rattle.inspection_laws.specs.CountingPieces.{AreGiven}
use Rattle.inspection_laws.specs.Walked.{AreSized, HasTables}
use Rattle.inspection_laws.proofs.Inspecting.{row_below}
use Rattle.instrumentation_laws.proofs.Names.{same_word}

or_first : (x y : Bool) → x ≡ true → (x || y) ≡ true
or_first true y e = refl
or_first false y e = absurd (true≢false (sym e))

-- an entry of a table
pub entry_is : (sc : Scope) (x : Word) (e : PlainExpr) (vs : Vars) (s : State) (i : ℕ) → array_named sc.arrays x ≡ None → word sc e vs s ≡ goes_on i s → word sc (cell x (one e)) vs s ≡ goes_on (slice_index (s.tables x) i) s
entry_is sc x e vs s i h g =
    ap (λ o. by_array o (λ a. coordinates sc (one e) vs >>= (λ cs. within a cs (loads sc))) (first_word sc (one e) vs >>= (λ i. run.reads (λ s. slice_index (s.tables x) i))) s) h ∙
    ap (λ o. and_then o (λ i. run.reads (λ s. slice_index (s.tables x) i))) g

pub two_words : (sc : Scope) (f : ℕ → ℕ → ℕ) (p q : Run ℕ) (s : State) (x y : ℕ) → p s ≡ goes_on x s → q s ≡ goes_on y s → and_then (p s) (λ x t. and_then (q t) (λ y t. goes_on (f x y) t)) ≡ goes_on (f x y) s
two_words sc f p q s x y h g = ap (λ o. and_then o (λ x t. and_then (q t) (λ y t. goes_on (f x y) t))) h ∙ ap (λ o. and_then o (λ y t. goes_on (f x y) t)) g

gives : (a b : ℕ) (s : State) → a ≡ b → (let o : Outcome ℕ = goes_on a s in o) ≡ goes_on b s
gives a b s e = ap (λ n. let o : Outcome ℕ = goes_on n s in o) e

-- how many cells there are
pub cells_give : (sc : Scope) (ns : PlainExprs) (zs : List ℤ) (vs : Vars) (s : State) → AreSized sc ns zs vs → word sc (cells_of ns) vs s ≡ goes_on (cell_count zs) s
cells_give sc no_exprs [] vs s h = refl
cells_give sc no_exprs (z ∷ zs) vs s h = absurd h
cells_give sc (more_exprs n ns) [] vs s h = absurd h
cells_give sc (more_exprs n ns) (z ∷ zs) vs s h =
    two_words sc (word_bin Mul) (word sc (cast n) vs) (word sc (cells_of ns) vs) s (size_of z) (cell_count zs) (h.0 s) (cells_give sc ns zs vs s h.3) ∙
    gives _ _ s (let l : size_of z * cell_count zs < 2 ^ 62 = h.2 in omega arith)

-- its row-major number
pub row_gives : (sc : Scope) (ns : PlainExprs) (zs : List ℤ) (ws : List PlainExpr) (cs : List ℤ) (vs : Vars) (s : State) → AreSized sc ns zs vs → AreGiven sc ws cs vs s → Within zs cs → word sc (row_of ns ws) vs s ≡ goes_on (row zs cs) s
row_gives sc no_exprs [] ws cs vs s h g w = refl
row_gives sc no_exprs (z ∷ zs) ws cs vs s h g w = absurd h
row_gives sc (more_exprs n ns) [] ws cs vs s h g w = absurd h
row_gives sc (more_exprs n ns) (z ∷ zs) [] [] vs s h g w = absurd w
row_gives sc (more_exprs n ns) (z ∷ zs) [] (c ∷ cs) vs s h g w = absurd g
row_gives sc (more_exprs n ns) (z ∷ zs) (e ∷ ws) [] vs s h g w = absurd g
row_gives sc (more_exprs n ns) (z ∷ zs) (e ∷ ws) (c ∷ cs) vs s h g w =
    let below : size_of c * cell_count zs + row zs cs < size_of z * cell_count zs = row_below (z ∷ zs) (c ∷ cs) w in
    let small : size_of z * cell_count zs < 2 ^ 62 = h.2 in
    let product : word_bin Mul (size_of c) (cell_count zs) ≡ size_of c * cell_count zs = omega arith in
    two_words sc (word_bin Add) (word sc (bin Mul e (cells_of ns)) vs) (word sc (row_of ns ws) vs) s (size_of c * cell_count zs) (row zs cs)
    (two_words sc (word_bin Mul) (word sc e vs) (word sc (cells_of ns) vs) s (size_of c) (cell_count zs) g.0 (cells_give sc ns zs vs s h.3) ∙ gives _ _ s product)
    (row_gives sc ns zs ws cs vs s h.3 g.1 w.1) ∙
    gives _ _ s (let sum : (size_of c * cell_count zs + row zs cs) % 2 ^ 64 ≡ size_of c * cell_count zs + row zs cs = omega arith in sum)

-- the state with one entry of a table set
abbrev pub with_entry : Word → ℕ → ℕ → State → State
with_entry x i n s = record s { tables = put s.tables x (slice_set (s.tables x) i n) }

-- an entry is set
pub set_entry_is : (sc : Scope) (x : Word) (i : PlainExpr) (e : PlainExpr) (vs : Vars) (s : State) (k n : ℕ) → array_named sc.arrays x ≡ None → word sc i vs s ≡ goes_on k s → word sc e vs s ≡ goes_on n s →
    exec sc (assign (cell x (one i)) None e) vs s ≡ goes_on tt (with_entry x k n s)
set_entry_is sc x i e vs s k n h g f =
    ap (λ o. by_array o (λ a. coordinates sc (one i) vs >>= (λ cs. word sc e vs >>= (λ n. within a cs (λ k c. stores sc k c n)))) (first_word sc (one i) vs >>= (λ i. word sc e vs >>= set_entry x i)) s) h ∙
    ap (λ o. and_then o (λ i. word sc e vs >>= set_entry x i)) g ∙ ap (λ o. and_then o (set_entry x k)) f

-- an entry grows by one
pub add_entry_is : (sc : Scope) (x : Word) (i : PlainExpr) (vs : Vars) (s : State) (k : ℕ) → array_named sc.arrays x ≡ None → word sc i vs s ≡ goes_on k s →
    exec sc (assign (cell x (one i)) (Some Add) (lit 1)) vs s ≡ goes_on tt (with_entry x k ((slice_index (s.tables x) k + 1) % 2 ^ 64) s)
add_entry_is sc x i vs s k h g =
    ap (λ o. by_array o (λ a. coordinates sc (one i) vs >>= (λ cs. updated word_bin (Some Add) (within a cs (loads sc)) (word sc (lit 1) vs) >>= (λ n. within a cs (λ k c. stores sc k c n))))
    (first_word sc (one i) vs >>= (λ i. updated word_bin (Some Add) (run.reads (λ s. slice_index (s.tables x) i)) (word sc (lit 1) vs) >>= set_entry x i)) s) h ∙
    ap (λ o. and_then o (λ i. updated word_bin (Some Add) (run.reads (λ s. slice_index (s.tables x) i)) (word sc (lit 1) vs) >>= set_entry x i)) g

-- ---- the statements

module _ (sc : Scope) (a : ℕ) (has : HasTables sc.arrays sc.wides a) (vs : Vars) (s : State) where
  pub count_current_is : (e : PlainExpr) (r k : ℕ) → word sc e vs s ≡ goes_on r s → r + slice_index (s.tables (current a)) r ≡ k → k < 2 ^ 64 → slice_index (s.tables (counts a)) k + 1 < 2 ^ 64 →
      exec sc (count_current a e) vs s ≡ goes_on tt (with_entry (counts a) k (slice_index (s.tables (counts a)) k + 1) s)
  count_current_is e r k h i small few =
      add_entry_is sc (counts a) (bin Add e (cell (current a) (one e))) vs s k has.counts_apart
      (two_words sc (word_bin Add) (word sc e vs) (word sc (cell (current a) (one e)) vs) s r (slice_index (s.tables (current a)) r) h (entry_is sc (current a) e vs s r has.current_apart h) ∙
      gives _ _ s (let z : (r + slice_index (s.tables (current a)) r) % 2 ^ 64 ≡ k = omega arith in z)) ∙
      ap (λ n. goes_on tt (with_entry (counts a) k n s)) (let z : (slice_index (s.tables (counts a)) k + 1) % 2 ^ 64 ≡ slice_index (s.tables (counts a)) k + 1 = omega arith in z)

  written_not_wide : list_any (bytes_eq (written a)) sc.wides ≡ false
  written_not_wide = has.words (written a) (or_first (bytes_eq (written a) (written a)) (begins (codes "bal_cx") (written a)) (same_word (written a)))

  pub one_more_is : s.words (written a) + 1 < 2 ^ 64 → exec sc (one_more a) vs s ≡ goes_on tt (record s { words = put s.words (written a) (s.words (written a) + 1) })
  one_more_is l =
      rw written_not_wide (ap (λ n. goes_on tt (record s { words = put s.words (written a) n })) (let z : (s.words (written a) + 1) % 2 ^ 64 ≡ s.words (written a) + 1 = omega arith in z))

  pub set_current_is : (ns : PlainExprs) (zs : List ℤ) (e : PlainExpr) (r : ℕ) → AreSized sc ns zs vs → word sc e vs s ≡ goes_on r s → r < cell_count zs → cell_count zs + s.words (written a) < 2 ^ 64 →
      exec sc (set_current a ns e) vs s ≡ goes_on tt (with_entry (current a) r (cell_count zs + s.words (written a) - r) s)
  set_current_is ns zs e r h g low l =
      set_entry_is sc (current a) e (bin Sub (bin Add (cells_of ns) (var (written a))) e) vs s r (cell_count zs + s.words (written a) - r) has.current_apart g
      (two_words sc (word_bin Sub) (word sc (bin Add (cells_of ns) (var (written a))) vs) (word sc e vs) s (cell_count zs + s.words (written a)) r
      (two_words sc (word_bin Add) (word sc (cells_of ns) vs) (word sc (var (written a)) vs) s (cell_count zs) (s.words (written a)) (cells_give sc ns zs vs s h) refl ∙
      gives _ _ s (let z : (cell_count zs + s.words (written a)) % 2 ^ 64 ≡ cell_count zs + s.words (written a) = omega arith in z)) g ∙
      gives _ _ s (let z : (cell_count zs + s.words (written a) + (2 ^ 64 - r)) % 2 ^ 64 ≡ cell_count zs + s.words (written a) - r = omega arith in z))
