-- The loops over the cells of an array: each cell is visited once, and the coordinates are the values of the loops.
use Rattle.std.proofs.Common.{◌≡◌, ℕ, zero, suc, ◌+◌, ◌^◌, ◌<◌, ◌≤◌, Bool, true, false, cond, ◌&&◌, ◌||◌, List, [], ◌∷◌, ◌++◌, length, map, flat_map, refl, sym, ap, ◌∙◌, subst, arith, ℤ, pos, negsuc, ◌+ℤ◌}
use Rattle.std.specs.Prelude.{bytes_eq, int_lt, int_le}
use Rattle.std.specs.Int.{int_wrap, int_gap}
use Rattle.std.specs.List.{AllByRecursion}
use Rattle.std.proofs.lemmas.Bool.{lt-ltb}
use Rattle.std.proofs.lemmas.Int.{ints}
use Rattle.std.proofs.Math.Dec.{leb-zero}
use Rattle.c_tree.specs.Plain.{Word, PlainExpr, lit, var, cell, un, bin, cast, test, umin, umax, least, greatest, widen, big, PlainExprs, no_exprs, more_exprs, PlainStmt, loop}
use Rattle.c_tree.specs.Trees.{stmts_of}
use Rattle.c_tree.specs.Values.{Vars, signed, is_in, value_in, loop_values, from_on}
use Rattle.c_tree.specs.Arrays.{all_cells, size_of, is_within}
use Rattle.c_tree.specs.Run.{State, Run, ◌>>◌, Scope, turn, over, exec_all}
use Rattle.c_tree.specs.declared.expr.Rel.TheVariants.{Lt}
use Rattle.instrumentation.specs.Names.{coordinate}
use Rattle.instrumentation.specs.Passes.{coordinates_from}
use Rattle.instrumentation.specs.Prologue.{cell_loops}
use Rattle.instrumentation_laws.specs.OwnNames.{own, AllMayLoop}
use Rattle.instrumentation_laws.specs.RegularSources.{AreRegular}
use Rattle.instrumentation_laws.specs.AccessList.{signed_all}
use Rattle.instrumentation_laws.specs.PrologueTotals.{cell_sum, coordinate_vars, HasOwnNames, Measures}
use Rattle.instrumentation_laws.proofs.Names.{same_word, apart_as', coordinate_apart, coordinate_not_own, coordinate_may_loop}
use Rattle.instrumentation_laws.proofs.Outcomes.{MustGo, going_then}
use Rattle.instrumentation_laws.proofs.Steps.{exec_one}

-- ---- values

zero_is : (vs : Vars) → signed (lit 0) vs ≡ pos 0
unfolding int_wrap
zero_is vs = refl

gap_is : (z : ℤ) → int_gap (pos 0) z ≡ size_of z
gap_is (pos n) = grind (arith, ints)
gap_is (negsuc n) = grind (arith, ints)

pub values_are : (e : PlainExpr) (vs : Vars) (z : ℤ) → signed e vs ≡ z → loop_values (signed (lit 0) vs) Lt (signed e vs) ≡ from_on (pos 0) (size_of z)
values_are e vs z h = ap (λ lo. from_on lo (int_gap lo (signed e vs))) (zero_is vs) ∙ ap (λ z. from_on (pos 0) (int_gap (pos 0) z)) h ∙ ap (from_on (pos 0)) (gap_is z)

pub next_is : (k : ℕ) → pos k +ℤ pos 1 ≡ pos (suc k)
next_is k = omega (arith, ints)

all_from : (P : ℤ → Type 0) (k n : ℕ) → ((i : ℕ) → k ≤ i → i < k + n → P (pos i)) → AllByRecursion P (from_on (pos k) n)
all_from P k zero h = tt
all_from P k (suc n) h = (h k (omega arith) (omega arith), subst (λ z. AllByRecursion P (from_on z n)) (sym (next_is k)) (all_from P (suc k) n (λ i a b. h i (omega arith) (omega arith))))

inside : (z : ℤ) (i : ℕ) → i < size_of z → (int_le (pos 0) (pos i) && int_lt (pos i) z) ≡ true
inside (pos n) i h = rw (leb-zero i, lt-ltb i n h) refl
inside (negsuc n) i h = absurd (omega arith)

within_more : (b c : Bool) → b ≡ true → c ≡ true → (b && c) ≡ true
within_more true true e g = refl
within_more true false e g = g
within_more false c e g = e

chosen_same : (b : Bool) (x y z : ℤ) → b ≡ false → cond b x y ≡ y
chosen_same false x y z e = refl
chosen_same true x y z e = absurd (let g : true ≡ false = e in cc)

-- a name that isn't the source's changes no signed value of the source's names
signed_own : (e : PlainExpr) (vs : Vars) (x : Word) (v : ℤ) → own x ≡ false → HasOwnNames e → signed e ((x, v) ∷ vs) ≡ signed e vs
signed_own (lit n) vs x v o h = refl
signed_own (var y) vs x v o h = chosen_same (bytes_eq x y) v (value_in vs y) v (apart_as' own x y o h)
signed_own (cell y at) vs x v o h = refl
signed_own (un op a) vs x v o h = rw (signed_own a vs x v o h) refl
signed_own (bin op a b) vs x v o h = rw (signed_own a vs x v o h.0, signed_own b vs x v o h.1) refl
signed_own (cast a) vs x v o h = refl
signed_own (test rel a b) vs x v o h = refl
signed_own (umin a b) vs x v o h = refl
signed_own (umax a b) vs x v o h = refl
signed_own (least a b) vs x v o h = rw (signed_own a vs x v o h.0, signed_own b vs x v o h.1) refl
signed_own (greatest a b) vs x v o h = rw (signed_own a vs x v o h.0, signed_own b vs x v o h.1) refl
signed_own (widen a) vs x v o h = refl
signed_own (big high low) vs x v o h = refl

pub measures_more : (es : PlainExprs) (zs : List ℤ) (vs : Vars) (x : Word) (v : ℤ) → own x ≡ false → Measures es vs zs → Measures es ((x, v) ∷ vs) zs
measures_more no_exprs [] vs x v o h = tt
measures_more no_exprs (z ∷ zs) vs x v o h = absurd h
measures_more (more_exprs e es) [] vs x v o h = absurd h
measures_more (more_exprs e es) (z ∷ zs) vs x v o h = (h.0, signed_own e vs x v o h.0 ∙ h.1, measures_more es zs vs x v o h.2)

-- ---- sums

sum_join : (f : List ℤ → ℕ) (xs ys : List (List ℤ)) → cell_sum f (xs ++ ys) ≡ cell_sum f xs + cell_sum f ys
sum_join f [] ys = omega arith
sum_join f (x ∷ xs) ys = let h = sum_join f xs ys in omega arith

sum_map : (f : List ℤ → ℕ) (c : ℤ) (xs : List (List ℤ)) → cell_sum f (map (λ cs. c ∷ cs) xs) ≡ cell_sum (λ cs. f (c ∷ cs)) xs
sum_map f c [] = refl
sum_map f c (x ∷ xs) = let h = sum_map f c xs in omega arith

abbrev pub row_sum : (ℤ → ℕ) → List ℤ → ℕ
row_sum g [] = 0
row_sum g (v ∷ vals) = g v + row_sum g vals

pub sum_rows : (f : List ℤ → ℕ) (rows : List (List ℤ)) (vals : List ℤ) → cell_sum f (flat_map (λ c. map (λ cs. c ∷ cs) rows) vals) ≡ row_sum (λ c. cell_sum (λ cs. f (c ∷ cs)) rows) vals
sum_rows f rows [] = refl
sum_rows f rows (v ∷ vals) =
    let h = sum_rows f rows vals in
    let a = sum_join f (map (λ cs. v ∷ cs) rows) (flat_map (λ c. map (λ cs. c ∷ cs) rows) vals) in
    let b = sum_map f v rows in
    omega arith

-- ---- the loops over cells

module _ (sc : Scope) (Inv : ℕ → State → Type 0) (turns : (n : ℕ) (s : State) → Inv n s → MustGo (λ b t. Inv n t) (turn s)) where
  over_sum : (f : ℤ → Run (Unit {0})) (g : ℤ → ℕ) (vals : List ℤ) → AllByRecursion (λ v. (n : ℕ) (s : State) → Inv n s → MustGo (λ b t. Inv (n + g v) t) (f v s)) vals →
      (n : ℕ) (s : State) → Inv n s → MustGo (λ b t. Inv (n + row_sum g vals) t) (over f vals s)
  over_sum f g [] h n s i = let e : n ≡ n + 0 = omega arith in subst (λ k. Inv k s) e i
  over_sum f g (v ∷ vals) h n s i =
      let e : n + g v + row_sum g vals ≡ n + (g v + row_sum g vals) = omega arith in
      going_then ⊥ (λ b t. Inv (n + g v) t) (λ b t. Inv (n + (g v + row_sum g vals)) t) (f v s) (λ b. over f vals) (h.0 n s i)
      (λ b t r. subst (λ k. MustGo (λ b t. Inv k t) (over f vals t)) e (over_sum f g vals h.1 (n + g v) t r))

  pub cells_go : (body : List PlainStmt) (es : PlainExprs) (zs : List ℤ) (d : ℕ) (vs : Vars) (f : List ℤ → ℕ) → Measures es vs zs →
      ((cs : List ℤ) → is_within cs zs ≡ true → (n : ℕ) (t : State) → Inv n t → MustGo (λ b t. Inv (n + f cs) t) (exec_all sc (stmts_of body) (coordinate_vars d cs vs) t)) →
      (n : ℕ) (s : State) → Inv n s → MustGo (λ b t. Inv (n + cell_sum f (all_cells zs)) t) (exec_all sc (stmts_of (cell_loops d es body)) vs s)
  cells_go body no_exprs [] d vs f m h n s i = let e : n + f [] ≡ n + (f [] + 0) = omega arith in subst (λ k. MustGo (λ b t. Inv k t) (exec_all sc (stmts_of body) vs s)) e (h [] refl n s i)
  cells_go body no_exprs (z ∷ zs) d vs f m h n s i = absurd m
  cells_go body (more_exprs e es) [] d vs f m h n s i = absurd m
  cells_go body (more_exprs e es) (z ∷ zs) d vs f m h n s i =
      let inner : ℤ → Run (Unit {0}) = λ v. turn >> exec_all sc (stmts_of (cell_loops (suc d) es body)) ((coordinate d, v) ∷ vs) in
      let g : ℤ → ℕ = λ c. cell_sum (λ cs. f (c ∷ cs)) (all_cells zs) in
      let sums = sum_rows f (all_cells zs) (from_on (pos 0) (size_of z)) in
      let each : AllByRecursion (λ v. (n : ℕ) (s : State) → Inv n s → MustGo (λ b t. Inv (n + g v) t) (inner v s)) (from_on (pos 0) (size_of z)) =
      all_from (λ v. (n : ℕ) (s : State) → Inv n s → MustGo (λ b t. Inv (n + g v) t) (inner v s)) 0 (size_of z)
      (λ k low high n s i. going_then ⊥ (λ b t. Inv n t) (λ b t. Inv (n + g (pos k)) t) (turn s) (λ b. exec_all sc (stmts_of (cell_loops (suc d) es body)) ((coordinate d, pos k) ∷ vs)) (turns n s i)
      (λ b t r. cells_go body es zs (suc d) ((coordinate d, pos k) ∷ vs) (λ cs. f (pos k ∷ cs)) (measures_more es zs vs (coordinate d) (pos k) (coordinate_not_own d) m.2)
      (λ cs w n t i. h (pos k ∷ cs) (within_more (int_le (pos 0) (pos k) && int_lt (pos k) z) (is_within cs zs) (inside z k (omega arith)) w) n t i) n t r)) in
      rw (exec_one sc (loop (coordinate d) (lit 0) Lt e (stmts_of (cell_loops (suc d) es body))) vs s, values_are e vs z m.1, sums)
      (over_sum inner g (from_on (pos 0) (size_of z)) each n s i)

-- ---- the coordinates in a body

value_under : (cs : List ℤ) (k : ℕ) (vs : Vars) (x : Word) → ((i : ℕ) → k ≤ i → i < k + length cs → bytes_eq (coordinate i) x ≡ false) → value_in (coordinate_vars k cs vs) x ≡ value_in vs x
value_under [] k vs x h = refl
value_under (c ∷ cs) k vs x h = value_under cs (suc k) ((coordinate k, c) ∷ vs) x (λ i a b. h i (omega arith) (omega arith)) ∙ chosen_same (bytes_eq (coordinate k) x) c (value_in vs x) c (h k (omega arith) (omega arith))

in_under : (cs : List ℤ) (k : ℕ) (vs : Vars) (x : Word) → is_in vs x ≡ true → is_in (coordinate_vars k cs vs) x ≡ true
in_under [] k vs x h = h
in_under (c ∷ cs) k vs x h = in_under cs (suc k) ((coordinate k, c) ∷ vs) x (rw h (or_true (bytes_eq (coordinate k) x)))
  where
    or_true : (b : Bool) → (b || true) ≡ true
    or_true true = refl
    or_true false = refl

pub own_under : (cs : List ℤ) (k : ℕ) (vs : Vars) → AllMayLoop vs → AllMayLoop (coordinate_vars k cs vs)
own_under [] k vs o = o
own_under (c ∷ cs) k vs o = own_under cs (suc k) ((coordinate k, c) ∷ vs) (coordinate_may_loop k, o)

-- the subscripts are the coordinates
abbrev Fits : List ℤ → List ℤ → Type 0
Fits cs zs = is_within cs zs ≡ true

pub subscripts_regular : (es : PlainExprs) (zs cs : List ℤ) (k : ℕ) (vs us : Vars) → Measures es us zs → Fits cs zs → AreRegular (coordinates_from k es) (coordinate_vars k cs vs)
subscripts_regular no_exprs zs cs k vs us m f = tt
subscripts_regular (more_exprs e es) [] cs k vs us m f = absurd m
subscripts_regular (more_exprs e es) (z ∷ zs) [] k vs us m f = absurd (let g : false ≡ true = f in cc)
subscripts_regular (more_exprs e es) (z ∷ zs) (c ∷ cs) k vs us m f =
    (rw (in_under cs (suc k) ((coordinate k, c) ∷ vs) (coordinate k) (rw (same_word (coordinate k)) refl)) refl, subscripts_regular es zs cs (suc k) ((coordinate k, c) ∷ vs) us m.2 (second (int_le (pos 0) c && int_lt c z) (is_within cs zs) f))
  where
    second : (a b : Bool) → (a && b) ≡ true → b ≡ true
    second true b e = e
    second false b e = absurd (let g : false ≡ true = e in cc)

pub subscripts_are : (es : PlainExprs) (zs cs : List ℤ) (k : ℕ) (vs us : Vars) → k + length zs < 2 ^ 64 → Measures es us zs → Fits cs zs → signed_all (coordinates_from k es) (coordinate_vars k cs vs) ≡ cs
subscripts_are no_exprs [] [] k vs us l m f = refl
subscripts_are no_exprs [] (c ∷ cs) k vs us l m f = absurd (let g : false ≡ true = f in cc)
subscripts_are no_exprs (z ∷ zs) cs k vs us l m f = absurd m
subscripts_are (more_exprs e es) [] cs k vs us l m f = absurd m
subscripts_are (more_exprs e es) (z ∷ zs) [] k vs us l m f = absurd (let g : false ≡ true = f in cc)
subscripts_are (more_exprs e es) (z ∷ zs) (c ∷ cs) k vs us l m f =
    let w : is_within cs zs ≡ true = second (int_le (pos 0) c && int_lt c z) (is_within cs zs) f in
    let n : length cs ≡ length zs = same_length cs zs w in
    ap (λ v. v ∷ signed_all (coordinates_from (suc k) es) (coordinate_vars (suc k) cs ((coordinate k, c) ∷ vs)))
    (value_under cs (suc k) ((coordinate k, c) ∷ vs) (coordinate k) (λ i a b. coordinate_apart i k (omega arith) (omega arith) (omega arith)) ∙ ap (λ b. cond b c (value_in vs (coordinate k))) (same_word (coordinate k))) ∙
    ap (λ ds. c ∷ ds) (subscripts_are es zs cs (suc k) ((coordinate k, c) ∷ vs) us (omega arith) m.2 w)
  where
    second : (a b : Bool) → (a && b) ≡ true → b ≡ true
    second true b e = e
    second false b e = absurd (let g : false ≡ true = e in cc)

    same_length : (cs zs : List ℤ) → is_within cs zs ≡ true → length cs ≡ length zs
    same_length [] [] e = refl
    same_length [] (z ∷ zs) e = absurd (let g : false ≡ true = e in cc)
    same_length (c ∷ cs) [] e = absurd (let g : false ≡ true = e in cc)
    same_length (c ∷ cs) (z ∷ zs) e = ap suc (same_length cs zs (second (int_le (pos 0) c && int_lt c z) (is_within cs zs) e))
