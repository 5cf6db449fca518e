-- The pieces that read the tables of an inspected array count, and keep what they rely on.
use Rattle.std.proofs.Common.{◌≡◌, ◌≢◌, inl, inr, ℕ, zero, suc, ◌+◌, ◌%◌, ◌^◌, ◌<◌, ◌≤◌, Bool, true, false, cond, ◌&&◌, ◌||◌, ◌==◌, if◌then◌else◌, List, [], ◌∷◌, ◌++◌, length, refl, sym, ap, ◌∙◌, subst, arith, ℤ, Option, None, true≢false, eq-eqb, nat_lt}
use Rattle.std.specs.Prelude.{bytes_eq, codes, decimal, slice_index}
use Rattle.std.proofs.lemmas.Bool.{cases_Bool, cases_eq, eqb-true, and_from}
use Rattle.std.proofs.lemmas.List.{map-append, length-map}
use Rattle.std.proofs.lemmas.Fmt.{decimal_injective}
use Rattle.std.proofs.lemmas.Slice.Eq.{bytes_eq-Decides}
use Rattle.c_tree.specs.Plain.{Word, PlainExpr, lit, var, cell, un, bin, cast, test, umin, umax, least, greatest, widen, big, PlainExprs, no_exprs, more_exprs, assign}
use Rattle.c_tree.specs.Trees.{stmts_of}
use Rattle.c_tree.specs.Kinds.{is_signed}
use Rattle.c_tree.specs.Values.{Vars, signed, as_word, word_un, word_bin, word_holds, as_bit, kind}
use Rattle.c_tree.specs.Arrays.{Array, cell_count}
use Rattle.c_tree.specs.Accesses.{Access, Definition, at, uses, sum_below, Within}
use Rattle.c_tree.specs.Accesses.Definition.{Initial, Written}
use Rattle.c_tree.specs.Fault.{Upset}
use Rattle.c_tree.specs.Instances.{Tagged, untagged}
use Rattle.c_tree.specs.Run.{State, Outcome, goes_on, ends, Run, and_then, give, Scope, put, word, exec, exec_all}
use Rattle.c_tree.specs.declared.expr.BinOp.TheVariants.{Add}
use Rattle.instrumentation.specs.Names.{numbered, count}
use Rattle.instrumentation.specs.Passes.{coordinates_from}
use Rattle.instrumentation_laws.specs.OwnNames.{piece_word, begins}
use Rattle.instrumentation_laws.specs.RegularSources.{IsSilent}
use Rattle.instrumentation_laws.specs.Pieces.{Piece}
use Rattle.instrumentation_laws.specs.PrologueTotals.{coordinate_vars}
use Rattle.instrumentation_laws.proofs.Names.{front_cancel, same_word, apart_by, apart_as}
use Rattle.instrumentation_laws.proofs.Steps.{exec_one}
use Rattle.balance_laws.proofs.Sums.{sum_below_none}
use Rattle.pass_laws.proofs.Standing.{access_here, below_here}
use Rattle.cell_laws.proofs.Within.{within_from}
use Rattle.instrumentation.specs.Names.{written, counts}
use Rattle.instrumentation.specs.Tables.{one, cells_of, row_of, words_from, one_more, initial, at_write}
use Rattle.inspection_laws.specs.Inspected.{row, writes_array, writes_before, IsIts, number_of}
use Rattle.inspection_laws.specs.Inspections.{writes_in, counts_one_of, count_of, tables_kept}
use Rattle.instrumentation_laws.specs.Kept.{Kept, Ready, IsKept, Counts, CountsCells}
use Rattle.inspection_laws.specs.Walked.{AreSized, HasTables}
use Rattle.inspection_laws.proofs.Entries.{entry_is, two_words, cells_give, row_gives}
use Rattle.inspection_laws.specs.CountingPieces.{AllSilent, AreSmall, AreGiven, WritesCountByTables, CellsCountByTables}
use Rattle.inspection_laws.proofs.Second.{cells_few, before_few}

pub or_first : (x y : Bool) → x ≡ true → (x || y) ≡ true
or_first true y e = refl
or_first false y e = absurd (true≢false (sym e))

-- ---- names of the words that count

pub written_apart : (i j : ℕ) → i < 2 ^ 64 → j < 2 ^ 64 → i ≢ j → bytes_eq (written i) (written j) ≡ false
unfolding written
written_apart i j a b h = apart_by (numbered (codes "bal_cw") i) (numbered (codes "bal_cw") j) (λ e. h (decimal_injective i j a b (front_cancel (codes "bal_cw") (decimal i) (decimal j) e)))

pub written_piece : (a : ℕ) → piece_word (written a) ≡ true
unfolding written
written_piece a = refl

pub same_text : (x y : Word) → bytes_eq x y ≡ true → x ≡ y
same_text x y e = (bytes_eq-Decides x y).0 e

-- ---- how many writes there are

front : (f : ℕ → ℕ) (n : ℕ) → sum_below f (suc n) ≡ f 0 + sum_below (λ q. f (suc q)) n
unfolding sum_below
front f zero = omega arith
front f (suc n) = let h = front f n in omega arith

writes_front : (pre rest : List Access) (a : ℕ) → writes_before (pre ++ rest) a (length pre) ≡ writes_in pre a
writes_front [] rest a = sum_below_none (λ q. if writes_array rest a q then 1 else 0)
writes_front (x ∷ pre) rest a =
    front (λ q. if writes_array (x ∷ (pre ++ rest)) a q then 1 else 0) (length pre) ∙ ap (λ n. (if x.writes && (x.array == a) then 1 else 0) + n) (writes_front pre rest a)

pub writes_so_far : (whole pre rest : List Tagged) (a : ℕ) → pre ++ rest ≡ whole → writes_before (untagged whole) a (length pre) ≡ writes_in (untagged pre) a
writes_so_far whole pre rest a is =
    ap (λ (l : List Tagged). writes_before (untagged l) a (length pre)) (sym is) ∙ ap (λ (l : List Access). writes_before l a (length pre)) (map-append (λ (t : Tagged). t.access) pre rest) ∙
    ap (writes_before (untagged pre ++ untagged rest) a) (sym (length-map pre (λ (t : Tagged). t.access))) ∙ writes_front (untagged pre) (untagged rest) a

pub writes_push : (xs : List Access) (x : Access) (a : ℕ) → writes_in (xs ++ x ∷ []) a ≡ writes_in xs a + (if x.writes && (x.array == a) then 1 else 0)
writes_push [] x a = omega arith
writes_push (y ∷ xs) x a = let h = writes_push xs x a in omega arith

pub untagged_push : (pre : List Tagged) (t : Tagged) → untagged (pre ++ t ∷ []) ≡ untagged pre ++ t.access ∷ []
untagged_push pre t = map-append (λ (t : Tagged). t.access) pre (t ∷ [])

-- ---- what is kept

count_over_read : (inspected : List ℕ) (xs : List Access) (y : Access) (x : Word) → y.writes ≡ false → count_of inspected (xs ++ y ∷ []) x ≡ count_of inspected xs x
count_over_read [] xs y x e = refl
count_over_read (a ∷ more) xs y x e =
    let same : writes_in (xs ++ y ∷ []) a ≡ writes_in xs a = writes_push xs y a ∙ ap (λ b. writes_in xs a + (if b && (y.array == a) then 1 else 0)) e ∙ omega arith in
    rw (same, count_over_read more xs y x e) refl

held_piece : (inspected : List ℕ) (x : Word) → counts_one_of inspected x ≡ true → piece_word x ≡ true
held_piece [] x e = absurd (true≢false (sym e))
held_piece (a ∷ more) x e =
    elim (cases_Bool (bytes_eq (written a) x)) [
      | inl g ↦ subst (λ x. piece_word x ≡ true) (same_text (written a) x g) (written_piece a)
      | inr g ↦ held_piece more x (sym (ap (λ b. b || counts_one_of more x) g) ∙ e)
    ]

pub tables_are_kept : (inspected : List ℕ) (entries : Word → List ℕ) → IsKept (tables_kept inspected entries)
tables_are_kept inspected entries = record {
  piece_words = held_piece inspected;
  over_reads = λ so_far t x r e. ap (λ (l : List Access). count_of inspected l x) (untagged_push so_far t) ∙ count_over_read inspected (untagged so_far) t.access x r;
}

-- a write of array a: its own word counts one more, and the others stay
count_other : (inspected : List ℕ) (xs : List Access) (y : Access) (a : ℕ) (x : Word) → AreSmall inspected → a < 2 ^ 64 → y.array ≡ a → counts_one_of inspected x ≡ true → bytes_eq (written a) x ≡ false → count_of inspected (xs ++ y ∷ []) x ≡ count_of inspected xs x
count_other [] xs y a x small s ours e g = refl
count_other (b ∷ more) xs y a x small s ours e g =
    elim (cases_Bool (bytes_eq (written b) x)) [
      | inl same ↦ (
          let apart : b ≢ a = λ h. true≢false (sym (ap (λ n. bytes_eq (written n) x) (sym h) ∙ same) ∙ g) in
          let none : (y.array == b) ≡ false = elim (cases_Bool (y.array == b)) [ inl f ↦ absurd (apart (sym (eqb-true y.array b f) ∙ ours)) | inr f ↦ f ] in
          let equal : writes_in (xs ++ y ∷ []) b ≡ writes_in xs b = writes_push xs y b ∙ ap (λ n. writes_in xs b + n) (nothing y.writes (y.array == b) none) ∙ omega arith in
          rw (same, equal) refl)
      | inr other ↦ rw other (count_other more xs y a x small.1 s ours (sym (ap (λ b. b || counts_one_of more x) other) ∙ e) g)
    ]
  where
    nothing : (p q : Bool) → q ≡ false → (let n : ℕ = if p && q then 1 else 0 in n) ≡ 0
    nothing true q e = ap (λ (q : Bool). (let n : ℕ = if q then 1 else 0 in n)) e
    nothing false q e = refl

count_here : (inspected : List ℕ) (xs : List Access) (a : ℕ) → counts_one_of inspected (written a) ≡ true → AreSmall inspected → a < 2 ^ 64 → count_of inspected xs (written a) ≡ writes_in xs a
count_here [] xs a e small s = absurd (true≢false (sym e))
count_here (b ∷ more) xs a e small s =
    elim (cases_eq b a) [
      | inl same ↦ rw (ap (λ n. bytes_eq (written n) (written a)) same ∙ same_word (written a)) (ap (writes_in xs) same)
      | inr other ↦ (let apart : bytes_eq (written b) (written a) ≡ false = written_apart b a small.0 s other in rw apart (count_here more xs a (sym (ap (λ c. c || counts_one_of more (written a)) apart) ∙ e) small.1 s))
    ]

-- ---- expressions without cells go on

abbrev pub number_in : Outcome ℕ → ℕ
number_in (goes_on n s) = n
number_in (ends e s) = 0

abbrev pub Goes : Scope → PlainExpr → Vars → State → Type 0
Goes sc e vs s = (v : ℕ) × (word sc e vs s ≡ goes_on v s)

two_go : (sc : Scope) (f : ℕ → ℕ → ℕ) (p q : Run ℕ) (s : State) → ((v : ℕ) × (p s ≡ goes_on v s)) → ((v : ℕ) × (q s ≡ goes_on v s)) → (v : ℕ) × (and_then (p s) (λ x t. and_then (q t) (λ y t. goes_on (f x y) t)) ≡ goes_on v s)
two_go sc f p q s h g = (f h.0 g.0, two_words sc f p q s h.0 g.0 h.1 g.1)

pub silent_goes : (sc : Scope) (e : PlainExpr) (vs : Vars) (s : State) → IsSilent e → Goes sc e vs s
silent_goes sc (lit n) vs s h = (n, refl)
silent_goes sc (var x) vs s h = (s.words x, refl)
silent_goes sc (cell x es) vs s h = absurd h
silent_goes sc (un op e) vs s h = let g : Goes sc e vs s = silent_goes sc e vs s h in (word_un op g.0, ap (λ o. and_then o (λ x t. goes_on (word_un op x) t)) g.1)
silent_goes sc (bin op e f) vs s h = two_go sc (word_bin op) (word sc e vs) (word sc f vs) s (silent_goes sc e vs s h.0) (silent_goes sc f vs s h.1)
silent_goes sc (cast e) vs s h = chosen (is_signed (kind vs e)) (silent_goes sc e vs s h)
  where
    chosen : (b : Bool) → Goes sc e vs s → (v : ℕ) × ((if b then give (as_word (signed e vs)) else word sc e vs) s ≡ goes_on v s)
    chosen true g = (as_word (signed e vs), refl)
    chosen false g = g
silent_goes sc (test rel e f) vs s h = two_go sc (λ x y. as_bit (word_holds rel x y)) (word sc e vs) (word sc f vs) s (silent_goes sc e vs s h.0) (silent_goes sc f vs s h.1)
silent_goes sc (umin e f) vs s h = two_go sc (λ x y. if nat_lt x y then x else y) (word sc e vs) (word sc f vs) s (silent_goes sc e vs s h.0) (silent_goes sc f vs s h.1)
silent_goes sc (umax e f) vs s h = two_go sc (λ x y. if nat_lt x y then y else x) (word sc e vs) (word sc f vs) s (silent_goes sc e vs s h.0) (silent_goes sc f vs s h.1)
silent_goes sc (least e f) vs s h = (0, refl)
silent_goes sc (greatest e f) vs s h = (0, refl)
silent_goes sc (widen e) vs s h = (0, refl)
silent_goes sc (big high low) vs s h = (0, refl)

-- the value of an index without cells
abbrev pub value : Scope → PlainExpr → Vars → State → ℕ
value sc e vs s = number_in (word sc e vs s)

pub value_is : (sc : Scope) (e : PlainExpr) (vs : Vars) (s : State) → IsSilent e → word sc e vs s ≡ goes_on (value sc e vs s) s
value_is sc e vs s h = let g : Goes sc e vs s = silent_goes sc e vs s h in g.1 ∙ ap (λ n. goes_on n s) (sym (ap number_in g.1))

-- ---- the count from a table

abbrev pub counted_from : ℕ → ℕ → State → State
counted_from a i s = record s { wides = put s.wides count (slice_index (s.tables (counts a)) i) }

pub count_from_is : (sc : Scope) (a : ℕ) (e : PlainExpr) (vs : Vars) (s : State) (i : ℕ) → HasTables sc.arrays sc.wides a → word sc e vs s ≡ goes_on i s →
    exec sc (assign (var count) None (widen (cell (counts a) (one e)))) vs s ≡ goes_on tt (counted_from a i s)
count_from_is sc a e vs s i has h =
    rw (has.count_wide, entry_is sc (counts a) e vs s i has.counts_apart h) refl

pub cells_silent : (ns : PlainExprs) → AllSilent ns → IsSilent (cells_of ns)
cells_silent no_exprs h = tt
cells_silent (more_exprs n ns) h = (h.0, cells_silent ns h.1)

row_silent : (ns ms : PlainExprs) → AllSilent ns → AllSilent ms → IsSilent (row_of ns (words_from ms))
row_silent no_exprs ms h g = tt
row_silent (more_exprs n ns) no_exprs h g = tt
row_silent (more_exprs n ns) (more_exprs e es) h g = ((g.0, cells_silent ns h.1), row_silent ns es h.1 g.1)

coordinates_silent : (d : ℕ) (ns : PlainExprs) → AllSilent (coordinates_from d ns)
coordinates_silent d no_exprs = tt
coordinates_silent d (more_exprs n ns) = (tt, coordinates_silent (suc d) ns)

-- ---- a write

module _ (arrays : List Array) (wides : List Word) (fault : Option Upset) (a : ℕ) (has : HasTables arrays wides a) (ns : PlainExprs) (silent : AllSilent ns) where
  abbrev sc : Scope
  sc = record { arrays = arrays; wides = wides; fault = fault }

  abbrev pub write_index : PlainExpr
  write_index = bin Add (cells_of ns) (var (written a))

  pub index_silent : IsSilent write_index
  index_silent = (cells_silent ns silent, tt)

  abbrev pub written_to : Vars → State → State
  written_to vs s = record (counted_from a (value sc write_index vs s) s) { words = put s.words (written a) ((s.words (written a) + 1) % 2 ^ 64) }

  abbrev pub write_piece : Piece sc (at_write a ns)
  write_piece = record {
    to = written_to;
    goes = λ vs o s.
        ap (λ o. and_then o (λ u t. exec_all sc (stmts_of (one_more a ∷ [])) vs t)) (count_from_is sc a write_index vs s (value sc write_index vs s) has (value_is sc write_index vs s index_silent)) ∙
        exec_one sc (one_more a) vs (counted_from a (value sc write_index vs s) s) ∙ rw (has.words (written a) (or_first (bytes_eq (written a) (written a)) (begins (codes "bal_cx") (written a)) (same_word (written a)))) refl;
    memory = λ vs s. refl;
    accesses = λ vs s. refl;
    begun = λ vs s. refl;
    words = λ vs s x e. ap (λ b. cond b ((s.words (written a) + 1) % 2 ^ 64) (s.words x)) (apart_as piece_word (written a) x (written_piece a) e);
    wides = λ vs s x e. ap (λ b. cond b (slice_index (s.tables (counts a)) (value sc write_index vs s)) (s.wides x)) e;
  }

  module _ (whole : List Tagged) (extents : ℕ → List ℤ) (k : ℕ) (inspected : List ℕ) (entries : Word → List ℕ) (among : counts_one_of inspected (written a) ≡ true) (smalls : AreSmall inspected) (small : a < 2 ^ 64) (short : length whole < 2 ^ 63)
      (counted : (d : Definition) → IsIts (untagged whole) a (extents a) d → slice_index (entries (counts a)) (number_of (untagged whole) a (extents a) d) ≡ uses (untagged whole) d)
      (sized : (pre rest : List Tagged) (t : Tagged) → pre ++ t ∷ rest ≡ whole → t.site ≡ k → t.access.writes ≡ true → AreSized sc ns (extents a) t.vars)
      (ours : (pre rest : List Tagged) (t : Tagged) → pre ++ t ∷ rest ≡ whole → t.site ≡ k → t.access.writes ≡ true → t.access.array ≡ a) where
    abbrev kept : Kept
    kept = tables_kept inspected entries

    so_far : (pre rest : List Tagged) (t : Tagged) (s : State) → pre ++ t ∷ rest ≡ whole → Ready kept pre s → s.words (written a) ≡ writes_before (untagged whole) a (length pre)
    so_far pre rest t s is r = r.counters (written a) among ∙ count_here inspected (untagged pre) a among smalls small ∙ sym (writes_so_far whole pre (t ∷ rest) a is)

    few : (pre rest : List Tagged) (t : Tagged) → pre ++ t ∷ rest ≡ whole → writes_before (untagged whole) a (length pre) < 2 ^ 63
    few pre rest t is = let l : length pre < length whole = below_here whole pre t rest is in let b : writes_before (untagged whole) a (length pre) ≤ length pre = before_few (untagged whole) a (length pre) in omega arith

    pub write_counts : Counts kept sc whole k (at_write a ns) write_piece
    write_counts = record {
      tables = λ vs s o. refl;
      counts = λ pre rest t s o is at_k w r.
          let list : List Access = untagged whole in
          let here : at list (length pre) ≡ t.access = access_here whole pre t rest is in
          let its : writes_array list a (length pre) ≡ true = ap (λ (x : Access). x.writes && (x.array == a)) here ∙ and_from t.access.writes (t.access.array == a) w (eq-eqb t.access.array a (ours pre rest t is at_k w)) in
          let n : ℕ = writes_before list a (length pre) in
          let now : s.words (written a) ≡ n = so_far pre rest t s is r in
          let low : n < 2 ^ 63 = few pre rest t is in
          let cells : cell_count (extents a) < 2 ^ 62 = cells_few sc ns (extents a) t.vars (sized pre rest t is at_k w) in
          let index : value sc write_index t.vars s ≡ cell_count (extents a) + n =
          ap number_in (two_words sc (word_bin Add) (word sc (cells_of ns) t.vars) (word sc (var (written a)) t.vars) s (cell_count (extents a)) (s.words (written a)) (cells_give sc ns (extents a) t.vars s (sized pre rest t is at_k w)) refl) ∙ omega arith in
          ap (λ b. cond b (slice_index (s.tables (counts a)) (value sc write_index t.vars s)) (s.wides count)) (same_word count) ∙
          ap (slice_index (s.tables (counts a))) index ∙ ap (λ (f : Word → List ℕ). slice_index (f (counts a)) (cell_count (extents a) + n)) r.entries ∙ counted (Written (length pre)) its;
      keeps = λ pre rest t s o is at_k w r x held.
          let a_is : t.access.array ≡ a = ours pre rest t is at_k w in
          let now : s.words (written a) ≡ writes_before (untagged whole) a (length pre) = so_far pre rest t s is r in
          let low : writes_before (untagged whole) a (length pre) < 2 ^ 63 = few pre rest t is in
          let push : count_of inspected (untagged (pre ++ t ∷ [])) x ≡ count_of inspected (untagged pre ++ t.access ∷ []) x = ap (λ (l : List Access). count_of inspected l x) (untagged_push pre t) in
          elim (cases_Bool (bytes_eq (written a) x)) [
            | inl e ↦ (
                let same : written a ≡ x = same_text (written a) x e in
                let grown : writes_in (untagged pre ++ t.access ∷ []) a ≡ writes_in (untagged pre) a + 1 = writes_push (untagged pre) t.access a ∙ ap (λ (b : Bool). writes_in (untagged pre) a + (if b then 1 else 0)) (and_from t.access.writes (t.access.array == a) w (eq-eqb t.access.array a a_is)) in
                let front_is : writes_before (untagged whole) a (length pre) ≡ writes_in (untagged pre) a = writes_so_far whole pre (t ∷ rest) a is in
                let last : count_of inspected (untagged pre ++ t.access ∷ []) x ≡ writes_in (untagged pre ++ t.access ∷ []) a = ap (count_of inspected (untagged pre ++ t.access ∷ [])) (sym same) ∙ count_here inspected (untagged pre ++ t.access ∷ []) a among smalls small in
                ap (λ b. cond b ((s.words (written a) + 1) % 2 ^ 64) (s.words x)) e ∙ (let z : (s.words (written a) + 1) % 2 ^ 64 ≡ writes_in (untagged pre) a + 1 = omega arith in z) ∙ sym grown ∙ sym last ∙ sym push)
            | inr e ↦ (
                ap (λ b. cond b ((s.words (written a) + 1) % 2 ^ 64) (s.words x)) e ∙ r.counters x held ∙ sym (count_other inspected (untagged pre) t.access a x smalls small a_is held e) ∙ sym push)
          ];
    }

  -- ---- an initial cell

  abbrev pub cell_index : PlainExpr
  cell_index = row_of ns (words_from (coordinates_from 0 ns))

  pub cell_silent : IsSilent cell_index
  cell_silent = row_silent ns (coordinates_from 0 ns) silent (coordinates_silent 0 ns)

  abbrev pub cell_piece : Piece sc (initial a ns)
  cell_piece = record {
    to = λ vs s. counted_from a (value sc cell_index vs s) s;
    goes = λ vs o s. exec_one sc (assign (var count) None (widen (cell (counts a) (one cell_index)))) vs s ∙ count_from_is sc a cell_index vs s (value sc cell_index vs s) has (value_is sc cell_index vs s cell_silent);
    memory = λ vs s. refl;
    accesses = λ vs s. refl;
    begun = λ vs s. refl;
    words = λ vs s x e. refl;
    wides = λ vs s x e. ap (λ b. cond b (slice_index (s.tables (counts a)) (value sc cell_index vs s)) (s.wides x)) e;
  }

  module _ (whole : List Tagged) (vs : Vars) (extents : ℕ → List ℤ) (inspected : List ℕ) (entries : Word → List ℕ)
      (counted : (d : Definition) → IsIts (untagged whole) a (extents a) d → slice_index (entries (counts a)) (number_of (untagged whole) a (extents a) d) ≡ uses (untagged whole) d)
      (sized : (cs : List ℤ) → Within (extents a) cs → AreSized sc ns (extents a) (coordinate_vars 0 cs vs))
      (given : (cs : List ℤ) (s : State) → Within (extents a) cs → AreGiven sc (words_from (coordinates_from 0 ns)) cs (coordinate_vars 0 cs vs) s) where
    pub cells_count : CountsCells (tables_kept inspected entries) sc whole vs (extents a) a (initial a ns) cell_piece
    cells_count = record {
      tables = λ vs s o. refl;
      counts = λ cs s w r.
          let lies : Within (extents a) cs = within_from (extents a) cs w in
          let env : Vars = coordinate_vars 0 cs vs in
          let index : value sc cell_index env s ≡ row (extents a) cs = ap number_in (row_gives sc ns (extents a) (words_from (coordinates_from 0 ns)) cs env s (sized cs lies) (given cs s lies) lies) in
          ap (λ b. cond b (slice_index (s.tables (counts a)) (value sc cell_index env s)) (s.wides count)) (same_word count) ∙
          ap (slice_index (s.tables (counts a))) index ∙ ap (λ (f : Word → List ℕ). slice_index (f (counts a)) (row (extents a) cs)) r.entries ∙ counted (Initial a cs) (refl, lies);
      keeps = λ vs s x o e. refl;
    }

-- ---- as the laws of texts ask for them

pub writes_count_by_tables : WritesCountByTables
writes_count_by_tables arrays wides fault a ns whole extents k inspected entries has silent among smalls small short counted sized ours = record {
  piece = write_piece arrays wides fault a has ns silent;
  counts = write_counts arrays wides fault a has ns silent whole extents k inspected entries among smalls small short counted sized ours;
}

pub cells_count_by_tables : CellsCountByTables
cells_count_by_tables arrays wides fault a ns whole vs extents inspected entries has silent counted sized given = record {
  piece = cell_piece arrays wides fault a has ns silent;
  counts = cells_count arrays wides fault a has ns silent whole vs extents inspected entries counted sized given;
}
