-- A source with irregular reads, inputs and pieces that meet every premise of the laws of texts: void f(const uint64_t P[2], uint64_t X[2]) { X[1] = X[P[0]]; X[0] = X[P[1]]; }
-- with P = 1 1: X is inspected and written, and P is counted by constants.
use Rattle.std.proofs.Common.{inr, ◌≡◌, ℕ, zero, suc, ◌^◌, ◌<◌, Bool, true, false, cond, not, ◌&&◌, ◌==◌, List, [], ◌∷◌, ◌++◌, length, refl, sym, ap, ◌∙◌, subst, arith, ℤ, pos, negsuc, Option, Some, None, codes, true≢false}
use Rattle.std.specs.Prelude.{bytes_eq, slice_index}
use Rattle.std.specs.Int.{int_wrap}
use Rattle.std.proofs.lemmas.Bool.{eqb-true}
use Rattle.c_tree.specs.Plain.{Word, PlainExpr, lit, cell, PlainExprs, no_exprs, more_exprs, PlainStmt, assign, PlainStmts, no_stmts, more_stmts}
use Rattle.c_tree.specs.Trees.{stmts_of}
use Rattle.c_tree.specs.Values.{Vars, as_word}
use Rattle.c_tree.specs.Arrays.{Array, Memory, memory_of, extents_at, is_within, size_of}
use Rattle.c_tree.specs.Accesses.{Access, Definition, at as access_at, uses, sum_below, latest, Within, Clean}
use Rattle.c_tree.specs.Accesses.Definition.{Initial, Written}
use Rattle.c_tree.specs.Fault.{Upset}
use Rattle.c_tree.specs.Instances.{Tagged, untagged}
use Rattle.c_tree.specs.Run.{State, Outcome, goes_on, ends, Scope, exec_all}
use Rattle.instrumentation.specs.Names.{count, coordinate, definition_total, use_total, number_in}
use Rattle.std.specs.Fmt.{digits}
use Rattle.instrumentation.specs.Guarded.{total_names}
use Rattle.instrumentation_laws.specs.RegularSources.{IsArray}
use Rattle.instrumentation_laws.specs.Pieces.{uses_in}
use Rattle.instrumentation_laws.specs.Setting.{scope_of, inspected_in}
use Rattle.instrumentation_laws.proofs.Declared.{declares, sizes_are, count_in}
use Rattle.instrumentation_laws.proofs.Constant.{constant, constant_piece, count_is}
use Rattle.instrumentation_laws.specs.PrologueTotals.{coordinate_vars, AreDeclared}
use Rattle.pass_laws.proofs.Standing.{access_here}
use Rattle.cell_laws.proofs.Within.{within_from}
use Rattle.inspection_laws.specs.CountingPieces.{AreGiven}
use Rattle.inspection_laws.proofs.IndexWords.{as_word_is}
use Rattle.instrumentation.specs.Passes.{coordinates_from}
use Rattle.pass_laws.specs.Places.{IsPlace}
use Rattle.pass_laws.proofs.Renamed.{copied_vars}
use Rattle.instrumentation.specs.Names.{written, current, counts}
use Rattle.instrumentation.specs.Tables.{words_from, build, initial, at_write}
use Rattle.instrumentation.specs.Guarded.{extents_from}
use Rattle.instrumentation_laws.specs.IndexedList.{tagged_all}
use Rattle.inspection_laws.specs.Walked.{IsKnown, IsWalked, AreWalked, AreSized, AreExtents, HasTables, Built}
use Rattle.instrumentation_laws.specs.Kept.{Kept, IsSitePiece, AreCellPieces}
use Rattle.instrumentation_laws.specs.Sources.{IsRead, AreSource}
use Rattle.inspection_laws.specs.Inspected.{IsIts, number_of}
use Rattle.inspection_laws.specs.Inspections.{counts_one_of}
use Rattle.instrumentation_laws.specs.KeptTexts.{KeptSetting, HasIndexArrays, GoesPrepared}
use Rattle.instrumentation_laws.proofs.Outcomes.{GoesOr}
use Rattle.inspection_laws.proofs.Building.{builds}
use Rattle.inspection_laws.proofs.Prepares.{piece_not_wide, scratch_piece, kept_by, prepares, AllNoPieces}
use Rattle.inspection_laws.proofs.Sized.{sized_from, walk_agrees}
use Rattle.inspection_laws.proofs.TablePieces.{tables_are_kept, write_piece, write_counts, cell_piece, cells_count}

abbrev one : PlainExpr → PlainExprs
one e = more_exprs e no_exprs

abbrev p : ℕ → PlainExpr
p k = cell (codes "P") (one (lit k))

abbrev x : PlainExpr → PlainExpr
x e = cell (codes "X") (one e)

abbrev body : PlainStmts
body = more_stmts (assign (x (lit 1)) None (x (p 0))) (more_stmts (assign (x (lit 0)) None (x (p 1))) no_stmts)

abbrev arrays : List Array
arrays = record { name = codes "P"; constant = true; extents = pos 2 ∷ [] } ∷ record { name = codes "X"; constant = false; extents = pos 2 ∷ [] } ∷ []

abbrev words : List Word
words = codes "P" ∷ codes "X" ∷ []

abbrev number : Word → ℕ
number = number_in words

abbrev two : PlainExprs
two = one (lit 2)

abbrev decls : List (Word × PlainExprs)
decls = (codes "P", two) ∷ (codes "X", two) ∷ []

abbrev wides : List Word
wides = count ∷ total_names 0 words

abbrev memory : Memory
memory = memory_of arrays ((1 ∷ 1 ∷ []) ∷ (10 ∷ 20 ∷ []) ∷ [])

abbrev from : State
from = record { memory = memory; words = λ x. 0; wides = λ x. 0; tables = λ x. []; made = []; begun = false; accesses = []; prologue_turns = 0; body_turns = 0 }

abbrev whole : List Tagged
whole = tagged_all arrays memory number 0 body []

-- ---- the list

x_1 : uses_in whole (Initial 1 (pos 1 ∷ [])) ≡ 1
unfolding int_wrap uses sum_below latest
x_1 = refl

x_written : uses_in whole (Written 2) ≡ 1
unfolding int_wrap uses sum_below latest
x_written = refl

p_0 : uses_in whole (Initial 0 (pos 0 ∷ [])) ≡ 1
unfolding int_wrap uses sum_below latest
p_0 = refl

p_1 : uses_in whole (Initial 0 (pos 1 ∷ [])) ≡ 1
unfolding int_wrap uses sum_below latest
p_1 = refl

size : length whole ≡ 6
size = refl

inside : (k : ℕ) → k < 2 → Within (pos 2 ∷ []) (pos k ∷ [])
inside k l = ((k, refl, l), tt)

clean : Clean (extents_at arrays) (untagged whole)
unfolding int_wrap
clean zero l = inside 0 (omega arith)
clean (suc zero) l = inside 1 (omega arith)
clean (suc (suc zero)) l = inside 1 (omega arith)
clean (suc (suc (suc zero))) l = inside 1 (omega arith)
clean (suc (suc (suc (suc zero)))) l = inside 1 (omega arith)
clean (suc (suc (suc (suc (suc zero))))) l = inside 0 (omega arith)
clean (suc (suc (suc (suc (suc (suc q)))))) l = absurd (omega arith)

-- ---- tables

no_pieces : AllNoPieces wides
unfolding count definition_total use_total digits
no_pieces = (refl, (refl, (refl, (refl, (refl, tt)))))

has : HasTables arrays wides 1
unfolding current counts digits
has = record { current_apart = refl; counts_apart = refl; words = λ x e. piece_not_wide wides x no_pieces (scratch_piece 1 x e); count_wide = count_in words }

place : IsPlace [] []
place = record { values = λ x h. absurd (true≢false (sym h)); has = λ x h. absurd (true≢false (sym h)); variables = λ d. refl; counter_free = refl }

extents_are : AreExtents two (pos 2 ∷ []) []
unfolding int_wrap
extents_are = ((tt, inr (omega arith)), (2, refl, refl, omega arith), omega arith, tt)

sized : (f : Option Upset) (loops : Vars) → AreSized (scope_of arrays wides f) two (extents_at arrays 1) (copied_vars loops ++ [])
sized f loops = sized_from [] (copied_vars loops ++ []) (walk_agrees [] [] place loops) (scope_of arrays wides f) two (pos 2 ∷ []) extents_are

few : length words < 2 ^ 64
few = omega arith

some_is : (a b : ℕ × Array) → Some a ≡ Some b → a ≡ b
some_is a b e = cc

known_size : (y : Word) (k : IsKnown arrays number y) → k.array.1.extents ≡ extents_at arrays k.array.0
known_size y k = chosen (bytes_eq (codes "P") y) (bytes_eq (codes "X") y) k.named
  where
    sized_by : (a : ℕ × Array) → a ≡ k.array → a.1.extents ≡ extents_at arrays a.0 → k.array.1.extents ≡ extents_at arrays k.array.0
    sized_by a e h = subst (λ (a : ℕ × Array). a.1.extents ≡ extents_at arrays a.0) e h

    chosen : (b c : Bool) → cond b (Some (0, record { name = codes "P"; constant = true; extents = pos 2 ∷ [] })) (cond c (Some (1, record { name = codes "X"; constant = false; extents = pos 2 ∷ [] })) None) ≡ Some k.array → k.array.1.extents ≡ extents_at arrays k.array.0
    chosen true c e = sized_by (0, record { name = codes "P"; constant = true; extents = pos 2 ∷ [] }) (some_is _ _ e) refl
    chosen false true e = sized_by (1, record { name = codes "X"; constant = false; extents = pos 2 ∷ [] }) (some_is _ _ e) refl
    chosen false false e = absurd (let g : None ≡ Some k.array = e in cc)

known_p : IsKnown arrays number (codes "P")
known_p = record { array = (0, record { name = codes "P"; constant = true; extents = pos 2 ∷ [] }); named = refl; numbered = refl }

known_x : IsKnown arrays number (codes "X")
known_x = record { array = (1, record { name = codes "X"; constant = false; extents = pos 2 ∷ [] }); named = refl; numbered = refl }

walked : AreWalked arrays number body []
unfolding known_p known_x
walked =
    let first : IsWalked arrays number (assign (x (lit 1)) None (x (p 0))) [] = (((tt, inr (omega arith)), tt), (((known_p, ((tt, inr (omega arith)), tt), omega arith, refl), tt), omega arith, (known_x, refl))) in
    let second : IsWalked arrays number (assign (x (lit 0)) None (x (p 1))) [] = (((tt, inr (omega arith)), tt), (((known_p, ((tt, inr (omega arith)), tt), omega arith, refl), tt), omega arith, (known_x, refl))) in
    (first, (second, tt))

abbrev built_run : Option Upset → Outcome (Unit {0})
built_run f = exec_all (scope_of arrays wides f) (stmts_of (build number body 1 two)) [] from

built : (f : Option Upset) → GoesOr (λ e t. ⊥) (Built (untagged whole) 1 (pos 2 ∷ []) from) (built_run f)
built f = builds arrays number wides f 1 has memory [] [] place tt whole (extents_at arrays) two clean (omega arith) known_size (sized f) body walked refl from refl refl

prepared : (f : Option Upset) → GoesPrepared (kept_by 1 (built_run f)) from (built_run f)
prepared f = prepares (untagged whole) 1 (pos 2 ∷ []) from (built_run f) (built f)

-- ---- pieces

abbrev sc : Option Upset → Scope
sc f = scope_of arrays wides f

abbrev kept : Option Upset → Kept
kept f = kept_by 1 (built_run f)

counted : (f : Option Upset) (d : Definition) → IsIts (untagged whole) 1 (pos 2 ∷ []) d → slice_index ((kept f).entries (counts 1)) (number_of (untagged whole) 1 (pos 2 ∷ []) d) ≡ uses (untagged whole) d
counted f d i = from_built (built_run f) (built f)
  where
    from_built : (o : Outcome (Unit {0})) → GoesOr (λ e t. ⊥) (Built (untagged whole) 1 (pos 2 ∷ []) from) o → slice_index ((kept_by 1 o).entries (counts 1)) (number_of (untagged whole) 1 (pos 2 ∷ []) d) ≡ uses (untagged whole) d
    from_built (goes_on u t) h = h.counted d i
    from_built (ends e t) h = absurd h

abbrev tables : List PlainStmt
tables = build number body 1 two

abbrev cells : ℕ → PlainExprs → List PlainStmt
cells zero es = constant 1
cells (suc a) es = initial 1 two

abbrev pieces : ℕ → List PlainStmt
pieces k = at_write 1 two

sized_at : (f : Option Upset) (vs : Vars) → AreSized (sc f) two (extents_at arrays 1) vs
sized_at f vs = sized_from [] vs (record { values = λ x h. absurd (true≢false (sym h)); has = λ x h. absurd (true≢false (sym h)) }) (sc f) two (pos 2 ∷ []) extents_are

-- every write is one of X
ours : (pre rest : List Tagged) (t : Tagged) → pre ++ t ∷ rest ≡ whole → t.access.writes ≡ true → t.access.array ≡ 1
ours pre rest t is w = at_q (length pre) (access_here whole pre t rest is)
  where
    no_write : (q : ℕ) → access_at (untagged whole) q ≡ t.access → (access_at (untagged whole) q).writes ≡ false → t.access.array ≡ 1
    no_write q e f = absurd (true≢false (sym w ∙ sym (ap (λ (y : Access). y.writes) e) ∙ f))

    at_q : (q : ℕ) → access_at (untagged whole) q ≡ t.access → t.access.array ≡ 1
    at_q zero e = no_write 0 e refl
    at_q (suc zero) e = no_write 1 e refl
    at_q (suc (suc zero)) e = sym (ap (λ (y : Access). y.array) e)
    at_q (suc (suc (suc zero))) e = no_write 3 e refl
    at_q (suc (suc (suc (suc zero)))) e = no_write 4 e refl
    at_q (suc (suc (suc (suc (suc zero))))) e = sym (ap (λ (y : Access). y.array) e)
    at_q (suc (suc (suc (suc (suc (suc q)))))) e = no_write (suc (suc (suc (suc (suc (suc q)))))) e refl

among : counts_one_of (1 ∷ []) (written 1) ≡ true
unfolding written digits
among = refl

site_piece : (f : Option Upset) (k : ℕ) → IsSitePiece (kept f) (sc f) whole k (pieces k)
site_piece f k = record {
  piece = write_piece arrays wides f 1 has two (tt, tt);
  counts = write_counts arrays wides f 1 has two (tt, tt) whole (extents_at arrays) k (1 ∷ []) ((kept f).entries) among (omega arith, tt) (omega arith) (omega arith) (counted f) (λ pre rest t is same w. sized_at f t.vars) (λ pre rest t is at_k w. ours pre rest t is w);
}

p_cells : (cs : List ℤ) → is_within cs (pos 2 ∷ []) ≡ true → uses_in whole (Initial 0 cs) ≡ 1
p_cells [] w = absurd (true≢false (sym w))
p_cells (pos zero ∷ []) w = p_0
p_cells (pos (suc zero) ∷ []) w = p_1
p_cells (pos (suc (suc k)) ∷ []) w = absurd (let h = within_from (pos 2 ∷ []) (pos (suc (suc k)) ∷ []) w in let e : suc (suc k) ≡ h.0.0 = ap size_of h.0.1 in let l : h.0.0 < 2 = h.0.2 in omega arith)
p_cells (negsuc k ∷ []) w = absurd (true≢false (sym w))
p_cells (c ∷ d ∷ cs) w = absurd (let h = within_from (pos 2 ∷ []) (c ∷ d ∷ cs) w in h.1)

x_given : (f : Option Upset) (cs : List ℤ) (s : State) → Within (pos 2 ∷ []) cs → AreGiven (sc f) (words_from (coordinates_from 0 two)) cs (coordinate_vars 0 cs []) s
unfolding coordinate digits
x_given f [] s w = absurd w
x_given f (c ∷ []) s w = (ap (λ z. goes_on (as_word z) s) w.0.1 ∙ ap (λ n. let o : Outcome ℕ = goes_on n s in o) (as_word_is w.0.0 (let l : w.0.0 < 2 = w.0.2 in omega arith)) ∙ ap (λ z. goes_on (size_of z) s) (sym w.0.1), tt)
x_given f (c ∷ d ∷ cs) s w = absurd w.1

cell_pieces : (f : Option Upset) → AreCellPieces (kept f) (sc f) whole [] (extents_at arrays) cells 0 decls
cell_pieces f = (
  record {
    piece = constant_piece (sc f) 1 (count_in words);
    counts = record { tables = λ vs s o. refl; counts = λ cs s w r. count_is 1 s ∙ sym (p_cells cs w); keeps = λ vs s x o e. refl };
  },
  (
    record {
      piece = cell_piece arrays wides f 1 has two (tt, tt);
      counts = cells_count arrays wides f 1 has two (tt, tt) whole [] (extents_at arrays) (1 ∷ []) ((kept f).entries) (counted f) (λ cs w. sized_at f (coordinate_vars 0 cs [])) (x_given f);
    },
    tt,
  ),
)

-- ---- the source

is_p : IsArray arrays number (codes "P")
is_p = record { array = (0, record { name = codes "P"; constant = true; extents = pos 2 ∷ [] }); named = refl; numbered = refl; small = omega arith }

is_x : IsArray arrays number (codes "X")
is_x = record { array = (1, record { name = codes "X"; constant = false; extents = pos 2 ∷ [] }); named = refl; numbered = refl; small = omega arith }

abbrev texts : Word → PlainExprs
texts = extents_from decls

abbrev inspected : ℕ → Bool
inspected = inspected_in number body

reads_x : (k : ℕ) → IsRead arrays number texts inspected (codes "X") (one (p k)) []
unfolding int_wrap is_x
reads_x k = record { array = is_x; at_each = ((is_p, (refl, tt), refl, refl), tt) }

source : AreSource arrays number texts inspected body []
source = (((is_x, (refl, tt)), reads_x 0, omega arith), ((((is_x, (refl, tt)), reads_x 1, omega arith)), tt))

declared : AreDeclared arrays number [] (extents_at arrays) 0 decls
unfolding int_wrap is_p is_x
declared = (
  record { array = is_p; number_is = refl; extents_are = refl; measures = (tt, refl, tt); rank = omega arith },
  (record { array = is_x; number_is = refl; extents_are = refl; measures = (tt, refl, tt); rank = omega arith }, tt),
)

-- under every fault
pub setting : (f : Option Upset) → KeptSetting arrays number wides f [] (extents_at arrays) from decls body (kept f) tables cells pieces
setting f = record {
  names = declares arrays words refl number;
  vars = tt;
  declared = declared;
  sizes = λ y a. sizes_are arrays number y a;
  source = source;
  is_kept = tables_are_kept (1 ∷ []) ((kept f).entries);
  tables_go = prepared f;
  pieces_count = site_piece f;
  cells_count = cell_pieces f;
}

abbrev is_index : ℕ → Bool
is_index a = a == 0

pub index_arrays : HasIndexArrays number is_index (untagged whole) body
index_arrays = record {
  all = (((refl, λ t. (refl, tt))), ((refl, λ t. (refl, tt)), tt));
  apart = λ a. ((refl, λ t. (through a t, tt)), ((refl, λ t. (through a t, tt)), tt));
  unwritten = unwritten;
}
  where
    through : (a : ℕ) → (1 == a) ≡ true → (true && not (0 == a)) ≡ true
    through a t = ap (λ n. true && not (0 == n)) (sym (eqb-true 1 a t))

    unwritten : (q : ℕ) → is_index (access_at (untagged whole) q).array ≡ true → (access_at (untagged whole) q).writes ≡ false
    unwritten zero e = refl
    unwritten (suc zero) e = refl
    unwritten (suc (suc zero)) e = absurd (true≢false (sym e))
    unwritten (suc (suc (suc zero))) e = refl
    unwritten (suc (suc (suc (suc zero)))) e = refl
    unwritten (suc (suc (suc (suc (suc zero))))) e = absurd (true≢false (sym e))
    unwritten (suc (suc (suc (suc (suc (suc q)))))) e = refl
