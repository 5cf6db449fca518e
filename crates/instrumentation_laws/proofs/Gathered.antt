-- A source with an irregular read, inputs and pieces that set constants, which meet every premise of the laws on units: void f(const uint64_t P[1], uint64_t X[1], uint64_t Y[1]) { Y[0] = X[P[0]]; }
use Rattle.std.proofs.Common.{◌≡◌, ℕ, zero, suc, ◌^◌, ◌<◌, ◌≤◌, Bool, true, false, not, ◌&&◌, ◌==◌, nat_lt, if◌then◌else◌, List, [], ◌∷◌, ◌++◌, length, refl, sym, ap, ◌∙◌, subst, arith, ℤ, pos, Option, Some, None, codes, true≢false}
use Rattle.std.proofs.lemmas.Bool.{eqb-true}
use Rattle.std.specs.Int.{int_wrap}
use Rattle.c_tree.specs.Plain.{Word, lit, cell, PlainExprs, no_exprs, more_exprs, PlainStmt, assign, begin, verdict, PlainStmts, no_stmts, more_stmts, array_param, PlainUnit}
use Rattle.c_tree.specs.Trees.{stmts_of}
use Rattle.c_tree.specs.Arrays.{Memory, is_within, extents_at}
use Rattle.c_tree.specs.Accesses.{Within, at as access_at, is_of, uses, sum_below, latest}
use Rattle.c_tree.specs.Accesses.Definition.{Initial, Written}
use Rattle.c_tree.specs.Fault.{Fault, Upset, upset_of, Exposed}
use Rattle.c_tree.specs.Inputs.{PlainInputs, arrays_for, memory_for, IsSound}
use Rattle.c_tree.specs.Instances.{Tagged, untagged, literal_of, core, accesses}
use Rattle.c_tree.specs.Run.{Scope, run}
use Rattle.run_laws.specs.Sources as exactly
use Rattle.run_laws.specs.Laws.{RunsThrough}
use Rattle.cell_laws.proofs.Within.{within_from}
use Rattle.instrumentation.specs.Body.{instrument_all}
use Rattle.instrumentation.specs.Prologue.{prologue_text}
use Rattle.instrumentation.specs.Guarded.{arrays_with_extents, extents_of}
use Rattle.instrumentation_laws.specs.RegularSources.{IsArray}
use Rattle.instrumentation_laws.specs.ExactSources.{AreExactSource}
use Rattle.instrumentation_laws.specs.IndexedList.{tagged_all}
use Rattle.instrumentation_laws.specs.Kept.{Kept, IsCellPiece}
use Rattle.instrumentation_laws.specs.KeptTexts.{HasIndexArrays}
use Rattle.instrumentation_laws.specs.KeptUnits.{IsKeptUnit, HasKeptPieces, IsWellFormed}
use Rattle.instrumentation_laws.specs.Pieces.{uses_in}
use Rattle.instrumentation_laws.specs.RegularUnits.{number_for, wides_for}
use Rattle.instrumentation_laws.specs.Setting.{scope_of}
use Rattle.instrumentation_laws.specs.UnitLaws.{IsInstrumented}
use Rattle.instrumentation_laws.specs.WordValues.{AllAssignWords}
use Rattle.instrumentation_laws.proofs.Declared.{count_in}
use Rattle.instrumentation_laws.proofs.Constant.{constant, constant_piece, count_is}
use Rattle.instrumentation_laws.proofs.ExactRuns.{exact_follow}
use Rattle.instrumentation_laws.proofs.WellFormed.{kept_counted}

abbrev first : PlainExprs
first = more_exprs (lit 0) no_exprs

abbrev one : PlainExprs
one = more_exprs (lit 1) no_exprs

abbrev body : PlainStmts
body = more_stmts (assign (cell (codes "Y") first) None (cell (codes "X") (more_exprs (cell (codes "P") first) no_exprs))) no_stmts

abbrev source : PlainUnit
source = record {
  version = None;
  ranges = [];
  name = codes "f";
  params = array_param (codes "P") true one ∷ array_param (codes "X") false one ∷ array_param (codes "Y") false one ∷ [];
  words = [];
  wides = [];
  body = body;
}

abbrev inputs : PlainInputs
inputs = record { ints = []; cells = (0 ∷ []) ∷ (7 ∷ []) ∷ (0 ∷ []) ∷ [] }

abbrev memory : Memory
memory = memory_for source inputs

-- P and X are read once
abbrev times : ℕ → ℕ
times a = if nat_lt a 2 then 1 else 0

abbrev cells : ℕ → PlainExprs → List PlainStmt
cells a es = constant (times a)

abbrev pieces : ℕ → List PlainStmt
pieces k = constant 0

abbrev number : Word → ℕ
number = number_for source

abbrev instrumented : PlainUnit
instrumented = record {
  version = Some 1;
  ranges = [];
  name = codes "bal_fn_f";
  params = source.params;
  words = [];
  wides = wides_for source;
  body = stmts_of (prologue_text cells 0 (arrays_with_extents source.params) ++ (begin ∷ (instrument_all number (extents_of source.params) pieces 0 body ++ verdict ∷ [])));
}

abbrev whole : List Tagged
whole = tagged_all (arrays_for source []) memory number 0 body []

abbrev sc : Option Upset → Scope
sc f = scope_of (arrays_for source []) (wides_for source) f

abbrev is_index : ℕ → Bool
is_index a = a == 0

-- ---- its pieces count, and keep nothing

abbrev nothing : Kept
nothing = record { entries = λ x. []; holds = λ x. false; counter = λ so_far x. 0 }

p_once : uses_in whole (Initial 0 (pos 0 ∷ [])) ≡ 1
unfolding int_wrap uses sum_below latest
p_once = refl

x_once : uses_in whole (Initial 1 (pos 0 ∷ [])) ≡ 1
unfolding int_wrap uses sum_below latest
x_once = refl

y_never : uses_in whole (Initial 2 (pos 0 ∷ [])) ≡ 0
unfolding int_wrap uses sum_below latest
y_never = refl

none_written : (n : ℕ) → uses_in whole (Written n) ≡ 0
unfolding int_wrap uses sum_below latest
none_written n = refl

only_cell : (cs : List ℤ) → is_within cs (pos 1 ∷ []) ≡ true → cs ≡ pos 0 ∷ []
only_cell cs w = lies cs (within_from (pos 1 ∷ []) cs w)
  where
    lies : (cs : List ℤ) → Within (pos 1 ∷ []) cs → cs ≡ pos 0 ∷ []
    lies [] h = absurd h
    lies (c ∷ []) h = ap (λ c. c ∷ []) (h.0.1 ∙ ap pos (let k : h.0.0 < 1 = h.0.2 in let e : h.0.0 ≡ 0 = omega arith in e))
    lies (c ∷ d ∷ ds) h = absurd h.1

one_piece : (f : Option Upset) (a : ℕ) → uses_in whole (Initial a (pos 0 ∷ [])) ≡ times a → IsCellPiece nothing (sc f) whole [] (pos 1 ∷ []) a (constant (times a))
one_piece f a once = record {
  piece = constant_piece (sc f) (times a) (count_in (codes "P" ∷ codes "X" ∷ codes "Y" ∷ []));
  counts = record {
    tables = λ vs s o. refl;
    counts = λ cs s w r. count_is (times a) s ∙ sym once ∙ ap (λ cs. uses_in whole (Initial a cs)) (sym (only_cell cs w));
    keeps = λ vs s x o e. absurd (true≢false (sym e));
  };
}

pieces_count : (f : Option Upset) → HasKeptPieces source instrumented [] memory f nothing [] cells pieces
pieces_count f = record {
  is_kept = record { piece_words = λ x e. absurd (true≢false (sym e)); over_reads = λ so_far t x r e. refl };
  tables_go = record { begun = refl; memory = refl; accesses = refl; wides = refl; words = λ x o. refl; ready = record { entries = refl; counters = λ x e. absurd (true≢false (sym e)) } };
  at_sites = λ k. record {
    piece = constant_piece (sc f) 0 (count_in (codes "P" ∷ codes "X" ∷ codes "Y" ∷ []));
    counts = record {
      tables = λ vs s o. refl;
      counts = λ pre rest t s o is site w r. count_is 0 s ∙ sym (none_written (length pre));
      keeps = λ pre rest t s o is site w r x e. absurd (true≢false (sym e));
    };
  };
  at_cells = (one_piece f 0 p_once, (one_piece f 1 x_once, (one_piece f 2 y_never, tt)));
}

-- ---- the source and its unit

in_p : IsArray (arrays_for source []) number (codes "P")
in_p = record { array = (0, record { name = codes "P"; constant = true; extents = pos 1 ∷ [] }); named = refl; numbered = refl; small = omega arith }

in_x : IsArray (arrays_for source []) number (codes "X")
in_x = record { array = (1, record { name = codes "X"; constant = false; extents = pos 1 ∷ [] }); named = refl; numbered = refl; small = omega arith }

in_y : IsArray (arrays_for source []) number (codes "Y")
in_y = record { array = (2, record { name = codes "Y"; constant = false; extents = pos 1 ∷ [] }); named = refl; numbered = refl; small = omega arith }

pub formed : IsWellFormed source []
unfolding int_wrap in_p in_x in_y
formed = record {
  version = refl;
  no_wides = refl;
  params = tt;
  arrays = (refl, (tt, refl, tt), omega arith, (refl, (tt, refl, tt), omega arith, (refl, (tt, refl, tt), omega arith, tt)));
  few = omega arith;
  body = (((in_y, (refl, tt)), record { array = in_x; at_each = ((in_p, (refl, tt), refl, refl), tt) }, omega arith), tt);
}

instrumented_is : IsInstrumented source instrumented number (arrays_with_extents source.params) [] cells pieces
instrumented_is = record { source = refl; no_wides = refl; printed = refl; params = refl; words = λ x o. refl; body = refl }

listed : untagged whole ≡ accesses source [] memory
unfolding int_wrap
listed = refl

apart_from : (a : ℕ) → (1 == a) ≡ true → (is_index 0 && not (0 == a)) ≡ true
apart_from a e = subst (λ a. (is_index 0 && not (0 == a)) ≡ true) (eqb-true 1 a e) refl

unwritten : (q : ℕ) → is_index (access_at (accesses source [] memory) q).array ≡ true → (access_at (accesses source [] memory) q).writes ≡ false
unwritten zero e = refl
unwritten (suc zero) e = refl
unwritten (suc (suc zero)) e = absurd (true≢false (sym e))
unwritten (suc (suc (suc q))) e = refl

indexed : HasIndexArrays number is_index (accesses source [] memory) body
indexed = record {
  all = ((refl, λ e. (refl, tt)), tt);
  apart = λ a. ((refl, λ e. (apart_from a e, tt)), tt);
  unwritten = unwritten;
}

-- under every fault
pub counted : (f : Option Upset) → IsKeptUnit source instrumented [] memory f number is_index (arrays_with_extents source.params) [] cells pieces
counted f = kept_counted source instrumented [] memory f is_index nothing [] cells pieces formed instrumented_is refl (pieces_count f) listed indexed

-- ---- its run, and its inputs

pub exact : AreExactSource (arrays_for source []) [] is_index body []
unfolding int_wrap
exact =
    let straight : exactly.AreAffine first [] = (record { no_cells = tt; no_word = refl; fits = refl }, tt) in
    let p : exactly.IsArray (arrays_for source []) (codes "P") = record { array = (0, record { name = codes "P"; constant = true; extents = pos 1 ∷ [] }); named = refl } in
    let x : exactly.IsArray (arrays_for source []) (codes "X") = record { array = (1, record { name = codes "X"; constant = false; extents = pos 1 ∷ [] }); named = refl } in
    let y : exactly.IsArray (arrays_for source []) (codes "Y") = record { array = (2, record { name = codes "Y"; constant = false; extents = pos 1 ∷ [] }); named = refl } in
    (((y, refl, straight), (x, ((p, refl, straight), tt))), tt)

clean : (q : ℕ) → q < length (core source [] memory) → Within (extents_at (arrays_for source []) (access_at (core source [] memory) q).array) (access_at (core source [] memory) q).cell
clean zero l = ((0, refl, omega arith), tt)
clean (suc zero) l = ((0, refl, omega arith), tt)
clean (suc (suc zero)) l = ((0, refl, omega arith), tt)
clean (suc (suc (suc q))) l = absurd (omega arith)

pub sound : IsSound source inputs
sound = record {
  fit = record { ints = tt; cells = (record { count = refl; few = omega arith; small = (omega arith, tt) }, (record { count = refl; few = omega arith; small = (omega arith, tt) }, (record { count = refl; few = omega arith; small = (omega arith, tt) }, tt))) };
  clean = clean;
  few = omega arith;
}

pub through : RunsThrough source inputs (run source inputs None)
through = exact_follow source inputs is_index refl exact sound.clean

pub words_fit : (x : Word) → literal_of source.words x < 2 ^ 64
words_fit x = omega arith

pub values_fit : AllAssignWords source.body []
values_fit = (tt, tt)

-- ---- faults in its index array, of both kinds

abbrev fault_at : ℕ → Fault
fault_at place = record { array = 0; cell = 0; bit = 3; place = place }

abbrev upset : ℕ → Upset
upset place = record { array = 0; cell = pos 0 ∷ []; bit = 3; place = place }

pub upset_is : (place : ℕ) → upset_of (arrays_for source []) (Some (fault_at place)) ≡ Some (upset place)
upset_is place = refl

pub shown : Exposed (accesses source [] memory) (upset 0)
shown = record { next = 0; later = omega arith; exists = omega arith; of_cell = refl; reads = refl; first = λ p low high. absurd (omega arith) }

pub hidden : Exposed (accesses source [] memory) (upset 1) → ⊥
hidden h = at_next h.next h.later h.exists h.of_cell
  where
    at_next : (n : ℕ) → 1 ≤ n → n < 3 → is_of (access_at (accesses source [] memory) n) 0 (pos 0 ∷ []) ≡ true → ⊥
    at_next zero low high e = absurd (omega arith)
    at_next (suc zero) low high e = true≢false (sym e)
    at_next (suc (suc zero)) low high e = true≢false (sym e)
    at_next (suc (suc (suc n))) low high e = absurd (omega arith)
