-- Pieces that rely on no state meet the wider facts too, whatever the others keep: counting passes do.
use Rattle.std.proofs.Common.{◌≡◌, inl, inr, Option, None, ℕ, true, false, ◌||◌, List, [], ◌∷◌, ◌++◌, length, refl, sym, ap, ◌∙◌, subst, ℤ, Some, true≢false}
use Rattle.std.specs.Prelude.{bytes_eq, slice_get}
use Rattle.std.proofs.lemmas.Bool.{cases_Bool}
use Rattle.c_tree.specs.Plain.{Word, PlainStmt, PlainStmts}
use Rattle.c_tree.specs.Trees.{stmts_of}
use Rattle.c_tree.specs.Values.{Vars}
use Rattle.c_tree.specs.Arrays.{Array, is_within}
use Rattle.c_tree.specs.Accesses.Definition.{Initial, Written}
use Rattle.c_tree.specs.Instances.{Tagged}
use Rattle.c_tree.specs.Run.{State, Scope, exec_all}
use Rattle.instrumentation.specs.Names.{count, active, counter}
use Rattle.instrumentation.specs.Inspects.{inspects_all}
use Rattle.instrumentation.specs.Passes.{Target, pass_text}
use Rattle.instrumentation_laws.specs.OwnNames.{AllMayLoop}
use Rattle.instrumentation_laws.specs.Pieces.{Piece, IsSitePiece, uses_in}
use Rattle.instrumentation_laws.specs.PrologueTotals.{IsCellPiece, coordinate_vars}
use Rattle.pass_laws.specs.Countable.{AreCountable, AllHaveNoCells}
use Rattle.pass_laws.specs.Going.{GoesTo, HasCounters, Leaves}
use Rattle.pass_laws.specs.Laws.{PassesGoOn}
use Rattle.pass_laws.proofs.Standing.{get_here}
use Rattle.instrumentation.specs.Names.{written}
use Rattle.inspection_laws.specs.Inspections.{counts_one_of, tables_kept}
use Rattle.instrumentation_laws.specs.Kept.{Kept, Counts, CountsCells}
use Rattle.inspection_laws.proofs.TablePieces.{same_text}

-- a piece that leaves all but two words and the count as they were
module _ (sc : Scope) (p : List PlainStmt) (quiet : (vs : Vars) (s : State) → GoesTo (Leaves s) (exec_all sc (stmts_of p) vs s)) (piece : Piece sc p) where
  leaves : (vs : Vars) (s : State) → AllMayLoop vs → Leaves s (piece.to vs s)
  leaves vs s o = subst (GoesTo (Leaves s)) (piece.goes vs o s) (quiet vs s)

  module _ (kept : Kept) (apart : (x : Word) → kept.holds x ≡ true → (bytes_eq active x ≡ false) × (bytes_eq counter x ≡ false)) where
    same_words : (vs : Vars) (s : State) (x : Word) → AllMayLoop vs → kept.holds x ≡ true → (piece.to vs s).words x ≡ s.words x
    same_words vs s x o e = (leaves vs s o).words x (apart x e).0 (apart x e).1

    -- at an assignment whose writes none of the others count
    pub site_counts : (whole : List Tagged) (k : ℕ) → ((n : ℕ) (t : Tagged) (s : State) → AllMayLoop t.vars → slice_get whole n ≡ Some t → t.site ≡ k → t.access.writes ≡ true → (piece.to t.vars s).wides count ≡ uses_in whole (Written n)) →
        ((pre rest : List Tagged) (t : Tagged) (x : Word) → pre ++ t ∷ rest ≡ whole → t.site ≡ k → t.access.writes ≡ true → kept.holds x ≡ true → kept.counter (pre ++ t ∷ []) x ≡ kept.counter pre x) → Counts kept sc whole k p piece
    site_counts whole k counts steady = record {
      tables = λ vs s o. (leaves vs s o).tables;
      counts = λ pre rest t s o is at_k w r. counts (length pre) t s o (subst (λ l. slice_get l (length pre) ≡ Some t) is (get_here pre t rest)) at_k w;
      keeps = λ pre rest t s o is at_k w r x e. same_words t.vars s x o e ∙ r.counters x e ∙ sym (steady pre rest t x is at_k w e);
    }

    -- at the cells of an array
    pub cells_count : (whole : List Tagged) (vs : Vars) (extents : List ℤ) (a : ℕ) → ((cs : List ℤ) (s : State) → is_within cs extents ≡ true → (piece.to (coordinate_vars 0 cs vs) s).wides count ≡ uses_in whole (Initial a cs)) →
        CountsCells kept sc whole vs extents a p piece
    cells_count whole vs extents a counts = record {
      tables = λ vs s o. (leaves vs s o).tables;
      counts = λ cs s w r. counts cs s w;
      keeps = λ vs s x o e. same_words vs s x o e;
    }

-- the words of the tables are none of a pass's
active_written : (a : ℕ) → bytes_eq active (written a) ≡ false
unfolding active written
active_written a = refl

counter_written : (a : ℕ) → bytes_eq counter (written a) ≡ false
unfolding counter written
counter_written a = refl

pub tables_apart : (inspected : List ℕ) (x : Word) → counts_one_of inspected x ≡ true → (bytes_eq active x ≡ false) × (bytes_eq counter x ≡ false)
tables_apart [] x e = absurd (true≢false (sym e))
tables_apart (a ∷ more) x e =
    elim (cases_Bool (bytes_eq (written a) x)) [
      | inl g ↦ subst (λ x. (bytes_eq active x ≡ false) × (bytes_eq counter x ≡ false)) (same_text (written a) x g) (active_written a, counter_written a)
      | inr g ↦ tables_apart more x (sym (ap (λ b. b || counts_one_of more x) g) ∙ e)
    ]

-- The passes of a source, with the law that they go on: a site's and a cell's.
pub pass_at_site : PassesGoOn → (sc : Scope) (arrays : List Array) (number : Word → ℕ) (body : PlainStmts) (params : Vars) (target : Target) (site : Option ℕ) (whole : List Tagged) (k : ℕ) (inspected : List ℕ) (entries : Word → List ℕ) →
    HasCounters sc.wides → AreCountable arrays number body params → inspects_all number target.array body ≡ false → AllHaveNoCells target.at → (old : IsSitePiece sc whole k (pass_text number body target site)) →
    ((pre rest : List Tagged) (t : Tagged) (x : Word) → pre ++ t ∷ rest ≡ whole → t.site ≡ k → t.access.writes ≡ true → counts_one_of inspected x ≡ true → (tables_kept inspected entries).counter (pre ++ t ∷ []) x ≡ (tables_kept inspected entries).counter pre x) →
    Counts (tables_kept inspected entries) sc whole k (pass_text number body target site) old.piece
pass_at_site go sc arrays number body params target site whole k inspected entries has countable plain free old steady =
    site_counts sc (pass_text number body target site) (λ vs s. go sc arrays number body params target site has countable plain free vs s) old.piece (tables_kept inspected entries) (tables_apart inspected) whole k old.counts.counts steady

pub pass_at_cells : PassesGoOn → (sc : Scope) (arrays : List Array) (number : Word → ℕ) (body : PlainStmts) (params vs : Vars) (target : Target) (whole : List Tagged) (extents : List ℤ) (a : ℕ) (inspected : List ℕ) (entries : Word → List ℕ) →
    HasCounters sc.wides → AreCountable arrays number body params → inspects_all number target.array body ≡ false → AllHaveNoCells target.at → (old : IsCellPiece sc whole vs extents a (pass_text number body target None)) →
    CountsCells (tables_kept inspected entries) sc whole vs extents a (pass_text number body target None) old.piece
pass_at_cells go sc arrays number body params vs target whole extents a inspected entries has countable plain free old =
    cells_count sc (pass_text number body target None) (λ vs s. go sc arrays number body params target None has countable plain free vs s) old.piece (tables_kept inspected entries) (tables_apart inspected) whole vs extents a old.counts.counts
