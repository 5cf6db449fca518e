-- The whole text of a source: the prologue, the instrumented statements and the verdict.
use Rattle.std.proofs.Common.{◌≡◌, ℕ, suc, ◌+◌, ◌^◌, ◌<◌, ◌≤◌, true, false, if◌then◌else◌, List, [], ◌∷◌, ◌++◌, length, refl, sym, ap, ◌∙◌, subst, arith, inl, inr, true≢false}
use Rattle.std.specs.Prelude.{bytes_eq}
use Rattle.std.proofs.lemmas.Bool.{or_from, or_left, or_right, cases_Bool, cases_eq}
use Rattle.std.proofs.lemmas.List.{append_assoc}
use Rattle.std.specs.List.{list_all}
use Rattle.c_tree.specs.Plain.{Word, bin, var, PlainExprs, no_exprs, more_exprs, PlainStmt, loop, choice, assign, table, begin, check, verdict, PlainStmts, no_stmts, more_stmts, PlainParam}
use Rattle.c_tree.specs.Names.{is_among}
use Rattle.c_tree.specs.Trees.{stmts_of}
use Rattle.c_tree.specs.declared.expr.BinOp.TheVariants.{Add}
use Rattle.instrumentation.specs.Names.{number_in, written, current, counts}
use Rattle.c_tree.specs.Instances.{sites, sites_all}
use Rattle.instrumentation.specs.Body.{full, instrument, instrument_all, registers, registers_all}
use Rattle.instrumentation.specs.Inspects.{inspects_all}
use Rattle.instrumentation.specs.Passes.{set_word}
use Rattle.instrumentation.specs.Tables.{cells_of, walk_all, no_reads, count_writes, inspect_reads, number_writes, build}
use Rattle.instrumentation.specs.Pieces.{builds, widest}
use Rattle.instrumentation.specs.Pieces as pieces
use Rattle.instrumentation.specs.Prologue.{prologue_text}
use Rattle.instrumentation.specs.Guarded.{arrays_with_extents, extents_from, extents_of, array_names}
use Rattle.acceptance.specs.Items.{Loop, Scope, is_declared}
use Rattle.acceptance.specs.Head.{list_of}
use Rattle.acceptance.specs.Printed.{total_names_from, names_fit}
use Rattle.acceptance_laws.proofs.Fine.{inside, StmtFine, TextFine, fine_join, with_tables, TopFine, top_text}
use Rattle.acceptance_laws.proofs.Statements.{choice_fine, loop_fine, table_fine, verdict_fine}
use Rattle.acceptance_laws.proofs.Names.{same_word, current_counts}
use Rattle.acceptance_laws.proofs.Expressions.{AreIndices}
use Rattle.acceptance_laws.proofs.TableNames.{IsTableBelow, AreTables, tables_below, no_current, no_counts}
use Rattle.acceptance_laws.proofs.Walks.{Inspecting, HasTables, all_cells, next_number, set_written, first_walk_fine, second_walk_fine}
use Rattle.acceptance_laws.proofs.Declared.{Declares, AreFree, unknown_free}
use Rattle.acceptance_laws.proofs.Sources.{IsSource, AreSource}
use Rattle.acceptance_laws.proofs.Loads.{assigned_fine}
use Rattle.acceptance_laws.proofs.Prologues.{IsArrayAt, AreArrays, ArePieces, prologue_fine}

-- the piece of each assignment is fine where it stands
abbrev mutual
  pub PieceFine : Word → Scope → (ℕ → List PlainStmt) → ℕ → PlainStmt → List Loop → Type 0
  PieceFine f sc pieces k (loop x lo rel hi body) ls = PiecesFine f sc pieces k body (record { name = x; lo = lo; rel = rel; hi = hi } ∷ ls)
  PieceFine f sc pieces k (choice ts first other) ls = PiecesFine f sc pieces k first ls × PiecesFine f sc pieces (k + sites_all first) other ls
  PieceFine f sc pieces k (assign t op e) ls = TextFine f sc (pieces k) ls
  PieceFine f sc pieces k (table x len) ls = Unit {0}
  PieceFine f sc pieces k begin ls = Unit {0}
  PieceFine f sc pieces k (check x extent a) ls = Unit {0}
  PieceFine f sc pieces k verdict ls = Unit {0}

  pub PiecesFine : Word → Scope → (ℕ → List PlainStmt) → ℕ → PlainStmts → List Loop → Type 0
  PiecesFine f sc pieces k no_stmts ls = Unit {0}
  PiecesFine f sc pieces k (more_stmts s ss) ls = PieceFine f sc pieces k s ls × PiecesFine f sc pieces (k + sites s) ss ls

module _ (f : Word) (number : Word → ℕ) (few : ℕ) (sc : Scope) (declares : Declares f number few sc) where
  module _ (texts : Word → PlainExprs) (extents : (x : Word) → AreIndices (inside sc []) (texts x)) (pieces : ℕ → List PlainStmt) where
    mutual
      instrument_fine : (s : PlainStmt) (k : ℕ) (ls : List Loop) → AreFree sc ls → IsSource f sc s ls → registers s ≤ few → PieceFine f sc pieces k s ls → TextFine f sc (instrument number texts pieces k s) ls
      instrument_fine (loop x lo rel hi body) k ls free h r p =
          let name = h.0 in (
            (
              loop_fine f (inside sc ls) x lo rel hi (stmts_of (instrument_all number texts pieces k body)) name.differs name.fresh h.1 h.2,
              all_instrument_fine body k (record { name = x; lo = lo; rel = rel; hi = hi } ∷ ls) (unknown_free (inside sc ls) x name.fresh, free) h.3 r p,
            ),
            tt,
          )
      instrument_fine (choice ts first other) k ls free h r p = (
        (
          choice_fine f (inside sc ls) ts (stmts_of (instrument_all number texts pieces k first)) (stmts_of (instrument_all number texts pieces (k + sites_all first) other)) h.0,
          all_instrument_fine first k ls free h.1 (omega arith) p.0,
          all_instrument_fine other (k + sites_all first) ls free h.2 (omega arith) p.1,
        ),
        tt,
      )
      instrument_fine (assign t op e) k ls free h r p = assigned_fine f number few sc declares ls free texts extents (pieces k) t (full t op e) h.0 h.1 r p
      instrument_fine _ k ls free h r p = absurd h

      pub all_instrument_fine : (ss : PlainStmts) (k : ℕ) (ls : List Loop) → AreFree sc ls → AreSource f sc ss ls → registers_all ss ≤ few → PiecesFine f sc pieces k ss ls → TextFine f sc (instrument_all number texts pieces k ss) ls
      all_instrument_fine no_stmts k ls free h r p = tt
      all_instrument_fine (more_stmts s ss) k ls free h r p =
          fine_join f sc ls (instrument number texts pieces k s) (instrument_all number texts pieces (k + sites s) ss) (instrument_fine s k ls free h.0 (omega arith) p.0) (all_instrument_fine ss (k + sites s) ls free h.1 (omega arith) p.1)

-- the extents of an array by its name
extents_from_signed : (number : Word → ℕ) (sc : Scope) (a : ℕ) (ds : List (Word × PlainExprs)) → AreArrays sc number a ds → (x : Word) → AreIndices (inside sc []) (extents_from ds x)
extents_from_signed number sc a [] h x = tt
extents_from_signed number sc a (d ∷ ds) h x = elim (cases_Bool (bytes_eq d.0 x)) [
  | inl e ↦ rw e h.0.extents_signed
  | inr e ↦ rw e (extents_from_signed number sc (suc a) ds h.1 x)
]

-- ---- the tables

-- a text at the top level, before another
text_behind : (f : Word) (sc : Scope) (ts : List Word) (a b rest : List PlainStmt) → TextFine f (with_tables sc ts) a [] → TopFine f sc ts (b ++ rest) → TopFine f sc ts (a ++ b ++ rest)
text_behind f sc ts a b rest h g = subst (TopFine f sc ts) (sym (append_assoc a b rest)) (top_text f sc ts a (b ++ rest) h g)

-- the tables of each inspected array below n are among these
abbrev pub HasAll : (Word → ℕ) → PlainStmts → ℕ → List Word → Type 0
HasAll number whole n ts = (i : ℕ) → i < n → inspects_all number i whole ≡ true → (is_among ts (current i) ≡ true) × (is_among ts (counts i) ≡ true)

-- what a scope has, whichever tables below n are made in it
pub record Settles (f : Word) (number : Word → ℕ) (few : ℕ) (sc : Scope) (whole : PlainStmts) (n : ℕ) (decls : List (Word × PlainExprs)) : Type 0 where
  pub declares : (ts : List Word) → AreTables n ts → Declares f number few (with_tables sc ts)
  pub source : (ts : List Word) → AreTables n ts → AreSource f (with_tables sc ts) whole []
  pub arrays : (ts : List Word) → AreTables n ts → AreArrays (with_tables sc ts) number 0 decls
  pub inspecting : (ts : List Word) → AreTables n ts → (a : ℕ) (x : Word) (extents : PlainExprs) → IsArrayAt (with_tables sc ts) number a x extents → a < n → inspects_all number a whole ≡ true → length (list_of extents) ≤ widest number whole 0 decls → Inspecting (with_tables sc ts) number a extents
  pub tables : (ts : List Word) → AreTables n ts → (a : ℕ) → is_among ts (current a) ≡ true → is_among ts (counts a) ≡ true → HasTables (with_tables sc ts) a
  pub current_new : (ts : List Word) → AreTables n ts → (a : ℕ) → is_among ts (current a) ≡ false → is_declared (with_tables sc ts) (current a) ≡ false
  pub counts_new : (ts : List Word) → AreTables n ts → (a : ℕ) → is_among ts (counts a) ≡ false → is_declared (with_tables sc ts) (counts a) ≡ false
  pub differ : (a : ℕ) → (bytes_eq f (current a) ≡ false) × (bytes_eq f (counts a) ≡ false)

dimensions_many : (es : PlainExprs) → pieces.dimensions es ≡ length (list_of es)
dimensions_many no_exprs = refl
dimensions_many (more_exprs e es) = ap suc (dimensions_many es)

module _ (f : Word) (number : Word → ℕ) (few : ℕ) (sc : Scope) (whole : PlainStmts) (n : ℕ) (small : n ≤ 2 ^ 64) (decls : List (Word × PlainExprs)) (settles : Settles f number few sc whole n decls) where
  -- the tables of one array, before what stands where they are made
  build_fine : (ts : List Word) (a : ℕ) (x : Word) (extents : PlainExprs) (rest : List PlainStmt) → AreTables a ts → a < n → inspects_all number a whole ≡ true → length (list_of extents) ≤ widest number whole 0 decls →
      ((us : List Word) → AreTables n us → IsArrayAt (with_tables sc us) number a x extents) →
      TopFine f sc (counts a ∷ current a ∷ ts) rest → TopFine f sc ts (build number whole a extents ++ rest)
  build_fine ts a x extents rest are l i wide array after =
      let before : AreTables n ts = tables_below a n ts (omega arith) are in
      let own_current : IsTableBelow n (current a) = (a, l, inl refl) in
      let own_counts : IsTableBelow n (counts a) = (a, l, inr refl) in
      let us : List Word = current a ∷ ts in
      let vs : List Word = counts a ∷ current a ∷ ts in
      let middle : AreTables n us = (own_current, before) in
      let behind : AreTables n vs = (own_counts, middle) in
      let s0 : Scope = with_tables sc ts in
      let s1 : Scope = with_tables sc us in
      let s2 : Scope = with_tables sc vs in
      let n0 = settles.inspecting ts before a x extents (array ts before) l i wide in
      let n1 = settles.inspecting us middle a x extents (array us middle) l i wide in
      let n2 = settles.inspecting vs behind a x extents (array vs behind) l i wide in
      let d0 = settles.declares ts before in
      let d1 = settles.declares us middle in
      let d2 = settles.declares vs behind in
      let fresh : is_among ts (counts a) ≡ false = no_counts a ts a are (omega arith) (omega arith) in
      let both : HasTables s2 a = settles.tables vs behind a (or_right (bytes_eq (counts a) (current a)) _ (or_left _ (is_among ts (current a)) (same_word (current a)))) (or_left _ (is_among us (counts a)) (same_word (counts a))) in
      let reset : StmtFine f s2 (set_word (written a) 0) [] = set_written f number few s2 d2 a extents n2 [] tt in (
        set_written f number few s0 d0 a extents n0 [] tt,
        text_behind f sc ts (walk_all no_reads (count_writes number a) [] whole)
            (table (current a) (cells_of extents) ∷ table (counts a) (bin Add (cells_of extents) (var (written a))) ∷ set_word (written a) 0 ∷ (walk_all (inspect_reads number a extents) (number_writes number a extents) [] whole ++ set_word (written a) 0 ∷ []))
            rest (first_walk_fine f number few s0 d0 a extents n0 whole (settles.source ts before)) (
              table_fine f (inside s0 []) (current a) (cells_of extents) (settles.differ a).0 (settles.current_new ts before a (no_current a ts a are (omega arith) (omega arith))) (all_cells f number few s0 d0 a extents n0 [] tt),
              (
                table_fine f (inside s1 []) (counts a) (bin Add (cells_of extents) (var (written a))) (settles.differ a).1 (settles.counts_new us middle a (or_from _ _ (current_counts a a) fresh)) (next_number f number few s1 d1 a extents n1 [] tt),
                (
                  reset,
                  text_behind f sc vs (walk_all (inspect_reads number a extents) (number_writes number a extents) [] whole) (set_word (written a) 0 ∷ []) rest
                      (second_walk_fine f number few s2 d2 a extents n2 both whole (settles.source vs behind)) (reset, after),
                ),
              ),
            ),
      )

  -- of all arrays from number a on
  builds_fine : (ts : List Word) (a : ℕ) (ds : List (Word × PlainExprs)) (rest : List PlainStmt) → AreTables a ts → HasAll number whole a ts → a + length ds ≡ n → widest number whole a ds ≤ widest number whole 0 decls →
      ((us : List Word) → AreTables n us → AreArrays (with_tables sc us) number a ds) →
      ((us : List Word) → AreTables n us → HasAll number whole n us → TopFine f sc us rest) → TopFine f sc ts (builds number whole a ds ++ rest)
  builds_fine ts a [] rest are has many wide arrays after =
      let same : a ≡ n = omega arith in after ts (subst (λ m. AreTables m ts) same are) (subst (λ m. HasAll number whole m ts) same has)
  builds_fine ts a (d ∷ ds) rest are has many wide arrays after = elim (cases_Bool (inspects_all number a whole)) [
    | inl e ↦
        let its : (if inspects_all number a whole then pieces.dimensions d.1 else 0) ≡ length (list_of d.1) = rw e (dimensions_many d.1) in
        let vs : List Word = counts a ∷ current a ∷ ts in
        let next : TopFine f sc vs (builds number whole (suc a) ds ++ rest) =
        builds_fine vs (suc a) ds rest ((a, omega arith, inr refl), ((a, omega arith, inl refl), tables_below a (suc a) ts (omega arith) are))
        (λ i l g. elim (cases_eq i a) [
          | inl s ↦ rw s (or_right (bytes_eq (counts a) (current a)) _ (or_left _ (is_among ts (current a)) (same_word (current a))), or_left _ (is_among (current a ∷ ts) (counts a)) (same_word (counts a)))
          | inr s ↦ (let h = has i (omega arith) g in (or_right (bytes_eq (counts a) (current i)) _ (or_right (bytes_eq (current a) (current i)) _ h.0), or_right (bytes_eq (counts a) (counts i)) _ (or_right (bytes_eq (current a) (counts i)) _ h.1)))
        ]) (omega arith) (omega arith) (λ us g. (arrays us g).1) after in
        subst (λ b. TopFine f sc ts ((if b then build number whole a d.1 else []) ++ builds number whole (suc a) ds ++ rest)) (sym e)
        (subst (TopFine f sc ts) (sym (append_assoc (build number whole a d.1) (builds number whole (suc a) ds) rest))
        (build_fine ts a d.0 d.1 (builds number whole (suc a) ds ++ rest) are (omega arith) e (omega arith) (λ us g. (arrays us g).0) next))
    | inr e ↦
        let next : TopFine f sc ts (builds number whole (suc a) ds ++ rest) =
        builds_fine ts (suc a) ds rest (tables_below a (suc a) ts (omega arith) are)
        (λ i l g. elim (cases_eq i a) [
          | inl s ↦ absurd (true≢false (sym g ∙ ap (λ j. inspects_all number j whole) s ∙ e))
          | inr s ↦ has i (omega arith) g
        ]) (omega arith) (omega arith) (λ us g. (arrays us g).1) after in
        subst (λ b. TopFine f sc ts ((if b then build number whole a d.1 else []) ++ builds number whole (suc a) ds ++ rest)) (sym e) next
  ]

-- ---- the whole

-- with any pieces, behind the tables
pub text_fine : (f : Word) (params : List PlainParam) (body : PlainStmts) (few : ℕ) (sc : Scope) (cells : ℕ → PlainExprs → List PlainStmt) (pieces : ℕ → List PlainStmt) →
    length (arrays_with_extents params) ≤ 2 ^ 64 → 0 < few → registers_all body ≤ few →
    Settles f (number_in (array_names params)) few sc body (length (arrays_with_extents params)) (arrays_with_extents params) →
    ((ts : List Word) → AreTables (length (arrays_with_extents params)) ts → HasAll (number_in (array_names params)) body (length (arrays_with_extents params)) ts →
    ArePieces f (with_tables sc ts) cells 0 (arrays_with_extents params) × PiecesFine f (with_tables sc ts) pieces 0 body []) →
    list_all (is_among sc.wides) (total_names_from 0 sc.params) ≡ true →
    ((ts : List Word) → AreTables (length (arrays_with_extents params)) ts → names_fit (with_tables sc ts) verdict ≡ true) →
    TopFine f sc [] (builds (number_in (array_names params)) body 0 (arrays_with_extents params)
    ++ (prologue_text cells 0 (arrays_with_extents params) ++ (begin ∷ (instrument_all (number_in (array_names params)) (extents_of params) pieces 0 body ++ verdict ∷ []))))
text_fine f params body few sc cells pieces small some enough settles fine totals flat =
    let number : Word → ℕ = number_in (array_names params) in
    let decls : List (Word × PlainExprs) = arrays_with_extents params in
    builds_fine f number few sc body (length decls) small decls settles [] 0 decls _ tt (λ i l g. absurd (omega arith)) (omega arith) (omega arith) settles.arrays
    (λ ts are has.
    let s : Scope = with_tables sc ts in
    let declares = settles.declares ts are in
    let arrays = settles.arrays ts are in
    let p = fine ts are has in
    top_text f sc ts (prologue_text cells 0 decls) (begin ∷ (instrument_all number (extents_of params) pieces 0 body ++ verdict ∷ [])) (prologue_fine f number few s declares some cells 0 decls arrays p.0) (
      tt,
      top_text f sc ts (instrument_all number (extents_of params) pieces 0 body) (verdict ∷ [])
          (all_instrument_fine f number few s declares (extents_of params) (extents_from_signed number s 0 decls arrays) pieces body 0 [] tt (settles.source ts are) enough p.1)
          (verdict_fine f (inside s []) totals (flat ts are), tt),
    ))
