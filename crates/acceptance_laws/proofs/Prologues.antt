-- The prologue: the loops over the cells of each array, and the counting passes inside them.
use Rattle.std.proofs.Common.{◌≡◌, ℕ, suc, ◌+◌, ◌<◌, ◌≤◌, ◌^◌, true, false, List, [], ◌∷◌, length, refl, sym, ap, ◌∙◌, subst, arith, None, Some}
use Rattle.std.specs.Prelude.{bytes_eq}
use Rattle.std.proofs.lemmas.Bool.{or_from, or_left}
use Rattle.c_tree.specs.Plain.{Word, PlainExpr, lit, var, cell, un, bin, least, greatest, widen, PlainExprs, no_exprs, more_exprs, PlainStmt, loop, choice, PlainStmts, no_stmts, more_stmts}
use Rattle.c_tree.specs.Trees.{stmts_of}
use Rattle.c_tree.specs.declared.expr.Rel.TheVariants.{Lt}
use Rattle.c_tree.specs.declared.expr.BinOp.TheVariants.{Add, Mul}
use Rattle.instrumentation.specs.Names.{register, count, definition_total, coordinate, pass_variable}
use Rattle.c_tree.specs.Instances.{sites, sites_all}
use Rattle.instrumentation.specs.Inspects.{inspects_all}
use Rattle.instrumentation.specs.Passes.{coordinates_from, cell_piece}
use Rattle.instrumentation.specs.Prologue.{cell_loops, add_cell, cell_text, array_text, prologue_text}
use Rattle.acceptance.specs.Items.{Loop, Scope, is_loop, is_array}
use Rattle.acceptance.specs.Head.{list_of}
use Rattle.acceptance.specs.Printed.{dimensions}
use Rattle.acceptance_laws.proofs.Names.{same_word, coordinate_apart}
use Rattle.acceptance_laws.proofs.Expressions.{IsWordAt, IsIndex, AreIndices, IsCellAt, IsWideAt, product_wide}
use Rattle.acceptance_laws.proofs.Fine.{inside, TextFine, fine_join}
use Rattle.acceptance_laws.proofs.Statements.{word_fine, wide_fine, loop_fine}
use Rattle.acceptance_laws.proofs.Declared.{Declares, AreFree, word_inside, wide_inside, loop_signed}
use Rattle.acceptance_laws.proofs.Sources.{AreSource, Sees, AllSee}
use Rattle.acceptance_laws.proofs.Renamed.{Reaches, indices_reach, reaches_more, NoPass}
use Rattle.acceptance_laws.proofs.Passes.{pass_fine}

-- the loops of the coordinates from d on, inside others
abbrev pub coordinate_loops : ℕ → PlainExprs → List Loop → List Loop
coordinate_loops d no_exprs ls = ls
coordinate_loops d (more_exprs e es) ls = coordinate_loops (suc d) es (record { name = coordinate d; lo = lit 0; rel = Lt; hi = e } ∷ ls)

-- a signed expression may be a bound
index_bound : (sc : Scope) (e : PlainExpr) → IsIndex sc false e → IsIndex sc true e
index_bound sc (lit n) h = tt
index_bound sc (var x) h = h
index_bound sc (un op a) h = (h.0, index_bound sc a h.1)
index_bound sc (bin op a b) h = (h.0, index_bound sc a h.1, index_bound sc b h.2)
index_bound sc (least a b) h = (refl, index_bound sc a h.1, index_bound sc b h.2)
index_bound sc (greatest a b) h = (refl, index_bound sc a h.1, index_bound sc b h.2)
index_bound sc _ h = absurd h

coordinate_variable : (i d : ℕ) → bytes_eq (coordinate i) (pass_variable d) ≡ false
unfolding coordinate pass_variable
coordinate_variable i d = refl

coordinates_many : (d : ℕ) (es : PlainExprs) → length (list_of (coordinates_from d es)) ≡ length (list_of es)
coordinates_many d no_exprs = refl
coordinates_many d (more_exprs e es) = ap suc (coordinates_many (suc d) es)

-- outside the pass of a definition nothing has to be seen
mutual
  sees_none : (sc : Scope) (xs : List Word) (k : ℕ) (s : PlainStmt) → Sees sc None xs k s
  sees_none sc xs k (loop x lo rel hi body) = all_see_none sc (x ∷ xs) k body
  sees_none sc xs k (choice ts first other) = (all_see_none sc xs k first, all_see_none sc xs (k + sites_all first) other)
  sees_none sc xs k _ = tt

  all_see_none : (sc : Scope) (xs : List Word) (k : ℕ) (ss : PlainStmts) → AllSee sc None xs k ss
  all_see_none sc xs k no_stmts = tt
  all_see_none sc xs k (more_stmts s ss) = (sees_none sc xs k s, all_see_none sc xs (k + sites s) ss)

-- no loop is a coordinate's from number d on
abbrev NoCoordinate : ℕ → List Loop → Type 0
NoCoordinate d ls = (i : ℕ) → d ≤ i → i < 2 ^ 64 → is_loop ls (coordinate i) ≡ false

-- an array of the prologue: its number, and its extents, of which it has few
pub record IsArrayAt (sc : Scope) (number : Word → ℕ) (a : ℕ) (x : Word) (extents : PlainExprs) : Type 0 where
  pub array : is_array sc.params x ≡ true
  pub numbered : number x ≡ a
  pub rank : dimensions sc x ≡ length (list_of extents)
  pub few : length (list_of extents) < 2 ^ 64
  pub extents_signed : AreIndices (inside sc []) extents

abbrev pub AreArrays : Scope → (Word → ℕ) → ℕ → List (Word × PlainExprs) → Type 0
AreArrays sc number a [] = Unit {0}
AreArrays sc number a (x ∷ more) = IsArrayAt sc number a x.0 x.1 × AreArrays sc number (suc a) more

-- the piece of each array is fine inside the loops over its cells
abbrev pub ArePieces : Word → Scope → (ℕ → PlainExprs → List PlainStmt) → ℕ → List (Word × PlainExprs) → Type 0
ArePieces f sc piece a [] = Unit {0}
ArePieces f sc piece a (x ∷ more) = TextFine f sc (piece a x.1) (coordinate_loops 0 x.1 []) × ArePieces f sc piece (suc a) more

module _ (f : Word) (number : Word → ℕ) (few : ℕ) (sc : Scope) (declares : Declares f number few sc) where
  pub loops_free : (d : ℕ) (es : PlainExprs) (ls : List Loop) → AreFree sc ls → AreFree sc (coordinate_loops d es ls)
  loops_free d no_exprs ls h = h
  loops_free d (more_exprs e es) ls h = loops_free (suc d) es (record { name = coordinate d; lo = lit 0; rel = Lt; hi = e } ∷ ls) (declares.coordinates_free d, h)

  loops_no_pass : (d : ℕ) (es : PlainExprs) (ls : List Loop) → NoPass ls → NoPass (coordinate_loops d es ls)
  loops_no_pass d no_exprs ls h = h
  loops_no_pass d (more_exprs e es) ls h = loops_no_pass (suc d) es (record { name = coordinate d; lo = lit 0; rel = Lt; hi = e } ∷ ls) (λ i. or_from _ _ (coordinate_variable d i) (h i))

  loops_reach : (d : ℕ) (es : PlainExprs) (ls : List Loop) → Reaches (inside sc ls) (inside sc (coordinate_loops d es ls))
  loops_reach d no_exprs ls x h = h
  loops_reach d (more_exprs e es) ls x h =
      let l : Loop = record { name = coordinate d; lo = lit 0; rel = Lt; hi = e } in
      loops_reach (suc d) es (l ∷ ls) x (reaches_more sc l ls x h)

  pub coordinates_signed : (d : ℕ) (es : PlainExprs) (ls : List Loop) → AreIndices (inside sc (coordinate_loops d es ls)) (coordinates_from d es)
  coordinates_signed d no_exprs ls = tt
  coordinates_signed d (more_exprs e es) ls =
      let l : Loop = record { name = coordinate d; lo = lit 0; rel = Lt; hi = e } in (
        loops_reach (suc d) es (l ∷ ls) (coordinate d) (loop_signed sc (l ∷ ls) (coordinate d) (declares.coordinates_free d) (or_left _ (is_loop ls (coordinate d)) (same_word (coordinate d)))),
        coordinates_signed (suc d) es (l ∷ ls),
      )

  cell_loops_fine : (body : List PlainStmt) (d : ℕ) (es : PlainExprs) (ls : List Loop) → AreIndices (inside sc ls) es → NoCoordinate d ls → d + length (list_of es) < 2 ^ 64 →
      TextFine f sc body (coordinate_loops d es ls) → TextFine f sc (cell_loops d es body) ls
  cell_loops_fine body d no_exprs ls h none small b = b
  cell_loops_fine body d (more_exprs e es) ls h none small b =
      let l : Loop = record { name = coordinate d; lo = lit 0; rel = Lt; hi = e } in
      let later : NoCoordinate (suc d) (l ∷ ls) = λ i g s. or_from _ _ (coordinate_apart d i (omega arith) s (omega arith)) (none i (omega arith) s) in (
        (
          loop_fine f (inside sc ls) (coordinate d) (lit 0) Lt e (stmts_of (cell_loops (suc d) es body)) (declares.coordinates_differ d)
              (or_from _ _ (none d (omega arith) (omega arith)) (declares.coordinates_free d)) tt (index_bound (inside sc ls) e h.0),
          cell_loops_fine body (suc d) es (l ∷ ls) (indices_reach (inside sc ls) (inside sc (l ∷ ls)) (reaches_more sc l ls) es h.1) later (omega arith) b,
        ),
        tt,
      )

  module _ (some : 0 < few) where
    cell_text_fine : (ls : List Loop) → AreFree sc ls → (a : ℕ) (x : Word) (extents : PlainExprs) (piece : List PlainStmt) →
        IsArrayAt sc number a x extents → AreIndices (inside sc ls) (coordinates_from 0 extents) → TextFine f sc piece ls → TextFine f sc (cell_text a x extents piece) ls
    cell_text_fine ls free a x extents piece array indices p =
        let place : Scope = inside sc ls in
        let loaded : IsWordAt place (register 0) = word_inside sc ls (register 0) free (declares.registers 0 some) in
        let at : IsCellAt place x (coordinates_from 0 extents) = record { array = array.array; rank = array.rank ∙ sym (coordinates_many 0 extents); subscripts = indices } in
        let total = subst (λ n. IsWideAt sc (definition_total n)) array.numbered (declares.defined x array.array) in (
          word_fine f place (register 0) None (cell x (coordinates_from 0 extents)) loaded at,
          fine_join f sc ls piece (add_cell a) p (
            wide_fine f place (definition_total a) (Some Add) (bin Mul (widen (var (register 0))) (var count)) refl (wide_inside sc ls (definition_total a) total)
                (product_wide place (register 0) count loaded (wide_inside sc ls count declares.count_wide)),
            tt,
          ),
        )

    array_fine : (a : ℕ) (x : Word) (extents : PlainExprs) (piece : List PlainStmt) → IsArrayAt sc number a x extents → TextFine f sc piece (coordinate_loops 0 extents []) → TextFine f sc (array_text a x extents piece) []
    array_fine a x extents piece array p =
        let ls : List Loop = coordinate_loops 0 extents [] in
        let free : AreFree sc ls = loops_free 0 extents [] tt in
        let indices : AreIndices (inside sc ls) (coordinates_from 0 extents) = coordinates_signed 0 extents [] in
        cell_loops_fine (cell_text a x extents piece) 0 extents [] array.extents_signed (λ i h g. refl) (let s = array.few in omega arith)
        (cell_text_fine ls free a x extents piece array indices p)

    pub prologue_fine : (piece : ℕ → PlainExprs → List PlainStmt) (a : ℕ) (arrays : List (Word × PlainExprs)) → AreArrays sc number a arrays → ArePieces f sc piece a arrays → TextFine f sc (prologue_text piece a arrays) []
    prologue_fine piece a [] h p = tt
    prologue_fine piece a (x ∷ more) h p =
        fine_join f sc [] (array_text a x.0 x.1 (piece a x.1)) (prologue_text piece (suc a) more) (array_fine a x.0 x.1 (piece a x.1) h.0 p.0) (prologue_fine piece (suc a) more h.1 p.1)

  -- the counting pass of an initial cell, inside its loops
  pub cell_piece_fine : (whole : PlainStmts) → AreSource f sc whole [] → (a : ℕ) (extents : PlainExprs) → inspects_all number a whole ≡ false → TextFine f sc (cell_piece number whole a extents) (coordinate_loops 0 extents [])
  cell_piece_fine whole source a extents plain =
      let ls : List Loop = coordinate_loops 0 extents [] in
      pass_fine f number few sc declares (record { array = a; at = coordinates_from 0 extents }) None ls (coordinates_signed 0 extents []) whole (loops_free 0 extents [] tt) (loops_no_pass 0 extents [] (λ d. refl)) source plain (all_see_none (inside sc ls) [] 0 whole)
