-- How high the text of a source is.
use Rattle.std.proofs.Common.{bytes_eq, ◌≡◌, ℕ, ◌+◌, ◌≤◌, suc, Bool, true, false, if◌then◌else◌, List, [], ◌∷◌, ◌++◌, length, refl, arith}
use Rattle.c_tree.specs.Plain.{Word, PlainExprs, PlainStmt, begin, verdict, PlainParam, int_param, array_param, PlainUnit}
use Rattle.c_tree.specs.Trees.{stmts_of}
use Rattle.c_tree.specs.Grammar.Expressions.{heights}
use Rattle.c_tree.specs.Grammar.Statements.{stmts_height}
use Rattle.instrumentation.specs.Names.{number_in}
use Rattle.instrumentation.specs.Body.{instrument_all}
use Rattle.instrumentation.specs.Pieces.{initial_piece, site_pieces_all, piece_at, builds}
use Rattle.instrumentation.specs.Prologue.{prologue_text}
use Rattle.instrumentation.specs.Guarded.{arrays_with_extents, extents_of, array_names, guarded}
use Rattle.acceptance.specs.Head.{list_of}
use Rattle.acceptance.specs.Heights.{all_exprs_height, extents_height, IsLow}
use Rattle.accepted_laws.specs.Pieces.{with_pieces}
use Rattle.accepted_laws.specs.Suited.{AreRanked}
use Rattle.accepted_laws.proofs.Heights.{Low, low_join, low_more, low_rise, all_instrument_low, prologue_low, initial_piece_low, piece_low}
use Rattle.accepted_laws.proofs.WalkHeights.{builds_low}

extents_short : (ps : List PlainParam) (x : Word) → heights (extents_of ps x) ≤ extents_height ps
extents_short [] x = omega arith
extents_short (int_param y ∷ ps) x = extents_short ps x
extents_short (array_param y constant es ∷ ps) x = chosen (bytes_eq y x) (extents_short ps x)
  where
    chosen : (b : Bool) → heights (extents_of ps x) ≤ extents_height ps → heights (if b then es else extents_of ps x) ≤ extents_height (array_param y constant es ∷ ps)
    chosen true h = omega arith
    chosen false h = omega arith

pub extents_few : (ps : List PlainParam) (x : Word) → AreRanked ps → length (list_of (extents_of ps x)) ≤ 3
extents_few [] x h = omega arith
extents_few (int_param y ∷ ps) x h = extents_few ps x h
extents_few (array_param y constant es ∷ ps) x h = chosen (bytes_eq y x) (extents_few ps x h.2)
  where
    chosen : (b : Bool) → length (list_of (extents_of ps x)) ≤ 3 → length (list_of (if b then es else extents_of ps x)) ≤ 3
    chosen true g = h.1
    chosen false g = g

-- The text of a source within 64 and 64, with pieces of at most p and high, is within 63 + p and high.
pub text_low : (u : PlainUnit) → AreRanked u.params → IsLow 64 64 u → (p high : ℕ) → 2 ≤ p → 72 ≤ high → (cells : ℕ → PlainExprs → List PlainStmt) (pieces : ℕ → List PlainStmt)
    → ((a : ℕ) (es : PlainExprs) → heights es ≤ 64 → length (list_of es) ≤ 3 → Low p high (cells a es)) → ((k : ℕ) → Low p high (pieces k)) → IsLow (63 + p) high (with_pieces u cells pieces)
text_low u k low p high one over cells pieces each_cells each =
    let number : Word → ℕ = number_in (array_names u.params) in
    let hs = low.stmts in
    let he = low.exprs in
    let hp = low.extents in
    let a : Low (p + 3) high (prologue_text cells 0 (arrays_with_extents u.params)) = prologue_low 64 (omega arith) number p high (omega arith) (omega arith) cells each_cells 0 u.params k hp in
    let short : (x : Word) → heights (extents_of u.params x) ≤ 64 = λ x. (let s = extents_short u.params x in omega arith) in
    let b = all_instrument_low 64 (omega arith) number (extents_of u.params) short p high (omega arith) (omega arith) pieces each 0 u.body he in
    let bs = b.0 in
    let be = b.1 in
    let t : Low (suc (stmts_height u.body)) 72 (builds number u.body 0 (arrays_with_extents u.params)) = builds_low 64 (omega arith) number u.body he 0 u.params k hp in
    let rest : List PlainStmt = prologue_text cells 0 (arrays_with_extents u.params) ++ (begin ∷ (instrument_all number (extents_of u.params) pieces 0 u.body ++ verdict ∷ [])) in
    let body : Low (63 + p) high (builds number u.body 0 (arrays_with_extents u.params) ++ rest) =
    low_join (63 + p) high (builds number u.body 0 (arrays_with_extents u.params)) rest (low_rise (suc (stmts_height u.body)) 72 (63 + p) high _ (omega arith) (omega arith) t)
    (low_join (63 + p) high (prologue_text cells 0 (arrays_with_extents u.params)) _ (low_rise (p + 3) high (63 + p) high _ (omega arith) (omega arith) a)
    (low_more (63 + p) high begin _ (omega arith) (omega arith)
    (low_join (63 + p) high (instrument_all number (extents_of u.params) pieces 0 u.body) (verdict ∷ []) (record { stmts = omega arith; exprs = be }) (record { stmts = omega arith; exprs = omega arith })))) in
    record { stmts = body.stmts; exprs = body.exprs; extents = omega arith }

-- ---- with its own pieces: within 129 and 72

module _ (u : PlainUnit) (k : AreRanked u.params) (low : IsLow 64 64 u) where
  abbrev number : Word → ℕ
  number = number_in (array_names u.params)

  short : (x : Word) → heights (extents_of u.params x) ≤ 64
  short x = (let s = extents_short u.params x in let e = low.extents in omega arith)

  pub cells_low : (a : ℕ) (es : PlainExprs) → heights es ≤ 64 → length (list_of es) ≤ 3 → Low 66 72 (initial_piece number u.body a es)
  cells_low a es h few =
      let hs = low.stmts in
      low_rise (stmts_height u.body + 2) 72 66 72 _ (omega arith) (omega arith) (initial_piece_low 64 (omega arith) number (extents_of u.params) short (λ x. extents_few u.params x k) u.body low.exprs a es h few)

  pub pieces_low : (j : ℕ) → Low 66 72 (piece_at (site_pieces_all number (extents_of u.params) u.body 0 u.body) j)
  pieces_low j =
      let hs = low.stmts in
      low_rise (stmts_height u.body + 2) 72 66 72 _ (omega arith) (omega arith) (piece_low 64 (omega arith) number (extents_of u.params) short (λ x. extents_few u.params x k) u.body low.exprs j)

pub guarded_low : (u : PlainUnit) → AreRanked u.params → IsLow 64 64 u → IsLow 129 72 (guarded u)
guarded_low u k low =
    let number : Word → ℕ = number_in (array_names u.params) in
    text_low u k low 66 72 (omega arith) (omega arith) (initial_piece number u.body) (piece_at (site_pieces_all number (extents_of u.params) u.body 0 u.body)) (cells_low u k low) (pieces_low u k low)
