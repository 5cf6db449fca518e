-- The pieces of a source: as many as assignments.
use Rattle.std.proofs.Common.{◌≡◌, ℕ, zero, suc, ◌+◌, List, [], ◌∷◌, map, length, Result, Ok, Err, refl, sym, ap, ◌∙◌, length-append}
use Rattle.std.specs.Prelude.{IfOk}
use Rattle.std.proofs.lemmas.List.{length-map}
use Rattle.c_tree.specs.Plain.{Word, PlainExprs, PlainStmt, loop, choice, assign, table, begin, check, verdict, PlainStmts, no_stmts, more_stmts}
use Rattle.c_tree.specs.Trees.{stmt}
use Rattle.c_tree.specs.declared.memory.OutOfMemory.{OutOfMemory}
use Rattle.c_tree.specs.declared.stmt.Stmt.{Stmt}
use Rattle.c_tree.specs.Instances.{sites, sites_all}
use Rattle.instrumentation.specs.Body.{instrument_all}
use Rattle.instrumentation.specs.Pieces.{piece_at, site_pieces, site_pieces_all}
use Rattle.text_parts.specs.Built.{pieces_in}

mutual
  pub length-site_pieces : (number : Word → ℕ) (extents : Word → PlainExprs) (whole : PlainStmts) (k : ℕ) (s : PlainStmt) → length (site_pieces number extents whole k s) ≡ sites s
  length-site_pieces number extents whole k (loop x lo rel hi body) = length-site_pieces_all number extents whole k body
  length-site_pieces number extents whole k (choice ts first other) =
      length-append (site_pieces_all number extents whole k first) (site_pieces_all number extents whole (k + sites_all first) other)
      ∙ rw (length-site_pieces_all number extents whole k first, length-site_pieces_all number extents whole (k + sites_all first) other) refl
  length-site_pieces number extents whole k (assign t op e) = refl
  length-site_pieces number extents whole k (table x len) = refl
  length-site_pieces number extents whole k begin = refl
  length-site_pieces number extents whole k (check x extent a) = refl
  length-site_pieces number extents whole k verdict = refl

  pub length-site_pieces_all : (number : Word → ℕ) (extents : Word → PlainExprs) (whole : PlainStmts) (k : ℕ) (ss : PlainStmts) → length (site_pieces_all number extents whole k ss) ≡ sites_all ss
  length-site_pieces_all number extents whole k no_stmts = refl
  length-site_pieces_all number extents whole k (more_stmts s ss) =
      length-append (site_pieces number extents whole k s) (site_pieces_all number extents whole (k + sites s) ss)
      ∙ rw (length-site_pieces number extents whole k s, length-site_pieces_all number extents whole (k + sites s) ss) refl

-- the pieces of all assignments
pub enough_pieces : (number : Word → ℕ) (extents : Word → PlainExprs) (whole : PlainStmts) (pieces : List (List Stmt)) → map (map stmt) pieces ≡ site_pieces_all number extents whole 0 whole → length pieces ≡ sites_all whole
enough_pieces number extents whole pieces same = sym (length-map pieces (map stmt)) ∙ ap length same ∙ length-site_pieces_all number extents whole 0 whole

-- a piece by its number, made or plain
same_piece : (made : List (List Stmt)) (k : ℕ) → pieces_in made k ≡ piece_at (map (map stmt) made) k
same_piece [] k = refl
same_piece (p ∷ ps) zero = refl
same_piece (p ∷ ps) (suc k) = same_piece ps k

-- what is made with the pieces of a source is made with its plain pieces
pub given_pieces : (number : Word → ℕ) (extents : Word → PlainExprs) (whole : PlainStmts) (pieces seen : List (List Stmt)) → map (map stmt) pieces ≡ site_pieces_all number extents whole 0 whole → seen ≡ pieces →
    (r : Result (List Stmt) OutOfMemory) → IfOk r (λ made. map stmt made ≡ instrument_all number extents (pieces_in seen) 0 whole) →
    IfOk r (λ made. map stmt made ≡ instrument_all number extents (piece_at (site_pieces_all number extents whole 0 whole)) 0 whole)
given_pieces number extents whole pieces seen same is (Ok made) e =
    e ∙ ap (λ (ps : ℕ → List PlainStmt). instrument_all number extents ps 0 whole) (λ i k. (ap (λ (l : List (List Stmt)). pieces_in l k) is ∙ same_piece pieces k ∙ ap (λ l. piece_at l k) same) i)
given_pieces number extents whole pieces seen same is (Err x) e = tt
