-- The piece of a number is that of the assignment with this number.
use Rattle.std.proofs.Common.{◌≡◌, ℕ, zero, suc, ◌+◌, List, [], ◌∷◌, ◌++◌, length, refl, sym, ap, ◌∙◌, arith}
use Rattle.std.proofs.lemmas.List.{length-append}
use Rattle.c_tree.specs.Plain.{Word, PlainExpr, PlainExprs, PlainStmt, loop, choice, assign, table, begin, check, verdict, PlainStmts, no_stmts, more_stmts}
use Rattle.c_tree.specs.Instances.{sites, sites_all}
use Rattle.instrumentation.specs.Pieces.{site_piece, site_pieces, site_pieces_all, piece_at}
use Rattle.pass_laws.specs.Targets.{targets, targets_all, target_in, target_at}
use Rattle.pass_laws.proofs.Sites.{targets_many, targets_all_many}

-- pieces in a row, each that of its target
joined : (f : ℕ → PlainExpr → List PlainStmt) (ps qs : List (List PlainStmt)) (ts us : List PlainExpr) → length ps ≡ length ts → ((j : ℕ) → piece_at ps j ≡ f j (target_in ts j)) → ((j : ℕ) → piece_at qs j ≡ f (length ts + j) (target_in us j)) →
    (j : ℕ) → piece_at (ps ++ qs) j ≡ f j (target_in (ts ++ us) j)
joined f [] qs [] us l h g j = g j ∙ ap (λ n. f n (target_in us j)) (let e : 0 + j ≡ j = omega arith in e)
joined f [] qs (t ∷ ts) us l h g j = absurd (let a : 0 ≡ suc (length ts) = l in omega arith)
joined f (p ∷ ps) qs [] us l h g j = absurd (let a : suc (length ps) ≡ 0 = l in omega arith)
joined f (p ∷ ps) qs (t ∷ ts) us l h g zero = h 0
joined f (p ∷ ps) qs (t ∷ ts) us l h g (suc j) =
    joined (λ i. f (suc i)) ps qs ts us (let a : suc (length ps) ≡ suc (length ts) = l in omega arith) (λ i. h (suc i))
    (λ i. g i ∙ ap (λ n. f n (target_in us i)) (let e : suc (length ts) + i ≡ suc (length ts + i) = omega arith in e)) j

module _ (number : Word → ℕ) (texts : Word → PlainExprs) (whole : PlainStmts) where
  mutual
    pieces_many : (k : ℕ) (p : PlainStmt) → length (site_pieces number texts whole k p) ≡ sites p
    pieces_many k (loop x lo rel hi body) = pieces_all_many k body
    pieces_many k (choice ts first other) =
        length-append (site_pieces_all number texts whole k first) (site_pieces_all number texts whole (k + sites_all first) other) ∙ (let a = pieces_all_many k first in let b = pieces_all_many (k + sites_all first) other in omega arith)
    pieces_many k (assign t op e) = refl
    pieces_many k (table x len) = refl
    pieces_many k begin = refl
    pieces_many k (check x extent a) = refl
    pieces_many k verdict = refl

    pieces_all_many : (k : ℕ) (ps : PlainStmts) → length (site_pieces_all number texts whole k ps) ≡ sites_all ps
    pieces_all_many k no_stmts = refl
    pieces_all_many k (more_stmts p ps) =
        length-append (site_pieces number texts whole k p) (site_pieces_all number texts whole (k + sites p) ps) ∙ (let a = pieces_many k p in let b = pieces_all_many (k + sites p) ps in omega arith)

  mutual
    piece_of_one : (p : PlainStmt) (k j : ℕ) → piece_at (site_pieces number texts whole k p) j ≡ site_piece number texts whole (k + j) (target_in (targets p) j)
    piece_of_one (loop x lo rel hi body) k j = piece_of_all body k j
    piece_of_one (choice ts first other) k j =
        joined (λ i. site_piece number texts whole (k + i)) (site_pieces_all number texts whole k first) (site_pieces_all number texts whole (k + sites_all first) other) (targets_all first) (targets_all other)
        (pieces_all_many k first ∙ sym (targets_all_many first)) (piece_of_all first k)
        (λ i. piece_of_all other (k + sites_all first) i ∙ ap (λ n. site_piece number texts whole n (target_in (targets_all other) i)) (let l = targets_all_many first in let e : k + sites_all first + i ≡ k + (length (targets_all first) + i) = omega arith in e)) j
    piece_of_one (assign t op e) k zero = ap (λ n. site_piece number texts whole n t) (let e : k ≡ k + 0 = omega arith in e)
    piece_of_one (assign t op e) k (suc j) = refl
    piece_of_one (table x len) k j = refl
    piece_of_one begin k j = refl
    piece_of_one (check x extent a) k j = refl
    piece_of_one verdict k j = refl

    piece_of_all : (ps : PlainStmts) (k j : ℕ) → piece_at (site_pieces_all number texts whole k ps) j ≡ site_piece number texts whole (k + j) (target_in (targets_all ps) j)
    piece_of_all no_stmts k j = refl
    piece_of_all (more_stmts p ps) k j =
        joined (λ i. site_piece number texts whole (k + i)) (site_pieces number texts whole k p) (site_pieces_all number texts whole (k + sites p) ps) (targets p) (targets_all ps)
        (pieces_many k p ∙ sym (targets_many p)) (piece_of_one p k)
        (λ i. piece_of_all ps (k + sites p) i ∙ ap (λ n. site_piece number texts whole n (target_in (targets_all ps) i)) (let l = targets_many p in let e : k + sites p + i ≡ k + (length (targets p) + i) = omega arith in e)) j

  pub piece_of : (k : ℕ) → piece_at (site_pieces_all number texts whole 0 whole) k ≡ site_piece number texts whole k (target_at whole k)
  piece_of k = piece_of_all whole 0 k ∙ ap (λ n. site_piece number texts whole n (target_at whole k)) (let e : 0 + k ≡ k = omega arith in e)
