-- The piece of an assignment is that of its target.
use Rattle.std.proofs.Common.{◌≡◌, ℕ, zero, suc, ◌+◌, ◌-◌, ◌<◌, ◌≤◌, Bool, true, false, cond, List, [], ◌++◌, length, Option, Some, None, refl, sym, ap, ◌∙◌, arith}
use Rattle.std.specs.Prelude.{nat_lt, nat_eq}
use Rattle.std.proofs.lemmas.Bool.{ltb-true, ltb-false, ne_eqb}
use Rattle.std.proofs.lemmas.List.{get_or_append_left, get_or-append_right}
use Rattle.c_tree.specs.Plain.{Word, PlainExpr, PlainExprs, PlainStmt, loop, choice, assign, table, begin, check, verdict, PlainStmts, no_stmts, more_stmts}
use Rattle.c_tree.specs.Instances.{sites, sites_all}
use Rattle.instrumentation.specs.Pieces.{piece_at, site_piece, site_pieces, site_pieces_all}
use Rattle.unit_builder.specs.Parts.{target_in, target_among}
use Rattle.unit_builder.proofs.PieceCounts.{length-site_pieces, length-site_pieces_all}

module _ (number : Word → ℕ) (extents : Word → PlainExprs) (whole : PlainStmts) where
  -- the piece of the assignment of number k with this target
  abbrev pub piece_of : ℕ → Option PlainExpr → List PlainStmt
  piece_of k None = []
  piece_of k (Some t) = site_piece number extents whole k t

  -- in the first of two lists of pieces, or in the second
  joined : (xs ys : List (List PlainStmt)) (n j k : ℕ) (first other : Option PlainExpr) → length xs ≡ n →
      piece_at xs k ≡ piece_of (j + k) first → piece_at ys (k - n) ≡ piece_of ((j + n) + (k - n)) other →
      piece_at (xs ++ ys) k ≡ piece_of (j + k) (cond (nat_lt k n) first other)
  joined xs ys n j k first other long here there = chosen (nat_lt k n) refl
    where
      chosen : (b : Bool) → nat_lt k n ≡ b → piece_at (xs ++ ys) k ≡ piece_of (j + k) (cond b first other)
      chosen true below = let l : k < length xs = (let h = ltb-true k n below in omega arith) in get_or_append_left xs ys [] k l ∙ here
      chosen false below =
          let h : n ≤ k = ltb-false k n below in
          let place : (j + n) + (k - n) ≡ j + k = omega arith in
          get_or-append_right xs ys n k [] long h ∙ there ∙ ap (λ m. piece_of m other) place

  mutual
    pub piece_in : (j k : ℕ) (s : PlainStmt) → piece_at (site_pieces number extents whole j s) k ≡ piece_of (j + k) (target_in s k)
    piece_in j k (loop x lo rel hi body) = piece_among j k body
    piece_in j k (choice ts first other) =
        joined (site_pieces_all number extents whole j first) (site_pieces_all number extents whole (j + sites_all first) other) (sites_all first) j k (target_among first k) (target_among other (k - sites_all first))
        (length-site_pieces_all number extents whole j first) (piece_among j k first) (piece_among (j + sites_all first) (k - sites_all first) other)
    piece_in j zero (assign t op e) = let h : j ≡ j + 0 = omega arith in ap (λ m. site_piece number extents whole m t) h
    piece_in j (suc k) (assign t op e) =
        let later : nat_eq (suc k) 0 ≡ false = ne_eqb (suc k) 0 (λ h. omega arith) in
        sym (ap (λ b. piece_of (j + suc k) (cond b (Some t) None)) later)
    piece_in j k (table x len) = refl
    piece_in j k begin = refl
    piece_in j k (check x extent a) = refl
    piece_in j k verdict = refl

    pub piece_among : (j k : ℕ) (ss : PlainStmts) → piece_at (site_pieces_all number extents whole j ss) k ≡ piece_of (j + k) (target_among ss k)
    piece_among j k no_stmts = refl
    piece_among j k (more_stmts s ss) =
        joined (site_pieces number extents whole j s) (site_pieces_all number extents whole (j + sites s) ss) (sites s) j k (target_in s k) (target_among ss (k - sites s))
        (length-site_pieces number extents whole j s) (piece_in j k s) (piece_among (j + sites s) (k - sites s) ss)

  pub no_target : (k : ℕ) → target_among whole k ≡ None → piece_at (site_pieces_all number extents whole 0 whole) k ≡ []
  no_target k none = piece_among 0 k whole ∙ ap (piece_of (0 + k)) none

  pub some_target : (k : ℕ) (t : PlainExpr) → target_among whole k ≡ Some t → piece_at (site_pieces_all number extents whole 0 whole) k ≡ site_piece number extents whole k t
  some_target k t some = let h : 0 + k ≡ k = omega arith in piece_among 0 k whole ∙ ap (piece_of (0 + k)) some ∙ ap (λ m. site_piece number extents whole m t) h
