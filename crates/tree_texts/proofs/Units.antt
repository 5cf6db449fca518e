-- The trees of sources and printed texts are those of units that some text has.
use Rattle.std.proofs.Common.{◌≡◌, ◌≢◌, ℕ, ◌≤◌, Bool, true, false, List, [], ◌∷◌, ◌++◌, length, refl, sym, ap, ◌∙◌, subst, true≢false, arith, None, Some, is_some}
use Rattle.c_tree.specs.Names.{arrays_in}
use Rattle.c_tree.specs.Plain.{PlainStmt, begin, verdict, more_stmts, PlainParam, PlainUnit}
use Rattle.c_tree.specs.Trees.{stmts_of}
use Rattle.c_tree.specs.Grammar.Statements.{chain, one, stmts_height}
use Rattle.acceptance.specs.Heights.{all_exprs_height, extents_height}
use Rattle.acceptance.specs.Trees.{AreParams, IsSourceTree, IsPrintedTree}
use Rattle.layout_laws.specs.Fine as fine
use Rattle.layout_laws.specs.Fine.{FineParams, FineUnit}
use Rattle.layout_laws.specs.Proper.{ProperStmts, ProperUnit}
use Rattle.layout_laws.specs.Trees.{IsTree}
use Rattle.tree_texts.proofs.FineTrees.{fine_stmts, fine_tops, all_top_checks, fine_ranges, low_params}
use Rattle.tree_texts.proofs.ProperTrees.{proper_name, proper_stmts, proper_join, proper_ranges, proper_params, proper_words, proper_wides, proper_tops}

some_params : (p : Bool) (m : ℕ) (ps : List PlainParam) → ps ≢ [] → AreParams p ps → extents_height ps ≤ m → FineParams p m ps
some_params p m [] some h l = some refl
some_params p m (x ∷ ps) some h l = low_params p m (x ∷ ps) h l

-- ---- sources

source_fine : (u : PlainUnit) → IsSourceTree u → FineUnit u
source_fine u h =
    let low = h.low in
    subst (λ v. FineUnit (record { version = v; ranges = u.ranges; name = u.name; params = u.params; words = u.words; wides = u.wides; body = u.body })) (sym h.version)
    (subst (λ xs. FineUnit (record { version = None; ranges = u.ranges; name = u.name; params = u.params; words = u.words; wides = xs; body = u.body })) (sym h.no_wides)
    (fine.source u.name (fine_ranges false u.ranges h.head.ranges) (some_params false 64 u.params h.head.some_param h.head.params low.extents) (fine_stmts false 64 0 u.body h.body low.exprs) low.stmts))

source_proper : (u : PlainUnit) → IsSourceTree u → ProperUnit false u
source_proper u h = record {
  ranges = proper_ranges false u.ranges h.head.ranges;
  name = proper_name false u.name h.head.name;
  params = proper_params false u.params h.head.params;
  words = proper_words false u.words h.head.words;
  wides = proper_wides false u.wides h.head.wides;
  body = proper_stmts false 0 u.body h.body;
  arrays = λ e. absurd (true≢false (sym e));
}

pub source_tree : (u : PlainUnit) → IsSourceTree u → IsTree u
source_tree u h = record { fine = source_fine u h; proper = subst (λ v. ProperUnit (is_some v) u) (sym h.version) (source_proper u h) }

-- ---- printed texts

chained : (a b : List PlainStmt) → stmts_of (a ++ b) ≡ chain (stmts_of a) (stmts_of b)
chained [] b = refl
chained (s ∷ a) b = ap (more_stmts s) (chained a b)

-- both parts of a list are as low as it is
record Both (s e : ℕ) (a b : List PlainStmt) : Type 0 where
  first_stmts : stmts_height (stmts_of a) ≤ s
  first_exprs : all_exprs_height (stmts_of a) ≤ e
  last_stmts : stmts_height (stmts_of b) ≤ s
  last_exprs : all_exprs_height (stmts_of b) ≤ e

both_low : (s e : ℕ) (a b : List PlainStmt) → stmts_height (stmts_of (a ++ b)) ≤ s → all_exprs_height (stmts_of (a ++ b)) ≤ e → Both s e a b
both_low s e [] b h g = record { first_stmts = omega arith; first_exprs = omega arith; last_stmts = h; last_exprs = g }
both_low s e (x ∷ a) b h g =
    let r : Both s e a b = both_low s e a b (omega arith) (omega arith) in
    let rs = r.first_stmts in
    let re = r.first_exprs in
    record { first_stmts = omega arith; first_exprs = omega arith; last_stmts = r.last_stmts; last_exprs = r.last_exprs }

module _ (u : PlainUnit) (h : IsPrintedTree u) where
  abbrev ending : List PlainStmt
  ending = h.after ++ verdict ∷ []

  abbrev whole : List PlainStmt
  whole = h.before ++ begin ∷ ending

  stmts_low : stmts_height (stmts_of whole) ≤ 160
  stmts_low = subst (λ b. stmts_height b ≤ 160) h.parts h.low.stmts

  exprs_low : all_exprs_height (stmts_of whole) ≤ 256
  exprs_low = subst (λ b. all_exprs_height b ≤ 256) h.parts h.low.exprs

  parts_low : Both 160 256 h.before (begin ∷ ending)
  parts_low = both_low 160 256 h.before (begin ∷ ending) stmts_low exprs_low

  ends_low : Both 160 256 h.after (verdict ∷ [])
  ends_low = (let s = parts_low.last_stmts in let e = parts_low.last_exprs in both_low 160 256 h.after (verdict ∷ []) (omega arith) (omega arith))

  its_body : u.body ≡ chain (stmts_of h.before) (more_stmts begin (chain (stmts_of h.after) (one verdict)))
  its_body = h.parts ∙ (chained h.before (begin ∷ ending) ∙ ap (λ b. chain (stmts_of h.before) (more_stmts begin b)) (chained h.after (verdict ∷ [])))

  printed_fine : FineUnit u
  printed_fine =
      let n = length (arrays_in u.params) in
      subst (λ v. FineUnit (record { version = v; ranges = u.ranges; name = u.name; params = u.params; words = u.words; wides = u.wides; body = u.body })) (sym h.version)
      (subst (λ b. FineUnit (record { version = Some 1; ranges = u.ranges; name = u.name; params = u.params; words = u.words; wides = u.wides; body = b })) (sym its_body)
      (fine.printed u.name (stmts_of h.before) (stmts_of h.after) (fine_ranges true u.ranges h.head.ranges) (some_params true 256 u.params h.head.some_param h.head.params h.low.extents)
      (fine_tops 256 n h.before h.before_trees parts_low.first_exprs) (fine_tops 256 n h.after h.after_trees ends_low.first_exprs) parts_low.first_stmts ends_low.first_stmts
      (all_top_checks n h.before h.before_trees) (all_top_checks n h.after h.after_trees)))

  printed_proper : ProperUnit true u
  printed_proper =
      let n = length (arrays_in u.params) in
      record {
        ranges = proper_ranges true u.ranges h.head.ranges;
        name = proper_name true u.name h.head.name;
        params = proper_params true u.params h.head.params;
        words = proper_words true u.words h.head.words;
        wides = proper_wides true u.wides h.head.wides;
        body = subst (ProperStmts true) (sym h.parts) (proper_join true h.before (begin ∷ ending) (proper_tops n h.before h.before_trees)
            (tt, proper_join true h.after (verdict ∷ []) (proper_tops n h.after h.after_trees) (refl, tt)));
        arrays = λ e. h.few_arrays;
      }

  pub printed_tree : IsTree u
  printed_tree = record { fine = printed_fine; proper = subst (λ v. ProperUnit (is_some v) u) (sym h.version) printed_proper }
