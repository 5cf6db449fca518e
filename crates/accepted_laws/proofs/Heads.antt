-- The head of the instrumented unit of a suited source.
use Rattle.std.proofs.Common.{◌≡◌, ℕ, suc, ◌≤◌, Bool, true, false, not, [], ◌∷◌, length, refl, sym, ap, arith, inl, inr, max, List}
use Rattle.std.specs.List.{list_all}
use Rattle.std.proofs.lemmas.Bool.{or_parts, cases_Bool}
use Rattle.c_tree.specs.Plain.{Word, PlainExprs, no_exprs, more_exprs, PlainStmt, PlainStmts, PlainParam, int_param, array_param, PlainUnit}
use Rattle.instrumentation.specs.Names.{number_in}
use Rattle.instrumentation.specs.Inspects.{inspects_all}
use Rattle.instrumentation.specs.Pieces.{dimensions, widest}
use Rattle.instrumentation.specs.Guarded.{arrays_with_extents, array_names}
use Rattle.instrumentation.specs.Body.{registers_all}
use Rattle.accepted_laws.specs.Pieces.{with_pieces}
use Rattle.c_tree.specs.Names.{is_among}
use Rattle.acceptance.specs.Items.{is_param, is_scalar}
use Rattle.acceptance.specs.Affine.{is_affine}
use Rattle.acceptance.specs.Head.{list_of, params_twice, words_twice, extents_in, head_scope}
use Rattle.acceptance_laws.proofs.Fine.{HeadFine}
use Rattle.acceptance_laws.proofs.Once.{names_once}
use Rattle.accepted_laws.specs.Suited.{AreRanked, IsSuited}
use Rattle.accepted_laws.proofs.Sources.{params_own, words_own, all_few_loads}
use Rattle.accepted_laws.proofs.Arrays.{all_same_affine, all_signed}

not_false : (b : Bool) → not b ≡ false → b ≡ true
not_false true h = refl
not_false false h = sym h

pub dimensions_many : (es : PlainExprs) → dimensions es ≡ length (list_of es)
dimensions_many no_exprs = refl
dimensions_many (more_exprs e es) = ap suc (dimensions_many es)

pub widest_small : (number : Word → ℕ) (whole : PlainStmts) (a : ℕ) (ps : List PlainParam) → AreRanked ps → widest number whole a (arrays_with_extents ps) ≤ 3
widest_small number whole a [] h = omega arith
widest_small number whole a (int_param x ∷ ps) h = widest_small number whole a ps h
widest_small number whole a (array_param x c es ∷ ps) h =
    let r = widest_small number whole (suc a) ps h.2 in
    let few : length (list_of es) ≤ 3 = h.1 in
    let many = dimensions_many es in
    elim (cases_Bool (inspects_all number a whole)) [
      | inl e ↦ rw e (omega arith)
      | inr e ↦ rw e (omega arith)
    ]

module _ (u : PlainUnit) (r : IsSuited u) where
  abbrev few : ℕ
  few = max 1 (registers_all u.body)

  pub params_once : params_twice u.params ≡ false
  params_once =
      let a = or_parts (is_param u.params u.name) _ r.once in
      let b = or_parts (is_scalar u.words u.name) _ a.1 in
      let c = or_parts (is_among u.wides u.name) _ b.1 in
      (or_parts (params_twice u.params) _ c.1).0

  words_once : words_twice u.params u.words ≡ false
  words_once =
      let a = or_parts (is_param u.params u.name) _ r.once in
      let b = or_parts (is_scalar u.words u.name) _ a.1 in
      let c = or_parts (is_among u.wides u.name) _ b.1 in
      let d = or_parts (params_twice u.params) _ c.1 in
      (or_parts (words_twice u.params u.words) _ d.1).0

  pub extents_affine : list_all (is_affine (head_scope u)) (extents_in u.params) ≡ true
  extents_affine = not_false _ r.affine

  pub its_head : (cells : ℕ → PlainExprs → List PlainStmt) (pieces : ℕ → List PlainStmt) → HeadFine (with_pieces u cells pieces)
  its_head cells pieces =
      let loads : registers_all u.body ≤ 16 = all_few_loads u u.body [] r.body in
      let arrays = r.few_arrays in
      let wide = widest_small (number_in (array_names u.params)) u.body 0 u.params r.ranked in
      record {
        once = names_once u (params_own u.params r.free_params) (words_own u.words r.free_words) params_once words_once (omega arith) (omega arith) (omega arith);
        known = r.known;
        ranges = r.ranges;
        affine = ap not (all_same_affine u few params_once [] (λ x h. refl) (extents_in u.params) extents_affine);
        small = r.small;
        narrow = r.narrow;
        positive = r.positive;
        signed = all_signed u few params_once [] (λ x h. refl) u.params extents_affine;
      }
