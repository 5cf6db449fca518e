-- The instrumented unit of a suited source is accepted.
use Rattle.std.proofs.Common.{◌≡◌, ℕ, ◌+◌, ◌<◌, ◌≤◌, ◌^◌, suc, List, [], ◌∷◌, length, true, false, refl, sym, ap, ◌∙◌, arith, inl, inr, max, subst, true≢false}
use Rattle.std.specs.Prelude.{bytes_eq}
use Rattle.std.proofs.lemmas.Bool.{cases_Bool}
use Rattle.std.proofs.lemmas.List.{length-map}
use Rattle.c_tree.specs.Plain.{Word, PlainExprs, PlainUnit}
use Rattle.c_tree.specs.Names.{is_among}
use Rattle.instrumentation.specs.Names.{function_name, current, counts, number_from, number_in}
use Rattle.instrumentation.specs.Body.{registers_all}
use Rattle.instrumentation.specs.Inspects.{inspects_all}
use Rattle.instrumentation.specs.Pieces.{initial_piece, site_pieces_all, piece_at, widest}
use Rattle.instrumentation.specs.Guarded.{arrays_with_extents, extents_of, array_names, guarded_body, guarded}
use Rattle.acceptance.specs.Items.{Scope, is_array, is_param}
use Rattle.acceptance.specs.Head.{list_of}
use Rattle.acceptance.specs.Printed.{dimensions, IsAcceptedPrinted}
use Rattle.acceptance.specs.Trees.{IsSourceTree}
use Rattle.acceptance_laws.proofs.Names.{own, same_word-true}
use Rattle.acceptance_laws.proofs.Expressions.{array_param_of}
use Rattle.acceptance_laws.proofs.Fine.{TopFine, unrefused_by}
use Rattle.acceptance_laws.proofs.Sources.{AreSource}
use Rattle.acceptance_laws.proofs.TextWords.{OwnWords}
use Rattle.acceptance_laws.proofs.TableNames.{AreTables, tables_lack_own}
use Rattle.acceptance_laws.proofs.Units.{OwnParams, head_of, not_param, undeclared, current_free, counts_free, index_name, written_name, current_table, counts_table, totals_flat}
use Rattle.acceptance_laws.proofs.Totals.{array_named, verdict_declared}
use Rattle.acceptance_laws.proofs.Prologues.{IsArrayAt, AreArrays}
use Rattle.acceptance_laws.proofs.Walks.{Inspecting, HasTables}
use Rattle.acceptance_laws.proofs.Texts.{HasAll, Settles, text_fine}
use Rattle.accepted_laws.specs.Suited.{IsSuited}
use Rattle.accepted_laws.proofs.Sources.{has, params_own, words_own, known_own, all_source}
use Rattle.accepted_laws.proofs.Pieces.{all_pieces, all_cells_fine}
use Rattle.accepted_laws.proofs.Arrays.{its_arrays}
use Rattle.accepted_laws.proofs.Heads.{params_once, extents_affine, its_head}
use Rattle.accepted_laws.proofs.TextTrees.{suited_tree}

-- ---- no two arrays have one number

number_at_least : (k : ℕ) (xs : List Word) (x : Word) → k ≤ number_from k xs x
number_at_least k [] x = omega arith
number_at_least k (w ∷ ws) x = elim (cases_Bool (bytes_eq w x)) [
  | inl e ↦ rw e (omega arith)
  | inr e ↦ rw e (let r = number_at_least (suc k) ws x in omega arith)
]

pub same_number : (k : ℕ) (xs : List Word) (x y : Word) → is_among xs x ≡ true → is_among xs y ≡ true → number_from k xs x ≡ number_from k xs y → x ≡ y
same_number k [] x y h g e = absurd (true≢false (sym h))
same_number k (w ∷ ws) x y h g e = elim (cases_Bool (bytes_eq w x)) [
  | inl a ↦ elim (cases_Bool (bytes_eq w y)) [
    | inl b ↦ sym (same_word-true w x a) ∙ same_word-true w y b
    | inr b ↦ absurd (let l = number_at_least (suc k) ws y in let z : k ≡ number_from (suc k) ws y = rw b at (rw a at e) in omega arith)
  ]
  | inr a ↦ elim (cases_Bool (bytes_eq w y)) [
    | inl b ↦ absurd (let l = number_at_least (suc k) ws x in let z : number_from (suc k) ws x ≡ k = rw b at (rw a at e) in omega arith)
    | inr b ↦ same_number (suc k) ws x y (rw a at h) (rw b at g) (rw b at (rw a at e))
  ]
]

module _ (u : PlainUnit) (r : IsSuited u) where
  abbrev few : ℕ
  few = max 1 (registers_all u.body)

  abbrev number : Word → ℕ
  number = number_in (array_names u.params)

  abbrev decls : List (Word × PlainExprs)
  decls = arrays_with_extents u.params

  abbrev scope : (ts : List Word) → Scope
  scope ts = head_of u.params u.words few u.body ts

  own_params : OwnParams u.params
  own_params = params_own u.params r.free_params

  own_words : OwnWords u.words
  own_words = words_own u.words r.free_words

  module _ (ts : List Word) (are : AreTables (length decls) ts) where
    its_source : AreSource (function_name u.name) (scope ts) u.body []
    its_source = all_source u r few ts (length decls) are u.body [] tt r.body

    param_untabled : (x : Word) → is_param u.params x ≡ true → is_among ts x ≡ false
    param_untabled x h = elim (cases_Bool (own x)) [
      | inl o ↦ tables_lack_own (length decls) ts are x o
      | inr o ↦ absurd (true≢false (sym h ∙ not_param u.params x own_params o))
    ]

    arrays_here : AreArrays (scope ts) number 0 decls
    arrays_here = its_arrays u few (params_once u r) ts param_untabled r.ranked (extents_affine u r)

    inspecting_here : (a : ℕ) (x : Word) (extents : PlainExprs) → IsArrayAt (scope ts) number a x extents → a < length decls → inspects_all number a u.body ≡ true → length (list_of extents) ≤ widest number u.body 0 decls → Inspecting (scope ts) number a extents
    inspecting_here a x extents array l i w = record {
      written_word = written_name u.params u.words few u.body own_params own_words ts (length decls) are a l i;
      index_names = λ d h. index_name u.params u.words few u.body own_params own_words ts (length decls) are d (omega arith);
      extents_signed = array.extents_signed;
      rank = λ y h e. ap (dimensions (scope ts)) (same_number 0 (array_names u.params) y x (array_named u.params y h) (array_named u.params x array.array) (e ∙ sym array.numbered)) ∙ array.rank;
    }

    tables_here : (a : ℕ) → is_among ts (current a) ≡ true → is_among ts (counts a) ≡ true → HasTables (scope ts) a
    tables_here a h g = record {
      current_table = current_table u.params u.words few u.body own_params own_words ts (length decls) are a h;
      counts_table = counts_table u.params u.words few u.body own_params own_words ts (length decls) are a g;
    }

  differ_here : (a : ℕ) → (bytes_eq (function_name u.name) (current a) ≡ false) × (bytes_eq (function_name u.name) (counts a) ≡ false)
  unfolding function_name current counts
  differ_here a = (refl, refl)

  settled : Settles (function_name u.name) number few (scope []) u.body (length decls) decls
  settled = record {
    declares = λ ts are. has u r few ts (length decls) are;
    source = its_source;
    arrays = arrays_here;
    inspecting = inspecting_here;
    tables = tables_here;
    current_new = λ ts are a h. undeclared u.params u.words few u.body own_params own_words ts (length decls) are (current a) (current_free a) h;
    counts_new = λ ts are a h. undeclared u.params u.words few u.body own_params own_words ts (length decls) are (counts a) (counts_free a) h;
    differ = differ_here;
  }

  its_text : TopFine (function_name u.name) (scope []) [] (guarded_body u.params u.body)
  its_text =
      let arrays = r.few_arrays in
      let many : length (array_names u.params) ≡ length decls = length-map decls (λ d. d.0) in
      text_fine (function_name u.name) u.params u.body few (scope []) (initial_piece number u.body) (piece_at (site_pieces_all number (extents_of u.params) u.body 0 u.body))
      (omega arith) (omega arith) (omega arith) settled
      (λ ts are all.
      let tabled : (a : ℕ) → a < length decls → inspects_all number a u.body ≡ true → HasTables (scope ts) a = λ a l i. (let t = all a l i in tables_here ts are a t.0 t.1) in (
        all_cells_fine u r few ts (length decls) are (its_source ts are) (arrays_here ts are) (inspecting_here ts are) tabled,
        all_pieces u r few ts (length decls) are (its_source ts are) (arrays_here ts are) (inspecting_here ts are) tabled,
      ))
      (verdict_declared u.params)
      (λ ts are. totals_flat u.params u.words few u.body own_params own_words ts (length decls) are 0 u.params)

  pub suited_accepted : IsSourceTree u → IsAcceptedPrinted (guarded u)
  suited_accepted tree = record {
    tree = suited_tree u r tree;
    refused_nowhere = unrefused_by (guarded u) (guarded_body u.params u.body) refl (its_head u r (initial_piece number u.body) (piece_at (site_pieces_all number (extents_of u.params) u.body 0 u.body))) its_text;
  }
