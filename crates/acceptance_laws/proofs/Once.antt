-- An instrumented unit declares each name once.
use Rattle.std.proofs.Common.{◌≡◌, ℕ, zero, suc, ◌+◌, ◌≤◌, ◌^◌, true, false, ◌||◌, List, [], ◌∷◌, ◌++◌, length, refl, ap, ◌∙◌, arith, inl, inr, max}
use Rattle.std.specs.Prelude.{bytes_eq}
use Rattle.std.proofs.lemmas.Bool.{or_from, or_parts, cases_Bool}
use Rattle.std.proofs.lemmas.List.{append_assoc, length-map}
use Rattle.c_tree.specs.Plain.{Word, PlainExprs, PlainStmts, PlainParam, PlainUnit}
use Rattle.instrumentation.specs.Names.{register, result, count, definition_total, use_total, active, counter, written, index_word, function_name, number_in}
use Rattle.instrumentation.specs.Inspects.{inspects_all}
use Rattle.instrumentation.specs.Pieces.{written_words, widest, index_words_from, table_words}
use Rattle.instrumentation.specs.Body.{registers_all}
use Rattle.instrumentation.specs.Guarded.{arrays_with_extents, array_names, register_words, own_words, total_names, guarded}
use Rattle.acceptance.specs.Items.{is_param, is_scalar}
use Rattle.acceptance.specs.Head.{head_names_twice, params_twice, words_twice, wides_twice}
use Rattle.acceptance_laws.proofs.Names.{own, register_not_own, written_not_own, index_not_own, written_index, index_register, written_register, result_not_own, active_not_own, counter_not_own, count_not_own, definition_not_own, use_not_own, use_definition, definition_count, use_count}
use Rattle.acceptance_laws.proofs.TextWords.{OwnWords, scalar_append, registers_later, last_words, last_lack_register, result_others, active_others, last_definition, last_use, last_count, lacks, own_lacks, index_words_later, written_words_lack, written_words_later, table_words_lack, table_words_own}
use Rattle.acceptance_laws.proofs.Totals.{totals_lack, definitions_later, uses_later}
use Rattle.acceptance_laws.proofs.Units.{OwnParams, not_param, IsFree, function_free}

module _ (ps : List PlainParam) (ws : List (Word × ℕ)) (n : ℕ) (body : PlainStmts) (own_ps : OwnParams ps) (own_ws : OwnWords ws) where
  abbrev number : Word → ℕ
  number = number_in (array_names ps)

  abbrev decls : List (Word × PlainExprs)
  decls = arrays_with_extents ps

  abbrev extra : List (Word × ℕ)
  extra = table_words number body decls

  -- ---- the words of tables

  written_once : (a : ℕ) (ds : List (Word × PlainExprs)) → a + length ds ≤ 2 ^ 64 → words_twice ps (written_words number body a ds) ≡ false
  written_once a [] h = refl
  written_once a (d ∷ ds) h =
      let r = written_once (suc a) ds (omega arith) in
      elim (cases_Bool (inspects_all number a body)) [
        | inl e ↦ rw e (or_from _ _ (not_param ps (written a) own_ps (written_not_own a)) (or_from _ _ (written_words_later number body a (suc a) ds (omega arith) (omega arith)) r))
        | inr e ↦ rw e r
      ]

  indices_once : (i m : ℕ) → i + m ≤ 2 ^ 64 → (rest : List (Word × ℕ)) → ((d : ℕ) → is_scalar rest (index_word d) ≡ false) → words_twice ps rest ≡ false → words_twice ps (index_words_from i m ++ rest) ≡ false
  indices_once i zero h rest none e = e
  indices_once i (suc m) h rest none e =
      or_from _ _ (not_param ps (index_word i) own_ps (index_not_own i))
      (or_from _ _ (scalar_append (index_words_from (suc i) m) rest (index_word i) ∙ or_from _ _ (index_words_later i (suc i) m (omega arith) (omega arith)) (none i))
      (indices_once (suc i) m (omega arith) rest none e))

  extra_once : length decls ≤ 2 ^ 64 → widest number body 0 decls ≤ 2 ^ 64 → words_twice ps extra ≡ false
  extra_once few small =
      indices_once 0 (widest number body 0 decls) (omega arith) (written_words number body 0 decls) (λ d. written_words_lack number body (index_word d) (λ a. written_index a d) 0 decls) (written_once 0 decls (omega arith))

  -- ---- the words of the text, before those of tables

  extra_lacks : (x : Word) → ((d : ℕ) → bytes_eq (index_word d) x ≡ false) → ((a : ℕ) → bytes_eq (written a) x ≡ false) → is_scalar extra x ≡ false
  extra_lacks x h g = table_words_lack number body decls x h g

  last_extra_register : (j : ℕ) → is_scalar (last_words ++ extra) (register j) ≡ false
  last_extra_register j = scalar_append last_words extra (register j) ∙ or_from _ _ (last_lack_register j) (extra_lacks (register j) (λ d. index_register d j) (λ a. written_register a j))

  registers_once : (i m : ℕ) → i + m ≤ 2 ^ 64 → words_twice ps (last_words ++ extra) ≡ false → words_twice ps (register_words i m ++ (last_words ++ extra)) ≡ false
  registers_once i zero h e = e
  registers_once i (suc m) h e =
      or_from _ _ (not_param ps (register i) own_ps (register_not_own i))
      (or_from _ _ (scalar_append (register_words (suc i) m) (last_words ++ extra) (register i) ∙ or_from _ _ (registers_later i (suc i) m (omega arith) (omega arith)) (last_extra_register i))
      (registers_once (suc i) m (omega arith) e))

  result_extra : is_scalar extra result ≡ false
  unfolding result index_word written
  result_extra = extra_lacks result (λ d. refl) (λ a. refl)

  active_extra : is_scalar extra active ≡ false
  unfolding active index_word written
  active_extra = extra_lacks active (λ d. refl) (λ a. refl)

  counter_extra : is_scalar extra counter ≡ false
  unfolding counter index_word written
  counter_extra = extra_lacks counter (λ d. refl) (λ a. refl)

  last_once : words_twice ps extra ≡ false → words_twice ps (last_words ++ extra) ≡ false
  last_once e =
      or_from _ _ (not_param ps result own_ps result_not_own)
      (or_from _ _ (scalar_append ((active, 0) ∷ (counter, 0) ∷ []) extra result ∙ or_from _ _ result_others result_extra)
      (or_from _ _ (not_param ps active own_ps active_not_own)
      (or_from _ _ (scalar_append ((counter, 0) ∷ []) extra active ∙ or_from _ _ active_others active_extra)
      (or_from _ _ (not_param ps counter own_ps counter_not_own) (or_from _ _ counter_extra e)))))

  own_words_lack : (x : Word) → own x ≡ true → is_scalar (own_words n ++ extra) x ≡ false
  own_words_lack x o = scalar_append (own_words n) extra x ∙ or_from _ _ (own_lacks n x o) (table_words_own number body decls x o)

  text_once : n ≤ 2 ^ 64 → length decls ≤ 2 ^ 64 → widest number body 0 decls ≤ 2 ^ 64 → words_twice ps (own_words n ++ extra) ≡ false
  text_once small few wide = ap (words_twice ps) (append_assoc (register_words 0 n) last_words extra) ∙ registers_once 0 n (omega arith) (last_once (extra_once few wide))

  source_once : words_twice ps (own_words n ++ extra) ≡ false → (vs : List (Word × ℕ)) → OwnWords vs → words_twice ps vs ≡ false → words_twice ps (vs ++ (own_words n ++ extra)) ≡ false
  source_once e [] o h = e
  source_once e (w ∷ vs) o h =
      let p = or_parts (is_param ps w.0) (is_scalar vs w.0 || words_twice ps vs) h in
      let q = or_parts (is_scalar vs w.0) (words_twice ps vs) p.1 in
      or_from _ _ p.0 (or_from _ _ (scalar_append vs (own_words n ++ extra) w.0 ∙ or_from _ _ q.0 (own_words_lack w.0 o.0)) (source_once e vs o.1 q.1))

  words_once : n ≤ 2 ^ 64 → length decls ≤ 2 ^ 64 → widest number body 0 decls ≤ 2 ^ 64 → words_twice ps ws ≡ false → words_twice ps (ws ++ own_words n ++ extra) ≡ false
  words_once small few wide h = ap (words_twice ps) (append_assoc ws (own_words n) extra) ∙ source_once (text_once small few wide) ws own_ws h

  -- ---- the wide names

  lacks_all : (x : Word) → own x ≡ false → ((j : ℕ) → bytes_eq (register j) x ≡ false) → is_scalar last_words x ≡ false → ((d : ℕ) → bytes_eq (index_word d) x ≡ false) → ((a : ℕ) → bytes_eq (written a) x ≡ false) → is_scalar (ws ++ own_words n ++ extra) x ≡ false
  lacks_all x o r l h g = lacks ws own_ws n extra x o r l (extra_lacks x h g)

  definition_lacks : (a : ℕ) → is_scalar (ws ++ own_words n ++ extra) (definition_total a) ≡ false
  unfolding definition_total index_word written register
  definition_lacks a = lacks_all (definition_total a) (definition_not_own a) (λ j. refl) (last_definition a) (λ d. refl) (λ b. refl)

  use_lacks : (a : ℕ) → is_scalar (ws ++ own_words n ++ extra) (use_total a) ≡ false
  unfolding use_total index_word written register
  use_lacks a = lacks_all (use_total a) (use_not_own a) (λ j. refl) (last_use a) (λ d. refl) (λ b. refl)

  count_lacks : is_scalar (ws ++ own_words n ++ extra) count ≡ false
  unfolding count index_word written register
  count_lacks = lacks_all count count_not_own (λ j. refl) last_count (λ d. refl) (λ b. refl)

  totals_once : (a : ℕ) (names : List Word) → a + length names ≤ 2 ^ 64 → wides_twice ps (ws ++ own_words n ++ extra) (total_names a names) ≡ false
  totals_once a [] h = refl
  totals_once a (y ∷ names) h =
      or_from _ _ (not_param ps (definition_total a) own_ps (definition_not_own a))
      (or_from _ _ (definition_lacks a)
      (or_from _ _ (or_from _ _ (use_definition a a) (definitions_later a (suc a) names (omega arith) (omega arith)))
      (or_from _ _ (not_param ps (use_total a) own_ps (use_not_own a))
      (or_from _ _ (use_lacks a)
      (or_from _ _ (uses_later a (suc a) names (omega arith) (omega arith))
      (totals_once (suc a) names (omega arith)))))))

  wides_once : length (array_names ps) ≤ 2 ^ 64 → wides_twice ps (ws ++ own_words n ++ extra) (count ∷ total_names 0 (array_names ps)) ≡ false
  wides_once small =
      or_from _ _ (not_param ps count own_ps count_not_own)
      (or_from _ _ count_lacks
      (or_from _ _ (totals_lack count definition_count use_count 0 (array_names ps))
      (totals_once 0 (array_names ps) (omega arith))))

same_many : (ps : List PlainParam) → length (array_names ps) ≡ length (arrays_with_extents ps)
same_many ps = length-map (arrays_with_extents ps) (λ a. a.0)

-- A source whose names are its own declares each once with its text's, where it declares each once.
pub names_once : (u : PlainUnit) → OwnParams u.params → OwnWords u.words → params_twice u.params ≡ false → words_twice u.params u.words ≡ false →
    max 1 (registers_all u.body) ≤ 2 ^ 64 → length (array_names u.params) ≤ 2 ^ 64 → widest (number_in (array_names u.params)) u.body 0 (arrays_with_extents u.params) ≤ 2 ^ 64 → head_names_twice (guarded u) ≡ false
names_once u own_ps own_ws params words few arrays wide =
    let f : Word = function_name u.name in
    let n : ℕ = max 1 (registers_all u.body) in
    let free : IsFree f = function_free u.name in
    let many : length (array_names u.params) ≡ length (arrays_with_extents u.params) = same_many u.params in
    or_from _ _ (not_param u.params f own_ps free.not_own)
    (or_from _ _ (lacks_all u.params u.words n u.body own_ps own_ws f free.not_own free.no_register free.not_last free.no_index free.no_written)
    (or_from _ _ (or_from _ _ free.not_count (totals_lack f free.no_definition free.no_use 0 (array_names u.params)))
    (or_from _ _ params
    (or_from _ _ (words_once u.params u.words n u.body own_ps own_ws few (omega arith) wide words)
    (wides_once u.params u.words n u.body own_ps own_ws arrays)))))
