-- The wide names that an instrumented unit declares: the count, and two totals of each array.
use Rattle.std.proofs.Common.{◌≡◌, ℕ, suc, ◌+◌, ◌<◌, ◌≤◌, ◌^◌, true, false, List, [], ◌∷◌, length, refl, sym, ap, ◌∙◌, arith, inl, inr, true≢false}
use Rattle.std.specs.Prelude.{bytes_eq}
use Rattle.std.specs.List.{list_all}
use Rattle.std.proofs.lemmas.Bool.{and_from, or_from, or_left, or_right, cases_Bool}
use Rattle.c_tree.specs.Plain.{Word, PlainParam, int_param, array_param}
use Rattle.c_tree.specs.Names.{is_among}
use Rattle.instrumentation.specs.Names.{count, definition_total, use_total, number_from}
use Rattle.instrumentation.specs.Guarded.{array_names, total_names}
use Rattle.acceptance.specs.Items.{is_array}
use Rattle.acceptance.specs.Printed.{total_names_from}
use Rattle.acceptance_laws.proofs.Names.{same_word, use_apart, definition_apart, use_definition, definition_use}
use Rattle.acceptance_laws.proofs.Expressions.{or_weaker}

pub totals_lack : (x : Word) → ((a : ℕ) → bytes_eq (definition_total a) x ≡ false) → ((a : ℕ) → bytes_eq (use_total a) x ≡ false) → (a : ℕ) (names : List Word) → is_among (total_names a names) x ≡ false
totals_lack x d u a [] = refl
totals_lack x d u a (y ∷ names) = or_from _ _ (d a) (or_from _ _ (u a) (totals_lack x d u (suc a) names))

pub total_used : (a : ℕ) (names : List Word) (x : Word) → is_among names x ≡ true → is_among (total_names a names) (use_total (number_from a names x)) ≡ true
total_used a [] x h = absurd (true≢false (sym h))
total_used a (y ∷ names) x h = elim (cases_Bool (bytes_eq y x)) [
  | inl e ↦ rw e (or_right (bytes_eq (definition_total a) (use_total a)) _ (or_left _ (is_among (total_names (suc a) names) (use_total a)) (same_word (use_total a))))
  | inr e ↦ rw e (let n = number_from (suc a) names x in
      or_right (bytes_eq (definition_total a) (use_total n)) _ (or_right (bytes_eq (use_total a) (use_total n)) _ (total_used (suc a) names x (rw e at h))))
]

pub total_defined : (a : ℕ) (names : List Word) (x : Word) → is_among names x ≡ true → is_among (total_names a names) (definition_total (number_from a names x)) ≡ true
total_defined a [] x h = absurd (true≢false (sym h))
total_defined a (y ∷ names) x h = elim (cases_Bool (bytes_eq y x)) [
  | inl e ↦ rw e (or_left _ _ (same_word (definition_total a)))
  | inr e ↦ rw e (let n = number_from (suc a) names x in
      or_right (bytes_eq (definition_total a) (definition_total n)) _ (or_right (bytes_eq (use_total a) (definition_total n)) _ (total_defined (suc a) names x (rw e at h))))
]

pub array_named : (ps : List PlainParam) (x : Word) → is_array ps x ≡ true → is_among (array_names ps) x ≡ true
array_named [] x h = h
array_named (int_param y ∷ ps) x h = array_named ps x h
array_named (array_param y constant extents ∷ ps) x h = or_weaker (bytes_eq y x) (is_array ps x) (is_among (array_names ps) x) h (array_named ps x)

pub same_totals : (a : ℕ) (ps : List PlainParam) → total_names_from a ps ≡ total_names a (array_names ps)
unfolding definition_total use_total
same_totals a [] = refl
same_totals a (int_param x ∷ ps) = same_totals a ps
same_totals a (array_param x constant extents ∷ ps) = ap (λ xs. definition_total a ∷ (use_total a ∷ xs)) (same_totals (suc a) ps)

pub all_among : (xs ys : List Word) → ((x : Word) → is_among xs x ≡ true → is_among ys x ≡ true) → list_all (is_among ys) xs ≡ true
all_among [] ys h = refl
all_among (x ∷ xs) ys h = and_from _ _ (h x (or_left _ (is_among xs x) (same_word x))) (all_among xs ys (λ y g. h y (or_right (bytes_eq x y) _ g)))

pub verdict_declared : (ps : List PlainParam) → list_all (is_among (count ∷ total_names 0 (array_names ps))) (total_names_from 0 ps) ≡ true
verdict_declared ps =
    ap (list_all (is_among (count ∷ total_names 0 (array_names ps)))) (same_totals 0 ps)
    ∙ all_among (total_names 0 (array_names ps)) (count ∷ total_names 0 (array_names ps)) (λ x g. or_right (bytes_eq count x) _ g)

-- ---- no total is a later one

pub definitions_later : (a b : ℕ) (names : List Word) → a < b → b + length names ≤ 2 ^ 64 → is_among (total_names b names) (definition_total a) ≡ false
definitions_later a b [] h g = refl
definitions_later a b (y ∷ names) h g = or_from _ _ (definition_apart b a (omega arith) (omega arith) (omega arith)) (or_from _ _ (use_definition b a) (definitions_later a (suc b) names (omega arith) (omega arith)))

pub uses_later : (a b : ℕ) (names : List Word) → a < b → b + length names ≤ 2 ^ 64 → is_among (total_names b names) (use_total a) ≡ false
uses_later a b [] h g = refl
uses_later a b (y ∷ names) h g = or_from _ _ (definition_use b a) (or_from _ _ (use_apart b a (omega arith) (omega arith) (omega arith)) (uses_later a (suc b) names (omega arith) (omega arith)))
