-- The words that an instrumented unit declares: those of its source, and behind them those of its text.
use Rattle.std.proofs.Common.{◌≡◌, ℕ, zero, suc, ◌+◌, ◌<◌, ◌≤◌, ◌^◌, Bool, true, false, ◌||◌, List, [], ◌∷◌, ◌++◌, length, refl, sym, ap, ◌∙◌, arith, inl, inr}
use Rattle.std.specs.Prelude.{bytes_eq}
use Rattle.std.proofs.lemmas.Bool.{or_from, or_left, or_right, cases_Bool, cases_eq}
use Rattle.c_tree.specs.Plain.{Word, PlainExprs, PlainStmts}
use Rattle.instrumentation.specs.Names.{register, result, count, definition_total, use_total, active, counter, written, index_word}
use Rattle.instrumentation.specs.Inspects.{inspects_all}
use Rattle.instrumentation.specs.Pieces.{written_words, widest, index_words_from, table_words}
use Rattle.instrumentation.specs.Guarded.{register_words, own_words}
use Rattle.acceptance.specs.Items.{is_scalar}
use Rattle.acceptance_laws.proofs.Names.{own, same_word, apart_as, apart_as', register_apart, index_apart, written_apart, index_not_own, written_not_own, register_not_own, result_not_own, active_not_own, counter_not_own}

abbrev pub OwnWords : List (Word × ℕ) → Type 0
OwnWords [] = Unit {0}
OwnWords (w ∷ ws) = (own w.0 ≡ true) × OwnWords ws

pub not_scalar : (ws : List (Word × ℕ)) (x : Word) → OwnWords ws → own x ≡ false → is_scalar ws x ≡ false
not_scalar [] x h o = refl
not_scalar (w ∷ ws) x h o = or_from _ _ (apart_as own w.0 x h.0 o) (not_scalar ws x h.1 o)

-- ---- the words of a text

pub scalar_append : (ws vs : List (Word × ℕ)) (x : Word) → is_scalar (ws ++ vs) x ≡ (is_scalar ws x || is_scalar vs x)
scalar_append [] vs x = refl
scalar_append (w ∷ ws) vs x = regroup (bytes_eq w.0 x) (is_scalar (ws ++ vs) x) (is_scalar ws x) (is_scalar vs x) (scalar_append ws vs x)
  where
    regroup : (a b c d : Bool) → b ≡ (c || d) → (a || b) ≡ ((a || c) || d)
    regroup true b c d e = refl
    regroup false b c d e = e

pub registers_have : (i n j : ℕ) → i ≤ j → j < i + n → is_scalar (register_words i n) (register j) ≡ true
registers_have i zero j h g = absurd (omega arith)
registers_have i (suc n) j h g = elim (cases_eq i j) [
  | inl e ↦ or_left _ (is_scalar (register_words (suc i) n) (register j)) (ap (λ k. bytes_eq (register i) (register k)) (sym e) ∙ same_word (register i))
  | inr e ↦ or_right (bytes_eq (register i) (register j)) _ (registers_have (suc i) n j (omega arith) (omega arith))
]

pub registers_lack : (x : Word) → ((j : ℕ) → bytes_eq (register j) x ≡ false) → (i n : ℕ) → is_scalar (register_words i n) x ≡ false
registers_lack x h i zero = refl
registers_lack x h i (suc n) = or_from _ _ (h i) (registers_lack x h (suc i) n)

pub registers_later : (i j n : ℕ) → i < j → j + n ≤ 2 ^ 64 → is_scalar (register_words j n) (register i) ≡ false
registers_later i j zero h g = refl
registers_later i j (suc n) h g = or_from _ _ (register_apart j i (omega arith) (omega arith) (omega arith)) (registers_later i (suc j) n (omega arith) (omega arith))

abbrev pub last_words : List (Word × ℕ)
last_words = (result, 0) ∷ (active, 0) ∷ (counter, 0) ∷ []

pub last_lack_register : (j : ℕ) → is_scalar last_words (register j) ≡ false
unfolding result active counter register
last_lack_register j = refl

pub has_result : is_scalar last_words result ≡ true
unfolding result
has_result = refl

pub has_active : is_scalar last_words active ≡ true
unfolding result active
has_active = refl

pub has_counter : is_scalar last_words counter ≡ true
unfolding result active counter
has_counter = refl

pub result_others : is_scalar ((active, 0) ∷ (counter, 0) ∷ []) result ≡ false
unfolding result active counter
result_others = refl

pub active_others : is_scalar ((counter, 0) ∷ []) active ≡ false
unfolding active counter
active_others = refl

pub last_definition : (a : ℕ) → is_scalar last_words (definition_total a) ≡ false
unfolding result active counter definition_total
last_definition a = refl

pub last_use : (a : ℕ) → is_scalar last_words (use_total a) ≡ false
unfolding result active counter use_total
last_use a = refl

pub last_count : is_scalar last_words count ≡ false
unfolding result active counter count
last_count = refl

-- a name of the source is none of the text's
pub own_lacks : (n : ℕ) (x : Word) → own x ≡ true → is_scalar (own_words n) x ≡ false
own_lacks n x o =
    scalar_append (register_words 0 n) last_words x
    ∙ or_from _ _ (registers_lack x (λ j. apart_as' own (register j) x (register_not_own j) o) 0 n)
    (or_from _ _ (apart_as' own result x result_not_own o) (or_from _ _ (apart_as' own active x active_not_own o) (or_from _ _ (apart_as' own counter x counter_not_own o) refl)))

-- ---- the words that tables need

pub index_words_lack : (x : Word) → ((d : ℕ) → bytes_eq (index_word d) x ≡ false) → (i n : ℕ) → is_scalar (index_words_from i n) x ≡ false
index_words_lack x h i zero = refl
index_words_lack x h i (suc n) = or_from _ _ (h i) (index_words_lack x h (suc i) n)

index_words_have : (i n d : ℕ) → i ≤ d → d < i + n → is_scalar (index_words_from i n) (index_word d) ≡ true
index_words_have i zero d h g = absurd (omega arith)
index_words_have i (suc n) d h g = elim (cases_eq i d) [
  | inl e ↦ or_left _ (is_scalar (index_words_from (suc i) n) (index_word d)) (ap (λ k. bytes_eq (index_word i) (index_word k)) (sym e) ∙ same_word (index_word i))
  | inr e ↦ or_right (bytes_eq (index_word i) (index_word d)) _ (index_words_have (suc i) n d (omega arith) (omega arith))
]

pub index_words_later : (i d n : ℕ) → i < d → d + n ≤ 2 ^ 64 → is_scalar (index_words_from d n) (index_word i) ≡ false
index_words_later i d zero h g = refl
index_words_later i d (suc n) h g = or_from _ _ (index_apart d i (omega arith) (omega arith) (omega arith)) (index_words_later i (suc d) n (omega arith) (omega arith))

module _ (number : Word → ℕ) (whole : PlainStmts) where
  pub written_words_lack : (x : Word) → ((a : ℕ) → bytes_eq (written a) x ≡ false) → (a : ℕ) (decls : List (Word × PlainExprs)) → is_scalar (written_words number whole a decls) x ≡ false
  written_words_lack x h a [] = refl
  written_words_lack x h a (d ∷ decls) = elim (cases_Bool (inspects_all number a whole)) [
    | inl e ↦ rw e (or_from _ _ (h a) (written_words_lack x h (suc a) decls))
    | inr e ↦ rw e (written_words_lack x h (suc a) decls)
  ]

  written_words_have : (a : ℕ) (decls : List (Word × PlainExprs)) (k : ℕ) → a ≤ k → k < a + length decls → inspects_all number k whole ≡ true → is_scalar (written_words number whole a decls) (written k) ≡ true
  written_words_have a [] k h g i = absurd (omega arith)
  written_words_have a (d ∷ decls) k h g i = elim (cases_eq a k) [
    | inl e ↦ rw e (rw i (or_left _ (is_scalar (written_words number whole (suc k) decls) (written k)) (same_word (written k))))
    | inr e ↦
        let r = written_words_have (suc a) decls k (omega arith) (omega arith) i in
        elim (cases_Bool (inspects_all number a whole)) [
          | inl f ↦ rw f (or_right (bytes_eq (written a) (written k)) _ r)
          | inr f ↦ rw f r
        ]
  ]

  pub written_words_later : (i a : ℕ) (decls : List (Word × PlainExprs)) → i < a → a + length decls ≤ 2 ^ 64 → is_scalar (written_words number whole a decls) (written i) ≡ false
  written_words_later i a [] h g = refl
  written_words_later i a (d ∷ decls) h g =
      let r = written_words_later i (suc a) decls (omega arith) (omega arith) in
      elim (cases_Bool (inspects_all number a whole)) [
        | inl f ↦ rw f (or_from _ _ (written_apart a i (omega arith) (omega arith) (omega arith)) r)
        | inr f ↦ rw f r
      ]

  module _ (decls : List (Word × PlainExprs)) where
    abbrev pub table_words_here : List (Word × ℕ)
    table_words_here = table_words number whole decls

    abbrev wide : ℕ
    wide = widest number whole 0 decls

    pub table_words_lack : (x : Word) → ((d : ℕ) → bytes_eq (index_word d) x ≡ false) → ((a : ℕ) → bytes_eq (written a) x ≡ false) → is_scalar table_words_here x ≡ false
    table_words_lack x h g =
        scalar_append (index_words_from 0 wide) (written_words number whole 0 decls) x ∙ or_from _ _ (index_words_lack x h 0 wide) (written_words_lack x g 0 decls)

    pub table_words_index : (d : ℕ) → d < wide → is_scalar table_words_here (index_word d) ≡ true
    table_words_index d h =
        scalar_append (index_words_from 0 wide) (written_words number whole 0 decls) (index_word d) ∙ or_left _ (is_scalar (written_words number whole 0 decls) (index_word d)) (index_words_have 0 wide d (omega arith) (omega arith))

    pub table_words_written : (k : ℕ) → k < length decls → inspects_all number k whole ≡ true → is_scalar table_words_here (written k) ≡ true
    table_words_written k h i =
        scalar_append (index_words_from 0 wide) (written_words number whole 0 decls) (written k) ∙ or_right (is_scalar (index_words_from 0 wide) (written k)) _ (written_words_have 0 decls k (omega arith) (omega arith) i)

    -- a name of the source is none of them
    pub table_words_own : (x : Word) → own x ≡ true → is_scalar table_words_here x ≡ false
    table_words_own x o = table_words_lack x (λ d. apart_as' own (index_word d) x (index_not_own d) o) (λ a. apart_as' own (written a) x (written_not_own a) o)

-- ---- the words of a source and of its text

pub has_front : (ws : List (Word × ℕ)) (n : ℕ) (extra : List (Word × ℕ)) (x : Word) → is_scalar ws x ≡ true → is_scalar (ws ++ own_words n ++ extra) x ≡ true
has_front ws n extra x h = scalar_append (ws ++ own_words n) extra x ∙ or_left _ (is_scalar extra x) (scalar_append ws (own_words n) x ∙ or_left _ (is_scalar (own_words n) x) h)

module _ (ws : List (Word × ℕ)) (own_ws : OwnWords ws) (n : ℕ) (extra : List (Word × ℕ)) where
  abbrev pub all_words : List (Word × ℕ)
  all_words = ws ++ own_words n ++ extra

  pub has_extra : (x : Word) → is_scalar extra x ≡ true → is_scalar all_words x ≡ true
  has_extra x h = scalar_append (ws ++ own_words n) extra x ∙ or_right (is_scalar (ws ++ own_words n) x) _ h

  has_own : (x : Word) → is_scalar (own_words n) x ≡ true → is_scalar all_words x ≡ true
  has_own x h = scalar_append (ws ++ own_words n) extra x ∙ or_left _ (is_scalar extra x) (scalar_append ws (own_words n) x ∙ or_right (is_scalar ws x) _ h)

  pub has_register : (j : ℕ) → j < n → is_scalar all_words (register j) ≡ true
  has_register j h =
      has_own (register j) (scalar_append (register_words 0 n) last_words (register j) ∙ or_left _ (is_scalar last_words (register j)) (registers_have 0 n j (omega arith) (omega arith)))

  pub has_last : (x : Word) → is_scalar last_words x ≡ true → is_scalar all_words x ≡ true
  has_last x h = has_own x (scalar_append (register_words 0 n) last_words x ∙ or_right (is_scalar (register_words 0 n) x) _ h)

  pub lacks : (x : Word) → own x ≡ false → ((j : ℕ) → bytes_eq (register j) x ≡ false) → is_scalar last_words x ≡ false → is_scalar extra x ≡ false → is_scalar all_words x ≡ false
  lacks x o r h g =
      scalar_append (ws ++ own_words n) extra x ∙ or_from _ _ (
      scalar_append ws (own_words n) x ∙ or_from _ _ (not_scalar ws x own_ws o) (scalar_append (register_words 0 n) last_words x ∙ or_from _ _ (registers_lack x r 0 n) h)) g
