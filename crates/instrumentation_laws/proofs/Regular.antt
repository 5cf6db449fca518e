-- The instrumented unit of a regular source stands in a setting by itself, and the unit with counting passes is one.
use Rattle.std.proofs.Common.{◌≡◌, ℕ, zero, suc, Bool, true, false, cond, List, [], ◌∷◌, ◌++◌, refl, ap, ◌∙◌, append_assoc}
use Rattle.std.specs.Prelude.{bytes_eq, max}
use Rattle.c_tree.specs.Plain.{Word, PlainExprs, PlainStmts}
use Rattle.c_tree.specs.Instances.{literal_of}
use Rattle.instrumentation.specs.Names.{result, active, counter, written, index_word}
use Rattle.instrumentation.specs.Inspects.{inspects_all}
use Rattle.instrumentation.specs.Pieces.{index_words_from, written_words, widest, table_words}
use Rattle.instrumentation.specs.Body.{registers_all}
use Rattle.instrumentation.specs.Guarded.{arrays_with_extents, register_words, own_words}
use Rattle.instrumentation_laws.specs.OwnNames.{own}
use Rattle.instrumentation_laws.specs.RegularUnits.{number_for, GuardedIsInstrumented}
use Rattle.instrumentation_laws.proofs.Names.{apart_as', register_not_own, result_not_own}

-- ---- the words of the text's own

active_not_own : own active ≡ false
unfolding active
active_not_own = refl

counter_not_own : own counter ≡ false
unfolding counter
counter_not_own = refl

abbrev NoneOwn : List (Word × ℕ) → Type 0
NoneOwn [] = Unit {0}
NoneOwn (w ∷ ws) = (own w.0 ≡ false) × NoneOwn ws

registers_none : (j n : ℕ) (ws : List (Word × ℕ)) → NoneOwn ws → NoneOwn (register_words j n ++ ws)
registers_none j zero ws h = h
registers_none j (suc n) ws h = (register_not_own j, registers_none (suc j) n ws h)

none_join : (ws more : List (Word × ℕ)) → NoneOwn ws → NoneOwn more → NoneOwn (ws ++ more)
none_join [] more h g = g
none_join (w ∷ ws) more h g = (h.0, none_join ws more h.1 g)

own_words_none : (n : ℕ) → NoneOwn (own_words n)
own_words_none n = registers_none 0 n ((result, 0) ∷ (active, 0) ∷ (counter, 0) ∷ []) (result_not_own, (active_not_own, (counter_not_own, tt)))

written_not_own : (a : ℕ) → own (written a) ≡ false
unfolding written
written_not_own a = refl

index_not_own : (d : ℕ) → own (index_word d) ≡ false
unfolding index_word
index_not_own d = refl

index_words_none : (d n : ℕ) → NoneOwn (index_words_from d n)
index_words_none d zero = tt
index_words_none d (suc n) = (index_not_own d, index_words_none (suc d) n)

written_words_none : (number : Word → ℕ) (whole : PlainStmts) (a : ℕ) (decls : List (Word × PlainExprs)) → NoneOwn (written_words number whole a decls)
written_words_none number whole a [] = tt
written_words_none number whole a (x ∷ more) = chosen (inspects_all number a whole) (written_words_none number whole (suc a) more)
  where
    chosen : (b : Bool) → NoneOwn (written_words number whole (suc a) more) → NoneOwn (cond b ((written a, 0) ∷ []) [] ++ written_words number whole (suc a) more)
    chosen true h = (written_not_own a, h)
    chosen false h = h

table_words_none : (number : Word → ℕ) (whole : PlainStmts) (decls : List (Word × PlainExprs)) → NoneOwn (table_words number whole decls)
table_words_none number whole decls = none_join (index_words_from 0 (widest number whole 0 decls)) (written_words number whole 0 decls) (index_words_none 0 (widest number whole 0 decls)) (written_words_none number whole 0 decls)

behind : (ws : List (Word × ℕ)) (x : Word) → own x ≡ true → NoneOwn ws → literal_of ws x ≡ 0
behind [] x o h = refl
behind (w ∷ ws) x o h = ap (λ b. cond b w.1 (literal_of ws x)) (apart_as' own w.0 x h.0 o) ∙ behind ws x o h.1

words_same : (ws more : List (Word × ℕ)) (x : Word) → own x ≡ true → NoneOwn more → literal_of (ws ++ more) x ≡ literal_of ws x
words_same [] more x o h = behind more x o h
words_same (w ∷ ws) more x o h = ap (λ n. cond (bytes_eq w.0 x) w.1 n) (words_same ws more x o h)

pub guarded_instrumented : GuardedIsInstrumented
guarded_instrumented u version wides = record {
  source = version;
  no_wides = wides;
  printed = refl;
  params = refl;
  words = λ x o. ap (λ ws. literal_of ws x) (append_assoc u.words (own_words (max 1 (registers_all u.body))) (table_words (number_for u) u.body (arrays_with_extents u.params))) ∙
      words_same u.words (own_words (max 1 (registers_all u.body)) ++ table_words (number_for u) u.body (arrays_with_extents u.params)) x o
      (none_join (own_words (max 1 (registers_all u.body))) (table_words (number_for u) u.body (arrays_with_extents u.params)) (own_words_none (max 1 (registers_all u.body))) (table_words_none (number_for u) u.body (arrays_with_extents u.params)));
  body = refl;
}
