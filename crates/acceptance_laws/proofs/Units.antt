-- The head of an instrumented unit declares what its text uses, and nothing of the names that loops have.
use Rattle.std.proofs.Common.{◌≡◌, ℕ, suc, ◌<◌, length, true, false, List, [], ◌∷◌, ◌++◌, refl, sym, ◌∙◌, true≢false}
use Rattle.std.specs.Prelude.{bytes_eq, nat_eq}
use Rattle.std.specs.List.{list_all}
use Rattle.std.proofs.lemmas.Bool.{and_from, or_from, or_left, or_right, false_from_ne_true}
use Rattle.c_tree.specs.Plain.{Word, PlainStmts, PlainParam, int_param, array_param}
use Rattle.c_tree.specs.Names.{is_among}
use Rattle.instrumentation.specs.Names.{register, result, count, definition_total, use_total, coordinate, pass_variable, active, counter, written, index_word, current, counts, function_name, number_in}
use Rattle.instrumentation.specs.Inspects.{inspects_all}
use Rattle.instrumentation.specs.Pieces.{widest, table_words}
use Rattle.instrumentation.specs.Guarded.{arrays_with_extents, array_names, own_words, total_names}
use Rattle.acceptance.specs.Items.{Scope, is_int, is_array, param_name, is_param, is_scalar, is_declared}
use Rattle.acceptance.specs.Printed.{dimensions, total_names_from}
use Rattle.acceptance_laws.proofs.Names.{own, same_word, apart_as, apart_as', register_not_own, result_not_own, active_not_own, counter_not_own, count_not_own, definition_not_own, use_not_own, written_not_own, index_not_own, current_not_own, counts_not_own, like_table}
use Rattle.acceptance_laws.proofs.Expressions.{IsWideAt, IsTableAt, int_param_of, array_param_of, flat_fits}
use Rattle.acceptance_laws.proofs.Declared.{IsWordName, Declares, flat_name}
use Rattle.acceptance_laws.proofs.TextWords.{OwnWords, scalar_append, last_words, has_result, has_active, has_counter, has_register, has_last, has_extra, lacks, own_lacks, table_words_lack, table_words_index, table_words_written, table_words_own}
use Rattle.acceptance_laws.proofs.TableNames.{AreTables, tables_lack, tables_lack_own}
use Rattle.acceptance_laws.proofs.Totals.{totals_lack, total_used, total_defined, array_named}

abbrev pub OwnParams : List PlainParam → Type 0
OwnParams [] = Unit {0}
OwnParams (p ∷ ps) = (own (param_name p) ≡ true) × OwnParams ps

pub not_param : (ps : List PlainParam) (x : Word) → OwnParams ps → own x ≡ false → is_param ps x ≡ false
not_param [] x h o = refl
not_param (p ∷ ps) x h o = or_from _ _ (apart_as own (param_name p) x h.0 o) (not_param ps x h.1 o)

-- ---- names that a text doesn't declare, though they aren't the source's

pub record IsFree (x : Word) : Type 0 where
  pub not_own : own x ≡ false
  pub no_register : (j : ℕ) → bytes_eq (register j) x ≡ false
  pub not_last : is_scalar last_words x ≡ false
  pub not_count : bytes_eq count x ≡ false
  pub no_definition : (a : ℕ) → bytes_eq (definition_total a) x ≡ false
  pub no_use : (a : ℕ) → bytes_eq (use_total a) x ≡ false
  pub no_index : (d : ℕ) → bytes_eq (index_word d) x ≡ false
  pub no_written : (a : ℕ) → bytes_eq (written a) x ≡ false

pub coordinate_free : (d : ℕ) → IsFree (coordinate d)
unfolding coordinate register result active counter count definition_total use_total index_word written
coordinate_free d = record { not_own = refl; no_register = λ j. refl; not_last = refl; not_count = refl; no_definition = λ a. refl; no_use = λ a. refl; no_index = λ d. refl; no_written = λ a. refl }

pub variable_free : (d : ℕ) → IsFree (pass_variable d)
unfolding pass_variable register result active counter count definition_total use_total index_word written
variable_free d = record { not_own = refl; no_register = λ j. refl; not_last = refl; not_count = refl; no_definition = λ a. refl; no_use = λ a. refl; no_index = λ d. refl; no_written = λ a. refl }

pub function_free : (g : Word) → IsFree (function_name g)
unfolding function_name register result active counter count definition_total use_total index_word written
function_free g = record { not_own = refl; no_register = λ j. refl; not_last = refl; not_count = refl; no_definition = λ a. refl; no_use = λ a. refl; no_index = λ d. refl; no_written = λ a. refl }

pub current_free : (a : ℕ) → IsFree (current a)
unfolding current register result active counter count definition_total use_total index_word written
current_free d = record { not_own = refl; no_register = λ j. refl; not_last = refl; not_count = refl; no_definition = λ a. refl; no_use = λ a. refl; no_index = λ d. refl; no_written = λ a. refl }

pub counts_free : (a : ℕ) → IsFree (counts a)
unfolding counts register result active counter count definition_total use_total index_word written
counts_free d = record { not_own = refl; no_register = λ j. refl; not_last = refl; not_count = refl; no_definition = λ a. refl; no_use = λ a. refl; no_index = λ d. refl; no_written = λ a. refl }

pub function_differs : (g x : Word) → own x ≡ true → bytes_eq (function_name g) x ≡ false
function_differs g x o = apart_as' own (function_name g) x (function_free g).not_own o

pub variable_differs : (x : Word) (d : ℕ) → own x ≡ true → bytes_eq x (pass_variable d) ≡ false
variable_differs x d o = apart_as own x (pass_variable d) o (variable_free d).not_own

-- ---- the scope of an instrumented unit

abbrev pub words_of_text : List PlainParam → List (Word × ℕ) → ℕ → PlainStmts → List (Word × ℕ)
words_of_text ps ws n body = ws ++ own_words n ++ table_words (number_in (array_names ps)) body (arrays_with_extents ps)

-- where these tables are made
abbrev pub head_of : List PlainParam → List (Word × ℕ) → ℕ → PlainStmts → List Word → Scope
head_of ps ws n body ts = record { params = ps; words = words_of_text ps ws n body; wides = count ∷ total_names 0 (array_names ps); loops = []; tables = ts }

module _ (ps : List PlainParam) (ws : List (Word × ℕ)) (n : ℕ) (body : PlainStmts) (own_ps : OwnParams ps) (own_ws : OwnWords ws) (ts : List Word) (many : ℕ) (are : AreTables many ts) where
  abbrev head : Scope
  head = head_of ps ws n body ts

  abbrev extra : List (Word × ℕ)
  extra = table_words (number_in (array_names ps)) body (arrays_with_extents ps)

  no_array_named : (x : Word) → own x ≡ false → is_array ps x ≡ false
  no_array_named x o = false_from_ne_true (is_array ps x) (λ e. true≢false (sym (array_param_of ps x e) ∙ not_param ps x own_ps o))

  word_name : (x : Word) → own x ≡ false → like_table x ≡ false → is_scalar head.words x ≡ true → IsWordName head x
  word_name x o t h =
      let p : is_param ps x ≡ false = not_param ps x own_ps o in
      record {
        declared = h;
        unsigned = false_from_ne_true (is_int ps x) (λ e. true≢false (sym (int_param_of ps x e) ∙ p));
        flat = flat_name head x p (tables_lack many ts are x t);
      }

  wide_name : (x : Word) → own x ≡ false → like_table x ≡ false → is_among head.wides x ≡ true → IsWideAt head x
  wide_name x o t h = record { declared = h; flat = flat_name head x (not_param ps x own_ps o) (tables_lack many ts are x t) }

  pub undeclared : (x : Word) → IsFree x → is_among ts x ≡ false → is_declared head x ≡ false
  undeclared x h t =
      or_from _ _ (not_param ps x own_ps h.not_own)
      (or_from _ _ (lacks ws own_ws n extra x h.not_own h.no_register h.not_last (table_words_lack (number_in (array_names ps)) body (arrays_with_extents ps) x h.no_index h.no_written))
      (or_from _ _ (or_from _ _ h.not_count (totals_lack x h.no_definition h.no_use 0 (array_names ps))) t))

  pub declares : (g : Word) → Declares (function_name g) (number_in (array_names ps)) n head
  unfolding function_name coordinate pass_variable register result active counter count definition_total use_total
  declares g = record {
    registers = λ j h. word_name (register j) (register_not_own j) refl (has_register ws own_ws n extra j h);
    stored_word = word_name result result_not_own refl (has_last ws own_ws n extra result has_result);
    active_word = word_name active active_not_own refl (has_last ws own_ws n extra active has_active);
    counter_word = word_name counter counter_not_own refl (has_last ws own_ws n extra counter has_counter);
    count_wide = wide_name count count_not_own refl (or_left _ (is_among (total_names 0 (array_names ps)) count) (same_word count));
    used = λ x h. (let a = number_in (array_names ps) x in wide_name (use_total a) (use_not_own a) refl (or_right (bytes_eq count (use_total a)) _ (total_used 0 (array_names ps) x (array_named ps x h))));
    defined = λ x h. (let a = number_in (array_names ps) x in wide_name (definition_total a) (definition_not_own a) refl (or_right (bytes_eq count (definition_total a)) _ (total_defined 0 (array_names ps) x (array_named ps x h))));
    coordinates_free = λ d. undeclared (coordinate d) (coordinate_free d) (tables_lack many ts are (coordinate d) refl);
    variables_free = λ d. undeclared (pass_variable d) (variable_free d) (tables_lack many ts are (pass_variable d) refl);
    coordinates_differ = λ d. refl;
    variables_differ = λ d. refl;
  }

  -- a name of the source that the source doesn't declare
  pub own_undeclared : (x : Word) → own x ≡ true → is_param ps x ≡ false → is_scalar ws x ≡ false → is_declared head x ≡ false
  own_undeclared x o p w =
      or_from _ _ p
      (or_from _ _ (scalar_append (ws ++ own_words n) extra x ∙ or_from _ _ (scalar_append ws (own_words n) x ∙ or_from _ _ w (own_lacks n x o)) (table_words_own (number_in (array_names ps)) body (arrays_with_extents ps) x o))
      (or_from _ _ (or_from _ _ (apart_as' own count x count_not_own o)
      (totals_lack x (λ a. apart_as' own (definition_total a) x (definition_not_own a) o) (λ a. apart_as' own (use_total a) x (use_not_own a) o) 0 (array_names ps))) (tables_lack_own many ts are x o)))

  -- no total is the name of an array
  pub totals_flat : (a : ℕ) (qs : List PlainParam) → list_all (λ x. nat_eq (dimensions head x) 0) (total_names_from a qs) ≡ true
  unfolding definition_total use_total
  totals_flat a [] = refl
  totals_flat a (int_param x ∷ qs) = totals_flat a qs
  totals_flat a (array_param x constant extents ∷ qs) =
      and_from _ _ (flat_fits (dimensions head (definition_total a)) (flat_name head (definition_total a) (not_param ps (definition_total a) own_ps (definition_not_own a)) (tables_lack many ts are (definition_total a) refl)))
      (and_from _ _ (flat_fits (dimensions head (use_total a)) (flat_name head (use_total a) (not_param ps (use_total a) own_ps (use_not_own a)) (tables_lack many ts are (use_total a) refl)))
      (totals_flat (suc a) qs))

  -- ---- what tables need

  pub index_name : (d : ℕ) → d < widest (number_in (array_names ps)) body 0 (arrays_with_extents ps) → IsWordName head (index_word d)
  unfolding index_word
  index_name d h = word_name (index_word d) (index_not_own d) refl (has_extra ws own_ws n extra (index_word d) (table_words_index (number_in (array_names ps)) body (arrays_with_extents ps) d h))

  pub written_name : (a : ℕ) → a < length (arrays_with_extents ps) → inspects_all (number_in (array_names ps)) a body ≡ true → IsWordName head (written a)
  unfolding written
  written_name a h i = word_name (written a) (written_not_own a) refl (has_extra ws own_ws n extra (written a) (table_words_written (number_in (array_names ps)) body (arrays_with_extents ps) a h i))

  pub current_table : (a : ℕ) → is_among ts (current a) ≡ true → IsTableAt head (current a)
  current_table a h = record { made = h; no_array = no_array_named (current a) (current_not_own a) }

  pub counts_table : (a : ℕ) → is_among ts (counts a) ≡ true → IsTableAt head (counts a)
  counts_table a h = record { made = h; no_array = no_array_named (counts a) (counts_not_own a) }
