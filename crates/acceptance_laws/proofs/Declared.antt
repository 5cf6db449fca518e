-- What a text's scope has to declare, and what its loops may be called.
use Rattle.std.proofs.Common.{◌≡◌, ℕ, ◌<◌, true, false, ◌||◌, List, [], ◌∷◌, refl, sym, ap, ◌∙◌, true≢false}
use Rattle.std.specs.Prelude.{bytes_eq}
use Rattle.std.proofs.lemmas.Bool.{or_from, or_left, or_right, or_parts, false_from_ne_true}
use Rattle.c_tree.specs.Plain.{Word, PlainParam, int_param, array_param}
use Rattle.c_tree.specs.Names.{is_among}
use Rattle.instrumentation.specs.Names.{register, result, count, definition_total, use_total, coordinate, pass_variable, active, counter}
use Rattle.acceptance.specs.Items.{Loop, Scope, is_loop, is_int, is_array, is_param, is_scalar, is_declared, is_known}
use Rattle.acceptance.specs.Printed.{dimensions}
use Rattle.acceptance_laws.proofs.Names.{same_word-true}
use Rattle.acceptance_laws.proofs.Expressions.{IsWordAt, IsWideAt, IsSignedAt}
use Rattle.acceptance_laws.proofs.Fine.{inside}

-- a word that no parameter is named as
pub record IsWordName (sc : Scope) (x : Word) : Type 0 where
  pub declared : is_scalar sc.words x ≡ true
  pub unsigned : is_int sc.params x ≡ false
  pub flat : dimensions sc x ≡ 0

-- The scope declares the words and the wide names of a text, of the loads' words the first few; its loops' names are free.
pub record Declares (f : Word) (number : Word → ℕ) (few : ℕ) (sc : Scope) : Type 0 where
  pub registers : (j : ℕ) → j < few → IsWordName sc (register j)
  pub stored_word : IsWordName sc result
  pub active_word : IsWordName sc active
  pub counter_word : IsWordName sc counter
  pub count_wide : IsWideAt sc count
  pub used : (x : Word) → is_array sc.params x ≡ true → IsWideAt sc (use_total (number x))
  pub defined : (x : Word) → is_array sc.params x ≡ true → IsWideAt sc (definition_total (number x))
  pub coordinates_free : (d : ℕ) → is_declared sc (coordinate d) ≡ false
  pub variables_free : (d : ℕ) → is_declared sc (pass_variable d) ≡ false
  pub coordinates_differ : (d : ℕ) → bytes_eq f (coordinate d) ≡ false
  pub variables_differ : (d : ℕ) → bytes_eq f (pass_variable d) ≡ false

-- no loop is named as what is declared
abbrev pub AreFree : Scope → List Loop → Type 0
AreFree sc [] = Unit {0}
AreFree sc (l ∷ ls) = (is_declared sc l.name ≡ false) × AreFree sc ls

pub no_loop : (sc : Scope) (ls : List Loop) (x : Word) → AreFree sc ls → is_declared sc x ≡ true → is_loop ls x ≡ false
no_loop sc [] x free h = refl
no_loop sc (l ∷ ls) x free h =
    or_from _ _ (false_from_ne_true (bytes_eq l.name x) (λ e. true≢false (sym h ∙ ap (is_declared sc) (sym (same_word-true l.name x e)) ∙ free.0))) (no_loop sc ls x free.1 h)

-- a name that isn't known isn't declared
pub unknown_loop : (sc : Scope) (x : Word) → is_known sc x ≡ false → is_loop sc.loops x ≡ false
unknown_loop sc x h = (or_parts (is_loop sc.loops x) (is_declared sc x) h).0

pub unknown_free : (sc : Scope) (x : Word) → is_known sc x ≡ false → is_declared sc x ≡ false
unknown_free sc x h = (or_parts (is_loop sc.loops x) (is_declared sc x) h).1

-- ---- a name that isn't declared has no dimensions

abbrev only_params : List PlainParam → Scope
only_params ps = record { params = ps; words = []; wides = []; loops = []; tables = [] }

params_flat : (ps : List PlainParam) (x : Word) → is_param ps x ≡ false → dimensions (only_params ps) x ≡ 0
params_flat [] x h = refl
params_flat (int_param y ∷ ps) x h = params_flat ps x (or_parts (bytes_eq y x) (is_param ps x) h).1
params_flat (array_param y constant extents ∷ ps) x h =
    let p : (bytes_eq y x ≡ false) × (is_param ps x ≡ false) = or_parts (bytes_eq y x) (is_param ps x) h in
    rw p.0 (params_flat ps x p.1)

pub flat_name : (sc : Scope) (x : Word) → is_param sc.params x ≡ false → is_among sc.tables x ≡ false → dimensions sc x ≡ 0
flat_name sc x h g = rw g (params_flat sc.params x h)

pub free_flat : (sc : Scope) (x : Word) → is_declared sc x ≡ false → dimensions sc x ≡ 0
free_flat sc x h =
    let p = or_parts (is_param sc.params x) (is_scalar sc.words x || (is_among sc.wides x || is_among sc.tables x)) h in
    let q = or_parts (is_scalar sc.words x) (is_among sc.wides x || is_among sc.tables x) p.1 in
    let r = or_parts (is_among sc.wides x) (is_among sc.tables x) q.1 in
    flat_name sc x p.0 r.1

-- ---- the names of a text inside loops

pub word_declared : (sc : Scope) (x : Word) → is_scalar sc.words x ≡ true → is_declared sc x ≡ true
word_declared sc x h = or_right (is_param sc.params x) _ (or_left _ (is_among sc.wides x || is_among sc.tables x) h)

pub word_inside : (sc : Scope) (ls : List Loop) (x : Word) → AreFree sc ls → IsWordName sc x → IsWordAt (inside sc ls) x
word_inside sc ls x free h = record {
  declared = h.declared;
  unsigned = or_from _ _ (no_loop sc ls x free (word_declared sc x h.declared)) h.unsigned;
  flat = h.flat;
}

pub wide_inside : (sc : Scope) (ls : List Loop) (x : Word) → IsWideAt sc x → IsWideAt (inside sc ls) x
wide_inside sc ls x h = record { declared = h.declared; flat = h.flat }

-- the variable of a loop around that isn't declared
pub loop_signed : (sc : Scope) (ls : List Loop) (x : Word) → is_declared sc x ≡ false → is_loop ls x ≡ true → IsSignedAt (inside sc ls) x
loop_signed sc ls x free h = record { signed = or_left _ (is_int sc.params x) h; flat = free_flat sc x free }
