-- The names of a text differ from each other and from those of the source.
use Rattle.std.proofs.Common.{◌≡◌, ◌≢◌, ℕ, ◌^◌, ◌<◌, Bool, true, false, not, [], ◌∷◌, ◌++◌, refl, sym, ap, ◌∙◌, codes, decimal, nat_eq, true≢false}
use Rattle.std.specs.Prelude.{bytes_eq}
use Rattle.std.specs.List.{starts_with}
use Rattle.std.proofs.lemmas.Bool.{false_from_ne_true}
use Rattle.std.proofs.lemmas.Slice.Eq.{bytes_eq-Decides}
use Rattle.std.proofs.lemmas.Fmt.{decimal_injective}
use Rattle.c_tree.specs.Plain.{Word}
use Rattle.instrumentation.specs.Names.{numbered, register, result, count, definition_total, use_total, coordinate, pass_variable, active, counter, written, index_word, current, counts}

abbrev pub begins : Word → Word → Bool
begins prefix x = starts_with nat_eq x prefix

-- a name of the source
abbrev pub own : Word → Bool
own x = not (begins (codes "bal_") x)

pub same_word : (x : Word) → bytes_eq x x ≡ true
same_word x = (bytes_eq-Decides x x).1 refl

pub same_word-true : (x y : Word) → bytes_eq x y ≡ true → x ≡ y
same_word-true x y e = (bytes_eq-Decides x y).0 e

pub apart_by : (x y : Word) → (x ≡ y → ⊥) → bytes_eq x y ≡ false
apart_by x y h = false_from_ne_true (bytes_eq x y) (λ e. h (same_word-true x y e))

pub apart_sym : (x y : Word) → bytes_eq x y ≡ false → bytes_eq y x ≡ false
apart_sym x y e = apart_by y x (λ same. true≢false (sym ((bytes_eq-Decides x y).1 (sym same)) ∙ e))

-- two words of which one property holds of one alone
pub apart_as : (p : Word → Bool) (x y : Word) → p x ≡ true → p y ≡ false → bytes_eq x y ≡ false
apart_as p x y e g = apart_by x y (λ same. true≢false (sym e ∙ ap p same ∙ g))

pub apart_as' : (p : Word → Bool) (x y : Word) → p x ≡ false → p y ≡ true → bytes_eq x y ≡ false
apart_as' p x y e g = apart_sym y x (apart_as p y x g e)

front_cancel : (p x y : Word) → p ++ x ≡ p ++ y → x ≡ y
front_cancel [] x y e = e
front_cancel (a ∷ p) x y e = front_cancel p x y (let g : p ++ x ≡ p ++ y = cc in g)

numbered_apart : (p : Word) (i j : ℕ) → i < 2 ^ 64 → j < 2 ^ 64 → i ≢ j → bytes_eq (numbered p i) (numbered p j) ≡ false
numbered_apart p i j a b h = apart_by (numbered p i) (numbered p j) (λ e. h (decimal_injective i j a b (front_cancel p (decimal i) (decimal j) e)))

pub register_apart : (i j : ℕ) → i < 2 ^ 64 → j < 2 ^ 64 → i ≢ j → bytes_eq (register i) (register j) ≡ false
unfolding register
register_apart i j = numbered_apart (codes "bal_r") i j

pub variable_apart : (i j : ℕ) → i < 2 ^ 64 → j < 2 ^ 64 → i ≢ j → bytes_eq (pass_variable i) (pass_variable j) ≡ false
unfolding pass_variable
variable_apart i j = numbered_apart (codes "bal_l") i j

pub coordinate_apart : (i j : ℕ) → i < 2 ^ 64 → j < 2 ^ 64 → i ≢ j → bytes_eq (coordinate i) (coordinate j) ≡ false
unfolding coordinate
coordinate_apart i j = numbered_apart (codes "bal_i") i j

pub use_apart : (i j : ℕ) → i < 2 ^ 64 → j < 2 ^ 64 → i ≢ j → bytes_eq (use_total i) (use_total j) ≡ false
unfolding use_total
use_apart i j = numbered_apart (codes "bal_use") i j

pub definition_apart : (i j : ℕ) → i < 2 ^ 64 → j < 2 ^ 64 → i ≢ j → bytes_eq (definition_total i) (definition_total j) ≡ false
unfolding definition_total
definition_apart i j = numbered_apart (codes "bal_def") i j

pub index_apart : (i j : ℕ) → i < 2 ^ 64 → j < 2 ^ 64 → i ≢ j → bytes_eq (index_word i) (index_word j) ≡ false
unfolding index_word
index_apart i j = numbered_apart (codes "bal_cx") i j

pub written_apart : (i j : ℕ) → i < 2 ^ 64 → j < 2 ^ 64 → i ≢ j → bytes_eq (written i) (written j) ≡ false
unfolding written
written_apart i j = numbered_apart (codes "bal_cw") i j

pub current_apart : (i j : ℕ) → i < 2 ^ 64 → j < 2 ^ 64 → i ≢ j → bytes_eq (current i) (current j) ≡ false
unfolding current
current_apart i j = numbered_apart (codes "bal_td") i j

pub counts_apart : (i j : ℕ) → i < 2 ^ 64 → j < 2 ^ 64 → i ≢ j → bytes_eq (counts i) (counts j) ≡ false
unfolding counts
counts_apart i j = numbered_apart (codes "bal_tu") i j

-- ---- the names of a text, by the letters behind `bal_`

pub register_not_own : (j : ℕ) → own (register j) ≡ false
unfolding register
register_not_own j = refl

pub result_not_own : own result ≡ false
unfolding result
result_not_own = refl

pub active_not_own : own active ≡ false
unfolding active
active_not_own = refl

pub counter_not_own : own counter ≡ false
unfolding counter
counter_not_own = refl

pub count_not_own : own count ≡ false
unfolding count
count_not_own = refl

pub definition_not_own : (a : ℕ) → own (definition_total a) ≡ false
unfolding definition_total
definition_not_own a = refl

pub use_not_own : (a : ℕ) → own (use_total a) ≡ false
unfolding use_total
use_not_own a = refl

pub register_definition : (j a : ℕ) → bytes_eq (register j) (definition_total a) ≡ false
unfolding register definition_total
register_definition j a = refl

pub register_use : (j a : ℕ) → bytes_eq (register j) (use_total a) ≡ false
unfolding register use_total
register_use j a = refl

pub register_count : (j : ℕ) → bytes_eq (register j) count ≡ false
unfolding register count
register_count j = refl

pub use_definition : (a b : ℕ) → bytes_eq (use_total a) (definition_total b) ≡ false
unfolding use_total definition_total
use_definition a b = refl

pub definition_use : (a b : ℕ) → bytes_eq (definition_total a) (use_total b) ≡ false
unfolding use_total definition_total
definition_use a b = refl

pub definition_count : (a : ℕ) → bytes_eq (definition_total a) count ≡ false
unfolding definition_total count
definition_count a = refl

pub use_count : (a : ℕ) → bytes_eq (use_total a) count ≡ false
unfolding use_total count
use_count a = refl

-- ---- the names of tables, and of the words that they need

pub index_not_own : (d : ℕ) → own (index_word d) ≡ false
unfolding index_word
index_not_own d = refl

pub written_not_own : (a : ℕ) → own (written a) ≡ false
unfolding written
written_not_own a = refl

pub current_not_own : (a : ℕ) → own (current a) ≡ false
unfolding current
current_not_own a = refl

pub counts_not_own : (a : ℕ) → own (counts a) ≡ false
unfolding counts
counts_not_own a = refl

-- a name that begins as those of tables do
abbrev pub like_table : Word → Bool
like_table x = begins (codes "bal_t") x

pub current_like : (a : ℕ) → like_table (current a) ≡ true
unfolding current
current_like a = refl

pub counts_like : (a : ℕ) → like_table (counts a) ≡ true
unfolding counts
counts_like a = refl

pub current_counts : (a b : ℕ) → bytes_eq (current a) (counts b) ≡ false
unfolding current counts
current_counts a b = refl

pub counts_current : (a b : ℕ) → bytes_eq (counts a) (current b) ≡ false
unfolding current counts
counts_current a b = refl

pub index_written : (d a : ℕ) → bytes_eq (index_word d) (written a) ≡ false
unfolding index_word written
index_written d a = refl

pub written_index : (a d : ℕ) → bytes_eq (written a) (index_word d) ≡ false
unfolding index_word written
written_index a d = refl

pub index_register : (d j : ℕ) → bytes_eq (index_word d) (register j) ≡ false
unfolding index_word register
index_register d j = refl

pub written_register : (a j : ℕ) → bytes_eq (written a) (register j) ≡ false
unfolding written register
written_register a j = refl

pub register_index : (j d : ℕ) → bytes_eq (register j) (index_word d) ≡ false
unfolding index_word register
register_index j d = refl

pub register_written : (j a : ℕ) → bytes_eq (register j) (written a) ≡ false
unfolding written register
register_written j a = refl
