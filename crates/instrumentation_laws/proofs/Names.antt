-- The names of a text differ from each other and from those of the source.
use Rattle.std.proofs.Common.{◌≡◌, ◌≢◌, ℕ, ◌<◌, ◌^◌, Bool, true, false, not, ◌&&◌, [], ◌∷◌, ◌++◌, refl, sym, ap, ◌∙◌, codes, nat_eq, true≢false}
use Rattle.std.specs.Prelude.{bytes_eq, decimal}
use Rattle.std.proofs.lemmas.Slice.Eq.{bytes_eq-Decides}
use Rattle.std.proofs.lemmas.Fmt.{decimal_injective}
use Rattle.c_tree.specs.Plain.{Word}
use Rattle.c_tree.specs.Values.{Vars, is_in}
use Rattle.instrumentation.specs.Names.{numbered, register, result, count, use_total, definition_total, coordinate}
use Rattle.instrumentation_laws.specs.OwnNames.{begins, own, may_loop, piece_word, AllMayLoop}

pub same_word : (x : Word) → bytes_eq x x ≡ true
same_word x = (bytes_eq-Decides x x).1 refl

pub apart_by : (x y : Word) → (x ≡ y → ⊥) → bytes_eq x y ≡ false
apart_by x y h = chosen (bytes_eq x y) refl
  where
    chosen : (b : Bool) → bytes_eq x y ≡ b → b ≡ false
    chosen false e = refl
    chosen true e = absurd (h ((bytes_eq-Decides x y).0 e))

-- two words of which one property holds of one alone
pub apart_as : (p : Word → Bool) (x y : Word) → p x ≡ true → p y ≡ false → bytes_eq x y ≡ false
apart_as p x y e g = apart_by x y (λ same. true≢false (sym e ∙ ap p same ∙ g))

pub apart_as' : (p : Word → Bool) (x y : Word) → p x ≡ false → p y ≡ true → bytes_eq x y ≡ false
apart_as' p x y e g = apart_by x y (λ same. true≢false (sym g ∙ ap p (sym same) ∙ e))

pub front_cancel : (p x y : Word) → p ++ x ≡ p ++ y → x ≡ y
front_cancel [] x y e = e
front_cancel (a ∷ p) x y e = front_cancel p x y (let g : p ++ x ≡ p ++ y = cc in g)

pub numbered_apart : (p : Word) (i j : ℕ) → i < 2 ^ 64 → j < 2 ^ 64 → i ≢ j → bytes_eq (numbered p i) (numbered p j) ≡ false
numbered_apart p i j a b h = apart_by (numbered p i) (numbered p j) (λ e. h (decimal_injective i j a b (front_cancel p (decimal i) (decimal j) e)))

pub register_apart : (i j : ℕ) → i < 2 ^ 64 → j < 2 ^ 64 → i ≢ j → bytes_eq (register i) (register j) ≡ false
unfolding register
register_apart i j = numbered_apart (codes "bal_r") i j

pub use_apart : (i j : ℕ) → i < 2 ^ 64 → j < 2 ^ 64 → i ≢ j → bytes_eq (use_total i) (use_total j) ≡ false
unfolding use_total
use_apart i j = numbered_apart (codes "bal_use") i j

pub definition_apart : (i j : ℕ) → i < 2 ^ 64 → j < 2 ^ 64 → i ≢ j → bytes_eq (definition_total i) (definition_total j) ≡ false
unfolding definition_total
definition_apart i j = numbered_apart (codes "bal_def") i j

pub register_not_own : (j : ℕ) → own (register j) ≡ false
unfolding register
register_not_own j = refl

pub result_not_own : own result ≡ false
unfolding result
result_not_own = refl

pub use_not_own : (a : ℕ) → own (use_total a) ≡ false
unfolding use_total
use_not_own a = refl

pub register_no_piece : (j : ℕ) → piece_word (register j) ≡ false
unfolding register
register_no_piece j = refl

pub result_no_piece : piece_word result ≡ false
unfolding result
result_no_piece = refl

pub register_result : (j : ℕ) → bytes_eq result (register j) ≡ false
unfolding result register
register_result j = refl

pub count_use : (a : ℕ) → bytes_eq count (use_total a) ≡ false
unfolding count use_total
count_use a = refl

pub count_definition : (a : ℕ) → bytes_eq count (definition_total a) ≡ false
unfolding count definition_total
count_definition a = refl

pub use_definition : (a b : ℕ) → bytes_eq (use_total a) (definition_total b) ≡ false
unfolding use_total definition_total
use_definition a b = refl

pub definition_use : (a b : ℕ) → bytes_eq (definition_total a) (use_total b) ≡ false
unfolding use_total definition_total
definition_use a b = refl

-- a name of the source isn't one of a piece
begins_less : (p q x : Word) → begins (p ++ q) x ≡ true → begins p x ≡ true
begins_less [] q x e = refl
begins_less (a ∷ p) q [] e = e
begins_less (a ∷ p) q (b ∷ x) e = both (nat_eq a b) (begins (p ++ q) x) (begins p x) e (λ g. begins_less p q x g)
  where
    both : (t c d : Bool) → (t && c) ≡ true → (c ≡ true → d ≡ true) → (t && d) ≡ true
    both true c d g h = h g
    both false c d g h = g

pub own_no_piece : (x : Word) → own x ≡ true → piece_word x ≡ false
own_no_piece x e = chosen (piece_word x) refl
  where
    chosen : (b : Bool) → piece_word x ≡ b → b ≡ false
    chosen false g = refl
    chosen true g =
        let h : begins (codes "bal_") x ≡ true = begins_less (codes "bal_") (codes "c") x g in
        absurd (true≢false (sym e ∙ ap not h))

pub register_may_not : (j : ℕ) → may_loop (register j) ≡ false
unfolding register
register_may_not j = refl

pub result_may_not : may_loop result ≡ false
unfolding result
result_may_not = refl

pub own_may : (x : Word) → own x ≡ true → may_loop x ≡ true
own_may x e = rw e refl

pub coordinate_not_own : (d : ℕ) → own (coordinate d) ≡ false
unfolding coordinate
coordinate_not_own d = refl

pub coordinate_may_loop : (d : ℕ) → may_loop (coordinate d) ≡ true
unfolding coordinate
coordinate_may_loop d = refl

pub coordinate_apart : (i j : ℕ) → i < 2 ^ 64 → j < 2 ^ 64 → i ≢ j → bytes_eq (coordinate i) (coordinate j) ≡ false
unfolding coordinate
coordinate_apart i j = numbered_apart (codes "bal_i") i j

-- a name that no loop has isn't among the loops
pub not_in : (vs : Vars) (x : Word) → AllMayLoop vs → may_loop x ≡ false → is_in vs x ≡ false
not_in [] x a o = refl
not_in (v ∷ vs) x a o = rw (apart_as may_loop v.0 x a.0 o) (not_in vs x a.1 o)

pub definition_not_own : (a : ℕ) → own (definition_total a) ≡ false
unfolding definition_total
definition_not_own a = refl

pub count_not_own : own count ≡ false
unfolding count
count_not_own = refl

pub register_definition : (j a : ℕ) → bytes_eq (register j) (definition_total a) ≡ false
unfolding register definition_total
register_definition j a = refl

pub register_use : (j a : ℕ) → bytes_eq (register j) (use_total a) ≡ false
unfolding register use_total
register_use j a = refl

pub register_count : (j : ℕ) → bytes_eq (register j) count ≡ false
unfolding register count
register_count j = refl

pub result_definition : (a : ℕ) → bytes_eq result (definition_total a) ≡ false
unfolding result definition_total
result_definition a = refl

pub result_use : (a : ℕ) → bytes_eq result (use_total a) ≡ false
unfolding result use_total
result_use a = refl

pub result_count : bytes_eq result count ≡ false
unfolding result count
result_count = refl
