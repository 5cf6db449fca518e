-- Tests.
use Rattle.std.proofs.Common.{◌≡◌, ℕ, Bool, true, false, not, ◌||◌, cond, eqb, List, [], ◌∷◌, refl, sym, subst, ◌⊎◌, inl, inr}
use Rattle.std.proofs.lemmas.Bool.{eqb-true}
use Rattle.std.proofs.lemmas.Slice.Eq.{bytes_eq-Decides}
use Rattle.std.specs.Str.{bytes_eq}
use Rattle.std.specs.List.{list_all, list_any}
use Rattle.c_tree.specs.Grammar.Tokens.{Text, is_among}
use Rattle.text_pieces.proofs.Runs.{both}

pub either : (a b : Bool) → (a || b) ≡ true → (a ≡ true) ⊎ (b ≡ true)
either true b h = inl refl
either false b h = inr h

pub neither : (a b : Bool) → (a || b) ≡ false → (a ≡ false) × (b ≡ false)
neither true b h = absurd (let no : ⊥ = cc in no)
neither false b h = (refl, h)

pub not_true : (a : Bool) → not a ≡ true → a ≡ false
not_true true h = absurd (let no : ⊥ = cc in no)
not_true false h = refl

pub yes_or_no : (a : Bool) → (a ≡ true) ⊎ (a ≡ false)
yes_or_no true = inl refl
yes_or_no false = inr refl

-- what holds of both branches, each where its test says so
pub choose : {A : Type 0} (P : A → Type 0) (c : Bool) (s t : A) → (c ≡ true → P s) → (c ≡ false → P t) → P (cond c s t)
choose P true s t first second = first refl
choose P false s t first second = second refl

pub same_bytes : (x y : Text) → bytes_eq x y ≡ true → x ≡ y
same_bytes x y h = (bytes_eq-Decides x y).0 h

pub bytes_same : (x y : Text) → x ≡ y → bytes_eq x y ≡ true
bytes_same x y h = (bytes_eq-Decides x y).1 h

-- A test that every member of a list passes is passed by what is among them.
pub among_all : (p : Text → Bool) (xs : List Text) (x : Text) → is_among xs x ≡ true → list_all p xs ≡ true → p x ≡ true
among_all p [] x h all = absurd (let no : ⊥ = cc in no)
among_all p (y ∷ ys) x h all = by (either (bytes_eq x y) (is_among ys x) h) (both (p y) (list_all p ys) all) (λ e a. among_all p ys x e a) where
  by : (bytes_eq x y ≡ true) ⊎ (is_among ys x ≡ true) → (p y ≡ true) × (list_all p ys ≡ true) → (is_among ys x ≡ true → list_all p ys ≡ true → p x ≡ true) → p x ≡ true
  by (inl e) ok others = subst (λ z. p z ≡ true) (sym (same_bytes x y e)) ok.0
  by (inr e) ok others = others e ok.1

pub among_numbers : (p : ℕ → Bool) (xs : List ℕ) (x : ℕ) → list_any (eqb x) xs ≡ true → list_all p xs ≡ true → p x ≡ true
among_numbers p [] x h all = absurd (let no : ⊥ = cc in no)
among_numbers p (y ∷ ys) x h all = by (either (eqb x y) (list_any (eqb x) ys) h) (both (p y) (list_all p ys) all) (λ e a. among_numbers p ys x e a) where
  by : (eqb x y ≡ true) ⊎ (list_any (eqb x) ys ≡ true) → (p y ≡ true) × (list_all p ys ≡ true) → (list_any (eqb x) ys ≡ true → list_all p ys ≡ true → p x ≡ true) → p x ≡ true
  by (inl e) ok others = subst (λ z. p z ≡ true) (sym (eqb-true x y e)) ok.0
  by (inr e) ok others = others e ok.1
