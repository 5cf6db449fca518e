-- The number of a name among different names.
use Rattle.std.proofs.Common.{◌≡◌, ◌<◌, ◌≤◌, ◌+◌, ℕ, suc, zero, List, [], ◌∷◌, length, map, nat_eq, Bool, true, false, cond, not, ◌||◌, Option, Some, None, refl, sym, ap, ◌∙◌, subst, arith}
use Rattle.std.specs.Prelude.{bytes_eq}
use Rattle.std.specs.List.{slice_get}
use Rattle.std.proofs.lemmas.Bool.{and_parts}
use Rattle.std.proofs.lemmas.Slice.Eq.{bytes_eq-Decides}
use Rattle.c_tree.specs.Plain.{Word, int_param}
use Rattle.c_tree.specs.Names.{is_among}
use Rattle.acceptance.specs.Items.{is_int}
use Rattle.affine_sets.specs.Expressions.{are_different}
use Rattle.affine_sets.specs.Collected.{number_from}

-- v is the number of x, counted on from n
pub record Numbered (n : ℕ) (names : List Word) (x : Word) (v : ℕ) : Type 0 where
  pub known : is_int (map int_param names) x ≡ true
  pub from : n ≤ v
  pub to : v < n + length names
  pub only : (i : ℕ) (y : Word) → slice_get names i ≡ Some y → nat_eq v (n + i) ≡ bytes_eq y x

abbrev pub NumberIs : ℕ → List Word → Word → Option ℕ → Type 0
NumberIs n names x None = is_int (map int_param names) x ≡ false
NumberIs n names x (Some v) = Numbered n names x v

not_true : (b : Bool) → not b ≡ true → b ≡ false
not_true false h = refl
not_true true h = cc

-- a name that isn't among others is none of them
apart : (names : List Word) (x : Word) → is_among names x ≡ false → (i : ℕ) (y : Word) → slice_get names i ≡ Some y → bytes_eq y x ≡ false
apart [] x h i y g = cc
apart (z ∷ zs) x h zero y g = let same : z ≡ y = cc in ap (λ w. bytes_eq w x) (sym same) ∙ first (bytes_eq z x) (is_among zs x) h
  where
    first : (a b : Bool) → a || b ≡ false → a ≡ false
    first true b k = k
    first false b k = refl
apart (z ∷ zs) x h (suc i) y g = apart zs x (second (bytes_eq z x) (is_among zs x) h) i y g
  where
    second : (a b : Bool) → a || b ≡ false → b ≡ false
    second true b k = cc
    second false b k = k

same_word : (x y : Word) → bytes_eq x y ≡ true → x ≡ y
same_word x y e = (bytes_eq-Decides x y).0 e

equal_0 : (n : ℕ) → nat_eq n (n + 0) ≡ true
equal_0 n = grind arith

unequal_later : (n i : ℕ) → nat_eq n (n + suc i) ≡ false
unequal_later n i = grind arith

unequal_first : (n v : ℕ) → suc n ≤ v → nat_eq v (n + 0) ≡ false
unequal_first n v h = grind arith

moved : (n i v : ℕ) → nat_eq v (n + suc i) ≡ nat_eq v (suc n + i)
moved n i v = ap (nat_eq v) (omega arith)

-- the first is the name
here : (n : ℕ) (y : Word) (ys : List Word) (x : Word) → bytes_eq y x ≡ true → is_among ys y ≡ false → Numbered n (y ∷ ys) x n
here n y ys x e a = record {
  known = ap (λ b. b || is_int (map int_param ys) x) e;
  from = omega arith;
  to = within (length ys);
  only = λ i w g. by i w g;
}
  where
    within : (l : ℕ) → n < n + suc l
    within l = omega arith

    by : (i : ℕ) (w : Word) → slice_get (y ∷ ys) i ≡ Some w → nat_eq n (n + i) ≡ bytes_eq w x
    by zero w g = let same : y ≡ w = cc in equal_0 n ∙ sym e ∙ ap (λ u. bytes_eq u x) same
    by (suc i) w g =
        let P : Word → Type 0 = λ u. bytes_eq w u ≡ false in
        unequal_later n i ∙ sym (subst P (same_word y x e) (apart ys y a i w g))

-- the first isn't the name
there : (n : ℕ) (y : Word) (ys : List Word) (x : Word) (o : Option ℕ) → bytes_eq y x ≡ false → NumberIs (suc n) ys x o → NumberIs n (y ∷ ys) x o
there n y ys x None e h = ap (λ b. b || is_int (map int_param ys) x) e ∙ h
there n y ys x (Some v) e h = record {
  known = ap (λ b. b || is_int (map int_param ys) x) e ∙ h.known;
  from = omega (arith, h.from);
  to = within (length ys) h.to;
  only = λ i w g. by i w g;
}
  where
    within : (l : ℕ) → v < suc n + l → v < n + suc l
    within l k = omega arith

    by : (i : ℕ) (w : Word) → slice_get (y ∷ ys) i ≡ Some w → nat_eq v (n + i) ≡ bytes_eq w x
    by zero w g = let same : y ≡ w = cc in unequal_first n v h.from ∙ sym e ∙ ap (λ u. bytes_eq u x) same
    by (suc i) w g = moved n i v ∙ h.only i w g

pub number_is : (n : ℕ) (names : List Word) (x : Word) → are_different names ≡ true → NumberIs n names x (number_from n names x)
number_is n [] x d = refl
number_is n (y ∷ ys) x d =
    let k = and_parts (not (is_among ys y)) (are_different ys) d in
    by (bytes_eq y x) refl (not_true (is_among ys y) k.0) (number_is (suc n) ys x k.1)
  where
    by : (b : Bool) → bytes_eq y x ≡ b → is_among ys y ≡ false → NumberIs (suc n) ys x (number_from (suc n) ys x) → NumberIs n (y ∷ ys) x (cond b (Some n) (number_from (suc n) ys x))
    by true e a h = here n y ys x e a
    by false e a h = there n y ys x (number_from (suc n) ys x) e h
