-- Where no name is declared twice, the names of the parameters and of the arrays all differ.
use Rattle.std.proofs.Common.{◌≡◌, ℕ, zero, suc, Bool, true, false, not, ◌||◌, List, [], ◌∷◌, ◌++◌, slice_get, Some, refl, sym, ap, subst}
use Rattle.std.specs.Prelude.{bytes_eq}
use Rattle.std.proofs.lemmas.Bool.{and_parts, and_from, not_from_false}
use Rattle.std.proofs.lemmas.Option.{same_Some}
use Rattle.std.proofs.lemmas.Slice.Eq.{bytes_eq-Decides}
use Rattle.c_tree.specs.Names.{is_among, ints_in, arrays_in}
use Rattle.c_tree.specs.Plain.{Word, PlainParam, int_param, array_param, PlainUnit}
use Rattle.acceptance.specs.Items.{is_param, is_scalar}
use Rattle.acceptance.specs.Head.{params_twice, words_twice, wides_twice, head_names_twice}
use Rattle.affine_sets.specs.Expressions.{are_different}
use Rattle.frames.proofs.Booleans.{or_parts, or_from, not_true}

other_way : (x y : Word) → bytes_eq x y ≡ false → bytes_eq y x ≡ false
other_way x y h = by (bytes_eq y x) refl
  where
    by : (b : Bool) → bytes_eq y x ≡ b → b ≡ false
    by false e = refl
    by true e = let yes = (bytes_eq-Decides x y).1 (sym ((bytes_eq-Decides y x).0 e)) in cc

-- ---- among the names of two lists

joined : (xs ys : List Word) (z : Word) → is_among xs z ≡ false → is_among ys z ≡ false → is_among (xs ++ ys) z ≡ false
joined [] ys z g h = h
joined (x ∷ xs) ys z g h = let k = or_parts (bytes_eq x z) (is_among xs z) g in or_from (bytes_eq x z) (is_among (xs ++ ys) z) k.0 (joined xs ys z k.1 h)

inserted : (xs ys : List Word) (x z : Word) → is_among (xs ++ ys) z ≡ false → bytes_eq x z ≡ false → is_among (xs ++ x ∷ ys) z ≡ false
inserted [] ys x z g h = or_from (bytes_eq x z) (is_among ys z) h g
inserted (w ∷ ws) ys x z g h = let k = or_parts (bytes_eq w z) (is_among (ws ++ ys) z) g in or_from (bytes_eq w z) (is_among (ws ++ x ∷ ys) z) k.0 (inserted ws ys x z k.1 h)

different_more : (xs ys : List Word) (x : Word) → are_different (xs ++ ys) ≡ true → is_among (xs ++ ys) x ≡ false → are_different (xs ++ x ∷ ys) ≡ true
different_more [] ys x d h = and_from (not (is_among ys x)) (are_different ys) (not_from_false (is_among ys x) h) d
different_more (w ∷ ws) ys x d h =
    let k = and_parts (not (is_among (ws ++ ys) w)) (are_different (ws ++ ys)) d in
    let l = or_parts (bytes_eq w x) (is_among (ws ++ ys) x) h in
    and_from (not (is_among (ws ++ x ∷ ys) w)) (are_different (ws ++ x ∷ ys))
    (not_from_false (is_among (ws ++ x ∷ ys) w) (inserted ws ys x w (not_true (is_among (ws ++ ys) w) k.0) (other_way w x l.0)))
    (different_more ws ys x k.1 l.1)

different_first : (xs ys : List Word) → are_different (xs ++ ys) ≡ true → are_different xs ≡ true
different_first [] ys d = refl
different_first (x ∷ xs) ys d =
    let k = and_parts (not (is_among (xs ++ ys) x)) (are_different (xs ++ ys)) d in
    and_from (not (is_among xs x)) (are_different xs) (not_from_false (is_among xs x) (front xs (not_true (is_among (xs ++ ys) x) k.0))) (different_first xs ys k.1)
  where
    front : (ws : List Word) → is_among (ws ++ ys) x ≡ false → is_among ws x ≡ false
    front [] h = refl
    front (w ∷ ws) h = let l = or_parts (bytes_eq w x) (is_among (ws ++ ys) x) h in or_from (bytes_eq w x) (is_among ws x) l.0 (front ws l.1)

-- ---- the place of a name

apart : (xs : List Word) (x : Word) (k : ℕ) → is_among xs x ≡ false → slice_get xs k ≡ Some x → ⊥
apart [] x k h g = cc
apart (y ∷ ys) x zero h g =
    let e = (bytes_eq-Decides y x).1 (same_Some y x g) in
    let l = or_parts (bytes_eq y x) (is_among ys x) h in
    cc
apart (y ∷ ys) x (suc k) h g = apart ys x k (or_parts (bytes_eq y x) (is_among ys x) h).1 g

pub one_place : (xs : List Word) → are_different xs ≡ true → (j k : ℕ) (x : Word) → slice_get xs j ≡ Some x → slice_get xs k ≡ Some x → j ≡ k
one_place [] d j k x f g = cc
one_place (y ∷ ys) d zero zero x f g = refl
one_place (y ∷ ys) d zero (suc k) x f g =
    let l = and_parts (not (is_among ys y)) (are_different ys) d in
    let P : Word → Type 0 = λ w. is_among ys w ≡ false in
    absurd (apart ys x k (subst P (same_Some y x f) (not_true (is_among ys y) l.0)) g)
one_place (y ∷ ys) d (suc j) zero x f g =
    let l = and_parts (not (is_among ys y)) (are_different ys) d in
    let P : Word → Type 0 = λ w. is_among ys w ≡ false in
    absurd (apart ys x j (subst P (same_Some y x g) (not_true (is_among ys y) l.0)) f)
one_place (y ∷ ys) d (suc j) (suc k) x f g = ap suc (one_place ys (and_parts (not (is_among ys y)) (are_different ys) d).1 j k x f g)

-- ---- the head

not_param : (ps : List PlainParam) (x : Word) → is_param ps x ≡ false → (is_among (ints_in ps) x ≡ false) × (is_among (arrays_in ps) x ≡ false)
not_param [] x h = (refl, refl)
not_param (int_param y ∷ ps) x h =
    let k = or_parts (bytes_eq y x) (is_param ps x) h in
    let l = not_param ps x k.1 in
    (or_from (bytes_eq y x) (is_among (ints_in ps) x) k.0 l.0, l.1)
not_param (array_param y constant extents ∷ ps) x h =
    let k = or_parts (bytes_eq y x) (is_param ps x) h in
    let l = not_param ps x k.1 in
    (l.0, or_from (bytes_eq y x) (is_among (arrays_in ps) x) k.0 l.1)

among_none : (ps : List PlainParam) (x : Word) → is_param ps x ≡ false → is_among (ints_in ps ++ arrays_in ps) x ≡ false
among_none ps x h = let l = not_param ps x h in joined (ints_in ps) (arrays_in ps) x l.0 l.1

params_differ : (ps : List PlainParam) → params_twice ps ≡ false → are_different (ints_in ps ++ arrays_in ps) ≡ true
params_differ [] h = refl
params_differ (int_param x ∷ ps) h =
    let k = or_parts (is_param ps x) (params_twice ps) h in
    and_from (not (is_among (ints_in ps ++ arrays_in ps) x)) (are_different (ints_in ps ++ arrays_in ps)) (not_from_false _ (among_none ps x k.0)) (params_differ ps k.1)
params_differ (array_param x constant extents ∷ ps) h =
    let k = or_parts (is_param ps x) (params_twice ps) h in
    different_more (ints_in ps) (arrays_in ps) x (params_differ ps k.1) (among_none ps x k.0)

module _ (u : PlainUnit) (once : head_names_twice u ≡ false) where
  none_twice : params_twice u.params ≡ false
  none_twice =
      let ps = u.params in
      let last = words_twice ps u.words || wides_twice ps u.words u.wides in
      let a = or_parts (is_param ps u.name) (is_scalar u.words u.name || (is_among u.wides u.name || (params_twice ps || last))) once in
      let b = or_parts (is_scalar u.words u.name) (is_among u.wides u.name || (params_twice ps || last)) a.1 in
      let c = or_parts (is_among u.wides u.name) (params_twice ps || last) b.1 in
      (or_parts (params_twice ps) last c.1).0

  pub all_differ : are_different (ints_in u.params ++ arrays_in u.params) ≡ true
  all_differ = params_differ u.params none_twice

  pub ints_differ : are_different (ints_in u.params) ≡ true
  ints_differ = different_first (ints_in u.params) (arrays_in u.params) all_differ
