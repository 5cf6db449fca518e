-- Declared names, and the places at which a set of them has them.
use Rattle.std.proofs.Common.{◌≡◌, ℕ, zero, suc, ◌+◌, ◌<◌, List, [], ◌∷◌, ◌++◌, length, take, map, Bool, true, false, cond, not, ◌||◌, nat_lt, position, slice_get, get_or, option_map, ℤ, Some, None, Bor, refl, sym, ap, ◌∙◌, arith, bytes_eq}
use Rattle.std.proofs.lemmas.Slice.Eq.{bytes_eq-Decides}
use Rattle.std.proofs.lemmas.Option.{slice_get-map, slice_get_read}
use Rattle.c_tree.specs.declared.name.Name.{Name}
use Rattle.c_tree.specs.declared.frame.Frame.{Frame}
use Rattle.c_tree.specs.declared.frame.ArrayInfo.{ArrayInfo}
use Rattle.data_file.specs.Conditions.{names_in}
use Rattle.std.specs.List.{position_or_len, list_any}
use Rattle.data_file.specs.Seen.{listed}

place-listed : (x : List ℕ) (keys : List (Bor (List ℕ))) → position_or_len (λ (b : Bor (List ℕ)). bytes_eq x b.now) keys ≡ position_or_len (bytes_eq x) (listed keys)
place-listed x [] = refl
place-listed x (k ∷ ks) = ap (λ n. cond (not (bytes_eq x k.now)) (1 + n) 0) (place-listed x ks)

pub length-listed : (keys : List (Bor (List ℕ))) → length (listed keys) ≡ length keys
length-listed [] = refl
length-listed (k ∷ ks) = ap suc (length-listed ks)

pub position-listed : (x : List ℕ) (keys : List (Bor (List ℕ))) → position (λ (b : Bor (List ℕ)). bytes_eq x b.now) keys ≡ position (bytes_eq x) (listed keys)
position-listed x keys =
    ap (λ n. cond (nat_lt n (length keys)) (Some n) None) (place-listed x keys)
    ∙ ap (λ m. cond (nat_lt (position_or_len (bytes_eq x) (listed keys)) m) (Some (position_or_len (bytes_eq x) (listed keys))) None) (sym (length-listed keys))

listed-push : (keys : List (Bor (List ℕ))) (x : Bor (List ℕ)) → listed (keys ++ x ∷ []) ≡ listed keys ++ x.now ∷ []
listed-push [] x = refl
listed-push (k ∷ ks) x = ap (λ z. k.now ∷ z) (listed-push ks x)

take-next : (xs : List (List ℕ)) (n : ℕ) (x : List ℕ) → slice_get xs n ≡ Some x → take (n + 1) xs ≡ take n xs ++ x ∷ []
take-next [] n x e = absurd (let no : ⊥ = cc in no)
take-next (y ∷ ys) zero x e = let same : y ≡ x = cc in ap (λ z. z ∷ []) same
take-next (y ∷ ys) (suc n) x e = let next : suc n + 1 ≡ suc (n + 1) = omega arith in ap (λ k. take k (y ∷ ys)) next ∙ ap (λ z. y ∷ z) (take-next ys n x e)

-- none of the first n
fresh : (xs : List (List ℕ)) (n : ℕ) (x : List ℕ) → ((j : ℕ) → j < n → slice_get xs j ≡ Some x → ⊥) → list_any (bytes_eq x) (take n xs) ≡ false
fresh [] zero x h = refl
fresh [] (suc n) x h = refl
fresh (y ∷ ys) zero x h = refl
fresh (y ∷ ys) (suc n) x h = first (bytes_eq x y) refl (fresh ys n x (λ j below at. h (suc j) (omega arith) at)) where
  first : (v : Bool) → bytes_eq x y ≡ v → list_any (bytes_eq x) (take n ys) ≡ false → (v || list_any (bytes_eq x) (take n ys)) ≡ false
  first true e others = absurd (h 0 (omega arith) (ap (λ z. Some z) (sym ((bytes_eq-Decides x y).0 e))))
  first false e others = others

any-listed : (x : List ℕ) (keys : List (Bor (List ℕ))) → list_any (λ (b : Bor (List ℕ)). bytes_eq x b.now) keys ≡ list_any (bytes_eq x) (listed keys)
any-listed x [] = refl
any-listed x (k ∷ ks) = ap (λ v. bytes_eq x k.now || v) (any-listed x ks)

-- one name more is taken up
pub taken_up : (xs : List (List ℕ)) (n : ℕ) (x : Bor (List ℕ)) (keys new : List (Bor (List ℕ)))
    → ((j k : ℕ) (y : List ℕ) → slice_get xs j ≡ Some y → slice_get xs k ≡ Some y → j ≡ k) → slice_get xs n ≡ Some x.now
    → new ≡ cond (list_any (λ (b : Bor (List ℕ)). bytes_eq x.now b.now) keys) keys (keys ++ x ∷ []) → listed keys ≡ take n xs → listed new ≡ take (n + 1) xs
taken_up xs n x keys new different at made before =
    let none : list_any (bytes_eq x.now) (take n xs) ≡ false = fresh xs n x.now (λ j below here. omega (arith, different j n x.now here at)) in
    let no : list_any (λ (b : Bor (List ℕ)). bytes_eq x.now b.now) keys ≡ false = any-listed x.now keys ∙ ap (list_any (bytes_eq x.now)) before ∙ none in
    ap listed made ∙ ap (λ v. listed (cond v keys (keys ++ x ∷ []))) no ∙ listed-push keys x ∙ ap (λ z. z ++ x.now ∷ []) before ∙ sym (take-next xs n x.now at)

pub get-front : {A : Type 0} (xs ys : List A) (k : ℕ) (x : A) → slice_get xs k ≡ Some x → slice_get (xs ++ ys) k ≡ Some x
get-front [] ys k x e = absurd (let no : ⊥ = cc in no)
get-front (z ∷ zs) ys zero x e = e
get-front (z ∷ zs) ys (suc k) x e = get-front zs ys k x e

pub get-back : {A : Type 0} (xs ys : List A) (k : ℕ) → slice_get (xs ++ ys) (length xs + k) ≡ slice_get ys k
get-back [] ys k = let e : 0 + k ≡ k = omega arith in ap (slice_get ys) e
get-back (x ∷ xs) ys k = let e : suc (length xs) + k ≡ suc (length xs + k) = omega arith in ap (slice_get (x ∷ (xs ++ ys))) e ∙ get-back xs ys k

pub length-names : (ps : List (Name × ℤ × ℤ)) → length (map (λ (p : Name × ℤ × ℤ). p.0.bytes) ps) ≡ length ps
length-names [] = refl
length-names (p ∷ ps) = ap suc (length-names ps)

-- the name of a parameter, and of an array
pub parameter_named : (f : Frame) (k : ℕ) (p : Name × ℤ × ℤ) → slice_get f.ints k ≡ Some p → slice_get (names_in f) k ≡ Some p.0.bytes
parameter_named f k p e =
    get-front (map (λ (q : Name × ℤ × ℤ). q.0.bytes) f.ints) (map (λ (a : ArrayInfo). a.name.bytes) f.arrays) k p.0.bytes
    (slice_get-map (λ (q : Name × ℤ × ℤ). q.0.bytes) f.ints k ∙ ap (option_map (λ (q : Name × ℤ × ℤ). q.0.bytes)) e)

pub array_named : (f : Frame) (k : ℕ) (a : ArrayInfo) → slice_get f.arrays k ≡ Some a → slice_get (names_in f) (length f.ints + k) ≡ Some a.name.bytes
array_named f k a e =
    let names = map (λ (q : Name × ℤ × ℤ). q.0.bytes) f.ints in
    let place : length f.ints + k ≡ length names + k = ap (λ n. n + k) (sym (length-names f.ints)) in
    ap (slice_get (names_in f)) place ∙ get-back names (map (λ (b : ArrayInfo). b.name.bytes) f.arrays) k
    ∙ slice_get-map (λ (b : ArrayInfo). b.name.bytes) f.arrays k ∙ ap (option_map (λ (b : ArrayInfo). b.name.bytes)) e

-- the same at an item that was read
pub parameter_read : (f : Frame) (items : List (Name × ℤ × ℤ)) (k : ℕ) (p : Name × ℤ × ℤ) (x : List ℕ) → items ≡ f.ints → k < length items → p ≡ get_or items k p → x ≡ p.0.bytes → slice_get (names_in f) k ≡ Some x
parameter_read f items k p x same below is named =
    parameter_named f k p (ap (λ z. slice_get z k) (sym same) ∙ slice_get_read items (length items) k p refl below is) ∙ ap (λ z. Some z) (sym named)

pub array_read : (f : Frame) (items : List ArrayInfo) (k : ℕ) (a : ArrayInfo) (x : List ℕ) → items ≡ f.arrays → k < length items → a ≡ get_or items k a → x ≡ a.name.bytes → slice_get (names_in f) (length f.ints + k) ≡ Some x
array_read f items k a x same below is named =
    array_named f k a (ap (λ z. slice_get z k) (sym same) ∙ slice_get_read items (length items) k a refl below is) ∙ ap (λ z. Some z) (sym named)
