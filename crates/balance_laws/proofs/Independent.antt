-- The laws of independence, from what two memories give.
use Rattle.std.proofs.Common.{◌≡◌, ℕ, suc, zero, ◌≤◌, Bool, true, false, cond, ◌==◌, List, [], ◌∷◌, map, length, refl, sym, ap, ◌∙◌, arith, ℤ, Some, None, inl, inr, eq-eqb}
use Rattle.std.proofs.lemmas.Bool.{eqb-true, false≢true}
use Rattle.std.proofs.lemmas.List.{append-nil, length-map}
use Rattle.std.proofs.lemmas.Slice.Eq.{bytes_eq-Decides}
use Rattle.std.specs.Prelude.{bytes_eq}
use Rattle.c_tree.specs.Plain.{Word, PlainExprs, PlainUnit}
use Rattle.c_tree.specs.Values.{Vars}
use Rattle.c_tree.specs.Arrays.{Array, Memory, array_from, vars_of}
use Rattle.c_tree.specs.Accesses.{Access, at}
use Rattle.c_tree.specs.Inputs.{arrays_for}
use Rattle.c_tree.specs.Instances.{Tagged, untagged, core_of, core, accesses}
use Rattle.balance_laws.specs.Independence.{StandsInStmts, PlacesAreFixed, OwnValuesAreNothing, IndexArraysAreAll}
use Rattle.balance_laws.proofs.Views.{View, view, tagged_view, AreSame, core_same, subscripts_same, word_same}

map_twice : {A B C : Type 0} (g : B → C) (f : A → B) (xs : List A) → map g (map f xs) ≡ map (λ x. g (f x)) xs
map_twice g f [] = refl
map_twice g f (x ∷ xs) = ap (λ l. g (f x) ∷ l) (map_twice g f xs)

-- ---- places

pub places_are_fixed : PlacesAreFixed
places_are_fixed u ns m n =
    let arrays : List Array = arrays_for u ns in
    let vs : Vars = vars_of u.params ns in
    let none : ℕ → Bool = λ a. false in
    let of : View × ℕ × Vars → ℕ × Bool × ℕ × Vars = λ p. (p.0.0, p.0.1, p.1, p.2) in
    sym (map_twice of (tagged_view none) (core_of arrays m u.body vs)) ∙
    ap (map of) (core_same arrays m n none u.body vs (λ x at ws o a named h. absurd (false≢true h))) ∙
    map_twice of (tagged_view none) (core_of arrays n u.body vs)

-- ---- lists of accesses

untagged_same : (trusted : ℕ → Bool) (ts us : List Tagged) → map (tagged_view trusted) ts ≡ map (tagged_view trusted) us → map (view trusted) (untagged ts) ≡ map (view trusted) (untagged us)
untagged_same trusted ts us h =
    let of : View × ℕ × Vars → View = λ p. p.0 in
    map_twice (view trusted) (λ (t : Tagged). t.access) ts ∙ sym (map_twice of (tagged_view trusted) ts) ∙ ap (map of) h ∙ map_twice of (tagged_view trusted) us ∙ sym (map_twice (view trusted) (λ (t : Tagged). t.access) us)

head_same : {A : Type 0} (x y : A) (xs ys : List A) → x ∷ xs ≡ y ∷ ys → (x ≡ y) × (xs ≡ ys)
head_same x y xs ys e = (cc, cc)

views_at : (trusted : ℕ → Bool) (xs ys : List Access) (q : ℕ) → map (view trusted) xs ≡ map (view trusted) ys → view trusted (at xs q) ≡ view trusted (at ys q)
views_at trusted [] [] q h = refl
views_at trusted [] (y ∷ ys) q h = absurd (let g : [] ≡ view trusted y ∷ map (view trusted) ys = h in cc)
views_at trusted (x ∷ xs) [] q h = absurd (let g : view trusted x ∷ map (view trusted) xs ≡ [] = h in cc)
views_at trusted (x ∷ xs) (y ∷ ys) zero h = (head_same (view trusted x) (view trusted y) (map (view trusted) xs) (map (view trusted) ys) h).0
views_at trusted (x ∷ xs) (y ∷ ys) (suc q) h = views_at trusted xs ys q (head_same (view trusted x) (view trusted y) (map (view trusted) xs) (map (view trusted) ys) h).1

access_is : (x y : Access) → x.array ≡ y.array → x.cell ≡ y.cell → x.writes ≡ y.writes → x ≡ y
access_is x y a c w =
    ap (λ k. let z : Access = record { array = k; cell = x.cell; writes = x.writes } in z) a ∙
    ap (λ d. let z : Access = record { array = y.array; cell = d; writes = x.writes } in z) c ∙
    ap (λ b. let z : Access = record { array = y.array; cell = y.cell; writes = b } in z) w

-- an access of a trusted array is what is seen of it
trusted_is : (trusted : ℕ → Bool) (x y : Access) → view trusted x ≡ view trusted y → trusted x.array ≡ true → x ≡ y
trusted_is trusted x y h t =
    let a : x.array ≡ y.array = ap (λ (v : View). v.0) h in
    let w : x.writes ≡ y.writes = ap (λ (v : View). v.1) h in
    let c : cond (trusted x.array) x.cell [] ≡ cond (trusted y.array) y.cell [] = ap (λ (v : View). v.2) h in
    let s : trusted y.array ≡ true = sym (ap trusted a) ∙ t in
    access_is x y a (sym (ap (λ b. cond b x.cell []) t) ∙ c ∙ ap (λ b. cond b y.cell []) s) w

same_list : (xs ys : List Access) → map (view (λ a. true)) xs ≡ map (view (λ a. true)) ys → xs ≡ ys
same_list [] [] h = refl
same_list [] (y ∷ ys) h = absurd (let g : [] ≡ view (λ a. true) y ∷ map (view (λ a. true)) ys = h in cc)
same_list (x ∷ xs) [] h = absurd (let g : view (λ a. true) x ∷ map (view (λ a. true)) xs ≡ [] = h in cc)
same_list (x ∷ xs) (y ∷ ys) h =
    let p = head_same (view (λ a. true) x) (view (λ a. true) y) (map (view (λ a. true)) xs) (map (view (λ a. true)) ys) h in
    ap (λ z. z ∷ xs) (trusted_is (λ a. true) x y p.0 refl) ∙ ap (λ l. y ∷ l) (same_list xs ys p.1)

-- ---- names and numbers of arrays

first_is : (k : ℕ) (z : Array) (c : ℕ × Array) → Some (let p : ℕ × Array = (k, z) in p) ≡ Some c → k ≡ c.0
first_is k z c q = let s : (let p : ℕ × Array = (k, z) in p) ≡ c = cc in ap (λ (p : ℕ × Array). p.0) s

number_above : (k : ℕ) (arrays : List Array) (x : Word) (a : ℕ × Array) → array_from k arrays x ≡ Some a → k ≤ a.0
number_above k [] x a h = absurd (let g : None ≡ Some a = h in cc)
number_above k (b ∷ more) x a h = chosen (bytes_eq b.name x) (number_above (suc k) more x a) h
  where
    chosen : (t : Bool) → (array_from (suc k) more x ≡ Some a → suc k ≤ a.0) → cond t (Some (let p : ℕ × Array = (k, b) in p)) (array_from (suc k) more x) ≡ Some a → k ≤ a.0
    chosen true rest e = let z : k ≡ a.0 = first_is k b a e in omega arith
    chosen false rest e = let z : suc k ≤ a.0 = rest e in omega arith

-- arrays of one number have one name
same_name : (k : ℕ) (arrays : List Array) (x y : Word) (a b : ℕ × Array) → array_from k arrays x ≡ Some a → array_from k arrays y ≡ Some b → a.0 ≡ b.0 → x ≡ y
same_name k [] x y a b g h e = absurd (let f : None ≡ Some a = g in cc)
same_name k (z ∷ more) x y a b g h e = chosen (bytes_eq z.name x) (bytes_eq z.name y) (λ p q. same_name (suc k) more x y a b p q e) refl refl g h
  where
    chosen : (s t : Bool) → (array_from (suc k) more x ≡ Some a → array_from (suc k) more y ≡ Some b → x ≡ y) → bytes_eq z.name x ≡ s → bytes_eq z.name y ≡ t → cond s (Some (let p : ℕ × Array = (k, z) in p)) (array_from (suc k) more x) ≡ Some a →
        cond t (Some (let p : ℕ × Array = (k, z) in p)) (array_from (suc k) more y) ≡ Some b → x ≡ y
    chosen true true rest of_x of_y p q = sym ((bytes_eq-Decides z.name x).0 of_x) ∙ (bytes_eq-Decides z.name y).0 of_y
    chosen true false rest of_x of_y p q = let i = first_is k z a p in let j = number_above (suc k) more y b q in absurd (omega arith)
    chosen false true rest of_x of_y p q = let i = first_is k z b q in let j = number_above (suc k) more x a p in absurd (omega arith)
    chosen false false rest of_x of_y p q = rest p q

-- ---- the laws

module _ (u : PlainUnit) (ns : List ℤ) (m n : Memory) (trusted : ℕ → Bool)
    (h : (x : Word) (at : PlainExprs) (vs : Vars) → StandsInStmts x at u.body → AreSame (arrays_for u ns) m n trusted x at vs) where
  accesses_seen : map (view trusted) (accesses u ns m) ≡ map (view trusted) (accesses u ns n)
  accesses_seen =
      ap (map (view trusted)) (append-nil (core u ns m)) ∙
      untagged_same trusted (core_of (arrays_for u ns) m u.body (vars_of u.params ns)) (core_of (arrays_for u ns) n u.body (vars_of u.params ns)) (core_same (arrays_for u ns) m n trusted u.body (vars_of u.params ns) h) ∙
      sym (ap (map (view trusted)) (append-nil (core u ns n)))

pub own_values_are_nothing : OwnValuesAreNothing
own_values_are_nothing u ns a m n apart agree =
    let own : ℕ → Bool = λ b. b == a in
    let arrays : List Array = arrays_for u ns in
    let seen : map (view own) (accesses u ns m) ≡ map (view own) (accesses u ns n) = accesses_seen u ns m n own (λ x at vs stands k named is_own.
    subscripts_same arrays m n own at vs (λ y indexed c. word_same arrays m n own y c (λ b called.
    agree b.0 c (λ same. apart x y at stands indexed (same_name 0 arrays x y k b named called (eqb-true _ _ is_own ∙ sym same)))))) in
    record {
      long = sym (length-map (accesses u ns m) (view own)) ∙ ap length seen ∙ length-map (accesses u ns n) (view own);
      each = λ q either.
          let v = views_at own (accesses u ns m) (accesses u ns n) q seen in
          let same : (at (accesses u ns m) q).array ≡ (at (accesses u ns n) q).array = ap (λ (v : View). v.0) v in
          trusted_is own (at (accesses u ns m) q) (at (accesses u ns n) q) v (eq-eqb _ _ (elim either [
            | inl e ↦ e
            | inr e ↦ same ∙ e
          ]));
    }

pub index_arrays_are_all : IndexArraysAreAll
index_arrays_are_all u ns m n agree =
    let arrays : List Array = arrays_for u ns in
    same_list (accesses u ns m) (accesses u ns n) (accesses_seen u ns m n (λ a. true) (λ x at vs stands k named t.
    subscripts_same arrays m n (λ a. true) at vs (λ y indexed c. word_same arrays m n (λ a. true) y c (λ b called. agree y b c (x, at, stands, indexed) called))))
