-- Marks of the numbers of a list.
use Rattle.std.proofs.Common.{◌≡◌, ℕ, zero, suc, ◌+◌, ◌<◌, List, [], ◌∷◌, ◌++◌, length, get_or, take, drop, set, replicate, Bool, true, false, ◌||◌, cond, nat_eq, slice_get, Some, refl, sym, ap, ◌∙◌, arith, append_assoc, length-set}
use Rattle.std.proofs.lemmas.Bool.{eqb-true}
use Rattle.std.proofs.lemmas.Bool.Decides.{nat_tests}
use Rattle.std.proofs.lemmas.List.{at_drop_more, length-replicate}
use Rattle.std.specs.List.{list_any}
use Rattle.c_tree.specs.declared.frame.ArrayInfo.{ArrayInfo}
use Rattle.data_file.specs.Texts.{AreMarks, names_among}
use Rattle.data_file.proofs.TextLaws.{get-set, get-set_other}

all_false : (n k : ℕ) → k < n → slice_get (replicate n false) k ≡ Some false
all_false zero k h = absurd (omega arith)
all_false (suc n) zero h = refl
all_false (suc n) (suc k) h = all_false n k (omega arith)

pub no_marks : (n : ℕ) (marks : List Bool) → marks ≡ replicate n false → AreMarks [] n marks
no_marks n marks e = record {
  size = ap length e ∙ length-replicate n false;
  each = λ k lt. ap (λ z. slice_get z k) e ∙ all_false n k lt;
}

any_next : (k : ℕ) (ks : List ℕ) (i : ℕ) → i < length ks → list_any (nat_eq k) (take (i + 1) ks) ≡ (list_any (nat_eq k) (take i ks) || nat_eq k (get_or ks i 0))
any_next k [] i h = absurd (omega arith)
any_next k (n ∷ ks) zero h = at (nat_eq k n) where
  at : (v : Bool) → (v || false) ≡ v
  at true = refl
  at false = refl
any_next k (n ∷ ks) (suc i) h =
    let next : suc i + 1 ≡ suc (i + 1) = omega arith in
    ap (λ m. list_any (nat_eq k) (take m (n ∷ ks))) next ∙ ap (λ v. nat_eq k n || v) (any_next k ks i (omega arith)) ∙ at (nat_eq k n) (list_any (nat_eq k) (take i ks)) (nat_eq k (get_or ks i 0))
  where
    at : (x y z : Bool) → (x || (y || z)) ≡ ((x || y) || z)
    at true y z = refl
    at false y z = refl

or_true : (v : Bool) → (v || true) ≡ true
or_true true = refl
or_true false = refl

or_false : (v : Bool) → (v || false) ≡ v
or_false true = refl
or_false false = refl

module _ (ks : List ℕ) (count i n : ℕ) (marks : List Bool) (before : AreMarks (take i ks) count marks) (within : i < length ks) (is : n ≡ get_or ks i 0) where
  pub marked : AreMarks (take (i + 1) ks) count (set marks n true)
  marked = record { size = length-set marks n true ∙ before.size; each = λ k below. each_by k below (nat_eq k n) refl } where
    each_by : (k : ℕ) → k < count → (v : Bool) → nat_eq k n ≡ v → slice_get (set marks n true) k ≡ Some (list_any (nat_eq k) (take (i + 1) ks))
    each_by k below true e =
        let same : k ≡ n = eqb-true k n e in
        let here : slice_get (set marks n true) k ≡ Some true = ap (slice_get (set marks n true)) same ∙ get-set marks n true (omega (arith, before.size, same, below)) in
        let now : list_any (nat_eq k) (take (i + 1) ks) ≡ true =
        any_next k ks i within ∙ ap (λ m. list_any (nat_eq k) (take i ks) || nat_eq k m) (sym is) ∙ ap (λ v. list_any (nat_eq k) (take i ks) || v) e ∙ or_true (list_any (nat_eq k) (take i ks)) in
        here ∙ ap (λ (v : Bool). Some v) (sym now)
    each_by k below false e =
        let now : list_any (nat_eq k) (take (i + 1) ks) ≡ list_any (nat_eq k) (take i ks) =
        any_next k ks i within ∙ ap (λ m. list_any (nat_eq k) (take i ks) || nat_eq k m) (sym is) ∙ ap (λ v. list_any (nat_eq k) (take i ks) || v) e ∙ or_false (list_any (nat_eq k) (take i ks)) in
        get-set_other marks n k true (grind (arith, nat_tests)) ∙ before.each k below ∙ ap (λ (v : Bool). Some v) (sym now)

-- one array more
pub name_more : (ks : List ℕ) (arrays : List ArrayInfo) (marks : List Bool) (k : ℕ) (a : ArrayInfo) (m : Bool) (out next whole : List ℕ)
    → AreMarks ks (length arrays) marks → k < length arrays → a ≡ get_or arrays k a → slice_get marks k ≡ Some m
    → next ≡ out ++ cond m (32 ∷ a.name.bytes) [] → out ++ names_among ks k (drop k arrays) ≡ whole → next ++ names_among ks (k + 1) (drop (k + 1) arrays) ≡ whole
name_more ks arrays marks k a m out next whole are within is mark made h =
    let rest = names_among ks (k + 1) (drop (k + 1) arrays) in
    let same : Some m ≡ Some (list_any (nat_eq k) ks) = sym mark ∙ are.each k within in
    let test : m ≡ list_any (nat_eq k) ks = cc in
    let first : names_among ks k (drop k arrays) ≡ cond (list_any (nat_eq k) ks) (32 ∷ (get_or arrays k a).name.bytes) [] ++ rest = at_drop_more (names_among ks k) arrays k a within in
    let here : cond (list_any (nat_eq k) ks) (32 ∷ (get_or arrays k a).name.bytes) [] ≡ cond m (32 ∷ a.name.bytes) [] =
    ap (λ (b : ArrayInfo). cond (list_any (nat_eq k) ks) (32 ∷ b.name.bytes) []) (sym is) ∙ ap (λ v. cond v (32 ∷ a.name.bytes) []) (sym test) in
    ap (λ t. t ++ rest) made ∙ append_assoc out (cond m (32 ∷ a.name.bytes) []) rest ∙ ap (λ t. out ++ t) (sym (first ∙ ap (λ t. t ++ rest) here)) ∙ h
