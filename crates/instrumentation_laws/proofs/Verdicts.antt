-- The end of a run: what its verdict says of the totals, and what a fault at the end leaves.
use Rattle.std.proofs.Common.{◌≡◌, ◌≢◌, ℕ, suc, ◌+◌, ◌<◌, ◌≤◌, Bool, true, false, cond, not, ◌&&◌, List, [], ◌∷◌, length, refl, sym, ap, ◌∙◌, subst, arith, ℤ, Option, Some, None, nat_eq, nat_le, eq-eqb, inl, inr}
use Rattle.std.proofs.lemmas.Bool.{cases_eq, ne_eqb}
use Rattle.c_tree.specs.Arrays.{Array, Memory}
use Rattle.c_tree.specs.Accesses.{Access}
use Rattle.c_tree.specs.Fault.{Upset, inverted}
use Rattle.c_tree.specs.Run.{Event, State, unbalanced, totals_of, struck_at_end}
use Rattle.balance_laws.specs.Totals as totals
use Rattle.instrumentation.specs.Names.{use_total, definition_total}
use Rattle.instrumentation_laws.specs.TextLaws.{Same}
use Rattle.instrumentation_laws.specs.UnitLaws.{differing, totals_over}

-- ---- the verdict

cond_not : {A : Type 0} (b : Bool) (x y : A) → cond (not b) x y ≡ cond b y x
cond_not true x y = refl
cond_not false x y = refl

pub unbalanced_is : (t : State) (k : ℕ) (arrays : List Array) → unbalanced t k arrays ≡ differing k (totals_of t k arrays)
unfolding use_total definition_total
unbalanced_is t k [] = refl
unbalanced_is t k (a ∷ more) =
    cond_not (nat_eq (t.wides (definition_total k)) (t.wides (use_total k))) (k ∷ unbalanced t (suc k) more) (unbalanced t (suc k) more) ∙
    ap (λ l. cond (nat_eq (t.wides (definition_total k)) (t.wides (use_total k))) l (k ∷ l)) (unbalanced_is t (suc k) more)

pub none_unbalanced : (t : State) (arrays : List Array) (k : ℕ) → ((a : ℕ) → k ≤ a → a < k + length arrays → t.wides (use_total a) ≡ t.wides (definition_total a)) → unbalanced t k arrays ≡ []
unfolding use_total definition_total
none_unbalanced t [] k h = refl
none_unbalanced t (a ∷ more) k h =
    let same : nat_eq (t.wides (definition_total k)) (t.wides (use_total k)) ≡ true = eq-eqb (t.wides (definition_total k)) (t.wides (use_total k)) (sym (h k (omega arith) (omega arith))) in
    ap (λ b. cond (not b) (k ∷ unbalanced t (suc k) more) (unbalanced t (suc k) more)) same ∙ none_unbalanced t more (suc k) (λ a low high. h a (omega arith) (omega arith))

pub one_unbalanced : (t : State) (arrays : List Array) (k a : ℕ) → k ≤ a → a < k + length arrays → t.wides (use_total a) ≢ t.wides (definition_total a) →
    ((b : ℕ) → k ≤ b → b < k + length arrays → b ≢ a → t.wides (use_total b) ≡ t.wides (definition_total b)) → unbalanced t k arrays ≡ a ∷ []
unfolding use_total definition_total
one_unbalanced t [] k a low high ne h = absurd (omega arith)
one_unbalanced t (x ∷ more) k a low high ne h = elim (cases_eq k a) [
  | inl e ↦ (
      let differ : nat_eq (t.wides (definition_total k)) (t.wides (use_total k)) ≡ false =
      ne_eqb (t.wides (definition_total k)) (t.wides (use_total k)) (λ g. ne (subst (λ n. t.wides (use_total n) ≡ t.wides (definition_total n)) e (sym g))) in
      ap (λ b. cond (not b) (k ∷ unbalanced t (suc k) more) (unbalanced t (suc k) more)) differ ∙
      ap (λ l. k ∷ l) (none_unbalanced t more (suc k) (λ b lo hi. h b (omega arith) (omega arith) (omega arith))) ∙ ap (λ n. n ∷ []) e)
  | inr other ↦ (
      let same : nat_eq (t.wides (definition_total k)) (t.wides (use_total k)) ≡ true =
      eq-eqb (t.wides (definition_total k)) (t.wides (use_total k)) (sym (h k (omega arith) (omega arith) other)) in
      ap (λ b. cond (not b) (k ∷ unbalanced t (suc k) more) (unbalanced t (suc k) more)) same ∙
      one_unbalanced t more (suc k) a (omega arith) (omega arith) ne (λ b lo hi n. h b (omega arith) (omega arith) n))
]

pub totals_are : (t : State) (list : List Access) (extents : ℕ → List ℤ) (inputs : Memory) (values : ℕ → ℕ) (arrays : List Array) (k : ℕ) →
    ((a : ℕ) → k ≤ a → a < k + length arrays → (t.wides (definition_total a) ≡ totals.definition_total list extents inputs values a) × (t.wides (use_total a) ≡ totals.use_total list values a)) →
    totals_of t k arrays ≡ totals_over list extents inputs values k arrays
unfolding use_total definition_total
totals_are t list extents inputs values [] k h = refl
totals_are t list extents inputs values (x ∷ more) k h =
    let here = h k (omega arith) (omega arith) in
    let rest = totals_of t (suc k) more in
    ap (λ d. (d, t.wides (use_total k)) ∷ rest) here.0 ∙
    ap (λ n. (totals.definition_total list extents inputs values k, n) ∷ rest) here.1 ∙
    ap (λ l. (totals.definition_total list extents inputs values k, totals.use_total list values k) ∷ l)
    (totals_are t list extents inputs values more (suc k) (λ a low high. h a (omega arith) (omega arith)))

-- ---- the fault at the end

-- it changes the memory alone
pub end_is : (fault : Option Upset) (t : State) → (m : Memory) × (struck_at_end fault t ≡ record t { memory = m })
end_is None t = (t.memory, refl)
end_is (Some f) t = chosen (t.begun && nat_le (length t.accesses) f.place)
  where
    chosen : (b : Bool) → (m : Memory) × (cond b (record t { memory = inverted f t.memory }) t ≡ record t { memory = m })
    chosen true = (inverted f t.memory, refl)
    chosen false = (t.memory, refl)

-- and that of a text as that of its source
pub end_memory : (fault : Option Upset) (s u : State) → Same s u → (struck_at_end fault u).memory ≡ (struck_at_end fault s).memory
end_memory None s u h = h.memory
end_memory (Some f) s u h =
    let late : (u.begun && nat_le (length u.accesses) f.place) ≡ (s.begun && nat_le (length s.accesses) f.place) =
    ap (λ b. b && nat_le (length u.accesses) f.place) h.begun ∙ ap (λ (l : List Event). s.begun && nat_le (length l) f.place) h.accesses in
    chosen (u.begun && nat_le (length u.accesses) f.place) (s.begun && nat_le (length s.accesses) f.place) late
  where
    chosen : (b c : Bool) → b ≡ c → (cond b (record u { memory = inverted f u.memory }) u).memory ≡ (cond c (record s { memory = inverted f s.memory }) s).memory
    chosen true true e = ap (inverted f) h.memory
    chosen false false e = h.memory
    chosen true false e = absurd (let g : true ≡ false = e in cc)
    chosen false true e = absurd (let g : false ≡ true = e in cc)
