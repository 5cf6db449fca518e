-- Two runs in step: both go on in related states, or both end at one array in alike states, the source outside it and the text so or at a check.
use Rattle.std.proofs.Common.{◌≡◌, ◌⊎◌, inl, ℕ, Bool, true, false, if◌then◌else◌, List, refl, ap, ◌∙◌, ℤ}
use Rattle.c_tree.specs.Arrays.{Array, Memory, stored, is_within}
use Rattle.c_tree.specs.Run.{Event, State, End, Outcome, goes_on, ends, outside, index, Run, and_then, Scope, loads, stores, struck, logged, within}
use Rattle.instrumentation_laws.proofs.Steps.{struck_is, logged_is}
use Rattle.run_laws.proofs.Alike.{Alike, load_alike, struck_alike, logged_alike}
use Rattle.instrumentation_laws.specs.OwnNames.{own}

-- the source ends outside an array, and the text outside it or, where it is inspected, at a check of an index of it
abbrev pub EndsAt : (ℕ → Bool) → End → End → Type 0
EndsAt inspected e f = (a : ℕ) × (e ≡ outside a) × ((f ≡ outside a) ⊎ ((f ≡ index a) × (inspected a ≡ true)))

-- both go on, as R says, or both end at one array in alike states
abbrev pub Like : {A B : Type 0} → (ℕ → Bool) → (A → State → B → State → Type 0) → Outcome A → Outcome B → Type 0
Like inspected R (goes_on a s) (goes_on b u) = R a s b u
Like inspected R (ends e s) (ends f u) = EndsAt inspected e f × Alike own s u
Like inspected R (goes_on a s) (ends f u) = ⊥
Like inspected R (ends e s) (goes_on b u) = ⊥

pub like_then : {A B C D : Type 0} (inspected : ℕ → Bool) (R : A → State → B → State → Type 0) (Q : C → State → D → State → Type 0) (o : Outcome A) (q : Outcome B) (f : A → Run C) (g : B → Run D) → Like inspected R o q →
    ((a : A) (s : State) (b : B) (u : State) → R a s b u → Like inspected Q (f a s) (g b u)) → Like inspected Q (and_then o f) (and_then q g)
like_then inspected R Q (goes_on a s) (goes_on b u) f g r h = h a s b u r
like_then inspected R Q (ends e s) (ends z u) f g r h = r
like_then inspected R Q (goes_on a s) (ends z u) f g r h = absurd r
like_then inspected R Q (ends e s) (goes_on b u) f g r h = absurd r

-- a step of the first run alone, which goes on in the same state
pub like_first : {A B C : Type 0} (inspected : ℕ → Bool) (R : A → State → B → State → Type 0) (Q : C → State → B → State → Type 0) (o : Outcome A) (q : Outcome B) (f : A → C) → Like inspected R o q →
    ((a : A) (s : State) (b : B) (u : State) → R a s b u → Q (f a) s b u) → Like inspected Q (and_then o (λ a s. goes_on (f a) s)) q
like_first inspected R Q (goes_on a s) (goes_on b u) f r h = h a s b u r
like_first inspected R Q (ends e s) (ends z u) f r h = r
like_first inspected R Q (goes_on a s) (ends z u) f r h = absurd r
like_first inspected R Q (ends e s) (goes_on b u) f r h = absurd r

pub like_weaker : {A B : Type 0} (inspected : ℕ → Bool) (R Q : A → State → B → State → Type 0) (o : Outcome A) (q : Outcome B) → Like inspected R o q → ((a : A) (s : State) (b : B) (u : State) → R a s b u → Q a s b u) → Like inspected Q o q
like_weaker inspected R Q (goes_on a s) (goes_on b u) r h = h a s b u r
like_weaker inspected R Q (ends e s) (ends z u) r h = r
like_weaker inspected R Q (goes_on a s) (ends z u) r h = absurd r
like_weaker inspected R Q (ends e s) (goes_on b u) r h = absurd r

-- a step of the second run alone
pub like_second : {A B D : Type 0} (inspected : ℕ → Bool) (R : A → State → B → State → Type 0) (Q : A → State → D → State → Type 0) (o : Outcome A) (q : Outcome B) (g : B → State → D) (to : B → State → State) → Like inspected R o q →
    ((a : A) (s : State) (b : B) (u : State) → R a s b u → Q a s (g b u) (to b u)) → Like inspected Q o (and_then q (λ b u. goes_on (g b u) (to b u)))
like_second inspected R Q (goes_on a s) (goes_on b u) g to r h = h a s b u r
like_second inspected R Q (ends e s) (ends z u) g to r h = r
like_second inspected R Q (goes_on a s) (ends z u) g to r h = absurd r
like_second inspected R Q (ends e s) (goes_on b u) g to r h = absurd r

-- ---- accesses

abbrev pub SameValue : State → ℕ → State → ℕ → State → Type 0
SameValue u a s b t = (a ≡ b) × Alike own s t × (t.words ≡ u.words)

load_words : (sc : Scope) (a : ℕ) (cs : List ℤ) (u : State) → (logged a cs false ((struck sc.fault u).memory a cs) (struck sc.fault u)).words ≡ u.words
load_words sc a cs u =
    let k : (m : Memory) × (struck sc.fault u ≡ record u { memory = m }) = struck_is sc.fault u in
    let l : (l : List Event) × (logged a cs false ((struck sc.fault u).memory a cs) (struck sc.fault u) ≡ record (struck sc.fault u) { accesses = l }) = logged_is a cs false ((struck sc.fault u).memory a cs) (struck sc.fault u) in
    ap (λ (t : State). t.words) l.1 ∙ ap (λ (t : State). t.words) k.1

pub within_load : (inspected : ℕ → Bool) → (sc : Scope) (a : ℕ × Array) (cs : List ℤ) (s u : State) → Alike own s u → Like inspected (SameValue u) (within a cs (loads sc) s) (within a cs (loads sc) u)
within_load inspected sc a cs s u h = chosen (is_within cs a.1.extents)
  where
    chosen : (b : Bool) → Like inspected (SameValue u) ((if b then loads sc a.0 cs else (λ s. ends (outside a.0) s)) s) ((if b then loads sc a.0 cs else (λ s. ends (outside a.0) s)) u)
    chosen true = let k = load_alike own sc a.0 cs s u h in (k.0, k.1, load_words sc a.0 cs u)
    chosen false = ((a.0, refl, inl refl), h)

abbrev pub Agree : Unit {0} → State → Unit {0} → State → Type 0
Agree a s b u = Alike own s u

store_alike : (inspected : ℕ → Bool) → (sc : Scope) (a : ℕ) (cs : List ℤ) (n : ℕ) (s u : State) → Alike own s u → Like inspected Agree (stores sc a cs n s) (stores sc a cs n u)
store_alike inspected sc a cs n s u h =
    let k = struck_alike own sc.fault s u h in
    logged_alike own a cs true n n (record (struck sc.fault s) { memory = stored (struck sc.fault s).memory a cs n }) (record (struck sc.fault u) { memory = stored (struck sc.fault u).memory a cs n }) refl
    (record { memory = ap (λ (m : Memory). stored m a cs n) k.memory; accesses = k.accesses; begun = k.begun; words = k.words })

pub within_store : (inspected : ℕ → Bool) → (sc : Scope) (a : ℕ × Array) (cs : List ℤ) (n : ℕ) (s u : State) → Alike own s u → Like inspected Agree (within a cs (λ k c. stores sc k c n) s) (within a cs (λ k c. stores sc k c n) u)
within_store inspected sc a cs n s u h = chosen (is_within cs a.1.extents)
  where
    chosen : (b : Bool) → Like inspected Agree ((if b then stores sc a.0 cs n else (λ s. ends (outside a.0) s)) s) ((if b then stores sc a.0 cs n else (λ s. ends (outside a.0) s)) u)
    chosen true = store_alike inspected sc a.0 cs n s u h
    chosen false = ((a.0, refl, inl refl), h)
