-- Two states that differ in names that aren't a source's own: an expression of own names gives the same in both, and
-- ends both in the same way, under every fault.
use Rattle.std.proofs.Common.{◌≡◌, ℕ, Bool, true, false, cond, if◌then◌else◌, nat_lt, List, [], ◌∷◌, ◌++◌, length, ℤ, pos, Option, Some, None, refl, ap, ◌∙◌, subst}
use Rattle.c_tree.specs.Plain.{Word, PlainExpr, lit, var, cell, un, bin, cast, test, umin, umax, least, greatest, widen, big, PlainExprs, no_exprs, more_exprs}
use Rattle.c_tree.specs.Kinds.{is_signed, is_word}
use Rattle.c_tree.specs.Values.{Vars, signed, as_word, word_un, word_bin, word_holds, as_bit, kind}
use Rattle.c_tree.specs.Arrays.{Array, Memory, array_named, is_within}
use Rattle.c_tree.specs.Fault.{Upset, disturbed}
use Rattle.c_tree.specs.Run.{Event, State, End, Outcome, goes_on, ends, Run, ◌>>=◌, and_then, give, end_as, Scope, loads, logged, within, struck, word, coordinates}
use Rattle.c_tree.specs.Run as run

module _ (own : Word → Bool) where
  pub record Alike (s u : State) : Type 0 where
    pub memory : s.memory ≡ u.memory
    pub accesses : s.accesses ≡ u.accesses
    pub begun : s.begun ≡ u.begun
    pub words : (x : Word) → own x ≡ true → s.words x ≡ u.words x

  -- both go on with the same, or both end in the same way
  abbrev pub Both : {A : Type 0} → Outcome A → Outcome A → Type 0
  Both (goes_on a s) (goes_on b u) = (a ≡ b) × Alike s u
  Both (ends e s) (ends f u) = (e ≡ f) × Alike s u
  Both (goes_on a s) (ends f u) = ⊥
  Both (ends e s) (goes_on b u) = ⊥

  pub both_then : {A B : Type 0} (o q : Outcome A) (f g : A → Run B) → Both o q →
      ((a b : A) (s u : State) → a ≡ b → Alike s u → Both (f a s) (g b u)) → Both (and_then o f) (and_then q g)
  both_then (goes_on a s) (goes_on b u) f g h k = k a b s u h.0 h.1
  both_then (ends e s) (ends z u) f g h k = h
  both_then (goes_on a s) (ends z u) f g h k = absurd h
  both_then (ends e s) (goes_on b u) f g h k = absurd h

  -- ---- accesses

  -- where a test decides in both, it decides alike
  choice_alike : (b c : Bool) (s t u v : State) → b ≡ c → Alike s u → Alike t v → Alike (cond b s t) (cond c u v)
  choice_alike true true s t u v e h k = h
  choice_alike false false s t u v e h k = k
  choice_alike true false s t u v e h k = absurd (let g : true ≡ false = e in cc)
  choice_alike false true s t u v e h k = absurd (let g : false ≡ true = e in cc)

  -- a fault strikes both or neither
  pub struck_alike : (f : Option Upset) (s u : State) → Alike s u → Alike (struck f s) (struck f u)
  struck_alike None s u h = h
  struck_alike (Some f) s u h = choice_alike s.begun u.begun (record s { memory = disturbed (Some f) (length s.accesses) s.memory }) s (record u { memory = disturbed (Some f) (length u.accesses) u.memory }) u h.begun
      (record {
        memory = ap (λ (l : List Event). disturbed (Some f) (length l) s.memory) h.accesses ∙ ap (λ (m : Memory). disturbed (Some f) (length u.accesses) m) h.memory;
        accesses = h.accesses;
        begun = h.begun;
        words = h.words;
      }) h

  pub logged_alike : (a : ℕ) (cs : List ℤ) (w : Bool) (n k : ℕ) (s u : State) → n ≡ k → Alike s u → Alike (logged a cs w n s) (logged a cs w k u)
  logged_alike a cs w n k s u e h =
      let event : ℕ → Event = λ n. record { access = record { array = a; cell = cs; writes = w }; value = n } in
      choice_alike s.begun u.begun (record s { accesses = s.accesses ++ event n ∷ [] }) s (record u { accesses = u.accesses ++ event k ∷ [] }) u h.begun
      (record { memory = h.memory; accesses = ap (λ (l : List Event). l ++ event n ∷ []) h.accesses ∙ ap (λ n. u.accesses ++ event n ∷ []) e; begun = h.begun; words = h.words }) h

  pub load_alike : (sc : Scope) (a : ℕ) (cs : List ℤ) (s u : State) → Alike s u → Both (loads sc a cs s) (loads sc a cs u)
  load_alike sc a cs s u h =
      let k = struck_alike sc.fault s u h in
      let e : (struck sc.fault s).memory a cs ≡ (struck sc.fault u).memory a cs = ap (λ (m : Memory). m a cs) k.memory in
      (e, logged_alike a cs false _ _ (struck sc.fault s) (struck sc.fault u) e k)

  -- ---- expressions

  abbrev mutual
    pub IsOwn : Scope → PlainExpr → Type 0
    IsOwn sc (lit n) = Unit {0}
    IsOwn sc (var x) = own x ≡ true
    IsOwn sc (cell x at) = ((a : ℕ × Array) × (array_named sc.arrays x ≡ Some a)) × AreOwn sc at
    IsOwn sc (un op a) = IsOwn sc a
    IsOwn sc (bin op a b) = IsOwn sc a × IsOwn sc b
    IsOwn sc (cast a) = IsOwn sc a
    IsOwn sc (test rel a b) = IsOwn sc a × IsOwn sc b
    IsOwn sc (umin a b) = IsOwn sc a × IsOwn sc b
    IsOwn sc (umax a b) = IsOwn sc a × IsOwn sc b
    IsOwn sc (least a b) = Unit {0}
    IsOwn sc (greatest a b) = Unit {0}
    IsOwn sc (widen a) = Unit {0}
    IsOwn sc (big high low) = Unit {0}

    pub AreOwn : Scope → PlainExprs → Type 0
    AreOwn sc no_exprs = Unit {0}
    AreOwn sc (more_exprs e es) = IsOwn sc e × AreOwn sc es

  chosen_alike : {A : Type 0} (b : Bool) (p q : Run A) (s u : State) → Both (p s) (p u) → Both (q s) (q u) → Both ((if b then p else q) s) ((if b then p else q) u)
  chosen_alike true p q s u h k = h
  chosen_alike false p q s u h k = k

  within_alike : (sc : Scope) (a : ℕ × Array) (cs ds : List ℤ) (s u : State) → cs ≡ ds → Alike s u → Both (within a cs (loads sc) s) (within a ds (loads sc) u)
  within_alike sc a cs ds s u e h = subst (λ (ds : List ℤ). Both (within a cs (loads sc) s) (within a ds (loads sc) u)) e
      (chosen_alike (is_within cs a.1.extents) (loads sc a.0 cs) (end_as (run.outside a.0)) s u (load_alike sc a.0 cs s u h) (refl, h))

  two_alike : (f : ℕ → ℕ → ℕ) (p q : Run ℕ) (s u : State) → Both (p s) (p u) → ((t v : State) → Alike t v → Both (q t) (q v)) →
      Both ((p >>= (λ x. q >>= (λ y. give (f x y)))) s) ((p >>= (λ x. q >>= (λ y. give (f x y)))) u)
  two_alike f p q s u h k = both_then (p s) (p u) _ _ h (λ x x' t v e a. both_then (q t) (q v) _ _ (k t v a) (λ y y' t' v' e' a'. (ap (λ x. f x y) e ∙ ap (f x') e', a')))

  mutual
    pub word_alike : (sc : Scope) (e : PlainExpr) (vs : Vars) (s u : State) → IsOwn sc e → Alike s u → Both (word sc e vs s) (word sc e vs u)
    word_alike sc (lit n) vs s u o h = (refl, h)
    word_alike sc (var x) vs s u o h = (h.words x o, h)
    word_alike sc (cell x at) vs s u o h = rw o.0.1 (both_then (coordinates sc at vs s) (coordinates sc at vs u) _ _ (coordinates_alike sc at vs s u o.1 h) (λ cs ds t v e a. within_alike sc o.0.0 cs ds t v e a))
    word_alike sc (un op a) vs s u o h = both_then (word sc a vs s) (word sc a vs u) _ _ (word_alike sc a vs s u o h) (λ x y t v e a. (ap (word_un op) e, a))
    word_alike sc (bin op a b) vs s u o h = two_alike (word_bin op) (word sc a vs) (word sc b vs) s u (word_alike sc a vs s u o.0 h) (λ t v k. word_alike sc b vs t v o.1 k)
    word_alike sc (cast a) vs s u o h = chosen_alike (is_signed (kind vs a)) (give (as_word (signed a vs))) (word sc a vs) s u (refl, h) (word_alike sc a vs s u o h)
    word_alike sc (test rel a b) vs s u o h = two_alike (λ x y. as_bit (word_holds rel x y)) (word sc a vs) (word sc b vs) s u (word_alike sc a vs s u o.0 h) (λ t v k. word_alike sc b vs t v o.1 k)
    word_alike sc (umin a b) vs s u o h = two_alike (λ x y. if nat_lt x y then x else y) (word sc a vs) (word sc b vs) s u (word_alike sc a vs s u o.0 h) (λ t v k. word_alike sc b vs t v o.1 k)
    word_alike sc (umax a b) vs s u o h = two_alike (λ x y. if nat_lt x y then y else x) (word sc a vs) (word sc b vs) s u (word_alike sc a vs s u o.0 h) (λ t v k. word_alike sc b vs t v o.1 k)
    word_alike sc (least a b) vs s u o h = (refl, h)
    word_alike sc (greatest a b) vs s u o h = (refl, h)
    word_alike sc (widen a) vs s u o h = (refl, h)
    word_alike sc (big high low) vs s u o h = (refl, h)

    pub coordinates_alike : (sc : Scope) (es : PlainExprs) (vs : Vars) (s u : State) → AreOwn sc es → Alike s u → Both (coordinates sc es vs s) (coordinates sc es vs u)
    coordinates_alike sc no_exprs vs s u o h = (refl, h)
    coordinates_alike sc (more_exprs e es) vs s u o h =
        let one : Run ℤ = if is_word (kind vs e) then word sc e vs >>= (λ n. give (pos n)) else give (signed e vs) in
        both_then (one s) (one u) _ _
        (chosen_alike (is_word (kind vs e)) (word sc e vs >>= (λ n. give (pos n))) (give (signed e vs)) s u
        (both_then (word sc e vs s) (word sc e vs u) _ _ (word_alike sc e vs s u o.0 h) (λ n k t v e a. (ap pos e, a))) (refl, h))
        (λ c d t v e a. both_then (coordinates sc es vs t) (coordinates sc es vs v) _ _ (coordinates_alike sc es vs t v o.1 a) (λ cs ds t' v' e' a'. (ap (λ c. c ∷ cs) e ∙ ap (λ cs. d ∷ cs) e', a')))
