-- Expressions, tests and assignments change nothing but the memory, the log and their target: what a relation of states says that these are nothing to.
use Rattle.std.proofs.Common.{◌≡◌, ◌≢◌, ℕ, ◌+◌, ◌*◌, ◌^◌, nat_lt, Bool, true, false, cond, if◌then◌else◌, List, [], ◌∷◌, sym, subst, ℤ, pos, Option, Some, None}
use Rattle.std.specs.Prelude.{bytes_eq, slice_index, slice_set}
use Rattle.std.specs.List.{list_any}
use Rattle.c_tree.specs.Plain.{PlainExpr, lit, var, cell, un, bin, cast, test, umin, umax, least, greatest, widen, big, PlainExprs, no_exprs, more_exprs, PlainTest}
use Rattle.c_tree.specs.Values.{Vars, signed, signed_holds, kind, as_word, as_wide, as_bit, word_holds, word_un, word_bin, wide_bin}
use Rattle.c_tree.specs.Kinds.{join, is_signed, is_word}
use Rattle.c_tree.specs.Arrays.{Array, Memory, stored, array_named, is_within}
use Rattle.c_tree.specs.Fault.{Upset}
use Rattle.c_tree.specs.Run.{Event, State, Outcome, goes_on, ends, plain, outside, Run, and_then, ◌>>=◌, give, put, Scope, struck, logged, loads, stores, within, by_array, word, coordinates, first_word, wide, updated, set_word, set_wide, set_entry, assigned, holds, all_hold}
use Rattle.c_tree.specs.Run as run
use Rattle.c_tree.specs.declared.expr.BinOp.{BinOp}
use Rattle.instrumentation_laws.proofs.Steps.{struck_is, logged_is}

-- where it goes on and where it ends, the state is such a one, and no end is plain
abbrev pub Arrives : {A : Type 0} → (State → Type 0) → Outcome A → Type 0
Arrives P (goes_on a t) = P t
Arrives P (ends e t) = P t × (e ≢ plain)

-- states that are the same but for memory and log are such, and such steps join
pub record Ignores (R : State → State → Type 0) : Type 0 where
  pub none : (s : State) → R s s
  pub after : (s t u : State) → R s t → R t u → R s u
  pub memory : (m : Memory) (s : State) → R s (record s { memory = m })
  pub log : (l : List Event) (s : State) → R s (record s { accesses = l })

pub arrives_then : {A B : Type 0} (P Q : State → Type 0) (o : Outcome A) (f : A → Run B) → Arrives P o → ((t : State) → P t → Q t) → ((a : A) (t : State) → P t → Arrives Q (f a t)) → Arrives Q (and_then o f)
arrives_then P Q (goes_on a t) f p w h = h a t p
arrives_then P Q (ends e t) f p w h = (w t p.0, p.1)

pub arrives_weaker : {A : Type 0} (P Q : State → Type 0) (o : Outcome A) → ((t : State) → P t → Q t) → Arrives P o → Arrives Q o
arrives_weaker P Q (goes_on a t) h p = h t p
arrives_weaker P Q (ends e t) h p = (h t p.0, p.1)

module _ (R : State → State → Type 0) (ignores : Ignores R) where
  -- a run leads from every state to such a one
  abbrev pub Leads : {A : Type 0} → Run A → Type 0
  Leads p = (s : State) → Arrives (R s) (p s)

  leads_then : {A B : Type 0} (p : Run A) (f : A → Run B) → Leads p → ((a : A) → Leads (f a)) → Leads (p >>= f)
  leads_then p f h g s = arrives_then (R s) (R s) (p s) f (h s) (λ t k. k) (λ a t k. arrives_weaker (R t) (R s) (f a t) (λ u l. ignores.after s t u k l) (g a t))

  leads_if : {A : Type 0} (b : Bool) (p q : Run A) → Leads p → Leads q → Leads (cond b p q)
  leads_if true p q h g = h
  leads_if false p q h g = g

  leads_give : {A : Type 0} (f : State → A) → Leads (λ s. goes_on (f s) s)
  leads_give f s = ignores.none s

  same_struck : (fault : Option Upset) (s : State) → R s (struck fault s)
  same_struck fault s = let k : (m : Memory) × (struck fault s ≡ record s { memory = m }) = struck_is fault s in subst (R s) (sym k.1) (ignores.memory k.0 s)

  same_logged : (a : ℕ) (cs : List ℤ) (w : Bool) (n : ℕ) (s : State) → R s (logged a cs w n s)
  same_logged a cs w n s = let k : (l : List Event) × (logged a cs w n s ≡ record s { accesses = l }) = logged_is a cs w n s in subst (R s) (sym k.1) (ignores.log k.0 s)

  leads_loads : (sc : Scope) (a : ℕ) (cs : List ℤ) → Leads (loads sc a cs)
  leads_loads sc a cs s = let t : State = struck sc.fault s in ignores.after s t _ (same_struck sc.fault s) (same_logged a cs false (t.memory a cs) t)

  leads_stores : (sc : Scope) (a : ℕ) (cs : List ℤ) (n : ℕ) → Leads (stores sc a cs n)
  leads_stores sc a cs n s =
      let t : State = struck sc.fault s in
      let u : State = record t { memory = stored t.memory a cs n } in
      ignores.after s u _ (ignores.after s t u (same_struck sc.fault s) (ignores.memory (stored t.memory a cs n) t)) (same_logged a cs true n u)

  leads_within : {A : Type 0} (a : ℕ × Array) (cs : List ℤ) (go : ℕ → List ℤ → Run A) → Leads (go a.0 cs) → Leads (within a cs go)
  leads_within a cs go h = leads_if (is_within cs a.1.extents) (go a.0 cs) (λ s. ends (outside a.0) s) h (λ s. (ignores.none s, λ e. absurd (let f : outside a.0 ≡ plain = e in cc)))

  leads_by_array : {A : Type 0} (o : Option (ℕ × Array)) (f : ℕ × Array → Run A) (t : Run A) → ((a : ℕ × Array) → Leads (f a)) → Leads t → Leads (by_array o f t)
  leads_by_array None f t h g = g
  leads_by_array (Some a) f t h g = h a

  leads_two : (p q : Run ℕ) (f : ℕ → ℕ → ℕ) → Leads p → Leads q → Leads (p >>= (λ x. q >>= (λ y. give (f x y))))
  leads_two p q f h g = leads_then p (λ x. q >>= (λ y. give (f x y))) h (λ x. leads_then q (λ y. give (f x y)) g (λ y. leads_give (λ s. f x y)))

  mutual
    pub leads_word : (sc : Scope) (e : PlainExpr) (vs : Vars) → Leads (word sc e vs)
    leads_word sc (lit n) vs = leads_give {A = ℕ} (λ s. n)
    leads_word sc (var x) vs = leads_give (λ s. s.words x)
    leads_word sc (cell x at) vs = leads_by_array (array_named sc.arrays x) (λ a. coordinates sc at vs >>= (λ cs. within a cs (loads sc))) (first_word sc at vs >>= (λ i. run.reads (λ s. slice_index (s.tables x) i)))
        (λ a. leads_then (coordinates sc at vs) (λ cs. within a cs (loads sc)) (leads_coordinates sc at vs) (λ cs. leads_within a cs (loads sc) (leads_loads sc a.0 cs)))
        (leads_then (first_word sc at vs) (λ i. run.reads (λ s. slice_index (s.tables x) i)) (leads_first sc at vs) (λ i. leads_give (λ s. slice_index (s.tables x) i)))
    leads_word sc (un op a) vs = leads_then (word sc a vs) (λ x. give (word_un op x)) (leads_word sc a vs) (λ x. leads_give (λ s. word_un op x))
    leads_word sc (bin op a b) vs = leads_two (word sc a vs) (word sc b vs) (word_bin op) (leads_word sc a vs) (leads_word sc b vs)
    leads_word sc (cast a) vs = leads_if (is_signed (kind vs a)) (give (as_word (signed a vs))) (word sc a vs) (leads_give (λ s. as_word (signed a vs))) (leads_word sc a vs)
    leads_word sc (test rel a b) vs = leads_two (word sc a vs) (word sc b vs) (λ x y. as_bit (word_holds rel x y)) (leads_word sc a vs) (leads_word sc b vs)
    leads_word sc (umin a b) vs = leads_two (word sc a vs) (word sc b vs) (λ x y. if nat_lt x y then x else y) (leads_word sc a vs) (leads_word sc b vs)
    leads_word sc (umax a b) vs = leads_two (word sc a vs) (word sc b vs) (λ x y. if nat_lt x y then y else x) (leads_word sc a vs) (leads_word sc b vs)
    leads_word sc (least a b) vs = leads_give {A = ℕ} (λ s. 0)
    leads_word sc (greatest a b) vs = leads_give {A = ℕ} (λ s. 0)
    leads_word sc (widen a) vs = leads_give {A = ℕ} (λ s. 0)
    leads_word sc (big high low) vs = leads_give {A = ℕ} (λ s. 0)

    leads_coordinates : (sc : Scope) (es : PlainExprs) (vs : Vars) → Leads (coordinates sc es vs)
    leads_coordinates sc no_exprs vs = leads_give {A = List ℤ} (λ s. [])
    leads_coordinates sc (more_exprs e es) vs =
        leads_then (if is_word (kind vs e) then word sc e vs >>= (λ n. give (pos n)) else give (signed e vs)) (λ c. coordinates sc es vs >>= (λ cs. give (c ∷ cs)))
        (leads_if (is_word (kind vs e)) (word sc e vs >>= (λ n. give (pos n))) (give (signed e vs)) (leads_then (word sc e vs) (λ n. give (pos n)) (leads_word sc e vs) (λ n. leads_give (λ s. pos n))) (leads_give (λ s. signed e vs)))
        (λ c. leads_then (coordinates sc es vs) (λ cs. give (c ∷ cs)) (leads_coordinates sc es vs) (λ cs. leads_give (λ s. c ∷ cs)))

    leads_first : (sc : Scope) (es : PlainExprs) (vs : Vars) → Leads (first_word sc es vs)
    leads_first sc no_exprs vs = leads_give {A = ℕ} (λ s. 0)
    leads_first sc (more_exprs e es) vs = leads_word sc e vs

  leads_wide : (sc : Scope) (e : PlainExpr) (vs : Vars) → Leads (wide sc e vs)
  leads_wide sc (lit n) vs = leads_give {A = ℕ} (λ s. n)
  leads_wide sc (var x) vs = leads_give (λ s. s.wides x)
  leads_wide sc (cell x at) vs = leads_give {A = ℕ} (λ s. 0)
  leads_wide sc (un op a) vs = leads_give {A = ℕ} (λ s. 0)
  leads_wide sc (bin op a b) vs = leads_two (wide sc a vs) (wide sc b vs) (wide_bin op) (leads_wide sc a vs) (leads_wide sc b vs)
  leads_wide sc (cast a) vs = leads_give {A = ℕ} (λ s. 0)
  leads_wide sc (test rel a b) vs = leads_give {A = ℕ} (λ s. 0)
  leads_wide sc (umin a b) vs = leads_give {A = ℕ} (λ s. 0)
  leads_wide sc (umax a b) vs = leads_give {A = ℕ} (λ s. 0)
  leads_wide sc (least a b) vs = leads_give {A = ℕ} (λ s. 0)
  leads_wide sc (greatest a b) vs = leads_give {A = ℕ} (λ s. 0)
  leads_wide sc (widen a) vs = leads_if (is_signed (kind vs a)) (give (as_wide (signed a vs))) (word sc a vs) (leads_give (λ s. as_wide (signed a vs))) (leads_word sc a vs)
  leads_wide sc (big high low) vs = leads_give {A = ℕ} (λ s. high * 2 ^ 64 + low)

  leads_updated : (f : BinOp → ℕ → ℕ → ℕ) (op : Option BinOp) (old new : Run ℕ) → Leads old → Leads new → Leads (updated f op old new)
  leads_updated f None old new h g = g
  leads_updated f (Some op) old new h g = leads_two old new (f op) h g

  leads_set : (f : State → State) → ((s : State) → R s (f s)) → Leads (λ s. goes_on (tt {0}) (f s))
  leads_set f h s = h s

  -- setting this target leads to such a state
  abbrev pub Sets : PlainExpr → Type 0
  Sets (var x) = ((n : ℕ) (s : State) → R s (record s { words = put s.words x n })) × ((n : ℕ) (s : State) → R s (record s { wides = put s.wides x n }))
  Sets (cell x at) = (i n : ℕ) (s : State) → R s (record s { tables = put s.tables x (slice_set (s.tables x) i n) })
  Sets _ = Unit {0}

  pub leads_assigned : (sc : Scope) (t : PlainExpr) (op : Option BinOp) (e : PlainExpr) (vs : Vars) → Sets t → Leads (assigned sc t op e vs)
  leads_assigned sc (var x) op e vs sets =
      leads_if (list_any (bytes_eq x) sc.wides) (updated wide_bin op (run.reads (λ s. s.wides x)) (wide sc e vs) >>= set_wide x) (updated word_bin op (run.reads (λ s. s.words x)) (word sc e vs) >>= set_word x)
      (leads_then (updated wide_bin op (run.reads (λ s. s.wides x)) (wide sc e vs)) (set_wide x) (leads_updated wide_bin op (run.reads (λ s. s.wides x)) (wide sc e vs) (leads_give (λ s. s.wides x)) (leads_wide sc e vs))
      (λ n. leads_set (λ s. record s { wides = put s.wides x n }) (sets.1 n)))
      (leads_then (updated word_bin op (run.reads (λ s. s.words x)) (word sc e vs)) (set_word x) (leads_updated word_bin op (run.reads (λ s. s.words x)) (word sc e vs) (leads_give (λ s. s.words x)) (leads_word sc e vs))
      (λ n. leads_set (λ s. record s { words = put s.words x n }) (sets.0 n)))
  leads_assigned sc (cell x at) op e vs sets =
      leads_by_array (array_named sc.arrays x)
      (λ a. coordinates sc at vs >>= (λ cs. updated word_bin op (within a cs (loads sc)) (word sc e vs) >>= (λ n. within a cs (λ k c. stores sc k c n))))
      (first_word sc at vs >>= (λ i. updated word_bin op (run.reads (λ s. slice_index (s.tables x) i)) (word sc e vs) >>= set_entry x i))
      (λ a. leads_then (coordinates sc at vs) (λ cs. updated word_bin op (within a cs (loads sc)) (word sc e vs) >>= (λ n. within a cs (λ k c. stores sc k c n))) (leads_coordinates sc at vs)
      (λ cs. leads_then (updated word_bin op (within a cs (loads sc)) (word sc e vs)) (λ n. within a cs (λ k c. stores sc k c n))
      (leads_updated word_bin op (within a cs (loads sc)) (word sc e vs) (leads_within a cs (loads sc) (leads_loads sc a.0 cs)) (leads_word sc e vs))
      (λ n. leads_within a cs (λ k c. stores sc k c n) (leads_stores sc a.0 cs n))))
      (leads_then (first_word sc at vs) (λ i. updated word_bin op (run.reads (λ s. slice_index (s.tables x) i)) (word sc e vs) >>= set_entry x i) (leads_first sc at vs)
      (λ i. leads_then (updated word_bin op (run.reads (λ s. slice_index (s.tables x) i)) (word sc e vs)) (set_entry x i)
      (leads_updated word_bin op (run.reads (λ s. slice_index (s.tables x) i)) (word sc e vs) (leads_give (λ s. slice_index (s.tables x) i)) (leads_word sc e vs))
      (λ n. leads_set (λ s. record s { tables = put s.tables x (slice_set (s.tables x) i n) }) (sets i n))))
  leads_assigned sc (lit n) op e vs sets = leads_give (λ s. tt {0})
  leads_assigned sc (un o a) op e vs sets = leads_give (λ s. tt {0})
  leads_assigned sc (bin o a b) op e vs sets = leads_give (λ s. tt {0})
  leads_assigned sc (cast a) op e vs sets = leads_give (λ s. tt {0})
  leads_assigned sc (test rel a b) op e vs sets = leads_give (λ s. tt {0})
  leads_assigned sc (umin a b) op e vs sets = leads_give (λ s. tt {0})
  leads_assigned sc (umax a b) op e vs sets = leads_give (λ s. tt {0})
  leads_assigned sc (least a b) op e vs sets = leads_give (λ s. tt {0})
  leads_assigned sc (greatest a b) op e vs sets = leads_give (λ s. tt {0})
  leads_assigned sc (widen a) op e vs sets = leads_give (λ s. tt {0})
  leads_assigned sc (big high low) op e vs sets = leads_give (λ s. tt {0})

  -- ---- tests

  leads_holds : (sc : Scope) (t : PlainTest) (vs : Vars) → Leads (holds sc t vs)
  leads_holds sc t vs =
      leads_if (is_word (join (kind vs t.1) (kind vs t.2))) (word sc t.1 vs >>= (λ x. word sc t.2 vs >>= (λ y. give (word_holds t.0 x y)))) (give (signed_holds t.0 (signed t.1 vs) (signed t.2 vs)))
      (leads_then (word sc t.1 vs) (λ x. word sc t.2 vs >>= (λ y. give (word_holds t.0 x y))) (leads_word sc t.1 vs)
      (λ x. leads_then (word sc t.2 vs) (λ y. give (word_holds t.0 x y)) (leads_word sc t.2 vs) (λ y. leads_give (λ s. word_holds t.0 x y))))
      (leads_give (λ s. signed_holds t.0 (signed t.1 vs) (signed t.2 vs)))

  pub leads_tests : (sc : Scope) (ts : List PlainTest) (vs : Vars) → Leads (all_hold sc ts vs)
  leads_tests sc [] vs = leads_give {A = Bool} (λ s. true)
  leads_tests sc (t ∷ ts) vs =
      leads_then (holds sc t vs) (λ b. if b then all_hold sc ts vs else give false) (leads_holds sc t vs) (λ b. leads_if b (all_hold sc ts vs) (give false) (leads_tests sc ts vs) (leads_give {A = Bool} (λ s. false)))
