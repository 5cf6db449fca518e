-- Two runs of one body that start alike but for the memory, each under its own fault: where no read gives them different words first, they take the same course to the end.
use Rattle.std.proofs.Common.{◌≡◌, ℕ, suc, ◌+◌, Bool, true, false, cond, if◌then◌else◌, nat_lt, List, [], ◌∷◌, ◌++◌, refl, sym, ap, ◌∙◌, subst, append_assoc, ℤ, pos, Option, Some, None}
use Rattle.std.proofs.lemmas.List.{append-nil}
use Rattle.std.specs.Prelude.{bytes_eq, slice_index, replicate, slice_set}
use Rattle.std.specs.List.{list_any}
use Rattle.c_tree.specs.Plain.{Word, PlainExpr, lit, var, cell, un, bin, cast, test, umin, umax, least, greatest, widen, big, PlainExprs, no_exprs, more_exprs, PlainTest, PlainStmt, loop, choice, assign, table, begin, check, verdict, PlainStmts, no_stmts, more_stmts}
use Rattle.c_tree.specs.Kinds.{join, is_signed, is_word}
use Rattle.c_tree.specs.Values.{Vars, signed, as_word, as_wide, word_un, word_bin, wide_bin, signed_holds, word_holds, as_bit, loop_values, kind}
use Rattle.c_tree.specs.Arrays.{Array, Memory, stored, array_named, is_within}
use Rattle.c_tree.specs.Fault.{Upset}
use Rattle.c_tree.specs.Run.{Event, State, End, index, outside, Outcome, goes_on, ends, Run, ◌>>=◌, ◌>>◌, and_then, give, done, end_as, changes, reads, Scope, put, set_word, set_wide, set_entry, make_table, loads, stores, struck, logged, within, by_array, word, coordinates, first_word, wide, holds, all_hold, updated, assigned, turn, over, disagree, unbalanced, judged, exec, exec_all}
use Rattle.c_tree.specs.declared.expr.BinOp.{BinOp}
use Rattle.instrumentation_laws.specs.Setting.{scope_of}
use Rattle.instrumentation_laws.proofs.Steps.{found, event, log, load_begun, store_begun, struck_is}

abbrev pub state_of : {A : Type 0} → Outcome A → State
state_of (goes_on a s) = s
state_of (ends e s) = s

-- a log is the front of another
abbrev pub IsFront : List Event → List Event → Type 0
IsFront xs whole = (rest : List Event) × (xs ++ rest ≡ whole)

-- both take the same course, and their states differ in memory alone
abbrev pub Agree : {A : Type 0} → Outcome A → Outcome A → Type 0
Agree (goes_on a s) (goes_on b t) = (a ≡ b) × (s.begun ≡ true) × (m : Memory) × (t ≡ record s { memory = m })
Agree (ends e s) (ends f t) = (e ≡ f) × (s.begun ≡ true) × (m : Memory) × (t ≡ record s { memory = m })
Agree (goes_on a s) (ends f t) = ⊥
Agree (ends e s) (goes_on b t) = ⊥

-- two logs, in which no read is the first event that differs
abbrev pub IsCalm : List Event → List Event → Type 0
IsCalm one other = (pre : List Event) (a : ℕ) (cs : List ℤ) (v w : ℕ) (xs ys : List Event) →
    pre ++ (event a cs false v ∷ xs) ≡ one → pre ++ (event a cs false w ∷ ys) ≡ other → v ≡ w

grows_more : (xs ys zs : List Event) → IsFront xs ys → IsFront ys zs → IsFront xs zs
grows_more xs ys zs h k = (h.0 ++ k.0, sym (append_assoc xs h.0 k.0) ∙ ap (λ l. l ++ k.0) h.1 ∙ k.1)

same_front : (xs ys : List Event) → ys ≡ xs → IsFront xs ys
same_front xs ys e = ([], append-nil xs ∙ sym e)

module _ (arrays : List Array) (wides : List Word) (fault other : Option Upset) (one two : List Event) (calm : IsCalm one two) where
  abbrev first : Scope
  first = scope_of arrays wides fault

  abbrev second : Scope
  second = scope_of arrays wides other

  -- both only add to their logs, and from states that differ in memory alone they take the same course, where their logs are fronts of these two
  record Alike {A : Type 0} (p q : Run A) : Type 0 where
    grows : (s : State) → IsFront s.accesses (state_of (p s)).accesses
    grows_too : (s : State) → IsFront s.accesses (state_of (q s)).accesses
    alike : (s : State) (m : Memory) → s.begun ≡ true → IsFront (state_of (p s)).accesses one → IsFront (state_of (q (record s { memory = m }))).accesses two → Agree (p s) (q (record s { memory = m }))

  -- ---- runs in a row

  grows_then : {A B : Type 0} (xs : List Event) (o : Outcome A) (f : A → Run B) → IsFront xs (state_of o).accesses → ((a : A) (s : State) → IsFront s.accesses (state_of (f a s)).accesses) → IsFront xs (state_of (and_then o f)).accesses
  grows_then xs (goes_on a s) f h k = grows_more xs s.accesses (state_of (f a s)).accesses h (k a s)
  grows_then xs (ends e s) f h k = h

  from_then : {A B : Type 0} (whole : List Event) (o : Outcome A) (f : A → Run B) → ((a : A) (s : State) → IsFront s.accesses (state_of (f a s)).accesses) → IsFront (state_of (and_then o f)).accesses whole → IsFront (state_of o).accesses whole
  from_then whole (goes_on a s) f k h = grows_more s.accesses (state_of (f a s)).accesses whole (k a s) h
  from_then whole (ends e s) f k h = h

  agree_then : {A B : Type 0} (o q : Outcome A) (f g : A → Run B) → ((a : A) → Alike (f a) (g a)) → Agree o q →
      IsFront (state_of (and_then o f)).accesses one → IsFront (state_of (and_then q g)).accesses two → Agree (and_then o f) (and_then q g)
  agree_then (goes_on a s) (goes_on b t) f g k h x y =
      let m : Memory = h.2 in
      let same : t ≡ record s { memory = m } = h.3 in
      let start : goes_on b t ≡ goes_on a (record s { memory = m }) = ap (λ c. goes_on c t) (sym h.0) ∙ ap (goes_on a) same in
      subst (λ o. Agree (f a s) (and_then o g)) (sym start)
      ((k a).alike s m h.1 x (subst (λ o. IsFront (state_of (and_then o g)).accesses two) start y))
  agree_then (ends e s) (ends z t) f g k h x y = h
  agree_then (goes_on a s) (ends z t) f g k h x y = absurd h
  agree_then (ends e s) (goes_on b t) f g k h x y = absurd h

  then_alike : {A B : Type 0} (p q : Run A) (f g : A → Run B) → Alike p q → ((a : A) → Alike (f a) (g a)) → Alike (p >>= f) (q >>= g)
  then_alike p q f g h k = record {
    grows = λ s. grows_then s.accesses (p s) f (h.grows s) (λ a t. (k a).grows t);
    grows_too = λ s. grows_then s.accesses (q s) g (h.grows_too s) (λ a t. (k a).grows_too t);
    alike = λ s m b x y. agree_then (p s) (q (record s { memory = m })) f g k
        (h.alike s m b (from_then one (p s) f (λ a t. (k a).grows t) x) (from_then two (q (record s { memory = m })) g (λ a t. (k a).grows_too t) y)) x y;
  }

  -- ---- steps without an access

  reads_alike : {A : Type 0} (f : State → A) → ((s : State) (m : Memory) → f s ≡ f (record s { memory = m })) → Alike (reads f) (reads f)
  reads_alike f same = record {
    grows = λ s. same_front s.accesses s.accesses refl;
    grows_too = λ s. same_front s.accesses s.accesses refl;
    alike = λ s m b x y. (same s m, b, m, refl);
  }

  give_alike : {A : Type 0} (a : A) → Alike (give a) (give a)
  give_alike a = reads_alike (λ s. a) (λ s m. refl)

  end_alike : {A : Type 0} (f : State → End) → ((s : State) (m : Memory) → f s ≡ f (record s { memory = m })) → Alike {A = A} (λ s. ends (f s) s) (λ s. ends (f s) s)
  end_alike f same = record {
    grows = λ s. same_front s.accesses s.accesses refl;
    grows_too = λ s. same_front s.accesses s.accesses refl;
    alike = λ s m b x y. (same s m, b, m, refl);
  }

  -- a change of a state that looks at no memory and logs nothing
  changes_alike : (f : State → State) → ((s : State) → (f s).accesses ≡ s.accesses) → ((s : State) → s.begun ≡ true → (f s).begun ≡ true) →
      ((s : State) (m : Memory) → f (record s { memory = m }) ≡ record (f s) { memory = m }) → Alike (changes f) (changes f)
  changes_alike f logs begun same = record {
    grows = λ s. same_front s.accesses (f s).accesses (logs s);
    grows_too = λ s. same_front s.accesses (f s).accesses (logs s);
    alike = λ s m b x y. (refl, begun s b, m, same s m);
  }

  if_alike : {A : Type 0} (b : Bool) (p q p' q' : Run A) → Alike p q → Alike p' q' → Alike (if b then p else p') (if b then q else q')
  if_alike true p q p' q' h k = h
  if_alike false p q p' q' h k = k

  -- ---- accesses

  struck_logs : (f : Option Upset) (s : State) → (struck f s).accesses ≡ s.accesses
  struck_logs f s = ap (λ (t : State). t.accesses) (struck_is f s).1

  logged_grows : (a : ℕ) (cs : List ℤ) (w : Bool) (n : ℕ) (s : State) → IsFront s.accesses (logged a cs w n s).accesses
  logged_grows a cs w n s = chosen s.begun
    where
      chosen : (b : Bool) → IsFront s.accesses (cond b (record s { accesses = s.accesses ++ event a cs w n ∷ [] }) s).accesses
      chosen true = (event a cs w n ∷ [], refl)
      chosen false = ([], append-nil s.accesses)

  load_grows : (f : Option Upset) (a : ℕ) (cs : List ℤ) (s : State) → IsFront s.accesses (state_of (loads (scope_of arrays wides f) a cs s)).accesses
  load_grows f a cs s =
      let t : State = struck f s in
      subst (λ l. IsFront l (logged a cs false (t.memory a cs) t).accesses) (struck_logs f s) (logged_grows a cs false (t.memory a cs) t)

  store_grows : (f : Option Upset) (a : ℕ) (cs : List ℤ) (n : ℕ) (s : State) → IsFront s.accesses (state_of (stores (scope_of arrays wides f) a cs n s)).accesses
  store_grows f a cs n s =
      let t : State = struck f s in
      subst (λ l. IsFront l (logged a cs true n (record t { memory = stored t.memory a cs n })).accesses) (struck_logs f s) (logged_grows a cs true n (record t { memory = stored t.memory a cs n }))

  load_agrees : (a : ℕ) (cs : List ℤ) (s : State) (m : Memory) → s.begun ≡ true → IsFront (state_of (loads first a cs s)).accesses one → IsFront (state_of (loads second a cs (record s { memory = m }))).accesses two →
      Agree (loads first a cs s) (loads second a cs (record s { memory = m }))
  load_agrees a cs s m b x y =
      let u : State = record s { memory = m } in
      let v : ℕ = found fault s a cs in
      let w : ℕ = found other u a cs in
      let p = load_begun first a cs s b in
      let q = load_begun second a cs u b in
      let x' : IsFront (s.accesses ++ event a cs false v ∷ []) one = subst (λ (o : Outcome ℕ). IsFront (state_of o).accesses one) p x in
      let y' : IsFront (s.accesses ++ event a cs false w ∷ []) two = subst (λ (o : Outcome ℕ). IsFront (state_of o).accesses two) q y in
      let same : v ≡ w = calm s.accesses a cs v w x'.0 y'.0 (sym (append_assoc s.accesses (event a cs false v ∷ []) x'.0) ∙ x'.1) (sym (append_assoc s.accesses (event a cs false w ∷ []) y'.0) ∙ y'.1) in
      subst (λ (o : Outcome ℕ). Agree o (loads second a cs u)) (sym p)
      (subst (λ (o : Outcome ℕ). Agree (goes_on v (record s { memory = found fault s; accesses = log a cs false v s })) o) (sym q)
      (same, b, found other u, ap (λ n. record s { memory = found other u; accesses = log a cs false n s }) (sym same)))

  store_agrees : (a : ℕ) (cs : List ℤ) (n : ℕ) (s : State) (m : Memory) → s.begun ≡ true → Agree (stores first a cs n s) (stores second a cs n (record s { memory = m }))
  store_agrees a cs n s m b =
      let u : State = record s { memory = m } in
      subst (λ (o : Outcome (Unit {0})). Agree o (stores second a cs n u)) (sym (store_begun first a cs n s b))
      (subst (λ (o : Outcome (Unit {0})). Agree (goes_on tt (record s { memory = stored (found fault s) a cs n; accesses = log a cs true n s })) o) (sym (store_begun second a cs n u b))
      (refl, b, stored (found other u) a cs n, refl))

  load_alike : (a : ℕ) (cs : List ℤ) → Alike (loads first a cs) (loads second a cs)
  load_alike a cs = record { grows = load_grows fault a cs; grows_too = load_grows other a cs; alike = load_agrees a cs }

  store_alike : (a : ℕ) (cs : List ℤ) (n : ℕ) → Alike (stores first a cs n) (stores second a cs n)
  store_alike a cs n = record { grows = store_grows fault a cs n; grows_too = store_grows other a cs n; alike = λ s m b x y. store_agrees a cs n s m b }

  within_alike : {A : Type 0} (a : ℕ × Array) (cs : List ℤ) (p q : ℕ → List ℤ → Run A) → ((k : ℕ) (c : List ℤ) → Alike (p k c) (q k c)) → Alike (within a cs p) (within a cs q)
  within_alike a cs p q h = if_alike (is_within cs a.1.extents) (p a.0 cs) (q a.0 cs) (end_as (outside a.0)) (end_as (outside a.0)) (h a.0 cs) (end_alike (λ s. outside a.0) (λ s m. refl))

  by_array_alike : {A : Type 0} (a : Option (ℕ × Array)) (f g : ℕ × Array → Run A) (p q : Run A) → ((a : ℕ × Array) → Alike (f a) (g a)) → Alike p q → Alike (by_array a f p) (by_array a g q)
  by_array_alike None f g p q h k = k
  by_array_alike (Some a) f g p q h k = h a

  -- ---- expressions

  two_alike : {A B C : Type 0} (f : A → B → C) (p q : Run A) (p' q' : Run B) → Alike p q → Alike p' q' → Alike (p >>= (λ x. p' >>= (λ y. give (f x y)))) (q >>= (λ x. q' >>= (λ y. give (f x y))))
  two_alike f p q p' q' h k = then_alike p q (λ x. p' >>= (λ y. give (f x y))) (λ x. q' >>= (λ y. give (f x y))) h
      (λ x. then_alike p' q' (λ y. give (f x y)) (λ y. give (f x y)) k (λ y. give_alike (f x y)))

  one_alike : {A B : Type 0} (f : A → B) (p q : Run A) → Alike p q → Alike (p >>= (λ x. give (f x))) (q >>= (λ x. give (f x)))
  one_alike f p q h = then_alike p q (λ x. give (f x)) (λ x. give (f x)) h (λ x. give_alike (f x))

  abbrev coordinate : Scope → PlainExpr → Vars → Run ℤ
  coordinate sc e vs = if is_word (kind vs e) then word sc e vs >>= (λ n. give (pos n)) else give (signed e vs)

  mutual
    word_alike : (e : PlainExpr) (vs : Vars) → Alike (word first e vs) (word second e vs)
    word_alike (lit n) vs = give_alike n
    word_alike (var x) vs = reads_alike (λ s. s.words x) (λ s m. refl)
    word_alike (cell x at) vs =
        by_array_alike (array_named arrays x)
        (λ a. coordinates first at vs >>= (λ cs. within a cs (loads first))) (λ a. coordinates second at vs >>= (λ cs. within a cs (loads second)))
        (first_word first at vs >>= (λ i. reads (λ s. slice_index (s.tables x) i))) (first_word second at vs >>= (λ i. reads (λ s. slice_index (s.tables x) i)))
        (λ a. then_alike (coordinates first at vs) (coordinates second at vs) (λ cs. within a cs (loads first)) (λ cs. within a cs (loads second)) (coordinates_alike at vs)
        (λ cs. within_alike a cs (loads first) (loads second) load_alike))
        (then_alike (first_word first at vs) (first_word second at vs) (λ i. reads (λ s. slice_index (s.tables x) i)) (λ i. reads (λ s. slice_index (s.tables x) i)) (first_word_alike at vs)
        (λ i. reads_alike (λ s. slice_index (s.tables x) i) (λ s m. refl)))
    word_alike (un op a) vs = one_alike (word_un op) (word first a vs) (word second a vs) (word_alike a vs)
    word_alike (bin op a b) vs = two_alike (word_bin op) (word first a vs) (word second a vs) (word first b vs) (word second b vs) (word_alike a vs) (word_alike b vs)
    word_alike (cast a) vs = if_alike (is_signed (kind vs a)) (give (as_word (signed a vs))) (give (as_word (signed a vs))) (word first a vs) (word second a vs) (give_alike (as_word (signed a vs))) (word_alike a vs)
    word_alike (test rel a b) vs = two_alike (λ x y. as_bit (word_holds rel x y)) (word first a vs) (word second a vs) (word first b vs) (word second b vs) (word_alike a vs) (word_alike b vs)
    word_alike (umin a b) vs = two_alike (λ x y. if nat_lt x y then x else y) (word first a vs) (word second a vs) (word first b vs) (word second b vs) (word_alike a vs) (word_alike b vs)
    word_alike (umax a b) vs = two_alike (λ x y. if nat_lt x y then y else x) (word first a vs) (word second a vs) (word first b vs) (word second b vs) (word_alike a vs) (word_alike b vs)
    word_alike (least a b) vs = give_alike 0
    word_alike (greatest a b) vs = give_alike 0
    word_alike (widen a) vs = give_alike 0
    word_alike (big high low) vs = give_alike 0

    coordinates_alike : (es : PlainExprs) (vs : Vars) → Alike (coordinates first es vs) (coordinates second es vs)
    coordinates_alike no_exprs vs = give_alike []
    coordinates_alike (more_exprs e es) vs =
        two_alike (λ c cs. c ∷ cs) (coordinate first e vs) (coordinate second e vs) (coordinates first es vs) (coordinates second es vs)
        (if_alike (is_word (kind vs e)) (word first e vs >>= (λ n. give (pos n))) (word second e vs >>= (λ n. give (pos n))) (give (signed e vs)) (give (signed e vs))
        (one_alike pos (word first e vs) (word second e vs) (word_alike e vs)) (give_alike (signed e vs)))
        (coordinates_alike es vs)

    first_word_alike : (es : PlainExprs) (vs : Vars) → Alike (first_word first es vs) (first_word second es vs)
    first_word_alike no_exprs vs = give_alike 0
    first_word_alike (more_exprs e es) vs = word_alike e vs

  wide_alike : (e : PlainExpr) (vs : Vars) → Alike (wide first e vs) (wide second e vs)
  wide_alike (lit n) vs = give_alike n
  wide_alike (var x) vs = reads_alike (λ s. s.wides x) (λ s m. refl)
  wide_alike (cell x at) vs = give_alike 0
  wide_alike (un op a) vs = give_alike 0
  wide_alike (bin op a b) vs = two_alike (wide_bin op) (wide first a vs) (wide second a vs) (wide first b vs) (wide second b vs) (wide_alike a vs) (wide_alike b vs)
  wide_alike (cast a) vs = give_alike 0
  wide_alike (test rel a b) vs = give_alike 0
  wide_alike (umin a b) vs = give_alike 0
  wide_alike (umax a b) vs = give_alike 0
  wide_alike (least a b) vs = give_alike 0
  wide_alike (greatest a b) vs = give_alike 0
  wide_alike (widen a) vs = if_alike (is_signed (kind vs a)) (give (as_wide (signed a vs))) (give (as_wide (signed a vs))) (word first a vs) (word second a vs) (give_alike (as_wide (signed a vs))) (word_alike a vs)
  wide_alike (big high low) vs = give_alike _

  holds_alike : (t : PlainTest) (vs : Vars) → Alike (holds first t vs) (holds second t vs)
  holds_alike t vs =
      if_alike (is_word (join (kind vs t.1) (kind vs t.2)))
      (word first t.1 vs >>= (λ x. word first t.2 vs >>= (λ y. give (word_holds t.0 x y)))) (word second t.1 vs >>= (λ x. word second t.2 vs >>= (λ y. give (word_holds t.0 x y))))
      (give (signed_holds t.0 (signed t.1 vs) (signed t.2 vs))) (give (signed_holds t.0 (signed t.1 vs) (signed t.2 vs)))
      (two_alike (word_holds t.0) (word first t.1 vs) (word second t.1 vs) (word first t.2 vs) (word second t.2 vs) (word_alike t.1 vs) (word_alike t.2 vs))
      (give_alike (signed_holds t.0 (signed t.1 vs) (signed t.2 vs)))

  all_hold_alike : (ts : List PlainTest) (vs : Vars) → Alike (all_hold first ts vs) (all_hold second ts vs)
  all_hold_alike [] vs = give_alike true
  all_hold_alike (t ∷ ts) vs =
      then_alike (holds first t vs) (holds second t vs) (λ b. if b then all_hold first ts vs else give false) (λ b. if b then all_hold second ts vs else give false) (holds_alike t vs)
      (λ b. if_alike b (all_hold first ts vs) (all_hold second ts vs) (give false) (give false) (all_hold_alike ts vs) (give_alike false))

  -- ---- statements

  updated_alike : (f : BinOp → ℕ → ℕ → ℕ) (op : Option BinOp) (p q p' q' : Run ℕ) → Alike p q → Alike p' q' → Alike (updated f op p p') (updated f op q q')
  updated_alike f None p q p' q' h k = k
  updated_alike f (Some op) p q p' q' h k = two_alike (f op) p q p' q' h k

  set_word_alike : (x : Word) (n : ℕ) → Alike (set_word x n) (set_word x n)
  set_word_alike x n = changes_alike (λ s. record s { words = put s.words x n }) (λ s. refl) (λ s b. b) (λ s m. refl)

  set_wide_alike : (x : Word) (n : ℕ) → Alike (set_wide x n) (set_wide x n)
  set_wide_alike x n = changes_alike (λ s. record s { wides = put s.wides x n }) (λ s. refl) (λ s b. b) (λ s m. refl)

  set_entry_alike : (x : Word) (i n : ℕ) → Alike (set_entry x i n) (set_entry x i n)
  set_entry_alike x i n = changes_alike (λ s. record s { tables = put s.tables x (slice_set (s.tables x) i n) }) (λ s. refl) (λ s b. b) (λ s m. refl)

  make_table_alike : (x : Word) (n : ℕ) → Alike (make_table x n) (make_table x n)
  make_table_alike x n = changes_alike (λ s. record s { tables = put s.tables x (replicate n 0); made = s.made ++ n ∷ [] }) (λ s. refl) (λ s b. b) (λ s m. refl)

  word_set : (x : Word) (op : Option BinOp) (e : PlainExpr) (vs : Vars) → Alike (assigned first (var x) op e vs) (assigned second (var x) op e vs)
  word_set x op e vs =
      let w : Scope → Run ℕ = λ sc. updated wide_bin op (reads (λ s. s.wides x)) (wide sc e vs) in
      let v : Scope → Run ℕ = λ sc. updated word_bin op (reads (λ s. s.words x)) (word sc e vs) in
      if_alike (list_any (bytes_eq x) wides) (w first >>= set_wide x) (w second >>= set_wide x) (v first >>= set_word x) (v second >>= set_word x)
      (then_alike (w first) (w second) (set_wide x) (set_wide x)
      (updated_alike wide_bin op (reads (λ s. s.wides x)) (reads (λ s. s.wides x)) (wide first e vs) (wide second e vs) (reads_alike (λ s. s.wides x) (λ s m. refl)) (wide_alike e vs)) (set_wide_alike x))
      (then_alike (v first) (v second) (set_word x) (set_word x)
      (updated_alike word_bin op (reads (λ s. s.words x)) (reads (λ s. s.words x)) (word first e vs) (word second e vs) (reads_alike (λ s. s.words x) (λ s m. refl)) (word_alike e vs)) (set_word_alike x))

  abbrev cell_value : Scope → ℕ × Array → List ℤ → Option BinOp → PlainExpr → Vars → Run ℕ
  cell_value sc a cs op e vs = updated word_bin op (within a cs (loads sc)) (word sc e vs)

  abbrev cell_set : Scope → ℕ × Array → Option BinOp → PlainExpr → Vars → List ℤ → Run (Unit {0})
  cell_set sc a op e vs cs = cell_value sc a cs op e vs >>= (λ n. within a cs (λ k c. stores sc k c n))

  abbrev entry_set : Scope → Word → Option BinOp → PlainExpr → Vars → ℕ → Run (Unit {0})
  entry_set sc x op e vs i = updated word_bin op (reads (λ s. slice_index (s.tables x) i)) (word sc e vs) >>= set_entry x i

  cell_set_alike : (a : ℕ × Array) (op : Option BinOp) (e : PlainExpr) (vs : Vars) (cs : List ℤ) → Alike (cell_set first a op e vs cs) (cell_set second a op e vs cs)
  cell_set_alike a op e vs cs =
      then_alike (cell_value first a cs op e vs) (cell_value second a cs op e vs) (λ n. within a cs (λ k c. stores first k c n)) (λ n. within a cs (λ k c. stores second k c n))
      (updated_alike word_bin op (within a cs (loads first)) (within a cs (loads second)) (word first e vs) (word second e vs) (within_alike a cs (loads first) (loads second) load_alike) (word_alike e vs))
      (λ n. within_alike a cs (λ k c. stores first k c n) (λ k c. stores second k c n) (λ k c. store_alike k c n))

  entry_set_alike : (x : Word) (op : Option BinOp) (e : PlainExpr) (vs : Vars) (i : ℕ) → Alike (entry_set first x op e vs i) (entry_set second x op e vs i)
  entry_set_alike x op e vs i =
      let old : Run ℕ = reads (λ s. slice_index (s.tables x) i) in
      then_alike (updated word_bin op old (word first e vs)) (updated word_bin op old (word second e vs)) (set_entry x i) (set_entry x i)
      (updated_alike word_bin op old old (word first e vs) (word second e vs) (reads_alike (λ s. slice_index (s.tables x) i) (λ s m. refl)) (word_alike e vs)) (set_entry_alike x i)

  assigned_alike : (t : PlainExpr) (op : Option BinOp) (e : PlainExpr) (vs : Vars) → Alike (assigned first t op e vs) (assigned second t op e vs)
  assigned_alike (var x) op e vs = word_set x op e vs
  assigned_alike (cell x at) op e vs =
      by_array_alike (array_named arrays x)
      (λ a. coordinates first at vs >>= cell_set first a op e vs) (λ a. coordinates second at vs >>= cell_set second a op e vs)
      (first_word first at vs >>= entry_set first x op e vs) (first_word second at vs >>= entry_set second x op e vs)
      (λ a. then_alike (coordinates first at vs) (coordinates second at vs) (cell_set first a op e vs) (cell_set second a op e vs) (coordinates_alike at vs) (cell_set_alike a op e vs))
      (then_alike (first_word first at vs) (first_word second at vs) (entry_set first x op e vs) (entry_set second x op e vs) (first_word_alike at vs) (entry_set_alike x op e vs))
  assigned_alike (lit n) op e vs = give_alike tt
  assigned_alike (un o a) op e vs = give_alike tt
  assigned_alike (bin o a b) op e vs = give_alike tt
  assigned_alike (cast a) op e vs = give_alike tt
  assigned_alike (test rel a b) op e vs = give_alike tt
  assigned_alike (umin a b) op e vs = give_alike tt
  assigned_alike (umax a b) op e vs = give_alike tt
  assigned_alike (least a b) op e vs = give_alike tt
  assigned_alike (greatest a b) op e vs = give_alike tt
  assigned_alike (widen a) op e vs = give_alike tt
  assigned_alike (big high low) op e vs = give_alike tt

  turn_alike : Alike turn turn
  turn_alike = changes_alike (λ s. if s.begun then record s { body_turns = s.body_turns + 1 } else record s { prologue_turns = s.prologue_turns + 1 })
      (λ s. logs s s.begun) (λ s b. begun s b s.begun) (λ s m. same s m s.begun)
    where
      logs : (s : State) (b : Bool) → (cond b (record s { body_turns = s.body_turns + 1 }) (record s { prologue_turns = s.prologue_turns + 1 })).accesses ≡ s.accesses
      logs s true = refl
      logs s false = refl

      begun : (s : State) → s.begun ≡ true → (b : Bool) → (cond b (record s { body_turns = s.body_turns + 1 }) (record s { prologue_turns = s.prologue_turns + 1 })).begun ≡ true
      begun s h true = h
      begun s h false = h

      same : (s : State) (m : Memory) (b : Bool) → cond b (record s { memory = m; body_turns = s.body_turns + 1 }) (record s { memory = m; prologue_turns = s.prologue_turns + 1 }) ≡
          record (cond b (record s { body_turns = s.body_turns + 1 }) (record s { prologue_turns = s.prologue_turns + 1 })) { memory = m }
      same s m true = refl
      same s m false = refl

  over_alike : (f g : ℤ → Run (Unit {0})) (vs : List ℤ) → ((v : ℤ) → Alike (f v) (g v)) → Alike (over f vs) (over g vs)
  over_alike f g [] h = give_alike tt
  over_alike f g (v ∷ vs) h = then_alike (f v) (g v) (λ u. over f vs) (λ u. over g vs) (h v) (λ u. over_alike f g vs h)

  unbalanced_same : (s : State) (m : Memory) (k : ℕ) (more : List Array) → unbalanced s k more ≡ unbalanced (record s { memory = m }) k more
  unbalanced_same s m k [] = refl
  unbalanced_same s m k (a ∷ more) = ap (λ l. cond (disagree s k) (k ∷ l) l) (unbalanced_same s m (suc k) more)

  mutual
    exec_alike : (t : PlainStmt) (vs : Vars) → Alike (exec first t vs) (exec second t vs)
    exec_alike (loop x lo rel hi body) vs =
        over_alike (λ v. turn >> exec_all first body ((x, v) ∷ vs)) (λ v. turn >> exec_all second body ((x, v) ∷ vs)) (loop_values (signed lo vs) rel (signed hi vs))
        (λ v. then_alike turn turn (λ u. exec_all first body ((x, v) ∷ vs)) (λ u. exec_all second body ((x, v) ∷ vs)) turn_alike (λ u. exec_all_alike body ((x, v) ∷ vs)))
    exec_alike (choice ts yes_body no_body) vs =
        then_alike (all_hold first ts vs) (all_hold second ts vs) (λ b. if b then exec_all first yes_body vs else exec_all first no_body vs) (λ b. if b then exec_all second yes_body vs else exec_all second no_body vs) (all_hold_alike ts vs)
        (λ b. if_alike b (exec_all first yes_body vs) (exec_all second yes_body vs) (exec_all first no_body vs) (exec_all second no_body vs) (exec_all_alike yes_body vs) (exec_all_alike no_body vs))
    exec_alike (assign t op e) vs = assigned_alike t op e vs
    exec_alike (table x len) vs = then_alike (word first len vs) (word second len vs) (make_table x) (make_table x) (word_alike len vs) (make_table_alike x)
    exec_alike begin vs = changes_alike (λ s. record s { begun = true }) (λ s. refl) (λ s b. refl) (λ s m. refl)
    exec_alike (check x extent a) vs =
        let go : ℕ → Run (Unit {0}) = λ n. if nat_lt n (as_word (signed extent vs)) then done else end_as (index a) in
        then_alike (reads (λ s. s.words x)) (reads (λ s. s.words x)) go go (reads_alike (λ s. s.words x) (λ s m. refl))
        (λ n. if_alike (nat_lt n (as_word (signed extent vs))) done done (end_as (index a)) (end_as (index a)) (give_alike tt) (end_alike (λ s. index a) (λ s m. refl)))
    exec_alike verdict vs = end_alike (λ s. judged (unbalanced s 0 arrays)) (λ s m. ap judged (unbalanced_same s m 0 arrays))

    exec_all_alike : (body : PlainStmts) (vs : Vars) → Alike (exec_all first body vs) (exec_all second body vs)
    exec_all_alike no_stmts vs = give_alike tt
    exec_all_alike (more_stmts t ts) vs = then_alike (exec first t vs) (exec second t vs) (λ u. exec_all first ts vs) (λ u. exec_all second ts vs) (exec_alike t vs) (λ u. exec_all_alike ts vs)

  -- two runs of a body whose logs are these two
  pub same_course : (body : PlainStmts) (vs : Vars) (s : State) (m : Memory) → s.begun ≡ true →
      (state_of (exec_all first body vs s)).accesses ≡ one → (state_of (exec_all second body vs (record s { memory = m }))).accesses ≡ two →
      Agree (exec_all first body vs s) (exec_all second body vs (record s { memory = m }))
  same_course body vs s m b x y = (exec_all_alike body vs).alike s m b (same_front _ one (sym x)) (same_front _ two (sym y))
