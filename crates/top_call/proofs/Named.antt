-- Which arrays the end of a run names.
use Rattle.std.proofs.Common.{◌≡◌, ℕ, suc, ◌+◌, ◌<◌, ◌≤◌, Bool, true, false, if◌then◌else◌, nat_lt, List, [], ◌∷◌, length, ℤ, pos, Option, Some, None, bytes_eq, slice_index, refl, ap, arith}
use Rattle.std.specs.List.{AllByRecursion, list_any}
use Rattle.std.proofs.lemmas.Option.{same_Some}
use Rattle.c_tree.specs.Plain.{Word, PlainExpr, lit, var, cell, un, bin, cast, test, umin, umax, least, greatest, widen, big, PlainExprs, no_exprs, more_exprs, PlainTest, PlainStmt, loop, choice, assign, table, begin, check, verdict, PlainStmts, no_stmts, more_stmts}
use Rattle.c_tree.specs.Kinds.{join, is_signed, is_word}
use Rattle.c_tree.specs.Values.{Vars, signed, as_word, as_wide, word_un, word_bin, wide_bin, signed_holds, word_holds, as_bit, loop_values, kind}
use Rattle.c_tree.specs.Arrays.{Array, array_from, array_named, is_within}
use Rattle.c_tree.specs.Run.{done, State, End, plain, balanced, fault, index, outside, Outcome, goes_on, ends, Run, and_then, ◌>>=◌, ◌>>◌, give, reads, end_as, changes, Scope, loads, stores, within, by_array, word, coordinates, first_word, wide, holds, all_hold, updated, assigned, set_word, set_wide, set_entry, make_table, turn, over, disagree, unbalanced, judged, exec, exec_all}
use Rattle.c_tree.specs.declared.expr.BinOp.{BinOp}

-- ---- checks name the first n arrays alone

abbrev mutual
  pub ChecksBelow : ℕ → PlainStmt → Type 0
  ChecksBelow n (loop x lo rel hi body) = AllCheckBelow n body
  ChecksBelow n (choice ts first other) = AllCheckBelow n first × AllCheckBelow n other
  ChecksBelow n (assign target op e) = Unit {0}
  ChecksBelow n (table x len) = Unit {0}
  ChecksBelow n begin = Unit {0}
  ChecksBelow n (check x extent a) = a < n
  ChecksBelow n verdict = Unit {0}

  pub AllCheckBelow : ℕ → PlainStmts → Type 0
  AllCheckBelow n no_stmts = Unit {0}
  AllCheckBelow n (more_stmts s ss) = ChecksBelow n s × AllCheckBelow n ss

-- ---- the end names no array but the first n

abbrev pub Names : ℕ → End → Type 0
Names n plain = Unit {0}
Names n balanced = Unit {0}
Names n (fault ks) = AllByRecursion (λ k. k < n) ks
Names n (index k) = k < n
Names n (outside k) = k < n

abbrev pub NamesIn : {A : Type 0} → ℕ → Outcome A → Type 0
NamesIn n (goes_on a s) = Unit {0}
NamesIn n (ends e s) = Names n e

-- from each state
pub record IsNaming {A : Type 0} (n : ℕ) (p : Run A) : Type 0 where
  pub names : (s : State) → NamesIn n (p s)

naming_on : {A B : Type 0} (n : ℕ) (o : Outcome A) (f : A → Run B) → NamesIn n o → ((a : A) → IsNaming n (f a)) → NamesIn n (and_then o f)
naming_on n (goes_on a s) f h more = (more a).names s
naming_on n (ends e s) f h more = h

then_names : {A B : Type 0} (n : ℕ) (p : Run A) (f : A → Run B) → IsNaming n p → ((a : A) → IsNaming n (f a)) → IsNaming n (p >>= f)
then_names n p f h more = record { names = λ s. naming_on n (p s) f (h.names s) more }

give_names : {A : Type 0} (n : ℕ) (a : A) → IsNaming n (give a)
give_names n a = record { names = λ s. tt }

reads_names : {A : Type 0} (n : ℕ) (f : State → A) → IsNaming n (reads f)
reads_names n f = record { names = λ s. tt }

changes_names : (n : ℕ) (f : State → State) → IsNaming n (changes f)
changes_names n f = record { names = λ s. tt }

when_names : {A : Type 0} (n : ℕ) (b : Bool) (p q : Run A) → IsNaming n p → IsNaming n q → IsNaming n (if b then p else q)
when_names n true p q h g = h
when_names n false p q h g = g

-- ---- arrays

named_below : (k : ℕ) (arrays : List Array) (x : Word) (a : ℕ × Array) → array_from k arrays x ≡ Some a → a.0 < k + length arrays
named_below k [] x a h = absurd (let no : ⊥ = cc in no)
named_below k (b ∷ more) x a h = go (bytes_eq b.name x) h (named_below (suc k) more x a)
  where
    go : (t : Bool) → (if t then Some (k, b) else array_from (suc k) more x) ≡ Some a → (array_from (suc k) more x ≡ Some a → a.0 < suc k + length more) → a.0 < k + suc (length more)
    go true same later = let number : k ≡ a.0 = ap (λ (c : ℕ × Array). c.0) (same_Some (k, b) a same) in omega arith
    go false same later = let low = later same in omega arith

named : (arrays : List Array) (x : Word) (a : ℕ × Array) → array_named arrays x ≡ Some a → a.0 < length arrays
named arrays x a h = let low = named_below 0 arrays x a h in omega arith

by_array_names : {A : Type 0} (n : ℕ) (found : Option (ℕ × Array)) (f : ℕ × Array → Run A) (t : Run A) → ((a : ℕ × Array) → found ≡ Some a → IsNaming n (f a)) → IsNaming n t → IsNaming n (by_array found f t)
by_array_names n None f t h g = g
by_array_names n (Some a) f t h g = h a refl

within_names : {A : Type 0} (n : ℕ) (a : ℕ × Array) (cs : List ℤ) (go : ℕ → List ℤ → Run A) → a.0 < n → ((k : ℕ) (c : List ℤ) → IsNaming n (go k c)) → IsNaming n (within a cs go)
within_names n a cs go low h = when_names n (is_within cs a.1.extents) (go a.0 cs) (end_as (outside a.0)) (h a.0 cs) (record { names = λ s. low })

loads_names : (n : ℕ) (sc : Scope) (a : ℕ) (cs : List ℤ) → IsNaming n (loads sc a cs)
loads_names n sc a cs = record { names = λ s. tt }

stores_names : (n : ℕ) (sc : Scope) (a : ℕ) (cs : List ℤ) (m : ℕ) → IsNaming n (stores sc a cs m)
stores_names n sc a cs m = record { names = λ s. tt }

module _ (sc : Scope) where
  -- ---- expressions

  mutual
    word_names : (e : PlainExpr) (vs : Vars) → IsNaming (length sc.arrays) (word sc e vs)
    word_names (lit n) vs = give_names _ n
    word_names (var x) vs = reads_names _ (λ s. s.words x)
    word_names (cell x at) vs =
        by_array_names _ (array_named sc.arrays x) (λ a. coordinates sc at vs >>= (λ cs. within a cs (loads sc))) (first_word sc at vs >>= (λ i. reads (λ s. slice_index (s.tables x) i)))
        (λ a found. then_names _ _ _ (coordinates_names at vs) (λ cs. within_names _ a cs (loads sc) (named sc.arrays x a found) (λ k c. loads_names _ sc k c)))
        (then_names _ _ _ (first_names at vs) (λ i. reads_names _ (λ s. slice_index (s.tables x) i)))
    word_names (un op a) vs = then_names _ _ _ (word_names a vs) (λ x. give_names _ (word_un op x))
    word_names (bin op a b) vs = then_names _ _ _ (word_names a vs) (λ x. then_names _ _ _ (word_names b vs) (λ y. give_names _ (word_bin op x y)))
    word_names (cast a) vs = when_names _ (is_signed (kind vs a)) (give (as_word (signed a vs))) (word sc a vs) (give_names _ _) (word_names a vs)
    word_names (test rel a b) vs = then_names _ _ _ (word_names a vs) (λ x. then_names _ _ _ (word_names b vs) (λ y. give_names _ (as_bit (word_holds rel x y))))
    word_names (umin a b) vs = then_names _ _ _ (word_names a vs) (λ x. then_names _ _ _ (word_names b vs) (λ y. give_names _ (if nat_lt x y then x else y)))
    word_names (umax a b) vs = then_names _ _ _ (word_names a vs) (λ x. then_names _ _ _ (word_names b vs) (λ y. give_names _ (if nat_lt x y then y else x)))
    word_names (least a b) vs = give_names _ 0
    word_names (greatest a b) vs = give_names _ 0
    word_names (widen a) vs = give_names _ 0
    word_names (big high low) vs = give_names _ 0

    coordinates_names : (es : PlainExprs) (vs : Vars) → IsNaming (length sc.arrays) (coordinates sc es vs)
    coordinates_names no_exprs vs = give_names _ []
    coordinates_names (more_exprs e es) vs =
        then_names _ _ _
        (when_names _ (is_word (kind vs e)) (word sc e vs >>= (λ n. give (pos n))) (give (signed e vs)) (then_names _ _ _ (word_names e vs) (λ n. give_names _ (pos n))) (give_names _ _))
        (λ c. then_names _ _ _ (coordinates_names es vs) (λ cs. give_names _ (c ∷ cs)))

    first_names : (es : PlainExprs) (vs : Vars) → IsNaming (length sc.arrays) (first_word sc es vs)
    first_names no_exprs vs = give_names _ 0
    first_names (more_exprs e es) vs = word_names e vs

  wide_names : (e : PlainExpr) (vs : Vars) → IsNaming (length sc.arrays) (wide sc e vs)
  wide_names (lit n) vs = give_names _ n
  wide_names (var x) vs = reads_names _ (λ s. s.wides x)
  wide_names (cell x at) vs = give_names _ 0
  wide_names (un op a) vs = give_names _ 0
  wide_names (bin op a b) vs = then_names _ _ _ (wide_names a vs) (λ x. then_names _ _ _ (wide_names b vs) (λ y. give_names _ (wide_bin op x y)))
  wide_names (cast a) vs = give_names _ 0
  wide_names (test rel a b) vs = give_names _ 0
  wide_names (umin a b) vs = give_names _ 0
  wide_names (umax a b) vs = give_names _ 0
  wide_names (least a b) vs = give_names _ 0
  wide_names (greatest a b) vs = give_names _ 0
  wide_names (widen a) vs = when_names _ (is_signed (kind vs a)) (give (as_wide (signed a vs))) (word sc a vs) (give_names _ _) (word_names a vs)
  wide_names (big high low) vs = give_names _ _

  holds_names : (t : PlainTest) (vs : Vars) → IsNaming (length sc.arrays) (holds sc t vs)
  holds_names t vs =
      when_names _ (is_word (join (kind vs t.1) (kind vs t.2)))
      (word sc t.1 vs >>= (λ x. word sc t.2 vs >>= (λ y. give (word_holds t.0 x y)))) (give (signed_holds t.0 (signed t.1 vs) (signed t.2 vs)))
      (then_names _ _ _ (word_names t.1 vs) (λ x. then_names _ _ _ (word_names t.2 vs) (λ y. give_names _ (word_holds t.0 x y)))) (give_names _ _)

  all_hold_names : (ts : List PlainTest) (vs : Vars) → IsNaming (length sc.arrays) (all_hold sc ts vs)
  all_hold_names [] vs = give_names _ true
  all_hold_names (t ∷ ts) vs = then_names _ _ _ (holds_names t vs) (λ b. when_names _ b (all_hold sc ts vs) (give false) (all_hold_names ts vs) (give_names _ false))

  -- ---- statements

  updated_names : (n : ℕ) (f : BinOp → ℕ → ℕ → ℕ) (op : Option BinOp) (old new : Run ℕ) → IsNaming n old → IsNaming n new → IsNaming n (updated f op old new)
  updated_names n f None old new h g = g
  updated_names n f (Some op) old new h g = then_names _ _ _ h (λ x. then_names _ _ _ g (λ y. give_names _ (f op x y)))

  assigned_names : (target : PlainExpr) (op : Option BinOp) (e : PlainExpr) (vs : Vars) → IsNaming (length sc.arrays) (assigned sc target op e vs)
  assigned_names (var x) op e vs =
      when_names _ (list_any (bytes_eq x) sc.wides)
      (updated wide_bin op (reads (λ s. s.wides x)) (wide sc e vs) >>= set_wide x)
      (updated word_bin op (reads (λ s. s.words x)) (word sc e vs) >>= set_word x)
      (then_names _ _ _ (updated_names _ wide_bin op _ _ (reads_names _ _) (wide_names e vs)) (λ n. changes_names _ _))
      (then_names _ _ _ (updated_names _ word_bin op _ _ (reads_names _ _) (word_names e vs)) (λ n. changes_names _ _))
  assigned_names (cell x at) op e vs =
      by_array_names _ (array_named sc.arrays x)
      (λ a. coordinates sc at vs >>= (λ cs. updated word_bin op (within a cs (loads sc)) (word sc e vs) >>= (λ n. within a cs (λ k c. stores sc k c n))))
      (first_word sc at vs >>= (λ i. updated word_bin op (reads (λ s. slice_index (s.tables x) i)) (word sc e vs) >>= set_entry x i))
      (λ a found. then_names _ _ _ (coordinates_names at vs) (λ cs.
      then_names _ _ _
      (updated_names _ word_bin op _ _ (within_names _ a cs (loads sc) (named sc.arrays x a found) (λ k c. loads_names _ sc k c)) (word_names e vs))
      (λ n. within_names _ a cs (λ k c. stores sc k c n) (named sc.arrays x a found) (λ k c. stores_names _ sc k c n))))
      (then_names _ _ _ (first_names at vs) (λ i. then_names _ _ _ (updated_names _ word_bin op _ _ (reads_names _ _) (word_names e vs)) (λ n. changes_names _ _)))
  assigned_names (lit n) op e vs = give_names _ tt
  assigned_names (un o a) op e vs = give_names _ tt
  assigned_names (bin o a b) op e vs = give_names _ tt
  assigned_names (cast a) op e vs = give_names _ tt
  assigned_names (test rel a b) op e vs = give_names _ tt
  assigned_names (umin a b) op e vs = give_names _ tt
  assigned_names (umax a b) op e vs = give_names _ tt
  assigned_names (least a b) op e vs = give_names _ tt
  assigned_names (greatest a b) op e vs = give_names _ tt
  assigned_names (widen a) op e vs = give_names _ tt
  assigned_names (big high low) op e vs = give_names _ tt

  over_names : (n : ℕ) (f : ℤ → Run (Unit {0})) (values : List ℤ) → ((v : ℤ) → IsNaming n (f v)) → IsNaming n (over f values)
  over_names n f [] h = give_names n tt
  over_names n f (v ∷ values) h = then_names n (f v) (λ _. over f values) (h v) (λ _. over_names n f values h)

  unbalanced_below : (s : State) (k : ℕ) (arrays : List Array) (n : ℕ) → k + length arrays ≤ n → AllByRecursion (λ j. j < n) (unbalanced s k arrays)
  unbalanced_below s k [] n h = tt
  unbalanced_below s k (a ∷ more) n h = go (disagree s k) (unbalanced_below s (suc k) more n (omega arith))
    where
      go : (b : Bool) → AllByRecursion (λ j. j < n) (unbalanced s (suc k) more) → AllByRecursion (λ j. j < n) (if b then k ∷ unbalanced s (suc k) more else unbalanced s (suc k) more)
      go true rest = (omega arith, rest)
      go false rest = rest

  judged_names : (n : ℕ) (ks : List ℕ) → AllByRecursion (λ j. j < n) ks → Names n (judged ks)
  judged_names n [] h = tt
  judged_names n (k ∷ ks) h = h

  mutual
    exec_names : (s : PlainStmt) (vs : Vars) → ChecksBelow (length sc.arrays) s → IsNaming (length sc.arrays) (exec sc s vs)
    exec_names (loop x lo rel hi body) vs h =
        over_names _ (λ v. turn >> exec_all sc body ((x, v) ∷ vs)) (loop_values (signed lo vs) rel (signed hi vs))
        (λ v. then_names _ turn (λ _. exec_all sc body ((x, v) ∷ vs)) (changes_names _ _) (λ _. exec_all_names body ((x, v) ∷ vs) h))
    exec_names (choice ts first other) vs h =
        then_names _ (all_hold sc ts vs) (λ b. if b then exec_all sc first vs else exec_all sc other vs) (all_hold_names ts vs)
        (λ b. when_names _ b (exec_all sc first vs) (exec_all sc other vs) (exec_all_names first vs h.0) (exec_all_names other vs h.1))
    exec_names (assign target op e) vs h = assigned_names target op e vs
    exec_names (table x len) vs h = then_names _ (word sc len vs) (make_table x) (word_names len vs) (λ n. changes_names _ _)
    exec_names begin vs h = changes_names _ _
    exec_names (check x extent a) vs h =
        then_names _ (reads (λ s. s.words x)) (λ n. if nat_lt n (as_word (signed extent vs)) then done else end_as (index a)) (reads_names _ _)
        (λ n. when_names _ (nat_lt n (as_word (signed extent vs))) done (end_as (index a)) (give_names _ tt) (record { names = λ s. h }))
    exec_names verdict vs h = record { names = λ s. judged_names _ (unbalanced s 0 sc.arrays) (unbalanced_below s 0 sc.arrays _ (omega arith)) }

    pub exec_all_names : (ss : PlainStmts) (vs : Vars) → AllCheckBelow (length sc.arrays) ss → IsNaming (length sc.arrays) (exec_all sc ss vs)
    exec_all_names no_stmts vs h = give_names _ tt
    exec_all_names (more_stmts s ss) vs h = then_names _ (exec sc s vs) (λ _. exec_all sc ss vs) (exec_names s vs h.0) (λ _. exec_all_names ss vs h.1)
