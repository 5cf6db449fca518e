-- Statements that set the words of a pass and the count alone, over expressions without cells: they always go on,
-- and leave the rest of the state as it was.
use Rattle.std.proofs.Common.{◌≡◌, ℕ, Bool, true, false, cond, List, [], ◌∷◌, refl, sym, ap, ◌∙◌, subst, ℤ, Option, Some, None, ◌+◌, true≢false}
use Rattle.std.specs.Prelude.{bytes_eq}
use Rattle.std.specs.List.{list_any}
use Rattle.std.proofs.lemmas.Bool.{cond-false}
use Rattle.c_tree.specs.Plain.{Word, PlainExpr, lit, var, cell, un, bin, cast, test, umin, umax, least, greatest, widen, big, PlainTest, PlainStmt, loop, choice, assign, table, begin, check, verdict, PlainStmts, no_stmts, more_stmts}
use Rattle.c_tree.specs.Values.{Vars, signed, loop_values, kind, word_bin, wide_bin}
use Rattle.c_tree.specs.Kinds.{join, is_signed, is_word}
use Rattle.c_tree.specs.Run.{State, goes_on, Run, and_then, Scope, word, wide, holds, all_hold, updated, set_word, set_wide, put, assigned, turn, over, exec, exec_all}
use Rattle.c_tree.specs.declared.expr.BinOp.{BinOp}
use Rattle.instrumentation.specs.Names.{count, active, counter}
use Rattle.run_laws.specs.Sources.{HasNoCells}
use Rattle.pass_laws.specs.Going.{GoesTo, HasCounters, Leaves}
use Rattle.pass_laws.proofs.Going.{must_then, must_over, must_weaker}

abbrev pub HaveNoCells : List PlainTest → Type 0
HaveNoCells [] = Unit {0}
HaveNoCells (t ∷ ts) = (HasNoCells t.1 × HasNoCells t.2) × HaveNoCells ts

-- the run goes on with some value, and changes nothing
abbrev pub Gives : {A : Type 0} → Run A → State → Type 0
Gives {A} p s = (a : A) × (p s ≡ goes_on a s)

gives_then : {A B : Type 0} (p : Run A) (f : A → Run B) (s : State) → Gives p s → ((a : A) → Gives (f a) s) → Gives (λ t. and_then (p t) f) s
gives_then p f s g h = ((h g.0).0, ap (λ o. and_then o f) g.1 ∙ (h g.0).1)

gives_if : {A : Type 0} (b : Bool) (p q : Run A) (s : State) → Gives p s → Gives q s → Gives (cond b p q) s
gives_if true p q s g h = g
gives_if false p q s g h = h

pub silent_word : (sc : Scope) (e : PlainExpr) (vs : Vars) (s : State) → HasNoCells e → Gives (word sc e vs) s
silent_word sc (lit n) vs s h = (n, refl)
silent_word sc (var x) vs s h = (s.words x, refl)
silent_word sc (cell x at) vs s h = absurd h
silent_word sc (un op a) vs s h = gives_then (word sc a vs) _ s (silent_word sc a vs s h) (λ n. (_, refl))
silent_word sc (bin op a b) vs s h = gives_then (word sc a vs) _ s (silent_word sc a vs s h.0) (λ n. gives_then (word sc b vs) _ s (silent_word sc b vs s h.1) (λ k. (_, refl)))
silent_word sc (cast a) vs s h = gives_if (is_signed (kind vs a)) _ (word sc a vs) s (_, refl) (silent_word sc a vs s h)
silent_word sc (test rel a b) vs s h = gives_then (word sc a vs) _ s (silent_word sc a vs s h.0) (λ n. gives_then (word sc b vs) _ s (silent_word sc b vs s h.1) (λ k. (_, refl)))
silent_word sc (umin a b) vs s h = gives_then (word sc a vs) _ s (silent_word sc a vs s h.0) (λ n. gives_then (word sc b vs) _ s (silent_word sc b vs s h.1) (λ k. (_, refl)))
silent_word sc (umax a b) vs s h = gives_then (word sc a vs) _ s (silent_word sc a vs s h.0) (λ n. gives_then (word sc b vs) _ s (silent_word sc b vs s h.1) (λ k. (_, refl)))
silent_word sc (least a b) vs s h = (0, refl)
silent_word sc (greatest a b) vs s h = (0, refl)
silent_word sc (widen a) vs s h = (0, refl)
silent_word sc (big high low) vs s h = (0, refl)

silent_wide : (sc : Scope) (e : PlainExpr) (vs : Vars) (s : State) → HasNoCells e → Gives (wide sc e vs) s
silent_wide sc (lit n) vs s h = (n, refl)
silent_wide sc (var x) vs s h = (s.wides x, refl)
silent_wide sc (cell x at) vs s h = absurd h
silent_wide sc (un op a) vs s h = (0, refl)
silent_wide sc (bin op a b) vs s h = gives_then (wide sc a vs) _ s (silent_wide sc a vs s h.0) (λ n. gives_then (wide sc b vs) _ s (silent_wide sc b vs s h.1) (λ k. (_, refl)))
silent_wide sc (cast a) vs s h = (0, refl)
silent_wide sc (test rel a b) vs s h = (0, refl)
silent_wide sc (umin a b) vs s h = (0, refl)
silent_wide sc (umax a b) vs s h = (0, refl)
silent_wide sc (least a b) vs s h = (0, refl)
silent_wide sc (greatest a b) vs s h = (0, refl)
silent_wide sc (widen a) vs s h = gives_if (is_signed (kind vs a)) _ (word sc a vs) s (_, refl) (silent_word sc a vs s h)
silent_wide sc (big high low) vs s h = (_, refl)

gives_test : (sc : Scope) (t : PlainTest) (vs : Vars) (s : State) → HasNoCells t.1 × HasNoCells t.2 → Gives (holds sc t vs) s
gives_test sc t vs s h =
    gives_if (is_word (join (kind vs t.1) (kind vs t.2))) _ _ s
    (gives_then (word sc t.1 vs) _ s (silent_word sc t.1 vs s h.0) (λ n. gives_then (word sc t.2 vs) _ s (silent_word sc t.2 vs s h.1) (λ k. (_, refl))))
    (_, refl)

gives_tests : (sc : Scope) (ts : List PlainTest) (vs : Vars) (s : State) → HaveNoCells ts → Gives (all_hold sc ts vs) s
gives_tests sc [] vs s h = (true, refl)
gives_tests sc (t ∷ ts) vs s h =
    gives_then (holds sc t vs) (λ b. cond b (all_hold sc ts vs) (λ s. goes_on false s)) s (gives_test sc t vs s h.0) (λ b. gives_if b _ _ s (gives_tests sc ts vs s h.1) (false, refl))

gives_updated : (f : BinOp → ℕ → ℕ → ℕ) (op : Option BinOp) (old new : Run ℕ) (s : State) → Gives old s → Gives new s → Gives (updated f op old new) s
gives_updated f None old new s g h = h
gives_updated f (Some op) old new s g h = gives_then old _ s g (λ x. gives_then new _ s h (λ y. (_, refl)))

-- ---- statements

-- a name that a pass sets
pub data IsSet (x : Word) : Type 0 where
  sets_active : x ≡ active → IsSet x
  sets_counter : x ≡ counter → IsSet x
  sets_count : x ≡ count → IsSet x

abbrev pub Sets : PlainExpr → Type 0
Sets (var x) = IsSet x
Sets _ = ⊥

-- still statements have no loops
abbrev mutual
  pub IsQuiet : Bool → PlainStmt → Type 0
  IsQuiet still (loop x lo rel hi body) = (still ≡ false) × AreQuiet still body
  IsQuiet still (choice ts first other) = HaveNoCells ts × AreQuiet still first × AreQuiet still other
  IsQuiet still (assign t op e) = Sets t × HasNoCells e
  IsQuiet still (table x len) = ⊥
  IsQuiet still begin = ⊥
  IsQuiet still (check x extent a) = ⊥
  IsQuiet still verdict = ⊥

  pub AreQuiet : Bool → PlainStmts → Type 0
  AreQuiet still no_stmts = Unit {0}
  AreQuiet still (more_stmts s ss) = IsQuiet still s × AreQuiet still ss

-- what they leave: still ones make no turn
pub record Kept (still : Bool) (s t : State) : Type 0 where
  pub leaves : Leaves s t
  pub prologue : still ≡ true → t.prologue_turns ≡ s.prologue_turns
  pub body : still ≡ true → t.body_turns ≡ s.body_turns

leaves_none : (s : State) → Leaves s s
leaves_none s = record { memory = refl; accesses = refl; begun = refl; tables = refl; made = refl; words = λ x a b. refl; wides = λ x a. refl }

kept_none : (still : Bool) (s : State) → Kept still s s
kept_none still s = record { leaves = leaves_none s; prologue = λ e. refl; body = λ e. refl }

leaves_then : (s t u : State) → Leaves s t → Leaves t u → Leaves s u
leaves_then s t u p q = record {
  memory = q.memory ∙ p.memory;
  accesses = q.accesses ∙ p.accesses;
  begun = q.begun ∙ p.begun;
  tables = q.tables ∙ p.tables;
  made = q.made ∙ p.made;
  words = λ x a b. q.words x a b ∙ p.words x a b;
  wides = λ x a. q.wides x a ∙ p.wides x a;
}

kept_then : (still : Bool) (s t u : State) → Kept still s t → Kept still t u → Kept still s u
kept_then still s t u p q = record {
  leaves = leaves_then s t u p.leaves q.leaves;
  prologue = λ e. q.prologue e ∙ p.prologue e;
  body = λ e. q.body e ∙ p.body e;
}

word_set : (still : Bool) (x : Word) (n : ℕ) (s : State) → ((y : Word) → bytes_eq active y ≡ false → bytes_eq counter y ≡ false → bytes_eq x y ≡ false) → Kept still s (record s { words = put s.words x n })
word_set still x n s h = record {
  leaves = record { memory = refl; accesses = refl; begun = refl; tables = refl; made = refl; words = λ y a b. cond-false _ _ _ (h y a b); wides = λ y a. refl };
  prologue = λ e. refl;
  body = λ e. refl;
}

wide_set : (still : Bool) (x : Word) (n : ℕ) (s : State) → x ≡ count → Kept still s (record s { wides = put s.wides x n })
wide_set still x n s h = record {
  leaves = record { memory = refl; accesses = refl; begun = refl; tables = refl; made = refl; words = λ y a b. refl; wides = λ y a. cond-false _ _ _ (ap (λ z. bytes_eq z y) h ∙ a) };
  prologue = λ e. refl;
  body = λ e. refl;
}

kept_given : (still : Bool) (s : State) (p : Run ℕ) (f : ℕ → Run (Unit {0})) → Gives p s → ((n : ℕ) → GoesTo (Kept still s) (f n s)) → GoesTo (Kept still s) (and_then (p s) f)
kept_given still s p f g h = subst (λ o. GoesTo (Kept still s) (and_then o f)) (sym g.1) (h g.0)

module _ (sc : Scope) (has : HasCounters sc.wides) (still : Bool) where
  word_assigned : (x : Word) (op : Option BinOp) (e : PlainExpr) (vs : Vars) (s : State) → list_any (bytes_eq x) sc.wides ≡ false → HasNoCells e →
      ((y : Word) → bytes_eq active y ≡ false → bytes_eq counter y ≡ false → bytes_eq x y ≡ false) → GoesTo (Kept still s) (assigned sc (var x) op e vs s)
  word_assigned x op e vs s w h o =
      rw w (kept_given still s (updated word_bin op (λ s. goes_on (s.words x) s) (word sc e vs)) (set_word x)
      (gives_updated word_bin op (λ s. goes_on (s.words x) s) (word sc e vs) s (s.words x, refl) (silent_word sc e vs s h)) (λ n. word_set still x n s o))

  wide_assigned : (x : Word) (op : Option BinOp) (e : PlainExpr) (vs : Vars) (s : State) → list_any (bytes_eq x) sc.wides ≡ true → HasNoCells e →
      x ≡ count → GoesTo (Kept still s) (assigned sc (var x) op e vs s)
  wide_assigned x op e vs s w h o =
      rw w (kept_given still s (updated wide_bin op (λ s. goes_on (s.wides x) s) (wide sc e vs)) (set_wide x)
      (gives_updated wide_bin op (λ s. goes_on (s.wides x) s) (wide sc e vs) s (s.wides x, refl) (silent_wide sc e vs s h)) (λ n. wide_set still x n s o))

  kept_assigned : (x : Word) (op : Option BinOp) (e : PlainExpr) (vs : Vars) (s : State) → IsSet x → HasNoCells e → GoesTo (Kept still s) (assigned sc (var x) op e vs s)
  kept_assigned x op e vs s (sets_active is) h =
      word_assigned x op e vs s (ap (λ y. list_any (bytes_eq y) sc.wides) is ∙ has.active_word) h (λ y a b. ap (λ z. bytes_eq z y) is ∙ a)
  kept_assigned x op e vs s (sets_counter is) h =
      word_assigned x op e vs s (ap (λ y. list_any (bytes_eq y) sc.wides) is ∙ has.counter_word) h (λ y a b. ap (λ z. bytes_eq z y) is ∙ b)
  kept_assigned x op e vs s (sets_count is) h = wide_assigned x op e vs s (ap (λ y. list_any (bytes_eq y) sc.wides) is ∙ has.count_wide) h is

  kept_chosen : (b : Bool) (p q : Run (Unit {0})) (s : State) → GoesTo (Kept still s) (p s) → GoesTo (Kept still s) (q s) → GoesTo (Kept still s) (cond b p q s)
  kept_chosen true p q s h g = h
  kept_chosen false p q s h g = g

  kept_turn : (s : State) → still ≡ false → GoesTo (Kept still s) (turn s)
  kept_turn s e = chosen s.begun
    where
      chosen : (b : Bool) → Kept still s (cond b (record s { body_turns = s.body_turns + 1 }) (record s { prologue_turns = s.prologue_turns + 1 }))
      chosen true = record {
        leaves = record { memory = refl; accesses = refl; begun = refl; tables = refl; made = refl; words = λ x a b. refl; wides = λ x a. refl };
        prologue = λ g. refl;
        body = λ g. absurd (true≢false (sym g ∙ e));
      }
      chosen false = record {
        leaves = record { memory = refl; accesses = refl; begun = refl; tables = refl; made = refl; words = λ x a b. refl; wides = λ x a. refl };
        prologue = λ g. absurd (true≢false (sym g ∙ e));
        body = λ g. refl;
      }

  kept_over : (f : ℤ → Run (Unit {0})) → ((v : ℤ) (s : State) → GoesTo (Kept still s) (f v s)) → (vals : List ℤ) (s : State) → GoesTo (Kept still s) (over f vals s)
  kept_over f h vals s = must_over (Kept still s) f (λ v t k. must_weaker (Kept still t) (Kept still s) (f v t) (λ u l. kept_then still s t u k l) (h v t)) vals s (kept_none still s)

  mutual
    pub quiet_one : (p : PlainStmt) (vs : Vars) (s : State) → IsQuiet still p → GoesTo (Kept still s) (exec sc p vs s)
    quiet_one (loop x lo rel hi body) vs s h =
        kept_over (λ v. λ t. and_then (turn t) (λ u. exec_all sc body ((x, v) ∷ vs)))
        (λ v t. must_then (Kept still t) (Kept still t) (turn t) (λ u. exec_all sc body ((x, v) ∷ vs)) (kept_turn t h.0)
        (λ u k. must_weaker (Kept still u) (Kept still t) (exec_all sc body ((x, v) ∷ vs) u) (λ w l. kept_then still t u w k l) (quiet_all body ((x, v) ∷ vs) u h.1)))
        (loop_values (signed lo vs) rel (signed hi vs)) s
    quiet_one (choice ts first other) vs s h =
        let g : Gives (all_hold sc ts vs) s = gives_tests sc ts vs s h.0 in
        subst (λ o. GoesTo (Kept still s) (and_then o (λ b. cond b (exec_all sc first vs) (exec_all sc other vs)))) (sym g.1)
        (kept_chosen g.0 (exec_all sc first vs) (exec_all sc other vs) s (quiet_all first vs s h.1) (quiet_all other vs s h.2))
    quiet_one (assign (var x) op e) vs s h = kept_assigned x op e vs s h.0 h.1
    quiet_one (assign (lit n) op e) vs s h = absurd h.0
    quiet_one (assign (cell x at) op e) vs s h = absurd h.0
    quiet_one (assign (un o a) op e) vs s h = absurd h.0
    quiet_one (assign (bin o a b) op e) vs s h = absurd h.0
    quiet_one (assign (cast a) op e) vs s h = absurd h.0
    quiet_one (assign (test rel a b) op e) vs s h = absurd h.0
    quiet_one (assign (umin a b) op e) vs s h = absurd h.0
    quiet_one (assign (umax a b) op e) vs s h = absurd h.0
    quiet_one (assign (least a b) op e) vs s h = absurd h.0
    quiet_one (assign (greatest a b) op e) vs s h = absurd h.0
    quiet_one (assign (widen a) op e) vs s h = absurd h.0
    quiet_one (assign (big high low) op e) vs s h = absurd h.0
    quiet_one (table x len) vs s h = absurd h
    quiet_one begin vs s h = absurd h
    quiet_one (check x extent a) vs s h = absurd h
    quiet_one verdict vs s h = absurd h

    pub quiet_all : (ps : PlainStmts) (vs : Vars) (s : State) → AreQuiet still ps → GoesTo (Kept still s) (exec_all sc ps vs s)
    quiet_all no_stmts vs s h = kept_none still s
    quiet_all (more_stmts p ps) vs s h =
        must_then (Kept still s) (Kept still s) (exec sc p vs s) (λ u. exec_all sc ps vs) (quiet_one p vs s h.0)
        (λ t k. must_weaker (Kept still t) (Kept still s) (exec_all sc ps vs t) (λ w l. kept_then still s t w k l) (quiet_all ps vs t h.1))
