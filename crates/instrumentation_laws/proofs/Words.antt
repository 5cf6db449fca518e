-- Every value that a source's run reads and writes is a word, under every fault of a bit below 64.
use Rattle.std.proofs.Common.{◌≡◌, ℕ, zero, suc, ◌+◌, ◌/◌, ◌%◌, ◌^◌, ◌<◌, Bool, true, false, cond, ◌&&◌, if◌then◌else◌, List, [], ◌∷◌, ◌++◌, length, sym, subst, arith, ℤ, pos, Option, Some, None, nat_eq, nat_lt}
use Rattle.std.proofs.lemmas.Bool.{cond_both}
use Rattle.std.proofs.lemmas.Nat.{xor_lt, or_lt, pow_below}
use Rattle.std.specs.List.{AllByRecursion}
use Rattle.std.specs.Int.Bits.{and_lt}
use Rattle.std.proofs.Math.Nat.{div-le_self, mod-le}
use Rattle.std.specs.Prelude.{bytes_eq}
use Rattle.c_tree.specs.Plain.{Word, PlainExpr, lit, var, cell, un, bin, cast, test, umin, umax, least, greatest, widen, big, PlainExprs, no_exprs, more_exprs, PlainStmt, loop, choice, assign, table, begin, check, verdict, PlainStmts, no_stmts, more_stmts}
use Rattle.c_tree.specs.Kinds.{is_signed}
use Rattle.c_tree.specs.Values.{Vars, signed, as_word, word_un, word_bin, word_holds, as_bit, kind, loop_values}
use Rattle.c_tree.proofs.WordValues.{as_word_fits}
use Rattle.c_tree.specs.Arrays.{Array, Memory, stored, same_cell, is_within}
use Rattle.c_tree.specs.Fault.{Upset, inverted, disturbed}
use Rattle.c_tree.specs.Run.{Event, State, goes_on, ends, outside, Run, ◌>>◌, and_then, give, Scope, loads, stores, within, word, coordinates, set_word, turn, over, exec, exec_all, assigned}
use Rattle.c_tree.specs.declared.expr.UnOp.{UnOp}
use Rattle.c_tree.specs.declared.expr.UnOp.TheVariants.{Neg, Inv}
use Rattle.c_tree.specs.declared.expr.BinOp.{BinOp}
use Rattle.c_tree.specs.declared.expr.BinOp.TheVariants.{Add, Sub, Mul, Div, Rem, Shl, Shr, And, Xor, Or}
use Rattle.run_laws.specs.Logs.{values_in}
use Rattle.instrumentation.specs.Body.{full}
use Rattle.instrumentation_laws.specs.RegularSources.{IsTarget}
use Rattle.instrumentation_laws.specs.Sources.{IsSubscript, AreSubscripts, IsData, IsSource, AreSource}
use Rattle.instrumentation_laws.specs.AccessList.{signed_all, tests_hold}
use Rattle.instrumentation_laws.specs.WordValues.{GivesWord, AssignsWords, AllAssignWords}
use Rattle.instrumentation_laws.specs.Setting.{scope_of}
use Rattle.instrumentation_laws.proofs.Outcomes.{IfGoing, going_then}
use Rattle.instrumentation.proofs.Subscripts.{cell_or_not}
use Rattle.instrumentation_laws.proofs.IndexCells.{plain_kind}
use Rattle.instrumentation_laws.proofs.Steps.{found, event, load_begun, store_begun, regular_at, cell_run, signed_first, cell_first, cell_assigned, var_assigned, all_hold_is}

-- ---- values

div_fits : (a b : ℕ) → a < 2 ^ 64 → a / b < 2 ^ 64
div_fits a b h = let e = div-le_self a b in omega arith

mod_fits : (a b : ℕ) → a < 2 ^ 64 → a % b < 2 ^ 64
mod_fits a b h = let e = mod-le a b in omega arith

un_fits : (op : UnOp) (a : ℕ) → a < 2 ^ 64 → word_un op a < 2 ^ 64
un_fits Neg a h = omega arith
un_fits Inv a h = omega arith

bin_fits : (op : BinOp) (a b : ℕ) → a < 2 ^ 64 → b < 2 ^ 64 → word_bin op a b < 2 ^ 64
bin_fits Add a b h g = omega arith
bin_fits Sub a b h g = omega arith
bin_fits Mul a b h g = omega arith
bin_fits Div a b h g = div_fits a b h
bin_fits Rem a b h g = mod_fits a b h
bin_fits Shl a b h g = omega arith
bin_fits Shr a b h g = div_fits a (2 ^ b) h
bin_fits And a b h g = and_lt 64 a b h g
bin_fits Xor a b h g = xor_lt 64 a b h g
bin_fits Or a b h g = or_lt 64 a b h g

bit_fits : (b : Bool) → as_bit b < 2 ^ 64
bit_fits true = omega arith
bit_fits false = omega arith

chosen_fits : (b : Bool) (x y : ℕ) → x < 2 ^ 64 → y < 2 ^ 64 → cond b x y < 2 ^ 64
chosen_fits true x y h g = h
chosen_fits false x y h g = g

-- ---- the log

abbrev Bounded : List Event → Type 0
Bounded [] = Unit {0}
Bounded (x ∷ xs) = (x.value < 2 ^ 64) × Bounded xs

bounded_push : (xs : List Event) (y : Event) → Bounded xs → y.value < 2 ^ 64 → Bounded (xs ++ y ∷ [])
bounded_push [] y h g = (g, tt)
bounded_push (x ∷ xs) y h g = (h.0, bounded_push xs y h.1 g)

pub bounded_at : (xs : List Event) → Bounded xs → (q : ℕ) → values_in xs q < 2 ^ 64
bounded_at [] h q = omega arith
bounded_at (x ∷ xs) h zero = h.0
bounded_at (x ∷ xs) h (suc q) = bounded_at xs h.1 q

abbrev pub BitFits : Option Upset → Type 0
BitFits None = Unit {0}
BitFits (Some f) = f.bit < 64

stored_fits : (m : Memory) (a : ℕ) (c : List ℤ) (v : ℕ) → ((b : ℕ) (d : List ℤ) → m b d < 2 ^ 64) → v < 2 ^ 64 → (b : ℕ) (d : List ℤ) → stored m a c v b d < 2 ^ 64
stored_fits m a c v h l b d = chosen_fits (nat_eq a b && same_cell c d) v (m b d) l (h b d)

disturbed_fits : (f : Option Upset) (n : ℕ) (m : Memory) → BitFits f → ((b : ℕ) (d : List ℤ) → m b d < 2 ^ 64) → (b : ℕ) (d : List ℤ) → disturbed f n m b d < 2 ^ 64
unfolding disturbed
disturbed_fits None n m bit h b d = h b d
disturbed_fits (Some g) n m bit h b d =
    cond_both (nat_eq g.place n) (inverted g m) m (λ (k : Memory). k b d < 2 ^ 64)
    (λ e. stored_fits m g.array g.cell _ h (xor_lt 64 _ _ (h g.array g.cell) (pow_below g.bit 64 bit)) b d) (λ e. h b d)

pub record IsFit (s : State) : Type 0 where
  pub begun : s.begun ≡ true
  pub memory : (a : ℕ) (c : List ℤ) → s.memory a c < 2 ^ 64
  pub words : (x : Word) → s.words x < 2 ^ 64
  pub log : Bounded s.accesses

module _ (arrays : List Array) (number : Word → ℕ) (extents : Word → PlainExprs) (inspected : ℕ → Bool) (fault : Option Upset) (bit : BitFits fault) where
  abbrev sc : Scope
  sc = scope_of arrays [] fault

  abbrev Value : ℕ → State → Type 0
  Value v t = (v < 2 ^ 64) × IsFit t

  load_fits : (a : ℕ × Array) (cs : List ℤ) (s : State) → IsFit s → IfGoing (Unit {0}) Value (within a cs (loads sc) s)
  load_fits a cs s h = chosen (is_within cs a.1.extents)
    where
      chosen : (b : Bool) → IfGoing (Unit {0}) Value ((if b then loads sc a.0 cs else (λ s. ends (outside a.0) s)) s)
      chosen true =
          let all : (b : ℕ) (d : List ℤ) → found fault s b d < 2 ^ 64 = disturbed_fits fault (length s.accesses) s.memory bit h.memory in
          subst (λ o. IfGoing (Unit {0}) Value o) (sym (load_begun sc a.0 cs s h.begun))
          (all a.0 cs, record { begun = h.begun; memory = all; words = h.words; log = bounded_push s.accesses (event a.0 cs false (found fault s a.0 cs)) h.log (all a.0 cs) })
      chosen false = tt

  store_fits : (a : ℕ × Array) (cs : List ℤ) (n : ℕ) (s : State) → n < 2 ^ 64 → IsFit s → IfGoing (Unit {0}) (λ (u : Unit {0}) t. IsFit t) (within a cs (λ k c. stores sc k c n) s)
  store_fits a cs n s small h = chosen (is_within cs a.1.extents)
    where
      chosen : (b : Bool) → IfGoing (Unit {0}) (λ (u : Unit {0}) t. IsFit t) ((if b then stores sc a.0 cs n else (λ s. ends (outside a.0) s)) s)
      chosen true =
          let all : (b : ℕ) (d : List ℤ) → stored (found fault s) a.0 cs n b d < 2 ^ 64 =
          stored_fits (found fault s) a.0 cs n (disturbed_fits fault (length s.accesses) s.memory bit h.memory) small in
          subst (λ o. IfGoing (Unit {0}) (λ (u : Unit {0}) t. IsFit t) o) (sym (store_begun sc a.0 cs n s h.begun))
          (record { begun = h.begun; memory = all; words = h.words; log = bounded_push s.accesses (event a.0 cs true n) h.log small })
      chosen false = tt

  two_fit : (f : ℕ → ℕ → ℕ) (p q : Run ℕ) (s : State) → ((x y : ℕ) → x < 2 ^ 64 → y < 2 ^ 64 → f x y < 2 ^ 64) → IfGoing (Unit {0}) Value (p s) → ((t : State) → IsFit t → IfGoing (Unit {0}) Value (q t)) →
      IfGoing (Unit {0}) Value (and_then (p s) (λ x t. and_then (q t) (λ y t. goes_on (f x y) t)))
  two_fit f p q s small h g = going_then (Unit {0}) Value Value (p s) (λ x t. and_then (q t) (λ y t. goes_on (f x y) t)) h
      (λ x t r. going_then (Unit {0}) Value Value (q t) (λ y t. goes_on (f x y) t) (g t r.1) (λ y t k. (small x y r.0 k.0, k.1)))

  cast_fits : (b : Bool) (z : ℤ) (p : Run ℕ) (s : State) → IsFit s → IfGoing (Unit {0}) Value (p s) → IfGoing (Unit {0}) Value ((if b then give (as_word z) else p) s)
  cast_fits true z p s h g = (as_word_fits z, h)
  cast_fits false z p s h g = g

  -- ---- subscripts

  abbrev Coordinates : List ℤ → State → Type 0
  Coordinates cs t = IsFit t

  abbrev FitsFrom : Type 0 → PlainExpr → ℤ → PlainExprs → Vars → State → PlainExpr → Type 0
  FitsFrom i n z es vs s e = IsSubscript arrays number i e n z vs → IfGoing (Unit {0}) Coordinates (coordinates sc (more_exprs e es) vs s)

  coordinates_fit : (i : Type 0) (at ns : PlainExprs) (zs : List ℤ) (vs : Vars) (s : State) → AreSubscripts arrays number i at ns zs vs → IsFit s → IfGoing (Unit {0}) Coordinates (coordinates sc at vs s)
  coordinates_fit i no_exprs ns zs vs s d h = h
  coordinates_fit i (more_exprs e es) no_exprs zs vs s d h = rw (regular_at sc (more_exprs e es) vs s d) h
  coordinates_fit i (more_exprs e es) (more_exprs n ns) [] vs s d h = rw (regular_at sc (more_exprs e es) vs s d) h
  coordinates_fit i (more_exprs e es) (more_exprs n ns) (z ∷ zs) vs s d h =
      cell_or_not (FitsFrom i n z es vs s)
      (λ p at sub. subst (IfGoing (Unit {0}) Coordinates) (sym (cell_first sc p at es vs s sub.0.array sub.0.named sub.1))
      (going_then (Unit {0}) Value Coordinates (within sub.0.array (signed_all at vs) (loads sc) s) (λ n t. and_then (coordinates sc es vs t) (λ cs t. goes_on (pos n ∷ cs) t)) (load_fits sub.0.array (signed_all at vs) s h)
      (λ n t r. going_then (Unit {0}) Coordinates Coordinates (coordinates sc es vs t) (λ cs t. goes_on (pos n ∷ cs) t) (coordinates_fit i es ns zs vs t d.1 r.1) (λ cs w k. k))))
      (λ e other sub. subst (IfGoing (Unit {0}) Coordinates) (sym (signed_first sc e es vs s (plain_kind arrays number i e n z vs other sub)))
      (going_then (Unit {0}) Coordinates Coordinates (coordinates sc es vs s) (λ cs t. goes_on (signed e vs ∷ cs) t) (coordinates_fit i es ns zs vs s d.1 h) (λ cs w k. k)))
      e d.0

  pub expr_fits : (e : PlainExpr) (vs : Vars) (s : State) → IsData arrays number extents inspected e vs → GivesWord e → IsFit s → IfGoing (Unit {0}) Value (word sc e vs s)
  expr_fits (lit n) vs s d l h = (l, h)
  expr_fits (var x) vs s d l h = (h.words x, h)
  expr_fits (cell x at) vs s d l h =
      rw (cell_run sc x at vs s d.array.array d.array.named)
      (going_then (Unit {0}) Coordinates Value (coordinates sc at vs s) (λ cs. within d.array.array cs (loads sc)) (coordinates_fit (inspected d.array.array.0 ≡ true) at (extents x) d.array.array.1.extents vs s d.at_each h)
      (λ cs t r. load_fits d.array.array cs t r))
  expr_fits (un op a) vs s d l h = going_then (Unit {0}) Value Value (word sc a vs s) (λ x t. goes_on (word_un op x) t) (expr_fits a vs s d l h) (λ x t r. (un_fits op x r.0, r.1))
  expr_fits (bin op a b) vs s d l h = two_fit (word_bin op) (word sc a vs) (word sc b vs) s (bin_fits op) (expr_fits a vs s d.0 l.0 h) (λ t k. expr_fits b vs t d.1 l.1 k)
  expr_fits (cast a) vs s d l h = cast_fits (is_signed (kind vs a)) (signed a vs) (word sc a vs) s h (expr_fits a vs s d.0 l h)
  expr_fits (test rel a b) vs s d l h = two_fit (λ x y. as_bit (word_holds rel x y)) (word sc a vs) (word sc b vs) s (λ x y p q. bit_fits (word_holds rel x y)) (expr_fits a vs s d.0 l.0 h) (λ t k. expr_fits b vs t d.1 l.1 k)
  expr_fits (umin a b) vs s d l h = two_fit (λ x y. if nat_lt x y then x else y) (word sc a vs) (word sc b vs) s (λ x y p q. chosen_fits (nat_lt x y) x y p q) (expr_fits a vs s d.0 l.0 h) (λ t k. expr_fits b vs t d.1 l.1 k)
  expr_fits (umax a b) vs s d l h = two_fit (λ x y. if nat_lt x y then y else x) (word sc a vs) (word sc b vs) s (λ x y p q. chosen_fits (nat_lt x y) y x q p) (expr_fits a vs s d.0 l.0 h) (λ t k. expr_fits b vs t d.1 l.1 k)
  expr_fits (least a b) vs s d l h = absurd d
  expr_fits (greatest a b) vs s d l h = absurd d
  expr_fits (widen a) vs s d l h = absurd d
  expr_fits (big high low) vs s d l h = absurd d

  -- ---- statements

  abbrev Stays : Unit {0} → State → Type 0
  Stays u t = IsFit t

  assign_fits : (t : PlainExpr) (op : Option BinOp) (e : PlainExpr) (vs : Vars) (s : State) → IsTarget arrays number t vs → IsData arrays number extents inspected (full t op e) vs → GivesWord (full t op e) → IsFit s → IfGoing (Unit {0}) Stays (assigned sc t op e vs s)
  assign_fits (var x) op e vs s t d l h =
      rw (var_assigned arrays fault x op e vs s)
      (going_then (Unit {0}) Value Stays (word sc (full (var x) op e) vs s) (set_word x) (expr_fits (full (var x) op e) vs s d l h)
      (λ v t r. record { begun = r.1.begun; memory = r.1.memory; words = λ y. chosen_fits (bytes_eq x y) v (t.words y) r.0 (r.1.words y); log = r.1.log }))
  assign_fits (cell x at) op e vs s t d l h =
      rw (cell_assigned arrays number [] fault x at op e vs s t.0 t.1)
      (going_then (Unit {0}) Value Stays (word sc (full (cell x at) op e) vs s) (λ n. within t.0.array (signed_all at vs) (λ k c. stores sc k c n)) (expr_fits (full (cell x at) op e) vs s d l h)
      (λ v w r. store_fits t.0.array (signed_all at vs) v w r.0 r.1))
  assign_fits (lit n) op e vs s t d l h = absurd t
  assign_fits (un o a) op e vs s t d l h = absurd t
  assign_fits (bin o a b) op e vs s t d l h = absurd t
  assign_fits (cast a) op e vs s t d l h = absurd t
  assign_fits (test rel a b) op e vs s t d l h = absurd t
  assign_fits (umin a b) op e vs s t d l h = absurd t
  assign_fits (umax a b) op e vs s t d l h = absurd t
  assign_fits (least a b) op e vs s t d l h = absurd t
  assign_fits (greatest a b) op e vs s t d l h = absurd t
  assign_fits (widen a) op e vs s t d l h = absurd t
  assign_fits (big high low) op e vs s t d l h = absurd t

  turn_fits : (s : State) → IsFit s → IfGoing (Unit {0}) Stays (turn s)
  turn_fits s h = chosen s.begun
    where
      chosen : (b : Bool) → IsFit (cond b (record s { body_turns = s.body_turns + 1 }) (record s { prologue_turns = s.prologue_turns + 1 }))
      chosen true = record { begun = h.begun; memory = h.memory; words = h.words; log = h.log }
      chosen false = record { begun = h.begun; memory = h.memory; words = h.words; log = h.log }

  over_fits : (f : ℤ → Run (Unit {0})) (Q : ℤ → Type 0) → ((v : ℤ) (t : State) → Q v → IsFit t → IfGoing (Unit {0}) Stays (f v t)) → (vals : List ℤ) (s : State) → AllByRecursion Q vals → IsFit s → IfGoing (Unit {0}) Stays (over f vals s)
  over_fits f Q g [] s q h = h
  over_fits f Q g (v ∷ vals) s q h = going_then (Unit {0}) Stays Stays (f v s) (λ u. over f vals) (g v s q.0 h) (λ u t r. over_fits f Q g vals t q.1 r)

  choice_fits : (b : Bool) (p q : Run (Unit {0})) (s : State) → IfGoing (Unit {0}) Stays (p s) → IfGoing (Unit {0}) Stays (q s) → IfGoing (Unit {0}) Stays ((if b then p else q) s)
  choice_fits true p q s h g = h
  choice_fits false p q s h g = g

  mutual
    pub stmt_fits : (p : PlainStmt) (vs : Vars) (s : State) → IsSource arrays number extents inspected p vs → AssignsWords p vs → IsFit s → IfGoing (Unit {0}) Stays (exec sc p vs s)
    stmt_fits (loop x lo rel hi body) vs s h l f =
        over_fits (λ v. turn >> exec_all sc body ((x, v) ∷ vs)) (λ v. AllAssignWords body ((x, v) ∷ vs)) (λ v t l r. going_then (Unit {0}) Stays Stays (turn t) (λ u. exec_all sc body ((x, v) ∷ vs)) (turn_fits t r) (λ u w k. stmts_fit body ((x, v) ∷ vs) w (h.1 v) l k))
        (loop_values (signed lo vs) rel (signed hi vs)) s l f
    stmt_fits (choice ts first other) vs s h l f =
        rw (all_hold_is sc ts vs s h.0) (choice_fits (tests_hold ts vs) (exec_all sc first vs) (exec_all sc other vs) s (stmts_fit first vs s h.1 l.0 f) (stmts_fit other vs s h.2 l.1 f))
    stmt_fits (assign t op e) vs s h l f = assign_fits t op e vs s h.0 h.1 l f
    stmt_fits (table x len) vs s h l f = absurd h
    stmt_fits begin vs s h l f = absurd h
    stmt_fits (check x extent n) vs s h l f = absurd h
    stmt_fits verdict vs s h l f = absurd h

    pub stmts_fit : (ps : PlainStmts) (vs : Vars) (s : State) → AreSource arrays number extents inspected ps vs → AllAssignWords ps vs → IsFit s → IfGoing (Unit {0}) Stays (exec_all sc ps vs s)
    stmts_fit no_stmts vs s h l f = f
    stmts_fit (more_stmts p ps) vs s h l f = going_then (Unit {0}) Stays Stays (exec sc p vs s) (λ u. exec_all sc ps vs) (stmt_fits p vs s h.0 l.0 f) (λ u t r. stmts_fit ps vs t h.1 l.1 r)
