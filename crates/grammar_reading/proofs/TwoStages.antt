-- Climbing to a level and then on to a lower one is climbing to the lower one. A parser may so stop at a tighter level to look for a comparison.
use Rattle.std.proofs.Common.{◌≡◌, ℕ, zero, suc, ◌<◌, ◌≤◌, List, length, drop, Bool, true, false, cond, Option, Some, None, option_and_then, nat_lt, refl, sym, ap, ◌∙◌, arith, length-drop}
use Rattle.std.proofs.lemmas.Option.{same_Some}
use Rattle.std.proofs.lemmas.Bool.{le-ltb, ltb-false}
use Rattle.c_tree.specs.declared.expr.BinOp.{BinOp}
use Rattle.c_tree.specs.Plain.{PlainExpr, bin}
use Rattle.c_tree.specs.Grammar.Lexemes.{Lexeme}
use Rattle.c_tree.specs.Grammar.Tables.{level}
use Rattle.grammar_reading.specs.declared.rules.Rules.{Rules}
use Rattle.grammar_reading.specs.Reading.{Read, node, front_op, climb, climb_by}
use Rattle.grammar_reading.proofs.StepLemmas.{node_is, level_bounds}

-- one step: the operator's right side, and the tree of both
abbrev step : Rules → (ℕ → List Lexeme → Read PlainExpr) → PlainExpr → List Lexeme → BinOp → Read PlainExpr
step c e left ts op = option_and_then (λ (x : PlainExpr × List Lexeme). node c (bin op left x.0) x.1) (e (suc (level op)) (drop 1 ts))

abbrev then_go : (PlainExpr → List Lexeme → Read PlainExpr) → Read PlainExpr → Read PlainExpr
then_go go r = option_and_then (λ (x : PlainExpr × List Lexeme). go x.0 x.1) r

module _ (c : Rules) (e : ℕ → List Lexeme → Read PlainExpr) (shrinks : (l : ℕ) (ts : List Lexeme) (x : PlainExpr × List Lexeme) → 1 ≤ l → l ≤ 7 → e l ts ≡ Some x → length x.1 < length ts) where
  -- the same, with the step by itself
  by_step : (l : ℕ) (go : PlainExpr → List Lexeme → Read PlainExpr) (left : PlainExpr) (ts : List Lexeme) (op : BinOp) → climb_by c e l go left ts (Some op) ≡ cond (nat_lt (level op) l) (Some (left, ts)) (then_go go (step c e left ts op))
  by_step l go left ts op = ap (cond (nat_lt (level op) l) (Some (left, ts))) (regroup (e (suc (level op)) (drop 1 ts)))
    where
      regroup : (r : Read PlainExpr) → option_and_then (λ (x : PlainExpr × List Lexeme). option_and_then (λ (y : PlainExpr × List Lexeme). go y.0 y.1) (node c (bin op left x.0) x.1)) r ≡ then_go go (option_and_then (λ (x : PlainExpr × List Lexeme). node c (bin op left x.0) x.1) r)
      regroup None = refl
      regroup (Some x) = refl

  step_shrinks : (left : PlainExpr) (ts : List Lexeme) (op : BinOp) (y : PlainExpr × List Lexeme) → step c e left ts op ≡ Some y → length y.1 < length ts
  step_shrinks left ts op y h = by_read (e (suc (level op)) (drop 1 ts)) refl h
    where
      by_read : (r : Read PlainExpr) → e (suc (level op)) (drop 1 ts) ≡ r → option_and_then (λ (x : PlainExpr × List Lexeme). node c (bin op left x.0) x.1) r ≡ Some y → length y.1 < length ts
      by_read None is k = absurd (let no : ⊥ = cc in no)
      by_read (Some x) is k = let q = node_is c (bin op left x.0) y.0 x.1 y.1 k in omega (arith, shrinks (suc (level op)) (drop 1 ts) x (omega arith) (omega (arith, level_bounds op)) is, ap length q.1, length-drop 1 ts)

  same_after : (m : ℕ) (f g : PlainExpr → List Lexeme → Read PlainExpr) (r : Read PlainExpr) → ((y : PlainExpr × List Lexeme) → r ≡ Some y → length y.1 < m) → ((u : PlainExpr) (ts : List Lexeme) → length ts < m → f u ts ≡ g u ts) → then_go f r ≡ then_go g r
  same_after m f g None small h = refl
  same_after m f g (Some y) small h = h y.0 y.1 (small y refl)

  again : (f g : PlainExpr → List Lexeme → Read PlainExpr) (r : Read PlainExpr) → then_go g (then_go f r) ≡ then_go (λ u z. then_go g (f u z)) r
  again f g None = refl
  again f g (Some y) = refl

  -- more turns than tokens change nothing
  enough_by : (l k j : ℕ) → ((u : PlainExpr) (z : List Lexeme) → length z < k → length z < j → climb c e l k u z ≡ climb c e l j u z)
      → (left : PlainExpr) (ts : List Lexeme) (r : Option BinOp) → length ts < suc k → length ts < suc j → climb_by c e l (climb c e l k) left ts r ≡ climb_by c e l (climb c e l j) left ts r
  enough_by l k j go left ts None a b = refl
  enough_by l k j go left ts (Some op) a b =
      by_step l (climb c e l k) left ts op
      ∙ ap (cond (nat_lt (level op) l) (Some (left, ts))) (same_after (length ts) (climb c e l k) (climb c e l j) (step c e left ts op) (step_shrinks left ts op) (λ u z lt. go u z (omega arith) (omega arith)))
      ∙ sym (by_step l (climb c e l j) left ts op)

  pub enough : (l k j : ℕ) (left : PlainExpr) (ts : List Lexeme) → length ts < k → length ts < j → climb c e l k left ts ≡ climb c e l j left ts
  unfolding climb
  enough l zero j left ts a b = absurd (let no : ⊥ = omega arith in no)
  enough l (suc k) zero left ts a b = absurd (let no : ⊥ = omega arith in no)
  enough l (suc k) (suc j) left ts a b = enough_by l k j (enough l k j) left ts (front_op ts) a b

  abbrev on : ℕ → PlainExpr → List Lexeme → Read PlainExpr
  on l u z = climb c e l c.turns u z

  on_none_by : (l k : ℕ) (left : PlainExpr) (ts : List Lexeme) → 0 < k → front_op ts ≡ None → Some (left, ts) ≡ climb c e l k left ts
  unfolding climb
  on_none_by l zero left ts pos is = absurd (let no : ⊥ = omega arith in no)
  on_none_by l (suc k) left ts pos is = rw is refl

  on_none : (l : ℕ) (left : PlainExpr) (ts : List Lexeme) → length ts < c.turns → front_op ts ≡ None → Some (left, ts) ≡ on l left ts
  on_none l left ts turns is = on_none_by l c.turns left ts (omega arith) is

  on_some : (l k : ℕ) (left : PlainExpr) (ts : List Lexeme) (op : BinOp) → front_op ts ≡ Some op → length ts < suc k → length ts < c.turns → climb_by c e l (climb c e l k) left ts (Some op) ≡ on l left ts
  unfolding climb
  on_some l k left ts op is room turns = ap (climb_by c e l (climb c e l k) left ts) (sym is) ∙ enough l (suc k) c.turns left ts room turns

  stages_by : (l h k : ℕ) → l ≤ h → ((u : PlainExpr) (z : List Lexeme) → length z < k → length z < c.turns → climb c e l k u z ≡ then_go (on l) (climb c e h k u z))
      → (left : PlainExpr) (ts : List Lexeme) (r : Option BinOp) (b : Bool) → front_op ts ≡ r → length ts < suc k → length ts < c.turns → ((op : BinOp) → r ≡ Some op → nat_lt (level op) h ≡ b)
      → climb_by c e l (climb c e l k) left ts r ≡ then_go (on l) (climb_by c e h (climb c e h k) left ts r)
  stages_by l h k le go left ts None b is room turns test = on_none l left ts turns is
  stages_by l h k le go left ts (Some op) true is room turns test =
      on_some l k left ts op is room turns ∙ sym (ap (λ (z : Bool). then_go (on l) (cond z (Some (left, ts)) (option_and_then (λ (x : PlainExpr × List Lexeme). option_and_then (λ (y : PlainExpr × List Lexeme). climb c e h k y.0 y.1) (node c (bin op left x.0) x.1)) (e (suc (level op)) (drop 1 ts))))) (test op refl))
  stages_by l h k le go left ts (Some op) false is room turns test =
      let above : h ≤ level op = ltb-false (level op) h (test op refl) in
      let low : nat_lt (level op) l ≡ false = le-ltb (level op) l (omega arith) in
      by_step l (climb c e l k) left ts op ∙ ap (λ (z : Bool). cond z (Some (left, ts)) (then_go (climb c e l k) (step c e left ts op))) low
      ∙ same_after (length ts) (climb c e l k) (λ u z. then_go (on l) (climb c e h k u z)) (step c e left ts op) (step_shrinks left ts op) (λ u z lt. go u z (omega arith) (omega arith))
      ∙ sym (ap (then_go (on l)) (by_step h (climb c e h k) left ts op ∙ ap (λ (z : Bool). cond z (Some (left, ts)) (then_go (climb c e h k) (step c e left ts op))) (test op refl)) ∙ again (climb c e h k) (on l) (step c e left ts op))

  test_of : ℕ → Option BinOp → Bool
  test_of h None = true
  test_of h (Some op) = nat_lt (level op) h

  test_is : (h : ℕ) (r : Option BinOp) (op : BinOp) → r ≡ Some op → nat_lt (level op) h ≡ test_of h r
  unfolding test_of
  test_is h r op is = sym (ap (test_of h) is)

  -- climbing to the level h, and on to l
  pub stages : (l h k : ℕ) (left : PlainExpr) (ts : List Lexeme) → l ≤ h → length ts < k → length ts < c.turns → climb c e l k left ts ≡ then_go (on l) (climb c e h k left ts)
  unfolding climb
  stages l h zero left ts le room turns = absurd (let no : ⊥ = omega arith in no)
  stages l h (suc k) left ts le room turns = stages_by l h k le (λ u z lt few. stages l h k u z le lt few) left ts (front_op ts) (test_of h (front_op ts)) refl room turns (test_is h (front_op ts))

  -- what is left is no longer
  within_by : (l k : ℕ) → ((left : PlainExpr) (ts : List Lexeme) (x : PlainExpr × List Lexeme) → climb c e l k left ts ≡ Some x → length x.1 ≤ length ts)
      → (left : PlainExpr) (ts : List Lexeme) (x : PlainExpr × List Lexeme) (r : Option BinOp) → climb_by c e l (climb c e l k) left ts r ≡ Some x → length x.1 ≤ length ts
  within_by l k go left ts x None h = omega (arith, ap (λ (y : PlainExpr × List Lexeme). length y.1) (same_Some (left, ts) x h))
  within_by l k go left ts x (Some op) h = at (nat_lt (level op) l) (sym (by_step l (climb c e l k) left ts op) ∙ h)
    where
      after : (r : Read PlainExpr) → step c e left ts op ≡ r → then_go (climb c e l k) r ≡ Some x → length x.1 ≤ length ts
      after None is j = absurd (let no : ⊥ = cc in no)
      after (Some y) is j = omega (arith, go y.0 y.1 x j, step_shrinks left ts op y is)

      at : (b : Bool) → cond b (Some (left, ts)) (then_go (climb c e l k) (step c e left ts op)) ≡ Some x → length x.1 ≤ length ts
      at true j = omega (arith, ap (λ (y : PlainExpr × List Lexeme). length y.1) (same_Some (left, ts) x j))
      at false j = after (step c e left ts op) refl j

  pub climb_within : (l k : ℕ) (left : PlainExpr) (ts : List Lexeme) (x : PlainExpr × List Lexeme) → climb c e l k left ts ≡ Some x → length x.1 ≤ length ts
  unfolding climb
  climb_within l zero left ts x h = absurd (let no : ⊥ = cc in no)
  climb_within l (suc k) left ts x h = within_by l k (climb_within l k) left ts x (front_op ts) h
