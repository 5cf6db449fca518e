-- The values of loops lie in their intervals, and so their bounds are as whole numbers.
use Rattle.std.proofs.Common.{◌≡◌, ℕ, zero, suc, ◌<◌, Bool, true, false, cond, ◌||◌, List, [], ◌∷◌, ℤ, pos, ◌+ℤ◌, ◌-ℤ◌, ◌<ℤ◌, ◌≤ℤ◌, subst, arith}
use Rattle.std.specs.Prelude.{bytes_eq}
use Rattle.std.specs.Int.{int_max, int_gap}
use Rattle.std.specs.List.{AllByRecursion}
use Rattle.std.proofs.lemmas.Int.{ints, clamps}
use Rattle.std.proofs.lemmas.Bool.{and_parts}
use Rattle.c_tree.specs.Plain.{Word, PlainExpr, loop, PlainStmts, PlainUnit}
use Rattle.c_tree.specs.Values.{Vars, value_in, exact, from_on, count_of, loop_values}
use Rattle.c_tree.specs.declared.expr.Rel.{Rel}
use Rattle.c_tree.specs.declared.expr.Rel.TheVariants.{Lt, Le}
use Rattle.run_laws.specs.Sources.{IsExact}
use Rattle.acceptance.specs.Items.{Loop, scope_of, is_loop, is_int, is_signed_name}
use Rattle.acceptance.specs.Affine.{is_affine, holds_throughout, Interval, Intervals, interval_in, interval, is_narrow}
use Rattle.acceptance.specs.Head.{intervals_of}
use Rattle.acceptance.specs.Parts.{loop_interval, intervals_in}
use Rattle.accepted_laws.proofs.Clear.{Clear}
use Rattle.interval_laws.specs.Laws.{Within, Suits}
use Rattle.interval_laws.proofs.Intervals.{exact_within, signed_exact}
use Rattle.source_laws.proofs.Expressions.{Stands, stands_inside}
use Rattle.source_laws.proofs.Statements.{reserved_own}

-- each value of a loop
each_of : (P : ℤ → Type 0) (lo : ℤ) (n : ℕ) → ((j : ℕ) → j < n → P (lo +ℤ pos j)) → AllByRecursion P (from_on lo n)
each_of P lo zero h = tt
each_of P lo (suc n) h = (
  subst P (let e : lo +ℤ pos 0 ≡ lo = omega (arith, ints) in e) (h 0 (omega arith)),
  each_of P (lo +ℤ pos 1) n (λ j lt. subst P (let e : lo +ℤ pos (suc j) ≡ lo +ℤ pos 1 +ℤ pos j = omega (arith, ints) in e) (h (suc j) (omega arith))),
)

pub all_inside : (P Q : ℤ → Type 0) → ((v : ℤ) → P v → Q v) → (vs : List ℤ) → AllByRecursion P vs → AllByRecursion Q vs
all_inside P Q f [] h = tt
all_inside P Q f (v ∷ vs) h = (f v h.0, all_inside P Q f vs h.1)

below_gap : (lo hi : ℤ) (k : ℕ) → k < int_gap lo hi → (lo +ℤ pos k) <ℤ hi
below_gap lo hi k h = grind (arith, ints)

in_range : (i j : Interval) (lo last : ℤ) (k : ℕ) → Within i lo → (lo +ℤ pos k) ≤ℤ last → last ≤ℤ j.1 → Within (i.0, int_max i.0 j.1) (lo +ℤ pos k)
in_range i j lo last k p h g = let f = p.low in record { low = omega (arith, ints); high = omega (arith, ints, clamps) }

loop_value_within : (rel : Rel) (i j : Interval) (lo hi : ℤ) (k : ℕ) → Within i lo → Within j hi → k < count_of lo rel hi → Within (loop_interval i rel j) (lo +ℤ pos k)
loop_value_within Lt i j lo hi k p q h = let g = q.high in let b = below_gap lo hi k h in in_range i (j.0, j.1 -ℤ pos 1) lo (hi -ℤ pos 1) k p (omega (arith, ints)) (omega (arith, ints))
loop_value_within Le i j lo hi k p q h = let b = below_gap lo (hi +ℤ pos 1) k h in in_range i j lo hi k p (omega (arith, ints)) q.high
loop_value_within _ i j lo hi k p q h = absurd (omega arith)

suits_inside : (u : PlainUnit) (ls : List Loop) (rs : Intervals) (vs : Vars) (l : Loop) (i : Interval) (v : ℤ) → Within i v → Suits rs (scope_of u ls []) vs →
    Suits ((l.name, i) ∷ rs) (scope_of u (l ∷ ls) []) ((l.name, v) ∷ vs)
suits_inside u ls rs vs l i v w s = record { within = λ x h. chosen x (bytes_eq l.name x) (s.within x) h }
  where
    chosen : (x : Word) (b : Bool) → (is_signed_name (scope_of u ls []) x ≡ true → Within (interval_in rs x) (value_in vs x)) → ((b || is_loop ls x) || is_int u.params x) ≡ true →
        Within (cond b i (interval_in rs x)) (cond b v (value_in vs x))
    chosen x true f h = w
    chosen x false f h = f h

-- ---- a loop

abbrev pub around : PlainUnit → List Loop → Intervals
around u ls = intervals_in (intervals_of u) ls

-- a place inside loops, with values that they have
pub record IsPlace (u : PlainUnit) (ls : List Loop) (vs : Vars) : Type 0 where
  pub stands : Stands u ls vs
  pub suits : Suits (around u ls) (scope_of u ls []) vs

pub record LoopIs (u : PlainUnit) (ls : List Loop) (vs : Vars) (l : Loop) : Type 0 where
  pub first : IsExact l.lo vs
  pub last : IsExact l.hi vs
  pub inside : AllByRecursion (λ v. IsPlace u (l ∷ ls) ((l.name, v) ∷ vs)) (loop_values (exact l.lo vs) l.rel (exact l.hi vs))

pub loop_is : (u : PlainUnit) (ls : List Loop) (vs : Vars) (l : Loop) (body : PlainStmts) → IsPlace u ls vs → Clear u (record { stmt = loop l.name l.lo l.rel l.hi body; loops = ls; tables = [] }) → LoopIs u ls vs l
loop_is u ls vs l body p c =
    let sc = scope_of u ls [] in
    let rs : Intervals = around u ls in
    let narrow : PlainExpr → Bool = holds_throughout (is_narrow rs) in
    let affine = and_parts (is_affine sc l.lo) (is_affine sc l.hi) c.affine in
    let thin = and_parts (narrow l.lo) (narrow l.hi) c.narrow in
    let lo_in = exact_within rs sc vs p.suits l.lo affine.0 in
    let hi_in = exact_within rs sc vs p.suits l.hi affine.1 in
    record {
      first = signed_exact rs sc vs p.suits l.lo affine.0 thin.0;
      last = signed_exact rs sc vs p.suits l.hi affine.1 thin.1;
      inside = each_of (λ v. IsPlace u (l ∷ ls) ((l.name, v) ∷ vs)) (exact l.lo vs) (count_of (exact l.lo vs) l.rel (exact l.hi vs)) (λ k lt. record {
        stands = stands_inside u ls vs l (exact l.lo vs +ℤ pos k) (reserved_own l.name c.free) p.stands;
        suits = suits_inside u ls rs vs l (loop_interval (interval rs l.lo) l.rel (interval rs l.hi)) (exact l.lo vs +ℤ pos k)
            (loop_value_within l.rel (interval rs l.lo) (interval rs l.hi) (exact l.lo vs) (exact l.hi vs) k lo_in hi_in lt) p.suits;
      });
    }
