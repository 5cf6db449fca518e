-- What is read as a condition is one.
use Rattle.std.proofs.Common.{◌≡◌, ℕ, zero, suc, ◌+◌, ◌≤◌, ◌<◌, List, [], ◌∷◌, ◌++◌, drop, Bool, Option, Some, None, refl, sym, ap, ◌∙◌, subst, arith, append_assoc, append-nil}
use Rattle.std.proofs.lemmas.Option.{some_pair_parts}
use Rattle.c_tree.specs.declared.expr.Rel.{Rel}
use Rattle.c_tree.specs.Plain.{PlainExpr, PlainTest}
use Rattle.c_tree.specs.declared.symbol.Symbol.TheVariants as s
use Rattle.c_tree.specs.Grammar.Lexemes as t
use Rattle.c_tree.specs.Grammar.Lexemes.{Lexeme}
use Rattle.c_tree.specs.Grammar.Tables.{rel_mark}
use Rattle.c_tree.specs.Grammar.Expressions as g
use Rattle.c_tree.specs.Grammar.Expressions.{height, IsExpr, IsLow}
use Rattle.c_tree.specs.Grammar.Conditions as k
use Rattle.c_tree.specs.Grammar.Conditions.{IsConj, IsCond}
use Rattle.grammar_reading.specs.declared.rules.Rules.{Rules}
use Rattle.grammar_reading.specs.Reading.{Read, expect, front_op, front_rel, operand, climb, close, opens, expr, lower, deepest, seek, seek_by, compare, shut, shut_by, after_by, conds}
use Rattle.grammar_reading.proofs.StepLemmas.{bind_is, expect_is, front_rel_is}
use Rattle.grammar_reading.proofs.Sound.{op_level, at_most_six, Sound, climb_sound, close_from, operand_sound, expr_sound, lower_sound, wrapped, opens_is}
use Rattle.grammar_reading.proofs.Low.{climb_low, close_low, operand_low, expr_low}

-- the comparison that was found, its left side begun behind some of the parentheses
abbrev Found : Rules → List Lexeme → ℕ × Rel × PlainExpr → List Lexeme → Type 0
Found c whole x rest = (start : List Lexeme) × (whole ≡ wrapped x.0 start) × IsLow c.printed c.limit 4 start x.2 (t.symbol (rel_mark x.1) ∷ rest)

found_is : (c : Rules) (whole rest rest' : List Lexeme) (x y : ℕ × Rel × PlainExpr) → ◌≡◌ {A = Read (ℕ × Rel × PlainExpr)} (Some (x, rest)) (Some (y, rest')) → Found c whole x rest → Found c whole y rest'
found_is c whole rest rest' x y h f = let q = some_pair_parts x y rest rest' h in subst (λ z. Found c whole z rest') q.0 (subst (λ r. Found c whole x r) q.1 f)

module _ (c : Rules) (some : 1 ≤ c.limit) (e : ℕ → List Lexeme → Read PlainExpr) (sound : Sound c e) where
  here : (k : ℕ) (rel : Rel) (start ts : List Lexeme) (a : PlainExpr) → front_rel ts ≡ Some rel → IsExpr c.printed 4 start a ts → height a ≤ c.limit → Found c (wrapped k start) (k, rel, a) (drop 1 ts)
  here k rel start ts a is d low = (start, refl, record { reads = subst (λ r. IsExpr c.printed 4 start a r) (front_rel_is ts rel is) d; low = low })

  seek_sound : (k : ℕ) (start ts rest : List Lexeme) (left : PlainExpr) (x : ℕ × Rel × PlainExpr) → IsExpr c.printed 7 start left ts → height left ≤ c.limit → seek c e k left ts ≡ Some (x, rest) → Found c (wrapped k start) x rest
  unfolding seek
  seek_sound zero start ts rest left x d low h =
      let (y, h1, h2) = bind_is _ (climb c e 4 c.turns left ts) (x, rest) h in
      let four = climb_sound c e sound 4 c.turns (omega arith) 7 left start ts y.1 y.0 (omega arith) (omega arith) d (omega (arith, at_most_six (front_op ts))) h1 in
      by y.0 y.1 (front_rel y.1) refl four.0 (climb_low c some e 4 c.turns left ts y.1 y.0 low h1) h2
    where
      by : (a : PlainExpr) (zs : List Lexeme) (r : Option Rel) → front_rel zs ≡ r → IsExpr c.printed 4 start a zs → height a ≤ c.limit → seek_by c e 0 (λ u ts. None) a zs r ≡ Some (x, rest) → Found c start x rest
      by a zs (Some rel) is da la j = found_is c start (drop 1 zs) rest (0, rel, a) x j (here 0 rel start zs a is da la)
      by a zs None is da la j = let (z, j1, j2) = bind_is _ (close c e a zs) (x, rest) j in absurd (let no : ⊥ = cc in no)
  seek_sound (suc k) start ts rest left x d low h =
      let (y, h1, h2) = bind_is _ (climb c e 4 c.turns left ts) (x, rest) h in
      let four = climb_sound c e sound 4 c.turns (omega arith) 7 left start ts y.1 y.0 (omega arith) (omega arith) d (omega (arith, at_most_six (front_op ts))) h1 in
      by (seek c e k) (seek_sound k) y.0 y.1 (front_rel y.1) refl four.0 four.1 (climb_low c some e 4 c.turns left ts y.1 y.0 low h1) h2
    where
      by : (go : PlainExpr → List Lexeme → Read (ℕ × Rel × PlainExpr))
          → ((start ts rest : List Lexeme) (left : PlainExpr) (x : ℕ × Rel × PlainExpr) → IsExpr c.printed 7 start left ts → height left ≤ c.limit → go left ts ≡ Some (x, rest) → Found c (wrapped k start) x rest)
          → (a : PlainExpr) (zs : List Lexeme) (r : Option Rel) → front_rel zs ≡ r → IsExpr c.printed 4 start a zs → op_level (front_op zs) < 4 → height a ≤ c.limit → seek_by c e (suc k) go a zs r ≡ Some (x, rest) → Found c (wrapped k (t.symbol s.OpenParen ∷ start)) x rest
      by go go_sound a zs (Some rel) is da below la j = found_is c _ (drop 1 zs) rest (suc k, rel, a) x j (here (suc k) rel start zs a is da la)
      by go go_sound a zs None is da below la j =
          let (z, j1, j2) = bind_is _ (close c e a zs) (x, rest) j in
          go_sound (t.symbol s.OpenParen ∷ start) z.1 rest z.0 x (g.enclosed (close_from c e sound 4 start zs z.1 a z.0 (omega arith) (omega arith) da (omega arith) j1)) (close_low c some e a zs z.1 z.0 la j1) j2

compare_sound : (c : Rules) → 1 ≤ c.limit → (ts rest : List Lexeme) (x : ℕ × PlainTest) → compare c ts ≡ Some (x, rest) → (start : List Lexeme) × (ts ≡ wrapped x.0 start) × IsConj c.printed c.limit start (x.1 ∷ []) rest
unfolding compare
compare_sound c some ts rest x h =
    let e = expr c (deepest c) in
    let sound = expr_sound c (deepest c) in
    let (y, h1, h2) = bind_is _ (operand c e (lower c (deepest c)) (opens ts).1) (x, rest) h in
    let (z, h3, h4) = bind_is _ (seek c e (opens ts).0 y.0 y.1) (x, rest) h2 in
    let (b, h5, h6) = bind_is _ (e 4 z.1) (x, rest) h4 in
    let first = operand_sound c e sound (lower c (deepest c)) (lower_sound c (deepest c)) (opens ts).1 y.1 y.0 h1 in
    let (start, is, left) = seek_sound c some e sound (opens ts).0 (opens ts).1 y.1 z.1 y.0 z.0 first (operand_low c some e (lower c (deepest c)) (opens ts).1 y.1 y.0 h1) h3 in
    let right : IsLow c.printed c.limit 4 z.1 b.0 b.1 = record { reads = (sound.found 4 z.1 b.1 b.0 (omega arith) (omega arith) h5).0; low = expr_low c some (deepest c) 4 z.1 b.1 b.0 h5 } in
    let q = some_pair_parts (z.0.0, (z.0.1, z.0.2, b.0)) x b.1 rest h6 in
    let d = k.comparison z.0.1 left right in
    subst (λ w. (start : List Lexeme) × (ts ≡ wrapped w.0 start) × IsConj c.printed c.limit start (w.1 ∷ []) rest) q.0
    (subst (λ r. (start : List Lexeme) × (ts ≡ wrapped z.0.0 start) × IsConj c.printed c.limit start ((z.0.1, z.0.2, b.0) ∷ []) r) q.1 (start, opens_is ts ∙ is, d))

-- ---- what follows a conjunct within so many open parentheses

pub data Rests : Bool → ℕ → ℕ → List Lexeme → List PlainTest → List Lexeme → Type 0 where
  stop : {p : Bool} {m : ℕ} {rest : List Lexeme} → Rests p m 0 rest [] rest
  closing : {p : Bool} {m n : ℕ} {ts rest : List Lexeme} {us : List PlainTest} → Rests p m n ts us rest → Rests p m (suc n) (t.symbol s.CloseParen ∷ ts) us rest
  also : {p : Bool} {m n : ℕ} {ts after rest : List Lexeme} {us vs : List PlainTest} → IsConj p m ts us after → Rests p m n after vs rest → Rests p m n (t.symbol s.AndAnd ∷ ts) (us ++ vs) rest

-- a conjunct, and what follows it
pub record Goes (p : Bool) (m n : ℕ) (ts : List Lexeme) (ws : List PlainTest) (rest : List Lexeme) : Type 0 where
  pub us : List PlainTest
  pub vs : List PlainTest
  pub between : List Lexeme
  pub conjunct : IsConj p m ts us between
  pub others : Rests p m n between vs rest
  pub all : ws ≡ us ++ vs

-- up to the next parenthesis that closes
pub record Inner (p : Bool) (m n : ℕ) (ts : List Lexeme) (ws : List PlainTest) (rest : List Lexeme) : Type 0 where
  pub us : List PlainTest
  pub vs : List PlainTest
  pub between : List Lexeme
  pub condition : IsCond p m ts us (t.symbol s.CloseParen ∷ between)
  pub others : Rests p m n between vs rest
  pub all : ws ≡ us ++ vs

inner : {p : Bool} {m n : ℕ} {ts between rest : List Lexeme} {us vs : List PlainTest} → IsConj p m ts us between → Rests p m (suc n) between vs rest → Inner p m n ts (us ++ vs) rest
inner {us = us} d (closing {us = vs} r) = record { us = us; vs = vs; between = _; condition = k.alone d; others = r; all = refl }
inner {us = us} d (also {us = us2} {vs = vs2} d2 r) =
    let i = inner d2 r in
    record { us = us ++ i.us; vs = i.vs; between = i.between; condition = k.joined d i.condition; others = i.others; all = ap (λ w. us ++ w) i.all ∙ sym (append_assoc us i.us i.vs) }

fold_one : {p : Bool} {m n : ℕ} {ts rest : List Lexeme} {ws : List PlainTest} → Goes p m (suc n) ts ws rest → Goes p m n (t.symbol s.OpenParen ∷ ts) ws rest
fold_one goes = let i = inner goes.conjunct goes.others in record { us = i.us; vs = i.vs; between = i.between; conjunct = k.grouped i.condition; others = i.others; all = goes.all ∙ i.all }

folds : (p : Bool) (m k n : ℕ) (ts rest : List Lexeme) (ws : List PlainTest) → Goes p m (k + n) ts ws rest → Goes p m n (wrapped k ts) ws rest
folds p m zero n ts rest ws goes = let e : zero + n ≡ n = omega arith in subst (λ j. Goes p m j ts ws rest) e goes
folds p m (suc k) n ts rest ws goes = let e : suc k + n ≡ suc (k + n) = omega arith in folds p m k n (t.symbol s.OpenParen ∷ ts) rest ws (fold_one (subst (λ j. Goes p m j ts ws rest) e goes))

shut_sound : (p : Bool) (m n : ℕ) (ts rest : List Lexeme) (vs : List PlainTest) → Rests p m (shut n ts).0 (shut n ts).1 vs rest → Rests p m n ts vs rest
unfolding shut
shut_sound p m zero ts rest vs r = r
shut_sound p m (suc n) [] rest vs r = r
shut_sound p m (suc n) (x ∷ ts) rest vs r = by (shut_sound p m n ts rest vs) (expect s.CloseParen (x ∷ ts)) refl r
  where
    at : {zs : List Lexeme} → (Rests p m (shut n ts).0 (shut n ts).1 vs rest → Rests p m n ts vs rest) → x ∷ ts ≡ t.symbol s.CloseParen ∷ zs → Rests p m (shut n ts).0 (shut n ts).1 vs rest → Rests p m (suc n) (x ∷ ts) vs rest
    at below q r = let head : x ≡ t.symbol s.CloseParen = cc in subst (λ y. Rests p m (suc n) (y ∷ ts) vs rest) (sym head) (closing (below r))

    by : (Rests p m (shut n ts).0 (shut n ts).1 vs rest → Rests p m n ts vs rest) → (o : Option (List Lexeme)) → expect s.CloseParen (x ∷ ts) ≡ o → Rests p m (shut_by n (x ∷ ts) (shut n ts) o).0 (shut_by n (x ∷ ts) (shut n ts) o).1 vs rest → Rests p m (suc n) (x ∷ ts) vs rest
    by below None is r = r
    by below (Some zs) is r = at below (expect_is s.CloseParen (x ∷ ts) zs is) r

-- ---- the whole

-- the tests behind those that were read before
pub record Adds (acc ws us : List PlainTest) : Type 0 where
  pub is : ws ≡ acc ++ us

pub conds_sound : (c : Rules) → 1 ≤ c.limit → (n held : ℕ) (acc ws : List PlainTest) (ts rest : List Lexeme) → conds c n held acc ts ≡ Some (ws, rest) → (us : List PlainTest) × (ws ≡ acc ++ us) × Goes c.printed c.limit held ts us rest
unfolding conds
conds_sound c some zero held acc ws ts rest h = absurd (let no : ⊥ = cc in no)
conds_sound c some (suc n) held acc ws ts rest h =
    let (y, h1, h2) = bind_is _ (compare c ts) (ws, rest) h in
    let (start, is, d) = compare_sound c some ts y.1 y.0 h1 in
    let o = shut (y.0.0 + held) y.1 in
    let (vs, e, r) = follows (conds c n) (conds_sound c some n) o.0 o.1 (acc ++ y.0.1 ∷ []) (expect s.AndAnd o.1) refl h2 in
    let goes : Goes c.printed c.limit (y.0.0 + held) start (y.0.1 ∷ vs) rest = record { us = y.0.1 ∷ []; vs = vs; between = y.1; conjunct = d; others = shut_sound c.printed c.limit (y.0.0 + held) y.1 rest vs r; all = refl } in
    (y.0.1 ∷ vs, e ∙ append_assoc acc (y.0.1 ∷ []) vs, subst (λ z. Goes c.printed c.limit held z (y.0.1 ∷ vs) rest) (sym is) (folds c.printed c.limit y.0.0 held start rest (y.0.1 ∷ vs) goes))
  where
    follows : (go : ℕ → List PlainTest → List Lexeme → Read (List PlainTest)) → ((held : ℕ) (acc ws : List PlainTest) (ts rest : List Lexeme) → go held acc ts ≡ Some (ws, rest) → (us : List PlainTest) × (ws ≡ acc ++ us) × Goes c.printed c.limit held ts us rest)
        → (held : ℕ) (zs : List Lexeme) (acc : List PlainTest) (o : Option (List Lexeme)) → expect s.AndAnd zs ≡ o → after_by c go held acc zs o ≡ Some (ws, rest) → (vs : List PlainTest) × (ws ≡ acc ++ vs) × Rests c.printed c.limit held zs vs rest
    follows go go_sound zero zs acc None is j = let q = some_pair_parts acc ws zs rest j in ([], sym q.0 ∙ sym (append-nil acc), subst (λ r. Rests c.printed c.limit 0 zs [] r) q.1 stop)
    follows go go_sound (suc held) zs acc None is j = absurd (let no : ⊥ = cc in no)
    follows go go_sound held zs acc (Some second) is j =
        let (us, e, goes) = go_sound held acc ws second rest j in
        (us, e, subst (λ z. Rests c.printed c.limit held z us rest) (sym (expect_is s.AndAnd zs second is)) (subst (λ w. Rests c.printed c.limit held (t.symbol s.AndAnd ∷ second) w rest) (sym goes.all) (also goes.conjunct goes.others)))

flat : {p : Bool} {m : ℕ} {ts between rest : List Lexeme} {us vs : List PlainTest} → IsConj p m ts us between → Rests p m 0 between vs rest → IsCond p m ts (us ++ vs) rest
flat {p = p} {m = m} {ts = ts} {between = between} {us = us} d stop = subst (λ w. IsCond p m ts w between) (sym (append-nil us)) (k.alone d)
flat d (also d2 r) = k.joined d (flat d2 r)

pub cond_sound : (c : Rules) → 1 ≤ c.limit → (ts rest : List Lexeme) (ws : List PlainTest) → conds c c.turns 0 [] ts ≡ Some (ws, rest) → IsCond c.printed c.limit ts ws rest
cond_sound c some ts rest ws h =
    let (us, e, goes) = conds_sound c some c.turns 0 [] ws ts rest h in
    subst (λ w. IsCond c.printed c.limit ts w rest) (sym (e ∙ goes.all)) (flat goes.conjunct goes.others)
