-- Range lines and parameters: the function against the relation.
use Rattle.std.proofs.Common.{◌≡◌, ℕ, zero, suc, ℤ, pos, ◌^◌, ◌<◌, ◌≤◌, nat_lt, nat_le, List, ◌∷◌, length, Bool, true, false, cond, Option, Some, None, option_and_then, codes, refl, sym, ap, ◌∙◌, subst, arith}
use Rattle.std.proofs.lemmas.Option.{cond_some, some_pair_parts}
use Rattle.std.proofs.lemmas.Bool.{ltb-true, leb-true, lt-ltb, le-leb}
use Rattle.c_tree.specs.Plain.{Word, PlainExpr, PlainExprs, no_exprs, more_exprs, PlainParam, int_param, array_param}
use Rattle.c_tree.specs.declared.symbol.Symbol.TheVariants as s
use Rattle.c_tree.specs.Grammar.Lexemes as t
use Rattle.c_tree.specs.Grammar.Lexemes.{Lexeme}
use Rattle.c_tree.specs.Grammar.Expressions.{IsLow}
use Rattle.grammar_reading.specs.declared.rules.Rules.{Rules}
use Rattle.grammar_reading.specs.Reading.{Read, same, expect, number_at}
use Rattle.grammar_reading.proofs.StepLemmas.{bind_is, expect_is, expect_self, number_is, number_self}
use Rattle.grammar_reading.proofs.Complete.{shorter}
use Rattle.grammar_reading.specs.Blocks.{name_at, this_name, side}
use Rattle.grammar_reading.proofs.SoundBlocks.{name_is, this_name_is, low_at}
use Rattle.grammar_reading.proofs.CompleteBlocks.{name_self, this_name_self, side_read}
use Rattle.c_tree.specs.Grammar.Heads as h
use Rattle.c_tree.specs.Grammar.Heads.{opposite, IsInt, IsRange, IsDims, IsParam}
use Rattle.grammar_reading.specs.HeadReading.{plus_at, minus_at, int_by, int_at, range_at, dim, dims, dims_by, array_at, param_on, param_by, param_at}

-- ---- whole numbers

int_moved : (ts ts' rest rest' : List Lexeme) (z z' : ℤ) → ts' ≡ ts → z ≡ z' → rest ≡ rest' → IsInt ts z rest → IsInt ts' z' rest'
int_moved ts ts' rest rest' z z' e f g d = subst (λ x. IsInt x z' rest') (sym e) (subst (λ v. IsInt ts v rest') f (subst (λ r. IsInt ts z r) g d))

int_by_sound : (ts rest : List Lexeme) (z : ℤ) (r : Option (List Lexeme)) → expect s.Minus ts ≡ r → int_by ts r ≡ Some (z, rest) → IsInt ts z rest
unfolding plus_at minus_at
int_by_sound ts rest z None is e =
    let (n, h1, h2) = bind_is _ (number_at ts) (z, rest) e in
    let p = cond_some (nat_lt n.0 (2 ^ 63)) (pos n.0, n.1) (z, rest) h2 in
    let q = some_pair_parts (pos n.0) z n.1 rest (ap Some p.1) in
    int_moved _ ts n.1 rest (pos n.0) z (number_is ts n.1 n.0 h1) q.0 q.1 (h.positive n.0 (ltb-true n.0 (2 ^ 63) p.0))
int_by_sound ts rest z (Some after) is e =
    let (n, h1, h2) = bind_is _ (number_at after) (z, rest) e in
    let p = cond_some (nat_le n.0 (2 ^ 63)) (opposite n.0, n.1) (z, rest) h2 in
    let q = some_pair_parts (opposite n.0) z n.1 rest (ap Some p.1) in
    int_moved _ ts n.1 rest (opposite n.0) z (expect_is s.Minus ts after is ∙ ap (λ x. t.symbol s.Minus ∷ x) (number_is after n.1 n.0 h1)) q.0 q.1 (h.negative n.0 (leb-true n.0 (2 ^ 63) p.0))

int_sound : (ts rest : List Lexeme) (z : ℤ) → int_at ts ≡ Some (z, rest) → IsInt ts z rest
unfolding int_at
int_sound ts rest z e = int_by_sound ts rest z (expect s.Minus ts) refl e

no_minus : (n : ℕ) (ts : List Lexeme) → expect s.Minus (t.number n ∷ ts) ≡ None
unfolding expect
no_minus n ts = refl

int_read : {ts rest : List Lexeme} {z : ℤ} → IsInt ts z rest → int_at ts ≡ Some (z, rest)
unfolding int_at plus_at minus_at
int_read {rest = rest} (h.positive n below) =
    ap (int_by (t.number n ∷ rest)) (no_minus n rest) ∙ ap (option_and_then _) (number_self n rest) ∙ ap (λ (b : Bool). cond b (Some (pos n, rest)) None) (lt-ltb n (2 ^ 63) below)
int_read {rest = rest} (h.negative n below) =
    ap (int_by (t.symbol s.Minus ∷ t.number n ∷ rest)) (expect_self s.Minus _) ∙ ap (option_and_then _) (number_self n rest) ∙ ap (λ (b : Bool). cond b (Some (opposite n, rest)) None) (le-leb n (2 ^ 63) below)

-- ---- range lines

range_moved : (ts ts' rest rest' : List Lexeme) (x x' : Word × ℤ × ℤ) → ts' ≡ ts → x ≡ x' → rest ≡ rest' → IsRange ts x rest → IsRange ts' x' rest'
range_moved ts ts' rest rest' x x' e f g d = subst (λ z. IsRange z x' rest') (sym e) (subst (λ w. IsRange ts w rest') f (subst (λ r. IsRange ts x r) g d))

pub range_sound : (ts rest : List Lexeme) (x : Word × ℤ × ℤ) → range_at ts ≡ Some (x, rest) → IsRange ts x rest
unfolding range_at
range_sound ts rest x e =
    let (t1, h1, h2) = bind_is _ (expect s.Directive ts) (x, rest) e in
    let (t2, h3, h4) = bind_is _ (this_name (codes "range") t1) (x, rest) h2 in
    let (y, h5, h6) = bind_is _ (name_at t2) (x, rest) h4 in
    let (lo, h7, h8) = bind_is _ (int_at y.1) (x, rest) h6 in
    let (hi, h9, h10) = bind_is _ (int_at lo.1) (x, rest) h8 in
    let (r, h11, h12) = bind_is _ (expect s.EndLine hi.1) (x, rest) h10 in
    let q = some_pair_parts (y.0, lo.0, hi.0) x r rest h12 in
    let last = subst (λ z. IsInt lo.1 hi.0 z) (expect_is s.EndLine hi.1 r h11) (int_sound lo.1 hi.1 hi.0 h9) in
    let d = h.range y.0 (int_sound y.1 lo.1 lo.0 h7) last in
    let is : ts ≡ t.symbol s.Directive ∷ t.name (codes "range") ∷ t.name y.0 ∷ y.1 =
    expect_is s.Directive ts t1 h1 ∙ ap (λ z. t.symbol s.Directive ∷ z) (this_name_is (codes "range") t1 t2 h3 ∙ ap (λ z. t.name (codes "range") ∷ z) (name_is t2 y.1 y.0 h5)) in
    range_moved _ ts r rest (y.0, lo.0, hi.0) x is q.0 q.1 d

pub range_read : {ts rest : List Lexeme} {x : Word × ℤ × ℤ} → IsRange ts x rest → range_at ts ≡ Some (x, rest)
unfolding range_at
range_read {rest = rest} (h.range x lo hi) =
    ap (option_and_then _) (expect_self s.Directive _) ∙ ap (option_and_then _) (this_name_self (codes "range") _) ∙ ap (option_and_then _) (name_self x _)
    ∙ ap (option_and_then _) (int_read lo) ∙ ap (option_and_then _) (int_read hi) ∙ ap (option_and_then _) (expect_self s.EndLine rest)

-- ---- dimensions

module _ (c : Rules) (some : 1 ≤ c.limit) where
  dim_sound : (ts rest : List Lexeme) (u : PlainExpr) → dim c ts ≡ Some (u, rest) → (inner : List Lexeme) × (ts ≡ t.symbol s.OpenBracket ∷ inner) × IsLow c.printed c.limit 1 inner u (t.symbol s.CloseBracket ∷ rest)
  unfolding dim
  dim_sound ts rest u e =
      let (t1, h1, h2) = bind_is _ (expect s.OpenBracket ts) (u, rest) e in
      let (v, h3, h4) = bind_is _ (side c t1) (u, rest) h2 in
      let (r, h5, h6) = bind_is _ (expect s.CloseBracket v.1) (u, rest) h4 in
      let q = some_pair_parts v.0 u r rest h6 in
      let d = low_at c some t1 v.1 v.0 h3 in
      (t1, expect_is s.OpenBracket ts t1 h1, subst (λ w. IsLow c.printed c.limit 1 t1 w (t.symbol s.CloseBracket ∷ rest)) q.0 (subst (λ z. IsLow c.printed c.limit 1 t1 v.0 z) (expect_is s.CloseBracket v.1 r h5 ∙ ap (λ z. t.symbol s.CloseBracket ∷ z) q.1) d))

  dims_moved : (k : ℕ) (ts ts' rest rest' : List Lexeme) (us us' : PlainExprs) → ts' ≡ ts → us ≡ us' → rest ≡ rest' → IsDims c.printed c.limit k ts us rest → IsDims c.printed c.limit k ts' us' rest'
  dims_moved k ts ts' rest rest' us us' e f g d = subst (λ z. IsDims c.printed c.limit k z us' rest') (sym e) (subst (λ w. IsDims c.printed c.limit k ts w rest') f (subst (λ r. IsDims c.printed c.limit k ts us r) g d))

  dims_sound : (k : ℕ) (ts rest : List Lexeme) (us : PlainExprs) → dims c k ts ≡ Some (us, rest) → IsDims c.printed c.limit k ts us rest
  unfolding dims
  dims_sound zero ts rest us e =
      let (u, h1, h2) = bind_is _ (dim c ts) (us, rest) e in
      let (inner, is, d) = dim_sound ts u.1 u.0 h1 in
      let q = some_pair_parts (more_exprs u.0 no_exprs) us u.1 rest h2 in
      dims_moved zero _ ts u.1 rest _ us is q.0 q.1 (h.one_dim d)
  dims_sound (suc k) ts rest us e =
      let (u, h1, h2) = bind_is _ (dim c ts) (us, rest) e in
      let (inner, is, d) = dim_sound ts u.1 u.0 h1 in
      by (dims c k) (dims_sound k) u.0 u.1 inner is d (expect s.OpenBracket u.1) h2
    where
      by : (go : List Lexeme → Read PlainExprs) → ((ts rest : List Lexeme) (us : PlainExprs) → go ts ≡ Some (us, rest) → IsDims c.printed c.limit k ts us rest)
          → (u : PlainExpr) (after inner : List Lexeme) → ts ≡ t.symbol s.OpenBracket ∷ inner → IsLow c.printed c.limit 1 inner u (t.symbol s.CloseBracket ∷ after) → (r : Option (List Lexeme)) → dims_by c go u after r ≡ Some (us, rest) → IsDims c.printed c.limit (suc k) ts us rest
      by go go_sound u after inner is d None j = let q = some_pair_parts (more_exprs u no_exprs) us after rest j in dims_moved (suc k) _ ts after rest _ us is q.0 q.1 (h.one_dim d)
      by go go_sound u after inner is d (Some z) j =
          let (vs, j1, j2) = bind_is _ (go after) (us, rest) j in
          let q = some_pair_parts (more_exprs u vs.0) us vs.1 rest j2 in
          dims_moved (suc k) _ ts vs.1 rest _ us is q.0 q.1 (h.next_dim d (go_sound after vs.1 vs.0 j1))

  -- ---- parameters

  array_sound : (constant : Bool) (ts rest : List Lexeme) (x : PlainParam) → array_at c constant ts ≡ Some (x, rest)
      → (y : Word) × (inner : List Lexeme) × (us : PlainExprs) × (ts ≡ t.symbol s.Uint64 ∷ t.name y ∷ inner) × IsDims c.printed c.limit 2 inner us rest × (x ≡ array_param y constant us)
  unfolding array_at
  array_sound constant ts rest x e =
      let (t1, h1, h2) = bind_is _ (expect s.Uint64 ts) (x, rest) e in
      let (y, h3, h4) = bind_is _ (name_at t1) (x, rest) h2 in
      let (us, h5, h6) = bind_is _ (dims c 2 y.1) (x, rest) h4 in
      let q = some_pair_parts (array_param y.0 constant us.0) x us.1 rest h6 in
      (y.0, y.1, us.0, expect_is s.Uint64 ts t1 h1 ∙ ap (λ z. t.symbol s.Uint64 ∷ z) (name_is t1 y.1 y.0 h3), subst (λ r. IsDims c.printed c.limit 2 y.1 us.0 r) q.1 (dims_sound 2 y.1 us.1 us.0 h5), sym q.0)

  param_on_sound : (ts rest : List Lexeme) (x : PlainParam) (r : Option (List Lexeme)) → expect s.Const ts ≡ r → param_on c ts r ≡ Some (x, rest) → IsParam c.printed c.limit ts x rest
  param_on_sound ts rest x None is e =
      let (y, inner, us, f, d, j) = array_sound false ts rest x e in
      subst (λ z. IsParam c.printed c.limit z x rest) (sym f) (subst (λ w. IsParam c.printed c.limit (t.symbol s.Uint64 ∷ t.name y ∷ inner) w rest) (sym j) (h.array y d))
  param_on_sound ts rest x (Some after) is e =
      let (y, inner, us, f, d, j) = array_sound true after rest x e in
      subst (λ z. IsParam c.printed c.limit z x rest) (sym (expect_is s.Const ts after is ∙ ap (λ z. t.symbol s.Const ∷ z) f)) (subst (λ w. IsParam c.printed c.limit (t.symbol s.Const ∷ t.symbol s.Uint64 ∷ t.name y ∷ inner) w rest) (sym j) (h.constant y d))

  param_by_sound : (ts rest : List Lexeme) (x : PlainParam) (r : Option (List Lexeme)) → expect s.Int64 ts ≡ r → param_by c ts r ≡ Some (x, rest) → IsParam c.printed c.limit ts x rest
  param_by_sound ts rest x None is e = param_on_sound ts rest x (expect s.Const ts) refl e
  param_by_sound ts rest x (Some after) is e =
      let (y, h1, h2) = bind_is _ (name_at after) (x, rest) e in
      let q = some_pair_parts (int_param y.0) x y.1 rest h2 in
      let d : IsParam c.printed c.limit (t.symbol s.Int64 ∷ t.name y.0 ∷ y.1) (int_param y.0) y.1 = h.number y.0 in
      subst (λ z. IsParam c.printed c.limit z x rest) (sym (expect_is s.Int64 ts after is ∙ ap (λ z. t.symbol s.Int64 ∷ z) (name_is after y.1 y.0 h1)))
      (subst (λ w. IsParam c.printed c.limit (t.symbol s.Int64 ∷ t.name y.0 ∷ y.1) w rest) q.0 (subst (λ r. IsParam c.printed c.limit (t.symbol s.Int64 ∷ t.name y.0 ∷ y.1) (int_param y.0) r) q.1 d))

  pub param_sound : (ts rest : List Lexeme) (x : PlainParam) → param_at c ts ≡ Some (x, rest) → IsParam c.printed c.limit ts x rest
  unfolding param_at
  param_sound ts rest x e = param_by_sound ts rest x (expect s.Int64 ts) refl e

-- ---- what is a parameter is read

module _ (c : Rules) where
  dim_read : (ts rest : List Lexeme) (u : PlainExpr) → IsLow c.printed c.limit 1 ts u (t.symbol s.CloseBracket ∷ rest) → length ts < c.turns → dim c (t.symbol s.OpenBracket ∷ ts) ≡ Some (u, rest)
  unfolding dim
  dim_read ts rest u d turns = ap (option_and_then _) (expect_self s.OpenBracket ts) ∙ ap (option_and_then _) (side_read c ts _ u d turns refl) ∙ ap (option_and_then _) (expect_self s.CloseBracket rest)

  dims_open : {p : Bool} {m k : ℕ} {ts rest : List Lexeme} {us : PlainExprs} → IsDims p m k ts us rest → (inner : List Lexeme) × (expect s.OpenBracket ts ≡ Some inner)
  dims_open (h.one_dim {ts = ts} d) = (ts, expect_self s.OpenBracket ts)
  dims_open (h.next_dim {ts = ts} d others) = (ts, expect_self s.OpenBracket ts)

  dims_read : {k : ℕ} {ts rest : List Lexeme} {us : PlainExprs} → IsDims c.printed c.limit k ts us rest → length ts < c.turns → expect s.OpenBracket rest ≡ None → dims c k ts ≡ Some (us, rest)
  unfolding dims
  dims_read {k = zero} {rest = rest} (h.one_dim {ts = ts} {u = u} d) turns ends = ap (option_and_then _) (dim_read ts rest u d (omega arith))
  dims_read {k = suc k} {rest = rest} (h.one_dim {ts = ts} {u = u} d) turns ends = ap (option_and_then _) (dim_read ts rest u d (omega arith)) ∙ ap (dims_by c (dims c k) u rest) ends
  dims_read {rest = rest} (h.next_dim {k = k} {ts = ts} {after = after} {u = u} d others) turns ends =
      let (inner, opens) = dims_open others in
      ap (option_and_then _) (dim_read ts after u d (omega arith)) ∙ ap (dims_by c (dims c k) u after) opens ∙ ap (option_and_then _) (dims_read others (omega (arith, shorter d.reads)) ends)

  array_read : (constant : Bool) (x : Word) (ts rest : List Lexeme) (us : PlainExprs) → IsDims c.printed c.limit 2 ts us rest → length ts < c.turns → expect s.OpenBracket rest ≡ None → array_at c constant (t.symbol s.Uint64 ∷ t.name x ∷ ts) ≡ Some (array_param x constant us, rest)
  unfolding array_at
  array_read constant x ts rest us d turns ends = ap (option_and_then _) (expect_self s.Uint64 _) ∙ ap (option_and_then _) (name_self x ts) ∙ ap (option_and_then _) (dims_read d turns ends)

  fronts : (ts : List Lexeme) → (expect s.Int64 (t.symbol s.Uint64 ∷ ts) ≡ None) × (expect s.Const (t.symbol s.Uint64 ∷ ts) ≡ None) × (expect s.Int64 (t.symbol s.Const ∷ ts) ≡ None)
  unfolding expect same
  fronts ts = (refl, refl, refl)

  pub param_read : {ts rest : List Lexeme} {x : PlainParam} → IsParam c.printed c.limit ts x rest → length ts < c.turns → expect s.OpenBracket rest ≡ None → param_at c ts ≡ Some (x, rest)
  unfolding param_at
  param_read {rest = rest} (h.number x) turns ends = ap (param_by c _) (expect_self s.Int64 _) ∙ ap (option_and_then _) (name_self x rest)
  param_read {rest = rest} (h.array {ts = ts} {us = us} x d) turns ends = ap (param_by c _) (fronts _).0 ∙ ap (param_on c _) (fronts _).1 ∙ array_read false x ts rest us d (omega arith) ends
  param_read {rest = rest} (h.constant {ts = ts} {us = us} x d) turns ends = ap (param_by c _) (fronts _).2 ∙ ap (param_on c _) (expect_self s.Const _) ∙ array_read true x ts rest us d (omega arith) ends
