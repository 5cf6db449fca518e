-- What is read is in the grammar.
use Rattle.std.proofs.Common.{◌≡◌, ℕ, zero, suc, ◌+◌, ◌-◌, ◌<◌, ◌≤◌, List, [], ◌∷◌, drop, Bool, true, false, cond, Option, Some, None, nat_lt, refl, sym, ap, ◌∙◌, subst, arith, inl, inr, zero-add}
use Rattle.std.proofs.lemmas.Option.{same_Some, some_pair_parts}
use Rattle.std.proofs.lemmas.Bool.{ltb-true, ltb-false}
use Rattle.c_tree.specs.declared.expr.Rel.{Rel}
use Rattle.c_tree.specs.declared.expr.UnOp.{UnOp}
use Rattle.c_tree.specs.declared.expr.UnOp.TheVariants.{Neg, Inv}
use Rattle.c_tree.specs.declared.expr.BinOp.{BinOp}
use Rattle.c_tree.specs.Plain.{Word, PlainExpr, lit, var, cell, un, bin, cast, test, widen, big, PlainExprs, no_exprs, more_exprs}
use Rattle.c_tree.specs.declared.symbol.Symbol.{Symbol}
use Rattle.c_tree.specs.declared.symbol.Symbol.TheVariants as s
use Rattle.c_tree.specs.Grammar.Lexemes as t
use Rattle.c_tree.specs.Grammar.Lexemes.{Lexeme}
use Rattle.c_tree.specs.Grammar.Tables.{level, un_mark, Call, call_min, call_max, call_least, call_greatest, call_word, called, allowed}
use Rattle.c_tree.specs.Grammar.Expressions as g
use Rattle.c_tree.specs.Grammar.Expressions.{IsExpr, IsCells}
use Rattle.grammar_reading.specs.declared.rules.Rules.{Rules}
use Rattle.grammar_reading.specs.Reading.{Read, expect, number_at, node, front_op, front_rel, one_cell, cells, cells_by, signed, applied, two, call, wide, wide_parts, grouped, grouped_by, cast_by, word_cast, wide_cast, wide_parts_cast, converted_by, named_by, operand, climb, climb_by, close, closes, paren, paren_by, opens, opens_by, expr, lower}
use Rattle.grammar_reading.proofs.StepLemmas.{bind_is, chosen, expect_is, number_is, node_is, front_op_is, front_rel_is, level_bounds}

abbrev pub op_level : Option BinOp → ℕ
op_level None = 0
op_level (Some op) = level op

widen_by : (p : Bool) (k l : ℕ) (ts rest : List Lexeme) (u : PlainExpr) → IsExpr p (k + l) ts u rest → IsExpr p l ts u rest
widen_by p zero l ts rest u d = subst (λ j. IsExpr p j ts u rest) (zero-add l) d
widen_by p (suc k) l ts rest u d = let e : suc k + l ≡ suc (k + l) = omega arith in widen_by p k l ts rest u (g.tighter (subst (λ j. IsExpr p j ts u rest) e d))

pub loosen : (p : Bool) (j l : ℕ) (ts rest : List Lexeme) (u : PlainExpr) → l ≤ j → IsExpr p j ts u rest → IsExpr p l ts u rest
loosen p j l ts rest u le d = let e : j ≡ (j - l) + l = omega arith in widen_by p (j - l) l ts rest u (subst (λ i. IsExpr p i ts u rest) e d)

pub moved : (p : Bool) (l : ℕ) (ts rest rest' : List Lexeme) (u u' : PlainExpr) → u ≡ u' → rest ≡ rest' → IsExpr p l ts u rest → IsExpr p l ts u' rest'
moved p l ts rest rest' u u' e f d = subst (λ v. IsExpr p l ts v rest') e (subst (λ r. IsExpr p l ts u r) f d)

pub from : (p : Bool) (l : ℕ) (ts ts' rest : List Lexeme) (u : PlainExpr) → ts' ≡ ts → IsExpr p l ts u rest → IsExpr p l ts' u rest
from p l ts ts' rest u e d = subst (λ x. IsExpr p l x u rest) (sym e) d

from_cells : (p : Bool) (ts ts' rest : List Lexeme) (us : PlainExprs) → ts' ≡ ts → IsCells p ts us rest → IsCells p ts' us rest
from_cells p ts ts' rest us e d = subst (λ x. IsCells p x us rest) (sym e) d

pub to : (p : Bool) (l : ℕ) (ts rest rest' : List Lexeme) (u : PlainExpr) → rest ≡ rest' → IsExpr p l ts u rest → IsExpr p l ts u rest'
to p l ts rest rest' u e d = subst (λ x. IsExpr p l ts u x) e d

at_printed : (p : Bool) (l : ℕ) (ts rest : List Lexeme) (u : PlainExpr) → p ≡ true → IsExpr true l ts u rest → IsExpr p l ts u rest
at_printed p l ts rest u e d = subst (λ q. IsExpr q l ts u rest) (sym e) d

in_printed : (p : Bool) (l : ℕ) (ts rest : List Lexeme) (u : PlainExpr) → p ≡ true → IsExpr p l ts u rest → IsExpr true l ts u rest
in_printed p l ts rest u e d = subst (λ q. IsExpr q l ts u rest) e d

pub at_most_six : (r : Option BinOp) → op_level r ≤ 6
at_most_six None = omega arith
at_most_six (Some op) = omega (arith, level_bounds op)

pub record Sound (c : Rules) (e : ℕ → List Lexeme → Read PlainExpr) : Type 0 where
  pub found : (l : ℕ) (ts rest : List Lexeme) (u : PlainExpr) → 1 ≤ l → l ≤ 7 → e l ts ≡ Some (u, rest) → IsExpr c.printed l ts u rest × (op_level (front_op rest) < l)

-- so many parentheses before the tokens
abbrev pub wrapped : ℕ → List Lexeme → List Lexeme
wrapped zero ts = ts
wrapped (suc k) ts = wrapped k (t.symbol s.OpenParen ∷ ts)

wrapped_in : (k : ℕ) (ts : List Lexeme) → t.symbol s.OpenParen ∷ wrapped k ts ≡ wrapped k (t.symbol s.OpenParen ∷ ts)
wrapped_in zero ts = refl
wrapped_in (suc k) ts = wrapped_in k (t.symbol s.OpenParen ∷ ts)

paren_by_is : (x inside : List Lexeme) (r q : Option (List Lexeme)) → paren_by x r q ≡ Some inside → x ≡ inside
paren_by_is x inside None None k = same_Some x inside k
paren_by_is x inside (Some w) q k = absurd (let no : ⊥ = cc in no)
paren_by_is x inside None (Some w) k = absurd (let no : ⊥ = cc in no)

pub paren_is : (ts inside : List Lexeme) → paren ts ≡ Some inside → ts ≡ t.symbol s.OpenParen ∷ inside
unfolding paren
paren_is ts inside h = let (x, h1, h2) = bind_is _ (expect s.OpenParen ts) inside h in expect_is s.OpenParen ts x h1 ∙ ap (λ z. t.symbol s.OpenParen ∷ z) (paren_by_is x inside (expect s.Uint64 x) (expect s.Unsigned x) h2)

opens_by_is : (x : Lexeme) (ts : List Lexeme) (m : ℕ × List Lexeme) (r : Option (List Lexeme)) → paren (x ∷ ts) ≡ r → ts ≡ wrapped m.0 m.1 → x ∷ ts ≡ wrapped (opens_by (x ∷ ts) m r).0 (opens_by (x ∷ ts) m r).1
opens_by_is x ts m None is h = refl
opens_by_is x ts m (Some inside) is h = let q = paren_is (x ∷ ts) inside is in let head : x ≡ t.symbol s.OpenParen = cc in rw head (ap (λ z. t.symbol s.OpenParen ∷ z) h ∙ wrapped_in m.0 m.1)

pub opens_is : (ts : List Lexeme) → ts ≡ wrapped (opens ts).0 (opens ts).1
unfolding opens
opens_is [] = refl
opens_is (x ∷ ts) = opens_by_is x ts (opens ts) (paren (x ∷ ts)) refl (opens_is ts)

module _ (c : Rules) (e : ℕ → List Lexeme → Read PlainExpr) (sound : Sound c e) where
  at_one : (ts : List Lexeme) (x : PlainExpr × List Lexeme) → e 1 ts ≡ Some x → IsExpr c.printed 1 ts x.0 x.1
  at_one ts x h = (sound.found 1 ts x.1 x.0 (omega arith) (omega arith) h).0

  at_seven : (ts : List Lexeme) (x : PlainExpr × List Lexeme) → e 7 ts ≡ Some x → IsExpr c.printed 7 ts x.0 x.1
  at_seven ts x h = (sound.found 7 ts x.1 x.0 (omega arith) (omega arith) h).0

  -- the parts of `node`
  built : (l : ℕ) (ts : List Lexeme) (v u : PlainExpr) (after rest : List Lexeme) → node c v after ≡ Some (u, rest) → IsExpr c.printed l ts v after → IsExpr c.printed l ts u rest
  built l ts v u after rest h d = let q = node_is c v u after rest h in moved c.printed l ts after rest v u q.0 q.1 d

  -- ---- from the first operand on

  climb_by_sound : (l : ℕ) (go : PlainExpr → List Lexeme → Read PlainExpr) → 1 ≤ l
      → ((j : ℕ) (left : PlainExpr) (start ts rest : List Lexeme) (u : PlainExpr) → l ≤ j → j ≤ 7 → IsExpr c.printed j start left ts → op_level (front_op ts) ≤ j → go left ts ≡ Some (u, rest) → IsExpr c.printed l start u rest × (op_level (front_op rest) < l))
      → (j : ℕ) (left : PlainExpr) (start ts rest : List Lexeme) (u : PlainExpr) (r : Option BinOp) → front_op ts ≡ r → l ≤ j → j ≤ 7 → IsExpr c.printed j start left ts → op_level r ≤ j → climb_by c e l go left ts r ≡ Some (u, rest) → IsExpr c.printed l start u rest × (op_level (front_op rest) < l)
  climb_by_sound l go pos go_sound j left start ts rest u None is le top d below h =
      let q = some_pair_parts left u ts rest h in
      let none : op_level (front_op rest) ≡ 0 = ap (λ z. op_level (front_op z)) (sym q.1) ∙ ap op_level is in
      (moved c.printed l start ts rest left u q.0 q.1 (loosen c.printed j l start ts left le d), omega arith)
  climb_by_sound l go pos go_sound j left start ts rest u (Some op) is le top d below h =
      elim (chosen (nat_lt (level op) l) _ _ _ h) [
        | inl p ↦ (let q = some_pair_parts left u ts rest p.1 in
            let same : op_level (front_op rest) ≡ level op = ap (λ z. op_level (front_op z)) (sym q.1) ∙ ap op_level is in
            let lt = ltb-true (level op) l p.0 in
            (moved c.printed l start ts rest left u q.0 q.1 (loosen c.printed j l start ts left le d), omega arith))
        | inr p ↦ (let (x, h1, h2) = bind_is _ (e (suc (level op)) (drop 1 ts)) (u, rest) p.1 in
            let (y, h3, h4) = bind_is _ (node c (bin op left x.0) x.1) (u, rest) h2 in
            let bounds = level_bounds op in
            let ge = ltb-false (level op) l p.0 in
            let right = sound.found (suc (level op)) (drop 1 ts) x.1 x.0 (omega arith) (omega arith) h1 in
            let q = node_is c (bin op left x.0) y.0 x.1 y.1 h3 in
            let here = to c.printed (level op) start ts _ left (front_op_is ts op is) (loosen c.printed j (level op) start ts left below d) in
            let whole = moved c.printed (level op) start x.1 y.1 _ y.0 q.0 q.1 (g.binary op here right.0) in
            let next : op_level (front_op y.1) ≤ level op = omega (arith, right.1, ap (λ z. op_level (front_op z)) q.1) in
            go_sound (level op) y.0 start y.1 rest u ge (omega arith) whole next h4)
      ]

  pub climb_sound : (l n : ℕ) → 1 ≤ l → (j : ℕ) (left : PlainExpr) (start ts rest : List Lexeme) (u : PlainExpr) → l ≤ j → j ≤ 7 → IsExpr c.printed j start left ts → op_level (front_op ts) ≤ j → climb c e l n left ts ≡ Some (u, rest) → IsExpr c.printed l start u rest × (op_level (front_op rest) < l)
  unfolding climb
  climb_sound l zero pos j left start ts rest u le top d below h = absurd (let no : ⊥ = cc in no)
  climb_sound l (suc n) pos j left start ts rest u le top d below h = climb_by_sound l (climb c e l n) pos (climb_sound l n pos) j left start ts rest u (front_op ts) refl le top d below h

  -- from an operand of a level, up to the parenthesis that closes
  pub close_from : (j : ℕ) (start ts rest : List Lexeme) (left u : PlainExpr) → 1 ≤ j → j ≤ 7 → IsExpr c.printed j start left ts → op_level (front_op ts) ≤ j → close c e left ts ≡ Some (u, rest) → IsExpr c.printed 1 start u (t.symbol s.CloseParen ∷ rest)
  unfolding close
  close_from j start ts rest left u pos top d below h =
      let (x, h1, h2) = bind_is _ (climb c e 1 c.turns left ts) (u, rest) h in
      let (r, h3, h4) = bind_is _ (expect s.CloseParen x.1) (u, rest) h2 in
      let inner = (climb_sound 1 c.turns (omega arith) j left start ts x.1 x.0 pos top d below h1).0 in
      let q = some_pair_parts x.0 u r rest h4 in
      moved c.printed 1 start x.1 (t.symbol s.CloseParen ∷ rest) x.0 u q.0 (expect_is s.CloseParen x.1 r h3 ∙ ap (λ z. t.symbol s.CloseParen ∷ z) q.1) inner

  pub close_sound : (start ts rest : List Lexeme) (left u : PlainExpr) → IsExpr c.printed 7 start left ts → close c e left ts ≡ Some (u, rest) → IsExpr c.printed 7 (t.symbol s.OpenParen ∷ start) u rest
  close_sound start ts rest left u d h = g.enclosed (close_from 7 start ts rest left u (omega arith) (omega arith) d (omega (arith, at_most_six (front_op ts))) h)

  pub closes_sound : (k : ℕ) (start ts rest : List Lexeme) (left u : PlainExpr) → IsExpr c.printed 7 start left ts → closes c e k left ts ≡ Some (u, rest) → IsExpr c.printed 7 (wrapped k start) u rest
  unfolding closes
  closes_sound zero start ts rest left u d h = let q = some_pair_parts left u ts rest h in moved c.printed 7 start ts rest left u q.0 q.1 d
  closes_sound (suc k) start ts rest left u d h =
      let (x, h1, h2) = bind_is _ (close c e left ts) (u, rest) h in
      closes_sound k (t.symbol s.OpenParen ∷ start) x.1 rest x.0 u (close_sound start ts x.1 left x.0 d h1) h2

  -- ---- operands

  more_cells : (go : List Lexeme → Read PlainExprs) → ((ts rest : List Lexeme) (us : PlainExprs) → go ts ≡ Some (us, rest) → IsCells c.printed ts us rest)
      → (inside after rest : List Lexeme) (u : PlainExpr) (us : PlainExprs) → IsExpr c.printed 1 inside u (t.symbol s.CloseBracket ∷ after) → (r : Option (List Lexeme)) → cells_by c e go u after r ≡ Some (us, rest) → IsCells c.printed (t.symbol s.OpenBracket ∷ inside) us rest
  more_cells go go_sound inside after rest u us d None k =
      let q = some_pair_parts (more_exprs u no_exprs) us after rest k in
      subst (λ v. IsCells c.printed (t.symbol s.OpenBracket ∷ inside) v rest) q.0 (subst (λ r. IsCells c.printed (t.symbol s.OpenBracket ∷ inside) (more_exprs u no_exprs) r) q.1 (g.last d))
  more_cells go go_sound inside after rest u us d (Some r) k =
      let (y, k1, k2) = bind_is _ (go after) (us, rest) k in
      let q = some_pair_parts (more_exprs u y.0) us y.1 rest k2 in
      subst (λ v. IsCells c.printed (t.symbol s.OpenBracket ∷ inside) v rest) q.0 (subst (λ r. IsCells c.printed (t.symbol s.OpenBracket ∷ inside) (more_exprs u y.0) r) q.1 (g.next d (go_sound after y.1 y.0 k1)))

  one_cell_sound : (ts after : List Lexeme) (u : PlainExpr) → one_cell c e ts ≡ Some (u, after) → (inside : List Lexeme) × (ts ≡ t.symbol s.OpenBracket ∷ inside) × IsExpr c.printed 1 inside u (t.symbol s.CloseBracket ∷ after)
  unfolding one_cell
  one_cell_sound ts after u h =
      let (inside, h1, h2) = bind_is _ (expect s.OpenBracket ts) (u, after) h in
      let (x, h3, h4) = bind_is _ (e 1 inside) (u, after) h2 in
      let (rest, h5, h6) = bind_is _ (expect s.CloseBracket x.1) (u, after) h4 in
      let q = some_pair_parts x.0 u rest after h6 in
      let d = to c.printed 1 inside x.1 _ x.0 (expect_is s.CloseBracket x.1 rest h5) (at_one inside x h3) in
      (inside, expect_is s.OpenBracket ts inside h1, moved c.printed 1 inside _ _ x.0 u q.0 (ap (λ z. t.symbol s.CloseBracket ∷ z) q.1) d)

  pub cells_sound : (n : ℕ) (ts rest : List Lexeme) (us : PlainExprs) → cells c e n ts ≡ Some (us, rest) → IsCells c.printed ts us rest
  unfolding cells
  cells_sound zero ts rest us h = absurd (let no : ⊥ = cc in no)
  cells_sound (suc n) ts rest us h =
      let (x, h1, h2) = bind_is _ (one_cell c e ts) (us, rest) h in
      let (inside, is, d) = one_cell_sound ts x.1 x.0 h1 in
      from_cells c.printed _ ts rest us is (more_cells (cells c e n) (cells_sound n) inside x.1 rest x.0 us d (expect s.OpenBracket x.1) h2)

  applied_sound : (op : UnOp) (ts rest : List Lexeme) (u : PlainExpr) → applied c e op ts ≡ Some (u, rest) → IsExpr c.printed 7 (t.symbol (un_mark op) ∷ ts) u rest
  applied_sound op ts rest u h =
      let (x, h1, h2) = bind_is _ (e 7 ts) (u, rest) h in
      built 7 _ (un op x.0) u x.1 rest h2 (g.unary op (at_seven ts x h1))

  two_sound : (k : Call) (ts rest : List Lexeme) (u : PlainExpr) → allowed c.printed k ≡ true → two c e k ts ≡ Some (u, rest) → IsExpr c.printed 7 (t.symbol (call_word k) ∷ ts) u rest
  unfolding two
  two_sound k ts rest u may h =
      let (inside, h1, h2) = bind_is _ (expect s.OpenParen ts) (u, rest) h in
      let (x, h3, h4) = bind_is _ (e 1 inside) (u, rest) h2 in
      let (second, h5, h6) = bind_is _ (expect s.Comma x.1) (u, rest) h4 in
      let (y, h7, h8) = bind_is _ (e 1 second) (u, rest) h6 in
      let (close, h9, h10) = bind_is _ (expect s.CloseParen y.1) (u, rest) h8 in
      let da = to c.printed 1 inside x.1 _ x.0 (expect_is s.Comma x.1 second h5) (at_one inside x h3) in
      let db = to c.printed 1 second y.1 _ y.0 (expect_is s.CloseParen y.1 close h9) (at_one second y h7) in
      from c.printed 7 _ _ rest u (ap (λ z. t.symbol (call_word k) ∷ z) (expect_is s.OpenParen ts inside h1)) (built 7 _ (called k x.0 y.0) u close rest h10 (g.call k may da db))

  call_sound : (k : Call) (ts rest : List Lexeme) (u : PlainExpr) → call c e k ts ≡ Some (u, rest) → IsExpr c.printed 7 (t.symbol (call_word k) ∷ ts) u rest
  call_sound k ts rest u h = let q = cond_some_read (allowed c.printed k) (two c e k ts) (u, rest) h in two_sound k ts rest u q.0 q.1
    where
      cond_some_read : (b : Bool) (r : Read PlainExpr) (y : PlainExpr × List Lexeme) → cond b r None ≡ Some y → (b ≡ true) × (r ≡ Some y)
      cond_some_read true r y h = (refl, h)
      cond_some_read false r y h = absurd (let no : ⊥ = cc in no)

  if_printed : (b : Bool) (r : Read PlainExpr) (y : PlainExpr × List Lexeme) → cond b r None ≡ Some y → (b ≡ true) × (r ≡ Some y)
  if_printed true r y h = (refl, h)
  if_printed false r y h = absurd (let no : ⊥ = cc in no)

  wide_sound : (ts rest : List Lexeme) (u : PlainExpr) → wide c e ts ≡ Some (u, rest) → IsExpr c.printed 7 (t.symbol s.BalWide ∷ ts) u rest
  unfolding wide_parts
  wide_sound ts rest u h =
      let (is, k) = if_printed c.printed (wide_parts c e ts) (u, rest) h in
      let (first, h1, h2) = bind_is _ (expect s.OpenParen ts) (u, rest) k in
      let (x, h3, h4) = bind_is _ (number_at first) (u, rest) h2 in
      let (second, h5, h6) = bind_is _ (expect s.Comma x.1) (u, rest) h4 in
      let (y, h7, h8) = bind_is _ (number_at second) (u, rest) h6 in
      let (r, h9, h10) = bind_is _ (expect s.CloseParen y.1) (u, rest) h8 in
      let q = some_pair_parts (big x.0 y.0) u r rest h10 in
      let p1 : second ≡ t.number y.0 ∷ t.symbol s.CloseParen ∷ r = number_is second y.1 y.0 h7 ∙ ap (λ z. t.number y.0 ∷ z) (expect_is s.CloseParen y.1 r h9) in
      let p2 : first ≡ t.number x.0 ∷ t.symbol s.Comma ∷ t.number y.0 ∷ t.symbol s.CloseParen ∷ r = number_is first x.1 x.0 h3 ∙ ap (λ z. t.number x.0 ∷ z) (expect_is s.Comma x.1 second h5 ∙ ap (λ z. t.symbol s.Comma ∷ z) p1) in
      let d = at_printed c.printed 7 _ r (big x.0 y.0) is (g.wide_literal x.0 y.0) in
      moved c.printed 7 _ r rest (big x.0 y.0) u q.0 q.1 (from c.printed 7 _ (t.symbol s.BalWide ∷ ts) r (big x.0 y.0) (ap (λ z. t.symbol s.BalWide ∷ z) (expect_is s.OpenParen ts first h1 ∙ ap (λ z. t.symbol s.OpenParen ∷ z) p2)) d)

  wide_cast_sound : (ts rest : List Lexeme) (u : PlainExpr) → wide_cast c e ts ≡ Some (u, rest) → IsExpr c.printed 7 (t.symbol s.OpenParen ∷ ts) u rest
  unfolding wide_parts_cast
  wide_cast_sound ts rest u h =
      let (is, k) = if_printed c.printed (wide_parts_cast c e ts) (u, rest) h in
      let (doubled, h1, h2) = bind_is _ (expect s.Unsigned ts) (u, rest) k in
      let (close, h3, h4) = bind_is _ (expect s.Int128 doubled) (u, rest) h2 in
      let (inner, h5, h6) = bind_is _ (expect s.CloseParen close) (u, rest) h4 in
      let (x, h7, h8) = bind_is _ (e 7 inner) (u, rest) h6 in
      let p : ts ≡ t.symbol s.Unsigned ∷ t.symbol s.Int128 ∷ t.symbol s.CloseParen ∷ inner =
      expect_is s.Unsigned ts doubled h1 ∙ ap (λ z. t.symbol s.Unsigned ∷ z) (expect_is s.Int128 doubled close h3 ∙ ap (λ z. t.symbol s.Int128 ∷ z) (expect_is s.CloseParen close inner h5)) in
      let d = at_printed c.printed 7 _ x.1 (widen x.0) is (g.as_wide (in_printed c.printed 7 inner x.1 x.0 is (at_seven inner x h7))) in
      from c.printed 7 _ (t.symbol s.OpenParen ∷ ts) rest u (ap (λ z. t.symbol s.OpenParen ∷ z) p) (built 7 _ (widen x.0) u x.1 rest h8 d)

  named_sound : (x : Word) (ts rest : List Lexeme) (u : PlainExpr) (r : Option (List Lexeme)) → named_by c e x ts r ≡ Some (u, rest) → IsExpr c.printed 7 (t.name x ∷ ts) u rest
  named_sound x ts rest u None h = let q = some_pair_parts (var x) u ts rest h in moved c.printed 7 _ ts rest (var x) u q.0 q.1 (g.variable x)
  named_sound x ts rest u (Some inside) h =
      let (y, h1, h2) = bind_is _ (cells c e c.turns ts) (u, rest) h in
      built 7 _ (cell x y.0) u y.1 rest h2 (g.cell_of x (cells_sound c.turns ts y.1 y.0 h1))

module _ (c : Rules) (e : ℕ → List Lexeme → Read PlainExpr) (sound : Sound c e) (f : ℕ → List Lexeme → Read PlainExpr) (low : Sound c f) where
  -- behind `( uint64_t ) (`
  abbrev cast_open : List Lexeme → List Lexeme
  cast_open ts = t.symbol s.OpenParen ∷ t.symbol s.Uint64 ∷ t.symbol s.CloseParen ∷ t.symbol s.OpenParen ∷ ts

  grouped_by_sound : (start ts rest : List Lexeme) (a u : PlainExpr) (r : Option Rel) → front_rel ts ≡ r → IsExpr c.printed 4 start a ts → op_level (front_op ts) < 4 → grouped_by c e f a ts r ≡ Some (u, rest) → IsExpr c.printed 7 (cast_open start) u rest
  grouped_by_sound start ts rest a u None is d below h =
      let (x, h1, h2) = bind_is _ (close c f a ts) (u, rest) h in
      built c e sound 7 _ (cast x.0) u x.1 rest h2 (g.as_word (g.enclosed (close_from c f low 4 start ts x.1 a x.0 (omega arith) (omega arith) d (omega arith) h1)))
  grouped_by_sound start ts rest a u (Some rel) is d below h =
      let (x, h1, h2) = bind_is _ (e 4 (drop 1 ts)) (u, rest) h in
      let (r, h3, h4) = bind_is _ (expect s.CloseParen x.1) (u, rest) h2 in
      let one = to c.printed 4 start ts _ a (front_rel_is ts rel is) d in
      let other = to c.printed 4 (drop 1 ts) x.1 _ x.0 (expect_is s.CloseParen x.1 r h3) (sound.found 4 (drop 1 ts) x.1 x.0 (omega arith) (omega arith) h1).0 in
      built c e sound 7 _ (test rel a x.0) u r rest h4 (g.compared rel one other)

  grouped_sound : (ts rest : List Lexeme) (u : PlainExpr) → grouped c e f ts ≡ Some (u, rest) → IsExpr c.printed 7 (cast_open ts) u rest
  unfolding grouped
  grouped_sound ts rest u h =
      let (x, h1, h2) = bind_is _ (e 4 ts) (u, rest) h in
      let d = sound.found 4 ts x.1 x.0 (omega arith) (omega arith) h1 in
      grouped_by_sound ts x.1 rest x.0 u (front_rel x.1) refl d.0 d.1 h2

  cast_by_sound : (inner rest : List Lexeme) (u : PlainExpr) (r : Option (List Lexeme)) → paren inner ≡ r → cast_by c e f inner r ≡ Some (u, rest) → IsExpr c.printed 7 (t.symbol s.OpenParen ∷ t.symbol s.Uint64 ∷ t.symbol s.CloseParen ∷ inner) u rest
  cast_by_sound inner rest u None is h =
      let (x, h1, h2) = bind_is _ (e 7 inner) (u, rest) h in
      built c e sound 7 _ (cast x.0) u x.1 rest h2 (g.as_word (at_seven c e sound inner x h1))
  cast_by_sound inner rest u (Some inside) is h =
      from c.printed 7 _ _ rest u (ap (λ z. t.symbol s.OpenParen ∷ t.symbol s.Uint64 ∷ t.symbol s.CloseParen ∷ z) (paren_is inner inside is)) (grouped_sound inside rest u h)

  word_cast_sound : (word rest : List Lexeme) (u : PlainExpr) → word_cast c e f word ≡ Some (u, rest) → IsExpr c.printed 7 (t.symbol s.OpenParen ∷ t.symbol s.Uint64 ∷ word) u rest
  unfolding word_cast
  word_cast_sound word rest u h =
      let (inner, h1, h2) = bind_is _ (expect s.CloseParen word) (u, rest) h in
      from c.printed 7 _ _ rest u (ap (λ z. t.symbol s.OpenParen ∷ t.symbol s.Uint64 ∷ z) (expect_is s.CloseParen word inner h1)) (cast_by_sound inner rest u (paren inner) refl h2)

  converted_by_sound : (ts rest : List Lexeme) (u : PlainExpr) (r : Option (List Lexeme)) → expect s.Uint64 ts ≡ r → converted_by c e f ts r ≡ Some (u, rest) → IsExpr c.printed 7 (t.symbol s.OpenParen ∷ ts) u rest
  converted_by_sound ts rest u None is h = wide_cast_sound c e sound ts rest u h
  converted_by_sound ts rest u (Some word) is h = from c.printed 7 _ (t.symbol s.OpenParen ∷ ts) rest u (ap (λ z. t.symbol s.OpenParen ∷ z) (expect_is s.Uint64 ts word is)) (word_cast_sound word rest u h)

  signed_sound : (j : Symbol) (ts rest : List Lexeme) (u : PlainExpr) → signed c e f j ts ≡ Some (u, rest) → IsExpr c.printed 7 (t.symbol j ∷ ts) u rest
  signed_sound s.Minus ts rest u h = applied_sound c e sound Neg ts rest u h
  signed_sound s.Tilde ts rest u h = applied_sound c e sound Inv ts rest u h
  signed_sound s.Umin ts rest u h = call_sound c e sound call_min ts rest u h
  signed_sound s.Umax ts rest u h = call_sound c e sound call_max ts rest u h
  signed_sound s.BalMin ts rest u h = call_sound c e sound call_least ts rest u h
  signed_sound s.BalMax ts rest u h = call_sound c e sound call_greatest ts rest u h
  signed_sound s.BalWide ts rest u h = wide_sound c e sound ts rest u h
  signed_sound s.OpenParen ts rest u h = converted_by_sound ts rest u (expect s.Uint64 ts) refl h
  signed_sound _ ts rest u h = absurd (let no : ⊥ = cc in no)

  pub operand_sound : (ts rest : List Lexeme) (u : PlainExpr) → operand c e f ts ≡ Some (u, rest) → IsExpr c.printed 7 ts u rest
  unfolding operand
  operand_sound [] rest u h = absurd (let no : ⊥ = cc in no)
  operand_sound (t.name x ∷ ts) rest u h = named_sound c e sound x ts rest u (expect s.OpenBracket ts) h
  operand_sound (t.number n ∷ ts) rest u h = let q = some_pair_parts (lit n) u ts rest h in moved c.printed 7 _ ts rest (lit n) u q.0 q.1 (g.literal n)
  operand_sound (t.symbol j ∷ ts) rest u h = signed_sound j ts rest u h

mutual
  unfolding expr

  pub lower_sound : (c : Rules) (depth : ℕ) → Sound c (lower c depth)
  lower_sound c zero = record { found = λ l ts rest u pos top h. absurd (let no : ⊥ = cc in no) }
  lower_sound c (suc depth) = expr_sound c depth

  pub expr_sound : (c : Rules) (depth : ℕ) → Sound c (expr c depth)
  expr_sound c zero = record { found = λ l ts rest u pos top h. absurd (let no : ⊥ = cc in no) }
  expr_sound c (suc depth) = record {
    found = λ l ts rest u pos top h.
        let e = expr c depth in
        let sound = expr_sound c depth in
        let (x, h1, h2) = bind_is _ (operand c e (lower c depth) (opens ts).1) (u, rest) h in
        let (y, h3, h4) = bind_is _ (closes c e (opens ts).0 x.0 x.1) (u, rest) h2 in
        let first = operand_sound c e sound (lower c depth) (lower_sound c depth) (opens ts).1 x.1 x.0 h1 in
        let whole = from c.printed 7 _ ts y.1 y.0 (opens_is ts) (closes_sound c e sound (opens ts).0 (opens ts).1 x.1 y.1 x.0 y.0 first h3) in
        climb_sound c e sound l c.turns pos 7 y.0 ts y.1 rest u top (omega arith) whole (omega (arith, at_most_six (front_op y.1))) h4;
  }
