-- What is read isn't too high.
use Rattle.std.proofs.Common.{◌≡◌, ℕ, zero, suc, ◌≤◌, List, [], ◌∷◌, drop, Bool, true, false, cond, Option, Some, None, nat_lt, refl, ap, subst, arith, inl, inr}
use Rattle.std.proofs.lemmas.Option.{some_pair_parts}
use Rattle.c_tree.specs.declared.expr.Rel.{Rel}
use Rattle.c_tree.specs.declared.expr.UnOp.{UnOp}
use Rattle.c_tree.specs.declared.expr.UnOp.TheVariants.{Neg, Inv}
use Rattle.c_tree.specs.declared.expr.BinOp.{BinOp}
use Rattle.c_tree.specs.Plain.{Word, PlainExpr, lit, var, cell, un, bin, cast, test, big, widen}
use Rattle.c_tree.specs.declared.symbol.Symbol.{Symbol}
use Rattle.c_tree.specs.declared.symbol.Symbol.TheVariants as s
use Rattle.c_tree.specs.Grammar.Lexemes as t
use Rattle.c_tree.specs.Grammar.Lexemes.{Lexeme}
use Rattle.c_tree.specs.Grammar.Tables.{level, Call, call_min, call_max, call_least, call_greatest, called, allowed}
use Rattle.c_tree.specs.Grammar.Expressions.{height}
use Rattle.grammar_reading.specs.declared.rules.Rules.{Rules}
use Rattle.grammar_reading.specs.Reading.{Read, expect, number_at, node, front_op, front_rel, cells, signed, applied, two, call, wide, wide_parts, grouped, grouped_by, cast_by, word_cast, wide_cast, wide_parts_cast, converted_by, named_by, operand, climb, climb_by, close, closes, paren, opens, expr, lower}
use Rattle.grammar_reading.proofs.StepLemmas.{bind_is, chosen, node_is}

module _ (c : Rules) (some : 1 ≤ c.limit) where
  node_low : (v u : PlainExpr) (ts rest : List Lexeme) → node c v ts ≡ Some (u, rest) → height u ≤ c.limit
  node_low v u ts rest h = let q = node_is c v u ts rest h in subst (λ w. height w ≤ c.limit) q.0 q.2

  atom_low : (v u : PlainExpr) (ts rest : List Lexeme) → height v ≡ 1 → ◌≡◌ {A = Read PlainExpr} (Some (v, ts)) (Some (u, rest)) → height u ≤ c.limit
  atom_low v u ts rest e h = let q = some_pair_parts v u ts rest h in omega (arith, some, ap height q.0)

  module _ (e : ℕ → List Lexeme → Read PlainExpr) where
    climb_by_low : (l : ℕ) (go : PlainExpr → List Lexeme → Read PlainExpr) → ((left : PlainExpr) (ts rest : List Lexeme) (u : PlainExpr) → height left ≤ c.limit → go left ts ≡ Some (u, rest) → height u ≤ c.limit)
        → (left : PlainExpr) (ts rest : List Lexeme) (u : PlainExpr) (r : Option BinOp) → height left ≤ c.limit → climb_by c e l go left ts r ≡ Some (u, rest) → height u ≤ c.limit
    climb_by_low l go go_low left ts rest u None low h = let q = some_pair_parts left u ts rest h in subst (λ w. height w ≤ c.limit) q.0 low
    climb_by_low l go go_low left ts rest u (Some op) low h =
        elim (chosen (nat_lt (level op) l) _ _ _ h) [
          | inl p ↦ (let q = some_pair_parts left u ts rest p.1 in subst (λ w. height w ≤ c.limit) q.0 low)
          | inr p ↦ (let (x, h1, h2) = bind_is _ (e (suc (level op)) (drop 1 ts)) (u, rest) p.1 in
              let (y, h3, h4) = bind_is _ (node c (bin op left x.0) x.1) (u, rest) h2 in
              go_low y.0 y.1 rest u (node_low (bin op left x.0) y.0 x.1 y.1 h3) h4)
        ]

    pub climb_low : (l n : ℕ) (left : PlainExpr) (ts rest : List Lexeme) (u : PlainExpr) → height left ≤ c.limit → climb c e l n left ts ≡ Some (u, rest) → height u ≤ c.limit
    unfolding climb
    climb_low l zero left ts rest u low h = absurd (let no : ⊥ = cc in no)
    climb_low l (suc n) left ts rest u low h = climb_by_low l (climb c e l n) (climb_low l n) left ts rest u (front_op ts) low h

    pub close_low : (left : PlainExpr) (ts rest : List Lexeme) (u : PlainExpr) → height left ≤ c.limit → close c e left ts ≡ Some (u, rest) → height u ≤ c.limit
    unfolding close
    close_low left ts rest u low h =
        let (x, h1, h2) = bind_is _ (climb c e 1 c.turns left ts) (u, rest) h in
        let (r, h3, h4) = bind_is _ (expect s.CloseParen x.1) (u, rest) h2 in
        let q = some_pair_parts x.0 u r rest h4 in
        subst (λ w. height w ≤ c.limit) q.0 (climb_low 1 c.turns left ts x.1 x.0 low h1)

    pub closes_low : (k : ℕ) (left : PlainExpr) (ts rest : List Lexeme) (u : PlainExpr) → height left ≤ c.limit → closes c e k left ts ≡ Some (u, rest) → height u ≤ c.limit
    unfolding closes
    closes_low zero left ts rest u low h = let q = some_pair_parts left u ts rest h in subst (λ w. height w ≤ c.limit) q.0 low
    closes_low (suc k) left ts rest u low h =
        let (x, h1, h2) = bind_is _ (close c e left ts) (u, rest) h in
        closes_low k x.0 x.1 rest u (close_low left ts x.1 x.0 low h1) h2

    applied_low : (op : UnOp) (ts rest : List Lexeme) (u : PlainExpr) → applied c e op ts ≡ Some (u, rest) → height u ≤ c.limit
    applied_low op ts rest u h = let (x, h1, h2) = bind_is _ (e 7 ts) (u, rest) h in node_low (un op x.0) u x.1 rest h2

    two_low : (k : Call) (ts rest : List Lexeme) (u : PlainExpr) → two c e k ts ≡ Some (u, rest) → height u ≤ c.limit
    unfolding two
    two_low k ts rest u h =
        let (inside, h1, h2) = bind_is _ (expect s.OpenParen ts) (u, rest) h in
        let (x, h3, h4) = bind_is _ (e 1 inside) (u, rest) h2 in
        let (second, h5, h6) = bind_is _ (expect s.Comma x.1) (u, rest) h4 in
        let (y, h7, h8) = bind_is _ (e 1 second) (u, rest) h6 in
        let (r, h9, h10) = bind_is _ (expect s.CloseParen y.1) (u, rest) h8 in
        node_low (called k x.0 y.0) u r rest h10

    if_true : (b : Bool) (r : Read PlainExpr) (y : PlainExpr × List Lexeme) → cond b r None ≡ Some y → r ≡ Some y
    if_true true r y h = h
    if_true false r y h = absurd (let no : ⊥ = cc in no)

    call_low : (k : Call) (ts rest : List Lexeme) (u : PlainExpr) → call c e k ts ≡ Some (u, rest) → height u ≤ c.limit
    call_low k ts rest u h = two_low k ts rest u (if_true (allowed c.printed k) (two c e k ts) (u, rest) h)

    wide_low : (ts rest : List Lexeme) (u : PlainExpr) → wide c e ts ≡ Some (u, rest) → height u ≤ c.limit
    unfolding wide_parts
    wide_low ts rest u h =
        let k = if_true c.printed (wide_parts c e ts) (u, rest) h in
        let (first, h1, h2) = bind_is _ (expect s.OpenParen ts) (u, rest) k in
        let (x, h3, h4) = bind_is _ (number_at first) (u, rest) h2 in
        let (second, h5, h6) = bind_is _ (expect s.Comma x.1) (u, rest) h4 in
        let (y, h7, h8) = bind_is _ (number_at second) (u, rest) h6 in
        let (r, h9, h10) = bind_is _ (expect s.CloseParen y.1) (u, rest) h8 in
        atom_low (big x.0 y.0) u r rest refl h10

    wide_cast_low : (ts rest : List Lexeme) (u : PlainExpr) → wide_cast c e ts ≡ Some (u, rest) → height u ≤ c.limit
    unfolding wide_parts_cast
    wide_cast_low ts rest u h =
        let k = if_true c.printed (wide_parts_cast c e ts) (u, rest) h in
        let (doubled, h1, h2) = bind_is _ (expect s.Unsigned ts) (u, rest) k in
        let (close, h3, h4) = bind_is _ (expect s.Int128 doubled) (u, rest) h2 in
        let (inner, h5, h6) = bind_is _ (expect s.CloseParen close) (u, rest) h4 in
        let (x, h7, h8) = bind_is _ (e 7 inner) (u, rest) h6 in
        node_low (widen x.0) u x.1 rest h8

    named_low : (x : Word) (ts rest : List Lexeme) (u : PlainExpr) (r : Option (List Lexeme)) → named_by c e x ts r ≡ Some (u, rest) → height u ≤ c.limit
    named_low x ts rest u None h = atom_low (var x) u ts rest refl h
    named_low x ts rest u (Some inside) h = let (y, h1, h2) = bind_is _ (cells c e c.turns ts) (u, rest) h in node_low (cell x y.0) u y.1 rest h2

    module _ (f : ℕ → List Lexeme → Read PlainExpr) where
      grouped_by_low : (a u : PlainExpr) (ts rest : List Lexeme) (r : Option Rel) → grouped_by c e f a ts r ≡ Some (u, rest) → height u ≤ c.limit
      grouped_by_low a u ts rest None h = let (x, h1, h2) = bind_is _ (close c f a ts) (u, rest) h in node_low (cast x.0) u x.1 rest h2
      grouped_by_low a u ts rest (Some rel) h =
          let (x, h1, h2) = bind_is _ (e 4 (drop 1 ts)) (u, rest) h in
          let (r, h3, h4) = bind_is _ (expect s.CloseParen x.1) (u, rest) h2 in
          node_low (test rel a x.0) u r rest h4

      cast_by_low : (u : PlainExpr) (ts rest : List Lexeme) (r : Option (List Lexeme)) → cast_by c e f ts r ≡ Some (u, rest) → height u ≤ c.limit
      unfolding grouped
      cast_by_low u ts rest None h = let (x, h1, h2) = bind_is _ (e 7 ts) (u, rest) h in node_low (cast x.0) u x.1 rest h2
      cast_by_low u ts rest (Some inside) h = let (x, h1, h2) = bind_is _ (e 4 inside) (u, rest) h in grouped_by_low x.0 u x.1 rest (front_rel x.1) h2

      converted_low : (u : PlainExpr) (ts rest : List Lexeme) (r : Option (List Lexeme)) → converted_by c e f ts r ≡ Some (u, rest) → height u ≤ c.limit
      unfolding word_cast
      converted_low u ts rest None h = wide_cast_low ts rest u h
      converted_low u ts rest (Some word) h = let (inner, h1, h2) = bind_is _ (expect s.CloseParen word) (u, rest) h in cast_by_low u inner rest (paren inner) h2

      signed_low : (j : Symbol) (ts rest : List Lexeme) (u : PlainExpr) → signed c e f j ts ≡ Some (u, rest) → height u ≤ c.limit
      signed_low s.Minus ts rest u h = applied_low Neg ts rest u h
      signed_low s.Tilde ts rest u h = applied_low Inv ts rest u h
      signed_low s.Umin ts rest u h = call_low call_min ts rest u h
      signed_low s.Umax ts rest u h = call_low call_max ts rest u h
      signed_low s.BalMin ts rest u h = call_low call_least ts rest u h
      signed_low s.BalMax ts rest u h = call_low call_greatest ts rest u h
      signed_low s.BalWide ts rest u h = wide_low ts rest u h
      signed_low s.OpenParen ts rest u h = converted_low u ts rest (expect s.Uint64 ts) h
      signed_low _ ts rest u h = absurd (let no : ⊥ = cc in no)

      pub operand_low : (ts rest : List Lexeme) (u : PlainExpr) → operand c e f ts ≡ Some (u, rest) → height u ≤ c.limit
      unfolding operand
      operand_low [] rest u h = absurd (let no : ⊥ = cc in no)
      operand_low (t.name x ∷ ts) rest u h = named_low x ts rest u (expect s.OpenBracket ts) h
      operand_low (t.number n ∷ ts) rest u h = atom_low (lit n) u ts rest refl h
      operand_low (t.symbol j ∷ ts) rest u h = signed_low j ts rest u h

  pub expr_low : (depth l : ℕ) (ts rest : List Lexeme) (u : PlainExpr) → expr c depth l ts ≡ Some (u, rest) → height u ≤ c.limit
  unfolding expr
  expr_low zero l ts rest u h = absurd (let no : ⊥ = cc in no)
  expr_low (suc depth) l ts rest u h =
      let (x, h1, h2) = bind_is _ (operand c (expr c depth) (lower c depth) (opens ts).1) (u, rest) h in
      let (y, h3, h4) = bind_is _ (closes c (expr c depth) (opens ts).0 x.0 x.1) (u, rest) h2 in
      climb_low (expr c depth) l c.turns y.0 y.1 rest u (closes_low (expr c depth) (opens ts).0 x.0 x.1 y.1 y.0 (operand_low (expr c depth) (lower c depth) (opens ts).1 x.1 x.0 h1) h3) h4
