-- What is read as a statement is one.
use Rattle.std.proofs.Common.{◌≡◌, ℕ, zero, suc, ◌+◌, ◌^◌, ◌<◌, ◌≤◌, List, [], ◌∷◌, drop, Bool, true, false, cond, Option, Some, None, ◌==◌, bytes_eq, refl, sym, ap, ◌∙◌, subst, arith}
use Rattle.std.proofs.lemmas.Option.{same_Some, cond_some, some_pair_parts}
use Rattle.std.proofs.lemmas.Bool.{eqb-true}
use Rattle.c_tree.specs.declared.expr.Rel.{Rel}
use Rattle.c_tree.specs.declared.expr.BinOp.{BinOp}
use Rattle.c_tree.specs.Plain.{Word, PlainExpr, var, cell, PlainTest, loop, choice, assign, check, PlainStmts, no_stmts, more_stmts}
use Rattle.c_tree.specs.declared.symbol.Symbol.{Symbol}
use Rattle.c_tree.specs.declared.symbol.Symbol.TheVariants as s
use Rattle.c_tree.specs.Grammar.Lexemes as t
use Rattle.c_tree.specs.Grammar.Lexemes.{Lexeme}
use Rattle.c_tree.specs.Grammar.Tables.{rel_mark}
use Rattle.c_tree.specs.Grammar.Expressions.{IsLow}
use Rattle.c_tree.specs.Grammar.Conditions.{IsCond}
use Rattle.c_tree.specs.Grammar.Statements as k
use Rattle.c_tree.specs.Grammar.Statements.{chain, one, set_op, bounds, IsStep, IsPlace, IsStmt, IsStmts}
use Rattle.grammar_reading.specs.declared.rules.Rules.{Rules}
use Rattle.grammar_reading.specs.Reading.{Read, expect, number_at, front_rel, named_by, cells, expr, deepest, conds}
use Rattle.grammar_reading.proofs.StepLemmas.{bind_is, expect_is, number_is, front_rel_is, node_is}
use Rattle.grammar_reading.proofs.Sound.{expr_sound, cells_sound}
use Rattle.grammar_reading.proofs.Low.{expr_low}
use Rattle.grammar_reading.proofs.CondSound.{cond_sound}
use Rattle.grammar_reading.specs.Blocks.{name_at, this_name, this_number, set_at, bound_at, step_on, step_by, step_at, array_below, side, place, assign_at, for_start, for_bound, for_step, check_start, check_middle, check_front, check_end, for_at, else_by, if_plain, if_by, if_at, by_sign, stmt_at, inside_by, inside, body_by, body, simple}
use Rattle.grammar_reading.proofs.Words.{bytes_is}

-- ---- names, numbers and marks

pub name_is : (ts rest : List Lexeme) (x : Word) → name_at ts ≡ Some (x, rest) → ts ≡ t.name x ∷ rest
unfolding name_at
name_is [] rest x e = cc
name_is (t.name y ∷ ts) rest x e = let q = some_pair_parts y x ts rest e in ap (λ z. t.name z ∷ ts) q.0 ∙ ap (λ z. t.name x ∷ z) q.1
name_is (t.number n ∷ ts) rest x e = cc
name_is (t.symbol j ∷ ts) rest x e = cc

pub this_name_is : (v : Word) (ts rest : List Lexeme) → this_name v ts ≡ Some rest → ts ≡ t.name v ∷ rest
unfolding this_name
this_name_is v ts rest e =
    let (x, h1, h2) = bind_is _ (name_at ts) rest e in
    let p = cond_some (bytes_eq x.0 v) x.1 rest h2 in
    name_is ts x.1 x.0 h1 ∙ ap (λ z. t.name z ∷ x.1) (bytes_is x.0 v p.0) ∙ ap (λ z. t.name v ∷ z) p.1

pub this_number_is : (n : ℕ) (ts rest : List Lexeme) → this_number n ts ≡ Some rest → ts ≡ t.number n ∷ rest
unfolding this_number
this_number_is n ts rest e =
    let (x, h1, h2) = bind_is _ (number_at ts) rest e in
    let p = cond_some (x.0 == n) x.1 rest h2 in
    number_is ts x.1 x.0 h1 ∙ ap (λ z. t.number z ∷ x.1) (eqb-true x.0 n p.0) ∙ ap (λ z. t.number n ∷ z) p.1

-- the mark of an assignment that was read
abbrev Marked : List Lexeme → Option BinOp → List Lexeme → Type 0
Marked ts op rest = (j : Symbol) × (ts ≡ t.symbol j ∷ rest) × (set_op j ≡ Some op)

set_is : (ts rest : List Lexeme) (op : Option BinOp) → set_at ts ≡ Some (op, rest) → Marked ts op rest
unfolding set_at
set_is [] rest op e = absurd (let no : ⊥ = cc in no)
set_is (t.name x ∷ ts) rest op e = absurd (let no : ⊥ = cc in no)
set_is (t.number n ∷ ts) rest op e = absurd (let no : ⊥ = cc in no)
set_is (t.symbol j ∷ ts) rest op e =
    let (x, h1, h2) = bind_is _ (set_op j) (op, rest) e in
    let q = some_pair_parts x op ts rest h2 in
    (j, ap (λ z. t.symbol j ∷ z) q.1, h1 ∙ ap (λ y. Some y) q.0)

bound_is : (ts rest : List Lexeme) (rel : Rel) → bound_at ts ≡ Some (rel, rest) → (ts ≡ t.symbol (rel_mark rel) ∷ rest) × (bounds rel ≡ true)
unfolding bound_at
bound_is ts rest rel e =
    let (x, h1, h2) = bind_is _ (front_rel ts) (rel, rest) e in
    let p = cond_some (bounds x) (x, drop 1 ts) (rel, rest) h2 in
    let q = some_pair_parts x rel (drop 1 ts) rest (ap Some p.1) in
    (front_rel_is ts x h1 ∙ ap (λ z. t.symbol (rel_mark z) ∷ drop 1 ts) q.0 ∙ ap (λ z. t.symbol (rel_mark rel) ∷ z) q.1, sym (ap bounds q.0) ∙ p.0)

step_from : (v : Word) (ts ts' rest : List Lexeme) → ts' ≡ ts → IsStep v ts rest → IsStep v ts' rest
step_from v ts ts' rest e d = subst (λ z. IsStep v z rest) (sym e) d

step_on_is : (v : Word) (ts rest : List Lexeme) (r : Option (List Lexeme)) → expect s.PlusPlus ts ≡ r → step_on ts r ≡ Some rest → IsStep v (t.name v ∷ ts) rest
step_on_is v ts rest (Some z) is e = step_from v _ _ rest (ap (λ z. t.name v ∷ z) (expect_is s.PlusPlus ts z is ∙ ap (λ z. t.symbol s.PlusPlus ∷ z) (same_Some z rest e))) (k.behind v)
step_on_is v ts rest None is e =
    let (z, h1, h2) = bind_is _ (expect s.AddAssign ts) rest e in
    step_from v _ _ rest (ap (λ z. t.name v ∷ z) (expect_is s.AddAssign ts z h1 ∙ ap (λ z. t.symbol s.AddAssign ∷ z) (this_number_is 1 z rest h2))) (k.by_one v)

step_by_is : (v : Word) (ts rest : List Lexeme) (r : Option (List Lexeme)) → expect s.PlusPlus ts ≡ r → step_by v ts r ≡ Some rest → IsStep v ts rest
step_by_is v ts rest (Some z) is e = step_from v _ _ rest (expect_is s.PlusPlus ts z is ∙ ap (λ z. t.symbol s.PlusPlus ∷ z) (this_name_is v z rest e)) (k.before v)
step_by_is v ts rest None is e =
    let (z, h1, h2) = bind_is _ (this_name v ts) rest e in
    step_from v _ _ rest (this_name_is v ts z h1) (step_on_is v z rest (expect s.PlusPlus z) refl h2)

step_is : (v : Word) (ts rest : List Lexeme) → step_at v ts ≡ Some rest → IsStep v ts rest
unfolding step_at
step_is v ts rest e = step_by_is v ts rest (expect s.PlusPlus ts) refl e

array_is : (m n a : ℕ) → array_below m n ≡ Some a → (n ≡ 2 ^ (16 + a)) × (a < m)
unfolding array_below
array_is zero n a e = absurd (let no : ⊥ = cc in no)
array_is (suc m) n a e = by (n == 2 ^ (16 + m)) refl (array_is m n a) e
  where
    by : (b : Bool) → (n == 2 ^ (16 + m)) ≡ b → (array_below m n ≡ Some a → (n ≡ 2 ^ (16 + a)) × (a < m)) → cond b (Some m) (array_below m n) ≡ Some a → (n ≡ 2 ^ (16 + a)) × (a < suc m)
    by true is below h = let q = same_Some m a h in (eqb-true n (2 ^ (16 + m)) is ∙ ap (λ (j : ℕ). 2 ^ (16 + j)) q, omega arith)
    by false is below h = let q = below h in (q.0, omega (arith, q.1))

-- ---- statements without parts

-- a statement that was read, with the flag of its end
pub record Found (c : Rules) (ts : List Lexeme) (us : PlainStmts) (rest : List Lexeme) : Type 0 where
  pub open_end : Bool
  pub is : IsStmt c.printed c.limit open_end ts us rest
  pub no_else : open_end ≡ true → expect s.Else rest ≡ None

module _ (c : Rules) (some : 1 ≤ c.limit) where
  pub low_at : (ts rest : List Lexeme) (u : PlainExpr) → side c ts ≡ Some (u, rest) → IsLow c.printed c.limit 1 ts u rest
  low_at ts rest u h = record { reads = ((expr_sound c (deepest c)).found 1 ts rest u (omega arith) (omega arith) h).0; low = expr_low c some (deepest c) 1 ts rest u h }

  low_to : (ts rest rest' : List Lexeme) (u : PlainExpr) → rest ≡ rest' → IsLow c.printed c.limit 1 ts u rest → IsLow c.printed c.limit 1 ts u rest'
  low_to ts rest rest' u e d = subst (λ r. IsLow c.printed c.limit 1 ts u r) e d

  place_by_is : (x : Word) (ts rest : List Lexeme) (u : PlainExpr) (r : Option (List Lexeme)) → named_by c (expr c (deepest c)) x ts r ≡ Some (u, rest) → IsPlace c.printed c.limit (t.name x ∷ ts) u rest
  place_by_is x ts rest u None h = let q = some_pair_parts (var x) u ts rest h in subst (λ v. IsPlace c.printed c.limit (t.name x ∷ ts) v rest) q.0 (subst (λ r. IsPlace c.printed c.limit (t.name x ∷ ts) (var x) r) q.1 (k.of_name x))
  place_by_is x ts rest u (Some inside) h =
      let (y, h1, h2) = bind_is _ (cells c (expr c (deepest c)) c.turns ts) (u, rest) h in
      let q = node_is c (cell x y.0) u y.1 rest h2 in
      let d = k.of_cell x (cells_sound c (expr c (deepest c)) (expr_sound c (deepest c)) c.turns ts y.1 y.0 h1) q.2 in
      subst (λ v. IsPlace c.printed c.limit (t.name x ∷ ts) v rest) q.0 (subst (λ r. IsPlace c.printed c.limit (t.name x ∷ ts) (cell x y.0) r) q.1 d)

  place_is : (ts rest : List Lexeme) (u : PlainExpr) → place c ts ≡ Some (u, rest) → IsPlace c.printed c.limit ts u rest
  unfolding place
  place_is ts rest u h =
      let (x, h1, h2) = bind_is _ (name_at ts) (u, rest) h in
      subst (λ z. IsPlace c.printed c.limit z u rest) (sym (name_is ts x.1 x.0 h1)) (place_by_is x.0 x.1 rest u (expect s.OpenBracket x.1) h2)

  assign_sound : (ts rest : List Lexeme) (us : PlainStmts) → assign_at c ts ≡ Some (us, rest) → IsStmt c.printed c.limit false ts us rest
  unfolding assign_at
  assign_sound ts rest us h =
      let (x, h1, h2) = bind_is _ (place c ts) (us, rest) h in
      let (op, h3, h4) = bind_is _ (set_at x.1) (us, rest) h2 in
      let (u, h5, h6) = bind_is _ (side c op.1) (us, rest) h4 in
      let (r, h7, h8) = bind_is _ (expect s.Semicolon u.1) (us, rest) h6 in
      let (j, is, sets) = set_is x.1 op.1 op.0 h3 in
      let q = some_pair_parts (one (assign x.0 op.0 u.0)) us r rest h8 in
      let target = subst (λ z. IsPlace c.printed c.limit ts x.0 z) is (place_is ts x.1 x.0 h1) in
      let value = low_to op.1 u.1 (t.symbol s.Semicolon ∷ r) u.0 (expect_is s.Semicolon u.1 r h7) (low_at op.1 u.1 u.0 h5) in
      subst (λ v. IsStmt c.printed c.limit false ts v rest) q.0 (subst (λ z. IsStmt c.printed c.limit false ts (one (assign x.0 op.0 u.0)) z) q.1 (k.assigned j op.0 sets target value))

  -- ---- the parts of a loop

  start_sound : (ts rest : List Lexeme) (x : Word × PlainExpr) → for_start c ts ≡ Some (x, rest)
      → (inner : List Lexeme) × (ts ≡ t.symbol s.OpenParen ∷ t.symbol s.Int64 ∷ t.name x.0 ∷ t.symbol s.Assign ∷ inner) × IsLow c.printed c.limit 1 inner x.1 (t.symbol s.Semicolon ∷ rest)
  unfolding for_start
  start_sound ts rest x h =
      let (t1, h1, h2) = bind_is _ (expect s.OpenParen ts) (x, rest) h in
      let (t2, h3, h4) = bind_is _ (expect s.Int64 t1) (x, rest) h2 in
      let (v, h5, h6) = bind_is _ (name_at t2) (x, rest) h4 in
      let (t4, h7, h8) = bind_is _ (expect s.Assign v.1) (x, rest) h6 in
      let (lo, h9, h10) = bind_is _ (side c t4) (x, rest) h8 in
      let (t6, h11, h12) = bind_is _ (expect s.Semicolon lo.1) (x, rest) h10 in
      let q = some_pair_parts (v.0, lo.0) x t6 rest h12 in
      let is : ts ≡ t.symbol s.OpenParen ∷ t.symbol s.Int64 ∷ t.name v.0 ∷ t.symbol s.Assign ∷ t4 =
      expect_is s.OpenParen ts t1 h1 ∙ ap (λ z. t.symbol s.OpenParen ∷ z) (expect_is s.Int64 t1 t2 h3 ∙ ap (λ z. t.symbol s.Int64 ∷ z) (name_is t2 v.1 v.0 h5 ∙ ap (λ z. t.name v.0 ∷ z) (expect_is s.Assign v.1 t4 h7))) in
      let d = low_to t4 lo.1 (t.symbol s.Semicolon ∷ rest) lo.0 (expect_is s.Semicolon lo.1 t6 h11 ∙ ap (λ z. t.symbol s.Semicolon ∷ z) q.1) (low_at t4 lo.1 lo.0 h9) in
      subst (λ (y : Word × PlainExpr). (inner : List Lexeme) × (ts ≡ t.symbol s.OpenParen ∷ t.symbol s.Int64 ∷ t.name y.0 ∷ t.symbol s.Assign ∷ inner) × IsLow c.printed c.limit 1 inner y.1 (t.symbol s.Semicolon ∷ rest)) q.0 (t4, is, d)

  bound_sound : (v : Word) (ts rest : List Lexeme) (x : Rel × PlainExpr) → for_bound c v ts ≡ Some (x, rest)
      → (inner : List Lexeme) × (ts ≡ t.name v ∷ t.symbol (rel_mark x.0) ∷ inner) × (bounds x.0 ≡ true) × IsLow c.printed c.limit 1 inner x.1 (t.symbol s.Semicolon ∷ rest)
  unfolding for_bound
  bound_sound v ts rest x h =
      let (t1, h1, h2) = bind_is _ (this_name v ts) (x, rest) h in
      let (rel, h3, h4) = bind_is _ (bound_at t1) (x, rest) h2 in
      let (hi, h5, h6) = bind_is _ (side c rel.1) (x, rest) h4 in
      let (t4, h7, h8) = bind_is _ (expect s.Semicolon hi.1) (x, rest) h6 in
      let q = some_pair_parts (rel.0, hi.0) x t4 rest h8 in
      let b = bound_is t1 rel.1 rel.0 h3 in
      let d = low_to rel.1 hi.1 (t.symbol s.Semicolon ∷ rest) hi.0 (expect_is s.Semicolon hi.1 t4 h7 ∙ ap (λ z. t.symbol s.Semicolon ∷ z) q.1) (low_at rel.1 hi.1 hi.0 h5) in
      subst (λ (y : Rel × PlainExpr). (inner : List Lexeme) × (ts ≡ t.name v ∷ t.symbol (rel_mark y.0) ∷ inner) × (bounds y.0 ≡ true) × IsLow c.printed c.limit 1 inner y.1 (t.symbol s.Semicolon ∷ rest)) q.0
      (rel.1, this_name_is v ts t1 h1 ∙ ap (λ z. t.name v ∷ z) b.0, b.1, d)

  step_sound : (v : Word) (ts rest : List Lexeme) → for_step c v ts ≡ Some rest → IsStep v ts (t.symbol s.CloseParen ∷ rest)
  unfolding for_step
  step_sound v ts rest h =
      let (t1, h1, h2) = bind_is _ (step_at v ts) rest h in
      subst (λ z. IsStep v ts z) (expect_is s.CloseParen t1 rest h2) (step_is v ts t1 h1)

  -- ---- checks

  pub check_start_sound : (ts rest : List Lexeme) (x : Word) → check_start c ts ≡ Some (x, rest) → ts ≡ t.name x ∷ t.symbol s.GreaterEqual ∷ t.symbol s.OpenParen ∷ t.symbol s.Uint64 ∷ t.symbol s.CloseParen ∷ t.symbol s.OpenParen ∷ rest
  unfolding check_start
  check_start_sound ts rest x h =
      let (v, h1, h2) = bind_is _ (name_at ts) (x, rest) h in
      let (t2, h3, h4) = bind_is _ (expect s.GreaterEqual v.1) (x, rest) h2 in
      let (t3, h5, h6) = bind_is _ (expect s.OpenParen t2) (x, rest) h4 in
      let (t4, h7, h8) = bind_is _ (expect s.Uint64 t3) (x, rest) h6 in
      let (t5, h9, h10) = bind_is _ (expect s.CloseParen t4) (x, rest) h8 in
      let (t6, h11, h12) = bind_is _ (expect s.OpenParen t5) (x, rest) h10 in
      let q = some_pair_parts v.0 x t6 rest h12 in
      name_is ts v.1 v.0 h1 ∙ ap (λ z. t.name z ∷ v.1) q.0
      ∙ ap (λ z. t.name x ∷ z) (expect_is s.GreaterEqual v.1 t2 h3 ∙ ap (λ z. t.symbol s.GreaterEqual ∷ z) (expect_is s.OpenParen t2 t3 h5 ∙ ap (λ z. t.symbol s.OpenParen ∷ z) (expect_is s.Uint64 t3 t4 h7
      ∙ ap (λ z. t.symbol s.Uint64 ∷ z) (expect_is s.CloseParen t4 t5 h9 ∙ ap (λ z. t.symbol s.CloseParen ∷ z) (expect_is s.OpenParen t5 t6 h11 ∙ ap (λ z. t.symbol s.OpenParen ∷ z) q.1)))))

  pub check_middle_sound : (ts rest : List Lexeme) (u : PlainExpr) → check_middle c ts ≡ Some (u, rest) → IsLow c.printed c.limit 1 ts u (t.symbol s.CloseParen ∷ t.symbol s.CloseParen ∷ t.symbol s.OpenBrace ∷ t.symbol s.Return ∷ rest)
  unfolding check_middle
  check_middle_sound ts rest u h =
      let (v, h1, h2) = bind_is _ (side c ts) (u, rest) h in
      let (t2, h3, h4) = bind_is _ (expect s.CloseParen v.1) (u, rest) h2 in
      let (t3, h5, h6) = bind_is _ (expect s.CloseParen t2) (u, rest) h4 in
      let (t4, h7, h8) = bind_is _ (expect s.OpenBrace t3) (u, rest) h6 in
      let (t5, h9, h10) = bind_is _ (expect s.Return t4) (u, rest) h8 in
      let q = some_pair_parts v.0 u t5 rest h10 in
      let e : v.1 ≡ t.symbol s.CloseParen ∷ t.symbol s.CloseParen ∷ t.symbol s.OpenBrace ∷ t.symbol s.Return ∷ rest =
      expect_is s.CloseParen v.1 t2 h3 ∙ ap (λ z. t.symbol s.CloseParen ∷ z) (expect_is s.CloseParen t2 t3 h5 ∙ ap (λ z. t.symbol s.CloseParen ∷ z) (expect_is s.OpenBrace t3 t4 h7
      ∙ ap (λ z. t.symbol s.OpenBrace ∷ z) (expect_is s.Return t4 t5 h9 ∙ ap (λ z. t.symbol s.Return ∷ z) q.1))) in
      subst (λ w. IsLow c.printed c.limit 1 ts w (t.symbol s.CloseParen ∷ t.symbol s.CloseParen ∷ t.symbol s.OpenBrace ∷ t.symbol s.Return ∷ rest)) q.0 (low_to ts v.1 _ v.0 e (low_at ts v.1 v.0 h1))

  -- ---- over the reading of a part

  module _ (go : List Lexeme → Read PlainStmts) (go_sound : (ts rest : List Lexeme) (us : PlainStmts) → go ts ≡ Some (us, rest) → Found c ts us rest) where
    moved : (open_end : Bool) (ts rest rest' : List Lexeme) (us us' : PlainStmts) → us ≡ us' → rest ≡ rest' → IsStmt c.printed c.limit open_end ts us rest → IsStmt c.printed c.limit open_end ts us' rest'
    moved open_end ts rest rest' us us' e f d = subst (λ v. IsStmt c.printed c.limit open_end ts v rest') e (subst (λ r. IsStmt c.printed c.limit open_end ts us r) f d)

    from : (open_end : Bool) (ts ts' rest : List Lexeme) (us : PlainStmts) → ts' ≡ ts → IsStmt c.printed c.limit open_end ts us rest → IsStmt c.printed c.limit open_end ts' us rest
    from open_end ts ts' rest us e d = subst (λ z. IsStmt c.printed c.limit open_end z us rest) (sym e) d

    as_printed : (ts : List Lexeme) (us : PlainStmts) (rest : List Lexeme) → c.printed ≡ true → IsStmt true c.limit false ts us rest → IsStmt c.printed c.limit false ts us rest
    as_printed ts us rest e d = subst (λ b. IsStmt b c.limit false ts us rest) (sym e) d

    for_sound : (ts rest : List Lexeme) (us : PlainStmts) → for_at c go ts ≡ Some (us, rest) → Found c (t.symbol s.For ∷ ts) us rest
    unfolding for_at
    for_sound ts rest us h =
        let (x, h1, h2) = bind_is _ (for_start c ts) (us, rest) h in
        let (b, h3, h4) = bind_is _ (for_bound c x.0.0 x.1) (us, rest) h2 in
        let (t3, h5, h6) = bind_is _ (for_step c x.0.0 b.1) (us, rest) h4 in
        let (vs, h7, h8) = bind_is _ (go t3) (us, rest) h6 in
        let (inner, is, lo) = start_sound ts x.1 x.0 h1 in
        let (second, is2, fine, hi) = bound_sound x.0.0 x.1 b.1 b.0 h3 in
        let step = step_sound x.0.0 b.1 t3 h5 in
        let found = go_sound t3 vs.1 vs.0 h7 in
        let q = some_pair_parts (one (loop x.0.0 x.0.1 b.0.0 b.0.1 vs.0)) us vs.1 rest h8 in
        let first = low_to inner (t.symbol s.Semicolon ∷ x.1) _ x.0.1 (ap (λ z. t.symbol s.Semicolon ∷ z) is2) lo in
        let d = k.for x.0.0 b.0.0 fine first hi step found.is in
        record {
          open_end = found.open_end;
          is = moved found.open_end _ vs.1 rest _ us q.0 q.1 (from found.open_end _ (t.symbol s.For ∷ ts) vs.1 _ (ap (λ z. t.symbol s.For ∷ z) is) d);
          no_else = λ e. ap (expect s.Else) (sym q.1) ∙ found.no_else e;
        }

    not_both : {o : Option (List Lexeme)} {other : List Lexeme} → o ≡ None → o ≡ Some other → ⊥
    not_both e f = cc

    not_open : (found_end : Bool) (ts other : List Lexeme) → (found_end ≡ true → expect s.Else ts ≡ None) → expect s.Else ts ≡ Some other → found_end ≡ false
    not_open false ts other never is = refl
    not_open true ts other never is = absurd (not_both (never refl) is)

    else_sound : (cs : List PlainTest) (us ws : PlainStmts) (ts first after rest : List Lexeme) → IsCond c.printed c.limit ts cs (t.symbol s.CloseParen ∷ first) → Found c first us after → (r : Option (List Lexeme)) → expect s.Else after ≡ r → else_by c go cs us after r ≡ Some (ws, rest) → Found c (t.symbol s.If ∷ t.symbol s.OpenParen ∷ ts) ws rest
    else_sound cs us ws ts first after rest tests found None is h =
        let q = some_pair_parts (one (choice cs us no_stmts)) ws after rest h in
        record { open_end = true; is = moved true _ after rest _ ws q.0 q.1 (k.when tests found.is); no_else = λ e. ap (expect s.Else) (sym q.1) ∙ is }
    else_sound cs us ws ts first after rest tests found (Some other) is h =
        let (vs, h1, h2) = bind_is _ (go other) (ws, rest) h in
        let second = go_sound other vs.1 vs.0 h1 in
        let q = some_pair_parts (one (choice cs us vs.0)) ws vs.1 rest h2 in
        let closed = subst (λ b. IsStmt c.printed c.limit b first us after) (not_open found.open_end after other found.no_else is) found.is in
        let before = subst (λ z. IsStmt c.printed c.limit false first us z) (expect_is s.Else after other is) closed in
        record { open_end = second.open_end; is = moved second.open_end _ vs.1 rest _ ws q.0 q.1 (k.whether tests before second.is); no_else = λ e. ap (expect s.Else) (sym q.1) ∙ second.no_else e }

    if_plain_sound : (ts rest : List Lexeme) (us : PlainStmts) → if_plain c go ts ≡ Some (us, rest) → Found c (t.symbol s.If ∷ t.symbol s.OpenParen ∷ ts) us rest
    unfolding if_plain
    if_plain_sound ts rest us h =
        let (cs, h1, h2) = bind_is _ (conds c c.turns 0 [] ts) (us, rest) h in
        let (t2, h3, h4) = bind_is _ (expect s.CloseParen cs.1) (us, rest) h2 in
        let (vs, h5, h6) = bind_is _ (go t2) (us, rest) h4 in
        let tests = subst (λ z. IsCond c.printed c.limit ts cs.0 z) (expect_is s.CloseParen cs.1 t2 h3) (cond_sound c some ts cs.1 cs.0 h1) in
        else_sound cs.0 vs.0 us ts t2 vs.1 rest tests (go_sound t2 vs.1 vs.0 h5) (expect s.Else vs.1) refl h6

    check_sound : (ts after rest : List Lexeme) (x : Word × PlainExpr) (us : PlainStmts) → c.printed ≡ true → check_front c ts ≡ Some (x, after) → check_end c x after ≡ Some (us, rest) → Found c (t.symbol s.If ∷ t.symbol s.OpenParen ∷ ts) us rest
    unfolding check_front check_end
    check_sound ts after rest x us printed h j =
        let (v, h1, h2) = bind_is _ (check_start c ts) (x, after) h in
        let (u, h3, h4) = bind_is _ (check_middle c v.1) (x, after) h2 in
        let p = some_pair_parts (v.0, u.0) x u.1 after h4 in
        let (n, j1, j2) = bind_is _ (number_at after) (us, rest) j in
        let (t2, j3, j4) = bind_is _ (expect s.Semicolon n.1) (us, rest) j2 in
        let (t3, j5, j6) = bind_is _ (expect s.CloseBrace t2) (us, rest) j4 in
        let (a, j7, j8) = bind_is _ (array_below 48 n.0) (us, rest) j6 in
        let q = some_pair_parts (one (check x.0 x.1 a)) us t3 rest j8 in
        let b = array_is 48 n.0 a j7 in
        let end : u.1 ≡ t.number (2 ^ (16 + a)) ∷ t.symbol s.Semicolon ∷ t.symbol s.CloseBrace ∷ t3 =
        p.1 ∙ number_is after n.1 n.0 j1 ∙ ap (λ z. t.number z ∷ n.1) b.0 ∙ ap (λ z. t.number (2 ^ (16 + a)) ∷ z) (expect_is s.Semicolon n.1 t2 j3 ∙ ap (λ z. t.symbol s.Semicolon ∷ z) (expect_is s.CloseBrace t2 t3 j5)) in
        let low = low_to v.1 _ _ u.0 (ap (λ z. t.symbol s.CloseParen ∷ t.symbol s.CloseParen ∷ t.symbol s.OpenBrace ∷ t.symbol s.Return ∷ z) end) (check_middle_sound v.1 u.1 u.0 h3) in
        let at = subst (λ b. IsLow b c.limit 1 v.1 u.0 (t.symbol s.CloseParen ∷ t.symbol s.CloseParen ∷ t.symbol s.OpenBrace ∷ t.symbol s.Return ∷ t.number (2 ^ (16 + a)) ∷ t.symbol s.Semicolon ∷ t.symbol s.CloseBrace ∷ t3)) printed low in
        let d = as_printed _ (one (check v.0 u.0 a)) t3 printed (k.checked v.0 a b.1 at) in
        let e = from false _ (t.symbol s.If ∷ t.symbol s.OpenParen ∷ ts) t3 _ (ap (λ z. t.symbol s.If ∷ t.symbol s.OpenParen ∷ z) (check_start_sound ts v.1 v.0 h1)) d in
        record { open_end = false; is = moved false _ t3 rest _ us (ap (λ (w : Word × PlainExpr). one (check w.0 w.1 a)) p.0 ∙ q.0) q.1 e; no_else = λ e. absurd (let no : ⊥ = cc in no) }

    if_by_sound : (ts rest : List Lexeme) (us : PlainStmts) (r : Option ((Word × PlainExpr) × List Lexeme)) → c.printed ≡ true → check_front c ts ≡ r → if_by c go ts r ≡ Some (us, rest) → Found c (t.symbol s.If ∷ t.symbol s.OpenParen ∷ ts) us rest
    if_by_sound ts rest us None printed is h = if_plain_sound ts rest us h
    if_by_sound ts rest us (Some x) printed is h = check_sound ts x.1 rest x.0 us printed is h

    if_open_sound : (ts rest : List Lexeme) (us : PlainStmts) (b : Bool) → c.printed ≡ b → cond b (if_by c go ts (check_front c ts)) (if_plain c go ts) ≡ Some (us, rest) → Found c (t.symbol s.If ∷ t.symbol s.OpenParen ∷ ts) us rest
    if_open_sound ts rest us true is h = if_by_sound ts rest us (check_front c ts) is refl h
    if_open_sound ts rest us false is h = if_plain_sound ts rest us h

    if_sound : (ts rest : List Lexeme) (us : PlainStmts) → if_at c go ts ≡ Some (us, rest) → Found c (t.symbol s.If ∷ ts) us rest
    unfolding if_at
    if_sound ts rest us h =
        let (t1, h1, h2) = bind_is _ (expect s.OpenParen ts) (us, rest) h in
        subst (λ z. Found c (t.symbol s.If ∷ z) us rest) (sym (expect_is s.OpenParen ts t1 h1)) (if_open_sound t1 rest us c.printed refl h2)

    sign_sound : (j : Symbol) (ts rest : List Lexeme) (us : PlainStmts) → by_sign c go j ts ≡ Some (us, rest) → Found c (t.symbol j ∷ ts) us rest
    sign_sound s.Semicolon ts rest us h = let q = some_pair_parts no_stmts us ts rest h in record { open_end = false; is = moved false _ ts rest no_stmts us q.0 q.1 k.empty; no_else = λ e. absurd (let no : ⊥ = cc in no) }
    sign_sound s.For ts rest us h = for_sound ts rest us h
    sign_sound s.If ts rest us h = if_sound ts rest us h
    sign_sound _ ts rest us h = absurd (let no : ⊥ = cc in no)

    stmt_sound : (ts rest : List Lexeme) (us : PlainStmts) → stmt_at c go ts ≡ Some (us, rest) → Found c ts us rest
    unfolding stmt_at
    stmt_sound [] rest us h = absurd (let no : ⊥ = cc in no)
    stmt_sound (t.name x ∷ ts) rest us h = record { open_end = false; is = assign_sound (t.name x ∷ ts) rest us h; no_else = λ e. absurd (let no : ⊥ = cc in no) }
    stmt_sound (t.number n ∷ ts) rest us h = absurd (let no : ⊥ = cc in no)
    stmt_sound (t.symbol j ∷ ts) rest us h = sign_sound j ts rest us h

  -- ---- blocks

  module _ (go : List Lexeme → Read PlainStmts) (go_sound : (ts rest : List Lexeme) (us : PlainStmts) → go ts ≡ Some (us, rest) → Found c ts us rest) where
    -- what is read up to the end of a block, and behind it in the blocks around
    pub data Fills : ℕ → List Lexeme → PlainStmts → List Lexeme → Type 0 where
      done : {ts rest : List Lexeme} {us : PlainStmts} → IsStmts c.printed c.limit ts us (t.symbol s.CloseBrace ∷ rest) → Fills 0 ts us rest
      deeper : {n : ℕ} {ts after rest : List Lexeme} {us vs : PlainStmts} → IsStmts c.printed c.limit ts us (t.symbol s.CloseBrace ∷ after) → Fills n after vs rest → Fills (suc n) ts (chain us vs) rest

    chain_again : (us vs ws : PlainStmts) → chain (chain us vs) ws ≡ chain us (chain vs ws)
    chain_again no_stmts vs ws = refl
    chain_again (more_stmts a us) vs ws = ap (more_stmts a) (chain_again us vs ws)

    chain_none : (us : PlainStmts) → chain us no_stmts ≡ us
    chain_none no_stmts = refl
    chain_none (more_stmts a us) = ap (more_stmts a) (chain_none us)

    -- one statement more before the rest
    fill_more : {open_end : Bool} {n : ℕ} {ts after rest : List Lexeme} {us vs : PlainStmts} → IsStmt c.printed c.limit open_end ts us after → Fills n after vs rest → Fills n ts (chain us vs) rest
    fill_more d (done others) = done (k.more d others)
    fill_more {n = n} {ts = ts} {rest = rest} {us = us} d (deeper {n = m} {us = vs} {vs = ws} others f) = subst (λ w. Fills (suc m) ts w rest) (chain_again us vs ws) (deeper (k.more d others) f)

    fill_block : {n : ℕ} {ts rest : List Lexeme} {us : PlainStmts} → Fills (suc n) ts us rest → Fills n (t.symbol s.OpenBrace ∷ ts) us rest
    fill_block (deeper inner f) = fill_more (k.block inner) f

    inside_sound : (n held : ℕ) (acc ws : PlainStmts) (ts rest : List Lexeme) → inside go n held acc ts ≡ Some (ws, rest) → (us : PlainStmts) × (ws ≡ chain acc us) × Fills held ts us rest
    unfolding inside
    inside_sound zero held acc ws ts rest h = absurd (let no : ⊥ = cc in no)
    inside_sound (suc n) held acc ws ts rest h = by (inside go n) (inside_sound n) held (expect s.CloseBrace ts) refl (expect s.OpenBrace ts) refl h
      where
        by : (on : ℕ → PlainStmts → List Lexeme → Read PlainStmts) → ((held : ℕ) (acc ws : PlainStmts) (ts rest : List Lexeme) → on held acc ts ≡ Some (ws, rest) → (us : PlainStmts) × (ws ≡ chain acc us) × Fills held ts us rest)
            → (held : ℕ) (r : Option (List Lexeme)) → expect s.CloseBrace ts ≡ r → (q : Option (List Lexeme)) → expect s.OpenBrace ts ≡ q → inside_by go on held acc ts r q ≡ Some (ws, rest) → (us : PlainStmts) × (ws ≡ chain acc us) × Fills held ts us rest
        by on on_sound zero (Some after) is q is2 j =
            let p = some_pair_parts acc ws after rest j in
            (no_stmts, sym p.0 ∙ sym (chain_none acc), subst (λ z. Fills 0 z no_stmts rest) (sym (expect_is s.CloseBrace ts after is ∙ ap (λ z. t.symbol s.CloseBrace ∷ z) p.1)) (done k.end))
        by on on_sound (suc held) (Some after) is q is2 j =
            let (us, e, f) = on_sound held acc ws after rest j in
            (us, e, subst (λ z. Fills (suc held) z us rest) (sym (expect_is s.CloseBrace ts after is)) (deeper k.end f))
        by on on_sound held None is (Some after) is2 j =
            let (us, e, f) = on_sound (suc held) acc ws after rest j in
            (us, e, subst (λ z. Fills held z us rest) (sym (expect_is s.OpenBrace ts after is2)) (fill_block f))
        by on on_sound held None is None is2 j =
            let (x, j1, j2) = bind_is _ (go ts) (ws, rest) j in
            let (us, e, f) = on_sound held (chain acc x.0) ws x.1 rest j2 in
            (chain x.0 us, e ∙ chain_again acc x.0 us, fill_more (go_sound ts x.1 x.0 j1).is f)

    pub body_sound : (n : ℕ) (ts rest : List Lexeme) (us : PlainStmts) (r : Option (List Lexeme)) → expect s.OpenBrace ts ≡ r → body_by go n ts r ≡ Some (us, rest) → Found c ts us rest
    body_sound n ts rest us None is h = go_sound ts rest us h
    body_sound n ts rest us (Some inner) is h =
        let (vs, e, f) = inside_sound n 0 no_stmts us inner rest h in
        record { open_end = false; is = subst (λ z. IsStmt c.printed c.limit false z us rest) (sym (expect_is s.OpenBrace ts inner is)) (subst (λ w. IsStmt c.printed c.limit false (t.symbol s.OpenBrace ∷ inner) w rest) (sym e) (k.block (inner_of f))); no_else = λ e. absurd (let no : ⊥ = cc in no) }
      where
        inner_of : {zs : List Lexeme} {ws : PlainStmts} → Fills 0 zs ws rest → IsStmts c.printed c.limit zs ws (t.symbol s.CloseBrace ∷ rest)
        inner_of (done d) = d

  pub simple_sound : (depth : ℕ) (ts rest : List Lexeme) (us : PlainStmts) → simple c depth ts ≡ Some (us, rest) → Found c ts us rest
  unfolding simple
  simple_sound zero ts rest us h =
      let (r, h1, h2) = bind_is _ (expect s.Semicolon ts) (us, rest) h in
      let q = some_pair_parts no_stmts us r rest h2 in
      let d : IsStmt c.printed c.limit false (t.symbol s.Semicolon ∷ r) no_stmts r = k.empty in
      record { open_end = false; is = subst (λ z. IsStmt c.printed c.limit false z us rest) (sym (expect_is s.Semicolon ts r h1)) (subst (λ v. IsStmt c.printed c.limit false (t.symbol s.Semicolon ∷ r) v rest) q.0 (subst (λ z. IsStmt c.printed c.limit false (t.symbol s.Semicolon ∷ r) no_stmts z) q.1 d)); no_else = λ e. absurd (let no : ⊥ = cc in no) }
  simple_sound (suc depth) ts rest us h =
      stmt_sound (body (simple c depth) c.turns) (λ zs r vs j. body_sound (simple c depth) (simple_sound depth) c.turns zs r vs (expect s.OpenBrace zs) refl j) ts rest us h

  -- the statements of a whole block, behind its brace
  pub inside_is_stmts : (depth n : ℕ) (ts rest : List Lexeme) (us : PlainStmts) → inside (simple c depth) n 0 no_stmts ts ≡ Some (us, rest) → IsStmts c.printed c.limit ts us (t.symbol s.CloseBrace ∷ rest)
  inside_is_stmts depth n ts rest us h =
      let (vs, e, f) = inside_sound (simple c depth) (simple_sound depth) n 0 no_stmts us ts rest h in
      subst (λ w. IsStmts c.printed c.limit ts w (t.symbol s.CloseBrace ∷ rest)) (sym e) (filled f)
    where
      filled : {zs : List Lexeme} {ws : PlainStmts} → Fills (simple c depth) (simple_sound depth) 0 zs ws rest → IsStmts c.printed c.limit zs ws (t.symbol s.CloseBrace ∷ rest)
      filled (done d) = d
