-- No statement that is read is too high.
use Rattle.std.proofs.Common.{◌≡◌, ℕ, zero, suc, ◌≤◌, List, [], ◌∷◌, Bool, true, false, cond, Option, Some, None, subst, arith}
use Rattle.std.proofs.lemmas.Option.{some_pair_parts}
use Rattle.c_tree.specs.Plain.{Word, PlainExpr, PlainTest, loop, choice, assign, check, PlainStmts, no_stmts}
use Rattle.c_tree.specs.declared.symbol.Symbol.{Symbol}
use Rattle.c_tree.specs.declared.symbol.Symbol.TheVariants as s
use Rattle.c_tree.specs.Grammar.Lexemes as t
use Rattle.c_tree.specs.Grammar.Lexemes.{Lexeme}
use Rattle.c_tree.specs.Grammar.Statements.{chain, one, stmts_height}
use Rattle.grammar_reading.specs.declared.rules.Rules.{Rules}
use Rattle.grammar_reading.specs.Reading.{Read, expect, number_at, conds}
use Rattle.grammar_reading.proofs.StepLemmas.{bind_is}
use Rattle.grammar_reading.specs.Blocks.{set_at, array_below, side, place, assign_at, for_start, for_bound, for_step, check_front, check_end, for_at, else_by, if_plain, if_by, if_at, by_sign, stmt_at, inside_by, inside, body_by, body, simple}
use Rattle.grammar_reading.proofs.CompleteBlocks.{chain_heights}

-- at most so high
abbrev Low : ℕ → PlainStmts → Type 0
Low n us = stmts_height us ≤ n

lowered : (n : ℕ) (us vs : PlainStmts) (ts rest : List Lexeme) → ◌≡◌ {A = Read PlainStmts} (Some (us, ts)) (Some (vs, rest)) → Low n us → Low n vs
lowered n us vs ts rest e low = subst (Low n) (some_pair_parts us vs ts rest e).0 low

chain_low : (n : ℕ) (us vs : PlainStmts) → Low n us → Low n vs → Low n (chain us vs)
chain_low n us vs a b = omega (arith, chain_heights us vs)

abbrev AllLow : ℕ → (List Lexeme → Read PlainStmts) → Type 0
AllLow n go = (ts rest : List Lexeme) (us : PlainStmts) → go ts ≡ Some (us, rest) → Low n us

module _ (c : Rules) where
  assign_low : (n : ℕ) → AllLow (suc n) (assign_at c)
  unfolding assign_at
  assign_low n ts rest us h =
      let (x, h1, h2) = bind_is _ (place c ts) (us, rest) h in
      let (op, h3, h4) = bind_is _ (set_at x.1) (us, rest) h2 in
      let (u, h5, h6) = bind_is _ (side c op.1) (us, rest) h4 in
      let (r, h7, h8) = bind_is _ (expect s.Semicolon u.1) (us, rest) h6 in
      lowered (suc n) (one (assign x.0 op.0 u.0)) us r rest h8 (omega arith)

  check_low : (n : ℕ) (x : Word × PlainExpr) → AllLow (suc n) (check_end c x)
  unfolding check_end
  check_low n x ts rest us h =
      let (k, h1, h2) = bind_is _ (number_at ts) (us, rest) h in
      let (t2, h3, h4) = bind_is _ (expect s.Semicolon k.1) (us, rest) h2 in
      let (t3, h5, h6) = bind_is _ (expect s.CloseBrace t2) (us, rest) h4 in
      let (a, h7, h8) = bind_is _ (array_below 48 k.0) (us, rest) h6 in
      lowered (suc n) (one (check x.0 x.1 a)) us t3 rest h8 (omega arith)

  module _ (n : ℕ) (go : List Lexeme → Read PlainStmts) (go_low : AllLow n go) where
    for_low : AllLow (suc n) (for_at c go)
    unfolding for_at
    for_low ts rest us h =
        let (x, h1, h2) = bind_is _ (for_start c ts) (us, rest) h in
        let (b, h3, h4) = bind_is _ (for_bound c x.0.0 x.1) (us, rest) h2 in
        let (t3, h5, h6) = bind_is _ (for_step c x.0.0 b.1) (us, rest) h4 in
        let (vs, h7, h8) = bind_is _ (go t3) (us, rest) h6 in
        let low = go_low t3 vs.1 vs.0 h7 in
        lowered (suc n) (one (loop x.0.0 x.0.1 b.0.0 b.0.1 vs.0)) us vs.1 rest h8 (omega arith)

    else_low : (cs : List PlainTest) (vs : PlainStmts) → Low n vs → (after : List Lexeme) (r : Option (List Lexeme)) (rest : List Lexeme) (us : PlainStmts) → else_by c go cs vs after r ≡ Some (us, rest) → Low (suc n) us
    else_low cs vs low after None rest us h = lowered (suc n) (one (choice cs vs no_stmts)) us after rest h (omega arith)
    else_low cs vs low after (Some other) rest us h =
        let (ws, h1, h2) = bind_is _ (go other) (us, rest) h in
        let low2 = go_low other ws.1 ws.0 h1 in
        lowered (suc n) (one (choice cs vs ws.0)) us ws.1 rest h2 (omega arith)

    if_plain_low : AllLow (suc n) (if_plain c go)
    unfolding if_plain
    if_plain_low ts rest us h =
        let (cs, h1, h2) = bind_is _ (conds c c.turns 0 [] ts) (us, rest) h in
        let (t2, h3, h4) = bind_is _ (expect s.CloseParen cs.1) (us, rest) h2 in
        let (vs, h5, h6) = bind_is _ (go t2) (us, rest) h4 in
        else_low cs.0 vs.0 (go_low t2 vs.1 vs.0 h5) vs.1 (expect s.Else vs.1) rest us h6

    if_by_low : (ts rest : List Lexeme) (us : PlainStmts) (r : Option ((Word × PlainExpr) × List Lexeme)) → if_by c go ts r ≡ Some (us, rest) → Low (suc n) us
    if_by_low ts rest us None h = if_plain_low ts rest us h
    if_by_low ts rest us (Some x) h = check_low n x.0 x.1 rest us h

    if_open_low : (ts rest : List Lexeme) (us : PlainStmts) (b : Bool) → cond b (if_by c go ts (check_front c ts)) (if_plain c go ts) ≡ Some (us, rest) → Low (suc n) us
    if_open_low ts rest us true h = if_by_low ts rest us (check_front c ts) h
    if_open_low ts rest us false h = if_plain_low ts rest us h

    if_low : AllLow (suc n) (if_at c go)
    unfolding if_at
    if_low ts rest us h = let (t1, h1, h2) = bind_is _ (expect s.OpenParen ts) (us, rest) h in if_open_low t1 rest us c.printed h2

    sign_low : (j : Symbol) → AllLow (suc n) (by_sign c go j)
    sign_low s.Semicolon ts rest us h = lowered (suc n) no_stmts us ts rest h (omega arith)
    sign_low s.For ts rest us h = for_low ts rest us h
    sign_low s.If ts rest us h = if_low ts rest us h
    sign_low _ ts rest us h = absurd (let never : ⊥ = cc in never)

    stmt_low : AllLow (suc n) (stmt_at c go)
    unfolding stmt_at
    stmt_low [] rest us h = absurd (let never : ⊥ = cc in never)
    stmt_low (t.name x ∷ ts) rest us h = assign_low n (t.name x ∷ ts) rest us h
    stmt_low (t.number k ∷ ts) rest us h = absurd (let never : ⊥ = cc in never)
    stmt_low (t.symbol j ∷ ts) rest us h = sign_low j ts rest us h

module _ (n : ℕ) (go : List Lexeme → Read PlainStmts) (go_low : AllLow n go) where
  pub inside_low : (k held : ℕ) (acc : PlainStmts) → Low n acc → AllLow n (inside go k held acc)
  unfolding inside
  inside_low zero held acc low ts rest us h = absurd (let never : ⊥ = cc in never)
  inside_low (suc k) held acc low ts rest us h = by (inside go k) (inside_low k) held (expect s.CloseBrace ts) (expect s.OpenBrace ts) h
    where
      by : (on : ℕ → PlainStmts → List Lexeme → Read PlainStmts) → ((held : ℕ) (acc : PlainStmts) → Low n acc → AllLow n (on held acc)) → (held : ℕ) (r q : Option (List Lexeme)) → inside_by go on held acc ts r q ≡ Some (us, rest) → Low n us
      by on on_low zero (Some after) q j = lowered n acc us after rest j low
      by on on_low (suc held) (Some after) q j = on_low held acc low after rest us j
      by on on_low held None (Some after) j = on_low (suc held) acc low after rest us j
      by on on_low held None None j =
          let (x, j1, j2) = bind_is _ (go ts) (us, rest) j in
          on_low held (chain acc x.0) (chain_low n acc x.0 low (go_low ts x.1 x.0 j1)) x.1 rest us j2

  pub body_low : (k : ℕ) → AllLow n (body go k)
  body_low k ts rest us h = by (expect s.OpenBrace ts) h
    where
      by : (r : Option (List Lexeme)) → body_by go k ts r ≡ Some (us, rest) → Low n us
      by None j = go_low ts rest us j
      by (Some inner) j = inside_low k 0 no_stmts (omega arith) inner rest us j

pub simple_low : (c : Rules) (depth : ℕ) (ts rest : List Lexeme) (us : PlainStmts) → simple c depth ts ≡ Some (us, rest) → stmts_height us ≤ depth
unfolding simple
simple_low c zero ts rest us h =
    let (r, h1, h2) = bind_is _ (expect s.Semicolon ts) (us, rest) h in
    lowered 0 no_stmts us r rest h2 (omega arith)
simple_low c (suc depth) ts rest us h = stmt_low c depth (body (simple c depth) c.turns) (body_low depth (simple c depth) (simple_low c depth) c.turns) ts rest us h
