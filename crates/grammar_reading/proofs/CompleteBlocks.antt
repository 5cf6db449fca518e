-- Whatever is a statement is read as one.
use Rattle.std.proofs.Common.{◌≡◌, ℕ, zero, suc, ◌+◌, ◌-◌, ◌^◌, ◌<◌, ◌≤◌, max, List, [], ◌∷◌, length, Bool, true, false, cond, Option, Some, None, option_and_then, ◌==◌, refl, sym, ap, ◌∙◌, subst, arith}
use Rattle.std.proofs.lemmas.Option.{some_pair_parts}
use Rattle.std.proofs.Math.Pow.{pow-lt}
use Rattle.std.proofs.lemmas.Bool.{eq-eqb, eqb-true, eqb-false}
use Rattle.c_tree.specs.declared.expr.Rel.{Rel}
use Rattle.c_tree.specs.declared.expr.Rel.TheVariants as r
use Rattle.c_tree.specs.declared.expr.BinOp.{BinOp}
use Rattle.c_tree.specs.Plain.{Word, PlainExpr, var, cell, cast, PlainTest, loop, assign, check, PlainStmts, no_stmts, more_stmts}
use Rattle.c_tree.specs.declared.symbol.Symbol.{Symbol}
use Rattle.c_tree.specs.declared.symbol.Symbol.TheVariants as s
use Rattle.c_tree.specs.Grammar.Lexemes as t
use Rattle.c_tree.specs.Grammar.Lexemes.{Lexeme}
use Rattle.c_tree.specs.Grammar.Tables.{rel_mark}
use Rattle.c_tree.specs.Grammar.Expressions as g
use Rattle.c_tree.specs.Grammar.Expressions.{IsExpr, IsLow, IsCells, height, heights}
use Rattle.c_tree.specs.Grammar.Conditions as q
use Rattle.c_tree.specs.Grammar.Conditions.{IsConj, IsCond}
use Rattle.c_tree.specs.Grammar.Statements as k
use Rattle.c_tree.specs.Grammar.Statements.{chain, one, set_op, bounds, IsStep, IsPlace, IsStmt, IsStmts, stmt_height, stmts_height}
use Rattle.grammar_reading.specs.declared.rules.Rules.{Rules}
use Rattle.grammar_reading.specs.Reading.{Read, same, expect, number_at, named_by, expr, deepest}
use Rattle.grammar_reading.proofs.StepLemmas.{bind_is, expect_self, number_self, relation-mark, fits}
use Rattle.grammar_reading.proofs.Sound.{loosen}
use Rattle.grammar_reading.proofs.Complete.{binds, front_binds, op_le, no_cell, shorter, shorter_cells, cells_open, finish}
use Rattle.grammar_reading.proofs.Reaches.{reaches, reaches_cells}
use Rattle.grammar_reading.proofs.CondReaches.{cond_complete, shorter_cond}
use Rattle.grammar_reading.specs.Blocks.{name_at, this_name, this_number, set_at, bound_at, step_at, array_below, side, place, assign_at, for_start, for_bound, for_step, check_start, check_middle, check_front, check_end, for_at, else_by, if_plain, if_by, if_at, by_sign, stmt_at, inside_by, inside, body_by, body, simple}
use Rattle.grammar_reading.proofs.SoundBlocks.{check_start_sound, check_middle_sound}
use Rattle.grammar_reading.proofs.Words.{bytes_same}

-- ---- steps

pub name_self : (x : Word) (ts : List Lexeme) → name_at (t.name x ∷ ts) ≡ Some (x, ts)
unfolding name_at
name_self x ts = refl

pub this_name_self : (v : Word) (ts : List Lexeme) → this_name v (t.name v ∷ ts) ≡ Some ts
unfolding this_name name_at
this_name_self v ts = ap (λ b. cond b (Some ts) None) (bytes_same v)

pub this_number_self : (n : ℕ) (ts : List Lexeme) → this_number n (t.number n ∷ ts) ≡ Some ts
unfolding this_number number_at
this_number_self n ts = ap (λ b. cond b (Some ts) None) (eq-eqb n n refl)

set_self : (j : Symbol) (op : Option BinOp) (ts : List Lexeme) → set_op j ≡ Some op → set_at (t.symbol j ∷ ts) ≡ Some (op, ts)
unfolding set_at
set_self j op ts h = ap (option_and_then _) h

set_binds : (j : Symbol) (op : Option BinOp) → set_op j ≡ Some op → binds j ≡ 0
set_binds s.Assign op h = refl
set_binds s.AddAssign op h = refl
set_binds s.SubAssign op h = refl
set_binds s.MulAssign op h = refl
set_binds s.AndAssign op h = refl
set_binds s.OrAssign op h = refl
set_binds s.XorAssign op h = refl
set_binds _ op h = absurd (let no : ⊥ = cc in no)

bound_self : (rel : Rel) (ts : List Lexeme) → bounds rel ≡ true → bound_at (t.symbol (rel_mark rel) ∷ ts) ≡ Some (rel, ts)
unfolding bound_at
bound_self rel ts h = ap (option_and_then _) (relation-mark rel) ∙ ap (λ b. cond b (Some (rel, ts)) None) h

step_self : {v : Word} {ts rest : List Lexeme} → IsStep v ts rest → step_at v ts ≡ Some rest
unfolding step_at expect same
step_self {rest = rest} (k.behind v) = ap (option_and_then _) (this_name_self v (t.symbol s.PlusPlus ∷ rest))
step_self {rest = rest} (k.before v) = this_name_self v rest
step_self {rest = rest} (k.by_one v) = ap (option_and_then _) (this_name_self v (t.symbol s.AddAssign ∷ t.number 1 ∷ rest)) ∙ this_number_self 1 rest

other_power : (a m : ℕ) → a < suc m → (2 ^ (16 + a) == 2 ^ (16 + m)) ≡ false → a < m
other_power a m lt is = by (a == m) refl
  where
    no_bool : {b : Bool} → b ≡ true → b ≡ false → ⊥
    no_bool e f = cc

    by : (b : Bool) → (a == m) ≡ b → a < m
    by true e = let j = eqb-true a m e in absurd (no_bool (eq-eqb (2 ^ (16 + a)) (2 ^ (16 + m)) (ap (λ (i : ℕ). 2 ^ (16 + i)) j)) is)
    by false e = let j : ¬ (a ≡ m) = eqb-false a m e in omega (arith, j)

array_self : (m a : ℕ) → a < m → array_below m (2 ^ (16 + a)) ≡ Some a
unfolding array_below
array_self zero a lt = absurd (let no : ⊥ = omega arith in no)
array_self (suc m) a lt = by (2 ^ (16 + a) == 2 ^ (16 + m)) refl (array_self m a)
  where
    same_power : 2 ^ (16 + a) ≡ 2 ^ (16 + m) → (b : Bool) → (a == m) ≡ b → m ≡ a
    same_power e true h = sym (eqb-true a m h)
    same_power e false h =
        let j : ¬ (a ≡ m) = eqb-false a m h in
        let below : a < m = omega (arith, j) in
        let no : 2 ^ (16 + a) < 2 ^ (16 + m) = pow-lt (omega (arith, below)) in
        absurd (let never : ⊥ = omega (arith, no, e) in never)

    by : (b : Bool) → (2 ^ (16 + a) == 2 ^ (16 + m)) ≡ b → (a < m → array_below m (2 ^ (16 + a)) ≡ Some a) → cond b (Some m) (array_below m (2 ^ (16 + a))) ≡ Some a
    by true is below = ap (λ (i : ℕ). Some i) (same_power (eqb-true (2 ^ (16 + a)) (2 ^ (16 + m)) is) (a == m) refl)
    by false is below = below (other_power a m lt is)

-- ---- how statements begin, and what is left

place_front : {p : Bool} {m : ℕ} {ts rest : List Lexeme} {u : PlainExpr} → IsPlace p m ts u rest → (x : Word) × (zs : List Lexeme) × (ts ≡ t.name x ∷ zs)
place_front (k.of_name {rest = rest} x) = (x, rest, refl)
place_front (k.of_cell {ts = ts} x d low) = (x, ts, refl)

shorter_place : {p : Bool} {m : ℕ} {ts rest : List Lexeme} {u : PlainExpr} → IsPlace p m ts u rest → length rest < length ts
shorter_place (k.of_name x) = omega arith
shorter_place (k.of_cell x d low) = omega (arith, shorter_cells d)

shorter_step : {v : Word} {ts rest : List Lexeme} → IsStep v ts rest → length rest < length ts
shorter_step (k.behind v) = omega arith
shorter_step (k.before v) = omega arith
shorter_step (k.by_one v) = omega arith

abbrev pub Begins : List Lexeme → Type 0
Begins ts = (expect s.CloseBrace ts ≡ None) × (expect s.Return ts ≡ None) × (expect s.Else ts ≡ None) × (expect s.Directive ts ≡ None) × (expect s.Uint64 ts ≡ None) × (expect s.Unsigned ts ≡ None)

name_begins : (x : Word) (ts : List Lexeme) → Begins (t.name x ∷ ts)
unfolding expect
name_begins x ts = (refl, refl, refl, refl, refl, refl)

pub begins : {p : Bool} {m : ℕ} {open_end : Bool} {ts rest : List Lexeme} {us : PlainStmts} → IsStmt p m open_end ts us rest → Begins ts
unfolding expect same
begins k.empty = (refl, refl, refl, refl, refl, refl)
begins (k.block d) = (refl, refl, refl, refl, refl, refl)
begins (k.assigned j op sets target value) = let (x, zs, e) = place_front target in subst Begins (sym e) (name_begins x zs)
begins (k.for v rel fine lo hi step d) = (refl, refl, refl, refl, refl, refl)
begins (k.when tests d) = (refl, refl, refl, refl, refl, refl)
begins (k.whether tests d other) = (refl, refl, refl, refl, refl, refl)
begins (k.checked x a lt d) = (refl, refl, refl, refl, refl, refl)

mutual
  pub shorter_stmt : {p : Bool} {m : ℕ} {open_end : Bool} {ts rest : List Lexeme} {us : PlainStmts} → IsStmt p m open_end ts us rest → length rest < length ts
  shorter_stmt k.empty = omega arith
  shorter_stmt (k.block d) = omega (arith, shorter_stmts d)
  shorter_stmt (k.assigned j op sets target value) = omega (arith, shorter_place target, shorter value.reads)
  shorter_stmt (k.for v rel fine lo hi step d) = omega (arith, shorter lo.reads, shorter hi.reads, shorter_step step, shorter_stmt d)
  shorter_stmt (k.when tests d) = omega (arith, shorter_cond tests, shorter_stmt d)
  shorter_stmt (k.whether tests d other) = omega (arith, shorter_cond tests, shorter_stmt d, shorter_stmt other)
  shorter_stmt (k.checked x a lt d) = omega (arith, shorter d.reads)

  pub shorter_stmts : {p : Bool} {m : ℕ} {ts rest : List Lexeme} {us : PlainStmts} → IsStmts p m ts us rest → length rest ≤ length ts
  shorter_stmts k.end = omega arith
  shorter_stmts (k.more d others) = omega (arith, shorter_stmt d, shorter_stmts others)

stmts_front : {p : Bool} {m : ℕ} {ts rest : List Lexeme} {us : PlainStmts} → IsStmts p m ts us (t.symbol s.CloseBrace ∷ rest) → expect s.Else ts ≡ None
unfolding expect same
stmts_front k.end = refl
stmts_front (k.more d others) = (begins d).2

close_begins : (ts zs : List Lexeme) → t.symbol s.Return ∷ zs ≡ t.symbol s.CloseBrace ∷ ts → ⊥
close_begins ts zs e = cc

return_begins : (zs : List Lexeme) → expect s.Return (t.symbol s.Return ∷ zs) ≡ None → ⊥
return_begins zs e = both (expect_self s.Return zs) e
  where
    both : {o : Option (List Lexeme)} {x : List Lexeme} → o ≡ Some x → o ≡ None → ⊥
    both e f = cc

inside_no_return : {p : Bool} {m : ℕ} {ts rest : List Lexeme} {us : PlainStmts} (zs : List Lexeme) → ts ≡ t.symbol s.Return ∷ zs → IsStmts p m ts us (t.symbol s.CloseBrace ∷ rest) → ⊥
inside_no_return {rest = rest} zs e k.end = close_begins rest zs (sym e)
inside_no_return zs e (k.more d others) = return_begins zs (subst (λ y. expect s.Return y ≡ None) e (begins d).1)

-- no statement begins with a block that begins with `return`
no_block_return : {p : Bool} {m : ℕ} {open_end : Bool} {ts rest : List Lexeme} {us : PlainStmts} (zs : List Lexeme) → ts ≡ t.symbol s.OpenBrace ∷ t.symbol s.Return ∷ zs → IsStmt p m open_end ts us rest → ⊥
no_block_return zs e k.empty = cc
no_block_return zs e (k.block {ts = inner} d) = inside_no_return zs (tail inner e) d
  where
    tail : (inner : List Lexeme) → t.symbol s.OpenBrace ∷ inner ≡ t.symbol s.OpenBrace ∷ t.symbol s.Return ∷ zs → inner ≡ t.symbol s.Return ∷ zs
    tail inner e = cc
no_block_return zs e (k.assigned j op sets target value) = let (x, ys, f) = place_front target in name_no_block x ys zs (sym f ∙ e)
  where
    name_no_block : (x : Word) (ys zs : List Lexeme) → t.name x ∷ ys ≡ t.symbol s.OpenBrace ∷ t.symbol s.Return ∷ zs → ⊥
    name_no_block x ys zs e = cc
no_block_return zs e (k.for v rel fine lo hi step d) = cc
no_block_return zs e (k.when tests d) = cc
no_block_return zs e (k.whether tests d other) = cc
no_block_return zs e (k.checked x a lt d) = cc

-- ---- a check is no `if`

mutual
  raise_conj : {p : Bool} {m : ℕ} {ts rest : List Lexeme} {us : List PlainTest} → IsConj p m ts us rest → IsConj p (suc m) ts us rest
  raise_conj (q.comparison rel da db) = q.comparison rel (record { reads = da.reads; low = omega (arith, da.low) }) (record { reads = db.reads; low = omega (arith, db.low) })
  raise_conj (q.grouped d) = q.grouped (raise_cond d)

  raise_cond : {p : Bool} {m : ℕ} {ts rest : List Lexeme} {us : List PlainTest} → IsCond p m ts us rest → IsCond p (suc m) ts us rest
  raise_cond (q.alone d) = q.alone (raise_conj d)
  raise_cond (q.joined d others) = q.joined (raise_conj d) (raise_cond others)

-- the condition that a check would be
check_cond : {p : Bool} {m : ℕ} (x : Word) (ts rest : List Lexeme) (u : PlainExpr) → IsLow p m 1 ts u (t.symbol s.CloseParen ∷ rest)
    → IsCond p (suc m) (t.name x ∷ t.symbol s.GreaterEqual ∷ t.symbol s.OpenParen ∷ t.symbol s.Uint64 ∷ t.symbol s.CloseParen ∷ t.symbol s.OpenParen ∷ ts) ((r.Ge, var x, cast u) ∷ []) rest
check_cond {p = p} {m = m} x ts rest u d =
    let left : IsLow p (suc m) 4 (t.name x ∷ t.symbol s.GreaterEqual ∷ t.symbol s.OpenParen ∷ t.symbol s.Uint64 ∷ t.symbol s.CloseParen ∷ t.symbol s.OpenParen ∷ ts) (var x) (t.symbol (rel_mark r.Ge) ∷ t.symbol s.OpenParen ∷ t.symbol s.Uint64 ∷ t.symbol s.CloseParen ∷ t.symbol s.OpenParen ∷ ts) =
    record { reads = loosen p 7 4 _ _ (var x) (omega arith) (g.variable x); low = omega arith } in
    let right : IsLow p (suc m) 4 (t.symbol s.OpenParen ∷ t.symbol s.Uint64 ∷ t.symbol s.CloseParen ∷ t.symbol s.OpenParen ∷ ts) (cast u) rest =
    record { reads = loosen p 7 4 _ _ (cast u) (omega arith) (g.as_word (g.enclosed d.reads)); low = omega (arith, d.low) } in
    q.alone (q.comparison r.Ge left right)

close_no_both : (ts : List Lexeme) → expect s.AndAnd (t.symbol s.CloseParen ∷ ts) ≡ None
unfolding expect same
close_no_both ts = refl

-- the same rules with one more height
abbrev up_from : Rules → Rules
up_from c = record { printed = c.printed; limit = suc c.limit; turns = c.turns }

no_check : (c : Rules) {open_end : Bool} (ts first rest : List Lexeme) (cs : List PlainTest) (us : PlainStmts) → 1 ≤ c.limit → length ts < c.turns → IsCond c.printed c.limit ts cs (t.symbol s.CloseParen ∷ first) → IsStmt c.printed c.limit open_end first us rest → check_front c ts ≡ None
unfolding check_front
no_check c {open_end = open_end} ts first rest cs us some turns tests d = by (check_front c ts) refl
  where
    tail_of : (zs ws : List Lexeme) → t.symbol s.CloseParen ∷ zs ≡ t.symbol s.CloseParen ∷ ws → zs ≡ ws
    tail_of zs ws e = cc

    same_rest : (x y : List PlainTest) (zs ws : List Lexeme) → ◌≡◌ {A = Read (List PlainTest)} (Some (x, t.symbol s.CloseParen ∷ zs)) (Some (y, t.symbol s.CloseParen ∷ ws)) → zs ≡ ws
    same_rest x y zs ws e = let q = some_pair_parts x y (t.symbol s.CloseParen ∷ zs) (t.symbol s.CloseParen ∷ ws) e in tail_of zs ws q.1

    by : (o : Read (Word × PlainExpr)) → check_front c ts ≡ o → check_front c ts ≡ None
    by None is = is
    by (Some x) is =
        let (v, h1, h2) = bind_is _ (check_start c ts) x is in
        let (u, h3, h4) = bind_is _ (check_middle c v.1) x h2 in
        let low = check_middle_sound c some v.1 u.1 u.0 h3 in
        let start = check_start_sound c some ts v.1 v.0 h1 in
        let shape = subst (λ z. IsCond c.printed (suc c.limit) z ((r.Ge, var v.0, cast u.0) ∷ []) (t.symbol s.CloseParen ∷ t.symbol s.OpenBrace ∷ t.symbol s.Return ∷ u.1)) (sym start) (check_cond v.0 v.1 _ u.0 low) in
        let one_way = cond_complete (up_from c) ts _ _ shape turns refl (close_no_both _) in
        let other_way = cond_complete (up_from c) ts _ _ (raise_cond tests) turns refl (close_no_both first) in
        absurd (no_block_return u.1 (same_rest _ _ first _ (sym other_way ∙ one_way)) d)

-- ---- reading

module _ (c : Rules) where
  pub side_read : (ts rest : List Lexeme) (u : PlainExpr) → IsLow c.printed c.limit 1 ts u rest → length ts < c.turns → front_binds rest ≡ 0 → side c ts ≡ Some (u, rest)
  side_read ts rest u d turns ends = finish c (deepest c) 1 ts rest u (omega (arith, op_le rest)) (reaches d.reads c refl (deepest c) 1 turns d.low (omega arith) (omega arith) (omega arith) d.low)

  place_read : {ts rest : List Lexeme} {u : PlainExpr} → IsPlace c.printed c.limit ts u rest → length ts < c.turns → front_binds rest ≡ 0 → place c ts ≡ Some (u, rest)
  unfolding place
  place_read {rest = rest} (k.of_name x) turns ends = ap (option_and_then _) (name_self x rest) ∙ ap (named_by c (expr c (deepest c)) x rest) (no_cell rest (omega arith))
  place_read {rest = rest} (k.of_cell {ts = ts} {us = us} x d low) turns ends =
      let (inside, opens) = cells_open d in
      let inner = reaches_cells d c refl (deepest c) c.turns (omega arith) (omega arith) (omega arith) (omega arith) low in
      ap (option_and_then _) (name_self x ts) ∙ ap (named_by c (expr c (deepest c)) x ts) opens ∙ ap (option_and_then _) inner ∙ fits c (cell x us) rest low

  assign_read : (j : Symbol) (op : Option BinOp) (ts value rest : List Lexeme) (x u : PlainExpr) → set_op j ≡ Some op → IsPlace c.printed c.limit ts x (t.symbol j ∷ value) → IsLow c.printed c.limit 1 value u (t.symbol s.Semicolon ∷ rest) → length ts < c.turns
      → assign_at c ts ≡ Some (one (assign x op u), rest)
  unfolding assign_at
  assign_read j op ts value rest x u sets target d turns =
      ap (option_and_then _) (place_read target turns (set_binds j op sets)) ∙ ap (option_and_then _) (set_self j op value sets)
      ∙ ap (option_and_then _) (side_read value (t.symbol s.Semicolon ∷ rest) u d (omega (arith, shorter_place target)) refl) ∙ ap (option_and_then _) (expect_self s.Semicolon rest)

  start_read : (v : Word) (ts rest : List Lexeme) (lo : PlainExpr) → IsLow c.printed c.limit 1 ts lo (t.symbol s.Semicolon ∷ rest) → length ts < c.turns → for_start c (t.symbol s.OpenParen ∷ t.symbol s.Int64 ∷ t.name v ∷ t.symbol s.Assign ∷ ts) ≡ Some ((v, lo), rest)
  unfolding for_start
  start_read v ts rest lo d turns =
      ap (option_and_then _) (expect_self s.OpenParen _) ∙ ap (option_and_then _) (expect_self s.Int64 _) ∙ ap (option_and_then _) (name_self v _) ∙ ap (option_and_then _) (expect_self s.Assign ts)
      ∙ ap (option_and_then _) (side_read ts (t.symbol s.Semicolon ∷ rest) lo d turns refl) ∙ ap (option_and_then _) (expect_self s.Semicolon rest)

  bound_read : (v : Word) (rel : Rel) (ts rest : List Lexeme) (hi : PlainExpr) → bounds rel ≡ true → IsLow c.printed c.limit 1 ts hi (t.symbol s.Semicolon ∷ rest) → length ts < c.turns → for_bound c v (t.name v ∷ t.symbol (rel_mark rel) ∷ ts) ≡ Some ((rel, hi), rest)
  unfolding for_bound
  bound_read v rel ts rest hi fine d turns =
      ap (option_and_then _) (this_name_self v _) ∙ ap (option_and_then _) (bound_self rel ts fine)
      ∙ ap (option_and_then _) (side_read ts (t.symbol s.Semicolon ∷ rest) hi d turns refl) ∙ ap (option_and_then _) (expect_self s.Semicolon rest)

  step_read : (v : Word) (ts rest : List Lexeme) → IsStep v ts (t.symbol s.CloseParen ∷ rest) → for_step c v ts ≡ Some rest
  unfolding for_step
  step_read v ts rest d = ap (option_and_then _) (step_self d) ∙ expect_self s.CloseParen rest

  check_read : (x : Word) (a : ℕ) (ts rest : List Lexeme) (u : PlainExpr) → a < 48 → length ts < c.turns
      → IsLow c.printed c.limit 1 ts u (t.symbol s.CloseParen ∷ t.symbol s.CloseParen ∷ t.symbol s.OpenBrace ∷ t.symbol s.Return ∷ t.number (2 ^ (16 + a)) ∷ t.symbol s.Semicolon ∷ t.symbol s.CloseBrace ∷ rest)
      → (check_front c (t.name x ∷ t.symbol s.GreaterEqual ∷ t.symbol s.OpenParen ∷ t.symbol s.Uint64 ∷ t.symbol s.CloseParen ∷ t.symbol s.OpenParen ∷ ts) ≡ Some ((x, u), t.number (2 ^ (16 + a)) ∷ t.symbol s.Semicolon ∷ t.symbol s.CloseBrace ∷ rest))
      × (check_end c (x, u) (t.number (2 ^ (16 + a)) ∷ t.symbol s.Semicolon ∷ t.symbol s.CloseBrace ∷ rest) ≡ Some (one (check x u a), rest))
  unfolding check_front check_start check_middle check_end
  check_read x a ts rest u lt turns d = (
    ap (option_and_then _) (ap (option_and_then _) (name_self x _) ∙ ap (option_and_then _) (expect_self s.GreaterEqual _) ∙ ap (option_and_then _) (expect_self s.OpenParen _) ∙ ap (option_and_then _) (expect_self s.Uint64 _)
        ∙ ap (option_and_then _) (expect_self s.CloseParen _) ∙ ap (option_and_then _) (expect_self s.OpenParen ts))
        ∙ ap (option_and_then _) (ap (option_and_then _) (side_read ts _ u d turns refl) ∙ ap (option_and_then _) (expect_self s.CloseParen _) ∙ ap (option_and_then _) (expect_self s.CloseParen _)
        ∙ ap (option_and_then _) (expect_self s.OpenBrace _) ∙ ap (option_and_then _) (expect_self s.Return _)),
    ap (option_and_then _) (number_self _ _) ∙ ap (option_and_then _) (expect_self s.Semicolon _) ∙ ap (option_and_then _) (expect_self s.CloseBrace rest) ∙ ap (option_and_then _) (array_self 48 a lt),
  )

-- ---- blocks

pub chain_again : (us vs ws : PlainStmts) → chain (chain us vs) ws ≡ chain us (chain vs ws)
chain_again no_stmts vs ws = refl
chain_again (more_stmts a us) vs ws = ap (more_stmts a) (chain_again us vs ws)

pub chain_none : (us : PlainStmts) → chain us no_stmts ≡ us
chain_none no_stmts = refl
chain_none (more_stmts a us) = ap (more_stmts a) (chain_none us)

pub chain_heights : (us vs : PlainStmts) → stmts_height (chain us vs) ≡ max (stmts_height us) (stmts_height vs)
chain_heights no_stmts vs = omega arith
chain_heights (more_stmts a us) vs = omega (arith, chain_heights us vs)

-- reading in a block comes to the end of these statements
abbrev pub Into : Rules → ℕ → ℕ → ℕ → PlainStmts → List Lexeme → PlainStmts → List Lexeme → Type 0
Into c depth n held acc ts us rest = (j : ℕ) × (length rest ≤ j) × (inside (simple c depth) n held acc ts ≡ inside (simple c depth) j held (chain acc us) rest)

pub data Reach : Rules → ℕ → List Lexeme → PlainStmts → List Lexeme → Type 0 where
  plain : {c : Rules} {depth : ℕ} {ts rest : List Lexeme} {us : PlainStmts} → expect s.OpenBrace ts ≡ None → simple c depth ts ≡ Some (us, rest) → Reach c depth ts us rest
  braced : {c : Rules} {depth : ℕ} {ts inner rest : List Lexeme} {us : PlainStmts} → expect s.OpenBrace ts ≡ Some inner → length inner < length ts
      → ((n held : ℕ) (acc : PlainStmts) → length inner ≤ n → Into c depth n held acc inner us (t.symbol s.CloseBrace ∷ rest)) → Reach c depth ts us rest

inside_is : (go : List Lexeme → Read PlainStmts) (n held : ℕ) (acc : PlainStmts) (ts : List Lexeme) → 0 < n → inside go n held acc ts ≡ inside_by go (inside go (n - 1)) held acc ts (expect s.CloseBrace ts) (expect s.OpenBrace ts)
unfolding inside
inside_is go zero held acc ts pos = absurd (let no : ⊥ = omega arith in no)
inside_is go (suc n) held acc ts pos = let e : n ≡ suc n - 1 = omega arith in ap (λ j. inside_by go (inside go j) held acc ts (expect s.CloseBrace ts) (expect s.OpenBrace ts)) e

into_of : {c : Rules} {depth : ℕ} {ts rest : List Lexeme} {us : PlainStmts} → Reach c depth ts us rest → Begins ts → length rest < length ts → (n held : ℕ) (acc : PlainStmts) → length ts ≤ n → Into c depth n held acc ts us rest
into_of {c = c} {depth = depth} {ts = ts} {rest = rest} {us = us} (plain bare h) begins less n held acc room = (
  n - 1,
  omega arith,
  inside_is (simple c depth) n held acc ts (omega arith) ∙ ap (λ o. inside_by (simple c depth) (inside (simple c depth) (n - 1)) held acc ts o (expect s.OpenBrace ts)) begins.0
      ∙ ap (inside_by (simple c depth) (inside (simple c depth) (n - 1)) held acc ts None) bare ∙ ap (option_and_then _) h,
)
into_of {c = c} {depth = depth} {ts = ts} {rest = rest} {us = us} (braced {inner = inner} is fewer go) begins less n held acc room =
    let (j, more, h) = go (n - 1) (suc held) acc (omega arith) in (
      j - 1,
      omega arith,
      inside_is (simple c depth) n held acc ts (omega arith) ∙ ap (λ o. inside_by (simple c depth) (inside (simple c depth) (n - 1)) held acc ts o (expect s.OpenBrace ts)) begins.0
          ∙ ap (inside_by (simple c depth) (inside (simple c depth) (n - 1)) held acc ts None) is
          ∙ h ∙ inside_is (simple c depth) j (suc held) (chain acc us) (t.symbol s.CloseBrace ∷ rest) (omega arith)
          ∙ ap (λ o. inside_by (simple c depth) (inside (simple c depth) (j - 1)) (suc held) (chain acc us) (t.symbol s.CloseBrace ∷ rest) o (expect s.OpenBrace (t.symbol s.CloseBrace ∷ rest))) (expect_self s.CloseBrace rest),
    )

body_of : {c : Rules} {depth : ℕ} {ts rest : List Lexeme} {us : PlainStmts} → Reach c depth ts us rest → length ts < c.turns → body (simple c depth) c.turns ts ≡ Some (us, rest)
body_of {c = c} {depth = depth} {ts = ts} (plain bare h) turns = ap (body_by (simple c depth) c.turns ts) bare ∙ h
body_of {c = c} {depth = depth} {ts = ts} {rest = rest} {us = us} (braced is fewer go) turns =
    let (j, more, h) = go c.turns 0 no_stmts (omega arith) in
    ap (body_by (simple c depth) c.turns ts) is ∙ h ∙ inside_is (simple c depth) j 0 us (t.symbol s.CloseBrace ∷ rest) (omega arith)
    ∙ ap (λ o. inside_by (simple c depth) (inside (simple c depth) (j - 1)) 0 us (t.symbol s.CloseBrace ∷ rest) o (expect s.OpenBrace (t.symbol s.CloseBrace ∷ rest))) (expect_self s.CloseBrace rest)

-- ---- whatever is a statement

named_stmt : (c : Rules) (go : List Lexeme → Read PlainStmts) (ts : List Lexeme) (y : Word) (zs : List Lexeme) → ts ≡ t.name y ∷ zs → stmt_at c go ts ≡ assign_at c ts
unfolding stmt_at
named_stmt c go ts y zs is = subst (λ z. stmt_at c go z ≡ assign_at c z) (sym is) refl

simple_is : (c : Rules) (depth : ℕ) (ts : List Lexeme) → 0 < depth → simple c depth ts ≡ stmt_at c (body (simple c (depth - 1)) c.turns) ts
unfolding simple
simple_is c zero ts pos = absurd (let no : ⊥ = omega arith in no)
simple_is c (suc depth) ts pos = let e : depth ≡ suc depth - 1 = omega arith in ap (λ j. stmt_at c (body (simple c j) c.turns) ts) e

semi_read : (c : Rules) (depth : ℕ) (rest : List Lexeme) → simple c depth (t.symbol s.Semicolon ∷ rest) ≡ Some (no_stmts, rest)
unfolding simple stmt_at
semi_read c zero rest = ap (option_and_then _) (expect_self s.Semicolon rest)
semi_read c (suc depth) rest = refl

sign_read : (c : Rules) (depth : ℕ) (j : Symbol) (ts : List Lexeme) → 0 < depth → simple c depth (t.symbol j ∷ ts) ≡ by_sign c (body (simple c (depth - 1)) c.turns) j ts
unfolding stmt_at
sign_read c depth j ts pos = simple_is c depth (t.symbol j ∷ ts) pos

for_open : (ts : List Lexeme) → (expect s.OpenBrace (t.symbol s.For ∷ ts) ≡ None) × (expect s.OpenBrace (t.symbol s.If ∷ ts) ≡ None) × (expect s.OpenBrace (t.symbol s.Semicolon ∷ ts) ≡ None)
unfolding expect same
for_open ts = (refl, refl, refl)

name_open : (x : Word) (ts : List Lexeme) → expect s.OpenBrace (t.name x ∷ ts) ≡ None
unfolding expect
name_open x ts = refl

lows : (c : Rules) {p : Bool} {m l : ℕ} {ts rest : List Lexeme} {u : PlainExpr} → c.printed ≡ p → c.limit ≡ m → IsLow p m l ts u rest → IsLow c.printed c.limit l ts u rest
lows c {p = p} {m = m} {l = l} {ts = ts} {rest = rest} {u = u} e f d = subst (λ b. IsLow b c.limit l ts u rest) (sym e) (subst (λ j. IsLow p j l ts u rest) (sym f) d)

conds_of : (c : Rules) {p : Bool} {m : ℕ} {ts rest : List Lexeme} {cs : List PlainTest} → c.printed ≡ p → c.limit ≡ m → IsCond p m ts cs rest → IsCond c.printed c.limit ts cs rest
conds_of c {p = p} {m = m} {ts = ts} {rest = rest} {cs = cs} e f d = subst (λ b. IsCond b c.limit ts cs rest) (sym e) (subst (λ j. IsCond p j ts cs rest) (sym f) d)

places : (c : Rules) {p : Bool} {m : ℕ} {ts rest : List Lexeme} {u : PlainExpr} → c.printed ≡ p → c.limit ≡ m → IsPlace p m ts u rest → IsPlace c.printed c.limit ts u rest
places c {p = p} {m = m} {ts = ts} {rest = rest} {u = u} e f d = subst (λ b. IsPlace b c.limit ts u rest) (sym e) (subst (λ j. IsPlace p j ts u rest) (sym f) d)

stmt_of : (c : Rules) {p : Bool} {m : ℕ} {open_end : Bool} {ts rest : List Lexeme} {us : PlainStmts} → c.printed ≡ p → c.limit ≡ m → IsStmt p m open_end ts us rest → IsStmt c.printed c.limit open_end ts us rest
stmt_of c {p = p} {m = m} {open_end = open_end} {ts = ts} {rest = rest} {us = us} e f d = subst (λ b. IsStmt b c.limit open_end ts us rest) (sym e) (subst (λ j. IsStmt p j open_end ts us rest) (sym f) d)

-- an `if` is read as one, in sources and printed texts
if_reads : (c : Rules) (go : List Lexeme → Read PlainStmts) (ts : List Lexeme) → check_front c ts ≡ None → if_at c go (t.symbol s.OpenParen ∷ ts) ≡ if_plain c go ts
unfolding if_at
if_reads c go ts none = ap (option_and_then _) (expect_self s.OpenParen ts) ∙ by c.printed
  where
    by : (b : Bool) → cond b (if_by c go ts (check_front c ts)) (if_plain c go ts) ≡ if_plain c go ts
    by true = ap (if_by c go ts) none
    by false = refl

if_plain_reads : (c : Rules) (go : List Lexeme → Read PlainStmts) (ts first after : List Lexeme) (cs : List PlainTest) (us : PlainStmts) → length ts < c.turns → IsCond c.printed c.limit ts cs (t.symbol s.CloseParen ∷ first) → go first ≡ Some (us, after)
    → if_plain c go ts ≡ else_by c go cs us after (expect s.Else after)
unfolding if_plain
if_plain_reads c go ts first after cs us turns tests h =
    ap (option_and_then _) (cond_complete c ts (t.symbol s.CloseParen ∷ first) cs tests turns refl (close_no_both first)) ∙ ap (option_and_then _) (expect_self s.CloseParen first) ∙ ap (option_and_then _) h

for_reads : (c : Rules) (go : List Lexeme → Read PlainStmts) (v : Word) (rel : Rel) (ts second step inner rest : List Lexeme) (lo hi : PlainExpr) (us : PlainStmts) → for_start c ts ≡ Some ((v, lo), second) → for_bound c v second ≡ Some ((rel, hi), step) → for_step c v step ≡ Some inner → go inner ≡ Some (us, rest)
    → for_at c go ts ≡ Some (one (loop v lo rel hi us), rest)
unfolding for_at
for_reads c go v rel ts second step inner rest lo hi us a b d e = ap (option_and_then _) a ∙ ap (option_and_then _) b ∙ ap (option_and_then _) d ∙ ap (option_and_then _) e

check_reads : (c : Rules) (go : List Lexeme → Read PlainStmts) (ts after rest : List Lexeme) (x : Word × PlainExpr) (us : PlainStmts) → c.printed ≡ true → check_front c ts ≡ Some (x, after) → check_end c x after ≡ Some (us, rest) → if_at c go (t.symbol s.OpenParen ∷ ts) ≡ Some (us, rest)
unfolding if_at
check_reads c go ts after rest x us printed h j =
    ap (option_and_then _) (expect_self s.OpenParen ts) ∙ ap (λ b. cond b (if_by c go ts (check_front c ts)) (if_plain c go ts)) printed ∙ ap (if_by c go ts) h ∙ j

false_else : (ts : List Lexeme) {b : Bool} → b ≡ false → b ≡ true → expect s.Else ts ≡ None
false_else ts e f = absurd (both e f)
  where
    both : {b : Bool} → b ≡ false → b ≡ true → ⊥
    both e f = cc

mutual
  pub reach : {p : Bool} {m : ℕ} {open_end : Bool} {ts rest : List Lexeme} {us : PlainStmts} → IsStmt p m open_end ts us rest → (c : Rules) → c.printed ≡ p → c.limit ≡ m → 1 ≤ c.limit → (depth : ℕ) → stmts_height us ≤ depth → length ts < c.turns → (open_end ≡ true → expect s.Else rest ≡ None) → Reach c depth ts us rest
  reach {rest = rest} k.empty c e f some depth high turns ends = plain (for_open rest).2 (semi_read c depth rest)
  reach {rest = rest} (k.block {ts = inner} {us = us} d) c e f some depth high turns ends =
      braced (expect_self s.OpenBrace inner) (omega arith) (stmts_into d c e f some depth high (omega arith))
  reach {ts = ts} {rest = rest} (k.assigned {value = value} {x = x} {u = u} j op sets target d) c e f some depth high turns ends =
      let (y, zs, is) = place_front target in
      plain (subst (λ z. expect s.OpenBrace z ≡ None) (sym is) (name_open y zs))
      (simple_is c depth ts (omega arith) ∙ named_stmt c (body (simple c (depth - 1)) c.turns) ts y zs is ∙ assign_read c j op ts value rest x u sets (places c e f target) (lows c e f d) turns)
  reach {rest = rest} (k.for {open_end = open_end} {ts = ts} {second = second} {step = step} {body = inner} {lo = lo} {hi = hi} {us = us} v rel fine dl dh ds d) c e f some depth high turns ends =
      let less = shorter dl.reads in
      let less2 = shorter dh.reads in
      let less3 = shorter_step ds in
      let part = body_of (reach d c e f some (depth - 1) (omega arith) (omega arith) ends) (omega arith) in
      plain (for_open _).0 (sign_read c depth s.For _ (omega arith)
      ∙ for_reads c (body (simple c (depth - 1)) c.turns) v rel _ (t.name v ∷ t.symbol (rel_mark rel) ∷ second) step inner rest lo hi us
      (start_read c v ts _ lo (lows c e f dl) (omega arith)) (bound_read c v rel second step hi fine (lows c e f dh) (omega arith)) (step_read c v step inner ds) part)
  reach {rest = rest} (k.when {open_end = open_end} {ts = ts} {first = first} {cs = cs} {us = us} tests d) c e f some depth high turns ends =
      let less = shorter_cond tests in
      let part = body_of (reach d c e f some (depth - 1) (omega arith) (omega arith) (λ i. ends refl)) (omega arith) in
      let go = body (simple c (depth - 1)) c.turns in
      plain (for_open _).1 (sign_read c depth s.If _ (omega arith) ∙ if_reads c go ts (no_check c ts first rest cs us some (omega arith) (conds_of c e f tests) (stmt_of c e f d))
      ∙ if_plain_reads c go ts first rest cs us (omega arith) (conds_of c e f tests) part ∙ ap (else_by c go cs us rest) (ends refl))
  reach {rest = rest} (k.whether {open_end = open_end} {ts = ts} {first = first} {other = other} {cs = cs} {us = us} {vs = vs} tests d d2) c e f some depth high turns ends =
      let less = shorter_cond tests in
      let less2 = shorter_stmt d in
      let part = body_of (reach d c e f some (depth - 1) (omega arith) (omega arith) (false_else (t.symbol s.Else ∷ other) refl)) (omega arith) in
      let part2 = body_of (reach d2 c e f some (depth - 1) (omega arith) (omega arith) ends) (omega arith) in
      let go = body (simple c (depth - 1)) c.turns in
      plain (for_open _).1 (sign_read c depth s.If _ (omega arith) ∙ if_reads c go ts (no_check c ts first _ cs us some (omega arith) (conds_of c e f tests) (stmt_of c e f d))
      ∙ if_plain_reads c go ts first (t.symbol s.Else ∷ other) cs us (omega arith) (conds_of c e f tests) part ∙ ap (else_by c go cs us (t.symbol s.Else ∷ other)) (expect_self s.Else other) ∙ ap (option_and_then _) part2)
  reach {rest = rest} (k.checked {ts = ts} {u = u} x a lt d) c e f some depth high turns ends =
      let (front, end) = check_read c x a ts rest u lt (omega arith) (lows c e f d) in
      plain (for_open _).1 (sign_read c depth s.If _ (omega arith) ∙ check_reads c (body (simple c (depth - 1)) c.turns) _ _ rest (x, u) _ e front end)

  stmts_into : {p : Bool} {m : ℕ} {ts rest : List Lexeme} {us : PlainStmts} → IsStmts p m ts us (t.symbol s.CloseBrace ∷ rest) → (c : Rules) → c.printed ≡ p → c.limit ≡ m → 1 ≤ c.limit → (depth : ℕ) → stmts_height us ≤ depth → length ts < c.turns
      → (n held : ℕ) (acc : PlainStmts) → length ts ≤ n → Into c depth n held acc ts us (t.symbol s.CloseBrace ∷ rest)
  stmts_into {rest = rest} k.end c e f some depth high turns n held acc room = (n, room, ap (λ w. inside (simple c depth) n held w (t.symbol s.CloseBrace ∷ rest)) (sym (chain_none acc)))
  stmts_into {rest = rest} (k.more {us = us} {vs = vs} d others) c e f some depth high turns n held acc room =
      let low = chain_heights us vs in
      let here = reach d c e f some depth (omega arith) turns (λ i. stmts_front others) in
      let (j, more, h) = into_of here (begins d) (shorter_stmt d) n held acc room in
      let (i, more2, h2) = stmts_into others c e f some depth (omega arith) (omega (arith, shorter_stmt d)) j held (chain acc us) more in
      (i, more2, h ∙ h2 ∙ ap (λ w. inside (simple c depth) i held w (t.symbol s.CloseBrace ∷ rest)) (chain_again acc us vs))

pub body_complete : (c : Rules) (depth : ℕ) (open_end : Bool) (ts rest : List Lexeme) (us : PlainStmts) → 1 ≤ c.limit → IsStmt c.printed c.limit open_end ts us rest → stmts_height us ≤ depth → length ts < c.turns → (open_end ≡ true → expect s.Else rest ≡ None) → body (simple c depth) c.turns ts ≡ Some (us, rest)
body_complete c depth open_end ts rest us some d high turns ends = body_of (reach d c refl refl some depth high turns ends) turns

-- the statements of a whole block, behind its brace
pub inside_read : (c : Rules) (depth : ℕ) (ts rest : List Lexeme) (us : PlainStmts) → 1 ≤ c.limit → IsStmts c.printed c.limit ts us (t.symbol s.CloseBrace ∷ rest) → stmts_height us ≤ depth → length ts < c.turns → inside (simple c depth) c.turns 0 no_stmts ts ≡ Some (us, rest)
inside_read c depth ts rest us some d high turns =
    let (j, more, h) = stmts_into d c refl refl some depth high turns c.turns 0 no_stmts (omega arith) in
    h ∙ inside_is (simple c depth) j 0 us (t.symbol s.CloseBrace ∷ rest) (omega arith)
    ∙ ap (λ o. inside_by (simple c depth) (inside (simple c depth) (j - 1)) 0 us (t.symbol s.CloseBrace ∷ rest) o (expect s.OpenBrace (t.symbol s.CloseBrace ∷ rest))) (expect_self s.CloseBrace rest)
