-- What spells statements is those statements.
use Rattle.std.proofs.Common.{◌≡◌, ℕ, Bool, true, false, List, [], ◌∷◌, ◌++◌, Option, Some, refl, sym, subst, arith}
use Rattle.std.proofs.lemmas.Option.{same_Some}
use Rattle.c_tree.specs.declared.expr.BinOp.{BinOp}
use Rattle.c_tree.specs.Layout.{is_loose}
use Rattle.c_tree.specs.Plain.{Word, PlainExpr, lit, var, cell, un, bin, cast, test, umin, umax, least, greatest, widen, big, PlainTest, PlainStmt, loop, choice, assign, table, begin, check, verdict, PlainStmts, no_stmts, more_stmts}
use Rattle.c_tree.specs.declared.symbol.Symbol.{Symbol}
use Rattle.c_tree.specs.declared.symbol.Symbol.TheVariants as s
use Rattle.c_tree.specs.Grammar.Lexemes as t
use Rattle.c_tree.specs.Grammar.Lexemes.{Lexeme}
use Rattle.c_tree.specs.Grammar.Expressions.{IsLow}
use Rattle.c_tree.specs.Grammar.Conditions as k
use Rattle.c_tree.specs.Grammar.Conditions.{IsConj, IsCond}
use Rattle.c_tree.specs.Grammar.Statements as g
use Rattle.c_tree.specs.Grammar.Statements.{IsStmt, IsStmts, IsPlace, IsStep, chain, one, set_op, bounds}
use Rattle.grammar_reading.proofs.Sound.{loosen}
use Rattle.layout_laws.specs.Spell.{enclosed, spell}
use Rattle.layout_laws.specs.Fine.{Low, LowTests, FineTests, FinePlace, FineStmt, FineStmts}
use Rattle.layout_laws.proofs.SpelledExpressions.{fine, fine_cells, spelled, spelled_cells, level_of, some_level, within, loose_tight}
use Rattle.layout_laws.specs.Spell.{set_mark, spell_test, spell_tests, spell_more_tests, spell_stmt, spell_else, spell_stmts}

-- ---- a statement is a tree of the grammar

pub low_of : {p : Bool} {m l : ℕ} {ts rest : List Lexeme} {u : PlainExpr} → IsLow p m l ts u rest → Low p m u
low_of d = record { is_fine = fine d.reads; low = d.low }

low_append : (p : Bool) (m : ℕ) (us vs : List PlainTest) → LowTests p m us → LowTests p m vs → LowTests p m (us ++ vs)
low_append p m [] vs h j = j
low_append p m (u ∷ us) vs h j = (h.0, h.1, low_append p m us vs h.2 j)

fine_append : (p : Bool) (m : ℕ) (us vs : List PlainTest) → FineTests p m us → FineTests p m vs → FineTests p m (us ++ vs)
fine_append p m [] vs h j = absurd h
fine_append p m (u ∷ us) [] h j = absurd j
fine_append p m (u ∷ us) (v ∷ vs) h j = (h.0, h.1, low_append p m us (v ∷ vs) h.2 j)

mutual
  fine_conj : {p : Bool} {m : ℕ} {ts rest : List Lexeme} {us : List PlainTest} → IsConj p m ts us rest → FineTests p m us
  fine_conj (k.comparison rel a b) = (low_of a, low_of b, tt)
  fine_conj (k.grouped d) = fine_cond d

  fine_cond : {p : Bool} {m : ℕ} {ts rest : List Lexeme} {us : List PlainTest} → IsCond p m ts us rest → FineTests p m us
  fine_cond (k.alone d) = fine_conj d
  fine_cond {p = p} {m = m} (k.joined {us = us} {vs = vs} a b) = fine_append p m us vs (fine_conj a) (fine_cond b)

pub chain_fine : (p : Bool) (m : ℕ) (us vs : PlainStmts) → FineStmts p m us → FineStmts p m vs → FineStmts p m (chain us vs)
chain_fine p m no_stmts vs h j = j
chain_fine p m (more_stmts u us) vs h j = (h.0, chain_fine p m us vs h.1 j)

fine_place : {p : Bool} {m : ℕ} {ts rest : List Lexeme} {u : PlainExpr} → IsPlace p m ts u rest → FinePlace p m u
fine_place (g.of_name x) = tt
fine_place (g.of_cell x d low) = record { is_fine = fine_cells x d; low = low }

-- a mark stands for its operator alone
pub mark_of : (mark : Symbol) (op : Option BinOp) → set_op mark ≡ Some op → set_op (set_mark op) ≡ Some op
mark_of s.Assign op e = subst (λ x. set_op (set_mark x) ≡ Some x) (same_Some _ _ e) refl
mark_of s.AddAssign op e = subst (λ x. set_op (set_mark x) ≡ Some x) (same_Some _ _ e) refl
mark_of s.SubAssign op e = subst (λ x. set_op (set_mark x) ≡ Some x) (same_Some _ _ e) refl
mark_of s.MulAssign op e = subst (λ x. set_op (set_mark x) ≡ Some x) (same_Some _ _ e) refl
mark_of s.AndAssign op e = subst (λ x. set_op (set_mark x) ≡ Some x) (same_Some _ _ e) refl
mark_of s.OrAssign op e = subst (λ x. set_op (set_mark x) ≡ Some x) (same_Some _ _ e) refl
mark_of s.XorAssign op e = subst (λ x. set_op (set_mark x) ≡ Some x) (same_Some _ _ e) refl
mark_of _ op e = absurd (let never : ⊥ = cc in never)

mutual
  pub fine_stmt : {p : Bool} {m : ℕ} {open_end : Bool} {ts rest : List Lexeme} {us : PlainStmts} → IsStmt p m open_end ts us rest → FineStmts p m us
  fine_stmt g.empty = tt
  fine_stmt (g.block d) = fine_stmts d
  fine_stmt (g.assigned mark op e d v) = ((fine_place d, mark_of mark op e, low_of v), tt)
  fine_stmt (g.for v rel is lo hi step d) = ((is, low_of lo, low_of hi, fine_stmt d), tt)
  fine_stmt (g.when c d) = ((fine_cond c, fine_stmt d, tt), tt)
  fine_stmt (g.whether c d e) = ((fine_cond c, fine_stmt d, fine_stmt e), tt)
  fine_stmt (g.checked x a h d) = ((refl, h, low_of d), tt)

  pub fine_stmts : {p : Bool} {m : ℕ} {ts rest : List Lexeme} {us : PlainStmts} → IsStmts p m ts us rest → FineStmts p m us
  fine_stmts g.end = tt
  fine_stmts {p = p} {m = m} (g.more {us = us} {vs = vs} d e) = chain_fine p m us vs (fine_stmt d) (fine_stmts e)

-- ---- what spells them is them

pub low_spelled : (p : Bool) (m : ℕ) (u : PlainExpr) → Low p m u → (rest : List Lexeme) → IsLow p m 1 (spell u rest) u rest
low_spelled p m u h rest = record { reads = loosen p (level_of u) 1 _ rest u (some_level u) (spelled p u h.is_fine rest); low = h.low }

side_spelled : (p : Bool) (m : ℕ) (u : PlainExpr) → Low p m u → (rest : List Lexeme) → IsLow p m 4 (enclosed (is_loose u) (spell u) rest) u rest
side_spelled p m u h rest = record { reads = within p (is_loose u) 4 u (spell u) (omega arith) (loose_tight u) (spelled p u h.is_fine) rest; low = h.low }

test_spelled : (p : Bool) (m : ℕ) (c : PlainTest) → Low p m c.1 → Low p m c.2 → (rest : List Lexeme) → IsConj p m (spell_test c rest) (c ∷ []) rest
test_spelled p m c h j rest = k.comparison c.0 (side_spelled p m c.1 h _) (side_spelled p m c.2 j rest)

more_tests_spelled : (p : Bool) (m : ℕ) (c : PlainTest) (cs : List PlainTest) → Low p m c.1 → Low p m c.2 → LowTests p m cs → (rest : List Lexeme) → IsCond p m (spell_test c (spell_more_tests cs rest)) (c ∷ cs) rest
more_tests_spelled p m c [] h j l rest = k.alone (test_spelled p m c h j rest)
more_tests_spelled p m c (b ∷ bs) h j l rest = k.joined (test_spelled p m c h j _) (more_tests_spelled p m b bs l.0 l.1 l.2 rest)

tests_spelled : (p : Bool) (m : ℕ) (cs : List PlainTest) → FineTests p m cs → (rest : List Lexeme) → IsCond p m (spell_tests cs rest) cs rest
tests_spelled p m [] h rest = absurd h
tests_spelled p m (c ∷ cs) h rest = more_tests_spelled p m c cs h.0 h.1 h.2 rest

place_spelled : (p : Bool) (m : ℕ) (x : PlainExpr) → FinePlace p m x → (rest : List Lexeme) → IsPlace p m (spell x rest) x rest
place_spelled p m (var x) h rest = g.of_name x
place_spelled p m (cell x us) h rest = g.of_cell x (spelled_cells p us x h.is_fine rest) h.low
place_spelled p m (lit n) h rest = absurd h
place_spelled p m (un op a) h rest = absurd h
place_spelled p m (bin op a b) h rest = absurd h
place_spelled p m (cast a) h rest = absurd h
place_spelled p m (test rel a b) h rest = absurd h
place_spelled p m (umin a b) h rest = absurd h
place_spelled p m (umax a b) h rest = absurd h
place_spelled p m (least a b) h rest = absurd h
place_spelled p m (greatest a b) h rest = absurd h
place_spelled p m (widen a) h rest = absurd h
place_spelled p m (big high low) h rest = absurd h

-- an `if` without `else`
abbrev pub dangles : PlainStmt → Bool
dangles (choice cs us no_stmts) = true
dangles _ = false

as_printed : (p : Bool) (m : ℕ) (ts : List Lexeme) (us : PlainStmts) (rest : List Lexeme) → p ≡ true → IsStmt true m false ts us rest → IsStmt p m false ts us rest
as_printed p m ts us rest e d = subst (λ b. IsStmt b m false ts us rest) (sym e) d

low_printed : (p : Bool) (m : ℕ) (u : PlainExpr) → p ≡ true → Low p m u → Low true m u
low_printed p m u e d = subst (λ b. Low b m u) e d

mutual
  pub spelled_stmt : (p : Bool) (m : ℕ) (xs : List Word) (u : PlainStmt) → FineStmt p m u → (rest : List Lexeme) → IsStmt p m (dangles u) (spell_stmt xs u rest) (one u) rest
  spelled_stmt p m xs (loop v lo rel hi body) h rest =
      g.for v rel h.0 (low_spelled p m lo h.1 _) (low_spelled p m hi h.2 _) (g.behind v) (g.block (spelled_stmts p m xs body h.3 (t.symbol s.CloseBrace ∷ rest)))
  spelled_stmt p m xs (choice cs us no_stmts) h rest = g.when (tests_spelled p m cs h.0 _) (g.block (spelled_stmts p m xs us h.1 (t.symbol s.CloseBrace ∷ rest)))
  spelled_stmt p m xs (choice cs us (more_stmts v vs)) h rest =
      g.whether (tests_spelled p m cs h.0 _) (g.block (spelled_stmts p m xs us h.1 (t.symbol s.CloseBrace ∷ spell_else xs (more_stmts v vs) rest))) (g.block (spelled_stmts p m xs (more_stmts v vs) h.2 (t.symbol s.CloseBrace ∷ rest)))
  spelled_stmt p m xs (assign x op u) h rest = g.assigned (set_mark op) op h.1 (place_spelled p m x h.0 _) (low_spelled p m u h.2 _)
  spelled_stmt p m xs (check x u a) h rest = as_printed p m _ (one (check x u a)) rest h.0 (g.checked x a h.1 (low_spelled true m u (low_printed p m u h.0 h.2) _))
  spelled_stmt p m xs (table x u) h rest = absurd h
  spelled_stmt p m xs begin h rest = absurd h
  spelled_stmt p m xs verdict h rest = absurd h

  pub spelled_stmts : (p : Bool) (m : ℕ) (xs : List Word) (us : PlainStmts) → FineStmts p m us → (rest : List Lexeme) → IsStmts p m (spell_stmts xs us rest) us rest
  spelled_stmts p m xs no_stmts h rest = g.end
  spelled_stmts p m xs (more_stmts u us) h rest = g.more (spelled_stmt p m xs u h.0 (spell_stmts xs us rest)) (spelled_stmts p m xs us h.1 rest)
