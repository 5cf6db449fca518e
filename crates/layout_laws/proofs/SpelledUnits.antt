-- What spells a unit is that unit.
use Rattle.std.proofs.Common.{◌≡◌, ℕ, zero, suc, ◌^◌, ◌≤◌, Bool, true, false, List, [], ◌∷◌, ◌++◌, refl, sym, ap, ◌∙◌, subst, arith, inl, inr}
use Rattle.std.specs.Prelude.{ℤ, pos, negsuc, ◌⊎◌}
use Rattle.c_tree.specs.Names.{arrays_in}
use Rattle.c_tree.specs.Plain.{Word, PlainExpr, PlainExprs, no_exprs, more_exprs, PlainStmt, table, begin, verdict, PlainStmts, no_stmts, more_stmts, PlainParam, int_param, array_param, PlainUnit}
use Rattle.c_tree.specs.declared.symbol.Symbol.TheVariants as s
use Rattle.c_tree.specs.Grammar.Lexemes as t
use Rattle.c_tree.specs.Grammar.Lexemes.{Lexeme}
use Rattle.c_tree.specs.Grammar.Statements.{chain, one}
use Rattle.c_tree.specs.Grammar.Heads as h
use Rattle.c_tree.specs.Grammar.Heads.{opposite, IsInt, IsRange, IsDims, IsParam, IsWide, IsTable, begin_tokens}
use Rattle.layout_laws.specs.Spell.{spell_cells}
use Rattle.c_tree.specs.Grammar.Units as u
use Rattle.c_tree.specs.Grammar.Units.{AreRanges, AreParams, AreWords, AreWides, AreTop, IsUnit, verdict_tokens}
use Rattle.layout_laws.specs.Spell.{spell_int, spell_ranges, spell_param, spell_params, spell_more_params, spell_words, spell_wides, spell_stmt, spell_stmts, spell_unit}
use Rattle.layout_laws.specs.Fine as fine
use Rattle.layout_laws.specs.Fine.{Low, FineStmt, FineStmts, FineTable, FineTop, FineInt, FineRanges, count, AllLow, FineDims, FineParam, LowParams, FineParams, FineUnit}
use Rattle.layout_laws.proofs.SpelledStatements.{low_of, low_spelled, fine_stmt, fine_stmts, spelled_stmt, spelled_stmts}

-- ---- ranges

fine_opposite : (n : ℕ) → n ≤ 2 ^ 63 → FineInt (opposite n)
fine_opposite zero e = omega arith
fine_opposite (suc n) e = e

fine_int : {ts rest : List Lexeme} {z : ℤ} → IsInt ts z rest → FineInt z
fine_int (h.positive n e) = e
fine_int (h.negative n e) = fine_opposite n e

spelled_int : (z : ℤ) → FineInt z → (rest : List Lexeme) → IsInt (spell_int z rest) z rest
spelled_int (pos n) e rest = h.positive n e
spelled_int (negsuc n) e rest = h.negative (suc n) e

fine_range : {ts rest : List Lexeme} {r : Word × ℤ × ℤ} → IsRange ts r rest → FineInt r.1 × FineInt r.2
fine_range (h.range x a b) = (fine_int a, fine_int b)

fine_ranges : {ts rest : List Lexeme} {rs : List (Word × ℤ × ℤ)} → AreRanges ts rs rest → FineRanges rs
fine_ranges u.no_ranges = tt
fine_ranges (u.more_ranges d e) = let f = fine_range d in (f.0, f.1, fine_ranges e)

spelled_ranges : (rs : List (Word × ℤ × ℤ)) → FineRanges rs → (rest : List Lexeme) → AreRanges (spell_ranges rs rest) rs rest
spelled_ranges [] f rest = u.no_ranges
spelled_ranges (r ∷ rs) f rest = u.more_ranges (h.range r.0 (spelled_int r.1 f.0 _) (spelled_int r.2 f.1 _)) (spelled_ranges rs f.2 rest)

-- ---- parameters

fine_dims : {p : Bool} {m k : ℕ} {ts rest : List Lexeme} {es : PlainExprs} → IsDims p m k ts es rest → FineDims p m k es
fine_dims (h.one_dim d) = record { low = (low_of d, tt); some = omega arith; most = omega arith }
fine_dims (h.next_dim d e) = let f = fine_dims e in record { low = (low_of d, f.low); some = omega arith; most = let g = f.most in omega arith }

spelled_dims : (p : Bool) (m k : ℕ) (es : PlainExprs) → AllLow p m es → 1 ≤ count es → count es ≤ suc k → (rest : List Lexeme) → IsDims p m k (spell_cells es rest) es rest
spelled_dims p m k no_exprs f some most rest = absurd (omega arith)
spelled_dims p m k (more_exprs e no_exprs) f some most rest = h.one_dim (low_spelled p m e f.0 _)
spelled_dims p m zero (more_exprs e (more_exprs d es)) f some most rest = absurd (omega arith)
spelled_dims p m (suc k) (more_exprs e (more_exprs d es)) f some most rest = h.next_dim (low_spelled p m e f.0 _) (spelled_dims p m k (more_exprs d es) f.1 (omega arith) (omega arith) rest)

fine_param : {p : Bool} {m : ℕ} {ts rest : List Lexeme} {x : PlainParam} → IsParam p m ts x rest → FineParam p m x
fine_param (h.number x) = tt
fine_param (h.array x d) = fine_dims d
fine_param (h.constant x d) = fine_dims d

spelled_param : (p : Bool) (m : ℕ) (x : PlainParam) → FineParam p m x → (rest : List Lexeme) → IsParam p m (spell_param x rest) x rest
spelled_param p m (int_param x) f rest = h.number x
spelled_param p m (array_param x false es) f rest = h.array x (spelled_dims p m 2 es f.low f.some f.most rest)
spelled_param p m (array_param x true es) f rest = h.constant x (spelled_dims p m 2 es f.low f.some f.most rest)

more_spelled : (p : Bool) (m : ℕ) (x : PlainParam) (xs : List PlainParam) → FineParam p m x → LowParams p m xs → (rest : List Lexeme) → AreParams p m (spell_param x (spell_more_params xs rest)) (x ∷ xs) rest
more_spelled p m x [] f g rest = u.one_param (spelled_param p m x f rest)
more_spelled p m x (y ∷ ys) f g rest = u.more_params (spelled_param p m x f _) (more_spelled p m y ys g.0 g.1 rest)

low_params : {p : Bool} {m : ℕ} {ts rest : List Lexeme} {xs : List PlainParam} → AreParams p m ts xs rest → LowParams p m xs
low_params (u.one_param d) = (fine_param d, tt)
low_params (u.more_params d e) = (fine_param d, low_params e)

fine_params : {p : Bool} {m : ℕ} {ts rest : List Lexeme} {xs : List PlainParam} → AreParams p m ts xs rest → FineParams p m xs
fine_params (u.one_param d) = (fine_param d, tt)
fine_params (u.more_params d e) = (fine_param d, low_params e)

spelled_params : (p : Bool) (m : ℕ) (xs : List PlainParam) → FineParams p m xs → (rest : List Lexeme) → AreParams p m (spell_params xs rest) xs rest
spelled_params p m [] f rest = absurd f
spelled_params p m (x ∷ xs) f rest = more_spelled p m x xs f.0 f.1 rest

-- ---- declarations

spelled_words : (ws : List (Word × ℕ)) (rest : List Lexeme) → AreWords (spell_words ws rest) ws rest
spelled_words [] rest = u.no_words
spelled_words (x ∷ xs) rest = u.more_words x.0 x.1 (spelled_words xs rest)

spelled_wides : (xs : List Word) (rest : List Lexeme) → AreWides (spell_wides xs rest) xs rest
spelled_wides [] rest = u.no_wides
spelled_wides (x ∷ xs) rest = u.more_wides (h.wide x) (spelled_wides xs rest)

-- ---- statements of the top level

chain_top : (p : Bool) (m : ℕ) (us vs : PlainStmts) → FineStmts p m us → FineTop p m vs → FineTop p m (chain us vs)
chain_top p m no_stmts vs f g = g
chain_top p m (more_stmts a us) vs f g = (inl f.0, chain_top p m us vs f.1 g)

fine_table : {p : Bool} {m : ℕ} {ts rest : List Lexeme} {a : PlainStmt} → IsTable p m ts a rest → FineTable p m a
fine_table (h.made {u = e} x d) = (x, e, refl, low_of d)

fine_top : {p : Bool} {m : ℕ} {ts rest : List Lexeme} {us : PlainStmts} → AreTop p m ts us rest → FineTop p m us
fine_top u.no_top = tt
fine_top {p = p} {m = m} (u.more_top {us = us} {vs = vs} d e) = chain_top p m us vs (fine_stmt d) (fine_top e)
fine_top (u.table_top d e) = (inr (fine_table d), fine_top e)

spelled_table : (p : Bool) (m : ℕ) (xs : List Word) (x : Word) (e : PlainExpr) → Low p m e → (rest : List Lexeme) → IsTable p m (spell_stmt xs (table x e) rest) (table x e) rest
spelled_table p m xs x e f rest = h.made x (low_spelled p m e f _)

top_by : (p : Bool) (m : ℕ) (xs : List Word) (a : PlainStmt) (us : PlainStmts) (rest : List Lexeme) → (FineStmt p m a ⊎ FineTable p m a) → AreTop p m (spell_stmts xs us rest) us rest
    → AreTop p m (spell_stmts xs (more_stmts a us) rest) (more_stmts a us) rest
top_by p m xs a us rest (inl k) go = u.more_top (spelled_stmt p m xs a k (spell_stmts xs us rest)) go
top_by p m xs a us rest (inr (x, e, is, low)) go = subst (λ (b : PlainStmt). AreTop p m (spell_stmts xs (more_stmts b us) rest) (more_stmts b us) rest) (sym is) (u.table_top (spelled_table p m xs x e low (spell_stmts xs us rest)) go)

spelled_top : (p : Bool) (m : ℕ) (xs : List Word) (us : PlainStmts) → FineTop p m us → (rest : List Lexeme) → AreTop p m (spell_stmts xs us rest) us rest
spelled_top p m xs no_stmts f rest = u.no_top
spelled_top p m xs (more_stmts a us) f rest = top_by p m xs a us rest f.0 (spelled_top p m xs us f.1 rest)

-- lists that are joined are spelled one behind the other
pub spell_chain : (xs : List Word) (us vs : PlainStmts) (rest : List Lexeme) → spell_stmts xs (chain us vs) rest ≡ spell_stmts xs us (spell_stmts xs vs rest)
spell_chain xs no_stmts vs rest = refl
spell_chain xs (more_stmts a us) vs rest = ap (spell_stmt xs a) (spell_chain xs us vs rest)

-- ---- units

printed_body : (xs : List Word) (us vs : PlainStmts) (rest : List Lexeme) → spell_stmts xs (chain us (more_stmts begin (chain vs (one verdict)))) rest ≡ spell_stmts xs us (begin_tokens ++ spell_stmts xs vs (verdict_tokens xs rest))
printed_body xs us vs rest = spell_chain xs us (more_stmts begin (chain vs (one verdict))) rest ∙ ap (λ y. spell_stmts xs us (begin_tokens ++ y)) (spell_chain xs vs (one verdict) rest)

top_before : (p : Bool) (m : ℕ) (xs : List Word) (us vs : PlainStmts) (rest : List Lexeme) → FineTop p m us → AreTop p m (spell_stmts xs (chain us (more_stmts begin (chain vs (one verdict)))) rest) us (begin_tokens ++ spell_stmts xs vs (verdict_tokens xs rest))
top_before p m xs us vs rest f = subst (λ (ts : List Lexeme). AreTop p m ts us (begin_tokens ++ spell_stmts xs vs (verdict_tokens xs rest))) (sym (printed_body xs us vs rest)) (spelled_top p m xs us f _)

-- what the tokens of a unit are read as is a tree of the grammar
pub fine_unit : {ts : List Lexeme} {a : PlainUnit} → IsUnit ts a → FineUnit a
fine_unit (u.source f ranges params words body low) = fine.source f (fine_ranges ranges) (fine_params params) (fine_stmts body) low
fine_unit (u.printed {us = us} {vs = vs} f ranges params words wides before body low high checks others) =
    fine.printed f us vs (fine_ranges ranges) (fine_params params) (fine_top before) (fine_top body) low high checks others

-- what spells a tree of the grammar is read as it
pub spelled_unit : (a : PlainUnit) → FineUnit a → IsUnit (spell_unit a) a
spelled_unit _ (fine.source {rs = rs} {ps = ps} {ws = ws} {us = us} f ranges params body low) =
    u.source f (spelled_ranges rs ranges _) (spelled_params false 64 ps params _) (spelled_words ws _) (spelled_stmts false 64 (arrays_in ps) us body _) low
spelled_unit _ (fine.printed {rs = rs} {ps = ps} {ws = ws} {xs = xs} f us vs ranges params before body low high checks others) =
    u.printed f (spelled_ranges rs ranges _) (spelled_params true 256 ps params _) (spelled_words ws _) (spelled_wides xs _)
    (top_before true 256 (arrays_in ps) us vs (t.symbol s.CloseBrace ∷ []) before) (spelled_top true 256 (arrays_in ps) vs body _) low high checks others
