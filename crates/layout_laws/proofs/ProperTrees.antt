-- What is read from proper tokens is proper.
use Rattle.std.proofs.Common.{◌≡◌, ℕ, zero, suc, ◌+◌, ◌^◌, ◌<◌, ◌≤◌, Bool, true, false, List, [], ◌∷◌, ◌++◌, length, drop, refl, arith}
use Rattle.std.specs.Prelude.{Some, None, ℤ}
use Rattle.std.proofs.lemmas.Bool.{both_ways}
use Rattle.c_tree.specs.Names.{arrays_in}
use Rattle.c_tree.specs.Plain.{Word, PlainExpr, PlainExprs, PlainTest, PlainStmt, begin, verdict, PlainStmts, no_stmts, more_stmts, PlainParam, PlainUnit}
use Rattle.c_tree.specs.declared.symbol.Symbol.TheVariants as s
use Rattle.c_tree.specs.Grammar.Lexemes as t
use Rattle.c_tree.specs.Grammar.Lexemes.{Lexeme}
use Rattle.c_tree.specs.Grammar.Tables.{Call, call_min, call_max, call_least, call_greatest, called}
use Rattle.c_tree.specs.Grammar.Expressions as e
use Rattle.c_tree.specs.Grammar.Expressions.{IsExpr, IsCells, IsLow}
use Rattle.c_tree.specs.Grammar.Conditions as k
use Rattle.c_tree.specs.Grammar.Conditions.{IsConj, IsCond}
use Rattle.c_tree.specs.Grammar.Statements as g
use Rattle.c_tree.specs.Grammar.Statements.{IsStmt, IsStmts, IsPlace, IsStep, chain, one}
use Rattle.c_tree.specs.Grammar.Heads as h
use Rattle.c_tree.specs.Grammar.Heads.{opposite, IsInt, IsRange, IsDims, IsParam, IsWide, IsTable}
use Rattle.c_tree.specs.Grammar.Units as u
use Rattle.c_tree.specs.Grammar.Units.{AreRanges, AreParams, AreWords, AreWides, AreTop, IsUnit, verdict_tokens, more_pair_tokens}
use Rattle.layout_laws.proofs.SpelledStatements.{mark_of}
use Rattle.layout_laws.specs.Proper.{IsName, IsProper, AreProper, ProperTests, ProperPlace, ProperStmt, ProperStmts, ProperInt, ProperRanges, ProperParam, ProperParams, ProperWords, ProperWides, ProperUnit}
use Rattle.layout_laws.proofs.ProperTokens.{AllProper, is_preamble}

call_proper : (p : Bool) (c : Call) (a b : PlainExpr) → IsProper p a → IsProper p b → IsProper p (called c a b)
call_proper p call_min a b f g = (f, g)
call_proper p call_max a b f g = (f, g)
call_proper p call_least a b f g = (f, g)
call_proper p call_greatest a b f g = (f, g)

mutual
  pub expr : {q : Bool} {l : ℕ} {ts rest : List Lexeme} {u : PlainExpr} → (p : Bool) → IsExpr q l ts u rest → AllProper p ts → IsProper p u × AllProper p rest
  expr p (e.tighter d) f = expr p d f
  expr p (e.binary op a b) f = let x = expr p a f in let y = expr p b x.1.1 in ((x.0, y.0), y.1)
  expr p (e.unary op d) f = expr p d f.1
  expr p (e.as_word d) f = expr p d f.1.1.1
  expr p (e.compared rel a b) f = let x = expr p a f.1.1.1.1 in let y = expr p b x.1.1 in ((x.0, y.0), y.1.1)
  expr p (e.as_wide d) f = expr p d f.1.1.1.1
  expr p (e.wide_literal high low) f = ((f.1.1.0, f.1.1.1.1.0), f.1.1.1.1.1.1)
  expr p (e.literal n) f = (f.0, f.1)
  expr p (e.variable x) f = (f.0, f.1)
  expr p (e.cell_of x d) f = let y = cells p d f.1 in ((f.0, y.0), y.1)
  expr p (e.enclosed d) f = let x = expr p d f.1 in (x.0, x.1.1)
  expr p (e.call {a = v} {b = w} c may a b) f = let x = expr p a f.1.1 in let y = expr p b x.1.1 in (call_proper p c v w x.0 y.0, y.1.1)

  pub cells : {q : Bool} {ts rest : List Lexeme} {us : PlainExprs} → (p : Bool) → IsCells q ts us rest → AllProper p ts → AreProper p us × AllProper p rest
  cells p (e.last d) f = let x = expr p d f.1 in ((x.0, tt), x.1.1)
  cells p (e.next d es) f = let x = expr p d f.1 in let y = cells p es x.1.1 in ((x.0, y.0), y.1)

low : {q : Bool} {m l : ℕ} {ts rest : List Lexeme} {u : PlainExpr} → (p : Bool) → IsLow q m l ts u rest → AllProper p ts → IsProper p u × AllProper p rest
low p d f = expr p d.reads f

tests_append : (p : Bool) (us vs : List PlainTest) → ProperTests p us → ProperTests p vs → ProperTests p (us ++ vs)
tests_append p [] vs f g = g
tests_append p (u ∷ us) vs f g = (f.0, f.1, tests_append p us vs f.2 g)

mutual
  conj : {q : Bool} {m : ℕ} {ts rest : List Lexeme} {us : List PlainTest} → (p : Bool) → IsConj q m ts us rest → AllProper p ts → ProperTests p us × AllProper p rest
  conj p (k.comparison rel a b) f = let x = low p a f in let y = low p b x.1.1 in ((x.0, y.0, tt), y.1)
  conj p (k.grouped d) f = let x = cond_of p d f.1 in (x.0, x.1.1)

  cond_of : {q : Bool} {m : ℕ} {ts rest : List Lexeme} {us : List PlainTest} → (p : Bool) → IsCond q m ts us rest → AllProper p ts → ProperTests p us × AllProper p rest
  cond_of p (k.alone d) f = conj p d f
  cond_of p (k.joined {us = us} {vs = vs} a b) f = let x = conj p a f in let y = cond_of p b x.1.1 in (tests_append p us vs x.0 y.0, y.1)

place : {q : Bool} {m : ℕ} {ts rest : List Lexeme} {u : PlainExpr} → (p : Bool) → IsPlace q m ts u rest → AllProper p ts → ProperPlace p u × AllProper p rest
place p (g.of_name x) f = (f.0, f.1)
place p (g.of_cell x d less) f = let y = cells p d f.1 in ((f.0, y.0), y.1)

step : {v : Word} {ts rest : List Lexeme} → (p : Bool) → IsStep v ts rest → AllProper p ts → AllProper p rest
step p (g.behind v) f = f.1.1
step p (g.before v) f = f.1.1
step p (g.by_one v) f = f.1.1.1

chained : (p : Bool) (us vs : PlainStmts) → ProperStmts p us → ProperStmts p vs → ProperStmts p (chain us vs)
chained p no_stmts vs f g = g
chained p (more_stmts a us) vs f g = (f.0, chained p us vs f.1 g)

mutual
  stmt : {q : Bool} {m : ℕ} {open_end : Bool} {ts rest : List Lexeme} {us : PlainStmts} → (p : Bool) → IsStmt q m open_end ts us rest → AllProper p ts → ProperStmts p us × AllProper p rest
  stmt p g.empty f = (tt, f.1)
  stmt p (g.block d) f = let x = stmts p d f.1 in (x.0, x.1.1)
  stmt p (g.assigned mark op is d v) f = let x = place p d f in let y = low p v x.1.1 in (((x.0, mark_of mark op is, y.0), tt), y.1.1)
  stmt p (g.for v rel is lo hi st d) f =
      let x = low p lo f.1.1.1.1.1 in
      let y = low p hi x.1.1.1.1 in
      let z = stmt p d (step p st y.1.1).1 in
      (((f.1.1.1.0, x.0, y.0, z.0), tt), z.1)
  stmt p (g.when c d) f = let x = cond_of p c f.1.1 in let y = stmt p d x.1.1 in (((x.0, y.0, tt), tt), y.1)
  stmt p (g.whether c d o) f = let x = cond_of p c f.1.1 in let y = stmt p d x.1.1 in let z = stmt p o y.1.1 in (((x.0, y.0, z.0), tt), z.1)
  stmt p (g.checked x a less d) f = let y = low p d f.1.1.1.1.1.1.1.1 in (((f.1.1.0, y.0, less), tt), y.1.1.1.1.1.1.1.1)

  stmts : {q : Bool} {m : ℕ} {ts rest : List Lexeme} {us : PlainStmts} → (p : Bool) → IsStmts q m ts us rest → AllProper p ts → ProperStmts p us × AllProper p rest
  stmts p g.end f = (tt, f)
  stmts p (g.more {us = us} {vs = vs} d rest) f = let x = stmt p d f in let y = stmts p rest x.1 in (chained p us vs x.0 y.0, y.1)

-- ---- heads

opposite_proper : (n : ℕ) → n < 2 ^ 64 → ProperInt (opposite n)
opposite_proper zero f = f
opposite_proper (suc n) f = f

int : {ts rest : List Lexeme} {z : ℤ} → (p : Bool) → IsInt ts z rest → AllProper p ts → ProperInt z × AllProper p rest
int p (h.positive n less) f = (f.0, f.1)
int p (h.negative n less) f = (opposite_proper n f.1.0, f.1.1)

range : {ts rest : List Lexeme} {r : Word × ℤ × ℤ} → (p : Bool) → IsRange ts r rest → AllProper p ts → (IsName p r.0 × ProperInt r.1 × ProperInt r.2) × AllProper p rest
range p (h.range x a b) f = let y = int p a f.1.1.1 in let z = int p b y.1 in ((f.1.1.0, y.0, z.0), z.1.1)

ranges : {ts rest : List Lexeme} {rs : List (Word × ℤ × ℤ)} → (p : Bool) → AreRanges ts rs rest → AllProper p ts → ProperRanges p rs × AllProper p rest
ranges p u.no_ranges f = (tt, f)
ranges p (u.more_ranges d rest) f = let x = range p d f in let y = ranges p rest x.1 in ((x.0.0, x.0.1, x.0.2, y.0), y.1)

dims : {q : Bool} {m n : ℕ} {ts rest : List Lexeme} {es : PlainExprs} → (p : Bool) → IsDims q m n ts es rest → AllProper p ts → AreProper p es × AllProper p rest
dims p (h.one_dim d) f = let x = low p d f.1 in ((x.0, tt), x.1.1)
dims p (h.next_dim d ds) f = let x = low p d f.1 in let y = dims p ds x.1.1 in ((x.0, y.0), y.1)

param : {q : Bool} {m : ℕ} {ts rest : List Lexeme} {x : PlainParam} → (p : Bool) → IsParam q m ts x rest → AllProper p ts → ProperParam p x × AllProper p rest
param p (h.number x) f = (f.1.0, f.1.1)
param p (h.array x d) f = let y = dims p d f.1.1 in ((f.1.0, y.0), y.1)
param p (h.constant x d) f = let y = dims p d f.1.1.1 in ((f.1.1.0, y.0), y.1)

params : {q : Bool} {m : ℕ} {ts rest : List Lexeme} {xs : List PlainParam} → (p : Bool) → AreParams q m ts xs rest → AllProper p ts → ProperParams p xs × AllProper p rest
params p (u.one_param d) f = let x = param p d f in ((x.0, tt), x.1)
params p (u.more_params d ds) f = let x = param p d f in let y = params p ds x.1.1 in ((x.0, y.0), y.1)

words : {ts rest : List Lexeme} {ws : List (Word × ℕ)} → (p : Bool) → AreWords ts ws rest → AllProper p ts → ProperWords p ws × AllProper p rest
words p u.no_words f = (tt, f)
words p (u.more_words x n ds) f = let y = words p ds f.1.1.1.1.1 in ((f.1.0, f.1.1.1.0, y.0), y.1)

wide : {ts rest : List Lexeme} {x : Word} → (p : Bool) → IsWide ts x rest → AllProper p ts → IsName p x × AllProper p rest
wide p (h.wide x) f = (f.1.1.0, f.1.1.1.1.1.1)

wides : {ts rest : List Lexeme} {xs : List Word} → (p : Bool) → AreWides ts xs rest → AllProper p ts → ProperWides p xs × AllProper p rest
wides p u.no_wides f = (tt, f)
wides p (u.more_wides d ds) f = let x = wide p d f in let y = wides p ds x.1 in ((x.0, y.0), y.1)

-- ---- the top level

behind_all : (p : Bool) (ts rest : List Lexeme) → AllProper p (ts ++ rest) → AllProper p rest
behind_all p [] rest f = f
behind_all p (a ∷ ts) rest f = behind_all p ts rest f.1

a_table : {q : Bool} {m : ℕ} {ts rest : List Lexeme} {a : PlainStmt} → (p : Bool) → IsTable q m ts a rest → AllProper p ts → ProperStmt p a × AllProper p rest
a_table p (h.made {rest = rest} x d) f = let y = low p d f.1.1.1.1.1.1 in ((f.1.1.0, y.0), behind_all p (h.table_tokens x) rest y.1)

top : {q : Bool} {m : ℕ} {ts rest : List Lexeme} {us : PlainStmts} → (p : Bool) → AreTop q m ts us rest → AllProper p ts → ProperStmts p us × AllProper p rest
top p u.no_top f = (tt, f)
top p (u.more_top {us = us} {vs = vs} d ds) f = let x = stmt p d f in let y = top p ds x.1 in (chained p us vs x.0 y.0, y.1)
top p (u.table_top d ds) f = let x = a_table p d f in let y = top p ds x.1 in ((x.0, y.0), y.1)

pairs : (p : Bool) (a : ℕ) (xs : List Word) (rest : List Lexeme) → a ≤ 2 ^ 64 → AllProper p (more_pair_tokens a xs rest) → a + length xs ≤ 2 ^ 64
pairs p a [] rest less f = omega arith
pairs p a (x ∷ xs) rest less f = let small = f.1.1.1.1.1.1.1.1.1.1.0 in let go = pairs p (suc a) xs rest (omega arith) f.1.1.1.1.1.1.1.1.1.1.1 in omega arith

pub arrays : (p : Bool) (xs : List Word) (rest : List Lexeme) → AllProper p (verdict_tokens xs rest) → length xs ≤ 2 ^ 64
arrays p [] rest f = omega arith
arrays p (x ∷ xs) rest f = let go = pairs p 1 xs (t.symbol s.Semicolon ∷ rest) (omega arith) f.1.1.1.1.1.1.1.1.1.1.1 in omega arith

-- ---- units

-- the first token is the preamble
abbrev pub leads : List Lexeme → Bool
leads [] = false
leads (t.name x ∷ ts) = false
leads (t.number n ∷ ts) = false
leads (t.symbol j ∷ ts) = is_preamble j

leads_ranges : {ts rest : List Lexeme} {rs : List (Word × ℤ × ℤ)} → AreRanges ts rs rest → leads rest ≡ false → leads ts ≡ false
leads_ranges u.no_ranges e = e
leads_ranges (u.more_ranges (h.range x a b) ds) e = refl

-- a source has no preamble, and its tokens are proper where the text's are; a printed unit has one, and the tokens behind it are
pub record Split (ts : List Lexeme) (a : PlainUnit) : Type 0 where
  pub source : leads ts ≡ false → (a.version ≡ None) × (AllProper false ts → ProperUnit false a)
  pub printed : leads ts ≡ true → (a.version ≡ Some 1) × (AllProper true (drop 1 ts) → ProperUnit true a)

pub split : (ts : List Lexeme) (a : PlainUnit) → IsUnit ts a → Split ts a
split ts _ (u.source {ps = ps} f rs xs ws body less) = record {
  source = λ e. (
    refl,
    λ all.
        let r = ranges false rs all in
        let x = params false xs r.1.1.1.1 in
        let y = words false ws x.1.1.1 in
        let z = stmts false body y.1 in
        record { ranges = r.0; name = r.1.1.0; params = x.0; words = y.0; wides = tt; body = z.0; arrays = λ q. absurd (let never : ⊥ = cc in never) },
  );
  printed = λ e. absurd (both_ways (leads ts) (leads_ranges rs refl) e);
}
split _ _ (u.printed {ps = ps} {us = us} {vs = vs} f rs xs ws ds before body less lesser checks others) = record {
  source = λ e. absurd (let never : ⊥ = cc in never);
  printed = λ e. (
    refl,
    λ all.
        let r = ranges true rs all.1.1.1.1 in
        let x = params true xs r.1.1.1.1 in
        let y = words true ws x.1.1.1 in
        let v = wides true ds y.1 in
        let b = top true before v.1 in
        let c = top true body b.1.1.1.1 in
        record { ranges = r.0; name = r.1.1.0; params = x.0; words = y.0; wides = v.0; body = chained true us (more_stmts begin (chain vs (one verdict))) b.0 (tt, chained true vs (one verdict) c.0 (refl, tt)); arrays = λ q. arrays true (arrays_in ps) _ c.1 },
  );
}
