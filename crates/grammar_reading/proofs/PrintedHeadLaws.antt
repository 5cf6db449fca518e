-- Versions, wide declarations and tables: the function against the relation.
use Rattle.std.proofs.Common.{◌≡◌, ◌<◌, ◌≤◌, List, [], ◌∷◌, ◌++◌, length, Some, option_and_then, refl, sym, ap, ◌∙◌, subst, arith}
use Rattle.std.proofs.lemmas.Option.{same_Some, some_pair_parts}
use Rattle.c_tree.specs.Plain.{Word, PlainStmt, table}
use Rattle.c_tree.specs.declared.symbol.Symbol.TheVariants as s
use Rattle.c_tree.specs.Grammar.Lexemes as t
use Rattle.c_tree.specs.Grammar.Lexemes.{Lexeme}
use Rattle.c_tree.specs.Grammar.Expressions.{IsLow}
use Rattle.grammar_reading.specs.declared.rules.Rules.{Rules}
use Rattle.grammar_reading.proofs.StepLemmas.{bind_is, expect_is, expect_self}
use Rattle.grammar_reading.specs.Blocks.{name_at, side}
use Rattle.grammar_reading.proofs.SoundBlocks.{name_is, this_name_is, this_number_is, low_at}
use Rattle.grammar_reading.proofs.CompleteBlocks.{name_self, this_name_self, this_number_self, side_read}
use Rattle.c_tree.specs.Grammar.Heads as h
use Rattle.grammar_reading.specs.HeadReading.{this, fixed, wide_at, table_at}
use Rattle.c_tree.specs.Grammar.Heads.{version_tokens, zero_tokens, IsWide, calloc_tokens, table_tokens, IsTable}

this_is : (p : Lexeme) (ts rest : List Lexeme) → this p ts ≡ Some rest → ts ≡ p ∷ rest
unfolding this
this_is (t.name x) ts rest e = this_name_is x ts rest e
this_is (t.number n) ts rest e = this_number_is n ts rest e
this_is (t.symbol j) ts rest e = expect_is j ts rest e

this_self : (p : Lexeme) (ts : List Lexeme) → this p (p ∷ ts) ≡ Some ts
unfolding this
this_self (t.name x) ts = this_name_self x ts
this_self (t.number n) ts = this_number_self n ts
this_self (t.symbol j) ts = expect_self j ts

pub fixed_is : (ps ts rest : List Lexeme) → fixed ps ts ≡ Some rest → ts ≡ ps ++ rest
unfolding fixed
fixed_is [] ts rest e = same_Some ts rest e
fixed_is (p ∷ ps) ts rest e = let (z, h1, h2) = bind_is _ (this p ts) rest e in this_is p ts z h1 ∙ ap (λ y. p ∷ y) (fixed_is ps z rest h2)

pub fixed_self : (ps ts : List Lexeme) → fixed ps (ps ++ ts) ≡ Some ts
unfolding fixed
fixed_self [] ts = refl
fixed_self (p ∷ ps) ts = ap (option_and_then _) (this_self p (ps ++ ts)) ∙ fixed_self ps ts

pub wide_sound : (ts rest : List Lexeme) (x : Word) → wide_at ts ≡ Some (x, rest) → IsWide ts x rest
unfolding wide_at
wide_sound ts rest x e =
    let (t1, h1, h2) = bind_is _ (fixed (t.symbol s.Unsigned ∷ t.symbol s.Int128 ∷ []) ts) (x, rest) e in
    let (y, h3, h4) = bind_is _ (name_at t1) (x, rest) h2 in
    let (r, h5, h6) = bind_is _ (fixed zero_tokens y.1) (x, rest) h4 in
    let q = some_pair_parts y.0 x r rest h6 in
    let is : ts ≡ t.symbol s.Unsigned ∷ t.symbol s.Int128 ∷ t.name x ∷ (zero_tokens ++ rest) =
    fixed_is (t.symbol s.Unsigned ∷ t.symbol s.Int128 ∷ []) ts t1 h1 ∙ ap (λ z. t.symbol s.Unsigned ∷ t.symbol s.Int128 ∷ z) (name_is t1 y.1 y.0 h3 ∙ ap (λ v. t.name v ∷ y.1) q.0 ∙ ap (λ z. t.name x ∷ z) (fixed_is zero_tokens y.1 r h5 ∙ ap (λ z. zero_tokens ++ z) q.1)) in
    subst (λ z. IsWide z x rest) (sym is) (h.wide x)

pub wide_read : (ts rest : List Lexeme) (x : Word) → IsWide ts x rest → wide_at ts ≡ Some (x, rest)
unfolding wide_at
wide_read _ rest x (h.wide _) = ap (option_and_then _) (fixed_self (t.symbol s.Unsigned ∷ t.symbol s.Int128 ∷ []) _) ∙ ap (option_and_then _) (name_self x _) ∙ ap (option_and_then _) (fixed_self zero_tokens rest)

pub table_sound : (c : Rules) → 1 ≤ c.limit → (ts rest : List Lexeme) (x : PlainStmt) → table_at c ts ≡ Some (x, rest) → IsTable c.printed c.limit ts x rest
unfolding table_at
table_sound c some ts rest x e =
    let (t1, h1, h2) = bind_is _ (fixed (t.symbol s.Uint64 ∷ t.symbol s.Star ∷ []) ts) (x, rest) e in
    let (y, h3, h4) = bind_is _ (name_at t1) (x, rest) h2 in
    let (t3, h5, h6) = bind_is _ (fixed calloc_tokens y.1) (x, rest) h4 in
    let (u, h7, h8) = bind_is _ (side c t3) (x, rest) h6 in
    let (r, h9, h10) = bind_is _ (fixed (table_tokens y.0) u.1) (x, rest) h8 in
    let q = some_pair_parts (table y.0 u.0) x r rest h10 in
    let low : IsLow c.printed c.limit 1 t3 u.0 (table_tokens y.0 ++ rest) = subst (λ z. IsLow c.printed c.limit 1 t3 u.0 z) (fixed_is (table_tokens y.0) u.1 r h9 ∙ ap (λ z. table_tokens y.0 ++ z) q.1) (low_at c some t3 u.1 u.0 h7) in
    let d : IsTable c.printed c.limit (t.symbol s.Uint64 ∷ t.symbol s.Star ∷ t.name y.0 ∷ (calloc_tokens ++ t3)) (table y.0 u.0) rest = h.made y.0 low in
    let is : ts ≡ t.symbol s.Uint64 ∷ t.symbol s.Star ∷ t.name y.0 ∷ (calloc_tokens ++ t3) =
    fixed_is (t.symbol s.Uint64 ∷ t.symbol s.Star ∷ []) ts t1 h1 ∙ ap (λ z. t.symbol s.Uint64 ∷ t.symbol s.Star ∷ z) (name_is t1 y.1 y.0 h3 ∙ ap (λ z. t.name y.0 ∷ z) (fixed_is calloc_tokens y.1 t3 h5)) in
    subst (λ z. IsTable c.printed c.limit z x rest) (sym is) (subst (λ w. IsTable c.printed c.limit (t.symbol s.Uint64 ∷ t.symbol s.Star ∷ t.name y.0 ∷ (calloc_tokens ++ t3)) w rest) q.0 d)

pub table_read : (c : Rules) (ts rest : List Lexeme) (x : PlainStmt) → IsTable c.printed c.limit ts x rest → length ts < c.turns → table_at c ts ≡ Some (x, rest)
unfolding table_at
table_read c _ rest _ (h.made {ts = ts} {u = u} x d) turns =
    ap (option_and_then _) (fixed_self (t.symbol s.Uint64 ∷ t.symbol s.Star ∷ []) _) ∙ ap (option_and_then _) (name_self x _) ∙ ap (option_and_then _) (fixed_self calloc_tokens ts)
    ∙ ap (option_and_then _) (side_read c ts _ u d (omega arith) refl) ∙ ap (option_and_then _) (fixed_self (table_tokens x) rest)
