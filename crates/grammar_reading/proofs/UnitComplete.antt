-- Whatever is a unit is read as one.
use Rattle.std.proofs.Common.{◌≡◌, ℕ, zero, suc, ℤ, ◌<◌, ◌≤◌, List, [], ◌∷◌, ◌++◌, length, Bool, true, false, cond, Option, Some, None, option_and_then, is_some, refl, sym, ap, ◌∙◌, arith}
use Rattle.std.proofs.lemmas.Bool.{and_from}
use Rattle.std.proofs.lemmas.List.{append-nil, append_assoc}
use Rattle.c_tree.specs.Names.{arrays_in}
use Rattle.c_tree.specs.Plain.{Word, PlainExprs, PlainStmt, begin, verdict, PlainStmts, no_stmts, more_stmts, PlainParam, PlainUnit}
use Rattle.c_tree.specs.declared.symbol.Symbol.{Symbol}
use Rattle.c_tree.specs.declared.symbol.Symbol.TheVariants as s
use Rattle.c_tree.specs.Grammar.Lexemes as t
use Rattle.c_tree.specs.Grammar.Lexemes.{Lexeme}
use Rattle.c_tree.specs.Grammar.Statements as b
use Rattle.c_tree.specs.Grammar.Statements.{chain, one, stmt_limit, stmt_height, stmts_height, IsStmt, IsStmts}
use Rattle.c_tree.specs.Grammar.Heads as h
use Rattle.c_tree.specs.Grammar.Heads.{IsInt, IsRange, IsDims, IsParam, IsWide, IsTable, version_tokens, begin_tokens, calloc_tokens, table_tokens}
use Rattle.c_tree.specs.Grammar.Units as k
use Rattle.c_tree.specs.Grammar.Units.{AreRanges, AreParams, AreWords, AreWides, AreTop, IsUnit, pair_tokens, more_pair_tokens, verdict_tokens, all_checks_below}
use Rattle.grammar_reading.specs.declared.rules.Rules.{Rules}
use Rattle.grammar_reading.specs.Reading.{Read, same, expect, all_read}
use Rattle.grammar_reading.specs.Blocks.{name_at, body}
use Rattle.grammar_reading.specs.HeadReading.{range_at, wide_at}
use Rattle.grammar_reading.specs.UnitReading.{begins, many, many_by, declaration_at, declaration_begins, wides, more_pairs, totals_at, verdict_at, params, params_by, head_at, table_of, top_one, top_by, top, start_at, source_at, halves_at, printed_body, printed_at, rules_of, unit_by, unit_at}
use Rattle.grammar_reading.proofs.StepLemmas.{expect_self, number_self}
use Rattle.grammar_reading.proofs.Complete.{shorter}
use Rattle.grammar_reading.proofs.CompleteBlocks.{Begins, begins as stmt_begins, name_self, shorter_stmt, chain_again, chain_none, chain_heights, body_complete, inside_read}
use Rattle.grammar_reading.proofs.HeadLaws.{range_read, param_read}
use Rattle.grammar_reading.proofs.PrintedHeadLaws.{fixed_self, wide_read, table_read}

-- ---- what is left is shorter

shorter_int : {ts rest : List Lexeme} {z : ℤ} → IsInt ts z rest → length rest < length ts
shorter_int (h.positive n below) = omega arith
shorter_int (h.negative n below) = omega arith

shorter_range : {ts rest : List Lexeme} {x : Word × ℤ × ℤ} → IsRange ts x rest → length rest < length ts
shorter_range (h.range x lo hi) = omega (arith, shorter_int lo, shorter_int hi)

shorter_ranges : {ts rest : List Lexeme} {xs : List (Word × ℤ × ℤ)} → AreRanges ts xs rest → length rest ≤ length ts
shorter_ranges k.no_ranges = omega arith
shorter_ranges (k.more_ranges d others) = omega (arith, shorter_range d, shorter_ranges others)

shorter_dims : {p : Bool} {m n : ℕ} {ts rest : List Lexeme} {us : PlainExprs} → IsDims p m n ts us rest → length rest < length ts
shorter_dims (h.one_dim d) = omega (arith, shorter d.reads)
shorter_dims (h.next_dim d others) = omega (arith, shorter d.reads, shorter_dims others)

shorter_param : {p : Bool} {m : ℕ} {ts rest : List Lexeme} {x : PlainParam} → IsParam p m ts x rest → length rest < length ts
shorter_param (h.number x) = omega arith
shorter_param (h.array x d) = omega (arith, shorter_dims d)
shorter_param (h.constant x d) = omega (arith, shorter_dims d)

shorter_params : {p : Bool} {m : ℕ} {ts rest : List Lexeme} {xs : List PlainParam} → AreParams p m ts xs rest → length rest < length ts
shorter_params (k.one_param d) = shorter_param d
shorter_params (k.more_params d others) = omega (arith, shorter_param d, shorter_params others)

shorter_words : {ts rest : List Lexeme} {xs : List (Word × ℕ)} → AreWords ts xs rest → length rest ≤ length ts
shorter_words k.no_words = omega arith
shorter_words (k.more_words x n others) = omega (arith, shorter_words others)

shorter_wide : {ts rest : List Lexeme} {x : Word} → IsWide ts x rest → length rest < length ts
shorter_wide (h.wide x) = omega arith

shorter_wides : {ts rest : List Lexeme} {xs : List Word} → AreWides ts xs rest → length rest ≤ length ts
shorter_wides k.no_wides = omega arith
shorter_wides (k.more_wides d others) = omega (arith, shorter_wide d, shorter_wides others)

shorter_table : {p : Bool} {m : ℕ} {ts rest : List Lexeme} {u : PlainStmt} → IsTable p m ts u rest → length rest < length ts
shorter_table (h.made x d) = omega (arith, shorter d.reads)

shorter_top : {p : Bool} {m : ℕ} {ts rest : List Lexeme} {us : PlainStmts} → AreTop p m ts us rest → length rest ≤ length ts
shorter_top k.no_top = omega arith
shorter_top (k.more_top d others) = omega (arith, shorter_stmt d, shorter_top others)
shorter_top (k.table_top d others) = omega (arith, shorter_table d, shorter_top others)

-- ---- lists of parts

module _ {A : Type 0} (part : List Lexeme → Read A) (another : List Lexeme → Bool) where
  -- parts as they are read, up to where none begins
  data Many : List Lexeme → List A → List Lexeme → Type 0 where
    none : {rest : List Lexeme} → another rest ≡ false → Many rest [] rest
    more : {ts after rest : List Lexeme} {x : A} {xs : List A} → another ts ≡ true → part ts ≡ Some (x, after) → length after < length ts → Many after xs rest → Many ts (x ∷ xs) rest

  many_read : {ts rest : List Lexeme} {xs : List A} → Many ts xs rest → (n : ℕ) (acc : List A) → length ts < n → many part another n acc ts ≡ Some (acc ++ xs, rest)
  unfolding many
  many_read d zero acc turns = absurd (let never : ⊥ = omega arith in never)
  many_read {rest = rest} (none ends) (suc n) acc turns = ap (many_by part another (many part another n) acc rest) ends ∙ ap (λ z. Some (z, rest)) (sym (append-nil acc))
  many_read {ts = ts} {rest = rest} (more {after = after} {x = x} {xs = xs} goes reads less others) (suc n) acc turns =
      ap (many_by part another (many part another n) acc ts) goes ∙ ap (option_and_then _) reads ∙ many_read {ts = after} others n (acc ++ x ∷ []) (omega arith) ∙ ap (λ z. Some (z, rest)) (append_assoc acc (x ∷ []) xs)

first : (j : Symbol) (ts : List Lexeme) → begins j (t.symbol j ∷ ts) ≡ true
first j ts = ap is_some (expect_self j ts)

not_first : (j : Symbol) (ts : List Lexeme) → expect j ts ≡ None → begins j ts ≡ false
not_first j ts e = ap is_some e

range_begins : {ts rest : List Lexeme} {x : Word × ℤ × ℤ} → IsRange ts x rest → begins s.Directive ts ≡ true
range_begins (h.range x lo hi) = first s.Directive _

ranges_many : {ts rest : List Lexeme} {xs : List (Word × ℤ × ℤ)} → AreRanges ts xs rest → begins s.Directive rest ≡ false → Many range_at (begins s.Directive) ts xs rest
ranges_many k.no_ranges ends = none ends
ranges_many (k.more_ranges d others) ends = more (range_begins d) (range_read d) (shorter_range d) (ranges_many others ends)

word_self : (x : Word) (n : ℕ) (ts : List Lexeme) → declaration_at (t.symbol s.Uint64 ∷ t.name x ∷ t.symbol s.Assign ∷ t.number n ∷ t.symbol s.Semicolon ∷ ts) ≡ Some ((x, n), ts)
unfolding declaration_at
word_self x n ts = ap (option_and_then _) (expect_self s.Uint64 _) ∙ ap (option_and_then _) (name_self x _) ∙ ap (option_and_then _) (expect_self s.Assign _) ∙ ap (option_and_then _) (number_self n _) ∙ ap (option_and_then _) (expect_self s.Semicolon ts)

word_first : (x : Word) (ts : List Lexeme) → declaration_begins (t.symbol s.Uint64 ∷ t.name x ∷ ts) ≡ true
unfolding declaration_begins
word_first x ts = ap (λ (o : Option (List Lexeme)). is_some (option_and_then name_at o)) (expect_self s.Uint64 (t.name x ∷ ts)) ∙ ap is_some (name_self x ts)

-- no word without `uint64_t`
no_word : (ts : List Lexeme) → expect s.Uint64 ts ≡ None → declaration_begins ts ≡ false
unfolding declaration_begins
no_word ts e = ap (λ (o : Option (List Lexeme)). is_some (option_and_then name_at o)) e

words_many : {ts rest : List Lexeme} {xs : List (Word × ℕ)} → AreWords ts xs rest → declaration_begins rest ≡ false → Many declaration_at declaration_begins ts xs rest
words_many k.no_words ends = none ends
words_many (k.more_words {ts = ts} x n others) ends = more (word_first x _) (word_self x n ts) (omega arith) (words_many others ends)

wide_begins : {ts rest : List Lexeme} {x : Word} → IsWide ts x rest → begins s.Unsigned ts ≡ true
wide_begins (h.wide x) = first s.Unsigned _

wides_many : {ts rest : List Lexeme} {xs : List Word} → AreWides ts xs rest → begins s.Unsigned rest ≡ false → Many wide_at (begins s.Unsigned) ts xs rest
wides_many k.no_wides ends = none ends
wides_many (k.more_wides {ts = ts} {after = after} {x = x} d others) ends = more (wide_begins d) (wide_read ts after x d) (shorter_wide d) (wides_many others ends)

-- ---- the verdict

pairs_read : (a : ℕ) (xs : List Word) (rest : List Lexeme) → more_pairs a (length xs) (more_pair_tokens a xs rest) ≡ Some rest
unfolding more_pairs
pairs_read a [] rest = refl
pairs_read a (x ∷ xs) rest = ap (option_and_then _) (expect_self s.Bar _) ∙ ap (option_and_then _) (fixed_self (pair_tokens a) _) ∙ pairs_read (suc a) xs rest

verdict_read : (xs : List Word) (rest : List Lexeme) → verdict_at (length xs) (verdict_tokens xs rest) ≡ Some rest
unfolding verdict_at totals_at
verdict_read [] rest = ap (option_and_then _) (expect_self s.Return _) ∙ ap (option_and_then _) (fixed_self (t.number 0 ∷ []) _) ∙ expect_self s.Semicolon rest
verdict_read (x ∷ xs) rest =
    ap (option_and_then _) (expect_self s.Return _) ∙ ap (option_and_then _) (ap (option_and_then _) (fixed_self (pair_tokens 0) _) ∙ pairs_read 1 xs (t.symbol s.Semicolon ∷ rest)) ∙ expect_self s.Semicolon rest

wide_no_word : {ts rest : List Lexeme} {x : Word} → IsWide ts x rest → declaration_begins ts ≡ false
unfolding expect same declaration_begins
wide_no_word (h.wide x) = refl

-- ---- where the top level ends

data Ends : List Lexeme → Type 0 where
  at_begin : {ts : List Lexeme} → Ends (t.symbol s.Directive ∷ ts)
  at_verdict : {ts : List Lexeme} → Ends (t.symbol s.Return ∷ ts)

verdict_ends : (xs : List Word) (rest : List Lexeme) → Ends (verdict_tokens xs rest)
verdict_ends [] rest = at_verdict
verdict_ends (x ∷ xs) rest = at_verdict

-- what the top level doesn't begin with
abbrev Fronts : List Lexeme → Type 0
Fronts ts = (expect s.Else ts ≡ None) × (declaration_begins ts ≡ false) × (begins s.Unsigned ts ≡ false)

ends_fronts : {ts : List Lexeme} → Ends ts → Fronts ts
unfolding expect same declaration_begins
ends_fronts at_begin = (refl, refl, refl)
ends_fronts at_verdict = (refl, refl, refl)

table_fronts : {p : Bool} {m : ℕ} {ts rest : List Lexeme} {u : PlainStmt} → IsTable p m ts u rest → Fronts ts
unfolding expect same declaration_begins name_at
table_fronts (h.made x d) = (refl, refl, refl)

stmt_fronts : (ts : List Lexeme) → Begins ts → Fronts ts
stmt_fronts ts f = (f.2, no_word ts f.4, not_first s.Unsigned ts f.5)

top_fronts : {p : Bool} {m : ℕ} {ts rest : List Lexeme} {us : PlainStmts} → AreTop p m ts us rest → Ends rest → Fronts ts
top_fronts k.no_top ends = ends_fronts ends
top_fronts {ts = ts} (k.more_top d others) ends = stmt_fronts ts (stmt_begins d)
top_fronts (k.table_top d others) ends = table_fronts d

table_begins : {p : Bool} {m : ℕ} {ts rest : List Lexeme} {u : PlainStmt} → IsTable p m ts u rest → (begins s.Directive ts ≡ false) × (begins s.Return ts ≡ false) × (begins s.Uint64 ts ≡ true)
unfolding expect same
table_begins (h.made x d) = (refl, refl, refl)

block_fronts : {p : Bool} {m : ℕ} {ts rest : List Lexeme} {us : PlainStmts} → IsStmts p m ts us (t.symbol s.CloseBrace ∷ rest) → declaration_begins ts ≡ false
unfolding expect same declaration_begins
block_fronts b.end = refl
block_fronts {ts = ts} (b.more d others) = no_word ts (stmt_begins d).4

-- ---- the function

comma_bracket : (ts : List Lexeme) → expect s.OpenBracket (t.symbol s.Comma ∷ ts) ≡ None
unfolding expect same
comma_bracket ts = refl

close_follows : (ts : List Lexeme) → (expect s.Comma (t.symbol s.CloseParen ∷ ts) ≡ None) × (expect s.OpenBracket (t.symbol s.CloseParen ∷ ts) ≡ None)
unfolding expect same
close_follows ts = (refl, refl)

module _ (c : Rules) where
  params_read : {ts rest : List Lexeme} {xs : List PlainParam} → AreParams c.printed c.limit ts xs rest → length ts < c.turns → expect s.Comma rest ≡ None → expect s.OpenBracket rest ≡ None
      → (n : ℕ) (acc : List PlainParam) → length ts < n → params c n acc ts ≡ Some (acc ++ xs, rest)
  unfolding params
  params_read d turns ends stops zero acc room = absurd (let never : ⊥ = omega arith in never)
  params_read {rest = rest} (k.one_param {x = x} d) turns ends stops (suc n) acc room =
      ap (option_and_then _) (param_read c d turns stops) ∙ ap (params_by c (params c n) (acc ++ x ∷ []) rest) ends
  params_read {rest = rest} (k.more_params {after = after} {x = x} {xs = xs} d others) turns ends stops (suc n) acc room =
      let less = shorter_param d in
      ap (option_and_then _) (param_read c d turns (comma_bracket after)) ∙ ap (params_by c (params c n) (acc ++ x ∷ []) (t.symbol s.Comma ∷ after)) (expect_self s.Comma after)
      ∙ params_read others (omega arith) ends stops n (acc ++ x ∷ []) (omega arith) ∙ ap (λ z. Some (z, rest)) (append_assoc acc (x ∷ []) xs)

  head_read : (f : Word) (ts rest : List Lexeme) (xs : List PlainParam) → AreParams c.printed c.limit ts xs (t.symbol s.CloseParen ∷ t.symbol s.OpenBrace ∷ rest) → length ts < c.turns
      → head_at c (t.name f ∷ t.symbol s.OpenParen ∷ ts) ≡ Some ((f, xs), rest)
  unfolding head_at
  head_read f ts rest xs d turns =
      ap (option_and_then _) (name_self f _) ∙ ap (option_and_then _) (expect_self s.OpenParen ts)
      ∙ ap (option_and_then _) (params_read d turns (close_follows _).0 (close_follows _).1 c.turns [] turns)
      ∙ ap (option_and_then _) (expect_self s.CloseParen _) ∙ ap (option_and_then _) (expect_self s.OpenBrace rest)

  start_read : (type : Symbol) (f : Word) (ts inner second rest : List Lexeme) (rs : List (Word × ℤ × ℤ)) (ps : List PlainParam) (ws : List (Word × ℕ)) → begins s.Directive (t.symbol type ∷ t.name f ∷ t.symbol s.OpenParen ∷ inner) ≡ false
      → AreRanges ts rs (t.symbol type ∷ t.name f ∷ t.symbol s.OpenParen ∷ inner) → AreParams c.printed c.limit inner ps (t.symbol s.CloseParen ∷ t.symbol s.OpenBrace ∷ second) → AreWords second ws rest → declaration_begins rest ≡ false
      → length ts < c.turns → start_at c type ts ≡ Some (record { ranges = rs; name = f; params = ps; words = ws }, rest)
  unfolding start_at
  start_read type f ts inner second rest rs ps ws ends dr dp dw stops turns =
      let less = shorter_ranges dr in
      let less2 = shorter_params dp in
      ap (option_and_then _) (many_read range_at (begins s.Directive) (ranges_many dr ends) c.turns [] turns) ∙ ap (option_and_then _) (expect_self type _)
      ∙ ap (option_and_then _) (head_read f inner second ps dp (omega arith)) ∙ ap (option_and_then _) (many_read declaration_at declaration_begins (words_many dw stops) c.turns [] (omega arith))

  -- ---- the top level

  table_one : (ts rest : List Lexeme) (u : PlainStmt) → IsTable c.printed c.limit ts u rest → length ts < c.turns → table_of c ts ≡ Some (one u, rest)
  unfolding table_of
  table_one ts rest u d turns = ap (option_and_then _) (table_read c ts rest u d turns)

  top_ends : (n : ℕ) (acc : PlainStmts) (ts : List Lexeme) → Ends ts → top c (suc n) acc ts ≡ Some (acc, ts)
  unfolding top expect same
  top_ends n acc ts at_begin = refl
  top_ends n acc ts at_verdict = refl

  top_goes_on : (n : ℕ) (acc us : PlainStmts) (ts rest : List Lexeme) (table : Bool) → begins s.Directive ts ≡ false → begins s.Return ts ≡ false → begins s.Uint64 ts ≡ table → top_one c ts table ≡ Some (us, rest) → top c (suc n) acc ts ≡ top c n (chain acc us) rest
  unfolding top
  top_goes_on n acc us ts rest table no_directive no_return is reads =
      ap (λ z. top_by c (top c n) acc ts z (begins s.Return ts)) no_directive ∙ ap (top_by c (top c n) acc ts false) no_return ∙ ap (λ z. option_and_then (λ (x : PlainStmts × List Lexeme). top c n (chain acc x.0) x.1) (top_one c ts z)) is ∙ ap (option_and_then _) reads

  top_read : {ts rest : List Lexeme} {us : PlainStmts} → AreTop c.printed c.limit ts us rest → Ends rest → 1 ≤ c.limit → stmts_height us ≤ stmt_limit c.printed → length ts < c.turns
      → (n : ℕ) (acc : PlainStmts) → length ts < n → top c n acc ts ≡ Some (chain acc us, rest)
  top_read d ends some low turns zero acc room = absurd (let never : ⊥ = omega arith in never)
  top_read {rest = rest} k.no_top ends some low turns (suc n) acc room = top_ends n acc rest ends ∙ ap (λ z. Some (z, rest)) (sym (chain_none acc))
  top_read {ts = ts} {rest = rest} (k.more_top {open_end = open_end} {after = after} {us = us} {vs = vs} d others) ends some low turns (suc n) acc room =
      let less = shorter_stmt d in
      let heights = chain_heights us vs in
      let front = stmt_begins d in
      top_goes_on n acc us ts after false (not_first s.Directive ts front.3) (not_first s.Return ts front.1) (not_first s.Uint64 ts front.4)
      (body_complete c (stmt_limit c.printed) open_end ts after us some d (omega arith) turns (λ e. (top_fronts others ends).0))
      ∙ top_read others ends some (omega arith) (omega arith) n (chain acc us) (omega arith) ∙ ap (λ z. Some (z, rest)) (chain_again acc us vs)
  top_read {ts = ts} {rest = rest} (k.table_top {after = after} {u = u} {vs = vs} d others) ends some low turns (suc n) acc room =
      let less = shorter_table d in
      let front = table_begins d in
      top_goes_on n acc (one u) ts after true front.0 front.1 front.2 (table_one ts after u d turns)
      ∙ top_read others ends some (omega arith) (omega arith) n (chain acc (one u)) (omega arith) ∙ ap (λ z. Some (z, rest)) (chain_again acc (one u) vs)

  halves_read : (ts between rest : List Lexeme) (us vs : PlainStmts) → AreTop c.printed c.limit ts us (begin_tokens ++ between) → AreTop c.printed c.limit between vs rest → Ends rest → 1 ≤ c.limit
      → stmts_height us ≤ stmt_limit c.printed → stmts_height vs ≤ stmt_limit c.printed → length ts < c.turns → halves_at c ts ≡ Some ((us, vs), rest)
  unfolding halves_at
  halves_read ts between rest us vs d d2 ends some low low2 turns =
      let less = shorter_top d in
      ap (option_and_then _) (top_read d at_begin some low turns c.turns no_stmts turns) ∙ ap (option_and_then _) (fixed_self begin_tokens between)
      ∙ ap (option_and_then _) (top_read d2 ends some low2 (omega arith) c.turns no_stmts (omega arith))

  printed_body_read : (arrays : List Word) (ts between rest : List Lexeme) (us vs : PlainStmts) → AreTop c.printed c.limit ts us (begin_tokens ++ between) → AreTop c.printed c.limit between vs (verdict_tokens arrays (t.symbol s.CloseBrace ∷ rest)) → 1 ≤ c.limit
      → stmts_height us ≤ stmt_limit c.printed → stmts_height vs ≤ stmt_limit c.printed → length ts < c.turns → all_checks_below (length arrays) us ≡ true → all_checks_below (length arrays) vs ≡ true
      → printed_body c (length arrays) ts ≡ Some (chain us (more_stmts begin (chain vs (one verdict))), rest)
  unfolding printed_body
  printed_body_read arrays ts between rest us vs d d2 some low low2 turns checks checks2 =
      ap (option_and_then _) (halves_read ts between _ us vs d d2 (verdict_ends arrays _) some low low2 turns) ∙ ap (option_and_then _) (verdict_read arrays _) ∙ ap (option_and_then _) (expect_self s.CloseBrace rest)
      ∙ ap (λ (z : Bool). cond z (Some (chain us (more_stmts begin (chain vs (one verdict))), rest)) None) (and_from (all_checks_below (length arrays) us) (all_checks_below (length arrays) vs) checks checks2)

-- ---- the unit

types : (ts : List Lexeme) → (begins s.Directive (t.symbol s.Void ∷ ts) ≡ false) × (begins s.Directive (t.symbol s.Uint64 ∷ ts) ≡ false) × (expect s.Preamble (t.symbol s.Void ∷ ts) ≡ None) × (expect s.Preamble (t.symbol s.Directive ∷ ts) ≡ None)
unfolding expect same
types ts = (refl, refl, refl, refl)

range_no_preamble : {ts rest : List Lexeme} {x : Word × ℤ × ℤ} → IsRange ts x rest → expect s.Preamble ts ≡ None
range_no_preamble (h.range x lo hi) = (types _).3

no_preamble : {ts rest : List Lexeme} {xs : List (Word × ℤ × ℤ)} → AreRanges ts xs rest → expect s.Preamble rest ≡ None → expect s.Preamble ts ≡ None
no_preamble k.no_ranges e = e
no_preamble (k.more_ranges d others) e = range_no_preamble d

wides_no_word : {ts rest : List Lexeme} {xs : List Word} → AreWides ts xs rest → declaration_begins rest ≡ false → declaration_begins ts ≡ false
wides_no_word k.no_wides e = e
wides_no_word (k.more_wides d others) e = wide_no_word d

-- what is done with a unit and the rest
abbrev ending : PlainUnit × List Lexeme → Option PlainUnit
ending x = all_read x.0 x.1

pub unit_read : {ts : List Lexeme} {u : PlainUnit} → IsUnit ts u → unit_at ts ≡ Some u
unfolding unit_at source_at printed_at
unit_read (k.source {ts = ts} {params = inner} {words = second} {body = body} {rs = rs} {ps = ps} {ws = ws} {us = us} f dr dp dw db low) =
    let c = rules_of false (suc (length ts)) in
    let less = shorter_ranges dr in
    let less2 = shorter_params dp in
    let less3 = shorter_words dw in
    ap (λ (o : Option (List Lexeme)). option_and_then ending (unit_by (suc (length ts)) ts o)) (no_preamble dr (types _).2)
    ∙ ap (option_and_then _) (ap (option_and_then _) (start_read c s.Void f ts inner second body rs ps ws (types _).0 dr dp dw (block_fronts db) (omega arith))
    ∙ ap (option_and_then _) (inside_read c 64 body [] us (omega arith) db low (omega arith)))
unit_read (k.printed {ts = ts} {params = inner} {words = second} {wides = wides} {before = before} {body = between} {rs = rs} {ps = ps} {ws = ws} {xs = xs} {us = us} {vs = vs} f dr dp dw dx d d2 low low2 checks checks2) =
    let turns = suc (length (t.symbol s.Preamble ∷ (version_tokens ++ ts))) in
    let c = rules_of true turns in
    let less = shorter_ranges dr in
    let less2 = shorter_params dp in
    let less3 = shorter_words dw in
    let less4 = shorter_wides dx in
    let front = top_fronts d at_begin in
    ap (λ (o : Option (List Lexeme)). option_and_then ending (unit_by turns (t.symbol s.Preamble ∷ (version_tokens ++ ts)) o)) (expect_self s.Preamble (version_tokens ++ ts))
    ∙ ap (option_and_then _) (ap (option_and_then _) (fixed_self version_tokens ts)
    ∙ ap (option_and_then _) (start_read c s.Uint64 f ts inner second wides rs ps ws (types _).1 dr dp dw (wides_no_word dx front.1) (omega arith))
    ∙ ap (option_and_then _) (many_read wide_at (begins s.Unsigned) (wides_many dx front.2) turns [] (omega arith))
    ∙ ap (option_and_then _) (printed_body_read c (arrays_in ps) before between [] us vs d d2 (omega arith) low low2 (omega arith) checks checks2))
