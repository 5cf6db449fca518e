-- What is read as a unit is one.
use Rattle.std.proofs.Common.{◌≡◌, ℕ, zero, suc, ℤ, ◌≤◌, List, [], ◌∷◌, ◌++◌, length, Bool, true, false, ◌&&◌, Option, Some, None, refl, sym, ap, ◌∙◌, subst, arith}
use Rattle.std.proofs.lemmas.Option.{same_Some, cond_some, some_pair_parts}
use Rattle.std.proofs.lemmas.Bool.{and_parts}
use Rattle.std.proofs.lemmas.List.{append-nil, append_assoc}
use Rattle.c_tree.specs.Names.{arrays_in}
use Rattle.c_tree.specs.Plain.{Word, PlainStmt, begin, verdict, PlainStmts, no_stmts, more_stmts, PlainParam, PlainUnit}
use Rattle.c_tree.specs.declared.symbol.Symbol.{Symbol}
use Rattle.c_tree.specs.declared.symbol.Symbol.TheVariants as s
use Rattle.c_tree.specs.Grammar.Lexemes as t
use Rattle.c_tree.specs.Grammar.Lexemes.{Lexeme}
use Rattle.c_tree.specs.Grammar.Statements.{chain, one, stmt_limit, stmt_height, stmts_height, IsStmts}
use Rattle.c_tree.specs.Grammar.Heads as h
use Rattle.c_tree.specs.Grammar.Heads.{IsParam, IsTable, version_tokens, begin_tokens}
use Rattle.c_tree.specs.Grammar.Units as k
use Rattle.c_tree.specs.Grammar.Units.{AreRanges, AreParams, AreWords, AreWides, AreTop, IsUnit, pair_tokens, more_pair_tokens, verdict_tokens, all_checks_below}
use Rattle.grammar_reading.specs.declared.rules.Rules.{Rules}
use Rattle.grammar_reading.specs.Reading.{Read, expect, number_at, all_read}
use Rattle.grammar_reading.specs.Blocks.{name_at, inside}
use Rattle.grammar_reading.specs.HeadReading.{range_at, param_at, wide_at, table_at, fixed}
use Rattle.grammar_reading.specs.UnitReading.{begins, many, many_by, ranges, declaration_at, declaration_begins, words, wides, more_pairs, totals_at, verdict_at, params, params_by, head_at, stmt_of, table_of, top_one, top_by, top, Start, start_at, source_at, halves_at, printed_body, printed_at, rules_of, unit_by, unit_at}
use Rattle.grammar_reading.proofs.StepLemmas.{bind_is, expect_is, number_is}
use Rattle.grammar_reading.proofs.SoundBlocks.{name_is, simple_sound, body_sound, inside_is_stmts}
use Rattle.grammar_reading.proofs.CompleteBlocks.{chain_again, chain_none, chain_heights}
use Rattle.grammar_reading.proofs.HeadLaws.{range_sound, param_sound}
use Rattle.grammar_reading.proofs.PrintedHeadLaws.{fixed_is, wide_sound, table_sound}
use Rattle.grammar_reading.proofs.StmtHeights.{simple_low, inside_low, body_low}

-- ---- lists of parts

module _ {A : Type 0} (part : List Lexeme → Read A) (another : List Lexeme → Bool) (Are : List Lexeme → List A → List Lexeme → Type 0) (none : (rest : List Lexeme) → Are rest [] rest)
    (more : (ts after rest : List Lexeme) (x : A) (xs : List A) → part ts ≡ Some (x, after) → Are after xs rest → Are ts (x ∷ xs) rest) where
  many_sound : (n : ℕ) (acc ws : List A) (ts rest : List Lexeme) → many part another n acc ts ≡ Some (ws, rest) → (xs : List A) × (ws ≡ acc ++ xs) × Are ts xs rest
  unfolding many
  many_sound zero acc ws ts rest h = absurd (let never : ⊥ = cc in never)
  many_sound (suc n) acc ws ts rest h = by (many part another n) (many_sound n) (another ts) h
    where
      by : (go : List A → List Lexeme → Read (List A)) → ((acc ws : List A) (ts rest : List Lexeme) → go acc ts ≡ Some (ws, rest) → (xs : List A) × (ws ≡ acc ++ xs) × Are ts xs rest)
          → (b : Bool) → many_by part another go acc ts b ≡ Some (ws, rest) → (xs : List A) × (ws ≡ acc ++ xs) × Are ts xs rest
      by go go_sound false j = let q = some_pair_parts acc ws ts rest j in ([], sym q.0 ∙ sym (append-nil acc), subst (λ z. Are ts [] z) q.1 (none ts))
      by go go_sound true j =
          let (x, j1, j2) = bind_is _ (part ts) (ws, rest) j in
          let (xs, e, d) = go_sound (acc ++ x.0 ∷ []) ws x.1 rest j2 in
          (x.0 ∷ xs, e ∙ append_assoc acc (x.0 ∷ []) xs, more ts x.1 rest x.0 xs j1 d)

  -- from none
  many_are : (n : ℕ) (ws : List A) (ts rest : List Lexeme) → many part another n [] ts ≡ Some (ws, rest) → Are ts ws rest
  many_are n ws ts rest h = let (xs, e, d) = many_sound n [] ws ts rest h in subst (λ z. Are ts z rest) (sym e) d

range_more : (ts after rest : List Lexeme) (x : Word × ℤ × ℤ) (xs : List (Word × ℤ × ℤ)) → range_at ts ≡ Some (x, after) → AreRanges after xs rest → AreRanges ts (x ∷ xs) rest
range_more ts after rest x xs h d = k.more_ranges (range_sound ts after x h) d

word_more : (ts after rest : List Lexeme) (x : Word × ℕ) (xs : List (Word × ℕ)) → declaration_at ts ≡ Some (x, after) → AreWords after xs rest → AreWords ts (x ∷ xs) rest
unfolding declaration_at
word_more ts after rest x xs h d =
    let (t1, h1, h2) = bind_is _ (expect s.Uint64 ts) (x, after) h in
    let (y, h3, h4) = bind_is _ (name_at t1) (x, after) h2 in
    let (t3, h5, h6) = bind_is _ (expect s.Assign y.1) (x, after) h4 in
    let (n, h7, h8) = bind_is _ (number_at t3) (x, after) h6 in
    let (r, h9, h10) = bind_is _ (expect s.Semicolon n.1) (x, after) h8 in
    let q = some_pair_parts (y.0, n.0) x r after h10 in
    let is : ts ≡ t.symbol s.Uint64 ∷ t.name y.0 ∷ t.symbol s.Assign ∷ t.number n.0 ∷ t.symbol s.Semicolon ∷ after =
    expect_is s.Uint64 ts t1 h1 ∙ ap (λ z. t.symbol s.Uint64 ∷ z) (name_is t1 y.1 y.0 h3 ∙ ap (λ z. t.name y.0 ∷ z) (expect_is s.Assign y.1 t3 h5
    ∙ ap (λ z. t.symbol s.Assign ∷ z) (number_is t3 n.1 n.0 h7 ∙ ap (λ z. t.number n.0 ∷ z) (expect_is s.Semicolon n.1 r h9 ∙ ap (λ z. t.symbol s.Semicolon ∷ z) q.1)))) in
    let e : AreWords (t.symbol s.Uint64 ∷ t.name y.0 ∷ t.symbol s.Assign ∷ t.number n.0 ∷ t.symbol s.Semicolon ∷ after) ((y.0, n.0) ∷ xs) rest = k.more_words y.0 n.0 d in
    subst (λ z. AreWords z (x ∷ xs) rest) (sym is) (subst (λ (w : Word × ℕ). AreWords (t.symbol s.Uint64 ∷ t.name y.0 ∷ t.symbol s.Assign ∷ t.number n.0 ∷ t.symbol s.Semicolon ∷ after) (w ∷ xs) rest) q.0 e)

wide_more : (ts after rest : List Lexeme) (x : Word) (xs : List Word) → wide_at ts ≡ Some (x, after) → AreWides after xs rest → AreWides ts (x ∷ xs) rest
wide_more ts after rest x xs h d = k.more_wides (wide_sound ts after x h) d

ranges_sound : (n : ℕ) (ws : List (Word × ℤ × ℤ)) (ts rest : List Lexeme) → ranges n [] ts ≡ Some (ws, rest) → AreRanges ts ws rest
ranges_sound = many_are range_at (begins s.Directive) AreRanges (λ rest. k.no_ranges) range_more

words_sound : (n : ℕ) (ws : List (Word × ℕ)) (ts rest : List Lexeme) → words n [] ts ≡ Some (ws, rest) → AreWords ts ws rest
words_sound = many_are declaration_at declaration_begins AreWords (λ rest. k.no_words) word_more

wides_sound : (n : ℕ) (ws : List Word) (ts rest : List Lexeme) → wides n [] ts ≡ Some (ws, rest) → AreWides ts ws rest
wides_sound = many_are wide_at (begins s.Unsigned) AreWides (λ rest. k.no_wides) wide_more

-- ---- the verdict

pairs_sound : (a : ℕ) (xs : List Word) (ts rest : List Lexeme) → more_pairs a (length xs) ts ≡ Some rest → ts ≡ more_pair_tokens a xs rest
unfolding more_pairs
pairs_sound a [] ts rest h = same_Some ts rest h
pairs_sound a (x ∷ xs) ts rest h =
    let (t1, h1, h2) = bind_is _ (expect s.Bar ts) rest h in
    let (t2, h3, h4) = bind_is _ (fixed (pair_tokens a) t1) rest h2 in
    expect_is s.Bar ts t1 h1 ∙ ap (λ z. t.symbol s.Bar ∷ z) (fixed_is (pair_tokens a) t1 t2 h3 ∙ ap (λ z. pair_tokens a ++ z) (pairs_sound (suc a) xs t2 rest h4))

totals_sound : (xs : List Word) (ts rest : List Lexeme) → totals_at (length xs) ts ≡ Some (t.symbol s.Semicolon ∷ rest) → t.symbol s.Return ∷ ts ≡ verdict_tokens xs rest
unfolding totals_at
totals_sound [] ts rest h = ap (λ z. t.symbol s.Return ∷ z) (fixed_is (t.number 0 ∷ []) ts (t.symbol s.Semicolon ∷ rest) h)
totals_sound (x ∷ xs) ts rest h =
    let (t1, h1, h2) = bind_is _ (fixed (pair_tokens 0) ts) (t.symbol s.Semicolon ∷ rest) h in
    ap (λ z. t.symbol s.Return ∷ z) (fixed_is (pair_tokens 0) ts t1 h1 ∙ ap (λ z. pair_tokens 0 ++ z) (pairs_sound 1 xs t1 (t.symbol s.Semicolon ∷ rest) h2))

verdict_sound : (xs : List Word) (ts rest : List Lexeme) → verdict_at (length xs) ts ≡ Some rest → ts ≡ verdict_tokens xs rest
unfolding verdict_at
verdict_sound xs ts rest h =
    let (t1, h1, h2) = bind_is _ (expect s.Return ts) rest h in
    let (t2, h3, h4) = bind_is _ (totals_at (length xs) t1) rest h2 in
    expect_is s.Return ts t1 h1 ∙ totals_sound xs t1 rest (h3 ∙ ap (λ z. Some z) (expect_is s.Semicolon t2 rest h4))

-- ---- the function

-- statements of the top level that were read
record Tops (c : Rules) (acc ws : PlainStmts) (ts rest : List Lexeme) : Type 0 where
  us : PlainStmts
  is : ws ≡ chain acc us
  are : AreTop c.printed c.limit ts us rest
  low : stmts_height us ≤ stmt_limit c.printed

-- what was read before the statements
record Started (c : Rules) (type : Symbol) (ts : List Lexeme) (start : Start) (rest : List Lexeme) : Type 0 where
  inner : List Lexeme
  second : List Lexeme
  ranges_are : AreRanges ts start.ranges (t.symbol type ∷ t.name start.name ∷ t.symbol s.OpenParen ∷ inner)
  params_are : AreParams c.printed c.limit inner start.params (t.symbol s.CloseParen ∷ t.symbol s.OpenBrace ∷ second)
  words_are : AreWords second start.words rest

module _ (c : Rules) (some : 1 ≤ c.limit) where
  params_sound : (n : ℕ) (acc ws : List PlainParam) (ts rest : List Lexeme) → params c n acc ts ≡ Some (ws, rest) → (xs : List PlainParam) × (ws ≡ acc ++ xs) × AreParams c.printed c.limit ts xs rest
  unfolding params
  params_sound zero acc ws ts rest h = absurd (let never : ⊥ = cc in never)
  params_sound (suc n) acc ws ts rest h =
      let (x, h1, h2) = bind_is _ (param_at c ts) (ws, rest) h in
      by (params c n) (params_sound n) x.0 x.1 h1 (expect s.Comma x.1) refl h2
    where
      by : (go : List PlainParam → List Lexeme → Read (List PlainParam)) → ((acc ws : List PlainParam) (ts rest : List Lexeme) → go acc ts ≡ Some (ws, rest) → (xs : List PlainParam) × (ws ≡ acc ++ xs) × AreParams c.printed c.limit ts xs rest)
          → (x : PlainParam) (after : List Lexeme) → param_at c ts ≡ Some (x, after) → (r : Option (List Lexeme)) → expect s.Comma after ≡ r → params_by c go (acc ++ x ∷ []) after r ≡ Some (ws, rest) → (xs : List PlainParam) × (ws ≡ acc ++ xs) × AreParams c.printed c.limit ts xs rest
      by go go_sound x after first None is j =
          let q = some_pair_parts (acc ++ x ∷ []) ws after rest j in
          (x ∷ [], sym q.0, subst (λ z. AreParams c.printed c.limit ts (x ∷ []) z) q.1 (k.one_param (param_sound c some ts after x first)))
      by go go_sound x after first (Some inner) is j =
          let (xs, e, d) = go_sound (acc ++ x ∷ []) ws inner rest j in
          (x ∷ xs, e ∙ append_assoc acc (x ∷ []) xs, k.more_params (subst (λ z. IsParam c.printed c.limit ts x z) (expect_is s.Comma after inner is) (param_sound c some ts after x first)) d)

  head_sound : (ts rest : List Lexeme) (x : Word × List PlainParam) → head_at c ts ≡ Some (x, rest)
      → (inner : List Lexeme) × (ts ≡ t.name x.0 ∷ t.symbol s.OpenParen ∷ inner) × AreParams c.printed c.limit inner x.1 (t.symbol s.CloseParen ∷ t.symbol s.OpenBrace ∷ rest)
  unfolding head_at
  head_sound ts rest x h =
      let (f, h1, h2) = bind_is _ (name_at ts) (x, rest) h in
      let (t2, h3, h4) = bind_is _ (expect s.OpenParen f.1) (x, rest) h2 in
      let (ps, h5, h6) = bind_is _ (params c c.turns [] t2) (x, rest) h4 in
      let (t4, h7, h8) = bind_is _ (expect s.CloseParen ps.1) (x, rest) h6 in
      let (r, h9, h10) = bind_is _ (expect s.OpenBrace t4) (x, rest) h8 in
      let q = some_pair_parts (f.0, ps.0) x r rest h10 in
      let (xs, e, d) = params_sound c.turns [] ps.0 t2 ps.1 h5 in
      let ends : ps.1 ≡ t.symbol s.CloseParen ∷ t.symbol s.OpenBrace ∷ rest = expect_is s.CloseParen ps.1 t4 h7 ∙ ap (λ z. t.symbol s.CloseParen ∷ z) (expect_is s.OpenBrace t4 r h9 ∙ ap (λ z. t.symbol s.OpenBrace ∷ z) q.1) in
      let is : ts ≡ t.name f.0 ∷ t.symbol s.OpenParen ∷ t2 = name_is ts f.1 f.0 h1 ∙ ap (λ z. t.name f.0 ∷ z) (expect_is s.OpenParen f.1 t2 h3) in
      let are : AreParams c.printed c.limit t2 ps.0 (t.symbol s.CloseParen ∷ t.symbol s.OpenBrace ∷ rest) = subst (λ z. AreParams c.printed c.limit t2 ps.0 z) ends (subst (λ z. AreParams c.printed c.limit t2 z ps.1) (sym e) d) in
      subst (λ (y : Word × List PlainParam). (inner : List Lexeme) × (ts ≡ t.name y.0 ∷ t.symbol s.OpenParen ∷ inner) × AreParams c.printed c.limit inner y.1 (t.symbol s.CloseParen ∷ t.symbol s.OpenBrace ∷ rest)) q.0 (t2, is, are)

  start_sound : (type : Symbol) (ts rest : List Lexeme) (start : Start) → start_at c type ts ≡ Some (start, rest) → Started c type ts start rest
  unfolding start_at
  start_sound type ts rest start h =
      let (rs, h1, h2) = bind_is _ (ranges c.turns [] ts) (start, rest) h in
      let (t2, h3, h4) = bind_is _ (expect type rs.1) (start, rest) h2 in
      let (head, h5, h6) = bind_is _ (head_at c t2) (start, rest) h4 in
      let (ws, h7, h8) = bind_is _ (words c.turns [] head.1) (start, rest) h6 in
      let q = some_pair_parts (record { ranges = rs.0; name = head.0.0; params = head.0.1; words = ws.0 }) start ws.1 rest h8 in
      let (inner, is, d) = head_sound t2 head.1 head.0 h5 in
      let front : rs.1 ≡ t.symbol type ∷ t.name head.0.0 ∷ t.symbol s.OpenParen ∷ inner = expect_is type rs.1 t2 h3 ∙ ap (λ z. t.symbol type ∷ z) is in
      let found : Started c type ts (record { ranges = rs.0; name = head.0.0; params = head.0.1; words = ws.0 }) rest = record {
        inner = inner;
        second = head.1;
        ranges_are = subst (λ z. AreRanges ts rs.0 z) front (ranges_sound c.turns rs.0 ts rs.1 h1);
        params_are = d;
        words_are = subst (λ z. AreWords head.1 ws.0 z) q.1 (words_sound c.turns ws.0 head.1 ws.1 h7);
      } in
      subst (λ z. Started c type ts z rest) q.0 found

  -- ---- the top level

  table_top : (ts rest after : List Lexeme) (us vs : PlainStmts) → table_of c ts ≡ Some (vs, after) → AreTop c.printed c.limit after us rest → AreTop c.printed c.limit ts (chain vs us) rest
  unfolding table_of
  table_top ts rest after us vs h d =
      let (a, h1, h2) = bind_is _ (table_at c ts) (vs, after) h in
      let q = some_pair_parts (one a.0) vs a.1 after h2 in
      let first = subst (λ z. IsTable c.printed c.limit ts a.0 z) q.1 (table_sound c some ts a.1 a.0 h1) in
      let all : AreTop c.printed c.limit ts (chain (one a.0) us) rest = k.table_top first d in
      subst (λ z. AreTop c.printed c.limit ts (chain z us) rest) q.0 all

  -- a statement or a table
  one_more : (b : Bool) (ts after rest : List Lexeme) (us vs : PlainStmts) → top_one c ts b ≡ Some (vs, after) → AreTop c.printed c.limit after us rest → AreTop c.printed c.limit ts (chain vs us) rest
  one_more true ts after rest us vs h d = table_top ts rest after us vs h d
  one_more false ts after rest us vs h d = k.more_top (body_sound c some (stmt_of c) (simple_sound c some (stmt_limit c.printed)) c.turns ts after vs (expect s.OpenBrace ts) refl h).is d

  table_height : {p : Bool} {m : ℕ} {ts rest : List Lexeme} {u : PlainStmt} → IsTable p m ts u rest → stmt_height u ≤ 1
  table_height (h.made x d) = omega arith

  one_low : (n : ℕ) (b : Bool) (ts after : List Lexeme) (vs : PlainStmts) → 1 ≤ stmt_limit c.printed → top_one c ts b ≡ Some (vs, after) → stmts_height vs ≤ stmt_limit c.printed
  unfolding table_of
  one_low n true ts after vs pos h =
      let (a, h1, h2) = bind_is _ (table_at c ts) (vs, after) h in
      let q = some_pair_parts (one a.0) vs a.1 after h2 in
      let low = table_height (table_sound c some ts a.1 a.0 h1) in
      let few : stmts_height (one a.0) ≤ stmt_limit c.printed = omega arith in
      subst (λ z. stmts_height z ≤ stmt_limit c.printed) q.0 few
  one_low n false ts after vs pos h = body_low (stmt_limit c.printed) (stmt_of c) (simple_low c (stmt_limit c.printed)) c.turns ts after vs h

  top_sound : (n : ℕ) (acc ws : PlainStmts) (ts rest : List Lexeme) → 1 ≤ stmt_limit c.printed → top c n acc ts ≡ Some (ws, rest) → Tops c acc ws ts rest
  unfolding top
  top_sound zero acc ws ts rest pos h = absurd (let never : ⊥ = cc in never)
  top_sound (suc n) acc ws ts rest pos h = by (top c n) (λ acc ws ts rest j. top_sound n acc ws ts rest pos j) (begins s.Directive ts) (begins s.Return ts) h
    where
      done : ◌≡◌ {A = Read PlainStmts} (Some (acc, ts)) (Some (ws, rest)) → Tops c acc ws ts rest
      done j =
          let q = some_pair_parts acc ws ts rest j in
          record { us = no_stmts; is = sym q.0 ∙ sym (chain_none acc); are = subst (λ z. AreTop c.printed c.limit ts no_stmts z) q.1 k.no_top; low = omega arith }

      by : (go : PlainStmts → List Lexeme → Read PlainStmts) → ((acc ws : PlainStmts) (ts rest : List Lexeme) → go acc ts ≡ Some (ws, rest) → Tops c acc ws ts rest)
          → (d r : Bool) → top_by c go acc ts d r ≡ Some (ws, rest) → Tops c acc ws ts rest
      by go go_sound true r j = done j
      by go go_sound false true j = done j
      by go go_sound false false j =
          let (x, j1, j2) = bind_is _ (top_one c ts (begins s.Uint64 ts)) (ws, rest) j in
          let found = go_sound (chain acc x.0) ws x.1 rest j2 in
          let low = one_low n (begins s.Uint64 ts) ts x.1 x.0 pos j1 in
          let heights = chain_heights x.0 found.us in
          record {
            us = chain x.0 found.us;
            is = found.is ∙ chain_again acc x.0 found.us;
            are = one_more (begins s.Uint64 ts) ts x.1 rest found.us x.0 j1 found.are;
            low = omega (arith, heights, low, found.low);
          }

  -- from none
  tops_sound : (n : ℕ) (ws : PlainStmts) (ts rest : List Lexeme) → 1 ≤ stmt_limit c.printed → top c n no_stmts ts ≡ Some (ws, rest) → AreTop c.printed c.limit ts ws rest × (stmts_height ws ≤ stmt_limit c.printed)
  tops_sound n ws ts rest pos h =
      let found = top_sound n no_stmts ws ts rest pos h in
      (subst (λ z. AreTop c.printed c.limit ts z rest) (sym found.is) found.are, subst (λ z. stmts_height z ≤ stmt_limit c.printed) (sym found.is) found.low)

  -- the statements before `begin`, and those behind it
  record Halves (ts : List Lexeme) (us vs : PlainStmts) (rest : List Lexeme) : Type 0 where
    between : List Lexeme
    before : AreTop c.printed c.limit ts us (begin_tokens ++ between)
    behind : AreTop c.printed c.limit between vs rest
    low_before : stmts_height us ≤ stmt_limit c.printed
    low_behind : stmts_height vs ≤ stmt_limit c.printed

  halves_sound : (ts rest : List Lexeme) (x : PlainStmts × PlainStmts) → 1 ≤ stmt_limit c.printed → halves_at c ts ≡ Some (x, rest) → Halves ts x.0 x.1 rest
  unfolding halves_at
  halves_sound ts rest x pos h =
      let (us, h1, h2) = bind_is _ (top c c.turns no_stmts ts) (x, rest) h in
      let (t2, h3, h4) = bind_is _ (fixed begin_tokens us.1) (x, rest) h2 in
      let (vs, h5, h6) = bind_is _ (top c c.turns no_stmts t2) (x, rest) h4 in
      let q = some_pair_parts (us.0, vs.0) x vs.1 rest h6 in
      let first = tops_sound c.turns us.0 ts us.1 pos h1 in
      let second = tops_sound c.turns vs.0 t2 vs.1 pos h5 in
      let found : Halves ts us.0 vs.0 rest = record {
        between = t2;
        before = subst (λ z. AreTop c.printed c.limit ts us.0 z) (fixed_is begin_tokens us.1 t2 h3) first.0;
        behind = subst (λ z. AreTop c.printed c.limit t2 vs.0 z) q.1 second.0;
        low_before = first.1;
        low_behind = second.1;
      } in
      subst (λ (y : PlainStmts × PlainStmts). Halves ts y.0 y.1 rest) q.0 found

  -- the body of a printed function
  record Body (arrays : List Word) (ts : List Lexeme) (ws : PlainStmts) (rest : List Lexeme) : Type 0 where
    us : PlainStmts
    vs : PlainStmts
    halves : Halves ts us vs (verdict_tokens arrays (t.symbol s.CloseBrace ∷ rest))
    checks_before : all_checks_below (length arrays) us ≡ true
    checks_behind : all_checks_below (length arrays) vs ≡ true
    is : chain us (more_stmts begin (chain vs (one verdict))) ≡ ws

  printed_body_sound : (arrays : List Word) (ts rest : List Lexeme) (ws : PlainStmts) → 1 ≤ stmt_limit c.printed → printed_body c (length arrays) ts ≡ Some (ws, rest) → Body arrays ts ws rest
  unfolding printed_body
  printed_body_sound arrays ts rest ws pos h =
      let (x, h1, h2) = bind_is _ (halves_at c ts) (ws, rest) h in
      let (t1, h3, h4) = bind_is _ (verdict_at (length arrays) x.1) (ws, rest) h2 in
      let (t2, h5, h6) = bind_is _ (expect s.CloseBrace t1) (ws, rest) h4 in
      let p = cond_some (all_checks_below (length arrays) x.0.0 && all_checks_below (length arrays) x.0.1) (chain x.0.0 (more_stmts begin (chain x.0.1 (one verdict))), t2) (ws, rest) h6 in
      let q = some_pair_parts (chain x.0.0 (more_stmts begin (chain x.0.1 (one verdict)))) ws t2 rest (ap Some p.1) in
      let checks = and_parts (all_checks_below (length arrays) x.0.0) (all_checks_below (length arrays) x.0.1) p.0 in
      let ends : x.1 ≡ verdict_tokens arrays (t.symbol s.CloseBrace ∷ rest) = verdict_sound arrays x.1 t1 h3 ∙ ap (λ z. verdict_tokens arrays z) (expect_is s.CloseBrace t1 t2 h5 ∙ ap (λ z. t.symbol s.CloseBrace ∷ z) q.1) in
      record {
        us = x.0.0;
        vs = x.0.1;
        halves = subst (λ z. Halves ts x.0.0 x.0.1 z) ends (halves_sound ts x.1 x.0 pos h1);
        checks_before = checks.0;
        checks_behind = checks.1;
        is = q.0;
      }

-- ---- the unit

source_sound : (turns : ℕ) (ts rest : List Lexeme) (u : PlainUnit) → source_at (rules_of false turns) ts ≡ Some (u, rest) → rest ≡ [] → IsUnit ts u
unfolding source_at
source_sound turns ts rest u h ends =
    let c = rules_of false turns in
    let (start, h1, h2) = bind_is _ (start_at c s.Void ts) (u, rest) h in
    let (us, h3, h4) = bind_is _ (inside (stmt_of c) c.turns 0 no_stmts start.1) (u, rest) h2 in
    let made : PlainUnit = record { version = None; ranges = start.0.ranges; name = start.0.name; params = start.0.params; words = start.0.words; wides = []; body = us.0 } in
    let q = some_pair_parts made u us.1 rest h4 in
    let found = start_sound c (omega arith) s.Void ts start.1 start.0 h1 in
    let body = subst (λ z. IsStmts false 64 start.1 us.0 (t.symbol s.CloseBrace ∷ z)) (q.1 ∙ ends) (inside_is_stmts c (omega arith) 64 c.turns start.1 us.1 us.0 h3) in
    let low = inside_low 64 (stmt_of c) (simple_low c 64) c.turns 0 no_stmts (omega arith) start.1 us.1 us.0 h3 in
    subst (λ z. IsUnit ts z) q.0 (k.source start.0.name found.ranges_are found.params_are found.words_are body low)

printed_made : (f : Word) (rs : List (Word × ℤ × ℤ)) (ps : List PlainParam) (ws : List (Word × ℕ)) (xs : List Word) (us : PlainStmts) → PlainUnit
printed_made f rs ps ws xs us = record { version = Some 1; ranges = rs; name = f; params = ps; words = ws; wides = xs; body = us }

printed_sound : (turns : ℕ) (ts rest : List Lexeme) (u : PlainUnit) → printed_at (rules_of true turns) ts ≡ Some (u, rest) → rest ≡ [] → IsUnit (t.symbol s.Preamble ∷ ts) u
unfolding printed_at printed_made
printed_sound turns ts rest u h ends =
    let c = rules_of true turns in
    let (t1, h1, h2) = bind_is _ (fixed version_tokens ts) (u, rest) h in
    let (start, h3, h4) = bind_is _ (start_at c s.Uint64 t1) (u, rest) h2 in
    let (xs, h5, h6) = bind_is _ (wides c.turns [] start.1) (u, rest) h4 in
    let (ws, h7, h8) = bind_is _ (printed_body c (length (arrays_in start.0.params)) xs.1) (u, rest) h6 in
    let q = some_pair_parts (printed_made start.0.name start.0.ranges start.0.params start.0.words xs.0 ws.0) u ws.1 rest h8 in
    let found = start_sound c (omega arith) s.Uint64 t1 start.1 start.0 h3 in
    let body = printed_body_sound c (omega arith) (arrays_in start.0.params) xs.1 ws.1 ws.0 (omega arith) h7 in
    let last = subst (λ z. AreTop true 256 body.halves.between body.vs (verdict_tokens (arrays_in start.0.params) (t.symbol s.CloseBrace ∷ z))) (q.1 ∙ ends) body.halves.behind in
    let d = k.printed start.0.name found.ranges_are found.params_are found.words_are (wides_sound c.turns xs.0 start.1 xs.1 h5) body.halves.before last body.halves.low_before body.halves.low_behind body.checks_before body.checks_behind in
    let e : IsUnit (t.symbol s.Preamble ∷ (version_tokens ++ t1)) u = subst (λ z. IsUnit (t.symbol s.Preamble ∷ (version_tokens ++ t1)) z) q.0 (subst (λ w. IsUnit (t.symbol s.Preamble ∷ (version_tokens ++ t1)) (printed_made start.0.name start.0.ranges start.0.params start.0.words xs.0 w)) body.is d) in
    subst (λ z. IsUnit (t.symbol s.Preamble ∷ z) u) (sym (fixed_is version_tokens ts t1 h1)) e

all_parts : {A : Type 0} (v u : A) (rest : List Lexeme) → all_read v rest ≡ Some u → (rest ≡ []) × (v ≡ u)
all_parts v u [] h = (refl, same_Some v u h)
all_parts v u (x ∷ rest) h = absurd (let never : ⊥ = cc in never)

unit_by_sound : (turns : ℕ) (ts rest : List Lexeme) (u : PlainUnit) (r : Option (List Lexeme)) → expect s.Preamble ts ≡ r → unit_by turns ts r ≡ Some (u, rest) → rest ≡ [] → IsUnit ts u
unit_by_sound turns ts rest u None is h ends = source_sound turns ts rest u h ends
unit_by_sound turns ts rest u (Some inner) is h ends = subst (λ z. IsUnit z u) (sym (expect_is s.Preamble ts inner is)) (printed_sound turns inner rest u h ends)

pub unit_sound : (ts : List Lexeme) (u : PlainUnit) → unit_at ts ≡ Some u → IsUnit ts u
unfolding unit_at
unit_sound ts u h =
    let (x, h1, h2) = bind_is _ (unit_by (suc (length ts)) ts (expect s.Preamble ts)) u h in
    let p = all_parts x.0 u x.1 h2 in
    subst (λ z. IsUnit ts z) p.1 (unit_by_sound (suc (length ts)) ts x.1 x.0 (expect s.Preamble ts) refl h1 p.0)
