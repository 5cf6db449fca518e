-- What is printed of statements is read as their tokens.
use Rattle.std.proofs.Common.{◌≡◌, ℕ, suc, ◌+◌, ◌^◌, ◌<◌, ◌≤◌, Bool, true, false, List, [], ◌∷◌, ◌++◌, length, refl, arith}
use Rattle.std.specs.Prelude.{codes, decimal}
use Rattle.std.proofs.lemmas.Bool.{le-leb}
use Rattle.std.proofs.Math.Pow.{pow-lt}
use Rattle.std.proofs.lemmas.Fmt.{digits_decimal, length-decimal-le}
use Rattle.c_tree.specs.Kinds.{is_word, join}
use Rattle.c_tree.specs.Layout.{Scope, kind_in, is_loose, inside, indent}
use Rattle.c_tree.specs.Plain.{Word, PlainExpr, lit, var, cell, un, bin, cast, test, umin, umax, least, greatest, widen, big, PlainTest, PlainStmt, loop, choice, assign, table, begin, check, verdict, PlainStmts, no_stmts, more_stmts}
use Rattle.c_tree.specs.declared.symbol.Symbol.TheVariants as s
use Rattle.c_tree.specs.Grammar.Lexemes as t
use Rattle.c_tree.specs.Grammar.Lexemes.{Lexeme}
use Rattle.layout_laws.specs.Spell.{enclosed, spell}
use Rattle.layout_laws.specs.Spell.{spell_test, spell_more_tests, spell_tests, spell_stmt, spell_else, spell_stmts}
use Rattle.c_tree.specs.Grammar.Units.{verdict_tokens, more_pair_tokens, pair_tokens}
use Rattle.c_lexer.specs.declared.line.Line.TheVariants.{Fresh, Middle}
use Rattle.layout_laws.proofs.Seen.{word_symbol, mark_symbol}
use Rattle.c_tree.specs.Grammar.Tokens.{Text, is_apart}
use Rattle.layout_laws.specs.Proper.{IsName, IsProper, ProperTests, ProperPlace, ProperStmt, ProperStmts}
use Rattle.c_printer.specs.Before.{expr_before, side_before, test_before, tests_before, more_tests_before, pair_before, more_pairs_before, verdict_before, stmt_before, else_before, stmts_before}
use Rattle.layout_laws.proofs.Lexed.{Reads}
use Rattle.layout_laws.proofs.Words.{name_in, short}
use Rattle.layout_laws.proofs.Numbers.{own, all_words, long_literal, plain_literal}
use Rattle.layout_laws.proofs.Marks.{opens, closes, semi_space, semi_feed, relation, word_cast}
use Rattle.layout_laws.proofs.Expressions.{a_name, prints, prints_cells, in_parentheses, begins_word, apart_cells}
use Rattle.layout_laws.proofs.Fixed.{indented, closes_block, closes_line, for_start, equals, loop_step, if_start, then_block, both, else_block, sets, returns, word_star, calloc_start, calloc_end, table_tested, check_mark, unequal, shifted, bar, nothing_found, begin_line}

-- an expression before a byte at which no word goes on
an_expr : {p : Bool} {rest : Text} {ts : List Lexeme} → (sc : Scope) (b : Bool) (u : PlainExpr) → IsProper p u → is_apart rest ≡ true → Reads p Middle rest ts → Reads p Middle (expr_before sc b u rest) (spell u ts)
an_expr {p = p} {rest = rest} {ts = ts} sc b u h e d = prints p sc b u h rest ts e d

a_side : {p : Bool} {rest : Text} {ts : List Lexeme} → (sc : Scope) (b : Bool) (u : PlainExpr) → IsProper p u → is_apart rest ≡ true → Reads p Middle rest ts → Reads p Middle (side_before sc b u rest) (enclosed (is_loose u) (spell u) ts)
a_side {p = p} {rest = rest} {ts = ts} sc b u h e d = in_parentheses p (is_loose u) (expr_before sc b u) (spell u) (prints p sc b u h) rest ts e d

a_test : {p : Bool} {rest : Text} {ts : List Lexeme} → (sc : Scope) (c : PlainTest) → IsProper p c.1 → IsProper p c.2 → is_apart rest ≡ true → Reads p Middle rest ts → Reads p Middle (test_before sc c rest) (spell_test c ts)
a_test sc c h j e d =
    let suffix = is_word (join (kind_in sc c.1) (kind_in sc c.2)) in
    a_side sc suffix c.1 h refl (relation c.0 (a_side sc suffix c.2 j e d))

apart_tests : (sc : Scope) (cs : List PlainTest) (rest : Text) → is_apart rest ≡ true → is_apart (more_tests_before sc cs rest) ≡ true
apart_tests sc [] rest e = e
apart_tests sc (c ∷ cs) rest e = refl

more_read : {p : Bool} {rest : Text} {ts : List Lexeme} → (sc : Scope) (cs : List PlainTest) → ProperTests p cs → is_apart rest ≡ true → Reads p Middle rest ts → Reads p Middle (more_tests_before sc cs rest) (spell_more_tests cs ts)
more_read sc [] h e d = d
more_read {rest = rest} sc (c ∷ cs) h e d = both (a_test sc c h.0 h.1 (apart_tests sc cs rest e) (more_read sc cs h.2 e d))

tests_read : {p : Bool} {rest : Text} {ts : List Lexeme} → (sc : Scope) (cs : List PlainTest) → ProperTests p cs → is_apart rest ≡ true → Reads p Middle rest ts → Reads p Middle (tests_before sc cs rest) (spell_tests cs ts)
tests_read sc [] h e d = d
tests_read {rest = rest} sc (c ∷ cs) h e d = a_test sc c h.0 h.1 (apart_tests sc cs rest e) (more_read sc cs h.2 e d)

-- the target of an assignment begins its line
a_place : {p : Bool} {rest : Text} {ts : List Lexeme} → (sc : Scope) (x : PlainExpr) → ProperPlace p x → is_apart rest ≡ true → Reads p Middle rest ts → Reads p Fresh (expr_before sc true x rest) (spell x ts)
a_place sc (var x) h e d = name_in Fresh x h e d
a_place {p = p} {rest = rest} {ts = ts} sc (cell x us) h e d = name_in Fresh x h.0 (apart_cells sc x us rest e) (prints_cells p sc x us h.1 rest ts e d)
a_place sc (lit n) h e d = absurd h
a_place sc (un op a) h e d = absurd h
a_place sc (bin op a b) h e d = absurd h
a_place sc (cast a) h e d = absurd h
a_place sc (test rel a b) h e d = absurd h
a_place sc (umin a b) h e d = absurd h
a_place sc (umax a b) h e d = absurd h
a_place sc (least a b) h e d = absurd h
a_place sc (greatest a b) h e d = absurd h
a_place sc (widen a) h e d = absurd h
a_place sc (big high low) h e d = absurd h

-- ---- the verdict

total_name : (p : Bool) (a : ℕ) → a < 2 ^ 64 → IsName p (codes "bal_def" ++ decimal a) × IsName p (codes "bal_use" ++ decimal a)
unfolding word_symbol mark_symbol
total_name p a h =
    let words = all_words (decimal a) (digits_decimal own a h) in
    let short_enough : suc (suc (suc (suc (suc (suc (suc (length (decimal a)))))))) ≤ 255 = omega (arith, length-decimal-le 20 a (omega arith) (omega arith) h) in
    let fits = short p (suc (suc (suc (suc (suc (suc (suc (length (decimal a))))))))) (le-leb _ 255 short_enough) in
    (record { word = words; fits = fits; no_symbol = refl }, record { word = words; fits = fits; no_symbol = refl })

pair_read : {p : Bool} {rest : Text} {ts : List Lexeme} → (a : ℕ) → a < 2 ^ 64 → is_apart rest ≡ true → Reads p Middle rest ts → Reads p Middle (pair_before a rest) (pair_tokens a ++ ts)
pair_read {p = p} {rest = rest} {ts = ts} a h e d =
    let names = total_name p a h in
    word_cast (opens (name_in Middle (codes "bal_def" ++ decimal a) names.0 refl (unequal (name_in Middle (codes "bal_use" ++ decimal a) names.1 refl (shifted (plain_literal p Middle a rest ts h e d))))))

apart_pairs : (a : ℕ) (xs : List Word) (rest : Text) → is_apart rest ≡ true → is_apart (more_pairs_before a xs rest) ≡ true
apart_pairs a [] rest e = e
apart_pairs a (x ∷ xs) rest e = refl

pairs_read : {p : Bool} {rest : Text} {ts : List Lexeme} → (a : ℕ) (xs : List Word) → a + length xs ≤ 2 ^ 64 → is_apart rest ≡ true → Reads p Middle rest ts → Reads p Middle (more_pairs_before a xs rest) (more_pair_tokens a xs ts)
pairs_read a [] h e d = d
pairs_read {rest = rest} a (x ∷ xs) h e d = bar (pair_read a (omega arith) (apart_pairs (suc a) xs rest e) (pairs_read (suc a) xs (omega arith) e d))

verdict_read : {p : Bool} {rest : Text} {ts : List Lexeme} → (xs : List Word) → length xs ≤ 2 ^ 64 → Reads p Fresh rest ts → Reads p Fresh (codes "return " ++ verdict_before xs (codes ";\n" ++ rest)) (verdict_tokens xs ts)
verdict_read [] h d = returns (nothing_found d)
verdict_read {rest = rest} (x ∷ xs) h d = returns (pair_read 0 (omega arith) (apart_pairs 1 xs (codes ";\n" ++ rest) refl) (pairs_read 1 xs (omega arith) refl (semi_feed d)))

-- ---- statements

bit_fits : (a : ℕ) → a < 48 → 2 ^ (16 + a) < 2 ^ 64
bit_fits a h = let e : 16 + a < 64 = omega arith in pow-lt e

mutual
  pub stmt_read : (p : Bool) (sc : Scope) (depth : ℕ) (u : PlainStmt) → ProperStmt p u → (p ≡ true → length sc.arrays ≤ 2 ^ 64) → (rest : Text) (ts : List Lexeme) → Reads p Fresh rest ts → Reads p Fresh (stmt_before sc depth u rest) (spell_stmt sc.arrays u ts)
  stmt_read p sc depth (loop x lo rel hi body) h room rest ts d =
      indented depth (for_start (a_name x h.0 refl (equals (an_expr sc false lo h.1 refl (semi_space (a_name x h.0 refl (relation rel (an_expr sc false hi h.2 refl (semi_space (a_name x h.0 refl (loop_step
      (stmts_read p (inside sc x) (suc depth) body h.3 room (indent depth ++ (codes "}\n" ++ rest)) (t.symbol s.CloseBrace ∷ ts) (indented depth (closes_line d))))))))))))))
  stmt_read p sc depth (choice cs us vs) h room rest ts d =
      indented depth (if_start (tests_read sc cs h.0 refl (then_block (stmts_read p sc (suc depth) us h.1 room _ _ (indented depth (else_read p sc depth vs h.2 room rest ts d))))))
  stmt_read p sc depth (assign x op u) h room rest ts d = indented depth (a_place sc x h.0 refl (sets op h.1 (an_expr sc true u h.2 refl (semi_feed d))))
  stmt_read p sc depth (table x u) h room rest ts d =
      indented depth (word_star (begins_word x _ h.0.word) (a_name x h.0 refl (calloc_start (an_expr sc true u h.1 refl (calloc_end (indented depth (if_start (a_name x h.0 refl (table_tested d)))))))))
  stmt_read p sc depth begin h room rest ts d = begin_line d
  stmt_read p sc depth (check x u a) h room rest ts d =
      indented depth (if_start (a_name x h.0 refl (check_mark (an_expr sc false u h.1 refl (closes (then_block (indented (suc depth) (returns
      (long_literal p Middle (2 ^ (16 + a)) (codes ";\n" ++ (indent depth ++ (codes "}\n" ++ rest))) (t.symbol s.Semicolon ∷ t.symbol s.CloseBrace ∷ ts) (bit_fits a h.2) refl (semi_feed (indented depth (closes_line d))))))))))))
  stmt_read p sc depth verdict h room rest ts d = indented depth (verdict_read sc.arrays (room h) d)

  else_read : (p : Bool) (sc : Scope) (depth : ℕ) (us : PlainStmts) → ProperStmts p us → (p ≡ true → length sc.arrays ≤ 2 ^ 64) → (rest : Text) (ts : List Lexeme) → Reads p Fresh rest ts → Reads p Fresh (codes "}" ++ else_before sc depth us rest) (t.symbol s.CloseBrace ∷ spell_else sc.arrays us ts)
  else_read p sc depth no_stmts h room rest ts d = closes_line d
  else_read p sc depth (more_stmts u us) h room rest ts d =
      closes_block refl (else_block (stmt_read p sc (suc depth) u h.0 room _ _ (stmts_read p sc (suc depth) us h.1 room (indent depth ++ (codes "}\n" ++ rest)) (t.symbol s.CloseBrace ∷ ts) (indented depth (closes_line d)))))

  pub stmts_read : (p : Bool) (sc : Scope) (depth : ℕ) (us : PlainStmts) → ProperStmts p us → (p ≡ true → length sc.arrays ≤ 2 ^ 64) → (rest : Text) (ts : List Lexeme) → Reads p Fresh rest ts → Reads p Fresh (stmts_before sc depth us rest) (spell_stmts sc.arrays us ts)
  stmts_read p sc depth no_stmts h room rest ts d = d
  stmts_read p sc depth (more_stmts u us) h room rest ts d = stmt_read p sc depth u h.0 room _ _ (stmts_read p sc depth us h.1 room rest ts d)
