-- One turn of the loop over the statements of a block.
use Rattle.std.proofs.Common.{◌≡◌, ℕ, zero, suc, ◌≤◌, List, [], ◌∷◌, ◌++◌, map, Option, Some, None, option_and_then, refl, ap, ◌∙◌, arith}
use Rattle.c_tree.specs.Plain.{PlainStmt, PlainStmts, more_stmts}
use Rattle.c_tree.specs.Trees.{stmt, stmts, stmts_of}
use Rattle.c_tree.specs.declared.stmt.Stmt.{Stmt}
use Rattle.c_tree.specs.declared.symbol.Symbol.TheVariants as s
use Rattle.c_tree.specs.Grammar.Lexemes.{Lexeme}
use Rattle.c_tree.specs.Grammar.Statements.{chain}
use Rattle.c_tree.proofs.Equations.{stmts-append}
use Rattle.grammar_reading.specs.Reading.{Read, expect}
use Rattle.grammar_reading.specs.Blocks.{inside, inside_by}

stmts_of-append : (xs ys : List PlainStmt) → stmts_of (xs ++ ys) ≡ chain (stmts_of xs) (stmts_of ys)
stmts_of-append [] ys = refl
stmts_of-append (x ∷ xs) ys = ap (more_stmts x) (stmts_of-append xs ys)

pub stmts-chain : (xs ys : List Stmt) → stmts (xs ++ ys) ≡ chain (stmts xs) (stmts ys)
stmts-chain xs ys = stmts-append xs ys ∙ stmts_of-append (map stmt xs) (map stmt ys)

module _ (simple : List Lexeme → Read PlainStmts) where
  -- the block's own brace
  pub inside-end : (n m held : ℕ) (us : PlainStmts) (ts rest : List Lexeme) → n ≡ suc m → held ≡ 0 → expect s.CloseBrace ts ≡ Some rest → inside simple n held us ts ≡ Some (us, rest)
  unfolding inside
  inside-end n m held us ts rest e f h =
      ap (λ (k : ℕ). inside simple k held us ts) e ∙ ap (λ (k : ℕ). inside simple (suc m) k us ts) f
      ∙ ap (λ (o : Option (List Lexeme)). inside_by simple (inside simple m) 0 us ts o (expect s.OpenBrace ts)) h

  -- the brace of a block within
  pub inside-close : (n m held less : ℕ) (us : PlainStmts) (ts rest : List Lexeme) → n ≡ suc m → held ≡ suc less → expect s.CloseBrace ts ≡ Some rest → inside simple n held us ts ≡ inside simple m less us rest
  unfolding inside
  inside-close n m held less us ts rest e f h =
      ap (λ (k : ℕ). inside simple k held us ts) e ∙ ap (λ (k : ℕ). inside simple (suc m) k us ts) f
      ∙ ap (λ (o : Option (List Lexeme)). inside_by simple (inside simple m) (suc less) us ts o (expect s.OpenBrace ts)) h

  pub inside-open : (n m held more : ℕ) (us : PlainStmts) (ts rest : List Lexeme) → n ≡ suc m → suc held ≡ more → expect s.CloseBrace ts ≡ None → expect s.OpenBrace ts ≡ Some rest → inside simple n held us ts ≡ inside simple m more us rest
  unfolding inside
  inside-open n m held more us ts rest e f shut h =
      ap (λ (k : ℕ). inside simple k held us ts) e
      ∙ ap (λ (o : Option (List Lexeme)). inside_by simple (inside simple m) held us ts o (expect s.OpenBrace ts)) shut
      ∙ ap (λ (o : Option (List Lexeme)). inside_by simple (inside simple m) held us ts None o) h
      ∙ ap (λ (k : ℕ). inside simple m k us rest) f

  by_simple : (n m held : ℕ) (us : PlainStmts) (ts : List Lexeme) → n ≡ suc m → expect s.CloseBrace ts ≡ None → expect s.OpenBrace ts ≡ None → inside simple n held us ts ≡ inside_by simple (inside simple m) held us ts None None
  unfolding inside
  by_simple n m held us ts e shut opened =
      ap (λ (k : ℕ). inside simple k held us ts) e
      ∙ ap (λ (o : Option (List Lexeme)). inside_by simple (inside simple m) held us ts o (expect s.OpenBrace ts)) shut
      ∙ ap (λ (o : Option (List Lexeme)). inside_by simple (inside simple m) held us ts None o) opened

  pub inside-more : (n m held : ℕ) (us vs : PlainStmts) (ts rest : List Lexeme) → n ≡ suc m → expect s.CloseBrace ts ≡ None → expect s.OpenBrace ts ≡ None → simple ts ≡ Some (vs, rest) → inside simple n held us ts ≡ inside simple m held (chain us vs) rest
  inside-more n m held us vs ts rest e shut opened h =
      by_simple n m held us ts e shut opened ∙ ap (λ (o : Read PlainStmts). option_and_then (λ (x : PlainStmts × List Lexeme). inside simple m held (chain us x.0) x.1) o) h

  pub inside-fail : (n m held : ℕ) (us : PlainStmts) (ts : List Lexeme) → n ≡ suc m → expect s.CloseBrace ts ≡ None → expect s.OpenBrace ts ≡ None → simple ts ≡ None → inside simple n held us ts ≡ None
  inside-fail n m held us ts e shut opened h =
      by_simple n m held us ts e shut opened ∙ ap (λ (o : Read PlainStmts). option_and_then (λ (x : PlainStmts × List Lexeme). inside simple m held (chain us x.0) x.1) o) h

  pub inside-out : (n held : ℕ) (us : PlainStmts) (ts : List Lexeme) → n ≤ 0 → inside simple n held us ts ≡ None
  unfolding inside
  inside-out zero held us ts h = refl
  inside-out (suc n) held us ts h = absurd (let no : ⊥ = omega arith in no)
