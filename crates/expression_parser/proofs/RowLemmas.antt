-- Trees in a row, as a loop adds them.
use Rattle.std.proofs.Common.{◌≡◌, ℕ, zero, suc, ◌-◌, ◌+◌, ◌<◌, ◌≤◌, max, List, [], ◌∷◌, ◌++◌, map, Option, Some, None, option_and_then, option_map, is_some, not, Bool, true, false, Bor, refl, sym, ap, ◌∙◌, arith}
use Rattle.c_tree.specs.Plain.{PlainExpr, umin, umax, least, greatest, PlainExprs, no_exprs, more_exprs}
use Rattle.c_tree.specs.Trees.{expr, exprs, exprs_of}
use Rattle.c_tree.specs.declared.expr.Expr.{Expr}
use Rattle.c_tree.specs.Grammar.Lexemes.{Lexeme}
use Rattle.expression_parser.specs.Terminals.{all_seen}
use Rattle.expression_parser.specs.declared.terminal.Terminal.{Terminal}
use Rattle.c_tree.specs.declared.symbol.Symbol.TheVariants as s
use Rattle.c_tree.specs.Grammar.Tables.{Call, call_min, call_max, call_least, call_greatest, called}
use Rattle.c_tree.specs.Grammar.Expressions.{height, heights}
use Rattle.grammar_reading.specs.declared.rules.Rules.{Rules}
use Rattle.grammar_reading.specs.Reading.{Read, expect, one_cell, cells}
use Rattle.expression_parser.specs.Outcome.{joined}

pub called_height : (k : Call) (a b : PlainExpr) → height (called k a b) ≡ suc (max (height a) (height b))
called_height call_min a b = refl
called_height call_max a b = refl
called_height call_least a b = refl
called_height call_greatest a b = refl

pub joined_none : (us : PlainExprs) → joined us no_exprs ≡ us
joined_none no_exprs = refl
joined_none (more_exprs u us) = ap (more_exprs u) (joined_none us)

pub joined_again : (us vs ws : PlainExprs) → joined (joined us vs) ws ≡ joined us (joined vs ws)
joined_again no_exprs vs ws = refl
joined_again (more_exprs u us) vs ws = ap (more_exprs u) (joined_again us vs ws)

pub exprs_push : (es : List Expr) (e : Expr) → exprs (es ++ e ∷ []) ≡ joined (exprs es) (more_exprs (expr e) no_exprs)
exprs_push [] e = refl
exprs_push (x ∷ es) e = ap (more_exprs (expr x)) (exprs_push es e)

pub heights_push : (es : List Expr) (e : Expr) → heights (exprs (es ++ e ∷ [])) ≡ max (heights (exprs es)) (height (expr e))
heights_push [] e = omega arith
heights_push (x ∷ es) e = omega (arith, heights_push es e)

-- what was read before, and what is still read
abbrev pub behind : PlainExprs → Read PlainExprs → Read PlainExprs
behind front read = option_and_then (λ (x : PlainExprs × List Lexeme). Some (joined front x.0, x.1)) read

module _ (c : Rules) (e : ℕ → List Lexeme → Read PlainExpr) where
  regroup : (front : PlainExprs) (u : PlainExpr) (read : Read PlainExprs) → behind front (option_and_then (λ (x : PlainExprs × List Lexeme). Some (more_exprs u x.0, x.1)) read) ≡ behind (joined front (more_exprs u no_exprs)) read
  regroup front u None = refl
  regroup front u (Some x) = ap (λ (us : PlainExprs). Some (us, x.1)) (sym (joined_again front (more_exprs u no_exprs) x.0))

  pub last_turn : (n : ℕ) (front : PlainExprs) (u : PlainExpr) (ts after : List Lexeme) → one_cell c e ts ≡ Some (u, after) → expect s.OpenBracket after ≡ None → behind front (cells c e (suc n) ts) ≡ Some (joined front (more_exprs u no_exprs), after)
  unfolding cells
  last_turn n front u ts after h stop = rw (h, stop) refl

  pub next_turn : (n : ℕ) (front : PlainExprs) (u : PlainExpr) (ts after inside : List Lexeme) → one_cell c e ts ≡ Some (u, after) → expect s.OpenBracket after ≡ Some inside → behind front (cells c e (suc n) ts) ≡ behind (joined front (more_exprs u no_exprs)) (cells c e n after)
  unfolding cells
  next_turn n front u ts after inside h goes = rw (h, goes) (regroup front u (cells c e n after))

pub present : (text : List ℕ) (o : Option (Bor (List Terminal))) (r : Option (List Lexeme)) → option_map (λ b. all_seen text b.now) o ≡ r → (b : Bool) → is_some o ≡ not b → b ≡ false → (inside : List Lexeme) × (r ≡ Some inside)
present text None r e b f h = absurd (let no : ⊥ = cc in no)
present text (Some x) r e b f h = (all_seen text x.now, sym e)
