-- The last climb before a comparison.
use Rattle.std.proofs.Common.{◌≡◌, ℕ, zero, suc, ◌-◌, ◌+◌, ◌++◌, ◌<◌, ◌≤◌, List, [], ◌∷◌, drop, Option, Some, None, option_and_then, refl, sym, ap, ◌∙◌, arith}
use Rattle.c_tree.specs.declared.expr.Rel.{Rel}
use Rattle.c_tree.specs.Plain.{PlainExpr, PlainTest}
use Rattle.c_tree.specs.Grammar.Lexemes.{Lexeme}
use Rattle.grammar_reading.specs.declared.rules.Rules.{Rules}
use Rattle.grammar_reading.proofs.CondReaches.{conds_is}
use Rattle.std.proofs.lemmas.List.{map-append}
use Rattle.c_tree.specs.Trees.{tests, a_test}
use Rattle.c_tree.specs.declared.expr.Expr.{Expr}
use Rattle.c_tree.specs.Grammar.Lexemes as t
use Rattle.c_tree.specs.declared.symbol.Symbol.TheVariants as s
use Rattle.grammar_reading.specs.Reading.{Read, expect, front_rel, climb, close, seek, seek_by, compare, conds, after, after_by, ended, shut, shut_by}
use Rattle.grammar_reading.proofs.StepLemmas.{expect_is}

pub none_found : (r : Read PlainExpr) → ◌≡◌ {A = Read (ℕ × Rel × PlainExpr)} (option_and_then (λ (y : PlainExpr × List Lexeme). None) r) None
none_found None = refl
none_found (Some y) = refl

-- ---- parentheses of a condition that close

pub shut_none : (held : ℕ) (ts : List Lexeme) → expect s.CloseParen ts ≡ None → shut held ts ≡ (held, ts)
unfolding shut
shut_none zero ts h = refl
shut_none (suc held) [] h = refl
shut_none (suc held) (x ∷ ts) h = ap (shut_by held (x ∷ ts) (shut held ts)) h

pub shut_some : (held : ℕ) (ts rest : List Lexeme) → 0 < held → expect s.CloseParen ts ≡ Some rest → shut held ts ≡ shut (held - 1) rest
unfolding shut expect
shut_some zero ts rest pos h = absurd (let no : ⊥ = omega arith in no)
shut_some (suc held) [] rest pos h = absurd (let no : ⊥ = cc in no)
shut_some (suc held) (x ∷ ts) rest pos h =
    let e : held ≡ suc held - 1 = omega arith in
    ap (shut_by held (x ∷ ts) (shut held ts)) h ∙ ap (shut held) (tail x ts rest (expect_is s.CloseParen (x ∷ ts) rest h)) ∙ ap (λ j. shut j rest) e
  where
    tail : (x : Lexeme) (ts rest : List Lexeme) → x ∷ ts ≡ t.symbol s.CloseParen ∷ rest → ts ≡ rest
    tail x ts rest e = cc

pub shut_zero : (held : ℕ) (ts : List Lexeme) → held ≤ 0 → shut held ts ≡ (held, ts)
unfolding shut
shut_zero zero ts h = refl
shut_zero (suc held) ts h = absurd (let no : ⊥ = omega arith in no)

-- ---- one turn of the search for a comparison

module _ (c : Rules) (e : ℕ → List Lexeme → Read PlainExpr) where
  pub seek_found : (k : ℕ) (left a : PlainExpr) (ts after : List Lexeme) (rel : Rel) → climb c e 4 c.turns left ts ≡ Some (a, after) → front_rel after ≡ Some rel → seek c e k left ts ≡ Some ((k, rel, a), drop 1 after)
  unfolding seek
  seek_found zero left a ts after rel h is = ap (option_and_then _) h ∙ ap (seek_by c e 0 (λ u z. None) a after) is
  seek_found (suc k) left a ts after rel h is = ap (option_and_then _) h ∙ ap (seek_by c e (suc k) (seek c e k) a after) is

  pub seek_next : (k : ℕ) (left a u : PlainExpr) (ts after rest : List Lexeme) → 0 < k → climb c e 4 c.turns left ts ≡ Some (a, after) → front_rel after ≡ None → close c e a after ≡ Some (u, rest) → seek c e k left ts ≡ seek c e (k - 1) u rest
  unfolding seek
  seek_next zero left a u ts after rest pos h is j = absurd (let no : ⊥ = omega arith in no)
  seek_next (suc k) left a u ts after rest pos h is j =
      let e2 : k ≡ suc k - 1 = omega arith in
      ap (option_and_then _) h ∙ ap (seek_by c e (suc k) (seek c e k) a after) is ∙ ap (option_and_then _) j ∙ ap (λ n. seek c e n u rest) e2

  pub seek_no_climb : (k : ℕ) (left : PlainExpr) (ts : List Lexeme) → climb c e 4 c.turns left ts ≡ None → seek c e k left ts ≡ None
  unfolding seek
  seek_no_climb zero left ts h = ap (option_and_then _) h
  seek_no_climb (suc k) left ts h = ap (option_and_then _) h

  pub seek_no_close : (k : ℕ) (left a : PlainExpr) (ts after : List Lexeme) → climb c e 4 c.turns left ts ≡ Some (a, after) → front_rel after ≡ None → close c e a after ≡ None → seek c e k left ts ≡ None
  unfolding seek
  seek_no_close zero left a ts after h is j = ap (option_and_then _) h ∙ ap (seek_by c e 0 (λ u z. None) a after) is ∙ ap (option_and_then _) j
  seek_no_close (suc k) left a ts after h is j = ap (option_and_then _) h ∙ ap (seek_by c e (suc k) (seek c e k) a after) is ∙ ap (option_and_then _) j

  pub seek_none : (k : ℕ) (left a : PlainExpr) (ts after : List Lexeme) → k ≤ 0 → climb c e 4 c.turns left ts ≡ Some (a, after) → front_rel after ≡ None → seek c e k left ts ≡ None
  unfolding seek
  seek_none zero left a ts after low h is = ap (option_and_then _) h ∙ ap (seek_by c e 0 (λ u z. None) a after) is ∙ none_found (close c e a after)
  seek_none (suc k) left a ts after low h is = absurd (let no : ⊥ = omega arith in no)

-- ---- one turn of a condition

module _ (c : Rules) where
  pub conds_none : (n held : ℕ) (acc : List PlainTest) (ts : List Lexeme) → compare c ts ≡ None → conds c n held acc ts ≡ None
  unfolding conds
  conds_none zero held acc ts h = refl
  conds_none (suc n) held acc ts h = ap (option_and_then _) h

  pub conds_out : (n held : ℕ) (acc : List PlainTest) (ts : List Lexeme) → n ≤ 0 → conds c n held acc ts ≡ None
  unfolding conds
  conds_out zero held acc ts h = refl
  conds_out (suc n) held acc ts h = absurd (let no : ⊥ = omega arith in no)

  pub turned : (n held m opened left : ℕ) (acc : List PlainTest) (x : PlainTest) (ts rest zs : List Lexeme) (r : Option (List Lexeme)) → 0 < n → compare c ts ≡ Some ((m, x), rest) → opened ≡ m + held
      → left ≡ (shut opened rest).0 → zs ≡ (shut opened rest).1 → expect s.AndAnd zs ≡ r → conds c n held acc ts ≡ after_by c (conds c (n - 1)) left (acc ++ x ∷ []) zs r
  turned n held m opened left acc x ts rest zs r pos h sum e f is =
      conds_is c n held m acc x ts rest pos h ∙ ap (λ (j : ℕ). after c (conds c (n - 1)) (shut j rest) (acc ++ x ∷ [])) (sym sum)
      ∙ ap (λ (p : ℕ). after_by c (conds c (n - 1)) p (acc ++ x ∷ []) (shut opened rest).1 (expect s.AndAnd (shut opened rest).1)) (sym e)
      ∙ ap (λ (z : List Lexeme). after_by c (conds c (n - 1)) left (acc ++ x ∷ []) z (expect s.AndAnd z)) (sym f)
      ∙ ap (after_by c (conds c (n - 1)) left (acc ++ x ∷ []) zs) is

  pub ended_none : (left : ℕ) (us : List PlainTest) (zs : List Lexeme) → 0 < left → ended c left us zs ≡ None
  ended_none zero us zs pos = absurd (let no : ⊥ = omega arith in no)
  ended_none (suc left) us zs pos = refl

pub tests_push : (xs : List (Rel × Expr × Expr)) (y : Rel × Expr × Expr) → tests (xs ++ y ∷ []) ≡ tests xs ++ a_test y ∷ []
tests_push xs y = map-append a_test xs (y ∷ [])
