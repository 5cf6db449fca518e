-- Which token lists are conditions, and of which tests.
use Rattle.std.specs.Prelude.{ℕ, Bool, List, [], ◌∷◌, ◌++◌}
use Rattle.c_tree.specs.declared.expr.Rel.{Rel}
use Rattle.c_tree.specs.Plain.{PlainExpr, PlainTest}
use Rattle.c_tree.specs.declared.symbol.Symbol.TheVariants as s
use Rattle.c_tree.specs.Grammar.Lexemes as t
use Rattle.c_tree.specs.Grammar.Lexemes.{Lexeme}
use Rattle.c_tree.specs.Grammar.Tables.{rel_mark}
use Rattle.c_tree.specs.Grammar.Expressions.{IsLow}

mutual
  pub data IsConj : Bool → ℕ → List Lexeme → List PlainTest → List Lexeme → Type 0 where
    comparison : {p : Bool} {m : ℕ} {ts after rest : List Lexeme} {a b : PlainExpr} → (rel : Rel) → IsLow p m 4 ts a (t.symbol (rel_mark rel) ∷ after) → IsLow p m 4 after b rest → IsConj p m ts ((rel, a, b) ∷ []) rest
    grouped : {p : Bool} {m : ℕ} {ts rest : List Lexeme} {us : List PlainTest} → IsCond p m ts us (t.symbol s.CloseParen ∷ rest) → IsConj p m (t.symbol s.OpenParen ∷ ts) us rest

  pub data IsCond : Bool → ℕ → List Lexeme → List PlainTest → List Lexeme → Type 0 where
    alone : {p : Bool} {m : ℕ} {ts rest : List Lexeme} {us : List PlainTest} → IsConj p m ts us rest → IsCond p m ts us rest
    joined : {p : Bool} {m : ℕ} {ts after rest : List Lexeme} {us vs : List PlainTest} → IsConj p m ts us (t.symbol s.AndAnd ∷ after) → IsCond p m after vs rest → IsCond p m ts (us ++ vs) rest
