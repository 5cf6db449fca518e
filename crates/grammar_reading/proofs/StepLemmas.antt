-- The steps that every rule is made of, taken apart.
use Rattle.std.proofs.Common.{◌≡◌, ℕ, ◌≤◌, List, [], ◌∷◌, drop, Bool, true, false, cond, Option, Some, None, option_and_then, nat_le, refl, ap, ◌∙◌, arith, ◌⊎◌, inl, inr}
use Rattle.std.proofs.lemmas.Option.{same_Some, cond_some, some_pair_parts}
use Rattle.std.proofs.lemmas.Bool.{leb-true, le-leb}
use denote.Enum.Bare.{same_true, true_same}
use Rattle.c_tree.specs.declared.expr.Rel.{Rel}
use Rattle.c_tree.specs.declared.expr.Rel.TheVariants as r
use Rattle.c_tree.specs.declared.expr.BinOp.{BinOp}
use Rattle.c_tree.specs.declared.expr.BinOp.TheVariants as o
use Rattle.c_tree.specs.Plain.{PlainExpr}
use Rattle.c_tree.specs.contracts.symbol.Symbol.{the_type}
use Rattle.c_tree.specs.declared.symbol.Symbol.{Symbol}
use Rattle.c_tree.specs.declared.symbol.Symbol.TheVariants as s
use Rattle.c_tree.specs.Grammar.Lexemes as t
use Rattle.c_tree.specs.Grammar.Lexemes.{Lexeme}
use Rattle.c_tree.specs.Grammar.Tables.{level, mark, rel_mark}
use Rattle.c_tree.specs.Grammar.Expressions.{height}
use Rattle.grammar_reading.specs.declared.rules.Rules.{Rules}
use Rattle.grammar_reading.specs.Reading.{same, expect, number_at, node, operator, front_op, relation, front_rel}

pub bind_is : {A B : Type 0} (f : A → Option B) (o : Option A) (y : B) → option_and_then f o ≡ Some y → (x : A) × (o ≡ Some x) × (f x ≡ Some y)
bind_is f None y e = absurd (let no : ⊥ = cc in no)
bind_is f (Some x) y e = (x, refl, e)

pub chosen : {X : Type 0} (b : Bool) (x y z : X) → cond b x y ≡ z → ((b ≡ true) × (x ≡ z)) ⊎ ((b ≡ false) × (y ≡ z))
chosen true x y z e = inl (refl, e)
chosen false x y z e = inr (refl, e)

pub expect_is : (k : Symbol) (ts rest : List Lexeme) → expect k ts ≡ Some rest → ts ≡ t.symbol k ∷ rest
unfolding expect same
expect_is k [] rest e = cc
expect_is k (t.name x ∷ ts) rest e = cc
expect_is k (t.number n ∷ ts) rest e = cc
expect_is k (t.symbol j ∷ ts) rest e =
    let p = cond_some (same j k) ts rest e in
    let is : j ≡ k = same_true the_type tt j k p.0 in
    cc p.1

pub expect_self : (k : Symbol) (ts : List Lexeme) → expect k (t.symbol k ∷ ts) ≡ Some ts
unfolding expect same
expect_self k ts = ap (λ b. cond b (Some ts) None) (true_same the_type k k refl)

pub number_is : (ts rest : List Lexeme) (n : ℕ) → number_at ts ≡ Some (n, rest) → ts ≡ t.number n ∷ rest
unfolding number_at
number_is [] rest n e = cc
number_is (t.name x ∷ ts) rest n e = cc
number_is (t.number m ∷ ts) rest n e = let q = some_pair_parts m n ts rest e in ap (λ k. t.number k ∷ ts) q.0 ∙ ap (λ z. t.number n ∷ z) q.1
number_is (t.symbol j ∷ ts) rest n e = cc

pub number_self : (n : ℕ) (ts : List Lexeme) → number_at (t.number n ∷ ts) ≡ Some (n, ts)
unfolding number_at
number_self n ts = refl

pub node_is : (c : Rules) (v u : PlainExpr) (ts rest : List Lexeme) → node c v ts ≡ Some (u, rest) → (v ≡ u) × (ts ≡ rest) × (height v ≤ c.limit)
unfolding node
node_is c v u ts rest e =
    let p = cond_some (nat_le (height v) c.limit) (v, ts) (u, rest) e in
    let q = some_pair_parts v u ts rest (ap Some p.1) in
    (q.0, q.1, leb-true (height v) c.limit p.0)

pub fits : (c : Rules) (u : PlainExpr) (ts : List Lexeme) → height u ≤ c.limit → node c u ts ≡ Some (u, ts)
unfolding node
fits c u ts h = ap (λ b. cond b (Some (u, ts)) None) (le-leb (height u) c.limit h)

pub operator_is : (j : Symbol) (op : BinOp) → operator j ≡ Some op → j ≡ mark op
operator_is s.Bar op e = ap mark (same_Some o.Or op e)
operator_is s.Caret op e = ap mark (same_Some o.Xor op e)
operator_is s.Ampersand op e = ap mark (same_Some o.And op e)
operator_is s.ShiftLeft op e = ap mark (same_Some o.Shl op e)
operator_is s.ShiftRight op e = ap mark (same_Some o.Shr op e)
operator_is s.Plus op e = ap mark (same_Some o.Add op e)
operator_is s.Minus op e = ap mark (same_Some o.Sub op e)
operator_is s.Star op e = ap mark (same_Some o.Mul op e)
operator_is s.Slash op e = ap mark (same_Some o.Div op e)
operator_is s.Percent op e = ap mark (same_Some o.Rem op e)
operator_is _ op e = absurd (let no : ⊥ = cc in no)

pub front_op_is : (ts : List Lexeme) (op : BinOp) → front_op ts ≡ Some op → ts ≡ t.symbol (mark op) ∷ drop 1 ts
front_op_is [] op e = cc
front_op_is (t.name x ∷ ts) op e = cc
front_op_is (t.number n ∷ ts) op e = cc
front_op_is (t.symbol j ∷ ts) op e = ap (λ k. t.symbol k ∷ ts) (operator_is j op e)

pub operator-mark : (op : BinOp) → operator (mark op) ≡ Some op
operator-mark o.Add = refl
operator-mark o.Sub = refl
operator-mark o.Mul = refl
operator-mark o.Div = refl
operator-mark o.Rem = refl
operator-mark o.Shl = refl
operator-mark o.Shr = refl
operator-mark o.And = refl
operator-mark o.Xor = refl
operator-mark o.Or = refl

pub relation_is : (j : Symbol) (rel : Rel) → relation j ≡ Some rel → j ≡ rel_mark rel
relation_is s.Less rel e = ap rel_mark (same_Some r.Lt rel e)
relation_is s.LessEqual rel e = ap rel_mark (same_Some r.Le rel e)
relation_is s.Greater rel e = ap rel_mark (same_Some r.Gt rel e)
relation_is s.GreaterEqual rel e = ap rel_mark (same_Some r.Ge rel e)
relation_is s.EqualEqual rel e = ap rel_mark (same_Some r.Eq rel e)
relation_is s.NotEqual rel e = ap rel_mark (same_Some r.Ne rel e)
relation_is _ rel e = absurd (let no : ⊥ = cc in no)

pub front_rel_is : (ts : List Lexeme) (rel : Rel) → front_rel ts ≡ Some rel → ts ≡ t.symbol (rel_mark rel) ∷ drop 1 ts
front_rel_is [] rel e = cc
front_rel_is (t.name x ∷ ts) rel e = cc
front_rel_is (t.number n ∷ ts) rel e = cc
front_rel_is (t.symbol j ∷ ts) rel e = ap (λ k. t.symbol k ∷ ts) (relation_is j rel e)

pub relation-mark : (rel : Rel) → relation (rel_mark rel) ≡ Some rel
relation-mark r.Lt = refl
relation-mark r.Le = refl
relation-mark r.Gt = refl
relation-mark r.Ge = refl
relation-mark r.Eq = refl
relation-mark r.Ne = refl

-- a comparison is no operator
pub no_operator : (rel : Rel) → operator (rel_mark rel) ≡ None
no_operator r.Lt = refl
no_operator r.Le = refl
no_operator r.Gt = refl
no_operator r.Ge = refl
no_operator r.Eq = refl
no_operator r.Ne = refl

pub level_bounds : (op : BinOp) → (1 ≤ level op) × (level op ≤ 6)
level_bounds o.Add = (omega arith, omega arith)
level_bounds o.Sub = (omega arith, omega arith)
level_bounds o.Mul = (omega arith, omega arith)
level_bounds o.Div = (omega arith, omega arith)
level_bounds o.Rem = (omega arith, omega arith)
level_bounds o.Shl = (omega arith, omega arith)
level_bounds o.Shr = (omega arith, omega arith)
level_bounds o.And = (omega arith, omega arith)
level_bounds o.Xor = (omega arith, omega arith)
level_bounds o.Or = (omega arith, omega arith)
