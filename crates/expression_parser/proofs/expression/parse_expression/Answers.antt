use Rattle.std.proofs.Common.{◌≡◌, [], Some, subst, sym, ap, ◌∙◌, arith, length, ◌+◌, ◌≤◌, ℕ, Bool, true, false}
use Rattle.std.proofs.lemmas.List.{length-map}
use Rattle.std.proofs.lemmas.Result.{err_from_is_err_and}
use Rattle.c_tree.specs.declared.expr.Expr.{Expr}
use Rattle.c_tree.specs.Trees as t
use Rattle.expression_parser.specs.Terminals.{all_seen, seen}
use Rattle.c_tree.specs.Grammar.Expressions.{limit, IsLow}
use Rattle.grammar_reading.specs.declared.rules.Rules.{Rules}
use Rattle.grammar_reading.proofs.Whole.{whole_sound, whole_complete}
use Rattle.expression_parser.proofs.Refused.{refuses_all}
use Rattle.expression_parser.proofs.expression.parse_expression.Goals as goal

abbrev rules_of : Bool → ℕ → ℕ → Rules
rules_of p m n = record { printed = p; limit = m; turns = n }

some_limit : (p : Bool) → 1 ≤ limit p
some_limit true = omega arith
some_limit false = omega arith

some_result : (p : Bool) (m : ℕ) → m ≡ limit p → 1 ≤ m
some_result p m e = omega (arith, some_limit p)

pub returns-clause-found : goal.returns-clause-found
returns-clause-found c =
    let read = whole_sound (rules_of c.args.printed c.limit.result (length c.args.ts.now + 1)) (some_result c.args.printed c.limit.result c.limit.ensures) (all_seen c.args.text.now c.args.ts.now) (t.expr c.in_ok-built.built.tree.value) c.in_ok-built.ensures in
    subst (λ (e : Expr). IsLow c.args.printed (limit c.args.printed) 1 (all_seen c.args.text.now c.args.ts.now) (t.expr e) []) (sym c.into_inner.ensures)
    (subst (λ m. IsLow c.args.printed m 1 (all_seen c.args.text.now c.args.ts.now) (t.expr c.in_ok-built.built.tree.value) []) c.limit.ensures read)

pub returns-clause-only : goal.returns-clause-only
returns-clause-only c = λ u is.
    sym (whole_complete (rules_of c.args.printed c.limit.result (length c.args.ts.now + 1)) (all_seen c.args.text.now c.args.ts.now) u (omega (arith, length-map c.args.ts.now (seen c.args.text.now)))
    (subst (λ m. IsLow c.args.printed m 1 (all_seen c.args.text.now c.args.ts.now) u []) (sym c.limit.ensures) is))
    ∙ c.in_ok-built.ensures ∙ ap (λ (e : Expr). Some (t.expr e)) (sym c.into_inner.ensures)

pub returns-in_err-built-clause-only : goal.returns-in_err-built-clause-only
returns-in_err-built-clause-only c =
    let p = err_from_is_err_and c.from_residual.result c.from_residual.ensures.1 in
    λ u is. rw (p.1, p.2) (refuses_all c.in_err-built.field-0.0 (rules_of c.args.printed c.limit.result (length c.args.ts.now + 1)) (all_seen c.args.text.now c.args.ts.now) (omega (arith, length-map c.args.ts.now (seen c.args.text.now)))
    c.in_err-built.ensures u (subst (λ m. IsLow c.args.printed m 1 (all_seen c.args.text.now c.args.ts.now) u []) (sym c.limit.ensures) is))
