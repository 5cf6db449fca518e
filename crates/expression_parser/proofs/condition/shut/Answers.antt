use Rattle.std.proofs.Common.{◌≡◌, ℕ, List, sym, ap, ◌∙◌, arith}
use Rattle.c_tree.specs.Grammar.Lexemes.{Lexeme}
use Rattle.expression_parser.specs.Terminals.{all_seen}
use Rattle.expression_parser.proofs.Seeks.{shut_none, shut_some, shut_zero}
use Rattle.expression_parser.proofs.condition.shut.Goals as goal

pub returns-in_default-clause-count : goal.returns-in_default-clause-count
returns-in_default-clause-count c = sym (ap (λ (o : ℕ × List Lexeme). o.0) (c.closing.invariant ∙ shut_none c.closing.left (all_seen c.args.text.now c.closing.rest.now) (sym c.in_default.ensures.value)))

pub returns-in_default-clause-behind : goal.returns-in_default-clause-behind
returns-in_default-clause-behind c = sym (ap (λ (o : ℕ × List Lexeme). o.1) (c.closing.invariant ∙ shut_none c.closing.left (all_seen c.args.text.now c.closing.rest.now) (sym c.in_default.ensures.value)))

pub closing-preserved : goal.closing-preserved
closing-preserved c = c.closing.invariant ∙ shut_some c.closing.left (all_seen c.args.text.now c.closing.rest.now) (all_seen c.args.text.now c.in-Some.behind.now) c.closing-test.true (sym c.in-Some.ensures.value)

pub returns-clause-count : goal.returns-clause-count
returns-clause-count c = sym (ap (λ (o : ℕ × List Lexeme). o.0) (c.closing.invariant ∙ shut_zero c.closing.left (all_seen c.args.text.now c.closing.rest.now) c.closing-test.false))

pub returns-clause-behind : goal.returns-clause-behind
returns-clause-behind c = sym (ap (λ (o : ℕ × List Lexeme). o.1) (c.closing.invariant ∙ shut_zero c.closing.left (all_seen c.args.text.now c.closing.rest.now) c.closing-test.false))
