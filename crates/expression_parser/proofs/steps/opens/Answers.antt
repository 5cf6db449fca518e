use Rattle.std.proofs.Common.{arith, sym, ap, ℕ, List}
use Rattle.c_tree.specs.Grammar.Lexemes.{Lexeme}
use Rattle.expression_parser.specs.Terminals.{all_seen}
use Rattle.grammar_reading.specs.Reading.{opens}
use Rattle.grammar_reading.proofs.Complete.{count_more, count_done}
use Rattle.expression_parser.proofs.steps.opens.Goals as goal

pub front-preserved : goal.front-preserved
front-preserved c = record {
  whole = count_more (opens (all_seen c.args.text.now c.args.ts.now)) c.front.count (all_seen c.args.text.now c.front.rest.now) (all_seen c.args.text.now c.in-Some.inside.now) c.front.invariant.whole (sym c.in-Some.ensures.value);
  room = omega (arith, c.in-Some.ensures.shorter);
}

pub returns : goal.returns
returns c =
    let whole = count_done (opens (all_seen c.args.text.now c.args.ts.now)) c.front.count (all_seen c.args.text.now c.front.rest.now) c.front.invariant.whole (sym c.in_default.ensures.value) in
    record { count = ap (λ (o : ℕ × List Lexeme). o.0) whole; inside = ap (λ (o : ℕ × List Lexeme). o.1) whole }
