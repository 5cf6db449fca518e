-- A refusal of the function is one of the grammar.
use Rattle.std.proofs.Common.{◌≡◌, ◌<◌, List, [], length, Some, subst}
use Rattle.c_tree.specs.Plain.{PlainExpr}
use Rattle.c_tree.specs.Grammar.Lexemes.{Lexeme}
use Rattle.c_tree.specs.Grammar.Expressions.{IsLow}
use Rattle.grammar_reading.specs.declared.rules.Rules.{Rules}
use Rattle.grammar_reading.specs.Reading.{whole}
use Rattle.grammar_reading.proofs.Whole.{whole_complete}
use Rattle.expression_parser.specs.declared.error.ParseError.{ParseError}
use Rattle.expression_parser.specs.Outcome.{Refuses}

pub refuses_all : (e : ParseError) (c : Rules) (ts : List Lexeme) → length ts < c.turns → Refuses e (whole c ts) → (u : PlainExpr) → IsLow c.printed c.limit 1 ts u [] → Refuses e (Some u)
refuses_all e c ts turns h u is = subst (Refuses e) (whole_complete c ts u turns is) h
