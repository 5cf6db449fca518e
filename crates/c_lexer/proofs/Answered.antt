-- What the lexer answers, from what it reads.
use Rattle.std.proofs.Common.{List, length, Result, Ok, Err, subst}
use Rattle.std.specs.Result.{IfOk}
use Rattle.c_tree.specs.declared.token.Token.{Token}
use Rattle.c_tree.specs.Grammar.Tokens.{Text}
use Rattle.c_lexer.specs.declared.fault.LexFault.{LexFault}
use Rattle.c_lexer.specs.declared.fault.LexFault.TheVariants.{Lexical, OutOfMemory}
use Rattle.c_lexer.specs.Agrees.{Agrees}
use Rattle.c_lexer.specs.Answers.{Answers, AreInOrder, AreParts}
use Rattle.c_lexer.specs.Reading.{tokens_of}
use Rattle.c_lexer.proofs.Meant.{MeansAll, means_all}
use Rattle.c_lexer.proofs.Parts as p

pub answered : (text : Text) (r : Result (List Token) LexFault) → Agrees (tokens_of text) r → Answers text r
answered text (Ok ts) h = subst (MeansAll text) h (means_all text)
answered text (Err (Lexical byte)) h = subst (MeansAll text) h (means_all text)
answered text (Err OutOfMemory) h = tt

pub in_order : (text : Text) (r : Result (List Token) LexFault) → Answers text r → IfOk r (λ ts. AreInOrder 0 ts (length text))
in_order text (Ok ts) h = p.in_order text ts h
in_order text (Err e) h = tt

pub parts : (text : Text) (r : Result (List Token) LexFault) → Answers text r → IfOk r (AreParts text)
parts text (Ok ts) h = p.parts text ts h
parts text (Err e) h = tt
