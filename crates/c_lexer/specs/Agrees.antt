-- What the code answers, where a text is read so.
use Rattle.std.specs.Prelude.{◌≡◌, List, Result, Ok, Err}
use Rattle.c_tree.specs.declared.token.Token.{Token}
use Rattle.c_lexer.specs.declared.fault.LexFault.{LexFault}
use Rattle.c_lexer.specs.declared.fault.LexFault.TheVariants.{Lexical, OutOfMemory}
use Rattle.c_lexer.specs.Reading.{Reading}

abbrev pub Agrees : Reading → Result (List Token) LexFault → Type 0
Agrees r (Ok ts) = r ≡ Ok ts
Agrees r (Err (Lexical byte)) = r ≡ Err byte
Agrees r (Err OutOfMemory) = Unit {0}
