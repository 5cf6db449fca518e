use Rattle.std.proofs.Common.{◌≡◌, ℕ, List, Ok, Err, ◌⊎◌, inl, inr}
use Rattle.c_tree.specs.declared.token.Token.{Token}
use Rattle.c_tree.specs.Grammar.Tokens.{Text, AreTokens, StopsAt}
use Rattle.c_lexer.specs.Reading.{Reading, tokens_of}
use Rattle.c_lexer.proofs.Meant.{MeansAll, means_all, tokens_complete, stops_complete}
use Rattle.c_lexer.proofs.laws.one_reading.Goals as goal

either_of : (text : Text) (r : Reading) → MeansAll text r → ((ts : List Token) × AreTokens text ts) ⊎ ((byte : ℕ) × StopsAt text byte)
either_of text (Ok ts) m = inl (ts, m)
either_of text (Err byte) m = inr (byte, m)

same_tokens : (r : Reading) (ts us : List Token) → r ≡ Ok ts → r ≡ Ok us → ts ≡ us
same_tokens r ts us e f = cc

same_byte : (r : Reading) (a b : ℕ) → r ≡ Err a → r ≡ Err b → a ≡ b
same_byte r a b e f = cc

differ : (r : Reading) (ts : List Token) (b : ℕ) → r ≡ Ok ts → r ≡ Err b → ⊥
differ r ts b e f = cc

pub returns : goal.returns
returns c = record {
  tokens_or_stop = λ text. either_of text (tokens_of text) (means_all text);
  not_both = λ text ts byte a s. differ (tokens_of text) ts byte (tokens_complete text ts a) (stops_complete text byte s);
  one_list = λ text ts us a b. same_tokens (tokens_of text) ts us (tokens_complete text ts a) (tokens_complete text us b);
  one_byte = λ text first second a b. same_byte (tokens_of text) first second (stops_complete text first a) (stops_complete text second b);
}
