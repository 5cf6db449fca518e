use Rattle.std.proofs.Common.{◌≡◌, ◌+◌, true, List, [], ◌∷◌, ◌++◌, length, ap, ◌∙◌, subst, arith}
use Rattle.c_tree.specs.Grammar.Tokens.{is_printed}
use Rattle.c_tree.specs.Layout.{preamble}
use Rattle.c_tree.specs.declared.token.Token.{Token}
use Rattle.c_tree.specs.declared.token.TokenKind.TheVariants.{Preamble}
use Rattle.c_lexer.specs.Agrees.{Agrees}
use Rattle.c_lexer.specs.Reading.{Reading, preamble_token}
use Rattle.c_lexer.proofs.Turns.{printed_is}
use Rattle.c_lexer.proofs.Meant.{preamble_fits}
use Rattle.c_lexer.proofs.read.read.Goals as goal

pub read_from-requires-2-clause-within : goal.read_from-requires-2-clause-within
read_from-requires-2-clause-within c =
    let printed : is_printed c.args.text.now ≡ true = cc in
    omega (arith, preamble_fits c.args.text.now printed, ap length c.preamble-behind.ensures)

pub returns : goal.returns
returns c =
    let text = c.args.text.now in
    let first = c.preamble-behind.result.now in
    let printed : is_printed text ≡ true = cc in
    let end : 0 + length first ≡ length preamble = omega (arith, ap length c.preamble-behind.ensures) in
    let token : c.make_token.result ≡ preamble_token = c.make_token.ensures ∙ ap (λ n. let t : Token = record { kind = Preamble; start = 0; end = n } in t) end in
    let found : c.push.new.self ≡ preamble_token ∷ [] = c.in_ok-push.ensures.ok ∙ ap (λ (ts : List Token). ts ++ c.make_token.result ∷ []) c.new-tokens.ensures ∙ ap (λ t. t ∷ []) token in
    subst (λ (r : Reading). Agrees r c.read_from-2.result) (printed_is text first c.push.new.self printed c.preamble-behind.ensures found) c.read_from-2.ensures
