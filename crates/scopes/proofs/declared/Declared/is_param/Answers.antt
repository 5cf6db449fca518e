use Rattle.std.proofs.Common.{ap, ◌∙◌, map}
use Rattle.c_tree.specs.Trees.{param}
use Rattle.scopes.specs.declared.known.Known.{Known}
use Rattle.scopes.proofs.KnownNames.{in_int, in_array}
use Rattle.scopes.proofs.declared.Declared.is_param.Goals as goal

pub returns-then-known : goal.returns-then-known
returns-then-known c =
    let is = c.find-known.ensures ∙ c.args.self.now.known c.args.name.now.bytes in
    in_int (map param c.args.self.now.unit.now.params) c.args.name.now.bytes c.find-known.result.int (ap (λ (k : Known). k.int) is) c.if-known.true

pub returns-else-known : goal.returns-else-known
returns-else-known c =
    let is = c.find-known.ensures ∙ c.args.self.now.known c.args.name.now.bytes in
    in_array (map param c.args.self.now.unit.now.params) c.args.name.now.bytes c.find-known.result.int c.find-known.result.array (ap (λ (k : Known). k.int) is) c.if-known.false (ap (λ (k : Known). k.array) is)
