use Rattle.std.proofs.Common.{◌∷◌, List, ap, sym, subst, ◌∙◌, Bor}
use Rattle.c_tree.specs.Plain.{Word}
use Rattle.scopes.specs.Intervals.{reversed}
use Rattle.scopes.specs.Names.{HasSameNames}
use Rattle.scopes.proofs.Lists.{reversed-push}
use Rattle.scopes.proofs.SameNames.{added}
use Rattle.scopes.proofs.name_set.NameSet.add.Goals as goal

pub invariant_of-self-2 : goal.invariant_of-self-2
invariant_of-self-2 c =
    let kept = subst (λ (ks : List (Bor Word)). HasSameNames ks c.self.inside.names) (sym c.reserve.ensures.keys) c.self.invariant in
    added c.reserve.new.self.keys c.insert.new.self.keys c.self.inside.names c.push.new.self c.as_slice.result c.args.name kept c.as_slice.ensures c.in_ok-insert.ensures.keys c.in_ok-push.ensures.ok

pub returns : goal.returns
returns c = ap reversed c.in_ok-push.ensures.ok ∙ reversed-push c.self.inside.names c.args.name ∙ ap (λ (ws : List Word). c.args.name.now.bytes ∷ ws) c.self.view_is
