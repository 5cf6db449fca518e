use Rattle.std.proofs.Common.{ap, ◌∙◌, sym}
use Rattle.scopes.specs.Scopes.{declared_in}
use Rattle.kernel_check.proofs.Firsts.{at_items, item_of}
use Rattle.kernel_check.proofs.refusing.least.Goals as goal

pub returns-in-Some : goal.returns-in-Some
returns-in-Some c =
    sym (ap item_of c.in-Some.is)
    ∙ at_items c.args.check (declared_in c.args.declared.now) c.in_ok-item.field-0 (sym c.if-branch.false ∙ c.in_ok-holds_at_head.ensures) (c.in_ok-item.ensures c.requires.few)

pub returns-in-None : goal.returns-in-None
returns-in-None c =
    sym (ap item_of c.in-None.is)
    ∙ at_items c.args.check (declared_in c.args.declared.now) c.in_ok-item.field-0 (sym c.if-branch.false ∙ c.in_ok-holds_at_head.ensures) (c.in_ok-item.ensures c.requires.few)
