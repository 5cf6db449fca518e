use Rattle.std.proofs.Common.{ap, ◌∙◌, sym}
use Rattle.scopes.specs.Scopes.{declared_in}
use Rattle.kernel_check.proofs.Over.{at_count, shown}
use Rattle.kernel_check.proofs.counts.in_items.Goals as goal

pub returns-in-Some : goal.returns-in-Some
returns-in-Some c = sym (ap (shown c.args.counted) c.in-Some.is) ∙ at_count c.args.check c.args.counted (declared_in c.args.declared.now) c.in_ok-item.field-0 c.requires.count (c.in_ok-item.ensures c.requires.numbered.few)

pub returns-in-None : goal.returns-in-None
returns-in-None c = sym (ap (shown c.args.counted) c.in-None.is) ∙ at_count c.args.check c.args.counted (declared_in c.args.declared.now) c.in_ok-item.field-0 c.requires.count (c.in_ok-item.ensures c.requires.numbered.few)
