use Rattle.std.proofs.Common.{ℕ, min, ap, ◌∙◌}
use Rattle.sites.proofs.Asking.{asked_is}
use Rattle.sites.proofs.report.number.Goals as goal

pub returns : goal.returns
returns c = c.found_all.ensures ∙ ap (λ (n : ℕ). min n 4294967295) (asked_is c.args.unit.now c.args.array.now.bytes c.args.ask)
