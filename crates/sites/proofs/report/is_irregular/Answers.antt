use Rattle.std.proofs.Common.{sym, ◌∙◌}
use Rattle.sites.specs.Asked.{sites_in}
use Rattle.sites.specs.Classes as spec
use Rattle.sites.proofs.Filtered.{any_counted}
use Rattle.sites.proofs.report.is_irregular.Goals as goal

pub returns : goal.returns
returns c = c.has_any.ensures ∙ sym (any_counted (λ s. spec.is_irregular s.reach) (sites_in c.args.unit.now c.args.array.now.bytes))
