use Rattle.std.proofs.Common.{sym, ◌∙◌}
use Rattle.sites.specs.Asked.{sites_in}
use Rattle.sites.specs.Classes as spec
use Rattle.sites.specs.Sites.{around}
use Rattle.sites.specs.Small.{where_small}
use Rattle.sites.proofs.Filtered.{any_counted}
use Rattle.sites.proofs.report.occurs.Goals as goal

pub returns : goal.returns
returns c = c.has_any.ensures ∙ sym (any_counted (λ s. spec.occurs where_small c.args.x.now.bytes (around s) s.reach.at) (sites_in c.args.unit.now c.args.array.now.bytes))
