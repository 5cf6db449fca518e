use Rattle.std.proofs.Common.{sym, ◌∙◌}
use Rattle.sites.specs.Asked.{ints_of, sites_in}
use Rattle.sites.specs.Classes as spec
use Rattle.sites.specs.Sites.{around}
use Rattle.sites.specs.Small.{where_small}
use Rattle.sites.proofs.Filtered.{all_counted}
use Rattle.sites.proofs.report.is_good.Goals as goal

pub returns : goal.returns
returns c = c.has_at_most.ensures ∙ sym (all_counted (λ s. spec.is_good where_small (ints_of c.args.unit.now) (around s) s.reach.at) (sites_in c.args.unit.now c.args.array.now.bytes))
