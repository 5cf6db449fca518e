use Rattle.sites.specs.Asked.{number_asked}
use Rattle.sites.proofs.Filtered.{most_up_to}
use Rattle.sites.proofs.report.has_at_most.Goals as goal

pub returns : goal.returns
returns c = most_up_to c.number.result (number_asked c.args.unit.now c.args.array.now.bytes c.args.ask) c.args.most c.ranges.most.fits c.number.ensures
