use Rattle.sites.specs.Asked.{number_asked}
use Rattle.sites.proofs.Filtered.{some_up_to}
use Rattle.sites.proofs.report.has_any.Goals as goal

pub returns : goal.returns
returns c = some_up_to c.number.result (number_asked c.args.unit.now c.args.array.now.bytes c.args.ask) c.number.ensures
