use Rattle.std.proofs.Common.{rules}
use Rattle.reports.proofs.text.put_param.Goals as goal

pub returns-in-Array : goal.returns-in-Array
returns-in-Array c = rw c.in-Array.is (search rules)
