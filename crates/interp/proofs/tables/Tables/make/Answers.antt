use Rattle.std.proofs.Common.{rules}
use Rattle.std.proofs.lemmas.List.{map-set}
use Rattle.interp.proofs.tables.Tables.make.Goals as goal

pub returns-then-table-len : goal.returns-then-table-len
returns-then-table-len c = search (rules, map-set)
