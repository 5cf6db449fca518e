use Rattle.std.proofs.Common.{map, string_bytes}
use Rattle.command_line.proofs.Ranges.{ordered_in_range}
use Rattle.command_line.proofs.words.command_of.Goals as goal

pub returns-clause-range : goal.returns-clause-range
returns-clause-range c = ordered_in_range (map string_bytes c.args.words.now) c.ordered_by.result c.ordered_by.ensures
