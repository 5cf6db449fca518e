use Rattle.std.proofs.Common.{map, string_bytes}
use Rattle.command_line.proofs.Modes.{print_none}
use Rattle.command_line.proofs.words.print_of.Goals as goal

pub returns-in-Err : goal.returns-in-Err
returns-in-Err c = λ is. print_none (map string_bytes c.args.words.now) c.args.mode.now c.requires.mode c.requires.words (c.in-Err.ensures is)
