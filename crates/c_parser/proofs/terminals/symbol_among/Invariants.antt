use Rattle.std.proofs.Common.{◌≡◌, drop}
use Rattle.c_tree.specs.Grammar.Texts as texts
use Rattle.c_parser.specs.Spellings.{rows}
use Rattle.c_parser.proofs.terminals.symbol_among.Given as goal

abbrev pub invariant-loop-spelling : goal.invariant-loop-spelling
invariant-loop-spelling l = texts.find_symbol (rows l.table) l.bytes ≡ texts.find_symbol (rows (drop l.spelling-index l.table)) l.bytes
