-- Which call of the grammar it is.
use Rattle.c_tree.specs.Grammar.Tables.{Call, call_min, call_max, call_least, call_greatest}
use Rattle.expression_parser.specs.declared.build.Two.{Two}
use Rattle.expression_parser.specs.declared.build.Two.TheVariants as two

abbrev pub call_of : Two → Call
call_of two.Min = call_min
call_of two.Max = call_max
call_of two.Least = call_least
call_of two.Greatest = call_greatest
