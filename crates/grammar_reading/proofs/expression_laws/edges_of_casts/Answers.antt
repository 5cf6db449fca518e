use Rattle.std.proofs.Common.{arith}
use Rattle.grammar_reading.specs.Edges.{few, three_around, left_deep, left_deep_tree}
use Rattle.grammar_reading.proofs.Whole.{whole_sound, whole_complete}
use Rattle.grammar_reading.proofs.Edges.{refused, read, apart}
use Rattle.grammar_reading.proofs.expression_laws.edges_of_casts.Goals as goal

pub returns-clause-outside : goal.returns-clause-outside
returns-clause-outside c = λ u is. apart refused (whole_complete few three_around u (omega arith) is)

pub returns-clause-inside : goal.returns-clause-inside
returns-clause-inside c = whole_sound few (omega arith) left_deep left_deep_tree read
