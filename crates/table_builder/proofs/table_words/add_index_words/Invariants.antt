use Rattle.std.proofs.Common.{◌≡◌, ◌-◌, ◌++◌}
use Rattle.instrumentation.specs.Pieces.{index_words_from}
use Rattle.table_builder.specs.Words.{plain_words}
use Rattle.table_builder.proofs.table_words.add_index_words.Given as goal

abbrev pub invariant-loop-dimension : goal.invariant-loop-dimension
invariant-loop-dimension l =
    plain_words l.words ++ index_words_from l.dimension (l.dimensions - l.dimension) ≡ plain_words l.fn.words ++ index_words_from 0 l.dimensions
