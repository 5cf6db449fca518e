use Rattle.std.proofs.Common.{◌≡◌, ◌-◌, arith, sym, ◌∙◌}
use Rattle.std.proofs.lemmas.Grind.{common_steps}
use Rattle.std.proofs.lemmas.List.{append-nil}
use Rattle.table_builder.specs.Words.{plain_words}
use Rattle.table_builder.proofs.IndexWords.{index_words-more}
use Rattle.table_builder.proofs.table_words.add_index_words.Goals as goal

pub loop-dimension-preserved : goal.loop-dimension-preserved
loop-dimension-preserved c = grind (arith, common_steps, index_words-more c.loop-dimension.dimension c.args.dimensions)

pub returns : goal.returns
returns c =
    let none_left : c.args.dimensions - c.loop-dimension.dimension ≡ 0 = omega arith in
    sym (append-nil (plain_words c.loop-dimension.words)) ∙ rw none_left at c.loop-dimension.invariant
