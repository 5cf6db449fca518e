use Rattle.std.proofs.Common.{map, refl}
use Rattle.c_tree.specs.Trees.{word}
use Rattle.c_printer.specs.Before.{word_before, words_before}
use Rattle.text_writer.proofs.Writes.{line_more}
use Rattle.c_printer.proofs.head.put_words.Goals as goal

pub loop-w-preserved : goal.loop-w-preserved
loop-w-preserved c =
    line_more (λ w. word_before (word w.0, w.1)) (λ ws. words_before (map (λ w. (word w.0, w.1)) ws)) _
    c.as_slice-w-items.result.now c.loop-w.w-index c.w-item.result c.args.out.now c.loop-w.out c.put_word.new.out
    (λ w ws rest. refl) c.loop-w-test.true c.w-item.is c.loop-w.invariant c.put_word.ensures
