use Rattle.std.proofs.Common.{drop, map}
use Rattle.c_tree.specs.Trees.{word}
use Rattle.c_printer.specs.Before.{words_before}
use Rattle.text_writer.specs.Written.{left_to_add}
use Rattle.c_printer.proofs.head.put_words.Given as goal

abbrev pub invariant-loop-w : goal.invariant-loop-w
invariant-loop-w l = left_to_add l.fn.out l.out (words_before (map (λ w. (word w.0, w.1)) l.w-items)) (words_before (map (λ w. (word w.0, w.1)) (drop l.w-index l.w-items)))
