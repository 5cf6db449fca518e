use Rattle.std.proofs.Common.{drop}
use Rattle.c_tree.specs.Trees.{unit as tree}
use Rattle.text_writer.specs.Written.{fixed, left_to_add}
use Rattle.reports.proofs.Lines.{lines_of}
use Rattle.reports.proofs.text.put_params.Given as goal

abbrev pub invariant-loop-p : goal.invariant-loop-p
invariant-loop-p l = left_to_add l.fn.out l.out (fixed (lines_of (tree l.unit) l.p-items)) (fixed (lines_of (tree l.unit) (drop l.p-index l.p-items)))
