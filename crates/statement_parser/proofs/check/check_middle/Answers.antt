use Rattle.std.proofs.Common.{rules}
use Rattle.c_tree.specs.Trees as t
use Rattle.grammar_reading.specs.Blocks.{check_middle}
use Rattle.statement_parser.proofs.check.check_middle.Goals as goal

pub returns-in_err-rest : goal.returns-in_err-rest
unfolding check_middle
returns-in_err-rest c =
    let tail = c.in_err-rest.ensures (t.expr c.in_ok-extent.extent.value) in
    search rules

pub returns : goal.returns
unfolding check_middle
returns c =
    let tail = c.in_ok-rest.ensures (t.expr c.in_ok-extent.extent.value) in
    search rules
