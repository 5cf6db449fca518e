use Rattle.std.proofs.Common.{◌∙◌, sym}
use Rattle.fault_plan.proofs.VisibleLines.{line_taken, line_passed, rest_shorter, no_lines}
use Rattle.fault_plan.proofs.lines.first_visible.Goals as goal

pub returns-then-is_visible : goal.returns-then-is_visible
returns-then-is_visible c =
    sym c.loop-rest.invariant
    ∙ line_taken c.loop-rest.rest.now _ _ (sym c.is_empty.ensures ∙ c.loop-rest-test.true) c.split_line.ensures.line c.split_line.ensures.rest (sym c.is_visible.ensures ∙ c.if-is_visible.true)

pub loop-rest-smaller : goal.loop-rest-smaller
loop-rest-smaller c =
    rest_shorter c.loop-rest.rest.now _ _ (sym c.is_empty.ensures ∙ c.loop-rest-test.true) c.split_line.ensures.line c.split_line.ensures.rest

pub loop-rest-preserved : goal.loop-rest-preserved
loop-rest-preserved c =
    sym (line_passed c.loop-rest.rest.now _ _ (sym c.is_empty.ensures ∙ c.loop-rest-test.true) c.split_line.ensures.line c.split_line.ensures.rest (sym c.is_visible.ensures ∙ c.if-is_visible.false))
    ∙ c.loop-rest.invariant

pub returns : goal.returns
returns c = sym c.loop-rest.invariant ∙ no_lines c.loop-rest.rest.now (sym c.is_empty.ensures ∙ c.loop-rest-test.false)
