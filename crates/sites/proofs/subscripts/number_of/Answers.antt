use Rattle.std.proofs.Common.{sym, ◌∙◌}
use Rattle.sites.proofs.Fronts.{found_at, further_on, word_left}
use Rattle.sites.proofs.subscripts.number_of.Goals as goal

pub returns-then-same : goal.returns-then-same
returns-then-same c =
    found_at _ _ _ _ _ _ c.loop-other.invariant (word_left c.args.arrays.now c.loop-other.other-index c.other-item.result c.loop-other-test.true c.other-item.is) (sym c.same.ensures ∙ c.if-same.true)

pub loop-other-preserved : goal.loop-other-preserved
loop-other-preserved c =
    further_on _ _ _ _ _ _ c.loop-other.invariant (word_left c.args.arrays.now c.loop-other.other-index c.other-item.result c.loop-other-test.true c.other-item.is) c.in_ok-number.ensures
