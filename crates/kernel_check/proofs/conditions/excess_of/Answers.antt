use Rattle.std.proofs.Common.{not, ap, sym, ◌∙◌}
use Rattle.c_tree.specs.Trees.{stmt}
use Rattle.acceptance.specs.Affine.{Intervals, holds_throughout, is_narrow}
use Rattle.acceptance.specs.Parts.{item_parts_hold}
use Rattle.scopes.specs.Scopes.{declared_in, scope_in}
use Rattle.kernel_check.specs.Conditions.{excess, holds}
use Rattle.kernel_check.specs.Items.{item_in}
use Rattle.kernel_check.specs.declared.conditions.Check.{Check}
use Rattle.kernel_check.proofs.Ranged.{ranged}
use Rattle.kernel_check.proofs.conditions.excess_of.Goals as goal

pub returns-in-IntervalTooWide : goal.returns-in-IntervalTooWide
returns-in-IntervalTooWide c =
    let sc = c.args.sc.now in
    let s = stmt c.args.s.now in
    c.found-in-IntervalTooWide.ensures
    ∙ ap holds (c.is_too_wide.ensures ∙ ap (λ (rs : Intervals). not (item_parts_hold (holds_throughout (is_narrow rs)) (scope_in sc) s)) (ranged c.args.check sc c.in-IntervalTooWide.is c.requires))
    ∙ ap (λ (k : Check). excess k (declared_in sc.declared.now) (item_in sc s)) (sym c.in-IntervalTooWide.is)
