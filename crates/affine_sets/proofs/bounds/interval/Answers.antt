use Rattle.std.proofs.Common.{◌≡◌, ℕ, ℤ, subst, sym}
use Rattle.affine_sets.specs.Sums.{value_at}
use Rattle.affine_sets.specs.Ends.{interval_of, IsPoint, HasPoints, IsReached, LiesWithin}
use Rattle.affine_sets.proofs.EndLaws.{bounds, least_reached, greatest_reached}
use Rattle.affine_sets.proofs.bounds.interval.Goals as goal

from : (P : ℤ × ℤ → Type 0) (r s : ℤ × ℤ) → r ≡ s → P s → P r
from P r s e h = subst P (sym e) h

pub returns-clause-bounds : goal.returns-clause-bounds
returns-clause-bounds c =
    let a = c.args.a.now in
    let within = c.args.within.now in
    from (λ r. (point : ℕ → ℤ) → IsPoint within point → LiesWithin r (value_at point a)) _ (interval_of a within) c.both_ends.ensures (bounds a within c.requires.variables)

pub returns-clause-least : goal.returns-clause-least
returns-clause-least c =
    let a = c.args.a.now in
    let within = c.args.within.now in
    from (λ r. HasPoints within → IsReached a within r.0) _ (interval_of a within) c.both_ends.ensures (least_reached a within c.requires.ordered c.requires.variables)

pub returns-clause-greatest : goal.returns-clause-greatest
returns-clause-greatest c =
    let a = c.args.a.now in
    let within = c.args.within.now in
    from (λ r. HasPoints within → IsReached a within r.1) _ (interval_of a within) c.both_ends.ensures (greatest_reached a within c.requires.ordered c.requires.variables)
