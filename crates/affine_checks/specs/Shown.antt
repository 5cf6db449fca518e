-- What the values of the code stand for.
use Rattle.acceptance.specs.Affine.{Interval, Intervals}
use Rattle.acceptance.specs.Head.{intervals_of}
use Rattle.scopes.specs.Scopes.{declared_in, kept_intervals}
use Rattle.scopes.specs.declared.scope.Scope.{Scope as TheScope}
use Rattle.affine_checks.specs.declared.bounds.Wide.{Wide}

abbrev pub wide_in : Wide → Interval
wide_in i = (i.least, i.greatest)

-- the intervals of names at an item, as they are kept
abbrev pub intervals_at : TheScope → Intervals
intervals_at sc = kept_intervals (intervals_of (declared_in sc.declared.now)) sc.around.now
