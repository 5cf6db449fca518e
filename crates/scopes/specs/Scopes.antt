-- What the scopes of the code stand for.
use Rattle.std.specs.Prelude.{List, [], ◌∷◌}
use Rattle.c_tree.specs.Plain.{PlainUnit}
use Rattle.c_tree.specs.Trees.{expr, unit, word}
use Rattle.acceptance.specs.Affine.{Intervals}
use Rattle.acceptance.specs.Items.{Loop, Scope, scope_of}
use Rattle.scopes.specs.Intervals.{interval_in}
use Rattle.scopes.specs.declared.declared.Declared.{Declared}
use Rattle.scopes.specs.declared.scope.Around.{Around, Nothing, Within'}
use Rattle.scopes.specs.declared.scope.Scope.{Scope as TheScope}

-- the unit whose names they are
abbrev pub declared_in : Declared → PlainUnit
declared_in d = unit d.unit.now

abbrev pub loops_in : Around → List Loop
loops_in Nothing = []
loops_in (Within' x lo rel hi interval p outer) = record { name = word x.now; lo = expr lo.now; rel = rel; hi = expr hi.now } ∷ loops_in outer

-- the intervals that are kept at the loops, before those of the parameters
abbrev pub kept_intervals : Intervals → Around → Intervals
kept_intervals params Nothing = params
kept_intervals params (Within' x lo rel hi interval p outer) = (word x.now, interval_in interval) ∷ kept_intervals params outer

abbrev pub scope_in : TheScope → Scope
scope_in sc = scope_of (declared_in sc.declared.now) (loops_in sc.around.now) sc.tables.now
