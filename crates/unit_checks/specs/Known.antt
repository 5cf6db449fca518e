-- What may be named in an expression, as a scope.
use Rattle.std.specs.Prelude.{map}
use Rattle.c_tree.specs.Plain.{int_param}
use Rattle.acceptance.specs.Items.{Scope}
use Rattle.acceptance.specs.Head.{ints_scope}
use Rattle.scopes.specs.Scopes.{scope_in}
use Rattle.unit_checks.specs.declared.known.Known.{Known}
use Rattle.unit_checks.specs.declared.known.Known.TheVariants.{Around, Before}

abbrev pub known_in : Known → Scope
known_in (Around sc) = scope_in sc.now
known_in (Before names) = ints_scope (map int_param names.now)
