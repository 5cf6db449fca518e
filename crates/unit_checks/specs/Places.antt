-- Where an expression stands, and what is said of it there.
use Rattle.std.specs.Prelude.{Bool, true, false, ◌&&◌, if◌then◌else◌}
use Rattle.c_tree.specs.Plain.{PlainExpr, lit}
use Rattle.c_tree.specs.Kinds.{is_signed, is_word}
use Rattle.acceptance.specs.Items.{Scope}
use Rattle.acceptance.specs.Head.{head_scope}
use Rattle.acceptance.specs.Printed.{is_signed_expr, is_word_expr, kind_of, reads_no_array}
use Rattle.scopes.specs.Scopes.{declared_in, scope_in}
use Rattle.unit_checks.specs.declared.kinds.Place.{Place}
use Rattle.unit_checks.specs.declared.kinds.Place.TheVariants.{Item, Head}

abbrev pub names_in : Place → Scope
names_in (Item sc) = scope_in sc.now
names_in (Head declared) = head_scope (declared_in declared.now)

-- under a cast
abbrev pub signed_or_word : Scope → PlainExpr → Bool
signed_or_word sc e = if is_signed (kind_of sc e) then is_signed_expr sc false e else is_word_expr sc e

-- a subscript of an array
abbrev pub a_subscript : Scope → PlainExpr → Bool
a_subscript sc e = if is_word (kind_of sc e) then is_word_expr sc e && reads_no_array sc e else is_signed_expr sc false e

abbrev pub a_literal : PlainExpr → Bool
a_literal (lit n) = true
a_literal _ = false
