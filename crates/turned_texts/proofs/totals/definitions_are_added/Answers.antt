use Rattle.std.proofs.Common.{◌≡◌, [], ◌∷◌}
use Rattle.std.specs.Int.{int_wrap}
use Rattle.std.specs.Fmt.{digits}
use Rattle.c_tree.specs.Run.{balanced, fault}
use Rattle.turned_texts.specs.Sources.{one_to_three}
use Rattle.turned_texts.proofs.Sound.{sums_sound}
use Rattle.instrumentation.specs.Names.{register, result, count, definition_total, use_total, coordinate, pass_variable, active, counter, function_name}
use Rattle.turned_texts.proofs.totals.definitions_are_added.Goals as goal

pub returns : goal.returns
unfolding int_wrap digits register result count definition_total use_total coordinate pass_variable active counter function_name
returns c = λ ends. let e : fault (0 ∷ []) ≡ balanced = (ends one_to_three sums_sound).0 in cc
