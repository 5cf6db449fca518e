use Rattle.std.proofs.Common.{refl}
use Rattle.std.specs.Int.{int_wrap}
use Rattle.std.specs.Fmt.{digits}
use Rattle.c_tree.specs.Fault.{disturbed}
use Rattle.instrumentation.specs.Names.{register, result, count, definition_total, use_total, coordinate, pass_variable, active, counter, function_name, written, index_word, current, counts}
use Rattle.turned_texts.proofs.Sound as inputs
use Rattle.turned_texts.proofs.right.chase_is_told.Goals as goal

pub returns-clause-sound : goal.returns-clause-sound
returns-clause-sound c = inputs.chase_sound

pub returns-clause-pick_sound : goal.returns-clause-pick_sound
returns-clause-pick_sound c = inputs.pick_sound

pub returns-clause-calm : goal.returns-clause-calm
unfolding int_wrap digits disturbed register result count definition_total use_total coordinate pass_variable active counter function_name written index_word current counts
returns-clause-calm c = refl

pub returns-clause-told : goal.returns-clause-told
unfolding int_wrap digits disturbed register result count definition_total use_total coordinate pass_variable active counter function_name written index_word current counts
returns-clause-told c = refl

pub returns-clause-pick_calm : goal.returns-clause-pick_calm
unfolding int_wrap digits disturbed register result count definition_total use_total coordinate pass_variable active counter function_name written index_word current counts
returns-clause-pick_calm c = refl

pub returns-clause-checks : goal.returns-clause-checks
returns-clause-checks c = refl

pub returns-clause-tables : goal.returns-clause-tables
returns-clause-tables c = refl

pub returns-clause-pieces : goal.returns-clause-pieces
returns-clause-pieces c = refl
