use Rattle.std.proofs.Common.{◌≡◌}
use Rattle.std.specs.Int.{int_wrap}
use Rattle.std.specs.Fmt.{digits}
use Rattle.c_tree.specs.Fault.{disturbed}
use Rattle.c_tree.specs.Run.{balanced, index}
use Rattle.instrumentation.specs.Names.{register, result, count, definition_total, use_total, coordinate, pass_variable, active, counter, function_name, written, index_word, current, counts}
use Rattle.turned_texts.specs.Sources.{last_cell}
use Rattle.turned_texts.proofs.Sound.{pick_sound}
use Rattle.turned_texts.proofs.indices.indices_are_checked_by_their_extent.Goals as goal

pub returns : goal.returns
unfolding int_wrap digits disturbed register result count definition_total use_total coordinate pass_variable active counter function_name written index_word current counts
returns c = λ ends. let e : index 2 ≡ balanced = (ends last_cell pick_sound).0 in cc
