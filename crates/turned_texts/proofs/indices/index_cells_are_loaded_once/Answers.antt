use Rattle.std.proofs.Common.{◌≡◌, length, ap, arith}
use Rattle.std.specs.Int.{int_wrap}
use Rattle.std.specs.Fmt.{digits}
use Rattle.c_tree.specs.Fault.{disturbed}
use Rattle.instrumentation.specs.Names.{register, result, count, definition_total, use_total, coordinate, pass_variable, active, counter, function_name, written, index_word, current, counts}
use Rattle.turned_texts.specs.Sources.{round}
use Rattle.turned_texts.proofs.Sound.{chase_sound}
use Rattle.turned_texts.proofs.indices.index_cells_are_loaded_once.Goals as goal

pub returns : goal.returns
unfolding int_wrap digits disturbed register result count definition_total use_total coordinate pass_variable active counter function_name written index_word current counts
returns c = λ same. let e : 12 ≡ 9 = ap length (same round chase_sound) in absurd (omega (arith, e))
