use Rattle.std.proofs.Common.{◌≡◌, ℕ, List, [], ◌∷◌, ap, arith, refl}
use Rattle.std.specs.Int.{int_wrap}
use Rattle.std.specs.Fmt.{digits}
use Rattle.c_tree.specs.Fault.{disturbed}
use Rattle.c_tree.specs.Accesses.{latest, sum_below, uses}
use Rattle.balance_laws.specs.Totals.{sum_cells, definition_sum, use_sum}
use Rattle.c_tree.specs.Run.{fault}
use Rattle.turned_texts.specs.Sources.{five}
use Rattle.turned_texts.proofs.Sound.{fill_sound}
use Rattle.turned_texts.proofs.Faults.{in_fill, fill_fits, fill_is_read}
use Rattle.instrumentation.specs.Names.{register, result, count, definition_total, use_total, coordinate, pass_variable, active, counter, function_name}
use Rattle.turned_texts.proofs.totals.arrays_have_totals.Goals as goal

abbrev first_definition : List (ℕ × ℕ) → ℕ
first_definition [] = 0
first_definition (pair ∷ more) = pair.0

pub returns-clause-names : goal.returns-clause-names
unfolding int_wrap digits disturbed register result count definition_total use_total coordinate pass_variable active counter function_name
returns-clause-names c = λ names. let e : fault (0 ∷ []) ≡ fault (1 ∷ []) = names five in_fill fill_sound fill_fits refl fill_is_read in cc

pub returns-clause-totals : goal.returns-clause-totals
unfolding int_wrap digits latest sum_below uses sum_cells definition_sum use_sum register result count definition_total use_total coordinate pass_variable active counter function_name
returns-clause-totals c = λ has. let e : 10 ≡ 0 = ap first_definition (has five fill_sound) in absurd (omega (arith, e))
