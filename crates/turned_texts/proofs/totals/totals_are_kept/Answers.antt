use Rattle.std.proofs.Common.{◌≡◌, ℕ, List, [], ◌∷◌, ap, arith, lit<}
use Rattle.std.specs.Int.{int_wrap}
use Rattle.std.specs.Fmt.{digits}
use Rattle.c_tree.specs.Fault.{disturbed}
use Rattle.c_tree.specs.Accesses.{latest, sum_below, uses}
use Rattle.balance_laws.specs.Totals.{sum_cells, definition_sum, use_sum}
use Rattle.turned_texts.specs.Sources.{one_to_three}
use Rattle.turned_texts.proofs.Sound.{sums_sound}
use Rattle.turned_texts.proofs.Faults.{in_sums, first_fits, first_is_read}
use Rattle.instrumentation.specs.Names.{register, result, count, definition_total, use_total, coordinate, pass_variable, active, counter, function_name}
use Rattle.turned_texts.proofs.totals.totals_are_kept.Goals as goal

abbrev first_definition : List (ℕ × ℕ) → ℕ
first_definition [] = 0
first_definition (pair ∷ more) = pair.0

pub returns-clause-reports : goal.returns-clause-reports
unfolding int_wrap digits disturbed register result count definition_total use_total coordinate pass_variable active counter function_name
returns-clause-reports c = λ exact. (exact one_to_three (in_sums 0 0 0) sums_sound (first_fits 0 (lit< tt))).1 (first_is_read 0)

pub returns-clause-totals : goal.returns-clause-totals
unfolding int_wrap digits latest sum_below uses sum_cells definition_sum use_sum register result count definition_total use_total coordinate pass_variable active counter function_name
returns-clause-totals c = λ has. let e : 0 ≡ 15 = ap first_definition (has one_to_three sums_sound) in absurd (omega (arith, e))
