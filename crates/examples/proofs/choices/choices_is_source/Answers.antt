use Rattle.std.proofs.Common.{[], ◌∷◌, ℤ, pos, refl, inl, inr, codes}
use Rattle.std.specs.Int.{int_wrap}
use Rattle.c_tree.specs.Plain.{lit, var, bin}
use Rattle.c_tree.specs.Values.{Vars}
use Rattle.c_tree.specs.Arrays.{vars_of}
use Rattle.c_tree.specs.Instances.{core}
use Rattle.c_tree.specs.Inputs.{arrays_for, memory_for}
use Rattle.c_tree.specs.declared.expr.BinOp.TheVariants.{Sub}
use Rattle.run_laws.specs.Sources.{IsExact, IsSource, IsArray}
use Rattle.run_laws.proofs.Within.{all_tested, clean_is}
use Rattle.examples.specs.Choices.{choices, the_choice, three_ones, i}
use Rattle.examples.proofs.choices.choices_is_source.Goals as goal

abbrev vars : ℤ → Vars
vars v = (i, v) ∷ vars_of choices.params (pos 3 ∷ [])

is_array : IsArray (arrays_for choices (pos 3 ∷ [])) (codes "A")
is_array = record { array = _; named = refl }

-- one turn, where i - 5 doesn't wrap
turn : (v : ℤ) → IsExact (bin Sub (var i) (lit 5)) (vars v) → IsSource (arrays_for choices (pos 3 ∷ [])) [] the_choice (vars v)
unfolding int_wrap
turn v fits = (
  (record { no_word = refl; left = refl; right = refl }, (record { no_word = refl; left = refl; right = refl }, tt)),
  ((refl, (tt, tt)), (((is_array, (record { no_cells = tt; no_word = refl; fits = refl }, tt)), (inl (record { no_cells = (tt, tt); is_signed = refl; fits = fits }), tt)), tt)),
  (((is_array, (record { no_cells = tt; no_word = refl; fits = refl }, tt)), inr (refl, ((is_array, (record { no_cells = tt; no_word = refl; fits = refl }, tt)), tt))), tt),
)

pub returns-clause-source : goal.returns-clause-source
unfolding int_wrap
returns-clause-source c = (refl, ((refl, refl, ((turn (pos 0) refl, tt), ((turn (pos 1) refl, tt), ((turn (pos 2) refl, tt), tt)))), tt))

pub returns-clause-clean : goal.returns-clause-clean
returns-clause-clean c =
    let arrays = arrays_for choices three_ones.ints in
    let list = core choices three_ones.ints (memory_for choices three_ones) in
    clean_is arrays list (all_tested arrays list refl)
