-- The sums that the code judges by their form.
use Rattle.std.specs.Prelude.{Bool, ◌&&◌, List, ℤ, ◌-ℤ◌}
use Rattle.c_tree.specs.Plain.{Word}
use Rattle.c_tree.specs.Trees.{expr}
use Rattle.sites.specs.Classes.{form, is_near, is_plain_form, is_difference_form}
use Rattle.sites.specs.Small.{where_small}
use Rattle.sites.specs.declared.form.Sum.{Sum}
use Rattle.sites.specs.declared.form.Sum.TheVariants.{One, Difference}

abbrev pub coefficient_in : Sum → Word → ℤ
coefficient_in (One e) x = where_small.coefficient_in x (expr e.now)
coefficient_in (Difference a b) x = where_small.coefficient_in x (expr a.now) -ℤ where_small.coefficient_in x (expr b.now)

abbrev pub constant_in : Sum → ℤ
constant_in (One e) = where_small.constant_in (expr e.now)
constant_in (Difference a b) = where_small.constant_in (expr a.now) -ℤ where_small.constant_in (expr b.now)

abbrev pub is_plain_sum : Sum → List Word → Bool
is_plain_sum s names = is_near (constant_in s) && is_plain_form (form (coefficient_in s) names)

abbrev pub is_difference_sum : Sum → List Word → Bool
is_difference_sum s names = is_near (constant_in s) && is_difference_form (form (coefficient_in s) names)
