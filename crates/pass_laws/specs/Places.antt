-- Where a pass runs: at an instance of an assignment, or at a cell by its coordinates.
use Rattle.std.specs.Prelude.{◌≡◌, ℕ, true, false}
use Rattle.c_tree.specs.Plain.{Word}
use Rattle.c_tree.specs.Values.{Vars, is_in, value_in}
use Rattle.instrumentation.specs.Names.{pass_variable, counter}

-- the parameters have their values there, and no name is one of the pass
pub record IsPlace (params base : Vars) : Type 0 where
  pub values : (x : Word) → is_in params x ≡ true → value_in base x ≡ value_in params x
  pub has : (x : Word) → is_in params x ≡ true → is_in base x ≡ true
  pub variables : (d : ℕ) → is_in base (pass_variable d) ≡ false
  pub counter_free : is_in base counter ≡ false
