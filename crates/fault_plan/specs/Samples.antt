-- A flip that meets what is asked of one.
use Rattle.std.specs.Prelude.{◌≡◌, [], ◌∷◌, ◌++◌, codes}
use Rattle.c_tree.specs.declared.run.Flip.{Flip}
use Rattle.data_file.specs.Samples.{line_frame, line_inputs}
use Rattle.fault_plan.specs.Answers.{FitsInputs}
use Rattle.fault_plan.specs.Meaning.{IsPiece}
use Rattle.fault_plan.specs.Texts.{flip_text}

-- bit 3 of A[1], before access 2
abbrev pub line_flip : Flip
line_flip = record { array = 0; cell = 1; bit = 3; place = 2 }

-- The flip fits the sample inputs of A, whose name can stand in its text.
pub record IsSample : Type 0 where
  pub fits : FitsInputs line_frame line_inputs line_flip
  pub name : IsPiece (codes "A")
  pub text : flip_text (codes "A") line_flip ≡ codes "flip A 1 3 at 2" ++ 10 ∷ []
