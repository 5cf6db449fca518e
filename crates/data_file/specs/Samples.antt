-- Frames and inputs that meet what is asked of them.
use Rattle.std.specs.Prelude.{◌≡◌, ℕ, false, true, List, [], ◌∷◌, ◌++◌, codes, pos}
use Rattle.c_tree.specs.declared.affine.Affine.{Affine}
use Rattle.c_tree.specs.declared.name.Name.{Name}
use Rattle.c_tree.specs.declared.frame.Frame.{Frame}
use Rattle.c_tree.specs.declared.frame.Inputs.{Inputs}
use Rattle.data_file.specs.Checks.{Fits}
use Rattle.data_file.specs.Conditions.{IsFrame}
use Rattle.data_file.specs.Laws.{CanBeWritten, HasNamesInLines}
use Rattle.data_file.specs.Texts.{data_text}

abbrev pub name_of : List ℕ → Name
name_of bytes = record { bytes = bytes }

-- the variable of this number
abbrev pub variable : ℕ → Affine
variable v = record { constant = pos 0; terms = (v, pos 1) ∷ [] }

-- n in 1 to 1000, and A[n]
abbrev pub line_frame : Frame
line_frame = record {
  ints = (name_of (codes "n"), pos 1, pos 1000) ∷ [];
  arrays = record { name = name_of (codes "A"); constant = false; extents = variable 1 ∷ [] } ∷ [];
}

-- n and m in 1 to 4000, const P[n], and X[n][m]
abbrev pub grid_frame : Frame
grid_frame = record {
  ints = (name_of (codes "n"), pos 1, pos 4000) ∷ (name_of (codes "m"), pos 1, pos 4000) ∷ [];
  arrays =
      record { name = name_of (codes "P"); constant = true; extents = variable 1 ∷ [] }
      ∷ record { name = name_of (codes "X"); constant = false; extents = variable 1 ∷ variable 2 ∷ [] } ∷ [];
}

-- n = 4 and A = 5 0 0 0
abbrev pub line_inputs : Inputs
line_inputs = record { ints = pos 4 ∷ []; cells = (5 ∷ 0 ∷ 0 ∷ 0 ∷ []) ∷ [] }

-- Both are frames, and the inputs of the line meet all that is asked of inputs.
pub record AreSamples : Type 0 where
  pub line : IsFrame line_frame
  pub grid : IsFrame grid_frame
  pub fit : Fits line_frame line_inputs
  pub written : CanBeWritten line_frame line_inputs
  pub in_lines : HasNamesInLines line_frame
  pub text : data_text line_frame line_inputs ≡ codes "n = 4" ++ (10 ∷ (codes "A = 5 0 0 0" ++ 10 ∷ []))
