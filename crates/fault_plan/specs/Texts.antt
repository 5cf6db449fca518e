-- The text of a flip.
use Rattle.std.specs.Prelude.{ℕ, List, [], ◌∷◌, ◌++◌, codes, decimal}
use Rattle.c_tree.specs.Plain.{Word}
use Rattle.c_tree.specs.declared.run.Flip.{Flip}

-- flip ARRAY CELL BIT at PLACE
abbrev pub flip_line : Word → ℕ → ℕ → ℕ → List ℕ
flip_line array cell bit place =
    codes "flip " ++ (array ++ (codes " " ++ (decimal cell ++ (codes " " ++ (decimal bit ++ (codes " at " ++ decimal place))))))

-- the text of a flip in the array of this name: its line, with a line feed
abbrev pub flip_text : Word → Flip → List ℕ
flip_text array flip = flip_line array flip.cell flip.bit flip.place ++ 10 ∷ []
