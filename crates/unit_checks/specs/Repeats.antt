-- Lists of names, and whether a name stands in one twice.
use Rattle.std.specs.Prelude.{ℕ, ℤ, Bool, true, false, ◌&&◌, ◌||◌, if◌then◌else◌, List, [], ◌∷◌, ◌++◌, map, Option, Some, None}
use Rattle.std.specs.Borrow.{Bor}
use Rattle.c_tree.specs.Plain.{Word, PlainParam, int_param, array_param, PlainUnit}
use Rattle.c_tree.specs.Trees.{word}
use Rattle.c_tree.specs.Names.{is_among}
use Rattle.c_tree.specs.declared.name.Name.{Name}
use Rattle.acceptance.specs.Items.{param_name}

abbrev pub names_at : List (Bor Name) → List Word
names_at = map (λ (x : Bor Name). word x.now)

abbrev pub names_of_words : List (Word × ℕ) → List Word
names_of_words = map (λ (w : Word × ℕ). w.0)

abbrev pub names_of_lines : List (Word × ℤ × ℤ) → List Word
names_of_lines = map (λ (r : Word × ℤ × ℤ). r.0)

abbrev pub plain_lines : List (Name × ℤ × ℤ) → List (Word × ℤ × ℤ)
plain_lines = map (λ (r : Name × ℤ × ℤ). (word r.0, r.1, r.2))

-- each name is looked for behind it
abbrev pub head_names : PlainUnit → List Word
head_names u = u.name ∷ (u.wides ++ (names_of_words u.words ++ map param_name u.params))

abbrev pub repeats : List Word → Bool
repeats [] = false
repeats (x ∷ xs) = is_among xs x || repeats xs

-- all of them, where no two are the same
abbrev pub kept : List Word → Option (List Word)
kept xs = if repeats xs then None else Some xs

-- each `int64_t` parameter is among these names
abbrev pub are_named : List Word → List PlainParam → Bool
are_named xs [] = true
are_named xs (int_param y ∷ ps) = is_among xs y && are_named xs ps
are_named xs (array_param y constant extents ∷ ps) = are_named xs ps
