-- The lines of a list of parameters.
use Rattle.std.proofs.Common.{◌≡◌, ℕ, ◌≤◌, ◌∷◌, ◌++◌, ◌∙◌, List, ap, sym, refl, map, length, drop, append_assoc}
use Rattle.std.proofs.lemmas.List.{drop_all}
use Rattle.c_tree.specs.Names.{arrays_in}
use Rattle.c_tree.specs.Plain.{PlainUnit}
use Rattle.c_tree.specs.Trees.{param, word}
use Rattle.c_tree.specs.declared.unit.Param.{Param}
use Rattle.c_tree.specs.declared.unit.Param.TheVariants.{Int, Array}
use Rattle.text_writer.specs.Written.{Adds, Text, fixed, left_to_add}
use Rattle.text_writer.specs.declared.writer.Writer.{Writer}
use Rattle.reports.specs.Texts.{line, lines, param_text}

abbrev pub lines_of : PlainUnit → List Param → Text
lines_of u ps = lines u (arrays_in (map param ps))

-- what the first parameter has stands before the rest
pub lines_more : (u : PlainUnit) (p : Param) (ps : List Param) (rest : Text) → fixed (lines_of u (p ∷ ps)) rest ≡ fixed (param_text u (param p)) (fixed (lines_of u ps) rest)
lines_more u (Int x) ps rest = refl
lines_more u (Array x constant extents) ps rest = append_assoc (line u (word x)) (lines_of u ps) rest

-- all of them are written
pub none_left : (u : PlainUnit) (ps : List Param) (i : ℕ) (old out : Writer) → length ps ≤ i → left_to_add old out (fixed (lines_of u ps)) (fixed (lines_of u (drop i ps))) → Adds old out (fixed (lines_of u ps))
none_left u ps i old out past so_far whole =
    let left = so_far whole in
    (left.0, λ rest. sym (ap (λ qs. out.bytes.items ++ fixed (lines_of u qs) rest) (drop_all i ps past)) ∙ left.1 rest)
