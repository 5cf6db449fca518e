-- A unit with two parameters, whose range lines stand in the other order, and its frame.
use Rattle.std.specs.Prelude.{true, false, List, [], ◌∷◌, pos, negsuc, None, codes}
use Rattle.c_tree.specs.Plain.{Word, PlainExpr, lit, var, bin, no_exprs, more_exprs, no_stmts, int_param, array_param, PlainUnit}
use Rattle.c_tree.specs.declared.name.Name.{Name}
use Rattle.c_tree.specs.declared.frame.ArrayInfo.{ArrayInfo}
use Rattle.c_tree.specs.declared.frame.Frame.{Frame}
use Rattle.c_tree.specs.declared.expr.BinOp.TheVariants.{Add, Sub, Mul}

abbrev pub rows : Word
rows = codes "n"

abbrev pub columns : Word
columns = codes "m"

-- 2 * n + m - 1
abbrev pub longer : PlainExpr
longer = bin Sub (bin Add (bin Mul (lit 2) (var rows)) (var columns)) (lit 1)

abbrev pub sample : PlainUnit
sample = record {
  version = None;
  ranges = (columns, pos 1, pos 7) ∷ (rows, pos 1, pos 1000) ∷ [];
  name = codes "f";
  params = int_param rows ∷ array_param (codes "A") false (more_exprs (var rows) no_exprs) ∷ int_param columns
      ∷ array_param (codes "B") true (more_exprs longer (more_exprs (bin Add (var columns) (lit 1)) no_exprs)) ∷ [];
  words = [];
  wides = [];
  body = no_stmts;
}

abbrev pub named : Word → Name
named w = record { bytes = w }

abbrev pub sample_arrays : List ArrayInfo
sample_arrays =
    record { name = named (codes "A"); constant = false; extents = record { constant = pos 0; terms = (1, pos 1) ∷ [] } ∷ [] }
    ∷ record {
      name = named (codes "B");
      constant = true;
      extents = record { constant = negsuc 0; terms = (1, pos 2) ∷ (2, pos 1) ∷ [] } ∷ record { constant = pos 1; terms = (2, pos 1) ∷ [] } ∷ [];
    } ∷ []

abbrev pub sample_frame : Frame
sample_frame = record { ints = (named rows, pos 1, pos 1000) ∷ (named columns, pos 1, pos 7) ∷ []; arrays = sample_arrays }
