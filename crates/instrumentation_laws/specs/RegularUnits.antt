-- Whole sources without irregular subscripts, and what is asked of their heads; the instrumented unit of such a source, with pieces that count, stands in a setting by itself.
use Rattle.std.specs.Prelude.{◌≡◌, ℕ, ◌^◌, ◌<◌, false, List, [], ◌∷◌, length, None, bytes_eq}
use Rattle.std.specs.List.{list_any}
use Rattle.c_tree.specs.Plain.{Word, PlainParam, int_param, array_param, PlainUnit}
use Rattle.c_tree.specs.Values.{Vars}
use Rattle.c_tree.specs.Arrays.{extents_of}
use Rattle.instrumentation.specs.Names.{count, number_in}
use Rattle.instrumentation.specs.Pieces.{initial_piece, site_pieces_all, piece_at, builds}
use Rattle.instrumentation.specs.Guarded.{arrays_with_extents, extents_of as declared_extents, array_names, total_names, guarded}
use Rattle.instrumentation_laws.specs.PrologueTotals.{Measures}
use Rattle.instrumentation_laws.specs.UnitLaws.{IsInstrumented}

-- no two arrays have one name, and no extent wraps
abbrev pub AreMeasured : Vars → List PlainParam → Type 0
AreMeasured vs [] = Unit {0}
AreMeasured vs (int_param x ∷ ps) = AreMeasured vs ps
AreMeasured vs (array_param x constant es ∷ ps) =
    (list_any (bytes_eq x) (array_names ps) ≡ false) × Measures es vs (extents_of vs es) × (length (extents_of vs es) < 2 ^ 64) × AreMeasured vs ps

-- the numbers of a unit's arrays, by their names
abbrev pub number_for : PlainUnit → Word → ℕ
number_for u = number_in (array_names u.params)

-- the wide names of its instrumented unit
abbrev pub wides_for : PlainUnit → List Word
wides_for u = count ∷ total_names 0 (array_names u.params)

-- The whole unit is an instrumented unit of its source, with irregular subscripts or without.
abbrev pub GuardedIsInstrumented : Type 0
GuardedIsInstrumented = (u : PlainUnit) → u.version ≡ None → u.wides ≡ [] →
    IsInstrumented u (guarded u) (number_for u) (arrays_with_extents u.params) (builds (number_for u) u.body 0 (arrays_with_extents u.params))
    (initial_piece (number_for u) u.body) (piece_at (site_pieces_all (number_for u) (declared_extents u.params) u.body 0 u.body))
