-- Lists of names: those of a head, and whether a name is among others.
use Rattle.std.specs.Prelude.{Bool, false, ◌||◌, List, [], ◌∷◌, map, bytes_eq}
use Rattle.c_tree.specs.Plain.{Word, PlainParam, int_param, array_param}
use Rattle.c_tree.specs.Trees.{word}
use Rattle.c_tree.specs.declared.name.Name.{Name}
use Rattle.c_tree.specs.declared.signed_names.SignedNames.{SignedNames, Parameters, Inside'}

abbrev pub words : List Name → List Word
words = map word

abbrev pub is_among : List Word → Word → Bool
is_among [] x = false
is_among (y ∷ ys) x = bytes_eq y x || is_among ys x

-- the names of the arrays, and of the signed parameters, in declared order
abbrev pub arrays_in : List PlainParam → List Word
arrays_in [] = []
arrays_in (int_param x ∷ ps) = arrays_in ps
arrays_in (array_param x constant extents ∷ ps) = x ∷ arrays_in ps

abbrev pub ints_in : List PlainParam → List Word
ints_in [] = []
ints_in (int_param x ∷ ps) = x ∷ ints_in ps
ints_in (array_param x constant extents ∷ ps) = ints_in ps

-- the signed names around a place, the variable of the innermost loop first
abbrev pub names_around : SignedNames → List Word
names_around (Parameters xs) = map word xs.now
names_around (Inside' x p around) = word x.now ∷ names_around around
