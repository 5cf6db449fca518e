-- What is known of names.
use Rattle.std.specs.Prelude.{◌≡◌, ℕ, true, false, ◌||◌, if◌then◌else◌, List, Option, Some, None, bytes_eq, pos, length}
use Rattle.std.specs.Borrow.{Bor}
use Rattle.std.specs.Map.{lookup}
use Rattle.c_tree.specs.Names.{is_among}
use Rattle.c_tree.specs.Plain.{Word, PlainParam, int_param, array_param, PlainUnit}
use Rattle.acceptance.specs.Affine.{Intervals, interval_in}
use Rattle.acceptance.specs.Head.{intervals_of, list_of}
use Rattle.acceptance.specs.Items.{is_int, is_array, is_scalar}
use Rattle.acceptance.specs.Printed.{dimensions_of}
use Rattle.acceptance.specs.Sources.{is_const_array}
use Rattle.scopes.specs.declared.known.Known.{Known}

abbrev pub Entries : Type 0
Entries = List (Bor Word × Known)

abbrev pub known_or_nothing : Option Known → Known
known_or_nothing None = record { int = false; array = false; constant = false; scalar = false; wide = false; extents = 0; range = record { least = pos 0; greatest = pos 0 } }
known_or_nothing (Some k) = k

-- what the entries know of a name
abbrev pub known_at : Entries → Word → Known
known_at es x = known_or_nothing (lookup (λ (b : Bor Word). bytes_eq x b.now) es)

-- what is to be known of a name, by the parameters, the words, the wide words and the range lines
abbrev pub known_by : List PlainParam → List (Word × ℕ) → List Word → Intervals → Word → Known
known_by ps ws vs rs x = record {
  int = is_int ps x;
  array = is_array ps x;
  constant = is_const_array ps x;
  scalar = is_scalar ws x;
  wide = is_among vs x;
  extents = dimensions_of ps x;
  range = record { least = (interval_in rs x).0; greatest = (interval_in rs x).1 };
}

abbrev pub Knows : Entries → List PlainParam → List (Word × ℕ) → List Word → Intervals → Type 0
Knows es ps ws vs rs = (x : Word) → known_at es x ≡ known_by ps ws vs rs x

abbrev pub KnowsUnit : Entries → PlainUnit → Type 0
KnowsUnit es u = Knows es u.params u.words u.wides (intervals_of u)

-- of one name this is known, and of each other one what was known before
abbrev pub IsPut : Entries → Entries → Word → Known → Type 0
IsPut old new y k = (x : Word) → known_at new x ≡ (if bytes_eq y x then k else known_at old x)

-- the same of a parameter
abbrev pub IsParamPut : Entries → Entries → PlainParam → Type 0
IsParamPut old new (int_param y) = let k = known_at old y in IsPut old new y (record k { int = true })
IsParamPut old new (array_param y constant extents) =
    let k = known_at old y in IsPut old new y (record k { array = true; constant = constant || k.constant; extents = length (list_of extents) })
