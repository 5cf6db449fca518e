-- What a text of a data file means, line by line, by the spelling of its rows.
use Rattle.std.specs.Prelude.{◌≡◌, ◌⊎◌, ℕ, ◌+◌, ◌^◌, ◌<◌, ◌≤◌, Bool, true, ◌||◌, ◌==◌, nat_eq, if◌then◌else◌, List, [], ◌∷◌, ◌++◌, length, codes, decimal, slice_get, Some, ℤ, FitsSigned}
use Rattle.std.specs.Fmt.{signed_decimal}
use Rattle.std.specs.Int.{w64}
use Rattle.std.specs.List.{AllByRecursion}
use Rattle.std.specs.Str.Lines.{lines}
use Rattle.c_tree.specs.Plain.{Word}
use Rattle.c_tree.specs.declared.name.Name.{Name}
use Rattle.c_tree.specs.declared.frame.Frame.{Frame}
use Rattle.c_tree.specs.declared.frame.ArrayInfo.{ArrayInfo}
use Rattle.c_tree.specs.declared.frame.Inputs.{Inputs}
use Rattle.data_file.specs.declared.row.Row.{Row}
use Rattle.data_file.specs.declared.row.Row.TheVariants.{Value, Cells}
use Rattle.data_file.specs.Conditions.{HasRows}

-- a space or a tab
abbrev pub is_gap : ℕ → Bool
is_gap b = nat_eq b 32 || nat_eq b 9

-- a line without bytes, or of spaces and tabs alone
abbrev pub IsBlank : List ℕ → Type 0
IsBlank line = AllByRecursion (λ b. is_gap b ≡ true) line

-- one or more spaces or tabs
pub record IsGap (gap : List ℕ) : Type 0 where
  pub some : 0 < length gap
  pub blank : AllByRecursion (λ b. is_gap b ≡ true) gap

-- one or more decimal numbers below 2^64, without leading zeros, set apart by gaps
abbrev pub Spells : List ℕ → List ℕ → Type 0
Spells [] text = ⊥
Spells (n ∷ []) text = (n < 2 ^ 64) × (text ≡ decimal n)
Spells (n ∷ m ∷ ns) text = (n < 2 ^ 64) × (gap : List ℕ) × (rest : List ℕ) × IsGap gap × (text ≡ decimal n ++ (gap ++ rest)) × Spells (m ∷ ns) rest

-- NAME = VALUE, a decimal number that fits an i64
abbrev pub IsValueRow : Word → List ℕ → ℤ → Type 0
IsValueRow x line n = FitsSigned w64 n × (line ≡ x ++ (codes " = " ++ signed_decimal n))

-- NAME = CELLS
abbrev pub IsCellsRow : Word → List ℕ → List ℕ → Type 0
IsCellsRow x line ns = (text : List ℕ) × (line ≡ x ++ (codes " = " ++ text)) × Spells ns text

-- The line is a row of the declared name of this number: the parameters are numbered from 0 in declared order, and then the arrays.
abbrev pub IsRow : Frame → List ℕ → ℕ → Row → Type 0
IsRow f line k (Value n) = (p : Name × ℤ × ℤ) × (slice_get f.ints k ≡ Some p) × IsValueRow p.0.bytes line n
IsRow f line k (Cells ns) = (a : ArrayInfo) × (j : ℕ) × (k ≡ length f.ints + j) × (slice_get f.arrays j ≡ Some a) × IsCellsRow a.name.bytes line ns

-- each line is blank or a row, and these are the rows, each with the number of its name
abbrev pub AreRows : Frame → List (List ℕ) → List (ℕ × Row) → Type 0
AreRows f [] rows = rows ≡ []
AreRows f (line ∷ more) rows =
    (IsBlank line × AreRows f more rows)
    ⊎ ((k : ℕ) × (r : Row) × (others : List (ℕ × Row)) × (rows ≡ (k, r) ∷ others) × IsRow f line k r × AreRows f more others)

-- the rows of one name
abbrev pub rows_of : ℕ → List (ℕ × Row) → List Row
rows_of k [] = []
rows_of k (r ∷ rs) = if r.0 == k then r.1 ∷ rows_of k rs else rows_of k rs

-- The text means these inputs: each line is blank or a row of a declared name, and each name has one row.
pub record Means (f : Frame) (text : List ℕ) (i : Inputs) : Type 0 where
  pub rows : List (ℕ × Row)
  pub spelled : AreRows f (lines text) rows
  pub complete : HasRows f i
  pub values : (k : ℕ) (n : ℤ) → slice_get i.ints k ≡ Some n → rows_of k rows ≡ Value n ∷ []
  pub cells : (k : ℕ) (ns : List ℕ) → slice_get i.cells k ≡ Some ns → rows_of (length f.ints + k) rows ≡ Cells ns ∷ []

-- The first bad line, from 1: those before it are blank or rows of different names; it isn't blank, and if it is a row, then of a name that they have a row of.
pub record IsBadLine (f : Frame) (text : List ℕ) (n : ℕ) : Type 0 where
  pub before : List (List ℕ)
  pub bad : List ℕ
  pub after : List (List ℕ)
  pub parts : lines text ≡ before ++ (bad ∷ after)
  pub number : n ≡ length before + 1
  pub rows : List (ℕ × Row)
  pub spelled : AreRows f before rows
  pub different : (k : ℕ) → length (rows_of k rows) ≤ 1
  pub visible : IsBlank bad → ⊥
  pub taken : (k : ℕ) (r : Row) → IsRow f bad k r → 0 < length (rows_of k rows)

-- Each line is blank or a row of a name of its own, and some name has no row; the number is that of the line behind the last.
pub record LacksRow (f : Frame) (text : List ℕ) (n : ℕ) : Type 0 where
  pub rows : List (ℕ × Row)
  pub spelled : AreRows f (lines text) rows
  pub different : (k : ℕ) → length (rows_of k rows) ≤ 1
  pub name : ℕ
  pub declared : name < length f.ints + length f.arrays
  pub absent : rows_of name rows ≡ []
  pub number : n ≡ length (lines text) + 1
