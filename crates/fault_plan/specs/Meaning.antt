-- What the text of a flip file means, by the spelling of its line.
use Rattle.std.specs.Prelude.{◌≡◌, ℕ, ◌^◌, ◌<◌, Bool, false, not, ◌||◌, nat_eq, List, [], ◌∷◌, length, filter, slice_get, Some}
use Rattle.std.specs.List.{AllByRecursion, list_all}
use Rattle.std.specs.Str.Lines.{lines}
use Rattle.c_tree.specs.Plain.{Word}
use Rattle.c_tree.specs.declared.frame.Frame.{Frame}
use Rattle.c_tree.specs.declared.frame.ArrayInfo.{ArrayInfo}
use Rattle.c_tree.specs.declared.run.Flip.{Flip}
use Rattle.data_file.specs.Meaning.{is_gap}
use Rattle.fault_plan.specs.Texts.{flip_line}

-- ---- lines

-- a line with a byte that is no space and no tab
abbrev pub is_visible : List ℕ → Bool
is_visible line = not (list_all is_gap line)

-- The lines that aren't blank. A carriage return directly before a line feed is no part of a line.
abbrev pub visible_lines : List ℕ → List (List ℕ)
visible_lines text = filter is_visible (lines text)

-- ---- the line of a flip

-- a space, a tab, a line feed, a form feed or a carriage return
abbrev pub is_blank : ℕ → Bool
is_blank b = nat_eq b 32 || (nat_eq b 9 || (nat_eq b 10 || (nat_eq b 12 || nat_eq b 13)))

-- one or more bytes, none of them a blank
pub record IsPiece (piece : List ℕ) : Type 0 where
  pub some : 0 < length piece
  pub solid : AllByRecursion (λ b. is_blank b ≡ false) piece

-- a flip that names its array
pub record PlainFlip : Type 0 where
  pub array : Word
  pub cell : ℕ
  pub bit : ℕ
  pub place : ℕ

-- The line is flip ARRAY CELL BIT at PLACE, with decimal numbers below 2^64, without leading zeros.
pub record IsFlipLine (line : List ℕ) (flip : PlainFlip) : Type 0 where
  pub array : IsPiece flip.array
  pub cell : flip.cell < 2 ^ 64
  pub bit : flip.bit < 2 ^ 64
  pub place : flip.place < 2 ^ 64
  pub spelled : line ≡ flip_line flip.array flip.cell flip.bit flip.place

-- One line of the text isn't blank, and it is the line of this flip.
pub record Says (text : List ℕ) (flip : PlainFlip) : Type 0 where
  pub line : List ℕ
  pub only : visible_lines text ≡ line ∷ []
  pub spelled : IsFlipLine line flip

-- the flip with its array by name
abbrev pub named : Word → Flip → PlainFlip
named array flip = record { array = array; cell = flip.cell; bit = flip.bit; place = flip.place }

-- The text says this flip, by the name of its array.
pub record MeansFlip (f : Frame) (text : List ℕ) (flip : Flip) : Type 0 where
  pub array : ArrayInfo
  pub declared : slice_get f.arrays flip.array ≡ Some array
  pub says : Says text (named array.name.bytes flip)
