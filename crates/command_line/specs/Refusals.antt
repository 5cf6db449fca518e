-- How a refusal of a source text is written.
use Rattle.std.specs.Prelude.{ℕ, List, ◌++◌, codes, decimal}
use Rattle.c_tree.specs.Counted.{counted_word}
use Rattle.c_tree.specs.declared.refusal.Refusal.{Refusal}
use Rattle.c_tree.specs.declared.refusal.Refusal.TheVariants.{TextTooLong, Lexical, Syntax, NameTwice, NameUnknown, ReservedName, BadRange, TooMany, NotAffine, CoefficientTooLarge, IntervalTooWide, ExtentNotPositive, WrongDimensions, WriteToConst, BadIndexArray, BadLiteral, IrregularWrite, WrongKind, OutOfMemory}

abbrev pub at_byte : List ℕ → ℕ → List ℕ
at_byte what byte = what ++ (codes " at byte " ++ decimal byte)

abbrev pub in_item : List ℕ → ℕ → List ℕ
in_item what item = what ++ (codes " in item " ++ decimal item)

-- its number and name, and where it is found
abbrev pub refusal_text : Refusal → List ℕ
refusal_text (TextTooLong length) = codes "S1 TextTooLong"
refusal_text (Lexical byte) = at_byte (codes "S2 Lexical") byte
refusal_text (Syntax byte) = at_byte (codes "S3 Syntax") byte
refusal_text (NameTwice item) = in_item (codes "S4 NameTwice") item
refusal_text (NameUnknown item) = in_item (codes "S5 NameUnknown") item
refusal_text (ReservedName item) = in_item (codes "S6 ReservedName") item
refusal_text (BadRange item) = in_item (codes "S7 BadRange") item
refusal_text (TooMany counted count item) = codes "S8 TooMany " ++ (counted_word counted ++ (codes " " ++ in_item (decimal count) item))
refusal_text (NotAffine item) = in_item (codes "S9 NotAffine") item
refusal_text (CoefficientTooLarge item) = in_item (codes "S10 CoefficientTooLarge") item
refusal_text (IntervalTooWide item) = in_item (codes "S11 IntervalTooWide") item
refusal_text (ExtentNotPositive item) = in_item (codes "S12 ExtentNotPositive") item
refusal_text (WrongDimensions item) = in_item (codes "S13 WrongDimensions") item
refusal_text (WriteToConst item) = in_item (codes "S14 WriteToConst") item
refusal_text (BadIndexArray item) = in_item (codes "S15 BadIndexArray") item
refusal_text (BadLiteral item) = in_item (codes "S16 BadLiteral") item
refusal_text (IrregularWrite item) = in_item (codes "S17 IrregularWrite") item
refusal_text (WrongKind item) = in_item (codes "S18 WrongKind") item
refusal_text OutOfMemory = codes "out of memory"
