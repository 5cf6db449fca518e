-- What a call appends to a text.
use Rattle.std.specs.Prelude.{◌≡◌, ℕ, false, List, ◌++◌}
use Rattle.text_writer.specs.declared.writer.Writer.{Writer}

abbrev pub Text : Type 0
Text = List ℕ

-- these bytes before a rest
abbrev pub fixed : Text → Text → Text
fixed x rest = x ++ rest

-- Where nothing is missing after the call, nothing was before, and what was appended stands before each rest as the function says.
abbrev pub Adds : Writer → Writer → (Text → Text) → Type 0
Adds old new f = new.failed ≡ false → (old.failed ≡ false) × ((rest : Text) → new.bytes.items ++ rest ≡ old.bytes.items ++ f rest)

-- the same within a loop: what was appended so far, with what is left before each rest, is all of it
abbrev pub left_to_add : Writer → Writer → (Text → Text) → (Text → Text) → Type 0
left_to_add old new all left = new.failed ≡ false → (old.failed ≡ false) × ((rest : Text) → new.bytes.items ++ left rest ≡ old.bytes.items ++ all rest)
