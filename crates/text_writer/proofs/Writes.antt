-- One piece behind another, and a text that is whole.
use Rattle.std.proofs.Common.{◌≡◌, ◌++◌, ◌∷◌, [], List, ℕ, ◌+◌, ◌<◌, ◌∙◌, ap, sym, false, length, drop, get_or, append_assoc}
use Rattle.std.proofs.lemmas.List.{append-nil, at_drop_more}
use Rattle.text_writer.specs.declared.writer.Writer.{Writer}
use Rattle.text_writer.specs.Written.{Adds, Text, fixed, left_to_add}

pub then_adds : (a b c : Writer) (f g : Text → Text) → Adds a b f → Adds b c g → Adds a c (λ rest. f (g rest))
then_adds a b c f g p q h = let second = q h in let first = p second.0 in (first.0, λ rest. second.1 rest ∙ first.1 (g rest))

pub same_adds : (a b : Writer) (f g : Text → Text) → Adds a b f → ((rest : Text) → f rest ≡ g rest) → Adds a b g
same_adds a b f g p e h = let first = p h in (first.0, λ rest. first.1 rest ∙ ap (λ y. a.bytes.items ++ y) (e rest))

-- bytes behind bytes
pub then_bytes : (a b c : Writer) (x y : Text) → Adds a b (fixed x) → Adds b c (fixed y) → Adds a c (fixed (x ++ y))
then_bytes a b c x y p q =
    same_adds a c (λ rest. fixed x (fixed y rest)) (fixed (x ++ y)) (then_adds a b c (fixed x) (fixed y) p q) (λ rest. sym (append_assoc x y rest))

-- one item more of a list that is written item by item
pub line_more : {X : Type 0} (line : X → Text → Text) (lines : List X → Text → Text) (all : Text → Text) (items : List X) (i : ℕ) (x : X) (old out next : Writer)
    → ((y : X) (ys : List X) (rest : Text) → lines (y ∷ ys) rest ≡ line y (lines ys rest))
    → i < length items → x ≡ get_or items i x → left_to_add old out all (lines (drop i items)) → Adds out next (line x) → left_to_add old next all (lines (drop (i + 1) items))
line_more line lines all items i x old out next cons within is so_far adds h =
    let second = adds h in
    let first = so_far second.0 in (
      first.0,
      λ rest. second.1 (lines (drop (i + 1) items) rest)
          ∙ ap (λ y. out.bytes.items ++ y) (sym (cons x (drop (i + 1) items) rest) ∙ ap (λ y. lines (y ∷ drop (i + 1) items) rest) is ∙ sym (at_drop_more (λ ys. lines ys rest) items i x within))
          ∙ first.1 rest,
    )

-- what was written from nothing on
pub finished : (start last : Writer) (f : Text → Text) → start.bytes.items ≡ [] → Adds start last f → last.failed ≡ false → last.bytes.items ≡ f []
finished start last f none adds whole = sym (append-nil last.bytes.items) ∙ (adds whole).1 [] ∙ ap (λ y. y ++ f []) none

pub written : (start last : Writer) (text : Text) → start.bytes.items ≡ [] → Adds start last (fixed text) → last.failed ≡ false → last.bytes.items ≡ text
written start last text none adds whole = finished start last (fixed text) none adds whole ∙ append-nil text
