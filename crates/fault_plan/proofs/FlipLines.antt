-- The line of a flip: it is read as the flip, and nothing else is read as one.
use Rattle.std.proofs.Common.{◌≡◌, ℕ, true, List, ◌∷◌, ◌++◌, codes, Some, refl, ap, ◌∙◌, subst}
use Rattle.std.specs.Fmt.{decimal}
use Rattle.data_file.specs.Reading.{strip}
use Rattle.data_file.proofs.Fronts.{strip_is, strip-front}
use Rattle.fault_plan.specs.Meaning.{is_visible, PlainFlip, IsFlipLine}
use Rattle.fault_plan.specs.Reading.{name_front, number_front, place_of, line_of}
use Rattle.fault_plan.proofs.SinglePieces.{on_some, name_front_is, name_front-name, number_front_is, number_front-number, place_of_is, place_of-place}

abbrev made : List ℕ → ℕ → ℕ → ℕ → PlainFlip
made array cell bit place = record { array = array; cell = cell; bit = bit; place = place }

spelled_as : (line words array cells bits places : List ℕ) (cell bit place : ℕ) → strip (codes "flip ") line ≡ Some words → name_front words ≡ Some (array, cells)
    → number_front cells ≡ Some (cell, bits) → number_front bits ≡ Some (bit, places) → place_of places ≡ Some place → IsFlipLine line (made array cell bit place)
spelled_as line words array cells bits places cell bit place front named counted more last =
    let (name, e1) = name_front_is words array cells named in
    let (c, e2) = number_front_is cells cell bits counted in
    let (b, e3) = number_front_is bits bit places more in
    let (p, e4) = place_of_is places place last in
    record {
      array = name;
      cell = c;
      bit = b;
      place = p;
      spelled = strip_is (codes "flip ") line words front ∙ ap (λ z. codes "flip " ++ z) e1 ∙ ap (λ z. codes "flip " ++ (array ++ 32 ∷ z)) e2
          ∙ ap (λ z. codes "flip " ++ (array ++ 32 ∷ (decimal cell ++ 32 ∷ z))) e3 ∙ ap (λ z. codes "flip " ++ (array ++ 32 ∷ (decimal cell ++ 32 ∷ (decimal bit ++ 32 ∷ z)))) e4;
    }

same_flip : (a b : PlainFlip) → Some a ≡ Some b → a ≡ b
same_flip a b e = cc

pub line_of_is : (line : List ℕ) (flip : PlainFlip) → line_of line ≡ Some flip → IsFlipLine line flip
unfolding line_of
line_of_is line flip e =
    on_some _ (strip (codes "flip ") line) flip e
    (λ words front e1. on_some _ (name_front words) flip e1
    (λ x named e2. on_some _ (number_front x.1) flip e2
    (λ c cells e3. on_some _ (number_front c.1) flip e3
    (λ b bits e4. on_some (λ (p : ℕ). Some (made x.0 c.0 b.0 p)) (place_of b.1) flip e4
    (λ p places e5. subst (IsFlipLine line) (same_flip (made x.0 c.0 b.0 p) flip e5)
    (spelled_as line words x.0 x.1 c.1 b.1 c.0 b.0 p front named cells bits places))))))

pub line_of-line : (line : List ℕ) (flip : PlainFlip) → IsFlipLine line flip → line_of line ≡ Some flip
unfolding line_of
line_of-line line flip is =
    let last = codes "at " ++ decimal flip.place in
    let bits = decimal flip.bit ++ 32 ∷ last in
    let cells = decimal flip.cell ++ 32 ∷ bits in
    let words = flip.array ++ 32 ∷ cells in
    let front : strip (codes "flip ") line ≡ Some words = ap (strip (codes "flip ")) is.spelled ∙ strip-front (codes "flip ") words in
    rw (front, name_front-name flip.array cells is.array, number_front-number flip.cell bits is.cell, number_front-number flip.bit last is.bit, place_of-place flip.place is.place) refl

-- a line of a flip isn't blank
pub line_seen : (line : List ℕ) (flip : PlainFlip) → IsFlipLine line flip → is_visible line ≡ true
line_seen line flip is = ap is_visible is.spelled
