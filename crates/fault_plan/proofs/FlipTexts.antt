-- What a text says, and that the text of a flip says it.
use Rattle.std.proofs.Common.{◌≡◌, ℕ, ◌-◌, ◌^◌, ◌<◌, Bool, true, false, cond, not, nat_eq, List, [], ◌∷◌, ◌++◌, codes, filter, get_or, length, take, Some, zero, suc, refl, sym, ap, ◌∙◌, subst, arith}
use Rattle.std.proofs.lemmas.Bool.Decides.{nat_tests}
use Rattle.std.specs.Fmt.{decimal}
use Rattle.std.specs.List.{AllByRecursion}
use Rattle.std.specs.Str.Lines.{lines}
use Rattle.c_tree.specs.Reserved.{is_digit}
use Rattle.text_pieces.specs.Fronts.{is_in_line}
use Rattle.data_file.specs.Reading.{without_return}
use Rattle.data_file.proofs.Decimals.{digit_is, decimal_passes}
use Rattle.data_file.proofs.Fronts.{Passes, Passes-append, not_true}
use Rattle.data_file.proofs.LineSteps.{lines-line}
use Rattle.fault_plan.specs.Meaning.{is_visible, visible_lines, is_blank, PlainFlip, IsFlipLine, Says}
use Rattle.fault_plan.specs.Reading.{line_of, only, only_line, said}
use Rattle.fault_plan.proofs.FlipLines.{line_of_is, line_of-line, line_seen}
use Rattle.fault_plan.proofs.SinglePieces.{on_some}

-- ---- what is said

only_is : (ls : List (List ℕ)) (line : List ℕ) → only ls ≡ Some line → ls ≡ line ∷ []
only_is [] line e = absurd (let no : ⊥ = cc in no)
only_is (one ∷ []) line e = let same : one ≡ line = cc in ap (λ z. z ∷ []) same
only_is (one ∷ other ∷ more) line e = absurd (let no : ⊥ = cc in no)

pub said_is : (text : List ℕ) (flip : PlainFlip) → said text ≡ Some flip → Says text flip
said_is text flip e =
    on_some line_of (only_line text) flip e (λ line one read. record { line = line; only = only_is (visible_lines text) line one; spelled = line_of_is line flip read })

pub said-says : (text : List ℕ) (flip : PlainFlip) → Says text flip → said text ≡ Some flip
said-says text flip s = rw s.only (line_of-line s.line flip s.spelled)

-- ---- what is written

-- a test that spaces pass, and all bytes but blanks
module _ (test : ℕ → Bool) (space : test 32 ≡ true) (solid : (b : ℕ) → is_blank b ≡ false → test b ≡ true) where
  digit_passes : (b : ℕ) → is_digit b ≡ true → test b ≡ true
  digit_passes b h = let no : is_blank b ≡ false = grind (arith, nat_tests, digit_is b h) in solid b no

  digits_pass : (ds : List ℕ) → Passes is_digit ds → Passes test ds
  digits_pass [] p = tt
  digits_pass (b ∷ bs) p = (digit_passes b p.0, digits_pass bs p.1)

  number_passes : (n : ℕ) → n < 2 ^ 64 → Passes test (decimal n)
  number_passes n fits = digits_pass (decimal n) (decimal_passes n fits)

  solid_pass : (bytes : List ℕ) → AllByRecursion (λ b. is_blank b ≡ false) bytes → Passes test bytes
  solid_pass [] p = tt
  solid_pass (b ∷ bs) p = (solid b p.0, solid_pass bs p.1)

  line_passes : (line : List ℕ) (flip : PlainFlip) → IsFlipLine line flip → Passes test line
  line_passes line flip is =
      let place = number_passes flip.place is.place in
      let bit = Passes-append test (decimal flip.bit) (codes " at " ++ decimal flip.place) (number_passes flip.bit is.bit) (space, (solid 97 refl, (solid 116 refl, (space, place)))) in
      let cell = Passes-append test (decimal flip.cell) (codes " " ++ (decimal flip.bit ++ (codes " at " ++ decimal flip.place))) (number_passes flip.cell is.cell) (space, bit) in
      let words =
      Passes-append test flip.array (codes " " ++ (decimal flip.cell ++ (codes " " ++ (decimal flip.bit ++ (codes " at " ++ decimal flip.place))))) (solid_pass flip.array is.array.solid) (space, cell) in
      subst (Passes test) (sym is.spelled) (solid 102 refl, (solid 108 refl, (solid 105 refl, (solid 112 refl, (space, words)))))

test_at : (test : ℕ → Bool) (bytes : List ℕ) (k : ℕ) → test 0 ≡ true → Passes test bytes → test (get_or bytes k 0) ≡ true
test_at test [] k none p = none
test_at test (b ∷ bs) zero none p = p.0
test_at test (b ∷ bs) (suc k) none p = test_at test bs k none p.1

abbrev is_no_return : ℕ → Bool
is_no_return b = not (nat_eq b 13)

solid_in_line : (b : ℕ) → is_blank b ≡ false → is_in_line b ≡ true
solid_in_line b h = grind (arith, nat_tests)

solid_no_return : (b : ℕ) → is_blank b ≡ false → is_no_return b ≡ true
solid_no_return b h = grind (arith, nat_tests)

no_return : (line : List ℕ) → Passes is_no_return line → without_return line ≡ line
no_return line p =
    let last : nat_eq (get_or line (length line - 1) 0) 13 ≡ false = not_true _ (test_at is_no_return line (length line - 1) refl p) in
    ap (λ v. cond v (take (length line - 1) line) line) last

pub line_says : (line : List ℕ) (flip : PlainFlip) → IsFlipLine line flip → Says (line ++ 10 ∷ []) flip
line_says line flip is =
    let inside = line_passes is_in_line refl solid_in_line line flip is in
    let ends = no_return line (line_passes is_no_return refl solid_no_return line flip is) in
    let one : lines (line ++ 10 ∷ []) ≡ line ∷ [] = lines-line line [] inside ∙ ap (λ z. z ∷ []) ends in
    record { line = line; only = ap (filter is_visible) one ∙ ap (λ v. cond v (line ∷ []) []) (line_seen line flip is); spelled = is }
