-- The lines that aren't blank, a line at a time.
use Rattle.std.proofs.Common.{◌≡◌, ℕ, ◌<◌, true, false, cond, nat_eq, List, [], ◌∷◌, length, filter, sym, ap, ◌∙◌, subst}
use Rattle.data_file.specs.Reading.{first_line, after_line}
use Rattle.data_file.proofs.LineSteps.{lines_step, after_line_shorter}
use Rattle.data_file.proofs.Turns.{long_is, empty_is}
use Rattle.fault_plan.specs.Meaning.{is_visible, visible_lines}

module _ (text line rest : List ℕ) (some : nat_eq (length text) 0 ≡ false) (first : line ≡ first_line text) (after : rest ≡ after_line text) where
  step : visible_lines text ≡ cond (is_visible line) (line ∷ visible_lines rest) (visible_lines rest)
  step =
      ap (filter is_visible) (lines_step text (long_is text some))
      ∙ ap (λ z. cond (is_visible z) (z ∷ visible_lines (after_line text)) (visible_lines (after_line text))) (sym first)
      ∙ ap (λ z. cond (is_visible line) (line ∷ visible_lines z) (visible_lines z)) (sym after)

  pub line_taken : is_visible line ≡ true → visible_lines text ≡ line ∷ visible_lines rest
  line_taken seen = step ∙ ap (λ v. cond v (line ∷ visible_lines rest) (visible_lines rest)) seen

  pub line_passed : is_visible line ≡ false → visible_lines text ≡ visible_lines rest
  line_passed blank = step ∙ ap (λ v. cond v (line ∷ visible_lines rest) (visible_lines rest)) blank

  pub rest_shorter : length rest < length text
  rest_shorter = subst (λ z. length z < length text) (sym after) (after_line_shorter text (long_is text some))

pub no_lines : (text : List ℕ) → nat_eq (length text) 0 ≡ true → visible_lines text ≡ []
no_lines text none = ap visible_lines (empty_is text none)
