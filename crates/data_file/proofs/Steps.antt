-- The loop over the lines of a text, a turn at a time.
use Rattle.std.proofs.Common.{◌≡◌, ℕ, ◌+◌, List, [], length, Bool, true, false, nat_eq, Option, Some, None, Result, Err, sym, ap, ◌∙◌, subst, arith}
use Rattle.std.specs.Bool.{MatchBool}
use Rattle.std.specs.Option.{ok_or}
use Rattle.data_file.specs.Outcome.{Finds}
use Rattle.data_file.specs.declared.refusal.DataRefusal.{DataRefusal}
use Rattle.data_file.specs.declared.refusal.DataRefusal.TheVariants.{Syntax}
use Rattle.std.specs.Str.Lines.{lines}
use Rattle.c_tree.specs.Plain.{Word}
use Rattle.c_tree.specs.declared.frame.Frame.{Frame}
use Rattle.c_tree.specs.declared.frame.Inputs.{Inputs}
use Rattle.data_file.specs.Conditions.{names_in}
use Rattle.data_file.specs.Reading.{Slots, with_line, with_lines, lines_by, first_line, after_line, no_rows, inputs_from, inputs_by, inputs_or, inputs_in}
use Rattle.data_file.proofs.LineSteps.{lines_step}
use Rattle.data_file.proofs.Turns.{long_is}

pub on_false : (P Q : Type 0) (b : Bool) → b ≡ false → MatchBool b P Q → Q
on_false P Q true e h = absurd (let no : ⊥ = cc in no)
on_false P Q false e h = h

pub on_true : (P Q : Type 0) (b : Bool) → b ≡ true → MatchBool b P Q → P
on_true P Q true e h = h
on_true P Q false e h = absurd (let no : ⊥ = cc in no)

found_by : (n : ℕ) (found : Option Inputs) (read : Result Inputs ℕ) → read ≡ inputs_or n found → Finds (ok_or found (Syntax n)) read
found_by n None read e = e
found_by n (Some i) read e = e

pub found_or : (n : ℕ) (found : Option Inputs) (read : Result Inputs ℕ) (r : Result Inputs DataRefusal) → r ≡ ok_or found (Syntax n) → read ≡ inputs_or n found → Finds r read
found_or n found read r e h = subst (λ (z : Result Inputs DataRefusal). Finds z read) (sym e) (found_by n found read h)

module _ (f : Frame) (text rest : List ℕ) (parameters n : ℕ) (names : List Word) (slots : Slots)
    (same : parameters ≡ length f.ints) (named : names ≡ names_in f)
    (read : with_lines (length f.ints) (names_in f) slots n (lines rest) ≡ with_lines (length f.ints) (names_in f) (no_rows f) 0 (lines text)) where
  -- the line that the turn takes, in the words of the frame
  line_is : with_line parameters names slots (first_line rest) ≡ with_line (length f.ints) (names_in f) slots (first_line rest)
  line_is = ap (λ p. with_line p names slots (first_line rest)) same ∙ ap (λ ns. with_line (length f.ints) ns slots (first_line rest)) named

  pub bad_line : nat_eq (length rest) 0 ≡ false → with_line parameters names slots (first_line rest) ≡ None → inputs_in f (lines text) ≡ Err (n + 1)
  unfolding inputs_in with_lines
  bad_line some bad =
      let go = λ (s : Slots). with_lines (length f.ints) (names_in f) s (n + 1) (lines (after_line rest)) in
      let step : with_lines (length f.ints) (names_in f) slots n (lines rest) ≡ lines_by go (n + 1) (with_line (length f.ints) (names_in f) slots (first_line rest)) =
      ap (with_lines (length f.ints) (names_in f) slots n) (lines_step rest (long_is rest some)) in
      ap (inputs_by (length (lines text) + 1)) (sym read ∙ step ∙ ap (lines_by go (n + 1)) (sym line_is ∙ bad))

  pub good_line : (next : Slots) → nat_eq (length rest) 0 ≡ false → with_line parameters names slots (first_line rest) ≡ Some next
      → with_lines (length f.ints) (names_in f) next (n + 1) (lines (after_line rest)) ≡ with_lines (length f.ints) (names_in f) (no_rows f) 0 (lines text)
  unfolding with_lines
  good_line next some good =
      let go = λ (s : Slots). with_lines (length f.ints) (names_in f) s (n + 1) (lines (after_line rest)) in
      let step : with_lines (length f.ints) (names_in f) slots n (lines rest) ≡ lines_by go (n + 1) (with_line (length f.ints) (names_in f) slots (first_line rest)) =
      ap (with_lines (length f.ints) (names_in f) slots n) (lines_step rest (long_is rest some)) in
      sym (ap (lines_by go (n + 1)) (sym line_is ∙ good)) ∙ sym step ∙ read

pub counted_more : (rest : List ℕ) (n whole : ℕ) → nat_eq (length rest) 0 ≡ false → n + length (lines rest) ≡ whole → (n + 1) + length (lines (after_line rest)) ≡ whole
counted_more rest n whole some e = omega (arith, ap length (lines_step rest (long_is rest some)))

-- the end of the text
pub all_read : (f : Frame) (text : List ℕ) (n : ℕ) (slots : Slots) (found : Option Inputs)
    → with_lines (length f.ints) (names_in f) slots n [] ≡ with_lines (length f.ints) (names_in f) (no_rows f) 0 (lines text)
    → n ≡ length (lines text) → found ≡ inputs_from [] [] slots → inputs_in f (lines text) ≡ inputs_or (n + 1) found
unfolding inputs_in with_lines
all_read f text n slots found read counted gives =
    ap (inputs_by (length (lines text) + 1)) (sym read) ∙ ap (λ (m : ℕ). inputs_or (m + 1) (inputs_from [] [] slots)) (sym counted) ∙ ap (inputs_or (n + 1)) (sym gives)
