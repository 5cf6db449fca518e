use Rattle.std.proofs.Common.{◌≡◌, ◌^◌, ◌<◌, ◌≤◌, Some, slice_get, refl, arith}
use Rattle.std.proofs.lemmas.Bool.{ltb-false}
use Rattle.c_tree.specs.declared.frame.Frame.{Frame}
use Rattle.c_tree.specs.declared.frame.ArrayInfo.{ArrayInfo}
use Rattle.c_tree.specs.declared.frame.Inputs.{Inputs}
use Rattle.c_tree.specs.declared.run.Flip.{Flip}
use Rattle.data_file.specs.Checks.{Fits, wanted_cells}
use Rattle.fault_plan.specs.Answers.{FitsInputs, MeansFitting}
use Rattle.fault_plan.specs.Meaning.{IsPiece, named}
use Rattle.fault_plan.specs.Texts.{flip_line, flip_text}
use Rattle.fault_plan.proofs.Decided.{one_other}
use Rattle.fault_plan.proofs.FlipTexts.{line_says}
use Rattle.fault_plan.proofs.flip_is_read_back.Goals as goal

written : (f : Frame) (i : Inputs) (flip : Flip) (array : ArrayInfo) → Fits f i → FitsInputs f i flip → flip.place < 2 ^ 64 → slice_get f.arrays flip.array ≡ Some array → IsPiece array.name.bytes
    → MeansFitting f i (flip_text array.name.bytes flip) flip
written f i flip array fits h place at piece =
    let few : wanted_cells f i.ints flip.array ≤ 4194304 = ltb-false 4194304 (wanted_cells f i.ints flip.array) (fits.few flip.array h.array) in
    let cell : flip.cell < 2 ^ 64 = let below = h.cell in omega arith in
    let bit : flip.bit < 2 ^ 64 = let low = h.bit in omega arith in
    record {
      means = record {
        array = array;
        declared = at;
        says = line_says (flip_line array.name.bytes flip.cell flip.bit flip.place) (named array.name.bytes flip) (record { array = piece; cell = cell; bit = bit; place = place; spelled = refl });
      };
      fits = h;
    }

pub returns : goal.returns
returns c = λ f i flip array r own fits h place at piece.
    let w = written f i flip array fits h place at piece in
    (w, λ a. one_other f own i (flip_text array.name.bytes flip) flip r w a)
