use Rattle.std.proofs.Common.{◌≡◌, ◌∙◌, ◌≤◌, ◌<◌, ℕ, List, Some, None, Option, sym, ap, subst, arith}
use Rattle.c_tree.specs.declared.frame.ArrayInfo.{ArrayInfo}
use Rattle.c_tree.specs.Plain.{Word}
use Rattle.data_file.specs.Checks.{wanted_cells}
use Rattle.fault_plan.specs.Answers.{MeansFitting}
use Rattle.fault_plan.specs.Reading.{array_in}
use Rattle.fault_plan.specs.Seen.{plain}
use Rattle.fault_plan.proofs.Decided.{made, no_flip, no_array, no_cell, no_bit, fitting, array_below, counted}
use Rattle.fault_plan.proofs.read_flip.Goals as goal

-- the answer of the look-up, in the words of the frame
looked_up : (r : Option ℕ) (given arrays : List ArrayInfo) (x : Word) (o : Option ℕ) → r ≡ array_in given x → given ≡ arrays → r ≡ o → array_in arrays x ≡ o
looked_up r given arrays x o found same is = ap (λ (z : List ArrayInfo). array_in z x) (sym same) ∙ sym found ∙ is

pub returns-in_default : goal.returns-in_default
returns-in_default c = no_flip c.args.text.now c.in_default.ensures

pub returns-in_default-array_in : goal.returns-in_default-array_in
returns-in_default-array_in c =
    let at = looked_up c.array_in.result c.as_slice.result.now c.args.f.now.arrays c.in-Some.flip.array.now None c.array_in.ensures c.as_slice.ensures c.in_default-array_in.is in
    no_array c.args.f.now c.args.text.now (plain c.in-Some.flip) c.in-Some.ensures at

pub returns-then-flip-given_cells : goal.returns-then-flip-given_cells
returns-then-flip-given_cells c =
    let f = c.args.f.now in
    let flip = plain c.in-Some.flip in
    let k = c.in-Some-array_in.array in
    let at = looked_up c.array_in.result c.as_slice.result.now f.arrays flip.array (Some k) c.array_in.ensures c.as_slice.ensures c.in-Some-array_in.is in
    let cells = counted f c.args.i.now k c.requires (array_below f c.args.text.now flip c.in-Some.ensures k at) in
    let outside : wanted_cells f c.args.i.now.ints k ≤ flip.cell = omega (arith, cells, c.given_cells.ensures, c.if-flip-given_cells.true) in
    no_cell f c.args.text.now flip c.in-Some.ensures c.args.i.now k at outside

pub returns-then-flip-gt63 : goal.returns-then-flip-gt63
returns-then-flip-gt63 c =
    let f = c.args.f.now in
    let flip = plain c.in-Some.flip in
    let k = c.in-Some-array_in.array in
    let at = looked_up c.array_in.result c.as_slice.result.now f.arrays flip.array (Some k) c.array_in.ensures c.as_slice.ensures c.in-Some-array_in.is in
    let cells = counted f c.args.i.now k c.requires (array_below f c.args.text.now flip c.in-Some.ensures k at) in
    let within : flip.cell < wanted_cells f c.args.i.now.ints k = omega (arith, cells, c.given_cells.ensures, c.if-flip-given_cells.false) in
    no_bit f c.args.text.now flip c.in-Some.ensures c.args.i.now k at within c.if-flip-gt63.true

pub returns : goal.returns
returns c =
    let f = c.args.f.now in
    let flip = plain c.in-Some.flip in
    let k = c.in-Some-array_in.array in
    let at = looked_up c.array_in.result c.as_slice.result.now f.arrays flip.array (Some k) c.array_in.ensures c.as_slice.ensures c.in-Some-array_in.is in
    let cells = counted f c.args.i.now k c.requires (array_below f c.args.text.now flip c.in-Some.ensures k at) in
    let within : flip.cell < wanted_cells f c.args.i.now.ints k = omega (arith, cells, c.given_cells.ensures, c.if-flip-given_cells.false) in
    let h = fitting f c.args.text.now flip c.in-Some.ensures c.args.i.now k at within c.if-flip-gt63.false in
    let same = c.in-Ok.ensures {u = tt} in
    subst (λ (n : ℕ). MeansFitting f c.args.i.now c.args.text.now (made flip n)) (sym same.1) h
