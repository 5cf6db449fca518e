use Rattle.std.proofs.Common.{arith, ◌+◌, ◌*◌, ◌^◌, ◌≤◌, get_or, drop}
use Rattle.std.proofs.lemmas.Grind.{common_steps}
use Rattle.std.proofs.lemmas.Bool.Decides.{nat_tests}
use Rattle.std.proofs.lemmas.List.{at_drop_more, at_drop_all}
use Rattle.std.specs.Char.{digit_value}
use Rattle.std.specs.Str.Parse.{digits_value, digits_value_after}
use Rattle.text_pieces.proofs.NumberLemmas.{le-digits_value_after}
use Rattle.text_pieces.proofs.numbers.value.Goals as goal

pub returns-in_err-checked_mul : goal.returns-in_err-checked_mul
returns-in_err-checked_mul c =
    let ds = c.args.digits.now in
    let base = c.args.base in
    let i = c.digits.b-index in
    let turn = at_drop_more (digits_value_after base c.digits.value) ds i 0 c.digits-test.true in
    let grown = le-digits_value_after base (c.digits.value * base + digit_value (get_or ds i 0)) (drop (i + 1) ds) c.requires in
    let large : 2 ^ 64 ≤ digits_value base ds = grind (arith, common_steps) in
    grind (arith, nat_tests, common_steps)

pub returns-in_err-value : goal.returns-in_err-value
returns-in_err-value c =
    let ds = c.args.digits.now in
    let base = c.args.base in
    let i = c.digits.b-index in
    let turn = at_drop_more (digits_value_after base c.digits.value) ds i 0 c.digits-test.true in
    let grown = le-digits_value_after base (c.digits.value * base + digit_value (get_or ds i 0)) (drop (i + 1) ds) c.requires in
    let large : 2 ^ 64 ≤ digits_value base ds = grind (arith, common_steps) in
    grind (arith, nat_tests, common_steps)

pub returns : goal.returns
returns c =
    let end = at_drop_all (digits_value_after c.args.base c.digits.value) c.args.digits.now c.digits.b-index c.digits-test.false in
    grind (arith, nat_tests, common_steps)
