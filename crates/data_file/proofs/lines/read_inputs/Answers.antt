use Rattle.std.proofs.Common.{◌≡◌, ◌∙◌, ◌+◌, ◌<◌, [], length, nat_eq, false, Some, None, ap, sym, subst, arith}
use Rattle.std.specs.Str.Lines.{lines}
use Rattle.data_file.specs.Conditions.{names_in}
use Rattle.data_file.specs.Reading.{with_line, with_lines, first_line, no_rows}
use Rattle.data_file.specs.Seen.{listed}
use Rattle.data_file.proofs.Steps.{on_true, on_false, bad_line, good_line, counted_more, all_read, found_or}
use Rattle.data_file.proofs.LineSteps.{after_line_shorter}
use Rattle.data_file.proofs.Turns.{long_is, empty_is}
use Rattle.data_file.proofs.lines.read_inputs.Goals as goal

pub returns-then-not-branch : goal.returns-then-not-branch
returns-then-not-branch c =
    let rest = c.loop-rest.rest.now in
    let some : nat_eq (length rest) 0 ≡ false = sym c.is_empty.ensures ∙ c.loop-rest-test.true in
    let at = on_false _ _ c.in_ok-take_line.field-0 c.if-not-branch.true c.in_ok-take_line.ensures in
    let bad : with_line c.len-in-loop-rest.result (listed c.in_ok-names.names.keys) c.loop-rest.slots.items (first_line rest) ≡ None =
    ap (with_line c.len-in-loop-rest.result (listed c.in_ok-names.names.keys) c.loop-rest.slots.items) (sym c.split_line.ensures.line) ∙ at in
    bad_line c.args.f.now c.args.text.now rest c.len-in-loop-rest.result c.loop-rest.number (listed c.in_ok-names.names.keys) c.loop-rest.slots.items
    c.len-in-loop-rest.ensures c.in_ok-names.ensures c.loop-rest.invariant.read some bad

pub loop-rest-smaller : goal.loop-rest-smaller
loop-rest-smaller c =
    let some : nat_eq (length c.loop-rest.rest.now) 0 ≡ false = sym c.is_empty.ensures ∙ c.loop-rest-test.true in
    let shorter = after_line_shorter c.loop-rest.rest.now (long_is c.loop-rest.rest.now some) in
    subst (λ z. length z < length c.loop-rest.rest.now) (sym c.split_line.ensures.rest) shorter

pub loop-rest-preserved : goal.loop-rest-preserved
loop-rest-preserved c =
    let rest = c.loop-rest.rest.now in
    let some : nat_eq (length rest) 0 ≡ false = sym c.is_empty.ensures ∙ c.loop-rest-test.true in
    let at = on_true _ _ c.in_ok-take_line.field-0 c.if-not-branch.false c.in_ok-take_line.ensures in
    let good : with_line c.len-in-loop-rest.result (listed c.in_ok-names.names.keys) c.loop-rest.slots.items (first_line rest) ≡ Some c.take_line.new.slots.items =
    ap (with_line c.len-in-loop-rest.result (listed c.in_ok-names.names.keys) c.loop-rest.slots.items) (sym c.split_line.ensures.line) ∙ at in
    let shorter = after_line_shorter rest (long_is rest some) in
    let same = ap length c.split_line.ensures.rest in
    record {
      read = ap (λ z. with_lines (length c.args.f.now.ints) (names_in c.args.f.now) c.take_line.new.slots.items (c.loop-rest.number + 1) (lines z)) c.split_line.ensures.rest
          ∙ good_line c.args.f.now c.args.text.now rest c.len-in-loop-rest.result c.loop-rest.number (listed c.in_ok-names.names.keys) c.loop-rest.slots.items
          c.len-in-loop-rest.ensures c.in_ok-names.ensures c.loop-rest.invariant.read c.take_line.new.slots.items some good;
      counted = ap (λ z. (c.loop-rest.number + 1) + length (lines z)) c.split_line.ensures.rest ∙ counted_more rest c.loop-rest.number (length (lines c.args.text.now)) some c.loop-rest.invariant.counted;
      room = omega (arith, shorter, same, c.loop-rest.invariant.room);
    }

pub returns : goal.returns
returns c =
    let none : c.loop-rest.rest.now ≡ [] = empty_is c.loop-rest.rest.now (sym c.is_empty.ensures ∙ c.loop-rest-test.false) in
    let n = c.loop-rest.number in
    let counted : n ≡ length (lines c.args.text.now) = omega (arith, ap (λ z. n + length (lines z)) (sym none), c.loop-rest.invariant.counted) in
    let f = c.args.f.now in
    let read : with_lines (length f.ints) (names_in f) c.loop-rest.slots.items n [] ≡ with_lines (length f.ints) (names_in f) (no_rows f) 0 (lines c.args.text.now) =
    ap (λ z. with_lines (length f.ints) (names_in f) c.loop-rest.slots.items n (lines z)) (sym none) ∙ c.loop-rest.invariant.read in
    found_or (n + 1) c.in_ok-inputs_of.field-0 _ c.ok_or.result c.ok_or.ensures.value
    (all_read f c.args.text.now n c.loop-rest.slots.items c.in_ok-inputs_of.field-0 read counted c.in_ok-inputs_of.ensures)
