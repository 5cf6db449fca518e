use Rattle.std.proofs.Common.{◌≡◌, ◌∙◌, ◌+◌, ap, arith, length, take}
use Rattle.data_file.proofs.NamePlaces.{taken_up, parameter_read, array_read}
use Rattle.data_file.specs.Conditions.{names_in}
use Rattle.data_file.proofs.names.names_of.Goals as goal

pub loop-name-preserved : goal.loop-name-preserved
loop-name-preserved c =
    let at = parameter_read c.args.f.now c.as_slice-name-items.result.now c.loop-name.name-index c.loop-name-item.result c.as_slice.result.now c.as_slice-name-items.ensures c.loop-name-test.true c.loop-name-item.is c.as_slice.ensures in
    taken_up (names_in c.args.f.now) c.loop-name.name-index c.as_slice.result c.loop-name.names.keys c.insert.new.self.keys c.requires at c.in_ok-insert.ensures.keys c.loop-name.invariant

pub loop-array-preserved : goal.loop-array-preserved
loop-array-preserved c =
    let f = c.args.f.now in
    let k = c.loop-array.array-index in
    let at = array_read f c.as_slice-array-items.result.now k c.array-item.result c.as_slice-in-loop-array.result.now c.as_slice-array-items.ensures c.loop-array-test.true c.array-item.is c.as_slice-in-loop-array.ensures in
    let next : (length f.ints + k) + 1 ≡ length f.ints + (k + 1) = omega arith in
    taken_up (names_in f) (length f.ints + k) c.as_slice-in-loop-array.result c.loop-array.names.keys c.insert-in-loop-array.new.self.keys c.requires at c.in_ok-insert-2.ensures.keys c.loop-array.invariant
    ∙ ap (λ n. take n (names_in f)) next
