use Rattle.std.proofs.Common.{◌≡◌, ◌<◌, length, arith, slice_get, Some, refl}
use Rattle.std.proofs.lemmas.Option.{slice_get_read}
use Rattle.data_file.proofs.Marks.{name_more}
use Rattle.data_file.proofs.ending.put_names.Goals as goal

pub loop-k-preserved : goal.loop-k-preserved
loop-k-preserved c =
    let marks = c.in_ok-marks.marks.items in
    let k = c.loop-k.k in
    let below : k < length marks = omega (arith, c.in_ok-marks.ensures.size, c.loop-k-test.true) in
    let mark : slice_get marks k ≡ Some c.index.result.now = slice_get_read marks (length marks) k c.index.result.now refl below c.index.ensures in
    name_more c.args.numbers.now c.args.arrays.now marks k c.index-arrays-k.result c.index.result.now c.loop-k.out.items c.put_if.new.out.items _
    c.in_ok-marks.ensures c.loop-k-test.true c.index-arrays-k.is mark c.in_ok-put_if.ensures c.loop-k.invariant
