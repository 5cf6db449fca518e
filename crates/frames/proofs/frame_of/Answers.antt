use Rattle.frames.proofs.MadeFrames.{different_names, good_extents, made_sums, made_frame_of, made_frame}
use Rattle.frames.proofs.frame_of.Goals as goal

pub arrays_of-requires-clause-different : goal.arrays_of-requires-clause-different
arrays_of-requires-clause-different c = different_names c.args.unit.now c.requires c.in_ok-names.names c.as_slice.result.now c.as_slice.ensures c.in_ok-names.ensures

pub arrays_of-requires-clause-sums : goal.arrays_of-requires-clause-sums
arrays_of-requires-clause-sums c =
    good_extents c.args.unit.now c.requires c.in_ok-names.names c.as_slice.result.now c.as_slice.ensures c.in_ok-names.ensures c.as_slice-4.result.now c.as_slice-4.ensures

pub returns-clause-of : goal.returns-clause-of
returns-clause-of c =
    let w = c.args.unit.now in
    let names = c.in_ok-names.names in
    let ps = c.as_slice.result.now in
    let sums = made_sums w c.requires names ps c.as_slice.ensures c.in_ok-names.ensures c.as_slice-4.result.now c.in_ok-arrays.arrays c.as_slice-4.ensures c.in_ok-arrays.ensures in
    made_frame_of w c.requires names ps c.as_slice.ensures c.in_ok-names.ensures c.as_slice-2.result.now c.in_ok-ints.ints c.as_slice-3.result.now c.as_slice-2.ensures c.as_slice-3.ensures c.in_ok-ints.ensures c.in_ok-arrays.arrays sums

pub returns-clause-is : goal.returns-clause-is
returns-clause-is c =
    let w = c.args.unit.now in
    let names = c.in_ok-names.names in
    let ps = c.as_slice.result.now in
    let sums = made_sums w c.requires names ps c.as_slice.ensures c.in_ok-names.ensures c.as_slice-4.result.now c.in_ok-arrays.arrays c.as_slice-4.ensures c.in_ok-arrays.ensures in
    made_frame w c.requires names ps c.as_slice.ensures c.in_ok-names.ensures c.as_slice-2.result.now c.in_ok-ints.ints c.as_slice-3.result.now c.as_slice-2.ensures c.as_slice-3.ensures c.in_ok-ints.ensures c.in_ok-arrays.arrays sums
