use Rattle.std.proofs.Common.{◌≡◌, ◌∙◌, length, slice_get, ap, sym, arith, refl, List, Some, FitsSigned}
use Rattle.std.specs.Int.{w128}
use Rattle.std.proofs.lemmas.Int.{to_z-of_z}
use Rattle.std.proofs.lemmas.Option.{slice_get_read}
use Rattle.c_tree.specs.declared.affine.Affine.{Affine}
use Rattle.data_file.specs.Checks.{sum_value}
use Rattle.data_file.proofs.Sums.{counted_more}
use Rattle.data_file.proofs.check.cells_of_array.Goals as goal

pub sum_value-requires-clause-small : goal.sum_value-requires-clause-small
sum_value-requires-clause-small c =
    let items = c.as_slice-extent-items.result.now in
    let k = c.loop-extent.extent-index in
    let at : slice_get items k ≡ Some c.extent-item.result = slice_get_read items (length items) k c.extent-item.result refl c.loop-extent-test.true c.extent-item.is in
    c.requires.small k c.extent-item.result (ap (λ (es : List Affine). slice_get es k) (sym c.as_slice-extent-items.ensures) ∙ at)

pub loop-extent-preserved : goal.loop-extent-preserved
loop-extent-preserved c =
    let read : FitsSigned w128 c.sum_value.result = record { sfits = c.sum_value.type_inv } in
    let sum = to_z-of_z w128 c.sum_value.result read ∙ c.sum_value.ensures in
    record {
      few = omega (arith, c.min-count.ensures);
      counted = counted_more (sum_value c.args.ints.now) c.as_slice-extent-items.result.now c.loop-extent.extent-index c.loop-extent.count c.capped.result c.min-count.result _
          c.extent-item.result _ c.loop-extent-test.true c.extent-item.is sum c.capped.ensures c.min-count.ensures c.loop-extent.invariant.counted;
    }
