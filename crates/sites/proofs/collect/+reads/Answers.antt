use Rattle.sites.proofs.Collecting.{then_reaches, read_on, read_all, all_read, cell_reads, bin_reads, test_reads, min_reads, max_reads}
use Rattle.sites.proofs.collect.+reads.Goals as goal

pub reads-returns-in_ok-next-in-Cell : goal.reads-returns-in_ok-next-in-Cell
reads-returns-in_ok-next-in-Cell t c =
    then_reaches c.args.place.now c.args.count c.in_ok-next-in-Cell.next _ _ _ _ _ _ c.reach.result (cell_reads c.args.e.now c.in-Cell.x c.in-Cell.at c.in-Cell.is) c.in_ok-next-in-Cell.ensures c.reach.ensures

pub reads-returns-in_ok-next-in-Bin : goal.reads-returns-in_ok-next-in-Bin
reads-returns-in_ok-next-in-Bin t c =
    then_reaches c.args.place.now c.args.count c.in_ok-next-in-Bin.next _ _ _ _ _ _ c.reads-in-Bin-2.result
    (bin_reads c.args.e.now c.in-Bin.field-0 c.in-Bin.a c.in-Bin.b c.deref-in-Bin.result.now c.deref-in-Bin-2.result.now c.in-Bin.is c.deref-in-Bin.ensures c.deref-in-Bin-2.ensures) c.in_ok-next-in-Bin.ensures c.reads-in-Bin-2.ensures

pub reads-returns-in_ok-next-in-Test : goal.reads-returns-in_ok-next-in-Test
reads-returns-in_ok-next-in-Test t c =
    then_reaches c.args.place.now c.args.count c.in_ok-next-in-Test.next _ _ _ _ _ _ c.reads-in-Test-2.result
    (test_reads c.args.e.now c.in-Test.field-0 c.in-Test.a c.in-Test.b c.deref-in-Test.result.now c.deref-in-Test-2.result.now c.in-Test.is c.deref-in-Test.ensures c.deref-in-Test-2.ensures) c.in_ok-next-in-Test.ensures c.reads-in-Test-2.ensures

pub reads-returns-in_ok-next-in-Min : goal.reads-returns-in_ok-next-in-Min
reads-returns-in_ok-next-in-Min t c =
    then_reaches c.args.place.now c.args.count c.in_ok-next-in-Min.next _ _ _ _ _ _ c.reads-in-Min-2.result
    (min_reads c.args.e.now c.in-Min.a c.in-Min.b c.deref-in-Min.result.now c.deref-in-Min-2.result.now c.in-Min.is c.deref-in-Min.ensures c.deref-in-Min-2.ensures) c.in_ok-next-in-Min.ensures c.reads-in-Min-2.ensures

pub reads-returns-in_ok-next-in-Max : goal.reads-returns-in_ok-next-in-Max
reads-returns-in_ok-next-in-Max t c =
    then_reaches c.args.place.now c.args.count c.in_ok-next-in-Max.next _ _ _ _ _ _ c.reads-in-Max-2.result
    (max_reads c.args.e.now c.in-Max.a c.in-Max.b c.deref-in-Max.result.now c.deref-in-Max-2.result.now c.in-Max.is c.deref-in-Max.ensures c.deref-in-Max-2.ensures) c.in_ok-next-in-Max.ensures c.reads-in-Max-2.ensures

pub reads_all-loop-e-preserved : goal.reads_all-loop-e-preserved
reads_all-loop-e-preserved t c new r h =
    c.loop-e.invariant new r (read_on c.args.place.now c.loop-e.next c.in_ok-next.next c.as_slice-e-items.result.now c.loop-e.e-index c.e-item.result _ _ new r c.loop-e-test.true c.e-item.is c.in_ok-next.ensures h)

pub reads_all-returns : goal.reads_all-returns
reads_all-returns t c =
    all_read c.args.place.now c.args.count c.loop-e.next c.as_slice-e-items.result.now c.args.es.now _ _ c.as_slice-e-items.ensures
    (c.loop-e.invariant _ c.loop-e.next (read_all c.args.place.now c.loop-e.next c.as_slice-e-items.result.now c.loop-e.e-index _ c.loop-e-test.false))
