use Rattle.std.proofs.Common.{List, drop}
use Rattle.c_tree.specs.Trees.{exprs}
use Rattle.sites.specs.Collected.{Reaches}
use Rattle.sites.specs.Sites.{reads_in_all}
use Rattle.sites.specs.declared.collect.Count.{Count}
use Rattle.sites.specs.declared.info.SiteInfo.{SiteInfo}
use Rattle.sites.proofs.collect.+reads.Given as goal

abbrev pub invariant-reads_all-loop-e : goal.invariant-reads_all-loop-e
invariant-reads_all-loop-e l = (new : List SiteInfo) (r : Count) → Reaches l.place l.next (reads_in_all (exprs (drop l.e-index l.e-items))) l.out new r → Reaches l.place l.fn.count (reads_in_all (exprs l.e-items)) l.fn.out new r
