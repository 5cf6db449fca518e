use Rattle.std.proofs.Common.{List, drop}
use Rattle.c_tree.specs.Trees.{stmts}
use Rattle.sites.specs.Collected.{WalkedAll}
use Rattle.sites.specs.Outers.{outers_in}
use Rattle.sites.specs.declared.collect.Next.{Next}
use Rattle.sites.specs.declared.info.SiteInfo.{SiteInfo}
use Rattle.sites.proofs.collect.+walk.Given as goal

abbrev pub invariant-walk_all-loop-s : goal.invariant-walk_all-loop-s
invariant-walk_all-loop-s l = (new : List SiteInfo) (r : Next) → WalkedAll l.q (outers_in l.outers) (stmts (drop l.s-index l.s-items)) l.at l.out new r → WalkedAll l.q (outers_in l.outers) (stmts l.s-items) l.fn.next l.fn.out new r
