use Rattle.std.proofs.Common.{drop}
use Rattle.c_tree.specs.Names.{words}
use Rattle.c_tree.specs.Trees as plain
use Rattle.sites.specs.Infos.{Front, ShowsSites}
use Rattle.sites.proofs.lists.sites_of.Given as goal

abbrev pub invariant-loop-array : goal.invariant-loop-array
invariant-loop-array l = Front (ShowsSites (plain.unit l.unit)) l.lists (words l.array-items) (words (drop l.array-index l.array-items))
