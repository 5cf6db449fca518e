use Rattle.std.proofs.Common.{drop}
use Rattle.acceptance.specs.Head.{list_of}
use Rattle.c_tree.specs.Names.{words}
use Rattle.c_tree.specs.Trees.{exprs}
use Rattle.sites.specs.Infos.{ShowsSubscript}
use Rattle.sites.specs.Variables.{variables_in}
use Rattle.sites.specs.Infos.{Front}
use Rattle.sites.proofs.subscripts.subscripts_at.Given as goal

abbrev pub invariant-loop-e : goal.invariant-loop-e
invariant-loop-e l = Front (ShowsSubscript (words l.arrays) (variables_in l.v)) l.out (list_of (exprs l.e-items)) (list_of (exprs (drop l.e-index l.e-items)))
