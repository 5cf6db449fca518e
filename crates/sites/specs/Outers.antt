-- The outers that the code holds.
use Rattle.std.specs.Prelude.{List, [], ◌∷◌}
use Rattle.c_tree.specs.Trees.{expr, tests, word}
use Rattle.sites.specs.Sites.{Outer, outer_loop, outer_branch}
use Rattle.sites.specs.declared.outers.Outers.{Outers, Outside, InLoop', InBranch'}

abbrev pub outers_in : Outers → List Outer
outers_in Outside = []
outers_in (InLoop' n v x lo rel hi p outer) = outer_loop n v (record { name = word x.now; lo = expr lo.now; rel = rel; hi = expr hi.now }) ∷ outers_in outer
outers_in (InBranch' n first ts p outer) = outer_branch n first (tests ts.now) ∷ outers_in outer
