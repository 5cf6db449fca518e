-- What the values of the code stand for.
use Rattle.std.specs.Prelude.{Bool, not, ◌&&◌, List, [], ◌∷◌, bytes_eq, map}
use Rattle.c_tree.specs.Names.{ints_in}
use Rattle.c_tree.specs.Plain.{Word, PlainExprs}
use Rattle.c_tree.specs.Trees.{expr, param, tests, word}
use Rattle.sites.specs.Classes.{has_cell, is_good, occurs}
use Rattle.sites.specs.Sites.{Frame, in_loop, in_branch, Reach}
use Rattle.sites.specs.Small.{where_small}
use Rattle.sites.specs.declared.frames.Frames.{Frames, Outside, InLoop', InBranch'}
use Rattle.sites.specs.declared.question.Ask.{Ask}
use Rattle.sites.specs.declared.question.Ask.TheVariants.{Reads, Writes, Irregular, Bad, Naming}
use Rattle.sites.specs.declared.question.Question.{Question}

abbrev pub frames_in : Frames → List Frame
frames_in Outside = []
frames_in (InLoop' x lo rel hi p outer) = in_loop (record { name = word x.now; lo = expr lo.now; rel = rel; hi = expr hi.now }) ∷ frames_in outer
frames_in (InBranch' first ts p outer) = in_branch first (tests ts.now) ∷ frames_in outer

-- the answer on an access of the array, by its subscripts and whether it writes
abbrev pub asks : Ask → List Word → List Frame → PlainExprs → Bool → Bool
asks Reads ints fs at writes = not writes
asks Writes ints fs at writes = writes
asks Irregular ints fs at writes = not writes && has_cell at
asks Bad ints fs at writes = not (is_good where_small ints fs at)
asks (Naming x) ints fs at writes = occurs where_small x.now.bytes fs at

abbrev pub meets : Question → List Frame → Reach → Bool
meets q fs r = bytes_eq q.array.now.bytes r.name && asks q.ask (ints_in (map param q.unit.now.params)) fs r.at r.writes
