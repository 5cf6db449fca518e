-- How sites are collected: what a walk over accesses and statements adds to a list.
use Rattle.std.specs.Prelude.{◌≡◌, ℕ, ◌+◌, Bool, List, ◌++◌, length, map}
use Rattle.c_tree.specs.Names.{ints_in, words}
use Rattle.c_tree.specs.Plain.{Word, PlainExprs, PlainStmt, PlainStmts}
use Rattle.c_tree.specs.Trees.{param}
use Rattle.sites.specs.Infos.{Front, Shows, numbered_from, those_of}
use Rattle.sites.specs.Outers.{outers_in}
use Rattle.sites.specs.Sites.{Outer, Reach, Site, placed, count, count_all, loops, loops_all, sites, sites_all}
use Rattle.sites.specs.declared.collect.Count.{Count}
use Rattle.sites.specs.declared.collect.Next.{Next}
use Rattle.sites.specs.declared.collect.Place.{Place}
use Rattle.sites.specs.declared.collect.Query.{Query}
use Rattle.sites.specs.declared.info.SiteInfo.{SiteInfo}

abbrev pub shown : Query → SiteInfo → ℕ × Site → Type 0
shown q = Shows (ints_in (map param q.unit.now.params)) (words q.arrays.now)

abbrev pub one_site : Place → Count → Word → PlainExprs → Bool → ℕ × Site
one_site p c x at writes =
    (c.site, record { statement = p.statement; position = c.position; outers = outers_in p.outers.now; reach = record { name = x; at = at; writes = writes } })

-- those of these sites that are of the array
abbrev pub kept : Query → List (ℕ × Site) → List (ℕ × Site)
kept q = those_of q.array.now.bytes

-- from one list to the other, what shows these sites was added
abbrev pub Grows : Query → List SiteInfo → List SiteInfo → List (ℕ × Site) → Type 0
Grows q old new more = (all rest : List (ℕ × Site)) → Front (shown q) old all (more ++ rest) → Front (shown q) new all rest

-- the sites of these accesses were added
pub record Reaches (p : Place) (c : Count) (rs : List Reach) (old new : List SiteInfo) (r : Count) : Type 0 where
  pub position_is : r.position ≡ c.position + length rs
  pub site_is : r.site ≡ c.site + length rs
  pub grows : Grows p.query.now old new (kept p.query.now (numbered_from c.site (placed p.statement c.position (outers_in p.outers.now) rs)))

-- these sites were added, of so many items and loops
pub record Walks (q : Query) (n : Next) (ss : List Site) (items loops_more : ℕ) (old new : List SiteInfo) (r : Next) : Type 0 where
  pub item_is : r.item ≡ n.item + items
  pub variable_is : r.variable ≡ n.variable + loops_more
  pub site_is : r.site ≡ n.site + length ss
  pub grows : Grows q old new (kept q (numbered_from n.site ss))

abbrev pub Walked : Query → List Outer → PlainStmt → Next → List SiteInfo → List SiteInfo → Next → Type 0
Walked q os s n old new r = Walks q n (sites s n.item n.variable os) (count s) (loops s) old new r

abbrev pub WalkedAll : Query → List Outer → PlainStmts → Next → List SiteInfo → List SiteInfo → Next → Type 0
WalkedAll q os ss n old new r = Walks q n (sites_all ss n.item n.variable os) (count_all ss) (loops_all ss) old new r
