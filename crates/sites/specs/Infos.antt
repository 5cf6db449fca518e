-- What is known of a site, against the site.
use Rattle.std.specs.Prelude.{◌≡◌, ℕ, suc, Bool, false, List, [], ◌∷◌, ◌++◌, filter, Some}
use Rattle.std.specs.List.{slice_get}
use Rattle.c_tree.specs.Names.{arrays_in, ints_in}
use Rattle.c_tree.specs.Plain.{Word, PlainExpr, cell, PlainExprs, PlainTest, PlainUnit}
use Rattle.c_tree.specs.declared.affine.Affine.{Affine}
use Rattle.c_tree.specs.declared.expr.Rel.{Rel}
use Rattle.acceptance.specs.Head.{list_of}
use Rattle.acceptance.specs.Items.{Loop}
use Rattle.acceptance.specs.Parts.{is_cell}
use Rattle.sites.specs.Sites.{Outer, outer_loop, outer_branch, Site, is_of, all_sites}
use Rattle.sites.specs.Variables.{IsSum, variables_around}
use Rattle.sites.specs.declared.info.LoopInfo.{LoopInfo}
use Rattle.sites.specs.declared.info.SiteInfo.{SiteInfo}
use Rattle.sites.specs.declared.info.Subscript.{Subscript}
use Rattle.sites.specs.declared.info.Subscript.TheVariants.{Plain, Index}
use Rattle.sites.specs.declared.info.TestInfo.{TestInfo}

-- two lists, item by item
abbrev pub Pairs : {A B : Type 0} → (A → B → Type 0) → List A → List B → Type 0
Pairs R [] [] = Unit {0}
Pairs R (x ∷ xs) (y ∷ ys) = R x y × Pairs R xs ys
Pairs R _ _ = ⊥

-- the first list shows the front of `all`, and this is what is left
abbrev pub Front : {A B : Type 0} → (A → B → Type 0) → List A → List B → List B → Type 0
Front R [] all rest = all ≡ rest
Front R (x ∷ xs) [] rest = ⊥
Front R (x ∷ xs) (y ∷ ys) rest = R x y × Front R xs ys rest

-- ---- loops and conditions

-- a loop around a place with what stands outside it, and a condition likewise
pub record OuterLoop : Type 0 where
  pub item : ℕ
  pub variable : ℕ
  pub the_loop : Loop
  pub outside : List Outer

pub record OuterTests : Type 0 where
  pub item : ℕ
  pub first : Bool
  pub the_tests : List PlainTest
  pub outside : List Outer

-- the outermost first
abbrev pub loops_around : List Outer → List OuterLoop
loops_around [] = []
loops_around (outer_loop n v l ∷ os) = loops_around os ++ record { item = n; variable = v; the_loop = l; outside = os } ∷ []
loops_around (outer_branch n first ts ∷ os) = loops_around os

abbrev pub tests_around : List Outer → List OuterTests
tests_around [] = []
tests_around (outer_loop n v l ∷ os) = tests_around os
tests_around (outer_branch n first ts ∷ os) = tests_around os ++ record { item = n; first = first; the_tests = ts; outside = os } ∷ []

-- in these variables
pub record ShowsBounds (xs : List (Word × ℕ)) (n v : ℕ) (l : Loop) (i : LoopInfo) : Type 0 where
  pub item_is : i.item ≡ n
  pub variable_is : i.var ≡ v
  pub rel_is : i.rel ≡ l.rel
  pub lo_is : IsSum xs l.lo i.lo
  pub hi_is : IsSum xs l.hi i.hi

abbrev pub ShowsLoop : List Word → LoopInfo → OuterLoop → Type 0
ShowsLoop ints i o = ShowsBounds (variables_around ints o.outside) o.item o.variable o.the_loop i

abbrev pub ShowsSides : List (Word × ℕ) → Rel × Affine × Affine → PlainTest → Type 0
ShowsSides xs s t = (s.0 ≡ t.0) × (IsSum xs t.1 s.1 × IsSum xs t.2 s.2)

pub record ShowsCondition (xs : List (Word × ℕ)) (n : ℕ) (first : Bool) (ts : List PlainTest) (i : TestInfo) : Type 0 where
  pub item_is : i.item ≡ n
  pub branch_is : i.first_branch ≡ first
  pub sides_are : Pairs (ShowsSides xs) i.sides ts

abbrev pub ShowsTests : List Word → TestInfo → OuterTests → Type 0
ShowsTests ints i o = ShowsCondition (variables_around ints o.outside) o.item o.first o.the_tests i

-- ---- subscripts

abbrev pub AreSums : List (Word × ℕ) → List Affine → PlainExprs → Type 0
AreSums xs sums at = Pairs (λ a e. IsSum xs e a) sums (list_of at)

-- the sum of the expression, or the number of the index array and the sums of its own subscripts
abbrev pub ShowsSubscript : List Word → List (Word × ℕ) → Subscript → PlainExpr → Type 0
ShowsSubscript arrays xs (Plain a) e = (is_cell e ≡ false) × IsSum xs e a
ShowsSubscript arrays xs (Index k sums) (cell y at) = (slice_get arrays k ≡ Some y) × AreSums xs sums at
ShowsSubscript arrays xs (Index k sums) _ = ⊥

abbrev pub ShowsSubscripts : List Word → List (Word × ℕ) → List Subscript → PlainExprs → Type 0
ShowsSubscripts arrays xs ss at = Pairs (ShowsSubscript arrays xs) ss (list_of at)

-- ---- sites

-- what is known of a site with its number, in these `int64_t` parameters and arrays
pub record Shows (ints arrays : List Word) (i : SiteInfo) (s : ℕ × Site) : Type 0 where
  pub site_is : i.site.0 ≡ s.0
  pub statement_is : i.statement ≡ s.1.statement
  pub position_is : i.position ≡ s.1.position
  pub write_is : i.write ≡ s.1.reach.writes
  pub loops_are : Pairs (ShowsLoop ints) i.loops (loops_around s.1.outers)
  pub tests_are : Pairs (ShowsTests ints) i.tests (tests_around s.1.outers)
  pub subscripts_are : ShowsSubscripts arrays (variables_around ints s.1.outers) i.subscripts s.1.reach.at

-- sites with their numbers, from k on
abbrev pub numbered_from : ℕ → List Site → List (ℕ × Site)
numbered_from k [] = []
numbered_from k (s ∷ ss) = (k, s) ∷ numbered_from (suc k) ss

abbrev pub those_of : Word → List (ℕ × Site) → List (ℕ × Site)
those_of x = filter (λ (s : ℕ × Site). is_of x s.1)

-- the sites of an array, each with its number in the unit
abbrev pub numbered_sites : PlainUnit → Word → List (ℕ × Site)
numbered_sites u x = those_of x (numbered_from 0 (all_sites u))

-- the list shows the sites of an array of a unit, one by one in their order
abbrev pub ShowsSites : PlainUnit → List SiteInfo → Word → Type 0
ShowsSites u infos x = Pairs (Shows (ints_in u.params) (arrays_in u.params)) infos (numbered_sites u x)
