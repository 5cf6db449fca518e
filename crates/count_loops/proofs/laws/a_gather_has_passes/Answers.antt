-- The classes and sites of this unit compute.
use Rattle.std.proofs.Common.{◌≡◌, refl, true, [], ◌∷◌}
use Rattle.std.specs.Prelude.{codes}
use Rattle.c_tree.specs.Plain.{lit, no_exprs, more_exprs}
use Rattle.c_tree.specs.declared.expr.Rel.TheVariants.{Lt}
use Rattle.acceptance.specs.WorkedSources.{i, n}
use Rattle.sites.specs.Sites.{Site, outer_loop}
use Rattle.sites.specs.declared.class.Class.TheVariants.{Difference, Inspected}
use Rattle.count_loops.proofs.laws.a_gather_has_passes.Goals as goal

-- the write in the loop
abbrev third : Site
third = record {
  statement = 2;
  position = 2;
  outers = outer_loop 1 3 (record { name = codes "i"; lo = lit 0; rel = Lt; hi = n }) ∷ [];
  reach = record { name = codes "Y"; at = more_exprs i no_exprs; writes = true };
}

pub returns-clause-index : goal.returns-clause-index
returns-clause-index c = record { name = codes "P"; there = refl; class_is = λ e. (let f : Difference ≡ Inspected = e in cc) }

pub returns-clause-written : goal.returns-clause-written
returns-clause-written c = record { name = codes "Y"; there = refl; class_is = λ e. (let f : Difference ≡ Inspected = e in cc) }

pub returns-clause-write : goal.returns-clause-write
returns-clause-write c = record { found = third; there = refl; writes = refl; named = refl }
