use Rattle.std.proofs.Common.{◌≡◌, drop, map}
use Rattle.c_tree.specs.Names.{ints_in}
use Rattle.c_tree.specs.Trees.{param}
use Rattle.sites.specs.Classes.{form_from}
use Rattle.sites.specs.Forms.{coefficient_in}
use Rattle.sites.proofs.form.with_ints.Given as goal

abbrev pub invariant-loop-p : goal.invariant-loop-p
invariant-loop-p l = form_from l.fn.f (coefficient_in l.sum) (ints_in (map param l.params)) ≡ form_from l.form (coefficient_in l.sum) (ints_in (map param (drop l.p-index l.params)))
