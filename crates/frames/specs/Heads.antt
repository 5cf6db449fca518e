-- Heads of which a frame can be made.
use Rattle.std.specs.Prelude.{◌≡◌, false}
use Rattle.c_tree.specs.Plain.{PlainUnit}
use Rattle.acceptance.specs.Head.{head_names_twice, bad_range, extent_not_affine, extent_terms_too_large}
use Rattle.acceptance.specs.Sources.{IsAcceptedSource}
use Rattle.acceptance.specs.Printed.{IsAcceptedPrinted}

-- No name is declared twice, each parameter has its range line, and extents are affine with small terms.
pub record HasGoodHead (u : PlainUnit) : Type 0 where
  pub names : head_names_twice u ≡ false
  pub ranges : (bad_range u).head ≡ false
  pub affine : extent_not_affine u ≡ false
  pub small : extent_terms_too_large u ≡ false

abbrev pub SourcesAreGood : Type 0
SourcesAreGood = (u : PlainUnit) → IsAcceptedSource u → HasGoodHead u

abbrev pub PrintedAreGood : Type 0
PrintedAreGood = (u : PlainUnit) → IsAcceptedPrinted u → HasGoodHead u
