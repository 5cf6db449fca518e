-- What a call that checks a unit gives.
use Rattle.std.specs.Prelude.{◌≡◌}
use Rattle.c_tree.specs.Names.{arrays_in}
use Rattle.c_tree.specs.Plain.{PlainUnit}
use Rattle.c_tree.specs.Trees.{unit}
use Rattle.acceptance.specs.Printed.{IsAcceptedPrinted}
use Rattle.acceptance.specs.Sources.{IsAcceptedSource}
use Rattle.data_file.specs.Conditions.{IsFrame}
use Rattle.data_file.specs.Frames.{IsFrameOf}
use Rattle.kernel_check.specs.declared.kernel.Kernel.{Kernel}
use Rattle.kernel_check.specs.declared.kernel.Printed.{Printed}
use Rattle.sites.specs.Infos.{Pairs, ShowsSites}

-- the source, which is accepted, its frame, and the sites of each array
pub record IsKernelOf (u : PlainUnit) (k : Kernel) : Type 0 where
  pub same : unit k.unit ≡ u
  pub accepted : IsAcceptedSource u
  pub of : IsFrameOf u k.frame
  pub is_frame : IsFrame k.frame
  pub sites : Pairs (ShowsSites u) k.sites (arrays_in u.params)

-- the printed unit, which is accepted, and its frame
pub record IsPrintedOf (u : PlainUnit) (p : Printed) : Type 0 where
  pub same : unit p.unit ≡ u
  pub accepted : IsAcceptedPrinted u
  pub of : IsFrameOf u p.frame
  pub is_frame : IsFrame p.frame
