use Rattle.std.proofs.Common.{◌≤◌, ◌<◌, ◌%◌, ℕ, zero, suc, arith}
use Rattle.std.proofs.Math.Nat.{mod-lt}
use Rattle.acceptance.specs.Sources.{IsAcceptedSource}
use Rattle.demo_kernels.specs.Demos.{IsUsable}
use Rattle.demo_kernels.specs.Kernels.{kernel_at, size_of, bit_of}
use Rattle.demo_kernels.proofs.Facts.{shift_facts, product_facts, jacobi_facts, gather_facts}
use Rattle.demo_kernels.proofs.Trees.{shift_tree, product_tree, jacobi_tree, gather_tree}
use Rattle.demo_kernels.proofs.Usable.{usable, shift_short, product_short, jacobi_short, gather_short}
use Rattle.demo_kernels.proofs.laws.kernels_are_usable.Goals as goal

pub returns-clause-accepted : goal.returns-clause-accepted
returns-clause-accepted c = λ number. at (number % 4) (size_of number) (bit_of number) where
  at : (r n b : ℕ) → IsAcceptedSource (kernel_at r n b).unit
  at zero n b = record { tree = shift_tree; refused_nowhere = c.worked_sources.ensures.accepted }
  at (suc zero) n b = record { tree = product_tree; refused_nowhere = c.worked_sources.ensures.accepted_product }
  at (suc (suc zero)) n b = record { tree = jacobi_tree; refused_nowhere = c.worked_limits.ensures.jacobi }
  at (suc (suc (suc r))) n b = record { tree = gather_tree; refused_nowhere = c.worked_sources.ensures.accepted_gather }

pub returns-clause-usable : goal.returns-clause-usable
returns-clause-usable c = λ number small. at (number % 4) (size_of number) (bit_of number) number (omega arith) (omega (arith, small)) (mod-lt number (omega arith)) where
  at : (r n b x : ℕ) → 8 ≤ n → n ≤ 107 → b < 64 → IsUsable (kernel_at r n b) x
  at zero n b x large small bit =
      usable _ x c.fits_as_frame.ensures c.written_is_read.ensures c.flips_fit_units.ensures c.flip_is_read_back.ensures c.worked_sources.ensures.accepted shift_short (shift_facts n b x large small bit)
  at (suc zero) n b x large small bit =
      usable _ x c.fits_as_frame.ensures c.written_is_read.ensures c.flips_fit_units.ensures c.flip_is_read_back.ensures c.worked_sources.ensures.accepted_product product_short (product_facts n b x large small bit)
  at (suc (suc zero)) n b x large small bit =
      usable _ x c.fits_as_frame.ensures c.written_is_read.ensures c.flips_fit_units.ensures c.flip_is_read_back.ensures c.worked_limits.ensures.jacobi jacobi_short (jacobi_facts n b x large small bit)
  at (suc (suc (suc r))) n b x large small bit =
      usable _ x c.fits_as_frame.ensures c.written_is_read.ensures c.flips_fit_units.ensures c.flip_is_read_back.ensures c.worked_sources.ensures.accepted_gather gather_short (gather_facts n x large small)
