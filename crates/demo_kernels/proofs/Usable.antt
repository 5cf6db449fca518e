-- A kernel of which these facts hold is usable, by the laws of texts and frames.
use Rattle.std.proofs.Common.{◌≡◌, ◌≤◌, ℕ, length, codes, None, Ok, arith, subst}
use Rattle.std.specs.Fmt.{digits}
use Rattle.acceptance.specs.WorkedSources.{shift, product_of, jacobi, gather}
use Rattle.acceptance.specs.Sources.{refusal}
use Rattle.c_tree.specs.Layout.{layout}
use Rattle.data_file.specs.Frames.{FitsAsFrame, carried}
use Rattle.data_file.specs.Laws.{IsReadBack}
use Rattle.fault_plan.specs.Answers.{MeansFitting}
use Rattle.fault_plan.specs.Laws.{IsReadBack as IsFlipReadBack}
use Rattle.fault_plan.specs.Texts.{flip_text}
use Rattle.fault_plan.specs.Units.{FlipsFitUnits}
use Rattle.demo_kernels.specs.Demos.{IsUsable}
use Rattle.demo_kernels.specs.Kernels.{Kernel, kernel_inputs}
use Rattle.demo_kernels.proofs.Facts.{Facts}

pub usable : (k : Kernel) (x : ℕ) → FitsAsFrame → IsReadBack → FlipsFitUnits → IsFlipReadBack → refusal k.unit ≡ None → length (layout k.unit) ≤ 262144 → Facts k x → IsUsable k x
usable k x fits_as_frame read_back fits_units flip_back accepted short h =
    let i = kernel_inputs k x in
    let by_frame = (fits_as_frame k.unit k.frame i h.frame).0 h.fit in
    let flip_by_frame = (fits_units k.unit k.frame i k.flip h.frame h.fit).1 h.fits in record {
      accepted = record { tree = h.tree; refused_nowhere = accepted };
      short = short;
      frame = h.frame;
      sound = record { fit = h.fit; clean = h.stays.clean; few = h.stays.few };
      fits = h.fits;
      inputs_read = (read_back k.frame (carried i) (Ok (carried i)) h.names h.lines h.written by_frame.fits).0;
      flip_read = subst (λ name. MeansFitting k.frame (carried i) (flip_text name k.flip) k.flip) h.named
          (flip_back k.frame (carried i) k.flip h.array (Ok k.flip) h.names by_frame.fits flip_by_frame h.place h.declared h.piece).0;
    }

-- ---- the texts of the sources are short

pub shift_short : length (layout shift) ≤ 262144
unfolding digits
shift_short = omega arith

pub product_short : length (layout (product_of (codes "n"))) ≤ 262144
unfolding digits
product_short = omega arith

pub jacobi_short : length (layout jacobi) ≤ 262144
unfolding digits
jacobi_short = omega arith

pub gather_short : length (layout gather) ≤ 262144
unfolding digits
gather_short = omega arith
