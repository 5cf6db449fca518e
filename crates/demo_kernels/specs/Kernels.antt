-- The four kernels, and for each number up to 399 its kernel, its inputs and its flip.
use Rattle.std.specs.Prelude.{ℕ, zero, suc, ◌+◌, ◌*◌, ◌/◌, ◌%◌, Bool, false, true, List, [], ◌∷◌, map, ℤ, pos, Some, None, codes}
use Rattle.acceptance.specs.WorkedSources.{shift, product_of, jacobi, gather}
use Rattle.c_tree.specs.Inputs.{PlainInputs}
use Rattle.c_tree.specs.Plain.{Word, PlainUnit}
use Rattle.c_tree.specs.declared.frame.ArrayInfo.{ArrayInfo}
use Rattle.c_tree.specs.declared.frame.Frame.{Frame}
use Rattle.c_tree.specs.declared.run.Flip.{Flip}
use Rattle.data_file.specs.Frames.{carried}
use Rattle.data_file.specs.Samples.{name_of, variable, line_frame}
use Rattle.data_file.specs.Texts.{data_text}
use Rattle.fault_plan.specs.Texts.{flip_text}
use Rattle.demo_kernels.specs.Generator.{Row, rows_from}

-- ---- the frames of the kernels

-- an array whose extents are the parameters of these numbers, from 1
abbrev pub array_info : Word → Bool → List ℕ → ArrayInfo
array_info x constant extents = record { name = name_of x; constant = constant; extents = map variable extents }

abbrev pub product_frame : Frame
product_frame = record {
  ints = (name_of (codes "n"), pos 1, pos 500) ∷ [];
  arrays = array_info (codes "A") true (1 ∷ 1 ∷ []) ∷ array_info (codes "B") true (1 ∷ 1 ∷ []) ∷ array_info (codes "C") false (1 ∷ 1 ∷ []) ∷ [];
}

abbrev pub jacobi_frame : Frame
jacobi_frame = record {
  ints = (name_of (codes "t"), pos 0, pos 1000) ∷ (name_of (codes "n"), pos 2, pos 1000) ∷ [];
  arrays = array_info (codes "A") false (2 ∷ []) ∷ array_info (codes "B") false (2 ∷ []) ∷ [];
}

abbrev pub gather_frame : Frame
gather_frame = record {
  ints = (name_of (codes "n"), pos 1, pos 1000) ∷ (name_of (codes "m"), pos 1, pos 1000) ∷ [];
  arrays = array_info (codes "P") true (1 ∷ []) ∷ array_info (codes "X") true (2 ∷ []) ∷ array_info (codes "Y") false (1 ∷ []) ∷ [];
}

-- ---- the kernels

-- a kernel of some size: its unit with its frame, the values of its parameters, its rows of cells, and the array and the rest of its flip
pub record Kernel : Type 0 where
  pub unit : PlainUnit
  pub frame : Frame
  pub ints : List ℤ
  pub rows : List Row
  pub flipped : Word
  pub flip : Flip

-- so many cells, any words
abbrev pub words : ℕ → Row
words count = record { count = count; limit = None }

-- bit b of A[1] before access 2
abbrev pub shift_kernel : ℕ → ℕ → Kernel
shift_kernel n b = record {
  unit = shift;
  frame = line_frame;
  ints = pos n ∷ [];
  rows = words n ∷ [];
  flipped = codes "A";
  flip = record { array = 0; cell = 1; bit = b; place = 2 };
}

-- bit b of the first cell of B before access 2
abbrev pub product_kernel : ℕ → ℕ → Kernel
product_kernel n b = record {
  unit = product_of (codes "n");
  frame = product_frame;
  ints = pos n ∷ [];
  rows = words (n * n) ∷ words (n * n) ∷ words (n * n) ∷ [];
  flipped = codes "B";
  flip = record { array = 1; cell = 0; bit = b; place = 2 };
}

-- as many turns as cells; bit b of A[2] before access 1
abbrev pub jacobi_kernel : ℕ → ℕ → Kernel
jacobi_kernel n b = record {
  unit = jacobi;
  frame = jacobi_frame;
  ints = pos n ∷ pos n ∷ [];
  rows = words n ∷ words n ∷ [];
  flipped = codes "A";
  flip = record { array = 0; cell = 2; bit = b; place = 1 };
}

-- as many cells of X as of P, whose cells lie below; the highest bit of P[0] before access 0
abbrev pub gather_kernel : ℕ → Kernel
gather_kernel n = record {
  unit = gather;
  frame = gather_frame;
  ints = pos n ∷ pos n ∷ [];
  rows = record { count = n; limit = Some n } ∷ words n ∷ words n ∷ [];
  flipped = codes "P";
  flip = record { array = 0; cell = 0; bit = 63; place = 0 };
}

-- ---- by number

abbrev pub size_of : ℕ → ℕ
size_of number = 8 + number / 4

abbrev pub bit_of : ℕ → ℕ
bit_of number = number % 64

-- the first kernel for 0, the second for 1, the third for 2, and else the last
abbrev pub kernel_at : ℕ → ℕ → ℕ → Kernel
kernel_at zero n b = shift_kernel n b
kernel_at (suc zero) n b = product_kernel n b
kernel_at (suc (suc zero)) n b = jacobi_kernel n b
kernel_at (suc (suc (suc k))) n b = gather_kernel n

-- the kernel of a number
abbrev pub kernel_of : ℕ → Kernel
kernel_of number = kernel_at (number % 4) (size_of number) (bit_of number)

-- the inputs of a kernel, drawn from a number on
abbrev pub kernel_inputs : Kernel → ℕ → PlainInputs
kernel_inputs k x = record { ints = k.ints; cells = rows_from k.rows x }

abbrev pub kernel_data : Kernel → ℕ → List ℕ
kernel_data k x = data_text k.frame (carried (kernel_inputs k x))

abbrev pub kernel_flip : Kernel → List ℕ
kernel_flip k = flip_text k.flipped k.flip

abbrev pub inputs_of : ℕ → PlainInputs
inputs_of number = kernel_inputs (kernel_of number) number
