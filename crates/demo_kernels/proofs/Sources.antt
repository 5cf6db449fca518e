-- The text of the source of each kernel, by what is left of the number modulo 4.
use Rattle.std.proofs.Common.{◌≡◌, ◌%◌, ℕ, List, sym, ap, ◌∙◌}
use Rattle.c_tree.specs.Layout.{layout}
use Rattle.demo_kernels.specs.Kernels.{bit_of, kernel_at, kernel_of, size_of}

pub chosen : (r number : ℕ) (text : List ℕ) → number % 4 ≡ r → text ≡ layout (kernel_at r (size_of number) (bit_of number)).unit → text ≡ layout (kernel_of number).unit
chosen r number text rest h = h ∙ ap (λ k. layout (kernel_at k (size_of number) (bit_of number)).unit) (sym rest)
