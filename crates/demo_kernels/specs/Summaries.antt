-- The summary of a demonstration.
use Rattle.std.specs.Prelude.{ℕ, List, [], ◌++◌, codes, decimal}
use Rattle.c_tree.specs.declared.frame.ArrayInfo.{ArrayInfo}
use Rattle.c_tree.specs.declared.run.Verdict.{Verdict}
use Rattle.data_file.specs.Texts.{verdict_words}
use Rattle.demo_kernels.specs.Kernels.{kernel_flip, kernel_of, size_of}

-- the number, the function's name and the size, and how many accesses and turns the source made
abbrev pub head_text : ℕ → ℕ → ℕ → List ℕ
head_text number accesses turns =
    codes "demo " ++ (decimal number ++ (codes " " ++ ((kernel_of number).unit.name ++ (codes " n " ++ (decimal (size_of number)
    ++ (codes "\naccesses " ++ (decimal accesses ++ (codes " turns " ++ (decimal turns ++ codes "\n")))))))))

abbrev pub verdict_text : List ArrayInfo → Verdict → List ℕ
verdict_text arrays verdict = verdict_words arrays verdict ++ codes "\n"

-- the head, the verdict without the flip, the flip's line, and the verdict with it
abbrev pub summary_text : ℕ → ℕ → ℕ → List ArrayInfo → Verdict → Verdict → List ℕ
summary_text number accesses turns arrays without flipped =
    head_text number accesses turns ++ (verdict_text arrays without ++ (kernel_flip (kernel_of number) ++ (verdict_text arrays flipped ++ [])))
