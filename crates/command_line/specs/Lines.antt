-- The lines on the error stream.
use Rattle.std.specs.Prelude.{ℕ, List, [], ◌++◌, Option, Some, None, codes, decimal}
use Rattle.command_line.specs.FlipRefusals.{flip_refusal_text}
use Rattle.command_line.specs.Orders.{Order, print, run_file, attempt, report, demo}
use Rattle.command_line.specs.Refusals.{refusal_text}
use Rattle.command_line.specs.declared.outcome.FileWord.{FileWord}
use Rattle.command_line.specs.declared.outcome.FileWord.TheVariants as word
use Rattle.command_line.specs.declared.outcome.Stop.{Stop}
use Rattle.command_line.specs.declared.outcome.Stop.TheVariants as stop

abbrev pub usage_line : List ℕ
usage_line = codes "balance: usage: print [--split] SOURCE | run FILE DATA [FLIP] | try SOURCE DATA [FLIP] | report SOURCE | demo NUMBER\n"

abbrev pub write_line : List ℕ
write_line = codes "balance: cannot write\n"

abbrev pub memory_line : List ℕ
memory_line = codes "balance: no memory\n"

-- the first where there is no flip
abbrev pub flip_name : Option (List ℕ) → List ℕ → List ℕ
flip_name None first = first
flip_name (Some flip) first = flip

-- the second for data, the flip's for a flip, and else the first
abbrev pub by_word : FileWord → List ℕ → List ℕ → Option (List ℕ) → List ℕ
by_word word.Source first second flip = first
by_word word.File first second flip = first
by_word word.Data first second flip = second
by_word word.Flip first second flip = flip_name flip first

-- the name of a file of an order, and how many bytes it may have
abbrev pub name_of : Order → FileWord → List ℕ
name_of (print source) word = source
name_of (run_file file input flip) word = by_word word file input flip
name_of (attempt source input flip) word = by_word word source input flip
name_of (report source) word = source
name_of (demo number) word = []

abbrev pub limit_of : FileWord → ℕ
limit_of word.Source = 262144
limit_of word.File = 16777216
limit_of word.Data = 67108864
limit_of word.Flip = 65536

abbrev pub fault_line : List ℕ → List ℕ
fault_line name = codes "balance: cannot read " ++ (name ++ codes "\n")

abbrev pub too_long_line : List ℕ → ℕ → List ℕ
too_long_line name limit = codes "balance: " ++ (name ++ (codes " is longer than " ++ (decimal limit ++ codes " bytes\n")))

abbrev pub refused_line : List ℕ → List ℕ → List ℕ
refused_line name why = codes "balance: " ++ (name ++ (codes ": " ++ (why ++ codes "\n")))

-- the line of a cause
abbrev pub line_of : Order → Stop → List ℕ
line_of order (stop.ReadFault word) = fault_line (name_of order word)
line_of order (stop.TooLong word) = too_long_line (name_of order word) (limit_of word)
line_of order (stop.SourceRefused refusal) = refused_line (name_of order word.Source) (refusal_text refusal)
line_of order (stop.DataRefused why) = refused_line (name_of order word.Data) why
line_of order (stop.FlipRefused refusal) = refused_line (name_of order word.Flip) (flip_refusal_text refusal)
line_of order stop.NoMemory = memory_line
