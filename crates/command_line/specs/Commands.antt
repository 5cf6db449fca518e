-- What a command of the code orders.
use Rattle.std.specs.Prelude.{◌≡◌, ◌≤◌, ℕ, List, Option, Some, None, option_map}
use Rattle.std.specs.Borrow.{Bor}
use Rattle.command_line.specs.Orders.{Order, print, run_file, attempt, report, demo, order_of}
use Rattle.command_line.specs.declared.words.Command.{Command}
use Rattle.command_line.specs.declared.words.WordsError.{WordsError}
use Rattle.command_line.specs.declared.words.WordsError.TheVariants.{Usage}
use Rattle.command_line.specs.declared.words.Command.TheVariants.{Print, Run, Attempt, Report, Demo}

-- the bytes of a word that may be left out
abbrev pub given : Option (Bor (List ℕ)) → Option (List ℕ)
given = option_map (λ word. word.now)

abbrev pub ordered : Command → Order
ordered (Print source) = print source.now
ordered (Run file input flip) = run_file file.now input.now (given flip)
ordered (Attempt source input flip) = attempt source.now input.now (given flip)
ordered (Report source) = report source.now
ordered (Demo number) = demo number

-- what the words order is this command
abbrev pub Orders : List (List ℕ) → Command → Type 0
Orders words command = order_of words ≡ Some (ordered command)

-- words that are refused for what they are order nothing
abbrev pub OrdersNone : List (List ℕ) → WordsError → Type 0
OrdersNone words why = why ≡ Usage → order_of words ≡ None

-- the number of a demonstration is in range
abbrev pub IsInRange : Command → Type 0
IsInRange (Print source) = Unit {0}
IsInRange (Run file input flip) = Unit {0}
IsInRange (Attempt source input flip) = Unit {0}
IsInRange (Report source) = Unit {0}
IsInRange (Demo number) = number ≤ 399
