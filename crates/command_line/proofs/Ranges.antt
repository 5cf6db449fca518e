-- The number of a demonstration that words order is in range.
use Rattle.std.proofs.Common.{◌≡◌, ◌≤◌, ℕ, Bool, true, false, ◌&&◌, cond, List, [], ◌∷◌, length, nat_le, Option, Some, None, Result, Ok, Err, MatchResult, IfOk, codes, refl, subst, arith}
use Rattle.std.specs.List.{list_all}
use Rattle.std.specs.Str.{bytes_eq}
use Rattle.std.specs.Str.Parse.{digits_value}
use Rattle.text_pieces.specs.Numbers.{is_numeral}
use Rattle.command_line.proofs.Both.{rest_of_both}
use Rattle.command_line.specs.Commands.{IsInRange, Orders, OrdersNone}
use Rattle.command_line.specs.Orders.{Order, print, run_file, attempt, report, demo, is_name, is_number, number_of, demo_order, text_order, run_order, mode_order, order_of}
use Rattle.command_line.specs.declared.words.Command.{Command}
use Rattle.command_line.specs.declared.words.Command.TheVariants.{Print, Run, Attempt, Report, Demo}
use Rattle.command_line.specs.declared.words.WordsError.{WordsError}

-- the number of an order, where there is one, is in range
abbrev HasRange : Option Order → Type 0
HasRange None = Unit {0}
HasRange (Some (print source)) = Unit {0}
HasRange (Some (run_file file input flip)) = Unit {0}
HasRange (Some (attempt source input flip)) = Unit {0}
HasRange (Some (report source)) = Unit {0}
HasRange (Some (demo number)) = number ≤ 399

either : (b : Bool) (x y : Option Order) → HasRange x → HasRange y → HasRange (cond b x y)
either true x y h k = h
either false x y h k = k

at_most : (n m : ℕ) → nat_le n m ≡ true → n ≤ m
at_most n m h = grind arith

small : (name : List ℕ) → is_number name ≡ true → digits_value 10 name ≤ 399
small name h =
    let size = nat_le (length name) 5 in
    let value = nat_le (digits_value 10 name) 399 in
    at_most (digits_value 10 name) 399 (rest_of_both size value (rest_of_both (is_numeral 10 name) (size && value) h))

by_test : (b : Bool) (n : ℕ) → (b ≡ true → n ≤ 399) → HasRange (demo_order (cond b (Some n) None))
by_test true n h = h refl
by_test false n h = tt

demo_range : (name : List ℕ) → HasRange (demo_order (number_of name))
demo_range name = by_test (is_number name) (digits_value 10 name) (small name)

text_range : (mode name : List ℕ) → HasRange (text_order mode name)
text_range mode name =
    let number = demo_order (number_of name) in
    let demos = cond (bytes_eq mode (codes "demo")) number None in
    let reports = cond (bytes_eq mode (codes "report")) (Some (report name)) demos in
    either (bytes_eq mode (codes "print")) (Some (print name)) reports tt
    (either (bytes_eq mode (codes "report")) (Some (report name)) demos tt (either (bytes_eq mode (codes "demo")) number None (demo_range name) tt))

run_range : (mode file input : List ℕ) (flip : Option (List ℕ)) → HasRange (run_order mode file input flip)
run_range mode file input flip =
    let attempts = cond (bytes_eq mode (codes "try")) (Some (attempt file input flip)) None in
    either (bytes_eq mode (codes "run")) (Some (run_file file input flip)) attempts tt (either (bytes_eq mode (codes "try")) (Some (attempt file input flip)) None tt tt)

mode_range : (mode : List ℕ) (names : List (List ℕ)) → HasRange (mode_order mode names)
mode_range mode [] = tt
mode_range mode (name ∷ []) = text_range mode name
mode_range mode (file ∷ input ∷ []) = run_range mode file input None
mode_range mode (file ∷ input ∷ flip ∷ []) = run_range mode file input (Some flip)
mode_range mode (file ∷ input ∷ flip ∷ more ∷ rest) = tt

range : (words : List (List ℕ)) → HasRange (order_of words)
range [] = tt
range (mode ∷ names) = either (list_all is_name names) (mode_order mode names) None (mode_range mode names) tt

pub in_range : (words : List (List ℕ)) (command : Command) → Orders words command → IsInRange command
in_range words (Print source) h = tt
in_range words (Run file input flip) h = tt
in_range words (Attempt source input flip) h = tt
in_range words (Report source) h = tt
in_range words (Demo number) h = subst HasRange h (range words)

pub ordered_in_range : (words : List (List ℕ)) (result : Result Command WordsError) → MatchResult result (Orders words) (OrdersNone words) → IfOk result IsInRange
ordered_in_range words (Ok command) h = in_range words command h
ordered_in_range words (Err why) h = tt
