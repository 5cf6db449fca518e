-- The words that each mode takes, as commands of clap, and what is read of them.
use Rattle.std.specs.Prelude.{◌≡◌, ℕ, true, List, [], ◌∷◌, codes, Option}
use Rattle.std.specs.List.{list_all}
use Rattle.clap.specs.Words.{App, Rule, new_app, new_rule, with_rule, fault_of, first_of, first_value, found_of, matches_of}
use Rattle.clap.specs.declared.parser.matches.ArgMatches.{ArgMatches}
use Rattle.command_line.specs.Orders.{flip_files, is_name}

-- a word that can't be left out
abbrev pub needed : List ℕ → Rule
needed id = record (new_rule id) { required = true }

-- a mode with one name
abbrev pub name_form : List ℕ → App
name_form mode = with_rule (new_app mode) (needed (codes "name"))

-- a mode with a text, its data and maybe a flip
abbrev pub run_form : List ℕ → App
run_form mode = with_rule (with_rule (with_rule (new_app mode) (needed (codes "file"))) (needed (codes "data"))) (new_rule (codes "flip"))

-- this mode, and then names alone
pub record IsMode (words : List (List ℕ)) (mode : List ℕ) : Type 0 where
  pub names : List (List ℕ)
  pub parts : words ≡ mode ∷ names
  pub are_names : list_all is_name names ≡ true

-- a mode and this name
abbrev pub IsOne : List (List ℕ) → List ℕ → Type 0
IsOne words name = (mode : List ℕ) × (words ≡ mode ∷ name ∷ [])

-- a mode, these two names and maybe this flip
abbrev pub IsRun : List (List ℕ) → List ℕ → List ℕ → Option (List ℕ) → Type 0
IsRun words file input flip = (mode : List ℕ) × (words ≡ mode ∷ file ∷ input ∷ flip_files flip)

-- The words are no mode with one name.
abbrev pub IsNotOne : List (List ℕ) → Type 0
IsNotOne words = (name : List ℕ) → IsOne words name → ⊥

abbrev pub IsNotRun : List (List ℕ) → Type 0
IsNotRun words = (file input : List ℕ) (flip : Option (List ℕ)) → IsRun words file input flip → ⊥

-- the matches are those of the command on these words, in which there is no fault
pub record IsRead (form : App) (words : List (List ℕ)) (matches : ArgMatches) : Type 0 where
  pub free : fault_of form words ≡ []
  pub values : (id : List ℕ) → first_value (found_of matches) id ≡ first_of id (matches_of form words)
