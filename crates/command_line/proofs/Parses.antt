-- What clap's answer says of the words of a mode.
use Rattle.std.proofs.Common.{◌≡◌, ◌∙◌, ℕ, true, List, [], Option, Some, codes, ap, sym}
use Rattle.clap.specs.Words.{App, fault_of, first_of, first_value, found_of, is_simple_and_free, matches_of, takes}
use Rattle.clap.specs.declared.parser.matches.ArgMatches.{ArgMatches}
use Rattle.command_line.specs.Forms.{IsMode, IsNotOne, IsNotRun, IsOne, IsRead, IsRun, name_form, run_form}
use Rattle.command_line.proofs.Takes.{free_name, free_run}
use Rattle.command_line.proofs.Counts.{name_refused, name_taken, run_refused, run_taken}

-- where clap takes the words of this app, it reads them
abbrev pub Reads : App → List (List ℕ) → ArgMatches → Type 0
Reads app words matches = is_simple_and_free app ≡ true → IsRead app words matches

no_fault_in : (app form : App) (words : List (List ℕ)) → app ≡ form → fault_of app words ≡ [] → fault_of form words ≡ []
no_fault_in app form words is none = ap (λ a. fault_of a words) (sym is) ∙ none

value_in : (app form : App) (words : List (List ℕ)) (matches : ArgMatches) (id : List ℕ) → app ≡ form → IsRead app words matches
    → first_value (found_of matches) id ≡ first_of id (matches_of form words)
value_in app form words matches id is read = read.values id ∙ ap (λ a. first_of id (matches_of a words)) is

-- ---- one name

pub record ReadsName (words : List (List ℕ)) (matches : ArgMatches) : Type 0 where
  pub name : List ℕ
  pub one : IsOne words name
  pub value : first_value (found_of matches) (codes "name") ≡ Some name

pub name_read_of : (mode : List ℕ) (words : List (List ℕ)) (app : App) (matches : ArgMatches) → IsMode words mode → app ≡ name_form mode
    → Reads app words matches → ReadsName words matches
name_read_of mode words app matches h is reads =
    let read = reads (ap is_simple_and_free is ∙ free_name mode) in
    let taken = name_taken mode words h (no_fault_in app (name_form mode) words is read.free) in
    record { name = taken.name; one = taken.one; value = value_in app (name_form mode) words matches (codes "name") is read ∙ taken.read }

pub name_refused_of : (mode : List ℕ) (words : List (List ℕ)) (app : App) → IsMode words mode → app ≡ name_form mode
    → (takes app words ≡ true → ⊥) → IsNotOne words
name_refused_of mode words app h is refused = name_refused mode words h (λ taken. refused (ap (λ a. takes a words) is ∙ taken))

-- ---- two names and maybe a third

pub record ReadsRun (words : List (List ℕ)) (matches : ArgMatches) : Type 0 where
  pub file : List ℕ
  pub input : List ℕ
  pub flip : Option (List ℕ)
  pub run : IsRun words file input flip
  pub file_value : first_value (found_of matches) (codes "file") ≡ Some file
  pub input_value : first_value (found_of matches) (codes "data") ≡ Some input
  pub flip_value : first_value (found_of matches) (codes "flip") ≡ flip

pub run_read_of : (mode : List ℕ) (words : List (List ℕ)) (app : App) (matches : ArgMatches) → IsMode words mode → app ≡ run_form mode
    → Reads app words matches → ReadsRun words matches
run_read_of mode words app matches h is reads =
    let read = reads (ap is_simple_and_free is ∙ free_run mode) in
    let taken = run_taken mode words h (no_fault_in app (run_form mode) words is read.free) in
    record {
      file = taken.file;
      input = taken.input;
      flip = taken.flip;
      run = taken.run;
      file_value = value_in app (run_form mode) words matches (codes "file") is read ∙ taken.file_read;
      input_value = value_in app (run_form mode) words matches (codes "data") is read ∙ taken.data_read;
      flip_value = value_in app (run_form mode) words matches (codes "flip") is read ∙ taken.flip_read;
    }

pub run_refused_of : (mode : List ℕ) (words : List (List ℕ)) (app : App) → IsMode words mode → app ≡ run_form mode
    → (takes app words ≡ true → ⊥) → IsNotRun words
run_refused_of mode words app h is refused = run_refused mode words h (λ taken. refused (ap (λ a. takes a words) is ∙ taken))
